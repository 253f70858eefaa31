-- names picked from changes: which they are, that each is picked once, and how many
use Rattle.std.proofs.Common.{◌≡◌, ℕ, ◌+◌, ◌++◌, List, [], ◌∷◌, length, map, Option, None, Some, refl, sym, ap, ◌∙◌, subst}
use Rattle.std.proofs.lemmas.List.{length-append, map-append}
use Rattle.sai_types.specs.Alike.{IsIn}
use Rattle.sai_types.specs.Named.{those}
use Rattle.sai_types.specs.Names.{ThingName}
use Rattle.sai_types.proofs.Membership.{in-map, map-in}
use Rattle.chip_layout.specs.Counted.{AreDistinct}
use Rattle.chip_layout.proofs.Answering.{in_those, those_in}
use Rattle.plan_laws.specs.Plans.{AreRanked, PlanChange, subject}

pub those_append : {X : Type 0} (xs ys : List (Option X)) → those (xs ++ ys) ≡ those xs ++ those ys
those_append [] ys = refl
those_append (None ∷ xs) ys = those_append xs ys
those_append (Some x ∷ xs) ys = ap (λ l. x ∷ l) (those_append xs ys)

module _ (pick : PlanChange → Option ThingName) where
  abbrev picked : List PlanChange → List ThingName
  picked cs = those (map pick cs)

  pub in-picked : (cs : List PlanChange) (k : ThingName) → IsIn k (picked cs) → (c : PlanChange) × IsIn c cs × (pick c ≡ Some k)
  in-picked cs k i = let c = map-in pick cs (Some k) (those_in k (map pick cs) i) in (c.0, c.1, sym c.2)

  pub picked-in : (cs : List PlanChange) (c : PlanChange) (k : ThingName) → IsIn c cs → pick c ≡ Some k → IsIn k (picked cs)
  picked-in cs c k i e = in_those k (map pick cs) (subst (λ o. IsIn o (map pick cs)) e (in-map pick cs c i))

  pub picked-length : (xs ys : List PlanChange) → length (picked (xs ++ ys)) ≡ length (picked xs) + length (picked ys)
  picked-length xs ys = ap (λ l. length (those l)) (map-append pick xs ys) ∙ ap length (those_append (map pick xs) (map pick ys)) ∙ length-append (picked xs) (picked ys)

  module _ (named : (c : PlanChange) (k : ThingName) → pick c ≡ Some k → subject c ≡ k) (order : PlanChange → ℕ) where
    pub picked-distinct : (cs : List PlanChange) → AreRanked order cs → AreDistinct (picked cs)
    picked-distinct [] up = tt
    picked-distinct (c ∷ cs) up = by (pick c) refl (picked-distinct cs up.1)
      where
        by : (o : Option ThingName) → pick c ≡ o → AreDistinct (picked cs) → AreDistinct (those (o ∷ map pick cs))
        by None e rest = rest
        by (Some k) e rest = (λ i. let d = in-picked cs k i in (up.0 d.0 d.1).1 (named c k e ∙ sym (named d.0 k d.2)), rest)
