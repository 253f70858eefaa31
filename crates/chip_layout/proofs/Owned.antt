-- things by their owners
use Rattle.std.proofs.Common.{◌≡◌, ◌⊎◌, inl, inr, Option, Some, sym, ap, ◌∙◌, subst}
use Rattle.std.proofs.lemmas.Option.{same_Some}
use Rattle.sai_types.specs.declared.ids.Rid.{Rid}
use Rattle.sai_types.specs.declared.thing.Thing.{Thing}
use Rattle.sai_types.specs.Alike.{IsIn}
use Rattle.sai_types.specs.Objects.{Objects}
use Rattle.chip_layout.specs.Layout.{IsFree, IsLaidOut, with_thing, without}
use Rattle.sai_types.specs.Names.{Overlap, ThingName, name_of}
use Rattle.chip_layout.specs.Owned.{AreOwned, Gains, Holdings, Loses, laid_by}
use Rattle.chip_layout.proofs.Shapes.{laid-same}

abbrev pair : Rid → Thing → Rid × Thing
pair x y = (x, y)

module _ {O : Type 0} (owner_of : ThingName → Option O) (holds : Holdings O) (owned : AreOwned owner_of holds) where
  -- things of one name have one owner
  pub one-owner : (o p : O) (i j : Rid) (t u : Thing) → IsIn (i, t) (holds o) → IsIn (j, u) (holds p) → name_of t ≡ name_of u → o ≡ p
  one-owner o p i j t u h g same = same_Some o p (sym (owned o i t h) ∙ ap owner_of same ∙ owned p j u g)

  -- a thing is free where its owner has none of its name, and it overlaps nothing
  pub free-owned : (o : O) (t : Thing) → owner_of (name_of t) ≡ Some o → ((i : Rid) (u : Thing) → IsIn (i, u) (holds o) → name_of t ≡ name_of u → ⊥) → ((p : O) (i : Rid) (u : Thing) → IsIn (i, u) (holds p) → Overlap t u → ⊥) → IsFree (laid_by holds) t
  free-owned o t is none apart i u (p, h) (inl same) =
      let owners : p ≡ o = same_Some p o (sym (owned p i u h) ∙ ap owner_of (sym same) ∙ is) in
      none i u (subst (λ z. IsIn (i, u) (holds z)) owners h) same
  free-owned o t is none apart i u (p, h) (inr overlap) = apart p i u h overlap

module _ {O : Type 0} (holds later : Holdings O) (objects : Objects) where
  pub laid-gained : (o : O) (i : Rid) (t : Thing) → Gains holds later o i t → IsLaidOut (with_thing (laid_by holds) i t) objects → IsLaidOut (laid_by later) objects
  laid-gained o i t gains laid = laid-same (with_thing (laid_by holds) i t) (laid_by later) objects into back laid
    where
      into : (j : Rid) (u : Thing) → with_thing (laid_by holds) i t j u → laid_by later j u
      into j u (inl (p, h)) = (p, gains.kept p (j, u) h)
      into j u (inr (at, is)) = (o, subst (λ z. IsIn (z, u) (later o)) (sym at) (subst (λ z. IsIn (i, z) (later o)) (sym is) gains.gained))

      back_by : (p : O) (j : Rid) (u : Thing) → IsIn (j, u) (holds p) ⊎ (pair j u ≡ pair i t) → with_thing (laid_by holds) i t j u
      back_by p j u (inl h) = inl (p, h)
      back_by p j u (inr is) = inr (ap (λ (x : Rid × Thing). x.0) is, ap (λ (x : Rid × Thing). x.1) is)

      back : (j : Rid) (u : Thing) → laid_by later j u → with_thing (laid_by holds) i t j u
      back j u (p, h) = back_by p j u (gains.only p (j, u) h)

  pub laid-lost : (k : ThingName) → Loses holds later k → IsLaidOut (without (laid_by holds) k) objects → IsLaidOut (laid_by later) objects
  laid-lost k loses laid =
      laid-same (without (laid_by holds) k) (laid_by later) objects
      (λ j u h. (h.0.0, loses.kept h.0.0 (j, u) h.0.1 h.1))
      (λ j u h. let left = loses.left h.0 (j, u) h.1 in ((h.0, left.0), left.1))
      laid
