-- how many objects of a kind the due steps make
use Rattle.std.proofs.Common.{◌≡◌, ℕ, suc, ◌+◌, ◌==◌, ◌++◌, Bool, true, false, cond, List, [], ◌∷◌, length, map, Option, None, Some, refl, sym, ap, ap₂, ◌∙◌, arith, IsPermutation}
use Rattle.std.specs.List.{slice_get}
use Rattle.std.proofs.lemmas.List.{length-append, map-append}
use Rattle.std.proofs.lemmas.List.Sums.{sum_by-cons}
use Rattle.sai_types.specs.declared.ids.Rid.{Rid}
use Rattle.sai_types.specs.declared.ids.Vid.{Vid}
use Rattle.sai_types.specs.declared.body.Object.{Object}
use Rattle.sai_types.specs.declared.kind.Kind.{Kind}
use Rattle.sai_types.specs.declared.plan.Mode.{Mode}
use Rattle.sai_types.specs.declared.thing.Thing.{Thing}
use Rattle.sai_types.specs.Named.{those}
use Rattle.sai_types.specs.Names.{ThingName, name_kind, name_of}
use Rattle.sai_types.specs.Objects.{is_of, kind_of, level, used}
use Rattle.chip_names.specs.Naming.{entries_of}
use Rattle.chip_layout.specs.Layout.{Has}
use Rattle.chip_layout.proofs.Bodies.{kind-body}
use Rattle.plan_laws.specs.Applied.{IsListedChip}
use Rattle.plan_laws.specs.Calls.{viewed}
use Rattle.plan_laws.specs.Views.{made_name, made_names}
use Rattle.plan_laws.proofs.Picked.{those_append}
use Rattle.view_match.specs.Keys.{keys_of_objects}
use Rattle.view_match.specs.Listed.{objects_as}
use Rattle.view_match.specs.Pairs.{new_keys, pairs_of}
use Rattle.view_match.specs.declared.key.NaturalKey.{NaturalKey}
use Rattle.apply_order.specs.Due.{due_steps, new_step, new_steps, old_step, old_steps, paired_in}
use Rattle.apply_order.specs.Places.{Places, by_new, by_old, partner_at}
use Rattle.apply_order.specs.Room.{is_lacking, lacking_from, old_count}
use Rattle.apply_order.specs.declared.ranks.Timed.{Timed}
use Rattle.apply_order.proofs.Lengths.{length-new}
use Rattle.apply_laws.specs.Viewed.{IsViewOf}
use Rattle.apply_laws.proofs.Order.Changes.{change_of, new_thing, thing-is}
use Rattle.apply_laws.proofs.Order.Placed.{object-at}
use Rattle.apply_laws.proofs.Order.Shuffled.{those-shuffled}

-- ---- lists

pub map_map : {X Y Z : Type 0} (g : Y → Z) (f : X → Y) (xs : List X) → map g (map f xs) ≡ map (λ x. g (f x)) xs
map_map g f [] = refl
map_map g f (x ∷ xs) = ap (λ l. g (f x) ∷ l) (map_map g f xs)

abbrev one_in : {X : Type 0} → Option X → ℕ
one_in None = 0
one_in (Some x) = 1

those_more : {X : Type 0} (o : Option X) (os : List (Option X)) → length (those (o ∷ os)) ≡ one_in o + length (those os)
those_more None os = omega arith
those_more (Some x) os = omega arith

-- ---- the old objects of a kind

pub used-count : (kind : Kind) (old : List (Object Rid)) → used (entries_of old) kind ≡ old_count kind old
used-count kind [] = refl
used-count kind (o ∷ os) =
    sum_by-cons (λ x. cond (is_of kind x.1) 1 0) (o.entry, o.body) (entries_of os)
    ∙ ap (λ n. cond (is_of kind o.body) 1 0 + n) (used-count kind os)
    ∙ sym (sum_by-cons (λ (x : Object Rid). cond (is_of kind x.body) 1 0) o os)

-- ---- the steps

module _ (kind : Kind) (things : List (Vid × Thing)) (names : ℕ → ThingName) (m : Mode) (paired : Places) where
  abbrev makes : Timed → Option ThingName
  makes t = made_name kind (change_of (new_thing things) names t.step)

  one_new : (key : Option NaturalKey) (n : Object Vid) (place : ℕ) (p : Option ℕ) → kind_of n.body ≡ name_kind (name_of (new_thing things place)) → one_in (makes (new_step m key n place p)) ≡ cond (is_lacking kind n p) 1 0
  one_new key n place (Some i) same = refl
  one_new key n place None same = by (level (name_kind (name_of (new_thing things place))) == level kind) ∙ ap (λ k. cond (level k == level kind) 1 0) (sym same)
    where
      by : (b : Bool) → one_in (cond b (Some (name_of (new_thing things place))) None) ≡ cond b 1 0
      by true = refl
      by false = refl

  new_count : (keys : List (Option NaturalKey)) (ns : List (Object Vid)) (place : ℕ) → length keys ≡ length ns → ((k : ℕ) (n : Object Vid) → slice_get ns k ≡ Some n → kind_of n.body ≡ name_kind (name_of (new_thing things (place + k)))) → length (those (map makes (new_steps m paired keys ns place))) ≡ lacking_from kind paired ns place
  new_count [] [] place long kinds = refl
  new_count [] (n ∷ ns) place long kinds = absurd cc
  new_count (key ∷ keys) [] place long kinds = absurd cc
  new_count (key ∷ keys) (n ∷ ns) place long kinds =
      let shorter : length keys ≡ length ns = cc in
      let rest = new_count keys ns (place + 1) shorter (λ k o e. kinds (suc k) o e ∙ ap (λ p. name_kind (name_of (new_thing things p))) (next place k)) in
      let here = one_new key n place (partner_at paired place) (kinds 0 n refl ∙ ap (λ p. name_kind (name_of (new_thing things p))) (none place)) in
      those_more (makes (new_step m key n place (partner_at paired place))) (map makes (new_steps m paired keys ns (place + 1))) ∙ ap₂ (λ a b. a + b) here rest
    where
      next : (a b : ℕ) → a + suc b ≡ a + 1 + b
      next a b = omega arith

      none : (a : ℕ) → a + 0 ≡ a
      none a = omega arith

  old_none : (keys : List (Option NaturalKey)) (os : List (Object Rid)) (place : ℕ) → length (those (map makes (old_steps m paired keys os place))) ≡ 0
  old_none [] os place = refl
  old_none (key ∷ keys) [] place = refl
  old_none (key ∷ keys) (o ∷ os) place = by (partner_at paired place) (old_none keys os (place + 1))
    where
      by : (p : Option ℕ) → length (those (map makes (old_steps m paired keys os (place + 1)))) ≡ 0 → length (those (map makes (old_step m key o place p ++ old_steps m paired keys os (place + 1)))) ≡ 0
      by None h = h
      by (Some j) h = h

-- the due steps make as many objects of a kind as new ones have no partner
pub made-count : {made : ℕ} (old : List (Object Rid)) {new : List (Object Vid)} {things : List (Vid × Thing)} (chip : IsListedChip made (entries_of old)) (view : IsViewOf things new) (m : Mode) (names : ℕ → ThingName) (kind : Kind) (steps : List Timed) → IsPermutation (due_steps m old new (pairs_of old new)) steps → length (made_names kind (map (λ t. change_of (new_thing things) names t.step) steps)) ≡ lacking_from kind (by_new (paired_in m (pairs_of old new))) new 0
made-count old {new = new} {things = things} chip view m names kind steps same =
    let ps = paired_in m (pairs_of old new) in
    let f = makes kind things names m (by_new ps) in
    let first = new_steps m (by_new ps) (new_keys new) new 0 in
    let second = old_steps m (by_old ps) (keys_of_objects (entries_of old)) old 0 in
    let news = new_count kind things names m (by_new ps) (new_keys new) new 0 (length-new (new_keys new) (objects_as new) new refl refl) (λ k n e.
    let x = object-at old chip view k n e in
    kind-body (Has (viewed things)) x.0.1 n.body x.2 ∙ ap (λ t. name_kind (name_of t)) (sym (thing-is old chip view m k x.0 x.1)) ∙ ap (λ p. name_kind (name_of (new_thing things p))) (sym (none k))) in
    let olds = old_none kind things names m (by_old ps) (keys_of_objects (entries_of old)) old 0 in
    let sum = length-append (those (map f first)) (those (map f second)) in
    ap (λ l. length (those l)) (map_map (made_name kind) (λ (t : Timed). change_of (new_thing things) names t.step) steps)
    ∙ those-shuffled f (first ++ second) steps same
    ∙ ap (λ l. length (those l)) (map-append f first second)
    ∙ ap length (those_append (map f first) (map f second))
    ∙ sum_of (length (those (map f first))) (length (those (map f second))) (length (those (map f first) ++ those (map f second))) sum olds
    ∙ news
  where
    none : (n : ℕ) → 0 + n ≡ n
    none n = omega arith

    sum_of : (a b c : ℕ) → c ≡ a + b → b ≡ 0 → c ≡ a
    sum_of a b c h z = omega (arith, h, z)
