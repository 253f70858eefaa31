-- how many calls a plan's changes have
use Rattle.std.proofs.Common.{◌≡◌, ℕ, ◌+◌, ◌*◌, ◌≤◌, ◌==◌, Bool, true, false, cond, ◌++◌, List, [], ◌∷◌, length, map, count_by, Option, None, Some, refl, ap, ◌∙◌, subst, arith}
use Rattle.std.proofs.lemmas.List.{length-append, length-map}
use Rattle.std.proofs.lemmas.List.Sums.{sum_by-append, sum_by-cons}
use Rattle.std.proofs.lemmas.Option.{same_Some}
use Rattle.sai_types.specs.declared.ids.Rid.{Rid}
use Rattle.sai_types.specs.declared.body.Attr.{Attr}
use Rattle.sai_types.specs.declared.body.Attr.TheVariants as attr
use Rattle.sai_types.specs.declared.body.Call.{Call}
use Rattle.sai_types.specs.declared.body.Call.TheVariants as call
use Rattle.sai_types.specs.declared.kind.Kind.{Kind}
use Rattle.sai_types.specs.declared.thing.Thing.{Thing}
use Rattle.sai_types.specs.After.{entry_of}
use Rattle.sai_types.specs.Alike.{IsIn}
use Rattle.sai_types.specs.Made.{made_after_all}
use Rattle.sai_types.specs.Named.{thing_by, those}
use Rattle.sai_types.specs.Names.{ThingName, name_kind, name_of}
use Rattle.sai_types.specs.Objects.{Objects, level}
use Rattle.sai_types.proofs.Membership.{in-map}
use Rattle.chip_layout.specs.Counted.{AreDistinct}
use Rattle.chip_layout.specs.Layout.{Has, Layout, with_changed}
use Rattle.chip_layout.specs.Seen.{tagged}
use Rattle.chip_layout.proofs.Bodies.{kind-body}
use Rattle.chip_layout.proofs.Counting.{no-longer}
use Rattle.plan_laws.specs.Bounds.{makes_kind}
use Rattle.plan_laws.specs.Moments.{MakesChange, MakesChanges, SetsThing, attr_place, layout_after}
use Rattle.plan_laws.specs.Old.{old_things, tag_of}
use Rattle.plan_laws.specs.Plans.{AreRanked, IsViewPlan, Make, PlanChange, Remove, Set, subject}
use Rattle.plan_laws.specs.Views.{made_name, made_names}
use Rattle.plan_laws.proofs.Following.{done-in, ranked-left}
use Rattle.plan_laws.proofs.Picked.{in-picked, picked-distinct, picked-length}

-- ---- all calls

place_most : {I : Type 0} (a : Attr I) → attr_place a ≤ 2
place_most (attr.Mtu mtu) = omega arith
place_most (attr.Up up) = omega arith
place_most (attr.Speed speed) = omega arith
place_most _ = omega arith

sets_at_most_three : (i : Rid) (place : ℕ) (calls : List (Call Rid)) (layout : Layout Rid) (u t : Thing) → place ≤ 3 → SetsThing i place calls layout u t → length calls + place ≤ 3
sets_at_most_three i place [] layout u t small is = omega (arith, small)
sets_at_most_three i place (c ∷ cs) layout u t small is =
    let most = place_most is.1 in
    let rest = sets_at_most_three i (attr_place is.1 + 1) cs (with_changed layout i is.2) is.2 t (omega (arith, most)) is.7 in
    let from = is.6 in
    omega (arith, rest, from)

-- the name that a change brings, and the one that it removes
abbrev brings : PlanChange → Option ThingName
brings (Remove k) = None
brings (Make t) = Some (name_of t)
brings (Set t) = Some (name_of t)

abbrev takes : PlanChange → Option ThingName
takes (Remove k) = Some k
takes _ = None

abbrev brought : List PlanChange → List ThingName
brought cs = those (map brings cs)

abbrev taken : List PlanChange → List ThingName
taken cs = those (map takes cs)

abbrev cost : PlanChange → ℕ
cost (Set t) = 3
cost _ = 1

run_few : (made : ℕ) (layout : Layout Rid) (cs : List PlanChange) (calls : List (Call Rid)) → MakesChanges made layout cs calls → length calls ≤ length (taken cs) + 3 * length (brought cs)
run_few made layout [] calls run = let none : length calls ≡ 0 = ap length run in omega (arith, none)
run_few made layout (c ∷ cs) calls run =
    step c (length calls) (length run.0) (length run.1) (ap length run.2 ∙ length-append run.0 run.1) (few c run.3) (run_few (made_after_all made run.0) (layout_after made layout c) cs run.1 run.4)
  where
    few : (d : PlanChange) → MakesChange layout d run.0 → length run.0 ≤ cost d
    few (Make t) is = let one : length run.0 ≡ 1 = ap length is.2 in omega (arith, one)
    few (Set t) is = let three = sets_at_most_three is.0 0 run.0 layout is.1 t (omega arith) is.4 in omega (arith, three)
    few (Remove k) is = let one : length run.0 ≡ 1 = ap length is.6 in omega (arith, one)

    step : (d : PlanChange) (n x y : ℕ) → n ≡ x + y → x ≤ cost d → y ≤ length (taken cs) + 3 * length (brought cs) → n ≤ length (taken (d ∷ cs)) + 3 * length (brought (d ∷ cs))
    step (Make t) n x y e a b = omega (arith, e, a, b)
    step (Set t) n x y e a b = omega (arith, e, a, b)
    step (Remove k) n x y e a b = omega (arith, e, a, b)

-- ---- over a plan

module _ {order : PlanChange → ℕ} {old new : List Thing} {plan : List PlanChange} (is_plan : IsViewPlan order old new plan) (done due : List PlanChange) (cut : plan ≡ done ++ due) where
  up : AreRanked order done
  up = ranked-left order done due (subst (AreRanked order) cut is_plan.in_order)

  brings_new : (c : PlanChange) (k : ThingName) → brings c ≡ Some k → IsIn c plan → IsIn k (map name_of new)
  brings_new (Make t) k e i = subst (λ z. IsIn z (map name_of new)) (same_Some (name_of t) k e) (in-map name_of new t (is_plan.makes t i).0)
  brings_new (Set t) k e i = subst (λ z. IsIn z (map name_of new)) (same_Some (name_of t) k e) (in-map name_of new t (is_plan.sets t i).0)
  brings_new (Remove m) k e i = absurd cc

  takes_old : (c : PlanChange) (k : ThingName) → takes c ≡ Some k → IsIn c plan → IsIn k (map name_of old)
  takes_old (Remove m) k e i =
      let has = is_plan.removes m i in
      subst (λ z. IsIn z (map name_of old)) (has.2 ∙ same_Some m k e) (in-map name_of old has.0 has.1)
  takes_old (Make t) k e i = absurd cc
  takes_old (Set t) k e i = absurd cc

  brings_subject : (c : PlanChange) (k : ThingName) → brings c ≡ Some k → subject c ≡ k
  brings_subject (Make t) k e = same_Some (name_of t) k e
  brings_subject (Set t) k e = same_Some (name_of t) k e
  brings_subject (Remove m) k e = absurd cc

  takes_subject : (c : PlanChange) (k : ThingName) → takes c ≡ Some k → subject c ≡ k
  takes_subject (Remove m) k e = same_Some m k e
  takes_subject (Make t) k e = absurd cc
  takes_subject (Set t) k e = absurd cc

  -- a plan's first changes have at most a call for each old thing and three for each new one
  pub calls-few : (made : ℕ) (layout : Layout Rid) (calls : List (Call Rid)) → MakesChanges made layout done calls → length calls ≤ length old + 3 * length new
  calls-few made layout calls run =
      let few = run_few made layout done calls run in
      let bring = no-longer (brought done) (map name_of new) (picked-distinct brings brings_subject order done up) (λ k i. let c = in-picked brings done k i in brings_new c.0 k c.2 (done-in is_plan done due cut c.0 c.1)) in
      let take = no-longer (taken done) (map name_of old) (picked-distinct takes takes_subject order done up) (λ k i. let c = in-picked takes done k i in takes_old c.0 k c.2 (done-in is_plan done due cut c.0 c.1)) in
      let olds = length-map old name_of in
      let news = length-map new name_of in
      omega (arith, few, bring, take, olds, news)

  -- the names that a plan brings: each call of it is of one of these, three at most, or removes an old thing
  pub calls-named : (made : ℕ) (layout : Layout Rid) (calls : List (Call Rid)) → MakesChanges made layout done calls → (names : List ThingName) × AreDistinct names × ((k : ThingName) → IsIn k names → IsIn k (map name_of new)) × (length calls ≤ length old + 3 * length names)
  calls-named made layout calls run =
      let few = run_few made layout done calls run in
      let take = no-longer (taken done) (map name_of old) (picked-distinct takes takes_subject order done up) (λ k i. let c = in-picked takes done k i in takes_old c.0 k c.2 (done-in is_plan done due cut c.0 c.1)) in
      let olds = length-map old name_of in
      (brought done, picked-distinct brings brings_subject order done up, (λ k i. let c = in-picked brings done k i in brings_new c.0 k c.2 (done-in is_plan done due cut c.0 c.1)), omega (arith, few, take, olds))

those_few : {X : Type 0} (os : List (Option X)) → length (those os) ≤ length os
those_few [] = omega arith
those_few (None ∷ os) = let rest = those_few os in omega (arith, rest)
those_few (Some x ∷ os) = let rest = those_few os in omega (arith, rest)

-- no more old things are there than objects
pub old-few : (objects : Objects) (new : List Thing) → length (old_things objects new) ≤ length objects
old-few objects new =
    let few = those_few (map (thing_by (tagged (tag_of objects new)) objects) objects) in
    let same = length-map objects (thing_by (tagged (tag_of objects new)) objects) in
    omega (arith, few, same)

-- ---- calls that make an object of a kind

module _ (kind : Kind) where
  abbrev one_of : Call Rid → ℕ
  one_of c = cond (makes_kind kind c) 1 0

  sets_make_none : (i : Rid) (place : ℕ) (calls : List (Call Rid)) (layout : Layout Rid) (u t : Thing) → SetsThing i place calls layout u t → count_by (makes_kind kind) calls ≡ 0
  sets_make_none i place [] layout u t is = refl
  sets_make_none i place (c ∷ cs) layout u t is =
      let rest = sets_make_none i (attr_place is.1 + 1) cs (with_changed layout i is.2) is.2 t is.7 in
      let none : makes_kind kind c ≡ false = ap (makes_kind kind) is.5 in
      let sum = sum_by-cons one_of c cs in
      let zero : one_of c ≡ 0 = ap (λ b. cond b 1 0) none in
      omega (arith, sum, zero, rest)

  one_by : (b : Bool) (k : ThingName) → cond b 1 0 ≡ length (those (cond b (Some k) None ∷ []))
  one_by true k = refl
  one_by false k = refl

  one_call : (c : Call Rid) → count_by (makes_kind kind) (c ∷ []) ≡ one_of c
  one_call c = let sum = sum_by-cons one_of c [] in let none : count_by (makes_kind kind) [] ≡ 0 = refl in omega (arith, sum, none)

  change_makes : (layout : Layout Rid) (c : PlanChange) (calls : List (Call Rid)) → MakesChange layout c calls → count_by (makes_kind kind) calls ≡ length (made_names kind (c ∷ []))
  change_makes layout (Make t) calls is =
      ap (count_by (makes_kind kind)) is.2 ∙ one_call (call.Create is.0)
      ∙ ap (λ k. cond (level k == level kind) 1 0) (kind-body (Has layout) t is.0 is.1)
      ∙ one_by (level (name_kind (name_of t)) == level kind) (name_of t)
  change_makes layout (Set t) calls is = sets_make_none is.0 0 calls layout is.1 t is.4
  change_makes layout (Remove k) calls is = ap (count_by (makes_kind kind)) is.6 ∙ one_call (call.Remove (entry_of is.0.0 is.2))

  -- the calls of changes make as many objects of a kind as they make names of it
  pub run-makes : (made : ℕ) (layout : Layout Rid) (cs : List PlanChange) (calls : List (Call Rid)) → MakesChanges made layout cs calls → count_by (makes_kind kind) calls ≡ length (made_names kind cs)
  run-makes made layout [] calls run = ap (count_by (makes_kind kind)) run
  run-makes made layout (c ∷ cs) calls run =
      let first = change_makes layout c run.0 run.3 in
      let rest = run-makes (made_after_all made run.0) (layout_after made layout c) cs run.1 run.4 in
      let sum = picked-length (made_name kind) (c ∷ []) cs in
      let parts = ap (count_by (makes_kind kind)) run.2 ∙ sum_by-append one_of run.0 run.1 in
      omega (arith, first, rest, sum, parts)
