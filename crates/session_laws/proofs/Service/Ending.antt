-- after the last call of a plan the new view is tied to the chip, and its things lay the chip out
use Rattle.std.proofs.Common.{◌≡◌, ◌+◌, ◌<◌, ◌≤◌, ◌∷◌, ◌∙◌, inl, inr, ℕ, zero, suc, Bool, true, false, cond, List, [], map, Option, None, Some, option_map, refl, sym, ap, subst, arith}
use Rattle.std.specs.BTreeMap.{is_at}
use Rattle.std.specs.List.{slice_get}
use Rattle.std.specs.List.Sorted.{IsStrictlySortedBy}
use Rattle.std.specs.Map.{keys_of, lookup}
use Rattle.std.proofs.lemmas.Bool.{false≢true}
use Rattle.std.proofs.lemmas.List.{append-nil}
use Rattle.std.proofs.lemmas.Option.{same_Some, slice_get-map}
use Rattle.sai_types.specs.declared.ids.Rid.{Rid}
use Rattle.sai_types.specs.declared.ids.Vid.{Vid}
use Rattle.sai_types.specs.declared.body.Body.{Body}
use Rattle.sai_types.specs.declared.body.Body.TheVariants as body
use Rattle.sai_types.specs.declared.body.Entry.{Entry}
use Rattle.sai_types.specs.declared.body.Entry.TheVariants as entry
use Rattle.sai_types.specs.declared.body.Object.{Object}
use Rattle.sai_types.specs.declared.plan.Mode.{Mode}
use Rattle.sai_types.specs.declared.plan.Mode.TheVariants as mode
use Rattle.sai_types.specs.declared.plan.Plan.{Plan}
use Rattle.sai_types.specs.declared.plan.PlanCall.{PlanCall}
use Rattle.sai_types.specs.declared.thing.Thing.{Thing}
use Rattle.sai_types.specs.After.{after_calls, entry_of, has_id, makes_id}
use Rattle.sai_types.specs.Alike.{IsIn}
use Rattle.sai_types.specs.Made.{IsWhole, made_after_all, same_entry}
use Rattle.sai_types.specs.Names.{name_of}
use Rattle.sai_types.specs.Objects.{Objects, body_at, kind_of}
use Rattle.sai_types.proofs.Exact.{entry-exact}
use Rattle.sai_types.proofs.Found.{same-refl}
use Rattle.sai_types.proofs.Membership.{all-in, in-map, map-in}
use Rattle.chip_names.specs.Naming.{entries_of}
use Rattle.chip_layout.specs.Bodies.{IsBody, is_numbered}
use Rattle.chip_layout.specs.Counted.{AreDistinct}
use Rattle.chip_layout.specs.Layout.{Has, IsLaidOut, Layout, has_number, listed}
use Rattle.chip_layout.specs.Renamed.{body_renamed, call_renamed}
use Rattle.chip_layout.proofs.Bodies.{entry-same, kind-body}
use Rattle.chip_layout.proofs.Entries.{one-entry}
use Rattle.chip_layout.proofs.Shapes.{body-renamed, body-within, renamed}
use Rattle.chip_layout.proofs.Distinct.{one-of}
use Rattle.plan_laws.specs.Applied.{nothing}
use Rattle.plan_laws.specs.Calls.{resolve, viewed}
use Rattle.plan_laws.proofs.Applied.{plan-comes, plan-safe}
use Rattle.plan_laws.proofs.Calling.{plan-called}
use Rattle.plan_laws.proofs.Cold.{half-room, halfway, makes-safe}
use Rattle.plan_laws.proofs.Running.{after-append, new-stand, stands-new}
use Rattle.view_match.specs.Pairs.{pairs_of}
use Rattle.asic_view.specs.declared.object.ViewObject.{ViewObject}
use Rattle.asic_view.specs.View.{ViewObjects, entry_at, object_of, rid_at, rid_in, vid_cmp, with_tie}
use Rattle.asic_view.proofs.Keeping.{found-key}
use Rattle.syncd_core.specs.Begun.{objects_listed, tied_entries, tied_in, tied_objects, tied_pairs}
use Rattle.syncd_core.specs.Run.{made_by, tied_after, view_by}
use Rattle.syncd_core.specs.Synced.{tied_by}
use Rattle.syncd_core.specs.Tied.{rid_or_none, tie_of}
use Rattle.apply_laws.specs.Apply.{IsPlannedFrom, calls_by, plan_calls}
use Rattle.apply_laws.specs.Viewed.{IsEntry, things_in}
use Rattle.apply_laws.proofs.Order.Applying.{applies-cold, cold-all, cold-making, cold_back, cold_front, cold_makes, hitless-calls, hitless_changes, is-cold, is-hitless}
use Rattle.apply_laws.proofs.Order.Changes.{due-of}
use Rattle.apply_laws.proofs.Order.Partners.{in-place, place-in}
use Rattle.apply_laws.proofs.Order.Placed.{object-at, thing-at}
use Rattle.apply_laws.proofs.Order.Shuffled.{in-shuffled}
use Rattle.apply_order.specs.Naming.{names_in}
use Rattle.apply_laws.specs.Ties.{AreTied, HasTie, IsTie, entry_tied}
use Rattle.apply_laws.proofs.Tying.Standing.{own_id}
use Rattle.apply_laws.proofs.Sync.Ended.{hitless_tied, in_view, view-stands}
use Rattle.apply_laws.proofs.Sync.Numbered.{apply-by_ties, last_ties, made-by}
use Rattle.apply_laws.proofs.Sync.Started.{id_of, map_place, pairs-free}
use Rattle.apply_laws.proofs.Sync.Ties.{tied-apart}
use Rattle.apply_laws.proofs.Sync.Worked.{rid_numbers}
use Rattle.apply_laws.proofs.Sync.Standing.{entry-by}
use Rattle.restart_laws.specs.Identified.{renamed_by}
use Rattle.restart_laws.proofs.Resolved.{laid-renamed, renamed_in}
use Rattle.session_laws.specs.Service.Standing.{HaveNumbers}

-- ---- ties change nothing else of a view

abbrev Item : Type 0
Item = Vid × ViewObject

module _ {Y : Type 0} (h : Item → Y) (same : (v : Vid) (b : Body Vid) (o p : Option Rid) → h (v, record { body = b; rid = o }) ≡ h (v, record { body = b; rid = p })) where
  pub tie-alike : (os : ViewObjects) (v : Vid) (r : Rid) → map h (with_tie os v r) ≡ map h os
  tie-alike [] v r = refl
  tie-alike (y ∷ ys) v r = by (is_at (vid_cmp v) y.0) (tie-alike ys v r)
    where
      by : (b : Bool) → map h (with_tie ys v r) ≡ map h ys → map h (cond b (y.0, record { body = y.1.body; rid = Some r }) y ∷ with_tie ys v r) ≡ map h (y ∷ ys)
      by true rest = ap (λ l. h (y.0, record { body = y.1.body; rid = Some r }) ∷ l) rest ∙ ap (λ z. z ∷ map h ys) (same y.0 y.1.body (Some r) y.1.rid)
      by false rest = ap (λ l. h y ∷ l) rest

  entries_alike : (os : ViewObjects) (e : Entry Rid) (f : Entry Vid) → map h (tied_entries os e f) ≡ map h os
  entries_alike os (entry.Oid r) (entry.Oid v) = tie-alike os v r
  entries_alike os (entry.Oid r) (entry.Own vr ip) = refl
  entries_alike os (entry.Oid r) (entry.Neigh w ip) = refl
  entries_alike os (entry.Oid r) (entry.Route vr p) = refl
  entries_alike os (entry.Own vr ip) f = refl
  entries_alike os (entry.Neigh w ip) f = refl
  entries_alike os (entry.Route vr p) f = refl

  objects_alike : (os : ViewObjects) (o : Option (Object Rid)) (n : Option (Object Vid)) → map h (tied_objects os o n) ≡ map h os
  objects_alike os (Some a) (Some b) = entries_alike os a.entry b.entry
  objects_alike os (Some a) None = refl
  objects_alike os None n = refl

  pairs_alike : (old : List (Object Rid)) (new : List (Object Vid)) (ps : List (ℕ × ℕ)) (os : ViewObjects) → map h (tied_pairs os old new ps) ≡ map h os
  pairs_alike old new [] os = refl
  pairs_alike old new (p ∷ ps) os = pairs_alike old new ps (tied_objects os (slice_get old p.0) (slice_get new p.1)) ∙ objects_alike os (slice_get old p.0) (slice_get new p.1)

  in_alike : (m : Mode) (old : List (Object Rid)) (new : List (Object Vid)) (ps : List (ℕ × ℕ)) (os : ViewObjects) → map h (tied_in m os old new ps) ≡ map h os
  in_alike mode.Hitless old new ps os = pairs_alike old new ps os
  in_alike mode.Cold old new ps os = refl

  call_alike : (made : ℕ) (os : ViewObjects) (c : PlanCall) → map h (view_by made os c) ≡ map h os
  call_alike made os c = by (makes_id c.call) c.makes
    where
      by : (b : Bool) (o : Option Vid) → map h (cond b (tied_by os o (record { 0 = made + 1 })) os) ≡ map h os
      by true (Some v) = tie-alike os v (record { 0 = made + 1 })
      by true None = refl
      by false o = refl

  pub after-alike : (made : ℕ) (os : ViewObjects) (cs : List PlanCall) → map h (tied_after made os cs) ≡ map h os
  after-alike made os [] = refl
  after-alike made os (c ∷ cs) = after-alike (made_by made c) (view_by made os c) cs ∙ call_alike made os c

-- ---- what a thing without an identifier is tied to

untied_call : (made : ℕ) (os : ViewObjects) (c : PlanCall) (v : Vid) → (c.makes ≡ Some v → ⊥) → rid_at (view_by made os c) v ≡ rid_at os v
untied_call made os c v apart = by (makes_id c.call) c.makes apart
  where
    by : (b : Bool) (o : Option Vid) → (o ≡ Some v → ⊥) → rid_at (cond b (tied_by os o (record { 0 = made + 1 })) os) v ≡ rid_at os v
    by true (Some w) not = tied-apart os v w (record { 0 = made + 1 }) (λ same. not (ap Some (sym same)))
    by true None not = refl
    by false o not = refl

untied_after : (made : ℕ) (os : ViewObjects) (cs : List PlanCall) (v : Vid) → ((c : PlanCall) → IsIn c cs → c.makes ≡ Some v → ⊥) → rid_at (tied_after made os cs) v ≡ rid_at os v
untied_after made os [] v apart = refl
untied_after made os (c ∷ cs) v apart = untied_after (made_by made c) (view_by made os c) cs v (λ d i. apart d (inr i)) ∙ untied_call made os c v (apart c (inl refl))

-- ---- lists

distinct_places : {X : Type 0} (xs : List X) → ((i j : ℕ) (x : X) → slice_get xs i ≡ Some x → slice_get xs j ≡ Some x → i ≡ j) → AreDistinct xs
distinct_places [] one = tt
distinct_places (x ∷ xs) one = (
  λ h. let k = in-place xs x h in no_zero k.0 (one 0 (suc k.0) x refl k.1),
  distinct_places xs (λ i j y a b. behind i j (one (suc i) (suc j) y a b)),
)
  where
    no_zero : (n : ℕ) → 0 ≡ suc n → ⊥
    no_zero n h = omega (arith, h)

    behind : (i j : ℕ) → suc i ≡ suc j → i ≡ j
    behind i j h = omega (arith, h)

same_place : (xs : List (Vid × Thing)) → AreDistinct (map (λ (x : Vid × Thing). name_of x.1) xs) → (i j : ℕ) (x y : Vid × Thing) → slice_get xs i ≡ Some x → slice_get xs j ≡ Some y → name_of x.1 ≡ name_of y.1 → i ≡ j
same_place [] d i j x y a b same = absurd cc
same_place (z ∷ zs) d zero zero x y a b same = refl
same_place (z ∷ zs) d zero (suc j) x y a b same =
    let is : z ≡ x = cc in
    absurd (d.0 (subst (λ k. IsIn k (map (λ (u : Vid × Thing). name_of u.1) zs)) (sym same ∙ ap (λ (u : Vid × Thing). name_of u.1) (sym is)) (in-map (λ (u : Vid × Thing). name_of u.1) zs y (place-in zs j y b))))
same_place (z ∷ zs) d (suc i) zero x y a b same =
    let is : z ≡ y = cc in
    absurd (d.0 (subst (λ k. IsIn k (map (λ (u : Vid × Thing). name_of u.1) zs)) (same ∙ ap (λ (u : Vid × Thing). name_of u.1) (sym is)) (in-map (λ (u : Vid × Thing). name_of u.1) zs x (place-in zs i x a))))
same_place (z ∷ zs) d (suc i) (suc j) x y a b same = ap suc (same_place zs d.1 i j x y a b same)

-- ---- entries and identifiers

numbered : {I : Type 0} (b : Body I) → is_numbered (kind_of b) ≡ has_id b
numbered (body.Port lanes speed mtu up) = refl
numbered (body.Vlan vlan) = refl
numbered _ = refl

entry_at_id : {I : Type 0} (i : I) (b : Body I) → has_id b ≡ true → entry_at i b ≡ entry.Oid i
entry_at_id i (body.OwnAddress vr ip) h = absurd (false≢true h)
entry_at_id i (body.Neighbor rif ip mac) h = absurd (false≢true h)
entry_at_id i (body.Route vr prefix to) h = absurd (false≢true h)
entry_at_id i (body.Port l s m u) h = refl
entry_at_id i _ h = refl

id_there : (v w : Vid) (b : Body Vid) → entry_at v b ≡ entry.Oid w → has_id b ≡ true
id_there v w (body.OwnAddress vr ip) e = absurd cc
id_there v w (body.Neighbor r ip m) e = absurd cc
id_there v w (body.Route vr p t) e = absurd cc
id_there v w (body.Port l s m u) e = refl
id_there v w _ e = refl

-- an identifier that an object has was made so far
made_so_far : (n : ℕ) (objects : Objects) → IsWhole n objects → (r : Rid) (b : Body Rid) → has_id b ≡ true → body_at objects (entry.Oid r) ≡ Some b → r.0 ≤ n
made_so_far n objects whole r b id found =
    let entered = whole.entered.each (entry.Oid r) b found in
    let own : Rid = record { 0 = entered.0 } in
    let is : r.0 ≡ entered.0 = rid_numbers r own (entry-exact (entry.Oid r) (entry_of entered.0 b) entered.2 ∙ own_id own b id) in
    let most = entered.1 in
    omega (arith, is, most)

rid_some : (o : Option Rid) → 0 < (rid_or_none o).0 → o ≡ Some (rid_or_none o)
rid_some (Some r) some = refl
rid_some None some = absurd (omega (arith, some))

-- ---- the end

module _ {capacities : List ℕ} {made : ℕ} {old : List (Object Rid)} (objects : ViewObjects) {things : List (Vid × Thing)} {plan : Plan} (x : IsPlannedFrom capacities made old (objects_listed objects) things plan) (free : (v : Vid) → rid_at objects v ≡ None) where
  abbrev pub ids : Vid → Rid
  ids = tie_of (last_ties objects x free)

  abbrev pub end_chip : Objects
  end_chip = after_calls made (entries_of old) (calls_by (tie_of (last_ties objects x free)) plan)

  -- ---- the chip is laid out by the things, each with the identifier to which it is tied

  one_in_view : (v w : Vid) (t u : Thing) → IsIn (v, t) things → IsIn (w, u) things → name_of t ≡ name_of u → (v ≡ w) × (t ≡ u)
  one_in_view v w t u h g same =
      let is = one-of (λ (z : Vid × Thing). name_of z.1) things (v, t) (w, u) x.view.once h g same in
      (ap (λ (z : Vid × Thing). z.0) is, ap (λ (z : Vid × Thing). z.1) is)

  thing_there : (u : Thing) → IsIn u (things_in things) → (v : Vid) × IsIn (v, u) things
  thing_there u h = let y = map-in (λ (z : Vid × Thing). z.1) things u h in (y.0.0, subst (λ z. IsIn (y.0.0, z) things) (sym y.2) y.1)

  laid_by : (L : Layout Rid) (S : Objects) → IsLaidOut L S → ((i : Rid) (t : Thing) → L i t → IsIn t (things_in things)) → ((t : Thing) → IsIn t (things_in things) → (i : Rid) × L i t) → ((v : Vid) (u : Thing) → IsIn (v, u) things → has_number u ≡ true → Has L (name_of u) (tie_of (last_ties objects x free) v)) → IsLaidOut (listed (renamed_by (tie_of (last_ties objects x free)) things)) S
  laid_by L S laid only all tied =
      laid-renamed L S laid things one_in_view (tie_of (last_ties objects x free)) (λ v t h. all t (in_view objects x free v t h)) (λ i t h. thing_there t (only i t h))
      (λ v t h number. let has = tied v t h number in let j = all t (in_view objects x free v t h) in subst (λ z. L (tie_of (last_ties objects x free) v) z) (laid.one (tie_of (last_ties objects x free) v) j.0 has.0 t has.1 j.1 has.2).1 has.1)

  hitless_laid : plan.mode ≡ mode.Hitless → IsLaidOut (listed (renamed_by (tie_of (last_ties objects x free)) things)) end_chip
  hitless_laid e =
      let planned = is-hitless x e in
      let c = plan-comes planned (hitless_changes x e) [] (sym (append-nil (hitless_changes x e))) things (tie_of (last_ties objects x free)) (plan_calls plan) (hitless-calls x e (tie_of (last_ties objects x free)) (apply-by_ties objects x free).numbered) in
      let all = new-stand (plan-safe planned) c.end.at in
      laid_by c.end.layout end_chip c.end.at.laid (stands-new (plan-safe planned) c.end.at) all (hitless_tied objects x free e c.end.layout c.resolves all)

  cold_laid : plan.mode ≡ mode.Cold → IsLaidOut (listed (renamed_by (tie_of (last_ties objects x free)) things)) end_chip
  cold_laid e =
      let ids' = tie_of (last_ties objects x free) in
      let planned = is-cold x e in
      let front = map (call_renamed (resolve ids')) (map (λ (c : PlanCall). c.call) (cold_front x e)) in
      let back = map (call_renamed (resolve ids')) (map (λ (c : PlanCall). c.call) (cold_back x e)) in
      let a = applies-cold x e ids' (apply-by_ties objects x free).numbered in
      let c = plan-called nothing (viewed things) ids' (makes-safe planned) (halfway planned front a.removing) capacities (half-room planned front a.removing) (cold_makes x e) [] (sym (append-nil (cold_makes x e))) (map (λ (c : PlanCall). c.call) (cold_back x e)) (cold-making x e ids' (apply-by_ties objects x free).numbered) in
      let all = new-stand (makes-safe planned) c.end.at in
      subst (IsLaidOut (listed (renamed_by ids' things))) (sym (after-append made (entries_of old) front back) ∙ ap (after_calls made (entries_of old)) (sym (cold-all x e ids' (apply-by_ties objects x free).numbered)))
      (laid_by c.end.layout (after_calls (made_after_all made front) (after_calls made (entries_of old) front) back) c.end.at.laid (stands-new (makes-safe planned) c.end.at) all (λ v u i number. let j = all u (in_view objects x free v u i) in c.resolves.new v u i number (λ r h. h.1) j.0 (u, j.1, refl)))

  pub laid-end : IsLaidOut (listed (renamed_by (tie_of (last_ties objects x free)) things)) end_chip
  laid-end = by plan.mode refl
    where
      by : (m : Mode) → plan.mode ≡ m → IsLaidOut (listed (renamed_by (tie_of (last_ties objects x free)) things)) end_chip
      by mode.Hitless e = hitless_laid e
      by mode.Cold e = cold_laid e

  -- ---- the objects of the view by their places

  abbrev V : ViewObjects
  V = last_ties objects x free

  abbrev R : Layout Rid
  R = listed (renamed_by (tie_of (last_ties objects x free)) things)

  objects_same : objects_listed V ≡ objects_listed objects
  objects_same =
      after-alike object_of (λ v b o p. refl) made (tied_in plan.mode objects old (objects_listed objects) (pairs_of old (objects_listed objects))) plan.calls
      ∙ in_alike object_of (λ v b o p. refl) plan.mode old (objects_listed objects) (pairs_of old (objects_listed objects)) objects

  keys_same : keys_of V ≡ keys_of objects
  keys_same =
      after-alike (λ (z : Item). z.0) (λ v b o p. refl) made (tied_in plan.mode objects old (objects_listed objects) (pairs_of old (objects_listed objects))) plan.calls
      ∙ in_alike (λ (z : Item). z.0) (λ v b o p. refl) plan.mode old (objects_listed objects) (pairs_of old (objects_listed objects)) objects

  -- an object of the view, and its thing
  record IsOf (y : Item) (k : ℕ) : Type 0 where
    thing : Vid × Thing
    at : slice_get things k ≡ Some thing
    body : IsBody (Has (viewed things)) thing.1 y.1.body
    entry : IsEntry thing.0 thing.1 (entry_at y.0 y.1.body)

  is_of : (y : Item) (k : ℕ) → slice_get V k ≡ Some y → IsOf y k
  is_of y k at =
      let there : slice_get (objects_listed objects) k ≡ Some (object_of y) = ap (λ l. slice_get l k) (sym objects_same) ∙ slice_get-map object_of V k ∙ ap (option_map object_of) at in
      let o = object-at old x.chip x.view k (object_of y) there in
      record { thing = o.0; at = o.1; body = o.2; entry = o.3 }

  within : (i : Rid) (t : Thing) → renamed (tie_of (last_ties objects x free)) (viewed things) i t → R i t
  within i t h = subst (λ z. IsIn (z, t) (renamed_by (tie_of (last_ties objects x free)) things)) h.2 (renamed_in (tie_of (last_ties objects x free)) things h.0 t h.1)

  body_then : (y : Item) (k : ℕ) (o : IsOf y k) → IsBody (Has R) o.thing.1 (body_renamed (tie_of (last_ties objects x free)) y.1.body)
  body_then y k o = body-within (renamed (tie_of (last_ties objects x free)) (viewed things)) R o.thing.1 (body_renamed (tie_of (last_ties objects x free)) y.1.body) within (body-renamed (tie_of (last_ties objects x free)) (viewed things) o.thing.1 y.1.body o.body)

  own_vid : (y : Item) (k : ℕ) (o : IsOf y k) → has_number o.thing.1 ≡ true → y.0 ≡ o.thing.0
  own_vid y k o number = id_of y.0 o.thing.0 y.1.body (o.entry.some number)

  entry_then : (y : Item) (k : ℕ) (o : IsOf y k) → entry_tied V y ≡ entry_of (tie_of (last_ties objects x free) o.thing.0).0 (body_renamed (tie_of (last_ties objects x free)) y.1.body)
  entry_then y k o =
      let f = tie_of (last_ties objects x free) in
      entry-by f y.0 y.1.body ∙ entry-same (Has R) (f y.0).0 (f o.thing.0).0 o.thing.1 (body_renamed f y.1.body) (body_then y k o) (λ number. ap (λ v. (f v).0) (own_vid y k o number))

  stands_then : (y : Item) (k : ℕ) (o : IsOf y k) → R (tie_of (last_ties objects x free) o.thing.0) o.thing.1
  stands_then y k o = renamed_in (tie_of (last_ties objects x free)) things o.thing.0 o.thing.1 (place-in things k o.thing o.at)

  -- ---- no two have one entry on the chip

  once : AreDistinct (map (entry_tied V) V)
  once = distinct_places (map (entry_tied V) V) by
    where
      item : (k : ℕ) (e : Entry Rid) → slice_get (map (entry_tied V) V) k ≡ Some e → (y : Item) × (slice_get V k ≡ Some y) × (entry_tied V y ≡ e)
      item k e at = found (slice_get V k) refl (sym (slice_get-map (entry_tied V) V k) ∙ at)
        where
          found : (o : Option Item) → slice_get V k ≡ o → option_map (entry_tied V) o ≡ Some e → (y : Item) × (slice_get V k ≡ Some y) × (entry_tied V y ≡ e)
          found None h is = absurd cc
          found (Some y) h is = (y, h, cc)

      by : (i j : ℕ) (e : Entry Rid) → slice_get (map (entry_tied V) V) i ≡ Some e → slice_get (map (entry_tied V) V) j ≡ Some e → i ≡ j
      by i j e a b =
          let f = tie_of (last_ties objects x free) in
          let y = item i e a in
          let z = item j e b in
          let o = is_of y.0 i y.1 in
          let p = is_of z.0 j z.1 in
          let same : entry_of (f o.thing.0).0 (body_renamed f y.0.1.body) ≡ entry_of (f p.thing.0).0 (body_renamed f z.0.1.body) = sym (entry_then y.0 i o) ∙ y.2 ∙ sym z.2 ∙ entry_then z.0 j p in
          same_place things x.view.once i j o.thing p.thing o.at p.at
          (one-entry R end_chip laid-end (f o.thing.0) (f p.thing.0) o.thing.1 p.thing.1 (body_renamed f y.0.1.body) (body_renamed f z.0.1.body) (stands_then y.0 i o) (stands_then z.0 j p) (body_then y.0 i o) (body_then z.0 j p)
          (ap (same_entry (entry_of (f o.thing.0).0 (body_renamed f y.0.1.body))) (sym same) ∙ same-refl (entry_of (f o.thing.0).0 (body_renamed f y.0.1.body))))

  -- ---- what is tied, and what is not

  -- the identifier of no numbered thing is tied to nothing
  none_tied : (v : Vid) → ((u : Thing) → IsIn (v, u) things → has_number u ≡ true → ⊥) → rid_at V v ≡ None
  none_tied v apart =
      let pairs = pairs_of old (objects_listed objects) in
      let names = names_in plan.mode old (objects_listed objects) pairs in
      untied_after made (tied_in plan.mode objects old (objects_listed objects) pairs) plan.calls v
      (λ c i is. let k = made-by old x.chip x.view plan.mode names x.planned.steps (λ t j. due-of old x.chip x.view plan.mode t (in-shuffled _ x.planned.steps x.planned.due t j)) c (subst (IsIn c) x.planned.calls i) v is in apart k.0 k.1 k.2)
      ∙ by plan.mode
    where
      none : (p : ℕ × ℕ) (o : Object Rid) (n : Object Vid) (r : Rid) → IsIn p (pairs_of old (objects_listed objects)) → slice_get old p.0 ≡ Some o → slice_get (objects_listed objects) p.1 ≡ Some n → o.entry ≡ entry.Oid r → n.entry ≡ entry.Oid v → ⊥
      none p o n r i at there is same =
          let y = object-at old x.chip x.view p.1 n there in
          by_number (has_number y.0.1) refl
        where
          by_number : (b : Bool) → has_number (object-at old x.chip x.view p.1 n there).0.1 ≡ b → ⊥
          by_number true number =
              let y = object-at old x.chip x.view p.1 n there in
              let vid : y.0.0 ≡ v = let e = sym (y.3.some number) ∙ same in cc in
              apart y.0.1 (subst (λ z. IsIn (z, y.0.1) things) vid (place-in things p.1 y.0 y.1)) number
          by_number false number =
              let y = object-at old x.chip x.view p.1 n there in
              y.3.none number v same

      by : (m : Mode) → rid_at (tied_in m objects old (objects_listed objects) (pairs_of old (objects_listed objects))) v ≡ None
      by mode.Hitless = pairs-free old objects x.chip x.view v (pairs_of old (objects_listed objects)) objects none (free v)
      by mode.Cold = free v

  module _ (n : ℕ) (whole : IsWhole n end_chip) (numbers : HaveNumbers end_chip) where
    -- a thing with an identifier is tied to one that the chip has made
    pub tied-end : (v : Vid) (u : Thing) → IsIn (v, u) things → has_number u ≡ true → (rid_at V v ≡ Some (tie_of (last_ties objects x free) v)) × (0 < (tie_of (last_ties objects x free) v).0) × ((tie_of (last_ties objects x free) v).0 ≤ n)
    tied-end v u h number =
        let f = tie_of (last_ties objects x free) in
        let on_chip = laid-end.stand (f v) u (renamed_in f things v u h) in
        let id : has_id on_chip.0 ≡ true = sym (numbered on_chip.0) ∙ ap is_numbered (kind-body (Has R) u on_chip.0 on_chip.1) ∙ number in
        let found : body_at end_chip (entry.Oid (f v)) ≡ Some on_chip.0 = ap (body_at end_chip) (sym (own_id (f v) on_chip.0 id)) ∙ on_chip.2 in
        let some = numbers (f v) on_chip.0 found in
        (rid_some (rid_at V v) some, some, made_so_far n end_chip whole (f v) on_chip.0 id found)

    module _ (rising : IsStrictlySortedBy vid_cmp (keys_of objects)) where
      rising_then : IsStrictlySortedBy vid_cmp (keys_of V)
      rising_then = subst (IsStrictlySortedBy vid_cmp) (sym keys_same) rising

      rid_is : (y : Item) → IsIn y V → rid_at V y.0 ≡ y.1.rid
      rid_is y h = ap rid_in (found-key V y rising_then h)

      has_tie : (y : Item) → IsIn y V → HasTie n y
      has_tie y h = by (has_id y.1.body) refl
        where
          k : (k : ℕ) × (slice_get V k ≡ Some y)
          k = in-place V y h

          o : IsOf y k.0
          o = is_of y k.0 k.1

          number : has_number o.thing.1 ≡ has_id y.1.body
          number = ap is_numbered (sym (kind-body (Has (viewed things)) o.thing.1 y.1.body o.body)) ∙ numbered y.1.body

          by : (b : Bool) → has_id y.1.body ≡ b → HasTie n y
          by true id =
              let t = tied-end o.thing.0 o.thing.1 (place-in things k.0 o.thing o.at) (number ∙ id) in
              let rid : y.1.rid ≡ Some (tie_of (last_ties objects x free) o.thing.0) = sym (rid_is y h) ∙ ap (rid_at V) (own_vid y k.0 o (number ∙ id)) ∙ t.0 in
              subst (λ b. IsTie n b y.1.rid) (sym id) (subst (IsTie n true) (sym rid) (t.1, t.2))
          by false id =
              let rid : y.1.rid ≡ None = sym (rid_is y h) ∙ none_tied y.0 other in
              subst (λ b. IsTie n b y.1.rid) (sym id) (subst (IsTie n false) (sym rid) tt)
            where
              -- a numbered thing with its identifier would be the thing of an object that has one
              other : (u : Thing) → IsIn (y.0, u) things → has_number u ≡ true → ⊥
              other u i has =
                  let m = in-place things (y.0, u) i in
                  let w = thing-at old x.chip x.view m.0 (y.0, u) m.1 in
                  let z = map_place object_of V m.0 w.0 (ap (λ l. slice_get l m.0) objects_same ∙ w.1) in
                  let e : entry_at z.0.0 z.0.1.body ≡ entry.Oid y.0 = ap (λ (q : Object Vid). q.entry) z.2 ∙ w.3.some has in
                  let vid : z.0.0 ≡ y.0 = id_of z.0.0 y.0 z.0.1.body e in
                  let same : z.0.1 ≡ y.1 = same_Some z.0.1 y.1 (sym (found-key V z.0 rising_then z.1) ∙ ap (λ v. lookup (is_at (vid_cmp v)) V) vid ∙ found-key V y rising_then h) in
                  false≢true (sym id ∙ ap (λ (q : ViewObject). has_id q.body) (sym same) ∙ id_there z.0.0 y.0 z.0.1.body e)

      pub are-tied : AreTied V n end_chip
      are-tied = record {
        rising = rising_then;
        ties = all-in (HasTie n) V has_tie;
        once = once;
        shown = view-stands objects x free;
      }
