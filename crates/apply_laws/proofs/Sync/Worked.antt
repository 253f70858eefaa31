-- a VLAN that comes beside one that stays, worked out by computation: nothing cites it, and it shows that the premises can be met
use Rattle.std.proofs.Common.{◌≡◌, inl, inr, ℕ, zero, suc, ◌≤◌, Bool, true, false, cond, List, [], ◌∷◌, None, Some, refl, sym, ap, subst, arith, IsSorted, swap}
use Rattle.sai_types.specs.declared.ids.Rid.{Rid}
use Rattle.sai_types.specs.declared.ids.Vid.{Vid}
use Rattle.sai_types.specs.declared.body.Body.{Body}
use Rattle.sai_types.specs.declared.body.Body.TheVariants as body
use Rattle.sai_types.specs.declared.body.Call.TheVariants as call
use Rattle.sai_types.specs.declared.body.Entry.{Entry}
use Rattle.sai_types.specs.declared.body.Entry.TheVariants as entry
use Rattle.sai_types.specs.declared.body.Object.{Object}
use Rattle.sai_types.specs.declared.kind.Kind.{Kind}
use Rattle.sai_types.specs.declared.kind.Kind.TheVariants as kind
use Rattle.sai_types.specs.declared.plan.Mode.TheVariants as mode
use Rattle.sai_types.specs.declared.plan.Plan.{Plan}
use Rattle.sai_types.specs.declared.thing.PortThing.{PortThing}
use Rattle.sai_types.specs.declared.thing.Thing.TheVariants as thing
use Rattle.sai_types.specs.After.{after_calls}
use Rattle.sai_types.specs.Alike.{IsIn}
use Rattle.std.specs.BTreeMap.{is_at}
use Rattle.std.specs.List.{slice_get}
use Rattle.sai_types.specs.Made.{IsWhole, has_first, same_entry}
use Rattle.sai_types.specs.Refusal.{capacity_of}
use Rattle.chip_layout.specs.Answered.{HasPrefix}
use Rattle.sai_types.specs.Objects.{body_at, used}
use Rattle.sai_types.proofs.Listed.{in-found}
use Rattle.sai_types.proofs.Whole.{whole-after_call, whole-empty}
use Rattle.chip_names.specs.Naming.{entries_of}
use Rattle.plan_laws.specs.Applied.{IsListedChip, chip_things}
use Rattle.view_match.specs.Pairs.{pairs_of}
use Rattle.apply_order.specs.Due.{due_steps}
use Rattle.apply_order.specs.Planned.{IsPlanOf}
use Rattle.apply_order.specs.Naming.{names_from}
use Rattle.apply_order.specs.Ranks.{timed_cmp}
use Rattle.apply_order.specs.Room.{FitTogether, lacking_from}
use Rattle.apply_order.specs.Routers.{KeepRouters, stays_in_router}
use Rattle.apply_order.specs.declared.ranks.Timed.{Timed}
use Rattle.asic_view.specs.View.{ViewObjects, as_chip, rid_at, rid_in, vid_cmp}
use Rattle.syncd_core.specs.Begun.{objects_listed}
use Rattle.apply_laws.specs.Begun.{IsApplyBegun, IsApplyReady, IsReadyView, calls_from}
use Rattle.apply_laws.proofs.Sync.Ready.{made-view, ready-begun}
use Rattle.apply_laws.proofs.Order.Viewing.{laid_things}

abbrev rid : ℕ → Rid
rid n = record { 0 = n }

abbrev vid : ℕ → Vid
vid n = record { 0 = n }

abbrev vlan : ℕ → Body Rid
vlan n = body.Vlan n

abbrev roomy : List ℕ
roomy = 9 ∷ 9 ∷ 9 ∷ 9 ∷ 9 ∷ 9 ∷ 9 ∷ 9 ∷ 9 ∷ 9 ∷ 9 ∷ 9 ∷ []

-- VLAN 10 stands on the chip, and the view has VLAN 20 beside it
abbrev old : List (Object Rid)
old = record { entry = entry.Oid (rid 1); body = body.Vlan 10 } ∷ []

abbrev view : ViewObjects
view = (vid 1, record { body = body.Vlan 10; rid = None }) ∷ (vid 2, record { body = body.Vlan 20; rid = None }) ∷ []

abbrev new : List (Object Vid)
new = objects_listed view

-- ---- what stands was made by legal calls

old_made : entries_of old ≡ after_calls 0 [] (call.Create (vlan 10) ∷ [])
old_made = refl

view_made : as_chip view ≡ after_calls 0 [] (call.Create (vlan 10) ∷ call.Create (vlan 20) ∷ [])
view_made = refl

one_whole : IsWhole 1 (entries_of old)
one_whole = whole-after_call roomy 0 [] (call.Create (vlan 10)) whole-empty refl

two_whole : IsWhole 2 (as_chip view)
two_whole = whole-after_call roomy 1 (entries_of old) (call.Create (vlan 20)) one_whole refl

-- an object of theirs is a VLAN
old_vlan : (e : Entry Rid) (b : Body Rid) → body_at (entries_of old) e ≡ Some b → b ≡ vlan 10
old_vlan e b h = by (in-found (entries_of old) e b h)
  where
    by : (f : Entry Rid) × (same_entry e f ≡ true) × IsIn (f, b) (entries_of old) → b ≡ vlan 10
    by (f, same, inl is) = ap (λ (z : Entry Rid × Body Rid). z.1) is
    by (f, same, inr none) = elim none [ ]

view_vlan : (e : Entry Rid) (b : Body Rid) → body_at (as_chip view) e ≡ Some b → (n : ℕ) × (b ≡ vlan n)
view_vlan e b h = by (in-found (as_chip view) e b h)
  where
    by : (f : Entry Rid) × (same_entry e f ≡ true) × IsIn (f, b) (as_chip view) → (n : ℕ) × (b ≡ vlan n)
    by (f, same, inl is) = (10, ap (λ (z : Entry Rid × Body Rid). z.1) is)
    by (f, same, inr (inl is)) = (20, ap (λ (z : Entry Rid × Body Rid). z.1) is)
    by (f, same, inr (inr none)) = elim none [ ]

old_chip : IsListedChip 1 (entries_of old)
old_chip = record {
  whole = one_whole;
  lanes = record { each = λ e b h. ap has_first (old_vlan e b h) };
  prefixes = record { each = λ e b h. subst HasPrefix (sym (old_vlan e b h)) tt };
}

view_chip : IsListedChip 2 (as_chip view)
view_chip = record {
  whole = two_whole;
  lanes = record { each = λ e b h. ap has_first (view_vlan e b h).1 };
  prefixes = record { each = λ e b h. subst HasPrefix (sym (view_vlan e b h).1) tt };
}

pub rid_numbers : (r s : Rid) → entry.Oid r ≡ entry.Oid s → r.0 ≡ s.0
rid_numbers r s e = let same : r ≡ s = cc in ap (λ (z : Rid). z.0) same

-- ---- the apply

ready_view : IsReadyView 2 view
ready_view = record {
  chip = view_chip;
  apart = (λ i. elim i [ inl same ↦ let n = rid_numbers (rid 1) (rid 2) same in absurd (omega (arith, n)) | inr none ↦ elim none [ ] ], (λ i. elim i [ ], tt));
  distinct = (λ i. elim i [ inl same ↦ absurd cc | inr none ↦ elim none [ ] ], (λ i. elim i [ ], tt));
  free = λ v. untied v;
}
  where
    untied : (v : Vid) → rid_at view v ≡ None
    untied v = by (is_at (vid_cmp v) (vid 1)) (is_at (vid_cmp v) (vid 2))
      where
        by : (a b : Bool) → rid_in (cond a (Some (record { body = body.Vlan 10; rid = None })) (cond b (Some (record { body = body.Vlan 20; rid = None })) None)) ≡ None
        by true b = refl
        by false true = refl
        by false false = refl

view_has_no_port : (p : PortThing) → IsIn (thing.Port p) (chip_things (as_chip view)) → ⊥
view_has_no_port p (inl is) = cc
view_has_no_port p (inr (inl is)) = cc
view_has_no_port p (inr (inr none)) = elim none [ ]

example_ready : IsApplyReady roomy 1 old 2 view
example_ready = record {
  chip = old_chip;
  ready = ready_view;
  lanes = record { same = λ p q i j meet. absurd (view_has_no_port p i) };
  held = held;
  fits = fits;
}
  where
    held : (k : Kind) → used (entries_of old) k ≤ capacity_of roomy k
    held kind.Port = omega arith
    held kind.Vlan = omega arith
    held _ = omega arith

    fits : (k : Kind) → lacking_from k [] new 0 ≤ capacity_of roomy k
    fits kind.Port = omega arith
    fits kind.Vlan = omega arith
    fits _ = omega arith

abbrev plan : Plan
plan = record { mode = mode.Hitless; calls = record { call = call.Create (body.Vlan 20); makes = Some (vid 2) } ∷ [] }

abbrev due : List Timed
due = due_steps mode.Hitless old new (pairs_of old new)

-- VLAN 20 is made first, and then what differs of VLAN 10 is set, which is nothing
fits_all : FitTogether roomy old new (pairs_of old new)
fits_all kind.Port = omega arith
fits_all kind.Vlan = omega arith
fits_all _ = omega arith

-- no interface is paired
keep_all : KeepRouters old new (pairs_of old new)
keep_all p o n i at there = ap (λ b. stays_in_router (names_from [] old new (pairs_of old new)) b n.body) (was p.0 o at)
  where
    was : (k : ℕ) (o : Object Rid) → slice_get old k ≡ Some o → o.body ≡ vlan 10
    was zero o e = let same : o ≡ record { entry = entry.Oid (rid 1); body = body.Vlan 10 } = cc in ap (λ (z : Object Rid). z.body) same
    was (suc k) o e = absurd cc

example_planned : IsPlanOf old new (pairs_of old new) roomy plan
example_planned = record {
  mode = (λ e. (fits_all, keep_all), λ f. refl);
  steps = swap due 0 1;
  due = record { moves = (0, 1) ∷ []; below = (omega arith, omega arith, tt); is = refl };
  in_order = sorted;
  calls = refl;
}
  where
    sorted : IsSorted timed_cmp (swap due 0 1)
    sorted zero d low high = refl
    sorted (suc k) d low high = absurd (omega (arith, high))

worked_apply_begun : IsApplyBegun roomy 1 old view (laid_things (made-view ready_view)) plan
worked_apply_begun = ready-begun example_ready plan example_planned

-- one call comes to the chip
one_call : calls_from 1 old view plan ≡ call.Create (vlan 20) ∷ []
one_call = refl
