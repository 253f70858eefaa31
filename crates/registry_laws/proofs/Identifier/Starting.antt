-- the names of an operation that starts, leaves what it shared, or ends, have the identifiers that they had
use Rattle.std.proofs.Common.{◌≡◌, ◌∷◌, ◌∙◌, inl, inr, ℕ, true, List, [], Option, None, Some, option_map, refl, sym, ap, subst, Bool, false, if◌then◌else◌}
use Rattle.table_schema.specs.Plan.{IsPlan, Ports}
use Rattle.table_schema.specs.declared.key.Key.{Key}
use Rattle.sai_types.specs.Alike.{IsIn}
use Rattle.switch_model.specs.declared.wait.Wait.{Wait}
use Rattle.switch_model.specs.Placed.{Placed as Row}
use Rattle.row_layout.specs.Operations.{Change, uses_of}
use Rattle.row_layout.specs.Rows as owner
use Rattle.row_layout.specs.Rows.{Owner}
use Rattle.switch_machine.specs.Flights.{IsShared, goes_over}
use Rattle.switch_machine.proofs.Running.{shared_row}
use Rattle.switch_machine.proofs.Splits.{IsSplit, owner_split, use_row_in}
use Rattle.switch_machine.proofs.Tabled.{are_shared_by}
use Rattle.ref_counts.specs.declared.name.Name.TheVariants as name
use Rattle.ref_counts.specs.declared.name.NameState.{NameState}
use Rattle.ref_counts.specs.declared.name.NameState.TheVariants as state
use Rattle.ref_counts.specs.Registered.{Registered, begun, made_live, with_user, without_user, released, begun_to_go}
use Rattle.ref_counts.specs.Registry.{Names, changed, ids_by, ids_in, ids_of, retire_refusal_at, registered_at, state_in, state_of}
use Rattle.ref_counts.proofs.Found.{pinned-kept, found-released}
use Rattle.orch_flight.specs.Needing.{name_for, row_names, to_build}
use Rattle.orch_flight.specs.Sharing.{MayStart}
use Rattle.orch_flight.specs.Starting.{begun_names, first_due, ids_for, ids_for_row, leaving, left_names, parted_by, started_names, started_names_by, used_by, with_building, with_own, with_pins}
use Rattle.registry_laws.specs.Ending.{ended_names, named_by, users_dropped, users_passed, MayEnd, come_to_be}
use Rattle.registry_laws.proofs.Finding.{building_off, found_at, found_off, gone_off, own_off}
use Rattle.registry_laws.proofs.Listing.{not_some}
use Rattle.registry_laws.proofs.Sharing.{absent_first, left_apart}
use Rattle.registry_laws.specs.Identified.{HaveSameIds}
use Rattle.registry_laws.proofs.Identifier.Ids.{IsUnbuilt, ids_absent, ids_changed, ids_going, ids_no_user, ids_pinned, ids_put, ids_released, ids_then, ids_user}

-- ---- how names stand

-- a change of users leaves how names stand
pub state_kept : (names : Names) (o p : Owner) (f : Registered → Registered) → ((r : Registered) → (f r).state ≡ r.state) → state_of (changed names (name_for o) f) (name_for p) ≡ state_of names (name_for p)
state_kept names o p f same = by (owner_split o p)
  where
    in_it : (x : Option Registered) → state_in (option_map f x) ≡ state_in x
    in_it None = refl
    in_it (Some r) = same r

    by : IsSplit o p → state_of (changed names (name_for o) f) (name_for p) ≡ state_of names (name_for p)
    by (inl e) = subst (λ z. state_of (changed names (name_for o) f) (name_for z) ≡ state_of names (name_for z)) e (ap state_in (found_at names o f) ∙ in_it (registered_at names (name_for o)))
    by (inr apart) = ap state_in (found_off names o p f apart)

pub live_unbuilt : (names : Names) (o : Owner) → state_of names (name_for o) ≡ state.Live → IsUnbuilt names o
live_unbuilt names o live w h = no_state w (sym live ∙ h)
  where
    no_state : (w : ℕ) → state.Live ≡ state.Building w → ⊥
    no_state w h = cc

-- ---- a key leaves what it shared

module _ (names : Names) (w : ℕ) (k : Key) (o : Owner) where
  abbrev without : Names
  without = changed names (name_for o) (without_user k)

  pub ids_left : IsUnbuilt names o → HaveSameIds names (left_names names w k o)
  ids_left unbuilt = ids_then names without (left_names names w k o) (ids_no_user names o k) (by (retire_refusal_at without w (name_for o)))
    where
      by : (answer : Option Wait) → HaveSameIds without (parted_by answer without w o)
      by None = ids_going without o w (λ v h. unbuilt v (sym (state_kept names o o (without_user k) (λ r. refl)) ∙ h))
      by (Some wait) = λ p. refl

-- ---- an operation starts

used_ids : (names : Names) (k : Key) (os : List Owner) → HaveSameIds names (used_by names k os)
used_ids names k [] = λ p. refl
used_ids names k (o ∷ os) = ids_then names (changed names (name_for o) (with_user k)) (used_by names k (o ∷ os)) (ids_user names o k) (used_ids (changed names (name_for o) (with_user k)) k os)

used_state : (names : Names) (k : Key) (os : List Owner) (p : Owner) → state_of (used_by names k os) (name_for p) ≡ state_of names (name_for p)
used_state names k [] p = refl
used_state names k (o ∷ os) p = used_state (changed names (name_for o) (with_user k)) k os p ∙ state_kept names o p (with_user k) (λ r. refl)

unregistered_absent : (x : Option Registered) → state_in x ≡ state.Absent → (option_map (λ (r : Registered). r.state) x ≡ Some state.Absent → ⊥) → x ≡ None
unregistered_absent None h known = refl
unregistered_absent (Some r) h known = absurd (known (ap Some h))

module _ (plan : Ports) (is : IsPlan plan) (names : Names) (w : ℕ) (k : Key) (old new : Option Row) (may : MayStart plan names w k old new) where
  abbrev pinned_names : Names
  pinned_names = with_pins names w k new

  abbrev own_names : Names
  own_names = with_own pinned_names w k old new

  abbrev built_names : Names
  built_names = with_building own_names w (to_build plan names k new)

  abbrev begun_now : Names
  begun_now = begun_names plan names w k old new

  pins_ids : HaveSameIds names pinned_names
  pins_ids = by new
    where
      by : (x : Option Row) → HaveSameIds names (with_pins names w k x)
      by None = λ p. refl
      by (Some r) = ids_pinned names w k (row_names k r)

  pins_state : (p : Owner) → state_of pinned_names (name_for p) ≡ state_of names (name_for p)
  pins_state p = by new
    where
      by : (x : Option Row) → state_of (with_pins names w k x) (name_for p) ≡ state_of names (name_for p)
      by None = refl
      by (Some r) = pinned-kept state_in w k (λ r. refl) names (row_names k r) (name_for p)

  own_ids : HaveSameIds pinned_names own_names
  own_ids = by old new refl
    where
      by : (x y : Option Row) → old ≡ x → HaveSameIds pinned_names (with_own pinned_names w k x y)
      by None y e = ids_put pinned_names (owner.OfRow k) (begun w (ids_for_row k)) (pins_ids (owner.OfRow k) ∙ ids_absent names (owner.OfRow k) (may.absent e)) refl
      by (Some a) y e = of (goes_over k (Some a) y)
        where
          of : (b : Bool) → HaveSameIds pinned_names (if b then changed pinned_names (name.Row k) (begun_to_go w) else pinned_names)
          of true = ids_going pinned_names (owner.OfRow k) w (live_unbuilt pinned_names (owner.OfRow k) (pins_state (owner.OfRow k) ∙ may.applied a e))
          of false = λ p. refl

  -- what is built was absent
  build_absent : (o : Owner) (x : Option Row) → new ≡ x → to_build plan names k x ≡ Some o → IsIn o (uses_of plan k new) × (state_of names (name_for o) ≡ state.Absent)
  build_absent o None e h = not_some o h
  build_absent o (Some r) e h =
      let x = absent_first names (uses_of plan k (Some r)) o h in
      (subst (λ z. IsIn o (uses_of plan k z)) (sym e) x.0, x.1)

  built_ids : HaveSameIds own_names built_names
  built_ids = by (to_build plan names k new) refl
    where
      by : (x : Option Owner) → to_build plan names k new ≡ x → HaveSameIds own_names (with_building own_names w x)
      by None e = λ p. refl
      by (Some o) e =
          let x = build_absent o new refl e in
          ids_put own_names o (begun w (ids_for o)) (own_ids o ∙ pins_ids o ∙ ids_absent names o (unregistered_absent (registered_at names (name_for o)) x.1 (may.shares o x.0).1)) refl

  begun_ids : HaveSameIds names begun_now
  begun_ids p = used_ids built_names k (uses_of plan k new) p ∙ built_ids p ∙ own_ids p ∙ pins_ids p

  -- what the old row shares is not built
  begun_live : (o : Owner) → IsIn o (uses_of plan k old) → state_of begun_now (name_for o) ≡ state.Live
  begun_live o used =
      used_state built_names k (uses_of plan k new) o
      ∙ ap state_in (building_off w k own_names (to_build plan names k new) o (λ e. no_state (sym (build_absent o new refl e).1 ∙ may.shared o used)))
      ∙ ap state_in (own_off w k pinned_names old new o (λ e. shared_row o k shared (sym e)))
      ∙ pins_state o
      ∙ may.shared o used
    where
      no_state : state.Absent ≡ state.Live → ⊥
      no_state h = cc

      shared : IsShared o
      shared = let r = use_row_in plan k old o used in are_shared_by plan is k r.0 o r.2

  pub ids_started : HaveSameIds names (started_names plan names w k old new)
  ids_started = by (first_due plan names k old new) (leaving plan k old new) refl
    where
      by : (due : List Change) (leaves : Option Owner) → leaving plan k old new ≡ leaves → HaveSameIds names (started_names_by begun_now w k due leaves)
      by [] None e = begun_ids
      by (c ∷ cs) leaves e = begun_ids
      by [] (Some o) e = ids_then names begun_now (left_names begun_now w k o) begun_ids (ids_left begun_now w k o (live_unbuilt begun_now o (begun_live o (left_apart (uses_of plan k new) (uses_of plan k old) o e).0)))

-- ---- an operation ends

dropped_ids : (names : Names) (k : Key) (ps : List Key) → HaveSameIds names (users_dropped names k ps)
dropped_ids names k [] = λ o. refl
dropped_ids names k (p ∷ ps) = ids_then names (changed names (name.Row p) (without_user k)) (users_dropped names k (p ∷ ps)) (ids_no_user names (owner.OfRow p) k) (dropped_ids (changed names (name.Row p) (without_user k)) k ps)

pub ids_passed : (names : Names) (w : ℕ) (k : Key) (old : Option Row) → HaveSameIds names (users_passed names w k old)
ids_passed names w k old =
    let dropped = users_dropped names k (named_by k old) in
    ids_then names dropped (users_passed names w k old) (dropped_ids names k (named_by k old)) (ids_released dropped w true)

dropped_state : (names : Names) (k : Key) (ps : List Key) (p : Owner) → state_of (users_dropped names k ps) (name_for p) ≡ state_of names (name_for p)
dropped_state names k [] p = refl
dropped_state names k (q ∷ ps) p = dropped_state (changed names (name.Row q) (without_user k)) k ps p ∙ state_kept names (owner.OfRow q) p (without_user k) (λ r. refl)

pub state_passed : (names : Names) (w : ℕ) (k : Key) (old : Option Row) (p : Owner) → state_of (users_passed names w k old) (name_for p) ≡ state_of names (name_for p)
state_passed names w k old p =
    let dropped = users_dropped names k (named_by k old) in
    ap state_in (found-released dropped w true (name_for p)) ∙ by (registered_at dropped (name_for p)) ∙ dropped_state names k (named_by k old) p
  where
    by : (x : Option Registered) → state_in (option_map (released w true) x) ≡ state_in x
    by None = refl
    by (Some r) = refl

pub ids_ended_live : (names : Names) (k : Key) (st : NameState) → state_of names (name.Row k) ≡ st → ((v : ℕ) → st ≡ state.Retiring v → ids_of names (name.Row k) ≡ []) → HaveSameIds names (come_to_be st names (name.Row k))
ids_ended_live names k (state.Building w) e none = ids_changed names (owner.OfRow k) (made_live []) (λ r x. sym (ap (λ z. ids_by z r.ids) (sym (ap state_in x) ∙ e)))
ids_ended_live names k (state.Retiring v) e none = ids_changed names (owner.OfRow k) (made_live []) (λ r x. sym (sym (ap ids_in x) ∙ none v refl))
ids_ended_live names k _ e none = λ p. refl

pub ids_ended : (names : Names) (w : ℕ) (k : Key) (old : Option Row) (r : Row) → MayEnd names w k (Some r) → HaveSameIds names (ended_names names w k old (Some r))
ids_ended names w k old r may =
    let passed = users_passed names w k old in
    ids_then names passed (ended_names names w k old (Some r)) (ids_passed names w k old) (ids_ended_live passed k (state_of passed (name.Row k)) refl (λ v e. ids_passed names w k old (owner.OfRow k) ∙ (may v (sym (state_passed names w k old (owner.OfRow k)) ∙ e)).1))

-- where its row goes, the other names have
pub ids_ended_off : (names : Names) (w : ℕ) (k : Key) (old : Option Row) (p : Owner) → (owner.OfRow k ≡ p → ⊥) → ids_of (ended_names names w k old None) (name_for p) ≡ ids_of names (name_for p)
ids_ended_off names w k old p apart = ap ids_in (gone_off (users_passed names w k old) (owner.OfRow k) p apart) ∙ ids_passed names w k old p
