-- what the registry's answers say of the machine
use Rattle.std.proofs.Common.{◌≡◌, ◌⊎◌, ◌∷◌, ◌≤◌, ◌∙◌, inl, inr, ℕ, true, List, [], map, Option, None, Some, is_some, refl, sym, ap, subst, if◌then◌else◌, option_map}
use Rattle.std.proofs.lemmas.Bool.{and_parts, false≢true}
use Rattle.std.proofs.lemmas.Option.{same_Some}
use Rattle.table_schema.specs.Plan.{IsPlan, Ports}
use Rattle.table_schema.specs.declared.key.Key.{Key}
use Rattle.sai_types.specs.Alike.{IsIn}
use Rattle.sai_types.proofs.Membership.{in-either, in-left, in-right}
use Rattle.chip_layout.proofs.Answering.{in_those, those_in}
use Rattle.switch_model.specs.Desired.{have_rows}
use Rattle.switch_model.specs.Good.{TypedRows}
use Rattle.switch_model.specs.Marks.{first_missing}
use Rattle.switch_model.specs.Placed.{Placed as Row, bare, bare_rows, placed_names as names_of}
use Rattle.row_layout.specs.Operations.{Change}
use Rattle.row_layout.specs.Rows.{Owner}
use Rattle.row_layout.specs.Shared.{uses}
use Rattle.row_layout.proofs.Members.{in_map}
use Rattle.switch_machine.specs.Consistent.{IsConsistent}
use Rattle.switch_machine.specs.Flights.{Concerns, MachineFlight, HasChangeOf, IsShared, Machine, StandsIn, IsFirm, goes_over}
use Rattle.switch_machine.specs.Reasons.{IsInTheWay, BringsHolder, TakesNeeded}
use Rattle.switch_machine.proofs.Moving.{apart, fit_of}
use Rattle.switch_machine.proofs.Splits.{IsSplit, nat_split}
use Rattle.switch_machine.proofs.Tabled.{are_shared_by, tabled}
use Rattle.switch_machine.proofs.Beginning.{touched_concern}
use Rattle.switch_machine.proofs.Placing.{names_in}
use Rattle.ref_counts.specs.declared.name.Name.{Name}
use Rattle.ref_counts.specs.declared.name.Name.TheVariants as name
use Rattle.ref_counts.specs.declared.name.NameState.{NameState}
use Rattle.ref_counts.specs.declared.name.NameState.TheVariants as state
use Rattle.ref_counts.specs.declared.pin.Pin.{Pin}
use Rattle.ref_counts.specs.Registered.{Registered, pins_but}
use Rattle.ref_counts.specs.Registry as registry
use Rattle.ref_counts.specs.Registry.{owner_in, registered_at, state_in, state_of}
use Rattle.ref_counts.specs.Room.{RoomState}
use Rattle.orch_flight.specs.Needing.{first_unapplied, name_for, names_needed, pinning, row_names, unapplied_or, workers_on}
use Rattle.registry_laws.specs.Known.{RowStands, SharedStands, pins_at}
use Rattle.registry_laws.specs.Registers.{HaveDue, Registers}
use Rattle.registry_laws.proofs.Listing.{but_in, in_but, least_below, least_in, least_none, least_worker_is, map_in, never_none, not_some}
use Rattle.registry_laws.proofs.Inside.{named_or_held}

-- ---- rows

pub have_at : (rows : TypedRows) (ks : List Key) (k : Key) → have_rows rows ks ≡ true → IsIn k ks → rows k ≡ None → ⊥
have_at rows [] k h g e = g
have_at rows (q ∷ ks) k h (inl same) e = false≢true (sym (ap is_some (ap rows (sym same) ∙ e)) ∙ (and_parts (is_some (rows q)) (have_rows rows ks) h).0)
have_at rows (q ∷ ks) k h (inr g) e = have_at rows ks k (and_parts (is_some (rows q)) (have_rows rows ks) h).1 g e

-- ---- states

builds_or_retires : (st : NameState) (v : ℕ) → owner_in st ≡ Some v → (st ≡ state.Building v) ⊎ (st ≡ state.Retiring v)
builds_or_retires state.Absent v h = not_some v h
builds_or_retires (state.Building w) v h = inl cc
builds_or_retires state.Live v h = not_some v h
builds_or_retires (state.Retiring w) v h = inr cc

pub owner_none : (st : NameState) → owner_in st ≡ None → (st ≡ state.Absent) ⊎ (st ≡ state.Live)
owner_none state.Absent h = inl refl
owner_none (state.Building w) h = never_none w h
owner_none state.Live h = inr refl
owner_none (state.Retiring w) h = never_none w h

-- ---- pins

pub pinning_in : (w v : ℕ) (o : Option Registered) → pinning w o ≡ Some v → (p : Pin) × IsIn p (pins_at o) × (v ≡ p.worker)
pinning_in w v None h = not_some v h
pinning_in w v (Some r) h =
    let i = least_in (map (λ (p : Pin). p.worker) (pins_but w r.pins)) v (sym (least_worker_is (pins_but w r.pins)) ∙ h) in
    let x = map_in (λ (p : Pin). p.worker) v (pins_but w r.pins) i in
    (x.0, but_in w x.0 r.pins x.1, x.2)

pub pinning_least : (w v : ℕ) (o : Option Registered) (p : Pin) → pinning w o ≡ Some v → IsIn p (pins_at o) → (p.worker ≡ w → ⊥) → v ≤ p.worker
pinning_least w v None p h i other = elim i [ ]
pinning_least w v (Some r) p h i other =
    least_below (map (λ (p : Pin). p.worker) (pins_but w r.pins)) v p.worker (sym (least_worker_is (pins_but w r.pins)) ∙ h) (in_map (λ (p : Pin). p.worker) p (pins_but w r.pins) (in_but w p r.pins other i))

pub pinning_none : (w : ℕ) (o : Option Registered) (p : Pin) → pinning w o ≡ None → IsIn p (pins_at o) → (p.worker ≡ w → ⊥) → ⊥
pinning_none w None p h i other = i
pinning_none w (Some r) p h i other =
    least_none (map (λ (p : Pin). p.worker) (pins_but w r.pins)) p.worker (sym (least_worker_is (pins_but w r.pins)) ∙ h) (in_map (λ (p : Pin). p.worker) p (pins_but w r.pins) (in_but w p r.pins other i))

-- ---- workers on names

module _ (names : registry.Names) where
  on_in : (ns : List Name) (v : ℕ) → IsIn v (workers_on names ns) → (n : Name) × IsIn n ns × (owner_in (state_of names n) ≡ Some v)
  on_in ns v h =
      let x = map_in (λ n. owner_in (state_of names n)) (Some v) ns (those_in v (map (λ n. owner_in (state_of names n)) ns) h) in
      (x.0, x.1, sym x.2)

  in_on : (ns : List Name) (n : Name) (v : ℕ) → IsIn n ns → owner_in (state_of names n) ≡ Some v → IsIn v (workers_on names ns)
  in_on ns n v h e = in_those v (map (λ n. owner_in (state_of names n)) ns) (subst (λ z. IsIn z (map (λ n. owner_in (state_of names n)) ns)) e (in_map (λ n. owner_in (state_of names n)) n ns h))

-- two operations change nothing of one owner
module _ (plan : Ports) (is : IsPlan plan) (m : Machine) (sound : IsConsistent plan m) where
  concern_of : (v : ℕ) (f : MachineFlight) (o : Owner) → m.board.flights v ≡ Some f → HasChangeOf plan (m.due v) o → Concerns plan f o
  concern_of v f o at t = touched_concern plan (tabled plan is) f (fit_of plan (tabled plan is) m sound v f at) (m.due v) (StandsIn m) o (sound.runs v f at) t

  pub touched-one : (v u : ℕ) (f g : MachineFlight) (o : Owner) → m.board.flights v ≡ Some f → m.board.flights u ≡ Some g → HasChangeOf plan (m.due v) o → HasChangeOf plan (m.due u) o → v ≡ u
  touched-one v u f g o at there t x = by (nat_split v u)
    where
      by : IsSplit v u → v ≡ u
      by (inl same) = same
      by (inr other) = absurd (apart plan (tabled plan is) m sound v u f g at there (λ e. other (sym e)) o t (concern_of v f o at t) (concern_of u g o there x))

module _ (plan : Ports) (is : IsPlan plan) (workers : ℕ) (capacities : List ℕ) (m : Machine) (sound : IsConsistent plan m) (names : registry.Names) (room : RoomState) (known : Registers plan workers capacities names room m) (busy : HaveDue m) where
  pub row_at : (k : Key) → RowStands m k (state_of names (name.Row k))
  row_at k = (known.names_known.rows k).stands

  pub shared_at : (o : Owner) → IsShared o → SharedStands plan m o (state_of names (name_for o))
  shared_at o h = (known.names_known.shared o h).stands

  -- ---- which rows are applied

  applied_by : (k : Key) (st : NameState) (other : Option Key) → RowStands m k st → unapplied_or k st other ≡ (if is_some (bare_rows m.board.applied k) then other else Some k)
  applied_by k state.Absent other (rests, none) = ap (λ o. if is_some (option_map bare o) then other else Some k) (sym none)
  applied_by k (state.Building w) other (flown, none) = ap (λ o. if is_some (option_map bare o) then other else Some k) (sym none)
  applied_by k state.Live other (inl firm) = ap (λ o. if is_some (option_map bare o) then other else Some k) (sym firm.applied)
  applied_by k state.Live other (inr made) = absurd (busy made.worker made.flight made.flying made.done)
  applied_by k (state.Retiring w) other going = ap (λ o. if is_some (option_map bare o) then other else Some k) (sym going.applied)

  pub unapplied_is : (ks : List Key) → first_unapplied names ks ≡ first_missing (bare_rows m.board.applied) ks
  unapplied_is [] = refl
  unapplied_is (k ∷ ks) = applied_by k (state_of names (name.Row k)) (first_unapplied names ks) (row_at k) ∙ ap (λ o. if is_some (bare_rows m.board.applied k) then o else Some k) (unapplied_is ks)

  pub retires_touched : (v : ℕ) (g : MachineFlight) (o : Owner) → m.board.flights v ≡ Some g → g.retires ≡ Some o → HasChangeOf plan (m.due v) o
  retires_touched v g o at retires = by (m.due v) refl
    where
      by : (cs : List Change) → m.due v ≡ cs → HasChangeOf plan (m.due v) o
      by [] e = absurd (busy v g at e)
      by (c ∷ cs) e = let i : IsIn c (m.due v) = subst (IsIn c) (sym e) (inl refl) in (c, i, known.retiring v g o c at retires i)

  -- ---- who is in the way of a key with a new row

  module _ (k : Key) (r : Row) (have : have_rows (bare_rows m.board.applied) (row_names k r) ≡ true) (inside : (p : Key) → IsIn p (names_of k r) → IsIn p (row_names k r) ⊎ IsFirm m.board p) where
    abbrev pub Needed : List Name
    Needed = names_needed plan k (Some r)

    is_shared : (o : Owner) → IsIn o (uses plan k r) → IsShared o
    is_shared o h = are_shared_by plan is k r o h

    pub in_way : (v : ℕ) → IsIn v (workers_on names Needed) → IsInTheWay plan m k (Some r) v
    in_way v h = let x = on_in names Needed v h in by x.0 x.2 (in-either x.0 (map name.Row (row_names k r)) (map name_for (uses plan k r)) x.1)
      where
        by_row : (p : Key) → IsIn p (row_names k r) → (st : NameState) → RowStands m p st → (st ≡ state.Building v) ⊎ (st ≡ state.Retiring v) → IsInTheWay plan m k (Some r) v
        by_row p i st stands (inl e) = let x = subst (RowStands m p) e stands in absurd (have_at (bare_rows m.board.applied) (row_names k r) p have i (ap (option_map bare) x.1))
        by_row p i st stands (inr e) = let x = subst (RowStands m p) e stands in (x.flight, x.flying, inr (r, refl, inl (x.goes, names_in k r x.flight.key (subst (λ z. IsIn z (row_names k r)) (sym x.key) i))))

        by_shared : (o : Owner) → IsIn o (uses plan k r) → (st : NameState) → SharedStands plan m o st → (st ≡ state.Building v) ⊎ (st ≡ state.Retiring v) → IsInTheWay plan m k (Some r) v
        by_shared o i st stands (inl e) = let x = subst (SharedStands plan m o) e stands in (x.0, x.1, inr (r, refl, inr (o, i, inl x.2)))
        by_shared o i st stands (inr e) = let x = subst (SharedStands plan m o) e stands in (x.0, x.1, inr (r, refl, inr (o, i, inr x.3)))

        by : (n : Name) → owner_in (state_of names n) ≡ Some v → IsIn n (map name.Row (row_names k r)) ⊎ IsIn n (map name_for (uses plan k r)) → IsInTheWay plan m k (Some r) v
        by n e (inl i) =
            let x = map_in name.Row n (row_names k r) i in
            by_row x.0 x.1 (state_of names (name.Row x.0)) (row_at x.0) (builds_or_retires (state_of names (name.Row x.0)) v (subst (λ z. owner_in (state_of names z) ≡ Some v) x.2 e))
        by n e (inr i) =
            let x = map_in name_for n (uses plan k r) i in
            by_shared x.0 x.1 (state_of names (name_for x.0)) (shared_at x.0 (is_shared x.0 x.1)) (builds_or_retires (state_of names (name_for x.0)) v (subst (λ z. owner_in (state_of names z) ≡ Some v) x.2 e))

    pub on_row : (p : Key) (v : ℕ) → IsIn p (row_names k r) → owner_in (state_of names (name.Row p)) ≡ Some v → IsIn v (workers_on names Needed)
    on_row p v i e = in_on names Needed (name.Row p) v (in-left (name.Row p) (map name.Row (row_names k r)) (map name_for (uses plan k r)) (in_map name.Row p (row_names k r) i)) e

    on_shared : (o : Owner) (v : ℕ) → IsIn o (uses plan k r) → owner_in (state_of names (name_for o)) ≡ Some v → IsIn v (workers_on names Needed)
    on_shared o v i e = in_on names Needed (name_for o) v (in-right (name_for o) (map name.Row (row_names k r)) (map name_for (uses plan k r)) (in_map name_for o (uses plan k r) i)) e

    -- whose operation has a change of it to make owns its name
    touched_owner : (o : Owner) (v : ℕ) (g : MachineFlight) (st : NameState) → SharedStands plan m o st → m.board.flights v ≡ Some g → HasChangeOf plan (m.due v) o → owner_in st ≡ Some v
    touched_owner o v g state.Absent (none, still) at t = absurd (still v g at t)
    touched_owner o v g (state.Building u) (f, there, x, other) at t = ap Some (touched-one plan is m sound u v f g o there at x t)
    touched_owner o v g state.Live (some, still) at t = absurd (still v g at t)
    touched_owner o v g (state.Retiring u) (f, there, x, retires) at t = ap Some (touched-one plan is m sound u v f g o there at x t)

    going_owner : (p : Key) (v : ℕ) (g : MachineFlight) (st : NameState) → IsIn p (row_names k r) → RowStands m p st → m.board.flights v ≡ Some g → g.key ≡ p → g.goes ≡ true → owner_in st ≡ Some v
    going_owner p v g state.Absent i (rests, none) at same gone = absurd (rests v g at same)
    going_owner p v g (state.Building u) i (flown, none) at same gone = absurd (have_at (bare_rows m.board.applied) (row_names k r) p have i (ap (option_map bare) none))
    going_owner p v g state.Live i (inl firm) at same gone = absurd (firm.stays v g at same gone)
    going_owner p v g state.Live i (inr made) at same gone = absurd (busy made.worker made.flight made.flying made.done)
    going_owner p v g (state.Retiring u) i x at same gone = ap Some (sound.board.one u v x.flight g x.flying at (x.key ∙ sym same))

    pub takes_in : (v : ℕ) (g : MachineFlight) → m.board.flights v ≡ Some g → TakesNeeded plan m k (Some r) v g → IsIn v (workers_on names Needed)
    takes_in v g at (row, is, takes) = by (subst (λ z. Takes z) (sym (same_Some r row is)) takes)
      where
        Takes : Row → Type 0
        Takes z = ((g.goes ≡ true) × IsIn g.key (names_of k z)) ⊎ ((o : Owner) × IsIn o (uses plan k z) × (HasChangeOf plan (m.due v) o ⊎ (g.retires ≡ Some o)))

        going : g.goes ≡ true → IsIn g.key (row_names k r) ⊎ IsFirm m.board g.key → IsIn v (workers_on names Needed)
        going gone (inl i) = on_row g.key v i (going_owner g.key v g (state_of names (name.Row g.key)) i (row_at g.key) at refl gone)
        going gone (inr firm) = absurd (firm.stays v g at refl gone)

        by : Takes r → IsIn v (workers_on names Needed)
        by (inl (gone, i)) = going gone (inside g.key i)
        by (inr (o, i, inl t)) = on_shared o v i (touched_owner o v g (state_of names (name_for o)) (shared_at o (is_shared o i)) at t)
        by (inr (o, i, inr retires)) = on_shared o v i (touched_owner o v g (state_of names (name_for o)) (shared_at o (is_shared o i)) at (retires_touched v g o at retires))

  -- ---- who is in the way of a key whose applied row is to go

  pub pin_way : (k : Key) (n : Option Row) (v : ℕ) (p : Pin) → goes_over k (m.board.applied k) n ≡ true → IsIn p (pins_at (registered_at names (name.Row k))) → v ≡ p.worker → IsInTheWay plan m k n v
  pin_way k n v p goes i e = let x = ((known.names_known.rows k).pins p).0 i in (x.0, ap m.board.flights e ∙ x.1, inl (goes, (x.3.0, x.3.1, names_in x.0.key x.3.0 k x.3.2)))

  -- where no applied row names it
  pub brings_pin : (k : Key) (n : Option Row) (v : ℕ) (g : MachineFlight) → ((q : Key) (r : Row) → m.board.applied q ≡ Some r → IsIn k (row_names q r) → ⊥) → m.board.flights v ≡ Some g → BringsHolder m k n g → (p : Pin) × IsIn p (pins_at (registered_at names (name.Row k))) × (p.worker ≡ v)
  brings_pin k n v g unheld at (goes, (r, new, i)) = by (named_or_held plan m.board sound.board g.key k r (inr (v, g, at, refl, new)) i)
    where
      by : IsIn k (row_names g.key r) ⊎ ((h : Key) × (x : Row) × (m.board.applied h ≡ Some x) × IsIn k (row_names h x)) → (p : Pin) × IsIn p (pins_at (registered_at names (name.Row k))) × (p.worker ≡ v)
      by (inl h) = let p : Pin = record { worker = v; user = g.key } in (p, ((known.names_known.rows k).pins p).1 (g, at, refl, (r, new, h)), refl)
      by (inr x) = absurd (unheld x.0 x.1 x.2 x.3)
