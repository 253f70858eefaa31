-- when an operation may start
use Rattle.std.proofs.Common.{◌≡◌, ◌∷◌, ◌<◌, ◌∙◌, inl, inr, ℕ, ◌==◌, Bool, true, false, not, cond, List, [], Option, None, Some, refl, sym, ap, subst, option_map}
use Rattle.std.specs.declared.cmp.Ordering.{Ordering}
use Rattle.std.specs.declared.cmp.Ordering.TheVariants.{Less, Equal, Greater}
use Rattle.std.specs.List.{AllByRecursion}
use Rattle.std.proofs.lemmas.Bool.{eqb-true}
use Rattle.std.proofs.lemmas.Cmp.{tied_itself}
use Rattle.swss_types.proofs.Proper.{mapped}
use Rattle.table_schema.specs.Fields.{HasRisingKeys}
use Rattle.table_schema.specs.Plan.{IsPlan, Ports}
use Rattle.table_schema.specs.declared.key.Key.{Key}
use Rattle.table_schema.proofs.Places.{find_step}
use Rattle.sai_types.specs.Alike.{IsIn}
use Rattle.switch_model.specs.Desired.{have_rows}
use Rattle.switch_model.proofs.Ready.{have_rows-from_missing}
use Rattle.switch_model.specs.Placed.{Placed as Row, bare, bare_rows, router_in}
use Rattle.row_layout.specs.Operations.{uses_of}
use Rattle.row_layout.specs.Rows as owner
use Rattle.row_layout.specs.Rows.{Owner}
use Rattle.switch_machine.specs.Events.{IsSafe, SwitchState, placed_good}
use Rattle.switch_machine.specs.Flights.{Fits, IsResting, IsShared, Machine}
use Rattle.switch_machine.specs.Written.{good_of}
use Rattle.switch_machine.proofs.Splits.{use_row_in}
use Rattle.switch_machine.proofs.Tabled.{are_shared_by}
use Rattle.ref_counts.specs.declared.name.Name.{Name}
use Rattle.ref_counts.specs.declared.name.Name.TheVariants as name
use Rattle.ref_counts.specs.declared.name.NameState.{NameState}
use Rattle.ref_counts.specs.declared.name.NameState.TheVariants as state
use Rattle.ref_counts.specs.declared.pin.Pin.{Pin}
use Rattle.ref_counts.specs.Registered.{IsReadable, Registered, pins_but}
use Rattle.ref_counts.specs.Registry.{Names, registered_name_cmp, registered_at, state_in, state_of}
use Rattle.ref_counts.specs.Room.{RoomState}
use Rattle.ref_counts.proofs.Changing.{name_total}
use Rattle.orch_flight.specs.Needing.{name_for, row_names}
use Rattle.orch_flight.specs.Sharing.{HasNoPins, IsOfShared, MayShare, MayStart}
use Rattle.registry_laws.specs.Flown.{Flown}
use Rattle.registry_laws.specs.Flying.{KnowsBoard}
use Rattle.registry_laws.specs.Known.{IsPinOf, RowStands, SharedStands, pins_at}
use Rattle.registry_laws.proofs.Finding.{none_below}
use Rattle.registry_laws.proofs.Listing.{not_some}
use Rattle.registry_laws.proofs.Telling.{row_at, shared_at, unapplied_is}
use Rattle.registry_laws.proofs.Inside.{placed_none}

-- ---- each entry is found under its name

module _ (P : Registered → Type 0) where
  all_found : (es : Names) → HasRisingKeys registered_name_cmp es → ((n : Name) (r : Registered) → registered_at es n ≡ Some r → P r) → AllByRecursion (λ e. P e.1) es
  all_found [] rising h = tt
  all_found (e ∷ es) rising h = (
    h e.0 e.1 (find_step registered_name_cmp e es e.0 Equal (tied_itself name_total e.0)),
    all_found es rising.1 (λ n r at. h n r (later n r at (registered_name_cmp n e.0) refl)),
  )
    where
      later : (n : Name) (r : Registered) → registered_at es n ≡ Some r → (o : Ordering) → registered_name_cmp n e.0 ≡ o → registered_at (e ∷ es) n ≡ Some r
      later n r at Less is = find_step registered_name_cmp e es n Less is ∙ at
      later n r at Equal is = not_some r (sym (none_below n e.0 es is rising.0) ∙ at)
      later n r at Greater is = find_step registered_name_cmp e es n Greater is ∙ at

all_but : (w : ℕ) (ps : List Pin) → ((p : Pin) → IsIn p ps → p.worker ≡ w → ⊥) → pins_but w ps ≡ ps
all_but w [] h = refl
all_but w (p ∷ ps) h = by (p.worker == w) refl (all_but w ps (λ q i. h q (inr i)))
  where
    by : (b : Bool) → (p.worker == w) ≡ b → pins_but w ps ≡ ps → cond (not b) (p ∷ pins_but w ps) (pins_but w ps) ≡ p ∷ ps
    by true e rest = absurd (h p (inl refl) (eqb-true p.worker w e))
    by false e rest = ap (λ z. p ∷ z) rest

of_shared : (o : Owner) → IsShared o → IsOfShared (name_for o)
of_shared (owner.OfRow k) h = elim h [ ]
of_shared (owner.Bridge lane) h = tt
of_shared (owner.Own v ip) h = tt
of_shared (owner.Group hops) h = tt

module _ (plan : Ports) (is : IsPlan plan) (capacities : List ℕ) (s : SwitchState) (kept : IsSafe plan 4 capacities s) (names : Names) (room : RoomState) (flown : ℕ → Option Flown) (board : KnowsBoard plan capacities names room flown s.machine) (w : ℕ) (free : flown w ≡ None) (k : Key) (rests : IsResting s.machine.board k) where
  abbrev m : Machine
  m = s.machine

  idle : m.board.flights w ≡ None
  idle = board.idle w free

  pins : (n : Name) (r : Registered) → registered_at names n ≡ Some r → (p : Pin) → IsIn p r.pins → p.worker ≡ w → ⊥
  pins (name.Row q) r at p h e =
      let known = subst (λ x. (v : Pin) → IsIn v (pins_at x) → IsPinOf m.board q v) at (λ v i. ((board.registers.names_known.rows q).pins v).0 i) in
      let x = known p h in
      not_some x.0 (sym (ap m.board.flights e ∙ idle) ∙ x.1)
  pins (name.BridgePort lane) r at p h e = subst (λ x. (v : Pin) → IsIn v (pins_at x) → ⊥) at (board.registers.names_known.shared (owner.Bridge lane) tt).pins p h
  pins (name.Own v ip) r at p h e = subst (λ x. (v : Pin) → IsIn v (pins_at x) → ⊥) at (board.registers.names_known.shared (owner.Own v ip) tt).pins p h
  pins (name.Group hops) r at p h e = subst (λ x. (v : Pin) → IsIn v (pins_at x) → ⊥) at (board.registers.names_known.shared (owner.Group hops) tt).pins p h

  unpinned : HasNoPins names w
  unpinned = all_found (λ r. pins_but w r.pins ≡ r.pins) names board.rising (λ n r at. all_but w r.pins (pins n r at))

  stands : RowStands m k (state_of names (name.Row k))
  stands = row_at plan is 4 capacities m kept.sound names room board.registers board.busy k

  absent : m.board.applied k ≡ None → registered_at names (name.Row k) ≡ None
  absent none = by (registered_at names (name.Row k)) refl (subst (RowStands m k) refl stands)
    where
      of : (r : Registered) → registered_at names (name.Row k) ≡ Some r → (st : NameState) → r.state ≡ st → RowStands m k st → registered_at names (name.Row k) ≡ None
      of r at state.Absent e h = absurd (board.there (owner.OfRow k) r at e)
      of r at (state.Building v) e h = absurd (rests v h.0.0 h.0.1 h.0.2)
      of r at state.Live e (inl firm) = not_some firm.row (sym none ∙ firm.applied)
      of r at state.Live e (inr made) = absurd (rests made.worker made.flight made.flying made.key)
      of r at (state.Retiring v) e h = absurd (rests v h.flight h.flying h.key)

      by : (x : Option Registered) → registered_at names (name.Row k) ≡ x → RowStands m k (state_of names (name.Row k)) → registered_at names (name.Row k) ≡ None
      by None e h = e
      by (Some r) e h = of r e r.state refl (subst (RowStands m k) (ap state_in e) h)

  live : (r : Row) → m.board.applied k ≡ Some r → state_of names (name.Row k) ≡ state.Live
  live r at = by (state_of names (name.Row k)) stands
    where
      by : (st : NameState) → RowStands m k st → st ≡ state.Live
      by state.Absent h = not_some r (sym h.1 ∙ at)
      by (state.Building v) h = not_some r (sym h.1 ∙ at)
      by state.Live h = refl
      by (state.Retiring v) h = absurd (rests v h.flight h.flying h.key)

  shares : (o : Owner) → IsShared o → MayShare names (Some (name_for o))
  shares o shared = (of_shared o shared, λ h. let x = mapped (λ (r : Registered). r.state) (registered_at names (name_for o)) state.Absent h in board.there o x.0 x.1 x.2)

  shared_live : (o : Owner) → IsIn o (uses_of plan k (m.board.applied k)) → state_of names (name_for o) ≡ state.Live
  shared_live o h = by (state_of names (name_for o)) (shared_at plan is 4 capacities m kept.sound names room board.registers board.busy o (let r = use_row_in plan k (m.board.applied k) o h in are_shared_by plan is k r.0 o r.2))
    where
      by : (st : NameState) → SharedStands plan m o st → st ≡ state.Live
      by state.Absent x = absurd (x.0 k (inr (rests, h)))
      by (state.Building v) x = absurd (rests v x.0 x.1 (sym (kept.sound.quiet v x.0 k o x.1 x.2 (inr (rests, h)))))
      by state.Live x = refl
      by (state.Retiring v) x = absurd (kept.sound.board.unused v x.0 k o x.1 x.3 (inr (rests, h)))

  pub may_start : w < 4 → IsReadable k → (option_map bare (m.board.applied k) ≡ good_of plan s.written k → ⊥) → ((r : Row) → placed_good plan m.board s.written k ≡ Some r → have_rows (bare_rows m.board.applied) (row_names k r) ≡ true → Fits plan k r) → MayStart plan names w k (m.board.applied k) (placed_good plan m.board s.written k)
  may_start less readable differs fits = record {
    below = less;
    readable = readable;
    unpinned = unpinned;
    absent = absent;
    applied = live;
    some = λ old new. differs (ap (option_map bare) old ∙ sym (placed_none (router_in (bare_rows m.board.applied) k) (good_of plan s.written k) new));
    old_fits = λ r at. kept.sound.board.fit k r (inl at);
    new_fits = λ r good h. fits r good (have_rows-from_missing (bare_rows m.board.applied) (row_names k r) (sym (unapplied_is plan is 4 capacities m kept.sound names room board.registers board.busy (row_names k r)) ∙ h));
    shares = λ o h. let r = use_row_in plan k (placed_good plan m.board s.written k) o h in shares o (are_shared_by plan is k r.0 o r.2);
    shared = shared_live;
  }
