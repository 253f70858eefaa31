-- what other workers have under way stays as it was
use Rattle.std.proofs.Common.{◌≡◌, ◌⊎◌, ◌++◌, ◌∙◌, inl, inr, ℕ, ◌==◌, Bool, true, false, List, Option, None, Some, if◌then◌else◌, refl, sym, ap, subst, ◌-◌, ap₂, []}
use Rattle.std.proofs.lemmas.Bool.{eq-eqb, eqb-true}
use Rattle.std.proofs.lemmas.Option.{same_Some}
use Rattle.table_schema.specs.Plan.{IsPlan, Ports}
use Rattle.sai_types.specs.declared.weight.WHop.{WHop}
use Rattle.sai_types.specs.declared.ids.Rid.{Rid}
use Rattle.sai_types.specs.declared.thing.Thing.{Thing}
use Rattle.sai_types.specs.Alike.{IsIn}
use Rattle.sai_types.specs.Names.{name_of}
use Rattle.switch_model.specs.Placed.{Placed as Row}
use Rattle.row_layout.specs.Operations.{Change, uses_of}
use Rattle.row_layout.specs.Rows as owner
use Rattle.row_layout.specs.Rows.{Owner}
use Rattle.switch_machine.specs.Changes.{changed_name}
use Rattle.switch_machine.specs.Consistent.{IsConsistent}
use Rattle.switch_machine.specs.Flights.{Concerns, Fits, MachineFlight, HasChangeOf, IsOwnedBy, Machine, StandsIn, own_of, put}
use Rattle.switch_machine.specs.Steps.{Moves, finished, left, moved, parted, started}
use Rattle.switch_machine.proofs.Moving.{its}
use Rattle.switch_machine.proofs.Running.{one_owner, row_keys, shared_row, stays}
use Rattle.switch_machine.proofs.Splits.{IsPut, New, Old, own_row_in, put_by, put_off, row_off, use_row_in}
use Rattle.switch_machine.proofs.Tabled.{are_shared_by, tabled}
use Rattle.switch_machine.specs.Places.{makes}
use Rattle.ref_counts.specs.declared.name.Name.TheVariants as name
use Rattle.ref_counts.specs.declared.name.NameState.{NameState}
use Rattle.ref_counts.specs.declared.name.NameState.TheVariants as state
use Rattle.ref_counts.specs.Registry as registry
use Rattle.ref_counts.specs.Registry.{state_of}
use Rattle.ref_counts.specs.Room.{RoomState}
use Rattle.orch_flight.specs.Grouping.{GroupOperation}
use Rattle.orch_flight.specs.Operation.{Operation}
use Rattle.registry_laws.specs.Flown.{Flown, built_in, flight_of, group_in, group_to_build, group_to_take, is_built_by, left_of_group, whole_group}
use Rattle.registry_laws.specs.Flying.{IsBetween, IsFlown, IsGroupFlown, IsRestFrom, KnowsBoard}
use Rattle.registry_laws.specs.Known.{SharedStands}
use Rattle.registry_laws.specs.Registers.{HaveDue, Registers}
use Rattle.registry_laws.proofs.Fine.{AreFine, placed_of, there_of}
use Rattle.registry_laws.proofs.Listing.{never_none, not_some}
use Rattle.registry_laws.proofs.Telling.{touched-one}

-- ---- the group that is built

pub built_some : (names : registry.Names) (w : ℕ) (hops : List WHop) → state_of names (name.Group hops) ≡ state.Building w → built_in names w (Some hops) ≡ Some hops
built_some names w hops h = ap (λ st. if is_built_by w st then Some hops else None) h ∙ ap (λ b. if b then Some hops else None) (eq-eqb w w refl)

pub built_none : (names : registry.Names) (w : ℕ) (hops : List WHop) → (state_of names (name.Group hops) ≡ state.Building w → ⊥) → built_in names w (Some hops) ≡ None
built_none names w hops other = by (state_of names (name.Group hops)) other
  where
    by_worker : (v : ℕ) (b : Bool) → (v == w) ≡ b → (state.Building v ≡ state.Building w → ⊥) → (if b then Some hops else None) ≡ None
    by_worker v true e other = absurd (other (ap state.Building (eqb-true v w e)))
    by_worker v false e other = refl

    by : (st : NameState) → (st ≡ state.Building w → ⊥) → (if is_built_by w st then Some hops else None) ≡ None
    by state.Absent other = refl
    by (state.Building v) other = by_worker v (v == w) refl other
    by state.Live other = refl
    by (state.Retiring v) other = refl

pub built_state : (names : registry.Names) (w : ℕ) (x : Option (List WHop)) (hops : List WHop) → built_in names w x ≡ Some hops → (x ≡ Some hops) × (state_of names (name.Group hops) ≡ state.Building w)
built_state names w None hops h = not_some hops h
built_state names w (Some other) hops h = by (state_of names (name.Group other)) refl h
  where
    by_worker : (v : ℕ) (b : Bool) → (v == w) ≡ b → state_of names (name.Group other) ≡ state.Building v → (if b then Some other else None) ≡ Some hops → (Some other ≡ Some hops) × (state_of names (name.Group hops) ≡ state.Building w)
    by_worker v true e st h = let same : other ≡ hops = cc in (h, ap (λ z. state_of names (name.Group z)) (sym same) ∙ st ∙ ap state.Building (eqb-true v w e))
    by_worker v false e st h = not_some hops h

    by : (st : NameState) → state_of names (name.Group other) ≡ st → (if is_built_by w st then Some other else None) ≡ Some hops → (Some other ≡ Some hops) × (state_of names (name.Group hops) ≡ state.Building w)
    by state.Absent e h = not_some hops h
    by (state.Building v) e h = by_worker v (v == w) refl e h
    by state.Live e h = not_some hops h
    by (state.Retiring v) e h = not_some hops h

pub built_same : (names names' : registry.Names) (w : ℕ) (x : Option (List WHop)) → ((hops : List WHop) → state_of names (name.Group hops) ≡ state.Building w → state_of names' (name.Group hops) ≡ state.Building w) → ((hops : List WHop) → state_of names' (name.Group hops) ≡ state.Building w → state_of names (name.Group hops) ≡ state.Building w) → built_in names w x ≡ built_in names' w x
built_same names names' w None into back = refl
built_same names names' w (Some hops) into back = by (built_in names w (Some hops)) refl
  where
    by : (x : Option (List WHop)) → built_in names w (Some hops) ≡ x → built_in names w (Some hops) ≡ built_in names' w (Some hops)
    by None e = e ∙ sym (built_none names' w hops (λ h. never_none hops (sym (built_some names w hops (back hops h)) ∙ e)))
    by (Some other) e =
        let b = built_state names w (Some hops) other e in
        let same : other ≡ hops = cc in
        built_some names w hops (subst (λ z. state_of names (name.Group z) ≡ state.Building w) same b.1) ∙ sym (built_some names' w hops (into hops (subst (λ z. state_of names (name.Group z) ≡ state.Building w) same b.1)))

-- what a worker's operation builds is its name's
module _ (plan : Ports) (is : IsPlan plan) (m : Machine) (sound : IsConsistent plan m) where
  pub building_is : (o : Owner) (v : ℕ) (g : MachineFlight) (st : NameState) → SharedStands plan m o st → m.board.flights v ≡ Some g → HasChangeOf plan (m.due v) o → (g.retires ≡ Some o → ⊥) → st ≡ state.Building v
  building_is o v g state.Absent s at t other = absurd (s.1 v g at t)
  building_is o v g (state.Building u) s at t other = ap state.Building (touched-one plan is m sound u v s.0 g o s.1 at s.2 t)
  building_is o v g state.Live s at t other = absurd (s.1 v g at t)
  building_is o v g (state.Retiring u) s at t other =
      let same = touched-one plan is m sound u v s.0 g o s.1 at s.2 t in
      absurd (other (subst (λ (z : MachineFlight). z.retires ≡ Some o) (same_Some s.0 g (sym s.1 ∙ ap m.board.flights same ∙ at)) s.3))

  pub retiring_is : (o : Owner) (v : ℕ) (g : MachineFlight) (st : NameState) → SharedStands plan m o st → m.board.flights v ≡ Some g → HasChangeOf plan (m.due v) o → g.retires ≡ Some o → st ≡ state.Retiring v
  retiring_is o v g state.Absent s at t mine = absurd (s.1 v g at t)
  retiring_is o v g (state.Building u) s at t mine =
      let same = touched-one plan is m sound u v s.0 g o s.1 at s.2 t in
      absurd (s.3 (subst (λ (z : MachineFlight). z.retires ≡ Some o) (same_Some g s.0 (sym at ∙ ap m.board.flights (sym same) ∙ s.1)) mine))
  retiring_is o v g state.Live s at t mine = absurd (s.1 v g at t)
  retiring_is o v g (state.Retiring u) s at t mine = ap state.Retiring (touched-one plan is m sound u v s.0 g o s.1 at s.2 t)

-- ---- a step of one worker

-- what the others' operations are, and stand on, is as it was
pub record IsAside (plan : Ports) (w : ℕ) (m t : Machine) : Type 0 where
  pub flights : (v : ℕ) → (v ≡ w → ⊥) → t.board.flights v ≡ m.board.flights v
  pub due : (v : ℕ) → (v ≡ w → ⊥) → t.due v ≡ m.due v
  pub reserved : (v : ℕ) → (v ≡ w → ⊥) → t.reserved v ≡ m.reserved v
  pub applied : (v : ℕ) (g : MachineFlight) → (v ≡ w → ⊥) → m.board.flights v ≡ Some g → t.board.applied g.key ≡ m.board.applied g.key
  pub stands : (v : ℕ) (g : MachineFlight) (u : Thing) → (v ≡ w → ⊥) → m.board.flights v ≡ Some g → IsOwnedBy plan (name_of u) (owner.OfRow g.key) → StandsIn m u → StandsIn t u

pub aside_then : (plan : Ports) (w : ℕ) (m t s : Machine) → IsAside plan w m t → IsAside plan w t s → IsAside plan w m s
aside_then plan w m t s x y = record {
  flights = λ v apart. y.flights v apart ∙ x.flights v apart;
  due = λ v apart. y.due v apart ∙ x.due v apart;
  reserved = λ v apart. y.reserved v apart ∙ x.reserved v apart;
  applied = λ v g apart at. y.applied v g apart (x.flights v apart ∙ at) ∙ x.applied v g apart at;
  stands = λ v g u apart at its h. y.stands v g u apart (x.flights v apart ∙ at) its (x.stands v g u apart at its h);
}

pub aside_started : (plan : Ports) (w : ℕ) (m : Machine) (f : MachineFlight) (due : List Change) → IsAside plan w m (started m w f due)
aside_started plan w m f due = record {
  flights = λ v apart. put_off w v (Some f) m.board.flights apart;
  due = λ v apart. put_off w v due m.due apart;
  reserved = λ v apart. put_off w v due m.reserved apart;
  applied = λ v g apart at. refl;
  stands = λ v g u apart at its h. h;
}

pub aside_left : (plan : Ports) (w : ℕ) (m : Machine) (f : MachineFlight) (retires : Option Owner) (due : List Change) → IsAside plan w m (left m w f retires due)
aside_left plan w m f retires due = record {
  flights = λ v apart. put_off w v (Some (parted f retires)) m.board.flights apart;
  due = λ v apart. put_off w v due m.due apart;
  reserved = λ v apart. refl;
  applied = λ v g apart at. refl;
  stands = λ v g u apart at its h. h;
}

module _ (plan : Ports) (is : IsPlan plan) (m : Machine) (sound : IsConsistent plan m) (w : ℕ) (f : MachineFlight) where
  other_key : (v : ℕ) (g : MachineFlight) → (v ≡ w → ⊥) → m.board.flights v ≡ Some g → m.board.flights w ≡ Some f → f.key ≡ g.key → ⊥
  other_key v g apart at there e = apart (sound.board.one v w g f at there (sym e))

  pub aside_finished : m.board.flights w ≡ Some f → IsAside plan w m (finished m w f)
  aside_finished there = record {
    flights = λ v apart. put_off w v None m.board.flights apart;
    due = λ v apart. refl;
    reserved = λ v apart. put_off w v [] m.reserved apart;
    applied = λ v g apart at. row_off f.key g.key f.new m.board.applied (other_key v g apart at there);
    stands = λ v g u apart at its h. h;
  }

  pub aside_moved : (c : Change) (cs : List Change) (stands : List (Rid × Thing)) → Moves m w f c cs stands → IsAside plan w m (moved m w cs stands)
  aside_moved c cs stands moves = record {
    flights = λ v apart. refl;
    due = λ v apart. put_off w v cs m.due apart;
    reserved = λ v apart. refl;
    applied = λ v g apart at. refl;
    stands = λ v g u apart at own h. moves.back u (stays c (StandsIn m u) u (other v g u apart at own) h);
  }
    where
      mine : (o : Owner) × IsOwnedBy plan (changed_name c) o × Concerns plan f o
      mine = its plan (tabled plan is) m sound w f c cs stands moves

      not_row : (v : ℕ) (g : MachineFlight) → (v ≡ w → ⊥) → m.board.flights v ≡ Some g → (o : Owner) → Concerns plan f o → o ≡ owner.OfRow g.key → ⊥
      not_row v g apart at o (inl e) same = other_key v g apart at moves.flying (row_keys f.key g.key (sym e ∙ same))
      not_row v g apart at o (inr (inl h)) same = let r = use_row_in plan f.key f.new o h in shared_row o g.key (are_shared_by plan is f.key r.0 o r.2) same
      not_row v g apart at o (inr (inr h)) same = let was = sound.board.left w f o moves.flying h in shared_row o g.key (are_shared_by plan is f.key was.row o was.used) same

      other : (v : ℕ) (g : MachineFlight) (u : Thing) → (v ≡ w → ⊥) → m.board.flights v ≡ Some g → IsOwnedBy plan (name_of u) (owner.OfRow g.key) → name_of u ≡ changed_name c → ⊥
      other v g u apart at own e = not_row v g apart at mine.0 mine.2 (one_owner plan (changed_name c) mine.0 (owner.OfRow g.key) mine.1 (subst (λ n. IsOwnedBy plan n (owner.OfRow g.key)) e own))

-- ---- and the others

-- a thing of the row that there is now is the key's
pub now_owned : (plan : Ports) (is : IsPlan plan) (f : Operation) → ((r : Row) → f.now ≡ Some r → Fits plan f.key r) → (u : Thing) → IsIn u (own_of plan f.key f.now) → IsOwnedBy plan (name_of u) (owner.OfRow f.key)
now_owned plan is f fits u h = let r = own_row_in plan f.key f.now u h in (tabled plan is).own f.key r.0 u (fits r.0 r.1) r.2

module _ (plan : Ports) (is : IsPlan plan) (capacities : List ℕ) (names : registry.Names) (room : RoomState) (m : Machine) (known : Registers plan 4 capacities names room m) (sound : IsConsistent plan m) (w : ℕ) (t : Machine) (sound' : IsConsistent plan t) (aside : IsAside plan w m t) (names' : registry.Names) (room' : RoomState) (known' : Registers plan 4 capacities names' room' t) where
  group_same : (v : ℕ) (f : Operation) → (v ≡ w → ⊥) → f.worker ≡ v → group_to_build plan names f ≡ group_to_build plan names' f
  group_same v f apart worker = built_same names names' f.worker (group_in (uses_of plan f.key f.new)) (λ hops h. into hops h) (λ hops h. back hops h)
    where
      into : (hops : List WHop) → state_of names (name.Group hops) ≡ state.Building f.worker → state_of names' (name.Group hops) ≡ state.Building f.worker
      into hops h =
          let s = subst (SharedStands plan m (owner.Group hops)) h (known.names_known.shared (owner.Group hops) tt).stands in
          let other : f.worker ≡ w → ⊥ = λ e. apart (sym worker ∙ e) in
          building_is plan is t sound' (owner.Group hops) f.worker s.0 (state_of names' (name.Group hops)) (known'.names_known.shared (owner.Group hops) tt).stands (aside.flights f.worker other ∙ s.1) (subst (λ d. HasChangeOf plan d (owner.Group hops)) (sym (aside.due f.worker other)) s.2) s.3

      back : (hops : List WHop) → state_of names' (name.Group hops) ≡ state.Building f.worker → state_of names (name.Group hops) ≡ state.Building f.worker
      back hops h =
          let s = subst (SharedStands plan t (owner.Group hops)) h (known'.names_known.shared (owner.Group hops) tt).stands in
          let other : f.worker ≡ w → ⊥ = λ e. apart (sym worker ∙ e) in
          building_is plan is m sound (owner.Group hops) f.worker s.0 (state_of names (name.Group hops)) (known.names_known.shared (owner.Group hops) tt).stands (sym (aside.flights f.worker other) ∙ s.1) (subst (λ d. HasChangeOf plan d (owner.Group hops)) (aside.due f.worker other) s.2) s.3

  flown_kept : (v : ℕ) (x : Flown) → (v ≡ w → ⊥) → IsFlown plan names m v x → IsFlown plan names' t v x
  flown_kept v x apart y = record {
    flying = aside.flights v apart ∙ y.flying;
    worker = y.worker;
    due = aside.due v apart ∙ y.due ∙ ap (λ b. left_of_group x.group (whole_group b (group_to_take x.operation)) ++ x.operation.due) same;
    over = y.over;
    some = λ e. y.some (sym at ∙ e);
    rest = subst (λ z. IsRestFrom plan z x.operation) (sym at) y.rest;
    between = subst (λ z. IsBetween z x.operation.new x.operation.now) (sym at) y.between;
    standing = λ u c i j e. aside.stands v (flight_of x.operation) u apart y.flying (now_owned plan is x.operation y.over.now u i) (y.standing u c i j e);
    later = λ hops h. y.later hops (same ∙ h);
    group = λ g h. of g (y.group g h);
    beyond = λ q. ap₂ (λ a b. makes q a - makes q b) (aside.due v apart) (aside.reserved v apart) ∙ y.beyond q;
    reserves = λ r e goes q. ap (makes q) (aside.reserved v apart) ∙ y.reserves r e goes q;
  }
    where
      same : group_to_build plan names x.operation ≡ group_to_build plan names' x.operation
      same = group_same v x.operation apart y.worker

      at : t.board.applied x.operation.key ≡ m.board.applied x.operation.key
      at = aside.applied v (flight_of x.operation) apart y.flying

      of : (g : GroupOperation) → IsGroupFlown plan names x.operation g → IsGroupFlown plan names' x.operation g
      of g z = record { worker = z.worker; is = by z.is; over = z.over; some = z.some; rest = z.rest }
        where
          by : ((g.builds ≡ true) × (group_to_build plan names x.operation ≡ Some g.hops)) ⊎ ((g.builds ≡ false) × (group_to_take x.operation ≡ Some g.hops)) → ((g.builds ≡ true) × (group_to_build plan names' x.operation ≡ Some g.hops)) ⊎ ((g.builds ≡ false) × (group_to_take x.operation ≡ Some g.hops))
          by (inl h) = inl (h.0, sym same ∙ h.1)
          by (inr h) = inr h

  module _ (flown : ℕ → Option Flown) (idle : (v : ℕ) → flown v ≡ None → m.board.flights v ≡ None) (flying : (v : ℕ) (x : Flown) → flown v ≡ Some x → IsFlown plan names m v x) (busy' : HaveDue t) (fine : AreFine names') where
    pub board_with : (x : Flown) → IsFlown plan names' t w x → KnowsBoard plan capacities names' room' (put w (Some x) flown) t
    board_with x new = record {
      registers = known';
      rising = fine.rising;
      busy = busy';
      idle = λ v at. none v (put_by w v (Some x) flown None at);
      flying = λ v y at. some v y (put_by w v (Some x) flown (Some y) at);
      placed = placed_of names' fine;
      there = there_of names' fine;
    }
      where
        none : (v : ℕ) → IsPut w v (Some x) flown None → t.board.flights v ≡ None
        none v (New e one) = never_none x one
        none v (Old apart at) = aside.flights v apart ∙ idle v at

        some : (v : ℕ) (y : Flown) → IsPut w v (Some x) flown (Some y) → IsFlown plan names' t v y
        some v y (New e one) = let same : x ≡ y = cc in subst (IsFlown plan names' t v) same (subst (λ z. IsFlown plan names' t z x) (sym e) new)
        some v y (Old apart at) = flown_kept v y apart (flying v y at)

    pub board_without : t.board.flights w ≡ None → KnowsBoard plan capacities names' room' (put w None flown) t
    board_without free = record {
      registers = known';
      rising = fine.rising;
      busy = busy';
      idle = λ v at. none v (put_by w v None flown None at);
      flying = λ v y at. some v y (put_by w v None flown (Some y) at);
      placed = placed_of names' fine;
      there = there_of names' fine;
    }
      where
        none : (v : ℕ) → IsPut w v None flown None → t.board.flights v ≡ None
        none v (New e one) = ap t.board.flights e ∙ free
        none v (Old apart at) = aside.flights v apart ∙ idle v at

        some : (v : ℕ) (y : Flown) → IsPut w v None flown (Some y) → IsFlown plan names' t v y
        some v y (New e one) = not_some y one
        some v y (Old apart at) = flown_kept v y apart (flying v y at)
