-- the reason that the registry and the room answer is true, and where they answer none the operation may begin
use Rattle.std.proofs.Common.{◌≡◌, ◌⊎◌, ◌+◌, ◌<◌, ◌≤◌, ◌∙◌, inl, inr, ℕ, true, false, List, Option, None, Some, refl, sym, ap, subst, arith, Bool, if◌then◌else◌, option_map, min}
use Rattle.std.proofs.lemmas.Option.{same_Some}
use Rattle.std.proofs.lemmas.Bool.{cases_order, false≢true}
use Rattle.swss_types.proofs.Proper.{mapped}
use Rattle.swss_types.proofs.Choices.{none_mapped}
use Rattle.swss_types.specs.Vrf.{same_vrf}
use Rattle.swss_types.specs.declared.vrf.Vrf.{Vrf}
use Rattle.swss_types.proofs.Routers.{vrf-refl}
use Rattle.table_schema.specs.Plan.{IsPlan, Ports}
use Rattle.table_schema.specs.declared.key.Key.{Key}
use Rattle.table_schema.specs.Names as written
use Rattle.table_schema.specs.declared.row.Row.{Row as BareRow}
use Rattle.table_schema.specs.declared.row.Row.TheVariants as bare_row
use Rattle.sai_types.specs.declared.kind.Kind.{Kind}
use Rattle.sai_types.specs.Alike.{IsIn}
use Rattle.switch_model.specs.Desired.{have_rows}
use Rattle.switch_model.specs.declared.wait.Wait.{Wait}
use Rattle.switch_model.specs.declared.wait.Wait.TheVariants as wait
use Rattle.switch_model.proofs.Ready.{have_rows-from_missing}
use Rattle.switch_model.specs.Placed.{Placed as Row, bare, bare_rows, place, placed_names as names_of, router_in}
use Rattle.row_layout.specs.Operations.{Change, going, own_changes, uses_of}
use Rattle.row_layout.specs.Rows.{Owner}
use Rattle.row_layout.specs.Shared.{uses}
use Rattle.switch_machine.specs.Events.{IsSafe, SwitchState, placed_good}
use Rattle.switch_machine.specs.Flights.{Fits, MachineFlight, HasChangeOf, IsFirm, IsResting, IsRow, IsUser, Machine, goes_over}
use Rattle.switch_machine.specs.Operations.{MayBegin}
use Rattle.sai_types.specs.Objects.{level, used}
use Rattle.sai_types.specs.Refusal.{capacity_of}
use Rattle.switch_model.specs.Placed as row
use Rattle.switch_model.specs.Marks.{IsMoved, IsToGo}
use Rattle.switch_machine.specs.Places.{HasRoomFor, makes, places_kept}
use Rattle.switch_machine.specs.Reasons.{IsFirstInTheWay, IsInTheWay, IsReason, LacksRoom, BringsHolder, TakesNeeded}
use Rattle.switch_machine.specs.Written.{good_of}
use Rattle.switch_machine.proofs.Kept.{no_makes}
use Rattle.switch_machine.proofs.Tabled.{are_shared_by}
use Rattle.switch_machine.proofs.Placing.{bare_placed, names_in, placed_row, row_of}
use Rattle.ref_counts.specs.declared.name.NameState.{NameState}
use Rattle.ref_counts.specs.declared.name.NameState.TheVariants as state
use Rattle.ref_counts.specs.declared.name.Name.TheVariants as name
use Rattle.ref_counts.specs.Registered.{first_of, lesser}
use Rattle.ref_counts.specs.Registry as registry
use Rattle.ref_counts.specs.Registry.{owner_in, registered_at, state_of, users_at, users_of}
use Rattle.ref_counts.specs.Room.{RoomState, lacking, lacks}
use Rattle.ref_counts.specs.declared.pin.Pin.{Pin}
use Rattle.orch_flight.specs.Needing.{busy_for, crowded_for, first_unapplied, holder_of, least_of, missing_for, name_for, or_else, pinning, places_for, row_names, to_build, wait_of, workers_on, least_with, names_needed, pinning_old}
use Rattle.registry_laws.specs.Known.{RowStands, SharedStands, pins_at}
use Rattle.registry_laws.specs.Registers.{AreUsed, HaveDue, Registers, beginning, due_first}
use Rattle.registry_laws.proofs.Listing.{else_none, else_some, first_listed_in, first_least, first_none, least_below, least_in, least_none, never_none, not_some}
use Rattle.registry_laws.proofs.Rooming.{lacking_first, lacking_none, lacks_false, lacks_true}
use Rattle.registry_laws.proofs.Sharing.{absent_first, absent_none, leaving_covers, left_apart}
use Rattle.registry_laws.proofs.Telling.{have_at, in_way, on_row, owner_none, pin_way, pinning_in, pinning_least, pinning_none, row_at, shared_at, unapplied_is, brings_pin, takes_in}
use Rattle.registry_laws.proofs.Going.{GoesOver, going_how}
use Rattle.registry_laws.proofs.Inside.{inside, named_or_firm, named_or_held, placed_none}

least_with_none : (a b : Option ℕ) → least_with a b ≡ None → (a ≡ None) × (b ≡ None)
least_with_none None b h = (refl, h)
least_with_none (Some n) b h = never_none (lesser n b) h

lesser_one : (a b : ℕ) → (min a b ≡ a) ⊎ (min a b ≡ b)
lesser_one a b = by (cases_order a b)
  where
    by : (a ≡ b) ⊎ ((a < b) ⊎ (b < a)) → (min a b ≡ a) ⊎ (min a b ≡ b)
    by (inl same) = inl (omega (arith, same))
    by (inr (inl less)) = inl (omega (arith, less))
    by (inr (inr more)) = inr (omega (arith, more))

module _ (plan : Ports) (is : IsPlan plan) (workers : ℕ) (capacities : List ℕ) (s : SwitchState) (kept : IsSafe plan workers capacities s) (names : registry.Names) (room : RoomState) (known : Registers plan workers capacities names room s.machine) (busy : HaveDue s.machine) (numbers : List ℕ) (are : AreUsed s.machine s.objects numbers) (w : ℕ) (idle : s.machine.board.flights w ≡ None) (k : Key) (rests : IsResting s.machine.board k) (fits : (r : Row) → placed_good plan s.machine.board s.written k ≡ Some r → have_rows (bare_rows s.machine.board.applied) (row_names k r) ≡ true → Fits plan k r) where
  abbrev m : Machine
  m = s.machine

  abbrev old : Option Row
  old = m.board.applied k

  abbrev good : Option BareRow
  good = good_of plan s.written k

  abbrev router : Vrf
  router = router_in (bare_rows m.board.applied) k

  -- ---- nothing is missing

  have_by : (n : Option Row) → missing_for names k n ≡ None → (r : Row) → n ≡ Some r → have_rows (bare_rows m.board.applied) (row_names k r) ≡ true
  have_by None h r e = not_some r e
  have_by (Some x) h r e =
      have_rows-from_missing (bare_rows m.board.applied) (row_names k r) (sym (unapplied_is plan is workers capacities m kept.sound names room known busy (row_names k r)) ∙ subst (λ z. first_unapplied names (row_names k z) ≡ None) (same_Some x r e) (none_mapped wait.Missing (first_unapplied names (row_names k x)) h))

  -- ---- nothing holds

  unheld_by : (n : Option Row) → holder_of names k old n ≡ None → goes_over k old n ≡ true → (q : Key) (r : Row) → m.board.applied q ≡ Some r → IsIn k (row_names q r) → ⊥
  unheld_by n h goes q r at i =
      first_none (users_of names (name.Row k)) q (none_mapped wait.Held (first_of (users_of names (name.Row k))) (sym (ap (λ b. if b then option_map wait.Held (first_of (users_of names (name.Row k))) else None) goes) ∙ h)) (((known.names_known.rows k).users q).1 (r, at, i))

  -- ---- nobody is in the way

  idle_not : (v : ℕ) (g : MachineFlight) → m.board.flights v ≡ Some g → v ≡ w → ⊥
  idle_not v g at e = never_none g (sym at ∙ ap m.board.flights e ∙ idle)

  abbrev pinners : Option ℕ
  pinners = pinning w (registered_at names (name.Row k))

  module _ (n : Option Row) (is_now : placed_good plan s.machine.board s.written k ≡ n) (miss : missing_for names k n ≡ None) (hold : holder_of names k old n ≡ None) where
    inside_by : (r : Row) → n ≡ Some r → (p : Key) → IsIn p (names_of k r) → IsIn p (row_names k r) ⊎ IsFirm m.board p
    inside_by r e p i = named_or_firm plan m.board kept.sound.board k good r p (is_now ∙ e) i

    -- who brings a row that names the key pins it
    pinned : (v : ℕ) (g : MachineFlight) → m.board.flights v ≡ Some g → BringsHolder m k n g → (p : Pin) × IsIn p (pins_at (registered_at names (name.Row k))) × (p.worker ≡ v)
    pinned v g at brings = brings_pin plan is workers capacities m kept.sound names room known busy k n v g (unheld_by n hold brings.0) at brings

    -- who takes away what the new row needs is on a name of it
    abbrev on_needed : Row → List ℕ
    on_needed r = workers_on names (names_needed plan k (Some r))

    takes : (r : Row) → n ≡ Some r → (v : ℕ) (g : MachineFlight) → m.board.flights v ≡ Some g → TakesNeeded plan m k n v g → IsIn v (on_needed r)
    takes r e v g at h = takes_in plan is workers capacities m kept.sound names room known busy k r (have_by n miss r e) (inside_by r e) v g at (subst (λ z. TakesNeeded plan m k z v g) e h)

    way : (r : Row) → n ≡ Some r → (v : ℕ) → IsIn v (on_needed r) → IsInTheWay plan m k n v
    way r e v h = subst (λ z. IsInTheWay plan m k z v) (sym e) (in_way plan is workers capacities m kept.sound names room known busy k r (have_by n miss r e) (inside_by r e) v h)

    -- the workers in the way: those that pin the applied row that is to go, and those on a name that the new row needs
    pin_none : (v : ℕ) (g : MachineFlight) → m.board.flights v ≡ Some g → BringsHolder m k n g → pinners ≡ None → ⊥
    pin_none v g at brings none = let p = pinned v g at brings in pinning_none w (registered_at names (name.Row k)) p.0 none p.1 (λ e. idle_not v g at (sym p.2 ∙ e))

    old_pins : goes_over k old n ≡ true → (x : Option ℕ) → pinning_old names w k old n ≡ x → pinners ≡ x
    old_pins goes x h = sym (ap (λ b. if b then pinners else None) goes) ∙ h

    clear_by : (x : Option Row) → n ≡ x → busy_for plan names w k old x ≡ None → (v : ℕ) → IsInTheWay plan m k n v → ⊥
    clear_by None e h v (g, at, inl brings) = pin_none v g at brings (none_mapped wait.Busy pinners h)
    clear_by None e h v (g, at, inr takes) = not_some takes.0 (sym e ∙ takes.1)
    clear_by (Some r) e h v (g, at, inl brings) =
        let none = least_with_none (pinning_old names w k old (Some r)) (least_of (on_needed r)) (none_mapped wait.Busy (least_with (pinning_old names w k old (Some r)) (least_of (on_needed r))) h) in
        pin_none v g at brings (old_pins brings.0 None (ap (pinning_old names w k old) e ∙ none.0))
    clear_by (Some r) e h v (g, at, inr needed) =
        let none = least_with_none (pinning_old names w k old (Some r)) (least_of (on_needed r)) (none_mapped wait.Busy (least_with (pinning_old names w k old (Some r)) (least_of (on_needed r))) h) in
        least_none (on_needed r) v none.1 (takes r e v g at needed)

    -- the least of those in the way
    abbrev IsBusyOf : Wait → Type 0
    IsBusyOf answer = (v : ℕ) × (wait.Busy v ≡ answer) × IsFirstInTheWay plan m k n v

    pin_in_way : goes_over k old n ≡ true → (v : ℕ) → pinners ≡ Some v → IsInTheWay plan m k n v
    pin_in_way goes v h = let p = pinning_in w v (registered_at names (name.Row k)) h in pin_way plan is workers capacities m kept.sound names room known busy k n v p.0 goes p.1 p.2

    -- none that pins is below the least of them
    pin_below : (v : ℕ) → pinners ≡ Some v → (u : ℕ) (g : MachineFlight) → m.board.flights u ≡ Some g → BringsHolder m k n g → v ≤ u
    pin_below v h u g at brings = let p = pinned u g at brings in subst (λ z. v ≤ z) p.2 (pinning_least w v (registered_at names (name.Row k)) p.0 h p.1 (λ x. idle_not u g at (sym p.2 ∙ x)))

    busy_row : (r : Row) → n ≡ Some r → (a b : Option ℕ) (v : ℕ) → pinning_old names w k old n ≡ a → least_of (on_needed r) ≡ b → least_with a b ≡ Some v → IsFirstInTheWay plan m k n v
    busy_row r e None b v pins needed h = record { way = way r e v (least_in (on_needed r) v (needed ∙ h)); least = λ u x. least u x }
      where
        least : (u : ℕ) → IsInTheWay plan m k n u → v ≤ u
        least u (g, at, inl brings) = absurd (pin_none u g at brings (old_pins brings.0 None pins))
        least u (g, at, inr x) = least_below (on_needed r) v u (needed ∙ h) (takes r e u g at x)
    busy_row r e (Some a) None v pins needed h = record { way = pin_in_way (over (goes_over k old n) refl) v (old_pins (over (goes_over k old n) refl) (Some v) (pins ∙ h)); least = λ u x. least u x }
      where
        over : (b : Bool) → goes_over k old n ≡ b → goes_over k old n ≡ true
        over true g = g
        over false g = not_some a (sym (ap (λ b. if b then pinners else None) g) ∙ pins)

        least : (u : ℕ) → IsInTheWay plan m k n u → v ≤ u
        least u (g, at, inl brings) = pin_below v (old_pins brings.0 (Some v) (pins ∙ h)) u g at brings
        least u (g, at, inr x) = absurd (least_none (on_needed r) u needed (takes r e u g at x))
    busy_row r e (Some a) (Some b) v pins needed h = record { way = either (lesser_one a b); least = λ u x. least u x }
      where
        is_least : min a b ≡ v
        is_least = same_Some (min a b) v h

        over : (t : Bool) → goes_over k old n ≡ t → goes_over k old n ≡ true
        over true g = g
        over false g = not_some a (sym (ap (λ t. if t then pinners else None) g) ∙ pins)

        either : (min a b ≡ a) ⊎ (min a b ≡ b) → IsInTheWay plan m k n v
        either (inl x) = let goes = over (goes_over k old n) refl in pin_in_way goes v (old_pins goes (Some v) (pins ∙ ap Some (sym x ∙ is_least)))
        either (inr x) = way r e v (least_in (on_needed r) v (needed ∙ ap Some (sym x ∙ is_least)))

        least : (u : ℕ) → IsInTheWay plan m k n u → v ≤ u
        least u (g, at, inl brings) = let below = pin_below a (old_pins brings.0 (Some a) pins) u g at brings in omega (arith, below, is_least)
        least u (g, at, inr x) = let below = least_below (on_needed r) b u needed (takes r e u g at x) in omega (arith, below, is_least)

    busy_by : (x : Option Row) → n ≡ x → (answer : Wait) → busy_for plan names w k old x ≡ Some answer → IsBusyOf answer
    busy_by None e answer h =
        let b = mapped wait.Busy pinners answer h in
        (b.0, b.2, record { way = pin_in_way (ap (goes_over k old) e) b.0 b.1; least = λ u x. least b.0 b.1 u x })
      where
        least : (v : ℕ) → pinners ≡ Some v → (u : ℕ) → IsInTheWay plan m k n u → v ≤ u
        least v at u (g, there, inl brings) = pin_below v at u g there brings
        least v at u (g, there, inr takes) = not_some takes.0 (sym e ∙ takes.1)
    busy_by (Some r) e answer h =
        let b = mapped wait.Busy (least_with (pinning_old names w k old (Some r)) (least_of (on_needed r))) answer h in
        (b.0, b.2, busy_row r e (pinning_old names w k old n) (least_of (on_needed r)) b.0 refl refl (ap (λ z. least_with (pinning_old names w k old z) (least_of (on_needed r))) e ∙ b.1))

  -- ---- it may begin

  module _ (n : Option Row) (is_good : placed_good plan s.machine.board s.written k ≡ n) (miss : missing_for names k n ≡ None) (hold : holder_of names k old n ≡ None) (none : busy_for plan names w k old n ≡ None) where
    abbrev flight : MachineFlight
    flight = beginning plan k old n

    abbrev due : List Change
    due = due_first plan names k old n

    named_by : (y : Row) → n ≡ Some y → (p : Key) → IsIn p (row_names k y) → IsFirm m.board p
    named_by y e p i = by (owner_in (state_of names (name.Row p))) refl
      where
        have : have_rows (bare_rows m.board.applied) (row_names k y) ≡ true
        have = have_by n miss y e

        of : (st : NameState) → RowStands m p st → (st ≡ state.Absent) ⊎ (st ≡ state.Live) → IsFirm m.board p
        of st stands (inl a) = absurd (have_at (bare_rows m.board.applied) (row_names k y) p have i (ap (option_map bare) (subst (RowStands m p) a stands).1))
        of st stands (inr a) = live (subst (RowStands m p) a stands)
          where
            live : RowStands m p state.Live → IsFirm m.board p
            live (inl firm) = firm
            live (inr made) = absurd (busy made.worker made.flight made.flying made.done)

        no_way : busy_for plan names w k old (Some y) ≡ None
        no_way = sym (ap (busy_for plan names w k old) e) ∙ none

        by : (o : Option ℕ) → owner_in (state_of names (name.Row p)) ≡ o → IsFirm m.board p
        by None a = of (state_of names (name.Row p)) (row_at plan is workers capacities m kept.sound names room known busy p) (owner_none (state_of names (name.Row p)) a)
        by (Some v) a =
            absurd (least_none (workers_on names (names_needed plan k (Some y))) v
            (least_with_none (pinning_old names w k old (Some y)) (least_of (workers_on names (names_needed plan k (Some y)))) (none_mapped wait.Busy (least_with (pinning_old names w k old (Some y)) (least_of (workers_on names (names_needed plan k (Some y))))) no_way)).1
            (on_row plan is workers capacities m kept.sound names room known busy k y have (inside_by n is_good miss hold y e) p v i a))

    clear : (v : ℕ) → IsInTheWay plan m k n v → ⊥
    clear = clear_by n is_good miss hold n refl none

    firm_by : (p : Key) (r : Row) → n ≡ Some r → IsIn p (names_of k r) → IsFirm m.board p
    firm_by p r e i = by (inside_by n is_good miss hold r e p i)
      where
        by : IsIn p (row_names k r) ⊎ IsFirm m.board p → IsFirm m.board p
        by (inl h) = named_by r e p h
        by (inr firm) = firm

    unnamed : goes_over k old n ≡ true → (q : Key) (r : Row) → IsRow m.board q r → IsIn k (names_of q r) → ⊥
    unnamed goes q r (inl at) i = by (named_or_held plan m.board kept.sound.board q k r (inl at) i)
      where
        by : IsIn k (row_names q r) ⊎ ((h : Key) × (x : Row) × (m.board.applied h ≡ Some x) × IsIn k (row_names h x)) → ⊥
        by (inl h) = unheld_by n hold goes q r at h
        by (inr x) = unheld_by n hold goes x.0 x.1 x.2 x.3
    unnamed goes q r (inr (v, g, at, same, brings)) i = clear v (g, at, inl (goes, (r, brings, subst (λ z. IsIn k (names_of z r)) (sym same) i)))

    free_by : (o : Owner) (x : Option Row) → n ≡ x → IsIn o (uses_of plan k x) → (v : ℕ) (g : MachineFlight) → m.board.flights v ≡ Some g → (HasChangeOf plan (m.due v) o → ⊥) × (g.retires ≡ Some o → ⊥)
    free_by o None e i v g at = elim i [ ]
    free_by o (Some r) e i v g at = (
      λ t. clear v (g, at, inr (r, e, inr (o, i, inl t))),
      λ t. clear v (g, at, inr (r, e, inr (o, i, inr t))),
    )

    built_by : (x : Option Row) → (o : Owner) → to_build plan names k x ≡ Some o → IsIn o (uses_of plan k x) × ((q : Key) → IsUser plan m.board q o → ⊥)
    built_by None o h = not_some o h
    built_by (Some r) o h =
        let a = absent_first names (uses plan k r) o h in
        (a.0, (subst (SharedStands plan m o) a.1 (shared_at plan is workers capacities m kept.sound names room known busy o (are_shared_by plan is k r o a.0))).0)

    found_by : (x : Option Row) → n ≡ x → to_build plan names k x ≡ None → (o : Owner) → IsIn o (uses_of plan k x) → (q : Key) × IsUser plan m.board q o
    found_by None e h o i = elim i [ ]
    found_by (Some r) e h o i = by (state_of names (name_for o)) refl (shared_at plan is workers capacities m kept.sound names room known busy o (are_shared_by plan is k r o i))
      where
        by : (st : NameState) → state_of names (name_for o) ≡ st → SharedStands plan m o st → (q : Key) × IsUser plan m.board q o
        by state.Absent a x = absurd (absent_none names (uses plan k r) o h i a)
        by (state.Building u) a (f, at, t, other) = absurd ((free_by o (Some r) e i u f at).0 t)
        by state.Live a x = x.0
        by (state.Retiring u) a (f, at, t, retires) = absurd ((free_by o (Some r) e i u f at).0 t)

    pub may_begin : MayBegin plan m w flight due
    may_begin = record {
      idle = idle;
      rests = rests;
      fit = λ r h. fits r (is_good ∙ h) (have_by n miss r h);
      named = firm_by;
      goes = refl;
      inside = λ i ip len v u e at there. inside plan m.board kept.sound.board k good i ip len v u e (is_good ∙ at) there;
      unnamed = unnamed;
      free = λ o i v g at. free_by o n refl i v g at;
      none = refl;
      leaves = λ o h. left_apart (uses_of plan k n) (uses_of plan k old) o h;
      covers = λ o h. leaving_covers plan k old n o h;
      operation = record { builds = to_build plan names k n; is = refl; built = built_by n; found = found_by n refl };
    }

    pub has_room : crowded_for plan names room numbers k old n ≡ None → HasRoomFor workers capacities s.objects m due
    has_room h kind some =
        lacks_false workers capacities room m known.few known.below kept.covered known.room_known s.objects numbers are due kind
        (lacking_none room (places_for due) numbers (none_mapped wait.NoRoom (lacking room (places_for due) numbers) h) kind) some

    -- a row that goes needs no room
    none_made : (kind : Kind) (x : Option Row) → x ≡ None → makes kind (due_first plan names k old x) ≡ 0
    none_made kind (Some r) e = never_none r e
    none_made kind None e = by old
      where
        by : (o : Option Row) → makes kind (own_changes plan k o None) ≡ 0
        by None = refl
        by (Some a) = no_makes kind (going plan k a)

    pub lacks_room : (answer : Wait) → crowded_for plan names room numbers k old n ≡ Some answer → IsReason plan workers capacities s k answer
    lacks_room answer h = of (mapped wait.NoRoom (lacking room (places_for due) numbers) answer h)
      where
        of : (kind : Kind) × (lacking room (places_for due) numbers ≡ Some kind) × (wait.NoRoom kind ≡ answer) → IsReason plan workers capacities s k answer
        of (kind, at, same) = subst (IsReason plan workers capacities s k) same (row n refl)
          where
            first : (lacks room (places_for due) numbers kind ≡ true) × ((low : Kind) → level low < level kind → lacks room (places_for due) numbers low ≡ false)
            first = lacking_first room (places_for due) numbers kind at

            lack : (0 < makes kind due) × (capacity_of capacities kind < used s.objects kind + places_kept workers m kind + makes kind due)
            lack = lacks_true workers capacities room m known.few known.below kept.covered known.room_known s.objects numbers are due kind first.0

            row : (x : Option Row) → n ≡ x → LacksRoom plan workers capacities s k kind
            row None e = let a = none_made kind n e in let b = lack.0 in absurd (omega (arith, a, b))
            row (Some r) e = let at = placed_row router good r (is_good ∙ e) in record {
              worker = w;
              flight = flight;
              due = due;
              begins = may_begin;
              is = refl;
              row = bare r;
              new = sym is_good ∙ ap (option_map (place router)) at;
              good = at;
              some = lack.0;
              many = lack.1;
              lower = λ low less some. lacks_false workers capacities room m known.few known.below kept.covered known.room_known s.objects numbers are due low (first.1 low less) some;
            }

  -- ---- the reasons

  module _ (n : Option Row) (is_good : placed_good plan s.machine.board s.written k ≡ n) where
    missing_by : (x : Option Row) (answer : Wait) → n ≡ x → missing_for names k x ≡ Some answer → IsReason plan workers capacities s k answer
    missing_by None answer e h = not_some answer h
    missing_by (Some r) answer e h =
        let x = mapped wait.Missing (first_unapplied names (row_names k r)) answer h in
        subst (IsReason plan workers capacities s k) x.2 (rests, (bare r, placed_row router good r (is_good ∙ e), sym (unapplied_is plan is workers capacities m kept.sound names room known busy (row_names k r)) ∙ x.1))

    -- the applied row of the key is to go
    to_go : missing_for names k n ≡ None → goes_over k old n ≡ true → IsToGo (good_of plan s.written) (bare_rows m.board.applied) k
    to_go miss goes = by (going_how k old n goes)
      where
        by : (n ≡ None) ⊎ GoesOver k old n → IsToGo (good_of plan s.written) (bare_rows m.board.applied) k
        by (inl e) = inl (placed_none router good (is_good ∙ e))
        by (inr x) = inr (
          bare_row.Intf x.router_was,
          bare_row.Intf x.router_is,
          ap (option_map bare) x.old_is,
          placed_row router good (row.Intf x.router_is) (is_good ∙ x.new_is),
          have_by n miss (row.Intf x.router_is) x.new_is,
          subst (λ z. IsMoved z (bare_row.Intf x.router_was) (bare_row.Intf x.router_is)) (sym x.key_is) (λ same. false≢true (sym x.apart ∙ subst (λ v. same_vrf x.router_was v ≡ true) same (vrf-refl x.router_was))),
        )

    held_by : (answer : Wait) → missing_for names k n ≡ None → holder_of names k old n ≡ Some answer → IsReason plan workers capacities s k answer
    held_by answer miss h = by (goes_over k old n) refl
      where
        held : goes_over k old n ≡ true → option_map wait.Held (first_of (users_of names (name.Row k))) ≡ Some answer → IsReason plan workers capacities s k answer
        held goes there =
            let x = mapped wait.Held (first_of (users_of names (name.Row k))) answer there in
            let user = ((known.names_known.rows k).users x.0).0 (first_listed_in (users_of names (name.Row k)) x.0 x.1) in
            let firm = kept.sound.board.named x.0 k user.0 (inl user.1) (names_in x.0 user.0 k user.2) in
            subst (IsReason plan workers capacities s k) x.2 (
              rests,
              to_go miss goes,
              (
                bare firm.row,
                ap (option_map bare) firm.applied,
                record {
                  row = bare user.0;
                  applied_row = ap (option_map bare) user.1;
                  names = user.2;
                  least = λ other r at i. let y = row_of (m.board.applied other) r at in first_least (users_of names (name.Row k)) x.0 other (known.names_known.rows k).rising x.1 (((known.names_known.rows k).users other).1 (y.0, y.1, subst (λ z. IsIn k (written.names_of other z)) (sym y.2) i));
                },
              ),
            )

        by : (b : Bool) → goes_over k old n ≡ b → IsReason plan workers capacities s k answer
        by true e = held e (sym (ap (λ b. if b then option_map wait.Held (first_of (users_of names (name.Row k))) else None) e) ∙ h)
        by false e = not_some answer (sym (ap (λ b. if b then option_map wait.Held (first_of (users_of names (name.Row k))) else None) e) ∙ h)

    abbrev later : Option Wait
    later = or_else (busy_for plan names w k old n) (crowded_for plan names room numbers k old n)

    pub reason_by : (option_map bare (m.board.applied k) ≡ good_of plan s.written k → ⊥) → (answer : Wait) → wait_of plan names room numbers w k old n ≡ Some answer → IsReason plan workers capacities s k answer
    reason_by differs answer h = first (else_some (missing_for names k n) (or_else (holder_of names k old n) (or_else (busy_for plan names w k old n) (crowded_for plan names room numbers k old n))) answer h)
      where
        last : (missing_for names k n ≡ None) → (holder_of names k old n ≡ None) → (busy_for plan names w k old n ≡ Some answer) ⊎ ((busy_for plan names w k old n ≡ None) × (crowded_for plan names room numbers k old n ≡ Some answer)) → IsReason plan workers capacities s k answer
        last miss hold (inl x) =
            let b = busy_by n is_good miss hold n refl answer x in
            subst (IsReason plan workers capacities s k) b.1 (inr (
              record {
                rests = rests;
                differs = differs;
                named = λ r e. subst (λ z. have_rows (bare_rows m.board.applied) (written.names_of k z) ≡ true) (bare_placed router r) (have_by n miss (place router r) (sym is_good ∙ ap (option_map (place router)) e));
                unheld = λ goes q r at i. let y = row_of (m.board.applied q) r at in unheld_by n hold (sym (ap (goes_over k old) is_good) ∙ goes) q y.0 y.1 (subst (λ z. IsIn k (written.names_of q z)) (sym y.2) i);
              },
              subst (λ z. IsFirstInTheWay plan m k z b.0) (sym is_good) b.2,
            ))
        last miss hold (inr (none, x)) = lacks_room n is_good miss hold none answer x

        next : (missing_for names k n ≡ None) → (holder_of names k old n ≡ Some answer) ⊎ ((holder_of names k old n ≡ None) × (later ≡ Some answer)) → IsReason plan workers capacities s k answer
        next miss (inl x) = held_by answer miss x
        next miss (inr (hold, x)) = last miss hold (else_some (busy_for plan names w k old n) (crowded_for plan names room numbers k old n) answer x)

        first : (missing_for names k n ≡ Some answer) ⊎ ((missing_for names k n ≡ None) × (or_else (holder_of names k old n) later ≡ Some answer)) → IsReason plan workers capacities s k answer
        first (inl x) = missing_by n answer refl x
        first (inr (miss, x)) = next miss (else_some (holder_of names k old n) later answer x)

    abbrev Nones : Type 0
    Nones = (missing_for names k n ≡ None) × (holder_of names k old n ≡ None) × (busy_for plan names w k old n ≡ None) × (crowded_for plan names room numbers k old n ≡ None)

    nones : wait_of plan names room numbers w k old n ≡ None → Nones
    nones h =
        let a = else_none (missing_for names k n) _ h in
        let b = else_none (holder_of names k old n) _ a.1 in
        let c = else_none (busy_for plan names w k old n) _ b.1 in
        (a.0, b.0, c.0, c.1)

    pub begins_by : wait_of plan names room numbers w k old n ≡ None → MayBegin plan m w (beginning plan k old n) (due_first plan names k old n)
    begins_by h = let x = nones h in may_begin n is_good x.0 x.1 x.2

    pub room_by : wait_of plan names room numbers w k old n ≡ None → HasRoomFor workers capacities s.objects m (due_first plan names k old n)
    room_by h = let x = nones h in has_room n is_good x.0 x.1 x.2 x.3
