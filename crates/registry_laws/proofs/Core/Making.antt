-- the call that is due for a worker is made
use Rattle.std.proofs.Common.{◌≡◌, ◌∙◌, ℕ, true, List, [], Option, None, Some, is_some, refl, sym, ap}
use Rattle.table_schema.specs.Plan.{IsPlan, Ports}
use Rattle.table_schema.specs.declared.key.Key.{Key}
use Rattle.sai_types.specs.declared.body.Attr.{Attr}
use Rattle.sai_types.specs.declared.body.Body.{Body}
use Rattle.sai_types.specs.declared.body.Call.{Call}
use Rattle.sai_types.specs.declared.body.Call.TheVariants as call_as
use Rattle.sai_types.specs.declared.body.Entry.{Entry}
use Rattle.sai_types.specs.declared.body.Entry.TheVariants as entry
use Rattle.sai_types.specs.declared.ids.Rid.{Rid}
use Rattle.sai_types.specs.declared.ids.Vid.{Vid}
use Rattle.sai_types.specs.declared.thing.Thing.{Thing}
use Rattle.sai_types.specs.After.{makes_id}
use Rattle.sai_types.specs.Names.{ThingName}
use Rattle.chip_layout.specs.Layout.{Layout, has_number, listed, next_rid}
use Rattle.chip_layout.specs.Renamed.{call_renamed}
use Rattle.switch_model.specs.Placed.{Placed as Row}
use Rattle.row_layout.specs.Operations.{Change, Make, Set, Take}
use Rattle.switch_machine.specs.Changes.{IsCall}
use Rattle.switch_machine.specs.Events.{Follows, IsAnswer, IsDueCall, IsGiven, IsSafe, SwitchState}
use Rattle.switch_machine.specs.Flights.{Machine, put}
use Rattle.switch_machine.specs.Steps.{Moves, moved}
use Rattle.switch_machine.proofs.Kept.{kept-answers, moves_back, moves_by}
use Rattle.machine_laws.proofs.Completing.{Changed, change_made}
use Rattle.ref_counts.specs.Registry.{Names}
use Rattle.ref_counts.specs.Room.{GivesBack, RoomState}
use Rattle.orch_flight.specs.Calling.{HasVid, IsCallFor}
use Rattle.registry_laws.specs.Ending.{ended_names, MayEnd}
use Rattle.registry_laws.specs.Flown.{Flown, due_for, flight_of}
use Rattle.registry_laws.specs.Flying.{KnowsBoard}
use Rattle.registry_laws.proofs.Fine.{AreFine}
use Rattle.registry_laws.specs.Identified.{HasWholeGroups, Identified, TiesAfter, tie_by, HasWholeInterfaces}
use Rattle.registry_laws.proofs.Identifier.Entering.{taken_entry}
use Rattle.registry_laws.proofs.Identifier.Whole.{whole_ended}
use Rattle.registry_laws.specs.Calls.{TiesFollowCall}
use Rattle.registry_laws.specs.Standing.{StandsFor, with_answer}
use Rattle.registry_laws.proofs.Core.Due.{IsNext}
use Rattle.registry_laws.proofs.Core.Ended.{ended_identified, passed_rising}
use Rattle.registry_laws.proofs.Core.Nexts.{below, its}
use Rattle.registry_laws.proofs.Core.Taken.{making_number}
use Rattle.registry_laws.proofs.Identifier.Interfaces.{interfaces_ended}

-- ---- how identifiers are tied

some_of : (made : Option Vid) → is_some made ≡ true → (v : Vid) × (made ≡ Some v)
some_of None h = absurd cc
some_of (Some v) h = (v, refl)

given_by : (L : Layout Rid) (made : ℕ) (call : Call Rid) (d : Change) (of : IsCall L d call) (i : Rid) → IsGiven L made d call of i → (t : Thing) → d ≡ Make t → has_number t ≡ true → i ≡ next_rid made
given_by L made call (Make u) of i given t e h = let same : u ≡ t = cc in given (ap has_number same ∙ h)
given_by L made call (Set u) of i given t e h = absurd cc
given_by L made call (Take n) of i given t e h = absurd cc

ties_by : (plan : Ports) (names : Names) (rid rid' : Vid → Option Rid) (c : Call Vid) (made : Option Vid) (number : is_some made ≡ makes_id c) (next : Rid) (ties : TiesFollowCall rid rid' c made next) (has : ThingName → Vid → Type 0) (things : List Thing) (d : Change) → IsCallFor has things d c → (i : Rid) → ((t : Thing) → d ≡ Make t → has_number t ≡ true → i ≡ next) → ((n : ThingName) → d ≡ Take n → (v : Vid) → has n v → HasVid plan names n v) → TiesAfter plan names rid rid' d made i
ties_by plan names rid rid' c made number next ties has things (Make t) told i given take = (
  (λ v j e. ties.kept v j (λ r. no_create told.body v (sym told.is ∙ r)) e),
  (λ h. let v = some_of made (number ∙ making_number has t c told ∙ h) in (v.0, v.1, ties.new v.0 v.1 ∙ ap Some (sym (given t refl h)))),
)
  where
    no_create : (b : Body Vid) (v : Vid) → call_as.Create b ≡ call_as.Remove (entry.Oid v) → ⊥
    no_create b v e = cc
ties_by plan names rid rid' c made number next ties has things (Set u) told i given take = λ v j e. ties.kept v j (λ r. no_set told.entry told.attr v (sym told.is ∙ r)) e
  where
    no_set : (e : Entry Vid) (a : Attr Vid) (v : Vid) → call_as.Set e a ≡ call_as.Remove (entry.Oid v) → ⊥
    no_set e a v h = cc
ties_by plan names rid rid' c made number next ties has things (Take n) told i given take = λ v j none e. ties.kept v j (λ r. none (take n refl v (taken_entry has things n c v told r))) e

-- ---- the call is made

module _ (plan : Ports) (is : IsPlan plan) (capacities : List ℕ) (names : Names) (room : RoomState) (flown : ℕ → Option Flown) (rid : Vid → Option Rid) (s : SwitchState) (stands : StandsFor plan capacities names room flown rid s) (w : ℕ) (x : Flown) (at : flown w ≡ Some x) (c : Call Vid) (has : ThingName → Vid → Type 0) (things : List Thing) (y : IsNext plan is capacities names room flown rid s stands w x at c has things) where
  abbrev m : Machine
  m = s.machine

  abbrev call : Call Rid
  call = call_renamed (tie_by rid) c

  -- what stands then
  pub then : Changed m.stands s.made y.change call y.of
  then = change_made m.stands s.made y.change call y.of

  abbrev pub later : List (Rid × Thing)
  later = then.later

  pub moves : Moves m w (flight_of x.operation) y.change y.rest later
  moves = record {
    flying = (its plan is capacities names room flown rid s stands w x at).flying;
    due = y.due;
    into = moves_by m y.change then.id later then.back;
    back = moves_back m y.change then.id later then.into;
  }

  abbrev pub next : IsDueCall 4 call s
  next = record { worker = w; below = below plan is capacities names room flown rid s stands w x at; flight = flight_of x.operation; change = y.change; rest = y.rest; flying = (its plan is capacities names room flown rid s stands w x at).flying; due = y.due; of = y.of }

  abbrev pub answer : (t : Machine) → Follows plan w (moved m w y.rest later) t → IsAnswer plan 4 call s (with_answer s t call)
  answer t follows = record { next = next; id = then.id; given = then.given; stands = later; into = then.into; back = then.back; follows = follows; written = refl; to_sync = refl; made = refl; objects = refl }

  module _ (made : Option Vid) (rid' : Vid → Option Rid) (number : is_some made ≡ makes_id c) (ties : TiesFollowCall rid rid' c made (next_rid s.made)) where
    pub tied : ((n : ThingName) → y.change ≡ Take n → (v : Vid) → has n v → HasVid plan names n v) → TiesAfter plan names rid rid' y.change made then.id
    tied take = ties_by plan names rid rid' c made number (next_rid s.made) ties has things y.change y.told then.id (given_by (listed m.stands) s.made call y.change y.of then.id then.given) take

-- ---- what stands for the state then

module _ (plan : Ports) (capacities : List ℕ) (rid rid' : Vid → Option Rid) (flown : ℕ → Option Flown) (room : RoomState) (s : SwitchState) (w : ℕ) (c : Call Vid) (names' : Names) where
  abbrev pub Answers : Machine → Type 0
  Answers t = (z : IsAnswer plan 4 (call_renamed (tie_by rid) c) s (with_answer s t (call_renamed (tie_by rid) c))) × (z.next.worker ≡ w)

  -- the operation goes on
  abbrev pub On : Flown → Type 0
  On z = (due_for plan names' z ≡ [] → ⊥) → (t : Machine) × Answers t × StandsFor plan capacities names' room (put w (Some z) flown) rid' (with_answer s t (call_renamed (tie_by rid) c))

  -- it has ended
  abbrev pub Over : Flown → Type 0
  Over z = (given : RoomState) → MayEnd names' w z.operation.key z.operation.new → due_for plan names' z ≡ [] → GivesBack room w given → (t : Machine) × Answers t × StandsFor plan capacities (ended_names names' w z.operation.key (s.machine.board.applied z.operation.key) z.operation.new) given (put w None flown) rid' (with_answer s t (call_renamed (tie_by rid) c))

  abbrev pub Both : Flown → Type 0
  Both z = On z × Over z

  module _ (is : IsPlan plan) (kept : IsSafe plan 4 capacities s) (t : Machine) (answers : Answers t) (whole : HasWholeGroups names') (interfaces : HasWholeInterfaces names') where
    safe : IsSafe plan 4 capacities (with_answer s t (call_renamed (tie_by rid) c))
    safe = kept-answers plan is 4 capacities s (with_answer s t (call_renamed (tie_by rid) c)) kept (call_renamed (tie_by rid) c) answers.0

    pub stands_on : (z : Flown) → KnowsBoard plan capacities names' room (put w (Some z) flown) t → Identified plan names' rid' (put w (Some z) flown) t.stands → StandsFor plan capacities names' room (put w (Some z) flown) rid' (with_answer s t (call_renamed (tie_by rid) c))
    stands_on z board known = record { safe = safe; board = board; identified = known; whole = whole; interfaces = interfaces }

    pub stands_over : (k : Key) (new : Option Row) (given : RoomState) → MayEnd names' w k new → KnowsBoard plan capacities (ended_names names' w k (s.machine.board.applied k) new) given (put w None flown) t → Identified plan names' rid' (put w None flown) t.stands → AreFine names' → StandsFor plan capacities (ended_names names' w k (s.machine.board.applied k) new) given (put w None flown) rid' (with_answer s t (call_renamed (tie_by rid) c))
    stands_over k new given may_end board known fine = record {
      safe = safe;
      board = board;
      identified = ended_identified plan t safe.sound names' fine w k (s.machine.board.applied k) rid' (put w None flown) known new may_end board.registers.names_known;
      whole = whole_ended names' w k (s.machine.board.applied k) new whole;
      interfaces = interfaces_ended plan is t safe.sound board.busy names' w k (s.machine.board.applied k) new rid' (put w None flown) may_end interfaces known (passed_rising names' w k (s.machine.board.applied k) fine) board.registers.names_known;
    }
