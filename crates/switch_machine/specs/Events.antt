-- The core with its chip, and its events. Own.
use Rattle.std.specs.Prelude.{◌≡◌, ◌⊎◌, ◌+◌, ◌<◌, ◌∷◌, ℕ, true, List, [], Option, Some, None, option_map}
use Rattle.table_schema.specs.Plan.{Ports}
use Rattle.table_schema.specs.declared.key.Key.{Key}
use Rattle.sai_types.specs.declared.ids.Rid.{Rid}
use Rattle.sai_types.specs.declared.body.Call.{Call}
use Rattle.sai_types.specs.declared.thing.Thing.{Thing}
use Rattle.sai_types.specs.After.{after_call}
use Rattle.sai_types.specs.Alike.{IsIn}
use Rattle.sai_types.specs.Made.{IsWhole, made_after}
use Rattle.sai_types.specs.Objects.{Objects}
use Rattle.table_schema.specs.declared.write.Write.{Write}
use Rattle.switch_machine.specs.Written.{HasNoWrite, HasWrittenRows, IsAsBefore, IsGoodOnce, IsPoppedKey, IsTold, TakesWrite, Written, good_of}
use Rattle.chip_layout.specs.Layout.{IsLaidOut, Layout, has_number, listed, next_rid}
use Rattle.switch_model.specs.Placed.{Placed as Row, bare, bare_rows, place, router_in}
use Rattle.row_layout.specs.Rows.{Owner}
use Rattle.row_layout.specs.Operations.{Change, Make, Set, Take, shared_going, take_all}
use Rattle.switch_machine.specs.Changes.{IsCall, changed_by}
use Rattle.switch_machine.specs.Flights.{MachineBoard, MachineFlight, IsResting, IsRow, Machine}
use Rattle.switch_machine.specs.Steps.{Ends, LeavesOthers, finished, left, moved, parted, started}
use Rattle.switch_machine.specs.Operations.{MayBegin, IsLast}
use Rattle.switch_machine.specs.Places.{AreCovered, HasPlaces, HasRoomFor}
use Rattle.switch_machine.specs.Consistent.{IsCurrent, IsConsistent}

-- the machine, what was written, the keys to sync, and the chip
pub record SwitchState : Type 0 where
  pub machine : Machine
  pub written : Written
  pub to_sync : List Key
  pub made : ℕ
  pub objects : Objects

-- ---- events

-- a write is taken
pub record IsTake (s t : SwitchState) : Type 0 where
  pub write : Write
  pub taken : TakesWrite write s.written t.written
  pub machine : t.machine ≡ s.machine
  pub to_sync : t.to_sync ≡ s.to_sync
  pub made : t.made ≡ s.made
  pub objects : t.objects ≡ s.objects

-- what a pop makes of a key: it is as before; or a write of it waited, it is popped, and is to sync
pub data PopsKey (s t : SwitchState) (k : Key) : Type 0 where
  Stays : IsAsBefore s.written t.written k → (IsIn k t.to_sync → IsIn k s.to_sync) → PopsKey s t k
  Popped : (HasNoWrite s.written k → ⊥) → IsPoppedKey s.written t.written k → IsIn k t.to_sync → PopsKey s t k

-- keys that are popped are to sync
pub record IsPop (s t : SwitchState) : Type 0 where
  pub taken : t.written.taken ≡ s.written.taken
  pub keys : (k : Key) → PopsKey s t k
  pub kept : (k : Key) → IsIn k s.to_sync → IsIn k t.to_sync
  pub machine : t.machine ≡ s.machine
  pub made : t.made ≡ s.made
  pub objects : t.objects ≡ s.objects

-- a key was one of those to sync, and leaves them
pub record HasLeft (k : Key) (to_sync later : List Key) : Type 0 where
  pub there : IsIn k to_sync
  pub gone : IsIn k later → ⊥
  pub others : (q : Key) → IsIn q to_sync → (q ≡ k) ⊎ IsIn q later
  pub only : (q : Key) → IsIn q later → IsIn q to_sync

-- a key has its good row already
pub record IsDrop (plan : Ports) (s t : SwitchState) : Type 0 where
  pub key : Key
  pub rests : IsResting s.machine.board key
  pub same : option_map bare (s.machine.board.applied key) ≡ good_of plan s.written key
  pub machine : t.machine ≡ s.machine
  pub written : t.written ≡ s.written
  pub made : t.made ≡ s.made
  pub objects : t.objects ≡ s.objects
  pub to_sync : HasLeft key s.to_sync t.to_sync

-- what follows in the same event: nothing, where a change is due; the end; or the key leaves what it shared
pub data Follows (plan : Ports) (w : ℕ) (m : Machine) : Machine → Type 0 where
  Due : (c : Change) (cs : List Change) → m.due w ≡ c ∷ cs → Follows plan w m m
  Ended : (f : MachineFlight) → Ends m w f → Follows plan w m (finished m w f)
  Left : (f : MachineFlight) (o : Owner) → LeavesOthers plan m w f o → Follows plan w m (finished (left m w f f.retires []) w (parted f f.retires))
  Retires : (f : MachineFlight) (o : Owner) → IsLast plan m w f o → Follows plan w m (left m w f (Some o) (take_all (shared_going o) []))

-- the good row of a key in its place: an address in the router of its interface's applied row
abbrev pub placed_good : Ports → MachineBoard → Written → Key → Option Row
placed_good plan b written k = option_map (place (router_in (bare_rows b.applied) k)) (good_of plan written k)

-- an operation begins
pub record IsBegin (plan : Ports) (workers : ℕ) (capacities : List ℕ) (s t : SwitchState) : Type 0 where
  pub worker : ℕ
  pub below : worker < workers
  pub flight : MachineFlight
  pub due : List Change
  pub new : flight.new ≡ placed_good plan s.machine.board s.written flight.key
  pub begins : MayBegin plan s.machine worker flight due
  pub room : HasRoomFor workers capacities s.objects s.machine due
  pub follows : Follows plan worker (started s.machine worker flight due) t.machine
  pub written : t.written ≡ s.written
  pub made : t.made ≡ s.made
  pub objects : t.objects ≡ s.objects
  pub to_sync : HasLeft flight.key s.to_sync t.to_sync

-- the identifier of what a call makes or sets
abbrev pub IsGiven : (layout : Layout Rid) → ℕ → (c : Change) (call : Call Rid) → IsCall layout c call → Rid → Type 0
IsGiven layout made (Make t) call x i = has_number t ≡ true → i ≡ next_rid made
IsGiven layout made (Set t) call x i = i ≡ x.id
IsGiven layout made (Take n) call x i = Unit {0}

-- a call is that of the change that is due for a worker
pub record IsDueCall (workers : ℕ) (call : Call Rid) (s : SwitchState) : Type 0 where
  pub worker : ℕ
  pub below : worker < workers
  pub flight : MachineFlight
  pub change : Change
  pub rest : List Change
  pub flying : s.machine.board.flights worker ≡ Some flight
  pub due : s.machine.due worker ≡ change ∷ rest
  pub of : IsCall (listed s.machine.stands) change call

-- the call that is due is made
pub record IsAnswer (plan : Ports) (workers : ℕ) (call : Call Rid) (s t : SwitchState) : Type 0 where
  pub next : IsDueCall workers call s
  pub id : Rid
  pub given : IsGiven (listed s.machine.stands) s.made next.change call next.of id
  pub stands : List (Rid × Thing)
  pub into : (i : Rid) (t : Thing) → changed_by (listed s.machine.stands) next.change id i t → listed stands i t
  pub back : (i : Rid) (t : Thing) → listed stands i t → changed_by (listed s.machine.stands) next.change id i t
  pub follows : Follows plan next.worker (moved s.machine next.worker next.rest stands) t.machine
  pub written : t.written ≡ s.written
  pub to_sync : t.to_sync ≡ s.to_sync
  pub made : t.made ≡ made_after s.made call
  pub objects : t.objects ≡ after_call (s.made + 1) s.objects call

-- an event, with the call that it makes
abbrev pub IsEvent : Ports → ℕ → List ℕ → SwitchState → Option (Call Rid) → SwitchState → Type 0
IsEvent plan workers capacities s None t = IsTake s t ⊎ (IsPop s t ⊎ (IsDrop plan s t ⊎ IsBegin plan workers capacities s t))
IsEvent plan workers capacities s (Some call) t = IsAnswer plan workers call s t

-- ---- runs

abbrev pub AreEvents : Ports → ℕ → List ℕ → SwitchState → List (Option (Call Rid) × SwitchState) → Type 0
AreEvents plan workers capacities s [] = Unit {0}
AreEvents plan workers capacities s (e ∷ es) = IsEvent plan workers capacities s e.0 e.1 × AreEvents plan workers capacities e.1 es

abbrev pub after_events : SwitchState → List (Option (Call Rid) × SwitchState) → SwitchState
after_events s [] = s
after_events s (e ∷ es) = after_events e.1 es

abbrev pub with_made_call : Option (Call Rid) → List (Call Rid) → List (Call Rid)
with_made_call None calls = calls
with_made_call (Some call) calls = call ∷ calls

abbrev pub calls_of : List (Option (Call Rid) × SwitchState) → List (Call Rid)
calls_of [] = []
calls_of (e ∷ es) = with_made_call e.0 (calls_of es)

-- a run of answers alone
abbrev pub AreAnswers : Ports → ℕ → SwitchState → List (Call Rid × SwitchState) → Type 0
AreAnswers plan workers s [] = Unit {0}
AreAnswers plan workers s (e ∷ es) = IsAnswer plan workers e.0 s e.1 × AreAnswers plan workers e.1 es

-- the changes that they made, in order
abbrev pub changes_made : (plan : Ports) (workers : ℕ) (s : SwitchState) (es : List (Call Rid × SwitchState)) → AreAnswers plan workers s es → List Change
changes_made plan workers s [] run = []
changes_made plan workers s (e ∷ es) run = run.0.next.change ∷ changes_made plan workers e.1 es run.1

abbrev pub after_answers : SwitchState → List (Call Rid × SwitchState) → SwitchState
after_answers s [] = s
after_answers s (e ∷ es) = after_answers e.1 es

-- ---- what holds between events

pub record IsSafe (plan : Ports) (workers : ℕ) (capacities : List ℕ) (s : SwitchState) : Type 0 where
  pub sound : IsConsistent plan s.machine
  pub whole : IsWhole s.made s.objects
  pub laid : IsLaidOut (listed s.machine.stands) s.objects
  pub places : HasPlaces workers capacities s.objects s.machine
  -- a key that is not to sync has its good row, or an operation brings it there
  pub synced : (k : Key) → IsIn k s.to_sync ⊎ IsCurrent s.machine.board (good_of plan s.written) k
  pub told : IsTold s.written
  pub covered : AreCovered s.machine
  -- each row of the tables is one that was written, and each row that is applied or to be applied was good once
  pub dated : HasWrittenRows s.written
  pub good : (k : Key) (r : Row) → IsRow s.machine.board k r → IsGoodOnce plan s.written.taken k (bare r)

-- no operation is under way
abbrev pub IsQuiet : SwitchState → Type 0
IsQuiet s = (w : ℕ) (f : MachineFlight) → s.machine.board.flights w ≡ Some f → ⊥

abbrev pub empty_machine : Machine
empty_machine = record { board = record { applied = λ k. None; flights = λ w. None }; due = λ w. []; reserved = λ w. []; stands = [] }

-- over an empty view, where these keys are to sync
abbrev pub fresh_view : Written → List Key → SwitchState
fresh_view written keys = record { machine = empty_machine; written = written; to_sync = keys; made = 0; objects = [] }

abbrev pub no_writes : Written
no_writes = record { taken = []; rows = λ k. None; waiting = λ k o. o }

-- a session begins over an empty chip
abbrev pub empty_switch : SwitchState
empty_switch = fresh_view no_writes []
