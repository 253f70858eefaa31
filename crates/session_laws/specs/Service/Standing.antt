-- When a core and its chip stand for a session of the service, in each warm state. Own.
use Rattle.std.specs.Prelude.{◌≡◌, ◌+◌, ◌<◌, ◌++◌, ℕ, true, List, [], Option, Some, None}
use Rattle.std.specs.List.Sorted.{IsStrictlySortedBy}
use Rattle.std.specs.Map.{keys_of}
use Rattle.table_schema.specs.Plan.{IsPlan}
use Rattle.table_schema.specs.declared.key.Key.{Key}
use Rattle.table_schema.specs.declared.write.Write.{Write}
use Rattle.sai_types.specs.declared.body.Body.{Body}
use Rattle.sai_types.specs.declared.body.Call.{Call}
use Rattle.sai_types.specs.declared.body.Entry.TheVariants as entry
use Rattle.sai_types.specs.declared.body.Object.{Object}
use Rattle.sai_types.specs.declared.ids.Rid.{Rid}
use Rattle.sai_types.specs.declared.ids.Vid.{Vid}
use Rattle.sai_types.specs.declared.plan.Plan.{Plan}
use Rattle.sai_types.specs.declared.plan.PlanCall.{PlanCall}
use Rattle.sai_types.specs.declared.thing.Thing.{Thing}
use Rattle.sai_types.specs.After.{after_calls, next_id}
use Rattle.sai_types.specs.Alike.{IsIn}
use Rattle.sai_types.specs.ChipState.{ChipState, objects_of}
use Rattle.sai_types.specs.Made.{made_after_all}
use Rattle.sai_types.specs.Objects.{Objects, body_at}
use Rattle.chip_names.specs.Naming.{entries_of}
use Rattle.chip_layout.specs.Layout.{has_number}
use Rattle.switch_model.specs.History.{listed_by}
use Rattle.switch_model.specs.Marks.{sent_writes, written_key}
use Rattle.switch_model.specs.Placed.{bare_rows}
use Rattle.switch_machine.specs.Events.{SwitchState}
use Rattle.switch_machine.specs.Flights.{StandsIn}
use Rattle.switch_machine.specs.Written.{HasNoWrite, Written}
use Rattle.machine_laws.specs.Reading.{IsOnSwitch}
use Rattle.restart_laws.specs.Invariant.{Holds, with_chip}
use Rattle.restart_laws.specs.Logged.{LoggedService}
use Rattle.restart_laws.specs.Service.{Service}
use Rattle.asic_view.specs.View.{ViewObjects, vid_cmp}
use Rattle.syncd_core.specs.Run.{tied_after, tied_calls}
use Rattle.syncd_core.specs.Synced.{SyncState}
use Rattle.apply_laws.specs.Viewed.{things_in}
use Rattle.apply_laws.specs.Begun.{IsApplyBegun, first_ties}
use Rattle.registry_laws.specs.Standing.{StandsFor}
use Rattle.sync_tables.specs.Tables.{IsToSync, written_in}
use Rattle.flight_board.specs.Applied.{row_at}
use Rattle.flight_board.specs.Board.{flown_at, new_board}
use Rattle.warm_state.specs.declared.warm.Warm.TheVariants as warm
use Rattle.session_laws.specs.Core.{CoreState}
use Rattle.session_laws.specs.Standing.{IsWorking}

-- ---- the tables

abbrev pub written_of : CoreState → Written
written_of c = written_in (sent_writes c.log.taken) c.tables

-- the one is the other, but that keys may have been popped: with what waits, each key's row is the same
pub record IsAhead (s now : Written) : Type 0 where
  pub taken : now.taken ≡ s.taken
  pub whole : (k : Key) → now.waiting k (now.rows k) ≡ s.waiting k (s.rows k)

-- each key that a write named which was taken, each that is to sync, and each of which a write waits, is one that a text is
pub record AreKeysOnSwitch (c : CoreState) : Type 0 where
  pub taken : (w : Write) → IsIn w (sent_writes c.log.taken) → IsOnSwitch (written_key w)
  pub to_sync : (k : Key) → IsToSync c.tables k → IsOnSwitch k
  pub waiting : (k : Key) → (HasNoWrite (written_of c) k → ⊥) → IsOnSwitch k

-- the tables and the keys to sync are the machine's
pub record IsExact (c : CoreState) (s : SwitchState) : Type 0 where
  pub written : s.written ≡ written_of c
  pub to_sync : s.to_sync ≡ keys_of c.tables.ops

-- ---- in every warm state

-- the identifiers of the chip's objects are numbers from 1 on
abbrev pub HaveNumbers : Objects → Type 0
HaveNumbers objects = (r : Rid) (b : Body Rid) → body_at objects (entry.Oid r) ≡ Some b → 0 < r.0

-- what holds of every session holds of it; its log, warm state and chip are the core's, and its tables up to keys that were popped for a restore that did not come about
pub record IsLogOf (c : CoreState) (chip : ChipState) (s : LoggedService) : Type 0 where
  pub plan : IsPlan c.board.plan
  pub capacities : chip.capacities ≡ c.sync.capacities
  pub clean : chip.clean ≡ true
  pub warm_is : s.service.warm ≡ c.warm
  pub holds : Holds c.board.plan 4 c.sync.capacities s.service
  pub numbers : HaveNumbers s.service.core.objects
  pub ahead : IsAhead s.service.core.written (written_of c)
  pub objects : s.service.core.objects ≡ chip.objects
  pub made : next_id chip.effects ≡ s.service.core.made + 1
  pub log : s.log ≡ c.log
  pub effects : s.effects ≡ chip.effects
  pub listed : c.listed ≡ listed_by c.log.marks
  pub read : AreKeysOnSwitch c

-- ---- after a restart, and while the chip is listed

-- nothing is known of the chip: no row is applied, no name is known, no place kept, nothing under way, no view built and no plan made
pub record IsBare (c : CoreState) : Type 0 where
  pub board : c.board ≡ new_board c.board.plan c.sync.capacities
  pub no_view : c.sync.temporary ≡ None
  pub no_plan : c.sync.left ≡ []

-- the list of the chip is there, and is the chip
pub record IsListedCore (c : CoreState) (chip : ChipState) : Type 0 where
  pub bare : IsBare c
  pub listed : c.sync.listed ≡ Some (objects_of chip.objects)

-- ---- while the calls of a plan are made

-- the plan that was begun from the chip as it was listed, and how far its calls were made: the chip and the view are as these calls leave them, and the service's calls that are left are those that the rest comes to
pub record IsUnderway (y : SyncState) (made : ℕ) (objects : Objects) (left : List (Call Rid)) (things : List (Vid × Thing)) : Type 0 where
  pub first : ℕ
  pub old : List (Object Rid)
  pub view : ViewObjects
  pub plan : Plan
  pub begun : IsApplyBegun y.capacities first old view things plan
  pub rising : IsStrictlySortedBy vid_cmp (keys_of view)
  pub front : List PlanCall
  pub cut : plan.calls ≡ front ++ y.left
  pub made_is : made ≡ made_after_all first (tied_calls first (first_ties old view plan) front)
  pub ties : y.view ≡ tied_after first (first_ties old view plan) front
  pub objects_are : objects ≡ after_calls first (entries_of old) (tied_calls first (first_ties old view plan) front)
  pub left_are : left ≡ tied_calls made y.view y.left

-- the board stands for the machine over the chip on which its view was built, and the things of that view are those that the plan leads to; each that has an identifier has there the one that the registry knows
pub record IsApplyingCore (c : CoreState) (s : Service) : Type 0 where
  pub rid : Vid → Option Rid
  pub made : ℕ
  pub objects : Objects
  pub stands : StandsFor c.board.plan c.sync.capacities c.board.names c.board.room (flown_at c.board) rid (with_chip s.core made objects)
  pub rows : (k : Key) → bare_rows s.core.machine.board.applied k ≡ row_at c.board.applied k
  pub things : List (Vid × Thing)
  pub into : (t : Thing) → StandsIn s.core.machine t → IsIn t (things_in things)
  pub back : (t : Thing) → IsIn t (things_in things) → StandsIn s.core.machine t
  pub same : (i : Rid) (t : Thing) (v : Vid) → IsIn (i, t) s.core.machine.stands → has_number t ≡ true → rid v ≡ Some i → IsIn (v, t) things
  pub no_view : c.sync.temporary ≡ None
  pub underway : IsUnderway c.sync s.core.made s.core.objects s.left things

-- ---- in each warm state

pub record IsServiceOf (c : CoreState) (chip : ChipState) (s : LoggedService) : Type 0 where
  pub always : IsLogOf c chip s
  pub working : c.warm ≡ warm.Reconciled → IsExact c s.service.core × IsWorking c chip s.service.core
  pub restarted : c.warm ≡ warm.Initialized → IsBare c
  pub seen : c.warm ≡ warm.Restored → IsListedCore c chip
  pub applying : c.warm ≡ warm.Applying → IsExact c s.service.core × IsApplyingCore c s.service
