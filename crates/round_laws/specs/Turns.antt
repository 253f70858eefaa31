-- The calls of a round: those of turns over rows. Own.
use Rattle.std.specs.Prelude.{◌≡◌, ◌⊎◌, ◌+◌, ℕ, List, [], length, map}
use Rattle.table_schema.specs.Plan.{Ports}
use Rattle.table_schema.specs.declared.key.Key.{Key}
use Rattle.sai_types.specs.declared.body.Call.{Call}
use Rattle.sai_types.specs.declared.ids.Rid.{Rid}
use Rattle.sai_types.specs.declared.thing.Thing.{Thing}
use Rattle.sai_types.specs.After.{chip_after, next_id}
use Rattle.sai_types.specs.Alike.{IsIn}
use Rattle.switch_model.specs.Desired.{IsThingOf}
use Rattle.switch_model.specs.Good.{TypedRows}
use Rattle.switch_model.specs.Marks.{Waiting}
use Rattle.switch_model.specs.Promises.{applied_at}
use Rattle.switch_model.specs.declared.mark.MarkEvent.TheVariants as event
use Rattle.chip_layout.specs.Layout.{IsLaidOut, listed}
use Rattle.machine_laws.specs.Calls.{AreTurnsWith, AreTurnsWithSoFar, Situation}
use Rattle.machine_laws.specs.ToSync.{AreAtRest, AreInKeyOrder}
use Rattle.round_laws.specs.Ended.{EndedRound, HasCounts, IsToTry, LeavesRows, effects_then, rows_before, rows_wanted, taken_then}

-- after these effects what stands are the things of the applied rows, each with its identifier on the chip
pub record StandsOnChip (plan : Ports) (effects : List (Call Rid)) (z : Situation) : Type 0 where
  pub things : (t : Thing) (i : Rid) → IsIn (i, t) z.stands → IsThingOf plan z.applied t
  pub stand : (t : Thing) → IsThingOf plan z.applied t → (i : Rid) × IsIn (i, t) z.stands
  pub laid : IsLaidOut (listed z.stands) (chip_after effects (length effects))
  pub made : next_id effects ≡ z.made + 1

-- a round, or what comes of it behind its last apply, that ended at the mark of its settling: from the mark before it, or the beginning, turns were made over the keys that it tries, as many as its mark counts, from the rows applied before it, which are at rest, to the good rows; the mark lists the keys that the turns left; and the calls of the round are those of these turns
pub record IsMadeByTurns (plan : Ports) (capacities : List ℕ) (r : EndedRound) : Type 0 where
  pub counts : HasCounts r
  pub follows : LeavesRows r.before
  pub waits : Waiting
  pub turns : ℕ
  pub event_is : r.mark.event ≡ event.Settled waits turns
  -- how it begins
  pub start : Situation
  pub applied : (k : Key) → start.applied k ≡ rows_before plan r k
  pub rests : AreAtRest plan capacities start.applied
  pub begins : StandsOnChip plan r.effects start
  pub good : TypedRows
  pub wanted : (k : Key) → good k ≡ rows_wanted plan r k
  pub keys : List Key
  pub order : AreInKeyOrder keys
  pub tried : (k : Key) → IsIn k keys → IsToTry r k
  pub all : (k : Key) → IsToTry r k → IsIn k keys
  -- the turns, and how it ends
  pub later : Situation
  pub left : List Key
  pub are : AreTurnsWith plan capacities good turns start keys later left r.calls
  pub lists : left ≡ map (λ w. w.0) waits
  pub applied_then : (k : Key) → later.applied k ≡ applied_at plan (taken_then r) r.mark waits k
  pub ends : StandsOnChip plan (effects_then r) later

-- a round, or what comes of it behind its last apply, was cut off in its turns: turns over the keys that it tries were made so far, from the rows applied before it to the good rows, and its calls are those of these turns, of which the last may have failed
pub record IsCutInTurns (plan : Ports) (capacities : List ℕ) (r : EndedRound) : Type 0 where
  pub start : Situation
  pub applied : (k : Key) → start.applied k ≡ rows_before plan r k
  pub begins : StandsOnChip plan r.effects start
  pub good : TypedRows
  pub wanted : (k : Key) → good k ≡ rows_wanted plan r k
  pub keys : List Key
  pub order : AreInKeyOrder keys
  pub tried : (k : Key) → IsIn k keys → IsToTry r k
  pub all : (k : Key) → IsToTry r k → IsIn k keys
  pub turns : ℕ
  pub are : AreTurnsWithSoFar plan capacities good turns start keys r.calls

-- so far a round made no call, or those of its turns
abbrev pub IsMadeSoFar : Ports → List ℕ → EndedRound → Type 0
IsMadeSoFar plan capacities r = (r.calls ≡ []) ⊎ IsCutInTurns plan capacities r
