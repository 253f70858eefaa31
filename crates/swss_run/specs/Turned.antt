-- What the calls of rounds are whose settlings ended. Own.
use Rattle.std.specs.Prelude.{◌≡◌, ◌≤◌, ℕ, true, List, [], ◌∷◌, ◌++◌, length, Option, Some, None}
use Rattle.table_schema.specs.Plan.{Ports}
use Rattle.table_schema.specs.Rows.{rows_of}
use Rattle.table_schema.specs.declared.write.Sent.{Sent}
use Rattle.sai_types.specs.declared.ids.Rid.{Rid}
use Rattle.sai_types.specs.declared.body.Call.{Call}
use Rattle.switch_model.specs.Desired.{IsClosed, IsThingOf}
use Rattle.switch_model.specs.Good.{good_rows}
use Rattle.switch_model.specs.Marks.{Waiting, sent_writes}
use Rattle.switch_model.specs.Room.{HasRoomForView}
use Rattle.switch_model.specs.Sound.{is_fault}
use Rattle.switch_model.specs.declared.mark.Mark.{Mark}
use Rattle.switch_model.specs.declared.mark.MarkEvent.TheVariants as event
use Rattle.machine_laws.specs.Order.{IsSettledMark}
use Rattle.restart_laws.specs.Logged.{last_mark}
use Rattle.round_laws.specs.Drained.{Drains}
use Rattle.round_laws.specs.Ended.{EndedRound, LeavesSettled, taken_then}
use Rattle.round_laws.specs.Quiet.{LeavesQuietRows}
use Rattle.round_laws.specs.Turns.{IsMadeByTurns, IsMadeSoFar}
use Rattle.orch_core.specs.ComingBack.{restarts_marked}
use Rattle.swss_run.specs.Rounds.{Ran}

-- a round is made by the turns that its mark counts; it leaves alone what stood for the rows of keys that it does not try; and it drains where its good rows are closed, its interfaces stay in their routers and there is room
pub record EndsTurned (plan : Ports) (capacities : List ℕ) (r : EndedRound) : Type 0 where
  pub made : IsMadeByTurns plan capacities r
  pub quiet : LeavesQuietRows plan r
  pub drains : (from : ℕ) → from ≤ length (taken_then r) → Drains plan capacities from r

-- the round ended at this mark, and before it came that mark or none, these writes and these calls
abbrev pub round_at : Option Mark → List Sent → List (Call Rid) → Ran → Mark → EndedRound
round_at before taken effects ran mark = record { before = before; taken = taken; effects = effects; sent = ran.sent; calls = ran.calls; mark = mark }

-- the marks of a round, or of what came of one, end with those of the beginning and of the end of an apply, and these behind them: that of the end counts the calls up to it, and then came the others
pub record EndedApply (effects : List (Call Rid)) (ran : Ran) (behind : List Mark) : Type 0 where
  pub earlier : List Mark
  pub began : Mark
  pub ended : Mark
  pub marks : ran.marks ≡ earlier ++ began ∷ ended ∷ behind
  pub end : ended.event ≡ event.ApplyEnded
  pub applied : List (Call Rid)
  pub calls : List (Call Rid)
  pub made : ran.calls ≡ applied ++ calls
  pub counted : ended.effects ≡ length (effects ++ applied)

-- what came behind that apply, up to this mark: no write was taken any more, and its turns begin with the rows that were applied and the keys that waited where the apply began
abbrev pub behind_apply : (taken : List Sent) (effects : List (Call Rid)) (ran : Ran) (behind : List Mark) → EndedApply effects ran behind → Mark → EndedRound
behind_apply taken effects ran behind x mark = record { before = Some x.began; taken = taken ++ ran.sent; effects = effects ++ x.applied; sent = []; calls = x.calls; mark = mark }

-- a round that has one mark, and follows none or that of a settling that ended: where its own is that of a settling too, it ended by its turns; and where it is that of a fault, its calls are those of its turns so far, of which the last may be the one that failed. And a round that restarted: where it ended with its settling, an apply ended before, and behind that it ended by its turns; and where it ended with a fault behind an apply, the calls behind that are those of its turns so far
pub record IsRoundTurned (plan : Ports) (capacities : List ℕ) (before : Option Mark) (taken : List Sent) (effects : List (Call Rid)) (ran : Ran) : Type 0 where
  pub whole : (mark : Mark) → ran.marks ≡ mark ∷ [] → IsSettledMark mark.event → LeavesSettled before → EndsTurned plan capacities (round_at before taken effects ran mark)
  pub cut : (mark : Mark) → ran.marks ≡ mark ∷ [] → is_fault mark.event ≡ true → LeavesSettled before → IsMadeSoFar plan capacities (round_at before taken effects ran mark)
  pub behind : (earlier : List Mark) (mark : Mark) → ran.marks ≡ earlier ++ mark ∷ [] → IsSettledMark mark.event → 1 ≤ restarts_marked ran.marks → (x : EndedApply effects ran (mark ∷ [])) × EndsTurned plan capacities (behind_apply taken effects ran (mark ∷ []) x mark)
  pub cut_behind : (earlier : List Mark) (ended mark : Mark) → ran.marks ≡ earlier ++ ended ∷ mark ∷ [] → ended.event ≡ event.ApplyEnded → is_fault mark.event ≡ true → (x : EndedApply effects ran (mark ∷ [])) × IsMadeSoFar plan capacities (behind_apply taken effects ran (mark ∷ []) x mark)

-- and so of rounds that ended one after the other
abbrev pub AreTurned : Ports → List ℕ → Option Mark → List Sent → List (Call Rid) → List Ran → Type 0
AreTurned plan capacities before taken effects [] = Unit {0}
AreTurned plan capacities before taken effects (ran ∷ rans) = IsRoundTurned plan capacities before taken effects ran × AreTurned plan capacities (last_mark before ran.marks) (taken ++ ran.sent) (effects ++ ran.calls) rans

-- a round that did not end, where it made no mark and follows none or that of a settling that ended: as far as it came, its calls are those of its turns so far, and it leaves alone what stood for the rows of keys that it does not try, whatever mark would have ended it. So are the calls behind an apply, where the mark of its end is the last
pub record IsSinceTurned (plan : Ports) (capacities : List ℕ) (before : Option Mark) (taken : List Sent) (effects : List (Call Rid)) (since : Ran) : Type 0 where
  pub so_far : since.marks ≡ [] → LeavesSettled before → (mark : Mark) → IsMadeSoFar plan capacities (round_at before taken effects since mark)
  pub quiet : since.marks ≡ [] → LeavesSettled before → (mark : Mark) → LeavesQuietRows plan (round_at before taken effects since mark)
  pub behind : (earlier : List Mark) (ended : Mark) → since.marks ≡ earlier ++ ended ∷ [] → ended.event ≡ event.ApplyEnded → (x : EndedApply effects since []) × ((mark : Mark) → IsMadeSoFar plan capacities (behind_apply taken effects since [] x mark) × LeavesQuietRows plan (behind_apply taken effects since [] x mark))

-- where the good rows of all writes then taken are closed, and there is room for their things, a round that restarted and whose settling ended lists no key at its mark and counts at most four turns
abbrev pub DrainsBehind : Ports → List ℕ → List Sent → Ran → Type 0
DrainsBehind plan capacities taken ran =
    (mark : Mark) (waits : Waiting) (turns : ℕ) → last_mark None ran.marks ≡ Some mark → mark.event ≡ event.Settled waits turns → 1 ≤ restarts_marked ran.marks
    → IsClosed (good_rows plan (rows_of (sent_writes (taken ++ ran.sent)))) → HasRoomForView capacities (IsThingOf plan (good_rows plan (rows_of (sent_writes (taken ++ ran.sent))))) → (waits ≡ []) × (turns ≤ 4)

-- and so of rounds that ended one after the other
abbrev pub AreDrained : Ports → List ℕ → List Sent → List Ran → Type 0
AreDrained plan capacities taken [] = Unit {0}
AreDrained plan capacities taken (ran ∷ rans) = DrainsBehind plan capacities taken ran × AreDrained plan capacities (taken ++ ran.sent) rans
