-- A round that ended at its mark, told by the log and the effects. Own.
use Rattle.std.specs.Prelude.{◌≡◌, ◌⊎◌, ◌++◌, ◌≤◌, ℕ, List, [], length, Option, Some, None}
use Rattle.table_schema.specs.Plan.{Ports}
use Rattle.table_schema.specs.Rows.{rows_of}
use Rattle.table_schema.specs.declared.key.Key.{Key}
use Rattle.table_schema.specs.declared.write.Sent.{Sent}
use Rattle.sai_types.specs.declared.body.Call.{Call}
use Rattle.sai_types.specs.declared.ids.Rid.{Rid}
use Rattle.sai_types.specs.Alike.{IsIn}
use Rattle.switch_model.specs.Good.{TypedRows, good_rows}
use Rattle.switch_model.specs.Marks.{Waiting, sent_writes}
use Rattle.switch_model.specs.Promises.{applied_at}
use Rattle.switch_model.specs.declared.mark.Mark.{Mark}
use Rattle.switch_model.specs.declared.mark.MarkEvent.{MarkEvent}
use Rattle.switch_model.specs.declared.mark.MarkEvent.TheVariants as event
use Rattle.machine_laws.specs.Logged.{ListsKey}
use Rattle.machine_laws.specs.Order.{IsSettledMark}
use Rattle.round_laws.specs.Named.{keys_named}

-- the mark from which its turns are made, that of the settling before it or that of the beginning of an apply, or none; the writes taken and the calls that had taken effect by then, those of the apply among them; the writes taken and the calls that took effect since; and its mark
pub record EndedRound : Type 0 where
  pub before : Option Mark
  pub taken : List Sent
  pub effects : List (Call Rid)
  pub sent : List Sent
  pub calls : List (Call Rid)
  pub mark : Mark

-- the writes and the calls up to its mark
abbrev pub taken_then : EndedRound → List Sent
taken_then r = r.taken ++ r.sent

abbrev pub effects_then : EndedRound → List (Call Rid)
effects_then r = r.effects ++ r.calls

-- a mark counts these calls; that of the beginning of an apply counts those before it alone
abbrev pub CountsCalls : MarkEvent → ℕ → ℕ → Type 0
CountsCalls (event.ApplyBegan mode waits) counted calls = counted ≤ calls
CountsCalls _ counted calls = counted ≡ calls

-- the marks count them
pub record HasCounts (r : EndedRound) : Type 0 where
  pub first : r.before ≡ None → (r.taken ≡ []) × (r.effects ≡ [])
  pub taken_before : (mark : Mark) → r.before ≡ Some mark → mark.taken ≡ length r.taken
  pub effects_before : (mark : Mark) → r.before ≡ Some mark → CountsCalls mark.event mark.effects (length r.effects)
  pub taken : r.mark.taken ≡ length (taken_then r)
  pub effects : r.mark.effects ≡ length (effects_then r)

-- ---- what a mark leaves

-- there is none, or it is that of a settling that ended
abbrev pub LeavesSettled : Option Mark → Type 0
LeavesSettled None = Unit {0}
LeavesSettled (Some mark) = IsSettledMark mark.event

-- a mark tells which rows are applied, and which keys wait: that of a settling that ended, or of the beginning of an apply
abbrev pub TellsRows : MarkEvent → Type 0
TellsRows (event.Settled waits turns) = Unit {0}
TellsRows (event.ApplyBegan mode waits) = Unit {0}
TellsRows _ = ⊥

-- there is none, or it is one of these
abbrev pub LeavesRows : Option Mark → Type 0
LeavesRows None = Unit {0}
LeavesRows (Some mark) = TellsRows mark.event

-- the keys that wait since such a mark, with their reasons and applied rows
abbrev pub waits_by : MarkEvent → Waiting
waits_by (event.Settled waits turns) = waits
waits_by (event.ApplyBegan mode waits) = waits
waits_by _ = []

abbrev pub waits_since : Option Mark → Waiting
waits_since None = []
waits_since (Some mark) = waits_by mark.event

-- the rows that are applied since such a mark, and none before
abbrev pub applied_by : Ports → List Sent → Mark → MarkEvent → TypedRows
applied_by plan taken mark (event.Settled waits turns) key = applied_at plan taken mark waits key
applied_by plan taken mark (event.ApplyBegan mode waits) key = applied_at plan taken mark waits key
applied_by plan taken mark _ key = None

abbrev pub applied_since : Ports → List Sent → Option Mark → TypedRows
applied_since plan taken None key = None
applied_since plan taken (Some mark) key = applied_by plan taken mark mark.event key

-- ---- what a round begins with

-- the rows that are applied when it begins, and those that are to be: the good rows of all writes taken up to its mark
abbrev pub rows_before : Ports → EndedRound → TypedRows
rows_before plan r = applied_since plan r.taken r.before

abbrev pub rows_wanted : Ports → EndedRound → TypedRows
rows_wanted plan r = good_rows plan (rows_of (sent_writes (taken_then r)))

-- the keys that it tries: those that wait, and those that its writes name
abbrev pub IsToTry : EndedRound → Key → Type 0
IsToTry r k = ListsKey k (waits_since r.before) ⊎ IsIn k (keys_named r.sent)
