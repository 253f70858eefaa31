-- What `view` comes to. Own.
use Rattle.std.specs.Prelude.{◌≡◌, ◌↔◌, ◌⊎◌, ℕ, List, map, Option}
use Rattle.std.specs.List.Sorted.{IsStrictlySortedBy}
use Rattle.swss_types.specs.Outside.{Takes}
use Rattle.table_schema.specs.Plan.{Ports}
use Rattle.table_schema.specs.Rows.{Rows, after_writes}
use Rattle.sai_types.specs.Alike.{IsIn}
use Rattle.sai_types.specs.Order.{thing_cmp}
use Rattle.sai_types.specs.declared.thing.Thing.{Thing}
use Rattle.switch_model.specs.Desired.{desired_view}
use Rattle.swss_script.specs.Sections.{script_writes}
use Rattle.swss_script.specs.declared.script.Script.{Script}
use Rattle.swss_report.specs.Chip.{view_text}
use Rattle.swss_run.specs.Output.{TakesFront, TakesPart}
use Rattle.swss_run.specs.Read.{WasRead}
use Rattle.swss_run.specs.declared.status.Status.{Status}
use Rattle.swss_run.specs.declared.status.Status.TheVariants as status

-- the rows that all writes of a script leave, one after the other in its order, behind the rows of its image
abbrev pub rows_at_end : Script → Rows
rows_at_end script = after_writes script.image (map (λ p. p.write) (script_writes script))

-- the desired view of the tables as a list: each of its things once, in the order of the report
pub record IsDesiredList (plan : Ports) (rows : Rows) (things : List Thing) : Type 0 where
  pub each : (t : Thing) → IsIn t things ↔ desired_view plan rows t
  pub rising : IsStrictlySortedBy thing_cmp things

-- the text of the view of a script: the things that are to stand for the ready rows of all its writes
pub record IsViewText (script : Script) (text : List ℕ) : Type 0 where
  pub things : List Thing
  pub desired : IsDesiredList script.plan (rows_at_end script) things
  pub is : text ≡ view_text script.plan things

-- what the sink took of that text, by the status: all of it; a front and not all, where the sink failed; nothing or a front, where memory was refused
abbrev pub IsViewed : Status → Script → Option (List ℕ) → Option (List ℕ) → Type 0
IsViewed status.Done script held held' = (text : List ℕ) × IsViewText script text × Takes held text held'
IsViewed status.WriteFault script held held' = (text : List ℕ) × IsViewText script text × TakesPart held text held'
IsViewed status.OutOfMemory script held held' = (held' ≡ held) ⊎ ((text : List ℕ) × IsViewText script text × TakesFront held text held')
IsViewed _ script held held' = ⊥

-- the script that the source gave was viewed
pub record ViewedScript (ended : Status) (left left' held held' : Option (List ℕ)) : Type 0 where
  pub script : Script
  pub read : WasRead left script left'
  pub viewed : IsViewed ended script held held'

-- what `view` tells: where the script or the source ended it, nothing was written; where memory was refused, nothing, or so much of the view of the script that the source gave; else that view was written
abbrev pub TellsOfView : Status → Option (List ℕ) → Option (List ℕ) → Option (List ℕ) → Option (List ℕ) → Type 0
TellsOfView (status.ScriptRefused refusal) left left' held held' = held' ≡ held
TellsOfView status.ReadFault left left' held held' = held' ≡ held
TellsOfView status.OutOfMemory left left' held held' = (held' ≡ held) ⊎ ViewedScript status.OutOfMemory left left' held held'
TellsOfView ended left left' held held' = ViewedScript ended left left' held held'
