-- The exit status of the program and its line. Own.
use Rattle.std.specs.Prelude.{ℕ, List, [], ◌++◌, codes}
use Rattle.std.specs.Fmt.{decimal}
use Rattle.swss_script.specs.declared.refused.Refused.{Refused}
use Rattle.swss_script.specs.declared.refused.Why.{Why}
use Rattle.swss_script.specs.declared.refused.Why.TheVariants as why
use Rattle.swss_run.specs.declared.status.Status.{Status}
use Rattle.swss_run.specs.declared.status.Status.TheVariants as status

abbrev pub status_number : Status → ℕ
status_number status.Done = 0
status_number status.Usage = 1
status_number (status.ScriptRefused refusal) = 2
status_number status.ReadFault = 3
status_number status.WriteFault = 4
status_number status.ChipFault = 5
status_number status.LogFull = 6
status_number status.OutOfMemory = 7

abbrev pub why_text : Why → List ℕ
why_text why.TooLong = codes "too-long"
why_text why.TooManyLines = codes "too-many-lines"
why_text why.LineTooLong = codes "line-too-long"
why_text why.NotUtf8 = codes "not-utf8"
why_text why.BadHead = codes "bad-head"
why_text why.HeadTwice = codes "head-twice"
why_text (why.BadPlan fault) = codes "bad-plan"
why_text (why.BadImage fault) = codes "bad-image"
why_text why.TooManyProducers = codes "too-many-producers"
why_text why.BadJson = codes "bad-json"
why_text why.BadWord = codes "bad-word"

abbrev pub refused_text : Refused → List ℕ
refused_text refusal = codes "script refused: line " ++ (decimal refusal.line ++ (codes ": " ++ why_text refusal.why))

abbrev pub status_line : Status → List ℕ
status_line status.Done = []
status_line status.Usage = codes "usage: swss run [--workers N] | swss view | swss load N SEED"
status_line (status.ScriptRefused refusal) = refused_text refusal
status_line status.ReadFault = codes "read fault"
status_line status.WriteFault = codes "write fault"
status_line status.ChipFault = codes "chip fault"
status_line status.LogFull = codes "log full"
status_line status.OutOfMemory = codes "out of memory"
