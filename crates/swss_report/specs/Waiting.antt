-- The keys that wait, as the report lists them, and what it says of the end of the round. Own.
use Rattle.std.specs.Prelude.{ℕ, List, [], ◌∷◌, ◌++◌, length, flat_map, codes, Option, Some, None}
use Rattle.std.specs.Fmt.{decimal}
use Rattle.table_schema.specs.KeyText.{key_text}
use Rattle.table_schema.specs.declared.key.Key.{Key}
use Rattle.table_schema.specs.declared.row.Row.{Row}
use Rattle.switch_model.specs.Marks.{Waiting}
use Rattle.switch_model.specs.declared.wait.Wait.{Wait}
use Rattle.switch_model.specs.declared.wait.Wait.TheVariants as wait
use Rattle.swss_report.specs.Counted.{count_line}
use Rattle.swss_report.specs.Escaped.{escaped}
use Rattle.swss_report.specs.Kinds.{kind_name}

-- why a row waits, behind a blank
abbrev pub wait_text : Wait → List ℕ
wait_text (wait.Missing name) = codes " missing " ++ escaped (key_text name)
wait_text (wait.Held holder) = codes " held " ++ escaped (key_text holder)
wait_text (wait.NoRoom kind) = codes " no-room " ++ kind_name kind
wait_text (wait.Busy worker) = codes " busy " ++ decimal worker

-- a key that waits, and why
abbrev pub waiting_line : (Key × Wait × Option Row) → List ℕ
waiting_line w = escaped (key_text w.0) ++ wait_text w.1 ++ 10 ∷ []

-- how many keys wait, and their lines in key order; where the round ended with a fault it is not known
abbrev pub waiting_text : Option Waiting → List ℕ
waiting_text (Some waits) = count_line (codes "waiting ") (length waits) ++ flat_map waiting_line waits
waiting_text None = codes "waiting unknown" ++ 10 ∷ []

-- the state that the round ended in: a settling that ended with its mark leaves it reconciled, and a fault unknown
abbrev pub warm_line : Option Waiting → List ℕ
warm_line (Some waits) = codes "warm reconciled" ++ 10 ∷ []
warm_line None = codes "warm unknown" ++ 10 ∷ []

-- ready is what waits for nothing: the round ended with the mark of a settling that lists no key
abbrev pub ready_text : Option Waiting → List ℕ
ready_text (Some []) = codes "READY" ++ 10 ∷ []
ready_text _ = codes "NOT_READY" ++ 10 ∷ []
