-- the rows that do not read are some of the rows
use Rattle.std.proofs.Common.{◌≡◌, suc, ◌+◌, ◌≤◌, List, [], ◌∷◌, ◌++◌, flat_map, length, Result, Ok, Err, refl, ap, ◌∙◌, arith}
use Rattle.std.proofs.lemmas.Grind.{flat_map-append}
use Rattle.std.proofs.lemmas.List.{length-append}
use Rattle.table_schema.specs.Fields.{Pairs}
use Rattle.table_schema.specs.Plan.{Ports}
use Rattle.table_schema.specs.Rows.{Rows}
use Rattle.table_schema.specs.Rules.{row_of}
use Rattle.table_schema.specs.declared.key.Key.{Key}
use Rattle.table_schema.specs.declared.row.BadRow.{BadRow}
use Rattle.table_schema.specs.declared.row.Row.{Row}
use Rattle.swss_report.specs.Ignored.{bad_rows, ignored_line, with_bad}

few-with_bad : (key : Key) (row : Result Row BadRow) (bad : List (Key × BadRow)) → length (with_bad key row bad) ≤ suc (length bad)
few-with_bad key (Ok row) bad = omega arith
few-with_bad key (Err why) bad = omega arith

pub few-bad_rows : (plan : Ports) (rows : Rows) → length (bad_rows plan rows) ≤ length rows
few-bad_rows plan [] = omega arith
few-bad_rows plan (row ∷ rows) =
    let more = few-bad_rows plan rows in
    let one = few-with_bad row.0 (row_of plan row.0 row.1) (bad_rows plan rows) in
    omega (arith, one, more)

-- those of a row, and then those of the rows behind it
pub bad_rows-first : (plan : Ports) (row : Key × Pairs) (rest : Rows) → bad_rows plan (row ∷ rest) ≡ bad_rows plan (row ∷ []) ++ bad_rows plan rest
bad_rows-first plan row rest = by (row_of plan row.0 row.1)
  where
    by : (r : Result Row BadRow) → with_bad row.0 r (bad_rows plan rest) ≡ with_bad row.0 r [] ++ bad_rows plan rest
    by (Ok good) = refl
    by (Err why) = refl

-- so it is with their number and their lines
pub count-first : (plan : Ports) (left rest : Rows) (row : Key × Pairs) → left ≡ row ∷ rest → length (bad_rows plan left) ≡ length (bad_rows plan (row ∷ [])) + length (bad_rows plan rest)
count-first plan left rest row is = ap (λ l. length (bad_rows plan l)) is ∙ ap length (bad_rows-first plan row rest) ∙ length-append (bad_rows plan (row ∷ [])) (bad_rows plan rest)

pub lines-first : (plan : Ports) (left rest : Rows) (row : Key × Pairs) → left ≡ row ∷ rest → flat_map ignored_line (bad_rows plan left) ≡ flat_map ignored_line (bad_rows plan (row ∷ [])) ++ flat_map ignored_line (bad_rows plan rest)
lines-first plan left rest row is = ap (λ l. flat_map ignored_line (bad_rows plan l)) is ∙ ap (flat_map ignored_line) (bad_rows-first plan row rest) ∙ flat_map-append ignored_line (bad_rows plan (row ∷ [])) (bad_rows plan rest)
