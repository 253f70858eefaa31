-- each Set of an accepted script has a field, and each key is one that was read
use Rattle.std.proofs.Common.{◌≡◌, ℕ, ◌<◌, List, [], ◌∷◌, length, arith, Ok}
use Rattle.std.specs.List.{AllByRecursion}
use Rattle.table_schema.specs.Fields.{Pairs}
use Rattle.table_schema.specs.Writes.{HasField, HasReadKey}
use Rattle.table_schema.proofs.ProperKeys.{IsReadKey-key_of}
use Rattle.swss_image.proofs.Whole.{some-laid}
use Rattle.swss_script.specs.Fields.{set_fields}
use Rattle.swss_script.specs.Script.{script_of}
use Rattle.swss_script.specs.Sections.{script_writes}
use Rattle.swss_script.specs.declared.script.Script.{Script}
use Rattle.swss_script.proofs.EachWrite.{each-write}

some-set_fields : (pairs : Pairs) → 0 < length (set_fields pairs)
some-set_fields [] = omega arith
some-set_fields (pair ∷ pairs) = some-laid pair pairs

-- each Set that an accepted script has is of one field at least
pub sets-have_fields : (bytes : List ℕ) (script : Script) → script_of bytes ≡ Ok script → AllByRecursion (λ p. HasField p.write) (script_writes script)
sets-have_fields = each-write HasField (λ text fields. some-set_fields fields) (λ text. tt)

-- each key of a write of an accepted script was read
pub keys-were_read : (bytes : List ℕ) (script : Script) → script_of bytes ≡ Ok script → AllByRecursion (λ p. HasReadKey p.write) (script_writes script)
keys-were_read = each-write HasReadKey (λ text fields. IsReadKey-key_of text) IsReadKey-key_of
