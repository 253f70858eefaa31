-- rows with proper keys and a field in each, and one row more
use Rattle.std.proofs.Common.{◌≡◌, ℕ, ◌<◌, List, [], ◌∷◌, length, Option, Some, None, option_and_then, unwrap_or, subst, arith}
use Rattle.std.specs.BTreeMap.{insert_entry}
use Rattle.std.specs.Ordering.{match_ordering}
use Rattle.std.specs.declared.cmp.Ordering.TheVariants.{Less, Equal, Greater}
use Rattle.serde_json.specs.Data.{Data}
use Rattle.serde_json.specs.Find.{as_object}
use Rattle.table_schema.specs.Fields.{Pairs, by_bytes, merged, with_pair}
use Rattle.table_schema.specs.Key.{key_cmp}
use Rattle.table_schema.specs.ProperKey.{IsProperKey}
use Rattle.table_schema.specs.Rows.{Rows, fields_at, with_fields}
use Rattle.table_schema.specs.declared.key.Key.{Key}
use Rattle.swss_image.specs.Loaded.{row_fields, some_fields}
use Rattle.swss_image.specs.Saved.{AreWhole}
use Rattle.swss_image.specs.Texts.{texts_in}

-- one row more
pub whole_put : (rows : Rows) (k : Key) (fields : Pairs) → IsProperKey k → 0 < length fields → AreWhole rows → AreWhole (insert_entry key_cmp rows k fields)
whole_put [] k fields proper some h = ((proper, tt), (some, tt))
whole_put (row ∷ rows) k fields proper some h =
    let rest = whole_put rows k fields proper some (h.0.1, h.1.1) in
    elim (key_cmp k row.0) as (λ o. AreWhole (match_ordering o ((k, fields) ∷ row ∷ rows) ((row.0, fields) ∷ rows) (row ∷ insert_entry key_cmp rows k fields))) [
      | Less ↦ ((proper, h.0), (some, h.1))
      | Equal ↦ (h.0, (some, h.1.1))
      | Greater ↦ ((h.0.0, rest.0), (h.1.0, rest.1))
    ]

some-put : (fields : Pairs) (name value : List ℕ) → 0 < length (with_pair fields name value)
some-put [] name value = omega arith
some-put (f ∷ fields) name value =
    elim (by_bytes name f.0) as (λ o. 0 < length (match_ordering o ((name, value) ∷ f ∷ fields) ((f.0, value) ∷ fields) (f ∷ with_pair fields name value))) [ Less ↦ omega arith | Equal ↦ omega arith | Greater ↦ omega arith ]

some-merged : (fields others : Pairs) → 0 < length fields → 0 < length (merged fields others)
some-merged fields [] h = h
some-merged fields (f ∷ others) h = some-merged (with_pair fields f.0 f.1) others (some-put fields f.0 f.1)

-- pairs laid over none, where there is one
pub some-laid : (f : List ℕ × List ℕ) (fields : Pairs) → 0 < length (merged [] (f ∷ fields))
some-laid f fields = some-merged (with_pair [] f.0 f.1) fields (some-put [] f.0 f.1)

-- fields laid over others
pub some-over : (fields others : Pairs) → 0 < length others → 0 < length (merged fields others)
some-over fields [] some = absurd (omega arith)
some-over fields (f ∷ others) some = some-merged (with_pair fields f.0 f.1) others (some-put fields f.0 f.1)

-- and laid over those of a row
pub whole_set : (rows : Rows) (k : Key) (fields : Pairs) → IsProperKey k → 0 < length fields → AreWhole rows → AreWhole (with_fields rows k fields)
whole_set rows k fields proper some h = let there = unwrap_or (fields_at rows k) [] in whole_put rows k (merged there fields) proper (some-over there fields some) h

some_of : (o : Option Pairs) (fields : Pairs) → Some fields ≡ some_fields o → 0 < length fields
some_of None fields h = cc
some_of (Some []) fields h = cc
some_of (Some (f ∷ fs)) fields h = let is : merged [] (f ∷ fs) ≡ fields = cc in subst (λ x. 0 < length x) is (some-laid f fs)

-- a row has a field
pub row_fields_some : (row : Data) (fields : Pairs) → Some fields ≡ row_fields row → 0 < length fields
row_fields_some row fields h = some_of (option_and_then texts_in (as_object row)) fields h
