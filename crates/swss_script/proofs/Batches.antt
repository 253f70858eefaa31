-- the reading of a batch
use Rattle.std.proofs.Common.{◌≡◌, ℕ, true, false, cond, List, [], ◌∷◌, ◌++◌, Option, Some, None, option_map, option_and_then, refl, sym, ap, ◌∙◌}
use Rattle.std.specs.Str.{IsUtf8, is_utf8}
use Rattle.serde_json.specs.Data.{Data, Items}
use Rattle.serde_json.specs.Find.{as_array, as_object}
use Rattle.serde_json.specs.Read.{read}
use Rattle.serde_json.specs.View.{items_view, view}
use Rattle.serde_json.specs.declared.value.Value.{Value}
use Rattle.table_schema.specs.declared.write.Write.{Write}
use Rattle.swss_image.specs.Loaded.{json_of}
use Rattle.swss_image.proofs.Json.{json-none, json-some}
use Rattle.swss_image.proofs.ReadTexts.{option_map_push}
use Rattle.swss_script.specs.Batch.{batch_of, write_before, write_in, writes_of_items}

abbrev in_data : Data → Option (List Write)
in_data json = option_and_then writes_of_items (as_array json)

-- the writes of the JSON that a text is
batch-json : (text : List ℕ) → batch_of text ≡ option_and_then in_data (json_of text)
batch-json text = elim (is_utf8 text) as (λ b. cond b (option_and_then in_data (read text)) None ≡ option_and_then in_data (cond b (read text) None)) [ true ↦ refl | false ↦ refl ]

-- what is no JSON is no batch
pub batch-none : (text : List ℕ) → (IsUtf8 text → read text ≡ None) → batch_of text ≡ None
batch-none text h = batch-json text ∙ ap (option_and_then in_data) (json-none text h)

-- what was read is looked into
batch-read : (text : List ℕ) (json : Data) → IsUtf8 text → read text ≡ Some json → batch_of text ≡ in_data json
batch-read text json utf8 h = batch-json text ∙ ap (option_and_then in_data) (json-some text json utf8 h)

-- a list
pub batch-list : (text : List ℕ) (json : Data) (items : Items) → IsUtf8 text → read text ≡ Some json → Some items ≡ as_array json → writes_of_items items ≡ batch_of text
batch-list text json items utf8 h some = ap (option_and_then writes_of_items) some ∙ sym (batch-read text json utf8 h)

-- one element more
pub elements-more : (writes : List Write) (element : Value) (left : List Value) (write : Write) → Some write ≡ option_and_then write_in (as_object (view element))
    → option_map (λ more. (writes ++ write ∷ []) ++ more) (writes_of_items (items_view left)) ≡ option_map (λ more. writes ++ more) (writes_of_items (items_view (element ∷ left)))
elements-more writes element left write read =
    option_map_push writes write (writes_of_items (items_view left))
    ∙ ap (λ w. option_map (λ more. writes ++ more) (write_before w (writes_of_items (items_view left)))) read
