-- A batch: a list of writes in JSON. Own, but for what the JSON means, which is serde_json's reading.
use Rattle.std.specs.Prelude.{ℕ, List, [], ◌∷◌, Option, Some, None, option_map, option_and_then, codes, bytes_eq, if◌then◌else◌}
use Rattle.std.specs.Str.{is_utf8}
use Rattle.serde_json.specs.Data.{Data, Items, no_items, item, Members, no_members, member}
use Rattle.serde_json.specs.Find.{as_array, as_object, as_str}
use Rattle.serde_json.specs.Read.{read}
use Rattle.table_schema.specs.Fields.{Pairs}
use Rattle.table_schema.specs.declared.key.Key.{Key}
use Rattle.table_schema.specs.declared.write.Write.{Write}
use Rattle.table_schema.specs.declared.write.Write.TheVariants as write
pub use Rattle.swss_image.specs.Texts.{key_in_word, texts_in}
use Rattle.swss_script.specs.Fields.{set_fields}

-- the write of an operation: the fields of a DEL have no meaning
abbrev pub write_named : List ℕ → Key → Pairs → Option Write
write_named operation key fields =
    if bytes_eq operation (codes "SET") then Some (write.Set key (set_fields fields))
    else if bytes_eq operation (codes "DEL") then Some (write.Del key)
    else None

abbrev pub write_with : Option (List ℕ) → Option Key → Option Pairs → Option Write
write_with None key fields = None
write_with (Some operation) None fields = None
write_with (Some operation) (Some key) None = None
write_with (Some operation) (Some key) (Some fields) = write_named operation key fields

-- the write of an operation, of a member's name as its key and of that member's value as its fields
abbrev pub write_of : Data → List ℕ → Data → Option Write
write_of operation name fields = write_with (as_str operation) (key_in_word name) (option_and_then texts_in (as_object fields))

-- an object of two members: `OP`, and one whose name is a key
abbrev pub write_in : Members → Option Write
write_in (member name value (member other another no_members)) =
    if bytes_eq name (codes "OP") then write_of value other another
    else if bytes_eq other (codes "OP") then write_of another name value
    else None
write_in _ = None

abbrev pub write_before : Option Write → Option (List Write) → Option (List Write)
write_before None writes = None
write_before (Some write) writes = option_map (λ more. write ∷ more) writes

-- the writes of a list, where each of its elements is one
abbrev pub writes_of_items : Items → Option (List Write)
writes_of_items no_items = Some []
writes_of_items (item element elements) = write_before (option_and_then write_in (as_object element)) (writes_of_items elements)

-- the writes of a batch
abbrev pub batch_of : List ℕ → Option (List Write)
batch_of text = if is_utf8 text then option_and_then (λ json. option_and_then writes_of_items (as_array json)) (read text) else None
