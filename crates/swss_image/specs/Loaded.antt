-- The rows of an image, or what is wrong with a text that is none. Own, but for what the JSON means, which is serde_json's reading.
use Rattle.std.specs.Prelude.{ℕ, ◌==◌, ◌&&◌, ◌||◌, Bool, true, false, List, [], ◌∷◌, Option, Some, None, option_and_then, is_some, Result, Ok, Err, codes, bytes_eq, if◌then◌else◌}
use Rattle.std.specs.BTreeMap.{insert_entry}
use Rattle.std.specs.Str.{is_utf8}
use Rattle.serde_json.specs.Data.{Data, Members, no_members, member}
use Rattle.serde_json.specs.Find.{as_number, as_object, as_u64, get}
use Rattle.serde_json.specs.Read.{read}
use Rattle.table_schema.specs.Fields.{Pairs, merged}
use Rattle.table_schema.specs.Key.{key_cmp}
use Rattle.table_schema.specs.Rows.{Rows, fields_at, with_fields}
use Rattle.table_schema.specs.declared.key.Key.{Key}
use Rattle.table_schema.specs.declared.key.Key.TheVariants as key
use Rattle.swss_types.specs.declared.vrf.Vrf.TheVariants as vrf
use Rattle.swss_image.specs.Texts.{key_in_word, texts_in}
use Rattle.swss_image.specs.declared.fault.ImageFault.{ImageFault}
use Rattle.swss_image.specs.declared.fault.ImageFault.TheVariants as fault

-- ---- a row

-- one field or more
abbrev pub some_fields : Option Pairs → Option Pairs
some_fields None = None
some_fields (Some []) = None
some_fields (Some (field ∷ fields)) = Some (merged [] (field ∷ fields))

-- the fields of a row: an object of strings that is not empty
abbrev pub row_fields : Data → Option Pairs
row_fields row = some_fields (option_and_then texts_in (as_object row))

-- ---- rows

-- a key of which version 1 kept each spelling as a row of its own
abbrev pub is_routed : Key → Bool
is_routed (key.Route (vrf.Named n) prefix) = true
is_routed _ = false

-- rows with one more, whose key is none of theirs; where spellings of one key are joined, its fields are laid over those that are there
abbrev pub with_new_row : Bool → Option Key → Option Pairs → Rows → Option Rows
with_new_row joins None fields rows = None
with_new_row joins (Some k) None rows = None
with_new_row joins (Some k) (Some fields) rows =
    if is_some (fields_at rows k)
    then (if joins && is_routed k then Some (with_fields rows k fields) else None)
    else Some (insert_entry key_cmp rows k fields)

-- rows with those of an object, where each of its members is a row and no two of its names read as one key, unless such are joined
abbrev pub with_members : Bool → Members → Rows → Option Rows
with_members joins no_members rows = Some rows
with_members joins (member name row more) rows = option_and_then (with_members joins more) (with_new_row joins (key_in_word name) (row_fields row) rows)

abbrev pub rows_in : Bool → Data → Option Rows
rows_in joins rows = option_and_then (λ members. with_members joins members []) (as_object rows)

-- ---- an image

-- the version that a value gives itself, where it is an unsigned whole number
abbrev pub number_in : Option Data → Option ℕ
number_in value = option_and_then as_u64 (option_and_then as_number value)

abbrev pub version_of : Data → Option ℕ
version_of value = number_in (get (codes "version") value)

-- the versions of the form of an image
abbrev pub is_version : ℕ → Bool
is_version version = version == 1 || version == 2

-- whether two members, which stand in byte order, are `rows` and `version`
abbrev pub are_named : List ℕ → List ℕ → Bool
are_named name other = bytes_eq name (codes "rows") && bytes_eq other (codes "version")

-- the rows of a version: the first one joins spellings of one key
abbrev pub rows_of_version : Option ℕ → Data → Option Rows
rows_of_version None rows = None
rows_of_version (Some version) rows = if is_version version then rows_in (version == 1) rows else None

-- the rows of an object of just these two members
abbrev pub image_rows : Members → Option Rows
image_rows (member name rows (member other version no_members)) = if are_named name other then rows_of_version (number_in (Some version)) rows else None
image_rows _ = None

abbrev pub or_shape : Option Rows → Result Rows ImageFault
or_shape None = Err fault.BadShape
or_shape (Some rows) = Ok rows

abbrev pub in_form : Data → Result Rows ImageFault
in_form value = or_shape (option_and_then image_rows (as_object value))

-- another version is the fault, whatever else the value has
abbrev pub in_version : Option ℕ → Data → Result Rows ImageFault
in_version None value = in_form value
in_version (Some version) value = if is_version version then in_form value else Err (fault.BadVersion version)

abbrev pub in_json : Option Data → Result Rows ImageFault
in_json None = Err fault.NotJson
in_json (Some value) = in_version (version_of value) value

-- the JSON that a text is
abbrev pub json_of : List ℕ → Option Data
json_of text = if is_utf8 text then read text else None

-- the rows of the image that a text is, or the first of its faults
abbrev pub image_of : List ℕ → Result Rows ImageFault
image_of text = in_json (json_of text)
