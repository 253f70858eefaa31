-- the rows of an image have keys that were read, and fields
use Rattle.std.proofs.Common.{◌≡◌, ℕ, ◌<◌, ◌==◌, ◌&&◌, nat_lt, Bool, true, false, cond, List, [], ◌∷◌, ◌++◌, length, Option, Some, None, Result, Ok, Err, option_and_then, option_map, is_some, unwrap_or, codes, bytes_eq, refl, if◌then◌else◌}
use Rattle.std.specs.BTreeMap.{insert_entry}
use Rattle.std.specs.List.{list_any, starts_with}
use Rattle.std.specs.Ordering.{match_ordering}
use Rattle.std.specs.declared.cmp.Ordering.TheVariants.{Less, Equal, Greater}
use Rattle.serde_json.specs.Data.{Data, Members, no_members, member}
use Rattle.serde_json.specs.Find.{as_object}
use Rattle.table_schema.specs.Fields.{Pairs, merged}
use Rattle.table_schema.specs.Key.{key_cmp}
use Rattle.table_schema.specs.KeyText.{key_of}
use Rattle.table_schema.specs.ProperKey.{IsReadKey}
use Rattle.table_schema.specs.Rows.{Rows, fields_at, with_fields}
use Rattle.table_schema.specs.declared.key.Key.{Key}
use Rattle.table_schema.proofs.ProperKeys.{IsReadKey-key_of}
use Rattle.swss_image.specs.Loaded.{are_named, image_of, image_rows, in_form, in_json, in_version, is_routed, is_version, json_of, number_in, or_shape, row_fields, rows_in, rows_of_version, version_of, with_members, with_new_row}
use Rattle.swss_image.specs.Texts.{key_in_word}
use Rattle.swss_image.specs.declared.fault.ImageFault.{ImageFault}
use Rattle.swss_image.specs.declared.fault.ImageFault.TheVariants as fault
use Rattle.swss_image.proofs.Whole.{row_fields_some, some-over}
use Rattle.sai_types.specs.declared.kind.Kind.{Kind}
use Rattle.swss_types.specs.Number.{number_within}
use Rattle.swss_script.specs.Batch.{key_in_word as word_key}
use Rattle.swss_script.specs.Fields.{fields_of}
use Rattle.swss_types.specs.VrfNames.{vrf_name_of}
use Rattle.swss_types.specs.declared.vrf.Vrf.TheVariants as vrf
use Rattle.swss_script.specs.Line.{chip_with, del_line, del_with, fail_with, forward_in, image_line, is_after, is_name, json_line, kind_of_word, line_by, line_with, producer_line, script_line_of, set_line, set_with, show_line, show_of, shown, word_alone}
use Rattle.swss_script.specs.Stage.{AreImageRows}
use Rattle.swss_script.specs.Words.{behind_word, two_words, words_in}
use Rattle.swss_script.specs.declared.line.HeadLine.{HeadLine}
use Rattle.swss_script.specs.declared.line.HeadLine.TheVariants as head
use Rattle.swss_script.specs.declared.line.Line.{Line}
use Rattle.swss_script.specs.declared.line.Line.TheVariants.{Blank, Head, Producer, Put, Batch, Block, Restart, Settle, Shown, Other}
use Rattle.swss_script.specs.declared.parts.Show.{Show}

-- ---- rows

-- one row more
image-put : (rows : Rows) (k : Key) (fields : Pairs) → IsReadKey k → 0 < length fields → AreImageRows rows → AreImageRows (insert_entry key_cmp rows k fields)
image-put [] k fields read some h = ((read, some), tt)
image-put (row ∷ rows) k fields read some (first, h) =
    let rest = image-put rows k fields read some h in
    elim (key_cmp k row.0) as (λ o. AreImageRows (match_ordering o ((k, fields) ∷ row ∷ rows) ((row.0, fields) ∷ rows) (row ∷ insert_entry key_cmp rows k fields))) [
      | Less ↦ ((read, some), (first, h))
      | Equal ↦ ((first.0, some), h)
      | Greater ↦ (first, rest)
    ]

abbrev IsReadWord : Option Key → Type 0
IsReadWord None = Unit {0}
IsReadWord (Some key) = IsReadKey key

read-if : (b : Bool) (word : List ℕ) → IsReadWord (if b then Some (key_of word) else None)
read-if true word = IsReadKey-key_of word
read-if false word = tt

read-word : (word : List ℕ) → IsReadWord (key_in_word word)
read-word word = read-if (list_any (λ byte. byte == 58) word) word

abbrev AreLoaded : Option Rows → Type 0
AreLoaded None = Unit {0}
AreLoaded (Some rows) = AreImageRows rows

loaded-if : (b : Bool) (x y : Option Rows) → AreLoaded x → AreLoaded y → AreLoaded (cond b x y)
loaded-if true x y p q = p
loaded-if false x y p q = q

loaded-new : (joins : Bool) (key : Option Key) (row : Data) (fields : Option Pairs) (rows : Rows) → IsReadWord key → fields ≡ row_fields row → AreImageRows rows → AreLoaded (with_new_row joins key fields rows)
loaded-new joins None row fields rows read is h = tt
loaded-new joins (Some key) row None rows read is h = tt
loaded-new joins (Some key) row (Some fields) rows read is h =
    let some = row_fields_some row fields is in
    let there = unwrap_or (fields_at rows key) [] in
    loaded-if (is_some (fields_at rows key)) (cond (joins && is_routed key) (Some (with_fields rows key fields)) None) (Some (insert_entry key_cmp rows key fields))
    (loaded-if (joins && is_routed key) (Some (with_fields rows key fields)) None (image-put rows key (merged there fields) read (some-over there fields some) h) tt)
    (image-put rows key fields read some h)

loaded-members : (joins : Bool) (members : Members) (rows : Rows) → AreImageRows rows → AreLoaded (with_members joins members rows)
loaded-members joins no_members rows h = h
loaded-members joins (member name row more) rows h = by (λ next. loaded-members joins more next) (with_new_row joins (key_in_word name) (row_fields row) rows) (loaded-new joins (key_in_word name) row (row_fields row) rows (read-word name) refl h)
  where
    by : ((next : Rows) → AreImageRows next → AreLoaded (with_members joins more next)) → (with_row : Option Rows) → AreLoaded with_row → AreLoaded (option_and_then (with_members joins more) with_row)
    by others None h = tt
    by others (Some next) h = others next h

loaded-in : (joins : Bool) (members : Option Members) → AreLoaded (option_and_then (λ members. with_members joins members []) members)
loaded-in joins None = tt
loaded-in joins (Some members) = loaded-members joins members [] tt

loaded-of : (version : Option ℕ) (rows : Data) → AreLoaded (rows_of_version version rows)
loaded-of None rows = tt
loaded-of (Some version) rows = loaded-if (is_version version) (rows_in (version == 1) rows) None (loaded-in (version == 1) (as_object rows)) tt

loaded-rows : (members : Members) → AreLoaded (image_rows members)
loaded-rows no_members = tt
loaded-rows (member name rows no_members) = tt
loaded-rows (member name rows (member other version no_members)) = loaded-if (are_named name other) (rows_of_version (number_in (Some version)) rows) None (loaded-of (number_in (Some version)) rows) tt
loaded-rows (member name rows (member other version (member third it more))) = tt

-- ---- images

abbrev IsLoaded : Result Rows ImageFault → Type 0
IsLoaded (Ok rows) = AreImageRows rows
IsLoaded (Err fault) = Unit {0}

loaded-shape : (rows : Option Rows) → AreLoaded rows → IsLoaded (or_shape rows)
loaded-shape None h = tt
loaded-shape (Some rows) h = h

loaded-form : (value : Data) → IsLoaded (in_form value)
loaded-form value = loaded-shape (option_and_then image_rows (as_object value)) (by (as_object value))
  where
    by : (members : Option Members) → AreLoaded (option_and_then image_rows members)
    by None = tt
    by (Some members) = loaded-rows members

loaded-version : (version : Option ℕ) (value : Data) → IsLoaded (in_version version value)
loaded-version None value = loaded-form value
loaded-version (Some version) value = by (is_version version)
  where
    by : (same : Bool) → IsLoaded (if same then in_form value else Err (fault.BadVersion version))
    by true = loaded-form value
    by false = tt

loaded-json : (json : Option Data) → IsLoaded (in_json json)
loaded-json None = tt
loaded-json (Some value) = loaded-version (version_of value) value

loaded-image : (text : List ℕ) → IsLoaded (image_of text)
loaded-image text = loaded-json (json_of text)

-- ---- lines

-- a line that is an image has such rows
abbrev pub HasReadImage : Line → Type 0
HasReadImage (Head (Some (head.Image image))) = IsLoaded image
HasReadImage line = Unit {0}

line-if : (b : Bool) (x y : Line) → HasReadImage x → HasReadImage y → HasReadImage (cond b x y)
line-if true x y p q = p
line-if false x y p q = q

line-image : (words : List (List ℕ)) (text : List ℕ) → HasReadImage (Head (image_line words text))
line-image [] text = tt
line-image (word ∷ words) text = loaded-image text

line-head : (words : Option (List ℕ × List ℕ)) (of : List ℕ × List ℕ → Option HeadLine) → ((parts : List ℕ × List ℕ) → HasReadImage (Head (of parts))) → HasReadImage (Head (option_and_then of words))
line-head None of each = tt
line-head (Some parts) of each = each parts

line-port : (words : Option (List ℕ × List ℕ)) → HasReadImage (Head (option_map (λ parts. head.Port (parts.0 ++ 32 ∷ parts.1)) words))
line-port None = tt
line-port (Some parts) = tt

line-chip : (kind : Option Kind) (most : Option ℕ) → HasReadImage (Head (chip_with kind most))
line-chip None most = tt
line-chip (Some kind) None = tt
line-chip (Some kind) (Some most) = tt

line-fail : (number : Option ℕ) (after : Option Bool) → HasReadImage (Head (fail_with number after))
line-fail None after = tt
line-fail (Some number) None = tt
line-fail (Some number) (Some after) = by (nat_lt 0 number)
  where
    by : (some : Bool) → HasReadImage (Head (if some then Some (head.Fail (record { at = number; after = after })) else None))
    by true = tt
    by false = tt

line-producer : (words : List (List ℕ)) → HasReadImage (producer_line words)
line-producer [] = tt
line-producer (word ∷ []) = line-if (is_name word) _ _ tt tt
line-producer (word ∷ other ∷ words) = tt

line-set_with : (key : Option Key) (fields : Option Pairs) → HasReadImage (set_with key fields)
line-set_with None fields = tt
line-set_with (Some key) None = tt
line-set_with (Some key) (Some fields) = tt

line-set : (words : List (List ℕ)) → HasReadImage (set_line words)
line-set [] = tt
line-set (word ∷ words) = line-set_with (word_key word) (fields_of words)

line-del_with : (key : Option Key) → HasReadImage (del_with key)
line-del_with None = tt
line-del_with (Some key) = tt

line-del : (words : List (List ℕ)) → HasReadImage (del_line words)
line-del [] = tt
line-del (word ∷ []) = line-del_with (word_key word)
line-del (word ∷ other ∷ words) = tt

line-json : (words : List (List ℕ)) (text : List ℕ) → HasReadImage (json_line words text)
line-json [] text = tt
line-json (word ∷ words) text = tt

line-alone : (line : Line) (words : List (List ℕ)) → HasReadImage line → HasReadImage (word_alone line words)
line-alone line [] is = is
line-alone line (word ∷ words) is = tt

line-shown : (show : Option Show) → HasReadImage (shown show)
line-shown None = tt
line-shown (Some what) = tt

line-show : (words : List (List ℕ)) → HasReadImage (show_line words)
line-show [] = tt
line-show (word ∷ []) = line-shown (show_of word)
line-show (word ∷ address ∷ []) = line-shown (forward_in word (Some vrf.Default) address)
line-show (word ∷ router ∷ address ∷ []) = line-shown (forward_in word (option_map vrf.Named (vrf_name_of router)) address)
line-show (word ∷ router ∷ address ∷ other ∷ words) = tt

line-by : (first : List ℕ) (others : List (List ℕ)) (behind : List ℕ) → HasReadImage (line_by first others behind)
line-by first others behind =
    line-if (starts_with ◌==◌ first (codes "#")) _ _ tt
    (line-if (bytes_eq first (codes "port")) _ _ (line-port (two_words others))
    (line-if (bytes_eq first (codes "chip")) _ _ (line-head (two_words others) _ (λ parts. line-chip (kind_of_word parts.0) (number_within 1000000 parts.1)))
    (line-if (bytes_eq first (codes "fail")) _ _ (line-head (two_words others) _ (λ parts. line-fail (number_within 1000000000 parts.0) (is_after parts.1)))
    (line-if (bytes_eq first (codes "image")) _ _ (line-image others behind)
    (line-if (bytes_eq first (codes "producer")) _ _ (line-producer others)
    (line-if (bytes_eq first (codes "set")) _ _ (line-set others)
    (line-if (bytes_eq first (codes "del")) _ _ (line-del others)
    (line-if (bytes_eq first (codes "json")) _ _ (line-json others behind)
    (line-if (bytes_eq first (codes "restart")) _ _ (line-alone Restart others tt)
    (line-if (bytes_eq first (codes "settle")) _ _ (line-alone Settle others tt)
    (line-if (bytes_eq first (codes "show")) _ _ (line-show others) tt)))))))))))

line-with : (words : List (List ℕ)) (behind : List ℕ) → HasReadImage (line_with words behind)
line-with [] behind = tt
line-with (first ∷ others) behind = line-by first others behind

-- the image of a line that is read has such rows
pub line-read : (text : List ℕ) → HasReadImage (script_line_of text)
line-read text = line-with (words_in text) (behind_word text)
