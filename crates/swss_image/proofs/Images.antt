-- what an image that was written reads as
use Rattle.std.proofs.Common.{◌≡◌, ℕ, zero, suc, ◌<◌, ◌≤◌, ◌==◌, Bool, true, false, cond, ◌||◌, List, [], ◌∷◌, length, get_or, Option, Some, None, is_some, option_map, option_and_then, Ok, refl, sym, ap, ◌∙◌, subst, arith}
use Rattle.std.specs.BTreeMap.{insert_entry, is_at}
use Rattle.std.specs.Cmp.{eq_by_cmp_equiv}
use Rattle.std.specs.Cmp.Lexicographic.{slice_cmp}
use Rattle.std.specs.List.{AllByRecursion, fold, list_any}
use Rattle.std.specs.Map.{keys_of}
use Rattle.std.specs.Ordering.{is_eq, match_ordering, nat_cmp}
use Rattle.std.specs.Str.{IsUtf8}
use Rattle.std.specs.declared.cmp.Ordering.{Ordering}
use Rattle.std.specs.declared.cmp.Ordering.TheVariants.{Less, Equal, Greater}
use Rattle.std.proofs.lemmas.Bool.{eq-eqb}
use Rattle.std.proofs.lemmas.Map.Lookups.{exact_bytes}
use Rattle.std.proofs.lemmas.Str.{utf8_lossy-IsUtf8}
use Rattle.serde_json.specs.Data.{Data, Members, depth, member, no_members, object, put}
use Rattle.serde_json.specs.Read.{read}
use Rattle.serde_json.specs.Written.{compact_text, has_float}
use Rattle.swss_types.proofs.Maps.{lookup-insert_entry}
use Rattle.table_schema.specs.Fields.{HasRisingNames, Pairs}
use Rattle.table_schema.specs.Key.{key_cmp}
use Rattle.table_schema.specs.KeyText.{key_of, key_text}
use Rattle.table_schema.specs.ProperKey.{AreProperKeys, IsProperKey}
use Rattle.table_schema.specs.Rows.{HasRisingRows, Rows, fields_at}
use Rattle.table_schema.specs.declared.key.Key.{Key}
use Rattle.table_schema.proofs.Keys.{at_itself, key_total}
use Rattle.table_schema.proofs.Merges.{merged-nil}
use Rattle.table_schema.proofs.Puts.{put-other}
use Rattle.row_store.proofs.Copies.{fold-rising, with_row}
use Rattle.swss_image.specs.Loaded.{image_of, in_json, or_shape, row_fields, some_fields, with_members, with_new_row}
use Rattle.swss_image.specs.Saved.{AreNamed, HaveFields, fields_members, image_data, image_text, row_name, rows_members, with_rows}
use Rattle.swss_image.specs.Texts.{key_in_word, text_before, texts_in}
use Rattle.swss_image.proofs.Json.{json-some}
use Rattle.swss_image.proofs.Members.{depth-image, float-image, put-step}

-- ---- a row

or-true : (a : Bool) → a || true ≡ true
or-true true = refl
or-true false = refl

colon-found : (text : List ℕ) (k : ℕ) → k < length text → get_or text k 58 ≡ 58 → list_any (λ byte. byte == 58) text ≡ true
colon-found [] k lt is = absurd (omega arith)
colon-found (x ∷ xs) zero lt is = ap (λ b. b || list_any (λ byte. byte == 58) xs) (eq-eqb x 58 is)
colon-found (x ∷ xs) (suc k) lt is = ap (λ b. x == 58 || b) (colon-found xs k (omega arith) is) ∙ or-true (x == 58)

-- a proper key is written as the name of its row
pub row_name-proper : (k : Key) → IsProperKey k → row_name k ≡ key_text k
row_name-proper k h = utf8_lossy-IsUtf8 (key_text k) h.utf8

-- the written name of a proper key reads as the key
pub key_in_word-key_text : (k : Key) → IsProperKey k → key_in_word (key_text k) ≡ Some k
key_in_word-key_text k h = ap (λ b. cond b (Some (key_of (key_text k))) None) (colon-found (key_text k) h.colon.0 h.colon.1 h.colon.2) ∙ ap Some h.reads

-- so does the name of its row
key_in_word-row_name : (k : Key) → IsProperKey k → key_in_word (row_name k) ≡ Some k
key_in_word-row_name k h = ap key_in_word (row_name-proper k h) ∙ key_in_word-key_text k h

texts_in-fields_members : (fields : Pairs) → texts_in (fields_members fields) ≡ Some fields
texts_in-fields_members [] = refl
texts_in-fields_members (f ∷ fields) = ap (text_before f.0 (Some f.1)) (texts_in-fields_members fields)

-- the fields of a row that was written
pub row_fields-object : (fields : Pairs) → 0 < length fields → HasRisingNames fields → row_fields (object (fields_members fields)) ≡ Some fields
row_fields-object [] some h = absurd (omega arith)
row_fields-object (f ∷ fields) some h = ap some_fields (texts_in-fields_members (f ∷ fields)) ∙ ap Some (merged-nil (f ∷ fields) h)

-- ---- rows

-- a key that another one is not, if there is another one
abbrev pub IsOther : Key → Option Key → Type 0
IsOther k None = Unit {0}
IsOther k (Some j) = is_at (key_cmp j) k ≡ false

abbrev pub AreOthers : Key → Members → Type 0
AreOthers k no_members = Unit {0}
AreOthers k (member name d ms) = IsOther k (key_in_word name) × AreOthers k ms

abbrev put_row : Key → Pairs → Rows → Rows
put_row k fields rows = insert_entry key_cmp rows k fields

new_or_none : (b c : Bool) (x y : Rows) (f : Rows → Rows) → b ≡ c → x ≡ f y → cond b None (Some x) ≡ option_map f (cond c None (Some y))
new_or_none true c x y f same is = ap (λ d. option_map f (cond d None (Some y))) same
new_or_none false c x y f same is = ap Some is ∙ ap (λ d. option_map f (cond d None (Some y))) same

found_other : (rows : Rows) (k j : Key) (fields : Pairs) → is_at (key_cmp j) k ≡ false → fields_at (insert_entry key_cmp rows k fields) j ≡ fields_at rows j
found_other rows k j fields other = lookup-insert_entry key_cmp key_total rows k fields j ∙ ap (λ b. cond b (Some fields) (fields_at rows j)) other

-- a row that is added beside another one
with_new_row-put : (o : Option Key) (p : Option Pairs) (rows : Rows) (k : Key) (fields : Pairs) → IsOther k o → with_new_row false o p (put_row k fields rows) ≡ option_map (put_row k fields) (with_new_row false o p rows)
with_new_row-put None p rows k fields h = refl
with_new_row-put (Some j) None rows k fields h = refl
with_new_row-put (Some j) (Some others) rows k fields h =
    new_or_none (is_some (fields_at (put_row k fields rows) j)) (is_some (fields_at rows j)) (insert_entry key_cmp (put_row k fields rows) j others) (insert_entry key_cmp rows j others) (put_row k fields)
    (ap is_some (found_other rows k j fields h)) (put-other key_cmp key_total rows k j fields others h)

-- a step that may as well be taken after another one
then_same : (o : Option Rows) (f g : Rows → Option Rows) (step : Rows → Rows) → ((r : Rows) → o ≡ Some r → f r ≡ option_map step (g r)) → option_and_then f o ≡ option_map step (option_and_then g o)
then_same None f g step h = refl
then_same (Some r) f g step h = h r refl

then_mapped : (o : Option Rows) (f : Rows → Option Rows) (step : Rows → Rows) → ((r : Rows) → f (step r) ≡ option_map step (f r)) → option_and_then f (option_map step o) ≡ option_map step (option_and_then f o)
then_mapped None f step h = refl
then_mapped (Some r) f step h = h r

-- members that are added beside a row
with_members-put : (ms : Members) (rows : Rows) (k : Key) (fields : Pairs) → AreOthers k ms → with_members false ms (put_row k fields rows) ≡ option_map (put_row k fields) (with_members false ms rows)
with_members-put no_members rows k fields h = refl
with_members-put (member name d ms) rows k fields h =
    ap (option_and_then (with_members false ms)) (with_new_row-put (key_in_word name) (row_fields d) rows k fields h.0)
    ∙ then_mapped (with_new_row false (key_in_word name) (row_fields d) rows) (with_members false ms) (put_row k fields) (λ r. with_members-put ms r k fields h.1)

-- a row of a new key
row_new : (rows : Rows) (k : Key) (fields : Pairs) (o : Option Key) (p : Option Pairs) → o ≡ Some k → p ≡ Some fields → fields_at rows k ≡ None → with_new_row false o p rows ≡ Some (put_row k fields rows)
row_new rows k fields o p key row none =
    ap (λ q. with_new_row false q p rows) key ∙ ap (λ q. with_new_row false (Some k) q rows) row ∙ ap (λ f. cond (is_some f) None (Some (put_row k fields rows))) none

-- a key that is not there is none of those of rows with one more
new_stays : (o : Option Key) (p : Option Pairs) (rows r : Rows) (k : Key) → with_new_row false o p rows ≡ Some r → IsOther k o → fields_at rows k ≡ None → fields_at r k ≡ None
new_stays None p rows r k is h none = cc
new_stays (Some j) None rows r k is h none = cc
new_stays (Some j) (Some others) rows r k is h none = by (is_some (fields_at rows j)) is
  where
    other : is_at (key_cmp k) j ≡ false
    other = (eq_by_cmp_equiv key_total).symm k j ∙ h

    by : (b : Bool) → cond b None (Some (insert_entry key_cmp rows j others)) ≡ Some r → fields_at r k ≡ None
    by true e = cc
    by false e = let same : insert_entry key_cmp rows j others ≡ r = cc in ap (λ rs. fields_at rs k) (sym same) ∙ found_other rows j k others other ∙ none

not_itself : (k j : Key) → k ≡ j → is_at (key_cmp j) k ≡ false → ⊥
not_itself k j same differ = let yes = at_itself j k (sym same) in cc

-- a member that is put among others is the row that is added to theirs
pub with_members-one : (ms : Members) (rows : Rows) (k : Key) (fields : Pairs) (name : List ℕ) (d : Data) → key_in_word name ≡ Some k → row_fields d ≡ Some fields → fields_at rows k ≡ None → AreOthers k ms
    → with_members false (put name d ms) rows ≡ option_map (put_row k fields) (with_members false ms rows)
with_members-one no_members rows k fields name d key row none h = ap (option_and_then (with_members false no_members)) (row_new rows k fields (key_in_word name) (row_fields d) key row none)
with_members-one (member n e ms) rows k fields name d key row none h =
    by (slice_cmp nat_cmp name n) refl
    (then_same (with_new_row false (key_in_word n) (row_fields e) rows) (with_members false (put name d ms)) (with_members false ms) (put_row k fields)
    (λ r is. with_members-one ms r k fields name d key row (new_stays (key_in_word n) (row_fields e) rows r k is h.0 none) h.1))
  where
    by : (r : Ordering) → slice_cmp nat_cmp name n ≡ r
        → option_and_then (with_members false (put name d ms)) (with_new_row false (key_in_word n) (row_fields e) rows) ≡ option_map (put_row k fields) (with_members false (member n e ms) rows)
        → with_members false (put name d (member n e ms)) rows ≡ option_map (put_row k fields) (with_members false (member n e ms) rows)
    by Less is later =
        ap (λ l. with_members false l rows) (put-step name d n e ms Less is)
        ∙ ap (option_and_then (with_members false (member n e ms))) (row_new rows k fields (key_in_word name) (row_fields d) key row none)
        ∙ with_members-put (member n e ms) rows k fields h
    by Equal is later = absurd (not_itself k k refl (subst (IsOther k) (ap key_in_word (sym (exact_bytes name n is)) ∙ key) h.0))
    by Greater is later = ap (λ l. with_members false l rows) (put-step name d n e ms Greater is) ∙ later

-- one name more that is of another key
others-put : (k : Key) (name : List ℕ) (d : Data) (ms : Members) → IsOther k (key_in_word name) → AreOthers k ms → AreOthers k (put name d ms)
others-put k name d no_members o h = (o, tt)
others-put k name d (member n e ms) o h =
    let rest = others-put k name d ms o h.1 in
    elim (slice_cmp nat_cmp name n) as (λ r. AreOthers k (match_ordering r (member name d (member n e ms)) (member n d ms) (member n e (put name d ms)))) [ Less ↦ (o, h) | Equal ↦ h | Greater ↦ (h.0, rest) ]

-- the keys of rows are others than those of the members
abbrev pub AreNew : Members → Rows → Type 0
AreNew ms rows = AllByRecursion (λ row. AreOthers row.0 ms) rows

new-put : (ms : Members) (k : Key) (d : Data) (rows : Rows) → IsProperKey k → AllByRecursion (λ y. key_cmp k y.0 ≡ Less) rows → AreNew ms rows → AreNew (put (row_name k) d ms) rows
new-put ms k d [] proper less h = tt
new-put ms k d (row ∷ rows) proper less h =
    (others-put row.0 (row_name k) d ms (subst (IsOther row.0) (sym (key_in_word-row_name k proper)) (ap is_eq less.0)) h.0, new-put ms k d rows proper less.1 h.1)

-- rows that are written behind members
laid-members : (ms : Members) (done rows : Rows) → with_members false ms [] ≡ Some done → AreProperKeys (keys_of rows) → HaveFields rows → AreNamed rows → HasRisingRows rows → AreNew ms rows
    → with_members false (with_rows ms rows) [] ≡ Some (fold with_row done rows)
laid-members ms done [] is proper some named rising new = is
laid-members ms done (row ∷ rows) is proper some named rising new =
    laid-members (put (row_name row.0) (object (fields_members row.1)) ms) (put_row row.0 row.1 done) rows
    (with_members-one ms [] row.0 row.1 (row_name row.0) (object (fields_members row.1)) (key_in_word-row_name row.0 proper.0) (row_fields-object row.1 some.0 named.0) refl new.0 ∙ ap (option_map (put_row row.0 row.1)) is)
    proper.1 some.1 named.1 rising.1 (new-put ms row.0 (object (fields_members row.1)) rows proper.0 rising.0 new.1)

new-none : (rows : Rows) → AreNew no_members rows
new-none [] = tt
new-none (row ∷ rows) = (tt, new-none rows)

-- the rows that were written
pub with_members-rows : (rows : Rows) → AreProperKeys (keys_of rows) → HaveFields rows → AreNamed rows → HasRisingRows rows → with_members false (rows_members rows) [] ≡ Some rows
with_members-rows rows proper some named rising = laid-members no_members [] rows refl proper some named rising (new-none rows) ∙ ap Some (fold-rising rows rising)

-- ---- an image

-- an image that was written has the rows that it was written for
pub image-back : (rows : Rows) (text : List ℕ) → IsUtf8 text → read text ≡ Some (image_data rows) → AreProperKeys (keys_of rows) → HaveFields rows → AreNamed rows → HasRisingRows rows → image_of text ≡ Ok rows
image-back rows text utf8 is proper some named rising = ap in_json (json-some text (image_data rows) utf8 is) ∙ ap or_shape (with_members-rows rows proper some named rising)

-- what was written reads back, if it is flat
pub written-back : (rows : Rows) (value : Data) (text : List ℕ) → value ≡ image_data rows → IsUtf8 text → (depth value ≤ 127 → read text ≡ Some value)
    → AreProperKeys (keys_of rows) → HaveFields rows → AreNamed rows → HasRisingRows rows → image_of text ≡ Ok rows
written-back rows value text is utf8 back proper some named rising =
    image-back rows text utf8 (back (subst (λ d. depth d ≤ 127) (sym is) (depth-image rows)) ∙ ap Some is) proper some named rising

-- the text of what has no float
pub written-text : (rows : Rows) (value : Data) (text : List ℕ) → value ≡ image_data rows → (has_float value ≡ false → text ≡ compact_text value) → text ≡ image_text rows
written-text rows value text is spelled = spelled (ap has_float is ∙ float-image rows) ∙ ap compact_text is
