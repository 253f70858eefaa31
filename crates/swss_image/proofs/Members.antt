-- the members of rows, put one after the other
use Rattle.std.proofs.Common.{◌≡◌, ℕ, ◌≤◌, Bool, true, false, ◌||◌, List, [], ◌∷◌, String, Global, string_bytes, string_cmp, refl, ap, ◌∙◌, arith}
use Rattle.std.specs.Cmp.Lexicographic.{slice_cmp}
use Rattle.std.specs.List.{AllByRecursion}
use Rattle.std.specs.Ordering.{match_ordering, nat_cmp, ordering_reverse}
use Rattle.std.specs.declared.cmp.Ordering.{Ordering}
use Rattle.std.specs.declared.cmp.Ordering.TheVariants.{Less, Equal, Greater}
use Rattle.serde_json.specs.Data.{Data, Members, depth, member, members_depth, no_members, object, put, string}
use Rattle.serde_json.specs.View.{members_view, view}
use Rattle.serde_json.specs.Written.{has_float, members_have_float}
use Rattle.serde_json.proofs.Views.{members_view-insert_entry}
use Rattle.std.specs.BTreeMap.{insert_entry}
use Rattle.serde_json.specs.declared.value.Value.{Value}
use Rattle.table_schema.specs.Fields.{HasRisingNames, Pairs, by_bytes}
use Rattle.table_schema.specs.Rows.{Rows}
use Rattle.table_schema.proofs.Merges.{order}
use Rattle.swss_image.specs.Saved.{fields_members, image_data, row_name, with_rows}

-- an entry more
pub put_entry : (es : List (String Global × Value)) (k : String Global) (v : Value) → members_view (insert_entry string_cmp es k v) ≡ put (string_bytes k) (view v) (members_view es)
put_entry = members_view-insert_entry

-- one put, by the order of the two names
pub put-step : (k : List ℕ) (d : Data) (l : List ℕ) (e : Data) (ms : Members) (r : Ordering) → slice_cmp nat_cmp k l ≡ r
    → put k d (member l e ms) ≡ match_ordering r (member k d (member l e ms)) (member l d ms) (member l e (put k d ms))
put-step k d l e ms r h = ap (λ o. match_ordering o (member k d (member l e ms)) (member l d ms) (member l e (put k d ms))) h

-- ---- fields

abbrev pub fields_put : Members → Pairs → Members
fields_put members [] = members
fields_put members (field ∷ fields) = fields_put (put field.0 (string field.1) members) fields

-- a member whose name is below all others stays in front
fields_put-past : (name : List ℕ) (d : Data) (ms : Members) (fields : Pairs) → AllByRecursion (λ f. by_bytes name f.0 ≡ Less) fields → fields_put (member name d ms) fields ≡ member name d (fields_put ms fields)
fields_put-past name d ms [] h = refl
fields_put-past name d ms (f ∷ fields) h =
    ap (λ l. fields_put l fields) (put-step f.0 (string f.1) name d ms Greater (order.antisymm f.0 name ∙ ap ordering_reverse h.0))
    ∙ fields_put-past name d (put f.0 (string f.1) ms) fields h.1

-- fields whose names rise, put one after the other, are the members in their order
pub fields_put-none : (fields : Pairs) → HasRisingNames fields → fields_put no_members fields ≡ fields_members fields
fields_put-none [] h = refl
fields_put-none (f ∷ fields) h = fields_put-past f.0 (string f.1) no_members fields h.0 ∙ ap (member f.0 (string f.1)) (fields_put-none fields h.1)

-- one field more
pub fields-more : (members more : Members) (name text : List ℕ) (fields : Pairs) (d : Data) → more ≡ put name d members → d ≡ string text → fields_put more fields ≡ fields_put members ((name, text) ∷ fields)
fields-more members more name text fields d made is = ap (λ l. fields_put l fields) (made ∙ ap (λ e. put name e members) is)

-- ---- depth

pub depth-fields : (fields : Pairs) → members_depth (fields_members fields) ≡ 0
depth-fields [] = refl
depth-fields (f ∷ fields) = let rest = depth-fields fields in omega arith

depth-put : (k : List ℕ) (d : Data) (ms : Members) (n : ℕ) → depth d ≤ n → members_depth ms ≤ n → members_depth (put k d ms) ≤ n
depth-put k d no_members n h b = omega arith
depth-put k d (member l e ms) n h b =
    let rest = depth-put k d ms n h (omega arith) in
    elim (slice_cmp nat_cmp k l) as (λ o. members_depth (match_ordering o (member k d (member l e ms)) (member l d ms) (member l e (put k d ms))) ≤ n) [ Less ↦ omega arith | Equal ↦ omega arith | Greater ↦ omega arith ]

depth-rows : (ms : Members) (rows : Rows) → members_depth ms ≤ 1 → members_depth (with_rows ms rows) ≤ 1
depth-rows ms [] h = h
depth-rows ms (row ∷ rows) h =
    let flat = depth-fields row.1 in
    depth-rows (put (row_name row.0) (object (fields_members row.1)) ms) rows (depth-put (row_name row.0) (object (fields_members row.1)) ms 1 (omega arith) h)

-- an image is flat
pub depth-image : (rows : Rows) → depth (image_data rows) ≤ 127
depth-image rows = let flat = depth-rows no_members rows (omega arith) in omega arith

-- ---- floats

pub float-fields : (fields : Pairs) → members_have_float (fields_members fields) ≡ false
float-fields [] = refl
float-fields (f ∷ fields) = float-fields fields

float-put : (k : List ℕ) (d : Data) (ms : Members) → has_float d ≡ false → members_have_float ms ≡ false → members_have_float (put k d ms) ≡ false
float-put k d no_members h b = ap (λ x. x || false) h
float-put k d (member l e ms) h b =
    elim (slice_cmp nat_cmp k l) as (λ o. members_have_float (match_ordering o (member k d (member l e ms)) (member l d ms) (member l e (put k d ms))) ≡ false) [
      | Less ↦ ap (λ x. x || members_have_float (member l e ms)) h ∙ b
      | Equal ↦ ap (λ x. x || members_have_float ms) h ∙ last (has_float e) (members_have_float ms) b
      | Greater ↦ ap (λ x. x || members_have_float (put k d ms)) (front (has_float e) (members_have_float ms) b) ∙ float-put k d ms h (last (has_float e) (members_have_float ms) b)
    ]
  where
    last : (a b : Bool) → a || b ≡ false → b ≡ false
    last true b h = cc
    last false b h = h

    front : (a b : Bool) → a || b ≡ false → a ≡ false
    front true b h = h
    front false b h = refl

float-rows : (ms : Members) (rows : Rows) → members_have_float ms ≡ false → members_have_float (with_rows ms rows) ≡ false
float-rows ms [] h = h
float-rows ms (row ∷ rows) h = float-rows (put (row_name row.0) (object (fields_members row.1)) ms) rows (float-put (row_name row.0) (object (fields_members row.1)) ms (float-fields row.1) h)

-- an image has no float
pub float-image : (rows : Rows) → has_float (image_data rows) ≡ false
float-image rows = ap (λ b. b || false) (float-rows no_members rows refl)
