-- pairs that are laid one over the other: the last value of each name stays, and the names rise
use Rattle.std.proofs.Common.{◌≡◌, ℕ, Bool, true, false, cond, List, [], ◌∷◌, Option, Some, None, refl, sym, ap, ◌∙◌, bytes_eq}
use Rattle.std.specs.Ordering.{is_eq, match_ordering}
use Rattle.std.specs.declared.cmp.Ordering.{Ordering}
use Rattle.std.specs.declared.cmp.Ordering.TheVariants.{Less, Equal, Greater}
use Rattle.std.proofs.lemmas.Cmp.{nat_list_cmp_total}
use Rattle.std.proofs.lemmas.Map.Lookups.{exact_bytes}
use Rattle.std.proofs.lemmas.Map.Text.{is_eq-slice_cmp}
use Rattle.std.proofs.lemmas.Slice.Eq.{bytes_eq-Decides}
use Rattle.table_schema.specs.Fields.{Pairs, by_bytes, HasRisingNames, value_of, with_pair, merged}
use Rattle.table_schema.specs.LastValue.{last_value, last_value_behind}
use Rattle.table_schema.proofs.Places.{HasRisingKeys-insert_entry}

-- names that rise still rise with others
pub HasRisingNames-merged : (fields pairs : Pairs) → HasRisingNames fields → HasRisingNames (merged fields pairs)
HasRisingNames-merged fields [] h = h
HasRisingNames-merged fields (pair ∷ pairs) h = HasRisingNames-merged (with_pair fields pair.0 pair.1) pairs (HasRisingKeys-insert_entry by_bytes nat_list_cmp_total fields pair.0 pair.1 h)

-- where a name is found, by whether it is this one and whether it is the first
abbrev found : Bool → List ℕ → Option (List ℕ) → Option (List ℕ)
found here value rest = cond here (Some value) rest

found_over : (b : Bool) (v w : List ℕ) (rest : Option (List ℕ)) → found b v rest ≡ found b v (found b w rest)
found_over true v w rest = refl
found_over false v w rest = refl

found_apart : (a b : Bool) (v w : List ℕ) (rest : Option (List ℕ)) → (a ≡ true → b ≡ true → ⊥) → found a w (found b v rest) ≡ found b v (found a w rest)
found_apart true true v w rest apart = absurd (apart refl refl)
found_apart true false v w rest apart = refl
found_apart false b v w rest apart = refl

-- one pair more, by the order of its name and the first
put-first : (q k : List ℕ) (e : List ℕ × List ℕ) (es : Pairs) (v : List ℕ) (r : Ordering) → by_bytes k e.0 ≡ r
    → value_of q (with_pair es k v) ≡ found (bytes_eq q k) v (value_of q es)
    → value_of q (match_ordering r ((k, v) ∷ e ∷ es) ((e.0, v) ∷ es) (e ∷ with_pair es k v)) ≡ found (bytes_eq q k) v (value_of q (e ∷ es))
put-first q k e es v Less is more = ap (λ b. found b v (value_of q (e ∷ es))) (is_eq-slice_cmp q k)
put-first q k e es v Equal is more =
    let same : k ≡ e.0 = exact_bytes k e.0 is in
    found_over (is_eq (by_bytes q e.0)) v e.1 (value_of q es)
    ∙ ap (λ b. found b v (value_of q (e ∷ es))) (is_eq-slice_cmp q e.0)
    ∙ ap (λ x. found (bytes_eq q x) v (value_of q (e ∷ es))) (sym same)
put-first q k e es v Greater is more =
    let apart : is_eq (by_bytes q e.0) ≡ true → bytes_eq q k ≡ true → ⊥ = λ a b.
    let first : q ≡ e.0 = (bytes_eq-Decides q e.0).0 (sym (is_eq-slice_cmp q e.0) ∙ a) in
    let key : q ≡ k = (bytes_eq-Decides q k).0 b in
    let tied : true ≡ is_eq (by_bytes k e.0) = sym ((bytes_eq-Decides k e.0).1 (sym key ∙ first)) ∙ sym (is_eq-slice_cmp k e.0) in
    let not_tied : true ≡ false = tied ∙ ap is_eq is in
    cc in
    ap (found (is_eq (by_bytes q e.0)) e.1) more ∙ found_apart (is_eq (by_bytes q e.0)) (bytes_eq q k) v e.1 (value_of q es) apart

value-with_pair : (q k : List ℕ) (es : Pairs) (v : List ℕ) → value_of q (with_pair es k v) ≡ found (bytes_eq q k) v (value_of q es)
value-with_pair q k [] v = ap (λ b. found b v None) (is_eq-slice_cmp q k)
value-with_pair q k (e ∷ es) v = put-first q k e es v (by_bytes k e.0) refl (value-with_pair q k es v)

value-merged : (name : List ℕ) (fields pairs : Pairs) → value_of name (merged fields pairs) ≡ last_value_behind (value_of name fields) name pairs
value-merged name fields [] = refl
value-merged name fields (pair ∷ pairs) = value-merged name (with_pair fields pair.0 pair.1) pairs ∙ ap (λ v. last_value_behind v name pairs) (value-with_pair name pair.0 fields pair.1)

-- the value of a name is its last
pub value-last : (name : List ℕ) (pairs : Pairs) → value_of name (merged [] pairs) ≡ last_value name pairs
value-last name pairs = value-merged name [] pairs
