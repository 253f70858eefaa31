-- rows that are compared, and one laid over another
use Rattle.std.proofs.Common.{◌≡◌, ℕ, Bool, true, false, cond, ◌||◌, ◌&&◌, List, [], ◌∷◌, Option, None, Some, is_none, Decides, refl, sym, ap, ap₂, ◌∙◌}
use Rattle.std.specs.BTreeMap.{is_at}
use Rattle.std.specs.Cmp.Lexicographic.{pointwise_decides}
use Rattle.std.proofs.lemmas.Cmp.{nat_list_cmp_total}
use Rattle.std.proofs.lemmas.Map.Lookups.{exact_bytes}
use Rattle.std.proofs.lemmas.Slice.Eq.{bytes_eq-Decides}
use Rattle.swss_types.proofs.Maps.{lookup-insert_entry}
use Rattle.swss_types.proofs.Tied.{tied}
use Rattle.table_schema.specs.Fields.{HasRisingNames, Pairs, by_bytes, merged, value_of, with_pair}
use Rattle.table_schema.proofs.LastValues.{HasRisingNames-merged}
use Rattle.producer_table.proofs.Found.{lookup-above, same_entries}
use Rattle.app_restart.specs.Difference.{are_equal, are_equal_pairs, has_name_beyond}

-- ---- equal rows

pair_both : (a b : Bool) (p q : List ℕ × List ℕ) → Decides a (p.0 ≡ q.0) → Decides b (p.1 ≡ q.1) → Decides (a && b) (p ≡ q)
pair_both true true p q h g = ((λ _. ap₂ (λ (n v : List ℕ). (n, v)) (h.0 refl) (g.0 refl)), λ _. refl)
pair_both true false p q h g = ((λ no. cc), λ e. g.1 (ap (λ x. x.1) e))
pair_both false b p q h g = ((λ no. cc), λ e. h.1 (ap (λ x. x.0) e))

pairs_decide : (p q : List ℕ × List ℕ) → Decides (are_equal_pairs p q) (p ≡ q)
pairs_decide p q = pair_both _ _ p q (bytes_eq-Decides p.0 q.0) (bytes_eq-Decides p.1 q.1)

pub are_equal-Decides : (row other : Pairs) → Decides (are_equal row other) (row ≡ other)
are_equal-Decides row other = pointwise_decides {E = are_equal_pairs} pairs_decide row other

-- ---- names that a row has beyond another

none_beyond : (b : Bool) (name at value : List ℕ) (here : Option (List ℕ)) (rest : Option (List ℕ)) → (b ≡ true → name ≡ at) → (name ≡ at → here ≡ None) → is_none here ≡ false → rest ≡ None → cond b (Some value) rest ≡ None
none_beyond true name at value here rest same none some h = absurd (let is = none (same refl) in cc)
none_beyond false name at value here rest same none some h = h

both_false : (a b : Bool) → (a || b) ≡ false → (a ≡ false) × (b ≡ false)
both_false false false h = (refl, refl)
both_false false true h = absurd cc
both_false true b h = absurd cc

-- without such a name, what the other lacks it lacks too
pub none-beyond : (row other : Pairs) → has_name_beyond row other ≡ false → (name : List ℕ) → value_of name other ≡ None → value_of name row ≡ None
none-beyond [] other h name none = refl
none-beyond (p ∷ ps) other h name none =
    let parts = both_false (is_none (value_of p.0 other)) (has_name_beyond ps other) h in
    none_beyond (is_at (by_bytes name) p.0) name p.0 p.1 (value_of p.0 other) (value_of name ps) (λ at. exact_bytes name p.0 (tied (by_bytes name p.0) at)) (λ same. ap (λ n. value_of n other) (sym same) ∙ none) parts.0 (none-beyond ps other parts.1 name none)

-- ---- a row laid over another

abbrev or_else : Option (List ℕ) → Option (List ℕ) → Option (List ℕ)
or_else None other = other
or_else (Some value) other = Some value

laid_at : (b : Bool) (value : List ℕ) (later before : Option (List ℕ)) → (b ≡ true → later ≡ None) → or_else later (cond b (Some value) before) ≡ or_else (cond b (Some value) later) before
laid_at true value later before none = ap (λ o. or_else o (Some value)) (none refl)
laid_at false value later before none = refl

-- the value of a name is that of the upper row, or else of the lower
value_of-merged : (name : List ℕ) (row other : Pairs) → HasRisingNames other → value_of name (merged row other) ≡ or_else (value_of name other) (value_of name row)
value_of-merged name row [] h = refl
value_of-merged name row (p ∷ ps) h =
    value_of-merged name (with_pair row p.0 p.1) ps h.1
    ∙ ap (or_else (value_of name ps)) (lookup-insert_entry by_bytes nat_list_cmp_total row p.0 p.1 name)
    ∙ laid_at (is_at (by_bytes name) p.0) p.1 (value_of name ps) (value_of name row) (λ here. lookup-above by_bytes nat_list_cmp_total p.0 name ps here h.0)

upper : (value lower : Option (List ℕ)) → (value ≡ None → lower ≡ None) → or_else value lower ≡ value
upper None lower none = none refl
upper (Some v) lower none = refl

-- a row with no name beyond another is covered by it
pub merged-over : (row other : Pairs) → HasRisingNames row → HasRisingNames other → ((name : List ℕ) → value_of name other ≡ None → value_of name row ≡ None) → merged row other ≡ other
merged-over row other rising above within =
    same_entries by_bytes nat_list_cmp_total exact_bytes (merged row other) other (HasRisingNames-merged row other rising) above
    (λ name. value_of-merged name row other above ∙ upper (value_of name other) (value_of name row) (within name))
