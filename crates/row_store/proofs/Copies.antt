-- rows that are put one after the other
use Rattle.std.proofs.Common.{◌≡◌, [], ◌∷◌, refl, ap, ◌∙◌}
use Rattle.std.specs.BTreeMap.{insert_entry}
use Rattle.std.specs.List.{AllByRecursion, fold}
use Rattle.std.specs.Ordering.{ordering_reverse}
use Rattle.std.specs.declared.cmp.Ordering.{Ordering}
use Rattle.std.specs.declared.cmp.Ordering.TheVariants.{Less, Greater}
use Rattle.table_schema.specs.Fields.{Pairs}
use Rattle.table_schema.specs.Key.{key_cmp}
use Rattle.table_schema.specs.Rows.{Rows, HasRisingRows}
use Rattle.table_schema.specs.declared.key.Key.{Key}
use Rattle.table_schema.proofs.Keys.{key_total}
use Rattle.table_schema.proofs.Places.{put_step}

abbrev pub with_row : Rows → Key × Pairs → Rows
with_row rows row = insert_entry key_cmp rows row.0 row.1

turned : (a b : Key) (r : Ordering) → key_cmp a b ≡ r → key_cmp b a ≡ ordering_reverse r
turned a b r h = key_total.antisymm b a ∙ ap ordering_reverse h

-- a row whose key is below all others stays in front
fold-past : (x : Key × Pairs) (xs ys : Rows) → AllByRecursion (λ y. key_cmp x.0 y.0 ≡ Less) ys → fold with_row (x ∷ xs) ys ≡ x ∷ fold with_row xs ys
fold-past x xs [] h = refl
fold-past x xs (y ∷ ys) h =
    ap (λ l. fold with_row l ys) (put_step key_cmp x xs y.0 y.1 Greater (turned x.0 y.0 Less h.0)) ∙ fold-past x (with_row xs y) ys h.1

-- rows in key order, put into none
pub fold-rising : (rows : Rows) → HasRisingRows rows → fold with_row [] rows ≡ rows
fold-rising [] h = refl
fold-rising (row ∷ rows) h = fold-past row [] rows h.0 ∙ ap (λ l. row ∷ l) (fold-rising rows h.1)
