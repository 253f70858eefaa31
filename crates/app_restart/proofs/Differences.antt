-- what the difference of a key makes of its row
use Rattle.std.proofs.Common.{◌≡◌, ◌≢◌, ◌⊎◌, inl, inr, Bool, true, false, cond, List, [], ◌∷◌, ◌++◌, Option, None, Some, unwrap_or, refl, sym, ap, ◌∙◌, true≢false}
use Rattle.std.specs.BTreeMap.{is_at}
use Rattle.std.specs.List.{AllByRecursion}
use Rattle.table_schema.specs.Fields.{HasRisingNames, Pairs, merged}
use Rattle.table_schema.specs.Key.{key_cmp}
use Rattle.table_schema.specs.Rows.{HasRisingRows, Rows, after_write, after_writes, fields_at}
use Rattle.table_schema.specs.declared.key.Key.{Key}
use Rattle.table_schema.specs.declared.write.Write.{Write}
use Rattle.table_schema.specs.declared.write.Write.TheVariants.{Set, Del}
use Rattle.table_schema.proofs.Keys.{at_itself}
use Rattle.table_schema.proofs.LastValues.{HasRisingNames-merged}
use Rattle.table_schema.proofs.Merges.{merged-nil}
use Rattle.table_schema.proofs.RowLists.{HasRisingRows-after_write}
use Rattle.producer_table.proofs.RowWrites.{fields_at-after_write, row_after}
use Rattle.app_restart.specs.Difference.{are_equal, difference, has_name_beyond}
use Rattle.app_restart.specs.TableName.{key_of_write}
use Rattle.app_restart.proofs.Comparing.{are_equal-Decides, merged-over, none-beyond}

-- ---- a key's row after writes

abbrev pub row_after_all : Key → List Write → Option Pairs → Option Pairs
row_after_all q [] row = row
row_after_all q (w ∷ ws) row = row_after_all q ws (row_after q w row)

pub fields_at-after_writes : (rows : Rows) (ws : List Write) (q : Key) → HasRisingRows rows → fields_at (after_writes rows ws) q ≡ row_after_all q ws (fields_at rows q)
fields_at-after_writes rows [] q h = refl
fields_at-after_writes rows (w ∷ ws) q h = fields_at-after_writes (after_write rows w) ws q (HasRisingRows-after_write rows w h) ∙ ap (row_after_all q ws) (fields_at-after_write rows w q h)

pub row_after_all-append : (q : Key) (ws vs : List Write) (row : Option Pairs) → row_after_all q (ws ++ vs) row ≡ row_after_all q vs (row_after_all q ws row)
row_after_all-append q [] vs row = refl
row_after_all-append q (w ∷ ws) vs row = row_after_all-append q ws vs (row_after q w row)

-- the names of a row rise, where there is one
abbrev pub HasNames : Option Pairs → Type 0
HasNames row = HasRisingNames (unwrap_or row [])

names-with : (b : Bool) (row : Option Pairs) (fields : Pairs) → HasNames row → HasNames (cond b (Some (merged (unwrap_or row []) fields)) row)
names-with true row fields h = HasRisingNames-merged (unwrap_or row []) fields h
names-with false row fields h = h

names-without : (b : Bool) (row : Option Pairs) → HasNames row → HasNames (cond b None row)
names-without true row h = tt
names-without false row h = h

pub names-after_all : (q : Key) (ws : List Write) (row : Option Pairs) → HasNames row → HasNames (row_after_all q ws row)
names-after_all q [] row h = h
names-after_all q (Set k fields ∷ ws) row h = names-after_all q ws (row_after q (Set k fields) row) (names-with (is_at (key_cmp q) k) row fields h)
names-after_all q (Del k ∷ ws) row h = names-after_all q ws (row_after q (Del k) row) (names-without (is_at (key_cmp q) k) row h)

-- ---- the difference of another key

away_with : (b equal beyond : Bool) (q k : Key) (new : Pairs) (row : Option Pairs) → is_at (key_cmp q) k ≡ false → row_after_all q (cond equal [] (cond beyond (Del k ∷ Set k new ∷ []) (Set k new ∷ []))) row ≡ row
away_with b true beyond q k new row h = refl
away_with b false true q k new row h =
    ap (λ c. cond c (Some (merged (unwrap_or (cond c None row) []) new)) (cond c None row)) h
away_with b false false q k new row h = ap (λ c. cond c (Some (merged (unwrap_or row []) new)) row) h

-- it leaves the row
pub difference-away : (q k : Key) (old new row : Option Pairs) → is_at (key_cmp q) k ≡ false → row_after_all q (difference k old new) row ≡ row
difference-away q k None None row h = refl
difference-away q k (Some old) None row h = ap (λ c. cond c None row) h
difference-away q k None (Some new) row h = ap (λ c. cond c (Some (merged (unwrap_or row []) new)) row) h
difference-away q k (Some old) (Some new) row h = away_with true (are_equal old new) (has_name_beyond old new) q k new row h

-- ---- the difference of the key

laid_here : (q : Key) (new : Pairs) (row : Option Pairs) → merged (unwrap_or row []) new ≡ new → row_after_all q (Set q new ∷ []) row ≡ Some new
laid_here q new row h = ap (λ c. cond c (Some (merged (unwrap_or row []) new)) row) (at_itself q q refl) ∙ ap Some h

gone_here : (q : Key) (row : Option Pairs) → row_after_all q (Del q ∷ []) row ≡ None
gone_here q row = ap (λ c. cond c None row) (at_itself q q refl)

replaced_here : (q : Key) (new : Pairs) (row : Option Pairs) → HasRisingNames new → row_after_all q (Del q ∷ Set q new ∷ []) row ≡ Some new
replaced_here q new row h = ap (row_after_all q (Set q new ∷ [])) (gone_here q row) ∙ laid_here q new None (merged-nil new h)

merged-itself : (new : Pairs) → HasRisingNames new → merged new new ≡ new
merged-itself new h = merged-over new new h h (λ name none. none)

-- from the old row, or from the new one, to the new one
changed : (q : Key) (old new : Pairs) (row : Option Pairs) (equal beyond : Bool) → are_equal old new ≡ equal → has_name_beyond old new ≡ beyond → HasRisingNames old → HasRisingNames new → (row ≡ Some old) ⊎ (row ≡ Some new) → row_after_all q (cond equal [] (cond beyond (Del q ∷ Set q new ∷ []) (Set q new ∷ []))) row ≡ Some new
changed q old new row true beyond same is ho hn (inl from) = from ∙ ap Some ((are_equal-Decides old new).0 same)
changed q old new row true beyond same is ho hn (inr from) = from
changed q old new row false true same is ho hn from = replaced_here q new row hn
changed q old new row false false same is ho hn (inl from) = laid_here q new row (ap (λ o. merged (unwrap_or o []) new) from ∙ merged-over old new ho hn (none-beyond old new is))
changed q old new row false false same is ho hn (inr from) = laid_here q new row (ap (λ o. merged (unwrap_or o []) new) from ∙ merged-itself new hn)

pub difference-here : (q : Key) (old new row : Option Pairs) → HasNames old → HasNames new → (row ≡ old) ⊎ (row ≡ new) → row_after_all q (difference q old new) row ≡ new
difference-here q None None row ho hn (inl from) = from
difference-here q None None row ho hn (inr from) = from
difference-here q (Some old) None row ho hn from = gone_here q row
difference-here q None (Some new) row ho hn (inl from) = laid_here q new row (ap (λ o. merged (unwrap_or o []) new) from ∙ merged-nil new hn)
difference-here q None (Some new) row ho hn (inr from) = laid_here q new row (ap (λ o. merged (unwrap_or o []) new) from ∙ merged-itself new hn)
difference-here q (Some old) (Some new) row ho hn from = changed q old new row (are_equal old new) (has_name_beyond old new) refl refl ho hn from

-- ---- its writes are of the key, whose rows differ

differing : (P : Key → Type 0) (k : Key) (new : Pairs) (equal beyond : Bool) → (equal ≡ false → P k) → AllByRecursion (λ w. P (key_of_write w)) (cond equal [] (cond beyond (Del k ∷ Set k new ∷ []) (Set k new ∷ [])))
differing P k new true beyond h = tt
differing P k new false true h = (h refl, (h refl, tt))
differing P k new false false h = (h refl, tt)

pub difference-differs : (P : Key → Type 0) (k : Key) (old new : Option Pairs) → (old ≢ new → P k) → AllByRecursion (λ w. P (key_of_write w)) (difference k old new)
difference-differs P k None None h = tt
difference-differs P k (Some old) None h = (h (λ e. cc), tt)
difference-differs P k None (Some new) h = (h (λ e. cc), tt)
difference-differs P k (Some old) (Some new) h =
    differing P k new (are_equal old new) (has_name_beyond old new)
    (λ apart. h (λ e. let same : old ≡ new = cc in let equal = (are_equal-Decides old new).1 same in true≢false (sym equal ∙ apart)))
