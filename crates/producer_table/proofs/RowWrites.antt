-- what writes make of one key's row
use Rattle.std.proofs.Common.{◌≡◌, Bool, true, false, cond, List, [], ◌∷◌, ◌++◌, Option, None, Some, unwrap_or, refl, sym, ap, ◌∙◌}
use Rattle.std.specs.BTreeMap.{is_at}
use Rattle.swss_types.proofs.Maps.{lookup-insert_entry}
use Rattle.table_schema.specs.Fields.{Pairs, merged}
use Rattle.table_schema.specs.Key.{key_cmp}
use Rattle.table_schema.specs.Rows.{Rows, HasRisingRows, after_write, after_writes, fields_at}
use Rattle.table_schema.specs.declared.key.Key.{Key}
use Rattle.table_schema.specs.declared.write.Write.{Write}
use Rattle.table_schema.specs.declared.write.Write.TheVariants.{Set, Del}
use Rattle.table_schema.proofs.Keys.{key_total, tied_keys_same}
use Rattle.producer_table.proofs.Found.{lookup-removed}

-- what a write makes of a key's row
abbrev pub row_after : Key → Write → Option Pairs → Option Pairs
row_after q (Set k fields) row = cond (is_at (key_cmp q) k) (Some (merged (unwrap_or row []) fields)) row
row_after q (Del k) row = cond (is_at (key_cmp q) k) None row

row_at_key : (b : Bool) (q k : Key) (rows : Rows) (fields : Pairs) → (b ≡ true → q ≡ k) → cond b (Some (merged (unwrap_or (fields_at rows k) []) fields)) (fields_at rows q) ≡ cond b (Some (merged (unwrap_or (fields_at rows q) []) fields)) (fields_at rows q)
row_at_key true q k rows fields same = ap (λ x. Some (merged (unwrap_or (fields_at rows x) []) fields)) (sym (same refl))
row_at_key false q k rows fields same = refl

pub fields_at-after_write : (rows : Rows) (w : Write) (q : Key) → HasRisingRows rows → fields_at (after_write rows w) q ≡ row_after q w (fields_at rows q)
fields_at-after_write rows (Set k fields) q h =
    lookup-insert_entry key_cmp key_total rows k (merged (unwrap_or (fields_at rows k) []) fields) q ∙ row_at_key (is_at (key_cmp q) k) q k rows fields (tied_keys_same q k)
fields_at-after_write rows (Del k) q h = lookup-removed key_cmp key_total rows k q h

-- writes behind others
pub after_writes-append : (rows : Rows) (ws vs : List Write) → after_writes rows (ws ++ vs) ≡ after_writes (after_writes rows ws) vs
after_writes-append rows [] vs = refl
after_writes-append rows (w ∷ ws) vs = after_writes-append (after_write rows w) ws vs
