-- rows as the fold of writes
use Rattle.std.proofs.Common.{◌≡◌, Bool, true, false, cond, List, [], ◌∷◌, ◌++◌, unwrap_or, refl}
use Rattle.std.specs.BTreeMap.{is_at}
use Rattle.std.specs.List.{AllByRecursion}
use Rattle.std.specs.Map.{remove_entry}
use Rattle.std.specs.declared.cmp.Ordering.{Ordering}
use Rattle.std.specs.declared.cmp.Ordering.TheVariants.{Less}
use Rattle.table_schema.specs.Fields.{HasRisingKeys, merged}
use Rattle.table_schema.specs.Key.{key_cmp}
use Rattle.table_schema.specs.Rows.{Rows, HasRisingRows, after_write, after_writes, fields_at, rows_of}
use Rattle.table_schema.specs.declared.write.Write.{Write}
use Rattle.table_schema.specs.declared.write.Write.TheVariants.{Set, Del}
use Rattle.table_schema.proofs.Keys.{key_total}
use Rattle.table_schema.proofs.Places.{HasRisingKeys-insert_entry}

module _ {K X : Type 0} where
  above_left : (P : K → Type 0) (test : K → Bool) (es : List (K × X)) → AllByRecursion (λ e. P e.0) es → AllByRecursion (λ e. P e.0) (remove_entry test es)
  above_left P test [] h = tt
  above_left P test (e ∷ es) h =
      let rest = above_left P test es h.1 in
      elim (test e.0) as (λ b. AllByRecursion (λ e. P e.0) (cond b es (e ∷ remove_entry test es))) [ true ↦ h.1 | false ↦ (h.0, rest) ]

  -- an entry less keeps the keys rising
  pub HasRisingKeys-remove_entry : (cmp : K → K → Ordering) (test : K → Bool) (es : List (K × X)) → HasRisingKeys cmp es → HasRisingKeys cmp (remove_entry test es)
  HasRisingKeys-remove_entry cmp test [] h = tt
  HasRisingKeys-remove_entry cmp test (e ∷ es) h =
      let left = above_left (λ k. cmp e.0 k ≡ Less) test es h.0 in
      let rest = HasRisingKeys-remove_entry cmp test es h.1 in
      elim (test e.0) as (λ b. HasRisingKeys cmp (cond b es (e ∷ remove_entry test es))) [ true ↦ h.1 | false ↦ (left, rest) ]

-- a write keeps the keys of rows rising
pub HasRisingRows-after_write : (rows : Rows) (write : Write) → HasRisingRows rows → HasRisingRows (after_write rows write)
HasRisingRows-after_write rows (Set key fields) h = HasRisingKeys-insert_entry key_cmp key_total rows key (merged (unwrap_or (fields_at rows key) []) fields) h
HasRisingRows-after_write rows (Del key) h = HasRisingKeys-remove_entry key_cmp (is_at (key_cmp key)) rows h

pub HasRisingRows-after_writes : (rows : Rows) (writes : List Write) → HasRisingRows rows → HasRisingRows (after_writes rows writes)
HasRisingRows-after_writes rows [] h = h
HasRisingRows-after_writes rows (write ∷ writes) h = HasRisingRows-after_writes (after_write rows write) writes (HasRisingRows-after_write rows write h)

pub HasRisingRows-rows_of : (writes : List Write) → HasRisingRows (rows_of writes)
HasRisingRows-rows_of writes = HasRisingRows-after_writes [] writes tt

-- one write more
pub after_writes-more : (rows : Rows) (writes : List Write) (write : Write) → after_writes rows (writes ++ write ∷ []) ≡ after_write (after_writes rows writes) write
after_writes-more rows [] write = refl
after_writes-more rows (first ∷ writes) write = after_writes-more (after_write rows first) writes write
