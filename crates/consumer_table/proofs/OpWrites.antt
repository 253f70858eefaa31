-- what writes make of one key's operation
use Rattle.std.proofs.Common.{◌≡◌, Bool, true, false, cond, List, [], ◌∷◌, ◌++◌, Option, None, Some, unwrap_or, refl, sym, ap, ap₂, ◌∙◌}
use Rattle.std.specs.BTreeMap.{insert_entry, is_at}
use Rattle.std.specs.List.{AllByRecursion}
use Rattle.std.specs.Map.{remove_entry}
use Rattle.std.proofs.lemmas.Cmp.{eq_by_cmp_equiv}
use Rattle.swss_types.proofs.Maps.{lookup-insert_entry}
use Rattle.table_schema.specs.Fields.{Pairs, HasRisingKeys, HasRisingNames, merged}
use Rattle.table_schema.specs.Key.{key_cmp}
use Rattle.table_schema.specs.declared.key.Key.{Key}
use Rattle.table_schema.specs.declared.write.Write.{Write}
use Rattle.table_schema.specs.declared.write.Write.TheVariants.{Set, Del}
use Rattle.table_schema.proofs.Keys.{key_total, tied_keys_same}
use Rattle.table_schema.proofs.LastValues.{HasRisingNames-merged}
use Rattle.table_schema.proofs.Places.{HasRisingKeys-insert_entry}
use Rattle.table_schema.proofs.RowLists.{HasRisingKeys-remove_entry}
use Rattle.producer_table.specs.declared.key_op.KeyOp.{KeyOp}
use Rattle.producer_table.specs.Pending.{set_of}
use Rattle.producer_table.proofs.Found.{each-found, each-put}
use Rattle.producer_table.proofs.Merging.{merged-merged, put-twice}
use Rattle.producer_table.proofs.RowWrites.{row_after}
use Rattle.consumer_table.specs.declared.op.Op.{Op}
use Rattle.consumer_table.specs.declared.op.Op.TheVariants as op
use Rattle.consumer_table.specs.Ops.{Ops, AreOpsInOrder, HaveOpNames, op_at, op_fields, op_with_set, ops_after, ops_after_all, ops_with, without_op}
use Rattle.consumer_table.specs.Synced.{row_with_op}

-- what a write makes of a key's operation
abbrev pub op_after : Key → Write → Option Op → Option Op
op_after q (Set k fields) o = cond (is_at (key_cmp q) k) (Some (op_with_set o fields)) o
op_after q (Del k) o = cond (is_at (key_cmp q) k) (Some op.Del) o

operation_at_key : (b : Bool) (q k : Key) (ops : Ops) (fields : Pairs) → (b ≡ true → q ≡ k) → cond b (Some (op_with_set (op_at ops k) fields)) (op_at ops q) ≡ cond b (Some (op_with_set (op_at ops q) fields)) (op_at ops q)
operation_at_key true q k ops fields same = ap (λ x. Some (op_with_set (op_at ops x) fields)) (sym (same refl))
operation_at_key false q k ops fields same = refl

pub op_at-after : (ops : Ops) (w : Write) (q : Key) → op_at (ops_after ops w) q ≡ op_after q w (op_at ops q)
op_at-after ops (Set k fields) q = lookup-insert_entry key_cmp key_total ops k (op_with_set (op_at ops k) fields) q ∙ operation_at_key (is_at (key_cmp q) k) q k ops fields (tied_keys_same q k)
op_at-after ops (Del k) q = lookup-insert_entry key_cmp key_total ops k op.Del q

-- the names of an operation's fields rise
abbrev pub HasNames : Option Op → Type 0
HasNames None = Unit {0}
HasNames (Some o) = HasRisingNames (op_fields o)

pub op_names_at : (ops : Ops) (q : Key) → HaveOpNames ops → HasNames (op_at ops q)
op_names_at ops q h =
    let found = each-found (λ (o : Op). HasRisingNames (op_fields o)) (is_at (key_cmp q)) ops in
    elim (op_at ops q) as (λ o. ((v : Op) → HaveOpNames ops → o ≡ Some v → HasRisingNames (op_fields v)) → HasNames o) [ None ↦ λ f. tt | Some v ↦ λ f. f v h refl ] found

names-with_set : (o : Option Op) (fields : Pairs) → HasNames o → HasRisingNames (op_fields (op_with_set o fields))
names-with_set None fields h = HasRisingNames-merged [] fields tt
names-with_set (Some (op.Set held)) fields h = HasRisingNames-merged held fields h
names-with_set (Some op.Del) fields h = HasRisingNames-merged [] fields tt
names-with_set (Some (op.Replace held)) fields h = HasRisingNames-merged held fields h

-- a SET more, laid over the row when the key was done
laid-with_set : (row : Option Pairs) (o : Option Op) (fields : Pairs) → HasNames o → row_with_op row (Some (op_with_set o fields)) ≡ Some (merged (unwrap_or (row_with_op row o) []) fields)
laid-with_set row None fields h = ap Some (merged-merged (unwrap_or row []) [] fields tt)
laid-with_set row (Some (op.Set held)) fields h = ap Some (merged-merged (unwrap_or row []) held fields h)
laid-with_set row (Some op.Del) fields h = ap Some (merged-merged [] [] fields tt)
laid-with_set row (Some (op.Replace held)) fields h = ap Some (merged-merged [] held fields h)

-- so a write more does to the row with its operation what it does to the row now
pub row_with-after : (q : Key) (w : Write) (row : Option Pairs) (o : Option Op) → HasNames o → row_with_op row (op_after q w o) ≡ row_after q w (row_with_op row o)
row_with-after q (Set k fields) row o h =
    let laid = laid-with_set row o fields h in
    elim (is_at (key_cmp q) k) as (λ b. row_with_op row (cond b (Some (op_with_set o fields)) o) ≡ cond b (Some (merged (unwrap_or (row_with_op row o) []) fields)) (row_with_op row o)) [ true ↦ laid | false ↦ refl ]
row_with-after q (Del k) row o h = elim (is_at (key_cmp q) k) as (λ b. row_with_op row (cond b (Some op.Del) o) ≡ cond b None (row_with_op row o)) [ true ↦ refl | false ↦ refl ]

-- operations stay in order
pub HaveOpNames-after : (ops : Ops) (w : Write) → HaveOpNames ops → HaveOpNames (ops_after ops w)
HaveOpNames-after ops (Set k fields) h = each-put (λ (o : Op). HasRisingNames (op_fields o)) key_cmp ops k (op_with_set (op_at ops k) fields) (names-with_set (op_at ops k) fields (op_names_at ops k h)) h
HaveOpNames-after ops (Del k) h = each-put (λ (o : Op). HasRisingNames (op_fields o)) key_cmp ops k op.Del tt h

HasRisingKeys-after : (ops : Ops) (w : Write) → HasRisingKeys key_cmp ops → HasRisingKeys key_cmp (ops_after ops w)
HasRisingKeys-after ops (Set k fields) h = HasRisingKeys-insert_entry key_cmp key_total ops k (op_with_set (op_at ops k) fields) h
HasRisingKeys-after ops (Del k) h = HasRisingKeys-insert_entry key_cmp key_total ops k op.Del h

pub AreOpsInOrder-after : (ops : Ops) (w : Write) → AreOpsInOrder ops → AreOpsInOrder (ops_after ops w)
AreOpsInOrder-after ops w h = record { keys = HasRisingKeys-after ops w h.keys; names = HaveOpNames-after ops w h.names }

pub AreOpsInOrder-after_all : (ops : Ops) (ws : List Write) → AreOpsInOrder ops → AreOpsInOrder (ops_after_all ops ws)
AreOpsInOrder-after_all ops [] h = h
AreOpsInOrder-after_all ops (w ∷ ws) h = AreOpsInOrder-after_all (ops_after ops w) ws (AreOpsInOrder-after ops w h)

pub HaveOpNames-after_all : (ops : Ops) (ws : List Write) → HaveOpNames ops → HaveOpNames (ops_after_all ops ws)
HaveOpNames-after_all ops [] h = h
HaveOpNames-after_all ops (w ∷ ws) h = HaveOpNames-after_all (ops_after ops w) ws (HaveOpNames-after ops w h)

-- a DEL and then a SET
ops_after-both : (ops : Ops) (k : Key) (fields : Pairs) → insert_entry key_cmp ops k (op.Replace (merged [] fields)) ≡ ops_after (ops_after ops (Del k)) (Set k fields)
ops_after-both ops k fields =
    let deleted = insert_entry key_cmp ops k op.Del in
    let there : op_at deleted k ≡ Some op.Del = lookup-insert_entry key_cmp key_total ops k op.Del k ∙ ap (λ b. cond b (Some op.Del) (op_at ops k)) ((eq_by_cmp_equiv key_total).refl k) in
    sym (put-twice key_cmp key_total ops k op.Del (op.Replace (merged [] fields))) ∙ ap (λ o. insert_entry key_cmp deleted k (op_with_set o fields)) (sym there)

-- what was popped with both mark and fields
pub ops_with-both : (ops : Ops) (popped : KeyOp) (fields : Pairs) → popped.dropped ≡ true → popped.fields ≡ Some fields → insert_entry key_cmp ops popped.key (op.Replace (merged [] fields)) ≡ ops_with ops popped
ops_with-both ops popped fields dropped set = ops_after-both ops popped.key fields ∙ ap₂ (λ (d : Bool) (o : Option Pairs). ops_after_all ops ((cond d (Del popped.key ∷ []) []) ++ set_of popped.key o)) (sym dropped) (sym set)

each-removed : (P : Op → Type 0) (test : Key → Bool) (ops : Ops) → AllByRecursion (λ e. P e.1) ops → AllByRecursion (λ e. P e.1) (remove_entry test ops)
each-removed P test [] h = tt
each-removed P test (e ∷ es) h =
    let rest = each-removed P test es h.1 in
    elim (test e.0) as (λ b. AllByRecursion (λ e. P e.1) (cond b es (e ∷ remove_entry test es))) [ true ↦ h.1 | false ↦ (h.0, rest) ]

pub HaveOpNames-without : (ops : Ops) (k : Key) → HaveOpNames ops → HaveOpNames (without_op ops k)
HaveOpNames-without ops k h = each-removed (λ (o : Op). HasRisingNames (op_fields o)) (is_at (key_cmp k)) ops h

pub AreOpsInOrder-without : (ops : Ops) (k : Key) → AreOpsInOrder ops → AreOpsInOrder (without_op ops k)
AreOpsInOrder-without ops k h = record { keys = HasRisingKeys-remove_entry key_cmp (is_at (key_cmp k)) ops h.keys; names = HaveOpNames-without ops k h.names }
