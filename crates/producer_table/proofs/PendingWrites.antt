-- what waits, laid over rows
use Rattle.std.proofs.Common.{◌≡◌, ℕ, zero, suc, Bool, true, false, cond, ◌||◌, List, [], ◌∷◌, ◌++◌, take, drop, Option, None, Some, unwrap_or, is_some, refl, sym, ap, ◌∙◌}
use Rattle.std.specs.BTreeMap.{insert_entry, is_at}
use Rattle.std.specs.List.{AllByRecursion}
use Rattle.std.specs.Map.{lookup}
use Rattle.swss_types.proofs.Truths.{or_none}
use Rattle.swss_types.proofs.Maps.{lookup-insert_entry}
use Rattle.table_schema.specs.Fields.{Pairs, HasRisingKeys, HasRisingNames, merged}
use Rattle.table_schema.specs.Key.{key_cmp}
use Rattle.table_schema.specs.Rows.{Rows, HasRisingRows, after_write, after_writes, fields_at}
use Rattle.table_schema.specs.declared.key.Key.{Key}
use Rattle.table_schema.specs.declared.write.Write.{Write}
use Rattle.table_schema.specs.declared.write.Write.TheVariants.{Set, Del}
use Rattle.table_schema.proofs.Keys.{key_exact, key_total, tied_keys_same}
use Rattle.table_schema.proofs.LastValues.{HasRisingNames-merged}
use Rattle.table_schema.proofs.Places.{HasRisingKeys-insert_entry}
use Rattle.table_schema.proofs.RowLists.{HasRisingRows-after_write, HasRisingRows-after_writes}
use Rattle.producer_table.specs.declared.waiting.Pending.{Pending}
use Rattle.producer_table.specs.Pending.{PendingKeys, ArePendingInOrder, HaveRisingNames, has_write, is_write_of, laid_over, nothing_pending, op_of, ops_of, pending_after, pending_after_all, pending_at, pending_fields, pending_of, row_with_fields, row_with_pending, set_of, with_pending, writes_of_op, writes_of_ops}
use Rattle.producer_table.proofs.Found.{each-found, each-put, lookup-above, same_entries}
use Rattle.producer_table.proofs.Merging.{merged-merged}
use Rattle.producer_table.proofs.RowWrites.{after_writes-append, fields_at-after_write, row_after}

-- what a write makes of what waits of a key
abbrev more : Key → Write → Pending → Pending
more q (Set k fields) p = cond (is_at (key_cmp q) k) (laid_over p fields) p
more q (Del k) p = cond (is_at (key_cmp q) k) (record { dropped = true; fields = None }) p

or_nothing : (b : Bool) (v : Pending) (rest : Option Pending) → unwrap_or (cond b (Some v) rest) nothing_pending ≡ cond b v (unwrap_or rest nothing_pending)
or_nothing true v rest = refl
or_nothing false v rest = refl

pending_at_key : (b : Bool) (q k : Key) (pending : PendingKeys) (fields : Pairs) → (b ≡ true → q ≡ k) → cond b (laid_over (pending_at pending k) fields) (pending_at pending q) ≡ cond b (laid_over (pending_at pending q) fields) (pending_at pending q)
pending_at_key true q k pending fields same = ap (λ x. laid_over (pending_at pending x) fields) (sym (same refl))
pending_at_key false q k pending fields same = refl

pending_put_at : (pending : PendingKeys) (k q : Key) (p : Pending) → pending_at (insert_entry key_cmp pending k p) q ≡ cond (is_at (key_cmp q) k) p (pending_at pending q)
pending_put_at pending k q p = ap (λ o. unwrap_or o nothing_pending) (lookup-insert_entry key_cmp key_total pending k p q) ∙ or_nothing (is_at (key_cmp q) k) p (lookup (is_at (key_cmp q)) pending)

pending_at-after : (pending : PendingKeys) (w : Write) (q : Key) → pending_at (pending_after pending w) q ≡ more q w (pending_at pending q)
pending_at-after pending (Set k fields) q = pending_put_at pending k q (laid_over (pending_at pending k) fields) ∙ pending_at_key (is_at (key_cmp q) k) q k pending fields (tied_keys_same q k)
pending_at-after pending (Del k) q = pending_put_at pending k q (record { dropped = true; fields = None })

-- a write that waits, laid over a key's row
laid_behind : (base held : Option Pairs) (fields : Pairs) → HasRisingNames (unwrap_or held []) → row_with_fields base (Some (merged (unwrap_or held []) fields)) ≡ Some (merged (unwrap_or (row_with_fields base held) []) fields)
laid_behind base None fields h = ap Some (merged-merged (unwrap_or base []) [] fields tt)
laid_behind base (Some held) fields h = ap Some (merged-merged (unwrap_or base []) held fields h)

row_with-more : (q : Key) (w : Write) (row : Option Pairs) (p : Pending) → HasRisingNames (pending_fields p) → row_with_pending row (more q w p) ≡ row_after q w (row_with_pending row p)
row_with-more q (Set k fields) row p h =
    let laid = laid_behind (cond p.dropped None row) p.fields fields h in
    elim (is_at (key_cmp q) k) as (λ b. row_with_pending row (cond b (laid_over p fields) p) ≡ cond b (Some (merged (unwrap_or (row_with_pending row p) []) fields)) (row_with_pending row p)) [ true ↦ laid | false ↦ refl ]
row_with-more q (Del k) row p h = elim (is_at (key_cmp q) k) as (λ b. row_with_pending row (cond b (record { dropped = true; fields = None }) p) ≡ cond b None (row_with_pending row p)) [ true ↦ refl | false ↦ refl ]

-- one key's row with what is handed out of a key
after_set : (q k : Key) (rows : Rows) (o : Option Pairs) → HasRisingRows rows → fields_at (after_writes rows (set_of k o)) q ≡ cond (is_at (key_cmp q) k) (row_with_fields (fields_at rows q) o) (fields_at rows q)
after_set q k rows None h = elim (is_at (key_cmp q) k) as (λ b. fields_at rows q ≡ cond b (fields_at rows q) (fields_at rows q)) [ true ↦ refl | false ↦ refl ]
after_set q k rows (Some fields) h = fields_at-after_write rows (Set k fields) q h

behind_del : (b : Bool) (row : Option Pairs) (o : Option Pairs) → cond b (row_with_fields (cond b None row) o) (cond b None row) ≡ cond b (row_with_fields None o) row
behind_del true row o = refl
behind_del false row o = refl

after_op : (q k : Key) (rows : Rows) (dropped : Bool) (o : Option Pairs) → HasRisingRows rows → fields_at (after_writes rows ((cond dropped (Del k ∷ []) []) ++ set_of k o)) q ≡ cond (is_at (key_cmp q) k) (row_with_fields (cond dropped None (fields_at rows q)) o) (fields_at rows q)
after_op q k rows false o h = after_set q k rows o h
after_op q k rows true o h =
    after_set q k (after_write rows (Del k)) o (HasRisingRows-after_write rows (Del k) h)
    ∙ ap (λ (r : Option Pairs). cond (is_at (key_cmp q) k) (row_with_fields r o) r) (fields_at-after_write rows (Del k) q h)
    ∙ behind_del (is_at (key_cmp q) k) (fields_at rows q) o

-- what waits of one key, laid over its row
pub fields_at-with_pending : (rows : Rows) (pending : PendingKeys) (q : Key) → HasRisingRows rows → HasRisingKeys key_cmp pending → fields_at (with_pending rows pending) q ≡ row_with_pending (fields_at rows q) (pending_at pending q)
fields_at-with_pending rows [] q h keys = refl
fields_at-with_pending rows (e ∷ es) q h keys =
    let row = fields_at rows q in
    let now = after_writes rows (writes_of_op (op_of e)) in
    let first : fields_at now q ≡ cond (is_at (key_cmp q) e.0) (row_with_pending row e.1) row = after_op q e.0 rows e.1.dropped e.1.fields h in
    let others : fields_at (with_pending now es) q ≡ row_with_pending (fields_at now q) (pending_at es q) = fields_at-with_pending now es q (HasRisingRows-after_writes rows (writes_of_op (op_of e)) h) keys.1 in
    let by : (b : Bool) → is_at (key_cmp q) e.0 ≡ b → row_with_pending (cond b (row_with_pending row e.1) row) (pending_at es q) ≡ row_with_pending row (unwrap_or (cond b (Some e.1) (lookup (is_at (key_cmp q)) es)) nothing_pending) =
    λ b. elim b as (λ b. is_at (key_cmp q) e.0 ≡ b → row_with_pending (cond b (row_with_pending row e.1) row) (pending_at es q) ≡ row_with_pending row (unwrap_or (cond b (Some e.1) (lookup (is_at (key_cmp q)) es)) nothing_pending)) [
      | true ↦ λ here. ap (λ o. row_with_pending (row_with_pending row e.1) (unwrap_or o nothing_pending)) (lookup-above key_cmp key_total e.0 q es here keys.0)
      | false ↦ λ apart. refl
    ] in
    ap (λ r. fields_at r q) (after_writes-append rows (writes_of_op (op_of e)) (writes_of_ops (ops_of es))) ∙ others ∙ ap (λ r. row_with_pending r (pending_at es q)) first ∙ by (is_at (key_cmp q) e.0) refl

-- the fields that wait of a key have rising names
names_at : (pending : PendingKeys) (k : Key) → HaveRisingNames pending → HasRisingNames (pending_fields (pending_at pending k))
names_at pending k h =
    let found = each-found (λ (p : Pending). HasRisingNames (pending_fields p)) (is_at (key_cmp k)) pending in
    elim (lookup (is_at (key_cmp k)) pending) as (λ o. ((v : Pending) → HaveRisingNames pending → o ≡ Some v → HasRisingNames (pending_fields v)) → HasRisingNames (pending_fields (unwrap_or o nothing_pending))) [ None ↦ λ f. tt | Some v ↦ λ f. f v h refl ] found

-- what waits stays in order
pub HaveRisingNames-after : (pending : PendingKeys) (w : Write) → HaveRisingNames pending → HaveRisingNames (pending_after pending w)
HaveRisingNames-after pending (Set k fields) h = each-put (λ (p : Pending). HasRisingNames (pending_fields p)) key_cmp pending k (laid_over (pending_at pending k) fields) (HasRisingNames-merged (pending_fields (pending_at pending k)) fields (names_at pending k h)) h
HaveRisingNames-after pending (Del k) h = each-put (λ (p : Pending). HasRisingNames (pending_fields p)) key_cmp pending k (record { dropped = true; fields = None }) tt h

HasRisingKeys-after : (pending : PendingKeys) (w : Write) → HasRisingKeys key_cmp pending → HasRisingKeys key_cmp (pending_after pending w)
HasRisingKeys-after pending (Set k fields) h = HasRisingKeys-insert_entry key_cmp key_total pending k (laid_over (pending_at pending k) fields) h
HasRisingKeys-after pending (Del k) h = HasRisingKeys-insert_entry key_cmp key_total pending k (record { dropped = true; fields = None }) h

pub AreInOrder-after : (pending : PendingKeys) (w : Write) → ArePendingInOrder pending → ArePendingInOrder (pending_after pending w)
AreInOrder-after pending w h = record { keys = HasRisingKeys-after pending w h.keys; names = HaveRisingNames-after pending w h.names }

AreInOrder-after_all : (pending : PendingKeys) (ws : List Write) → ArePendingInOrder pending → ArePendingInOrder (pending_after_all pending ws)
AreInOrder-after_all pending [] h = h
AreInOrder-after_all pending (w ∷ ws) h = AreInOrder-after_all (pending_after pending w) ws (AreInOrder-after pending w h)

pub AreInOrder-pending_of : (ws : List Write) → ArePendingInOrder (pending_of ws)
AreInOrder-pending_of ws = AreInOrder-after_all [] ws (record { keys = tt; names = tt })

-- one write more waits
pub with_pending-after : (rows : Rows) (pending : PendingKeys) (w : Write) → HasRisingRows rows → ArePendingInOrder pending → with_pending rows (pending_after pending w) ≡ after_write (with_pending rows pending) w
with_pending-after rows pending w h order =
    let next = AreInOrder-after pending w order in
    let laid = HasRisingRows-after_writes rows (writes_of_ops (ops_of pending)) h in
    same_entries key_cmp key_total key_exact (with_pending rows (pending_after pending w)) (after_write (with_pending rows pending) w)
    (HasRisingRows-after_writes rows (writes_of_ops (ops_of (pending_after pending w))) h)
    (HasRisingRows-after_write (with_pending rows pending) w laid)
    (λ q. fields_at-with_pending rows (pending_after pending w) q h next.keys
    ∙ ap (row_with_pending (fields_at rows q)) (pending_at-after pending w q)
    ∙ row_with-more q w (fields_at rows q) (pending_at pending q) (names_at pending q order.names)
    ∙ ap (row_after q w) (sym (fields_at-with_pending rows pending q h order.keys))
    ∙ sym (fields_at-after_write (with_pending rows pending) w q laid))

with_pending-after_all : (rows : Rows) (pending : PendingKeys) (ws : List Write) → HasRisingRows rows → ArePendingInOrder pending → with_pending rows (pending_after_all pending ws) ≡ after_writes (with_pending rows pending) ws
with_pending-after_all rows pending [] h order = refl
with_pending-after_all rows pending (w ∷ ws) h order =
    with_pending-after_all rows (pending_after pending w) ws h (AreInOrder-after pending w order) ∙ ap (λ r. after_writes r ws) (with_pending-after rows pending w h order)

-- all that was written waits
pub with_pending-pending_of : (rows : Rows) (ws : List Write) → HasRisingRows rows → with_pending rows (pending_of ws) ≡ after_writes rows ws
with_pending-pending_of rows ws h = with_pending-after_all rows [] ws h (record { keys = tt; names = tt })

-- the first keys are laid, and then the others
pub with_pending-drop : (rows : Rows) (pending : PendingKeys) (m : ℕ) → with_pending (with_pending rows (take m pending)) (drop m pending) ≡ with_pending rows pending
with_pending-drop rows pending zero = refl
with_pending-drop rows [] (suc m) = refl
with_pending-drop rows (e ∷ es) (suc m) =
    let now = after_writes rows (writes_of_op (op_of e)) in
    ap (λ r. with_pending r (drop m es)) (after_writes-append rows (writes_of_op (op_of e)) (writes_of_ops (ops_of (take m es)))) ∙ with_pending-drop now es m ∙ sym (after_writes-append rows (writes_of_op (op_of e)) (writes_of_ops (ops_of es)))

each-drop : {X : Type 0} (P : X → Type 0) (m : ℕ) (es : List X) → AllByRecursion P es → AllByRecursion P (drop m es)
each-drop P zero es h = h
each-drop P (suc m) [] h = tt
each-drop P (suc m) (e ∷ es) h = each-drop P m es h.1

HasRisingKeys-drop : (m : ℕ) (pending : PendingKeys) → HasRisingKeys key_cmp pending → HasRisingKeys key_cmp (drop m pending)
HasRisingKeys-drop zero pending h = h
HasRisingKeys-drop (suc m) [] h = tt
HasRisingKeys-drop (suc m) (e ∷ es) h = HasRisingKeys-drop m es h.1

pub HaveRisingNames-drop : (m : ℕ) (pending : PendingKeys) → HaveRisingNames pending → HaveRisingNames (drop m pending)
HaveRisingNames-drop m pending h = each-drop (λ e. HasRisingNames (pending_fields e.1)) m pending h

pub AreInOrder-drop : (m : ℕ) (pending : PendingKeys) → ArePendingInOrder pending → ArePendingInOrder (drop m pending)
AreInOrder-drop m pending h = record { keys = HasRisingKeys-drop m pending h.keys; names = HaveRisingNames-drop m pending h.names }

put_or : (b : Bool) (v : Pending) (rest : Option Pending) → is_some (cond b (Some v) rest) ≡ (b || is_some rest)
put_or true v rest = refl
put_or false v rest = refl

-- a key waits exactly where one of the writes is of it
found-after : (pending : PendingKeys) (w : Write) (q : Key) → is_some (lookup (is_at (key_cmp q)) (pending_after pending w)) ≡ (is_write_of q w || is_some (lookup (is_at (key_cmp q)) pending))
found-after pending (Set k fields) q = ap is_some (lookup-insert_entry key_cmp key_total pending k (laid_over (pending_at pending k) fields) q) ∙ put_or (is_at (key_cmp q) k) (laid_over (pending_at pending k) fields) (lookup (is_at (key_cmp q)) pending)
found-after pending (Del k) q = ap is_some (lookup-insert_entry key_cmp key_total pending k (record { dropped = true; fields = None }) q) ∙ put_or (is_at (key_cmp q) k) (record { dropped = true; fields = None }) (lookup (is_at (key_cmp q)) pending)

or_rotated : (a b c : Bool) → ((b || a) || c) ≡ (a || (b || c))
or_rotated true true c = refl
or_rotated true false c = refl
or_rotated false true c = refl
or_rotated false false c = refl

found-after_all : (pending : PendingKeys) (ws : List Write) (q : Key) → is_some (lookup (is_at (key_cmp q)) (pending_after_all pending ws)) ≡ (is_some (lookup (is_at (key_cmp q)) pending) || has_write q ws)
found-after_all pending [] q = sym (or_none (is_some (lookup (is_at (key_cmp q)) pending)))
found-after_all pending (w ∷ ws) q =
    found-after_all (pending_after pending w) ws q ∙ ap (λ b. b || has_write q ws) (found-after pending w q) ∙ or_rotated (is_some (lookup (is_at (key_cmp q)) pending)) (is_write_of q w) (has_write q ws)

pub found-pending_of : (ws : List Write) (q : Key) → is_some (lookup (is_at (key_cmp q)) (pending_of ws)) ≡ has_write q ws
found-pending_of ws q = found-after_all [] ws q
