-- that the keys with rows come to be those to sync
use Rattle.std.proofs.Common.{◌≡◌, ◌↔◌, Bool, true, false, List, [], Some, None, is_some, IsSome, if◌then◌else◌, refl, sym, ap, ◌∙◌}
use Rattle.std.specs.BTreeMap.{is_at}
use Rattle.std.specs.Map.{keys_of}
use Rattle.std.specs.Ordering.{eq_by_cmp}
use Rattle.std.specs.Set.{is_member}
use Rattle.std.proofs.lemmas.Map.Made.{is_some-lookup}
use Rattle.sai_types.specs.Alike.{IsIn}
use Rattle.table_schema.specs.Key.{key_cmp}
use Rattle.table_schema.specs.Rows.{Rows, fields_at}
use Rattle.table_schema.specs.declared.key.Key.{Key}
use Rattle.consumer_table.specs.Ops.{Ops, op_at}
use Rattle.consumer_table.specs.declared.op.Op.{Op}
use Rattle.consumer_table.specs.declared.op.Op.TheVariants as op
use Rattle.sync_tables.proofs.Membership.{found-in, in-found}

is_some-where : (there : Bool) (o : Op) → is_some (if there then Some o else None) ≡ there
is_some-where true o = refl
is_some-where false o = refl

-- a key has an operation exactly where it is among the keys of the rows
pub keys-listed : (rows : Rows) (keys : List Key) (ops : Ops) → keys ≡ keys_of rows → ((q : Key) → op_at ops q ≡ (if is_member (eq_by_cmp key_cmp) keys q then Some (op.Set []) else None)) → (q : Key) → IsIn q (keys_of ops) ↔ IsSome (fields_at rows q)
keys-listed rows keys ops listed found q =
    let same : is_some (op_at ops q) ≡ is_some (fields_at rows q) =
    ap is_some (found q) ∙ is_some-where (is_member (eq_by_cmp key_cmp) keys q) (op.Set []) ∙ ap (λ ks. is_member (eq_by_cmp key_cmp) ks q) listed ∙ sym (is_some-lookup (is_at (key_cmp q)) rows) in
    ((λ i. sym same ∙ in-found q ops i), (λ s. found-in q ops (same ∙ s)))
