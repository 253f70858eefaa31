-- what a Set of no field for each of these keys comes to, as they are put one after another
use Rattle.std.proofs.Common.{◌≡◌, Bool, true, false, ◌||◌, cond, List, [], ◌∷◌, Option, Some, refl, ap, ◌∙◌}
use Rattle.std.specs.BTreeMap.{insert_entry}
use Rattle.std.specs.Ordering.{eq_by_cmp}
use Rattle.std.specs.Set.{is_member}
use Rattle.swss_types.proofs.Maps.{lookup-insert_entry}
use Rattle.table_schema.specs.Fields.{HasRisingNames}
use Rattle.table_schema.specs.Key.{key_cmp}
use Rattle.table_schema.specs.declared.key.Key.{Key}
use Rattle.table_schema.proofs.Keys.{key_total}
use Rattle.table_schema.proofs.Places.{HasRisingKeys-insert_entry}
use Rattle.producer_table.proofs.Found.{each-put}
use Rattle.consumer_table.specs.declared.op.Op.{Op}
use Rattle.consumer_table.specs.declared.op.Op.TheVariants as op
use Rattle.consumer_table.specs.Ops.{Ops, AreOpsInOrder, op_at, op_fields}

abbrev pub with_sets : Ops → List Key → Ops
with_sets ops [] = ops
with_sets ops (key ∷ keys) = with_sets (insert_entry key_cmp ops key (op.Set [])) keys

twice : (here more : Bool) (v o : Option Op) → cond more v (cond here v o) ≡ cond (here || more) v o
twice true true v o = refl
twice true false v o = refl
twice false more v o = refl

pub op_at-sets : (ops : Ops) (keys : List Key) (q : Key) → op_at (with_sets ops keys) q ≡ cond (is_member (eq_by_cmp key_cmp) keys q) (Some (op.Set [])) (op_at ops q)
op_at-sets ops [] q = refl
op_at-sets ops (key ∷ keys) q =
    let more = is_member (eq_by_cmp key_cmp) keys q in
    op_at-sets (insert_entry key_cmp ops key (op.Set [])) keys q
    ∙ ap (cond more (Some (op.Set []))) (lookup-insert_entry key_cmp key_total ops key (op.Set []) q)
    ∙ twice (eq_by_cmp key_cmp q key) more (Some (op.Set [])) (op_at ops q)

pub AreOpsInOrder-sets : (ops : Ops) (keys : List Key) → AreOpsInOrder ops → AreOpsInOrder (with_sets ops keys)
AreOpsInOrder-sets ops [] h = h
AreOpsInOrder-sets ops (key ∷ keys) h = AreOpsInOrder-sets (insert_entry key_cmp ops key (op.Set [])) keys (record { keys = HasRisingKeys-insert_entry key_cmp key_total ops key (op.Set []) h.keys; names = each-put (λ (o : Op). HasRisingNames (op_fields o)) key_cmp ops key (op.Set []) tt h.names })
