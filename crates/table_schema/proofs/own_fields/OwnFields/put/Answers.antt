use Rattle.std.proofs.lemmas.Cmp.{nat_list_cmp_total}
use Rattle.table_schema.specs.Fields.{by_bytes}
use Rattle.table_schema.proofs.Places.{kept}
use Rattle.table_schema.proofs.own_fields.OwnFields.put.Goals as goal

pub invariant_of-self-2 : goal.invariant_of-self-2
invariant_of-self-2 c = kept by_bytes nat_list_cmp_total c.put.result _ _ _ _ c.put.ensures.ok c.put.ensures.err c.self.invariant
