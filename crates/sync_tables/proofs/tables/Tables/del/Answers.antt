use Rattle.table_schema.specs.declared.write.Write.TheVariants.{Del}
use Rattle.sync_tables.proofs.Waits.{all_matter_kept}
use Rattle.sync_tables.proofs.tables.Tables.del.Goals as goal

pub invariant_of-self : goal.invariant_of-self
invariant_of-self c = all_matter_kept c.del.result c.self.inside.waiting c.del.new.self (Del c.args.key) c.del.ensures.ok c.del.ensures.err c.self.invariant
