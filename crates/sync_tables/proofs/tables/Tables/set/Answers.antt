use Rattle.table_schema.specs.declared.write.Write.TheVariants.{Set}
use Rattle.sync_tables.proofs.Waits.{all_matter_kept}
use Rattle.sync_tables.proofs.tables.Tables.set.Goals as goal

pub invariant_of-self : goal.invariant_of-self
invariant_of-self c = all_matter_kept c.set.result c.self.inside.waiting c.set.new.self (Set c.args.key c.args.fields) c.set.ensures.ok c.set.ensures.err c.self.invariant
