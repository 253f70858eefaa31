use Rattle.sync_tables.proofs.ReadRows.{AreRead-merged}
use Rattle.sync_tables.proofs.read_rows.ReadRows.merge.Goals as goal

pub invariant_of-self : goal.invariant_of-self
invariant_of-self c = AreRead-merged c.merge.result c.self.inside.rows c.merge.new.rows c.self.inside.read c.forget.new.read c.args.key.now c.args.pending.now c.merge.ensures.ok c.merge.ensures.err c.forget.ensures c.self.invariant
