use Rattle.std.proofs.Common.{sym, subst}
use Rattle.table_schema.specs.Fields.{HasRisingNames}
use Rattle.table_schema.specs.Held.{pairs_in}
use Rattle.table_schema.proofs.TakenBack.{HasRisingNames-restored}
use Rattle.table_schema.proofs.own_fields.OwnFields.restore.Goals as goal

pub invariant_of-self : goal.invariant_of-self
invariant_of-self c = subst HasRisingNames (sym c.restore.ensures) (HasRisingNames-restored (pairs_in c.self.inside.held) c.args.name.now c.args.was c.self.invariant)
