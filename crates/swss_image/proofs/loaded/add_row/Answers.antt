use Rattle.std.proofs.Common.{sym, subst}
use Rattle.swss_image.specs.Saved.{AreWhole}
use Rattle.swss_image.proofs.Whole.{whole_put, whole_set}
use Rattle.swss_image.proofs.loaded.add_row.Goals as goal

pub returns-then-is_none-clause-whole : goal.returns-then-is_none-clause-whole
returns-then-is_none-clause-whole c = λ proper some whole. subst AreWhole (sym c.in_ok-replace.ensures.ok) (whole_put c.args.rows.now c.args.key.now c.args.fields.now proper some whole)

pub returns-clause-whole : goal.returns-clause-whole
returns-clause-whole c = λ proper some whole. subst AreWhole (sym c.in_ok-set.ensures.ok) (whole_set c.args.rows.now c.args.key.now c.args.fields.now proper some whole)
