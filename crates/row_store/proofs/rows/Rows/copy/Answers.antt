use Rattle.std.proofs.Common.{◌∙◌}
use Rattle.row_store.proofs.Copies.{fold-rising}
use Rattle.row_store.proofs.rows.Rows.copy.Goals as goal

pub returns : goal.returns
returns c = c.in_ok-replace_each.ensures ∙ (rw (c.new-rows.ensures, c.iter.ensures.rest) (fold-rising c.args.self.now c.iter.ensures.rising))
