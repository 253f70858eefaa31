use Rattle.std.proofs.Common.{◌==◌, sym, ◌∙◌}
use Rattle.app_restart.proofs.TableNames.{before_first-none, before_first-some}
use Rattle.app_restart.proofs.table.before_colon.Goals as goal

pub returns-in-Some : goal.returns-in-Some
returns-in-Some c = before_first-some (λ b. b == 58) c.args.text.now c.in-Some.at (sym c.colon_in.ensures ∙ c.in-Some.is)

pub returns-in-None : goal.returns-in-None
returns-in-None c = before_first-none (λ b. b == 58) c.args.text.now (sym c.colon_in.ensures ∙ c.in-None.is)
