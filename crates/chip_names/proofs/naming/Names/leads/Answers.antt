use Rattle.std.proofs.Common.{◌∙◌, ap}
use Rattle.std.specs.Option.{is_some}
use Rattle.chip_names.proofs.SameNames.{goal-named}
use Rattle.chip_names.proofs.naming.Names.leads.Goals as goal

pub returns : goal.returns
returns c = rw (← c.self.view_is) (λ objects are. c.leads.ensures ∙ ap is_some (goal-named objects _ are c.args.to.now))
