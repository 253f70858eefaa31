use Rattle.std.proofs.Common.{◌∙◌, ap}
use Rattle.sai_types.specs.Named.{router_at}
use Rattle.chip_names.proofs.SameNames.{router-named}
use Rattle.chip_names.proofs.naming.Names.router.Goals as goal

pub returns : goal.returns
returns c = rw (← c.self.view_is) (λ objects are. c.router_at.ensures ∙ ap (λ bodies. router_at bodies c.args.vr) c.bodies.ensures ∙ router-named objects _ are c.args.vr)
