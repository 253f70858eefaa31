use Rattle.std.proofs.Common.{◌∙◌}
use Rattle.view_match.proofs.RouteKeys.{route-key}
use Rattle.view_match.proofs.key.key_of.Goals as goal

pub returns-in-Route : goal.returns-in-Route
returns-in-Route c = rw (c.in-Route.is) (λ objects are.
    c.route_key.ensures
    ∙ route-key objects c.args.object.now.entry c.in-Route.vr c.in-Route.prefix c.in-Route.to c.router.result c.leads.result (c.router.ensures objects are) (c.leads.ensures objects are))
