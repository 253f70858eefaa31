use Rattle.std.proofs.Common.{option_map, ap, ◌∙◌}
use Rattle.std.specs.Option.{is_some}
use Rattle.sai_types.specs.Named.{goal_by, hops_at, router_at}
use Rattle.chip_layout.specs.Renamed.{entry_renamed, to_renamed}
use Rattle.view_match.specs.Listed.{rid_of}
use Rattle.view_match.proofs.RouteKeys.{route-key}
use Rattle.view_match.proofs.key.new_key_of.Goals as goal

pub returns-in-Route : goal.returns-in-Route
returns-in-Route c = rw (c.in-Route.is) (λ objects are.
    c.route_key.ensures
    ∙ route-key objects (entry_renamed rid_of c.args.object.now.entry) (option_map rid_of c.in-Route.vr) c.in-Route.prefix (to_renamed rid_of c.in-Route.to) c.router-router.result c.leads.result
    (c.router-router.ensures objects are ∙ ap (router_at objects) c.vr_of.ensures)
    (c.leads.ensures objects are ∙ ap (λ t. is_some (goal_by (hops_at objects) objects t)) c.to_of.ensures))
