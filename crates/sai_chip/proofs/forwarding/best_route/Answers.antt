use Rattle.std.proofs.Common.{◌≡◌, IfOk, option_map, sym, ap, ◌∙◌, subst}
use Rattle.std.specs.Option.{option_and_then}
use Rattle.swss_types.specs.declared.address.Prefix.{Prefix}
use Rattle.sai_types.specs.declared.thing.Goal.{Goal}
use Rattle.sai_types.specs.Forwarding.{best_route}
use Rattle.sai_types.specs.Named.{goal_by, hops_at, named, those}
use Rattle.sai_chip.specs.Forward.{sent}
use Rattle.sai_chip.proofs.Sending.{sent-best}
use Rattle.sai_chip.proofs.forwarding.best_route.Goals as goal

pub returns-in-Some : goal.returns-in-Some
returns-in-Some c =
    let held = c.args.held.now in
    let best = best_route (those (named held)) c.args.packet.now in
    let there = subst (λ o. option_map (λ (r : Prefix × Goal). r.1) (best_route (those (named o)) c.args.packet.now) ≡ option_and_then (goal_by (hops_at o) o) c.best.result) c.bodies.ensures c.best.ensures in
    let leads = there ∙ ap (option_and_then (goal_by (hops_at held) held)) c.in-Some.is in
    subst (λ x. IfOk c.forward_to.result (λ f. f ≡ x)) (ap (option_map (sent held)) (sym leads) ∙ sym (sent-best held best)) c.forward_to.ensures

pub returns-in-None : goal.returns-in-None
returns-in-None c =
    let held = c.args.held.now in
    let best = best_route (those (named held)) c.args.packet.now in
    let there = subst (λ o. option_map (λ (r : Prefix × Goal). r.1) (best_route (those (named o)) c.args.packet.now) ≡ option_and_then (goal_by (hops_at o) o) c.best.result) c.bodies.ensures c.best.ensures in
    let leads = there ∙ ap (option_and_then (goal_by (hops_at held) held)) c.in-None.is in
    sym (sent-best held best ∙ ap (option_map (sent held)) leads)
