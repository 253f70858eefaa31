use Rattle.std.proofs.Common.{option_map, sym, ap, ◌∙◌, subst}
use Rattle.std.specs.BTreeMap.{is_at}
use Rattle.std.specs.Map.{keys_of, lookup}
use Rattle.std.specs.Option.{option_and_then}
use Rattle.sai_types.specs.declared.body.Body.TheVariants as body
use Rattle.sai_types.specs.Made.{ReferWell}
use Rattle.sai_types.specs.Named.{goal_by, hops_at}
use Rattle.lpm_table.proofs.Alls.{all_weaker}
use Rattle.chip_names.specs.Naming.{numbered}
use Rattle.sai_chip.specs.Bodies.{objects_in, route_cmp}
use Rattle.sai_chip.proofs.BestKeys.{best_same}
use Rattle.sai_chip.proofs.BestRoutes.{all_found, best_leads}
use Rattle.sai_chip.proofs.Changed.{at-route}
use Rattle.sai_chip.proofs.Keyed.{route_total}
use Rattle.sai_chip.proofs.Leads.{routes_lead}
use Rattle.sai_chip.proofs.Looked.{best-held, router-held}
use Rattle.sai_chip.proofs.bodies.Bodies.best.Goals as goal

pub returns : goal.returns
returns c =
    let ids = c.self.inside.numbered in
    let owns = c.self.inside.own.keys in
    let ns = c.self.inside.neighbors.entries in
    let rs = c.self.inside.routes in
    let held = objects_in ids owns ns rs in
    let a = c.args.packet.now in
    let found = all_found route_cmp route_total rs c.best.ensures.ordered in
    let have = routes_lead held (subst ReferWell (sym c.self.view_is) c.requires) c.self.invariant.sorted rs (all_weaker (λ e f. at-route ids owns ns rs e.0.0 e.0.1 ∙ ap (option_map (body.Route e.0.0 e.0.1)) f) rs found) in
    rw (← c.self.view_is) (ap (option_map (λ r. r.1)) (best-held ids owns ns rs c.self.invariant.with_ids a)
    ∙ best_leads held a rs c.best.ensures.ordered have
    ∙ ap (λ k. option_and_then (goal_by (hops_at held) held) (option_and_then (λ k. lookup (is_at (route_cmp k)) rs) k)) (best_same held (numbered ids) a (λ vr. sym (router-held ids owns ns rs c.self.invariant.with_ids vr)) (keys_of rs))
    ∙ ap (option_and_then (goal_by (hops_at held) held)) (sym c.best.ensures.best))
