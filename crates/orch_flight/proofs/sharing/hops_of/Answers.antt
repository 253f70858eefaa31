use Rattle.std.proofs.Common.{◌≡◌, ℕ, ◌<◌, List, [], ◌∷◌, ◌++◌, Some, None, map, reverse, rules, ap, sym, subst, ◌∙◌}
use Rattle.std.specs.List.{push}
use Rattle.sai_types.specs.Named.{both, put_hop}
use Rattle.sai_types.specs.declared.weight.WHop.{WHop}
use Rattle.switch_model.specs.Things.{hops_of, whop_of}
use Rattle.table_schema.specs.Hop.{HaveWeights}
use Rattle.table_schema.specs.Plan.{Ports}
use Rattle.table_schema.specs.declared.row_hop.RowHop.{RowHop}
use Rattle.orch_flight.proofs.sharing.hops_of.Goals as goal

-- a hop that stands on nothing leaves all hops of the row without an answer
none_at : (plan : Ports) (before behind : List (RowHop × ℕ)) (hop : RowHop × ℕ) (found : List WHop) → hops_of plan behind ≡ Some found → whop_of plan hop ≡ None → None ≡ hops_of plan (push before hop ++ behind)
none_at plan [] behind hop found e none = search rules
none_at plan (x ∷ before) behind hop found e none = ap (λ o. both put_hop o (whop_of plan x)) (none_at plan before behind hop found e none)

-- none of some hops has the weight 0
weighed : (before behind : List (RowHop × ℕ)) (hop : RowHop × ℕ) → HaveWeights (push before hop ++ behind) → 0 < hop.1
weighed [] behind hop h = h.0
weighed (x ∷ before) behind hop h = weighed before behind hop h.1

pub whop_of-requires : goal.whop_of-requires
whop_of-requires c =
    let behind = reverse (map (λ hop. hop.now) c.loop-hop.yielded) in
    let all = ap (λ xs. xs ++ behind) (sym c.in-Some.ensures.steps) ∙ c.loop-hop.invariant.0 ∙ sym c.items.ensures.value in
    weighed c.next.new.self.iter.rest.now behind c.in-Some.hop.now (subst HaveWeights (sym all) c.items.ensures.weights)

pub returns-in_default : goal.returns-in_default
returns-in_default c = rw (← c.loop-hop.invariant.0) (rw c.in-Some.ensures.steps (none_at c.args.plan.now c.next.new.self.iter.rest.now _ c.in-Some.hop.now c.loop-hop.found c.loop-hop.invariant.1 (sym c.whop_of.ensures ∙ c.in_default.is)))
