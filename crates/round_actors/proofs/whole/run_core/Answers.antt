use Rattle.std.proofs.Common.{sym, subst}
use Rattle.round_actors.specs.Follows.{FollowsTaker}
use Rattle.round_actors.specs.Round.{CoreRan}
use Rattle.round_actors.proofs.Took.{core-ran}
use Rattle.round_actors.proofs.whole.run_core.Goals as goal

pub returns-clause-ran : goal.returns-clause-ran
returns-clause-ran g c =
    let K = g.K.RoundCore in
    let J = g.J.Opening in
    let value = c.run_actors-value.result.value in
    let parts = c.parts-core in
    let core = parts.result.0 in
    let kept = parts.result.2 in
    let e = parts.ensures in
    subst (λ k. CoreRan c.args.sections.now k J.taken (K.taken core) J.restarts (K.restarts core)) (sym e.parts.2)
    (core-ran c.args.made.intake c.args.sections.now c.run_actors-value.result.passes.items value.taker value.restarts J.taken (K.taken core) J.restarts (K.restarts core) e.restarts
    value.refusal c.run_actors-value.ensures.ran
    (subst (λ k. FollowsTaker J.taken (K.taken core) value.taker.received k) e.parts.2 (subst (λ t. FollowsTaker J.taken (K.taken core) t.received kept) e.parts.1 e.follows)))
