use Rattle.std.proofs.Common.{◌≡◌, ◌∙◌, ◌+◌, ◌-◌, ◌++◌, ap, rules}
use Rattle.swss_script.specs.Generated.{next_state, routes_from}
use Rattle.swss_script.proofs.Eaches.{routes-done, routes-more}
use Rattle.swss_script.proofs.making.route_acts.Goals as goal

pub loop-i-preserved : goal.loop-i-preserved
loop-i-preserved c =
    let two : c.draw-first.new.self.state ≡ next_state (next_state c.loop-i.draws.state) = search rules in
    ap (λ s. c.push.new.self ++ routes_from (c.loop-i.i + 1) s (c.args.n - (c.loop-i.i + 1))) two
    ∙ routes-more c.loop-i.i c.args.n c.loop-i.draws.state _ _ _ c.loop-i-test.true (search rules) c.loop-i.invariant

pub returns : goal.returns
returns c = routes-done c.loop-i.i c.args.n c.loop-i.draws.state _ _ c.loop-i-test.false c.loop-i.invariant
