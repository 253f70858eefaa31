use Rattle.std.proofs.Common.{◌∙◌, ◌++◌, [], ◌∷◌, ap}
use Rattle.swss_script.specs.Generated.{port_row}
use Rattle.swss_script.proofs.Eaches.{each-done, each-more}
use Rattle.swss_script.proofs.making.push_ports.Goals as goal

pub loop-k-preserved : goal.loop-k-preserved
loop-k-preserved c = each-more port_row c.loop-k.k 64 _ _ _ c.loop-k-test.true (c.in_ok-push.ensures.ok ∙ ap (λ r. c.loop-k.acts ++ r ∷ []) c.in_ok-row.ensures) c.loop-k.invariant

pub returns : goal.returns
returns c = each-done port_row c.loop-k.k 64 _ _ c.loop-k-test.false c.loop-k.invariant
