use Rattle.std.proofs.Common.{◌∙◌, ◌++◌, [], ◌∷◌, ap}
use Rattle.swss_script.specs.Generated.{neighbour_row}
use Rattle.swss_script.proofs.Eaches.{each-done, each-more}
use Rattle.swss_script.proofs.making.push_neighbours.Goals as goal

pub loop-j-preserved : goal.loop-j-preserved
loop-j-preserved c = each-more neighbour_row c.loop-j.j 256 _ _ _ c.loop-j-test.true (c.in_ok-push.ensures.ok ∙ ap (λ r. c.loop-j.acts ++ r ∷ []) c.in_ok-row.ensures) c.loop-j.invariant

pub returns : goal.returns
returns c = each-done neighbour_row c.loop-j.j 256 _ _ c.loop-j-test.false c.loop-j.invariant
