use Rattle.std.proofs.Common.{◌++◌, option_map, ap, sym, ◌∙◌}
use Rattle.std.specs.Vec.Iter.{into_iter_items}
use Rattle.serde_json.specs.View.{items_view}
use Rattle.swss_script.specs.Batch.{writes_of_items}
use Rattle.swss_script.proofs.Batches.{elements-more}
use Rattle.swss_script.proofs.batch.read_elements.Goals as goal

pub loop-element-preserved : goal.loop-element-preserved
loop-element-preserved c =
    let left = into_iter_items c.next.new.self in
    ap (λ ws. option_map (λ more. ws ++ more) (writes_of_items (items_view left))) c.in_ok-push-in-Some-2.ensures.ok
    ∙ elements-more c.loop-element.writes c.in-Some.element left c.in-Some-2.write (sym c.in-Some-2.is ∙ c.in_ok-write.ensures)
    ∙ ap (λ es. option_map (λ more. c.loop-element.writes ++ more) (writes_of_items (items_view es))) (sym c.in-Some.ensures.steps.0)
    ∙ c.loop-element.invariant
