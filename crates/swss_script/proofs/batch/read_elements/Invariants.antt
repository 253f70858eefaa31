use Rattle.std.proofs.Common.{◌≡◌, ◌++◌, option_map}
use Rattle.std.specs.Vec.Iter.{into_iter_items}
use Rattle.serde_json.specs.View.{items_view}
use Rattle.swss_script.specs.Batch.{writes_of_items}
use Rattle.swss_script.proofs.batch.read_elements.Given as goal

-- the writes so far, with those of the elements that are left, are those of all elements
abbrev pub invariant-loop-element : goal.invariant-loop-element
invariant-loop-element l = option_map (λ more. l.writes ++ more) (writes_of_items (items_view (into_iter_items l.element-iterator))) ≡ writes_of_items (items_view l.fn.elements.items)
