use Rattle.std.proofs.Common.{◌≡◌, take}
use Rattle.swss_script.proofs.copies.copy_each.Given as goal

-- the elements so far are copied
abbrev pub invariant-loop-element : goal.invariant-loop-element
invariant-loop-element g l = l.copies.items ≡ take l.element-index l.elements.items
