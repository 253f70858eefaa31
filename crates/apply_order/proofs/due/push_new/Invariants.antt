use Rattle.std.proofs.Common.{◌≡◌, ◌++◌, drop}
use Rattle.view_match.specs.Pairs.{new_keys}
use Rattle.view_match.proofs.Routeless.{new_keys_among}
use Rattle.apply_order.specs.Due.{needed, new_steps}
use Rattle.apply_order.specs.Places.{IsTable, Places}
use Rattle.apply_order.proofs.due.push_new.Given as goal

-- the steps so far, with those of the objects that are left, are all
abbrev pub invariant-loop-object : goal.invariant-loop-object
invariant-loop-object l = record {
  counted : l.place ≡ l.object-index;
  made : (known : Places) → IsTable known l.paired.items → l.steps.items ++ needed l.names l.old l.new (new_steps l.mode known (new_keys_among l.new (drop l.object-index l.new)) (drop l.object-index l.new) l.place) ≡ l.initial.steps.items ++ needed l.names l.old l.new (new_steps l.mode known (new_keys l.new) l.new 0);
}
