use Rattle.std.proofs.Common.{sym, ap, ◌∙◌}
use Rattle.std.specs.BTreeMap.{is_at}
use Rattle.std.specs.Map.{keys_of}
use Rattle.std.specs.Set.{remove_key}
use Rattle.sai_chip.specs.Bodies.{route_cmp}
use Rattle.sai_chip.proofs.Routed.{keys-removed}
use Rattle.sai_chip.proofs.routing.Routing.remove.Goals as goal

pub invariant_of-self : goal.invariant_of-self
invariant_of-self c = c.remove.ensures ∙ ap (remove_key (is_at (route_cmp c.args.key.now))) c.self.invariant ∙ sym (ap keys_of c.remove-2.ensures.entries ∙ keys-removed (is_at (route_cmp c.args.key.now)) c.self.inside.targets)
