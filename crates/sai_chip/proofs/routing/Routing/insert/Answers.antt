use Rattle.std.proofs.Common.{sym, ap, ◌∙◌}
use Rattle.std.specs.BTreeMap.{is_at}
use Rattle.std.specs.BTreeSet.{insert_key}
use Rattle.std.specs.Map.{keys_of}
use Rattle.std.specs.Set.{remove_key}
use Rattle.sai_chip.specs.Bodies.{route_cmp}
use Rattle.sai_chip.proofs.Keyed.{route_same}
use Rattle.sai_chip.proofs.Routed.{keys-inserted, taken_back}
use Rattle.sai_chip.proofs.routing.Routing.insert.Goals as goal

pub invariant_of-self-in-Ok : goal.invariant_of-self-in-Ok
invariant_of-self-in-Ok c = c.in_ok-put.ensures.ok ∙ ap (λ l. insert_key route_cmp l c.args.key) c.self.invariant ∙ sym (ap keys_of c.in-Ok.ensures.entries ∙ keys-inserted route_cmp c.self.inside.targets c.args.key c.args.to)

pub invariant_of-self-in-Err : goal.invariant_of-self-in-Err
invariant_of-self-in-Err c =
    c.remove.ensures
    ∙ ap (remove_key (is_at (route_cmp c.args.key))) (c.in_ok-put.ensures.ok ∙ ap (λ l. insert_key route_cmp l c.args.key) c.self.invariant)
    ∙ taken_back route_cmp c.args.key (route_same c.args.key) c.self.inside.targets c.in-Err.ensures.absent
    ∙ sym (ap keys_of c.in-Err.ensures.err)
