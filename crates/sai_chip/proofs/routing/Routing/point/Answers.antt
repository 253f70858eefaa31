use Rattle.std.proofs.Common.{◌≡◌, sym, ap, ◌∙◌, subst}
use Rattle.std.specs.BTreeMap.{is_at}
use Rattle.std.specs.Map.{keys_of}
use Rattle.sai_chip.specs.Bodies.{route_cmp}
use Rattle.sai_chip.proofs.Routed.{keys-set}
use Rattle.sai_chip.proofs.routing.Routing.point.Goals as goal
use Rattle.sai_chip.proofs.routing.Routing.point.Goals.{in-Some, in-None}

pub invariant_of-self : goal.invariant_of-self
invariant_of-self c = elim c.match-get_mut.branch [
  | in-Some w ↦ subst (λ i. i.tables ≡ keys_of i.targets) (sym w.self-inside-is) (c.self.invariant ∙ sym (ap keys_of (c.get_mut.follows.holds w.replace.new.dest) ∙ keys-set (is_at (route_cmp c.args.key.now)) c.self.inside.targets w.replace.new.dest))
  | in-None w ↦ subst (λ i. i.tables ≡ keys_of i.targets) (sym w.self-inside-is) (c.self.invariant ∙ sym (ap keys_of c.get_mut.follows.holds-at-none))
]
