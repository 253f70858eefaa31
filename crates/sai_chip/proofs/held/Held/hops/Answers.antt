use Rattle.std.proofs.Common.{◌≡◌, ap, ◌∙◌, subst}
use Rattle.sai_types.specs.Named.{hops_at}
use Rattle.chip_names.specs.Naming.{AreBodies, numbered}
use Rattle.chip_names.specs.Members.{hops_by}
use Rattle.chip_names.proofs.SameNames.{hops_by-bodies}
use Rattle.sai_chip.proofs.held.Held.hops.Goals as goal

pub returns : goal.returns
returns c =
    let found = subst (λ o. AreBodies o (numbered c.numbered.result.now)) c.self.view_is c.numbered.ensures in
    let named : hops_by (numbered c.numbered.result.now) c.deref.result.now ≡ hops_at c.args.self.now c.args.group =
    ap (hops_by (numbered c.numbered.result.now)) c.deref.ensures.value
    ∙ hops_by-bodies (numbered c.numbered.result.now) c.args.self.now found c.in_ok-members.members.items
    ∙ c.in_ok-members.ensures in
    rw (← named) c.hops_of.ensures
