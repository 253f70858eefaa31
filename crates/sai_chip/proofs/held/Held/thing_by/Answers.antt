use Rattle.std.proofs.Common.{◌≡◌, ◌∙◌, refl, subst}
use Rattle.sai_types.specs.Named.{thing_by, thing_of}
use Rattle.chip_names.specs.Naming.{AreBodies, hops_of_group, numbered}
use Rattle.chip_names.proofs.SameNames.{thing_by-same}
use Rattle.sai_chip.proofs.GroupNames.{thing_of-known}
use Rattle.sai_chip.proofs.held.Held.thing_by.Goals as goal

pub returns : goal.returns
returns c =
    let bodies = numbered c.numbered.result.now in
    let groups = c.in_ok-groups.groups in
    let found = subst (λ o. AreBodies o bodies) c.self.view_is c.numbered.ensures in
    let named : thing_by (hops_of_group groups) bodies (c.args.entry.now, c.in-Some.body.now) ≡ thing_of c.args.self.now (c.args.entry.now, c.in-Some.body.now) =
    thing_by-same bodies c.args.self.now found (hops_of_group groups) (hops_of_group groups) (λ r. refl) c.args.entry.now c.in-Some.body.now
    ∙ thing_of-known c.args.self.now c.args.entry.now c.in-Some.body.now groups c.in_ok-groups.ensures in
    rw (c.in-Some.is, ← named) c.thing_at.ensures
