use Rattle.std.proofs.Common.{Ok, Err, ap, ◌∙◌}
use Rattle.std.specs.Result.{IfOk}
use Rattle.std.specs.declared.result.Result.{Result}
use Rattle.sai_types.specs.Named.{both, thing_by}
use Rattle.sai_types.specs.declared.body.Body.TheVariants as body
use Rattle.sai_types.specs.declared.thing.Thing.TheVariants as thing
use Rattle.chip_names.specs.Naming.{hops_of_group}
use Rattle.chip_names.proofs.SameNames.{thing-named}
use Rattle.chip_names.proofs.naming.Names.thing.Goals as goal

if_ok : {X E : Type 0} {P Q : X → Type 0} (r : Result X E) → ((x : X) → P x → Q x) → IfOk r P → IfOk r Q
if_ok (Ok x) on p = on x p
if_ok (Err e) on p = tt

pub returns : goal.returns
returns c = rw (← c.self.view_is) (if_ok c.thing_at.result
    (λ found is objects are. is ∙ ap (λ os. thing_by (hops_of_group c.self.inside.groups) os (c.args.object.now.entry, c.args.object.now.body)) c.bodies.ensures ∙ thing-named objects _ are c.args.object.now.entry c.args.object.now.body)
    c.thing_at.ensures)

pub returns-in-GroupMember : goal.returns-in-GroupMember
returns-in-GroupMember c = rw (c.in-GroupMember.is, ← c.self.view_is) (if_ok c.group_member_at.result
    (λ found is objects are. is ∙ ap (both thing.GroupMember (hops_of_group c.self.inside.groups c.in-GroupMember.group)) c.whop-hop.ensures ∙ thing-named objects _ are c.args.object.now.entry (body.GroupMember c.in-GroupMember.group c.in-GroupMember.next_hop c.in-GroupMember.weight))
    c.group_member_at.ensures)
