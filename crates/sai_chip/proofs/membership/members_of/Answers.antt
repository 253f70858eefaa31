use Rattle.std.proofs.Common.{◌≡◌, false, ap, sym, ◌∙◌}
use Rattle.std.proofs.lemmas.Bool.{not-true}
use Rattle.std.specs.List.{list_any}
use Rattle.sai_types.specs.Refusal.{same_id}
use Rattle.sai_chip.specs.Tally.{same_member}
use Rattle.sai_chip.proofs.MarkRanges.{first_of, from, group_front, group_front-all, group_front-done, with_front}
use Rattle.sai_chip.proofs.MemberCounts.{grouped-counted}
use Rattle.sai_chip.proofs.membership.members_of.Goals as goal
use Rattle.sai_chip.proofs.membership.members_of.Goals.{in-None, in-Some+then-ne}

pub returns : goal.returns
returns c =
    let all : c.loop-of.members.items ≡ group_front c.args.group (from (first_of c.args.group) c.args.counts.now.entries) =
    group_front-done c.args.group c.loop-of.members.items _ c.loop-of.of-iterator
    (elim c.match-next.branch [
      | in-None w ↦ ap (group_front c.args.group) w.in-None.ensures.steps.0
      | in-Some+then-ne w ↦
          let other : same_id w.in-Some.field-0-0.now.0 c.args.group ≡ false = not-true _ (sym w.ne.ensures ∙ w.if-ne.true) in
          ap (group_front c.args.group) w.in-Some.ensures.steps ∙ ap (λ b. with_front b (w.in-Some.field-0-0.now.1, w.in-Some.field-0-0.now.2) (group_front c.args.group c.next.new.self)) other
    ])
    c.loop-of.invariant in
    λ m.
    ap (list_any (same_member m)) (all ∙ group_front-all c.args.group c.args.counts.now.entries c.range-of-items.ensures.ordered c.requires)
    ∙ grouped-counted c.args.group m.0 m.1 c.args.counts.now.entries c.requires
