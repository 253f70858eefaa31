use Rattle.std.proofs.Common.{◌&&◌, ap, ◌∙◌, sym}
use Rattle.sai_types.specs.Refusal.{same_id}
use Rattle.sai_chip.proofs.MarkRanges.{first-says, from, none-says}
use Rattle.sai_chip.proofs.membership.has_member.Goals as goal

pub returns-then-eq : goal.returns-then-eq
returns-then-eq c =
    c.eq-then-eq.ensures
    ∙ sym (ap (λ b. b && same_id c.in-Some.field-0-0.now.1 c.args.next_hop) (sym c.eq.ensures ∙ c.if-eq.true))
    ∙ first-says c.args.group c.args.next_hop c.args.counts.now.entries c.next.new.self (c.in-Some.field-0-0.now, c.in-Some.field-0-1.now) c.range.ensures.ordered c.requires
    (ap (λ w. from (c.args.group, c.args.next_hop, w) c.args.counts.now.entries) (sym c.one.ensures) ∙ sym (c.range.ensures.between tt) ∙ c.in-Some.ensures.steps)

pub returns-else-eq : goal.returns-else-eq
returns-else-eq c =
    c.if-eq.false
    ∙ sym (ap (λ b. b && same_id c.in-Some.field-0-0.now.1 c.args.next_hop) (sym c.eq.ensures ∙ c.if-eq.false))
    ∙ first-says c.args.group c.args.next_hop c.args.counts.now.entries c.next.new.self (c.in-Some.field-0-0.now, c.in-Some.field-0-1.now) c.range.ensures.ordered c.requires
    (ap (λ w. from (c.args.group, c.args.next_hop, w) c.args.counts.now.entries) (sym c.one.ensures) ∙ sym (c.range.ensures.between tt) ∙ c.in-Some.ensures.steps)

pub returns-in-None : goal.returns-in-None
returns-in-None c =
    none-says c.args.group c.args.next_hop c.args.counts.now.entries c.range.ensures.ordered c.requires
    (ap (λ w. from (c.args.group, c.args.next_hop, w) c.args.counts.now.entries) (sym c.one.ensures) ∙ sym (c.range.ensures.between tt) ∙ c.in-None.ensures.steps.0)
