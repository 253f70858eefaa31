use Rattle.std.proofs.Common.{ap, ◌∙◌, subst, sym, arith}
use Rattle.std.specs.BTreeMap.{is_at}
use Rattle.std.proofs.lemmas.Map.Steps.{set_value_same}
use Rattle.sai_chip.specs.Tally.{AreMembers, member_cmp}
use Rattle.sai_chip.proofs.MarkRanges.{member_total}
use Rattle.sai_chip.proofs.MemberCounts.{members-put, members-set}
use Rattle.sai_chip.proofs.Recounted.{raised-new}
use Rattle.sai_chip.proofs.membership.raise_member.Goals as goal

pub returns-in_default-clause-ok : goal.returns-in_default-clause-ok
returns-in_default-clause-ok c = rw (c.in_ok-insert.ensures.entries, ap (λ m. m.entries) c.get_mut.follows.holds-at-none) (raised-new member_cmp member_total c.args.member c.args.counts.now.entries c.in_default.ensures.value)

pub returns-in_default-clause-kept : goal.returns-in_default-clause-kept
returns-in_default-clause-kept c = rw (c.in_ok-insert.ensures.entries, ap (λ m. m.entries) c.get_mut.follows.holds-at-none) (members-put c.args.member 1 c.args.counts.now.entries (omega (arith, c.get-weight.ensures.number, c.get-weight.ensures.some)) (omega arith) c.requires)

pub returns-in_default-checked_add-clause-err : goal.returns-in_default-checked_add-clause-err
returns-in_default-checked_add-clause-err c = (c.get_mut.follows.holds c.in-Some.count.now).0 ∙ set_value_same (is_at (member_cmp c.args.member)) c.args.counts.now.entries c.in-Some.count.now (sym c.in-Some.ensures.value)

pub returns-in_default-checked_add-clause-kept : goal.returns-in_default-checked_add-clause-kept
returns-in_default-checked_add-clause-kept c = subst AreMembers (sym (returns-in_default-checked_add-clause-err c)) c.requires

pub returns-clause-kept : goal.returns-clause-kept
returns-clause-kept c = rw (c.get_mut.follows.holds c.in-Some-checked_add.more).0 (members-set (is_at (member_cmp c.args.member)) c.in-Some-checked_add.more c.args.counts.now.entries (omega (arith, c.in-Some-checked_add.ensures.1)) c.requires)
