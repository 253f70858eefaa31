use Rattle.std.proofs.Common.{◌-◌, ◌∙◌, subst, sym, arith}
use Rattle.std.specs.BTreeMap.{is_at}
use Rattle.std.proofs.lemmas.Map.Steps.{set_value_same}
use Rattle.sai_chip.specs.Tally.{AreMembers, member_cmp}
use Rattle.sai_chip.proofs.MemberCounts.{members-removed, members-set}
use Rattle.sai_chip.proofs.membership.lower_member.Goals.{in_default-via-in-None-1, in_default-via-in-Some+else-count-ge2}
use Rattle.sai_chip.proofs.membership.lower_member.Goals as goal

pub returns-then-count-ge2-clause-kept : goal.returns-then-count-ge2-clause-kept
returns-then-count-ge2-clause-kept c = rw (c.get_mut.follows.holds (c.in-Some.count.now - 1)).0 (members-set (is_at (member_cmp c.args.member)) (c.in-Some.count.now - 1) c.args.counts.now.entries (omega (arith, c.if-count-ge2.true)) c.requires)

pub returns-in_default-clause-kept : goal.returns-in_default-clause-kept
returns-in_default-clause-kept c = rw c.remove.ensures.entries (members-removed (is_at (member_cmp c.args.member)) c.in_default.counts.entries (elim c.in_default.branch [
  | in_default-via-in-None-1 w ↦ rw (w.counts-is, c.get_mut.follows.holds-at-none) c.requires
  | in_default-via-in-Some+else-count-ge2 w ↦ rw w.counts-is (subst AreMembers (sym ((c.get_mut.follows.holds w.in-Some.count.now).0 ∙ set_value_same (is_at (member_cmp c.args.member)) c.args.counts.now.entries w.in-Some.count.now (sym w.in-Some.ensures.value))) c.requires)
]))
