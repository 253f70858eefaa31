use Rattle.std.proofs.Common.{◌∙◌, sym}
use Rattle.std.specs.BTreeMap.{is_at}
use Rattle.std.proofs.lemmas.Map.Steps.{set_value_same}
use Rattle.sai_chip.proofs.Recounted.{raised-new, raised-there}
use Rattle.sai_chip.proofs.tally.raise.Goals as goal

pub returns-in_default-clause-ok : goal.returns-in_default-clause-ok
returns-in_default-clause-ok g c = rw (c.in_ok-insert.ensures.entries, c.get_mut.follows.holds-at-none) (raised-new g.K.Ord.cmp g.met.K.Ord.total c.args.key c.args.counts.now c.in_default.ensures.value)

pub returns-in_default-checked_add-clause-err : goal.returns-in_default-checked_add-clause-err
returns-in_default-checked_add-clause-err g c = c.get_mut.follows.holds c.in-Some.count.now ∙ set_value_same (is_at (g.K.Ord.cmp c.args.key)) c.args.counts.now c.in-Some.count.now (sym c.in-Some.ensures.value)

pub returns-clause-ok : goal.returns-clause-ok
returns-clause-ok g c = rw (c.get_mut.follows.holds c.in-Some-checked_add.more, c.in-Some-checked_add.ensures.1) (raised-there g.K.Ord.cmp g.met.K.Ord.total c.args.key c.args.counts.now c.in-Some.count.now c.in-Some.ensures.value)
