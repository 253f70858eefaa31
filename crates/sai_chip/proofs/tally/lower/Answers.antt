use Rattle.std.proofs.Common.{◌≡◌, ◌-◌, None, ap, sym, arith, rules}
use Rattle.std.specs.BTreeMap.{is_at}
use Rattle.std.specs.Map.{lookup}
use Rattle.std.specs.Option.{unwrap_or}
use Rattle.std.proofs.lemmas.Map.Steps.{set_value_same}
use Rattle.sai_chip.proofs.Recounted.{lowered-away, lowered-there}
use Rattle.sai_chip.proofs.tally.lower.Goals.{in_default-via-in-None-1, in_default-via-in-Some+else-count-ge2}
use Rattle.sai_chip.proofs.tally.lower.Goals as goal

pub returns-then-count-ge2 : goal.returns-then-count-ge2
returns-then-count-ge2 g c = rw (c.get_mut.follows.holds (c.in-Some.count.now - 1)) (lowered-there g.K.Ord.cmp g.met.K.Ord.total c.args.key c.args.counts.now c.in-Some.count.now c.in-Some.ensures.value)

pub returns-in_default : goal.returns-in_default
returns-in_default g c =
    let cmp = g.K.Ord.cmp in
    let total = g.met.K.Ord.total in
    let away = lowered-away cmp total c.args.key c.args.counts.now c.get_mut.ensures.ordered in
    rw c.remove.ensures.entries (elim c.in_default.branch [
      | in_default-via-in-None-1 w ↦ rw (w.counts-is, c.get_mut.follows.holds-at-none) (away (let none : None ≡ lookup (is_at (cmp c.args.key)) c.args.counts.now = search rules in let zero = ap (λ n. unwrap_or n 0) none in omega (arith, zero)))
      | in_default-via-in-Some+else-count-ge2 w ↦
          rw (w.counts-is, c.get_mut.follows.holds w.in-Some.count.now, set_value_same (is_at (cmp c.args.key)) c.args.counts.now w.in-Some.count.now (sym w.in-Some.ensures.value))
          (away (let some = ap (λ n. unwrap_or n 0) w.in-Some.ensures.value in let small = w.if-count-ge2.false in omega (arith, some, small)))
    ])
