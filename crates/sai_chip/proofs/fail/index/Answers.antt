use Rattle.std.proofs.Common.{false, drop, get_or, ◌-◌, rules}
use Rattle.sai_types.specs.declared.fail.Fail.{Fail}
use Rattle.sai_chip.proofs.Indexed.{IsIndex-cons, drop-before}
use Rattle.sai_chip.proofs.fail.index.Goals as goal

pub loop-left-preserved : goal.loop-left-preserved
loop-left-preserved c =
    let none : Fail = record { at = 0; after = false } in
    record {
      within = search rules;
      found = IsIndex-cons (drop (c.loop-left.left - 1) c.args.fails.now) (drop c.loop-left.left c.args.fails.now) (get_or c.args.fails.now (c.loop-left.left - 1) none) c.loop-left.by_number c.insert.new.self (drop-before c.args.fails.now c.loop-left.left none c.loop-left-test.true c.loop-left.invariant.within) c.loop-left.invariant.found c.in_ok-insert.ensures.updates.0;
    }
