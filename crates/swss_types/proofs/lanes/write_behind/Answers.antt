use Rattle.std.proofs.Common.{◌++◌, ap, ◌∙◌}
use Rattle.std.specs.Fmt.{decimal}
use Rattle.swss_types.proofs.EachWritten.{no_byte, no_word, one_more}
use Rattle.swss_types.proofs.lanes.write_behind.Goals as goal

pub loop-lane-preserved : goal.loop-lane-preserved
loop-lane-preserved c = one_more 44 decimal c.args.out.now.items c.args.lanes.now c.loop-lane.out.items c.loop-lane.lane-index c.loop-lane.invariant c.push.new.self.items c.write_number.new.out.items 0 c.loop-lane-test.true c.in_ok-push.ensures.items (c.in_ok-write_number.ensures.ok ∙ ap (λ n. c.push.new.self.items ++ decimal n) c.from.ensures)

pub returns-in_err-push-clause-err : goal.returns-in_err-push-clause-err
returns-in_err-push-clause-err c = no_byte 44 decimal c.args.out.now.items c.args.lanes.now c.loop-lane.out.items c.loop-lane.lane-index c.loop-lane.invariant c.from_residual.result c.push.new.self.items c.in_err-push.ensures.items

pub returns-in_err-write_number-clause-err : goal.returns-in_err-write_number-clause-err
returns-in_err-write_number-clause-err c = no_word 44 decimal c.args.out.now.items c.args.lanes.now c.loop-lane.out.items c.loop-lane.lane-index c.loop-lane.invariant c.from_residual-in_err-write_number.result c.push.new.self.items c.write_number.new.out.items c.in_ok-push.ensures.items c.in_err-write_number.ensures.err
