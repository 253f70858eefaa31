use Rattle.std.specs.Net.Text.{hex}
use Rattle.swss_types.proofs.EachWritten.{no_byte, no_word, one_more}
use Rattle.swss_types.proofs.ip.write_behind.Goals as goal

pub loop-group-preserved : goal.loop-group-preserved
loop-group-preserved c = one_more 58 hex c.args.out.now.items c.args.groups.now c.loop-group.out.items c.loop-group.group-index c.loop-group.invariant c.push.new.self.items c.write_group.new.out.items 0 c.loop-group-test.true c.in_ok-push.ensures.items c.in_ok-write_group.ensures.ok

pub returns-in_err-push-clause-err : goal.returns-in_err-push-clause-err
returns-in_err-push-clause-err c = no_byte 58 hex c.args.out.now.items c.args.groups.now c.loop-group.out.items c.loop-group.group-index c.loop-group.invariant c.from_residual.result c.push.new.self.items c.in_err-push.ensures.items

pub returns-in_err-write_group-clause-err : goal.returns-in_err-write_group-clause-err
returns-in_err-write_group-clause-err c = no_word 58 hex c.args.out.now.items c.args.groups.now c.loop-group.out.items c.loop-group.group-index c.loop-group.invariant c.from_residual-in_err-write_group.result c.push.new.self.items c.write_group.new.out.items c.in_ok-push.ensures.items c.in_err-write_group.ensures.err
