use Rattle.swss_types.specs.Mac.{pair_text}
use Rattle.swss_types.proofs.EachWritten.{no_byte, no_word, one_more}
use Rattle.swss_types.proofs.mac.write_behind.Goals as goal

pub loop-byte-preserved : goal.loop-byte-preserved
loop-byte-preserved c = one_more 58 pair_text c.args.out.now.items c.args.bytes.now c.loop-byte.out.items c.loop-byte.byte-index c.loop-byte.invariant c.push.new.self.items c.write_pair.new.out.items 0 c.loop-byte-test.true c.in_ok-push.ensures.items c.in_ok-write_pair.ensures.ok

pub returns-in_err-push-clause-err : goal.returns-in_err-push-clause-err
returns-in_err-push-clause-err c = no_byte 58 pair_text c.args.out.now.items c.args.bytes.now c.loop-byte.out.items c.loop-byte.byte-index c.loop-byte.invariant c.from_residual.result c.push.new.self.items c.in_err-push.ensures.items

pub returns-in_err-write_pair-clause-err : goal.returns-in_err-write_pair-clause-err
returns-in_err-write_pair-clause-err c = no_word 58 pair_text c.args.out.now.items c.args.bytes.now c.loop-byte.out.items c.loop-byte.byte-index c.loop-byte.invariant c.from_residual-in_err-write_pair.result c.push.new.self.items c.write_pair.new.out.items c.in_ok-push.ensures.items c.in_err-write_pair.ensures.err
