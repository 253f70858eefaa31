use Rattle.std.proofs.Common.{length, length-set, sym, ◌∙◌}
use Rattle.sai_record.specs.Lines.{longs_at}
use Rattle.sai_record.proofs.Longs.{long-missing, long-next, longs-done}
use Rattle.sai_record.proofs.reading.read_longs.Goals as goal

pub returns-in_err-longs : goal.returns-in_err-longs
returns-in_err-longs c =
    let size = length c.args.longs.now in
    rw c.from_residual.ensures (long-missing (longs_at size c.args.text.now) c.loop-at.longs size c.loop-at.at c.loop-at.text.now c.loop-at-test.true (sym c.in_err-longs.ensures) c.loop-at.invariant.0)

pub loop-at-preserved : goal.loop-at-preserved
loop-at-preserved c =
    let size = length c.args.longs.now in
    let at = c.loop-at.at in
    let n = c.in_ok-longs.field-0 in (
      long-next (longs_at size c.args.text.now) c.loop-at.longs size at c.loop-at.text.now n c.read_long.new.text.now c.loop-at-test.true c.loop-at.invariant.1 (sym c.in_ok-longs.ensures) c.loop-at.invariant.0,
      length-set c.loop-at.longs at n ∙ c.loop-at.invariant.1,
    )

pub returns : goal.returns
returns c =
    let size = length c.args.longs.now in
    longs-done (longs_at size c.args.text.now) c.loop-at.longs size c.loop-at.at c.loop-at.text.now c.loop-at-test.false c.loop-at.invariant.1 c.loop-at.invariant.0
