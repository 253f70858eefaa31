use Rattle.std.proofs.Common.{◌≡◌, ◌-◌, length, take, drop, subst, arith}
use Rattle.swss_types.specs.Outside.{Takes}
use Rattle.swss_run.proofs.Pieces.{Takes-trans, take-more, take-rest_length}
use Rattle.swss_run.proofs.output.write_all.Goals as goal

pub loop-written-preserved : goal.loop-written-preserved
loop-written-preserved g c =
    let text = c.args.text.now in
    let at = c.loop-written.written in
    let count = c.in-Bytes.count in
    let piece : length (take (length text - at) (drop at text)) ≡ length text - at = take-rest_length text at in (
      subst (λ t. Takes (g.K.Sink.holds c.args.sink.now) t (g.K.Sink.holds c.write.new.self)) (take-more text at count)
          (Takes-trans _ _ _ (take at text) (take count (take (length text - at) (drop at text))) c.loop-written.invariant.0 c.in-Bytes.ensures.takes.2),
      omega (arith, piece, c.in-Bytes.ensures.takes.1, c.loop-written.invariant.1),
      omega (arith, c.loop-written.invariant.2, c.in-Bytes.ensures.counts),
    )
