use Rattle.std.proofs.Common.{sym, ◌∙◌, arith}
use Rattle.late_maps.proofs.Risings.{Greater-from_is_gt, above-chunks, below-chunks_with}
use Rattle.late_maps.proofs.chunks.chunk_of.Goals as goal

pub loop-low-preserved-then-is_gt : goal.loop-low-preserved-then-is_gt
loop-low-preserved-then-is_gt g c = (omega arith, omega arith, below-chunks_with g.met.K.Ord.total c.args.key.now c.args.chunks.now _ (omega arith) c.requires.rising c.index-chunks-middle.result c.index-chunks-middle.is c.as_slice.result.now c.as_slice.ensures.value c.order_at_end.result c.order_at_end.ensures (Greater-from_is_gt c.order_at_end.result (sym c.is_gt.ensures ∙ c.if-is_gt.true)), c.loop-low.invariant.3)

pub loop-low-preserved : goal.loop-low-preserved
loop-low-preserved g c = (omega arith, omega arith, c.loop-low.invariant.2, above-chunks g.met.K.Ord.total c.args.key.now c.args.chunks.now _ (omega arith) c.requires.rising c.index-chunks-middle.result c.index-chunks-middle.is c.as_slice.result.now c.as_slice.ensures.value c.order_at_end.result c.order_at_end.ensures (sym c.is_gt.ensures ∙ c.if-is_gt.false))
