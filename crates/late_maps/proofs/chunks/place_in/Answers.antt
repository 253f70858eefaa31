use Rattle.std.proofs.Common.{subst, drop, ◌≡◌, arith}
use Rattle.late_maps.proofs.Places.{IsRisingPlace-between, IsRisingPlace-found}
use Rattle.late_maps.proofs.Risings.{above-with, below-with}
use Rattle.late_maps.proofs.Segments.{AllAbove}
use Rattle.late_maps.proofs.chunks.place_in.Goals as goal

pub loop-low-preserved-in-Less : goal.loop-low-preserved-in-Less
loop-low-preserved-in-Less g c = (omega arith, omega arith, c.loop-low.invariant.2, above-with g.met.K.Ord.total _ c.args.chunk.now _ (omega arith) c.requires c.cmp.result _ c.cmp.ensures c.in-Less.is)

pub returns-in-Equal : goal.returns-in-Equal
returns-in-Equal g c = IsRisingPlace-found g.met.K.Ord.total _ c.args.chunk.now _ (omega arith) c.requires c.cmp.result _ c.cmp.ensures c.in-Equal.is

pub loop-low-preserved : goal.loop-low-preserved
loop-low-preserved g c = (omega arith, omega arith, below-with g.met.K.Ord.total _ c.args.chunk.now _ (omega arith) c.requires c.cmp.result _ c.cmp.ensures c.in-Greater.is, c.loop-low.invariant.3)

pub returns : goal.returns
returns g c =
    let met : c.loop-low.high ≡ c.loop-low.low = omega arith in
    IsRisingPlace-between g.K.Ord.cmp c.args.key.now c.args.chunk.now c.loop-low.low (omega arith) c.loop-low.invariant.2 (subst (λ i. AllAbove g.K.Ord.cmp c.args.key.now (drop i c.args.chunk.now)) met c.loop-low.invariant.3)
