use Rattle.std.proofs.Common.{subst, arith}
use Rattle.late_maps.specs.Chunks.{IsRisingPlace}
use Rattle.late_maps.proofs.Places.{IsSpot-behind, IsSpot-last}
use Rattle.late_maps.proofs.Risings.{chunk_at-read, rising-chunk}
use Rattle.late_maps.proofs.chunks.far_spot.Goals as goal

pub place_in-requires : goal.place_in-requires
place_in-requires g c = rising-chunk g.met.K.Ord.total c.args.key.now c.args.chunks.now c.chunk_of-chunk.result c.chunk_of-chunk.ensures.within c.requires c.index-chunks-chunk.result c.index-chunks-chunk.is c.as_slice.result.now c.as_slice.ensures.value

pub returns-in-Greater : goal.returns-in-Greater
returns-in-Greater g c = IsSpot-behind g.met.K.Ord.total c.args.key.now c.args.chunks.now _ (omega arith) c.requires c.index-chunks-count.result c.index-chunks-count.is c.as_slice-last.result.now c.as_slice-last.ensures.value c.order_at_end.result c.order_at_end.ensures (omega arith) c.in-Greater.is

pub returns-in-Equal : goal.returns-in-Equal
returns-in-Equal g c = IsSpot-last g.met.K.Ord.total c.args.key.now c.args.chunks.now _ (omega arith) c.requires c.index-chunks-count.result c.index-chunks-count.is c.as_slice-last.result.now c.as_slice-last.ensures.value c.order_at_end.result c.order_at_end.ensures (omega arith) c.in-Equal.is

pub returns-in-Less : goal.returns-in-Less
returns-in-Less g c =
    let place = subst (λ l. IsRisingPlace g.K.Ord.cmp l c.args.key.now c.place_in.result) (chunk_at-read c.args.chunks.now _ c.index-chunks-chunk.result c.as_slice.result.now c.chunk_of-chunk.ensures.within c.index-chunks-chunk.is c.as_slice.ensures.value) c.place_in.ensures in
    (c.chunk_of-chunk.ensures.before, c.chunk_of-chunk.ensures.behind, place, λ _. c.chunk_of-chunk.ensures.within)
