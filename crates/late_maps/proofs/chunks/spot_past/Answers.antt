use Rattle.std.proofs.Common.{subst, arith}
use Rattle.late_maps.specs.Chunks.{IsOrderAt}
use Rattle.late_maps.proofs.Behind.{chunk_fits}
use Rattle.late_maps.proofs.Places.{IsSpot-between, IsSpot-found}
use Rattle.late_maps.proofs.chunks.spot_past.Goals as goal

pub overflow_add-next : goal.overflow_add-next
overflow_add-next g c =
    let fits = chunk_fits c.args.chunks.now c.args.near.chunk in
    omega (arith, c.requires.past.1, fits)

pub returns-in-Some-Less : goal.returns-in-Some-Less
returns-in-Some-Less g c = IsSpot-between g.met.K.Ord.total c.args.key.now c.args.chunks.now c.requires.rising c.args.near c.requires.past (subst (IsOrderAt g.K.Ord.cmp c.args.chunks.now _ c.args.key.now) c.in-Some-Less.field-0-is c.in-Some-Less.ensures.some)

pub returns-in-Some-Equal : goal.returns-in-Some-Equal
returns-in-Some-Equal g c = IsSpot-found g.met.K.Ord.total c.args.key.now c.args.chunks.now c.requires.rising _ (subst (IsOrderAt g.K.Ord.cmp c.args.chunks.now _ c.args.key.now) c.in-Some-Equal.field-0-is c.in-Some-Equal.ensures.some)
