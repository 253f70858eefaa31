use Rattle.std.proofs.Common.{◌+◌, subst, arith}
use Rattle.late_maps.specs.Chunks.{IsOrderAt}
use Rattle.late_maps.proofs.Behind.{chunk_fits}
use Rattle.late_maps.proofs.Places.{IsSpot-before, IsSpot-end, IsSpot-found, none-behind}
use Rattle.late_maps.proofs.chunks.spot_over.Goals as goal

pub overflow_add-end : goal.overflow_add-end
overflow_add-end g c =
    let fits = chunk_fits c.args.chunks.now c.args.last.chunk in
    omega (arith, c.requires.past.1, fits)

pub returns-in-Some-Less : goal.returns-in-Some-Less
returns-in-Some-Less g c = IsSpot-before g.met.K.Ord.total c.args.key.now c.args.chunks.now c.requires.rising c.args.last c.requires.past c.requires.last (subst (IsOrderAt g.K.Ord.cmp c.args.chunks.now _ c.args.key.now) c.in-Some-Less.field-0-is c.in-Some-Less.ensures.some)

pub returns-in-Some-Equal : goal.returns-in-Some-Equal
returns-in-Some-Equal g c = IsSpot-found g.met.K.Ord.total c.args.key.now c.args.chunks.now c.requires.rising _ (subst (IsOrderAt g.K.Ord.cmp c.args.chunks.now _ c.args.key.now) c.in-Some-Equal.field-0-is c.in-Some-Equal.ensures.some)

pub returns-in-None : goal.returns-in-None
returns-in-None g c =
    let none = none-behind c.args.chunks.now (c.args.last.chunk + 1) c.requires.rising.1 c.in-None.ensures.none in
    IsSpot-end g.met.K.Ord.total c.args.key.now c.args.chunks.now c.requires.rising c.args.last c.requires.past c.requires.last (omega (arith, none))
