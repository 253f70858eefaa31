use Rattle.std.proofs.Common.{subst}
use Rattle.late_maps.specs.Chunks.{IsOrderAt}
use Rattle.late_maps.proofs.Places.{IsSpot-found}
use Rattle.late_maps.proofs.chunks.spot_near.Goals as goal

pub returns-in-Equal : goal.returns-in-Equal
returns-in-Equal g c = IsSpot-found g.met.K.Ord.total c.args.key.now c.args.chunks.now c.requires c.args.near (subst (IsOrderAt g.K.Ord.cmp c.args.chunks.now c.args.near c.args.key.now) c.in-Equal.is c.in_ok-order_at.ensures.some)
