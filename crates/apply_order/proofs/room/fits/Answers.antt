use Rattle.apply_order.proofs.Modes.{fits-each}
use Rattle.apply_order.proofs.room.fits.Goals as goal

pub returns : goal.returns
returns c known table = fits-each c.have_room.result c.args.caps.now.0 c.held.result c.lacking.result c.args.old.now c.args.new.now known c.have_room.ensures c.held.ensures (c.lacking.ensures known table)
