use Rattle.std.proofs.Common.{◌∙◌, sym}
use Rattle.sai_chip.proofs.Clashes.{goes-stands, refers-never, refers-stands}
use Rattle.sai_chip.proofs.table.is_referred.Goals as goal

pub returns-in-Oid : goal.returns-in-Oid
returns-in-Oid c = rw c.in-Oid.is (c.has.ensures ∙ sym (refers-stands c.in-Oid.id c.args.held.now))

pub returns-in-Neigh : goal.returns-in-Neigh
returns-in-Neigh c = rw c.in-Neigh.is (c.has-in-Neigh.ensures ∙ sym (goes-stands c.in-Neigh.rif c.in-Neigh.ip c.args.held.now))

pub returns-in_default : goal.returns-in_default
returns-in_default c = refers-never c.args.entry.now c.in_default.not-Oid c.in_default.not-Neigh c.args.held.now
