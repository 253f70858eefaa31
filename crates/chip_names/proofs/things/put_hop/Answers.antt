use Rattle.std.proofs.Common.{rules}
use Rattle.chip_names.proofs.GroupHops.{hops_in-put}
use Rattle.chip_names.proofs.things.put_hop.Goals.{in-Some, in-None}
use Rattle.chip_names.proofs.things.put_hop.Goals as goal

pub returns : goal.returns
returns c =
    rw (c.in_ok-insert.ensures.entries, c.remove.ensures.entries, c.in_ok-hops.ensures)
    (hops_in-put c.args.groups.now c.args.group c.args.hop c.match-remove.others (elim c.match-remove.branch [ in-Some w ↦ search rules | in-None w ↦ search rules ]))
