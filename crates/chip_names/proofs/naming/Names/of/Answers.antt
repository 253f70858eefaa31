use Rattle.chip_names.proofs.naming.Names.of.Goals as goal

pub returns : goal.returns
returns c = record { bodies = c.in_ok-known.ensures; groups = c.in_ok-groups.ensures }
