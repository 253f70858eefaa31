use Rattle.chip_names.specs.Naming.{entries_of}
use Rattle.chip_names.proofs.SameNames.{things-named}
use Rattle.chip_names.proofs.things.things_of.Goals as goal

pub returns : goal.returns
returns c = rw (← things-named (entries_of c.args.objects.now) c.in_ok-known.known c.in_ok-groups.groups c.in_ok-known.ensures c.in_ok-groups.ensures, ← c.bodies.ensures) c.list_things.ensures
