use Rattle.std.proofs.Common.{◌≡◌, false, map, None, rules}
use Rattle.ref_counts.specs.declared.name.Name.TheVariants as name
use Rattle.ref_counts.specs.Registry.{are_live, first_not_live}
use Rattle.ref_counts.proofs.Found.{first-live, first-not-live}
use Rattle.ref_counts.proofs.registry.Registry.pin.Goals as goal

pub unreachable-requires : goal.unreachable-requires
unreachable-requires c =
    let not : are_live c.args.self.now (map name.Row c.args.names.now) ≡ false = search rules in
    let none : first_not_live c.args.self.now c.args.names.now ≡ None = search rules in
    first-not-live c.args.self.now c.args.names.now not none

pub returns-in-Ok-clause-live : goal.returns-in-Ok-clause-live
returns-in-Ok-clause-live c = rw (← c.self.view_is) (first-live c.self.inside.names c.args.names.now c.in-Ok.ensures.live)
