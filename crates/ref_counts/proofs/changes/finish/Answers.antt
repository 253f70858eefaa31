use Rattle.std.proofs.Common.{◌≡◌, Some, rules}
use Rattle.ref_counts.specs.Registry.{registered_at}
use Rattle.ref_counts.proofs.Changing.{finished-there}
use Rattle.ref_counts.proofs.changes.finish.Goals as goal

pub returns-in-Some : goal.returns-in-Some
returns-in-Some c =
    let there : registered_at c.args.names.now c.args.name.now ≡ Some c.in-Some.registration.now = search rules in
    finished-there c.args.names.now (c.get_mut.follows.lender c.finish.new.self) c.args.name.now c.in-Some.registration.now c.finish.new.self c.get_mut.ensures.ordered there (c.get_mut.follows.holds c.finish.new.self) c.finish.ensures
