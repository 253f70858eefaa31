use Rattle.std.proofs.Common.{◌≡◌, Some, rules}
use Rattle.ref_counts.specs.Registered.{with_pin}
use Rattle.ref_counts.specs.Registry.{registered_at}
use Rattle.ref_counts.proofs.Changing.{changed-ok, same-err}
use Rattle.ref_counts.proofs.changes.pin.Goals as goal

pub returns-in-Some-clause-ok : goal.returns-in-Some-clause-ok
returns-in-Some-clause-ok c =
    let there : registered_at c.args.names.now c.args.name.now ≡ Some c.in-Some.registration.now = search rules in
    changed-ok c.args.names.now (c.get_mut.follows.lender c.pin.new.self) c.args.name.now c.in-Some.registration.now c.pin.new.self c.get_mut.ensures.ordered there (c.get_mut.follows.holds c.pin.new.self) c.pin.result (with_pin c.args.worker c.args.user.now) c.pin.ensures.ok

pub returns-in-Some-clause-err : goal.returns-in-Some-clause-err
returns-in-Some-clause-err c =
    let there : registered_at c.args.names.now c.args.name.now ≡ Some c.in-Some.registration.now = search rules in
    same-err c.args.names.now (c.get_mut.follows.lender c.pin.new.self) c.args.name.now c.in-Some.registration.now c.pin.new.self c.get_mut.ensures.ordered there (c.get_mut.follows.holds c.pin.new.self) c.pin.result c.pin.ensures.err
