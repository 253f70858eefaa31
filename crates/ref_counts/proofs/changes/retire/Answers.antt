use Rattle.std.proofs.Common.{◌≡◌, Some, rules}
use Rattle.ref_counts.specs.Registered.{begun_to_go}
use Rattle.ref_counts.specs.Registry.{registered_at}
use Rattle.ref_counts.proofs.Changing.{changed-ok, same-err}
use Rattle.ref_counts.proofs.changes.retire.Goals as goal

pub returns-clause-ok : goal.returns-clause-ok
returns-clause-ok c =
    let there : registered_at c.args.names.now c.args.name.now ≡ Some c.in-Some.registration.now = search rules in
    changed-ok c.args.names.now (c.get_mut.follows.lender c.retire.new.self) c.args.name.now c.in-Some.registration.now c.retire.new.self c.get_mut.ensures.ordered there (c.get_mut.follows.holds c.retire.new.self) c.retire.result (begun_to_go c.args.worker) c.retire.ensures.ok

pub returns-clause-err : goal.returns-clause-err
returns-clause-err c =
    let there : registered_at c.args.names.now c.args.name.now ≡ Some c.in-Some.registration.now = search rules in
    same-err c.args.names.now (c.get_mut.follows.lender c.retire.new.self) c.args.name.now c.in-Some.registration.now c.retire.new.self c.get_mut.ensures.ordered there (c.get_mut.follows.holds c.retire.new.self) c.retire.result c.retire.ensures.err
