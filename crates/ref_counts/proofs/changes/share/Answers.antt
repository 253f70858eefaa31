use Rattle.std.proofs.Common.{◌≡◌, Some, None, rules, ◌∙◌}
use Rattle.ref_counts.specs.Registered.{with_user}
use Rattle.ref_counts.specs.Registry.{registered_at}
use Rattle.ref_counts.proofs.Changing.{changed-absent, changed-ok, same-err}
use Rattle.ref_counts.proofs.changes.share.Goals as goal

pub returns-in-Some-clause-ok : goal.returns-in-Some-clause-ok
returns-in-Some-clause-ok c =
    let there : registered_at c.args.names.now c.args.name.now ≡ Some c.in-Some.registration.now = search rules in
    changed-ok c.args.names.now (c.get_mut.follows.lender c.share.new.self) c.args.name.now c.in-Some.registration.now c.share.new.self c.get_mut.ensures.ordered there (c.get_mut.follows.holds c.share.new.self) c.share.result (with_user c.args.user) c.share.ensures.ok

pub returns-in-Some-clause-err : goal.returns-in-Some-clause-err
returns-in-Some-clause-err c =
    let there : registered_at c.args.names.now c.args.name.now ≡ Some c.in-Some.registration.now = search rules in
    same-err c.args.names.now (c.get_mut.follows.lender c.share.new.self) c.args.name.now c.in-Some.registration.now c.share.new.self c.get_mut.ensures.ordered there (c.get_mut.follows.holds c.share.new.self) c.share.result c.share.ensures.err

pub returns-in-None-clause-ok : goal.returns-in-None-clause-ok
returns-in-None-clause-ok c =
    let none : registered_at c.args.names.now c.args.name.now ≡ None = search rules in
    let same : c.get_mut.follows.lender-at-none ≡ c.args.names.now = search rules in
    same ∙ changed-absent c.args.name.now (with_user c.args.user) c.args.names.now none
