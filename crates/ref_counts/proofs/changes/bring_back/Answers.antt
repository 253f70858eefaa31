use Rattle.std.proofs.Common.{◌≡◌, Some, None, rules, ◌∙◌}
use Rattle.ref_counts.specs.Registered.{made_live}
use Rattle.ref_counts.specs.Registry.{registered_at}
use Rattle.ref_counts.proofs.Changing.{changed-absent, changed-by}
use Rattle.ref_counts.proofs.changes.bring_back.Goals as goal

pub returns-in-Some : goal.returns-in-Some
returns-in-Some c =
    let there : registered_at c.args.names.now c.args.name.now ≡ Some c.in-Some.registration.now = search rules in
    changed-by c.args.names.now (c.get_mut.follows.lender c.come_back.new.self) c.args.name.now c.in-Some.registration.now c.come_back.new.self c.get_mut.ensures.ordered there (c.get_mut.follows.holds c.come_back.new.self) (made_live c.args.ids.now) c.come_back.ensures

pub returns-in_default : goal.returns-in_default
returns-in_default c =
    let none : registered_at c.args.names.now c.args.name.now ≡ None = search rules in
    let same : c.get_mut.follows.lender-at-none ≡ c.args.names.now = search rules in
    same ∙ changed-absent c.args.name.now (made_live c.args.ids.now) c.args.names.now none
