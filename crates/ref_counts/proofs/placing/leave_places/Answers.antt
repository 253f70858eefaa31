use Rattle.std.proofs.Common.{◌≡◌, rules, ap, ◌∙◌}
use Rattle.ref_counts.specs.Kept.{users_in}
use Rattle.ref_counts.specs.Registered.{pins_but, pins_of, with_users}
use Rattle.ref_counts.proofs.Pins.{places-but, places-kept}
use Rattle.ref_counts.proofs.Settling.{users-parted}
use Rattle.ref_counts.proofs.placing.leave_places.Goals as goal

pub returns-then-used-clause-places : goal.returns-then-used-clause-places
returns-then-used-clause-places c = places-but c.use_places.new.users c.args.worker c.args.pins.now (places-kept c.args.users.now c.use_places.new.users c.use_places.ensures.others c.args.pins.now c.requires)

pub end_places-requires : goal.end_places-requires
end_places-requires c = places-but c.args.users.now c.args.worker c.args.pins.now c.requires

pub returns-then-used-clause-users : goal.returns-then-used-clause-users
returns-then-used-clause-users c =
    let parted = users-parted c.args.worker c.args.users.now c.args.pins.now in
    let users : users_in c.use_places.new.users (pins_but c.args.worker c.args.pins.now) ≡ with_users (pins_of c.args.worker c.args.pins.now) (users_in c.args.users.now c.args.pins.now) = c.use_places.ensures.users ∙ ap (with_users (pins_of c.args.worker c.args.pins.now)) parted in
    search rules

pub returns-clause-users : goal.returns-clause-users
returns-clause-users c =
    let users : users_in c.end_places.new.users (pins_but c.args.worker c.args.pins.now) ≡ users_in c.args.users.now c.args.pins.now = c.end_places.ensures.users ∙ users-parted c.args.worker c.args.users.now c.args.pins.now in
    search rules
