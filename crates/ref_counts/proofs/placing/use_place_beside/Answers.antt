use Rattle.std.proofs.Common.{◌≡◌, ◌++◌, false, rules}
use Rattle.ref_counts.specs.Registered.{pins_but, pins_of}
use Rattle.ref_counts.proofs.Pins.{places-kept}
use Rattle.ref_counts.proofs.Settling.{users-left}
use Rattle.ref_counts.proofs.placing.use_place_beside.Goals as goal

pub returns-then-is_pinned_beside-clause-places : goal.returns-then-is_pinned_beside-clause-places
returns-then-is_pinned_beside-clause-places c = λ ps h. places-kept c.args.users.now c.use_place.new.places c.use_place.ensures.others ps h

pub returns-else-is_pinned_beside-clause-users : goal.returns-else-is_pinned_beside-clause-users
returns-else-is_pinned_beside-clause-users c =
    let free : c.is_pinned_beside.result ≡ false = search rules in
    users-left c.args.users.now c.args.pin.now (pins_of c.args.worker c.args.others.now ++ pins_but c.args.worker c.args.all.now) c.rise.ensures c.requires (c.is_pinned_beside.ensures free)
