use Rattle.std.proofs.Common.{◌≡◌, ◌==◌, ◌&&◌, not, true, false, rules}
use Rattle.std.specs.BTreeMap.{is_at}
use Rattle.std.specs.List.{list_any}
use Rattle.table_schema.specs.Key.{key_cmp}
use Rattle.ref_counts.specs.Registered.{pins_but}
use Rattle.ref_counts.proofs.Pins.{none-but, places-others}
use Rattle.ref_counts.proofs.Settling.{users-others}
use Rattle.ref_counts.proofs.placing.end_place_beside.Goals as goal

pub returns-then-not-is_pinned_by_others-clause-places : goal.returns-then-not-is_pinned_by_others-clause-places
returns-then-not-is_pinned_by_others-clause-places c =
    let none : list_any (λ p. not (p.worker == c.args.worker) && is_at (key_cmp c.args.pin.now.user) p.user) c.args.all.now ≡ false = search rules in
    places-others c.args.pin.now.user c.args.users.now c.end_place.new.places c.end_place.ensures.others (pins_but c.args.worker c.args.all.now) (none-but c.args.pin.now.user c.args.worker c.args.all.now none) c.requires

pub returns-else-not-is_pinned_by_others-clause-users : goal.returns-else-not-is_pinned_by_others-clause-users
returns-else-not-is_pinned_by_others-clause-users c =
    let some : list_any (λ p. not (p.worker == c.args.worker) && is_at (key_cmp c.args.pin.now.user) p.user) c.args.all.now ≡ true = search rules in
    λ ps. users-others c.args.users.now c.args.worker c.args.pin.now ps c.args.all.now some
