use Rattle.std.proofs.Common.{◌≡◌, true, false, rules}
use Rattle.std.specs.BTreeMap.{is_at}
use Rattle.std.specs.List.{list_any}
use Rattle.table_schema.specs.Key.{key_cmp}
use Rattle.ref_counts.specs.Kept.{is_pinned}
use Rattle.ref_counts.proofs.Pins.{places-others}
use Rattle.ref_counts.proofs.Settling.{users-pinned_at}
use Rattle.ref_counts.proofs.placing.end_place_of.Goals as goal

pub returns-then-not-is_pinned_for-clause-places : goal.returns-then-not-is_pinned_for-clause-places
returns-then-not-is_pinned_for-clause-places c =
    let none : list_any (λ p. is_at (key_cmp c.args.user.now) p.user) c.args.pins.now ≡ false = search rules in
    λ h. places-others c.args.user.now c.args.users.now c.end_place.new.places c.end_place.ensures.others c.args.pins.now none h

pub returns-else-not-is_pinned_for-clause-users : goal.returns-else-not-is_pinned_for-clause-users
returns-else-not-is_pinned_for-clause-users c =
    let is : is_pinned c.args.pins.now c.args.user.now ≡ true = search rules in
    λ p same. users-pinned_at c.args.users.now c.args.user.now p c.args.pins.now same is
