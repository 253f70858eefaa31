use Rattle.std.proofs.Common.{◌≡◌, true, false, rules, ap, ◌∙◌}
use Rattle.std.specs.BTreeMap.{is_at}
use Rattle.std.specs.Map.{lookup}
use Rattle.table_schema.specs.Key.{key_cmp}
use Rattle.ref_counts.specs.Kept.{is_waiting, users_in}
use Rattle.ref_counts.proofs.Keeping.{place-removed}
use Rattle.ref_counts.proofs.Settling.{users-end, users-stay}
use Rattle.ref_counts.proofs.users.end_place.Goals as goal

pub returns-then-is_unused-clause-users : goal.returns-then-is_unused-clause-users
returns-then-is_unused-clause-users c =
    let unused : is_waiting (lookup (is_at (key_cmp c.args.user.now)) c.args.places.now) ≡ true = search rules in
    λ p ps same. ap (λ es. users_in es ps) c.remove.ensures ∙ users-end c.args.places.now c.args.user.now p ps same c.rise.ensures unused

pub returns-else-is_unused-clause-users : goal.returns-else-is_unused-clause-users
returns-else-is_unused-clause-users c =
    let stays : is_waiting (lookup (is_at (key_cmp c.args.user.now)) c.args.places.now) ≡ false = search rules in
    λ p ps same. users-stay c.args.places.now c.args.user.now p ps same c.rise.ensures stays

pub returns-then-is_unused-clause-others : goal.returns-then-is_unused-clause-others
returns-then-is_unused-clause-others c = λ q apart h. rw c.remove.ensures (place-removed c.args.places.now c.args.user.now q apart h)
