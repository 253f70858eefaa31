use Rattle.std.proofs.Common.{◌≡◌, true, false, rules, sym, ap, ◌∙◌}
use Rattle.std.specs.BTreeMap.{is_at}
use Rattle.table_schema.specs.Key.{key_cmp}
use Rattle.ref_counts.specs.Kept.{users_in}
use Rattle.ref_counts.proofs.Keeping.{place-removed, place-set}
use Rattle.ref_counts.proofs.Settling.{users_in-remove, users_in-set_false}
use Rattle.ref_counts.proofs.users.end_use.Goals as goal

pub returns-then-not-stays-clause-users : goal.returns-then-not-stays-clause-users
returns-then-not-stays-clause-users c = λ ps is. ap (λ es. users_in es ps) c.remove.ensures ∙ users_in-remove c.args.places.now c.args.user.now ps c.rise.ensures

pub returns-then-not-stays-clause-others : goal.returns-then-not-stays-clause-others
returns-then-not-stays-clause-others c = λ q apart h. rw c.remove.ensures (place-removed c.args.places.now c.args.user.now q apart h)

pub returns-clause-users : goal.returns-clause-users
returns-clause-users c =
    let stays : c.args.stays ≡ true = search rules in
    λ ps is. ap (λ es. users_in es ps) c.set.ensures ∙ users_in-set_false c.args.places.now c.args.user.now ps c.rise.ensures (sym is ∙ stays)

pub returns-clause-others : goal.returns-clause-others
returns-clause-others c = λ q apart h. rw c.set.ensures (place-set (is_at (key_cmp c.args.user.now)) c.args.places.now false q h)

pub returns-clause-stays : goal.returns-clause-stays
returns-clause-stays c = λ s q h. rw c.set.ensures (place-set (is_at (key_cmp c.args.user.now)) c.args.places.now false q h)
