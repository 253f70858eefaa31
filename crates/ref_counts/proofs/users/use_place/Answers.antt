use Rattle.std.proofs.Common.{true, ap, ◌∙◌}
use Rattle.std.specs.BTreeMap.{is_at}
use Rattle.table_schema.specs.Key.{key_cmp}
use Rattle.ref_counts.specs.Kept.{users_in}
use Rattle.ref_counts.proofs.Keeping.{place-set}
use Rattle.ref_counts.proofs.Settling.{users-use}
use Rattle.ref_counts.proofs.users.use_place.Goals as goal

pub returns-clause-users : goal.returns-clause-users
returns-clause-users c = λ p ps same. ap (λ es. users_in es ps) c.set.ensures ∙ users-use c.args.places.now c.args.user.now p ps same c.rise.ensures c.requires

pub returns-clause-others : goal.returns-clause-others
returns-clause-others c = λ q h. rw c.set.ensures (place-set (is_at (key_cmp c.args.user.now)) c.args.places.now true q h)
