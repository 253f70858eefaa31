use Rattle.std.proofs.Common.{true, ap, ◌∙◌}
use Rattle.ref_counts.specs.Kept.{users_in}
use Rattle.ref_counts.proofs.Keeping.{place-put}
use Rattle.ref_counts.proofs.Settling.{users_in-put}
use Rattle.ref_counts.proofs.users.put_user.Goals as goal

pub returns-clause-users : goal.returns-clause-users
returns-clause-users c = λ ps. ap (λ es. users_in es ps) c.in_ok-put.ensures.ok ∙ users_in-put c.args.places.now c.args.user ps c.rise.ensures

pub returns-clause-others : goal.returns-clause-others
returns-clause-others c = λ q h. rw c.in_ok-put.ensures.ok (place-put c.args.places.now c.args.user true q h)
