use Rattle.std.proofs.Common.{◌≡◌, ◌∙◌}
use Rattle.app_restart.specs.Reconcile.{differences}
use Rattle.app_restart.specs.Entry.{kept_in, sent_in}
use Rattle.app_restart.proofs.Finishing.{finished}
use Rattle.app_restart.proofs.Reconciling.{differences-differ}
use Rattle.app_restart.proofs.Unions.{differences_of-entries}
use Rattle.app_restart.proofs.cache.Cache.finish.Goals as goal

written : (c : goal.In_ok-push_each) → c.push_each.new.writes.items ≡ differences (kept_in c.self.inside.entries) (sent_in c.self.inside.entries)
written c = c.in_ok-push_each.ensures ∙ rw (c.new-writes.ensures.items, c.iter.ensures.rest) (differences_of-entries c.self.inside.entries c.self.invariant.rising)

pub returns-clause-exact : goal.returns-clause-exact
returns-clause-exact c = rw (← c.self.view_is) (written c)

pub returns-clause-reconciled : goal.returns-clause-reconciled
returns-clause-reconciled c = rw (← c.self.view_is, written c) (λ before kept. finished c.self.inside.table c.self.inside.entries before c.self.invariant kept)

pub returns-clause-differ : goal.returns-clause-differ
returns-clause-differ c = rw (← c.self.view_is, written c) (differences-differ (kept_in c.self.inside.entries) (sent_in c.self.inside.entries))
