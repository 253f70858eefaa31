use Rattle.std.proofs.Common.{ap}
use Rattle.syncd_core.specs.Synced.{SyncState}
use Rattle.apply_laws.proofs.Order.Viewing.{laid_things, shown-of}
use Rattle.apply_laws.proofs.Sync.Ready.{made-view, ready-begun}
use Rattle.apply_laws.proofs.syncs.begun_applies_are_ready.Goals as goal

pub returns : goal.returns
returns c = λ made calls s later m begun r. (laid_things (made-view r.ready), ready-begun r begun.plan begun.planned, shown-of (made-view r.ready), ap (λ (z : SyncState). z.view) begun.later, ap (λ (z : SyncState). z.left) begun.later)
