use Rattle.std.proofs.Common.{◌≡◌, refl, subst}
use Rattle.syncd_core.specs.Synced.{SyncState, TakesList}
use Rattle.session_laws.specs.Core.{CoreState}
use Rattle.orch_core.specs.contracts.state.Core.{the_view}
use Rattle.mark_lists.proofs.Listings.{if_ok}
use Rattle.orch_core.proofs.state.Core.list_chip.Goals as goal

pub returns-clause-ok : goal.returns-clause-ok
returns-clause-ok g c = if_ok c.take_list.result
    (λ l x. subst (λ (z : CoreState). (y : SyncState) × TakesList z.sync (g.C.Chip.state c.args.chip.now) l y (g.C.Chip.state c.take_list.new.chip) × (record (the_view c.self.inside) { sync = c.take_list.new.self } ≡ record z { sync = y })) c.self.view_is (c.take_list.new.self, x, refl))
    c.take_list.ensures.ok
