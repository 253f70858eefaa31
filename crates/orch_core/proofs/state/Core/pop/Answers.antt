use Rattle.std.proofs.Common.{◌≡◌, ◌⊎◌, [], refl, subst}
use Rattle.std.specs.Result.{OnOk}
use Rattle.sync_tables.specs.Tables.{PopsKeys, PopsSome, TablesState}
use Rattle.session_laws.specs.Core.{CoreState}
use Rattle.orch_core.specs.contracts.state.Core.{the_view}
use Rattle.orch_core.proofs.state.Core.pop.Goals as goal

pub returns-clause-keys : goal.returns-clause-keys
returns-clause-keys c = subst (λ (z : CoreState). (t : TablesState) × PopsKeys z.tables t × (record (the_view c.self.inside) { tables = c.pop.new.self } ≡ record z { tables = t })) c.self.view_is (c.pop.new.self, c.pop.ensures.keys, refl)

pub returns-clause-some : goal.returns-clause-some
returns-clause-some c = subst (λ (z : CoreState). OnOk c.pop.result ((z.tables.waiting ≡ []) ⊎ PopsSome z.tables c.pop.new.self)) c.self.view_is c.pop.ensures.some
