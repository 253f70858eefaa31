use Rattle.std.proofs.Common.{◌≡◌, List}
use Rattle.table_schema.specs.declared.key.Key.{Key}
use Rattle.session_laws.specs.Core.{CoreState}
use Rattle.session_laws.specs.Service.Built.{IsBringing}
use Rattle.orch_core.specs.Restarting.{calls_left}
use Rattle.orch_core.proofs.state.Core.run_on_view.Given as goal

-- the operation goes on, on the view alone
abbrev pub invariant-loop-self : goal.invariant-loop-self
invariant-loop-self g l = ((first : CoreState) (rest : List Key) → IsBringing first l.fn.self rest → IsBringing first l.self rest × (g.C.Chip.state l.chip ≡ g.C.Chip.state l.fn.chip)) × (l.self.tables ≡ l.fn.self.tables)

-- each call makes those that are left fewer
abbrev pub decreases-loop-self : goal.decreases-loop-self
decreases-loop-self g l = calls_left l.self.board
