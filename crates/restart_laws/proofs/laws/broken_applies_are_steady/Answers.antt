use Rattle.restart_laws.specs.Logged.{new_session, session_after}
use Rattle.restart_laws.proofs.BrokenOff.{steady-breaks}
use Rattle.restart_laws.proofs.Followed.{log-followed}
use Rattle.restart_laws.proofs.laws.broken_applies_are_steady.Goals as goal

pub returns : goal.returns
returns c = λ plan workers capacities ts is run.
    let s = session_after new_session ts in
    steady-breaks plan capacities s.log.taken s.effects s.log.marks (log-followed plan is workers capacities ts run)
