use Rattle.sai_record.proofs.Sessions.{session-built, session-replayed}
use Rattle.sai_record.proofs.laws.session_is_built_again.Goals as goal

pub returns-clause-built : goal.returns-clause-built
returns-clause-built c = session-built

pub returns-clause-replayed : goal.returns-clause-replayed
returns-clause-replayed c = session-replayed
