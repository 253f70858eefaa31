use Rattle.swss_script.proofs.Staged.{stage-of_script}
use Rattle.round_actors.proofs.Scripts.{sections-can_run}
use Rattle.round_actors.proofs.laws.sections_of_scripts_can_run.Goals as goal

pub returns-clause-producers : goal.returns-clause-producers
returns-clause-producers c bytes script is = (stage-of_script bytes script is).producers

pub returns-clause-sections : goal.returns-clause-sections
returns-clause-sections c = sections-can_run
