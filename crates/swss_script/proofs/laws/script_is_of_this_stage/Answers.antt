use Rattle.swss_script.proofs.Staged.{stage-of_script}
use Rattle.swss_script.proofs.laws.script_is_of_this_stage.Goals as goal

pub returns : goal.returns
returns c = stage-of_script
