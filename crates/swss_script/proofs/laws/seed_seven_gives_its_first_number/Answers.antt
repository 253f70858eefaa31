use Rattle.swss_script.proofs.MadeTexts.{first-draw}
use Rattle.swss_script.proofs.laws.seed_seven_gives_its_first_number.Goals as goal

pub returns : goal.returns
returns c = first-draw
