use Rattle.swss_script.proofs.Numbered.{sections-by_lines}
use Rattle.swss_script.proofs.PlacedWrites.{writes-by_lines}
use Rattle.swss_script.proofs.laws.script_has_the_writes_of_its_lines.Goals as goal

pub returns : goal.returns
returns c = record { all = writes-by_lines; each = sections-by_lines }
