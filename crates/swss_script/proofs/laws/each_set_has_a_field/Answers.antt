use Rattle.swss_script.proofs.SetFields.{sets-have_fields}
use Rattle.swss_script.proofs.laws.each_set_has_a_field.Goals as goal

pub returns : goal.returns
returns c = sets-have_fields
