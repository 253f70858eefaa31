use Rattle.crm_counts.proofs.Told.{told-above}
use Rattle.crm_counts.proofs.laws.alarms_tell_who_is_above.Goals as goal

pub returns : goal.returns
returns c = λ limits effects k less legal. told-above limits k less effects legal
