use Rattle.crm_counts.proofs.Told.{fewer-below, more-above}
use Rattle.crm_counts.proofs.laws.thresholds_bound_counts.Goals as goal

pub returns : goal.returns
returns c = record {
  above = λ limits effects k less above. more-above limits k less effects above;
  below = λ limits effects k less below. fewer-below limits k less effects below;
}
