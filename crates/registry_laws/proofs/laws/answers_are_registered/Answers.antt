use Rattle.registry_laws.proofs.Answered.{registers_answered}
use Rattle.registry_laws.proofs.laws.answers_are_registered.Goals as goal

pub returns : goal.returns
returns c = λ plan workers capacities m names room w f change cs stands made is sound rising known moves apart last. registers_answered plan is workers capacities m sound names room known rising w f cs stands change moves made apart last
