use Rattle.registry_laws.proofs.Moved.{gone_moved, row_moved, same_moved, shared_moved}
use Rattle.registry_laws.proofs.laws.moves_are_registered.Goals as goal

pub returns-clause-same : goal.returns-clause-same
returns-clause-same c = λ plan workers capacities m names room w f c cs stands known moves more. same_moved plan m w f c cs stands moves workers capacities names room known more

pub returns-clause-shared : goal.returns-clause-shared
returns-clause-shared c = λ plan workers capacities m names room w f c cs stands o ids is sound known moves shared of other none. shared_moved plan m w f c cs stands moves workers capacities names room known is sound o shared of none other ids

pub returns-clause-row : goal.returns-clause-row
returns-clause-row c = λ plan workers capacities m names room w f c stands r ids known moves of new. row_moved plan m w f c stands moves workers capacities names room known of r new ids

pub returns-clause-gone : goal.returns-clause-gone
returns-clause-gone c = λ plan workers capacities m names room w f c cs stands o is sound rising known moves shared of retires none. gone_moved plan m w f c cs stands moves workers capacities names room known is sound o shared of none retires rising
