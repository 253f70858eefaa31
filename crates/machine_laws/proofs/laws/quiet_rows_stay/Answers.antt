use Rattle.machine_laws.proofs.Quieting.{quiet-rows}
use Rattle.machine_laws.proofs.Unnamed.{round-quiet, unnamed-rows}
use Rattle.machine_laws.proofs.laws.quiet_rows_stay.Goals as goal

pub returns-clause-alone : goal.returns-clause-alone
returns-clause-alone c = λ plan workers capacities k s es e is kept run alone rests none stood. quiet-rows plan is workers capacities k s es e kept run alone rests none stood

pub returns-clause-unnamed : goal.returns-clause-unnamed
returns-clause-unnamed c = λ plan workers capacities k s es e is kept run names none rests out stood. unnamed-rows plan is workers capacities k s es e kept run names none rests out stood

pub returns-clause-round : goal.returns-clause-round
returns-clause-round c = λ plan workers capacities k s t x ts run e is kept none out stood. round-quiet plan is workers capacities k s t x ts run e kept none out stood
