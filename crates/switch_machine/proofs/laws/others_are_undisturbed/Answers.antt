use Rattle.switch_machine.proofs.Undisturbed.{undisturbed}
use Rattle.switch_machine.proofs.laws.others_are_undisturbed.Goals as goal

pub returns : goal.returns
returns c = λ plan workers capacities s call x q r u is kept rests applied h disturbs. undisturbed plan is workers capacities s kept call x q r rests applied u h disturbs
