use Rattle.std.proofs.Common.{length}
use Rattle.switch_model.specs.History.{with_end, with_mark}
use Rattle.switch_model.specs.declared.mark.MarkEvent.TheVariants as event
use Rattle.session_laws.specs.Core.{mark_at}
use Rattle.session_laws.proofs.Faulting.{Ended, Marked, faults_step}
use Rattle.session_laws.proofs.laws.faults_are_steps.Goals as goal

pub returns-clause-marked : goal.returns-clause-marked
returns-clause-marked c = λ core chip s w x call sync chip' is at there begun told calls. faults_step core chip s w x call sync chip' (with_mark core.log (mark_at core (length chip'.effects) (event.Faulted chip.faults chip'.faults))) is at there begun told calls Marked

pub returns-clause-ended : goal.returns-clause-ended
returns-clause-ended c = λ core chip s w x call sync chip' is at there begun told calls. faults_step core chip s w x call sync chip' (with_end (with_mark core.log (mark_at core (length chip'.effects) (event.Faulted chip.faults chip'.faults)))) is at there begun told calls Ended
