use Rattle.std.proofs.Common.{length}
use Rattle.switch_model.specs.History.{with_end, with_mark}
use Rattle.switch_model.specs.declared.mark.MarkEvent.TheVariants as event
use Rattle.session_laws.specs.Core.{mark_at}
use Rattle.session_laws.proofs.Faulting.{Ended, Marked}
use Rattle.session_laws.proofs.Service.Made.{can-next, ended-next, failed-next, more-next}
use Rattle.session_laws.proofs.services.apply_calls_are_steps.Goals as goal

pub returns-clause-can : goal.returns-clause-can
returns-clause-can c = can-next

pub returns-clause-more : goal.returns-clause-more
returns-clause-more c = λ core chip s y chip' is at applies. more-next core chip s is at y chip' applies

pub returns-clause-last : goal.returns-clause-last
returns-clause-last c = λ core chip s y chip' is at applies. ended-next core chip s is at y chip' applies

pub returns-clause-failed : goal.returns-clause-failed
returns-clause-failed c = λ core chip s y chip' is at applies. failed-next core chip s is at y chip' (with_mark core.log (mark_at core (length chip'.effects) (event.Faulted chip.faults chip'.faults))) Marked applies

pub returns-clause-ended : goal.returns-clause-ended
returns-clause-ended c = λ core chip s y chip' is at applies. failed-next core chip s is at y chip' (with_end (with_mark core.log (mark_at core (length chip'.effects) (event.Faulted chip.faults chip'.faults)))) Ended applies
