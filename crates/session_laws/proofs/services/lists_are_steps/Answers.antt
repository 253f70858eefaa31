use Rattle.std.proofs.Common.{length}
use Rattle.switch_model.specs.History.{with_end, with_mark}
use Rattle.switch_model.specs.declared.mark.MarkEvent.TheVariants as event
use Rattle.session_laws.specs.Core.{mark_at}
use Rattle.session_laws.proofs.Faulting.{Ended, Marked}
use Rattle.session_laws.proofs.Service.Listing.{list-fails, list-next}
use Rattle.session_laws.proofs.services.lists_are_steps.Goals as goal

pub returns-clause-done : goal.returns-clause-done
returns-clause-done c = λ core chip s y chip' is at lists. list-next core chip s is at y chip' lists

pub returns-clause-failed : goal.returns-clause-failed
returns-clause-failed c = λ core chip s y chip' is at lists. list-fails core chip s is at y chip' lists (with_mark core.log (mark_at core (length chip'.effects) (event.Faulted chip.faults chip'.faults))) Marked

pub returns-clause-ended : goal.returns-clause-ended
returns-clause-ended c = λ core chip s y chip' is at lists. list-fails core chip s is at y chip' lists (with_end (with_mark core.log (mark_at core (length chip'.effects) (event.Faulted chip.faults chip'.faults)))) Ended
