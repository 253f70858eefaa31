use Rattle.std.proofs.Common.{ap, sym, ◌∙◌}
use Rattle.std.specs.BTreeMap.{is_at}
use Rattle.retry_list.specs.Event.{event_cmp}
use Rattle.retry_list.specs.Reasons.{event_of}
use Rattle.retry_list.proofs.Events.{event-itself, same_event}
use Rattle.retry_list.proofs.laws.reasons_are_about_events.Goals as goal

pub returns : goal.returns
returns c = λ event wait. (λ about. sym (same_event event (event_of wait) about), λ same. ap (is_at (event_cmp event)) same ∙ event-itself event)
