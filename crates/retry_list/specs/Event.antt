-- The order of events, by which keys are filed. Own.
use Rattle.std.specs.declared.cmp.Ordering.{Ordering}
use Rattle.retry_list.specs.declared.event.Event.{Event}
use Rattle.retry_list.specs.contracts.event.EventOrd.TheImpl as event_ord

abbrev pub event_cmp : Event → Event → Ordering
event_cmp = event_ord.ghosts.cmp
