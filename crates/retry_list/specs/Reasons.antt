-- The reasons for which rows wait, and the events that they are about. Own.
use Rattle.std.specs.Prelude.{Bool, false, not, List, [], ◌∷◌, filter, Option, Some, None, if◌then◌else◌}
use Rattle.std.specs.BTreeMap.{insert_entry, is_at}
use Rattle.std.specs.Map.{keys_of, lookup, remove_entry}
use Rattle.table_schema.specs.Key.{key_cmp}
use Rattle.table_schema.specs.declared.key.Key.{Key}
use Rattle.switch_model.specs.declared.wait.Wait.{Wait}
use Rattle.switch_model.specs.declared.wait.Wait.TheVariants as wait
use Rattle.retry_list.specs.declared.event.Event.{Event}
use Rattle.retry_list.specs.declared.event.Event.TheVariants as event
use Rattle.retry_list.specs.Event.{event_cmp}

-- keys that wait with their reasons, in key order, each key once
abbrev pub Reasons : Type 0
Reasons = List (Key × Wait)

abbrev pub reason_at : Reasons → Key → Option Wait
reason_at reasons key = lookup (is_at (key_cmp key)) reasons

-- a missing key is waited for until it is applied, a holder until it is gone, room until an object of the kind goes, and a worker until its operation ends
abbrev pub event_of : Wait → Event
event_of (wait.Missing key) = event.Applied key
event_of (wait.Held key) = event.Gone key
event_of (wait.NoRoom kind) = event.Freed kind
event_of (wait.Busy worker) = event.Ended worker

abbrev pub is_about : Event → Wait → Bool
is_about e w = is_at (event_cmp e) (event_of w)

-- whether a key with this reason, or with none, is woken by an event
abbrev pub is_woken : Event → Option Wait → Bool
is_woken e None = false
is_woken e (Some w) = is_about e w

-- a reason takes the place of the one that is there
abbrev pub with_reason : Reasons → Key → Wait → Reasons
with_reason reasons key w = insert_entry key_cmp reasons key w

abbrev pub without_reason : Reasons → Key → Reasons
without_reason reasons key = remove_entry (is_at (key_cmp key)) reasons

abbrev pub without_all : Reasons → List Key → Reasons
without_all reasons [] = reasons
without_all reasons (key ∷ keys) = without_all (without_reason reasons key) keys

-- the keys whose reasons are about an event, in key order, and the others with their reasons
abbrev pub woken_keys : Event → Reasons → List Key
woken_keys e reasons = keys_of (filter (λ r. is_about e r.1) reasons)

abbrev pub left_asleep : Event → Reasons → Reasons
left_asleep e reasons = filter (λ r. not (is_about e r.1)) reasons

-- a reason is put, a key is forgotten, or an event wakes those whose reasons are about it
pub data RetryStep : Type 0 where
  Put : Key → Wait → RetryStep
  Forgot : Key → RetryStep
  Woke : Event → RetryStep

abbrev pub reasons_after : Reasons → RetryStep → Reasons
reasons_after reasons (Put key w) = with_reason reasons key w
reasons_after reasons (Forgot key) = without_reason reasons key
reasons_after reasons (Woke e) = left_asleep e reasons

abbrev pub reasons_after_all : Reasons → List RetryStep → Reasons
reasons_after_all reasons [] = reasons
reasons_after_all reasons (step ∷ steps) = reasons_after_all (reasons_after reasons step) steps

-- a key's reason: the last that was put, unless the key was forgotten or woken since
abbrev pub unless_about : Event → Option Wait → Option Wait
unless_about e None = None
unless_about e (Some w) = if is_about e w then None else Some w

abbrev pub reason_after : Key → Option Wait → RetryStep → Option Wait
reason_after q o (Put key w) = if is_at (key_cmp q) key then Some w else o
reason_after q o (Forgot key) = if is_at (key_cmp q) key then None else o
reason_after q o (Woke e) = unless_about e o

abbrev pub last_reason : Key → Option Wait → List RetryStep → Option Wait
last_reason q o [] = o
last_reason q o (step ∷ steps) = last_reason q (reason_after q o step) steps
