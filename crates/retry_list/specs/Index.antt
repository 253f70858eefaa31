-- Keys filed by the events that their reasons are about. Own.
use Rattle.std.specs.Prelude.{◌≡◌, Bool, false, true, ◌&&◌, not, List, [], Option, Some, None, if◌then◌else◌}
use Rattle.std.specs.BTreeMap.{is_at}
use Rattle.std.specs.BTreeSet.{BTreeSet}
use Rattle.std.specs.List.{list_any}
use Rattle.std.specs.Map.{lookup}
use Rattle.table_schema.specs.Key.{key_cmp}
use Rattle.table_schema.specs.declared.key.Key.{Key}
use Rattle.retry_list.specs.declared.event.Event.{Event}
use Rattle.retry_list.specs.declared.index.Index.{Index}
use Rattle.retry_list.specs.Event.{event_cmp}
use Rattle.retry_list.specs.Reasons.{Reasons, is_woken, reason_at}

abbrev pub keys_in : Option (BTreeSet Key) → List Key
keys_in None = []
keys_in (Some keys) = keys.keys

-- the keys that are filed under an event
abbrev pub keys_about : Index → Event → List Key
keys_about index e = keys_in (lookup (is_at (event_cmp e)) index.keys)

abbrev pub is_filed : Index → Event → Key → Bool
is_filed index e q = list_any (is_at (key_cmp q)) (keys_about index e)

-- what is filed is the same, but for this key under this event
abbrev pub IsFiledAs : Bool → Index → Index → Event → Key → Type 0
IsFiledAs filed old new event key = (e : Event) (q : Key) → is_filed new e q ≡ (if is_at (event_cmp event) e && is_at (key_cmp key) q then filed else is_filed old e q)

-- the same, unless the event is the other one
abbrev pub IsFiledUnless : Index → Index → Event → Event → Key → Type 0
IsFiledUnless old new event other key = (e : Event) (q : Key) → is_filed new e q ≡ (if not (is_at (event_cmp event) other) && (is_at (event_cmp event) e && is_at (key_cmp key) q) then false else is_filed old e q)

abbrev pub IsSameIndex : Index → Index → Type 0
IsSameIndex old new = (e : Event) (q : Key) → is_filed new e q ≡ is_filed old e q

-- nothing is filed under this event
abbrev pub IsCleared : Index → Index → Event → Type 0
IsCleared old new event = (e : Event) (q : Key) → is_filed new e q ≡ (if is_at (event_cmp event) e then false else is_filed old e q)

-- a key is filed under an event exactly where its reason is about it
abbrev pub AreReasonsFiled : Reasons → Index → Type 0
AreReasonsFiled reasons index = (e : Event) (q : Key) → is_filed index e q ≡ is_woken e (reason_at reasons q)

-- the same, but that a key is filed under one event more, which its reason is not about
pub record HasFiled (reasons : Reasons) (index : Index) (event : Event) (key : Key) : Type 0 where
  pub was : Index
  pub indexed : AreReasonsFiled reasons was
  pub filed : IsFiledAs true was index event key
  pub other : is_woken event (reason_at reasons key) ≡ false
