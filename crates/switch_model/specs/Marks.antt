-- What a mark of the log says. Own.
use Rattle.std.specs.Prelude.{◌≡◌, ℕ, ◌<◌, ◌⊎◌, true, List, [], ◌∷◌, length, map, Option, Some, None, if◌then◌else◌}
use Rattle.std.specs.BTreeMap.{is_at}
use Rattle.std.specs.List.Sorted.{IsStrictlySortedBy}
use Rattle.std.specs.Option.{is_some}
use Rattle.std.specs.Ordering.{is_le}
use Rattle.table_schema.specs.declared.key.Key.{Key}
use Rattle.table_schema.specs.declared.key.Key.TheVariants as key
use Rattle.table_schema.specs.declared.row.Row.{Row}
use Rattle.table_schema.specs.declared.row.Row.TheVariants as row
use Rattle.table_schema.specs.declared.write.Write.{Write}
use Rattle.table_schema.specs.declared.write.Write.TheVariants as write
use Rattle.table_schema.specs.declared.write.Sent.{Sent}
use Rattle.table_schema.specs.Key.{key_cmp}
use Rattle.table_schema.specs.Names.{names_of}
use Rattle.table_schema.specs.Plan.{Ports}
use Rattle.sai_types.specs.declared.kind.Kind.{Kind}
use Rattle.sai_types.specs.declared.thing.Thing.{Thing}
use Rattle.sai_types.specs.Alike.{IsIn}
use Rattle.sai_types.specs.Names.{ThingName, name_of, thing_kind}
use Rattle.sai_types.specs.Objects.{level}
use Rattle.sai_types.specs.Refusal.{capacity_of}
use Rattle.switch_model.specs.declared.wait.Wait.{Wait}
use Rattle.switch_model.specs.declared.wait.Wait.TheVariants as wait
use Rattle.switch_model.specs.Desired.{IsThingOf, have_rows, placed_things}
use Rattle.switch_model.specs.Good.{TypedRows}

-- keys that wait, each with its reason and the row that is applied for it
abbrev pub Waiting : Type 0
Waiting = List (Key × Wait × Option Row)

-- they rise, so each stands once
abbrev pub AreInOrder : Waiting → Type 0
AreInOrder waits = IsStrictlySortedBy key_cmp (map (λ w. w.0) waits)

-- each key that waits has the row that is listed with it, or none; every other key has its good row
abbrev pub applied_rows : Waiting → TypedRows → TypedRows
applied_rows [] good key = good key
applied_rows (w ∷ ws) good key = if is_at (key_cmp key) w.0 then w.2 else applied_rows ws good key

-- the first of these keys that has no row
abbrev pub first_missing : TypedRows → List Key → Option Key
first_missing rows [] = None
first_missing rows (key ∷ keys) = if is_some (rows key) then first_missing rows keys else Some key

-- names of which no two are equal
abbrev pub AreDistinctNames : List ThingName → Type 0
AreDistinctNames [] = Unit {0}
AreDistinctNames (k ∷ ks) = (¬ (IsIn k ks)) × AreDistinctNames ks

-- the applied things of a kind and those of this row are more than there is room for
pub record Overflows (plan : Ports) (capacities : List ℕ) (applied : TypedRows) (key : Key) (row : Row) (kind : Kind) : Type 0 where
  pub keys : List ThingName
  pub distinct : AreDistinctNames keys
  pub things : (k : ThingName) → IsIn k keys → (t : Thing) × (name_of t ≡ k) × (level (thing_kind t) ≡ level kind) × (IsThingOf plan applied t ⊎ IsIn t (placed_things plan applied key row))
  pub many : capacity_of capacities kind < length keys

-- the row names the holder, which is applied and stands before all other holders
pub record IsHeldBy (applied : TypedRows) (key holder : Key) : Type 0 where
  pub row : Row
  pub applied_row : applied holder ≡ Some row
  pub names : IsIn key (names_of holder row)
  pub least : (other : Key) (r : Row) → applied other ≡ Some r → IsIn key (names_of other r) → is_le (key_cmp holder other) ≡ true

-- an interface's row goes over to another router
abbrev pub IsMoved : Key → Row → Row → Type 0
IsMoved (key.Intf on) (row.Intf v) (row.Intf w) = v ≡ w → ⊥
IsMoved _ _ _ = ⊥

-- the applied row of a key is to go: the key has no good row; or its good row, all of whose names are applied, is in another router
abbrev pub IsToGo : TypedRows → TypedRows → Key → Type 0
IsToGo good applied k = (good k ≡ None) ⊎ ((old : Row) × (new : Row) × (applied k ≡ Some old) × (good k ≡ Some new) × (have_rows applied (names_of k new) ≡ true) × IsMoved k old new)

-- a reason is true: the row reads, and the first key that it names and that is not applied is this one; or the row is gone or goes over to another router, and the least applied row that names it is this one; or the row reads, all that it names is applied, and there is no room for an object of this kind; no row waits for a worker at a mark
abbrev pub IsTrueReason : Ports → List ℕ → TypedRows → TypedRows → Key → Wait → Type 0
IsTrueReason plan capacities good applied key (wait.Missing name) = (row : Row) × (good key ≡ Some row) × (first_missing applied (names_of key row) ≡ Some name)
IsTrueReason plan capacities good applied key (wait.Held holder) = IsToGo good applied key × (row : Row) × (applied key ≡ Some row) × IsHeldBy applied key holder
IsTrueReason plan capacities good applied key (wait.NoRoom kind) = (row : Row) × (good key ≡ Some row) × (have_rows applied (names_of key row) ≡ true) × Overflows plan capacities applied key row kind
IsTrueReason plan capacities good applied key (wait.Busy worker) = ⊥

-- each listed reason is true
abbrev pub ReasonsAreTrue : Ports → List ℕ → TypedRows → TypedRows → Waiting → Type 0
ReasonsAreTrue plan capacities good applied [] = Unit {0}
ReasonsAreTrue plan capacities good applied (w ∷ ws) = IsTrueReason plan capacities good applied w.0 w.1 × ReasonsAreTrue plan capacities good applied ws

-- a kind that is named as having no room is the first such kind
abbrev pub NamesFirstKind : Ports → List ℕ → TypedRows → TypedRows → Key → Wait → Type 0
NamesFirstKind plan capacities good applied key (wait.NoRoom kind) = (row : Row) (lower : Kind) → good key ≡ Some row → level lower < level kind → ¬ (Overflows plan capacities applied key row lower)
NamesFirstKind plan capacities good applied key _ = Unit {0}

abbrev pub NameFirstKinds : Ports → List ℕ → TypedRows → TypedRows → Waiting → Type 0
NameFirstKinds plan capacities good applied [] = Unit {0}
NameFirstKinds plan capacities good applied (w ∷ ws) = NamesFirstKind plan capacities good applied w.0 w.1 × NameFirstKinds plan capacities good applied ws

-- none of the listed keys has a row
abbrev pub ListsNoRow : Waiting → Type 0
ListsNoRow [] = Unit {0}
ListsNoRow (w ∷ ws) = (w.2 ≡ None) × ListsNoRow ws

-- the key that a write is of
abbrev pub written_key : Write → Key
written_key (write.Set key fields) = key
written_key (write.Del key) = key

-- the writes that were sent
abbrev pub sent_writes : List Sent → List Write
sent_writes sent = map (λ s. s.write) sent
