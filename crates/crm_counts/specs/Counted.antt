-- What is kept of the chip of effects: the count of each kind, which kinds are above, and the kinds of identifiers. Own.
use Rattle.std.specs.Prelude.{◌≡◌, ℕ, ◌<◌, Bool, false, ◌==◌, List, [], Option, Some, None, option_map, slice_index, slice_index_or, if◌then◌else◌}
use Rattle.std.specs.BTreeMap.{insert_entry, is_at}
use Rattle.std.specs.Map.{lookup, remove_entry}
use Rattle.std.specs.declared.cmp.Ordering.{Ordering}
use Rattle.sai_types.specs.declared.ids.Rid.{Rid}
use Rattle.sai_types.specs.contracts.ids.RidOrd.TheImpl as rid_ord
use Rattle.sai_types.specs.declared.kind.Kind.{Kind}
use Rattle.sai_types.specs.declared.kind.Kind.TheVariants as kind
use Rattle.sai_types.specs.declared.body.Call.{Call}
use Rattle.sai_types.specs.declared.body.Entry.{Entry}
use Rattle.sai_types.specs.declared.body.Entry.TheVariants as entry
use Rattle.sai_types.specs.Made.{AreLegal}
use Rattle.sai_types.specs.Objects.{body_at, kind_of, level, used}
use Rattle.sai_types.specs.Refusal.{capacity_of}
use Rattle.crm_counts.specs.Above.{is_above_after}
use Rattle.crm_counts.specs.Alarms.{Limits, is_above_behind}
use Rattle.crm_counts.specs.Effects.{chip_of}

-- by the places of the kinds how many objects stand and whether the kind is above, and the kinds of identifiers in order
pub record Counted : Type 0 where
  pub used : List ℕ
  pub above : List Bool
  pub kinds : List (Rid × Kind)

-- the order of identifiers
abbrev pub id_cmp : Rid → Rid → Ordering
id_cmp = rid_ord.ghosts.cmp

abbrev pub count_of_kind : Counted → Kind → ℕ
count_of_kind counts k = slice_index counts.used (level k)

abbrev pub above_of : Counted → Kind → Bool
above_of counts k = slice_index_or counts.above (level k) false

-- the kind of the object with this identifier
abbrev pub kind_of_id : List (Rid × Kind) → Rid → Option Kind
kind_of_id kinds r = lookup (is_at (id_cmp r)) kinds

-- the kind of the object with this entry: a key tells it, and of an identifier it is kept
abbrev pub kind_of_entry : List (Rid × Kind) → Entry Rid → Option Kind
kind_of_entry kinds (entry.Oid r) = kind_of_id kinds r
kind_of_entry kinds (entry.Own vr ip) = Some kind.OwnAddress
kind_of_entry kinds (entry.Neigh rif ip) = Some kind.Neighbor
kind_of_entry kinds (entry.Route vr prefix) = Some kind.Route

-- the kinds of identifiers with one more, where one was made, and without that of an entry
abbrev pub with_kind_of : List (Rid × Kind) → Option Rid → Kind → List (Rid × Kind)
with_kind_of kinds None k = kinds
with_kind_of kinds (Some r) k = insert_entry id_cmp kinds r k

abbrev pub without_entry : List (Rid × Kind) → Entry Rid → List (Rid × Kind)
without_entry kinds (entry.Oid r) = remove_entry (is_at (id_cmp r)) kinds
without_entry kinds e = kinds

-- one kind has another count, by which it may come above or leave it, and the others stay
pub record Recounts (limits : Limits) (old new : Counted) (kind : Kind) (count : ℕ) : Type 0 where
  pub used : (k : Kind) → count_of_kind new k ≡ (if level kind == level k then count else count_of_kind old k)
  pub above : (k : Kind) → above_of new k ≡ (if level kind == level k then is_above_after limits.high limits.low (capacity_of limits.capacities kind) (above_of old kind) count else above_of old k)

-- what is kept is that of the chip of these effects, which were legal: of each kind the number of its objects, and whether it is above, and of each identifier that stands its kind
pub record AreCountsOf (limits : Limits) (counts : Counted) (effects : List (Call Rid)) : Type 0 where
  pub thresholds : limits.low < limits.high
  pub legal : AreLegal limits.capacities 0 [] effects
  pub used : (k : Kind) → count_of_kind counts k ≡ used (chip_of effects) k
  pub above : (k : Kind) → above_of counts k ≡ is_above_behind limits effects k
  pub kinds : (r : Rid) → kind_of_id counts.kinds r ≡ option_map kind_of (body_at (chip_of effects) (entry.Oid r))
