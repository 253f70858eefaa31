-- How a plan names the objects of the new view: by the identifier of the old object where it is paired and has one, else by that of the view. Own.
use Rattle.std.specs.Prelude.{ℕ, List, [], ◌∷◌, Option, None, Some, slice_get}
use Rattle.std.specs.BTreeMap.{insert_entry, is_at}
use Rattle.std.specs.Map.{lookup}
use Rattle.std.specs.Ordering.{nat_cmp}
use Rattle.sai_types.specs.declared.ids.Rid.{Rid}
use Rattle.sai_types.specs.declared.ids.Vid.{Vid}
use Rattle.sai_types.specs.declared.body.Entry.{Entry}
use Rattle.sai_types.specs.declared.body.Entry.TheVariants as entry
use Rattle.sai_types.specs.declared.body.Object.{Object}
use Rattle.sai_types.specs.declared.plan.Mode.{Mode}
use Rattle.sai_types.specs.declared.plan.Mode.TheVariants as mode
use Rattle.sai_types.specs.declared.plan.PlanId.{PlanId}
use Rattle.sai_types.specs.declared.plan.PlanId.TheVariants as plan_id

-- by the number of a new identifier the old one
abbrev pub OldIds : Type 0
OldIds = List (ℕ × Rid)

abbrev pub with_entries : OldIds → Entry Rid → Entry Vid → OldIds
with_entries names (entry.Oid r) (entry.Oid v) = insert_entry nat_cmp names v.0 r
with_entries names e f = names

abbrev pub with_objects : OldIds → Option (Object Rid) → Option (Object Vid) → OldIds
with_objects names (Some o) (Some n) = with_entries names o.entry n.entry
with_objects names _ _ = names

abbrev pub names_from : OldIds → List (Object Rid) → List (Object Vid) → List (ℕ × ℕ) → OldIds
names_from names old new [] = names
names_from names old new (p ∷ ps) = names_from (with_objects names (slice_get old p.0) (slice_get new p.1)) old new ps

-- what a plan keeps of these names: a cold one nothing
abbrev pub names_if : Mode → OldIds → OldIds
names_if mode.Hitless names = names
names_if mode.Cold names = []

-- a hitless plan names a paired object by its old identifier, a cold one none
abbrev pub names_in : Mode → List (Object Rid) → List (Object Vid) → List (ℕ × ℕ) → OldIds
names_in m old new pairs = names_if m (names_from [] old new pairs)

abbrev pub id_by : Option Rid → Vid → PlanId
id_by (Some r) v = plan_id.Old r
id_by None v = plan_id.New v

abbrev pub new_id : OldIds → Vid → PlanId
new_id names v = id_by (lookup (is_at (nat_cmp v.0)) names) v
