-- What the objects of a list stand for, found by their entries and groups. Own.
use Rattle.std.specs.Prelude.{◌≡◌, List, [], Option, Some, map, if◌then◌else◌}
use Rattle.std.specs.BTreeMap.{is_at}
use Rattle.std.specs.Map.{lookup}
use Rattle.std.specs.Option.{unwrap_or}
use Rattle.std.specs.declared.cmp.Ordering.{Ordering}
use Rattle.sai_types.specs.declared.ids.Rid.{Rid}
use Rattle.sai_types.specs.declared.hop.Hop.{Hop}
use Rattle.sai_types.specs.declared.weight.WHop.{WHop}
use Rattle.sai_types.specs.declared.body.Body.{Body}
use Rattle.sai_types.specs.declared.body.Object.{Object}
use Rattle.sai_types.specs.contracts.ids.RidOrd.TheImpl as rid_ord
use Rattle.sai_types.specs.declared.body.Entry.TheVariants as entry
use Rattle.sai_types.specs.Objects.{Objects, body_at}
use Rattle.sai_types.specs.Refusal.{same_id}
use Rattle.sai_types.specs.Named.{both, hops_among, next_hop_at, put_hop}

-- the order of identifiers
abbrev pub rid_cmp : Rid → Rid → Ordering
rid_cmp = rid_ord.ghosts.cmp

-- objects as entries with their bodies
abbrev pub entries_of : List (Object Rid) → Objects
entries_of objects = map (λ o. (o.entry, o.body)) objects

-- bodies with their identifiers, as objects
abbrev pub numbered : List (Rid × Body Rid) → Objects
numbered ids = map (λ e. (entry.Oid e.0, e.1)) ids

abbrev pub GroupHops : Type 0
GroupHops = List (Rid × Option (List WHop))

-- the hops of a group: none where it has no entry
abbrev pub hops_of_group : GroupHops → Rid → Option (List WHop)
hops_of_group groups g = unwrap_or (lookup (is_at (rid_cmp g)) groups) (Some [])

-- the hops that the members among these objects give to each group
pub record AreHops (objects : Objects) (members : Objects) (groups : GroupHops) : Type 0 where
  pub each : (g : Rid) → hops_of_group groups g ≡ hops_among objects g members

-- the hops of a group where a member of another or of the same is added
abbrev pub with_hop : Rid → Option WHop → Rid → Option (List WHop) → Option (List WHop)
with_hop group hop g others = if same_id group g then both put_hop others hop else others

-- bodies that are found by their identifiers as those of a list
pub record AreBodies (objects : Objects) (bodies : Objects) : Type 0 where
  pub each : (r : Rid) → body_at bodies (entry.Oid r) ≡ body_at objects (entry.Oid r)

-- the hop of each next hop that is there, by its identifier
pub record AreNextHops (objects : Objects) (hops : List (Rid × Hop)) : Type 0 where
  pub each : (r : Rid) → lookup (is_at (rid_cmp r)) hops ≡ next_hop_at objects r

-- what identifiers stand for: the bodies that are found by them, and the hops of groups
pub record NameTable : Type 0 where
  pub bodies : Objects
  pub groups : GroupHops

-- they stand for what they stand for among these objects
pub record AreNamesOf (objects : Objects) (names : NameTable) : Type 0 where
  pub bodies : AreBodies objects names.bodies
  pub groups : AreHops names.bodies objects names.groups
