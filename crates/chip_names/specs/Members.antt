-- The members of a group, and what an object needs of groups to be named. Own.
use Rattle.std.specs.Prelude.{◌≡◌, ℕ, List, [], ◌∷◌, Option, Some, None}
use Rattle.sai_types.specs.declared.ids.Rid.{Rid}
use Rattle.sai_types.specs.declared.weight.WHop.{WHop}
use Rattle.sai_types.specs.declared.body.Body.{Body}
use Rattle.sai_types.specs.declared.body.Body.TheVariants as body
use Rattle.sai_types.specs.declared.body.Entry.{Entry}
use Rattle.sai_types.specs.declared.body.Entry.TheVariants as entry
use Rattle.sai_types.specs.declared.body.To.TheVariants as to
use Rattle.sai_types.specs.Objects.{Objects}
use Rattle.sai_types.specs.Named.{both, hops_at, put_hop, whop_at}
use Rattle.chip_names.specs.Naming.{GroupHops, hops_of_group}

-- the hops of these next hops with their weights, the hops rising: none where a next hop is absent
abbrev pub hops_by : Objects → List (Rid × ℕ) → Option (List WHop)
hops_by objects [] = Some []
hops_by objects (n ∷ ns) = both put_hop (hops_by objects ns) (whop_at objects n.0 n.1)

-- the group by whose hops an object is named
abbrev pub group_named_by : Entry Rid → Body Rid → Option Rid
group_named_by e (body.GroupMember group next_hop weight) = Some group
group_named_by e (body.Route vr prefix (to.Group g)) = Some g
group_named_by (entry.Oid g) body.Group = Some g
group_named_by e b = None

-- that group has these hops
pub record HasHops (objects : Objects) (e : Entry Rid) (b : Body Rid) (groups : GroupHops) : Type 0 where
  pub each : (g : Rid) → group_named_by e b ≡ Some g → hops_of_group groups g ≡ hops_at objects g
