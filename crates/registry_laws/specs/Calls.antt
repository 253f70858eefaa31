-- The identifiers that a call names, and how identifiers are tied once it has taken effect. Own.
use Rattle.std.specs.Prelude.{◌≡◌, ◌++◌, List, [], ◌∷◌, Option, Some, None}
use Rattle.sai_types.specs.declared.body.Attr.{Attr}
use Rattle.sai_types.specs.declared.body.Attr.TheVariants as attr
use Rattle.sai_types.specs.declared.body.Body.{Body}
use Rattle.sai_types.specs.declared.body.Body.TheVariants as body
use Rattle.sai_types.specs.declared.body.Call.{Call}
use Rattle.sai_types.specs.declared.body.Call.TheVariants as call
use Rattle.sai_types.specs.declared.body.Entry.{Entry}
use Rattle.sai_types.specs.declared.body.Entry.TheVariants as entry
use Rattle.sai_types.specs.declared.body.RifOn.{RifOn}
use Rattle.sai_types.specs.declared.body.RifOn.TheVariants as on
use Rattle.sai_types.specs.declared.body.To.{To}
use Rattle.sai_types.specs.declared.body.To.TheVariants as to
use Rattle.sai_types.specs.declared.ids.Rid.{Rid}
use Rattle.sai_types.specs.declared.ids.Vid.{Vid}

-- ---- the identifiers that a call names

abbrev pub ids_of_router : Option Vid → List Vid
ids_of_router None = []
ids_of_router (Some v) = v ∷ []

abbrev pub ids_of_base : RifOn Vid → List Vid
ids_of_base (on.Port v) = v ∷ []
ids_of_base (on.Vlan v) = v ∷ []

abbrev pub ids_of_target : To Vid → List Vid
ids_of_target to.Drop = []
ids_of_target (to.Rif v) = v ∷ []
ids_of_target (to.NextHop v) = v ∷ []
ids_of_target (to.Group v) = v ∷ []

abbrev pub ids_of_body : Body Vid → List Vid
ids_of_body (body.Port lanes speed mtu up) = []
ids_of_body (body.Vlan vlan) = []
ids_of_body (body.VirtualRouter label) = []
ids_of_body (body.BridgePort v) = v ∷ []
ids_of_body (body.VlanMember v u tagging) = v ∷ u ∷ []
ids_of_body (body.Rif vr base) = ids_of_router vr ++ ids_of_base base
ids_of_body (body.OwnAddress vr ip) = ids_of_router vr
ids_of_body (body.Neighbor v ip mac) = v ∷ []
ids_of_body (body.NextHop v ip) = v ∷ []
ids_of_body body.Group = []
ids_of_body (body.GroupMember v u weight) = v ∷ u ∷ []
ids_of_body (body.Route vr prefix target) = ids_of_router vr ++ ids_of_target target

abbrev pub ids_of_entry : Entry Vid → List Vid
ids_of_entry (entry.Oid v) = v ∷ []
ids_of_entry (entry.Own vr ip) = ids_of_router vr
ids_of_entry (entry.Neigh v ip) = v ∷ []
ids_of_entry (entry.Route vr prefix) = ids_of_router vr

abbrev pub ids_of_attr : Attr Vid → List Vid
ids_of_attr (attr.To target) = ids_of_target target
ids_of_attr _ = []

abbrev pub ids_of_call : Call Vid → List Vid
ids_of_call (call.Create b) = ids_of_body b
ids_of_call (call.Set e a) = ids_of_entry e ++ ids_of_attr a
ids_of_call (call.Remove e) = ids_of_entry e

-- an identifier is tied to one of the chip
abbrev pub IsTiedBy : (Vid → Option Rid) → Vid → Type 0
IsTiedBy rid v = (i : Rid) × (rid v ≡ Some i)

-- ---- and how they are tied then

-- one that was made is tied to this one of the chip, and each other as it was, but that by which something was removed
pub record TiesFollowCall (rid rid' : Vid → Option Rid) (c : Call Vid) (made : Option Vid) (i : Rid) : Type 0 where
  pub new : (v : Vid) → made ≡ Some v → rid' v ≡ Some i
  pub kept : (v : Vid) (j : Rid) → (c ≡ call.Remove (entry.Oid v) → ⊥) → rid v ≡ Some j → rid' v ≡ Some j
