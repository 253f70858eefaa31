-- What a plan sets on a paired object: the attributes that differ. Own for the order of a port's attributes; which can be set is that of the OCP SAI headers.
use mathlib.Core.Bool.{beq}
use Rattle.std.specs.Prelude.{Bool, true, false, ◌==◌, ◌++◌, List, [], ◌∷◌, map, None, if◌then◌else◌}
use Rattle.swss_types.specs.contracts.tagging.TaggingPartialEq.TheImpl as tagging_eq
use Rattle.swss_types.specs.contracts.address.MacPartialEq.TheImpl as mac_eq
use Rattle.sai_types.specs.declared.ids.Rid.{Rid}
use Rattle.sai_types.specs.declared.ids.Vid.{Vid}
use Rattle.sai_types.specs.declared.body.Attr.{Attr}
use Rattle.sai_types.specs.declared.body.Attr.TheVariants as attr
use Rattle.sai_types.specs.declared.body.Body.{Body}
use Rattle.sai_types.specs.declared.body.Body.TheVariants as body
use Rattle.sai_types.specs.declared.body.Call.TheVariants as call
use Rattle.sai_types.specs.declared.body.Entry.{Entry}
use Rattle.sai_types.specs.declared.body.Object.{Object}
use Rattle.sai_types.specs.declared.body.To.{To}
use Rattle.sai_types.specs.declared.body.To.TheVariants as to
use Rattle.sai_types.specs.declared.plan.PlanCall.{PlanCall}
use Rattle.sai_types.specs.declared.plan.PlanId.{PlanId}
use Rattle.sai_types.specs.declared.plan.PlanId.TheVariants as plan_id
use Rattle.sai_types.specs.Refusal.{same_id}
use Rattle.chip_layout.specs.Renamed.{to_renamed}
use Rattle.plan_laws.specs.Calls.{old_entry}
use Rattle.apply_order.specs.Naming.{OldIds, new_id}

-- a name is that of an old object
abbrev pub is_old : Rid → PlanId → Bool
is_old r (plan_id.Old s) = same_id r s
is_old r (plan_id.New v) = false

-- whether an old target is the one that a plan names
abbrev pub is_same_target : To Rid → To PlanId → Bool
is_same_target to.Drop to.Drop = true
is_same_target (to.Rif r) (to.Rif i) = is_old r i
is_same_target (to.NextHop r) (to.NextHop i) = is_old r i
is_same_target (to.Group r) (to.Group i) = is_old r i
is_same_target t u = false

-- an attribute, where it differs
abbrev pub where_differs : Bool → Attr PlanId → List (Attr PlanId)
where_differs same a = if same then [] else a ∷ []

-- the attributes of an old object that differ from those of the new one, in their order
abbrev pub differing : OldIds → Body Rid → Body Vid → List (Attr PlanId)
differing names (body.Port lanes speed mtu up) (body.Port others speed' mtu' up') =
    where_differs (speed == speed') (attr.Speed speed') ++ where_differs (mtu == mtu') (attr.Mtu mtu') ++ where_differs (beq up up') (attr.Up up')
differing names (body.VlanMember vlan bridge_port tagging) (body.VlanMember vlan' bridge_port' tagging') = where_differs (tagging_eq.ghosts.eq tagging tagging') (attr.Tagging tagging')
differing names (body.Neighbor rif ip mac) (body.Neighbor rif' ip' mac') = where_differs (mac_eq.ghosts.eq mac mac') (attr.Mac mac')
differing names (body.Route vr prefix t) (body.Route vr' prefix' t') = where_differs (is_same_target t (to_renamed (new_id names) t')) (attr.To (to_renamed (new_id names) t'))
differing names b c = []

-- the calls that set them
abbrev pub set_call : Entry Rid → Attr PlanId → PlanCall
set_call e a = record { call = call.Set (old_entry e) a; makes = None }

abbrev pub set_calls : OldIds → Object Rid → Object Vid → List PlanCall
set_calls names o n = map (set_call o.entry) (differing names o.body n.body)

-- whether there is any
abbrev pub is_any : {X : Type 0} → List X → Bool
is_any [] = false
is_any (x ∷ xs) = true
