-- The operation of a VLAN, and of a member of one, as far as it is made. The order of calls is that of SONiC's orchestration agent.
use Rattle.std.specs.Prelude.{◌≡◌, ℕ, Bool, true, false, List, [], ◌∷◌, Option, Some, None, option_map, if◌then◌else◌}
use Rattle.swss_types.specs.contracts.tagging.TaggingPartialEq.TheImpl as tagging_eq
use Rattle.swss_types.specs.declared.tagging.Tagging.{Tagging}
use Rattle.table_schema.specs.Plan.{Ports}
use Rattle.table_schema.specs.declared.key.Key.{Key}
use Rattle.table_schema.specs.declared.key.Key.TheVariants as key
use Rattle.switch_model.specs.Placed.{Placed as Row}
use Rattle.switch_model.specs.Placed as row
use Rattle.sai_types.specs.declared.thing.Thing.TheVariants as thing
use Rattle.sai_types.specs.Names as thing_name
use Rattle.switch_model.specs.Things.{lane_of}
use Rattle.row_layout.specs.Operations.{Change, Make, Set, Take}
use Rattle.row_layout.specs.Rows.{Owner, Bridge}
use Rattle.orch_flight.specs.Operation.{Operation}
use Rattle.vlan_orch.specs.declared.steps.Membership.{Membership}
use Rattle.vlan_orch.specs.declared.steps.MemberStep.{MemberStep}
use Rattle.vlan_orch.specs.declared.steps.MemberStep.TheVariants as member
use Rattle.vlan_orch.specs.declared.steps.VlanSubject.{VlanSubject}
use Rattle.vlan_orch.specs.declared.steps.VlanSubject.TheVariants as subject
use Rattle.vlan_orch.specs.declared.steps.VlanStep.{VlanStep}
use Rattle.vlan_orch.specs.declared.steps.VlanStep.TheVariants as vlan_step

abbrev pub IsVlanKey : Key → Type 0
IsVlanKey (key.Vlan vlan) = Unit {0}
IsVlanKey (key.Member vlan port) = Unit {0}
IsVlanKey _ = ⊥

abbrev pub IsOfVlan : Key → Type 0
IsOfVlan (key.Vlan vlan) = Unit {0}
IsOfVlan _ = ⊥

-- ---- a VLAN

-- the row for which its object stands, and the one that it is to have
abbrev pub vlan_now : VlanStep → Option Row
vlan_now vlan_step.Add = None
vlan_now vlan_step.Added = None
vlan_now _ = Some row.Vlan

abbrev pub vlan_new : VlanStep → Option Row
vlan_new vlan_step.Remove = None
vlan_new vlan_step.Removed = None
vlan_new _ = Some row.Vlan

abbrev pub vlan_due : ℕ → VlanStep → List Change
vlan_due vlan vlan_step.Add = Make (thing.Vlan vlan) ∷ []
vlan_due vlan vlan_step.Remove = Take (thing_name.Vlan vlan) ∷ []
vlan_due vlan _ = []

abbrev pub vlan_operation : ℕ → ℕ → VlanStep → Operation
vlan_operation worker vlan step = record { worker = worker; key = key.Vlan vlan; now = vlan_now step; new = vlan_new step; due = vlan_due vlan step; leaves = None; retires = None }

-- ---- a member

abbrev pub member_now : MemberStep → Option Row
member_now (member.AddBridge tagging) = None
member_now (member.Add tagging) = None
member_now (member.Added tagging) = None
member_now (member.Set old new) = Some (row.Member old)
member_now (member.Keep tagging) = Some (row.Member tagging)
member_now (member.Remove tagging) = Some (row.Member tagging)
member_now (member.Removed tagging) = Some (row.Member tagging)
member_now (member.RemoveBridge tagging) = Some (row.Member tagging)
member_now (member.Retired tagging) = Some (row.Member tagging)

abbrev pub member_new : MemberStep → Option Row
member_new (member.AddBridge tagging) = Some (row.Member tagging)
member_new (member.Add tagging) = Some (row.Member tagging)
member_new (member.Added tagging) = Some (row.Member tagging)
member_new (member.Set old new) = Some (row.Member new)
member_new (member.Keep tagging) = Some (row.Member tagging)
member_new _ = None

-- the bridge port is made before the member, and removed after it
abbrev pub member_due : Membership → MemberStep → List Change
member_due at (member.AddBridge tagging) = Make (thing.BridgePort at.lane) ∷ Make (thing.VlanMember at.vlan at.lane tagging) ∷ []
member_due at (member.Add tagging) = Make (thing.VlanMember at.vlan at.lane tagging) ∷ []
member_due at (member.Set old new) = Set (thing.VlanMember at.vlan at.lane new) ∷ []
member_due at (member.Remove tagging) = Take (thing_name.VlanMember at.vlan at.lane) ∷ []
member_due at (member.RemoveBridge tagging) = Take (thing_name.BridgePort at.lane) ∷ []
member_due at _ = []

-- a member that is removed leaves its bridge port
abbrev pub member_leaves : Membership → MemberStep → Option Owner
member_leaves at (member.Remove tagging) = Some (Bridge at.lane)
member_leaves at _ = None

abbrev pub member_retires : Membership → MemberStep → Option Owner
member_retires at (member.RemoveBridge tagging) = Some (Bridge at.lane)
member_retires at (member.Retired tagging) = Some (Bridge at.lane)
member_retires at _ = None

abbrev pub member_operation : ℕ → Membership → MemberStep → Operation
member_operation worker at step = record { worker = worker; key = key.Member at.vlan at.port; now = member_now step; new = member_new step; due = member_due at step; leaves = member_leaves at step; retires = member_retires at step }

-- it removes the bridge port where it was the last to use it
abbrev pub member_left_by : Tagging → Bool → MemberStep
member_left_by tagging true = member.RemoveBridge tagging
member_left_by tagging false = member.Removed tagging

-- ---- either

abbrev pub subject_operation : ℕ → VlanSubject → Operation
subject_operation worker (subject.Vlan vlan step) = vlan_operation worker vlan step
subject_operation worker (subject.Member at step) = member_operation worker at step

-- ---- the start

-- the places that a row needs: a row in the place of another needs none
abbrev pub places_of_vlan : Bool → List ℕ
places_of_vlan true = 0 ∷ 0 ∷ 0 ∷ 0 ∷ 0 ∷ 0 ∷ 0 ∷ 0 ∷ 0 ∷ 0 ∷ 0 ∷ 0 ∷ []
places_of_vlan false = 0 ∷ 1 ∷ 0 ∷ 0 ∷ 0 ∷ 0 ∷ 0 ∷ 0 ∷ 0 ∷ 0 ∷ 0 ∷ 0 ∷ []

-- a member one for itself, and one for its bridge port where it builds that
abbrev pub places_of_member : Bool → Bool → List ℕ
places_of_member true builds = 0 ∷ 0 ∷ 0 ∷ 0 ∷ 0 ∷ 0 ∷ 0 ∷ 0 ∷ 0 ∷ 0 ∷ 0 ∷ 0 ∷ []
places_of_member false true = 0 ∷ 0 ∷ 0 ∷ 1 ∷ 1 ∷ 0 ∷ 0 ∷ 0 ∷ 0 ∷ 0 ∷ 0 ∷ 0 ∷ []
places_of_member false false = 0 ∷ 0 ∷ 0 ∷ 0 ∷ 1 ∷ 0 ∷ 0 ∷ 0 ∷ 0 ∷ 0 ∷ 0 ∷ 0 ∷ []

abbrev pub first_vlan : Option Row → Option Row → VlanStep
first_vlan None new = vlan_step.Add
first_vlan (Some old) None = vlan_step.Remove
first_vlan (Some old) (Some new) = vlan_step.Keep

-- a row is a member's, where there is one
abbrev pub IsMemberRow : Option Row → Type 0
IsMemberRow None = Unit {0}
IsMemberRow (Some (row.Member tagging)) = Unit {0}
IsMemberRow (Some _) = ⊥

-- the first step from one tagging to another
abbrev pub IsFirstMember : Option Tagging → Option Tagging → Bool → MemberStep → Type 0
IsFirstMember None None builds step = ⊥
IsFirstMember None (Some new) true step = step ≡ member.AddBridge new
IsFirstMember None (Some new) false step = step ≡ member.Add new
IsFirstMember (Some old) (Some new) builds step = step ≡ (if tagging_eq.ghosts.eq old new then member.Keep new else member.Set old new)
IsFirstMember (Some old) None builds step = step ≡ member.Remove old

-- what starts as the operation from one row to another: it builds the bridge port or finds it
abbrev pub IsVlanStart : Ports → Key → Option Row → Option Row → Bool → VlanSubject → Type 0
IsVlanStart plan (key.Vlan vlan) old new builds s = s ≡ subject.Vlan vlan (first_vlan old new)
IsVlanStart plan (key.Member vlan port) old new builds s =
    (lane : ℕ) × (a : Option Tagging) × (b : Option Tagging) × (step : MemberStep) × (lane_of plan port ≡ Some lane) × (option_map row.Member a ≡ old) × (option_map row.Member b ≡ new) × IsFirstMember a b builds step
    × (s ≡ subject.Member (record { vlan = vlan; port = port; lane = lane }) step)
IsVlanStart plan k old new builds s = ⊥
