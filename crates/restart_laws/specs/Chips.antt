-- What holds of a chip in every state of the service, whatever failed. Own.
use Rattle.std.specs.Prelude.{◌≡◌, ◌≤◌, ℕ, List, Some}
use Rattle.swss_types.specs.Address.{IsProperPrefix}
use Rattle.table_schema.specs.Plan.{Ports, lanes_in_plan}
use Rattle.sai_types.specs.declared.ids.Rid.{Rid}
use Rattle.sai_types.specs.declared.kind.Kind.{Kind}
use Rattle.sai_types.specs.declared.body.Body.{Body}
use Rattle.sai_types.specs.declared.body.Body.TheVariants as body
use Rattle.sai_types.specs.declared.body.Call.{Call}
use Rattle.sai_types.specs.declared.body.Call.TheVariants as call
use Rattle.sai_types.specs.declared.body.Entry.{Entry}
use Rattle.sai_types.specs.Made.{IsWhole}
use Rattle.sai_types.specs.Objects.{Objects, body_at, used}
use Rattle.sai_types.specs.Refusal.{capacity_of}

-- a port has the lanes of a port of the plan, and a route's prefix is proper
abbrev pub IsPlannedBody : Ports → Body Rid → Type 0
IsPlannedBody plan (body.Port lanes speed mtu up) = (q : ℕ) × (lanes_in_plan plan q ≡ Some lanes)
IsPlannedBody plan (body.Route vr prefix to) = IsProperPrefix prefix
IsPlannedBody plan _ = Unit {0}

-- a call makes only such bodies
abbrev pub IsPlannedCall : Ports → Call Rid → Type 0
IsPlannedCall plan (call.Create b) = IsPlannedBody plan b
IsPlannedCall plan _ = Unit {0}

-- what legal calls of such bodies leave
pub record IsPlannedChip (plan : Ports) (capacities : List ℕ) (made : ℕ) (objects : Objects) : Type 0 where
  pub whole : IsWhole made objects
  pub planned : (e : Entry Rid) (b : Body Rid) → body_at objects e ≡ Some b → IsPlannedBody plan b
  pub fits : (kind : Kind) → used objects kind ≤ capacity_of capacities kind
