-- An apply: the plan from what stands on a chip to a new view, and the calls that it comes to. Own.
use Rattle.std.specs.Prelude.{◌≡◌, ℕ, ◌≤◌, List, [], ◌∷◌, map, Some}
use Rattle.sai_types.specs.declared.ids.Rid.{Rid}
use Rattle.sai_types.specs.declared.ids.Vid.{Vid}
use Rattle.sai_types.specs.declared.body.Call.{Call}
use Rattle.sai_types.specs.declared.body.Object.{Object}
use Rattle.sai_types.specs.declared.kind.Kind.{Kind}
use Rattle.sai_types.specs.declared.plan.Plan.{Plan}
use Rattle.sai_types.specs.declared.plan.PlanCall.{PlanCall}
use Rattle.sai_types.specs.declared.plan.PlanId.{PlanId}
use Rattle.sai_types.specs.declared.thing.Thing.{Thing}
use Rattle.sai_types.specs.Objects.{used}
use Rattle.sai_types.specs.Refusal.{capacity_of}
use Rattle.chip_names.specs.Naming.{entries_of}
use Rattle.chip_layout.specs.Layout.{next_rid}
use Rattle.chip_layout.specs.Renamed.{call_renamed}
use Rattle.plan_laws.specs.Applied.{IsListedChip}
use Rattle.plan_laws.specs.Calls.{resolve}
use Rattle.view_match.specs.Pairs.{pairs_of}
use Rattle.apply_order.specs.Planned.{IsPlanOf}
use Rattle.apply_order.specs.Room.{lacking_from}
use Rattle.syncd_core.specs.Run.{made_by}
use Rattle.apply_laws.specs.Viewed.{HaveOneLanes, IsViewOf, things_in}

-- what a call of the plan makes comes to the chip's next identifier
abbrev pub ComeToNextIds : (Vid → Rid) → ℕ → List PlanCall → Type 0
ComeToNextIds ids made [] = Unit {0}
ComeToNextIds ids made (c ∷ cs) = ((v : Vid) → c.makes ≡ Some v → ids v ≡ next_rid made) × ComeToNextIds ids (made_by made c) cs

-- the calls of a plan, as it names objects
abbrev pub plan_calls : Plan → List (Call PlanId)
plan_calls plan = map (λ c. c.call) plan.calls

-- the calls on the chip, where identifiers come to these of the chip
abbrev pub calls_by : (Vid → Rid) → Plan → List (Call Rid)
calls_by ids plan = map (call_renamed (resolve ids)) (plan_calls plan)

-- the plan from the objects of a chip that legal calls made to a new view, where the chip has room for the old objects, and for the new ones
pub record IsPlannedFrom (capacities : List ℕ) (made : ℕ) (old : List (Object Rid)) (new : List (Object Vid)) (things : List (Vid × Thing)) (plan : Plan) : Type 0 where
  pub chip : IsListedChip made (entries_of old)
  pub view : IsViewOf things new
  pub lanes : HaveOneLanes (entries_of old) (things_in things)
  pub planned : IsPlanOf old new (pairs_of old new) capacities plan
  pub held : (kind : Kind) → used (entries_of old) kind ≤ capacity_of capacities kind
  pub fits : (kind : Kind) → lacking_from kind [] new 0 ≤ capacity_of capacities kind

-- its calls, where what they make comes to these identifiers
pub record IsApply (capacities : List ℕ) (made : ℕ) (old : List (Object Rid)) (new : List (Object Vid)) (things : List (Vid × Thing)) (plan : Plan) (ids : Vid → Rid) : Type 0 where
  pub of : IsPlannedFrom capacities made old new things plan
  pub numbered : ComeToNextIds ids made plan.calls
