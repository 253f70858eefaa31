-- A plan, call by call. Own.
use Rattle.std.specs.Prelude.{◌≡◌, ◌↔◌, ℕ, List}
use Rattle.std.specs.List.Sorted.{IsPermutation, IsSorted}
use Rattle.sai_types.specs.declared.ids.Rid.{Rid}
use Rattle.sai_types.specs.declared.ids.Vid.{Vid}
use Rattle.sai_types.specs.declared.body.Object.{Object}
use Rattle.sai_types.specs.declared.plan.Plan.{Plan}
use Rattle.sai_types.specs.declared.plan.Mode.TheVariants as mode
use Rattle.apply_order.specs.Calls.{steps_calls}
use Rattle.apply_order.specs.Due.{due_steps}
use Rattle.apply_order.specs.Naming.{names_in}
use Rattle.apply_order.specs.Ranks.{timed_cmp}
use Rattle.apply_order.specs.Room.{FitTogether}
use Rattle.apply_order.specs.Routers.{KeepRouters}
use Rattle.apply_order.specs.declared.ranks.Timed.{Timed}

-- the plan from old objects to new ones that are paired so: hitless exactly where there is room and each interface stays in its virtual router, and its calls are those of the steps that are due, in the order of their turns
pub record IsPlanOf (old : List (Object Rid)) (new : List (Object Vid)) (pairs : List (ℕ × ℕ)) (capacities : List ℕ) (plan : Plan) : Type 0 where
  pub mode : (plan.mode ≡ mode.Hitless) ↔ (FitTogether capacities old new pairs × KeepRouters old new pairs)
  pub steps : List Timed
  pub due : IsPermutation (due_steps plan.mode old new pairs) steps
  pub in_order : IsSorted timed_cmp steps
  pub calls : plan.calls ≡ steps_calls (names_in plan.mode old new pairs) old new steps
