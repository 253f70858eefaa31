-- The calls of a plan from a chip that was listed to the things of a view, hitless or cold. Own.
use Rattle.std.specs.Prelude.{◌≡◌, ℕ, ◌++◌, List, []}
use Rattle.sai_types.specs.declared.ids.Rid.{Rid}
use Rattle.sai_types.specs.declared.body.Call.{Call}
use Rattle.sai_types.specs.declared.plan.Mode.{Mode}
use Rattle.sai_types.specs.declared.plan.Mode.TheVariants as mode
use Rattle.sai_types.specs.declared.thing.Thing.{Thing}
use Rattle.sai_types.specs.Made.{made_after_all}
use Rattle.sai_types.specs.Objects.{Objects}
use Rattle.plan_laws.specs.Applied.{nothing}
use Rattle.plan_laws.specs.Moments.{MakesChanges}
use Rattle.plan_laws.specs.Old.{old_layout, old_things}
use Rattle.plan_laws.specs.Plans.{PlanChange, IsViewPlan, cold_rank, hitless_rank}
use Rattle.plan_laws.specs.Views.{FitsHitless, SameRouters}

-- the old and the new things fit together, no interface moves, and the calls make the changes of a hitless plan
pub record PlansHitless (capacities : List ℕ) (made : ℕ) (objects : Objects) (new : List Thing) (calls : List (Call Rid)) : Type 0 where
  pub steps : List PlanChange
  pub fits : FitsHitless capacities objects (old_things objects new) new
  pub routers : SameRouters (old_things objects new) new
  pub is_plan : IsViewPlan hitless_rank (old_things objects new) new steps
  pub run : MakesChanges made (old_layout objects new) steps calls

-- they do not fit, or an interface moves, and the calls remove all that stands and then make all that is new
pub record PlansCold (capacities : List ℕ) (made : ℕ) (objects : Objects) (new : List Thing) (calls : List (Call Rid)) : Type 0 where
  pub removes : List PlanChange
  pub makes : List PlanChange
  pub front : List (Call Rid)
  pub rest : List (Call Rid)
  pub lacks : FitsHitless capacities objects (old_things objects new) new → SameRouters (old_things objects new) new → ⊥
  pub removing : IsViewPlan cold_rank (old_things objects new) [] removes
  pub making : IsViewPlan cold_rank [] new makes
  pub first : MakesChanges made (old_layout objects new) removes front
  pub second : MakesChanges (made_after_all made front) nothing makes rest
  pub is : calls ≡ front ++ rest

-- by the mode of the apply
abbrev pub IsPlannedAs : Mode → List ℕ → ℕ → Objects → List Thing → List (Call Rid) → Type 0
IsPlannedAs mode.Hitless = PlansHitless
IsPlannedAs mode.Cold = PlansCold
