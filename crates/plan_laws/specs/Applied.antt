-- A plan on a chip that was listed. Own.
use Rattle.std.specs.Prelude.{ℕ, ◌≤◌, ◌++◌, List, [], length}
use Rattle.sai_types.specs.declared.ids.Rid.{Rid}
use Rattle.sai_types.specs.declared.body.Call.{Call}
use Rattle.sai_types.specs.declared.kind.Kind.{Kind}
use Rattle.sai_types.specs.declared.thing.Thing.{Thing}
use Rattle.sai_types.specs.Made.{HaveLanes, IsWhole, made_after_all}
use Rattle.sai_types.specs.Named.{named, those}
use Rattle.sai_types.specs.Objects.{Objects, used}
use Rattle.sai_types.specs.Refusal.{capacity_of}
use Rattle.chip_layout.specs.Answered.{HavePrefixes}
use Rattle.chip_layout.specs.Layout.{Layout}
use Rattle.plan_laws.specs.Moments.{MakesChanges}
use Rattle.plan_laws.specs.Old.{old_layout, old_things}
use Rattle.plan_laws.specs.Plans.{PlanChange, IsViewPlan, cold_rank, hitless_rank}
use Rattle.plan_laws.specs.Views.{HaveOwnNames, HasRoomForPlan, HaveWholeGroups, LanesApart, ReferWithin, made_names}

-- what stands on a chip
abbrev pub chip_things : Objects → List Thing
chip_things objects = those (named objects)

-- a chip that legal calls made, where ports have lanes and prefixes are proper
pub record IsListedChip (made : ℕ) (objects : Objects) : Type 0 where
  pub whole : IsWhole made objects
  pub lanes : HaveLanes objects
  pub prefixes : HavePrefixes objects

-- a view that a plan can lead to
pub record IsView (new : List Thing) : Type 0 where
  pub named : HaveOwnNames new
  pub within : ReferWithin new
  pub grouped : HaveWholeGroups new

-- a hitless plan from a chip to a view
pub record IsHitlessPlan (capacities : List ℕ) (made : ℕ) (objects : Objects) (new : List Thing) (plan : List PlanChange) : Type 0 where
  pub chip : IsListedChip made objects
  pub view : IsView new
  pub lanes : LanesApart (old_things objects new) new
  pub is_plan : IsViewPlan hitless_rank (old_things objects new) new plan
  pub room : HasRoomForPlan capacities objects plan

-- a cold plan from a chip to a view: all is removed, and then all is made
pub record IsColdPlan (capacities : List ℕ) (made : ℕ) (objects : Objects) (new : List Thing) (removes makes : List PlanChange) : Type 0 where
  pub chip : IsListedChip made objects
  pub view : IsView new
  pub lanes : LanesApart [] new
  pub removing : IsViewPlan cold_rank (old_things objects new) [] removes
  pub making : IsViewPlan cold_rank [] new makes
  pub within : (kind : Kind) → used objects kind ≤ capacity_of capacities kind
  pub room : (kind : Kind) → length (made_names kind makes) ≤ capacity_of capacities kind

-- calls that make the first changes of a hitless plan, all of them where none is due
pub record AppliesHitless (capacities : List ℕ) (made : ℕ) (objects : Objects) (new : List Thing) (todo due : List PlanChange) (calls : List (Call Rid)) : Type 0 where
  pub planned : IsHitlessPlan capacities made objects new (todo ++ due)
  pub run : MakesChanges made (old_layout objects new) todo calls

-- nothing stands
abbrev pub nothing : Layout Rid
nothing i t = ⊥

-- calls that make the changes of a cold plan
pub record AppliesCold (capacities : List ℕ) (made : ℕ) (objects : Objects) (new : List Thing) (removes makes : List PlanChange) (front rest : List (Call Rid)) : Type 0 where
  pub planned : IsColdPlan capacities made objects new removes makes
  pub removing : MakesChanges made (old_layout objects new) removes front
  pub making : MakesChanges (made_after_all made front) nothing makes rest
