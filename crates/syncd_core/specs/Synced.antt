-- What syncd keeps, and what its calls do. Own.
use Rattle.std.specs.Prelude.{◌≡◌, ℕ, List, [], ◌∷◌, Option, Some, None, if◌then◌else◌}
use Rattle.sai_types.specs.declared.answer.ChipAnswer.{ChipAnswer}
use Rattle.sai_types.specs.declared.answer.ChipAnswer.TheVariants as answer
use Rattle.sai_types.specs.declared.answer.ListAnswer.TheVariants as list_answer
use Rattle.sai_types.specs.declared.answer.SyncAnswer.{SyncAnswer}
use Rattle.sai_types.specs.declared.answer.SyncAnswer.TheVariants as sync
use Rattle.sai_types.specs.declared.body.Call.{Call}
use Rattle.sai_types.specs.declared.body.Call.TheVariants as call
use Rattle.sai_types.specs.declared.body.Body.{Body}
use Rattle.sai_types.specs.declared.body.Object.{Object}
use Rattle.sai_types.specs.declared.ids.Rid.{Rid}
use Rattle.sai_types.specs.declared.ids.Vid.{Vid}
use Rattle.sai_types.specs.declared.plan.PlanCall.{PlanCall}
use Rattle.sai_types.specs.After.{has_id}
use Rattle.sai_types.specs.ChipState.{ChipState, IsAnswered, IsAskedOnce, IsListed, asked, objects_of}
use Rattle.sai_types.specs.Refusal.{IsLegal}
use Rattle.chip_layout.specs.Renamed.{call_renamed}
use Rattle.asic_view.specs.View.{IsLegalOn, IsNew, ViewObjects, after_create, after_remove, view_after_set, with_tie}
use Rattle.syncd_core.specs.Tied.{plan_tie, tie_of}
use Rattle.syncd_core.specs.declared.answer.ApplyStep.{ApplyStep}
use Rattle.syncd_core.specs.declared.answer.ApplyStep.TheVariants as step
use Rattle.syncd_core.specs.declared.answer.Listed.{Listed}
use Rattle.syncd_core.specs.declared.answer.Listed.TheVariants as listed
use Rattle.syncd_core.specs.declared.made.Made.{Made}
use Rattle.syncd_core.specs.declared.made.Made.TheVariants as made

-- the view that stands for the chip, or will once the calls of the plan are made; the temporary view, where one is built; the chip's objects as they were listed last; the calls of the plan that are left; the capacities
pub record SyncState : Type 0 where
  pub view : ViewObjects
  pub temporary : Option ViewObjects
  pub listed : Option (List (Object Rid))
  pub left : List PlanCall
  pub capacities : List ℕ

-- a view in which nothing stands
abbrev pub new_state : List ℕ → SyncState
new_state capacities = record { view = []; temporary = None; listed = None; left = []; capacities = capacities }

abbrev pub with_view : SyncState → ViewObjects → SyncState
with_view s view = record { view = view; temporary = s.temporary; listed = s.listed; left = s.left; capacities = s.capacities }

abbrev pub with_temporary : SyncState → ViewObjects → SyncState
with_temporary s view = record { view = s.view; temporary = Some view; listed = s.listed; left = s.left; capacities = s.capacities }

abbrev pub with_listed : SyncState → List (Object Rid) → SyncState
with_listed s objects = record { view = s.view; temporary = s.temporary; listed = Some objects; left = s.left; capacities = s.capacities }

abbrev pub view_in : ViewObjects → Option ViewObjects → ViewObjects
view_in view None = view
view_in view (Some temporary) = temporary

-- the view that calls change
abbrev pub current : SyncState → ViewObjects
current s = view_in s.view s.temporary

-- ---- calls

-- what the chip answered
abbrev pub answer_by : Made → ChipAnswer
answer_by (made.Object r) = answer.Made r
answer_by made.Done = answer.Done
answer_by made.Failed = answer.Failed

-- a call can be made: it is legal on the view, and, where no temporary view is built, with its ties on the chip
abbrev pub CanCall : SyncState → Option ViewObjects → ChipState → Call Vid → Type 0
CanCall s (Some temporary) chip c = IsLegalOn temporary c
CanCall s None chip c = IsLegalOn s.view c × IsLegal chip.capacities chip.objects (call_renamed (tie_of s.view) c)

abbrev pub answer_made : Body Vid → Vid → SyncAnswer
answer_made b v = if has_id b then sync.Made v else sync.Done

-- a call changed a view alone
abbrev pub Changes : ViewObjects → Call Vid → SyncAnswer → ViewObjects → Type 0
Changes old (call.Create b) a new = (v : Vid) × IsNew v old × (new ≡ after_create old v b) × (a ≡ answer_made b v)
Changes old (call.Set e x) a new = (new ≡ view_after_set old e x) × (a ≡ sync.Done)
Changes old (call.Remove e) a new = (new ≡ after_remove old e) × (a ≡ sync.Done)

-- the view after a call that the chip answered so; an object that it made is tied to the one that the chip made
abbrev pub AnswerFollows : ViewObjects → Call Vid → ChipAnswer → SyncAnswer → ViewObjects → Type 0
AnswerFollows old c answer.Failed a new = (new ≡ old) × (a ≡ sync.Failed)
AnswerFollows old (call.Create b) (answer.Made r) a new = (v : Vid) × IsNew v old × (new ≡ with_tie (after_create old v b) v r) × (a ≡ sync.Made v)
AnswerFollows old (call.Create b) answer.Done a new = (v : Vid) × IsNew v old × (new ≡ after_create old v b) × (a ≡ sync.Done)
AnswerFollows old (call.Set e x) answer.Done a new = (new ≡ view_after_set old e x) × (a ≡ sync.Done)
AnswerFollows old (call.Remove e) answer.Done a new = (new ≡ after_remove old e) × (a ≡ sync.Done)
AnswerFollows old c _ a new = ⊥

-- a call made exactly one call on the chip, the one with its identifiers replaced by their ties, and the view follows its answer
pub record IsMadeOnChip (old : ViewObjects) (chip : ChipState) (c : Call Vid) (a : SyncAnswer) (new : ViewObjects) (chip' : ChipState) : Type 0 where
  pub answer : ChipAnswer
  pub answered : IsAnswered chip (call_renamed (tie_of old) c) answer chip'
  pub follows : AnswerFollows old c answer a new

-- what a call did: in a temporary view it made none on the chip
abbrev pub Calls : SyncState → Option ViewObjects → ChipState → Call Vid → SyncAnswer → SyncState → ChipState → Type 0
Calls s (Some temporary) chip c a s' chip' = (later : ViewObjects) × (s' ≡ with_temporary s later) × Changes temporary c a later × (chip' ≡ chip)
Calls s None chip c a s' chip' = (later : ViewObjects) × (s' ≡ with_view s later) × IsMadeOnChip s.view chip c a later chip'

-- the chip after a call for which there was no memory: it may have been asked, but not while a temporary view is built
abbrev pub IsUnmade : Option ViewObjects → ChipState → ChipState → Type 0
IsUnmade (Some temporary) chip chip' = chip' ≡ chip
IsUnmade None chip chip' = IsAskedOnce chip chip'

-- ---- lists

-- the chip was asked for one list
abbrev pub TakesList : SyncState → ChipState → Listed → SyncState → ChipState → Type 0
TakesList s chip listed.Done s' chip' = (s' ≡ with_listed s (objects_of chip.objects)) × (chip' ≡ asked chip)
TakesList s chip listed.Failed s' chip' = (s' ≡ s) × IsListed chip list_answer.Failed [] [] chip'

-- ---- applies

-- whether a plan's next call, with its ties, is legal on the chip
abbrev pub CanApply : List PlanCall → ViewObjects → ChipState → Type 0
CanApply [] view chip = Unit {0}
CanApply (c ∷ cs) view chip = IsLegal chip.capacities chip.objects (call_renamed (plan_tie view) c.call)

abbrev pub step_after : List PlanCall → ApplyStep
step_after [] = step.Ended
step_after (c ∷ cs) = step.More

-- the new view after a call of the plan that made this object of the chip
abbrev pub tied_by : ViewObjects → Option Vid → Rid → ViewObjects
tied_by view None r = view
tied_by view (Some v) r = with_tie view v r

abbrev pub applied : SyncState → ViewObjects → List PlanCall → SyncState
applied s view left = record { view = view; temporary = s.temporary; listed = s.listed; left = left; capacities = s.capacities }

-- the view after the chip's answer to a call of the plan
abbrev pub Ties : ViewObjects → PlanCall → ChipAnswer → ViewObjects → Type 0
Ties old c (answer.Made r) new = new ≡ tied_by old c.makes r
Ties old c answer.Done new = new ≡ old
Ties old c answer.Failed new = new ≡ old
Ties old c _ new = ⊥

-- where it failed the rest of the plan is as it was
abbrev pub left_by : ChipAnswer → PlanCall → List PlanCall → List PlanCall
left_by answer.Failed c cs = c ∷ cs
left_by _ c cs = cs

abbrev pub step_by : ChipAnswer → List PlanCall → ApplyStep
step_by answer.Failed cs = step.Failed
step_by _ cs = step_after cs

-- exactly one call was made on the chip, that of the plan by the ties so far, and what it made was tied
pub record IsApplied (s : SyncState) (chip : ChipState) (c : PlanCall) (cs : List PlanCall) (a : ApplyStep) (s' : SyncState) (chip' : ChipState) : Type 0 where
  pub answer : ChipAnswer
  pub answered : IsAnswered chip (call_renamed (plan_tie s.view) c.call) answer chip'
  pub view : ViewObjects
  pub ties : Ties s.view c answer view
  pub later : s' ≡ applied s view (left_by answer c cs)
  pub step : a ≡ step_by answer cs

-- the plan's next call is made, tied as it is made; where none is left, none
abbrev pub Applies : List PlanCall → SyncState → ChipState → ApplyStep → SyncState → ChipState → Type 0
Applies [] s chip a s' chip' = (s' ≡ s) × (chip' ≡ chip) × (a ≡ step.Ended)
Applies (c ∷ cs) s chip a s' chip' = IsApplied s chip c cs a s' chip'
