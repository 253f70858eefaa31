-- The calls of a plan's steps. Own.
use Rattle.std.specs.Prelude.{Bool, true, ◌++◌, List, [], ◌∷◌, Option, None, Some, slice_get}
use Rattle.sai_types.specs.declared.ids.Rid.{Rid}
use Rattle.sai_types.specs.declared.ids.Vid.{Vid}
use Rattle.sai_types.specs.declared.body.Call.TheVariants as call
use Rattle.sai_types.specs.declared.body.Entry.{Entry}
use Rattle.sai_types.specs.declared.body.Entry.TheVariants as entry
use Rattle.sai_types.specs.declared.body.Object.{Object}
use Rattle.sai_types.specs.declared.plan.PlanCall.{PlanCall}
use Rattle.chip_layout.specs.Renamed.{body_renamed}
use Rattle.plan_laws.specs.Calls.{old_entry}
use Rattle.apply_order.specs.Attributes.{is_any, set_calls}
use Rattle.apply_order.specs.Naming.{OldIds, new_id}
use Rattle.apply_order.specs.declared.ranks.PlanStep.{PlanStep}
use Rattle.apply_order.specs.declared.ranks.PlanStep.TheVariants as step
use Rattle.apply_order.specs.declared.ranks.Timed.{Timed}

-- the identifier that a call makes, where it makes one
abbrev pub made_id : Entry Vid → Option Vid
made_id (entry.Oid v) = Some v
made_id e = None

abbrev pub make_calls : OldIds → Option (Object Vid) → List PlanCall
make_calls names None = []
make_calls names (Some n) = record { call = call.Create (body_renamed (new_id names) n.body); makes = made_id n.entry } ∷ []

abbrev pub remove_calls : Option (Object Rid) → List PlanCall
remove_calls None = []
remove_calls (Some o) = record { call = call.Remove (old_entry o.entry); makes = None } ∷ []

abbrev pub both_calls : OldIds → Option (Object Rid) → Option (Object Vid) → List PlanCall
both_calls names (Some o) (Some n) = set_calls names o n
both_calls names _ _ = []

-- the calls of a step
abbrev pub step_calls : OldIds → List (Object Rid) → List (Object Vid) → PlanStep → List PlanCall
step_calls names old new (step.Make j) = make_calls names (slice_get new j)
step_calls names old new (step.Set i j) = both_calls names (slice_get old i) (slice_get new j)
step_calls names old new (step.Remove i) = remove_calls (slice_get old i)

-- the calls of steps, in their order
abbrev pub steps_calls : OldIds → List (Object Rid) → List (Object Vid) → List Timed → List PlanCall
steps_calls names old new [] = []
steps_calls names old new (t ∷ ts) = step_calls names old new t.step ++ steps_calls names old new ts

-- whether a step has anything to do: one that sets what differs has not where nothing does
abbrev pub is_needed : OldIds → List (Object Rid) → List (Object Vid) → PlanStep → Bool
is_needed names old new (step.Set i j) = is_any (both_calls names (slice_get old i) (slice_get new j))
is_needed names old new s = true
