-- The steps that are due, with their turns. Own.
use Rattle.std.specs.Prelude.{ℕ, ◌+◌, ◌++◌, List, [], ◌∷◌, Option, None, Some}
use Rattle.std.specs.List.{filter}
use Rattle.sai_types.specs.declared.ids.Rid.{Rid}
use Rattle.sai_types.specs.declared.ids.Vid.{Vid}
use Rattle.sai_types.specs.declared.body.Entry.{Entry}
use Rattle.sai_types.specs.declared.body.Entry.TheVariants as entry
use Rattle.sai_types.specs.declared.body.Object.{Object}
use Rattle.sai_types.specs.declared.plan.Mode.{Mode}
use Rattle.sai_types.specs.declared.plan.Mode.TheVariants as mode
use Rattle.chip_names.specs.Naming.{entries_of}
use Rattle.view_match.specs.Keys.{keys_of_objects}
use Rattle.view_match.specs.Pairs.{new_keys}
use Rattle.view_match.specs.declared.key.NaturalKey.{NaturalKey}
use Rattle.apply_order.specs.Calls.{is_needed}
use Rattle.apply_order.specs.Naming.{OldIds}
use Rattle.apply_order.specs.Places.{Places, by_new, by_old, partner_at}
use Rattle.apply_order.specs.Ranks.{make_rank, remove_rank, set_rank}
use Rattle.apply_order.specs.declared.ranks.PlanStep.TheVariants as step
use Rattle.apply_order.specs.declared.ranks.Timed.{Timed}

-- those of some steps that have anything to do
abbrev pub needed : OldIds → List (Object Rid) → List (Object Vid) → List Timed → List Timed
needed names old new = filter (λ t. is_needed names old new t.step)

-- in a cold plan no object counts as paired
abbrev pub paired_in : Mode → List (ℕ × ℕ) → List (ℕ × ℕ)
paired_in mode.Hitless pairs = pairs
paired_in mode.Cold pairs = []

-- the step of a new object: it is made where it is not paired, else what differs is set
abbrev pub new_step : Mode → Option NaturalKey → Object Vid → ℕ → Option ℕ → Timed
new_step m key n place None = record { rank = make_rank m n.body; key = key; id = 0; step = step.Make place }
new_step m key n place (Some i) = record { rank = set_rank n.body; key = key; id = 0; step = step.Set i place }

abbrev pub new_steps : Mode → Places → List (Option NaturalKey) → List (Object Vid) → ℕ → List Timed
new_steps m paired (key ∷ keys) (n ∷ ns) place = new_step m key n place (partner_at paired place) ∷ new_steps m paired keys ns (place + 1)
new_steps m paired _ _ place = []

abbrev pub entry_number : Entry Rid → ℕ
entry_number (entry.Oid r) = r.0
entry_number e = 0

-- the step of an old object: it is removed where it is not paired
abbrev pub old_step : Mode → Option NaturalKey → Object Rid → ℕ → Option ℕ → List Timed
old_step m key o place None = record { rank = remove_rank m o.body; key = key; id = entry_number o.entry; step = step.Remove place } ∷ []
old_step m key o place (Some j) = []

abbrev pub old_steps : Mode → Places → List (Option NaturalKey) → List (Object Rid) → ℕ → List Timed
old_steps m paired (key ∷ keys) (o ∷ os) place = old_step m key o place (partner_at paired place) ++ old_steps m paired keys os (place + 1)
old_steps m paired _ _ place = []

-- the steps of a plan, in no order
abbrev pub due_steps : Mode → List (Object Rid) → List (Object Vid) → List (ℕ × ℕ) → List Timed
due_steps m old new pairs =
    new_steps m (by_new (paired_in m pairs)) (new_keys new) new 0
    ++ old_steps m (by_old (paired_in m pairs)) (keys_of_objects (entries_of old)) old 0
