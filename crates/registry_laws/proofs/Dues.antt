-- whether anything is due for an operation
use Rattle.std.proofs.Common.{◌≡◌, ◌++◌, ◌∙◌, true, false, List, [], Option, None, Some, refl, ◌∷◌}
use Rattle.table_schema.specs.Plan.{Ports}
use Rattle.sai_types.specs.declared.weight.WHop.{WHop}
use Rattle.ref_counts.specs.Registry.{Names}
use Rattle.orch_flight.specs.Operation.{Operation}
use Rattle.registry_laws.specs.Flown.{due_for, group_to_build, group_to_take, whole_group}
use Rattle.registry_laws.specs.Flying.{flown_as}
use Rattle.registry_laws.proofs.Grouped.{first_some}
use Rattle.registry_laws.proofs.Settled.{nothing_behind}
use Rattle.registry_laws.proofs.Taking.{row_due}

nothing_before : {X : Type 0} (xs ys : List X) → xs ++ ys ≡ [] → xs ≡ []
nothing_before [] ys e = refl
nothing_before (x ∷ xs) ys e = absurd cc

-- a group that is to be built or taken away has changes
no_group : (builds takes : Option (List WHop)) → whole_group builds takes ≡ [] → (builds ≡ None) × (takes ≡ None)
no_group None None h = (refl, refl)
no_group None (Some hops) h = absurd (first_some hops false h)
no_group (Some hops) takes h = absurd (first_some hops true h)

module _ (plan : Ports) (names : Names) (f : Operation) where
  pub none_due : f.due ≡ [] → group_to_build plan names f ≡ None → group_to_take f ≡ None → due_for plan names (flown_as f None) ≡ []
  none_due none builds takes = row_due plan names (flown_as f None) refl builds takes ∙ none

  pub due_none : due_for plan names (flown_as f None) ≡ [] → (f.due ≡ []) × (group_to_build plan names f ≡ None) × (group_to_take f ≡ None)
  due_none h =
      let group = no_group (group_to_build plan names f) (group_to_take f) (nothing_before (whole_group (group_to_build plan names f) (group_to_take f)) f.due h) in
      (nothing_behind (whole_group (group_to_build plan names f) (group_to_take f)) f.due h, group.0, group.1)
