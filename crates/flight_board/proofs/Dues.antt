-- whether anything is due for what a worker has under way
use Rattle.std.proofs.Common.{◌≡◌, ◌++◌, [], None, subst}
use Rattle.table_schema.specs.Plan.{Ports}
use Rattle.ref_counts.specs.Registry.{Names}
use Rattle.registry_laws.specs.Flown.{Flown, due_for, group_changes, group_to_build, group_to_take, left_of_group, whole_group}
use Rattle.registry_laws.proofs.Dues.{due_none}
use Rattle.registry_laws.proofs.Settled.{nothing_behind}

module _ (plan : Ports) (names : Names) (x : Flown) where
  pub row-first : due_for plan names x ≡ [] → x.operation.due ≡ []
  row-first h = nothing_behind (group_changes plan names x) x.operation.due h

  pub no-groups : x.group ≡ None → due_for plan names x ≡ [] → (group_to_build plan names x.operation ≡ None) × (group_to_take x.operation ≡ None)
  no-groups none h =
      let d = due_none plan names x.operation (subst (λ z. left_of_group z (whole_group (group_to_build plan names x.operation) (group_to_take x.operation)) ++ x.operation.due ≡ []) none h) in
      (d.1, d.2)
