-- whether anything is due once an answer of a group's operation was taken
use Rattle.std.proofs.Common.{◌≡◌, ◌∷◌, ◌++◌, ◌∙◌, ℕ, true, false, cond, List, [], Option, None, Some, refl, sym, ap, subst}
use Rattle.std.proofs.lemmas.List.{append-nil}
use Rattle.table_schema.specs.Plan.{IsPlan, Ports}
use Rattle.sai_types.specs.declared.ids.Rid.{Rid}
use Rattle.sai_types.specs.declared.ids.Vid.{Vid}
use Rattle.row_layout.specs.Operations.{Change}
use Rattle.switch_machine.specs.Events.{SwitchState}
use Rattle.ref_counts.specs.Registry.{Names}
use Rattle.ref_counts.specs.Room.{RoomState}
use Rattle.orch_flight.specs.Grouping.{GroupOperation, IsGroupTook}
use Rattle.orch_flight.specs.Operation.{Operation}
use Rattle.registry_laws.specs.Flown.{Flown, due_for, group_to_build, group_to_take, whole_group}
use Rattle.registry_laws.specs.Flying.{flown_as}
use Rattle.registry_laws.specs.Making.{left_of_group_by}
use Rattle.registry_laws.proofs.Settled.{nothing_behind}
use Rattle.registry_laws.proofs.Taking.{group_due}
use Rattle.registry_laws.proofs.Listing.{some_of_due}
use Rattle.registry_laws.specs.Standing.{StandsFor}
use Rattle.registry_laws.proofs.Core.Nexts.{goes_alone, own_later}

module _ (plan : Ports) (is : IsPlan plan) (capacities : List ℕ) (names : Names) (room : RoomState) (flown : ℕ → Option Flown) (rid : Vid → Option Rid) (s : SwitchState) (stands : StandsFor plan capacities names room flown rid s) (w : ℕ) (x : Flown) (at : flown w ≡ Some x) (g : GroupOperation) (has : x.group ≡ Some g) (made : Option Vid) (g' : GroupOperation) (names' : Names) (took : IsGroupTook g made names g' names') where
  abbrev f : Operation
  f = x.operation

  same_builds : g'.builds ≡ g.builds
  same_builds = ap (λ (z : GroupOperation). z.builds) took.operation

  -- the row's own changes are due behind a group that is built
  pub built_on : g.builds ≡ true → due_for plan names' (flown_as f (left_of_group_by g' g'.due)) ≡ [] → ⊥
  built_on b = by g'.due refl
    where
      by : (l : List Change) → g'.due ≡ l → due_for plan names' (flown_as f (left_of_group_by g' g'.due)) ≡ [] → ⊥
      by (d ∷ ds) e h = some_of_due d (ds ++ f.due) (ap (λ l. l ++ f.due) (sym e) ∙ sym (group_due plan names' (flown_as f (left_of_group_by g' g'.due)) g' (ap (left_of_group_by g') e)) ∙ h)
      by [] e h =
          let none : left_of_group_by g' g'.due ≡ None = ap (left_of_group_by g') e ∙ ap (λ v. cond v None (Some g')) (same_builds ∙ b) in
          own_later plan is capacities names room flown rid s stands w x at g has b (nothing_behind (whole_group (group_to_build plan names' f) (group_to_take f)) f.due (subst (λ v. due_for plan names' (flown_as f v) ≡ []) none h))

  -- a group that goes has the only changes
  pub goes_as : g.builds ≡ false → due_for plan names' (flown_as f (left_of_group_by g' g'.due)) ≡ g'.due
  goes_as goes = group_due plan names' (flown_as f (left_of_group_by g' g'.due)) g' (by g'.due) ∙ ap (λ l. g'.due ++ l) (goes_alone plan is capacities names room flown rid s stands w x at g has goes) ∙ append-nil g'.due
    where
      by : (l : List Change) → left_of_group_by g' l ≡ Some g'
      by [] = ap (λ v. cond v None (Some g')) (same_builds ∙ goes)
      by (d ∷ ds) = refl
