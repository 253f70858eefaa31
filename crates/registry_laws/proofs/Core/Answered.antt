-- all stands for the state when the next call of what a worker has under way has taken effect
use Rattle.std.proofs.Common.{◌≡◌, ℕ, List, Option, None, Some, is_some, refl, sym, subst}
use Rattle.table_schema.specs.Plan.{IsPlan, Ports}
use Rattle.sai_types.specs.declared.body.Call.{Call}
use Rattle.sai_types.specs.declared.ids.Rid.{Rid}
use Rattle.sai_types.specs.declared.ids.Vid.{Vid}
use Rattle.sai_types.specs.After.{makes_id}
use Rattle.chip_layout.specs.Layout.{next_rid}
use Rattle.switch_machine.specs.Events.{SwitchState}
use Rattle.ref_counts.specs.Registry.{Names}
use Rattle.ref_counts.specs.Room.{RoomState}
use Rattle.orch_flight.specs.Grouping.{GroupOperation}
use Rattle.registry_laws.specs.Flown.{Flown}
use Rattle.registry_laws.specs.Making.{IsNextCall, TookFor}
use Rattle.registry_laws.specs.Calls.{TiesFollowCall}
use Rattle.registry_laws.specs.Standing.{HasBegun, StandsFor}
use Rattle.registry_laws.proofs.Core.GroupAnswered.{group_answered}
use Rattle.registry_laws.proofs.Core.Making.{Both}
use Rattle.registry_laws.proofs.Core.RowAnswered.{row_answered}

module _ (plan : Ports) (is : IsPlan plan) (capacities : List ℕ) (names : Names) (room : RoomState) (flown : ℕ → Option Flown) (rid : Vid → Option Rid) (s : SwitchState) (stands : StandsFor plan capacities names room flown rid s) (w : ℕ) (x : Flown) (at : flown w ≡ Some x) (c : Call Vid) (made : Option Vid) (rid' : Vid → Option Rid) (number : is_some made ≡ makes_id c) (ties : TiesFollowCall rid rid' c made (next_rid s.made)) (begun : HasBegun plan names x) (told : IsNextCall plan names x.operation x.group c) (x' : Flown) (names' : Names) (took : TookFor x.operation x.group made names x' names') where
  pub answered : Both plan capacities rid rid' flown room s w c names' x'
  answered = by x.group refl
    where
      by : (g : Option GroupOperation) → x.group ≡ g → Both plan capacities rid rid' flown room s w c names' x'
      by None e =
          let z = subst (λ g. TookFor x.operation g made names x' names') e took in
          subst (Both plan capacities rid rid' flown room s w c names') (sym z.2) (row_answered plan is capacities names room flown rid s stands w x at c made rid' number ties begun e (subst (λ g. IsNextCall plan names x.operation g c) e told) z.0 names' z.1)
      by (Some g) e =
          let z = subst (λ g. TookFor x.operation g made names x' names') e took in
          subst (Both plan capacities rid rid' flown room s w c names') (sym z.2) (group_answered plan is capacities names room flown rid s stands w x at c made rid' number ties g e (subst (λ g. IsNextCall plan names x.operation g c) e told) z.0 names' z.1)
