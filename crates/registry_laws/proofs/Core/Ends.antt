-- an operation may end: a name that it took away, and whose row is to be, has no identifier
use Rattle.std.proofs.Common.{◌≡◌, ◌∙◌, ℕ, List, [], Option, None, Some, Ok, ap, sym, subst}
use Rattle.table_schema.specs.Plan.{IsPlan, Ports}
use Rattle.table_schema.specs.declared.key.Key.{Key}
use Rattle.sai_types.specs.declared.ids.Rid.{Rid}
use Rattle.sai_types.specs.declared.ids.Vid.{Vid}
use Rattle.switch_machine.specs.Events.{SwitchState, placed_good}
use Rattle.ref_counts.specs.Registry.{Names}
use Rattle.ref_counts.specs.Room.{RoomState}
use Rattle.orch_flight.specs.Operation.{Operation}
use Rattle.orch_flight.specs.Sharing.{MayStart}
use Rattle.orch_flight.specs.Starting.{IsStartedBy}
use Rattle.registry_laws.specs.Ending.{MayEnd}
use Rattle.registry_laws.specs.Flown.{Flown, due_for}
use Rattle.registry_laws.specs.Flying.{flown_as}
use Rattle.registry_laws.specs.Making.{TookFor}
use Rattle.registry_laws.specs.Standing.{HasBegun, IsNotFlown, StandsFor}
use Rattle.registry_laws.proofs.Dues.{due_none}
use Rattle.registry_laws.proofs.Core.Coming.{ends_took, may_started}

module _ (plan : Ports) (is : IsPlan plan) (capacities : List ℕ) (names : Names) (room : RoomState) (flown : ℕ → Option Flown) (rid : Vid → Option Rid) (s : SwitchState) (stands : StandsFor plan capacities names room flown rid s) (w : ℕ) (names' : Names) where
  -- one that has started
  pub started-ends : (room' : RoomState) (numbers : List ℕ) (k : Key) (f : Operation) → flown w ≡ None → IsNotFlown flown k → MayStart plan names w k (s.machine.board.applied k) (placed_good plan s.machine.board s.written k) → IsStartedBy plan names room numbers w k (s.machine.board.applied k) (placed_good plan s.machine.board s.written k) (Ok f) names' room' → due_for plan names' (flown_as f None) ≡ [] → MayEnd names' w k (placed_good plan s.machine.board s.written k)
  started-ends room' numbers k f free un may starts empty = subst (λ z. MayEnd z w k (placed_good plan s.machine.board s.written k)) (sym starts.2) (may_started plan is capacities names room flown rid s stands w k (placed_good plan s.machine.board s.written k) may (sym (ap (λ (z : Operation). z.due) starts.1) ∙ (due_none plan names' f empty).0))

  -- and one whose last answer was taken
  pub took-ends : (x x' : Flown) (made : Option Vid) → flown w ≡ Some x → HasBegun plan names x → TookFor x.operation x.group made names x' names' → due_for plan names' x' ≡ [] → MayEnd names' w x'.operation.key x'.operation.new
  took-ends x x' made there begun took empty = ends_took plan is capacities names room flown rid s stands w x x' there made names' begun took empty
