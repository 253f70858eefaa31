-- what workers have under way stands for the machine when an answer was taken, told by the worker
use Rattle.std.proofs.Common.{◌≡◌, ◌∷◌, ◌∙◌, ℕ, true, false, List, [], Option, None, Some, is_some, refl, sym, ap, subst}
use Rattle.table_schema.specs.Plan.{IsPlan, Ports}
use Rattle.table_schema.specs.declared.key.Key.{Key}
use Rattle.sai_types.specs.declared.ids.Rid.{Rid}
use Rattle.sai_types.specs.declared.ids.Vid.{Vid}
use Rattle.sai_types.specs.declared.thing.Thing.{Thing}
use Rattle.switch_model.specs.Placed.{Placed as Row}
use Rattle.row_layout.specs.Operations.{Change}
use Rattle.row_layout.specs.Rows.{Owner}
use Rattle.switch_machine.specs.Consistent.{IsConsistent}
use Rattle.switch_machine.specs.Events.{Follows}
use Rattle.switch_machine.specs.Flights.{Machine, put}
use Rattle.switch_machine.specs.Steps.{Moves, moved}
use Rattle.ref_counts.specs.Registry.{Names}
use Rattle.ref_counts.specs.Room.{GivesBack, RoomState}
use Rattle.orch_flight.specs.Grouping.{GroupOperation, IsGroupTook}
use Rattle.orch_flight.specs.Operation.{Operation}
use Rattle.orch_flight.specs.Taking.{IsTook, operation_by}
use Rattle.registry_laws.specs.Ending.{ended_names}
use Rattle.registry_laws.specs.Flown.{Flown, due_for, flight_of, group_to_build, group_to_take}
use Rattle.registry_laws.specs.Flying.{KnowsBoard, flown_as}
use Rattle.registry_laws.proofs.GroupReplied as group
use Rattle.registry_laws.proofs.Replied as row

-- the operation has the key and the new row that it had
kept_key : (names : Names) (p : Operation) (c : Change) (rest : List Change) (leaves : Option Owner) → ((operation_by names p c rest leaves).key ≡ p.key) × ((operation_by names p c rest leaves).new ≡ p.new)
kept_key names p c [] (Some o) = (refl, refl)
kept_key names p c [] None = (refl, refl)
kept_key names p c (d ∷ ds) leaves = (refl, refl)

module _ (plan : Ports) (is : IsPlan plan) (capacities : List ℕ) (m : Machine) (sound : IsConsistent plan m) (names : Names) (room : RoomState) (flown : ℕ → Option Flown) (board : KnowsBoard plan capacities names room flown m) (w : ℕ) (x : Flown) (at : flown w ≡ Some x) (c : Change) (cs : List Change) (stands : List (Rid × Thing)) (moves : Moves m w (flight_of x.operation) c cs stands) (made : Option Vid) where
  abbrev p : Operation
  p = x.operation

  here : p.worker ≡ w
  here = (board.flying w x at).worker

  its_at : flown p.worker ≡ Some x
  its_at = ap flown here ∙ at

  abbrev Moving : ℕ → Type 0
  Moving v = Moves m v (flight_of p) c cs stands

  abbrev On : Option Flown → Names → RoomState → ℕ → Type 0
  On y ns r v = (t : Machine) × Follows plan v (moved m v cs stands) t × (t.stands ≡ stands) × KnowsBoard plan capacities ns r (put v y flown) t

  abbrev Ended : Names → Key → Option Row → RoomState → ℕ → Type 0
  Ended ns k new r v = (t : Machine) × Follows plan v (moved m v cs stands) t × (t.stands ≡ stands) × KnowsBoard plan capacities (ended_names ns v k (m.board.applied k) new) r (put v None flown) t

  module _ (none : x.group ≡ None) (builds : group_to_build plan names p ≡ None) (takes : group_to_take p ≡ None) (f : Operation) (names' : Names) (took : IsTook p made names f names') where
    pub row_goes_on : (due_for plan names' (flown_as f None) ≡ [] → ⊥) → On (Some (flown_as f None)) names' room w
    row_goes_on some =
        subst (λ v. Moving v → On (Some (flown_as f None)) names' room v) here
        (λ moving. row.row_goes_on plan is capacities m sound names room flown board x its_at none builds takes c cs stands moving made f names' took some) moves

    pub row_ends : (given : RoomState) → due_for plan names' (flown_as f None) ≡ [] → GivesBack room w given → Ended names' f.key f.new given w
    row_ends given empty gives = subst (λ k. Ended names' k f.new given w) (sym key) (subst (λ n. Ended names' p.key n given w) (sym new) ended)
      where
        key : f.key ≡ p.key
        key = ap (λ (z : Operation). z.key) took.operation ∙ (kept_key _ p took.change took.rest p.leaves).0

        new : f.new ≡ p.new
        new = ap (λ (z : Operation). z.new) took.operation ∙ (kept_key _ p took.change took.rest p.leaves).1

        ended : Ended names' p.key p.new given w
        ended =
            subst (λ v. Moving v → GivesBack room v given → Ended names' p.key p.new given v) here
            (λ moving back. row.row_ends plan is capacities m sound names room flown board x its_at none builds takes c cs stands moving made f names' took given empty back) moves gives

  module _ (part : GroupOperation) (has : x.group ≡ Some part) (part' : GroupOperation) (names' : Names) (took : IsGroupTook part made names part' names') where
    pub group_goes_on : is_some made ≡ part.builds → (part'.due ≡ [] → ⊥) → On (Some (flown_as p (Some part'))) names' room w
    group_goes_on number some =
        subst (λ v. Moving v → On (Some (flown_as p (Some part'))) names' room v) here
        (λ moving. group.part_goes_on plan is capacities m sound names room flown board x its_at part has c cs stands moving made part' names' took number some) moves

    pub group_is_built : part.builds ≡ true → part'.due ≡ [] → On (Some (flown_as p None)) names' room w
    group_is_built builds empty =
        subst (λ v. Moving v → On (Some (flown_as p None)) names' room v) here
        (λ moving. group.part_built plan is capacities m sound names room flown board x its_at part has c cs stands moving made part' names' took builds empty) moves

    pub group_is_gone : part.builds ≡ false → part'.due ≡ [] → (given : RoomState) → GivesBack room w given → Ended names' p.key p.new given w
    group_is_gone goes empty given gives =
        subst (λ v. Moving v → GivesBack room v given → Ended names' p.key p.new given v) here
        (λ moving back. group.part_gone plan is capacities m sound names room flown board x its_at part has c cs stands moving made part' names' took goes empty given back) moves gives
