-- the operation of a group begins
use Rattle.std.proofs.Common.{◌≡◌, ◌∙◌, inl, inr, ℕ, true, false, List, Option, None, Some, refl, sym, ap, subst}
use Rattle.std.proofs.Math.Path.{fun_ext}
use Rattle.std.proofs.lemmas.Option.{same_Some}
use Rattle.table_schema.specs.Plan.{Ports}
use Rattle.sai_types.specs.declared.weight.WHop.{WHop}
use Rattle.sai_types.specs.declared.ids.Rid.{Rid}
use Rattle.sai_types.specs.declared.ids.Vid.{Vid}
use Rattle.switch_machine.specs.Events.{SwitchState}
use Rattle.switch_machine.specs.Flights.{put}
use Rattle.switch_machine.proofs.Splits.{IsSplit, nat_split, put_at, put_off}
use Rattle.ref_counts.specs.Registry.{Names}
use Rattle.ref_counts.specs.Room.{RoomState}
use Rattle.orch_flight.specs.Grouping.{GroupOperation, first_group}
use Rattle.orch_flight.specs.Operation.{Operation}
use Rattle.registry_laws.specs.Flown.{Flown, group_to_build, group_to_take}
use Rattle.registry_laws.specs.Flying.{KnowsBoard, flown_as}
use Rattle.registry_laws.specs.Making.{group_begun, group_or, with_group_begun}
use Rattle.registry_laws.proofs.Grouped.{builds_begun, takes_begun}
use Rattle.registry_laws.specs.Identified.{IsUnderWay}
use Rattle.registry_laws.proofs.Identifier.Staying.{flown_identified, puts_kept}
use Rattle.registry_laws.specs.Standing.{HasBegun, StandsFor}

-- what a worker has under way is put in its own place
put_same : (w : ℕ) (x : Flown) (flown : ℕ → Option Flown) → flown w ≡ Some x → put w (Some x) flown ≡ flown
put_same w x flown at = fun_ext (λ v. by v (nat_split v w))
  where
    by : (v : ℕ) → IsSplit v w → put w (Some x) flown v ≡ flown v
    by v (inl same) = put_at w v (Some x) flown same ∙ sym (ap flown same ∙ at)
    by v (inr apart) = put_off w v (Some x) flown apart

or_twice : (g h : Option GroupOperation) → group_or g h ≡ group_or (group_or g h) h
or_twice None None = refl
or_twice None (Some h) = refl
or_twice (Some g) h = refl

pub begun_once : (plan : Ports) (names : Names) (x : Flown) → HasBegun plan names (with_group_begun plan names x)
begun_once plan names x = ap (flown_as x.operation) (or_twice x.group (group_begun plan x.operation.worker (group_to_build plan names x.operation) (group_to_take x.operation)))

module _ (plan : Ports) (capacities : List ℕ) (names : Names) (room : RoomState) (flown : ℕ → Option Flown) (rid : Vid → Option Rid) (s : SwitchState) (stands : StandsFor plan capacities names room flown rid s) (w : ℕ) (x : Flown) (at : flown w ≡ Some x) where
  abbrev f : Operation
  f = x.operation

  abbrev Now : Option GroupOperation → Type 0
  Now g = KnowsBoard plan capacities names room (put w (Some (flown_as f g)) flown) s.machine

  abbrev begins : Option (List WHop) → Option (List WHop) → Option GroupOperation
  begins builds takes = group_begun plan f.worker builds takes

  its_worker : f.worker ≡ w
  its_worker = (stands.board.flying w x at).worker

  same : Now x.group
  same = subst (λ fl. KnowsBoard plan capacities names room fl s.machine) (sym (put_same w x flown at)) stands.board

  begun_none : x.group ≡ None → (b t : Option (List WHop)) → group_to_build plan names f ≡ b → group_to_take f ≡ t → Now (begins b t)
  begun_none none (Some hops) t builds takes = subst (λ v. Now (Some (first_group plan v hops true))) (sym its_worker) (builds_begun plan capacities names room flown s.machine stands.board w x at hops none builds)
  begun_none none None (Some hops) builds takes = subst (λ v. Now (Some (first_group plan v hops false))) (sym its_worker) (takes_begun plan capacities names room flown s.machine stands.board w x at hops none builds takes)
  begun_none none None None builds takes = subst Now none same

  board_begun : (g : Option GroupOperation) → x.group ≡ g → Now (group_or g (begins (group_to_build plan names f) (group_to_take f)))
  board_begun None e = begun_none e (group_to_build plan names f) (group_to_take f) refl refl
  board_begun (Some g) e = subst Now e same

  pub stands_begun : StandsFor plan capacities names room (put w (Some (with_group_begun plan names x)) flown) rid s
  stands_begun = record {
    safe = stands.safe;
    board = board_begun x.group refl;
    identified = flown_identified plan names rid flown s.machine.stands stands.identified (put w (Some (with_group_begun plan names x)) flown) (puts_kept flown w (Some (with_group_begun plan names x)) (λ g here builds. (with_group_begun plan names x, refl, kept g here)));
    whole = stands.whole;
    interfaces = stands.interfaces;
  }
    where
      kept : (g : GroupOperation) → IsUnderWay flown w g → group_or x.group (begins (group_to_build plan names f) (group_to_take f)) ≡ Some g
      kept g here =
          let one = same_Some here.0 x (sym here.1 ∙ at) in
          ap (λ z. group_or z (begins (group_to_build plan names f) (group_to_take f))) (ap (λ (z : Flown). z.group) (sym one) ∙ here.2)
