-- the answer of the next call may be taken
use Rattle.std.proofs.Common.{◌≡◌, ◌∙◌, inl, ℕ, Bool, true, false, List, Option, None, Some, is_some, refl, sym, ap, subst}
use Rattle.table_schema.specs.Plan.{IsPlan, Ports}
use Rattle.sai_types.specs.declared.body.Call.{Call}
use Rattle.sai_types.specs.declared.ids.Rid.{Rid}
use Rattle.sai_types.specs.declared.ids.Vid.{Vid}
use Rattle.sai_types.specs.declared.thing.Thing.{Thing}
use Rattle.sai_types.specs.After.{makes_id}
use Rattle.sai_types.specs.Alike.{IsIn}
use Rattle.sai_types.specs.Names.{ThingName, name_of}
use Rattle.chip_layout.specs.Layout.{has_number}
use Rattle.row_layout.specs.Operations.{Make, Take}
use Rattle.row_layout.specs.Rows as owner
use Rattle.row_layout.specs.Shared.{shared_things}
use Rattle.switch_machine.specs.Events.{SwitchState}
use Rattle.switch_machine.proofs.Tabled.{tabled}
use Rattle.ref_counts.specs.Registry.{Names}
use Rattle.ref_counts.specs.Room.{RoomState}
use Rattle.orch_flight.specs.Calling.{IsCallFor, IsMaking}
use Rattle.orch_flight.specs.Grouping.{GroupOperation, HasGroupVid, MayTakeGroup}
use Rattle.orch_flight.specs.Operation.{Operation}
use Rattle.orch_flight.specs.Taking.{MayTake}
use Rattle.registry_laws.specs.Flown.{Flown}
use Rattle.registry_laws.specs.Making.{IsNextCall, MayTakeFor}
use Rattle.registry_laws.proofs.Replied.{same_first}
use Rattle.registry_laws.proofs.Taking.{may_take, may_take_group}
use Rattle.registry_laws.proofs.Identifier.Entering.{made_number}
use Rattle.registry_laws.proofs.Identifier.Owning.{group_numbered}
use Rattle.registry_laws.specs.Standing.{HasBegun, StandsFor}
use Rattle.registry_laws.proofs.Core.Nexts.{makes_next, no_group, takes_next}

-- the call of a thing that is made makes an identifier where its object has one
pub making_number : (has : ThingName → Vid → Type 0) (t : Thing) (c : Call Vid) → IsMaking has t c → makes_id c ≡ has_number t
making_number has t c x = ap makes_id x.is ∙ made_number has t c x.body x x.is

pub taking_number : (has : ThingName → Vid → Type 0) (things : List Thing) (n : ThingName) (c : Call Vid) → IsCallFor has things (Take n) c → makes_id c ≡ false
taking_number has things n c x = ap makes_id x.is

module _ (plan : Ports) (is : IsPlan plan) (capacities : List ℕ) (names : Names) (room : RoomState) (flown : ℕ → Option Flown) (rid : Vid → Option Rid) (s : SwitchState) (stands : StandsFor plan capacities names room flown rid s) (w : ℕ) (x : Flown) (at : flown w ≡ Some x) (c : Call Vid) (made : Option Vid) (number : is_some made ≡ makes_id c) where
  abbrev f : Operation
  f = x.operation

  pub may_take_row : HasBegun plan names x → x.group ≡ None → IsNextCall plan names f None c → MayTake f made names
  may_take_row begun none told =
      let no = no_group plan is capacities names room flown rid s stands w x at begun none in
      may_take plan is capacities names room flown s.machine stands.safe.sound stands.board w x at stands.interfaces none no.0 no.1 made
      (λ t rest due. number ∙ making_number _ t c (subst (λ d. IsCallFor _ _ d c) (same_first told.0 (Make t) told.1 rest (sym told.2 ∙ due)) told.3))

  module _ (g : GroupOperation) (has : x.group ≡ Some g) (told : IsNextCall plan names f (Some g) c) where
    first_due : IsIn told.0 g.due
    first_due = subst (IsIn told.0) (sym told.2) (inl refl)

    pub group_number : is_some made ≡ g.builds
    group_number = by g.builds refl
      where
        by : (b : Bool) → g.builds ≡ b → is_some made ≡ g.builds
        by true e =
            let z = makes_next plan is capacities names room flown rid s stands w x at g has e told.0 first_due in
            let numbered : has_number z.0 ≡ true = group_numbered plan (name_of z.0) g.hops ((tabled plan is).shared (owner.Group g.hops) z.0 z.1) in
            number ∙ making_number (HasGroupVid plan names g) z.0 c (subst (λ d. IsCallFor (HasGroupVid plan names g) (shared_things (owner.Group g.hops)) d c) z.2 told.3) ∙ numbered ∙ sym e
        by false e =
            let z = takes_next plan is capacities names room flown rid s stands w x at g has e told.0 first_due in
            number ∙ taking_number (HasGroupVid plan names g) (shared_things (owner.Group g.hops)) z.0 c (subst (λ d. IsCallFor (HasGroupVid plan names g) (shared_things (owner.Group g.hops)) d c) z.1 told.3) ∙ sym e

    pub may_take_part : MayTakeGroup g made names
    may_take_part = may_take_group plan is capacities names room flown s.machine stands.safe.sound stands.board w x at g has made group_number

  pub may_take_next : HasBegun plan names x → IsNextCall plan names f x.group c → MayTakeFor f x.group made names
  may_take_next begun told = by x.group refl
    where
      by : (g : Option GroupOperation) → x.group ≡ g → MayTakeFor f g made names
      by None e = may_take_row begun e (subst (λ g. IsNextCall plan names f g c) e told)
      by (Some g) e = may_take_part g e (subst (λ g. IsNextCall plan names f g c) e told)
