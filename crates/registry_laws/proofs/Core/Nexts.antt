-- what is due next for a worker, and that the registry has the identifiers for it
use Rattle.std.proofs.Common.{◌≡◌, ◌<◌, ◌∷◌, ◌++◌, ◌∙◌, inl, inr, ℕ, Bool, true, false, List, [], Option, None, Some, refl, sym, ap, subst}
use Rattle.table_schema.specs.Plan.{IsPlan, Ports}
use Rattle.sai_types.specs.declared.weight.WHop.{WHop}
use Rattle.sai_types.specs.declared.ids.Rid.{Rid}
use Rattle.sai_types.specs.declared.ids.Vid.{Vid}
use Rattle.sai_types.specs.declared.thing.Thing.{Thing}
use Rattle.sai_types.specs.Alike.{IsIn}
use Rattle.sai_types.specs.Names.{ThingName}
use Rattle.sai_types.proofs.Membership.{in-right}
use Rattle.row_layout.specs.Operations.{Change, Make, Take}
use Rattle.row_layout.specs.Rows as owner
use Rattle.row_layout.specs.Shared.{shared_things}
use Rattle.switch_machine.specs.Changes.{changed_name}
use Rattle.switch_machine.specs.Consistent.{IsConsistent}
use Rattle.switch_machine.specs.Events.{SwitchState}
use Rattle.switch_machine.specs.Flights.{IsOwnedBy, Machine}
use Rattle.switch_machine.proofs.Tabled.{tabled}
use Rattle.switch_machine.proofs.Beginning.{take_in}
use Rattle.ref_counts.specs.declared.name.Name.TheVariants as name
use Rattle.ref_counts.specs.declared.name.NameState.TheVariants as state
use Rattle.ref_counts.specs.Registry.{Names, state_of}
use Rattle.ref_counts.specs.Room.{RoomState}
use Rattle.orch_flight.specs.Calling.{KnowsIds, knows_for}
use Rattle.orch_flight.specs.Grouping.{GroupOperation, KnowsGroupIds, first_group, first_group_due}
use Rattle.orch_flight.specs.Operation.{Operation}
use Rattle.orch_flight.specs.Starting.{taken_here}
use Rattle.registry_laws.specs.Answering.{IsOfGroup}
use Rattle.registry_laws.specs.Flown.{Flown, flight_of, group_to_build, group_to_take}
use Rattle.registry_laws.specs.Flying.{IsFlown, IsGroupFlown, IsRestFrom}
use Rattle.registry_laws.specs.Making.{KnowsNext, group_begun, group_or}
use Rattle.registry_laws.proofs.Grouped.{built_use}
use Rattle.registry_laws.proofs.Listing.{not_some}
use Rattle.registry_laws.proofs.Parting.{removals_of}
use Rattle.registry_laws.proofs.Rests.{none_of_group, rest_order}
use Rattle.registry_laws.proofs.Settled.{nothing_behind}
use Rattle.registry_laws.proofs.Taking.{group_due, made_in, may_take_group, row_due}
use Rattle.registry_laws.specs.Identified.{BuildsGroups, IsUnderWay}
use Rattle.registry_laws.proofs.Identifier.Knowing.{row_known}
use Rattle.registry_laws.proofs.Identifier.Neighbours.{building_known, going_known}
use Rattle.registry_laws.specs.Standing.{HasBegun, StandsFor}
use Rattle.registry_laws.proofs.Core.Parts.{builds_groups, retired_group, to_be_built}

module _ (plan : Ports) (is : IsPlan plan) (capacities : List ℕ) (names : Names) (room : RoomState) (flown : ℕ → Option Flown) (rid : Vid → Option Rid) (s : SwitchState) (stands : StandsFor plan capacities names room flown rid s) (w : ℕ) (x : Flown) (at : flown w ≡ Some x) where
  abbrev pub m : Machine
  m = s.machine

  abbrev pub f : Operation
  f = x.operation

  pub sound : IsConsistent plan m
  sound = stands.safe.sound

  pub its : IsFlown plan names m w x
  its = stands.board.flying w x at

  pub below : w < 4
  below = stands.board.registers.below w (flight_of f) its.flying

  pub builds : BuildsGroups names flown
  builds = builds_groups plan capacities names room flown m stands.board

  -- the changes of the row are of no group
  pub not_grouped : (c : Change) → IsIn c f.due → IsOfGroup plan c → ⊥
  not_grouped c i = none_of_group plan f.key (m.board.applied f.key) f.new f.due c (rest_order plan is (m.board.applied f.key) f (λ r e. sound.board.fit f.key r (inl e)) its.over.new its.rest) i

  -- ---- of a row

  module _ (begun : HasBegun plan names x) (none : x.group ≡ None) where
    begun_is : None ≡ group_begun plan f.worker (group_to_build plan names f) (group_to_take f)
    begun_is = sym none ∙ ap (λ (z : Flown). z.group) begun ∙ ap (λ g. group_or g (group_begun plan f.worker (group_to_build plan names f) (group_to_take f))) none

    -- no group is to be built or taken away
    pub no_group : (group_to_build plan names f ≡ None) × (group_to_take f ≡ None)
    no_group = by (group_to_build plan names f) (group_to_take f) refl refl
      where
        by : (b t : Option (List WHop)) → group_to_build plan names f ≡ b → group_to_take f ≡ t → (group_to_build plan names f ≡ None) × (group_to_take f ≡ None)
        by (Some hops) t e h = not_some (first_group plan f.worker hops true) (begun_is ∙ ap (λ z. group_begun plan f.worker z (group_to_take f)) e)
        by None (Some hops) e h = not_some (first_group plan f.worker hops false) (begun_is ∙ ap (λ z. group_begun plan f.worker z (group_to_take f)) e ∙ ap (group_begun plan f.worker None) h)
        by None None e h = (e, h)

    pub row_due_is : m.due w ≡ f.due
    row_due_is = its.due ∙ row_due plan names x none no_group.0 no_group.1

    pub row_some : f.due ≡ [] → ⊥
    row_some e = stands.board.busy w (flight_of f) its.flying (row_due_is ∙ e)

    pub row_knows : KnowsIds names f
    row_knows = by f.due refl
      where
        no_building : {X : Type 0} (g : GroupOperation) → IsUnderWay flown w g → X
        no_building g (z, there, has) = not_some g (sym none ∙ ap (λ (o : Option Flown). group_in_it o) (sym at ∙ there) ∙ has)
          where
            group_in_it : Option Flown → Option GroupOperation
            group_in_it None = None
            group_in_it (Some z) = z.group

        by : (due : List Change) → f.due ≡ due → KnowsIds names f
        by [] e = subst (knows_for names f.key f.new) (sym e) tt
        by (c ∷ cs) e = subst (knows_for names f.key f.new) (sym e) (row_known plan is m sound names rid flown stands.identified s.objects stands.safe.laid stands.board.registers.names_known builds w (flight_of f) its.flying (λ g u b. no_building g u) c cs (row_due_is ∙ e) (not_grouped c (subst (IsIn c) (sym e) (inl refl))))

  -- ---- of a group

  module _ (g : GroupOperation) (has : x.group ≡ Some g) where
    pub grouped : IsGroupFlown plan names f g
    grouped = its.group g has

    pub group_due_is : m.due w ≡ g.due ++ f.due
    group_due_is = its.due ∙ group_due plan names x g has

    -- what is due is of those that build it, or of those that take it away
    pub in_first : (b : Bool) → g.builds ≡ b → (c : Change) → IsIn c g.due → IsIn c (first_group_due g.hops b)
    in_first b e c i = subst (λ z. IsIn c (first_group_due g.hops z)) e (subst (IsIn c) (sym grouped.rest.1) (in-right c grouped.rest.0 g.due i))

    pub makes_next : g.builds ≡ true → (c : Change) → IsIn c g.due → (t : Thing) × IsIn t (shared_things (owner.Group g.hops)) × (c ≡ Make t)
    makes_next b c i = made_in (shared_things (owner.Group g.hops)) c (in_first true b c i)

    pub takes_next : g.builds ≡ false → (c : Change) → IsIn c g.due → (n : ThingName) × (c ≡ Take n)
    takes_next goes c i = let z = take_in _ c (in_first false goes c i) in (_, z.2)

    pub own_next : (c : Change) → IsIn c g.due → IsOwnedBy plan (changed_name c) (owner.Group g.hops)
    own_next c i = by g.builds refl
      where
        by : (b : Bool) → g.builds ≡ b → IsOwnedBy plan (changed_name c) (owner.Group g.hops)
        by true e = let z = makes_next e c i in subst (λ d. IsOwnedBy plan (changed_name d) (owner.Group g.hops)) (sym z.2) ((tabled plan is).shared (owner.Group g.hops) z.0 z.1)
        by false e = removals_of plan is (owner.Group g.hops) c (in_first false e c i)

    pub retiring : g.builds ≡ false → state_of names (name.Group g.hops) ≡ state.Retiring w
    retiring goes = (may_take_group plan is capacities names room flown m sound stands.board w x at g has None (sym goes)).goes goes ∙ ap state.Retiring (grouped.worker ∙ its.worker)

    group_first : (c : Change) × (rest : List Change) × (g.due ≡ c ∷ rest)
    group_first = by g.due refl
      where
        by : (due : List Change) → g.due ≡ due → (c : Change) × (rest : List Change) × (g.due ≡ c ∷ rest)
        by [] e = absurd (grouped.some e)
        by (c ∷ cs) e = (c, cs, e)

    pub retires_it : g.builds ≡ false → f.retires ≡ Some (owner.Group g.hops)
    retires_it goes = retired_group plan names f g grouped goes

    -- a group that goes, goes alone
    pub goes_alone : g.builds ≡ false → f.due ≡ []
    goes_alone goes = by its.rest
      where
        by : IsRestFrom plan (m.board.applied f.key) f → f.due ≡ []
        by (inl r) = not_some (owner.Group g.hops) (sym r.0 ∙ retires_it goes)
        by (inr r) = nothing_behind r.0 f.due (sym r.1 ∙ ap taken_here (retires_it goes))

    -- and after one that is built the row's own changes are due
    pub own_later : g.builds ≡ true → f.due ≡ [] → ⊥
    own_later b e = its.later g.hops (to_be_built plan names f g grouped b) e

    pub group_knows : KnowsGroupIds names g
    group_knows = by g.builds refl
      where
        by : (b : Bool) → g.builds ≡ b → KnowsGroupIds names g
        by true e = building_known plan is m sound names rid flown stands.identified w (flight_of f) its.flying g e grouped.over (built_use plan names f g.hops (to_be_built plan names f g grouped e))
        by false e =
            let c = group_first in
            let i : IsIn c.0 g.due = subst (IsIn c.0) (sym c.2) (inl refl) in
            let n = takes_next e c.0 i in
            going_known plan is m sound names rid flown stands.identified w (flight_of f) its.flying g e builds (retiring e) stands.whole n.0 (c.1 ++ f.due)
            (group_due_is ∙ ap (λ l. l ++ f.due) c.2 ∙ ap (λ d. d ∷ (c.1 ++ f.due)) n.1)
            (subst (λ d. IsOwnedBy plan (changed_name d) (owner.Group g.hops)) n.1 (own_next c.0 i))

  pub knows_next : HasBegun plan names x → KnowsNext names f x.group
  knows_next begun = by x.group refl
    where
      by : (g : Option GroupOperation) → x.group ≡ g → KnowsNext names f g
      by None e = row_knows begun e
      by (Some g) e = group_knows g e
