-- the registry has the identifiers that the operation of a group needs
use Rattle.std.proofs.Common.{◌≡◌, ◌⊎◌, ◌∷◌, ◌∙◌, inl, inr, ℕ, suc, true, false, List, [], map, length, Option, Some, is_some, option_map, refl, sym, ap, subst}
use Rattle.std.specs.List.{AllByRecursion}
use Rattle.swss_types.proofs.Truths.{true_not_false}
use Rattle.swss_types.proofs.Proper.{mapped}
use Rattle.table_schema.specs.Plan.{IsPlan, Ports}
use Rattle.table_schema.specs.declared.key.Key.{Key}
use Rattle.table_schema.specs.declared.key.Key.TheVariants as key
use Rattle.sai_types.specs.declared.weight.WHop.{WHop}
use Rattle.sai_types.specs.declared.ids.Rid.{Rid}
use Rattle.sai_types.specs.declared.ids.Vid.{Vid}
use Rattle.sai_types.specs.declared.thing.Thing.TheVariants as thing
use Rattle.sai_types.specs.Alike.{IsIn}
use Rattle.sai_types.specs.Names as thing_name
use Rattle.sai_types.specs.Names.{ThingName, name_kind, name_of}
use Rattle.sai_types.proofs.Membership.{all-in}
use Rattle.chip_layout.specs.Bodies.{is_numbered}
use Rattle.chip_layout.proofs.Answering.{those_in}
use Rattle.switch_model.specs.Placed.{Placed as Row}
use Rattle.row_layout.specs.Operations.{Change, Take, uses_of}
use Rattle.row_layout.specs.Rows as owner
use Rattle.row_layout.specs.Rows.{Owner, interface_on}
use Rattle.row_layout.specs.Shared.{uses}
use Rattle.switch_machine.specs.Consistent.{IsConsistent}
use Rattle.switch_machine.specs.Flights.{MachineFlight, HasName, IsOwnedBy, Machine, Runs, StandsIn}
use Rattle.switch_machine.specs.Tables.{IsNamed, TableLaws}
use Rattle.switch_machine.proofs.Moving.{fit_of}
use Rattle.switch_machine.proofs.Splits.{use_row_in}
use Rattle.switch_machine.proofs.Tabled.{in_members, tabled}
use Rattle.ref_counts.specs.declared.name.Name.TheVariants as name
use Rattle.ref_counts.specs.declared.name.NameState.TheVariants as state
use Rattle.ref_counts.specs.Registry.{Names, ids_of, state_of}
use Rattle.orch_flight.specs.Calling.{HasVid, row_vid}
use Rattle.orch_flight.specs.Grouping.{GroupOperation, IsGroupOver, KnowsGroupIds, neighbour_keys}
use Rattle.registry_laws.specs.Flown.{Flown}
use Rattle.registry_laws.proofs.Listing.{map_in}
use Rattle.registry_laws.specs.Identified.{BuildsGroups, HasWholeGroups, Identified, IsVidOf}
use Rattle.registry_laws.proofs.Identifier.Knowing.{row_built_by_none, standing_vid}
use Rattle.registry_laws.proofs.Identifier.Owning.{built_hops, group_numbered, no_group_vid}
use Rattle.registry_laws.proofs.Identifier.Needing.{IsKnown}

module _ (plan : Ports) (is : IsPlan plan) (m : Machine) (sound : IsConsistent plan m) (names : Names) (rid : Vid → Option Rid) (flown : ℕ → Option Flown) (known : Identified plan names rid flown m.stands) where
  T : TableLaws plan
  T = tabled plan is

  module _ (w : ℕ) (f : MachineFlight) (flying : m.board.flights w ≡ Some f) where
    -- the next hop of each hop of a group that the new row uses
    hop_vid : (hops : List WHop) → IsIn (owner.Group hops) (uses_of plan f.key f.new) → (hop : WHop) → IsIn hop hops → (v : Vid) × HasVid plan names (thing_name.NextHop hop.hop) v
    hop_vid hops used hop i = by (use_row_in plan f.key f.new (owner.Group hops) used)
      where
        leads : (r : Row) → f.new ≡ Some r → IsNamed plan f.key r (thing_name.NextHop hop.hop) ⊎ IsOwnedBy plan (thing_name.NextHop hop.hop) (owner.Group hops) → (v : Vid) × HasVid plan names (thing_name.NextHop hop.hop) v
        leads r new (inl x) =
            let firm = sound.board.named f.key x.by r (inr (w, f, flying, refl, new)) x.named in
            standing_vid plan is m sound names rid flown known (thing_name.NextHop hop.hop) (owner.OfRow x.by) refl tt (T.names_own x.by (thing_name.NextHop hop.hop) x.own) (row_built_by_none plan is m sound names rid flown known x.by) (sound.present x.by (thing_name.NextHop hop.hop) firm x.own)
        leads r new (inr of) = let x = mapped (λ n. owner.OfRow (key.Neigh n hop.hop.ip)) (interface_on plan hop.hop.on) (owner.Group hops) of in absurd (no_group (key.Neigh x.0 hop.hop.ip) hops x.2)
          where
            no_group : (k : Key) (hops : List WHop) → owner.OfRow k ≡ owner.Group hops → ⊥
            no_group k hops e = cc

        by : (r : Row) × (f.new ≡ Some r) × IsIn (owner.Group hops) (uses plan f.key r) → (v : Vid) × HasVid plan names (thing_name.NextHop hop.hop) v
        by (r, new, h) = leads r new (T.shared_refers f.key r (owner.Group hops) (thing.GroupMember hops hop) (thing_name.NextHop hop.hop) (fit_of plan T m sound w f flying r new) h (inr (in_members hops hops hop i)) (inr (inl refl)))

    pub building_known : (g : GroupOperation) → g.builds ≡ true → IsGroupOver plan g → IsIn (owner.Group g.hops) (uses_of plan f.key f.new) → KnowsGroupIds names g
    building_known g builds over used = record {
      neighbours = λ b. subst (AllByRecursion (λ k. IsKnown names (name.Row k))) (sym (over b).0) (all-in (λ k. IsKnown names (name.Row k)) (neighbour_keys plan g.hops) each);
      group = λ b. true_not_false g.builds builds b;
    }
      where
        key_of : WHop → Option Key
        key_of h = option_map (λ n. key.Neigh n h.hop.ip) (interface_on plan h.hop.on)

        each : (k : Key) → IsIn k (neighbour_keys plan g.hops) → IsKnown names (name.Row k)
        each k i = by (map_in key_of (Some k) g.hops (those_in k (map key_of g.hops) i))
          where
            by : (h : WHop) × IsIn h g.hops × (Some k ≡ key_of h) → IsKnown names (name.Row k)
            by (h, at, e) = let v = hop_vid g.hops used h at in ap is_some (ap (row_vid names) e ∙ v.1)

    pub going_known : (g : GroupOperation) → g.builds ≡ false → BuildsGroups names flown → state_of names (name.Group g.hops) ≡ state.Retiring w → HasWholeGroups names → (n : ThingName) (rest : List Change) → m.due w ≡ Take n ∷ rest → IsOwnedBy plan n (owner.Group g.hops) → KnowsGroupIds names g
    going_known g goes builds retiring whole n rest due of = record { neighbours = λ b. true_not_false g.builds b goes; group = λ b. by (whole.each g.hops) }
      where
        no_state : (v : ℕ) → state.Building v ≡ state.Retiring w → ⊥
        no_state v e = cc

        none_here : (v : Vid) → ids_of names (name.Group g.hops) ≡ [] → IsVidOf plan names flown n v → ⊥
        none_here v e (inl x) = no_group_vid plan names n g.hops v of e x
        none_here v e (inr x) = no_state x.worker (sym (builds.building x.worker x.group x.under_way x.builds) ∙ sym (ap (λ z. state_of names (name.Group z)) (built_hops plan names x.group n g.hops v of x.of)) ∙ retiring)

        no_thing : ids_of names (name.Group g.hops) ≡ [] → HasName (StandsIn m) n → ⊥
        no_thing e (u, (i, h), same) =
            let x = known.each i u h (ap (λ z. is_numbered (name_kind z)) same ∙ group_numbered plan n g.hops of) in
            none_here x.0 e (subst (λ z. IsVidOf plan names flown z x.0) same x.1)

        by : (ids_of names (name.Group g.hops) ≡ []) ⊎ (length (ids_of names (name.Group g.hops)) ≡ suc (length g.hops)) → length (ids_of names (name.Group g.hops)) ≡ suc (length g.hops)
        by (inr h) = h
        by (inl e) = absurd (no_thing e (subst (Runs plan f (StandsIn m)) due (sound.runs w f flying)).0.there)
