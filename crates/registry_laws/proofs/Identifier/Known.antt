-- what has a name has one identifier
use Rattle.std.proofs.Common.{◌≡◌, ◌∙◌, inl, inr, ℕ, Bool, true, false, cond, List, [], ◌∷◌, Option, None, refl, sym, ap, subst}
use Rattle.std.proofs.lemmas.Option.{same_Some}
use Rattle.table_schema.specs.Plan.{Ports}
use Rattle.sai_types.specs.declared.weight.WHop.{WHop}
use Rattle.sai_types.specs.declared.ids.Vid.{Vid}
use Rattle.sai_types.specs.Names as thing_name
use Rattle.ref_counts.specs.declared.name.Name.TheVariants as name
use Rattle.ref_counts.specs.declared.name.NameState.TheVariants as state
use Rattle.ref_counts.specs.Registered.{first_of}
use Rattle.ref_counts.specs.Registry.{Names, ids_of, registered_at, state_of}
use Rattle.orch_flight.specs.Calling.{HasVid, member_vid, members_ids}
use Rattle.orch_flight.specs.Grouping.{GroupOperation, HasGroupVid, group_ids}
use Rattle.registry_laws.specs.Flown.{Flown}
use Rattle.registry_laws.proofs.Listing.{not_some}
use Rattle.registry_laws.specs.Identified.{BuildsGroups, IsUnderWay, IsVidOf}
use Rattle.registry_laws.proofs.Identifier.Ids.{building_in}

-- ---- a name that is built has no identifier yet

pub no_ids : (names : Names) (hops : List WHop) (w : ℕ) → state_of names (name.Group hops) ≡ state.Building w → ids_of names (name.Group hops) ≡ []
no_ids names hops w h = building_in (registered_at names (name.Group hops)) w h

pub no_member_vid : (hops : List WHop) (hop : WHop) → member_vid hops hop [] ≡ None
no_member_vid [] hop = refl
no_member_vid (h ∷ hops) hop = refl

module _ (plan : Ports) (names : Names) where
  -- what has an identifier of the registry is not of a group that is built
  built_or : (g : GroupOperation) (n : thing_name.ThingName) (v u : Vid) → ids_of names (name.Group g.hops) ≡ [] → HasVid plan names n v → HasGroupVid plan names g n u → v ≡ u
  built_or g (thing_name.Group hops) v u none x y =
      let here : ids_of names (name.Group hops) ≡ [] = ap (λ z. ids_of names (name.Group z)) y.0 ∙ none in
      not_some v (sym (ap (λ z. first_of z) here) ∙ x)
  built_or g (thing_name.GroupMember hops hop) v u none x y =
      let here : ids_of names (name.Group hops) ≡ [] = ap (λ z. ids_of names (name.Group z)) y.0 ∙ none in
      not_some v (sym (no_member_vid hops hop) ∙ sym (ap (λ z. member_vid hops hop (members_ids z)) here) ∙ x)
  built_or g _ v u none x y = same_Some v u (sym x ∙ y)

  -- a group that goes has the registry's identifiers
  pub group_goes : (g : GroupOperation) (n : thing_name.ThingName) (v : Vid) → g.builds ≡ false → HasGroupVid plan names g n v → HasVid plan names n v
  group_goes g (thing_name.Group hops) v goes x =
      let ids : group_ids names g ≡ ids_of names (name.Group g.hops) = ap (λ b. cond b g.made (ids_of names (name.Group g.hops))) goes in
      ap (λ z. first_of (ids_of names (name.Group z))) x.0 ∙ sym (ap (λ z. first_of z) ids) ∙ x.1
  group_goes g (thing_name.GroupMember hops hop) v goes x =
      let ids : group_ids names g ≡ ids_of names (name.Group g.hops) = ap (λ b. cond b g.made (ids_of names (name.Group g.hops))) goes in
      ap (λ z. member_vid hops hop (members_ids (ids_of names (name.Group z)))) x.0 ∙ sym (ap (λ z. member_vid hops hop (members_ids z)) ids) ∙ x.1
  group_goes g _ v goes x = x

  -- two operations of one group are one
  one_built : (g h : GroupOperation) (n : thing_name.ThingName) (v u : Vid) → (g.hops ≡ h.hops → g ≡ h) → HasGroupVid plan names g n v → HasGroupVid plan names h n u → v ≡ u
  one_built g h (thing_name.Group hops) v u one x y =
      let same = one (sym x.0 ∙ y.0) in
      same_Some v u (sym x.1 ∙ ap (λ z. first_of (group_ids names z)) same ∙ y.1)
  one_built g h (thing_name.GroupMember hops hop) v u one x y =
      let same = one (sym x.0 ∙ y.0) in
      same_Some v u (sym x.1 ∙ ap (λ z. member_vid hops hop (members_ids (group_ids names z))) same ∙ y.1)
  one_built g h _ v u one x y = same_Some v u (sym x ∙ y)

  module _ (flown : ℕ → Option Flown) (builds : BuildsGroups names flown) where
    pub one_way : (w : ℕ) (g h : GroupOperation) → IsUnderWay flown w g → IsUnderWay flown w h → g ≡ h
    one_way w g h x y =
        let same = same_Some x.0 y.0 (sym x.1 ∙ y.1) in
        same_Some g h (sym x.2 ∙ ap (λ (z : Flown). z.group) same ∙ y.2)

    pub workers_one : (w v : ℕ) → state.Building w ≡ state.Building v → w ≡ v
    workers_one w v h = cc

    -- a group is built by one operation
    pub builds_one : (w v : ℕ) (g h : GroupOperation) → IsUnderWay flown w g → g.builds ≡ true → IsUnderWay flown v h → h.builds ≡ true → g.hops ≡ h.hops → g ≡ h
    builds_one w v g h x a y b same =
        let workers = workers_one w v (sym (builds.building w g x a) ∙ ap (λ z. state_of names (name.Group z)) same ∙ builds.building v h y b) in
        one_way v g h (subst (λ z. IsUnderWay flown z g) workers x) y

    pub vid_one : (n : thing_name.ThingName) (v u : Vid) → HasVid plan names n v → IsVidOf plan names flown n u → v ≡ u
    vid_one n v u x (inl y) = same_Some v u (sym x ∙ y)
    vid_one n v u x (inr y) = built_or y.group n v u (no_ids names y.group.hops y.worker (builds.building y.worker y.group y.under_way y.builds)) x y.of

    -- the same of the identifiers that a group's operation has
    pub group_vid_one : (w : ℕ) (g : GroupOperation) → IsUnderWay flown w g → (n : thing_name.ThingName) (v u : Vid) → HasGroupVid plan names g n v → IsVidOf plan names flown n u → v ≡ u
    group_vid_one w g at n v u x y = by g.builds refl y
      where
        by : (b : Bool) → g.builds ≡ b → IsVidOf plan names flown n u → v ≡ u
        by false e z = vid_one n v u (group_goes g n v e x) z
        by true e (inl z) = sym (built_or g n u v (no_ids names g.hops w (builds.building w g at e)) z x)
        by true e (inr z) = one_built g z.group n v u (λ same. builds_one w z.worker g z.group at e z.under_way z.builds same) x z.of
