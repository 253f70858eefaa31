-- each object that stands has its identifier when the call of a group's operation is made
use Rattle.std.proofs.Common.{◌≡◌, ◌⊎◌, ◌∷◌, ◌++◌, ◌∙◌, inl, inr, ℕ, Bool, true, false, cond, List, [], length, Option, Some, refl, sym, ap, subst}
use Rattle.table_schema.specs.Plan.{Ports}
use Rattle.sai_types.specs.declared.weight.WHop.{WHop}
use Rattle.sai_types.specs.declared.ids.Vid.{Vid}
use Rattle.sai_types.specs.declared.thing.Thing.{Thing}
use Rattle.sai_types.specs.declared.thing.Thing.TheVariants as thing
use Rattle.sai_types.specs.Hop.{AreRisingHops}
use Rattle.sai_types.specs.Names as thing_name
use Rattle.sai_types.specs.Names.{ThingName, name_of}
use Rattle.row_layout.specs.Operations.{Change}
use Rattle.row_layout.specs.Rows as owner
use Rattle.row_layout.specs.Rows.{Owner}
use Rattle.row_layout.specs.Shared.{shared_things}
use Rattle.switch_machine.specs.Flights.{IsOwnedBy}
use Rattle.switch_machine.proofs.Splits.{IsSplit, nat_split}
use Rattle.ref_counts.specs.declared.name.Name.TheVariants as name
use Rattle.ref_counts.specs.Registered.{first_of, made_live}
use Rattle.ref_counts.specs.Registry.{Names, changed, gone_from, ids_in, ids_of, state_of}
use Rattle.orch_flight.specs.Calling.{HasVid, member_vid, members_ids, vid_at}
use Rattle.orch_flight.specs.Grouping.{GroupOperation, HasGroupVid, group_ids, group_names_by, members_with_made}
use Rattle.orch_flight.specs.Needing.{name_for}
use Rattle.orch_flight.specs.Taking.{to_list}
use Rattle.registry_laws.specs.Flown.{Flown}
use Rattle.registry_laws.proofs.Finding.{gone_off}
use Rattle.registry_laws.specs.Identified.{BuildsGroups, FliesOn, IsUnderWay, IsVidOf}
use Rattle.registry_laws.proofs.Identifier.Ids.{ids_building, ids_live, ids_off}
use Rattle.registry_laws.proofs.Identifier.Known.{one_way, workers_one}
use Rattle.registry_laws.proofs.Identifier.Owning.{built_hops, group_names, no_group_vid, vid_same}
use Rattle.registry_laws.proofs.Identifier.Placing.{first_more, member_more, placed}
use Rattle.registry_laws.proofs.Identifier.Staying.{built_kept, group_made}

-- what an operation builds, with one more identifier
abbrev pub grown : GroupOperation → List Vid → List Change → GroupOperation
grown g made rest = record { worker = g.worker; hops = g.hops; builds = g.builds; neighbours = g.neighbours; made = made; due = rest }

module _ (plan : Ports) where
  -- an identifier that a group's operation has is of its group, or the registry's
  sort_vid : (names : Names) (g : GroupOperation) (n : ThingName) (v : Vid) → HasGroupVid plan names g n v → HasVid plan names n v ⊎ IsOwnedBy plan n (owner.Group g.hops)
  sort_vid names g (thing_name.Group hops) v x = inr (ap (λ z. Some (owner.Group z)) x.0)
  sort_vid names g (thing_name.GroupMember hops hop) v x = inr (ap (λ z. Some (owner.Group z)) x.0)
  sort_vid names g _ v x = inl x

  -- the registry has them under the group's name
  group_vid_as : (names names' : Names) (g : GroupOperation) (n : ThingName) (v : Vid) → group_ids names g ≡ ids_of names' (name.Group g.hops) → IsOwnedBy plan n (owner.Group g.hops) → HasGroupVid plan names g n v → HasVid plan names' n v
  group_vid_as names names' g n v same of x = by (group_names plan n g.hops of)
    where
      by : (n ≡ thing_name.Group g.hops) ⊎ ((hop : WHop) × (n ≡ thing_name.GroupMember g.hops hop)) → HasVid plan names' n v
      by (inl e) =
          let y = subst (λ z. HasGroupVid plan names g z v) e x in
          ap (vid_at plan names') e ∙ ap first_of (sym same) ∙ y.1
      by (inr (hop, e)) =
          let y = subst (λ z. HasGroupVid plan names g z v) e x in
          ap (vid_at plan names') e ∙ ap (λ z. member_vid g.hops hop (members_ids z)) (sym same) ∙ y.1

  -- more are made
  vid_grown : (names names' : Names) (g h : GroupOperation) (n : ThingName) (v : Vid) (more : List Vid) → h.hops ≡ g.hops → group_ids names' h ≡ group_ids names g ++ more → IsOwnedBy plan n (owner.Group g.hops) → HasGroupVid plan names g n v → HasGroupVid plan names' h n v
  vid_grown names names' g h n v more hops ids of x = by (group_names plan n g.hops of)
    where
      by : (n ≡ thing_name.Group g.hops) ⊎ ((hop : WHop) × (n ≡ thing_name.GroupMember g.hops hop)) → HasGroupVid plan names' h n v
      by (inl e) =
          let y = subst (λ z. HasGroupVid plan names g z v) e x in
          subst (λ z. HasGroupVid plan names' h z v) (sym e) (sym hops, ap first_of ids ∙ first_more (group_ids names g) more v y.1)
      by (inr (hop, e)) =
          let y = subst (λ z. HasGroupVid plan names g z v) e x in
          subst (λ z. HasGroupVid plan names' h z v) (sym e) (sym hops, ap (λ z. member_vid g.hops hop (members_ids z)) ids ∙ member_more g.hops hop (group_ids names g) more v y.1)

module _ (plan : Ports) (names : Names) (flown flown' : ℕ → Option Flown) (builds : BuildsGroups names flown) (w : ℕ) (g : GroupOperation) (at : IsUnderWay flown w g) (b : g.builds ≡ true) (made : Option Vid) (rest : List Change) (on : FliesOn flown flown' w (grown g (members_with_made g made) rest)) where
  abbrev next : GroupOperation
  next = grown g (members_with_made g made) rest

  abbrev later : Names
  later = group_names_by names g (members_with_made g made) rest

  no_ids_yet : ids_of names (name.Group g.hops) ≡ []
  no_ids_yet = ids_building names (owner.Group g.hops) w (builds.building w g at b)

  made_now : members_with_made g made ≡ g.made ++ to_list made
  made_now = ap (λ z. cond z (g.made ++ to_list made) g.made) b

  -- the other names have the identifiers that they had
  later_off : (o : Owner) → (owner.Group g.hops ≡ o → ⊥) → ids_of later (name_for o) ≡ ids_of names (name_for o)
  later_off o apart = by rest
    where
      either : (z : Bool) → ids_of (cond z (changed names (name.Group g.hops) (made_live (members_with_made g made))) (gone_from names (name.Group g.hops))) (name_for o) ≡ ids_of names (name_for o)
      either true = ids_off names (owner.Group g.hops) (made_live (members_with_made g made)) o apart
      either false = ap ids_in (gone_off names (owner.Group g.hops) o apart)

      by : (cs : List Change) → ids_of (group_names_by names g (members_with_made g made) cs) (name_for o) ≡ ids_of names (name_for o)
      by [] = either g.builds
      by (c ∷ cs) = refl

  -- what the operation has, the registry has at the end
  own_vid : (n : ThingName) (v : Vid) → IsOwnedBy plan n (owner.Group g.hops) → HasGroupVid plan later next n v → IsVidOf plan later flown' n v
  own_vid n v of x = by rest refl
    where
      end : (z : Bool) → g.builds ≡ z → z ≡ true → ids_of (cond z (changed names (name.Group g.hops) (made_live (members_with_made g made))) (gone_from names (name.Group g.hops))) (name.Group g.hops) ≡ members_with_made g made
      end true e h = ids_live names (owner.Group g.hops) w (members_with_made g made) (builds.building w g at b)
      end false e h = absurd cc

      by : (cs : List Change) → rest ≡ cs → IsVidOf plan later flown' n v
      by [] e =
          let names_then : later ≡ group_names_by names g (members_with_made g made) [] = ap (group_names_by names g (members_with_made g made)) e in
          inl (group_vid_as plan later later next n v (group_made later next b ∙ sym (ap (λ z. ids_of z (name.Group g.hops)) names_then ∙ end g.builds refl b)) of x)
      by (c ∷ cs) e = inr (record { worker = w; group = next; under_way = on.own (λ h. none (sym e ∙ h)); builds = b; of = x })
        where
          none : c ∷ cs ≡ [] → ⊥
          none h = cc

  -- an identifier that there was
  pub old_vid : (n : ThingName) (v : Vid) → IsVidOf plan names flown n v → IsVidOf plan later flown' n v
  old_vid n v (inl x) = inl (vid_same plan names later n (λ o of. later_off o (λ e. no_group_vid plan names n g.hops v (of ∙ ap Some (sym e)) no_ids_yet x)) ∙ x)
  old_vid n v (inr x) = by (nat_split x.worker w)
    where
      own : g ≡ x.group → HasVid plan names n v ⊎ IsOwnedBy plan n (owner.Group g.hops) → IsVidOf plan later flown' n v
      own same (inl y) = inl (vid_same plan names later n (λ o of. later_off o (λ e. no_group_vid plan names n g.hops v (of ∙ ap Some (sym e)) no_ids_yet y)) ∙ y)
      own same (inr of) = own_vid n v of (vid_grown plan names later g next n v (to_list made) refl (group_made later next b ∙ made_now ∙ ap (λ z. z ++ to_list made) (sym (group_made names g b))) of (subst (λ z. HasGroupVid plan names z n v) (sym same) x.of))

      by : IsSplit x.worker w → IsVidOf plan later flown' n v
      by (inl workers) =
          let same = one_way plan names flown builds w g x.group at (subst (λ z. IsUnderWay flown z x.group) workers x.under_way) in
          own same (sort_vid plan names g n v (subst (λ z. HasGroupVid plan names z n v) (sym same) x.of))
      by (inr apart) = inr (record { worker = x.worker; group = x.group; under_way = on.others x.worker x.group apart x.under_way; builds = x.builds; of = built_kept plan names later x.group n v x.builds (λ o of. later_off o (λ e. other (of ∙ ap Some (sym e)))) x.of })
        where
          other : IsOwnedBy plan n (owner.Group g.hops) → ⊥
          other of =
              let hops = built_hops plan names x.group n g.hops v of x.of in
              apart (workers_one plan names flown builds x.worker w (sym (builds.building x.worker x.group x.under_way x.builds) ∙ sym (ap (λ z. state_of names (name.Group z)) hops) ∙ builds.building w g at b))

  -- and the one that is made
  pub new_vid : (before after : List Thing) (z : Thing) (v : Vid) → AreRisingHops g.hops → shared_things (owner.Group g.hops) ≡ before ++ (z ∷ after) → length g.made ≡ length before → made ≡ Some v → IsVidOf plan later flown' (name_of z) v
  new_vid before after z v rising things count is = by (placed g.hops before z after g.made v rising things count)
    where
      ids : group_ids later next ≡ g.made ++ (v ∷ [])
      ids = group_made later next b ∙ made_now ∙ ap (λ y. g.made ++ to_list y) is

      by : ((z ≡ thing.Group g.hops) × (first_of (g.made ++ (v ∷ [])) ≡ Some v)) ⊎ ((hop : WHop) × (z ≡ thing.GroupMember g.hops hop) × (member_vid g.hops hop (members_ids (g.made ++ (v ∷ []))) ≡ Some v)) → IsVidOf plan later flown' (name_of z) v
      by (inl (e, found)) = subst (λ y. IsVidOf plan later flown' (name_of y) v) (sym e) (own_vid (thing_name.Group g.hops) v refl (refl, ap first_of ids ∙ found))
      by (inr (hop, e, found)) = subst (λ y. IsVidOf plan later flown' (name_of y) v) (sym e) (own_vid (thing_name.GroupMember g.hops hop) v refl (refl, ap (λ y. member_vid g.hops hop (members_ids y)) ids ∙ found))
