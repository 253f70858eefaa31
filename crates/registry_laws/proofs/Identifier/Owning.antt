-- the identifiers of a thing are kept under the name of its owner
use Rattle.std.proofs.Common.{◌≡◌, ◌⊎◌, ◌∙◌, inl, inr, true, List, [], Option, None, Some, option_map, refl, sym, ap, subst}
use Rattle.std.proofs.lemmas.Bool.{false≢true}
use Rattle.std.proofs.lemmas.Option.{same_Some}
use Rattle.swss_types.proofs.Proper.{mapped}
use Rattle.table_schema.specs.Plan.{Ports, port_named}
use Rattle.table_schema.specs.declared.key.Key.{Key}
use Rattle.table_schema.specs.declared.key.Key.TheVariants as key
use Rattle.sai_types.specs.declared.weight.WHop.{WHop}
use Rattle.sai_types.specs.declared.ids.Vid.{Vid}
use Rattle.sai_types.specs.Names as thing_name
use Rattle.sai_types.specs.Names.{ThingName, name_kind}
use Rattle.chip_layout.specs.Bodies.{is_numbered}
use Rattle.row_layout.specs.Rows as owner
use Rattle.row_layout.specs.Rows.{Owner, interface_on}
use Rattle.switch_machine.specs.Flights.{IsOwnedBy}
use Rattle.ref_counts.specs.declared.name.Name.TheVariants as name
use Rattle.ref_counts.specs.Registered.{first_of}
use Rattle.ref_counts.specs.Registry.{Names, ids_of}
use Rattle.orch_flight.specs.Calling.{HasVid, member_vid, members_ids, row_vid, vid_at}
use Rattle.orch_flight.specs.Grouping.{GroupOperation, HasGroupVid}
use Rattle.orch_flight.specs.Needing.{name_for}
use Rattle.registry_laws.proofs.Listing.{not_some}
use Rattle.registry_laws.proofs.Identifier.Known.{no_member_vid}

-- it is not one of the members of a group: its identifier is the first that its owner's name has
abbrev pub IsFirst : ThingName → Type 0
IsFirst (thing_name.GroupMember hops hop) = ⊥
IsFirst _ = Unit {0}

module _ (plan : Ports) where
  module _ (names : Names) where
    row_by : {X : Type 0} (x : Option X) (f : X → Key) (o : Owner) → option_map (λ z. owner.OfRow (f z)) x ≡ Some o → row_vid names (option_map f x) ≡ first_of (ids_of names (name_for o))
    row_by x f o h =
        let m = mapped (λ z. owner.OfRow (f z)) x o h in
        ap (λ z. row_vid names (option_map f z)) m.1 ∙ ap (λ z. first_of (ids_of names (name_for z))) m.2

    first_by : (p o : Owner) → Some p ≡ Some o → first_of (ids_of names (name_for p)) ≡ first_of (ids_of names (name_for o))
    first_by p o h = ap (λ z. first_of (ids_of names (name_for z))) (same_Some p o h)

    pub vid_by : (n : ThingName) (o : Owner) → is_numbered (name_kind n) ≡ true → IsFirst n → IsOwnedBy plan n o → vid_at plan names n ≡ first_of (ids_of names (name_for o))
    vid_by (thing_name.Port lane) o numbered first h = row_by (port_named plan lane) key.Port o h
    vid_by (thing_name.Vlan vlan) o numbered first h = first_by _ o h
    vid_by (thing_name.VirtualRouter label) o numbered first h = first_by _ o h
    vid_by (thing_name.BridgePort lane) o numbered first h = first_by _ o h
    vid_by (thing_name.VlanMember vlan lane) o numbered first h = row_by (port_named plan lane) (key.Member vlan) o h
    vid_by (thing_name.Rif b) o numbered first h = row_by (interface_on plan b) key.Intf o h
    vid_by (thing_name.NextHop hop) o numbered first h = row_by (interface_on plan hop.on) (λ on. key.Neigh on hop.ip) o h
    vid_by (thing_name.Group hops) o numbered first h = first_by _ o h
    vid_by (thing_name.GroupMember hops hop) o numbered first h = elim first [ ]
    vid_by _ o numbered first h = absurd (false≢true numbered)

  -- where its owner's identifiers are the same, so is its own
  module _ (names names' : Names) where
    row_same : {X : Type 0} (x : Option X) (f : X → Key) → ((o : Owner) → option_map (λ z. owner.OfRow (f z)) x ≡ Some o → ids_of names' (name_for o) ≡ ids_of names (name_for o)) → row_vid names' (option_map f x) ≡ row_vid names (option_map f x)
    row_same None f same = refl
    row_same (Some z) f same = ap first_of (same (owner.OfRow (f z)) refl)

    pub vid_same : (n : ThingName) → ((o : Owner) → IsOwnedBy plan n o → ids_of names' (name_for o) ≡ ids_of names (name_for o)) → vid_at plan names' n ≡ vid_at plan names n
    vid_same (thing_name.Port lane) same = row_same (port_named plan lane) key.Port same
    vid_same (thing_name.Vlan vlan) same = ap first_of (same (owner.OfRow (key.Vlan vlan)) refl)
    vid_same (thing_name.VirtualRouter label) same = ap first_of (same (owner.OfRow (key.Vrf label)) refl)
    vid_same (thing_name.BridgePort lane) same = ap first_of (same (owner.Bridge lane) refl)
    vid_same (thing_name.VlanMember vlan lane) same = row_same (port_named plan lane) (key.Member vlan) same
    vid_same (thing_name.Rif b) same = row_same (interface_on plan b) key.Intf same
    vid_same (thing_name.NextHop hop) same = row_same (interface_on plan hop.on) (λ on. key.Neigh on hop.ip) same
    vid_same (thing_name.Group hops) same = ap first_of (same (owner.Group hops) refl)
    vid_same (thing_name.GroupMember hops hop) same = ap (λ z. member_vid hops hop (members_ids z)) (same (owner.Group hops) refl)
    vid_same _ same = refl

  -- ---- what belongs to a group

  not_group : {X : Type 0} (x : Option X) (f : X → Key) (hops : List WHop) {Y : Type 0} → option_map (λ z. owner.OfRow (f z)) x ≡ Some (owner.Group hops) → Y
  not_group None f hops h = absurd cc
  not_group (Some z) f hops h = absurd cc

  pub group_names : (n : ThingName) (hops : List WHop) → IsOwnedBy plan n (owner.Group hops) → (n ≡ thing_name.Group hops) ⊎ ((hop : WHop) × (n ≡ thing_name.GroupMember hops hop))
  group_names (thing_name.Port lane) hops h = not_group (port_named plan lane) key.Port hops h
  group_names (thing_name.VlanMember vlan lane) hops h = not_group (port_named plan lane) (key.Member vlan) hops h
  group_names (thing_name.Rif b) hops h = not_group (interface_on plan b) key.Intf hops h
  group_names (thing_name.Neighbor hop) hops h = not_group (interface_on plan hop.on) (λ i. key.Neigh i hop.ip) hops h
  group_names (thing_name.NextHop hop) hops h = not_group (interface_on plan hop.on) (λ i. key.Neigh i hop.ip) hops h
  group_names (thing_name.Group all) hops h = let same : all ≡ hops = cc in inl (ap thing_name.Group same)
  group_names (thing_name.GroupMember all hop) hops h = let same : all ≡ hops = cc in inr (hop, ap (λ z. thing_name.GroupMember z hop) same)
  group_names _ hops h = absurd cc

  module _ (names : Names) where
    -- without identifiers of the group nothing of it has one
    pub no_group_vid : (n : ThingName) (hops : List WHop) (v : Vid) → IsOwnedBy plan n (owner.Group hops) → ids_of names (name.Group hops) ≡ [] → HasVid plan names n v → ⊥
    no_group_vid n hops v of none x = by (group_names n hops of)
      where
        by : (n ≡ thing_name.Group hops) ⊎ ((hop : WHop) × (n ≡ thing_name.GroupMember hops hop)) → ⊥
        by (inl e) = not_some v (sym (ap first_of none) ∙ sym (ap (vid_at plan names) e) ∙ x)
        by (inr (hop, e)) = not_some v (sym (no_member_vid hops hop) ∙ sym (ap (λ z. member_vid hops hop (members_ids z)) none) ∙ sym (ap (vid_at plan names) e) ∙ x)

    -- a group that is built has identifiers of its own alone
    pub built_hops : (g : GroupOperation) (n : ThingName) (hops : List WHop) (v : Vid) → IsOwnedBy plan n (owner.Group hops) → HasGroupVid plan names g n v → hops ≡ g.hops
    built_hops g n hops v of x = by (group_names n hops of)
      where
        by : (n ≡ thing_name.Group hops) ⊎ ((hop : WHop) × (n ≡ thing_name.GroupMember hops hop)) → hops ≡ g.hops
        by (inl e) = (subst (λ z. HasGroupVid plan names g z v) e x).0
        by (inr (hop, e)) = (subst (λ z. HasGroupVid plan names g z v) e x).0

  pub group_numbered : (n : ThingName) (hops : List WHop) → IsOwnedBy plan n (owner.Group hops) → is_numbered (name_kind n) ≡ true
  group_numbered n hops of = by (group_names n hops of)
    where
      by : (n ≡ thing_name.Group hops) ⊎ ((hop : WHop) × (n ≡ thing_name.GroupMember hops hop)) → is_numbered (name_kind n) ≡ true
      by (inl e) = ap (λ z. is_numbered (name_kind z)) e
      by (inr (hop, e)) = ap (λ z. is_numbered (name_kind z)) e
