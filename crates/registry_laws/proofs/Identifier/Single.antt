-- an owner that is no group has one thing with an identifier
use Rattle.std.proofs.Common.{◌≡◌, ◌==◌, ◌∷◌, ◌∙◌, ℕ, Bool, true, false, cond, List, [], Option, None, Some, option_map, slice_index, refl, sym, ap}
use Rattle.std.specs.BTreeMap.{is_at}
use Rattle.std.specs.List.{AllByRecursion}
use Rattle.std.specs.Ordering.{is_eq, nat_cmp}
use Rattle.std.specs.declared.cmp.Ordering.TheVariants.{Less}
use Rattle.std.proofs.lemmas.Bool.{eqb-true, false≢true}
use Rattle.std.proofs.lemmas.Cmp.{nat_cmp_total, tied_itself}
use Rattle.std.proofs.lemmas.Option.{same_Some}
use Rattle.swss_types.specs.declared.address.Ip.{Ip}
use Rattle.swss_types.specs.declared.vrf.Vrf.{Vrf}
use Rattle.swss_types.specs.declared.interface.IfName.{IfName}
use Rattle.swss_types.specs.declared.interface.IfName.TheVariants as on
use Rattle.swss_types.proofs.Proper.{mapped}
use Rattle.table_schema.specs.Fields.{HasRisingKeys}
use Rattle.table_schema.specs.Plan.{IsPlan, Ports, lanes_in_plan, port_named}
use Rattle.table_schema.specs.declared.key.Key.{Key}
use Rattle.table_schema.specs.declared.key.Key.TheVariants as key
use Rattle.sai_types.specs.declared.hop.Base.{Base}
use Rattle.sai_types.specs.declared.hop.Base.TheVariants as base
use Rattle.sai_types.specs.declared.weight.WHop.{WHop}
use Rattle.sai_types.specs.Named.{first_lane}
use Rattle.sai_types.specs.Names as thing_name
use Rattle.sai_types.specs.Names.{ThingName, name_kind}
use Rattle.switch_model.specs.Things.{base_of, lane_of}
use Rattle.switch_model.proofs.Planned.{number-is}
use Rattle.chip_layout.specs.Bodies.{is_numbered}
use Rattle.row_layout.specs.Rows as owner
use Rattle.row_layout.specs.Rows.{Owner, interface_on}
use Rattle.switch_machine.specs.Flights.{IsOwnedBy}
use Rattle.registry_laws.proofs.Listing.{not_some}

-- ---- the port whose first lane it is has it as its first lane

none_behind : (n : ℕ) (ports : Ports) → AllByRecursion (λ p. nat_cmp n p.0 ≡ Less) ports → lanes_in_plan ports n ≡ None
none_behind n [] h = refl
none_behind n (p ∷ ps) h = ap (λ o. cond (is_eq o) (Some p.1) (lanes_in_plan ps n)) h.0 ∙ none_behind n ps h.1

lane_named_step : (s t : Bool) (q : ℕ × List ℕ) (qs : Ports) (lane p : ℕ) → (slice_index q.1 0 == lane) ≡ s → is_at (nat_cmp p) q.0 ≡ t → AllByRecursion (λ e. nat_cmp q.0 e.0 ≡ Less) qs → cond s (Some q.0) (port_named qs lane) ≡ Some p → (port_named qs lane ≡ Some p → lane_of qs p ≡ Some lane) → option_map first_lane (cond t (Some q.1) (lanes_in_plan qs p)) ≡ Some lane
lane_named_step true true q qs lane p first at above h rest = ap Some (eqb-true (slice_index q.1 0) lane first)
lane_named_step true false q qs lane p first at above h rest =
    let same : q.0 ≡ p = same_Some q.0 p h in
    absurd (false≢true (sym at ∙ ap (λ z. is_at (nat_cmp p) z) same ∙ ap is_eq (tied_itself nat_cmp_total p)))
lane_named_step false true q qs lane p first at above h rest =
    let same : p ≡ q.0 = number-is p q.0 at in
    not_some lane (sym (ap (option_map first_lane) (none_behind q.0 qs above)) ∙ sym (ap (lane_of qs) same) ∙ rest h)
lane_named_step false false q qs lane p first at above h rest = rest h

lane_named : (ports : Ports) → HasRisingKeys nat_cmp ports → (lane p : ℕ) → port_named ports lane ≡ Some p → lane_of ports p ≡ Some lane
lane_named [] rising lane p h = not_some p h
lane_named (q ∷ qs) rising lane p h = lane_named_step (slice_index q.1 0 == lane) (is_at (nat_cmp p) q.0) q qs lane p refl refl rising.0 h (lane_named qs rising.1 lane p)

-- ---- the name of a row's thing that has an identifier

abbrev row_name : Ports → Key → Option ThingName
row_name plan (key.Port p) = option_map thing_name.Port (lane_of plan p)
row_name plan (key.Vlan vlan) = Some (thing_name.Vlan vlan)
row_name plan (key.Vrf label) = Some (thing_name.VirtualRouter label)
row_name plan (key.Member vlan p) = option_map (thing_name.VlanMember vlan) (lane_of plan p)
row_name plan (key.Intf i) = option_map thing_name.Rif (base_of plan i)
row_name plan (key.Neigh i ip) = option_map (λ b. thing_name.NextHop (record { on = b; ip = ip })) (base_of plan i)
row_name plan _ = None

abbrev owner_name : Ports → Owner → Option ThingName
owner_name plan (owner.OfRow k) = row_name plan k
owner_name plan (owner.Bridge lane) = Some (thing_name.BridgePort lane)
owner_name plan _ = None

module _ (plan : Ports) (is : IsPlan plan) where
  base_on : (b : Base) (i : IfName) → interface_on plan b ≡ Some i → base_of plan i ≡ Some b
  base_on (base.Port lane) i h =
      let m = mapped on.Ethernet (port_named plan lane) i h in
      ap (base_of plan) (sym m.2) ∙ ap (option_map base.Port) (lane_named plan is.rising lane m.0 m.1)
  base_on (base.Vlan vlan) i h = let same : on.Vlan vlan ≡ i = same_Some (on.Vlan vlan) i h in ap (base_of plan) (sym same)

  -- what is no group's has its owner's name
  named_by : (n : ThingName) (o : Owner) → is_numbered (name_kind n) ≡ true → ((hops : List WHop) → o ≡ owner.Group hops → ⊥) → IsOwnedBy plan n o → owner_name plan o ≡ Some n
  named_by (thing_name.Port lane) o numbered alone h =
      let m = mapped (λ p. owner.OfRow (key.Port p)) (port_named plan lane) o h in
      ap (owner_name plan) (sym m.2) ∙ ap (option_map thing_name.Port) (lane_named plan is.rising lane m.0 m.1)
  named_by (thing_name.Vlan vlan) o numbered alone h = ap (owner_name plan) (sym (same_Some (owner.OfRow (key.Vlan vlan)) o h))
  named_by (thing_name.VirtualRouter label) o numbered alone h = ap (owner_name plan) (sym (same_Some (owner.OfRow (key.Vrf label)) o h))
  named_by (thing_name.BridgePort lane) o numbered alone h = ap (owner_name plan) (sym (same_Some (owner.Bridge lane) o h))
  named_by (thing_name.VlanMember vlan lane) o numbered alone h =
      let m = mapped (λ p. owner.OfRow (key.Member vlan p)) (port_named plan lane) o h in
      ap (owner_name plan) (sym m.2) ∙ ap (option_map (thing_name.VlanMember vlan)) (lane_named plan is.rising lane m.0 m.1)
  named_by (thing_name.Rif b) o numbered alone h =
      let m = mapped (λ i. owner.OfRow (key.Intf i)) (interface_on plan b) o h in
      ap (owner_name plan) (sym m.2) ∙ ap (option_map thing_name.Rif) (base_on b m.0 m.1)
  named_by (thing_name.NextHop hop) o numbered alone h =
      let m = mapped (λ i. owner.OfRow (key.Neigh i hop.ip)) (interface_on plan hop.on) o h in
      ap (owner_name plan) (sym m.2) ∙ ap (option_map (λ b. thing_name.NextHop (record { on = b; ip = hop.ip }))) (base_on hop.on m.0 m.1)
  named_by (thing_name.Group hops) o numbered alone h = absurd (alone hops (sym (same_Some (owner.Group hops) o h)))
  named_by (thing_name.GroupMember hops hop) o numbered alone h = absurd (alone hops (sym (same_Some (owner.Group hops) o h)))
  named_by _ o numbered alone h = absurd (false≢true numbered)

  pub one_name : (n m : ThingName) (o : Owner) → is_numbered (name_kind n) ≡ true → is_numbered (name_kind m) ≡ true → ((hops : List WHop) → o ≡ owner.Group hops → ⊥) → IsOwnedBy plan n o → IsOwnedBy plan m o → n ≡ m
  one_name n m o x y alone of other = same_Some n m (sym (named_by n o x alone of) ∙ named_by m o y alone other)

  -- an own address has none
  pub no_own : (n : ThingName) (o : Owner) (v : Vrf) (ip : Ip) → o ≡ owner.Own v ip → is_numbered (name_kind n) ≡ true → IsOwnedBy plan n o → ⊥
  no_own n o v ip e numbered of = not_some n (sym (ap (owner_name plan) e) ∙ named_by n o numbered (λ hops h. no_group hops (sym e ∙ h)) of)
    where
      no_group : (hops : List WHop) → owner.Own v ip ≡ owner.Group hops → ⊥
      no_group hops h = cc
