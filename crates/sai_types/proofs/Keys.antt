-- objects with one name are one object
use Rattle.std.proofs.Common.{◌≡◌, ℕ, ◌==◌, Bool, true, false, ◌||◌, ◌&&◌, List, [], ◌∷◌, slice_index, Option, None, Some, refl, sym, ap, ◌∙◌}
use Rattle.std.specs.List.{list_any}
use Rattle.std.proofs.lemmas.Bool.{and_from, eqb-true, eq-eqb}
use Rattle.std.proofs.lemmas.Option.{same_Some}
use Rattle.swss_types.specs.declared.address.Ip.{Ip}
use Rattle.swss_types.specs.contracts.address.IpEq.TheImpl.Laws as equal_ip
use Rattle.swss_types.proofs.Proper.{mapped}
use Rattle.swss_types.proofs.Routers.{vrf_name-refl}
use Rattle.swss_types.specs.declared.vrf.Vrf.{Vrf}
use Rattle.swss_types.specs.declared.vrf.Vrf.TheVariants as vrf
use Rattle.swss_types.specs.declared.vrf.VrfName.{VrfName}
use Rattle.sai_types.specs.declared.ids.Rid.{Rid}
use Rattle.sai_types.specs.declared.hop.Base.{Base}
use Rattle.sai_types.specs.declared.hop.Base.TheVariants as base
use Rattle.sai_types.specs.declared.hop.Hop.{Hop}
use Rattle.sai_types.specs.declared.body.RifOn.{RifOn}
use Rattle.sai_types.specs.declared.body.RifOn.TheVariants as on
use Rattle.sai_types.specs.declared.body.Body.{Body}
use Rattle.sai_types.specs.declared.body.Body.TheVariants as body
use Rattle.sai_types.specs.declared.body.Entry.TheVariants as entry
use Rattle.sai_types.specs.Objects.{Objects, body_at}
use Rattle.sai_types.specs.Refusal.{clash, same_id, same_ip, same_base, same_router, share_lane}
use Rattle.sai_types.specs.Named.{body_port, body_vlan, port_at, vlan_at, bridge_port_of, bridge_port_at, base_on, rif_of, rif_at, hop_on, next_hop_of, next_hop_at, first_lane, body_router, router_at}
use Rattle.sai_types.specs.Made.{IsWhole, HaveLanes}
use Rattle.sai_types.proofs.Exact.{ids-tied}

implies_by : (a b c d : Bool) → (a ≡ true → b ≡ true) → (c ≡ true → d ≡ true) → (a || c) ≡ true → (b || d) ≡ true
implies_by true b c d f g h = ap (λ x. x || d) (f refl)
implies_by false true c d f g h = refl
implies_by false false c d f g h = g h

port_bases : (a b : ℕ) → base.Port a ≡ base.Port b → a ≡ b
port_bases a b h = cc

vlan_bases : (a b : ℕ) → base.Vlan a ≡ base.Vlan b → a ≡ b
vlan_bases a b h = cc

bases_apart : (a b : ℕ) → base.Port a ≡ base.Vlan b → ⊥
bases_apart a b h = cc

named_routers : (a b : VrfName) → vrf.Named a ≡ vrf.Named b → a ≡ b
named_routers a b h = cc

routers_apart : (a : VrfName) → vrf.Named a ≡ vrf.Default → ⊥
routers_apart a h = cc

any-implies : {X : Type 0} (p q : X → Bool) → ((x : X) → p x ≡ true → q x ≡ true) → (xs : List X) → list_any p xs ≡ true → list_any q xs ≡ true
any-implies p q f [] h = h
any-implies p q f (x ∷ xs) h = implies_by (p x) (q x) (list_any p xs) (list_any q xs) (f x) (any-implies p q f xs) h

-- two lists with their first lane have it in common
pub share-first : (xs ys : List ℕ) → slice_index xs 0 ≡ slice_index ys 0 → list_any (λ l. l == slice_index xs 0) xs ≡ true → list_any (λ l. l == slice_index ys 0) ys ≡ true → share_lane xs ys ≡ true
share-first xs ys same hx hy =
    any-implies (λ l. l == slice_index xs 0) (λ l. list_any (λ m. l == m) ys)
    (λ l h. any-implies (λ m. m == slice_index ys 0) (λ m. l == m) (λ m g. eq-eqb l m (eqb-true l (slice_index xs 0) h ∙ same ∙ sym (eqb-true m (slice_index ys 0) g))) ys hy)
    xs hx

module _ (objects : Objects) where
  port_found : (r : Rid) (n : ℕ) (o : Option (Body Rid)) → body_at objects (entry.Oid r) ≡ o → body_port o ≡ Some n → (lanes : List ℕ) × (speed : ℕ) × (mtu : ℕ) × (up : Bool) × (body_at objects (entry.Oid r) ≡ Some (body.Port lanes speed mtu up)) × (first_lane lanes ≡ n)
  port_found r n (Some (body.Port lanes speed mtu up)) e h = (lanes, speed, mtu, up, e, cc)
  port_found r n (Some _) e h = absurd cc
  port_found r n None e h = absurd cc

  vlan_found : (r : Rid) (n : ℕ) (o : Option (Body Rid)) → body_at objects (entry.Oid r) ≡ o → body_vlan o ≡ Some n → body_at objects (entry.Oid r) ≡ Some (body.Vlan n)
  vlan_found r n (Some (body.Vlan vlan)) e h = let same : vlan ≡ n = cc in e ∙ ap (λ v. Some (body.Vlan v)) same
  vlan_found r n (Some _) e h = absurd cc
  vlan_found r n None e h = absurd cc

  bridge_port_found : (r : Rid) (n : ℕ) (o : Option (Body Rid)) → body_at objects (entry.Oid r) ≡ o → bridge_port_of objects o ≡ Some n → (port : Rid) × (body_at objects (entry.Oid r) ≡ Some (body.BridgePort port)) × (port_at objects port ≡ Some n)
  bridge_port_found r n (Some (body.BridgePort port)) e h = (port, e, h)
  bridge_port_found r n (Some _) e h = absurd cc
  bridge_port_found r n None e h = absurd cc

  rif_found : (r : Rid) (b : Base) (o : Option (Body Rid)) → body_at objects (entry.Oid r) ≡ o → rif_of objects o ≡ Some b → (on : RifOn Rid) × (vr : Option Rid) × (body_at objects (entry.Oid r) ≡ Some (body.Rif vr on)) × (base_on objects on ≡ Some b)
  rif_found r b (Some (body.Rif vr on)) e h = (on, vr, e, h)
  rif_found r b (Some _) e h = absurd cc
  rif_found r b None e h = absurd cc

  router_found : (r : Rid) (n : VrfName) (o : Option (Body Rid)) → body_at objects (entry.Oid r) ≡ o → body_router o ≡ Some n → body_at objects (entry.Oid r) ≡ Some (body.VirtualRouter n)
  router_found r n (Some (body.VirtualRouter label)) e h = let same : label ≡ n = cc in e ∙ ap (λ v. Some (body.VirtualRouter v)) same
  router_found r n (Some _) e h = absurd cc
  router_found r n None e h = absurd cc

  pub next_hop_found : (r : Rid) (hop : Hop) (o : Option (Body Rid)) → body_at objects (entry.Oid r) ≡ o → next_hop_of objects o ≡ Some hop → (rif : Rid) × (ip : Ip) × (body_at objects (entry.Oid r) ≡ Some (body.NextHop rif ip)) × (hop_on objects rif ip ≡ Some hop)
  next_hop_found r hop (Some (body.NextHop rif ip)) e h = (rif, ip, e, h)
  next_hop_found r hop (Some _) e h = absurd cc
  next_hop_found r hop None e h = absurd cc

module _ (made : ℕ) (objects : Objects) (whole : IsWhole made objects) (have : HaveLanes objects) where
  -- two identifiers whose bodies clash are one
  one_id : (r s : Rid) (b d : Body Rid) → body_at objects (entry.Oid r) ≡ Some b → body_at objects (entry.Oid s) ≡ Some d → clash b d ≡ true → same_id r s ≡ true
  one_id r s b d x y h = sym (ids-tied r s) ∙ whole.apart.each (entry.Oid r) (entry.Oid s) b d x y h

  pub one_port : (r s : Rid) (n : ℕ) → port_at objects r ≡ Some n → port_at objects s ≡ Some n → same_id r s ≡ true
  one_port r s n x y =
      let p = port_found objects r n (body_at objects (entry.Oid r)) refl x in
      let q = port_found objects s n (body_at objects (entry.Oid s)) refl y in
      one_id r s _ _ p.4 q.4 (share-first p.0 q.0 (p.5 ∙ sym q.5) (have.each (entry.Oid r) _ p.4) (have.each (entry.Oid s) _ q.4))

  pub one_vlan : (r s : Rid) (n : ℕ) → vlan_at objects r ≡ Some n → vlan_at objects s ≡ Some n → same_id r s ≡ true
  one_vlan r s n x y =
      one_id r s _ _ (vlan_found objects r n (body_at objects (entry.Oid r)) refl x) (vlan_found objects s n (body_at objects (entry.Oid s)) refl y) (eq-eqb n n refl)

  -- two identifiers of one virtual router are one, and so are two routers of one name
  pub one_router : (v w : Option Rid) (x : Vrf) → router_at objects v ≡ Some x → router_at objects w ≡ Some x → same_router v w ≡ true
  one_router None None x g h = refl
  one_router None (Some s) x g h = let m = mapped vrf.Named (body_router (body_at objects (entry.Oid s))) x h in absurd (routers_apart m.0 (m.2 ∙ sym (same_Some vrf.Default x g)))
  one_router (Some r) None x g h = let m = mapped vrf.Named (body_router (body_at objects (entry.Oid r))) x g in absurd (routers_apart m.0 (m.2 ∙ sym (same_Some vrf.Default x h)))
  one_router (Some r) (Some s) x g h =
      let m = mapped vrf.Named (body_router (body_at objects (entry.Oid r))) x g in
      let n = mapped vrf.Named (body_router (body_at objects (entry.Oid s))) x h in
      let same : n.0 ≡ m.0 = named_routers n.0 m.0 (n.2 ∙ sym m.2) in
      let p = router_found objects r m.0 (body_at objects (entry.Oid r)) refl m.1 in
      let q = router_found objects s m.0 (body_at objects (entry.Oid s)) refl (n.1 ∙ ap Some same) in
      one_id r s _ _ p q (vrf_name-refl m.0)

  pub one_bridge_port : (r s : Rid) (n : ℕ) → bridge_port_at objects r ≡ Some n → bridge_port_at objects s ≡ Some n → same_id r s ≡ true
  one_bridge_port r s n x y =
      let p = bridge_port_found objects r n (body_at objects (entry.Oid r)) refl x in
      let q = bridge_port_found objects s n (body_at objects (entry.Oid s)) refl y in
      one_id r s _ _ p.1 q.1 (one_port p.0 q.0 n p.2 q.2)

  pub one_base : (b c : RifOn Rid) (n : Base) → base_on objects b ≡ Some n → base_on objects c ≡ Some n → same_base b c ≡ true
  one_base (on.Port p) (on.Port q) n x y =
      let i = mapped base.Port (port_at objects p) n x in
      let j = mapped base.Port (port_at objects q) n y in
      let same : j.0 ≡ i.0 = port_bases j.0 i.0 (j.2 ∙ sym i.2) in
      one_port p q i.0 i.1 (j.1 ∙ ap Some same)
  one_base (on.Vlan p) (on.Vlan q) n x y =
      let i = mapped base.Vlan (vlan_at objects p) n x in
      let j = mapped base.Vlan (vlan_at objects q) n y in
      let same : j.0 ≡ i.0 = vlan_bases j.0 i.0 (j.2 ∙ sym i.2) in
      one_vlan p q i.0 i.1 (j.1 ∙ ap Some same)
  one_base (on.Port p) (on.Vlan q) n x y =
      let i = mapped base.Port (port_at objects p) n x in
      let j = mapped base.Vlan (vlan_at objects q) n y in
      absurd (bases_apart i.0 j.0 (i.2 ∙ sym j.2))
  one_base (on.Vlan p) (on.Port q) n x y =
      let i = mapped base.Vlan (vlan_at objects p) n x in
      let j = mapped base.Port (port_at objects q) n y in
      absurd (bases_apart j.0 i.0 (j.2 ∙ sym i.2))

  pub one_rif : (r s : Rid) (n : Base) → rif_at objects r ≡ Some n → rif_at objects s ≡ Some n → same_id r s ≡ true
  one_rif r s n x y =
      let p = rif_found objects r n (body_at objects (entry.Oid r)) refl x in
      let q = rif_found objects s n (body_at objects (entry.Oid s)) refl y in
      one_id r s _ _ p.2 q.2 (one_base p.0 q.0 n p.3 q.3)

  -- an interface and an address that make one hop are one pair
  pub one_hop : (r s : Rid) (ip other : Ip) (hop : Hop) → hop_on objects r ip ≡ Some hop → hop_on objects s other ≡ Some hop → (same_id r s && same_ip ip other) ≡ true
  one_hop r s ip other hop x y =
      let i = mapped (λ b. record { on = b; ip = ip }) (rif_at objects r) hop x in
      let j = mapped (λ b. record { on = b; ip = other }) (rif_at objects s) hop y in
      let bases : j.0 ≡ i.0 = ap (λ h. h.on) (j.2 ∙ sym i.2) in
      let ips : ip ≡ other = ap (λ h. h.ip) (i.2 ∙ sym j.2) in
      let one = one_rif r s i.0 i.1 (j.1 ∙ ap Some bases) in
      let two : same_ip ip other ≡ true = ap (same_ip ip) (sym ips) ∙ equal_ip.laws-law.refl ip in
      and_from (same_id r s) (same_ip ip other) one two

  pub one_next_hop : (r s : Rid) (hop : Hop) → next_hop_at objects r ≡ Some hop → next_hop_at objects s ≡ Some hop → same_id r s ≡ true
  one_next_hop r s hop x y =
      let p = next_hop_found objects r hop (body_at objects (entry.Oid r)) refl x in
      let q = next_hop_found objects s hop (body_at objects (entry.Oid s)) refl y in
      one_id r s _ _ p.2 q.2 (one_hop p.0 q.0 p.1 q.1 hop p.3 q.3)
