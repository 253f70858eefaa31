-- bodies that clash, the one body of a thing, and sets, on a chip that is laid out
use Rattle.std.proofs.Common.{◌≡◌, inl, inr, true, ◌&&◌, Some, refl, sym, ap, ap₂, ◌∙◌, subst}
use Rattle.std.proofs.lemmas.Bool.{and_parts, eqb-true, false≢true}
use Rattle.swss_types.specs.declared.address.Ip.{Ip}
use Rattle.swss_types.specs.declared.vrf.Vrf.{Vrf}
use Rattle.swss_types.specs.declared.vrf.Vrf.TheVariants as vrf
use Rattle.swss_types.proofs.Routers.{vrf_name-exact}
use Rattle.sai_types.specs.declared.ids.Rid.{Rid}
use Rattle.sai_types.specs.declared.hop.Base.{Base}
use Rattle.sai_types.specs.declared.hop.Base.TheVariants as base
use Rattle.sai_types.specs.declared.hop.Hop.{Hop}
use Rattle.sai_types.specs.declared.body.Body.{Body}
use Rattle.sai_types.specs.declared.body.Body.TheVariants as body
use Rattle.sai_types.specs.declared.body.Attr.{Attr}
use Rattle.sai_types.specs.declared.body.Attr.TheVariants as attr
use Rattle.sai_types.specs.declared.thing.Goal.{Goal}
use Rattle.sai_types.specs.declared.thing.Goal.TheVariants as goal
use Rattle.sai_types.specs.declared.thing.Thing.{Thing}
use Rattle.sai_types.specs.declared.thing.Thing.TheVariants as thing
use Rattle.sai_types.specs.After.{entry_of, with_attr}
use Rattle.sai_types.specs.Names as name
use Rattle.sai_types.specs.Names.{Meet, ThingName, name_kind, name_of}
use Rattle.sai_types.specs.Objects.{Objects, body_at}
use Rattle.sai_types.specs.References.{attr_refers_well, is_target}
use Rattle.sai_types.specs.Refusal.{clash, has_attr, same_id, same_ip, same_prefix, same_router}
use Rattle.chip_layout.specs.Bodies.{IsAt, IsBody, IsChange, body_with, first_name, goal_name, is_numbered, on_with, router_name, second_name, to_with, vr_with}
use Rattle.chip_layout.specs.Layout.{Has, IsLaidOut, Layout}
use Rattle.chip_layout.proofs.Entries.{goal-stands, one-id, one-name}
use Rattle.sai_types.proofs.Exact.{id-exact, ip-exact, prefix-exact}
use Rattle.sai_types.proofs.Things.{groups, next_hops, rifs, routers}

module _ (layout : Layout Rid) (objects : Objects) (laid : IsLaidOut layout objects) where
  same_name : (k l : ThingName) (i j : Rid) → is_numbered (name_kind k) ≡ true → is_numbered (name_kind l) ≡ true → Has layout k i → Has layout l j → same_id i j ≡ true → k ≡ l
  same_name k l i j e f x y same = one-name layout objects laid k l i e f x (subst (λ z. Has layout l z) (sym (id-exact i j same)) y)

  same_hop : (h g : Hop) (i j : Rid) → Has layout (name.Rif h.on) i → Has layout (name.Rif g.on) j → (same_id i j && same_ip h.ip g.ip) ≡ true → h ≡ g
  same_hop h g i j x y same =
      let parts = and_parts (same_id i j) (same_ip h.ip g.ip) same in
      let made : Base → Ip → Hop = λ b a. record { on = b; ip = a } in
      ap₂ made (rifs h.on g.on (same_name (name.Rif h.on) (name.Rif g.on) i j refl refl x y parts.0)) (ip-exact h.ip g.ip parts.1)

  same_routers : (v w : Vrf) (j l : Rid) → IsAt (Has layout) (router_name v) j → IsAt (Has layout) (router_name w) l → same_router (vr_with v j) (vr_with w l) ≡ true → v ≡ w
  same_routers vrf.Default vrf.Default j l x y h = refl
  same_routers (vrf.Named m) (vrf.Named n) j l x y h = ap vrf.Named (routers m n (same_name (name.VirtualRouter m) (name.VirtualRouter n) j l refl refl x y h))
  same_routers vrf.Default (vrf.Named n) j l x y h = absurd (false≢true h)
  same_routers (vrf.Named m) vrf.Default j l x y h = absurd (false≢true h)

  -- things whose bodies clash can't stand together
  meet_by : (t u : Thing) (i j k l : Rid) → IsAt (Has layout) (first_name t) i → IsAt (Has layout) (second_name t) j → IsAt (Has layout) (first_name u) k → IsAt (Has layout) (second_name u) l → clash (body_with t i j) (body_with u k l) ≡ true → Meet t u
  meet_by (thing.Port p) (thing.Port q) i j k l a b c d h = inr h
  meet_by (thing.Vlan v) (thing.Vlan w) i j k l a b c d h = inl (ap name.Vlan (eqb-true v w h))
  meet_by (thing.VirtualRouter m) (thing.VirtualRouter n) i j k l a b c d h = inl (ap name.VirtualRouter (vrf_name-exact m n h))
  meet_by (thing.BridgePort m) (thing.BridgePort n) i j k l a b c d h =
      let ports = same_name (name.Port m) (name.Port n) i k refl refl a c h in inl cc
  meet_by (thing.VlanMember v m s) (thing.VlanMember w n r) i j k l a b c d h =
      let parts = and_parts (same_id i k) (same_id j l) h in
      let vlans = same_name (name.Vlan v) (name.Vlan w) i k refl refl a c parts.0 in
      let ports = same_name (name.BridgePort m) (name.BridgePort n) j l refl refl b d parts.1 in inl cc
  meet_by (thing.Rif (base.Port m) v) (thing.Rif (base.Port n) w) i j k l a b c d h =
      let ports = same_name (name.Port m) (name.Port n) i k refl refl a c h in inl cc
  meet_by (thing.Rif (base.Vlan m) v) (thing.Rif (base.Vlan n) w) i j k l a b c d h =
      let vlans = same_name (name.Vlan m) (name.Vlan n) i k refl refl a c h in inl cc
  meet_by (thing.Rif (base.Port m) v) (thing.Rif (base.Vlan n) w) i j k l a b c d h = absurd (false≢true h)
  meet_by (thing.Rif (base.Vlan m) v) (thing.Rif (base.Port n) w) i j k l a b c d h = absurd (false≢true h)
  meet_by (thing.Own v x) (thing.Own w y) i j k l a b c d h =
      let parts = and_parts (same_router (vr_with v j) (vr_with w l)) (same_ip x y) h in
      inl (ap₂ (λ z u. name.Own z u) (same_routers v w j l b d parts.0) (ip-exact x y parts.1))
  meet_by (thing.Neighbor x m) (thing.Neighbor y n) i j k l a b c d h = inl (ap name.Neighbor (same_hop x y i k a c h))
  meet_by (thing.NextHop x) (thing.NextHop y) i j k l a b c d h = inl (ap name.NextHop (same_hop x y i k a c h))
  meet_by (thing.GroupMember x m) (thing.GroupMember y n) i j k l a b c d h =
      let parts = and_parts (same_id i k) (same_id j l) h in
      let same_groups = same_name (name.Group x) (name.Group y) i k refl refl a c parts.0 in
      let same_hops = same_name (name.NextHop m.hop) (name.NextHop n.hop) j l refl refl b d parts.1 in
      inr (groups x y same_groups, next_hops m.hop n.hop same_hops)
  meet_by (thing.Route v x m) (thing.Route w y n) i j k l a b c d h =
      let parts = and_parts (same_router (vr_with v j) (vr_with w l)) (same_prefix x y) h in
      inl (ap₂ (λ z u. name.Route z u) (same_routers v w j l b d parts.0) (prefix-exact x y parts.1))
  meet_by _ _ i j k l a b c d h = absurd (false≢true h)

  pub clash-meet : (t u : Thing) (b d : Body Rid) → IsBody (Has layout) t b → IsBody (Has layout) u d → clash b d ≡ true → Meet t u
  clash-meet t u b d x y h =
      meet_by t u x.first x.second y.first y.second x.first_at x.second_at y.first_at y.second_at
      (ap (λ z. clash z (body_with u y.first y.second)) (sym x.body_is) ∙ ap (clash b) (sym y.body_is) ∙ h)

  -- ---- a thing has one body

  router_one : (v : Vrf) (j l : Rid) → IsAt (Has layout) (router_name v) j → IsAt (Has layout) (router_name v) l → vr_with v j ≡ vr_with v l
  router_one vrf.Default j l x y = refl
  router_one (vrf.Named m) j l x y = ap Some (one-id layout objects laid (name.VirtualRouter m) j l x y)

  to_one : (g : Goal) (i k : Rid) → IsAt (Has layout) (goal_name g) i → IsAt (Has layout) (goal_name g) k → to_with g i ≡ to_with g k
  to_one goal.Drop i k x y = refl
  to_one (goal.Direct on) i k x y = ap (to_with (goal.Direct on)) (one-id layout objects laid _ i k x y)
  to_one (goal.Via hop) i k x y = ap (to_with (goal.Via hop)) (one-id layout objects laid _ i k x y)
  to_one (goal.Group hops) i k x y = ap (to_with (goal.Group hops)) (one-id layout objects laid _ i k x y)

  body_one : (t : Thing) (i j k l : Rid) → IsAt (Has layout) (first_name t) i → IsAt (Has layout) (second_name t) j → IsAt (Has layout) (first_name t) k → IsAt (Has layout) (second_name t) l → body_with t i j ≡ body_with t k l
  body_one (thing.BridgePort lane) i j k l a b c d = ap body.BridgePort (one-id layout objects laid _ i k a c)
  body_one (thing.VlanMember v lane tagging) i j k l a b c d = ap₂ (λ x y. body.VlanMember x y tagging) (one-id layout objects laid _ i k a c) (one-id layout objects laid _ j l b d)
  body_one (thing.Rif on v) i j k l a b c d = ap₂ (λ x y. body.Rif x (on_with on y)) (router_one v j l b d) (one-id layout objects laid _ i k a c)
  body_one (thing.Own v ip) i j k l a b c d = ap (λ x. body.OwnAddress x ip) (router_one v j l b d)
  body_one (thing.Neighbor hop mac) i j k l a b c d = ap (λ x. body.Neighbor x hop.ip mac) (one-id layout objects laid _ i k a c)
  body_one (thing.NextHop hop) i j k l a b c d = ap (λ x. body.NextHop x hop.ip) (one-id layout objects laid _ i k a c)
  body_one (thing.GroupMember hops hop) i j k l a b c d = ap₂ (λ x y. body.GroupMember x y hop.weight) (one-id layout objects laid _ i k a c) (one-id layout objects laid _ j l b d)
  body_one (thing.Route v prefix g) i j k l a b c d = ap₂ (λ x y. body.Route x prefix y) (router_one v j l b d) (to_one g i k a c)
  body_one _ i j k l a b c d = refl

  pub body-one : (t : Thing) (b d : Body Rid) → IsBody (Has layout) t b → IsBody (Has layout) t d → b ≡ d
  body-one t b d x y = x.body_is ∙ body_one t x.first x.second y.first y.second x.first_at x.second_at y.first_at y.second_at ∙ sym y.body_is

  -- the object of a thing that stands
  pub found-body : (i : Rid) (t : Thing) (b : Body Rid) → layout i t → IsBody (Has layout) t b → body_at objects (entry_of i.0 b) ≡ Some b
  found-body i t b h x =
      let has = laid.stand i t h in
      let same : b ≡ has.0 = body-one t b has.0 x has.1 in
      ap (λ z. body_at objects (entry_of i.0 z)) same ∙ has.2 ∙ ap Some (sym same)

  -- ---- sets

  -- what a set on a thing's object comes to
  pub record IsChanged (t u : Thing) (b : Body Rid) (a : Attr Rid) : Type 0 where
    pub same : name_of u ≡ name_of t
    pub has : has_attr b a ≡ true
    pub later : IsBody (Has layout) u (with_attr b a)
    pub well : attr_refers_well objects a ≡ true

  changed_as : (t u : Thing) (a : Attr Rid) (i j : Rid) (w : Thing) → u ≡ w → name_of w ≡ name_of t → IsAt (Has layout) (first_name w) i → IsAt (Has layout) (second_name w) j → has_attr (body_with t i j) a ≡ true → with_attr (body_with t i j) a ≡ body_with w i j → attr_refers_well objects a ≡ true → IsChanged t u (body_with t i j) a
  changed_as t u a i j w is same x y has later well = record {
    same = ap name_of is ∙ same;
    has = has;
    later = subst (λ z. IsBody (Has layout) z (with_attr (body_with t i j) a)) (sym is) (record { first = i; second = j; first_at = x; second_at = y; body_is = later });
    well = well;
  }

  changed_by : (t u : Thing) (a : Attr Rid) (i j : Rid) → IsAt (Has layout) (first_name t) i → IsAt (Has layout) (second_name t) j → IsChange (Has layout) t a u → IsChanged t u (body_with t i j) a
  changed_by (thing.Port p) u (attr.Speed s) i j x y h = changed_as _ u _ i j _ h refl tt tt refl refl refl
  changed_by (thing.Port p) u (attr.Mtu m) i j x y h = changed_as _ u _ i j _ h refl tt tt refl refl refl
  changed_by (thing.Port p) u (attr.Up s) i j x y h = changed_as _ u _ i j _ h refl tt tt refl refl refl
  changed_by (thing.VlanMember vlan lane tagging) u (attr.Tagging s) i j x y h = changed_as _ u _ i j _ h refl x y refl refl refl
  changed_by (thing.Neighbor hop mac) u (attr.Mac m) i j x y h = changed_as _ u _ i j _ h refl x tt refl refl refl
  changed_by (thing.Route v prefix goal) u (attr.To z) i j x y h = record {
    same = ap name_of h.4;
    has = refl;
    later = subst (λ w. IsBody (Has layout) w (body.Route (vr_with v j) prefix z)) (sym h.4) (record { first = h.1; second = j; first_at = h.2; second_at = y; body_is = ap (body.Route (vr_with v j) prefix) h.3 });
    well = ap (is_target objects) h.3 ∙ goal-stands layout objects laid h.0 h.1 h.2;
  }
  changed_by _ u _ i j x y h = elim h [ ]

  pub changed : (t u : Thing) (b : Body Rid) (a : Attr Rid) → IsBody (Has layout) t b → IsChange (Has layout) t a u → IsChanged t u b a
  changed t u b a x h = subst (λ z. IsChanged t u z a) (sym x.body_is) (changed_by t u a x.first x.second x.first_at x.second_at h)
