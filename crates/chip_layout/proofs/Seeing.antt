-- each whole chip is laid out by what it shows itself
use Rattle.std.proofs.Common.{◌≡◌, inr, ℕ, Bool, true, false, ◌&&◌, List, [], Option, None, Some, option_map, refl, sym, ap, ap₂, ◌∙◌, subst}
use Rattle.std.specs.List.{list_all}
use Rattle.std.proofs.lemmas.Bool.{and_parts, eq-eqb, false≢true}
use Rattle.std.proofs.lemmas.Option.{same_Some}
use Rattle.swss_types.specs.declared.address.Ip.{Ip}
use Rattle.swss_types.proofs.Truths.{true_not_false}
use Rattle.swss_types.specs.declared.vrf.Vrf.{Vrf}
use Rattle.swss_types.specs.declared.vrf.Vrf.TheVariants as vrf
use Rattle.swss_types.specs.declared.vrf.VrfName.{VrfName}
use Rattle.sai_types.specs.declared.ids.Rid.{Rid}
use Rattle.sai_types.specs.declared.kind.Kind.TheVariants as kind
use Rattle.sai_types.specs.declared.hop.Base.{Base}
use Rattle.sai_types.specs.declared.hop.Base.TheVariants as base
use Rattle.sai_types.specs.declared.hop.Hop.{Hop}
use Rattle.sai_types.specs.declared.weight.WHop.{WHop}
use Rattle.sai_types.specs.declared.body.Body.{Body}
use Rattle.sai_types.specs.declared.body.Body.TheVariants as body
use Rattle.sai_types.specs.declared.body.Entry.{Entry}
use Rattle.sai_types.specs.declared.body.Entry.TheVariants as entry
use Rattle.sai_types.specs.declared.body.RifOn.TheVariants as on
use Rattle.sai_types.specs.declared.body.To.{To}
use Rattle.sai_types.specs.declared.body.To.TheVariants as to
use Rattle.sai_types.specs.declared.thing.Goal.{Goal}
use Rattle.sai_types.specs.declared.thing.Goal.TheVariants as goal
use Rattle.sai_types.specs.declared.thing.Thing.{Thing}
use Rattle.sai_types.specs.declared.thing.Thing.TheVariants as thing
use Rattle.sai_types.specs.After.{entry_of}
use Rattle.sai_types.specs.Made.{HaveLanes, IsWhole, same_entry}
use Rattle.sai_types.specs.Named.{both, bridge_port_at, bridge_port_of, first_lane, next_hop_at, next_hop_of, port_at, body_port, rif_at, rif_of, thing_by, vlan_at, body_vlan, body_router, goal_by, router_at, whop_at}
use Rattle.sai_types.specs.Names as name
use Rattle.sai_types.specs.Names.{name_of}
use Rattle.sai_types.specs.Objects.{Objects, body_at, is_kind_of, is_there}
use Rattle.sai_types.specs.References.{Reference, beside_router, refers_well, stands, target_references}
use Rattle.sai_types.specs.Refusal.{same_id}
use Rattle.sai_types.proofs.Found.{body_at-same, same-refl}
use Rattle.sai_types.proofs.Things.{one-thing}
use Rattle.chip_layout.specs.Bodies.{IsAt, IsBody, body_with, first_name, goal_name, router_name, second_name, to_with, vr_with}
use Rattle.chip_layout.specs.Layout.{Has, IsLaidOut, Layout, has_number}
use Rattle.chip_layout.specs.Seen.{no_id, seen, tagged}
use Rattle.chip_layout.proofs.Bodies.{entry-body, entry-same}
use Rattle.chip_layout.proofs.Legality.{oids}
use Rattle.sai_types.proofs.Exact.{entry-exact}

first_of_both : (a b : Bool) → (a && b) ≡ true → a ≡ true
first_of_both a b h = (and_parts a b h).0

second : (a b c : Bool) → (a && (b && c)) ≡ true → b ≡ true
second a b c h = first_of_both b c (and_parts a (b && c) h).1

module _ (tag : Rid → List WHop) (made : ℕ) (objects : Objects) (whole : IsWhole made objects) where
  abbrev L : Layout Rid
  L = seen tag objects

  -- an object under an identifier is seen
  see : (r : Rid) (b : Body Rid) (t : Thing) → body_at objects (entry.Oid r) ≡ Some b → same_entry (entry.Oid r) (entry_of r.0 b) ≡ true → thing_by (tagged tag) objects (entry.Oid r, b) ≡ Some t → has_number t ≡ true → L r t
  see r b t found at is numbered = record { entry = entry.Oid r; body = b; found = found; at = at; thing = is; none = true_not_false (has_number t) numbered }

  -- what stands under an identifier has a name, by which it is seen
  port_by : (r : Rid) (o : Option (Body Rid)) → body_at objects (entry.Oid r) ≡ o → is_kind_of kind.Port o ≡ true → (n : ℕ) × (body_port o ≡ Some n) × Has L (name.Port n) r
  port_by r (Some (body.Port lanes speed mtu up)) e h = (first_lane lanes, refl, (thing.Port (record { lanes = lanes; speed = speed; mtu = mtu; up = up }), see r _ _ e (same-refl (entry.Oid r)) refl refl, refl))
  port_by r (Some _) e h = absurd (false≢true h)
  port_by r None e h = absurd (false≢true h)

  port : (r : Rid) → is_there objects kind.Port r ≡ true → (n : ℕ) × (port_at objects r ≡ Some n) × Has L (name.Port n) r
  port r h = port_by r (body_at objects (entry.Oid r)) refl h

  vlan_by : (r : Rid) (o : Option (Body Rid)) → body_at objects (entry.Oid r) ≡ o → is_kind_of kind.Vlan o ≡ true → (n : ℕ) × (body_vlan o ≡ Some n) × Has L (name.Vlan n) r
  vlan_by r (Some (body.Vlan v)) e h = (v, refl, (thing.Vlan v, see r _ _ e (same-refl (entry.Oid r)) refl refl, refl))
  vlan_by r (Some (body.Port lanes speed mtu up)) e h = absurd (false≢true h)
  vlan_by r (Some _) e h = absurd (false≢true h)
  vlan_by r None e h = absurd (false≢true h)

  vlan : (r : Rid) → is_there objects kind.Vlan r ≡ true → (n : ℕ) × (vlan_at objects r ≡ Some n) × Has L (name.Vlan n) r
  vlan r h = vlan_by r (body_at objects (entry.Oid r)) refl h

  router_by : (r : Rid) (o : Option (Body Rid)) → body_at objects (entry.Oid r) ≡ o → is_kind_of kind.VirtualRouter o ≡ true → (n : VrfName) × (body_router o ≡ Some n) × Has L (name.VirtualRouter n) r
  router_by r (Some (body.VirtualRouter n)) e h = (n, refl, (thing.VirtualRouter n, see r _ _ e (same-refl (entry.Oid r)) refl refl, refl))
  router_by r (Some (body.Port lanes speed mtu up)) e h = absurd (false≢true h)
  router_by r (Some _) e h = absurd (false≢true h)
  router_by r None e h = absurd (false≢true h)

  -- the virtual router of an object
  abbrev IsInRouter : Option Rid → Type 0
  IsInRouter vr = (v : Vrf) × (j : Rid) × (router_at objects vr ≡ Some v) × IsAt (Has L) (router_name v) j × (vr ≡ vr_with v j)

  router : (vr : Option Rid) (rs : List (Reference Rid)) → list_all (stands objects) (beside_router vr rs) ≡ true → IsInRouter vr × (list_all (stands objects) rs ≡ true)
  router None rs h = ((vrf.Default, no_id, refl, tt, refl), h)
  router (Some r) rs h =
      let parts = and_parts _ _ h in
      let n = router_by r (body_at objects (entry.Oid r)) refl parts.0 in
      ((vrf.Named n.0, r, ap (option_map vrf.Named) n.1, n.2, refl), parts.1)

  bridge_port_by : (r : Rid) (o : Option (Body Rid)) → body_at objects (entry.Oid r) ≡ o → is_kind_of kind.BridgePort o ≡ true → (n : ℕ) × (bridge_port_of objects o ≡ Some n) × Has L (name.BridgePort n) r
  bridge_port_by r (Some (body.BridgePort p)) e h =
      let n = port p (first_of_both _ _ (whole.refer.each (entry.Oid r) (body.BridgePort p) e)) in
      (n.0, n.1, (thing.BridgePort n.0, see r _ _ e (same-refl (entry.Oid r)) (ap (option_map thing.BridgePort) n.1) refl, refl))
  bridge_port_by r (Some (body.Port lanes speed mtu up)) e h = absurd (false≢true h)
  bridge_port_by r (Some _) e h = absurd (false≢true h)
  bridge_port_by r None e h = absurd (false≢true h)

  bridge_port : (r : Rid) → is_there objects kind.BridgePort r ≡ true → (n : ℕ) × (bridge_port_at objects r ≡ Some n) × Has L (name.BridgePort n) r
  bridge_port r h = bridge_port_by r (body_at objects (entry.Oid r)) refl h

  rif_by : (r : Rid) (o : Option (Body Rid)) → body_at objects (entry.Oid r) ≡ o → is_kind_of kind.Rif o ≡ true → (b : Base) × (rif_of objects o ≡ Some b) × Has L (name.Rif b) r
  rif_by r (Some (body.Rif vr (on.Port p))) e h =
      let in_router = router vr _ (whole.refer.each (entry.Oid r) (body.Rif vr (on.Port p)) e) in
      let n = port p (first_of_both _ _ in_router.1) in
      let is = ap (option_map base.Port) n.1 in
      (base.Port n.0, is, (thing.Rif (base.Port n.0) in_router.0.0, see r _ _ e (same-refl (entry.Oid r)) (ap₂ (both thing.Rif) is in_router.0.2) refl, refl))
  rif_by r (Some (body.Rif vr (on.Vlan v))) e h =
      let in_router = router vr _ (whole.refer.each (entry.Oid r) (body.Rif vr (on.Vlan v)) e) in
      let n = vlan v (first_of_both _ _ in_router.1) in
      let is = ap (option_map base.Vlan) n.1 in
      (base.Vlan n.0, is, (thing.Rif (base.Vlan n.0) in_router.0.0, see r _ _ e (same-refl (entry.Oid r)) (ap₂ (both thing.Rif) is in_router.0.2) refl, refl))
  rif_by r (Some (body.Port lanes speed mtu up)) e h = absurd (false≢true h)
  rif_by r (Some _) e h = absurd (false≢true h)
  rif_by r None e h = absurd (false≢true h)

  rif : (r : Rid) → is_there objects kind.Rif r ≡ true → (b : Base) × (rif_at objects r ≡ Some b) × Has L (name.Rif b) r
  rif r h = rif_by r (body_at objects (entry.Oid r)) refl h

  abbrev hop_of : Base → Ip → Hop
  hop_of b ip = record { on = b; ip = ip }

  next_hop_by : (r : Rid) (o : Option (Body Rid)) → body_at objects (entry.Oid r) ≡ o → is_kind_of kind.NextHop o ≡ true → (hop : Hop) × (next_hop_of objects o ≡ Some hop) × Has L (name.NextHop hop) r
  next_hop_by r (Some (body.NextHop on ip)) e h =
      let b = rif on (first_of_both _ _ (whole.refer.each (entry.Oid r) (body.NextHop on ip) e)) in
      let is = ap (option_map (λ x. hop_of x ip)) b.1 in
      (hop_of b.0 ip, is, (thing.NextHop (hop_of b.0 ip), see r _ _ e (same-refl (entry.Oid r)) (ap (option_map thing.NextHop) is) refl, refl))
  next_hop_by r (Some (body.Port lanes speed mtu up)) e h = absurd (false≢true h)
  next_hop_by r (Some _) e h = absurd (false≢true h)
  next_hop_by r None e h = absurd (false≢true h)

  next_hop : (r : Rid) → is_there objects kind.NextHop r ≡ true → (hop : Hop) × (next_hop_at objects r ≡ Some hop) × Has L (name.NextHop hop) r
  next_hop r h = next_hop_by r (body_at objects (entry.Oid r)) refl h

  group_by : (r : Rid) (o : Option (Body Rid)) → body_at objects (entry.Oid r) ≡ o → is_kind_of kind.Group o ≡ true → Has L (name.Group (tag r)) r
  group_by r (Some body.Group) e h = (thing.Group (tag r), see r body.Group _ e (same-refl (entry.Oid r)) refl refl, refl)
  group_by r (Some (body.Port lanes speed mtu up)) e h = absurd (false≢true h)
  group_by r (Some _) e h = absurd (false≢true h)
  group_by r None e h = absurd (false≢true h)

  group : (r : Rid) → is_there objects kind.Group r ≡ true → Has L (name.Group (tag r)) r
  group r h = group_by r (body_at objects (entry.Oid r)) refl h

  -- an object stands for a thing, whose body it has
  abbrev pub IsShown : Entry Rid → Body Rid → Type 0
  IsShown e b = (t : Thing) × (thing_by (tagged tag) objects (e, b) ≡ Some t) × IsBody (Has L) t b

  show : (e : Entry Rid) (b : Body Rid) (t : Thing) (i j : Rid) → thing_by (tagged tag) objects (e, b) ≡ Some t → IsAt (Has L) (first_name t) i → IsAt (Has L) (second_name t) j → b ≡ body_with t i j → IsShown e b
  show e b t i j is x y body = (t, is, record { first = i; second = j; first_at = x; second_at = y; body_is = body })

  points : (t : To Rid) → list_all (stands objects) (target_references t) ≡ true → (g : Goal) × (i : Rid) × (goal_by (tagged tag) objects t ≡ Some g) × IsAt (Has L) (goal_name g) i × (t ≡ to_with g i)
  points to.Drop w = (goal.Drop, no_id, refl, tt, refl)
  points (to.Rif r) w = let b = rif r (first_of_both _ _ w) in (goal.Direct b.0, r, ap (option_map goal.Direct) b.1, b.2, refl)
  points (to.NextHop n) w = let hop = next_hop n (first_of_both _ _ w) in (goal.Via hop.0, n, ap (option_map goal.Via) hop.1, hop.2, refl)
  points (to.Group g) w = (goal.Group (tag g), g, refl, group g (first_of_both _ _ w), refl)

  pub shown : (e : Entry Rid) (b : Body Rid) → body_at objects e ≡ Some b → refers_well objects b ≡ true → IsShown e b
  shown e (body.Port lanes speed mtu up) f w = show e _ (thing.Port (record { lanes = lanes; speed = speed; mtu = mtu; up = up })) no_id no_id refl tt tt refl
  shown e (body.Vlan v) f w = show e _ (thing.Vlan v) no_id no_id refl tt tt refl
  shown e (body.VirtualRouter n) f w = show e _ (thing.VirtualRouter n) no_id no_id refl tt tt refl
  shown e (body.BridgePort p) f w = let n = port p (first_of_both _ _ w) in show e _ (thing.BridgePort n.0) p no_id (ap (option_map thing.BridgePort) n.1) n.2 tt refl
  shown e (body.VlanMember v p tagging) f w =
      let m = vlan v (first_of_both _ _ w) in
      let n = bridge_port p (second _ _ _ w) in
      show e _ (thing.VlanMember m.0 n.0 tagging) v p (ap₂ (both (λ x y. thing.VlanMember x y tagging)) m.1 n.1) m.2 n.2 refl
  shown e (body.Rif vr (on.Port p)) f w =
      let v = router vr _ w in
      let n = port p (first_of_both _ _ v.1) in
      show e _ (thing.Rif (base.Port n.0) v.0.0) p v.0.1 (ap₂ (both thing.Rif) (ap (option_map base.Port) n.1) v.0.2) n.2 v.0.3 (ap (λ z. body.Rif z (on.Port p)) v.0.4)
  shown e (body.Rif vr (on.Vlan m)) f w =
      let v = router vr _ w in
      let n = vlan m (first_of_both _ _ v.1) in
      show e _ (thing.Rif (base.Vlan n.0) v.0.0) m v.0.1 (ap₂ (both thing.Rif) (ap (option_map base.Vlan) n.1) v.0.2) n.2 v.0.3 (ap (λ z. body.Rif z (on.Vlan m)) v.0.4)
  shown e (body.OwnAddress vr ip) f w =
      let v = router vr [] w in
      show e _ (thing.Own v.0.0 ip) no_id v.0.1 (ap (option_map (λ z. thing.Own z ip)) v.0.2) tt v.0.3 (ap (λ z. body.OwnAddress z ip) v.0.4)
  shown e (body.Neighbor r ip mac) f w = let b = rif r (first_of_both _ _ w) in show e _ (thing.Neighbor (hop_of b.0 ip) mac) r no_id (ap (λ o. option_map (λ z. thing.Neighbor z mac) (option_map (λ x. hop_of x ip) o)) b.1) b.2 tt refl
  shown e (body.NextHop r ip) f w = let b = rif r (first_of_both _ _ w) in show e _ (thing.NextHop (hop_of b.0 ip)) r no_id (ap (λ o. option_map thing.NextHop (option_map (λ x. hop_of x ip) o)) b.1) b.2 tt refl
  shown e body.Group f w =
      let at = whole.entered.each e body.Group f in
      let g : Rid = record { 0 = at.0 } in
      show e body.Group (thing.Group (tag g)) no_id no_id (ap (λ z. thing_by (tagged tag) objects (z, body.Group)) (entry-exact e (entry.Oid g) at.2)) tt tt refl
  shown e (body.GroupMember g n weight) f w =
      let hop = next_hop n (second _ _ _ w) in
      let whop : whop_at objects n weight ≡ Some (record { hop = hop.0; weight = weight }) = ap (option_map (λ h. record { hop = h; weight = weight })) hop.1 in
      show e _ (thing.GroupMember (tag g) (record { hop = hop.0; weight = weight })) g n (ap (both thing.GroupMember (tagged tag g)) whop) (group g (first_of_both _ _ w)) hop.2 refl
  shown e (body.Route vr prefix t) f w =
      let v = router vr _ w in
      let g = points t v.1 in
      show e _ (thing.Route v.0.0 prefix g.0) g.1 v.0.1 (ap₂ (both (λ z u. thing.Route z prefix u)) v.0.2 g.2) g.3 v.0.3 (ap₂ (λ z u. body.Route z prefix u) v.0.4 g.4)

  -- the body of what is seen is its thing's
  pub body-seen : (e : Entry Rid) (b : Body Rid) (t : Thing) → body_at objects e ≡ Some b → thing_by (tagged tag) objects (e, b) ≡ Some t → IsBody (Has L) t b
  body-seen e b t found is =
      let s = shown e b found (whole.refer.each e b found) in
      subst (λ z. IsBody (Has L) z b) (same_Some s.0 t (sym s.1 ∙ is)) s.2

  stand : (i : Rid) (t : Thing) → L i t → (b : Body Rid) × IsBody (Has L) t b × (body_at objects (entry_of i.0 b) ≡ Some b)
  stand i t s = (s.body, body-seen s.entry s.body t s.found s.thing, sym (body_at-same objects s.entry (entry_of i.0 s.body) s.at) ∙ s.found)

  tied_by : (x : Bool) (e : Entry Rid) (b : Body Rid) (n : ℕ) (t : Thing) → body_at objects e ≡ Some b → same_entry e (entry_of n b) ≡ true → thing_by (tagged tag) objects (e, b) ≡ Some t → has_number t ≡ x → IsBody (Has L) t b → (i : Rid) × (u : Thing) × L i u × IsBody (Has L) u b × (same_entry e (entry_of i.0 b) ≡ true)
  tied_by true e b n t found at is numbered of = (record { 0 = n }, t, record { entry = e; body = b; found = found; at = at; thing = is; none = true_not_false (has_number t) numbered }, of, at)
  tied_by false e b n t found at is numbered of =
      let at' : same_entry e (entry_of 0 b) ≡ true = ap (same_entry e) (entry-same (Has L) 0 n t b of (λ h. true_not_false (has_number t) h numbered)) ∙ at in
      (no_id, t, record { entry = e; body = b; found = found; at = at'; thing = is; none = λ h. refl }, of, at')

  tied : (e : Entry Rid) (b : Body Rid) → body_at objects e ≡ Some b → (i : Rid) × (t : Thing) × L i t × IsBody (Has L) t b × (same_entry e (entry_of i.0 b) ≡ true)
  tied e b found =
      let t = shown e b found (whole.refer.each e b found) in
      let at = whole.entered.each e b found in
      tied_by (has_number t.0) e b at.0 t.0 found at.2 t.1 refl t.2

  -- what is seen of one entry is one thing
  one_thing : (i j : Rid) (t u : Thing) → (s : L i t) → (r : L j u) → s.entry ≡ r.entry → t ≡ u
  one_thing i j t u s r e =
      let bodies = same_Some s.body r.body (sym s.found ∙ ap (body_at objects) e ∙ r.found) in
      same_Some t u (sym s.thing ∙ ap₂ (λ x y. thing_by (tagged tag) objects (x, y)) e bodies ∙ r.thing)

  at_id : (i : Rid) (t : Thing) (s : L i t) → has_number t ≡ true → s.entry ≡ entry.Oid i
  at_id i t s h =
      let of = body-seen s.entry s.body t s.found s.thing in
      entry-exact s.entry (entry.Oid i) (ap (same_entry s.entry) (sym (entry-body (Has L) i.0 t s.body of h)) ∙ s.at)

  ids : (i : Rid) (t u : Thing) → L i t → L i u → has_number t ≡ true → has_number u ≡ true → t ≡ u
  ids i t u s r x y = one_thing i i t u s r (at_id i t s x ∙ sym (at_id i u r y))

  module _ (apart_tags : (g h : Rid) → tag g ≡ tag h → g ≡ h) (have : HaveLanes objects) where
    one_group : (g h : Rid) (hs : List WHop) → tagged tag g ≡ Some hs → tagged tag h ≡ Some hs → same_id g h ≡ true
    one_group g h hs x y = eq-eqb g.0 h.0 (ap (λ (r : Rid). r.0) (apart_tags g h (same_Some (tag g) (tag h) (x ∙ sym y))))

    number_by : (x : Bool) (i j : Rid) (t u : Thing) (s : L i t) (r : L j u) → has_number t ≡ x → s.entry ≡ r.entry → t ≡ u → i ≡ j
    number_by true i j t u s r x e is = oids i j (sym (at_id i t s x) ∙ e ∙ at_id j u r (ap has_number (sym is) ∙ x))
    number_by false i j t u s r x e is = s.none x ∙ sym (r.none (ap has_number (sym is) ∙ x))

    one : (i j : Rid) (t u : Thing) → L i t → L j u → name_of t ≡ name_of u → (i ≡ j) × (t ≡ u)
    one i j t u s r same =
        let entries = entry-exact s.entry r.entry (one-thing (tagged tag) objects made whole have s.entry r.entry s.body r.body t u s.found r.found s.thing r.thing same (inr one_group)) in
        let is = one_thing i j t u s r entries in
        (number_by (has_number t) i j t u s r refl entries is, is)

    -- a whole chip is laid out by what it shows
    pub seen-laid : IsLaidOut (seen tag objects) objects
    seen-laid = record { stand = stand; tied = tied; one = one; ids = ids }
