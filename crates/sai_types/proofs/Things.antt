-- two objects that stand for things of one name are one object
use Rattle.std.proofs.Common.{◌≡◌, ◌⊎◌, inl, inr, ℕ, true, false, List, Option, None, Some, option_map, refl, sym, ap, ◌∙◌, subst, arith}
use Rattle.std.proofs.lemmas.Bool.{and_from, eq-eqb, false≢true}
use Rattle.std.proofs.lemmas.Option.{same_Some}
use Rattle.swss_types.specs.declared.address.Ip.{Ip}
use Rattle.swss_types.specs.declared.address.Prefix.{Prefix}
use Rattle.swss_types.specs.declared.vrf.Vrf.{Vrf}
use Rattle.swss_types.specs.declared.vrf.VrfName.{VrfName}
use Rattle.swss_types.specs.Vrf.{same_vrf_name}
use Rattle.swss_types.specs.contracts.address.IpEq.TheImpl.Laws as equal_ip
use Rattle.swss_types.specs.contracts.address.PrefixEq.TheImpl.Laws as equal_prefix
use Rattle.swss_types.proofs.Proper.{mapped}
use Rattle.swss_types.proofs.Routers.{vrf_name-refl}
use Rattle.sai_types.specs.declared.ids.Rid.{Rid}
use Rattle.sai_types.specs.declared.hop.Base.{Base}
use Rattle.sai_types.specs.declared.hop.Hop.{Hop}
use Rattle.sai_types.specs.declared.weight.WHop.{WHop}
use Rattle.sai_types.specs.declared.thing.Thing.{Thing}
use Rattle.sai_types.specs.declared.thing.Thing.TheVariants as thing
use Rattle.sai_types.specs.declared.body.Body.{Body}
use Rattle.sai_types.specs.declared.body.Body.TheVariants as body
use Rattle.sai_types.specs.declared.body.Entry.{Entry}
use Rattle.sai_types.specs.declared.body.Entry.TheVariants as entry
use Rattle.sai_types.specs.Objects.{Objects, body_at, kind_of, level}
use Rattle.sai_types.specs.Refusal.{clash, same_id, same_ip, same_prefix}
use Rattle.sai_types.specs.Named.{both, first_lane, thing_by, port_at, vlan_at, bridge_port_at, base_on, hop_on, hops_at, next_hop_at, goal_by, whop_at, router_at}
use Rattle.sai_types.specs.Names as name
use Rattle.sai_types.specs.Names.{ThingName, name_kind, name_of}
use Rattle.sai_types.specs.Made.{IsWhole, HaveLanes, has_first, HaveOneEach, is_one, same_entry}
use Rattle.sai_types.proofs.Exact.{ids-tied}
use Rattle.sai_types.proofs.Keys.{share-first, one_port, one_vlan, one_bridge_port, one_base, one_hop, one_next_hop, one_router}

pub both_mapped : {A B C : Type 0} (f : A → B → C) (o : Option A) (p : Option B) (y : C) → both f o p ≡ Some y → (a : A) × (b : B) × (o ≡ Some a) × (p ≡ Some b) × (f a b ≡ y)
both_mapped f None p y h = absurd cc
both_mapped f (Some a) None y h = absurd cc
both_mapped f (Some a) (Some b) y h = (a, b, refl, refl, cc)

-- the hop that got a weight
pub hop-of_whop : (o : Option Hop) (w : ℕ) (x : WHop) → option_map (λ h. record { hop = h; weight = w }) o ≡ Some x → o ≡ Some x.hop
hop-of_whop None w x e = absurd cc
hop-of_whop (Some h) w x e = ap (λ (z : WHop). Some z.hop) (same_Some _ x e)

pub vlans : (a b : ℕ) → name.Vlan a ≡ name.Vlan b → a ≡ b
vlans a b h = cc

pub ports : (a b : ℕ) → name.Port a ≡ name.Port b → a ≡ b
ports a b h = cc

pub bridge_ports : (a b : ℕ) → name.BridgePort a ≡ name.BridgePort b → a ≡ b
bridge_ports a b h = cc

pub vlan_members : (a b c d : ℕ) → name.VlanMember a b ≡ name.VlanMember c d → (a ≡ c) × (b ≡ d)
vlan_members a b c d h = (cc, cc)

pub rifs : (a b : Base) → name.Rif a ≡ name.Rif b → a ≡ b
rifs a b h = cc

pub routers : (a b : VrfName) → name.VirtualRouter a ≡ name.VirtualRouter b → a ≡ b
routers a b h = cc

pub owns : (v w : Vrf) (a b : Ip) → name.Own v a ≡ name.Own w b → (v ≡ w) × (a ≡ b)
owns v w a b h = (cc, cc)

pub neighbors : (a b : Hop) → name.Neighbor a ≡ name.Neighbor b → a ≡ b
neighbors a b h = cc

pub next_hops : (a b : Hop) → name.NextHop a ≡ name.NextHop b → a ≡ b
next_hops a b h = cc

pub groups : (a b : List WHop) → name.Group a ≡ name.Group b → a ≡ b
groups a b h = cc

pub group_members : (a b : List WHop) (x y : WHop) → name.GroupMember a x ≡ name.GroupMember b y → (a ≡ b) × (x ≡ y)
group_members a b x y h = (cc, cc)

pub same_route : (v w : Vrf) (a b : Prefix) → name.Route v a ≡ name.Route w b → (v ≡ w) × (a ≡ b)
same_route v w a b h = (cc, cc)

module _ (hops : Rid → Option (List WHop)) (objects : Objects) where
  -- the name of an object's thing, by its entry and body
  abbrev IsNamed : Entry Rid → Body Rid → ThingName → Type 0
  IsNamed e (body.Port lanes speed mtu up) k = k ≡ name.Port (first_lane lanes)
  IsNamed e (body.Vlan vlan) k = k ≡ name.Vlan vlan
  IsNamed e (body.VirtualRouter label) k = k ≡ name.VirtualRouter label
  IsNamed e (body.BridgePort port) k = (n : ℕ) × (port_at objects port ≡ Some n) × (k ≡ name.BridgePort n)
  IsNamed e (body.VlanMember vlan bridge_port tagging) k = (v : ℕ) × (p : ℕ) × (vlan_at objects vlan ≡ Some v) × (bridge_port_at objects bridge_port ≡ Some p) × (k ≡ name.VlanMember v p)
  IsNamed e (body.Rif vr on) k = (b : Base) × (base_on objects on ≡ Some b) × (k ≡ name.Rif b)
  IsNamed e (body.OwnAddress vr ip) k = (v : Vrf) × (router_at objects vr ≡ Some v) × (k ≡ name.Own v ip)
  IsNamed e (body.Neighbor rif ip mac) k = (h : Hop) × (hop_on objects rif ip ≡ Some h) × (k ≡ name.Neighbor h)
  IsNamed e (body.NextHop rif ip) k = (h : Hop) × (hop_on objects rif ip ≡ Some h) × (k ≡ name.NextHop h)
  IsNamed e body.Group k = (g : Rid) × (hs : List WHop) × (e ≡ entry.Oid g) × (hops g ≡ Some hs) × (k ≡ name.Group hs)
  IsNamed e (body.GroupMember group next_hop weight) k = (hs : List WHop) × (h : WHop) × (hops group ≡ Some hs) × (whop_at objects next_hop weight ≡ Some h) × (k ≡ name.GroupMember hs h)
  IsNamed e (body.Route vr prefix to) k = (v : Vrf) × (router_at objects vr ≡ Some v) × (k ≡ name.Route v prefix)

  group_named : (e : Entry Rid) (x : Thing) → thing_by hops objects (e, body.Group) ≡ Some x → IsNamed e body.Group (name_of x)
  group_named (entry.Oid g) x h = let m = mapped thing.Group (hops g) x h in (g, m.0, refl, m.1, ap name_of (sym m.2))
  group_named (entry.Own vr ip) x h = absurd cc
  group_named (entry.Neigh r ip) x h = absurd cc
  group_named (entry.Route vr p) x h = absurd cc

  some_named : (t x : Thing) → Some t ≡ Some x → name_of x ≡ name_of t
  some_named t x h = ap name_of (sym (same_Some t x h))

  named : (e : Entry Rid) (b : Body Rid) (x : Thing) → thing_by hops objects (e, b) ≡ Some x → IsNamed e b (name_of x)
  named e (body.Port lanes speed mtu up) x h = some_named _ x h
  named e (body.Vlan vlan) x h = some_named _ x h
  named e (body.VirtualRouter label) x h = some_named _ x h
  named e (body.BridgePort port) x h = let m = mapped thing.BridgePort (port_at objects port) x h in (m.0, m.1, ap name_of (sym m.2))
  named e (body.VlanMember vlan bridge_port tagging) x h = let m = both_mapped (λ v p. thing.VlanMember v p tagging) (vlan_at objects vlan) (bridge_port_at objects bridge_port) x h in (m.0, m.1, m.2, m.3, ap name_of (sym m.4))
  named e (body.Rif vr on) x h = let m = both_mapped thing.Rif (base_on objects on) (router_at objects vr) x h in (m.0, m.2, ap name_of (sym m.4))
  named e (body.OwnAddress vr ip) x h = let m = mapped (λ v. thing.Own v ip) (router_at objects vr) x h in (m.0, m.1, ap name_of (sym m.2))
  named e (body.Neighbor rif ip mac) x h = let m = mapped (λ h. thing.Neighbor h mac) (hop_on objects rif ip) x h in (m.0, m.1, ap name_of (sym m.2))
  named e (body.NextHop rif ip) x h = let m = mapped thing.NextHop (hop_on objects rif ip) x h in (m.0, m.1, ap name_of (sym m.2))
  named e body.Group x h = group_named e x h
  named e (body.GroupMember group next_hop weight) x h =
      let m = both_mapped thing.GroupMember (hops group) (whop_at objects next_hop weight) x h in
      (m.0, m.1, m.2, m.3, ap name_of (sym m.4))
  named e (body.Route vr prefix to) x h = let m = both_mapped (λ v g. thing.Route v prefix g) (router_at objects vr) (goal_by hops objects to) x h in (m.0, m.2, ap name_of (sym m.4))

  level_named : (e : Entry Rid) (b : Body Rid) (k : ThingName) → IsNamed e b k → level (name_kind k) ≡ level (kind_of b)
  level_named e (body.BridgePort port) k h = ap (λ n. level (name_kind n)) h.2
  level_named e (body.VlanMember vlan bridge_port tagging) k h = ap (λ n. level (name_kind n)) h.4
  level_named e (body.VirtualRouter label) k h = ap (λ n. level (name_kind n)) h
  level_named e (body.Rif vr on) k h = ap (λ n. level (name_kind n)) h.2
  level_named e (body.Neighbor rif ip mac) k h = ap (λ n. level (name_kind n)) h.2
  level_named e (body.NextHop rif ip) k h = ap (λ n. level (name_kind n)) h.2
  level_named e body.Group k h = ap (λ n. level (name_kind n)) h.4
  level_named e (body.GroupMember group next_hop weight) k h = ap (λ n. level (name_kind n)) h.4
  level_named e (body.Port lanes speed mtu up) k h = ap (λ n. level (name_kind n)) h
  level_named e (body.Vlan vlan) k h = ap (λ n. level (name_kind n)) h
  level_named e (body.OwnAddress vr ip) k h = ap (λ n. level (name_kind n)) h.2
  level_named e (body.Route vr prefix to) k h = ap (λ n. level (name_kind n)) h.2

  -- groups of these hops are one group
  abbrev AreOneGroup : Type 0
  AreOneGroup = (g h : Rid) (hs : List WHop) → hops g ≡ Some hs → hops h ≡ Some hs → same_id g h ≡ true

  one_group : (k : ThingName) → (is_one k ≡ true) ⊎ AreOneGroup → is_one k ≡ false → AreOneGroup
  one_group k (inl one) many = absurd (false≢true (sym many ∙ one))
  one_group k (inr one) many = one

  module _ (made : ℕ) (whole : IsWhole made objects) (have : HaveLanes objects) where
    same_by : (e f : Entry Rid) (b d : Body Rid) (k : ThingName) → IsNamed e b k → IsNamed f d k → has_first b ≡ true → has_first d ≡ true → level (kind_of b) ≡ level (kind_of d) → (is_one k ≡ true) ⊎ AreOneGroup → (clash b d ≡ true) ⊎ (same_entry e f ≡ true)
    same_by e f (body.Port xs s m u) (body.Port ys s' m' u') k i j x y same one = inl (share-first xs ys (ports (first_lane xs) (first_lane ys) (sym i ∙ j)) x y)
    same_by e f (body.Vlan v) (body.Vlan w) k i j x y same one = inl (eq-eqb v w (vlans v w (sym i ∙ j)))
    same_by e f (body.VirtualRouter m) (body.VirtualRouter n) k i j x y same one = inl (ap (same_vrf_name m) (sym (routers m n (sym i ∙ j))) ∙ vrf_name-refl m)
    same_by e f (body.BridgePort p) (body.BridgePort q) k i j x y same one = inl (one_port made objects whole have p q i.0 i.1 (j.1 ∙ ap Some (sym (bridge_ports i.0 j.0 (sym i.2 ∙ j.2)))))
    same_by e f (body.VlanMember v p t) (body.VlanMember w q t') k i j x y same one =
        let keys = vlan_members i.0 i.1 j.0 j.1 (sym i.4 ∙ j.4) in
        inl (and_from _ _ (one_vlan made objects whole have v w i.0 i.2 (j.2 ∙ ap Some (sym keys.0))) (one_bridge_port made objects whole have p q i.1 i.3 (j.3 ∙ ap Some (sym keys.1))))
    same_by e f (body.Rif vr on) (body.Rif vr' on') k i j x y same one = inl (one_base made objects whole have on on' i.0 i.1 (j.1 ∙ ap Some (sym (rifs i.0 j.0 (sym i.2 ∙ j.2)))))
    same_by e f (body.OwnAddress vr ip) (body.OwnAddress vr' other) k i j x y same one =
        let keys = owns i.0 j.0 ip other (sym i.2 ∙ j.2) in
        inl (and_from _ _ (one_router made objects whole have vr vr' i.0 i.1 (j.1 ∙ ap Some (sym keys.0))) (ap (same_ip ip) (sym keys.1) ∙ equal_ip.laws-law.refl ip))
    same_by e f (body.Neighbor r ip mac) (body.Neighbor s other mac') k i j x y same one = inl (one_hop made objects whole have r s ip other i.0 i.1 (j.1 ∙ ap Some (sym (neighbors i.0 j.0 (sym i.2 ∙ j.2)))))
    same_by e f (body.NextHop r ip) (body.NextHop s other) k i j x y same one = inl (one_hop made objects whole have r s ip other i.0 i.1 (j.1 ∙ ap Some (sym (next_hops i.0 j.0 (sym i.2 ∙ j.2)))))
    same_by e f body.Group body.Group k i j x y same one =
        let ids = one_group k one (ap is_one i.4) i.0 j.0 i.1 i.3 (j.3 ∙ ap Some (sym (groups i.1 j.1 (sym i.4 ∙ j.4)))) in
        inr (ap (λ z. same_entry z f) i.2 ∙ ap (same_entry (entry.Oid i.0)) j.2 ∙ ids-tied i.0 j.0 ∙ ids)
    same_by e f (body.GroupMember g n v) (body.GroupMember h m w) k i j x y same one =
        let keys = group_members i.0 j.0 i.1 j.1 (sym i.4 ∙ j.4) in
        let a = hop-of_whop (next_hop_at objects n) v i.1 i.3 in
        let b = hop-of_whop (next_hop_at objects m) w i.1 (j.3 ∙ ap Some (sym keys.1)) in
        inl (and_from _ _ (one_group k one (ap is_one i.4) g h i.0 i.2 (j.2 ∙ ap Some (sym keys.0))) (one_next_hop made objects whole have n m i.1.hop a b))
    same_by e f (body.Route vr prefix to) (body.Route vr' other to') k i j x y same one =
        let keys = same_route i.0 j.0 prefix other (sym i.2 ∙ j.2) in
        inl (and_from _ _ (one_router made objects whole have vr vr' i.0 i.1 (j.1 ∙ ap Some (sym keys.0))) (ap (same_prefix prefix) (sym keys.1) ∙ equal_prefix.laws-law.refl prefix))
    same_by e f _ _ k i j x y same one = absurd (omega arith)

    one_by : (e f : Entry Rid) (b d : Body Rid) → body_at objects e ≡ Some b → body_at objects f ≡ Some d → (clash b d ≡ true) ⊎ (same_entry e f ≡ true) → same_entry e f ≡ true
    one_by e f b d p q (inl clashes) = whole.apart.each e f b d p q clashes
    one_by e f b d p q (inr same) = same

    -- two objects whose things have one name are one object, but groups and their members where groups may have the hops of others
    pub one-thing : (e f : Entry Rid) (b d : Body Rid) (x y : Thing) → body_at objects e ≡ Some b → body_at objects f ≡ Some d → thing_by hops objects (e, b) ≡ Some x → thing_by hops objects (f, d) ≡ Some y → name_of x ≡ name_of y → (is_one (name_of x) ≡ true) ⊎ AreOneGroup → same_entry e f ≡ true
    one-thing e f b d x y p q i j same one =
        let u = named e b x i in
        let v : IsNamed f d (name_of x) = subst (IsNamed f d) (sym same) (named f d y j) in
        one_by e f b d p q (same_by e f b d (name_of x) u v (have.each e b p) (have.each f d q) (sym (level_named e b (name_of x) u) ∙ level_named f d (name_of x) v) one)

pub one-each : (made : ℕ) (objects : Objects) → IsWhole made objects → HaveLanes objects → HaveOneEach objects
one-each made objects whole have = record { each = λ e f b d x y p q i j same one. one-thing (hops_at objects) objects made whole have e f b d x y p q i j same (inl one) }
