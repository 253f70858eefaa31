-- what clashes with a body, and what refers to an entry, by marks
use Rattle.std.proofs.Common.{◌≡◌, ℕ, ◌==◌, Bool, true, false, ◌||◌, ◌&&◌, List, [], ◌∷◌, Option, None, Some, refl, sym, ap, ap₂, ◌∙◌, rules}
use Rattle.std.specs.List.{list_any}
use Rattle.std.specs.BTreeMap.{is_at}
use Rattle.std.specs.Cmp.{both_tied}
use Rattle.std.proofs.lemmas.Bool.{and_parts, eq-eqb, false≢true}
use Rattle.std.proofs.lemmas.Cmp.{nat_eq_equiv}
use Rattle.swss_types.specs.contracts.address.IpOrd.TheImpl as ip_ord
use Rattle.swss_types.specs.declared.address.Ip.{Ip}
use Rattle.swss_types.specs.declared.tagging.Tagging.{Tagging}
use Rattle.swss_types.specs.declared.address.Prefix.{Prefix}
use Rattle.swss_types.specs.contracts.address.IpEq.TheImpl.Laws as equal_ip
use Rattle.swss_types.specs.contracts.address.IpOrd.TheImpl.Laws as ordered_ip
use Rattle.swss_types.specs.contracts.vrf.VrfNameOrd.TheImpl.Laws as ordered_name
use Rattle.swss_types.specs.declared.vrf.VrfName.{VrfName}
use Rattle.swss_types.specs.Vrf.{same_vrf_name}
use Rattle.swss_types.proofs.Routers.{vrf_name-symm}
use Rattle.swss_types.proofs.Truths.{or_none}
use Rattle.sai_types.specs.declared.ids.Rid.{Rid}
use Rattle.sai_types.specs.declared.body.RifOn.{RifOn}
use Rattle.sai_types.specs.declared.body.RifOn.TheVariants as on
use Rattle.sai_types.specs.declared.body.To.{To}
use Rattle.sai_types.specs.declared.body.To.TheVariants as to
use Rattle.sai_types.specs.declared.body.Entry.{Entry}
use Rattle.sai_types.specs.declared.body.Entry.TheVariants as entry
use Rattle.sai_types.specs.declared.body.Body.{Body}
use Rattle.sai_types.specs.declared.body.Body.TheVariants as body
use Rattle.sai_types.specs.References.{Reference, beside_router, main_targets, refers_to, router_of}
use Rattle.sai_types.specs.Refusal.{clash, same_ip, same_id, same_base}
use Rattle.sai_types.specs.Objects.{Objects, entry_cmp}
use Rattle.sai_types.proofs.Apart.{any_any, any_same}
use Rattle.sai_chip.specs.declared.mark.TakenMark.{TakenMark}
use Rattle.sai_chip.specs.declared.mark.TakenMark.TheVariants as mark
use Rattle.sai_chip.specs.Tally.{is_mark, same_member}
use Rattle.sai_chip.specs.Marks.{lane_marks, base_marks, target_marks, has_mark, is_claimed, key_marks, router_marks}
use Rattle.sai_chip.proofs.MemberCounts.{member_tied}
use Rattle.sai_chip.proofs.Passing.{and_all, and_regrouped}

mark_of_port : (a b : Rid) → is_mark (mark.BridgePort a) (mark.BridgePort b) ≡ same_id b a
mark_of_port a b = search rules

mark_of_vlan : (a b : ℕ) → is_mark (mark.Vlan a) (mark.Vlan b) ≡ (b == a)
mark_of_vlan a b = search rules

mark_of_router : (a b : VrfName) → is_mark (mark.VirtualRouter a) (mark.VirtualRouter b) ≡ same_vrf_name b a
mark_of_router a b = sym (ordered_name.matches_eq-law a b) ∙ vrf_name-symm a b

mark_of_ip : (a b : Ip) → is_at (ip_ord.ghosts.cmp a) b ≡ same_ip b a
mark_of_ip a b = sym (ordered_ip.matches_eq-law a b) ∙ equal_ip.laws-law.symm a b

mark_of_base : (a b : RifOn Rid) → is_mark (mark.Rif a) (mark.Rif b) ≡ same_base b a
mark_of_base (on.Port a) (on.Port b) = search rules
mark_of_base (on.Port a) (on.Vlan b) = refl
mark_of_base (on.Vlan a) (on.Port b) = refl
mark_of_base (on.Vlan a) (on.Vlan b) = search rules

mark_of_member : (a c b d : Rid) → is_mark (mark.VlanMember a c) (mark.VlanMember b d) ≡ (same_id b a && same_id d c)
mark_of_member a c b d = search rules

mark_of_next_hop : (a b : Rid) (x y : Ip) → is_mark (mark.NextHop a x) (mark.NextHop b y) ≡ (same_id b a && same_ip y x)
mark_of_next_hop a b x y = sym (both_tied (same_id b a) (same_ip y x) _ _ (sym (mark_of_port a b)) (sym (mark_of_ip x y)))

mark_of_lane : (a b : ℕ) → is_mark (mark.Lane a) (mark.Lane b) ≡ (b == a)
mark_of_lane a b = search rules

no_lane : (m : TakenMark) (lanes : List ℕ) → ((l : ℕ) → is_mark (mark.Lane l) m ≡ false) → list_any (λ k. is_mark k m) (lane_marks lanes) ≡ false
no_lane m [] none = refl
no_lane m (lane ∷ lanes) none = rw (none lane) (no_lane m lanes none)

no_base : (m : TakenMark) (on : RifOn Rid) → ((r : Rid) → is_mark (mark.RefersTo r) m ≡ false) → list_any (λ k. is_mark k m) (base_marks on) ≡ false
no_base m (on.Port p) none = rw (none p) refl
no_base m (on.Vlan v) none = rw (none v) refl

no_target : (m : TakenMark) (to : To Rid) → ((r : Rid) → is_mark (mark.RefersTo r) m ≡ false) → list_any (λ k. is_mark k m) (target_marks to) ≡ false
no_target m to.Drop none = refl
no_target m (to.Rif r) none = rw (none r) refl
no_target m (to.NextHop r) none = rw (none r) refl
no_target m (to.Group r) none = rw (none r) refl

-- whether a mark is among those of a body's keys
abbrev keyed : TakenMark → Body Rid → Bool
keyed m b = list_any (λ k. is_mark k m) (key_marks b)

no_router : (m : TakenMark) (vr : Option Rid) (ks : List TakenMark) → ((r : Rid) → is_mark (mark.RefersTo r) m ≡ false) → list_any (λ k. is_mark k m) (router_marks vr ks) ≡ list_any (λ k. is_mark k m) ks
no_router m None ks none = refl
no_router m (Some r) ks none = ap (λ b. b || list_any (λ k. is_mark k m) ks) (none r)

-- a mark that is no reference has nothing to do with the virtual router of a body
past_router : (m : TakenMark) (b : Body Rid) → ((r : Rid) → is_mark (mark.RefersTo r) m ≡ false) → list_any (λ k. is_mark k m) (router_marks (router_of b) (key_marks b)) ≡ keyed m b
past_router m b none = no_router m (router_of b) (key_marks b) none

key_vlan : (v : ℕ) (o : Body Rid) → clash (body.Vlan v) o ≡ keyed (mark.Vlan v) o
key_vlan v (body.Vlan w) = sym (or_none _ ∙ mark_of_vlan w v)
key_vlan v (body.Port lanes speed mtu up) = sym (no_lane (mark.Vlan v) lanes (λ l. refl))
key_vlan v (body.Rif vr on) = sym (no_base (mark.Vlan v) on (λ r. refl))
key_vlan v (body.Route vr prefix to) = sym (no_target (mark.Vlan v) to (λ r. refl))
key_vlan v _ = refl

pub clash-vlan : (v : ℕ) (o : Body Rid) → clash (body.Vlan v) o ≡ has_mark (mark.Vlan v) o
clash-vlan v o = key_vlan v o ∙ sym (past_router (mark.Vlan v) o (λ r. refl))

key_router : (label : VrfName) (o : Body Rid) → clash (body.VirtualRouter label) o ≡ keyed (mark.VirtualRouter label) o
key_router label (body.VirtualRouter other) = sym (or_none _ ∙ mark_of_router other label)
key_router label (body.Port lanes speed mtu up) = sym (no_lane (mark.VirtualRouter label) lanes (λ l. refl))
key_router label (body.Rif vr on) = sym (no_base (mark.VirtualRouter label) on (λ r. refl))
key_router label (body.Route vr prefix to) = sym (no_target (mark.VirtualRouter label) to (λ r. refl))
key_router label _ = refl

pub clash-router : (label : VrfName) (o : Body Rid) → clash (body.VirtualRouter label) o ≡ has_mark (mark.VirtualRouter label) o
clash-router label o = key_router label o ∙ sym (past_router (mark.VirtualRouter label) o (λ r. refl))

key_bridge_port : (p : Rid) (o : Body Rid) → clash (body.BridgePort p) o ≡ keyed (mark.BridgePort p) o
key_bridge_port p (body.BridgePort q) = sym (or_none _ ∙ mark_of_port q p)
key_bridge_port p (body.Port lanes speed mtu up) = sym (no_lane (mark.BridgePort p) lanes (λ l. refl))
key_bridge_port p (body.Rif vr on) = sym (no_base (mark.BridgePort p) on (λ r. refl))
key_bridge_port p (body.Route vr prefix to) = sym (no_target (mark.BridgePort p) to (λ r. refl))
key_bridge_port p _ = refl

pub clash-bridge_port : (p : Rid) (o : Body Rid) → clash (body.BridgePort p) o ≡ has_mark (mark.BridgePort p) o
clash-bridge_port p o = key_bridge_port p o ∙ sym (past_router (mark.BridgePort p) o (λ r. refl))

key_vlan_member : (v p : Rid) (t : Tagging) (o : Body Rid) → clash (body.VlanMember v p t) o ≡ keyed (mark.VlanMember v p) o
key_vlan_member v p t (body.VlanMember w q u) = sym (or_none _ ∙ mark_of_member w q v p)
key_vlan_member v p t (body.Port lanes speed mtu up) = sym (no_lane (mark.VlanMember v p) lanes (λ l. refl))
key_vlan_member v p t (body.Rif vr on) = sym (no_base (mark.VlanMember v p) on (λ r. refl))
key_vlan_member v p t (body.Route vr prefix to) = sym (no_target (mark.VlanMember v p) to (λ r. refl))
key_vlan_member v p t _ = refl

pub clash-vlan_member : (v p : Rid) (t : Tagging) (o : Body Rid) → clash (body.VlanMember v p t) o ≡ has_mark (mark.VlanMember v p) o
clash-vlan_member v p t o = key_vlan_member v p t o ∙ sym (past_router (mark.VlanMember v p) o (λ r. refl))

key_next_hop : (r : Rid) (ip : Ip) (o : Body Rid) → clash (body.NextHop r ip) o ≡ keyed (mark.NextHop r ip) o
key_next_hop r ip (body.NextHop s other) = sym (or_none _ ∙ mark_of_next_hop s r other ip)
key_next_hop r ip (body.Port lanes speed mtu up) = sym (no_lane (mark.NextHop r ip) lanes (λ l. refl))
key_next_hop r ip (body.Rif vr on) = sym (no_base (mark.NextHop r ip) on (λ r. refl))
key_next_hop r ip (body.Route vr prefix to) = sym (no_target (mark.NextHop r ip) to (λ r. refl))
key_next_hop r ip _ = refl

pub clash-next_hop : (r : Rid) (ip : Ip) (o : Body Rid) → clash (body.NextHop r ip) o ≡ has_mark (mark.NextHop r ip) o
clash-next_hop r ip o = key_next_hop r ip o ∙ sym (past_router (mark.NextHop r ip) o (λ s. refl))

-- whether a body is a member of a group with this next hop and weight
abbrev pub is_member : Rid → Rid → ℕ → Body Rid → Bool
is_member g n w (body.GroupMember h m v) = same_id g h && same_member (n, w) (m, v)
is_member g n w _ = false

key_member : (g n : Rid) (w : ℕ) (o : Body Rid) → keyed (mark.GroupMember g n w) o ≡ is_member g n w o
key_member g n w (body.GroupMember h m v) =
    or_none _
    ∙ sym (member_tied h m v (g, n, w))
    ∙ ap (λ b. (same_id g h && same_id n m) && b) (nat_eq_equiv.symm v w)
    ∙ sym (and_regrouped (same_id g h) (same_id n m) (w == v))
key_member g n w (body.Port lanes speed mtu up) = no_lane (mark.GroupMember g n w) lanes (λ l. refl)
key_member g n w (body.Rif vr on) = no_base (mark.GroupMember g n w) on (λ r. refl)
key_member g n w (body.Route vr prefix to) = no_target (mark.GroupMember g n w) to (λ r. refl)
key_member g n w _ = refl

pub mark-member : (g n : Rid) (w : ℕ) (o : Body Rid) → has_mark (mark.GroupMember g n w) o ≡ is_member g n w o
mark-member g n w o = past_router (mark.GroupMember g n w) o (λ r. refl) ∙ key_member g n w o

-- a member clashes with each of its group and next hop
pub clash-member : (g n : Rid) (v w : ℕ) (o : Body Rid) → is_member g n w o ≡ true → clash (body.GroupMember g n v) o ≡ true
clash-member g n v w (body.GroupMember h m x) is =
    let parts = and_parts (same_id g h) (same_member (n, w) (m, x)) is in
    ap (λ b. b && same_id n m) parts.0 ∙ (and_parts (same_id n m) (w == x) parts.1).0
clash-member g n v w _ is = absurd (false≢true is)

-- and with no other body
pub never-clashes : (g n : Rid) (v : ℕ) (o : Body Rid) → ((w : ℕ) → is_member g n w o ≡ false) → clash (body.GroupMember g n v) o ≡ false
never-clashes g n v (body.GroupMember h m x) none =
    ap (λ b. same_id g h && b) (sym (ap (λ b. same_id n m && b) (eq-eqb x x refl) ∙ and_all (same_id n m)))
    ∙ none x
never-clashes g n v _ none = refl

key_rif : (vr : Option Rid) (on : RifOn Rid) (o : Body Rid) → clash (body.Rif vr on) o ≡ keyed (mark.Rif on) o
key_rif vr on (body.Rif vr' other) = sym (ap (λ b. is_mark (mark.Rif other) (mark.Rif on) || b) (no_base (mark.Rif on) other (λ r. refl)) ∙ or_none _ ∙ mark_of_base other on)
key_rif vr on (body.Port lanes speed mtu up) = sym (no_lane (mark.Rif on) lanes (λ l. refl))
key_rif vr on (body.Route vr' prefix to) = sym (no_target (mark.Rif on) to (λ r. refl))
key_rif vr on _ = refl

-- an interface clashes with each on its base, whatever their routers
pub clash-rif : (vr : Option Rid) (on : RifOn Rid) (o : Body Rid) → clash (body.Rif vr on) o ≡ has_mark (mark.Rif on) o
clash-rif vr on o = key_rif vr on o ∙ sym (past_router (mark.Rif on) o (λ r. refl))

pub clash-group : (o : Body Rid) → clash body.Group o ≡ false
clash-group o = refl

lane_among : (l : ℕ) (lanes : List ℕ) → list_any (λ k. is_mark k (mark.Lane l)) (lane_marks lanes) ≡ list_any (λ other. l == other) lanes
lane_among l [] = refl
lane_among l (lane ∷ lanes) = let one = mark_of_lane lane l in let others = lane_among l lanes in cc

any_where_none : {X : Type 0} (p : X → Bool) → ((x : X) → p x ≡ false) → (xs : List X) → list_any p xs ≡ false
any_where_none p none [] = refl
any_where_none p none (x ∷ xs) = rw (none x) (any_where_none p none xs)

key_port : (lanes : List ℕ) (speed mtu : ℕ) (up : Bool) (o : Body Rid) → clash (body.Port lanes speed mtu up) o ≡ list_any (λ lane. keyed (mark.Lane lane) o) lanes
key_port lanes speed mtu up (body.Port others s m u) = any_same _ _ (λ l. sym (lane_among l others)) lanes
key_port lanes speed mtu up (body.Rif vr on) = sym (any_where_none _ (λ l. no_base (mark.Lane l) on (λ r. refl)) lanes)
key_port lanes speed mtu up (body.Route vr prefix to) = sym (any_where_none _ (λ l. no_target (mark.Lane l) to (λ r. refl)) lanes)
key_port lanes speed mtu up _ = sym (any_where_none _ (λ l. refl) lanes)

clash-port : (lanes : List ℕ) (speed mtu : ℕ) (up : Bool) (o : Body Rid) → clash (body.Port lanes speed mtu up) o ≡ list_any (λ lane. has_mark (mark.Lane lane) o) lanes
clash-port lanes speed mtu up o =
    key_port lanes speed mtu up o
    ∙ sym (any_same (λ lane. has_mark (mark.Lane lane) o) (λ lane. keyed (mark.Lane lane) o) (λ lane. past_router (mark.Lane lane) o (λ r. refl)) lanes)

-- a port clashes where one of its lanes stands
pub clashes-port : (lanes : List ℕ) (speed mtu : ℕ) (up : Bool) (objects : Objects) → list_any (λ o. clash (body.Port lanes speed mtu up) o.1) objects ≡ list_any (λ lane. is_claimed (mark.Lane lane) objects) lanes
clashes-port lanes speed mtu up objects =
    any_same _ _ (λ o. clash-port lanes speed mtu up o.1) objects
    ∙ sym (any_any (λ lane o. has_mark (mark.Lane lane) o.1) lanes objects)

-- whether a reference names this entry
abbrev is_named : Entry Rid → Reference Rid → Bool
is_named e r = is_at (entry_cmp r.1) e

-- what is referred to in a virtual router is what the marks in it say
within_router : (e : Entry Rid) (m : TakenMark) (vr : Option Rid) (rs : List (Reference Rid)) (ks : List TakenMark) → ((r : Rid) → is_at (entry_cmp (entry.Oid r)) e ≡ is_mark (mark.RefersTo r) m) → list_any (is_named e) rs ≡ list_any (λ k. is_mark k m) ks → list_any (is_named e) (beside_router vr rs) ≡ list_any (λ k. is_mark k m) (router_marks vr ks)
within_router e m None rs ks same h = h
within_router e m (Some r) rs ks same h = ap₂ (λ a b. a || b) (same r) h

target_id : (r : Rid) (b : Body Rid) → list_any (is_named (entry.Oid r)) (main_targets b) ≡ keyed (mark.RefersTo r) b
target_id r (body.Port lanes speed mtu up) = sym (no_lane (mark.RefersTo r) lanes (λ l. refl))
target_id r (body.Rif vr (on.Port p)) = refl
target_id r (body.Rif vr (on.Vlan v)) = refl
target_id r (body.Route vr prefix to.Drop) = refl
target_id r (body.Route vr prefix (to.Rif a)) = refl
target_id r (body.Route vr prefix (to.NextHop n)) = refl
target_id r (body.Route vr prefix (to.Group g)) = refl
target_id r _ = refl

-- a body refers to an identifier where one of its marks says so
refers-id : (r : Rid) (b : Body Rid) → refers_to b (entry.Oid r) ≡ has_mark (mark.RefersTo r) b
refers-id r b = within_router (entry.Oid r) (mark.RefersTo r) (router_of b) (main_targets b) (key_marks b) (λ s. refl) (target_id r b)

-- an identifier is referred to where its mark stands
pub refers-stands : (r : Rid) (objects : Objects) → list_any (λ o. refers_to o.1 (entry.Oid r)) objects ≡ is_claimed (mark.RefersTo r) objects
refers-stands r objects = any_same _ _ (λ o. refers-id r o.1) objects

target_neighbor : (r : Rid) (ip : Ip) (b : Body Rid) → list_any (is_named (entry.Neigh r ip)) (main_targets b) ≡ keyed (mark.NextHop r ip) b
target_neighbor r ip (body.Port lanes speed mtu up) = sym (no_lane (mark.NextHop r ip) lanes (λ l. refl))
target_neighbor r ip (body.Rif vr (on.Port p)) = refl
target_neighbor r ip (body.Rif vr (on.Vlan v)) = refl
target_neighbor r ip (body.Route vr prefix to.Drop) = refl
target_neighbor r ip (body.Route vr prefix (to.Rif a)) = refl
target_neighbor r ip (body.Route vr prefix (to.NextHop n)) = refl
target_neighbor r ip (body.Route vr prefix (to.Group g)) = refl
target_neighbor r ip _ = refl

goes-mark : (r : Rid) (ip : Ip) (b : Body Rid) → refers_to b (entry.Neigh r ip) ≡ has_mark (mark.NextHop r ip) b
goes-mark r ip b = within_router (entry.Neigh r ip) (mark.NextHop r ip) (router_of b) (main_targets b) (key_marks b) (λ s. refl) (target_neighbor r ip b)

-- a neighbour is referred to where a next hop goes through it
pub goes-stands : (r : Rid) (ip : Ip) (objects : Objects) → list_any (λ o. refers_to o.1 (entry.Neigh r ip)) objects ≡ is_claimed (mark.NextHop r ip) objects
goes-stands r ip objects = any_same _ _ (λ o. goes-mark r ip o.1) objects

-- nothing refers to an own address, or to a route
never_router : (e : Entry Rid) (vr : Option Rid) (rs : List (Reference Rid)) → ((r : Rid) → is_at (entry_cmp (entry.Oid r)) e ≡ false) → list_any (is_named e) rs ≡ false → list_any (is_named e) (beside_router vr rs) ≡ false
never_router e None rs none h = h
never_router e (Some r) rs none h = ap (λ b. b || list_any (is_named e) rs) (none r) ∙ h

target_own : (v : Option Rid) (ip : Ip) (b : Body Rid) → list_any (is_named (entry.Own v ip)) (main_targets b) ≡ false
target_own v ip (body.Rif vr (on.Port p)) = refl
target_own v ip (body.Rif vr (on.Vlan w)) = refl
target_own v ip (body.Route vr prefix to.Drop) = refl
target_own v ip (body.Route vr prefix (to.Rif a)) = refl
target_own v ip (body.Route vr prefix (to.NextHop n)) = refl
target_own v ip (body.Route vr prefix (to.Group g)) = refl
target_own v ip _ = refl

refers-own : (v : Option Rid) (ip : Ip) (b : Body Rid) → refers_to b (entry.Own v ip) ≡ false
refers-own v ip b = never_router (entry.Own v ip) (router_of b) (main_targets b) (λ r. refl) (target_own v ip b)

target_route : (v : Option Rid) (p : Prefix) (b : Body Rid) → list_any (is_named (entry.Route v p)) (main_targets b) ≡ false
target_route v p (body.Rif vr (on.Port q)) = refl
target_route v p (body.Rif vr (on.Vlan w)) = refl
target_route v p (body.Route vr prefix to.Drop) = refl
target_route v p (body.Route vr prefix (to.Rif a)) = refl
target_route v p (body.Route vr prefix (to.NextHop n)) = refl
target_route v p (body.Route vr prefix (to.Group g)) = refl
target_route v p _ = refl

refers-route : (v : Option Rid) (p : Prefix) (b : Body Rid) → refers_to b (entry.Route v p) ≡ false
refers-route v p b = never_router (entry.Route v p) (router_of b) (main_targets b) (λ r. refl) (target_route v p b)

pub refers-never : (e : Entry Rid) → ((r : Rid) → e ≡ entry.Oid r → ⊥) → ((r : Rid) (ip : Ip) → e ≡ entry.Neigh r ip → ⊥) → (objects : Objects) → false ≡ list_any (λ o. refers_to o.1 e) objects
refers-never (entry.Oid r) id neighbor objects = absurd (id r refl)
refers-never (entry.Neigh r ip) id neighbor objects = absurd (neighbor r ip refl)
refers-never (entry.Own v ip) id neighbor objects = sym (any_where_none _ (λ o. refers-own v ip o.1) objects)
refers-never (entry.Route v p) id neighbor objects = sym (any_where_none _ (λ o. refers-route v p o.1) objects)

-- a body that a mark stands for clashes where the mark stands
pub clashes-by : (b d : Body Rid) (m : TakenMark) (objects : Objects) (r : Bool) → b ≡ d → ((o : Body Rid) → clash d o ≡ has_mark m o) → r ≡ is_claimed m objects → r ≡ list_any (λ o. clash b o.1) objects
clashes-by b d m objects r e same h = h ∙ sym (any_same _ _ (λ o. ap (λ x. clash x o.1) e ∙ same o.1) objects)

pub clashes-never : (b : Body Rid) (objects : Objects) → b ≡ body.Group → false ≡ list_any (λ o. clash b o.1) objects
clashes-never b objects e = sym (any_where_none _ (λ o. ap (λ x. clash x o.1) e ∙ clash-group o.1) objects)
