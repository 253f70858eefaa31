-- packets have one answer
use Rattle.std.proofs.Common.{◌≡◌, ◌⊎◌, inl, inr, ℕ, ◌≤◌, Bool, true, false, List, [], ◌∷◌, map, Option, None, Some, is_some, option_map, if◌then◌else◌, refl, sym, ap, ap₂, ◌∙◌, subst}
use Rattle.std.proofs.lemmas.Bool.{and_parts, false≢true}
use Rattle.std.proofs.lemmas.Option.{same_Some}
use Rattle.swss_types.specs.Address.{IsProperPrefix}
use Rattle.swss_types.specs.declared.address.Ip.{Ip}
use Rattle.swss_types.specs.declared.vrf.Packet.{Packet}
use Rattle.swss_types.specs.declared.vrf.Vrf.{Vrf}
use Rattle.swss_types.specs.declared.address.Mac.{Mac}
use Rattle.swss_types.specs.declared.address.Prefix.{Prefix}
use Rattle.swss_types.proofs.Proper.{mapped}
use Rattle.sai_types.specs.contracts.hop.HopEq.TheImpl.Laws as equal_hop
use Rattle.sai_types.specs.declared.ids.Rid.{Rid}
use Rattle.sai_types.specs.declared.hop.Hop.{Hop}
use Rattle.sai_types.specs.declared.weight.WHop.{WHop}
use Rattle.sai_types.specs.declared.body.Body.{Body}
use Rattle.sai_types.specs.declared.body.Body.TheVariants as body
use Rattle.sai_types.specs.declared.body.Entry.{Entry}
use Rattle.sai_types.specs.declared.body.Entry.TheVariants as entry
use Rattle.sai_types.specs.declared.body.To.{To}
use Rattle.sai_types.specs.declared.body.To.TheVariants as to
use Rattle.sai_types.specs.declared.thing.Goal.{Goal}
use Rattle.sai_types.specs.declared.thing.Goal.TheVariants as goal
use Rattle.sai_types.specs.declared.thing.Thing.{Thing}
use Rattle.sai_types.specs.declared.thing.Thing.TheVariants as thing
use Rattle.sai_types.specs.After.{entry_of}
use Rattle.sai_types.specs.Alike.{IsIn}
use Rattle.sai_types.specs.Decided.{AreRoutes, DecideAlike}
use Rattle.sai_types.specs.Forwarding.{Decision, alone, best_route, decide, decide_route, decision_of, forward, forwarding_of, has_own, hop_mac, same_hop}
use Rattle.sai_types.specs.Forwarding as decision
use Rattle.sai_types.specs.Made.{HaveLanes, IsWhole, is_one, same_entry}
use Rattle.sai_types.specs.Named.{base_on, both, bridge_port_at, goal_by, hop_on, hops_among, hops_at, named, next_hop_at, port_at, put_hop, rif_at, router_at, those, thing_of, things_among, vlan_at, whop_at, with_member}
use Rattle.sai_types.specs.Names.{name_of}
use Rattle.sai_types.specs.Objects.{Objects, body_at}
use Rattle.sai_types.specs.Refusal.{same_id}
use Rattle.sai_types.proofs.Decided.{IsAnswer, IsBest, answer_is, decide-alike}
use Rattle.sai_types.proofs.Keys.{next_hop_found}
use Rattle.sai_types.proofs.Things.{both_mapped, hop-of_whop, one-each}
use Rattle.chip_layout.specs.Answered.{AreSame, HasOneMac, HasPrefix, HavePrefixes, HopsAreReached}
use Rattle.chip_layout.proofs.Legality.{neighs}
use Rattle.sai_types.proofs.Exact.{entry-exact}
use Rattle.sai_types.proofs.Listed.{found-in, in-found, object-of_thing}
use Rattle.sai_types.proofs.Rising.{hop-same}
use Rattle.sai_types.proofs.Weights.{put-back}

-- ---- things and the objects that stand for them

pub those_in : {X : Type 0} (x : X) (os : List (Option X)) → IsIn x (those os) → IsIn (Some x) os
those_in x [] h = elim h [ ]
those_in x (None ∷ os) h = inr (those_in x os h)
those_in x (Some y ∷ os) (inl is) = inl (ap Some is)
those_in x (Some y ∷ os) (inr h) = inr (those_in x os h)

pub in_those : {X : Type 0} (x : X) (os : List (Option X)) → IsIn (Some x) os → IsIn x (those os)
in_those x [] h = elim h [ ]
in_those x (None ∷ os) (inl is) = absurd cc
in_those x (None ∷ os) (inr h) = in_those x os h
in_those x (Some y ∷ os) (inl is) = inl (same_Some x y is)
in_those x (Some y ∷ os) (inr h) = inr (in_those x os h)

pub thing_in : (objects os : Objects) (e : Entry Rid) (b : Body Rid) → IsIn (e, b) os → IsIn (thing_of objects (e, b)) (things_among objects os)
thing_in objects [] e b h = elim h [ ]
thing_in objects (o ∷ os) e b (inl is) = inl (ap (thing_of objects) is)
thing_in objects (o ∷ os) e b (inr h) = inr (thing_in objects os e b h)

-- a route's object
record IsRoute (objects : Objects) (b : Body Rid) (v : Vrf) (p : Prefix) (g : Goal) : Type 0 where
  vr : Option Rid
  to : To Rid
  body_is : b ≡ body.Route vr p to
  points : goal_by (hops_at objects) objects to ≡ Some g

route_parts : (v w : Vrf) (p q : Prefix) (g h : Goal) → thing.Route v p g ≡ thing.Route w q h → (p ≡ q) × (g ≡ h)
route_parts v w p q g h e = (cc, cc)

route_object : (objects : Objects) (e : Entry Rid) (b : Body Rid) (v : Vrf) (p : Prefix) (g : Goal) → thing_of objects (e, b) ≡ Some (thing.Route v p g) → IsRoute objects b v p g
route_object objects e (body.Route vr q t) v p g h =
    let m = both_mapped (λ z u. thing.Route z q u) (router_at objects vr) (goal_by (hops_at objects) objects t) (thing.Route v p g) h in
    let parts = route_parts m.0 v q p m.1 g m.4 in
    record { vr = vr; to = t; body_is = ap (λ z. body.Route vr z t) parts.0; points = m.3 ∙ ap Some parts.1 }
route_object objects e (body.Port lanes speed mtu up) v p g h = let is = same_Some _ _ h in absurd cc
route_object objects e (body.Vlan n) v p g h = let is = same_Some _ _ h in absurd cc
route_object objects e (body.VirtualRouter n) v p g h = let is = same_Some _ _ h in absurd cc
route_object objects e (body.BridgePort port) v p g h = let is = (mapped thing.BridgePort (port_at objects port) _ h).2 in absurd cc
route_object objects e (body.VlanMember n b t) v p g h = let is = (both_mapped (λ x y. thing.VlanMember x y t) (vlan_at objects n) (bridge_port_at objects b) _ h).4 in absurd cc
route_object objects e (body.Rif vr on) v p g h = let is = (both_mapped thing.Rif (base_on objects on) (router_at objects vr) _ h).4 in absurd cc
route_object objects e (body.OwnAddress vr ip) v p g h = let is = (mapped (λ z. thing.Own z ip) (router_at objects vr) _ h).2 in absurd cc
route_object objects e (body.Neighbor r ip mac) v p g h = let is = (mapped (λ z. thing.Neighbor z mac) (hop_on objects r ip) _ h).2 in absurd cc
route_object objects e (body.NextHop r ip) v p g h = let is = (mapped thing.NextHop (hop_on objects r ip) _ h).2 in absurd cc
route_object objects (entry.Oid r) body.Group v p g h = let is = (mapped thing.Group (hops_at objects r) _ h).2 in absurd cc
route_object objects (entry.Own w ip) body.Group v p g h = absurd cc
route_object objects (entry.Neigh r ip) body.Group v p g h = absurd cc
route_object objects (entry.Route w q) body.Group v p g h = absurd cc
route_object objects e (body.GroupMember r n x) v p g h = let is = (both_mapped thing.GroupMember (hops_at objects r) (whop_at objects n x) _ h).4 in absurd cc

-- ---- the Ethernet address of a hop

neighbor_parts : (h k : Hop) (m n : Mac) → thing.Neighbor h m ≡ thing.Neighbor k n → (h ≡ k) × (m ≡ n)
neighbor_parts h k m n e = (cc, cc)

-- a thing in front is the hop's neighbour, or has no part in its Ethernet address
abbrev pub IsFront : Thing → List Thing → Hop → Type 0
IsFront t ts hop = ((m : Mac) × (t ≡ thing.Neighbor hop m) × (hop_mac (t ∷ ts) hop ≡ Some m)) ⊎ ((hop_mac (t ∷ ts) hop ≡ hop_mac ts hop) × ((m : Mac) → thing.Neighbor hop m ≡ t → ⊥))

front_by : (b : Bool) (h : Hop) (m : Mac) (ts : List Thing) (hop : Hop) → same_hop h hop ≡ b → IsFront (thing.Neighbor h m) ts hop
front_by true h m ts hop e = inl (m, ap (λ z. thing.Neighbor z m) (hop-same h hop e), ap (λ c. if c then Some m else hop_mac ts hop) e)
front_by false h m ts hop e =
    inr (
      ap (λ c. if c then Some m else hop_mac ts hop) e,
      λ n is. false≢true (sym e ∙ ap (λ z. same_hop z hop) (sym (neighbor_parts hop h n m is).0) ∙ equal_hop.laws-law.refl hop),
    )

pub front : (t : Thing) (ts : List Thing) (hop : Hop) → IsFront t ts hop
front (thing.Neighbor h m) ts hop = front_by (same_hop h hop) h m ts hop refl
front (thing.Port x) ts hop = inr (refl, λ m is. cc)
front _ ts hop = inr (refl, λ m is. cc)

pub mac_in : (ts : List Thing) (hop : Hop) (m : Mac) → IsIn (thing.Neighbor hop m) ts → ((n : Mac) → IsIn (thing.Neighbor hop n) ts → n ≡ m) → hop_mac ts hop ≡ Some m
mac_in [] hop m h one = elim h [ ]
mac_in (t ∷ ts) hop m h one = by (front t ts hop) h (λ g. mac_in ts hop m g (λ n i. one n (inr i)))
  where
    by : IsFront t ts hop → IsIn (thing.Neighbor hop m) (t ∷ ts) → (IsIn (thing.Neighbor hop m) ts → hop_mac ts hop ≡ Some m) → hop_mac (t ∷ ts) hop ≡ Some m
    by (inl (n, is, found)) h behind = found ∙ ap Some (one n (inl (sym is)))
    by (inr (same, apart)) (inl is) behind = absurd (apart m is)
    by (inr (same, apart)) (inr g) behind = same ∙ behind g

-- ---- the hops of a group stand

module _ (objects : Objects) where
  abbrev IsNamed : Hop → Type 0
  IsNamed hop = (n : Rid) × (next_hop_at objects n ≡ Some hop)

  member_by : (b : Bool) (n : Rid) (weight : ℕ) (others : Option (List WHop)) (hops : List WHop) (whop : WHop) → ((xs : List WHop) → others ≡ Some xs → IsIn whop xs → IsNamed whop.hop) → (if b then both put_hop others (whop_at objects n weight) else others) ≡ Some hops → IsIn whop hops → IsNamed whop.hop
  member_by false n weight others hops whop behind is h = behind hops is h
  member_by true n weight others hops whop behind is h =
      let m = both_mapped put_hop others (whop_at objects n weight) hops is in
      by m.0 m.1 m.2 m.3 (put-back m.1 whop m.0 (subst (IsIn whop) (sym m.4) h))
    where
      by : (xs : List WHop) (x : WHop) → others ≡ Some xs → whop_at objects n weight ≡ Some x → (whop.hop ≡ x.hop) ⊎ IsIn whop xs → IsNamed whop.hop
      by xs x at here (inl is) = (n, hop-of_whop (next_hop_at objects n) weight x here ∙ ap Some (sym is))
      by xs x at here (inr g) = behind xs at g

  member_step : (g : Rid) (b : Body Rid) (others : Option (List WHop)) (hops : List WHop) (whop : WHop) → ((xs : List WHop) → others ≡ Some xs → IsIn whop xs → IsNamed whop.hop) → with_member objects g b others ≡ Some hops → IsIn whop hops → IsNamed whop.hop
  member_step g (body.GroupMember group n weight) others hops whop behind is h = member_by (same_id group g) n weight others hops whop behind is h
  member_step g (body.Port lanes speed mtu up) others hops hop behind is h = behind hops is h
  member_step g _ others hops hop behind is h = behind hops is h

  hop_among : (g : Rid) (os : Objects) (hops : List WHop) (hop : WHop) → hops_among objects g os ≡ Some hops → IsIn hop hops → IsNamed hop.hop
  hop_among g [] hops hop is h = elim (subst (IsIn hop) (sym (same_Some [] hops is)) h) [ ]
  hop_among g (o ∷ os) hops hop is h = member_step g o.1 (hops_among objects g os) hops hop (λ xs at i. hop_among g os xs hop at i) is h

  -- the hops that a goal sends packets through
  abbrev AreGoalHops : Goal → Type 0
  AreGoalHops (goal.Via hop) = IsNamed hop
  AreGoalHops (goal.Group hops) = (hop : WHop) → IsIn hop hops → IsNamed hop.hop
  AreGoalHops _ = Unit {0}

  goal_hops : (t : To Rid) (g : Goal) → goal_by (hops_at objects) objects t ≡ Some g → AreGoalHops g
  goal_hops to.Drop g h = subst AreGoalHops (same_Some goal.Drop g h) tt
  goal_hops (to.Rif r) g h = let m = mapped goal.Direct (rif_at objects r) g h in subst AreGoalHops m.2 tt
  goal_hops (to.NextHop n) g h = let m = mapped goal.Via (next_hop_at objects n) g h in subst AreGoalHops m.2 (n, m.1)
  goal_hops (to.Group r) g h = let m = mapped goal.Group (hops_at objects r) g h in subst AreGoalHops m.2 (λ hop i. hop_among r objects m.0 hop m.1 i)

module _ (made : ℕ) (objects : Objects) (whole : IsWhole made objects) (have : HaveLanes objects) where
  abbrev stand : List Thing
  stand = those (named objects)

  abbrev IsObject : Thing → Type 0
  IsObject t = (e : Entry Rid) × (b : Body Rid) × (body_at objects e ≡ Some b) × (thing_of objects (e, b) ≡ Some t)

  object : (t : Thing) → IsIn t stand → IsObject t
  object t h =
      let o = object-of_thing objects objects (Some t) (those_in t (named objects) h) in
      (o.0, o.1, found-in objects o.0 o.1 whole.sorted o.2, sym o.3)

  pub stands : (t : Thing) → IsObject t → IsIn t stand
  stands t (e, b, found, is) =
      let o = in-found objects e b found in
      let at : IsIn (e, b) objects = subst (λ z. IsIn (z, b) objects) (sym (entry-exact e o.0 o.1)) o.2 in
      in_those t (named objects) (subst (λ z. IsIn z (named objects)) is (thing_in objects objects e b at))

  one_of : (t u : Thing) → IsObject t → IsObject u → name_of t ≡ name_of u → is_one (name_of t) ≡ true → t ≡ u
  one_of t u (e, b, found, is) (f, d, found', is') same one =
      let entries = entry-exact e f ((one-each made objects whole have).each e f b d t u found found' is is' same one) in
      let bodies = same_Some b d (sym found ∙ ap (body_at objects) entries ∙ found') in
      same_Some t u (sym is ∙ ap₂ (λ x y. thing_of objects (x, y)) entries bodies ∙ is')

  -- a next hop's neighbour stands
  neighbor_by : (r : Rid) (ip : Ip) (hop : Hop) (o : Option (Body Rid)) → hop_on objects r ip ≡ Some hop → body_at objects (entry.Neigh r ip) ≡ o → is_some o ≡ true → (mac : Mac) × IsObject (thing.Neighbor hop mac)
  neighbor_by r ip hop None at found there = absurd (false≢true there)
  neighbor_by r ip hop (Some d) at found there = of d found (whole.entered.each (entry.Neigh r ip) d found)
    where
      of : (d : Body Rid) → body_at objects (entry.Neigh r ip) ≡ Some d → (n : ℕ) × (n ≤ made) × (same_entry (entry.Neigh r ip) (entry_of n d) ≡ true) → (mac : Mac) × IsObject (thing.Neighbor hop mac)
      of (body.Neighbor s other mac) found (n, le, same) =
          let is = entry-exact (entry.Neigh r ip) (entry.Neigh s other) same in
          let parts = neighs r s ip other is in
          (mac, (entry.Neigh r ip, body.Neighbor s other mac, found, ap (option_map (λ z. thing.Neighbor z mac)) (ap₂ (hop_on objects) (sym parts.0) (sym parts.1) ∙ at)))
      of (body.Port lanes speed mtu up) found (n, le, same) = absurd (false≢true same)
      of (body.OwnAddress v x) found (n, le, same) = absurd (false≢true same)
      of (body.Route v p t) found (n, le, same) = absurd (false≢true same)
      of _ found (n, le, same) = absurd (false≢true same)

  neighbor : (hop : Hop) → IsNamed objects hop → (mac : Mac) × IsObject (thing.Neighbor hop mac)
  neighbor hop (n, at) =
      let f = next_hop_found objects n hop (body_at objects (entry.Oid n)) refl at in
      let well = (and_parts _ _ (whole.refer.each (entry.Oid n) (body.NextHop f.0 f.1) f.2)).1 in
      neighbor_by f.0 f.1 hop (body_at objects (entry.Neigh f.0 f.1)) f.3 refl (and_parts _ _ well).0

  module _ (prefixes : HavePrefixes objects) where
    proper : (v : Vrf) (p : Prefix) (g : Goal) → IsIn (thing.Route v p g) stand → IsProperPrefix p
    proper v p g h =
        let o = object (thing.Route v p g) h in
        let is = route_object objects o.0 o.1 v p g o.3 in
        subst HasPrefix is.body_is (prefixes.each o.0 o.1 o.2)

    goal_of : (v : Vrf) (p : Prefix) (g : Goal) → IsIn (thing.Route v p g) stand → AreGoalHops objects g
    goal_of v p g h = let o = object (thing.Route v p g) h in let is = route_object objects o.0 o.1 v p g o.3 in goal_hops objects is.to g is.points

    route_goals : (v : Vrf) (p : Prefix) (g h : Goal) → thing.Route v p g ≡ thing.Route v p h → g ≡ h
    route_goals v p g h e = cc

    routes : AreRoutes stand
    routes = record {
      proper = proper;
      one = λ v p g h x y. route_goals v p g h (one_of (thing.Route v p g) (thing.Route v p h) (object _ x) (object _ y) refl refl);
    }

    module _ (others : List Thing) (same : AreSame stand others) where
      one_mac : (hop : Hop) → IsNamed objects hop → HasOneMac others hop
      one_mac hop at =
          let here = neighbor hop at in
          let is = same.into (thing.Neighbor hop here.0) (stands (thing.Neighbor hop here.0) here.1) in
          let one : (other : Mac) → IsIn (thing.Neighbor hop other) others → other ≡ here.0 = λ other h. (neighbor_parts hop hop other here.0 (one_of (thing.Neighbor hop other) (thing.Neighbor hop here.0) (object _ (same.back _ h)) here.1 refl refl)).1 in
          record { mac = here.0; stands = is; one = one; found = mac_in others hop here.0 is one }

      reached_by : (g : Goal) → AreGoalHops objects g → HopsAreReached others (decision_of g)
      reached_by goal.Drop at = tt
      reached_by (goal.Direct on) at = tt
      reached_by (goal.Via hop) at = λ x h. only x h
        where
          only : (x : WHop) → (x ≡ alone hop) ⊎ ⊥ → HasOneMac others x.hop
          only x (inl is) = subst (λ (z : WHop). HasOneMac others z.hop) (sym is) (one_mac hop at)
          only x (inr h) = elim h [ ]
      reached_by (goal.Group hops) at = λ hop h. one_mac hop.hop (at hop h)

      reached_route : (a : Packet) (o : Option (Prefix × Goal)) → best_route stand a ≡ o → HopsAreReached others (decide_route o)
      reached_route a None e = tt
      reached_route a (Some r) e = reached_by r.1 (goal_of a.vrf r.0 r.1 (best_in a r (subst (IsAnswer stand a) e (answer_is stand a))))
        where
          best_in : (a : Packet) (r : Prefix × Goal) → IsBest stand a r.0 r.1 → IsIn (thing.Route a.vrf r.0 r.1) stand
          best_in a r best = best.here

      reached_own : (a : Packet) (own : Bool) → HopsAreReached others (if own then decision.Cpu else decide_route (best_route stand a))
      reached_own a true = tt
      reached_own a false = reached_route a (best_route stand a) refl

      alike : (a : Packet) → DecideAlike others stand a
      alike a = record {
        own = same.back (thing.Own a.vrf a.to);
        own_back = same.into (thing.Own a.vrf a.to);
        routes = λ p g c h. same.back (thing.Route a.vrf p g) h;
        routes_back = λ p g c h. same.into (thing.Route a.vrf p g) h;
      }

      -- a packet is decided alike in whatever order the things are taken
      pub decided-once : (a : Packet) → decide others a ≡ decide stand a
      decided-once a = decide-alike others stand a routes (alike a)

      -- and each hop of the answer has one Ethernet address
      pub hops-reached : (a : Packet) → HopsAreReached others (decide others a)
      hops-reached a = subst (HopsAreReached others) (sym (decided-once a)) (reached_own a (has_own stand a))

      with_mac : WHop → Option Mac → List (WHop × Option Mac) → List (WHop × Option Mac)
      with_mac hop m ms = (hop, m) ∷ ms

      macs : (hops : List WHop) → ((hop : WHop) → IsIn hop hops → HasOneMac others hop.hop) → ((hop : WHop) → IsIn hop hops → HasOneMac stand hop.hop) → map {B = WHop × Option Mac} (λ h. (h, hop_mac others h.hop)) hops ≡ map {B = WHop × Option Mac} (λ h. (h, hop_mac stand h.hop)) hops
      unfolding with_mac
      macs [] f g = refl
      macs (hop ∷ hops) f g =
          let x = f hop (inl refl) in
          let y = g hop (inl refl) in
          let same_mac = x.found ∙ ap Some (sym (x.one y.mac (same.into (thing.Neighbor hop.hop y.mac) y.stands))) ∙ sym y.found in
          ap₂ (with_mac hop) same_mac (macs hops (λ h i. f h (inr i)) (λ h i. g h (inr i)))

    here : AreSame stand stand
    here = record { into = λ t h. h; back = λ t h. h }

    module _ (others : List Thing) (same : AreSame stand others) where
      forward_by : (d : Decision) → HopsAreReached others d → HopsAreReached stand d → forwarding_of others d ≡ forwarding_of stand d
      forward_by decision.Cpu f g = refl
      forward_by decision.Drop f g = refl
      forward_by (decision.Direct on) f g = refl
      forward_by (decision.Via hops) f g = ap decision.Through (macs others same hops f g)

      -- packets are forwarded alike in whatever order the things are taken
      pub forwarded-once : (a : Packet) → forward others a ≡ forward stand a
      forwarded-once a =
          let d = decided-once others same a in
          ap (forwarding_of others) d ∙ forward_by (decide stand a) (subst (HopsAreReached others) d (hops-reached others same a)) (hops-reached stand here a)
