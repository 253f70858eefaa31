-- what the things of a chip decide by: own addresses, neighbours and routes, each found by its key
use Rattle.std.proofs.Common.{◌≡◌, Bool, true, false, ◌||◌, ◌&&◌, List, [], ◌∷◌, ◌++◌, map, Option, None, Some, option_map, refl, sym, ap, ◌∙◌}
use Rattle.std.specs.BTreeMap.{is_at}
use Rattle.std.specs.List.{list_any}
use Rattle.std.proofs.lemmas.Bool.{false≢true}
use Rattle.std.proofs.lemmas.List.{append-nil}
use Rattle.swss_types.specs.declared.address.Ip.{Ip}
use Rattle.swss_types.specs.declared.address.Mac.{Mac}
use Rattle.swss_types.specs.declared.address.Prefix.{Prefix}
use Rattle.swss_types.specs.contracts.address.IpOrd.TheImpl.Laws as ordered_ip
use Rattle.swss_types.specs.contracts.address.IpEq.TheImpl.Laws as equal_ip
use Rattle.sai_types.specs.declared.ids.Rid.{Rid}
use Rattle.sai_types.specs.declared.hop.Hop.{Hop}
use Rattle.sai_types.specs.declared.thing.Goal.{Goal}
use Rattle.sai_types.specs.declared.thing.Thing.{Thing}
use Rattle.sai_types.specs.declared.thing.Thing.TheVariants as thing
use Rattle.sai_types.specs.declared.body.Body.{Body}
use Rattle.sai_types.specs.declared.body.Body.TheVariants as body
use Rattle.sai_types.specs.declared.body.Entry.{Entry}
use Rattle.sai_types.specs.declared.body.Entry.TheVariants as entry
use Rattle.sai_types.specs.declared.body.To.{To}
use Rattle.sai_types.specs.After.{has_id}
use Rattle.swss_types.specs.declared.vrf.Packet.{Packet}
use Rattle.swss_types.specs.declared.vrf.Vrf.{Vrf}
use Rattle.swss_types.specs.declared.vrf.Vrf.TheVariants as vrf
use Rattle.swss_types.specs.declared.vrf.VrfName.{VrfName}
use Rattle.swss_types.specs.Vrf.{same_vrf}
use Rattle.sai_types.specs.Forwarding.{best_route, has_own, hop_mac}
use Rattle.sai_types.specs.Named.{body_router, both, base_on, bridge_port_at, goal_by, hop_on, hops_at, named, port_at, router_at, thing_of, those, vlan_at, whop_at}
use Rattle.sai_types.specs.Objects.{Objects, body_at}
use Rattle.sai_types.specs.Refusal.{same_ip}
use Rattle.sai_types.proofs.Apart.{any_same}
use Rattle.chip_names.specs.Naming.{numbered}
use Rattle.chip_names.proofs.Ids.{at-numbered}
use Rattle.chip_names.proofs.SameNames.{map-things_among, router_at-same}
use Rattle.sai_chip.specs.Bodies.{HaveIdKinds, OwnKey, RouteKey, best_of, is_own_key, is_router, own_cmp, owned, reached, routed, objects_in}
use Rattle.sai_chip.proofs.Changed.{at-id}
use Rattle.sai_chip.proofs.Passing.{and_all, and_none, and_swap}

-- things that are no own address, neighbour or route
abbrev pub is_other : Thing → Bool
is_other (thing.Own v ip) = false
is_other (thing.Neighbor hop mac) = false
is_other (thing.Route v prefix goal) = false
is_other _ = true

module _ {R : Type 0} (F : List Thing → R) where
  -- it passes over a thing
  abbrev pub Passes : Option Thing → Type 0
  Passes None = Unit {0}
  Passes (Some t) = (ts : List Thing) → F (t ∷ ts) ≡ F ts

  pub passed : (o : Option Thing) (os : List (Option Thing)) → Passes o → F (those (o ∷ os)) ≡ F (those os)
  passed None os h = refl
  passed (Some t) os h = h (those os)

  pub passes-map : {X : Type 0} (f : X → Thing) → ((x : X) → Passes (Some (f x))) → (o : Option X) → Passes (option_map f o)
  passes-map f h None = tt
  passes-map f h (Some x) = h x

  pub passes-both : {X Y : Type 0} (f : X → Y → Thing) → ((x : X) (y : Y) → Passes (Some (f x y))) → (o : Option X) (p : Option Y) → Passes (both f o p)
  passes-both f h None p = tt
  passes-both f h (Some x) None = tt
  passes-both f h (Some x) (Some y) = h x y

  module _ (objects : Objects) where
    abbrev pub seen : Objects → R
    seen os = F (those (map (thing_of objects) os))

    pub past : {X : Type 0} (f : X → Entry Rid × Body Rid) → ((x : X) → Passes (thing_of objects (f x))) → (xs : List X) (rest : Objects) → seen (map f xs ++ rest) ≡ seen rest
    past f h [] rest = refl
    past f h (x ∷ xs) rest = passed (thing_of objects (f x)) (map (thing_of objects) (map f xs ++ rest)) (h x) ∙ past f h xs rest

    pub past-last : {X : Type 0} (f : X → Entry Rid × Body Rid) → ((x : X) → Passes (thing_of objects (f x))) → (xs : List X) → seen (map f xs) ≡ F []
    past-last f h xs = ap seen (sym (append-nil (map f xs))) ∙ past f h xs []

    module _ (other : (t : Thing) → is_other t ≡ true → Passes (Some t)) where
      passes_id : (r : Rid) (b : Body Rid) → has_id b ≡ true → Passes (thing_of objects (entry.Oid r, b))
      passes_id r (body.Port lanes speed mtu up) h = other _ refl
      passes_id r (body.Vlan vlan) h = other _ refl
      passes_id r (body.VirtualRouter label) h = other _ refl
      passes_id r (body.BridgePort port) h = passes-map thing.BridgePort (λ x. other _ refl) (port_at objects port)
      passes_id r (body.VlanMember vlan bridge_port tagging) h = passes-both (λ v p. thing.VlanMember v p tagging) (λ x y. other _ refl) (vlan_at objects vlan) (bridge_port_at objects bridge_port)
      passes_id r (body.Rif vr on) h = passes-both thing.Rif (λ x y. other _ refl) (base_on objects on) (router_at objects vr)
      passes_id r (body.OwnAddress vr ip) h = absurd (false≢true h)
      passes_id r (body.Neighbor rif ip mac) h = absurd (false≢true h)
      passes_id r (body.NextHop rif ip) h = passes-map thing.NextHop (λ x. other _ refl) (hop_on objects rif ip)
      passes_id r body.Group h = passes-map thing.Group (λ x. other _ refl) (hops_at objects r)
      passes_id r (body.GroupMember group next_hop weight) h = passes-both thing.GroupMember (λ x y. other _ refl) (hops_at objects group) (whop_at objects next_hop weight)
      passes_id r (body.Route vr prefix to) h = absurd (false≢true h)

      pub past-ids : (ids : List (Rid × Body Rid)) (rest : Objects) → HaveIdKinds ids → seen (numbered ids ++ rest) ≡ seen rest
      past-ids [] rest all = refl
      past-ids (e ∷ es) rest all = passed (thing_of objects (entry.Oid e.0, e.1)) (map (thing_of objects) (numbered es ++ rest)) (passes_id e.0 e.1 all.0) ∙ past-ids es rest all.1

own_other : (a : Packet) (t : Thing) → is_other t ≡ true → (ts : List Thing) → has_own (t ∷ ts) a ≡ has_own ts a
own_other a (thing.Own v ip) h ts = absurd (false≢true h)
own_other a t h ts = refl

best_other : (a : Packet) (t : Thing) → is_other t ≡ true → (ts : List Thing) → best_route (t ∷ ts) a ≡ best_route ts a
best_other a (thing.Route v prefix goal) h ts = absurd (false≢true h)
best_other a t h ts = refl

pub mac_other : (hop : Hop) (t : Thing) → is_other t ≡ true → (ts : List Thing) → hop_mac (t ∷ ts) hop ≡ hop_mac ts hop
mac_other hop (thing.Neighbor h mac) e ts = absurd (false≢true e)
mac_other hop t e ts = refl

module _ (ids : List (Rid × Body Rid)) (owns : List OwnKey) (ns : List ((Rid × Ip) × Mac)) (rs : List (RouteKey × To Rid)) (all : HaveIdKinds ids) where
  abbrev held : Objects
  held = objects_in ids owns ns rs

  own_step : (a : Packet) (v : Option Vrf) (ip : Ip) (os : List (Option Thing)) → has_own (those (option_map (λ w. thing.Own w ip) v ∷ os)) a ≡ ((same_ip ip a.to && is_router a.vrf v) || has_own (those os) a)
  own_step a None ip os = ap (λ b. b || has_own (those os) a) (sym (and_none (same_ip ip a.to)))
  own_step a (Some w) ip os = ap (λ b. b || has_own (those os) a) (and_swap (same_vrf w a.vrf) (same_ip ip a.to))

  own_in : (a : Packet) (objects rest : Objects) → has_own (those (map (thing_of objects) rest)) a ≡ false → (xs : List OwnKey) → has_own (those (map (thing_of objects) (owned xs ++ rest))) a ≡ list_any (is_own_key objects a) xs
  own_in a objects rest none [] = none
  own_in a objects rest none (x ∷ xs) =
      own_step a (router_at objects x.0) x.1 (map (thing_of objects) (owned xs ++ rest))
      ∙ ap (λ b. is_own_key objects a x || b) (own_in a objects rest none xs)

  -- an own address is that of a packet where its router and the address are
  pub own-held : (a : Packet) → list_any (is_own_key held a) owns ≡ has_own (those (named held)) a
  own-held a =
      let F : List Thing → Bool = λ ts. has_own ts a in
      sym (ap (λ l. F (those l)) (sym (map-things_among held held))
      ∙ past-ids F held (own_other a) ids (owned owns ++ (reached ns ++ routed rs)) all
      ∙ own_in a held (reached ns ++ routed rs)
      (past F held _ (λ e. passes-map F (λ h. thing.Neighbor h e.1) (λ h ts. refl) (hop_on held e.0.0 e.0.1)) ns (routed rs)
      ∙ past-last F held _ (λ e. passes-both F (λ v g. thing.Route v e.0.1 g) (λ v g ts. refl) (router_at held e.0.0) (goal_by (hops_at held) held e.1)) rs)
      owns)

  named_apart : (label : Option VrfName) (b : Bool) → (b && is_router vrf.Default (option_map vrf.Named label)) ≡ false
  named_apart None b = and_none b
  named_apart (Some l) b = and_none b

  default_key : (a : Packet) → a.vrf ≡ vrf.Default → (k : OwnKey) → is_at (own_cmp (None, a.to)) k ≡ is_own_key held a k
  default_key a is (None, x) =
      sym (ordered_ip.matches_eq-law a.to x)
      ∙ equal_ip.laws-law.symm a.to x
      ∙ sym (and_all (same_ip x a.to))
      ∙ ap (λ v. same_ip x a.to && is_router v (Some vrf.Default)) (sym is)
  default_key a is (Some r, x) =
      sym (named_apart (body_router (body_at held (entry.Oid r))) (same_ip x a.to))
      ∙ ap (λ v. same_ip x a.to && is_router v (router_at held (Some r))) (sym is)

  -- in the default router it is found by its key
  pub own-default : (a : Packet) → a.vrf ≡ vrf.Default → list_any (is_at (own_cmp (None, a.to))) owns ≡ has_own (those (named held)) a
  own-default a is = any_same (is_at (own_cmp (None, a.to))) (is_own_key held a) (default_key a is) owns ∙ own-held a

  -- routers are among the bodies with identifiers
  pub router-held : (vr : Option Rid) → router_at (numbered ids) vr ≡ router_at held vr
  router-held vr = router_at-same (numbered ids) held (record { each = λ r. at-numbered ids r ∙ sym (at-id ids owns ns rs r) }) vr

  -- and in another it is found among all
  pub own-named : (a : Packet) → list_any (is_own_key (numbered ids) a) owns ≡ has_own (those (named held)) a
  own-named a = any_same (is_own_key (numbered ids) a) (is_own_key held a) (λ k. ap (λ v. same_ip k.1 a.to && is_router a.vrf v) (router-held k.0)) owns ∙ own-held a

  -- routes alone decide where other addresses go
  pub best-held : (a : Packet) → best_route (those (named held)) a ≡ best_of held rs a
  best-held a =
      let F : List Thing → Option (Prefix × Goal) = λ ts. best_route ts a in
      ap (λ l. F (those l)) (sym (map-things_among held held))
      ∙ past-ids F held (best_other a) ids (owned owns ++ (reached ns ++ routed rs)) all
      ∙ past F held _ (λ k. passes-map F (λ v. thing.Own v k.1) (λ v ts. refl) (router_at held k.0)) owns (reached ns ++ routed rs)
      ∙ past F held _ (λ e. passes-map F (λ h. thing.Neighbor h e.1) (λ h ts. refl) (hop_on held e.0.0 e.0.1)) ns (routed rs)
