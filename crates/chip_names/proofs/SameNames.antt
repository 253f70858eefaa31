-- what objects stand for, by bodies that are found alike
use Rattle.std.proofs.Common.{◌≡◌, ℕ, ◌-◌, ◌<◌, ◌≤◌, suc, List, [], ◌∷◌, length, drop, get_or, drop-cons, map, Option, None, Some, option_map, if◌then◌else◌, refl, sym, ap, ◌∙◌, arith}
use Rattle.swss_types.specs.declared.address.Ip.{Ip}
use Rattle.swss_types.specs.declared.vrf.Vrf.TheVariants as vrf
use Rattle.sai_types.specs.declared.ids.Rid.{Rid}
use Rattle.sai_types.specs.declared.hop.Base.TheVariants as base
use Rattle.sai_types.specs.declared.weight.WHop.{WHop}
use Rattle.sai_types.specs.declared.thing.Thing.TheVariants as thing
use Rattle.sai_types.specs.declared.thing.Goal.TheVariants as goal
use Rattle.sai_types.specs.declared.body.Body.{Body}
use Rattle.sai_types.specs.declared.body.Body.TheVariants as body
use Rattle.sai_types.specs.declared.body.Entry.{Entry}
use Rattle.sai_types.specs.declared.body.Entry.TheVariants as entry
use Rattle.sai_types.specs.declared.body.RifOn.{RifOn}
use Rattle.sai_types.specs.declared.body.RifOn.TheVariants as on
use Rattle.sai_types.specs.declared.body.To.{To}
use Rattle.sai_types.specs.declared.body.To.TheVariants as to
use Rattle.sai_types.specs.Objects.{Objects, body_at}
use Rattle.sai_types.specs.ChipState.{objects_of}
use Rattle.sai_types.specs.Refusal.{same_id}
use Rattle.sai_types.specs.Named.{both, body_port, body_router, body_vlan, port_at, router_at, vlan_at, bridge_port_of, bridge_port_at, base_on, rif_of, rif_at, hop_on, next_hop_of, next_hop_at, put_hop, whop_at, with_member, hops_among, hops_at, goal_by, thing_by, thing_of, things_among, named}
use Rattle.chip_names.specs.Members.{hops_by}
use Rattle.chip_names.specs.Naming.{AreBodies, AreHops, AreNamesOf, GroupHops, NameTable, entries_of, hops_of_group}

module _ (xs ys : Objects) (found : AreBodies ys xs) where
  port_at-same : (r : Rid) → port_at xs r ≡ port_at ys r
  port_at-same r = ap body_port (found.each r)

  vlan_at-same : (r : Rid) → vlan_at xs r ≡ vlan_at ys r
  vlan_at-same r = ap body_vlan (found.each r)

  pub router_at-same : (vr : Option Rid) → router_at xs vr ≡ router_at ys vr
  router_at-same None = refl
  router_at-same (Some r) = ap (λ o. option_map vrf.Named (body_router o)) (found.each r)

  bridge_port_of-same : (o : Option (Body Rid)) → bridge_port_of xs o ≡ bridge_port_of ys o
  bridge_port_of-same None = refl
  bridge_port_of-same (Some (body.BridgePort port)) = port_at-same port
  bridge_port_of-same (Some _) = refl

  bridge_port_at-same : (r : Rid) → bridge_port_at xs r ≡ bridge_port_at ys r
  bridge_port_at-same r = bridge_port_of-same (body_at xs (entry.Oid r)) ∙ ap (bridge_port_of ys) (found.each r)

  base_on-same : (on : RifOn Rid) → base_on xs on ≡ base_on ys on
  base_on-same (on.Port p) = ap (option_map base.Port) (port_at-same p)
  base_on-same (on.Vlan v) = ap (option_map base.Vlan) (vlan_at-same v)

  rif_of-same : (o : Option (Body Rid)) → rif_of xs o ≡ rif_of ys o
  rif_of-same None = refl
  rif_of-same (Some (body.Rif vr on)) = base_on-same on
  rif_of-same (Some _) = refl

  pub rif_at-same : (r : Rid) → rif_at xs r ≡ rif_at ys r
  rif_at-same r = rif_of-same (body_at xs (entry.Oid r)) ∙ ap (rif_of ys) (found.each r)

  pub hop_on-same : (r : Rid) (ip : Ip) → hop_on xs r ip ≡ hop_on ys r ip
  hop_on-same r ip = ap (option_map (λ b. record { on = b; ip = ip })) (rif_at-same r)

  next_hop_of-same : (o : Option (Body Rid)) → next_hop_of xs o ≡ next_hop_of ys o
  next_hop_of-same None = refl
  next_hop_of-same (Some (body.NextHop rif ip)) = hop_on-same rif ip
  next_hop_of-same (Some _) = refl

  next_hop_at-same : (r : Rid) → next_hop_at xs r ≡ next_hop_at ys r
  next_hop_at-same r = next_hop_of-same (body_at xs (entry.Oid r)) ∙ ap (next_hop_of ys) (found.each r)

  whop_at-same : (r : Rid) (weight : ℕ) → whop_at xs r weight ≡ whop_at ys r weight
  whop_at-same r weight = ap (option_map (λ h. record { hop = h; weight = weight })) (next_hop_at-same r)

  with_member-same : (g : Rid) (b : Body Rid) (others : Option (List WHop)) → with_member xs g b others ≡ with_member ys g b others
  with_member-same g (body.GroupMember group next_hop weight) others = ap (λ h. if same_id group g then both put_hop others h else others) (whop_at-same next_hop weight)
  with_member-same g _ others = refl

  pub hops_among-same : (g : Rid) (members : Objects) → hops_among xs g members ≡ hops_among ys g members
  hops_among-same g [] = refl
  hops_among-same g (o ∷ os) = with_member-same g o.1 (hops_among xs g os) ∙ ap (with_member ys g o.1) (hops_among-same g os)

  pub hops_by-bodies : (ns : List (Rid × ℕ)) → hops_by xs ns ≡ hops_by ys ns
  hops_by-bodies [] = refl
  hops_by-bodies (n ∷ ns) = ap (λ hs. both put_hop hs (whop_at xs n.0 n.1)) (hops_by-bodies ns) ∙ ap (both put_hop (hops_by ys ns)) (whop_at-same n.0 n.1)

  module _ (f g : Rid → Option (List WHop)) (hops : (r : Rid) → f r ≡ g r) where
    goal_by-same : (to : To Rid) → goal_by f xs to ≡ goal_by g ys to
    goal_by-same to.Drop = refl
    goal_by-same (to.Rif r) = ap (option_map goal.Direct) (rif_at-same r)
    goal_by-same (to.NextHop n) = ap (option_map goal.Via) (next_hop_at-same n)
    goal_by-same (to.Group r) = ap (option_map goal.Group) (hops r)

    pub thing_by-same : (e : Entry Rid) (b : Body Rid) → thing_by f xs (e, b) ≡ thing_by g ys (e, b)
    thing_by-same e (body.Port lanes speed mtu up) = refl
    thing_by-same e (body.Vlan vlan) = refl
    thing_by-same e (body.VirtualRouter label) = refl
    thing_by-same e (body.BridgePort port) = ap (option_map thing.BridgePort) (port_at-same port)
    thing_by-same e (body.VlanMember vlan bridge_port tagging) = let one = vlan_at-same vlan in let two = bridge_port_at-same bridge_port in cc
    thing_by-same e (body.Rif vr on) = let one = base_on-same on in let two = router_at-same vr in cc
    thing_by-same e (body.OwnAddress vr ip) = ap (option_map (λ v. thing.Own v ip)) (router_at-same vr)
    thing_by-same e (body.Neighbor rif ip mac) = ap (option_map (λ h. thing.Neighbor h mac)) (hop_on-same rif ip)
    thing_by-same e (body.NextHop rif ip) = ap (option_map thing.NextHop) (hop_on-same rif ip)
    thing_by-same (entry.Oid r) body.Group = ap (option_map thing.Group) (hops r)
    thing_by-same (entry.Own v ip) body.Group = refl
    thing_by-same (entry.Neigh r ip) body.Group = refl
    thing_by-same (entry.Route v p) body.Group = refl
    thing_by-same e (body.GroupMember group next_hop weight) = let one = hops group in let two = whop_at-same next_hop weight in cc
    thing_by-same e (body.Route vr prefix to) = let one = router_at-same vr in let two = goal_by-same to in cc

    map-same : (os : Objects) → map (thing_by f xs) os ≡ map (thing_by g ys) os
    map-same [] = refl
    map-same (o ∷ os) = let one = thing_by-same o.0 o.1 in let others = map-same os in cc

pub map-things_among : (objects os : Objects) → map (thing_of objects) os ≡ things_among objects os
map-things_among objects [] = refl
map-things_among objects (o ∷ os) = ap (λ ts. thing_of objects o ∷ ts) (map-things_among objects os)

-- what bodies and groups name is what the objects stand for
pub things-named : (objects bodies : Objects) (groups : GroupHops) → AreBodies objects bodies → AreHops bodies objects groups → map (thing_by (hops_of_group groups) bodies) objects ≡ named objects
things-named objects bodies groups found hops =
    map-same bodies objects found (hops_of_group groups) (hops_at objects) (λ r. hops.each r ∙ hops_among-same bodies objects found r objects) objects
    ∙ map-things_among objects objects

pub drop-before : {X : Type 0} (xs : List X) (left : ℕ) (d : X) → 0 < left → left ≤ length xs → drop (left - 1) xs ≡ get_or xs (left - 1) d ∷ drop left xs
drop-before xs left d some within =
    let next : suc (left - 1) ≡ left = omega arith in
    let inside : left - 1 < length xs = omega arith in
    drop-cons xs (left - 1) d inside ∙ ap (λ k. get_or xs (left - 1) d ∷ drop k xs) next

-- one more next hop in front
pub hops_by-before : (objects : Objects) (ns : List (Rid × ℕ)) (left : ℕ) (d : Rid × ℕ) (hop : Option WHop) (hops new : Option (List WHop)) → 0 < left → left ≤ length ns → hops ≡ hops_by objects (drop left ns) → hop ≡ whop_at objects (get_or ns (left - 1) d).0 (get_or ns (left - 1) d).1 → new ≡ both put_hop hops hop → new ≡ hops_by objects (drop (left - 1) ns)
hops_by-before objects ns left d hop hops new some within found one more =
    more
    ∙ ap (both put_hop hops) one
    ∙ ap (λ hs. both put_hop hs (whop_at objects (get_or ns (left - 1) d).0 (get_or ns (left - 1) d).1)) found
    ∙ ap (hops_by objects) (sym (drop-before ns left d some within))

-- and so is what one of them names, where a route leads, and which router an object is in
module _ (objects : Objects) (names : NameTable) (are : AreNamesOf objects names) where
  hops_of-names : (r : Rid) → hops_of_group names.groups r ≡ hops_at objects r
  hops_of-names r = are.groups.each r ∙ hops_among-same names.bodies objects are.bodies r objects

  pub thing-named : (e : Entry Rid) (b : Body Rid) → thing_by (hops_of_group names.groups) names.bodies (e, b) ≡ thing_of objects (e, b)
  thing-named e b = thing_by-same names.bodies objects are.bodies (hops_of_group names.groups) (hops_at objects) hops_of-names e b

  pub goal-named : (to : To Rid) → goal_by (hops_of_group names.groups) names.bodies to ≡ goal_by (hops_at objects) objects to
  goal-named to = goal_by-same names.bodies objects are.bodies (hops_of_group names.groups) (hops_at objects) hops_of-names to

  pub router-named : (vr : Option Rid) → router_at names.bodies vr ≡ router_at objects vr
  router-named vr = router_at-same names.bodies objects are.bodies vr

-- the objects of a chip, as its list gives them
pub entries_of-objects_of : (objects : Objects) → entries_of (objects_of objects) ≡ objects
entries_of-objects_of [] = refl
entries_of-objects_of (o ∷ os) = ap (λ l. o ∷ l) (entries_of-objects_of os)
