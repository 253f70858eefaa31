-- where goals send, by the neighbours among things
use Rattle.std.proofs.Common.{◌≡◌, cond, List, [], ◌∷◌, map, Option, Some, refl, sym, ap, ap₂, ◌∙◌}
use Rattle.std.specs.BTreeMap.{is_at}
use Rattle.std.specs.Cmp.{eq_by_cmp_equiv}
use Rattle.swss_types.specs.declared.address.Mac.{Mac}
use Rattle.swss_types.proofs.Maps.{lookup-insert_entry}
use Rattle.sai_types.specs.declared.hop.Hop.{Hop}
use Rattle.sai_types.specs.declared.weight.WHop.{WHop}
use Rattle.sai_types.specs.contracts.hop.HopOrd.TheImpl.Laws as ordered_hop
use Rattle.sai_types.specs.declared.thing.Goal.{Goal}
use Rattle.sai_types.specs.declared.thing.Goal.TheVariants as goal
use Rattle.sai_types.specs.declared.thing.Thing.{Thing}
use Rattle.sai_types.specs.declared.thing.Thing.TheVariants as thing
use Rattle.sai_types.specs.Forwarding.{alone, decision_of, forwarding_of, hop_mac, same_hop}
use Rattle.sai_types.specs.Hop.{hop_cmp}
use Rattle.sai_chip.specs.Forward.{answer_of, ways_of}
use Rattle.sai_chip.specs.declared.forward.Forward.TheVariants as forward
use Rattle.packet_walk.specs.Sends.{neighbor_mac, macs_in, send_by, addressed_ways}

same-tied : (h hop : Hop) → is_at (hop_cmp hop) h ≡ same_hop h hop
same-tied h hop = (eq_by_cmp_equiv ordered_hop.total-law).symm hop h ∙ sym (ordered_hop.matches_eq-law h hop)

-- the address of a hop is that of its neighbour
pub mac-found : (ts : List Thing) (hop : Hop) → neighbor_mac (macs_in ts) hop ≡ hop_mac ts hop
mac-found [] hop = refl
mac-found (thing.Neighbor h mac ∷ ts) hop =
    lookup-insert_entry hop_cmp ordered_hop.total-law (macs_in ts) h mac hop
    ∙ ap (λ b. cond b (Some mac) (neighbor_mac (macs_in ts) hop)) (same-tied h hop)
    ∙ ap (cond (same_hop h hop) (Some mac)) (mac-found ts hop)
mac-found (thing.Port p ∷ ts) hop = mac-found ts hop
mac-found (thing.Vlan v ∷ ts) hop = mac-found ts hop
mac-found (thing.VirtualRouter n ∷ ts) hop = mac-found ts hop
mac-found (thing.BridgePort p ∷ ts) hop = mac-found ts hop
mac-found (thing.VlanMember v p m ∷ ts) hop = mac-found ts hop
mac-found (thing.Rif b v ∷ ts) hop = mac-found ts hop
mac-found (thing.Own v i ∷ ts) hop = mac-found ts hop
mac-found (thing.NextHop h ∷ ts) hop = mac-found ts hop
mac-found (thing.Group hs ∷ ts) hop = mac-found ts hop
mac-found (thing.GroupMember hs w ∷ ts) hop = mac-found ts hop
mac-found (thing.Route v p g ∷ ts) hop = mac-found ts hop

module _ (ts : List Thing) where
  addressed : (hops : List WHop) → map {B = WHop × Option Mac} (λ w. (w, neighbor_mac (macs_in ts) w.hop)) hops ≡ map (λ w. (w, hop_mac ts w.hop)) hops
  addressed [] = refl
  addressed (w ∷ ws) = let way : Option Mac → List (WHop × Option Mac) → List (WHop × Option Mac) = λ m l. (w, m) ∷ l in ap₂ way (mac-found ts w.hop) (addressed ws)

  ways-found : (hops : List WHop) → addressed_ways (macs_in ts) hops ≡ ways_of (map {B = WHop × Option Mac} (λ w. (w, hop_mac ts w.hop)) hops)
  ways-found hops = ap ways_of (addressed hops)

  -- goals send as the things forward
  pub send-found : (g : Goal) → send_by (macs_in ts) g ≡ answer_of (forwarding_of ts (decision_of g))
  send-found goal.Drop = refl
  send-found (goal.Direct base) = refl
  send-found (goal.Via hop) = ap forward.Via (ways-found (alone hop ∷ []))
  send-found (goal.Group hops) = ap forward.Via (ways-found hops)
