-- where routes send, and which of them is the best
use Rattle.std.proofs.Common.{◌≡◌, ℕ, ◌-◌, ◌<◌, ◌≤◌, true, cond, ◌&&◌, List, [], ◌∷◌, drop, get_or, length, map, Option, None, Some, option_map, Ordering, refl, sym, ap, ◌∙◌}
use Rattle.std.specs.declared.cmp.Ordering.TheVariants.{Less, Equal, Greater}
use Rattle.std.specs.BTreeMap.{insert_entry, is_at}
use Rattle.std.specs.List.Sorted.{IsStrictlySortedBy}
use Rattle.std.specs.Map.{keys_of, lookup}
use Rattle.std.specs.Option.{is_some, unwrap_or}
use Rattle.std.specs.Ordering.{is_eq, match_ordering}
use Rattle.std.proofs.lemmas.Bool.{and_parts}
use Rattle.std.proofs.lemmas.Map.{lookup-none}
use Rattle.std.proofs.lemmas.Map.Entries.{none_below_head}
use Rattle.std.proofs.lemmas.Map.Keys.{sorted_tail}
use Rattle.swss_types.specs.declared.address.Ip.{Ip}
use Rattle.swss_types.specs.declared.address.Mac.{Mac}
use Rattle.swss_types.specs.declared.address.Prefix.{Prefix}
use Rattle.swss_types.specs.declared.vrf.Packet.{Packet}
use Rattle.swss_types.specs.declared.vrf.Vrf.{Vrf}
use Rattle.sai_types.specs.declared.ids.Rid.{Rid}
use Rattle.sai_types.specs.declared.hop.Base.{Base}
use Rattle.sai_types.specs.declared.hop.Hop.{Hop}
use Rattle.sai_types.specs.declared.weight.WHop.{WHop}
use Rattle.sai_types.specs.declared.thing.Goal.{Goal}
use Rattle.sai_types.specs.declared.thing.Goal.TheVariants as goal
use Rattle.sai_types.specs.declared.thing.Thing.{Thing}
use Rattle.sai_types.specs.declared.thing.Thing.TheVariants as thing
use Rattle.sai_types.specs.declared.body.Body.TheVariants as body
use Rattle.sai_types.specs.declared.body.Entry.TheVariants as entry
use Rattle.sai_types.specs.declared.body.To.{To}
use Rattle.sai_types.specs.Forwarding.{alone, best_route, decide_route, forwarding_of, hop_mac}
use Rattle.sai_types.specs.Hop.{heavier, hop_cmp, put_hop}
use Rattle.sai_types.specs.Named.{both, goal_by, hops_at, named, router_at, thing_of, those, whop_at}
use Rattle.sai_types.specs.Objects.{Objects, body_at}
use Rattle.sai_types.specs.References.{refers_well, stands}
use Rattle.sai_types.specs.declared.kind.Kind.TheVariants as kind
use Rattle.sai_types.proofs.Rising.{hop_exact, hop_total}
use Rattle.chip_names.specs.Members.{hops_by}
use Rattle.chip_names.proofs.SameNames.{drop-before}
use Rattle.sai_chip.specs.declared.forward.Forward.{Forward}
use Rattle.sai_chip.specs.declared.forward.Forward.TheVariants as forward
use Rattle.sai_chip.specs.Bodies.{RouteKey, best_of, routed}
use Rattle.sai_chip.specs.Forward.{answer_of, more_ways, sent, way_of, ways_by, ways_in, ways_of, weight_beside, with_goal}

best_by : (objects : Objects) (a : Packet) (p : Prefix) (os : List (Option Thing)) (v : Option Vrf) (g : Option Goal) → best_route (those (both (λ v g. thing.Route v p g) v g ∷ os)) a ≡ with_goal a p v g (best_route (those os) a)
best_by objects a p os None g = refl
best_by objects a p os (Some v) None = refl
best_by objects a p os (Some v) (Some g) = refl

-- one more route in front
pub best_of-cons : (objects : Objects) (a : Packet) (e : RouteKey × To Rid) (es : List (RouteKey × To Rid)) → best_of objects (e ∷ es) a ≡ with_goal a e.0.1 (router_at objects e.0.0) (goal_by (hops_at objects) objects e.1) (best_of objects es a)
best_of-cons objects a e es = best_by objects a e.0.1 (map (thing_of objects) (routed es)) (router_at objects e.0.0) (goal_by (hops_at objects) objects e.1)

-- where the best route sends is where the chip does
pub decided : (objects : Objects) (best : Option Forward) (r : Option (Prefix × Goal)) → best ≡ option_map (λ r. sent objects r.1) r → unwrap_or best forward.Drop ≡ answer_of (forwarding_of (those (named objects)) (decide_route r))
decided objects best None h = ap (λ b. unwrap_or b forward.Drop) h
decided objects best (Some r) h = ap (λ b. unwrap_or b forward.Drop) h

pub sent-direct : (objects : Objects) (o : Option Base) → option_map forward.Direct o ≡ option_map (sent objects) (option_map goal.Direct o)
sent-direct objects None = refl
sent-direct objects (Some b) = refl

pub sent-one : (objects : Objects) (o : Option Hop) → option_map (λ hops. sent objects (goal.Group hops)) (both put_hop (Some []) (option_map alone o)) ≡ option_map (sent objects) (option_map goal.Via o)
sent-one objects None = refl
sent-one objects (Some h) = refl

pub sent-group : (objects : Objects) (o : Option (List WHop)) → option_map (λ hops. sent objects (goal.Group hops)) o ≡ option_map (sent objects) (option_map goal.Group o)
sent-group objects None = refl
sent-group objects (Some hs) = refl

pub sent-via : (objects : Objects) (o : Option (List WHop)) (ws : List (WHop × Option Mac)) (ways : List (WHop × Mac)) → Some ws ≡ ways_by objects o → ways ≡ ways_of ws → Some (forward.Via ways) ≡ option_map (λ hops. sent objects (goal.Group hops)) o
sent-via objects None ws ways h is = absurd cc
sent-via objects (Some hs) ws ways h is = let same : ws ≡ map (way_of objects) hs = cc in ap (λ w. Some (forward.Via w)) (is ∙ ap ways_of same)

pub sent-none : (objects : Objects) (o : Option (List WHop)) → None ≡ ways_by objects o → None ≡ option_map (λ hops. sent objects (goal.Group hops)) o
sent-none objects None h = refl
sent-none objects (Some hs) h = absurd cc

-- a hop with the greater of two weights
abbrev raised : WHop → WHop → WHop
raised x w = record { hop = x.hop; weight = heavier x.weight w.weight }

way_step : (objects : Objects) (w x : WHop) (hs : List WHop) (r : Ordering) → hop_cmp w.hop x.hop ≡ r → map (way_of objects) (put_hop hs w) ≡ more_ways (map (way_of objects) hs) (way_of objects w) → map (way_of objects) (match_ordering r (w ∷ x ∷ hs) (raised x w ∷ hs) (x ∷ put_hop hs w)) ≡ match_ordering r (way_of objects w ∷ map (way_of objects) (x ∷ hs)) ((raised x w, (way_of objects w).1) ∷ map (way_of objects) hs) (way_of objects x ∷ more_ways (map (way_of objects) hs) (way_of objects w))
way_step objects w x hs Less is same = refl
way_step objects w x hs Equal is same = ap (λ h. (raised x w, hop_mac (those (named objects)) h) ∷ map (way_of objects) hs) (sym (hop_exact w.hop x.hop is))
way_step objects w x hs Greater is same = ap (λ l. way_of objects x ∷ l) same

ways-put : (objects : Objects) (w : WHop) (hs : List WHop) → map (way_of objects) (put_hop hs w) ≡ more_ways (map (way_of objects) hs) (way_of objects w)
ways-put objects w [] = refl
ways-put objects w (x ∷ hs) = way_step objects w x hs (hop_cmp w.hop x.hop) refl (ways-put objects w hs)

ways_both : (objects : Objects) (o : Option (List WHop)) (h : Option WHop) → both more_ways (ways_by objects o) (option_map (way_of objects) h) ≡ ways_by objects (both put_hop o h)
ways_both objects None h = refl
ways_both objects (Some hs) None = refl
ways_both objects (Some hs) (Some h) = ap Some (sym (ways-put objects h hs))

module _ (w : WHop) (mac : Option Mac) where
  abbrev there : List (Hop × (ℕ × Option Mac)) → Option (ℕ × Option Mac)
  there es = lookup (is_at (hop_cmp w.hop)) es

  abbrev put : List (Hop × (ℕ × Option Mac)) → ℕ × Option Mac
  put es = (weight_beside (there es) w.weight, mac)

  more_step : (e : Hop × (ℕ × Option Mac)) (es : List (Hop × (ℕ × Option Mac))) (r : Ordering) → hop_cmp w.hop e.0 ≡ r → IsStrictlySortedBy hop_cmp (keys_of (e ∷ es))
      → ways_in (insert_entry hop_cmp es w.hop (put es)) ≡ more_ways (ways_in es) (w, mac)
      → ways_in (match_ordering r ((w.hop, put (e ∷ es)) ∷ e ∷ es) ((e.0, put (e ∷ es)) ∷ es) (e ∷ insert_entry hop_cmp es w.hop (put (e ∷ es))))
      ≡ match_ordering r ((w, mac) ∷ ways_in (e ∷ es)) ((record { hop = e.0; weight = heavier e.1.0 w.weight }, mac) ∷ ways_in es) ((record { hop = e.0; weight = e.1.0 }, e.1.1) ∷ more_ways (ways_in es) (w, mac))
  more_step e es Less is sorted same = ap (λ o. ways_in ((w.hop, (weight_beside o w.weight, mac)) ∷ e ∷ es)) (lookup-none (is_at (hop_cmp w.hop)) (e ∷ es) (none_below_head hop_total w.hop e es sorted is))
  more_step e es Equal is sorted same = ap (λ o. ways_in ((e.0, (weight_beside (cond (is_eq o) (Some e.1) (there es)) w.weight, mac)) ∷ es)) is
  more_step e es Greater is sorted same =
      ap (λ o. ways_in (e ∷ insert_entry hop_cmp es w.hop (weight_beside (cond (is_eq o) (Some e.1) (there es)) w.weight, mac))) is
      ∙ ap (λ l. (record { hop = e.0; weight = e.1.0 }, e.1.1) ∷ l) same

  -- a hop that is put with the greater of its weight and of that which is there
  pub ways_in-more : (es : List (Hop × (ℕ × Option Mac))) → IsStrictlySortedBy hop_cmp (keys_of es) → ways_in (insert_entry hop_cmp es w.hop (weight_beside (there es) w.weight, mac)) ≡ more_ways (ways_in es) (w, mac)
  ways_in-more [] sorted = refl
  ways_in-more (e ∷ es) sorted = more_step e es (hop_cmp w.hop e.0) refl sorted (ways_in-more es (sorted_tail hop_cmp e.0 (keys_of es) sorted))

-- the ways of one more next hop in front
pub ways_by-before : (objects : Objects) (ns : List (Rid × ℕ)) (left : ℕ) (d : Rid × ℕ) (way : Option (WHop × Option Mac)) (old new : Option (List (WHop × Option Mac))) → 0 < left → left ≤ length ns → old ≡ ways_by objects (hops_by objects (drop left ns)) → way ≡ option_map (way_of objects) (whop_at objects (get_or ns (left - 1) d).0 (get_or ns (left - 1) d).1) → new ≡ both more_ways old way → new ≡ ways_by objects (hops_by objects (drop (left - 1) ns))
ways_by-before objects ns left d way old new some within was one more =
    more
    ∙ ap (λ o. both more_ways o way) was
    ∙ ap (both more_ways (ways_by objects (hops_by objects (drop left ns)))) one
    ∙ ways_both objects (hops_by objects (drop left ns)) (whop_at objects (get_or ns (left - 1) d).0 (get_or ns (left - 1) d).1)
    ∙ ap (λ l. ways_by objects (hops_by objects l)) (sym (drop-before ns left d some within))

-- a next hop that refers well goes through a neighbour that stands
pub through-stands : (objects : Objects) (rif : Rid) (ip : Ip) → refers_well objects (body.NextHop rif ip) ≡ true → is_some (body_at objects (entry.Neigh rif ip)) ≡ true
through-stands objects rif ip well =
    let parts = and_parts (stands objects (kind.Rif, entry.Oid rif)) (is_some (body_at objects (entry.Neigh rif ip)) && true) well in
    (and_parts (is_some (body_at objects (entry.Neigh rif ip))) true parts.1).0

-- where the best of routes sends, by its goal alone
pub sent-best : (objects : Objects) (r : Option (Prefix × Goal)) → option_map (λ r. sent objects r.1) r ≡ option_map (sent objects) (option_map (λ r. r.1) r)
sent-best objects None = refl
sent-best objects (Some r) = refl
