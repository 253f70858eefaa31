-- the Ethernet address of a hop is that of its neighbour, by its key
use Rattle.std.proofs.Common.{◌≡◌, Bool, true, false, cond, ◌||◌, List, [], ◌∷◌, ◌++◌, map, Option, None, Some, option_map, refl, sym, ap, ◌∙◌, subst}
use Rattle.std.specs.BTreeMap.{is_at}
use Rattle.std.specs.Cmp.{IsTotalOrder}
use Rattle.std.specs.List.{list_any}
use Rattle.std.specs.Map.{keys_of, lookup}
use Rattle.std.specs.Option.{is_some}
use Rattle.std.specs.Ordering.{is_eq}
use Rattle.std.proofs.lemmas.Cmp.{on_total, then_total, tied_itself}
use Rattle.std.proofs.lemmas.Map.Made.{is_some-lookup}
use Rattle.std.proofs.lemmas.Bool.{false_from_ne_true}
use Rattle.swss_types.specs.declared.address.Ip.{Ip}
use Rattle.swss_types.specs.declared.address.Mac.{Mac}
use Rattle.swss_types.specs.contracts.address.IpOrd.TheImpl.Laws as ordered_ip
use Rattle.swss_types.proofs.Tied.{tied as equal_by}
use Rattle.swss_types.proofs.Choices.{some_by}
use Rattle.sai_types.specs.declared.ids.Rid.{Rid}
use Rattle.sai_types.specs.declared.hop.Hop.{Hop}
use Rattle.sai_types.specs.declared.thing.Thing.{Thing}
use Rattle.sai_types.specs.declared.thing.Thing.TheVariants as thing
use Rattle.sai_types.specs.declared.body.Body.{Body}
use Rattle.sai_types.specs.declared.body.Body.TheVariants as body
use Rattle.sai_types.specs.declared.body.Entry.TheVariants as entry
use Rattle.sai_types.specs.declared.body.To.{To}
use Rattle.sai_types.specs.contracts.ids.RidOrd.TheImpl.Laws as ordered_rid
use Rattle.sai_types.specs.contracts.hop.HopEq.TheImpl.Laws as equal_hop
use Rattle.sai_types.specs.contracts.hop.HopOrd.TheImpl.Laws as ordered_hop
use Rattle.sai_types.specs.Names as name
use Rattle.sai_types.specs.Forwarding.{hop_mac, same_hop}
use Rattle.sai_types.specs.Made.{HaveOneEach}
use Rattle.sai_types.specs.Named.{goal_by, hop_cmp, hop_on, hops_at, named, router_at, thing_of, those}
use Rattle.sai_types.specs.Objects.{Objects}
use Rattle.sai_types.proofs.Rising.{hop_exact}
use Rattle.chip_names.proofs.SameNames.{map-things_among}
use Rattle.sai_chip.specs.Tally.{neighbor_cmp}
use Rattle.sai_chip.specs.Bodies.{HaveIdKinds, OwnKey, RouteKey, owned, reached, routed, objects_in}
use Rattle.sai_chip.proofs.Changed.{at-neighbor, neighbor_exact}
use Rattle.sai_chip.proofs.Looked.{mac_other, passes-both, passes-map, past, past-ids, past-last}
use Rattle.sai_chip.proofs.Passing.{both_ways, or_true}

neighbor_total : IsTotalOrder neighbor_cmp
neighbor_total = then_total (on_total (λ (p : Rid × Ip). p.0) ordered_rid.total-law) (on_total (λ (p : Rid × Ip). p.1) ordered_ip.total-law)

pub mapped_some : {X Y : Type 0} (f : X → Y) (o : Option X) → is_some (option_map f o) ≡ is_some o
mapped_some f None = refl
mapped_some f (Some x) = refl

module _ (ids : List (Rid × Body Rid)) (owns : List OwnKey) (ns : List ((Rid × Ip) × Mac)) (rs : List (RouteKey × To Rid)) (all : HaveIdKinds ids) (one : HaveOneEach (objects_in ids owns ns rs)) (rif : Rid) (ip : Ip) (hop : Hop) (is : hop_on (objects_in ids owns ns rs) rif ip ≡ Some hop) (there : is_some (lookup (is_at (neighbor_cmp (rif, ip))) ns) ≡ true) where
  abbrev held : Objects
  held = objects_in ids owns ns rs

  -- a neighbour of the same hop has the same key
  one_neighbor_key : (x : Rid × Ip) (h : Hop) → is_some (lookup (is_at (neighbor_cmp x)) ns) ≡ true → hop_on held x.0 x.1 ≡ Some h → same_hop h hop ≡ true → x ≡ (rif, ip)
  one_neighbor_key x h found named same =
      let alike : h ≡ hop = hop_exact h hop (equal_by (hop_cmp h hop) (sym (ordered_hop.matches_eq-law h hop) ∙ same)) in
      let m = some_by (lookup (is_at (neighbor_cmp x)) ns) found in
      let n = some_by (lookup (is_at (neighbor_cmp (rif, ip))) ns) there in
      neighbor_exact x (rif, ip) (equal_by (neighbor_cmp x (rif, ip))
      (one.each (entry.Neigh x.0 x.1) (entry.Neigh rif ip) (body.Neighbor x.0 x.1 m.0) (body.Neighbor rif ip n.0) (thing.Neighbor h m.0) (thing.Neighbor hop n.0)
      (at-neighbor ids owns ns rs x.0 x.1 ∙ ap (option_map (body.Neighbor x.0 x.1)) m.1)
      (at-neighbor ids owns ns rs rif ip ∙ ap (option_map (body.Neighbor rif ip)) n.1)
      (ap (option_map (λ h. thing.Neighbor h m.0)) named)
      (ap (option_map (λ h. thing.Neighbor h n.0)) is)
      (ap name.Neighbor alike)
      refl))

  tied_key : (x : Rid × Ip) (h : Hop) → is_some (lookup (is_at (neighbor_cmp x)) ns) ≡ true → hop_on held x.0 x.1 ≡ Some h → same_hop h hop ≡ is_at (neighbor_cmp (rif, ip)) x
  tied_key x h found named =
      both_ways (same_hop h hop) (is_at (neighbor_cmp (rif, ip)) x)
      (λ same. let key = one_neighbor_key x h found named same in ap (is_at (neighbor_cmp (rif, ip))) key ∙ ap is_eq (tied_itself neighbor_total (rif, ip)))
      (λ tied. let key = neighbor_exact (rif, ip) x (equal_by (neighbor_cmp (rif, ip) x) tied) in
      let known : hop_on held x.0 x.1 ≡ Some hop = subst (λ y. hop_on held y.0 y.1 ≡ Some hop) key is in
      let alike : h ≡ hop = cc in
      ap (λ g. same_hop g hop) alike ∙ equal_hop.laws-law.refl hop)

  mac_step : (x : (Rid × Ip) × Mac) (xs : List ((Rid × Ip) × Mac)) (o : Option Hop) → hop_on held x.0.0 x.0.1 ≡ o → is_some (lookup (is_at (neighbor_cmp x.0)) ns) ≡ true → (ts : List (Option Thing)) → hop_mac (those ts) hop ≡ lookup (is_at (neighbor_cmp (rif, ip))) xs → hop_mac (those (option_map (λ h. thing.Neighbor h x.1) o ∷ ts)) hop ≡ cond (is_at (neighbor_cmp (rif, ip)) x.0) (Some x.1) (lookup (is_at (neighbor_cmp (rif, ip))) xs)
  mac_step x xs None named found ts h =
      let apart : is_at (neighbor_cmp (rif, ip)) x.0 ≡ false = false_from_ne_true _ (λ tied. let key = neighbor_exact (rif, ip) x.0 (equal_by (neighbor_cmp (rif, ip) x.0) tied) in let known : hop_on held x.0.0 x.0.1 ≡ Some hop = subst (λ y. hop_on held y.0 y.1 ≡ Some hop) key is in absurd cc) in
      h ∙ sym (ap (λ b. cond b (Some x.1) (lookup (is_at (neighbor_cmp (rif, ip))) xs)) apart)
  mac_step x xs (Some g) named found ts h = let tied = tied_key x.0 g found named in cc

  mac_in : (xs : List ((Rid × Ip) × Mac)) → ((p : Rid × Ip → Bool) → list_any p (keys_of xs) ≡ true → list_any p (keys_of ns) ≡ true) → hop_mac (those (map (thing_of held) (reached xs ++ routed rs))) hop ≡ lookup (is_at (neighbor_cmp (rif, ip))) xs
  mac_in [] within = past-last (λ ts. hop_mac ts hop) held _ (λ e. passes-both (λ ts. hop_mac ts hop) (λ v g. thing.Route v e.0.1 g) (λ v g ts. refl) (router_at held e.0.0) (goal_by (hops_at held) held e.1)) rs
  mac_in (x ∷ xs) within =
      mac_step x xs (hop_on held x.0.0 x.0.1) refl
      (is_some-lookup (is_at (neighbor_cmp x.0)) ns ∙ within (is_at (neighbor_cmp x.0)) (ap (λ r. is_eq r || list_any (is_at (neighbor_cmp x.0)) (keys_of xs)) (tied_itself neighbor_total x.0)))
      (map (thing_of held) (reached xs ++ routed rs))
      (mac_in xs (λ p h. within p (ap (λ b. p x.0 || b) h ∙ or_true (p x.0))))

  pub mac-held : lookup (is_at (neighbor_cmp (rif, ip))) ns ≡ hop_mac (those (named held)) hop
  mac-held =
      let F : List Thing → Option Mac = λ ts. hop_mac ts hop in
      sym (ap (λ l. F (those l)) (sym (map-things_among held held))
      ∙ past-ids F held (mac_other hop) ids (owned owns ++ (reached ns ++ routed rs)) all
      ∙ past F held _ (λ k. passes-map F (λ v. thing.Own v k.1) (λ v ts. refl) (router_at held k.0)) owns (reached ns ++ routed rs)
      ∙ mac_in ns (λ p h. h))
