-- the objects of a chip where one of a part comes, goes or is set
use Rattle.std.proofs.Common.{◌≡◌, ℕ, Bool, true, false, cond, List, [], ◌∷◌, ◌++◌, Option, None, Some, option_map, Ordering, refl, sym, ap, ap₂, ◌∙◌, subst}
use Rattle.std.specs.declared.cmp.Ordering.TheVariants.{Less, Equal, Greater}
use Rattle.std.specs.Option.{option_cmp}
use Rattle.std.specs.Ordering.{is_eq, match_ordering}
use Rattle.std.specs.BTreeMap.{insert_entry, is_at}
use Rattle.std.specs.BTreeSet.{insert_key}
use Rattle.std.specs.Set.{remove_key}
use Rattle.std.specs.Cmp.{IsTotalOrder}
use Rattle.std.specs.List.{list_any}
use Rattle.std.specs.List.Sorted.{IsStrictlySortedBy}
use Rattle.std.specs.Map.{keys_of, lookup, remove_entry, set_value}
use Rattle.std.proofs.lemmas.List.{append-nil}
use Rattle.std.proofs.lemmas.Map.{lookup-none}
use Rattle.std.proofs.lemmas.Map.Entries.{none_below_head}
use Rattle.std.proofs.lemmas.Map.Keys.{sorted_tail}
use Rattle.std.proofs.lemmas.Map.Lookups.{CmpEqualImpliesEq}
use Rattle.std.proofs.lemmas.Map.Steps.{set_value_same}
use Rattle.std.proofs.lemmas.Iterator.Adapters.{option_map_id}
use Rattle.swss_types.specs.declared.address.Ip.{Ip}
use Rattle.swss_types.specs.declared.address.Mac.{Mac}
use Rattle.swss_types.specs.declared.address.Prefix.{Prefix}
use Rattle.swss_types.proofs.AddressOrders.{ip_exact, prefix_exact}
use Rattle.swss_types.proofs.Tied.{then_first, then_last}
use Rattle.sai_types.specs.declared.ids.Rid.{Rid}
use Rattle.sai_types.specs.declared.body.Attr.{Attr}
use Rattle.sai_types.specs.declared.body.Attr.TheVariants as attr
use Rattle.sai_types.specs.declared.body.Body.{Body}
use Rattle.sai_types.specs.declared.body.Body.TheVariants as body
use Rattle.sai_types.specs.declared.body.Entry.{Entry}
use Rattle.sai_types.specs.declared.body.Entry.TheVariants as entry
use Rattle.sai_types.specs.declared.body.To.{To}
use Rattle.sai_types.specs.declared.body.Call.{Call}
use Rattle.sai_types.specs.After.{after_call, after_set, entry_of, has_id, with_attr}
use Rattle.sai_types.specs.Made.{AreSorted}
use Rattle.sai_types.specs.Objects.{Objects, body_at, entry_cmp}
use Rattle.sai_types.proofs.Entries.{entry_total}
use Rattle.sai_types.proofs.Exact.{router-exact, routers-tied}
use Rattle.chip_names.specs.Naming.{numbered, rid_cmp}
use Rattle.chip_names.proofs.Ids.{rid_exact}
use Rattle.sai_chip.specs.Tally.{neighbor_cmp}
use Rattle.sai_chip.specs.Bodies.{HaveIdKinds, IsWellHeld, OwnKey, RouteKey, id_found, ids_set, macs_set, own_cmp, owned, reached, route_cmp, routed, objects_in, target_of, targets_set, value_found}
use Rattle.sai_chip.proofs.Parts.{lookup-past, lookup-last, remove-past, remove-last, insert-past, set-past, lookup-in, insert-in, remove-in, set-in, key-lookup, key-insert, key-remove}

pub neighbor_exact : CmpEqualImpliesEq neighbor_cmp
neighbor_exact x y h = let made : Rid → Ip → Rid × Ip = λ r ip. (r, ip) in ap₂ made (rid_exact x.0 y.0 (then_first _ _ h)) (ip_exact x.1 y.1 (then_last _ _ h))

pub vr_exact : CmpEqualImpliesEq (option_cmp rid_cmp)
vr_exact v w h = router-exact v w (routers-tied v w ∙ ap is_eq h)

pub own_exact : CmpEqualImpliesEq own_cmp
own_exact x y h = let made : Option Rid → Ip → OwnKey = λ v ip. (v, ip) in ap₂ made (vr_exact x.0 y.0 (then_first _ _ h)) (ip_exact x.1 y.1 (then_last _ _ h))

pub route_exact : CmpEqualImpliesEq route_cmp
route_exact x y h = let made : Option Rid → Prefix → RouteKey = λ v p. (v, p) in ap₂ made (vr_exact x.0 y.0 (then_first _ _ h)) (prefix_exact x.1 y.1 (then_last _ _ h))

-- a key that is there takes a value in its place
found_by : {K X : Type 0} (cmp : K → K → Ordering) (total : IsTotalOrder cmp) (k : K) (v w : X) (e : K × X) (es : List (K × X)) → IsStrictlySortedBy cmp (keys_of (e ∷ es)) → lookup (is_at (cmp k)) (e ∷ es) ≡ Some w → (r : Ordering) → cmp k e.0 ≡ r → (lookup (is_at (cmp k)) es ≡ Some w → insert_entry cmp es k v ≡ set_value (is_at (cmp k)) es v) → match_ordering r ((k, v) ∷ e ∷ es) ((e.0, v) ∷ es) (e ∷ insert_entry cmp es k v) ≡ cond (is_eq r) ((e.0, v) ∷ es) (e ∷ set_value (is_at (cmp k)) es v)
found_by cmp total k v w e es sorted there Less is h = let none = lookup-none (is_at (cmp k)) (e ∷ es) (none_below_head total k e es sorted is) in absurd cc
found_by cmp total k v w e es sorted there Equal is h = refl
found_by cmp total k v w e es sorted there Greater is h = ap (λ l. e ∷ l) (h (sym (ap (λ r. cond (is_eq r) (Some e.1) (lookup (is_at (cmp k)) es)) is) ∙ there))

pub insert-found : {K X : Type 0} (cmp : K → K → Ordering) (total : IsTotalOrder cmp) (k : K) (v w : X) (es : List (K × X)) → IsStrictlySortedBy cmp (keys_of es) → lookup (is_at (cmp k)) es ≡ Some w → insert_entry cmp es k v ≡ set_value (is_at (cmp k)) es v
insert-found cmp total k v w [] sorted there = absurd cc
insert-found cmp total k v w (e ∷ es) sorted there = found_by cmp total k v w e es sorted there (cmp k e.0) refl (insert-found cmp total k v w es (sorted_tail cmp e.0 (keys_of es) sorted))

-- objects in parts after a call
pub keeps : (objects : Objects) (n : ℕ) (c : Call Rid) (ids : List (Rid × Body Rid)) (owns : List OwnKey) (ns : List ((Rid × Ip) × Mac)) (rs : List (RouteKey × To Rid)) → ((n : ℕ) (objects : Objects) (c : Call Rid) → AreSorted objects → AreSorted (after_call n objects c)) → AreSorted objects → objects_in ids owns ns rs ≡ after_call n objects c → HaveIdKinds ids → IsWellHeld ids owns ns rs
keeps objects n c ids owns ns rs stay sorted same all = record { sorted = subst AreSorted (sym same) (stay n objects c sorted); with_ids = all }

pub entry_of-id : (n : ℕ) (b : Body Rid) → has_id b ≡ true → entry_of n b ≡ entry.Oid (record { 0 = n })
entry_of-id n (body.OwnAddress vr ip) h = absurd cc
entry_of-id n (body.Neighbor rif ip mac) h = absurd cc
entry_of-id n (body.Route vr prefix to) h = absurd cc
entry_of-id n b h = refl

-- a body that is of no kind without identifiers
pub id_default : (b : Body Rid) → ((vr : Option Rid) (ip : Ip) → b ≡ body.OwnAddress vr ip → ⊥) → ((r : Rid) (ip : Ip) (mac : Mac) → b ≡ body.Neighbor r ip mac → ⊥) → ((vr : Option Rid) (p : Prefix) (to : To Rid) → b ≡ body.Route vr p to → ⊥) → has_id b ≡ true
id_default (body.OwnAddress vr ip) own neighbor route = absurd (own vr ip refl)
id_default (body.Neighbor r ip mac) own neighbor route = absurd (neighbor r ip mac refl)
id_default (body.Route vr p to) own neighbor route = absurd (route vr p to refl)
id_default b own neighbor route = refl

-- an attribute that a body lacks changes nothing
pub set-lacking : (objects : Objects) (e : Entry Rid) (a : Attr Rid) (o : Option (Body Rid)) → AreSorted objects → body_at objects e ≡ o → ((b : Body Rid) → o ≡ Some b → with_attr b a ≡ b) → after_set objects e a o ≡ objects
set-lacking objects e a None sorted found lacks = refl
set-lacking objects e a (Some b) sorted found lacks =
    ap (insert_entry entry_cmp objects e) (lacks b refl)
    ∙ insert-found entry_cmp entry_total e b b objects sorted found
    ∙ set_value_same (is_at (entry_cmp e)) objects b found

before_id : (owns : List OwnKey) (ns : List ((Rid × Ip) × Mac)) (rs : List (RouteKey × To Rid)) (r : Rid) (b : Body Rid) → insert_entry entry_cmp (owned owns ++ (reached ns ++ routed rs)) (entry.Oid r) b ≡ (entry.Oid r, b) ∷ (owned owns ++ (reached ns ++ routed rs))
before_id [] [] [] r b = refl
before_id [] [] (x ∷ rs) r b = refl
before_id [] (x ∷ ns) rs r b = refl
before_id (x ∷ owns) ns rs r b = refl

before_own : (ns : List ((Rid × Ip) × Mac)) (rs : List (RouteKey × To Rid)) (v : Option Rid) (ip : Ip) (b : Body Rid) → insert_entry entry_cmp (reached ns ++ routed rs) (entry.Own v ip) b ≡ (entry.Own v ip, b) ∷ (reached ns ++ routed rs)
before_own [] [] v ip b = refl
before_own [] (x ∷ rs) v ip b = refl
before_own (x ∷ ns) rs v ip b = refl

before_neighbor : (rs : List (RouteKey × To Rid)) (r : Rid) (ip : Ip) (b : Body Rid) → insert_entry entry_cmp (routed rs) (entry.Neigh r ip) b ≡ (entry.Neigh r ip, b) ∷ routed rs
before_neighbor [] r ip b = refl
before_neighbor (x ∷ rs) r ip b = refl

module _ (ids : List (Rid × Body Rid)) (owns : List OwnKey) (ns : List ((Rid × Ip) × Mac)) (rs : List (RouteKey × To Rid)) where
  abbrev after_ids : Objects
  after_ids = owned owns ++ (reached ns ++ routed rs)

  abbrev after_owns : Objects
  after_owns = reached ns ++ routed rs

  pub at-id : (r : Rid) → body_at (objects_in ids owns ns rs) (entry.Oid r) ≡ lookup (is_at (rid_cmp r)) ids
  at-id r =
      lookup-in rid_cmp entry.Oid (λ r b. b) (λ x y. refl) rid_exact r after_ids
      (lookup-past _ (is_at (entry_cmp (entry.Oid r))) (λ x. refl) owns after_owns ∙ lookup-past _ (is_at (entry_cmp (entry.Oid r))) (λ x. refl) ns (routed rs) ∙ lookup-last _ (is_at (entry_cmp (entry.Oid r))) (λ x. refl) rs)
      ids
      ∙ option_map_id (lookup (is_at (rid_cmp r)) ids)

  pub at-own : (v : Option Rid) (ip : Ip) → body_at (objects_in ids owns ns rs) (entry.Own v ip) ≡ cond (list_any (is_at (own_cmp (v, ip))) owns) (Some (body.OwnAddress v ip)) None
  at-own v ip =
      lookup-past _ (is_at (entry_cmp (entry.Own v ip))) (λ x. refl) ids after_ids
      ∙ key-lookup own_cmp (λ k. entry.Own k.0 k.1) (λ k. body.OwnAddress k.0 k.1) (λ x y. refl) own_exact (v, ip) after_owns
      (lookup-past _ (is_at (entry_cmp (entry.Own v ip))) (λ x. refl) ns (routed rs) ∙ lookup-last _ (is_at (entry_cmp (entry.Own v ip))) (λ x. refl) rs)
      owns

  pub at-neighbor : (r : Rid) (ip : Ip) → body_at (objects_in ids owns ns rs) (entry.Neigh r ip) ≡ option_map (body.Neighbor r ip) (lookup (is_at (neighbor_cmp (r, ip))) ns)
  at-neighbor r ip =
      lookup-past _ (is_at (entry_cmp (entry.Neigh r ip))) (λ x. refl) ids after_ids
      ∙ lookup-past _ (is_at (entry_cmp (entry.Neigh r ip))) (λ x. refl) owns after_owns
      ∙ lookup-in neighbor_cmp (λ p. entry.Neigh p.0 p.1) (λ p. body.Neighbor p.0 p.1) (λ x y. refl) neighbor_exact (r, ip) (routed rs)
      (lookup-last _ (is_at (entry_cmp (entry.Neigh r ip))) (λ x. refl) rs)
      ns

  pub at-route : (v : Option Rid) (p : Prefix) → body_at (objects_in ids owns ns rs) (entry.Route v p) ≡ option_map (body.Route v p) (lookup (is_at (route_cmp (v, p))) rs)
  at-route v p =
      lookup-past _ (is_at (entry_cmp (entry.Route v p))) (λ x. refl) ids after_ids
      ∙ lookup-past _ (is_at (entry_cmp (entry.Route v p))) (λ x. refl) owns after_owns
      ∙ lookup-past _ (is_at (entry_cmp (entry.Route v p))) (λ x. refl) ns (routed rs)
      ∙ ap (lookup (is_at (entry_cmp (entry.Route v p)))) (sym (append-nil (routed rs)))
      ∙ lookup-in route_cmp (λ k. entry.Route k.0 k.1) (λ k. body.Route k.0 k.1) (λ x y. refl) route_exact (v, p) [] refl rs

  pub put-id : (r : Rid) (b : Body Rid) → objects_in (insert_entry rid_cmp ids r b) owns ns rs ≡ insert_entry entry_cmp (objects_in ids owns ns rs) (entry.Oid r) b
  put-id r b = sym (insert-in rid_cmp entry.Oid (λ r b. b) (λ x y. refl) rid_exact r b after_ids (before_id owns ns rs r b) ids)

  pub put-own : (v : Option Rid) (ip : Ip) → objects_in ids (insert_key own_cmp owns (v, ip)) ns rs ≡ insert_entry entry_cmp (objects_in ids owns ns rs) (entry.Own v ip) (body.OwnAddress v ip)
  put-own v ip =
      sym (insert-past _ (entry.Own v ip) (body.OwnAddress v ip) (λ x. refl) ids after_ids
      ∙ ap (λ l. numbered ids ++ l) (key-insert own_cmp (λ k. entry.Own k.0 k.1) (λ k. body.OwnAddress k.0 k.1) (λ x y. refl) own_exact (v, ip) after_owns (before_own ns rs v ip (body.OwnAddress v ip)) owns))

  pub put-neighbor : (r : Rid) (ip : Ip) (mac : Mac) → objects_in ids owns (insert_entry neighbor_cmp ns (r, ip) mac) rs ≡ insert_entry entry_cmp (objects_in ids owns ns rs) (entry.Neigh r ip) (body.Neighbor r ip mac)
  put-neighbor r ip mac =
      sym (insert-past _ (entry.Neigh r ip) (body.Neighbor r ip mac) (λ x. refl) ids after_ids
      ∙ ap (λ l. numbered ids ++ l) (insert-past _ (entry.Neigh r ip) (body.Neighbor r ip mac) (λ x. refl) owns after_owns
      ∙ ap (λ l. owned owns ++ l) (insert-in neighbor_cmp (λ p. entry.Neigh p.0 p.1) (λ p. body.Neighbor p.0 p.1) (λ x y. refl) neighbor_exact (r, ip) mac (routed rs) (before_neighbor rs r ip (body.Neighbor r ip mac)) ns)))

  pub put-route : (v : Option Rid) (p : Prefix) (to : To Rid) → objects_in ids owns ns (insert_entry route_cmp rs (v, p) to) ≡ insert_entry entry_cmp (objects_in ids owns ns rs) (entry.Route v p) (body.Route v p to)
  put-route v p to =
      sym (insert-past _ (entry.Route v p) (body.Route v p to) (λ x. refl) ids after_ids
      ∙ ap (λ l. numbered ids ++ l) (insert-past _ (entry.Route v p) (body.Route v p to) (λ x. refl) owns after_owns
      ∙ ap (λ l. owned owns ++ l) (insert-past _ (entry.Route v p) (body.Route v p to) (λ x. refl) ns (routed rs)
      ∙ ap (λ l. reached ns ++ l) (ap (λ l. insert_entry entry_cmp l (entry.Route v p) (body.Route v p to)) (sym (append-nil (routed rs)))
      ∙ insert-in route_cmp (λ k. entry.Route k.0 k.1) (λ k. body.Route k.0 k.1) (λ x y. refl) route_exact (v, p) to [] refl rs
      ∙ append-nil (routed (insert_entry route_cmp rs (v, p) to))))))

  pub take-id : (r : Rid) → objects_in (remove_entry (is_at (rid_cmp r)) ids) owns ns rs ≡ remove_entry (is_at (entry_cmp (entry.Oid r))) (objects_in ids owns ns rs)
  take-id r =
      sym (remove-in rid_cmp entry.Oid (λ r b. b) (λ x y. refl) rid_exact r after_ids
      (remove-past _ (is_at (entry_cmp (entry.Oid r))) (λ x. refl) owns after_owns
      ∙ ap (λ l. owned owns ++ l) (remove-past _ (is_at (entry_cmp (entry.Oid r))) (λ x. refl) ns (routed rs)
      ∙ ap (λ l. reached ns ++ l) (remove-last _ (is_at (entry_cmp (entry.Oid r))) (λ x. refl) rs)))
      ids)

  pub take-own : (v : Option Rid) (ip : Ip) → objects_in ids (remove_key (is_at (own_cmp (v, ip))) owns) ns rs ≡ remove_entry (is_at (entry_cmp (entry.Own v ip))) (objects_in ids owns ns rs)
  take-own v ip =
      sym (remove-past _ (is_at (entry_cmp (entry.Own v ip))) (λ x. refl) ids after_ids
      ∙ ap (λ l. numbered ids ++ l) (key-remove own_cmp (λ k. entry.Own k.0 k.1) (λ k. body.OwnAddress k.0 k.1) (λ x y. refl) own_exact (v, ip) after_owns
      (remove-past _ (is_at (entry_cmp (entry.Own v ip))) (λ x. refl) ns (routed rs)
      ∙ ap (λ l. reached ns ++ l) (remove-last _ (is_at (entry_cmp (entry.Own v ip))) (λ x. refl) rs))
      owns))

  pub take-neighbor : (r : Rid) (ip : Ip) → objects_in ids owns (remove_entry (is_at (neighbor_cmp (r, ip))) ns) rs ≡ remove_entry (is_at (entry_cmp (entry.Neigh r ip))) (objects_in ids owns ns rs)
  take-neighbor r ip =
      sym (remove-past _ (is_at (entry_cmp (entry.Neigh r ip))) (λ x. refl) ids after_ids
      ∙ ap (λ l. numbered ids ++ l) (remove-past _ (is_at (entry_cmp (entry.Neigh r ip))) (λ x. refl) owns after_owns
      ∙ ap (λ l. owned owns ++ l) (remove-in neighbor_cmp (λ p. entry.Neigh p.0 p.1) (λ p. body.Neighbor p.0 p.1) (λ x y. refl) neighbor_exact (r, ip) (routed rs) (remove-last _ (is_at (entry_cmp (entry.Neigh r ip))) (λ x. refl) rs) ns)))

  pub take-route : (v : Option Rid) (p : Prefix) → objects_in ids owns ns (remove_entry (is_at (route_cmp (v, p))) rs) ≡ remove_entry (is_at (entry_cmp (entry.Route v p))) (objects_in ids owns ns rs)
  take-route v p =
      sym (remove-past _ (is_at (entry_cmp (entry.Route v p))) (λ x. refl) ids after_ids
      ∙ ap (λ l. numbered ids ++ l) (remove-past _ (is_at (entry_cmp (entry.Route v p))) (λ x. refl) owns after_owns
      ∙ ap (λ l. owned owns ++ l) (remove-past _ (is_at (entry_cmp (entry.Route v p))) (λ x. refl) ns (routed rs)
      ∙ ap (λ l. reached ns ++ l) (ap (remove_entry (is_at (entry_cmp (entry.Route v p)))) (sym (append-nil (routed rs)))
      ∙ remove-in route_cmp (λ k. entry.Route k.0 k.1) (λ k. body.Route k.0 k.1) (λ x y. refl) route_exact (v, p) [] refl rs
      ∙ append-nil (routed (remove_entry (is_at (route_cmp (v, p))) rs))))))

module _ (ids : List (Rid × Body Rid)) (owns : List OwnKey) (ns : List ((Rid × Ip) × Mac)) (rs : List (RouteKey × To Rid)) (sorted : AreSorted (objects_in ids owns ns rs)) where
  abbrev held : Objects
  held = objects_in ids owns ns rs

  set_id : (r : Rid) (a : Attr Rid) (o : Option (Body Rid)) → lookup (is_at (rid_cmp r)) ids ≡ o → objects_in (id_found ids r a o) owns ns rs ≡ after_set held (entry.Oid r) a o
  set_id r a None there = refl
  set_id r a (Some b) there =
      sym (insert-found entry_cmp entry_total (entry.Oid r) (with_attr b a) b held sorted (at-id ids owns ns rs r ∙ there)
      ∙ set-in rid_cmp entry.Oid (λ r b. b) (λ x y. refl) rid_exact r (with_attr b a) b (owned owns ++ (reached ns ++ routed rs)) ids there)

  pub set-id : (r : Rid) (a : Attr Rid) → objects_in (ids_set ids r a) owns ns rs ≡ after_set held (entry.Oid r) a (body_at held (entry.Oid r))
  set-id r a = set_id r a (lookup (is_at (rid_cmp r)) ids) refl ∙ ap (after_set held (entry.Oid r) a) (sym (at-id ids owns ns rs r))

  own_lacks : (v : Option Rid) (ip : Ip) (a : Attr Rid) (t : Bool) (b : Body Rid) → cond t (Some (body.OwnAddress v ip)) None ≡ Some b → with_attr b a ≡ b
  own_lacks v ip a true b h = let same : b ≡ body.OwnAddress v ip = cc in ap (λ x. with_attr x a) same ∙ sym same
  own_lacks v ip a false b h = absurd cc

  pub set-own : (v : Option Rid) (ip : Ip) (a : Attr Rid) → held ≡ after_set held (entry.Own v ip) a (body_at held (entry.Own v ip))
  set-own v ip a = sym (set-lacking held (entry.Own v ip) a (body_at held (entry.Own v ip)) sorted refl (λ b there. own_lacks v ip a _ b (sym (at-own ids owns ns rs v ip) ∙ there)))

  set_mac : (r : Rid) (ip : Ip) (mac : Mac) (o : Option Mac) → lookup (is_at (neighbor_cmp (r, ip))) ns ≡ o → objects_in ids owns (value_found (is_at (neighbor_cmp (r, ip))) ns mac o) rs ≡ after_set held (entry.Neigh r ip) (attr.Mac mac) (option_map (body.Neighbor r ip) o)
  set_mac r ip mac None there = refl
  set_mac r ip mac (Some m) there =
      sym (insert-found entry_cmp entry_total (entry.Neigh r ip) (body.Neighbor r ip mac) (body.Neighbor r ip m) held sorted (at-neighbor ids owns ns rs r ip ∙ ap (option_map (body.Neighbor r ip)) there)
      ∙ set-past _ (is_at (entry_cmp (entry.Neigh r ip))) (body.Neighbor r ip mac) (λ x. refl) ids (owned owns ++ (reached ns ++ routed rs))
      ∙ ap (λ l. numbered ids ++ l) (set-past _ (is_at (entry_cmp (entry.Neigh r ip))) (body.Neighbor r ip mac) (λ x. refl) owns (reached ns ++ routed rs)
      ∙ ap (λ l. owned owns ++ l) (set-in neighbor_cmp (λ p. entry.Neigh p.0 p.1) (λ p. body.Neighbor p.0 p.1) (λ x y. refl) neighbor_exact (r, ip) mac m (routed rs) ns there)))

  neighbor_lacks : (r : Rid) (ip : Ip) (a : Attr Rid) (o : Option Mac) (b : Body Rid) → ((m : Mac) → with_attr (body.Neighbor r ip m) a ≡ body.Neighbor r ip m) → option_map (body.Neighbor r ip) o ≡ Some b → with_attr b a ≡ b
  neighbor_lacks r ip a None b lacks h = absurd cc
  neighbor_lacks r ip a (Some m) b lacks h = let same : b ≡ body.Neighbor r ip m = cc in ap (λ x. with_attr x a) same ∙ lacks m ∙ sym same

  mac_lacking : (r : Rid) (ip : Ip) (a : Attr Rid) → ((m : Mac) → with_attr (body.Neighbor r ip m) a ≡ body.Neighbor r ip m) → held ≡ after_set held (entry.Neigh r ip) a (body_at held (entry.Neigh r ip))
  mac_lacking r ip a lacks = sym (set-lacking held (entry.Neigh r ip) a (body_at held (entry.Neigh r ip)) sorted refl (λ b there. neighbor_lacks r ip a _ b lacks (sym (at-neighbor ids owns ns rs r ip) ∙ there)))

  pub set-mac : (r : Rid) (ip : Ip) (a : Attr Rid) → objects_in ids owns (macs_set ns (r, ip) a) rs ≡ after_set held (entry.Neigh r ip) a (body_at held (entry.Neigh r ip))
  set-mac r ip (attr.Mac mac) = set_mac r ip mac (lookup (is_at (neighbor_cmp (r, ip))) ns) refl ∙ ap (after_set held (entry.Neigh r ip) (attr.Mac mac)) (sym (at-neighbor ids owns ns rs r ip))
  set-mac r ip (attr.Speed s) = mac_lacking r ip (attr.Speed s) (λ m. refl)
  set-mac r ip (attr.Mtu s) = mac_lacking r ip (attr.Mtu s) (λ m. refl)
  set-mac r ip (attr.Up u) = mac_lacking r ip (attr.Up u) (λ m. refl)
  set-mac r ip (attr.Tagging t) = mac_lacking r ip (attr.Tagging t) (λ m. refl)
  set-mac r ip (attr.To t) = mac_lacking r ip (attr.To t) (λ m. refl)

  set_target : (v : Option Rid) (p : Prefix) (to : To Rid) (o : Option (To Rid)) → lookup (is_at (route_cmp (v, p))) rs ≡ o → objects_in ids owns ns (value_found (is_at (route_cmp (v, p))) rs to o) ≡ after_set held (entry.Route v p) (attr.To to) (option_map (body.Route v p) o)
  set_target v p to None there = refl
  set_target v p to (Some t) there =
      sym (insert-found entry_cmp entry_total (entry.Route v p) (body.Route v p to) (body.Route v p t) held sorted (at-route ids owns ns rs v p ∙ ap (option_map (body.Route v p)) there)
      ∙ set-past _ (is_at (entry_cmp (entry.Route v p))) (body.Route v p to) (λ x. refl) ids (owned owns ++ (reached ns ++ routed rs))
      ∙ ap (λ l. numbered ids ++ l) (set-past _ (is_at (entry_cmp (entry.Route v p))) (body.Route v p to) (λ x. refl) owns (reached ns ++ routed rs)
      ∙ ap (λ l. owned owns ++ l) (set-past _ (is_at (entry_cmp (entry.Route v p))) (body.Route v p to) (λ x. refl) ns (routed rs)
      ∙ ap (λ l. reached ns ++ l) (ap (λ l. set_value (is_at (entry_cmp (entry.Route v p))) l (body.Route v p to)) (sym (append-nil (routed rs)))
      ∙ set-in route_cmp (λ k. entry.Route k.0 k.1) (λ k. body.Route k.0 k.1) (λ x y. refl) route_exact (v, p) to t [] rs there
      ∙ append-nil (routed (set_value (is_at (route_cmp (v, p))) rs to))))))

  route_lacks : (v : Option Rid) (p : Prefix) (a : Attr Rid) (o : Option (To Rid)) (b : Body Rid) → ((t : To Rid) → with_attr (body.Route v p t) a ≡ body.Route v p t) → option_map (body.Route v p) o ≡ Some b → with_attr b a ≡ b
  route_lacks v p a None b lacks h = absurd cc
  route_lacks v p a (Some t) b lacks h = let same : b ≡ body.Route v p t = cc in ap (λ x. with_attr x a) same ∙ lacks t ∙ sym same

  target_lacking : (v : Option Rid) (p : Prefix) (a : Attr Rid) → ((t : To Rid) → with_attr (body.Route v p t) a ≡ body.Route v p t) → held ≡ after_set held (entry.Route v p) a (body_at held (entry.Route v p))
  target_lacking v p a lacks = sym (set-lacking held (entry.Route v p) a (body_at held (entry.Route v p)) sorted refl (λ b there. route_lacks v p a _ b lacks (sym (at-route ids owns ns rs v p) ∙ there)))

  pub set-target : (v : Option Rid) (p : Prefix) (a : Attr Rid) → objects_in ids owns ns (targets_set rs (v, p) a) ≡ after_set held (entry.Route v p) a (body_at held (entry.Route v p))
  set-target v p (attr.To to) = set_target v p to (lookup (is_at (route_cmp (v, p))) rs) refl ∙ ap (after_set held (entry.Route v p) (attr.To to)) (sym (at-route ids owns ns rs v p))
  set-target v p (attr.Speed s) = target_lacking v p (attr.Speed s) (λ t. refl)
  set-target v p (attr.Mtu s) = target_lacking v p (attr.Mtu s) (λ t. refl)
  set-target v p (attr.Up u) = target_lacking v p (attr.Up u) (λ t. refl)
  set-target v p (attr.Tagging t) = target_lacking v p (attr.Tagging t) (λ t. refl)
  set-target v p (attr.Mac m) = target_lacking v p (attr.Mac m) (λ t. refl)

all_step : (e : Rid × Body Rid) (es : List (Rid × Body Rid)) (r : Rid) (b : Body Rid) (o : Ordering) → has_id b ≡ true → HaveIdKinds (e ∷ es) → HaveIdKinds (insert_entry rid_cmp es r b) → HaveIdKinds (match_ordering o ((r, b) ∷ e ∷ es) ((e.0, b) ∷ es) (e ∷ insert_entry rid_cmp es r b))
all_step e es r b Less here all others = (here, all)
all_step e es r b Equal here all others = (here, all.1)
all_step e es r b Greater here all others = (all.0, others)

pub ids-put : (ids : List (Rid × Body Rid)) (r : Rid) (b : Body Rid) → has_id b ≡ true → HaveIdKinds ids → HaveIdKinds (insert_entry rid_cmp ids r b)
ids-put [] r b here all = (here, tt)
ids-put (e ∷ es) r b here all = all_step e es r b (rid_cmp r e.0) here all (ids-put es r b here all.1)

removed_step : (t : Bool) (e : Rid × Body Rid) (es ds : List (Rid × Body Rid)) → HaveIdKinds (e ∷ es) → HaveIdKinds ds → HaveIdKinds (cond t es (e ∷ ds))
removed_step true e es ds all others = all.1
removed_step false e es ds all others = (all.0, others)

pub ids-take : (ids : List (Rid × Body Rid)) (r : Rid) → HaveIdKinds ids → HaveIdKinds (remove_entry (is_at (rid_cmp r)) ids)
ids-take [] r all = tt
ids-take (e ∷ es) r all = removed_step (is_at (rid_cmp r) e.0) e es (remove_entry (is_at (rid_cmp r)) es) all (ids-take es r all.1)

has_id-with_attr : (b : Body Rid) (a : Attr Rid) → has_id (with_attr b a) ≡ has_id b
has_id-with_attr (body.Port lanes speed mtu up) (attr.Speed s) = refl
has_id-with_attr (body.Port lanes speed mtu up) (attr.Mtu m) = refl
has_id-with_attr (body.Port lanes speed mtu up) (attr.Up u) = refl
has_id-with_attr (body.VlanMember vlan bridge_port tagging) (attr.Tagging t) = refl
has_id-with_attr (body.Neighbor rif ip mac) (attr.Mac m) = refl
has_id-with_attr (body.Route vr prefix to) (attr.To t) = refl
has_id-with_attr b a = refl

value_step : (t : Bool) (e : Rid × Body Rid) (es ds : List (Rid × Body Rid)) (w : Body Rid) → has_id w ≡ true → HaveIdKinds (e ∷ es) → HaveIdKinds ds → HaveIdKinds (cond t ((e.0, w) ∷ es) (e ∷ ds))
value_step true e es ds w here all others = (here, all.1)
value_step false e es ds w here all others = (all.0, others)

ids_value : (ids : List (Rid × Body Rid)) (r : Rid) (w : Body Rid) → has_id w ≡ true → HaveIdKinds ids → HaveIdKinds (set_value (is_at (rid_cmp r)) ids w)
ids_value [] r w here all = tt
ids_value (e ∷ es) r w here all = value_step (is_at (rid_cmp r) e.0) e es _ w here all (ids_value es r w here all.1)

found_id : (t : Bool) (e : Rid × Body Rid) (o : Option (Body Rid)) (b : Body Rid) → has_id e.1 ≡ true → (o ≡ Some b → has_id b ≡ true) → cond t (Some e.1) o ≡ Some b → has_id b ≡ true
found_id true e o b here others there = let same : e.1 ≡ b = cc in ap has_id (sym same) ∙ here
found_id false e o b here others there = others there

id_of_found : (ids : List (Rid × Body Rid)) (r : Rid) (b : Body Rid) → HaveIdKinds ids → lookup (is_at (rid_cmp r)) ids ≡ Some b → has_id b ≡ true
id_of_found [] r b all there = absurd cc
id_of_found (e ∷ es) r b all there = found_id (is_at (rid_cmp r) e.0) e (lookup (is_at (rid_cmp r)) es) b all.0 (id_of_found es r b all.1) there

ids_found : (ids : List (Rid × Body Rid)) (r : Rid) (a : Attr Rid) (o : Option (Body Rid)) → HaveIdKinds ids → lookup (is_at (rid_cmp r)) ids ≡ o → HaveIdKinds (id_found ids r a o)
ids_found ids r a None all there = all
ids_found ids r a (Some b) all there = ids_value ids r (with_attr b a) (has_id-with_attr b a ∙ id_of_found ids r b all there) all

pub ids-set : (ids : List (Rid × Body Rid)) (r : Rid) (a : Attr Rid) → HaveIdKinds ids → HaveIdKinds (ids_set ids r a)
ids-set ids r a all = ids_found ids r a (lookup (is_at (rid_cmp r)) ids) all refl

pub target_mapped : (v : Option Rid) (p : Prefix) (o : Option (To Rid)) → target_of (option_map (body.Route v p) o) ≡ o
target_mapped v p None = refl
target_mapped v p (Some to) = refl

id_target : (b : Body Rid) → has_id b ≡ true → None ≡ target_of (Some b)
id_target (body.Route v p to) h = absurd cc
id_target b h = refl

ids_target : (ids : List (Rid × Body Rid)) (r : Rid) (o : Option (Body Rid)) → HaveIdKinds ids → lookup (is_at (rid_cmp r)) ids ≡ o → None ≡ target_of o
ids_target ids r None all there = refl
ids_target ids r (Some b) all there = id_target b (id_of_found ids r b all there)

own_target : (v : Option Rid) (ip : Ip) (t : Bool) → None ≡ target_of (cond t (Some (body.OwnAddress v ip)) None)
own_target v ip true = refl
own_target v ip false = refl

neighbor_target : (r : Rid) (ip : Ip) (o : Option Mac) → None ≡ target_of (option_map (body.Neighbor r ip) o)
neighbor_target r ip None = refl
neighbor_target r ip (Some m) = refl

-- an object that is no route has no target
pub no_target : (ids : List (Rid × Body Rid)) (owns : List OwnKey) (ns : List ((Rid × Ip) × Mac)) (rs : List (RouteKey × To Rid)) → HaveIdKinds ids → (e : Entry Rid) → ((v : Option Rid) (p : Prefix) → e ≡ entry.Route v p → ⊥) → None ≡ target_of (body_at (objects_in ids owns ns rs) e)
no_target ids owns ns rs all (entry.Oid r) other = ids_target ids r _ all refl ∙ ap target_of (sym (at-id ids owns ns rs r))
no_target ids owns ns rs all (entry.Own v ip) other = own_target v ip _ ∙ ap target_of (sym (at-own ids owns ns rs v ip))
no_target ids owns ns rs all (entry.Neigh r ip) other = neighbor_target r ip _ ∙ ap target_of (sym (at-neighbor ids owns ns rs r ip))
no_target ids owns ns rs all (entry.Route v p) other = absurd (other v p refl)
