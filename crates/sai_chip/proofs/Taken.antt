-- which natural keys are taken among objects without identifiers: those by which they are found
use Rattle.std.proofs.Common.{◌≡◌, Bool, true, false, cond, ◌||◌, List, [], ◌∷◌, ◌++◌, map, Option, Some, refl, sym, ap, ◌∙◌, rules}
use Rattle.std.specs.BTreeMap.{is_at}
use Rattle.std.specs.Cmp.{both_tied}
use Rattle.std.specs.List.{AllByRecursion, list_any}
use Rattle.std.specs.Map.{lookup}
use Rattle.std.specs.Option.{is_some}
use Rattle.std.proofs.lemmas.List.{append-nil}
use Rattle.swss_types.specs.declared.address.Ip.{Ip}
use Rattle.swss_types.specs.declared.address.Mac.{Mac}
use Rattle.swss_types.specs.declared.address.Prefix.{Prefix}
use Rattle.swss_types.specs.contracts.address.IpOrd.TheImpl.Laws as ordered_ip
use Rattle.swss_types.specs.contracts.address.PrefixOrd.TheImpl.Laws as ordered_prefix
use Rattle.sai_types.specs.declared.ids.Rid.{Rid}
use Rattle.sai_types.specs.declared.body.Body.{Body}
use Rattle.sai_types.specs.declared.body.Body.TheVariants as body
use Rattle.sai_types.specs.declared.body.Entry.{Entry}
use Rattle.sai_types.specs.declared.body.Entry.TheVariants as entry
use Rattle.sai_types.specs.declared.body.To.{To}
use Rattle.sai_types.specs.After.{has_id}
use Rattle.sai_types.specs.Objects.{Objects}
use Rattle.sai_types.specs.Refusal.{clash, same_id, same_ip, same_prefix, same_router}
use Rattle.sai_types.proofs.Exact.{routers-tied}
use Rattle.chip_names.specs.Naming.{numbered, rid_cmp}
use Rattle.sai_chip.specs.Tally.{neighbor_cmp}
use Rattle.sai_chip.specs.Bodies.{OwnKey, RouteKey, own_cmp, owned, reached, route_cmp, routed, objects_in}

-- a part of which no body passes a test
any-past : {X : Type 0} (f : X → Entry Rid × Body Rid) (p : Body Rid → Bool) → ((x : X) → p (f x).1 ≡ false) → (xs : List X) (rest : Objects) → list_any (λ o. p o.1) (map f xs ++ rest) ≡ list_any (λ o. p o.1) rest
any-past f p none [] rest = refl
any-past f p none (x ∷ xs) rest = rw (none x) (any-past f p none xs rest)

any-ids : (p : Body Rid → Bool) → ((b : Body Rid) → has_id b ≡ true → p b ≡ false) → (ids : List (Rid × Body Rid)) (rest : Objects) → AllByRecursion (λ e. has_id e.1 ≡ true) ids → list_any (λ o. p o.1) (numbered ids ++ rest) ≡ list_any (λ o. p o.1) rest
any-ids p none [] rest all = refl
any-ids p none (e ∷ es) rest all = rw (none e.1 all.0) (any-ids p none es rest all.1)

-- a part whose bodies pass where what they are made of passes another test
any-in : {X : Type 0} (f : X → Entry Rid × Body Rid) (p : Body Rid → Bool) (q : X → Bool) → ((x : X) → p (f x).1 ≡ q x) → (rest : Objects) → list_any (λ o. p o.1) rest ≡ false → (xs : List X) → list_any (λ o. p o.1) (map f xs ++ rest) ≡ list_any q xs
any-in f p q same rest none [] = none
any-in f p q same rest none (x ∷ xs) = let one = same x in let others = any-in f p q same rest none xs in cc

is_some_step : {X : Type 0} (t : Bool) (v : X) (o : Option X) (b : Bool) → b ≡ is_some o → (t || b) ≡ is_some (cond t (Some v) o)
is_some_step true v o b h = refl
is_some_step false v o b h = h

any-keys : {K X : Type 0} (p : K → Bool) (es : List (K × X)) → list_any (λ e. p e.0) es ≡ is_some (lookup p es)
any-keys p [] = refl
any-keys p (e ∷ es) = is_some_step (p e.0) e.1 (lookup p es) (list_any (λ e. p e.0) es) (any-keys p es)

-- the last part
any-last : {X : Type 0} (f : X → Entry Rid × Body Rid) (p : Body Rid → Bool) (q : X → Bool) → ((x : X) → p (f x).1 ≡ q x) → (xs : List X) → list_any (λ o. p o.1) (map f xs) ≡ list_any q xs
any-last f p q same xs = ap (list_any (λ o. p o.1)) (sym (append-nil (map f xs))) ∙ any-in f p q same [] refl xs

any-none : {X : Type 0} (f : X → Entry Rid × Body Rid) (p : Body Rid → Bool) → ((x : X) → p (f x).1 ≡ false) → (xs : List X) → list_any (λ o. p o.1) (map f xs) ≡ false
any-none f p none xs = ap (list_any (λ o. p o.1)) (sym (append-nil (map f xs))) ∙ any-past f p none xs []

id_tied : (r s : Rid) → same_id r s ≡ is_at (rid_cmp r) s
id_tied r s = search rules

module _ (ids : List (Rid × Body Rid)) (owns : List OwnKey) (neighbors : List ((Rid × Ip) × Mac)) (routes : List (RouteKey × To Rid)) (all : AllByRecursion (λ e. has_id e.1 ≡ true) ids) where
  id_no_own : (v : Option Rid) (ip : Ip) (b : Body Rid) → has_id b ≡ true → clash (body.OwnAddress v ip) b ≡ false
  id_no_own v ip (body.OwnAddress w other) h = absurd cc
  id_no_own v ip b h = refl

  id_no_neighbor : (r : Rid) (ip : Ip) (mac : Mac) (b : Body Rid) → has_id b ≡ true → clash (body.Neighbor r ip mac) b ≡ false
  id_no_neighbor r ip mac (body.Neighbor s other mac') h = absurd cc
  id_no_neighbor r ip mac b h = refl

  id_no_route : (v : Option Rid) (prefix : Prefix) (to : To Rid) (b : Body Rid) → has_id b ≡ true → clash (body.Route v prefix to) b ≡ false
  id_no_route v prefix to (body.Route w other to') h = absurd cc
  id_no_route v prefix to b h = refl

  pub own-taken : (v : Option Rid) (ip : Ip) → list_any (is_at (own_cmp (v, ip))) owns ≡ list_any (λ o. clash (body.OwnAddress v ip) o.1) (objects_in ids owns neighbors routes)
  own-taken v ip =
      sym (any-in (λ k. (entry.Own k.0 k.1, body.OwnAddress k.0 k.1)) (clash (body.OwnAddress v ip)) (is_at (own_cmp (v, ip))) (λ x. both_tied (same_router v x.0) (same_ip ip x.1) _ _ (routers-tied v x.0) (ordered_ip.matches_eq-law ip x.1)) (reached neighbors ++ routed routes)
      (any-past _ (clash (body.OwnAddress v ip)) (λ x. refl) neighbors (routed routes) ∙ any-none _ (clash (body.OwnAddress v ip)) (λ x. refl) routes) owns)
      ∙ sym (any-ids (clash (body.OwnAddress v ip)) (id_no_own v ip) ids (owned owns ++ (reached neighbors ++ routed routes)) all)

  pub neighbor-taken : (r : Rid) (ip : Ip) (mac : Mac) → is_some (lookup (is_at (neighbor_cmp (r, ip))) neighbors) ≡ list_any (λ o. clash (body.Neighbor r ip mac) o.1) (objects_in ids owns neighbors routes)
  neighbor-taken r ip mac =
      sym (any-keys (is_at (neighbor_cmp (r, ip))) neighbors)
      ∙ sym (any-in (λ e. (entry.Neigh e.0.0 e.0.1, body.Neighbor e.0.0 e.0.1 e.1)) (clash (body.Neighbor r ip mac)) (λ e. is_at (neighbor_cmp (r, ip)) e.0) (λ x. both_tied (same_id r x.0.0) (same_ip ip x.0.1) _ _ (id_tied r x.0.0) (ordered_ip.matches_eq-law ip x.0.1)) (routed routes) (any-none _ (clash (body.Neighbor r ip mac)) (λ x. refl) routes) neighbors)
      ∙ sym (any-past _ (clash (body.Neighbor r ip mac)) (λ x. refl) owns (reached neighbors ++ routed routes))
      ∙ sym (any-ids (clash (body.Neighbor r ip mac)) (id_no_neighbor r ip mac) ids (owned owns ++ (reached neighbors ++ routed routes)) all)

  pub route-taken : (v : Option Rid) (prefix : Prefix) (to : To Rid) → is_some (lookup (is_at (route_cmp (v, prefix))) routes) ≡ list_any (λ o. clash (body.Route v prefix to) o.1) (objects_in ids owns neighbors routes)
  route-taken v prefix to =
      sym (any-keys (is_at (route_cmp (v, prefix))) routes)
      ∙ sym (any-last (λ e. (entry.Route e.0.0 e.0.1, body.Route e.0.0 e.0.1 e.1)) (clash (body.Route v prefix to)) (λ e. is_at (route_cmp (v, prefix)) e.0) (λ x. both_tied (same_router v x.0.0) (same_prefix prefix x.0.1) _ _ (routers-tied v x.0.0) (ordered_prefix.matches_eq-law prefix x.0.1)) routes)
      ∙ sym (any-past _ (clash (body.Route v prefix to)) (λ x. refl) neighbors (routed routes))
      ∙ sym (any-past _ (clash (body.Route v prefix to)) (λ x. refl) owns (reached neighbors ++ routed routes))
      ∙ sym (any-ids (clash (body.Route v prefix to)) (id_no_route v prefix to) ids (owned owns ++ (reached neighbors ++ routed routes)) all)
