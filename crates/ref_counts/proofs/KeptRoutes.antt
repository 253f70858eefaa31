-- the places of the keys before the routes, and those of the routes: what is found, set, put and removed, and the least user
use Rattle.std.proofs.Common.{◌≡◌, Bool, true, false, not, ◌||◌, cond, List, [], ◌∷◌, ◌++◌, None, Some, refl, sym, ap, ◌∙◌, arith}
use Rattle.std.specs.BTreeMap.{insert_entry, is_at}
use Rattle.std.specs.List.{AllByRecursion}
use Rattle.std.specs.List.Sorted.{IsStrictlySortedBy}
use Rattle.std.specs.Map.{keys_of, lookup, remove_entry, set_value}
use Rattle.std.specs.declared.cmp.Ordering.TheVariants.{Less, Greater}
use Rattle.std.proofs.lemmas.Option.{none-some}
use Rattle.swss_types.specs.declared.address.Prefix.{Prefix}
use Rattle.swss_types.specs.declared.vrf.Vrf.{Vrf}
use Rattle.table_schema.specs.Fields.{HasRisingKeys}
use Rattle.table_schema.specs.Key.{key_cmp}
use Rattle.table_schema.specs.declared.key.Key.{Key}
use Rattle.table_schema.specs.declared.key.Key.TheVariants as key
use Rattle.table_schema.proofs.Places.{HasRisingKeys-from_sorted}
use Rattle.ref_counts.specs.declared.name.Name.TheVariants as name
use Rattle.ref_counts.specs.declared.pin.Pin.{Pin}
use Rattle.ref_counts.specs.declared.places.Places.TheInside.{Inside}
use Rattle.ref_counts.specs.Kept.{AreReadable, ComesBeforeRoutes, Kept, is_pinned, marked_in, settled, users_in, with_routes}
use Rattle.ref_counts.specs.declared.destination.Destination.{Destination}
use Rattle.ref_counts.specs.Destinations.{destination_cmp}
use Rattle.ref_counts.specs.Parted.{route_key, route_name}
use Rattle.late_maps.specs.Segments.{renamed}
use Rattle.ref_counts.specs.Registered.{IsReadable, first_of}
use Rattle.ref_counts.proofs.Partings.{row_below, turned}
use Rattle.late_maps.proofs.Segments.{AllAbove, AllApart, AllBelow, StandsIn, StandsIn-above, StandsIn-below, StandsIn-itself, StandsIn-renamed, all-kept, all-named, lookup-before, remove-before, set-before, sorted-all_names, sorted-renamed}

abbrev pub IsNoRoute : Key → Type 0
IsNoRoute k = (v : Vrf) (p : Prefix) → k ≡ key.Route v p → ⊥

-- a readable key that is no route comes before the routes
pub readable_before : (k : Key) → IsNoRoute k → IsReadable k → ComesBeforeRoutes k
readable_before (key.Route v p) out is = absurd (out v p refl)
readable_before (key.Other text) out is = absurd is
readable_before k out is = omega arith

before_readable : (k : Key) → ComesBeforeRoutes k → IsReadable k
before_readable (key.Other text) lt = absurd (omega arith)
before_readable k lt = tt

no_route_apart : (k : Key) (d : Destination) → IsNoRoute k → is_at (key_cmp k) (route_key d) ≡ false
no_route_apart (key.Route v p) d out = absurd (out v p refl)
no_route_apart k d out = refl

routes_same : (d e : Destination) → key_cmp (route_key d) (route_key e) ≡ destination_cmp d e
routes_same d e = refl

module _ (p : Inside) (h : AllByRecursion ComesBeforeRoutes (keys_of p.rows)) where
  abbrev the_rows : Kept
  the_rows = p.rows

  abbrev the_routes : Kept
  the_routes = renamed route_key p.routes

  routes_above : (k : Key) → ComesBeforeRoutes k → AllAbove key_cmp k the_routes
  routes_above k lt = all-named (λ q. key_cmp k q ≡ Less) route_key (λ d. row_below k (route_name d) lt) p.routes

  rows_below : (d : Destination) → AllBelow key_cmp (route_key d) the_rows
  rows_below d = all-kept (λ q. key_cmp (route_key d) q ≡ Greater) ComesBeforeRoutes (λ q lt. turned (name.Row q) (route_name d) (row_below q (route_name d) lt)) the_rows h

  routes_apart : (k : Key) → IsNoRoute k → AllApart key_cmp k the_routes
  routes_apart k out = all-named (λ q. is_at (key_cmp k) q ≡ false) route_key (λ d. no_route_apart k d out) p.routes

  -- a route stands among all keys
  pub route-stands : (d : Destination) → StandsIn destination_cmp d key_cmp (route_key d) p.routes (with_routes the_rows)
  route-stands d = StandsIn-below (StandsIn-renamed destination_cmp key_cmp route_key routes_same d p.routes) the_rows (rows_below d)

  -- and so does any other key
  module _ (k : Key) (out : IsNoRoute k) where
    pub row-found : lookup (is_at (key_cmp k)) the_rows ≡ lookup (is_at (key_cmp k)) (with_routes the_rows p.routes)
    row-found = sym (lookup-before key_cmp k the_rows the_routes (routes_apart k out))

    pub row-set : (new : Kept) (v : Bool) → new ≡ set_value (is_at (key_cmp k)) the_rows v → with_routes new p.routes ≡ set_value (is_at (key_cmp k)) (with_routes the_rows p.routes) v
    row-set new v is = ap (λ l. with_routes l p.routes) is ∙ sym (set-before key_cmp k the_rows the_routes v (routes_apart k out))

    pub row-removed : (new : Kept) → new ≡ remove_entry (is_at (key_cmp k)) the_rows → with_routes new p.routes ≡ remove_entry (is_at (key_cmp k)) (with_routes the_rows p.routes)
    row-removed new is = ap (λ l. with_routes l p.routes) is ∙ sym (remove-before key_cmp k the_rows the_routes (routes_apart k out))

    pub row-put : (new : Kept) (v : Bool) → IsReadable k → new ≡ insert_entry key_cmp the_rows k v → with_routes new p.routes ≡ insert_entry key_cmp (with_routes the_rows p.routes) k v
    row-put new v is = (StandsIn-above (StandsIn-itself key_cmp k the_rows) the_routes (routes_above k (readable_before k out is))).put new v

  pub rows-readable : AreReadable the_rows
  rows-readable = all-kept IsReadable ComesBeforeRoutes before_readable the_rows h

  -- keys in order
  pub kept-rising : IsStrictlySortedBy key_cmp (keys_of the_rows) → IsStrictlySortedBy destination_cmp (keys_of p.routes) → HasRisingKeys key_cmp (with_routes the_rows p.routes)
  kept-rising sorted routes_sorted =
      let above = all-kept (λ k. AllAbove key_cmp k the_routes) ComesBeforeRoutes routes_above the_rows h in
      HasRisingKeys-from_sorted key_cmp (with_routes the_rows p.routes) (sorted-all_names key_cmp the_rows the_routes sorted (sorted-renamed destination_cmp key_cmp route_key routes_same p.routes routes_sorted) above)

-- the users of entries are those of the first, and then those of the others
marked_both : (xs ys : Kept) → marked_in (xs ++ ys) ≡ marked_in xs ++ marked_in ys
marked_both [] ys = refl
marked_both (x ∷ xs) ys =
    let rest = marked_both xs ys in
    elim x.1 as (λ b. cond b (x.0 ∷ marked_in (xs ++ ys)) (marked_in (xs ++ ys)) ≡ cond b (x.0 ∷ marked_in xs) (marked_in xs) ++ marked_in ys) [ true ↦ ap (λ l. x.0 ∷ l) rest | false ↦ rest ]

settled_both : (f : Key → Bool) (xs ys : Kept) → settled f (xs ++ ys) ≡ settled f xs ++ settled f ys
settled_both f [] ys = refl
settled_both f (x ∷ xs) ys = ap (λ l. (x.0, x.1 || not (f x.0)) ∷ l) (settled_both f xs ys)

users_both : (xs ys : Kept) (ps : List Pin) → users_in (xs ++ ys) ps ≡ users_in xs ps ++ users_in ys ps
users_both xs ys ps = ap marked_in (settled_both (is_pinned ps) xs ys) ∙ marked_both (settled (is_pinned ps) xs) (settled (is_pinned ps) ys)

first_before : (k : Key) (xs ys : List Key) → Some k ≡ first_of xs → Some k ≡ first_of (xs ++ ys)
first_before k [] ys is = absurd (none-some k (sym is))
first_before k (x ∷ xs) ys is = is

first_behind : (xs ys : List Key) → None ≡ first_of xs → first_of ys ≡ first_of (xs ++ ys)
first_behind [] ys none = refl
first_behind (x ∷ xs) ys none = absurd (none-some x none)

-- the least user is one of the first, and else one of the others
pub least-before : (k : Key) (xs ys : Kept) (ps : List Pin) → Some k ≡ first_of (users_in xs ps) → Some k ≡ first_of (users_in (xs ++ ys) ps)
least-before k xs ys ps is = rw (users_both xs ys ps) (first_before k (users_in xs ps) (users_in ys ps) is)

pub least-behind : (xs ys : Kept) (ps : List Pin) → None ≡ first_of (users_in xs ps) → first_of (users_in ys ps) ≡ first_of (users_in (xs ++ ys) ps)
least-behind xs ys ps none = rw (users_both xs ys ps) (first_behind (users_in xs ps) (users_in ys ps) none)
