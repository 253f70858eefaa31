-- ready rows, level by level
use Rattle.std.proofs.Common.{◌≡◌, ℕ, zero, suc, ◌<◌, ◌≤◌, true, ◌&&◌, if◌then◌else◌, List, [], ◌∷◌, ◌++◌, map, Option, None, Some, refl, ap, ◌∙◌, subst, arith}
use Rattle.std.proofs.lemmas.Bool.{and_from, and_parts}
use Rattle.std.specs.Option.{is_some}
use Rattle.std.proofs.lemmas.Option.{cond_some}
use Rattle.swss_types.specs.declared.interface.IfName.{IfName}
use Rattle.swss_types.specs.declared.interface.IfName.TheVariants as name
use Rattle.swss_types.specs.declared.vrf.Vrf.{Vrf}
use Rattle.swss_types.specs.declared.vrf.Vrf.TheVariants as vrf
use Rattle.table_schema.specs.Names.{names_of, base_names, route_names, names_of_route, router_names}
use Rattle.table_schema.specs.declared.key.Key.{Key}
use Rattle.table_schema.specs.declared.key.Key.TheVariants as key
use Rattle.table_schema.specs.declared.row.Row.{Row}
use Rattle.table_schema.specs.declared.row.Row.TheVariants as row
use Rattle.table_schema.specs.declared.row.RouteRow.{RouteRow}
use Rattle.table_schema.specs.declared.row.RouteRow.TheVariants as route
use Rattle.table_schema.specs.declared.row_hop.RowHop.{RowHop}
use Rattle.switch_model.specs.Desired.{IsClosed, have_rows, where_named, ready_below, ready_rows}
use Rattle.switch_model.specs.Good.{TypedRows}
use Rattle.switch_model.specs.Levels.{level_of}
use Rattle.switch_model.specs.Marks.{first_missing}

some_up : (o p : Option Row) → ((r : Row) → o ≡ Some r → p ≡ Some r) → is_some o ≡ true → is_some p ≡ true
some_up None p up h = cc
some_up (Some r) p up h = rw (up r refl) refl

-- more rows have the rows of fewer
have_rows-more : (f g : TypedRows) → ((k : Key) (r : Row) → f k ≡ Some r → g k ≡ Some r) → (keys : List Key) → have_rows f keys ≡ true → have_rows g keys ≡ true
have_rows-more f g up [] h = refl
have_rows-more f g up (k ∷ ks) h =
    let parts = and_parts (is_some (f k)) (have_rows f ks) h in
    and_from (is_some (g k)) (have_rows g ks) (some_up (f k) (g k) (up k) parts.0) (have_rows-more f g up ks parts.1)

where_named-more : (f g : TypedRows) (k : Key) (o : Option Row) (r : Row) → ((k : Key) (r : Row) → f k ≡ Some r → g k ≡ Some r) → where_named f k o ≡ Some r → where_named g k o ≡ Some r
where_named-more f g k None r up h = cc
where_named-more f g k (Some s) r up h =
    let c = cond_some (have_rows f (names_of k s)) s r h in
    rw (have_rows-more f g up (names_of k s) c.0) (ap Some c.1)

-- a level more keeps what was ready
ready_below-more : (n : ℕ) (rows : TypedRows) (k : Key) (r : Row) → ready_below n rows k ≡ Some r → ready_below (suc n) rows k ≡ Some r
ready_below-more zero rows k r h = cc
ready_below-more (suc n) rows k r h = where_named-more (ready_below n rows) (ready_below (suc n) rows) k (rows k) r (ready_below-more n rows) h

names_have_rows : (f : TypedRows) (k : Key) (o : Option Row) (r : Row) → where_named f k o ≡ Some r → have_rows f (names_of k r) ≡ true
names_have_rows f k None r h = cc
names_have_rows f k (Some s) r h =
    let c = cond_some (have_rows f (names_of k s)) s r h in
    subst (λ x. have_rows f (names_of k x) ≡ true) c.1 c.0

-- what a ready row names is ready
pub IsClosed-ready : (rows : TypedRows) → IsClosed (ready_rows rows)
IsClosed-ready rows k r h = have_rows-more (ready_below 3 rows) (ready_below 4 rows) (ready_below-more 3 rows) (names_of k r) (names_have_rows (ready_below 3 rows) k (rows k) r h)

where_named_there : (f : TypedRows) (k : Key) (o : Option Row) (r : Row) → where_named f k o ≡ Some r → o ≡ Some r
where_named_there f k None r h = cc
where_named_there f k (Some s) r h = ap Some ((cond_some (have_rows f (names_of k s)) s r h).1)

-- a ready row is there
pub ready-there : (rows : TypedRows) (k : Key) (r : Row) → ready_rows rows k ≡ Some r → rows k ≡ Some r
ready-there rows k r h = where_named_there (ready_below 3 rows) k (rows k) r h

-- each key of a list is of a lower level than this
abbrev pub AreBelow : ℕ → List Key → Type 0
AreBelow n [] = Unit {0}
AreBelow n (k ∷ ks) = (level_of k < n) × AreBelow n ks

bases_below : (on : IfName) → AreBelow 1 (base_names on)
bases_below (name.Ethernet port) = (omega arith, tt)
bases_below (name.Vlan vlan) = (omega arith, tt)
bases_below (name.Loopback number) = tt

below_both : (n : ℕ) (ks qs : List Key) → AreBelow n ks → AreBelow n qs → AreBelow n (ks ++ qs)
below_both n [] qs h g = g
below_both n (k ∷ ks) qs h g = (h.0, below_both n ks qs h.1 g)

routers_below : (n : ℕ) (v : Vrf) → 0 < n → AreBelow n (router_names v)
routers_below n vrf.Default h = tt
routers_below n (vrf.Named label) h = (h, tt)

hops_below : (hops : List (RowHop × ℕ)) → AreBelow 3 (map (λ h. key.Neigh h.0.on h.0.ip) hops)
hops_below [] = tt
hops_below (h ∷ hs) = (omega arith, hops_below hs)

targets_below : (t : RouteRow) → AreBelow 3 (route_names t)
targets_below route.Drop = tt
targets_below (route.Direct on) = (omega arith, tt)
targets_below (route.Hops hops) = hops_below hops

routes_below : (r : Row) → AreBelow 3 (names_of_route r)
routes_below (row.Port r) = tt
routes_below row.Vlan = tt
routes_below row.Vrf = tt
routes_below (row.Member tagging) = tt
routes_below (row.Intf v) = tt
routes_below row.Addr = tt
routes_below (row.Neigh mac) = tt
routes_below (row.Route target) = targets_below target

-- what a row names is of a lower level
pub names_below : (k : Key) (r : Row) → AreBelow (level_of k) (names_of k r)
names_below (key.Port port) r = tt
names_below (key.Vlan vlan) r = tt
names_below (key.Vrf n) r = tt
names_below (key.Member vlan port) r = (omega arith, (omega arith, tt))
names_below (key.Intf on) (row.Intf v) = below_both 1 (base_names on) (router_names v) (bases_below on) (routers_below 1 v (omega arith))
names_below (key.Intf on) r = bases_below on
names_below (key.Addr on ip len) r = (omega arith, tt)
names_below (key.Neigh on ip) r = (omega arith, tt)
names_below (key.Route v prefix) r = below_both 3 (router_names v) (names_of_route r) (routers_below 3 v (omega arith)) (routes_below r)
names_below (key.Other text) r = tt

have_rows-same : (f g : TypedRows) (n m : ℕ) → n ≤ m → ((k : Key) → level_of k < m → f k ≡ g k) → (keys : List Key) → AreBelow n keys → have_rows g keys ≡ true → have_rows f keys ≡ true
have_rows-same f g n m le same [] below h = refl
have_rows-same f g n m le same (k ∷ ks) below h =
    let parts = and_parts (is_some (g k)) (have_rows g ks) h in
    and_from (is_some (f k)) (have_rows f ks) (ap is_some (same k (omega (arith, below.0, le))) ∙ parts.0) (have_rows-same f g n m le same ks below.1 parts.1)

where_named_stays : (f rows : TypedRows) (m : ℕ) (k : Key) (o : Option Row) → IsClosed rows → level_of k ≤ m → ((q : Key) → level_of q < m → f q ≡ rows q) → rows k ≡ o → where_named f k o ≡ o
where_named_stays f rows m k None closed le same is = refl
where_named_stays f rows m k (Some r) closed le same is = rw (have_rows-same f rows (level_of k) m le same (names_of k r) (names_below k r) (closed k r is)) refl

ready_below-closed : (n : ℕ) (rows : TypedRows) → IsClosed rows → (k : Key) → level_of k < n → ready_below n rows k ≡ rows k
ready_below-closed zero rows closed k low = absurd (omega (arith, low))
ready_below-closed (suc n) rows closed k low = where_named_stays (ready_below n rows) rows n k (rows k) closed (omega (arith, low)) (ready_below-closed n rows closed) refl

pub low : (k : Key) → level_of k < 4
low (key.Port port) = omega arith
low (key.Vlan vlan) = omega arith
low (key.Vrf n) = omega arith
low (key.Member vlan port) = omega arith
low (key.Intf on) = omega arith
low (key.Addr on ip len) = omega arith
low (key.Neigh on ip) = omega arith
low (key.Route v prefix) = omega arith
low (key.Other text) = omega arith

-- closed rows are all ready
pub ready_rows-closed : (rows : TypedRows) → IsClosed rows → (k : Key) → ready_rows rows k ≡ rows k
ready_rows-closed rows closed k = ready_below-closed 4 rows closed k (low k)

-- rows of which none is missing are there
pub have_rows-from_missing : (rows : TypedRows) (ks : List Key) → first_missing rows ks ≡ None → have_rows rows ks ≡ true
have_rows-from_missing rows [] h = refl
have_rows-from_missing rows (k ∷ ks) h = by (rows k) refl (λ g. have_rows-from_missing rows ks g) h
  where
    by : (o : Option Row) → rows k ≡ o → (first_missing rows ks ≡ None → have_rows rows ks ≡ true) → (if is_some o then first_missing rows ks else Some k) ≡ None → (is_some (rows k) && have_rows rows ks) ≡ true
    by (Some r) e rest g = rw e (rest g)
    by None e rest g = absurd cc
