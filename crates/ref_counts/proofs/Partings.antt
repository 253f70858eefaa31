-- what is found, changed, put and removed in the parts of what is known of all names
use Rattle.std.proofs.Common.{◌≡◌, ℕ, ◌<◌, ◌≤◌, List, ◌++◌, refl, sym, ap, ◌∙◌, arith}
use Rattle.std.specs.Cmp.{nat_cmp_is}
use Rattle.std.specs.Cmp.Lexicographic.{slice_cmp}
use Rattle.std.specs.BTreeMap.{insert_entry, is_at}
use Rattle.std.specs.List.Sorted.{IsStrictlySortedBy}
use Rattle.std.specs.Map.{keys_of, remove_entry, set_value}
use Rattle.std.specs.Ordering.{ordering_reverse, ordering_then}
use Rattle.std.specs.declared.cmp.Ordering.{Ordering}
use Rattle.std.specs.declared.cmp.Ordering.TheVariants.{Less, Greater}
use Rattle.std.proofs.lemmas.Map.{keys-set_value}
use Rattle.sai_types.specs.Hop.{whop_cmp}
use Rattle.sai_types.specs.declared.weight.WHop.{WHop}
use Rattle.swss_types.specs.declared.address.Ip.{Ip}
use Rattle.swss_types.specs.declared.address.Prefix.{Prefix}
use Rattle.swss_types.specs.declared.interface.IfName.{IfName}
use Rattle.swss_types.specs.declared.vrf.Vrf.{Vrf}
use Rattle.table_schema.specs.Key.{key_cmp, part_cmp, table_place}
use Rattle.table_schema.specs.declared.key.Key.{Key}
use Rattle.table_schema.specs.declared.key.Key.TheVariants as key
use Rattle.ref_counts.specs.declared.name.Name.{Name}
use Rattle.ref_counts.specs.declared.name.Name.TheVariants as name
use Rattle.ref_counts.specs.declared.registrations.Registrations.TheInside.{Inside}
use Rattle.ref_counts.specs.declared.destination.Destination.{Destination}
use Rattle.ref_counts.specs.Destinations.{destination_cmp}
use Rattle.ref_counts.specs.Parted.{AreParted, IsAmongRows, IsAmongOthers, Neighbor, all_names, table_place_of_name, neighbor_key_cmp, neighbor_name, place_of_groups, place_of_neighbors, place_of_routes, route_key, route_name}
use Rattle.late_maps.specs.Segments.{renamed}
use Rattle.ref_counts.specs.Registered.{Registered}
use Rattle.ref_counts.specs.Registry.{Names, registered_name_cmp}
use Rattle.ref_counts.proofs.Changing.{name_total}
use Rattle.late_maps.proofs.Segments.{AllAbove, AllBelow, StandsIn, StandsIn-above, StandsIn-below, StandsIn-itself, StandsIn-renamed, all-inserted, all-all_names, all-kept, all-named, all-removed, all-renamed, sorted-all_names, sorted-renamed}

-- the keys that stand apart are those of the neighbours, of the routes, and of no table
pub among_rows : (k : Key) → ((on : IfName) (ip : Ip) → k ≡ key.Neigh on ip → ⊥) → ((v : Vrf) (p : Prefix) → k ≡ key.Route v p → ⊥) → ((text : List ℕ) → k ≡ key.Other text → ⊥) → IsAmongRows k
among_rows (key.Neigh on ip) neighbor route other = absurd (neighbor on ip refl)
among_rows (key.Route v p) neighbor route other = absurd (route v p refl)
among_rows (key.Other text) neighbor route other = absurd (other text refl)
among_rows (key.Port port) neighbor route other = omega arith
among_rows (key.Vlan vlan) neighbor route other = omega arith
among_rows (key.Vrf n) neighbor route other = omega arith
among_rows (key.Member vlan port) neighbor route other = omega arith
among_rows (key.Intf on) neighbor route other = omega arith
among_rows (key.Addr on ip len) neighbor route other = omega arith

abbrev hops_cmp : List WHop → List WHop → Ordering
hops_cmp = slice_cmp whop_cmp

rows_same : (k q : Key) → registered_name_cmp (name.Row k) (name.Row q) ≡ key_cmp k q
rows_same k q = refl

neighbors_same : (m n : Neighbor) → registered_name_cmp (neighbor_name m) (neighbor_name n) ≡ neighbor_key_cmp m n
neighbors_same m n = refl

routes_same : (d e : Destination) → registered_name_cmp (route_name d) (route_name e) ≡ destination_cmp d e
routes_same d e = refl

groups_same : (g h : List WHop) → registered_name_cmp (name.Group g) (name.Group h) ≡ hops_cmp g h
groups_same g h = refl

-- the second name is above the first, or below it
abbrev IsAbove : Name → Name → Type 0
IsAbove n m = registered_name_cmp n m ≡ Less

abbrev IsBelow : Name → Name → Type 0
IsBelow n m = registered_name_cmp n m ≡ Greater

-- a row is below what has a greater place, and a group is above all that has a lesser place
pub row_below : (k : Key) (m : Name) → table_place k < table_place_of_name m → IsAbove (name.Row k) m
row_below k (name.Row q) lt = ap (λ o. ordering_then o (part_cmp k q)) (sym (nat_cmp_is (table_place k) (table_place q) Less lt))
row_below k (name.BridgePort p) lt = refl
row_below k (name.Own v ip) lt = refl
row_below k (name.Group hops) lt = refl

group_above : (n : Name) (hops : List WHop) → table_place_of_name n < place_of_groups → IsAbove n (name.Group hops)
group_above (name.Row k) hops lt = refl
group_above (name.BridgePort p) hops lt = refl
group_above (name.Own v ip) hops lt = refl
group_above (name.Group other) hops lt = absurd (omega arith)

pub turned : (n m : Name) → IsAbove n m → IsBelow m n
turned n m is = name_total.antisymm m n ∙ ap ordering_reverse is

module _ (r : Inside) (h : AreParted r.rows r.others) where
  abbrev the_rows : Names
  the_rows = renamed name.Row r.rows

  abbrev the_neighbors : Names
  the_neighbors = renamed neighbor_name r.neighbors

  abbrev the_routes : Names
  the_routes = renamed route_name r.routes

  abbrev the_groups : Names
  the_groups = renamed name.Group r.groups

  abbrev behind_routes : Names
  behind_routes = r.others ++ the_groups

  abbrev behind_neighbors : Names
  behind_neighbors = the_routes ++ behind_routes

  abbrev behind_rows : Names
  behind_rows = the_neighbors ++ behind_neighbors

  -- what stands behind a part is above what comes before
  groups_above : (n : Name) → table_place_of_name n < place_of_groups → AllAbove registered_name_cmp n the_groups
  groups_above n lt = all-named (IsAbove n) name.Group (λ hops. group_above n hops lt) r.groups

  behind_routes_above : (k : Key) → table_place k ≤ place_of_routes → AllAbove registered_name_cmp (name.Row k) behind_routes
  behind_routes_above k le =
      let others = all-kept (IsAbove (name.Row k)) IsAmongOthers (λ m is. let first = is.0 in row_below k m (omega arith)) r.others h.of_others in
      all-all_names (IsAbove (name.Row k)) r.others the_groups others (groups_above (name.Row k) (omega arith))

  behind_neighbors_above : (k : Key) → table_place k < place_of_routes → AllAbove registered_name_cmp (name.Row k) behind_neighbors
  behind_neighbors_above k lt =
      let routes = all-named (IsAbove (name.Row k)) route_name (λ d. row_below k (route_name d) lt) r.routes in
      all-all_names (IsAbove (name.Row k)) the_routes behind_routes routes (behind_routes_above k (omega arith))

  behind_rows_above : (k : Key) → IsAmongRows k → AllAbove registered_name_cmp (name.Row k) behind_rows
  behind_rows_above k lt =
      let neighbors = all-named (IsAbove (name.Row k)) neighbor_name (λ a. row_below k (neighbor_name a) lt) r.neighbors in
      all-all_names (IsAbove (name.Row k)) the_neighbors behind_neighbors neighbors (behind_neighbors_above k (omega arith))

  -- a part is below what comes behind it
  rows_below : (n : Name) → place_of_neighbors ≤ table_place_of_name n → AllBelow registered_name_cmp n the_rows
  rows_below n le = all-renamed (IsBelow n) name.Row IsAmongRows (λ k is. turned (name.Row k) n (row_below k n (omega arith))) r.rows h.of_rows

  neighbors_below : (n : Name) → place_of_neighbors < table_place_of_name n → AllBelow registered_name_cmp n the_neighbors
  neighbors_below n lt = all-named (IsBelow n) neighbor_name (λ a. turned (neighbor_name a) n (row_below (key.Neigh a.0 a.1) n lt)) r.neighbors

  routes_below : (n : Name) → place_of_routes < table_place_of_name n → AllBelow registered_name_cmp n the_routes
  routes_below n lt = all-named (IsBelow n) route_name (λ d. turned (route_name d) n (row_below (route_key d) n lt)) r.routes

  others_below : (hops : List WHop) → AllBelow registered_name_cmp (name.Group hops) r.others
  others_below hops = all-kept (IsBelow (name.Group hops)) IsAmongOthers (λ m is. turned m (name.Group hops) (group_above m hops is.1)) r.others h.of_others

  -- each part stands in the whole
  pub row-stands : (k : Key) → IsAmongRows k → StandsIn key_cmp k registered_name_cmp (name.Row k) r.rows (λ l. all_names l r.neighbors r.routes r.others r.groups)
  row-stands k is = StandsIn-above (StandsIn-renamed key_cmp registered_name_cmp name.Row rows_same k r.rows) behind_rows (behind_rows_above k is)

  pub neighbor-stands : (a : Neighbor) → StandsIn neighbor_key_cmp a registered_name_cmp (neighbor_name a) r.neighbors (λ l. all_names r.rows l r.routes r.others r.groups)
  neighbor-stands a =
      let own = StandsIn-renamed neighbor_key_cmp registered_name_cmp neighbor_name neighbors_same a r.neighbors in
      let first = StandsIn-above own behind_neighbors (behind_neighbors_above (key.Neigh a.0 a.1) (omega arith)) in
      StandsIn-below first the_rows (rows_below (neighbor_name a) (omega arith))

  -- what stands among what is behind the neighbours stands in the whole
  past_neighbors : {K : Type 0} (own : K → K → Ordering) (k : K) (n : Name) (part : List (K × Registered)) (whole : List (K × Registered) → Names) → place_of_neighbors < table_place_of_name n → StandsIn own k registered_name_cmp n part whole → StandsIn own k registered_name_cmp n part (λ l. the_rows ++ (the_neighbors ++ whole l))
  past_neighbors own k n part whole lt s = StandsIn-below (StandsIn-below s the_neighbors (neighbors_below n lt)) the_rows (rows_below n (omega arith))

  pub route-stands : (d : Destination) → StandsIn destination_cmp d registered_name_cmp (route_name d) r.routes (λ l. all_names r.rows r.neighbors l r.others r.groups)
  route-stands d =
      let own = StandsIn-renamed destination_cmp registered_name_cmp route_name routes_same d r.routes in
      past_neighbors _ _ _ _ _ (omega arith) (StandsIn-above own behind_routes (behind_routes_above (route_key d) (omega arith)))

  pub other-stands : (n : Name) → IsAmongOthers n → StandsIn registered_name_cmp n registered_name_cmp n r.others (λ l. all_names r.rows r.neighbors r.routes l r.groups)
  other-stands n is =
      let place = is.0 in
      let first = StandsIn-above (StandsIn-itself registered_name_cmp n r.others) the_groups (groups_above n is.1) in
      past_neighbors _ _ _ _ _ (omega arith) (StandsIn-below first the_routes (routes_below n is.0))

  pub group-stands : (hops : List WHop) → StandsIn hops_cmp hops registered_name_cmp (name.Group hops) r.groups (λ l. all_names r.rows r.neighbors r.routes r.others l)
  group-stands hops =
      let own = StandsIn-renamed hops_cmp registered_name_cmp name.Group groups_same hops r.groups in
      past_neighbors _ _ _ _ _ (omega arith) (StandsIn-below (StandsIn-below own r.others (others_below hops)) the_routes (routes_below (name.Group hops) (omega arith)))

  -- parts in order are one list in order
  pub all_names-sorted : IsStrictlySortedBy key_cmp (keys_of r.rows) → IsStrictlySortedBy neighbor_key_cmp (keys_of r.neighbors) → IsStrictlySortedBy destination_cmp (keys_of r.routes) → IsStrictlySortedBy registered_name_cmp (keys_of r.others) → IsStrictlySortedBy hops_cmp (keys_of r.groups) → IsStrictlySortedBy registered_name_cmp (keys_of (the_rows ++ behind_rows))
  all_names-sorted rows neighbors routes others groups =
      let above_others = all-kept (λ n. AllAbove registered_name_cmp n the_groups) IsAmongOthers (λ n is. groups_above n is.1) r.others h.of_others in
      let above_routes = all-named (λ n. AllAbove registered_name_cmp n behind_routes) route_name (λ d. behind_routes_above (route_key d) (omega arith)) r.routes in
      let above_neighbors = all-named (λ n. AllAbove registered_name_cmp n behind_neighbors) neighbor_name (λ a. behind_neighbors_above (key.Neigh a.0 a.1) (omega arith)) r.neighbors in
      let above_rows = all-renamed (λ n. AllAbove registered_name_cmp n behind_rows) name.Row IsAmongRows behind_rows_above r.rows h.of_rows in
      let from_others = sorted-all_names registered_name_cmp r.others the_groups others (sorted-renamed hops_cmp registered_name_cmp name.Group groups_same r.groups groups) above_others in
      let from_routes = sorted-all_names registered_name_cmp the_routes behind_routes (sorted-renamed destination_cmp registered_name_cmp route_name routes_same r.routes routes) from_others above_routes in
      let from_neighbors = sorted-all_names registered_name_cmp the_neighbors behind_neighbors (sorted-renamed neighbor_key_cmp registered_name_cmp neighbor_name neighbors_same r.neighbors neighbors) from_routes above_neighbors in
      sorted-all_names registered_name_cmp the_rows behind_rows (sorted-renamed key_cmp registered_name_cmp name.Row rows_same r.rows rows) from_neighbors above_rows

  -- the parts keep their keys
  pub parted-row_put : (new : List (Key × Registered)) (k : Key) (w : Registered) → IsAmongRows k → new ≡ insert_entry key_cmp r.rows k w → AreParted new r.others
  parted-row_put new k w among is = rw is (record { of_rows = all-inserted key_cmp k IsAmongRows among r.rows w h.of_rows; of_others = h.of_others })

  pub parted-row_set : (new : List (Key × Registered)) (k : Key) (w : Registered) → new ≡ set_value (is_at (key_cmp k)) r.rows w → AreParted new r.others
  parted-row_set new k w is = rw is (record { of_rows = rw (keys-set_value (is_at (key_cmp k)) r.rows w) h.of_rows; of_others = h.of_others })

  pub parted-row_removed : (new : List (Key × Registered)) (k : Key) → new ≡ remove_entry (is_at (key_cmp k)) r.rows → AreParted new r.others
  parted-row_removed new k is = rw is (record { of_rows = all-removed key_cmp k IsAmongRows r.rows h.of_rows; of_others = h.of_others })

  pub parted-other_put : (new : Names) (n : Name) (w : Registered) → IsAmongOthers n → new ≡ insert_entry registered_name_cmp r.others n w → AreParted r.rows new
  parted-other_put new n w among is = rw is (record { of_rows = h.of_rows; of_others = all-inserted registered_name_cmp n IsAmongOthers among r.others w h.of_others })

  pub parted-other_set : (new : Names) (n : Name) (w : Registered) → new ≡ set_value (is_at (registered_name_cmp n)) r.others w → AreParted r.rows new
  parted-other_set new n w is = rw is (record { of_rows = h.of_rows; of_others = rw (keys-set_value (is_at (registered_name_cmp n)) r.others w) h.of_others })

  pub parted-other_removed : (new : Names) (n : Name) → new ≡ remove_entry (is_at (registered_name_cmp n)) r.others → AreParted r.rows new
  parted-other_removed new n is = rw is (record { of_rows = h.of_rows; of_others = all-removed registered_name_cmp n IsAmongOthers r.others h.of_others })
