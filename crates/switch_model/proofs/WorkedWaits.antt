-- rows that wait at a mark, worked out by computation: nothing cites them, and they show that the definitions say what is meant
use Rattle.std.proofs.Common.{◌≡◌, inl, inr, Bool, true, false, cond, List, [], ◌∷◌, Option, None, Some, Ok, codes, refl, sym, ap, ◌∙◌, subst}
use Rattle.std.specs.BTreeMap.{is_at}
use Rattle.std.specs.Ordering.{is_le}
use Rattle.std.specs.List.Sorted.{IsStrictlySortedBy}
use Rattle.swss_types.specs.declared.address.Family.TheVariants.{V4}
use Rattle.swss_types.specs.declared.address.Ip.{Ip}
use Rattle.std.proofs.lemmas.Option.{same_Some}
use Rattle.swss_types.specs.declared.interface.IfName.TheVariants as name
use Rattle.swss_types.specs.declared.vrf.Vrf.TheVariants as vrf
use Rattle.table_schema.specs.Key.{key_cmp}
use Rattle.table_schema.specs.KeyText.{key_of}
use Rattle.table_schema.specs.Names.{names_of}
use Rattle.table_schema.specs.Plan.{Ports, plan_of}
use Rattle.table_schema.specs.Rows.{rows_of}
use Rattle.table_schema.specs.declared.key.Key.{Key}
use Rattle.table_schema.specs.declared.key.Key.TheVariants as key
use Rattle.table_schema.specs.declared.row.Row.{Row}
use Rattle.table_schema.specs.declared.row.Row.TheVariants as row
use Rattle.table_schema.specs.declared.row.RouteRow.TheVariants as route
use Rattle.table_schema.specs.declared.write.Sent.{Sent}
use Rattle.table_schema.specs.declared.write.Write.{Write}
use Rattle.table_schema.specs.declared.write.Write.TheVariants as write
use Rattle.table_schema.proofs.Keys.{tied_keys_same}
use Rattle.sai_types.specs.Alike.{IsIn}
use Rattle.switch_model.specs.Desired.{IsClosed, desired_view, have_rows}
use Rattle.switch_model.specs.Good.{TypedRows}
use Rattle.switch_model.specs.Marks.{IsTrueReason, Waiting, first_missing, sent_writes}
use Rattle.switch_model.specs.Promises.{IsSettled, applied_at, good_rows_at}
use Rattle.switch_model.specs.declared.mark.Mark.{Mark}
use Rattle.switch_model.specs.declared.mark.MarkEvent.TheVariants as event
use Rattle.switch_model.specs.declared.wait.Wait.{Wait}
use Rattle.switch_model.specs.declared.wait.Wait.TheVariants as wait
use Rattle.switch_model.proofs.Worked.{IsExactly, good_in, room, sent_from, set, view_is}

abbrev plan : Ports
plan = (0, 0 ∷ []) ∷ (4, 4 ∷ []) ∷ []

plan_is : plan_of (codes "Ethernet0 0" ∷ codes "Ethernet4 4" ∷ []) ≡ Ok plan
plan_is = refl

abbrev one : Ip
one = record { family = V4; bits = 167772161 }

abbrev three : Ip
three = record { family = V4; bits = 167772163 }

-- A route whose neighbour is missing.
abbrev lone_route : Key
lone_route = key.Route vrf.Default (record { ip = record { family = V4; bits = 167837696 }; len = 16 })

abbrev neighbour : Key
neighbour = key.Neigh (name.Ethernet 0) one

abbrev route_writes : List Write
route_writes = set (codes "ROUTE_TABLE:10.1.0.0/16") ((codes "ifname", codes "Ethernet0") ∷ (codes "nexthop", codes "10.0.0.1") ∷ []) ∷ []

keys_are : (key_of (codes "ROUTE_TABLE:10.1.0.0/16") ≡ lone_route) × (key_of (codes "NEIGH_TABLE:Ethernet0:10.0.0.1") ≡ neighbour)
keys_are = (refl, refl)

nothing_is_desired : IsExactly (desired_view plan (rows_of route_writes)) []
nothing_is_desired = view_is plan (rows_of route_writes)

abbrev route_sent : List Sent
route_sent = sent_from 0 route_writes

abbrev route_waits : Waiting
route_waits = (lone_route, wait.Missing neighbour, None) ∷ []

abbrev route_mark : Mark
route_mark = record { taken = 1; effects = 0; event = event.Settled route_waits 1 }

abbrev none_applied : TypedRows
none_applied = applied_at plan route_sent route_mark route_waits

abbrev route_good : TypedRows
route_good = good_rows_at plan route_sent 1

abbrev route_row : Row
route_row = row.Route (route.Hops ((record { on = name.Ethernet 0; ip = one }, 1) ∷ []))

route_is_good : route_good lone_route ≡ Some route_row
route_is_good = refl

-- only the route has a row, and it is not applied
no_row : (k : Key) (r : Row) → none_applied k ≡ Some r → ⊥
no_row k r h = by (is_at (key_cmp k) lone_route) refl h
  where
    only : IsIn k (lone_route ∷ []) → is_at (key_cmp k) lone_route ≡ true
    only (inl e) = subst (λ q. is_at (key_cmp q) lone_route ≡ true) (sym e) refl
    only (inr h) = absurd h

    by : (t : Bool) → is_at (key_cmp k) lone_route ≡ t → cond t None (route_good k) ≡ Some r → ⊥
    by true at h = cc
    by false at h = let there = only (good_in plan k (rows_of (sent_writes route_sent)) r h) in cc

route_is_settled : IsSettled plan room route_sent [] route_mark route_waits
unfolding IsStrictlySortedBy
route_is_settled = record {
  alike = record { each = λ t h. absurd h; once = λ x (k, r, is, h). absurd (no_row k r is) };
  closed = λ k r h. absurd (no_row k r h);
  reasons = ((route_row, refl, refl), tt);
  order = (tt, tt);
  kinds = (tt, tt);
}

some_row : (r s : Row) (o : Option Row) → o ≡ Some r → o ≡ Some s → r ≡ s
some_row r s o h k = cc

-- no other reason is true
only_missing : (w : Wait) → IsTrueReason plan room route_good none_applied lone_route w → w ≡ wait.Missing neighbour
only_missing (wait.Missing name) (r, is, missing) =
    let same = some_row route_row r (route_good lone_route) route_is_good is in
    let first : first_missing none_applied (names_of lone_route r) ≡ Some neighbour = subst (λ x. first_missing none_applied (names_of lone_route x) ≡ Some neighbour) same refl in
    ap wait.Missing (some_key name neighbour (first_missing none_applied (names_of lone_route r)) missing first)
  where
    some_key : (k q : Key) (o : Option Key) → o ≡ Some k → o ≡ Some q → k ≡ q
    some_key k q o h g = cc
only_missing (wait.Held holder) (inl gone, r, is, by) = let here : Some route_row ≡ None = sym route_is_good ∙ gone in cc
only_missing (wait.Held holder) (inr (old, new, at, good, have, moved), r, is, by) = absurd moved
only_missing (wait.NoRoom kind) (r, is, have, over) =
    let same = some_row route_row r (route_good lone_route) route_is_good is in
    let lacks : have_rows none_applied (names_of lone_route r) ≡ false = subst (λ x. have_rows none_applied (names_of lone_route x) ≡ false) same refl in
    let clash = sym lacks ∙ have in cc
only_missing (wait.Busy worker) h = absurd h

-- A held interface.
abbrev held : Key
held = key.Intf (name.Ethernet 0)

abbrev far_interface : Key
far_interface = key.Intf (name.Ethernet 4)

abbrev far_neighbour : Key
far_neighbour = key.Neigh (name.Ethernet 4) three

abbrev held_writes : List Write
held_writes =
    set (codes "PORT_TABLE:Ethernet0") ((codes "lanes", codes "0") ∷ [])
    ∷ set (codes "PORT_TABLE:Ethernet4") ((codes "lanes", codes "4") ∷ [])
    ∷ set (codes "INTF_TABLE:Ethernet0") ((codes "NULL", codes "NULL") ∷ [])
    ∷ set (codes "INTF_TABLE:Ethernet4") ((codes "NULL", codes "NULL") ∷ [])
    ∷ set (codes "NEIGH_TABLE:Ethernet0:10.0.0.1") ((codes "neigh", codes "02:00:00:00:00:01") ∷ [])
    ∷ set (codes "NEIGH_TABLE:Ethernet4:10.0.0.3") ((codes "neigh", codes "02:00:00:00:00:03") ∷ [])
    ∷ write.Del (key_of (codes "INTF_TABLE:Ethernet0"))
    ∷ []

abbrev held_sent : List Sent
held_sent = sent_from 0 held_writes

abbrev held_waits : Waiting
held_waits = (held, wait.Held neighbour, Some (row.Intf vrf.Default)) ∷ []

abbrev held_good : TypedRows
held_good = good_rows_at plan held_sent 7

abbrev held_mark : Mark
held_mark = record { taken = 7; effects = 8; event = event.Settled held_waits 1 }

abbrev all_applied : TypedRows
all_applied = applied_at plan held_sent held_mark held_waits

abbrev applied_keys : List Key
applied_keys = held ∷ key.Port 0 ∷ key.Port 4 ∷ far_interface ∷ neighbour ∷ far_neighbour ∷ []

applied_in : (k : Key) (r : Row) → all_applied k ≡ Some r → IsIn k applied_keys
applied_in k r h = by (is_at (key_cmp k) held) refl h
  where
    by : (t : Bool) → is_at (key_cmp k) held ≡ t → cond t (Some (row.Intf vrf.Default)) (held_good k) ≡ Some r → IsIn k applied_keys
    by true at h = inl (tied_keys_same k held at)
    by false at h = inr (good_in plan k (rows_of (sent_writes held_sent)) r h)

-- the interface, its port and its neighbour are applied, and all the others
held_is_closed : IsClosed all_applied
held_is_closed k r h = by (applied_in k r h)
  where
    intf_row : (q : Key) → k ≡ q → all_applied q ≡ Some (row.Intf vrf.Default) → row.Intf vrf.Default ≡ r
    intf_row q e is = same_Some (row.Intf vrf.Default) r (sym is ∙ subst (λ q. all_applied q ≡ Some r) e h)

    at : (q : Key) → k ≡ q → have_rows all_applied (names_of q r) ≡ true → have_rows all_applied (names_of k r) ≡ true
    at q e h = subst (λ q. have_rows all_applied (names_of q r) ≡ true) (sym e) h

    by : IsIn k applied_keys → have_rows all_applied (names_of k r) ≡ true
    by (inl e) = at held e (subst (λ z. have_rows all_applied (names_of held z) ≡ true) (intf_row held e refl) refl)
    by (inr (inl e)) = at (key.Port 0) e refl
    by (inr (inr (inl e))) = at (key.Port 4) e refl
    by (inr (inr (inr (inl e)))) = at far_interface e (subst (λ z. have_rows all_applied (names_of far_interface z) ≡ true) (intf_row far_interface e refl) refl)
    by (inr (inr (inr (inr (inl e))))) = at neighbour e refl
    by (inr (inr (inr (inr (inr (inl e)))))) = at far_neighbour e refl
    by (inr (inr (inr (inr (inr (inr h)))))) = absurd h

held_is_no_port : IsIn held (key.Port 0 ∷ []) → ⊥
held_is_no_port (inl e) = cc
held_is_no_port (inr h) = h

no_far_port : IsIn held (key.Port 4 ∷ []) → ⊥
no_far_port (inl e) = cc
no_far_port (inr h) = h

no_far : IsIn held (far_interface ∷ []) → ⊥
no_far (inl e) = cc
no_far (inr h) = h

-- the neighbour alone names the interface
names_held : (k : Key) (r : Row) → all_applied k ≡ Some r → IsIn held (names_of k r) → k ≡ neighbour
names_held k r h names = by (applied_in k r h) names
  where
    intf_row : (q : Key) → k ≡ q → all_applied q ≡ Some (row.Intf vrf.Default) → row.Intf vrf.Default ≡ r
    intf_row q e is = same_Some (row.Intf vrf.Default) r (sym is ∙ subst (λ q. all_applied q ≡ Some r) e h)

    unnamed : (q : Key) → k ≡ q → (IsIn held (names_of q r) → ⊥) → IsIn held (names_of k r) → k ≡ neighbour
    unnamed q e not_named names = absurd (not_named (subst (λ q. IsIn held (names_of q r)) e names))

    by : IsIn k applied_keys → IsIn held (names_of k r) → k ≡ neighbour
    by (inl e) = unnamed held e (subst (λ z. IsIn held (names_of held z) → ⊥) (intf_row held e refl) held_is_no_port)
    by (inr (inl e)) = unnamed (key.Port 0) e (λ h. h)
    by (inr (inr (inl e))) = unnamed (key.Port 4) e (λ h. h)
    by (inr (inr (inr (inl e)))) = unnamed far_interface e (subst (λ z. IsIn held (names_of far_interface z) → ⊥) (intf_row far_interface e refl) no_far_port)
    by (inr (inr (inr (inr (inl e))))) = λ names. e
    by (inr (inr (inr (inr (inr (inl e)))))) = unnamed far_neighbour e no_far
    by (inr (inr (inr (inr (inr (inr h)))))) = λ names. absurd h

neighbour_is_least : (other : Key) (r : Row) → all_applied other ≡ Some r → IsIn held (names_of other r) → is_le (key_cmp neighbour other) ≡ true
neighbour_is_least other r h names = subst (λ q. is_le (key_cmp neighbour q) ≡ true) (sym (names_held other r h names)) refl

held_is_true : IsTrueReason plan room held_good all_applied held (wait.Held neighbour)
held_is_true = (inl refl, row.Intf vrf.Default, refl, record { row = _; applied_row = refl; names = inl refl; least = neighbour_is_least })

-- no other reason is true
only_held : (w : Wait) → IsTrueReason plan room held_good all_applied held w → w ≡ wait.Held neighbour
only_held (wait.Missing name) (r, is, missing) = cc
only_held (wait.Held holder) (gone, r, is, holds) = ap wait.Held (names_held holder holds.row holds.applied_row holds.names)
only_held (wait.NoRoom kind) (r, is, have, over) = cc
only_held (wait.Busy worker) h = absurd h
