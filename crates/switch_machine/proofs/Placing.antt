-- rows in their places, and the rows of the tables
use Rattle.std.proofs.Common.{◌≡◌, ◌⊎◌, ◌∷◌, ◌∙◌, inl, inr, ℕ, Bool, true, false, not, [], Option, None, Some, option_map, refl, sym, ap, ap₂, subst}
use Rattle.std.proofs.lemmas.Option.{same_Some}
use Rattle.swss_types.specs.declared.address.Ip.{Ip}
use Rattle.swss_types.specs.declared.interface.IfName.{IfName}
use Rattle.swss_types.specs.declared.vrf.Vrf.{Vrf}
use Rattle.swss_types.specs.Vrf.{same_vrf}
use Rattle.swss_types.proofs.Routers.{vrf-exact}
use Rattle.table_schema.specs.Names.{base_names, router_names}
use Rattle.table_schema.specs.Names as written
use Rattle.table_schema.specs.Plan.{Ports}
use Rattle.table_schema.specs.declared.key.Key.{Key}
use Rattle.table_schema.specs.declared.key.Key.TheVariants as key
use Rattle.table_schema.specs.declared.row.Row.{Row as BareRow}
use Rattle.table_schema.specs.declared.row.Row.TheVariants as bare_row
use Rattle.sai_types.specs.Alike.{IsIn}
use Rattle.sai_types.proofs.Membership.{in-right}
use Rattle.switch_model.specs.Placed as row
use Rattle.switch_model.specs.Placed.{Placed as Row, bare, bare_rows, place, placed_addr_names as names_of_addr, placed_intf_names as names_of_intf, placed_names as names_of, placed_route_names as names_of_route, router_in, router_of_row}
use Rattle.switch_model.specs.Desired.{IsThingOf}
use Rattle.switch_model.specs.Marks.{IsMoved, IsToGo}
use Rattle.switch_model.specs.Things.{things_of}
use Rattle.sai_types.specs.declared.thing.Thing.{Thing}
use Rattle.switch_machine.specs.Consistent.{IsOrderly}
use Rattle.switch_machine.specs.Flights.{Fits, IsFirm, IsRow, MachineBoard, goes_over}

pub bare_placed : (v : Vrf) (r : BareRow) → bare (place v r) ≡ r
bare_placed v (bare_row.Port r) = refl
bare_placed v bare_row.Vlan = refl
bare_placed v bare_row.Vrf = refl
bare_placed v (bare_row.Member tagging) = refl
bare_placed v (bare_row.Intf w) = refl
bare_placed v bare_row.Addr = refl
bare_placed v (bare_row.Neigh mac) = refl
bare_placed v (bare_row.Route r) = refl

pub bares : (v : Vrf) (o : Option BareRow) → option_map bare (option_map (place v) o) ≡ o
bares v None = refl
bares v (Some r) = ap Some (bare_placed v r)

pub placed_row : (v : Vrf) (o : Option BareRow) (r : Row) → option_map (place v) o ≡ Some r → o ≡ Some (bare r)
placed_row v o r h = sym (bares v o) ∙ ap (option_map bare) h

-- a row of the tables is one in its place
pub row_of : (o : Option Row) (r : BareRow) → option_map bare o ≡ Some r → (x : Row) × (o ≡ Some x) × (bare x ≡ r)
row_of None r h = absurd cc
row_of (Some x) r h = (x, refl, same_Some (bare x) r h)

-- ---- names

intf_in : (i : IfName) (r : Row) (n : Key) → IsIn n (written.names_of_intf i (bare r)) → IsIn n (names_of_intf i r)
intf_in i (row.Intf v) n h = h
intf_in i _ n h = h

addr_in : (i : IfName) (r : Row) (n : Key) → IsIn n (key.Intf i ∷ []) → IsIn n (names_of_addr i r)
addr_in i (row.Addr v) n (inl is) = inl is
addr_in i (row.Addr v) n (inr h) = elim h [ ]
addr_in i _ n h = h

-- what a row names it names in its place
pub names_in : (k : Key) (r : Row) (n : Key) → IsIn n (written.names_of k (bare r)) → IsIn n (names_of k r)
names_in (key.Intf i) r n h = intf_in i r n h
names_in (key.Addr i ip len) r n h = addr_in i r n h
names_in (key.Route v prefix) (row.Route target) n h = h
names_in (key.Route v prefix) _ n h = h
names_in k r n h = h

-- an address in its place names its router too
pub record IsInRouter (k : Key) (r : Row) (n : Key) : Type 0 where
  pub on : IfName
  pub ip : Ip
  pub len : ℕ
  pub router : Vrf
  pub key_is : k ≡ key.Addr on ip len
  pub row_is : r ≡ row.Addr router
  pub named : IsIn n (router_names router)

intf_out : (i : IfName) (r : Row) (n : Key) → IsIn n (names_of_intf i r) → IsIn n (written.names_of_intf i (bare r))
intf_out i (row.Intf v) n h = h
intf_out i _ n h = h

addr_out : (i : IfName) (ip : Ip) (len : ℕ) (r : Row) (n : Key) → IsIn n (names_of_addr i r) → IsIn n (key.Intf i ∷ []) ⊎ IsInRouter (key.Addr i ip len) r n
addr_out i ip len (row.Addr v) n (inl is) = inl (inl is)
addr_out i ip len (row.Addr v) n (inr h) = inr (record { on = i; ip = ip; len = len; router = v; key_is = refl; row_is = refl; named = h })
addr_out i ip len _ n h = inl h

pub names_out : (k : Key) (r : Row) (n : Key) → IsIn n (names_of k r) → IsIn n (written.names_of k (bare r)) ⊎ IsInRouter k r n
names_out (key.Intf i) r n h = inl (intf_out i r n h)
names_out (key.Addr i ip len) r n h = addr_out i ip len r n h
names_out (key.Route v prefix) (row.Route target) n h = inl h
names_out (key.Route v prefix) _ n h = inl h
names_out k r n h = inl h

-- ---- what holds a row

-- an applied row in its place that names a key: it, or its interface's row, names the key in the tables too
pub held_bare : (plan : Ports) (b : MachineBoard) → IsOrderly plan b → (q k : Key) (r : Row) → b.applied q ≡ Some r → IsIn k (names_of q r) → (h : Key) × (x : BareRow) × (bare_rows b.applied h ≡ Some x) × IsIn k (written.names_of h x)
held_bare plan b orderly q k r at named = by (names_out q r k named)
  where
    by : IsIn k (written.names_of q (bare r)) ⊎ IsInRouter q r k → (h : Key) × (x : BareRow) × (bare_rows b.applied h ≡ Some x) × IsIn k (written.names_of h x)
    by (inl h) = (q, bare r, ap (option_map bare) at, h)
    by (inr x) = of firm.row firm.applied (orderly.fit (key.Intf x.on) firm.row (inl firm.applied))
      where
        is_row : IsRow b (key.Addr x.on x.ip x.len) (row.Addr x.router)
        is_row = inl (ap b.applied (sym x.key_is) ∙ at ∙ ap Some x.row_is)

        firm : IsFirm b (key.Intf x.on)
        firm = orderly.named (key.Addr x.on x.ip x.len) (key.Intf x.on) (row.Addr x.router) is_row (inl refl)

        of : (r : Row) → b.applied (key.Intf x.on) ≡ Some r → Fits plan (key.Intf x.on) r → (h : Key) × (x : BareRow) × (bare_rows b.applied h ≡ Some x) × IsIn k (written.names_of h x)
        of (row.Intf w) at fit =
            let same : x.router ≡ w = orderly.inside x.on x.ip x.len x.router w is_row at in
            (key.Intf x.on, bare_row.Intf w, ap (option_map bare) at, in-right k (base_names x.on) (router_names w) (subst (λ z. IsIn k (router_names z)) same x.named))
        of _ at fit = elim fit [ ]

-- where an applied row is to go it goes over
pub to_goes : (b : MachineBoard) (k : Key) (v : Vrf) (good : Key → Option BareRow) → IsToGo good (bare_rows b.applied) k → goes_over k (b.applied k) (option_map (place v) (good k)) ≡ true
to_goes b k v good (inl none) = ap (λ o. goes_over k (b.applied k) (option_map (place v) o)) none
to_goes b k v good (inr (old, new, at, is, have, moved)) =
    let x = row_of (b.applied k) old at in
    ap₂ (goes_over k) x.1 (ap (option_map (place v)) is) ∙ over k x.0 new (subst (λ z. IsMoved k z new) (sym x.2) moved)
  where
    apart : (b : Bool) (v w : Vrf) → same_vrf v w ≡ b → (v ≡ w → ⊥) → not (same_vrf v w) ≡ true
    apart true v w e other = absurd (other (vrf-exact v w e))
    apart false v w e other = ap not e

    over : (k : Key) (old : Row) (new : BareRow) → IsMoved k (bare old) new → goes_over k (Some old) (Some (place v new)) ≡ true
    over (key.Intf i) (row.Intf x) (bare_row.Intf w) moved = apart (same_vrf x w) x w refl moved
    over k old new moved = elim moved [ ]

-- a row's router that is not the default one is that of its interface's applied row
pub router_row : (o : Option BareRow) (n : Key) → IsIn n (router_names (router_of_row o)) → (v : Vrf) × (o ≡ Some (bare_row.Intf v)) × IsIn n (router_names v)
router_row (Some (bare_row.Intf v)) n h = (v, refl, h)
router_row None n h = elim h [ ]
router_row (Some _) n h = elim h [ ]

-- ---- an applied row is in its place

pub own_place : (plan : Ports) (b : MachineBoard) → IsOrderly plan b → (k : Key) (y : Row) → b.applied k ≡ Some y → y ≡ place (router_in (bare_rows b.applied) k) (bare y)
own_place plan b orderly k (row.Addr u) at = of k at (orderly.fit k (row.Addr u) (inl at))
  where
    of : (k : Key) → b.applied k ≡ Some (row.Addr u) → Fits plan k (row.Addr u) → row.Addr u ≡ row.Addr (router_in (bare_rows b.applied) k)
    of (key.Addr i ip len) at fit = go firm.row firm.applied (orderly.fit (key.Intf i) firm.row (inl firm.applied))
      where
        firm : IsFirm b (key.Intf i)
        firm = orderly.named (key.Addr i ip len) (key.Intf i) (row.Addr u) (inl at) (inl refl)

        go : (r : Row) → b.applied (key.Intf i) ≡ Some r → Fits plan (key.Intf i) r → row.Addr u ≡ row.Addr (router_of_row (bare_rows b.applied (key.Intf i)))
        go (row.Intf w) there fit = ap row.Addr (orderly.inside i ip len u w (inl at) there ∙ sym (ap (λ o. router_of_row (option_map bare o)) there))
        go _ there fit = elim fit [ ]
    of _ at fit = elim fit [ ]
own_place plan b orderly k _ at = refl

pub moved_not : (k : Key) (r : BareRow) → IsMoved k r r → ⊥
moved_not (key.Intf i) (bare_row.Intf v) moved = moved refl
moved_not k r moved = elim moved [ ]

-- the things of the applied rows in their places are those of the rows of the tables
pub thing_of_row : (plan : Ports) (b : MachineBoard) → IsOrderly plan b → (u : Thing) (k : Key) (r : Row) → b.applied k ≡ Some r → IsIn u (things_of plan k r) → IsThingOf plan (bare_rows b.applied) u
thing_of_row plan b orderly u k r at h = (k, bare r, ap (option_map bare) at, subst (λ z. IsIn u (things_of plan k z)) (own_place plan b orderly k r at) h)

pub row_of_thing : (plan : Ports) (b : MachineBoard) → IsOrderly plan b → (u : Thing) → IsThingOf plan (bare_rows b.applied) u → (k : Key) × (r : Row) × (b.applied k ≡ Some r) × IsIn u (things_of plan k r)
row_of_thing plan b orderly u (k, x, is, h) =
    let y = row_of (b.applied k) x is in
    (k, y.0, y.1, subst (λ z. IsIn u (things_of plan k z)) (sym (own_place plan b orderly k y.0 y.1 ∙ ap (place (router_in (bare_rows b.applied) k)) y.2)) h)
