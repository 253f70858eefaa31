-- small tables worked out by computation: nothing cites them, and they show that the definitions say what is meant
use Rattle.std.proofs.Common.{◌≡◌, ◌⊎◌, inl, inr, ℕ, suc, Bool, true, false, cond, List, [], ◌∷◌, ◌++◌, replicate, Option, None, Some, Ok, Err, codes, refl, sym, ap, ◌∙◌, subst}
use Rattle.std.specs.BTreeMap.{is_at}
use Rattle.std.specs.Map.{keys_of}
use Rattle.std.specs.List.Sorted.{IsStrictlySortedBy}
use Rattle.std.proofs.lemmas.Option.{same_Some}
use Rattle.swss_types.specs.declared.address.Family.TheVariants.{V4}
use Rattle.swss_types.specs.declared.address.Prefix.{Prefix}
use Rattle.swss_types.specs.declared.interface.IfName.TheVariants as name
use Rattle.swss_types.specs.declared.vrf.Vrf.TheVariants as vrf
use Rattle.swss_types.specs.declared.vrf.VrfName.{VrfName}
use Rattle.table_schema.specs.Fields.{Pairs}
use Rattle.table_schema.specs.Key.{key_cmp}
use Rattle.table_schema.specs.KeyText.{key_of}
use Rattle.table_schema.specs.Names.{names_of}
use Rattle.table_schema.specs.Plan.{Ports, plan_of}
use Rattle.table_schema.specs.Rows.{Rows, fields_at, rows_of}
use Rattle.table_schema.specs.Rules.{row_of}
use Rattle.table_schema.specs.declared.key.Key.{Key}
use Rattle.table_schema.specs.declared.key.Key.TheVariants as key
use Rattle.table_schema.specs.declared.row.BadWhy.TheVariants.{HostBits}
use Rattle.table_schema.specs.declared.row.Row.{Row}
use Rattle.table_schema.specs.declared.row.Row.TheVariants as row
use Rattle.table_schema.specs.declared.row.RouteRow.TheVariants as route
use Rattle.table_schema.specs.declared.write.Sent.{Sent}
use Rattle.table_schema.specs.declared.write.Write.{Write}
use Rattle.table_schema.specs.declared.write.Write.TheVariants as write
use Rattle.table_schema.proofs.Keys.{tied_keys_same}
use Rattle.sai_types.specs.declared.ids.Rid.{Rid}
use Rattle.sai_types.specs.declared.body.Body.TheVariants as body
use Rattle.sai_types.specs.declared.body.Call.{Call}
use Rattle.sai_types.specs.declared.body.Call.TheVariants as call
use Rattle.sai_types.specs.declared.body.RifOn.TheVariants as on
use Rattle.sai_types.specs.declared.hop.Base.TheVariants as base
use Rattle.sai_types.specs.declared.thing.Goal.TheVariants as goal
use Rattle.sai_types.specs.declared.thing.Thing.{Thing}
use Rattle.sai_types.specs.declared.thing.Thing.TheVariants as thing
use Rattle.sai_types.specs.After.{chip_after}
use Rattle.sai_types.specs.Alike.{IsIn, IsOnceIn}
use Rattle.sai_types.specs.Made.{AreLegal}
use Rattle.sai_types.specs.Named.{named}
use Rattle.sai_types.proofs.Membership.{in-either, in-left, in-right}
use Rattle.switch_model.specs.Desired.{IsClosed, IsThingOf, desired_view, have_rows, ready_rows, placed_things}
use Rattle.switch_model.specs.Good.{TypedRows, good_row, good_rows}
use Rattle.switch_model.specs.Promises.{IsSettled, applied_at}
use Rattle.switch_model.specs.declared.mark.Mark.{Mark}
use Rattle.switch_model.specs.declared.mark.MarkEvent.TheVariants as event
use Rattle.switch_model.proofs.Ready.{ready-there}

-- a key that has a row is one of the keys of the rows
fields_in : (k : Key) (rows : Rows) (fields : Pairs) → fields_at rows k ≡ Some fields → IsIn k (keys_of rows)
fields_in k [] fields h = cc
fields_in k (e ∷ es) fields h = by (is_at (key_cmp k) e.0) refl h (fields_in k es fields)
  where
    by : (t : Bool) → is_at (key_cmp k) e.0 ≡ t → cond t (Some e.1) (fields_at es k) ≡ Some fields → (fields_at es k ≡ Some fields → IsIn k (keys_of es)) → IsIn k (keys_of (e ∷ es))
    by true at h behind = inl (tied_keys_same k e.0 at)
    by false at h behind = inr (behind h)

pub good_in : (plan : Ports) (k : Key) (rows : Rows) (r : Row) → good_rows plan rows k ≡ Some r → IsIn k (keys_of rows)
good_in plan k rows r h = by (fields_at rows k) refl h
  where
    by : (o : Option Pairs) → fields_at rows k ≡ o → good_row plan k o ≡ Some r → IsIn k (keys_of rows)
    by None at h = cc
    by (Some fields) at h = fields_in k rows fields at

-- a set of things has these and no others
abbrev pub IsExactly : (Thing → Type 0) → List Thing → Type 0
IsExactly view things = (x : Thing) → (view x → IsIn x things) × (IsIn x things → view x)

abbrev pub row_things : Ports → TypedRows → Key → Option Row → List Thing
row_things plan rows k None = []
row_things plan rows k (Some r) = placed_things plan rows k r

-- the things of the rows of these keys, one behind the other
abbrev pub things_at : Ports → TypedRows → List Key → List Thing
things_at plan rows [] = []
things_at plan rows (k ∷ ks) = row_things plan rows k (rows k) ++ things_at plan rows ks

module _ (plan : Ports) (rows : TypedRows) where
  listed : (ks : List Key) (k : Key) (r : Row) (x : Thing) → IsIn k ks → rows k ≡ Some r → IsIn x (placed_things plan rows k r) → IsIn x (things_at plan rows ks)
  listed [] k r x there is h = absurd there
  listed (q ∷ ks) k r x (inl e) is h =
      in-left x (row_things plan rows q (rows q)) (things_at plan rows ks)
      (subst (λ q. IsIn x (row_things plan rows q (rows q))) e (subst (λ o. IsIn x (row_things plan rows k o)) (sym is) h))
  listed (q ∷ ks) k r x (inr there) is h = in-right x (row_things plan rows q (rows q)) (things_at plan rows ks) (listed ks k r x there is h)

  one_thing : (k : Key) (x : Thing) (o : Option Row) → rows k ≡ o → IsIn x (row_things plan rows k o) → IsThingOf plan rows x
  one_thing k x None is h = absurd h
  one_thing k x (Some r) is h = (k, r, is, h)

  is_thing : (ks : List Key) (x : Thing) → IsIn x (things_at plan rows ks) → IsThingOf plan rows x
  is_thing [] x h = absurd h
  is_thing (k ∷ ks) x h = by (in-either x (row_things plan rows k (rows k)) (things_at plan rows ks) h) (is_thing ks x)
    where
      by : IsIn x (row_things plan rows k (rows k)) ⊎ IsIn x (things_at plan rows ks) → (IsIn x (things_at plan rows ks) → IsThingOf plan rows x) → IsThingOf plan rows x
      by (inl h) behind = one_thing k x (rows k) refl h
      by (inr h) behind = behind h

-- the things of rows whose keys are among these
things_are : (plan : Ports) (rows : TypedRows) (ks : List Key) → ((k : Key) (r : Row) → rows k ≡ Some r → IsIn k ks) → IsExactly (IsThingOf plan rows) (things_at plan rows ks)
things_are plan rows ks within x = (λ (k, r, is, h). listed plan rows ks k r x (within k r is) is h, is_thing plan rows ks x)

-- the desired view, thing by thing
pub view_is : (plan : Ports) (rows : Rows) → IsExactly (desired_view plan rows) (things_at plan (ready_rows (good_rows plan rows)) (keys_of rows))
view_is plan rows = things_are plan (ready_rows (good_rows plan rows)) (keys_of rows) (λ k r is. good_in plan k rows r (ready-there (good_rows plan rows) k r is))

-- a Set of a written key
abbrev pub set : List ℕ → Pairs → Write
set text fields = write.Set (key_of text) fields

-- what one producer sent
abbrev pub sent_from : ℕ → List Write → List Sent
sent_from n [] = []
sent_from n (w ∷ ws) = record { from = 1; number = n; write = w } ∷ sent_from (suc n) ws

-- room for each kind
abbrev pub room : List ℕ
room = 256 ∷ 4094 ∷ 256 ∷ 256 ∷ 16384 ∷ 1024 ∷ 2048 ∷ 16384 ∷ 16384 ∷ 512 ∷ 16384 ∷ 65536 ∷ []

-- A port and its interface.
abbrev pub wide_plan : Ports
wide_plan = (0, 0 ∷ 1 ∷ 2 ∷ 3 ∷ []) ∷ []

wide_plan_is : plan_of (codes "Ethernet0 0,1,2,3" ∷ []) ≡ Ok wide_plan
wide_plan_is = refl

abbrev pub first_writes : List Write
first_writes =
    set (codes "PORT_TABLE:Ethernet0") ((codes "admin_status", codes "up") ∷ (codes "lanes", codes "0,1,2,3") ∷ [])
    ∷ set (codes "INTF_TABLE:Ethernet0") ((codes "NULL", codes "NULL") ∷ [])
    ∷ []

abbrev pub first_port : Thing
first_port = thing.Port (record { lanes = 0 ∷ 1 ∷ 2 ∷ 3 ∷ []; speed = 100000; mtu = 9100; up = true })

abbrev pub first_interface : Thing
first_interface = thing.Rif (base.Port 0) vrf.Default

pub first_view : IsExactly (desired_view wide_plan (rows_of first_writes)) (first_port ∷ first_interface ∷ [])
first_view = view_is wide_plan (rows_of first_writes)

abbrev pub first_calls : List (Call Rid)
first_calls = call.Create (body.Port (0 ∷ 1 ∷ 2 ∷ 3 ∷ []) 100000 9100 true) ∷ call.Create (body.Rif None (on.Port (record { 0 = 1 }))) ∷ []

first_calls_are_legal : AreLegal room 0 [] first_calls
first_calls_are_legal = (refl, (refl, tt))

first_chip : named (chip_after first_calls 2) ≡ Some first_port ∷ Some first_interface ∷ []
first_chip = refl

abbrev first_sent : List Sent
first_sent = sent_from 0 first_writes

abbrev first_mark : Mark
first_mark = record { taken = 2; effects = 2; event = event.Settled [] 1 }

abbrev first_applied : TypedRows
first_applied = applied_at wide_plan first_sent first_mark []

first_applied_in : (k : Key) (r : Row) → first_applied k ≡ Some r → IsIn k (key.Port 0 ∷ key.Intf (name.Ethernet 0) ∷ [])
first_applied_in k r h = good_in wide_plan k (rows_of first_writes) r h

first_things : IsExactly (IsThingOf wide_plan first_applied) (first_port ∷ first_interface ∷ [])
first_things = things_are wide_plan first_applied (key.Port 0 ∷ key.Intf (name.Ethernet 0) ∷ []) first_applied_in

first_is_closed : IsClosed first_applied
first_is_closed k r h = by (first_applied_in k r h)
  where
    by : IsIn k (key.Port 0 ∷ key.Intf (name.Ethernet 0) ∷ []) → have_rows first_applied (names_of k r) ≡ true
    by (inl e) = subst (λ q. have_rows first_applied (names_of q r) ≡ true) (sym e) refl
    by (inr (inl e)) =
        let is : row.Intf vrf.Default ≡ r = same_Some (row.Intf vrf.Default) r (subst (λ q. first_applied q ≡ Some r) e h) in
        subst (λ q. have_rows first_applied (names_of q r) ≡ true) (sym e) (subst (λ z. have_rows first_applied (names_of (key.Intf (name.Ethernet 0)) z) ≡ true) is refl)
    by (inr (inr h)) = absurd h

first_each : (t : Option Thing) → IsIn t (Some first_port ∷ Some first_interface ∷ []) → (x : Thing) × (t ≡ Some x) × IsThingOf wide_plan first_applied x
first_each t (inl e) = (first_port, e, (first_things first_port).1 (inl refl))
first_each t (inr (inl e)) = (first_interface, e, (first_things first_interface).1 (inr (inl refl)))
first_each t (inr (inr h)) = absurd h

first_apart : Some first_port ≡ Some first_interface → ⊥
first_apart e = cc

first_once : (x : Thing) → IsIn x (first_port ∷ first_interface ∷ []) → IsOnceIn (Some x) (Some first_port ∷ Some first_interface ∷ [])
first_once x (inl e) = inl (ap Some e, alone)
  where
    alone : IsIn (Some x) (Some first_interface ∷ []) → ⊥
    alone (inl f) = first_apart (sym (ap Some e) ∙ f)
    alone (inr h) = h
first_once x (inr (inl e)) = inr (λ f. first_apart (sym f ∙ ap Some e), inl (ap Some e, λ h. h))
first_once x (inr (inr h)) = absurd h

-- with nothing listed the chip holds exactly the things of both rows
first_is_settled : IsSettled wide_plan room first_sent first_calls first_mark []
unfolding IsStrictlySortedBy
first_is_settled = record {
  alike = record { each = first_each; once = λ x h. first_once x ((first_things x).0 h) };
  closed = first_is_closed;
  reasons = tt;
  order = tt;
  kinds = tt;
}

-- Spellings of one key, and a key with host bits.
abbrev host_bits : Key
host_bits = key.Other (codes "ROUTE_TABLE:10.0.0.9/24")

abbrev nine : Prefix
nine = record { ip = record { family = V4; bits = 167772169 }; len = 32 }

spellings : (key_of (codes "ROUTE_TABLE:10.0.0.9") ≡ key.Route vrf.Default nine) × (key_of (codes "ROUTE_TABLE:10.0.0.9/32") ≡ key.Route vrf.Default nine) × (key_of (codes "ROUTE_TABLE:10.0.0.9/24") ≡ host_bits)
spellings = (refl, refl, refl)

abbrev spelled_writes : List Write
spelled_writes =
    set (codes "ROUTE_TABLE:10.0.0.9") ((codes "protocol", codes "static") ∷ [])
    ∷ set (codes "ROUTE_TABLE:10.0.0.9/32") ((codes "blackhole", codes "true") ∷ [])
    ∷ set (codes "ROUTE_TABLE:10.0.0.9/24") ((codes "blackhole", codes "true") ∷ [])
    ∷ []

spelled_rows : rows_of spelled_writes ≡ (key.Route vrf.Default nine, (codes "blackhole", codes "true") ∷ (codes "protocol", codes "static") ∷ []) ∷ (host_bits, (codes "blackhole", codes "true") ∷ []) ∷ []
spelled_rows = refl

host_bits_are_bad : row_of [] host_bits ((codes "blackhole", codes "true") ∷ []) ≡ Err (record { why = HostBits; field = 0 })
host_bits_are_bad = refl

spelled_view : IsExactly (desired_view [] (rows_of spelled_writes)) (thing.Route vrf.Default nine goal.Drop ∷ [])
spelled_view = view_is [] (rows_of spelled_writes)

-- A virtual router with a route in it. Without its row there is neither.
abbrev red : VrfName
red = record { 0 = codes "red" ++ replicate 9 0 }

abbrev red_route : Write
red_route = write.Set (key.Route (vrf.Named red) nine) ((codes "blackhole", codes "true") ∷ [])

abbrev red_writes : List Write
red_writes = red_route ∷ write.Set (key.Vrf red) ((codes "NULL", codes "NULL") ∷ []) ∷ []

red_names : names_of (key.Route (vrf.Named red) nine) (row.Route route.Drop) ≡ key.Vrf red ∷ []
red_names = refl

red_view : IsExactly (desired_view [] (rows_of red_writes)) (thing.VirtualRouter red ∷ thing.Route (vrf.Named red) nine goal.Drop ∷ [])
red_view = view_is [] (rows_of red_writes)

red_alone : IsExactly (desired_view [] (rows_of (red_route ∷ []))) []
red_alone = view_is [] (rows_of (red_route ∷ []))

-- An interface in it: an address of the interface is in its router.
abbrev red_rows : TypedRows
red_rows k = cond (is_at (key_cmp k) (key.Intf (name.Ethernet 0))) (Some (row.Intf (vrf.Named red))) None

red_interface : names_of (key.Intf (name.Ethernet 0)) (row.Intf (vrf.Named red)) ≡ key.Port 0 ∷ key.Vrf red ∷ []
red_interface = refl

red_loopback : names_of (key.Intf (name.Loopback 0)) (row.Intf (vrf.Named red)) ≡ key.Vrf red ∷ []
red_loopback = refl

red_address : placed_things wide_plan red_rows (key.Addr (name.Ethernet 0) nine.ip 24) row.Addr ≡ thing.Own (vrf.Named red) nine.ip ∷ []
red_address = refl

-- and of an interface that has no row, in the default one
far_address : placed_things wide_plan red_rows (key.Addr (name.Vlan 2) nine.ip 24) row.Addr ≡ thing.Own vrf.Default nine.ip ∷ []
far_address = refl
