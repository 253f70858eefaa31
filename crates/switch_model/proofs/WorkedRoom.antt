-- room and steadiness worked out on small tables by computation: nothing cites the examples, and they show that the definitions say what is meant
use Rattle.std.proofs.Common.{◌≡◌, ◌⊎◌, inl, inr, ℕ, true, zero, suc, ◌+◌, ◌≤◌, List, [], ◌∷◌, length, map, None, refl, sym, ap, ◌∙◌, subst, arith}
use Rattle.swss_types.specs.declared.address.Family.TheVariants.{V4}
use Rattle.swss_types.specs.declared.vrf.Packet.{Packet}
use Rattle.swss_types.specs.declared.vrf.Vrf.TheVariants as vrf
use Rattle.swss_types.specs.declared.address.Prefix.{Prefix}
use Rattle.swss_types.specs.declared.interface.IfName.TheVariants as name
use Rattle.table_schema.specs.declared.key.Key.TheVariants as key
use Rattle.sai_types.specs.declared.ids.Rid.{Rid}
use Rattle.sai_types.specs.declared.kind.Kind.{Kind}
use Rattle.sai_types.specs.declared.kind.Kind.TheVariants as kind
use Rattle.sai_types.specs.declared.body.Body.TheVariants as body
use Rattle.sai_types.specs.declared.body.Call.{Call}
use Rattle.sai_types.specs.declared.body.Call.TheVariants as call
use Rattle.sai_types.specs.declared.body.RifOn.TheVariants as on
use Rattle.sai_types.specs.declared.body.To.TheVariants as to
use Rattle.sai_types.specs.declared.hop.Base.TheVariants as base
use Rattle.sai_types.specs.declared.thing.Goal.TheVariants as goal
use Rattle.sai_types.specs.declared.thing.Thing.{Thing}
use Rattle.sai_types.specs.declared.thing.Thing.TheVariants as thing
use Rattle.sai_types.specs.After.{chip_after}
use Rattle.sai_types.specs.Alike.{IsIn}
use Rattle.sai_types.specs.Names.{ThingName, name_of, thing_kind}
use Rattle.sai_types.specs.Forwarding.{decide, forward}
use Rattle.sai_types.specs.Objects.{level, used}
use Rattle.sai_types.specs.Refusal.{capacity_of}
use Rattle.switch_model.specs.Placed as placed
use Rattle.switch_model.specs.Desired.{desired_view}
use Rattle.switch_model.specs.Marks.{AreDistinctNames}
use Rattle.switch_model.specs.Room.{AreKeysOf, FitsTogether, HasRoomForView, IsLacking}
use Rattle.switch_model.specs.Steady.{IsSteady, things_after}
use Rattle.switch_model.specs.Things.{things_of}
use Rattle.table_schema.specs.Rows.{rows_of}
use Rattle.switch_model.proofs.Worked.{first_calls, first_interface, first_port, first_view, first_writes, room, wide_plan}

-- a list without one of its items
without : {X : Type 0} (x : X) (xs : List X) → IsIn x xs → (rest : List X) × (length xs ≡ length rest + 1) × ((y : X) → IsIn y xs → (y ≡ x) ⊎ IsIn y rest)
without {X} x [] h = absurd h
without {X} x (y ∷ ys) (inl e) = (ys, omega arith, here)
  where
    here : (z : X) → IsIn z (y ∷ ys) → (z ≡ x) ⊎ IsIn z ys
    here z (inl f) = inl (f ∙ sym e)
    here z (inr h) = inr h
without {X} x (y ∷ ys) (inr h) =
    let less = without x ys h in
    (y ∷ less.0, omega (arith, less.1), λ z there. by z less.0 (less.2 z) there)
  where
    by : (z : X) (rest : List X) → (IsIn z ys → (z ≡ x) ⊎ IsIn z rest) → IsIn z (y ∷ ys) → (z ≡ x) ⊎ IsIn z (y ∷ rest)
    by z rest f (inl e) = inr (inl e)
    by z rest f (inr h) = other (f h)
      where
        other : (z ≡ x) ⊎ IsIn z rest → (z ≡ x) ⊎ IsIn z (y ∷ rest)
        other (inl e) = inl e
        other (inr h) = inr (inr h)

-- no more distinct names than there are in a list that has them all
few-distinct : (ks all : List ThingName) → AreDistinctNames ks → ((k : ThingName) → IsIn k ks → IsIn k all) → length ks ≤ length all
few-distinct [] all apart within = omega arith
few-distinct (k ∷ ks) all (new, apart) within =
    let less = without k all (within k (inl refl)) in
    let behind = few-distinct ks less.0 apart (λ q there. other q there less.0 (less.2 q (within q (inr there)))) in
    omega (arith, less.1, behind)
  where
    other : (q : ThingName) → IsIn q ks → (rest : List ThingName) → (q ≡ k) ⊎ IsIn q rest → IsIn q rest
    other q there rest (inl e) = absurd (new (subst (λ x. IsIn x ks) e there))
    other q there rest (inr h) = h

-- of things that are among two at most two are of a kind
two-at_most : (view : Thing → Type 0) (x y : Thing) → ((t : Thing) → view t → IsIn t (x ∷ y ∷ [])) → (kind : Kind) (keys : List ThingName) → AreKeysOf view kind keys → length keys ≤ 2
two-at_most view x y within kind keys are = few-distinct keys (name_of x ∷ name_of y ∷ []) are.distinct (λ k there. let t = are.things k there in subst (λ q. IsIn q (name_of x ∷ name_of y ∷ [])) t.1 (named_by t.0 (within t.0 t.3)))
  where
    named_by : (t : Thing) → IsIn t (x ∷ y ∷ []) → IsIn (name_of t) (name_of x ∷ name_of y ∷ [])
    named_by t (inl e) = inl (ap name_of e)
    named_by t (inr (inl e)) = inr (inl (ap name_of e))
    named_by t (inr (inr h)) = absurd h

two-le : (n : ℕ) → 2 ≤ n + 2
two-le n = omega arith

one-le : 1 ≤ 1
one-le = omega arith

none-le : 0 ≤ 1
none-le = omega arith

-- a port and its interface find room
two-fit : (kind : Kind) → 2 ≤ capacity_of room kind
two-fit kind.Port = two-le 254
two-fit kind.Vlan = two-le 4092
two-fit kind.VirtualRouter = two-le 254
two-fit kind.BridgePort = two-le 254
two-fit kind.VlanMember = two-le 16382
two-fit kind.Rif = two-le 1022
two-fit kind.OwnAddress = two-le 2046
two-fit kind.Neighbor = two-le 16382
two-fit kind.NextHop = two-le 16382
two-fit kind.Group = two-le 510
two-fit kind.GroupMember = two-le 16382
two-fit kind.Route = two-le 65534

first_has_room : HasRoomForView room (desired_view wide_plan (rows_of first_writes))
first_has_room kind keys are =
    let few = two-at_most (desired_view wide_plan (rows_of first_writes)) first_port first_interface (λ t h. (first_view t).0 h) kind keys are in
    omega (arith, few, two-fit kind)

-- with no room at all they do not
abbrev no_room : List ℕ
no_room = map (λ n. 0) room

first_lacks_room : HasRoomForView no_room (desired_view wide_plan (rows_of first_writes)) → ⊥
first_lacks_room fits =
    let one : length (name_of first_port ∷ []) ≤ 0 = fits kind.Port (name_of first_port ∷ []) (record { distinct = (λ h. h, tt); things = λ k there. found k there }) in
    absurd (omega (arith, one))
  where
    found : (k : ThingName) → IsIn k (name_of first_port ∷ []) → (t : Thing) × (name_of t ≡ k) × (level (thing_kind t) ≡ level kind.Port) × desired_view wide_plan (rows_of first_writes) t
    found k (inl e) = (first_port, sym e, refl, (first_view first_port).1 (inl refl))
    found k (inr h) = absurd h

-- the chip that holds them fits together with their view also where each kind has room for one alone, since it lacks nothing of it
abbrev one_each : List ℕ
one_each = map (λ n. 1) room

nothing-lacks : (t : Thing) → IsLacking (chip_after first_calls 2) (desired_view wide_plan (rows_of first_writes)) t → ⊥
nothing-lacks t (there, none) = by ((first_view t).0 there)
  where
    by : IsIn t (first_port ∷ first_interface ∷ []) → ⊥
    by (inl e) = none (first_port, inl refl, ap name_of (sym e))
    by (inr (inl e)) = none (first_interface, inr (inl refl), ap name_of (sym e))
    by (inr (inr h)) = h

no-keys : (kind : Kind) (keys : List ThingName) → AreKeysOf (IsLacking (chip_after first_calls 2) (desired_view wide_plan (rows_of first_writes))) kind keys → length keys ≡ 0
no-keys kind [] are = refl
no-keys kind (k ∷ ks) are = let t = are.things k (inl refl) in absurd (nothing-lacks t.0 t.3)

used-one : (kind : Kind) → used (chip_after first_calls 2) kind ≤ capacity_of one_each kind
used-one kind.Port = one-le
used-one kind.Vlan = none-le
used-one kind.VirtualRouter = none-le
used-one kind.BridgePort = none-le
used-one kind.VlanMember = none-le
used-one kind.Rif = one-le
used-one kind.OwnAddress = none-le
used-one kind.Neighbor = none-le
used-one kind.NextHop = none-le
used-one kind.Group = none-le
used-one kind.GroupMember = none-le
used-one kind.Route = none-le

first_fits : FitsTogether one_each (chip_after first_calls 2) (desired_view wide_plan (rows_of first_writes))
first_fits kind keys are = omega (arith, no-keys kind keys are, used-one kind)

-- A route to everybody on the interface is made: one call, before which each address is decided as in the old view, and after which as in the new one.
abbrev net : Prefix
net = record { ip = record { family = V4; bits = 167772160 }; len = 8 }

abbrev route_calls : List (Call Rid)
route_calls = call.Create (body.Port (0 ∷ 1 ∷ 2 ∷ 3 ∷ []) 100000 9100 true) ∷ call.Create (body.Rif None (on.Port (record { 0 = 1 }))) ∷ call.Create (body.Route None net (to.Rif (record { 0 = 2 }))) ∷ []

abbrev new_route : Thing
new_route = thing.Route vrf.Default net (goal.Direct (base.Port 0))

before_route : things_after route_calls 2 ≡ first_port ∷ first_interface ∷ []
before_route = refl

after_route : things_after route_calls 3 ≡ first_port ∷ first_interface ∷ new_route ∷ []
after_route = refl

two_or_three : (k : ℕ) → 2 ≤ k → k ≤ 3 → (k ≡ 2) ⊎ (k ≡ 3)
two_or_three zero low high = absurd (omega (arith, low))
two_or_three (suc zero) low high = absurd (omega (arith, low))
two_or_three (suc (suc zero)) low high = inl refl
two_or_three (suc (suc (suc zero))) low high = inr refl
two_or_three (suc (suc (suc (suc k)))) low high = absurd (omega (arith, high))

abbrev old_things : List Thing
old_things = first_port ∷ first_interface ∷ []

abbrev new_things : List Thing
new_things = first_port ∷ first_interface ∷ new_route ∷ []

route_decided : (a : Packet) (k : ℕ) → (k ≡ 2) ⊎ (k ≡ 3) → (decide (things_after route_calls k) a ≡ decide old_things a) ⊎ (decide (things_after route_calls k) a ≡ decide new_things a)
route_decided a k (inl is) = inl (ap (λ n. decide (things_after route_calls n) a) is)
route_decided a k (inr is) = inr (ap (λ n. decide (things_after route_calls n) a) is)

route_stays : (a : Packet) (k l : ℕ) → (k ≡ 2) ⊎ (k ≡ 3) → (l ≡ 2) ⊎ (l ≡ 3) → k ≤ l → decide (things_after route_calls k) a ≡ decide new_things a → decide (things_after route_calls l) a ≡ decide new_things a
route_stays a k l (inl at) (inl late) le is = ap (λ n. decide (things_after route_calls n) a) (late ∙ sym at) ∙ is
route_stays a k l (inr at) (inl late) le is = absurd (omega (arith, at, late, le))
route_stays a k l at (inr late) le is = ap (λ n. decide (things_after route_calls n) a) late

route_forwarded : (a : Packet) (k : ℕ) → (k ≡ 2) ⊎ (k ≡ 3) → forward old_things a ≡ forward new_things a → forward (things_after route_calls k) a ≡ forward old_things a
route_forwarded a k (inl is) same = ap (λ n. forward (things_after route_calls n) a) is
route_forwarded a k (inr is) same = ap (λ n. forward (things_after route_calls n) a) is ∙ sym same

one_route_is_steady : IsSteady old_things new_things route_calls 2 3
one_route_is_steady = record {
  decided = λ a k proper low high. route_decided a k (two_or_three k low high);
  stays = λ a k l proper low le high is. route_stays a k l (two_or_three k low (omega (arith, le, high))) (two_or_three l (omega (arith, low, le)) high) le is;
  forwarded = λ a k proper low high same. route_forwarded a k (two_or_three k low high) same;
}

-- An address on a port that the plan lacks has no things; on a loopback interface, and on a port of the plan, it has its own.
far_address_is_nothing : things_of wide_plan (key.Addr (name.Ethernet 4) net.ip 24) (placed.Addr vrf.Default) ≡ []
far_address_is_nothing = refl

loopback_address_is_own : things_of wide_plan (key.Addr (name.Loopback 0) net.ip 32) (placed.Addr vrf.Default) ≡ thing.Own vrf.Default net.ip ∷ []
loopback_address_is_own = refl

near_address_is_own : things_of wide_plan (key.Addr (name.Ethernet 0) net.ip 24) (placed.Addr vrf.Default) ≡ thing.Own vrf.Default net.ip ∷ []
near_address_is_own = refl
