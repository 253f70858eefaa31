-- before the first event, and when the operation of a group begins
use Rattle.std.proofs.Common.{◌≡◌, ◌⊎◌, ◌∷◌, ◌++◌, ◌≤◌, ◌∙◌, inl, inr, ℕ, suc, Bool, true, false, List, [], map, length, Option, None, Some, option_map, refl, sym, ap, subst, arith}
use Rattle.std.proofs.lemmas.Option.{same_Some}
use Rattle.swss_types.proofs.Proper.{mapped}
use Rattle.table_schema.specs.Plan.{IsPlan, Ports}
use Rattle.table_schema.specs.declared.key.Key.{Key}
use Rattle.table_schema.specs.declared.key.Key.TheVariants as key
use Rattle.table_schema.specs.declared.row.RouteRow.TheVariants as route
use Rattle.table_schema.specs.declared.row_hop.RowHop.{RowHop}
use Rattle.sai_types.specs.declared.hop.Hop.{Hop}
use Rattle.sai_types.specs.declared.weight.WHop.{WHop}
use Rattle.sai_types.specs.declared.thing.Thing.{Thing}
use Rattle.sai_types.specs.declared.thing.Thing.TheVariants as thing
use Rattle.sai_types.specs.Alike.{IsIn}
use Rattle.sai_types.specs.Named.{those}
use Rattle.switch_model.specs.Things.{base_of, hops_of, lane_of, members_of}
use Rattle.switch_model.specs.Placed as row
use Rattle.switch_model.specs.Placed.{Placed as Row}
use Rattle.row_layout.specs.Operations.{take_all, uses_of}
use Rattle.row_layout.specs.Rows as owner
use Rattle.row_layout.specs.Rows.{Owner, interface_on}
use Rattle.row_layout.specs.Shared.{uses}
use Rattle.row_layout.proofs.Members.{from_in, only}
use Rattle.row_layout.proofs.Naming.{hop_from}
use Rattle.row_layout.proofs.Owners.{interface_by}
use Rattle.switch_machine.specs.Events.{empty_machine}
use Rattle.switch_machine.specs.Flights.{Machine, put}
use Rattle.switch_machine.proofs.Splits.{IsPut, New, Old, put_by, use_row_in}
use Rattle.switch_machine.proofs.Tabled.{address_use, group_use}
use Rattle.ref_counts.specs.Registry.{Names}
use Rattle.ref_counts.specs.Room.{RoomState, all_free}
use Rattle.orch_flight.specs.Grouping.{GroupOperation, IsGroupOver, first_group, first_group_due, neighbour_keys}
use Rattle.orch_flight.specs.Operation.{Operation}
use Rattle.orch_flight.specs.Taking.{to_list}
use Rattle.registry_laws.specs.Flown.{Flown, group_in, group_to_build, group_to_take, left_of_group, whole_group}
use Rattle.registry_laws.specs.Flying.{IsFlown, IsGroupFlown, KnowsBoard, flown_as}
use Rattle.registry_laws.proofs.Aside.{built_state}
use Rattle.registry_laws.proofs.Between.{registers_nothing}
use Rattle.registry_laws.proofs.Listing.{never_none, not_some}

pub board_nothing : (plan : Ports) (capacities : List ℕ) → KnowsBoard plan capacities [] (all_free capacities) (λ w. None) empty_machine
board_nothing plan capacities = record {
  registers = registers_nothing plan 4 capacities few;
  rising = tt;
  busy = λ w f at none. not_some f at;
  idle = λ w at. refl;
  flying = λ w x at. not_some x at;
  placed = λ o w h. absurd cc;
  there = λ o r h. not_some r h;
}
  where
    few : 4 ≤ 4
    few = omega arith

-- ---- the group of an operation

pub group_is_in : (os : List Owner) (hops : List WHop) → group_in os ≡ Some hops → IsIn (owner.Group hops) os
group_is_in [] hops h = not_some hops h
group_is_in (owner.OfRow k ∷ os) hops h = inr (group_is_in os hops h)
group_is_in (owner.Bridge lane ∷ os) hops h = inr (group_is_in os hops h)
group_is_in (owner.Own v ip ∷ os) hops h = inr (group_is_in os hops h)
group_is_in (owner.Group other ∷ os) hops h = inl (ap owner.Group (sym (same_Some other hops h)))

pub built_use : (plan : Ports) (names : Names) (f : Operation) (hops : List WHop) → group_to_build plan names f ≡ Some hops → IsIn (owner.Group hops) (uses_of plan f.key f.new)
built_use plan names f hops h = group_is_in (uses_of plan f.key f.new) hops (built_state names f.worker (group_in (uses_of plan f.key f.new)) hops h).0

pub taken_group : (x : Option Owner) (hops : List WHop) → group_in (to_list x) ≡ Some hops → x ≡ Some (owner.Group hops)
taken_group None hops h = not_some hops h
taken_group (Some o) hops h = by (group_is_in (o ∷ []) hops h)
  where
    by : IsIn (owner.Group hops) (o ∷ []) → Some o ≡ Some (owner.Group hops)
    by (inl e) = ap Some (sym e)
    by (inr g) = elim g [ ]

-- ---- each hop of a group is on an interface of the plan

all_those : {X Y : Type 0} (f : X → Option Y) (xs : List X) → ((x : X) → IsIn x xs → (y : Y) × (f x ≡ Some y)) → length (those (map f xs)) ≡ length xs
all_those f [] h = refl
all_those f (x ∷ xs) h =
    let first = h x (inl refl) in
    let rest = all_those f xs (λ z i. h z (inr i)) in
    ap (λ o. length (those (o ∷ map f xs))) first.1 ∙ ap suc rest

module _ (plan : Ports) (is : IsPlan plan) where
  on_interface : (rows : List (RowHop × ℕ)) (hops : List WHop) → hops_of plan rows ≡ Some hops → (hop : WHop) → IsIn hop hops → (q : Key) × (option_map (λ n. key.Neigh n hop.hop.ip) (interface_on plan hop.hop.on) ≡ Some q)
  on_interface rows hops e hop i =
      let (h, in_it, at) = hop_from plan rows hops hop e i in
      let b = mapped (λ b. record { on = b; ip = h.0.ip }) (base_of plan h.0.on) hop.hop at in
      let on : b.0 ≡ hop.hop.on = ap (λ (z : Hop). z.on) b.2 in
      (key.Neigh h.0.on hop.hop.ip, ap (option_map (λ n. key.Neigh n hop.hop.ip)) (subst (λ z. interface_on plan z ≡ Some h.0.on) on (interface_by plan is h.0.on b.0 b.1)))

  hops_on : (k : Key) (r : Row) (hops : List WHop) → IsIn (owner.Group hops) (uses plan k r) → (hop : WHop) → IsIn hop hops → (q : Key) × (option_map (λ n. key.Neigh n hop.hop.ip) (interface_on plan hop.hop.on) ≡ Some q)
  hops_on (key.Route v prefix) (row.Route (route.Hops rows)) hops h =
      let x = group_use (owner.Group hops) (hops_of plan rows) h in
      let same : hops ≡ x.0 = cc in
      on_interface rows hops (x.1 ∙ ap Some (sym same))
  hops_on (key.Route v prefix) (row.Route route.Drop) hops h = elim h [ ]
  hops_on (key.Route v prefix) (row.Route (route.Direct i)) hops h = elim h [ ]
  hops_on (key.Member v p) (row.Member t) hops h = absurd (only (λ o. owner.Group hops ≡ o → ⊥) (owner.Group hops) _ (λ z. cc) (from_in (lane_of plan p) (λ lane. owner.Bridge lane ∷ []) (owner.Group hops) h).2 refl)
  hops_on (key.Addr i ip len) (row.Addr v) hops h = let z = address_use plan i v ip (owner.Group hops) h in absurd cc
  hops_on _ _ hops h = elim h [ ]

-- ---- the operation of a group begins

takes_something : {X : Type 0} (ts : List Thing) (t : Thing) → take_all (ts ++ t ∷ []) [] ≡ [] → X
takes_something [] t h = absurd cc
takes_something (x ∷ ts) t h = absurd cc

pub first_some : (hops : List WHop) (b : Bool) → first_group_due hops b ≡ [] → ⊥
first_some hops true h = cc
first_some hops false h = takes_something (members_of hops hops) (thing.Group hops) h

module _ (plan : Ports) (names : Names) (f : Operation) (w : ℕ) (worker : f.worker ≡ w) (hops : List WHop) where
  first_flown : (b : Bool) → ((b ≡ true) × (group_to_build plan names f ≡ Some hops)) ⊎ ((b ≡ false) × (group_to_take f ≡ Some hops)) → IsGroupOver plan (first_group plan w hops b) → IsGroupFlown plan names f (first_group plan w hops b)
  first_flown b is over = record {
    worker = sym worker;
    is = is;
    over = over;
    some = first_some hops b;
    rest = ([], refl, λ h. refl);
  }

-- with another state of the group that is under way
module _ (plan : Ports) (capacities : List ℕ) (names : Names) (room : RoomState) (flown : ℕ → Option Flown) (m : Machine) (board : KnowsBoard plan capacities names room flown m) (w : ℕ) (x : Flown) (at : flown w ≡ Some x) where
  was : IsFlown plan names m w x
  was = board.flying w x at

  board_grouped : (g : GroupOperation) → left_of_group x.group (whole_group (group_to_build plan names x.operation) (group_to_take x.operation)) ≡ g.due → IsGroupFlown plan names x.operation g → KnowsBoard plan capacities names room (put w (Some (flown_as x.operation (Some g))) flown) m
  board_grouped g due grouped = record {
    registers = board.registers;
    rising = board.rising;
    busy = board.busy;
    idle = λ v none. idle v (put_by w v (Some y) flown None none);
    flying = λ v z there. flying v z (put_by w v (Some y) flown (Some z) there);
    placed = board.placed;
    there = board.there;
  }
    where
      y : Flown
      y = flown_as x.operation (Some g)

      now : IsFlown plan names m w (flown_as x.operation (Some g))
      now = record {
        flying = was.flying;
        worker = was.worker;
        due = was.due ∙ ap (λ z. z ++ x.operation.due) due;
        over = was.over;
        some = was.some;
        rest = was.rest;
        between = was.between;
        standing = was.standing;
        later = was.later;
        group = λ h e. subst (IsGroupFlown plan names x.operation) (same_Some g h e) grouped;
        beyond = was.beyond;
        reserves = was.reserves;
      }

      idle : (v : ℕ) → IsPut w v (Some y) flown None → m.board.flights v ≡ None
      idle v (New e one) = never_none y one
      idle v (Old apart there) = board.idle v there

      flying : (v : ℕ) (z : Flown) → IsPut w v (Some y) flown (Some z) → IsFlown plan names m v z
      flying v z (New e one) = subst (IsFlown plan names m v) (same_Some y z one) (subst (λ u. IsFlown plan names m u y) (sym e) now)
      flying v z (Old apart there) = board.flying v z there

  pub builds_begun : (hops : List WHop) → x.group ≡ None → group_to_build plan names x.operation ≡ Some hops → KnowsBoard plan capacities names room (put w (Some (flown_as x.operation (Some (first_group plan w hops true)))) flown) m
  builds_begun hops none builds =
      board_grouped (first_group plan w hops true)
      (ap (λ g. left_of_group g (whole_group (group_to_build plan names x.operation) (group_to_take x.operation))) none ∙ ap (λ b. whole_group b (group_to_take x.operation)) builds)
      (first_flown plan names x.operation w was.worker hops true (inl (refl, builds)) (λ h. (refl, over)))
    where
      over : length (neighbour_keys plan hops) ≡ length hops
      over =
          let used = use_row_in plan x.operation.key x.operation.new (owner.Group hops) (built_use plan names x.operation hops builds) in
          all_those (λ (h : WHop). option_map (λ n. key.Neigh n h.hop.ip) (interface_on plan h.hop.on)) hops (hops_on plan was.over.plans x.operation.key used.0 hops used.2)

  pub takes_begun : (hops : List WHop) → x.group ≡ None → group_to_build plan names x.operation ≡ None → group_to_take x.operation ≡ Some hops → KnowsBoard plan capacities names room (put w (Some (flown_as x.operation (Some (first_group plan w hops false)))) flown) m
  takes_begun hops none builds takes =
      board_grouped (first_group plan w hops false)
      (ap (λ g. left_of_group g (whole_group (group_to_build plan names x.operation) (group_to_take x.operation))) none ∙ ap (λ b. whole_group b (group_to_take x.operation)) builds ∙ ap (whole_group None) takes)
      (first_flown plan names x.operation w was.worker hops false (inr (refl, takes)) (λ h. absurd cc))
