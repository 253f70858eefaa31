-- the changes that are left of a row's operation, in their order
use Rattle.std.proofs.Common.{◌≡◌, ◌⊎◌, ◌∷◌, ◌++◌, inl, inr, ℕ, Bool, true, false, List, [], Option, None, Some, option_map, refl, sym, ap, subst, if◌then◌else◌}
use Rattle.swss_types.specs.Vrf.{same_vrf}
use Rattle.swss_types.specs.declared.vrf.Vrf.{Vrf}
use Rattle.table_schema.specs.Plan.{IsPlan, Ports}
use Rattle.table_schema.specs.declared.key.Key.{Key}
use Rattle.table_schema.specs.declared.key.Key.TheVariants as key
use Rattle.sai_types.specs.declared.hop.Base.{Base}
use Rattle.sai_types.specs.declared.hop.Hop.{Hop}
use Rattle.sai_types.specs.declared.weight.WHop.{WHop}
use Rattle.sai_types.specs.declared.thing.Thing.{Thing}
use Rattle.sai_types.specs.declared.thing.Thing.TheVariants as thing
use Rattle.sai_types.specs.Alike.{IsIn}
use Rattle.sai_types.specs.Named.{first_lane}
use Rattle.sai_types.specs.Names as thing_name
use Rattle.sai_types.specs.Names.{name_of}
use Rattle.switch_model.specs.Things.{base_of, lane_of}
use Rattle.switch_model.specs.Placed as row
use Rattle.switch_model.specs.Placed.{Placed as Row}
use Rattle.row_layout.specs.Operations.{Change, Make, Set, Take, going, make_all, own_changes, own_sets, thing_of_port, same_thing, set_all, set_to, take_all}
use Rattle.row_layout.specs.Rows as owner
use Rattle.row_layout.specs.Rows.{Owner, from, goal_of, own_things}
use Rattle.row_layout.proofs.Changing.{set_same}
use Rattle.row_layout.proofs.Owners.{port_by}
use Rattle.switch_machine.specs.Changes.{changed_name, Disturbs}
use Rattle.switch_machine.specs.Flights.{Fits, IsOwnedBy, IsShared, goes_over}
use Rattle.switch_machine.specs.Tables.{AreNamedApart}
use Rattle.switch_machine.proofs.Ordered.{ordered}
use Rattle.switch_machine.proofs.Running.{one_owner, shared_row}
use Rattle.switch_machine.proofs.Tabled.{tabled}
use Rattle.switch_machine.proofs.Beginning.{take_in}
use Rattle.orch_flight.specs.Operation.{Operation}
use Rattle.orch_flight.specs.Starting.{built_here, taken_here}
use Rattle.registry_laws.specs.Answering.{IsOfGroup}
use Rattle.registry_laws.specs.Flying.{IsRestFrom}
use Rattle.registry_laws.proofs.Listing.{never_none}
use Rattle.registry_laws.proofs.Going.{GoesOver}

-- one thing at most
abbrev IsSmall : List Thing → Type 0
IsSmall ts = (ts ≡ []) ⊎ ((t : Thing) × (ts ≡ t ∷ []))

from_small : {X : Type 0} (o : Option X) (g : X → Thing) → IsSmall (from o (λ x. g x ∷ []))
from_small None g = inl refl
from_small (Some x) g = inr (g x, refl)

nothing_set : (ts : List Thing) → set_all ts [] ≡ []
nothing_set [] = refl
nothing_set (t ∷ ts) = refl

-- the thing of a port
abbrev pub IsPort : Thing → Type 0
IsPort (thing.Port p) = Unit {0}
IsPort _ = ⊥

-- nothing but removals
abbrev pub AreTaken : List Change → Type 0
AreTaken [] = Unit {0}
AreTaken (Take n ∷ cs) = AreTaken cs
AreTaken _ = ⊥

pub take_taken : (ts : List Thing) → AreTaken (take_all ts [])
take_taken [] = tt
take_taken (t ∷ ts) = take_taken ts

-- the router interface is made again
abbrev pub IsMadeAgain : List Change → Type 0
IsMadeAgain cs = (b : Base) × (v : Vrf) × (cs ≡ Make (thing.Rif b v) ∷ [])

module _ (plan : Ports) (k : Key) (old new : Option Row) where
  -- a thing of the row is made where no row is applied, or the applied one goes over; a thing is set where one is and stays, and is the last, but for a port's; what is taken away is not changed again, and only removals come behind it, or it is made again
  abbrev pub IsInOrder : Change → List Change → Type 0
  IsInOrder (Make t) cs = IsOwnedBy plan (name_of t) (owner.OfRow k) → (old ≡ None) ⊎ GoesOver k old new
  IsInOrder (Set u) cs = (old ≡ None → ⊥) × (IsPort u ⊎ (cs ≡ [])) × (goes_over k old new ≡ false)
  IsInOrder (Take n) cs = ((d : Change) → IsIn d cs → Disturbs d n → ⊥) × (AreTaken cs ⊎ (GoesOver k old new × IsMadeAgain cs))

  abbrev pub IsOther : Change → Type 0
  IsOther c = IsOfGroup plan c → ⊥

  abbrev pub AreInOrder : List Change → Type 0
  AreInOrder [] = Unit {0}
  AreInOrder (c ∷ cs) = IsOther c × IsInOrder c cs × AreInOrder cs

  pub order_of : (before due : List Change) → AreInOrder (before ++ due) → AreInOrder due
  order_of [] due h = h
  order_of (b ∷ before) due h = order_of before due h.2

  pub none_of_group : (due : List Change) (c : Change) → AreInOrder due → IsIn c due → IsOfGroup plan c → ⊥
  none_of_group [] c h i = λ _. i
  none_of_group (d ∷ due) c h (inl e) = λ of. h.0 (subst (IsOfGroup plan) e of)
  none_of_group (d ∷ due) c h (inr i) = none_of_group due c h.2 i

  -- what belongs to a row is of no group
  row_other : (c : Change) → IsOwnedBy plan (changed_name c) (owner.OfRow k) → IsOther c
  row_other c of (hops, its) = shared_row (owner.Group hops) k tt (one_owner plan (changed_name c) (owner.Group hops) (owner.OfRow k) its of)

  -- ---- things are made

  make_order : old ≡ None → (ts : List Thing) → ((t : Thing) → IsIn t ts → IsOwnedBy plan (name_of t) (owner.OfRow k)) → AreInOrder (make_all ts [])
  make_order none [] own = tt
  make_order none (t ∷ ts) own = (row_other (Make t) (own t (inl refl)), λ _. inl none, make_order none ts (λ u h. own u (inr h)))

  -- ---- things are taken away

  take_order : (ts : List Thing) → AreNamedApart ts → ((t : Thing) → IsIn t ts → IsOther (Take (name_of t))) → AreInOrder (take_all ts [])
  take_order [] apart other = tt
  take_order (t ∷ ts) apart other = (
    other t (inl refl),
    (λ d h e. let x = take_in ts d h in apart.0 x.0 x.1 (subst (λ z. Disturbs z (name_of t)) x.2 e), inl (take_taken ts)),
    take_order ts apart.1 (λ u h. other u (inr h)),
  )

  -- ---- things are set

  module _ (some : old ≡ None → ⊥) (stays : goes_over k old new ≡ false) where
    set_order : (t u : Thing) (rest : List Change) → IsOwnedBy plan (name_of u) (owner.OfRow k) → IsPort u ⊎ (rest ≡ []) → AreInOrder rest → AreInOrder (set_to t u rest)
    set_order t u rest own last h = by (same_thing t u)
      where
        by : (b : Bool) → AreInOrder (if b then rest else Set u ∷ rest)
        by true = h
        by false = (row_other (Set u) own, (some, last, stays), h)

    -- one thing at most is set
    small_order : (ts us : List Thing) → ((u : Thing) → IsIn u us → IsOwnedBy plan (name_of u) (owner.OfRow k)) → IsSmall us → AreInOrder (set_all ts us)
    small_order [] us own small = tt
    small_order (t ∷ ts) us own (inl none) = subst (λ z. AreInOrder (set_all (t ∷ ts) z)) (sym none) tt
    small_order (t ∷ ts) us own (inr (u, one)) = subst (λ z. AreInOrder (set_all (t ∷ ts) z)) (sym one) (set_order t u (set_all ts []) (own u (subst (IsIn u) (sym one) (inl refl))) (inr (nothing_set ts)) (subst AreInOrder (sym (nothing_set ts)) tt))

module _ (plan : Ports) (is : IsPlan plan) where
  owned : (k : Key) (r : Row) → Fits plan k r → (t : Thing) → IsIn t (own_things plan k r) → IsOwnedBy plan (name_of t) (owner.OfRow k)
  owned k r fits t h = (tabled plan is).own k r t fits h

  sets_order : (k : Key) (a r : Row) → Fits plan k a → Fits plan k r → AreInOrder plan k (Some a) (Some r) (own_sets plan k a r)
  sets_order (key.Port p) (row.Port a) (row.Port r) fa fr =
      let one = λ (s m : ℕ) (u : Bool). ap (option_map (λ q. owner.OfRow (key.Port q))) (port_by plan is p (first_lane a.lanes) (ap (option_map first_lane) fa)) in
      set_order plan (key.Port p) (Some (row.Port a)) (Some (row.Port r)) (never_none (row.Port a)) refl (thing_of_port a.lanes a.speed a.mtu a.up) (thing_of_port a.lanes r.speed a.mtu a.up) (set_to (thing_of_port a.lanes r.speed a.mtu a.up) (thing_of_port a.lanes r.speed r.mtu a.up) (set_to (thing_of_port a.lanes r.speed r.mtu a.up) (thing_of_port a.lanes r.speed r.mtu r.up) [])) (one r.speed a.mtu a.up) (inl tt)
      (set_order plan (key.Port p) (Some (row.Port a)) (Some (row.Port r)) (never_none (row.Port a)) refl (thing_of_port a.lanes r.speed a.mtu a.up) (thing_of_port a.lanes r.speed r.mtu a.up) (set_to (thing_of_port a.lanes r.speed r.mtu a.up) (thing_of_port a.lanes r.speed r.mtu r.up) []) (one r.speed r.mtu a.up) (inl tt)
      (set_order plan (key.Port p) (Some (row.Port a)) (Some (row.Port r)) (never_none (row.Port a)) refl (thing_of_port a.lanes r.speed r.mtu a.up) (thing_of_port a.lanes r.speed r.mtu r.up) [] (one r.speed r.mtu r.up) (inl tt) tt))
  sets_order (key.Port p) (row.Port a) r fa fr = elim fr [ ]
  sets_order (key.Port p) a r fa fr = elim fa [ ]
  sets_order (key.Vlan v) a row.Vlan fa fr = small_order plan (key.Vlan v) (Some a) (Some row.Vlan) (never_none a) refl (own_things plan (key.Vlan v) a) (thing.Vlan v ∷ []) (owned (key.Vlan v) row.Vlan fr) (inr (thing.Vlan v, refl))
  sets_order (key.Vlan v) a r fa fr = elim fr [ ]
  sets_order (key.Vrf label) a row.Vrf fa fr = small_order plan (key.Vrf label) (Some a) (Some row.Vrf) (never_none a) refl (own_things plan (key.Vrf label) a) (thing.VirtualRouter label ∷ []) (owned (key.Vrf label) row.Vrf fr) (inr (thing.VirtualRouter label, refl))
  sets_order (key.Vrf label) a r fa fr = elim fr [ ]
  sets_order (key.Member v p) a (row.Member x) fa fr = small_order plan (key.Member v p) (Some a) (Some (row.Member x)) (never_none a) refl (own_things plan (key.Member v p) a) (own_things plan (key.Member v p) (row.Member x)) (owned (key.Member v p) (row.Member x) fr) (from_small (lane_of plan p) (λ lane. thing.VlanMember v lane x))
  sets_order (key.Member v p) a r fa fr = elim fr [ ]
  sets_order (key.Intf n) (row.Intf v) (row.Intf w) fa fr = by (same_vrf v w) refl
    where
      again : same_vrf v w ≡ false → (o : Option Base) → ((t : Thing) → IsIn t (from o (λ b. thing.Rif b v ∷ [])) → IsOwnedBy plan (name_of t) (owner.OfRow (key.Intf n))) → AreInOrder plan (key.Intf n) (Some (row.Intf v)) (Some (row.Intf w)) (take_all (from o (λ b. thing.Rif b v ∷ [])) (make_all (from o (λ b. thing.Rif b w ∷ [])) []))
      again e None own = tt
      again e (Some b) own =
          let over : GoesOver (key.Intf n) (Some (row.Intf v)) (Some (row.Intf w)) = record { on = n; router_was = v; router_is = w; key_is = refl; old_is = refl; new_is = refl; apart = e } in
          let of = own (thing.Rif b v) (inl refl) in (
            row_other plan (key.Intf n) (Some (row.Intf v)) (Some (row.Intf w)) (Take (thing_name.Rif b)) of,
            (not_made b, inr (over, (b, w, refl))),
            (row_other plan (key.Intf n) (Some (row.Intf v)) (Some (row.Intf w)) (Make (thing.Rif b w)) of, λ _. inr over, tt),
          )
        where
          not_made : (b : Base) (d : Change) → IsIn d (Make (thing.Rif b w) ∷ []) → Disturbs d (thing_name.Rif b) → ⊥
          not_made b d (inl is) h = subst (λ z. Disturbs z (thing_name.Rif b)) is h
          not_made b d (inr i) h = i

      by : (t : Bool) → same_vrf v w ≡ t → AreInOrder plan (key.Intf n) (Some (row.Intf v)) (Some (row.Intf w)) (if t then [] else take_all (own_things plan (key.Intf n) (row.Intf v)) (make_all (own_things plan (key.Intf n) (row.Intf w)) []))
      by true e = tt
      by false e = again e (base_of plan n) (owned (key.Intf n) (row.Intf v) fa)
  sets_order (key.Intf n) (row.Intf v) r fa fr = elim fr [ ]
  sets_order (key.Intf n) a r fa fr = elim fa [ ]
  sets_order (key.Addr n ip len) a (row.Addr v) fa fr = small_order plan (key.Addr n ip len) (Some a) (Some (row.Addr v)) (never_none a) refl (own_things plan (key.Addr n ip len) a) [] (owned (key.Addr n ip len) (row.Addr v) fr) (inl refl)
  sets_order (key.Addr n ip len) a r fa fr = elim fr [ ]
  sets_order (key.Neigh n ip) (row.Neigh x) (row.Neigh y) fa fr = by (base_of plan n) (owned (key.Neigh n ip) (row.Neigh y) fr)
    where
      by : (o : Option Base) → ((t : Thing) → IsIn t (from o (λ b. thing.Neighbor (record { on = b; ip = ip }) y ∷ thing.NextHop (record { on = b; ip = ip }) ∷ [])) → IsOwnedBy plan (name_of t) (owner.OfRow (key.Neigh n ip))) → AreInOrder plan (key.Neigh n ip) (Some (row.Neigh x)) (Some (row.Neigh y)) (set_all (from o (λ b. thing.Neighbor (record { on = b; ip = ip }) x ∷ thing.NextHop (record { on = b; ip = ip }) ∷ [])) (from o (λ b. thing.Neighbor (record { on = b; ip = ip }) y ∷ thing.NextHop (record { on = b; ip = ip }) ∷ [])))
      by None own = tt
      by (Some b) own =
          let hop : Hop = record { on = b; ip = ip } in
          let same = set_same (thing.NextHop hop ∷ []) in
          set_order plan (key.Neigh n ip) (Some (row.Neigh x)) (Some (row.Neigh y)) (never_none (row.Neigh x)) refl (thing.Neighbor hop x) (thing.Neighbor hop y) (set_all (thing.NextHop hop ∷ []) (thing.NextHop hop ∷ [])) (own (thing.Neighbor hop y) (inl refl)) (inr same) (subst (AreInOrder plan (key.Neigh n ip) (Some (row.Neigh x)) (Some (row.Neigh y))) (sym same) tt)
  sets_order (key.Neigh n ip) (row.Neigh x) r fa fr = elim fr [ ]
  sets_order (key.Neigh n ip) a r fa fr = elim fa [ ]
  sets_order (key.Route v prefix) a (row.Route r) fa fr = small_order plan (key.Route v prefix) (Some a) (Some (row.Route r)) (never_none a) refl (own_things plan (key.Route v prefix) a) (own_things plan (key.Route v prefix) (row.Route r)) (owned (key.Route v prefix) (row.Route r) fr) (from_small (goal_of plan r) (thing.Route v prefix))
  sets_order (key.Route v prefix) a r fa fr = elim fr [ ]
  sets_order (key.Other text) a r fa fr = elim fr [ ]

  own_order : (k : Key) (old new : Option Row) → ((r : Row) → old ≡ Some r → Fits plan k r) → ((r : Row) → new ≡ Some r → Fits plan k r) → AreInOrder plan k old new (own_changes plan k old new)
  own_order k None None fo fn = tt
  own_order k None (Some r) fo fn = make_order plan k None (Some r) refl (own_things plan k r) (owned k r (fn r refl))
  own_order k (Some a) None fo fn = take_order plan k (Some a) None (going plan k a) ((ordered plan is).going_apart k a (fo a refl)) (λ t h. row_other plan k (Some a) None (Take (name_of t)) (owned k a (fo a refl) t (((ordered plan is).going_same k a).into t h)))
  own_order k (Some a) (Some r) fo fn = sets_order k a r (fo a refl) (fn r refl)

  module _ (k : Key) (old new : Option Row) where
    -- what is of a bridge port or an own address is of no row and no group
    shared_made : (o : Owner) (t : Thing) (own : List Change) → IsShared o → IsOwnedBy plan (name_of t) o → ((hops : List WHop) → o ≡ owner.Group hops → ⊥) → AreInOrder plan k old new own → AreInOrder plan k old new (Make t ∷ own)
    shared_made o t own shared its apart h = (
      (λ g. apart g.0 (one_owner plan (name_of t) o (owner.Group g.0) its g.1)),
      (λ of. absurd (shared_row o k shared (one_owner plan (name_of t) o (owner.OfRow k) its of))),
      h,
    )

    built_order : (builds : Option Owner) (own : List Change) → AreInOrder plan k old new own → AreInOrder plan k old new (built_here builds own)
    built_order None own h = h
    built_order (Some (owner.OfRow q)) own h = h
    built_order (Some (owner.Bridge lane)) own h = shared_made (owner.Bridge lane) (thing.BridgePort lane) own tt refl (λ hops e. cc) h
    built_order (Some (owner.Own v ip)) own h = shared_made (owner.Own v ip) (thing.Own v ip) own tt refl (λ hops e. cc) h
    built_order (Some (owner.Group hops)) own h = h

    taken_order : (x : Option Owner) → AreInOrder plan k old new (taken_here x)
    taken_order None = tt
    taken_order (Some (owner.OfRow q)) = tt
    taken_order (Some (owner.Bridge lane)) = (λ g. let z = one_owner plan (thing_name.BridgePort lane) (owner.Bridge lane) (owner.Group g.0) refl g.1 in absurd cc, ((λ d h e. elim h [ ]), inl tt), tt)
    taken_order (Some (owner.Own v ip)) = (λ g. let z = one_owner plan (thing_name.Own v ip) (owner.Own v ip) (owner.Group g.0) refl g.1 in absurd cc, ((λ d h e. elim h [ ]), inl tt), tt)
    taken_order (Some (owner.Group hops)) = tt

  -- what is due for a row's operation is in its order
  pub rest_order : (old : Option Row) (f : Operation) → ((r : Row) → old ≡ Some r → Fits plan f.key r) → ((r : Row) → f.new ≡ Some r → Fits plan f.key r) → IsRestFrom plan old f → AreInOrder plan f.key old f.new f.due
  rest_order old f fo fn (inl (_, (builds, (before, e)))) = order_of plan f.key old f.new before f.due (subst (AreInOrder plan f.key old f.new) e (built_order f.key old f.new builds (own_changes plan f.key old f.new) (own_order f.key old f.new fo fn)))
  rest_order old f fo fn (inr (before, e)) = order_of plan f.key old f.new before f.due (subst (AreInOrder plan f.key old f.new) e (taken_order f.key old f.new f.retires))
