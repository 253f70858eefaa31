-- the things of a row are its own and those of what it uses
use Rattle.std.proofs.Common.{◌≡◌, ◌⊎◌, inl, inr, ℕ, List, [], ◌∷◌, Option, None, Some, option_map, refl, subst}
use Rattle.swss_types.specs.declared.address.Ip.{Ip}
use Rattle.swss_types.specs.declared.address.Prefix.{Prefix}
use Rattle.swss_types.specs.declared.interface.IfName.{IfName}
use Rattle.swss_types.specs.declared.interface.IfName.TheVariants as name
use Rattle.swss_types.specs.declared.vrf.Vrf.{Vrf}
use Rattle.table_schema.specs.Plan.{Ports}
use Rattle.table_schema.specs.declared.key.Key.{Key}
use Rattle.table_schema.specs.declared.key.Key.TheVariants as key
use Rattle.table_schema.specs.declared.row.RouteRow.TheVariants as route
use Rattle.sai_types.specs.declared.hop.Base.{Base}
use Rattle.sai_types.specs.declared.weight.WHop.{WHop}
use Rattle.sai_types.specs.declared.thing.Goal.TheVariants as goal
use Rattle.sai_types.specs.declared.thing.Thing.{Thing}
use Rattle.sai_types.specs.declared.thing.Thing.TheVariants as thing
use Rattle.sai_types.specs.Alike.{IsIn}
use Rattle.switch_model.specs.Placed as row
use Rattle.switch_model.specs.Placed.{Placed as Row}
use Rattle.switch_model.specs.Things.{address_things, base_of, from_base, from_hops, from_lane, hops_of, lane_of, members_of, things_of}
use Rattle.row_layout.specs.Rows.{Owner, Bridge, Own, Group, from, goal_to, own_things}
use Rattle.row_layout.specs.Shared.{IsOf, address_uses, group_by, shared_things, uses}

-- lists with the same items
pub record Splits (all own : List Thing) (used : List Owner) : Type 0 where
  pub into : (x : Thing) → IsIn x all → IsOf own used x
  pub back : (x : Thing) → IsOf own used x → IsIn x all

no_owner : {X : Type 0} (o : Owner) → IsIn o [] → X
no_owner o h = elim h [ ]

all_own : (own : List Thing) → Splits own own []
all_own own = record { into = λ x h. inl h; back = by }
  where
    by : (x : Thing) → IsOf own [] x → IsIn x own
    by x (inl h) = h
    by x (inr h) = no_owner h.0 h.1

lane_own : (f : ℕ → List Thing) (o : Option ℕ) → Splits (from_lane f o) (from o f) []
lane_own f None = all_own []
lane_own f (Some lane) = all_own (f lane)

base_own : (f : Base → List Thing) (o : Option Base) → Splits (from_base f o) (from o f) []
base_own f None = all_own []
base_own f (Some b) = all_own (f b)

-- a row with one thing of its own, and one that it uses
with_one : (own rest : List Thing) (o : Owner) → ((x : Thing) → IsIn x rest → IsIn x (shared_things o) ⊎ IsIn x own) → ((x : Thing) → IsIn x (shared_things o) → IsIn x rest) → ((x : Thing) → IsIn x own → IsIn x rest) → Splits rest own (o ∷ [])
with_one own rest o parts shared mine = record { into = λ x h. into x (parts x h); back = back }
  where
    into : (x : Thing) → IsIn x (shared_things o) ⊎ IsIn x own → IsOf own (o ∷ []) x
    into x (inl h) = inr (o, inl refl, h)
    into x (inr h) = inl h

    of_one : (x : Thing) (p : Owner) → (p ≡ o) ⊎ ⊥ → IsIn x (shared_things p) → IsIn x rest
    of_one x p (inl is) h = shared x (subst (λ z. IsIn x (shared_things z)) is h)
    of_one x p (inr no_more) h = elim no_more [ ]

    back : (x : Thing) → IsOf own (o ∷ []) x → IsIn x rest
    back x (inl h) = mine x h
    back x (inr h) = of_one x h.0 h.1 h.2

member_split : (vlan : ℕ) (t : ℕ → Thing) (o : Option ℕ) → Splits (from_lane (λ lane. thing.BridgePort lane ∷ t lane ∷ []) o) (from o (λ lane. t lane ∷ [])) (from o (λ lane. Bridge lane ∷ []))
member_split vlan t None = all_own []
member_split vlan t (Some lane) = with_one (t lane ∷ []) (thing.BridgePort lane ∷ t lane ∷ []) (Bridge lane) parts (λ x h. shared x h) (λ x h. inr h)
  where
    parts : (x : Thing) → IsIn x (thing.BridgePort lane ∷ t lane ∷ []) → IsIn x (thing.BridgePort lane ∷ []) ⊎ IsIn x (t lane ∷ [])
    parts x (inl is) = inl (inl is)
    parts x (inr h) = inr h

    shared : (x : Thing) → IsIn x (thing.BridgePort lane ∷ []) → IsIn x (thing.BridgePort lane ∷ t lane ∷ [])
    shared x (inl is) = inl is
    shared x (inr h) = elim h [ ]

-- an own address is what its row uses
address_alone : (v : Vrf) (ip : Ip) → Splits (thing.Own v ip ∷ []) [] (Own v ip ∷ [])
address_alone v ip = with_one [] (thing.Own v ip ∷ []) (Own v ip) (λ x h. inl h) (λ x h. h) (λ x h. elim h [ ])

lane_address : (v : Vrf) (ip : Ip) (o : Option ℕ) → Splits (from_lane (λ lane. thing.Own v ip ∷ []) o) [] (from o (λ lane. Own v ip ∷ []))
lane_address v ip None = all_own []
lane_address v ip (Some lane) = address_alone v ip

address_split : (plan : Ports) (on : IfName) (v : Vrf) (ip : Ip) → Splits (address_things plan on v ip) [] (address_uses plan on v ip)
address_split plan (name.Ethernet port) v ip = lane_address v ip (lane_of plan port)
address_split plan (name.Vlan vlan) v ip = address_alone v ip
address_split plan (name.Loopback number) v ip = address_alone v ip

group_split : (v : Vrf) (prefix : Prefix) (group : List WHop) → Splits (thing.Route v prefix (goal.Group group) ∷ thing.Group group ∷ members_of group group) (thing.Route v prefix (goal.Group group) ∷ []) (Group group ∷ [])
group_split v prefix group = with_one (thing.Route v prefix (goal.Group group) ∷ []) (thing.Route v prefix (goal.Group group) ∷ thing.Group group ∷ members_of group group) (Group group) parts (λ x h. inr h) mine
  where
    parts : (x : Thing) → IsIn x (thing.Route v prefix (goal.Group group) ∷ thing.Group group ∷ members_of group group) → IsIn x (thing.Group group ∷ members_of group group) ⊎ IsIn x (thing.Route v prefix (goal.Group group) ∷ [])
    parts x (inl is) = inr (inl is)
    parts x (inr h) = inl h

    mine : (x : Thing) → IsIn x (thing.Route v prefix (goal.Group group) ∷ []) → IsIn x (thing.Route v prefix (goal.Group group) ∷ thing.Group group ∷ members_of group group)
    mine x (inl is) = inl is
    mine x (inr h) = elim h [ ]

from_hops_split : (v : Vrf) (prefix : Prefix) (o : Option (List WHop)) → Splits (from_hops v prefix o) (from (goal_to o) (λ g. thing.Route v prefix g ∷ [])) (group_by o)
from_hops_split v prefix None = all_own []
from_hops_split v prefix (Some []) = all_own []
from_hops_split v prefix (Some (hop ∷ [])) = all_own (thing.Route v prefix (goal.Via hop.hop) ∷ [])
from_hops_split v prefix (Some (hop ∷ next ∷ more)) = group_split v prefix (hop ∷ next ∷ more)

-- what a row stands for on the chip is its own, and what it uses
pub things-split : (plan : Ports) (k : Key) (r : Row) → Splits (things_of plan k r) (own_things plan k r) (uses plan k r)
things-split plan (key.Port p) (row.Port r) = lane_own _ (lane_of plan p)
things-split plan (key.Vlan v) row.Vlan = all_own (thing.Vlan v ∷ [])
things-split plan (key.Vrf n) row.Vrf = all_own (thing.VirtualRouter n ∷ [])
things-split plan (key.Member v p) (row.Member tagging) = member_split v (λ lane. thing.VlanMember v lane tagging) (lane_of plan p)
things-split plan (key.Intf n) (row.Intf v) = base_own _ (base_of plan n)
things-split plan (key.Addr n ip len) (row.Addr v) = address_split plan n v ip
things-split plan (key.Neigh n ip) (row.Neigh mac) = base_own _ (base_of plan n)
things-split plan (key.Route v prefix) (row.Route route.Drop) = all_own (thing.Route v prefix goal.Drop ∷ [])
things-split plan (key.Route v prefix) (row.Route (route.Direct n)) = direct (base_of plan n)
  where
    direct : (o : Option Base) → Splits (from_base (λ b. thing.Route v prefix (goal.Direct b) ∷ []) o) (from (option_map goal.Direct o) (λ g. thing.Route v prefix g ∷ [])) []
    direct None = all_own []
    direct (Some b) = all_own (thing.Route v prefix (goal.Direct b) ∷ [])
things-split plan (key.Route v prefix) (row.Route (route.Hops hops)) = from_hops_split v prefix (hops_of plan hops)
things-split plan _ _ = all_own []
