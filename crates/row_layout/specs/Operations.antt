-- The changes of each operation, in order. The orders of calls are those of SONiC's orchestration agent; own: equal values make no call.
use Rattle.std.specs.Prelude.{ℕ, Bool, false, ◌==◌, ◌||◌, ◌&&◌, List, [], ◌∷◌, ◌++◌, Option, Some, None, if◌then◌else◌}
use Rattle.std.specs.BTreeMap.{is_at}
use Rattle.std.specs.List.{list_any}
use Rattle.swss_types.specs.Vrf.{same_vrf}
use Rattle.table_schema.specs.Key.{key_cmp}
use Rattle.table_schema.specs.Plan.{Ports}
use Rattle.table_schema.specs.declared.key.Key.{Key}
use Rattle.table_schema.specs.declared.key.Key.TheVariants as key
use Rattle.sai_types.specs.contracts.thing.ThingPartialEq.TheImpl as thing_eq
use Rattle.sai_types.specs.declared.thing.Thing.{Thing}
use Rattle.sai_types.specs.declared.thing.Thing.TheVariants as thing
use Rattle.sai_types.specs.Names.{ThingName, name_of}
use Rattle.sai_types.specs.Refusal.{same_ip}
use Rattle.switch_model.specs.Placed as row
use Rattle.switch_model.specs.Placed.{Placed as Row}
use Rattle.switch_model.specs.Things.{base_of, members_of}
use Rattle.row_layout.specs.Rows.{Owner, OfRow, Bridge, Own, Group, from, own_things}
use Rattle.row_layout.specs.Shared.{shared_things, uses}

-- a thing is made, or takes the place of the one of its name, or what has this name is taken away
pub data Change : Type 0 where
  Make : Thing → Change
  Set : Thing → Change
  Take : ThingName → Change

abbrev pub same_thing : Thing → Thing → Bool
same_thing = thing_eq.ghosts.eq

abbrev pub same_owner : Owner → Owner → Bool
same_owner (OfRow k) (OfRow q) = is_at (key_cmp k) q
same_owner (Bridge a) (Bridge b) = a == b
same_owner (Own v a) (Own w b) = same_vrf v w && same_ip a b
same_owner (Group a) (Group b) = same_thing (thing.Group a) (thing.Group b)
same_owner _ _ = false

-- each of the things is made, and then these changes
abbrev pub make_all : List Thing → List Change → List Change
make_all [] rest = rest
make_all (t ∷ ts) rest = Make t ∷ make_all ts rest

abbrev pub take_all : List Thing → List Change → List Change
take_all [] rest = rest
take_all (t ∷ ts) rest = Take (name_of t) ∷ take_all ts rest

-- a thing is set where it differs
abbrev pub set_to : Thing → Thing → List Change → List Change
set_to t u rest = if same_thing t u then rest else Set u ∷ rest

abbrev pub set_all : List Thing → List Thing → List Change
set_all (t ∷ ts) (u ∷ us) = set_to t u (set_all ts us)
set_all _ _ = []

-- the things of a row in the order in which they go: a next hop before its neighbour
abbrev pub going : Ports → Key → Row → List Thing
going plan (key.Neigh n ip) (row.Neigh mac) = from (base_of plan n) (λ b. thing.NextHop (record { on = b; ip = ip }) ∷ thing.Neighbor (record { on = b; ip = ip }) mac ∷ [])
going plan k r = own_things plan k r

-- of a group the members go first, and then the group
abbrev pub shared_going : Owner → List Thing
shared_going (Group hops) = members_of hops hops ++ (thing.Group hops ∷ [])
shared_going o = shared_things o

abbrev pub thing_of_port : List ℕ → ℕ → ℕ → Bool → Thing
thing_of_port lanes speed mtu up = thing.Port (record { lanes = lanes; speed = speed; mtu = mtu; up = up })

-- from one row to another: an interface that goes over to another router goes and is made there; of a port the speed, the mtu and whether it is up, one after the other
abbrev pub own_sets : Ports → Key → Row → Row → List Change
own_sets plan (key.Port port) (row.Port a) (row.Port r) =
    set_to (thing_of_port a.lanes a.speed a.mtu a.up) (thing_of_port a.lanes r.speed a.mtu a.up)
    (set_to (thing_of_port a.lanes r.speed a.mtu a.up) (thing_of_port a.lanes r.speed r.mtu a.up)
    (set_to (thing_of_port a.lanes r.speed r.mtu a.up) (thing_of_port a.lanes r.speed r.mtu r.up) []))
own_sets plan (key.Intf n) (row.Intf v) (row.Intf w) =
    if same_vrf v w then [] else take_all (own_things plan (key.Intf n) (row.Intf v)) (make_all (own_things plan (key.Intf n) (row.Intf w)) [])
own_sets plan k a r = set_all (own_things plan k a) (own_things plan k r)

-- the changes of a key's own things
abbrev pub own_changes : Ports → Key → Option Row → Option Row → List Change
own_changes plan k None None = []
own_changes plan k None (Some r) = make_all (own_things plan k r) []
own_changes plan k (Some a) None = take_all (going plan k a) []
own_changes plan k (Some a) (Some r) = own_sets plan k a r

-- what a key's row shares, where it has one
abbrev pub uses_of : Ports → Key → Option Row → List Owner
uses_of plan k None = []
uses_of plan k (Some r) = uses plan k r

-- what neither another row uses nor the key's other row
abbrev pub unshared : (Owner → Bool) → List Owner → List Owner → List Owner
unshared used others [] = []
unshared used others (o ∷ os) = if used o || list_any (same_owner o) others then unshared used others os else o ∷ unshared used others os

abbrev pub build_all : List Owner → List Change → List Change
build_all [] rest = rest
build_all (o ∷ os) rest = make_all (shared_things o) (build_all os rest)

abbrev pub retire_all : List Owner → List Change
retire_all [] = []
retire_all (o ∷ os) = take_all (shared_going o) (retire_all os)

-- the changes of an operation, from the old row of a key to its new one, where this is used by other rows: first what the new row shares and nobody has yet is built, then the own things change, and last what the old row shared and nobody has any more retires
abbrev pub changes_of : Ports → Key → Option Row → Option Row → (Owner → Bool) → List Change
changes_of plan k old new used =
    build_all (unshared used (uses_of plan k old) (uses_of plan k new))
    (own_changes plan k old new ++ retire_all (unshared used (uses_of plan k new) (uses_of plan k old)))
