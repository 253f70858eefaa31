-- What becomes of an operation and of names when the call that is due has taken effect. Own.
use Rattle.std.specs.Prelude.{◌≡◌, ◌≤◌, ℕ, List, [], ◌∷◌, length, Option, Some, None, is_some}
use Rattle.table_schema.specs.declared.key.Key.{Key}
use Rattle.table_schema.specs.declared.key.Key.TheVariants as key
use Rattle.sai_types.specs.declared.ids.Vid.{Vid}
use Rattle.sai_types.specs.declared.thing.Thing.{Thing}
use Rattle.sai_types.specs.declared.thing.Thing.TheVariants as thing
use Rattle.sai_types.specs.Names as thing_name
use Rattle.chip_layout.specs.Layout.{has_number}
use Rattle.switch_model.specs.Placed as row
use Rattle.switch_model.specs.Placed.{Placed as Row}
use Rattle.row_layout.specs.Operations.{Change, Make, Set, Take}
use Rattle.row_layout.specs.Rows.{Owner}
use Rattle.ref_counts.specs.declared.name.Name.{Name}
use Rattle.ref_counts.specs.declared.name.Name.TheVariants as name
use Rattle.ref_counts.specs.declared.name.NameState.TheVariants as state
use Rattle.ref_counts.specs.Registered.{made_live}
use Rattle.ref_counts.specs.Registry.{Names, changed, gone_from, ids_of, places_of, state_of}
use Rattle.orch_flight.specs.Needing.{name_for}
use Rattle.orch_flight.specs.Operation.{Operation}
use Rattle.orch_flight.specs.Starting.{left_names, retired_by, taken_here}

abbrev pub to_list : {X : Type 0} → Option X → List X
to_list None = []
to_list (Some x) = x ∷ []

-- what is made makes its name live, with its identifier where it has one, be the name built or come back; of a neighbour's row the next hop does; a row whose objects have none is made live at the operation's end
abbrev pub names_after_made : Names → Key → Thing → Option Vid → Names
names_after_made names k (thing.BridgePort lane) made = changed names (name.BridgePort lane) (made_live (to_list made))
names_after_made names k (thing.Own v ip) made = changed names (name.Own v ip) (made_live [])
names_after_made names k (thing.Neighbor hop mac) made = names
names_after_made names k (thing.Route v prefix goal) made = names
names_after_made names k (thing.Group hops) made = names
names_after_made names k (thing.GroupMember hops hop) made = names
names_after_made names k t made = changed names (name.Row k) (made_live (to_list made))

-- and what was shared and is taken away is absent
abbrev pub taken_names : Names → thing_name.ThingName → Names
taken_names names (thing_name.BridgePort lane) = gone_from names (name.BridgePort lane)
taken_names names (thing_name.Own v ip) = gone_from names (name.Own v ip)
taken_names names n = names

abbrev pub names_after : Names → Key → Change → Option Vid → Names
names_after names k (Make t) made = names_after_made names k t made
names_after names k (Set u) made = names
names_after names k (Take n) made = taken_names names n

-- the row for which a key's things stand after a change of them: a port's with the new value, any other where its last change is made
abbrev pub row_set : Thing → Option Row → Option Row
row_set (thing.Port p) new = Some (row.Port (record { lanes = p.lanes; speed = p.speed; mtu = p.mtu; up = p.up }))
row_set t new = new

abbrev pub now_after : Change → Option Row → Option Row → Option Row
now_after (Set u) now new = row_set u new
now_after (Make t) now new = now
now_after (Take n) now new = now

-- the last change is made: it leaves what it shares no more
abbrev pub operation_by : Names → Operation → Change → List Change → Option Owner → Operation
operation_by names f c [] (Some o) = record { worker = f.worker; key = f.key; now = now_after c f.now f.new; new = f.new; due = taken_here (retired_by names f.worker f.key o); leaves = None; retires = retired_by names f.worker f.key o }
operation_by names f c rest leaves = record { worker = f.worker; key = f.key; now = now_after c f.now f.new; new = f.new; due = rest; leaves = leaves; retires = f.retires }

abbrev pub names_by : Names → Operation → List Change → Option Owner → Names
names_by names f [] (Some o) = left_names names f.worker f.key o
names_by names f rest leaves = names

-- the change that was due next is made
pub record IsTook (old : Operation) (made : Option Vid) (names : Names) (new : Operation) (names' : Names) : Type 0 where
  pub change : Change
  pub rest : List Change
  pub due : old.due ≡ change ∷ rest
  pub operation : new ≡ operation_by (names_after names old.key change made) old change rest old.leaves
  pub names_are : names' ≡ names_by (names_after names old.key change made) old rest old.leaves

-- ---- when an answer can be taken

-- the name that a thing makes live when it is made
abbrev pub built_name : Key → Thing → Option Name
built_name k (thing.BridgePort lane) = Some (name.BridgePort lane)
built_name k (thing.Own v ip) = Some (name.Own v ip)
built_name k (thing.Neighbor hop mac) = None
built_name k (thing.Route v prefix goal) = None
built_name k (thing.Group hops) = None
built_name k (thing.GroupMember hops hop) = None
built_name k t = Some (name.Row k)

-- a name may be made live: the worker builds it, with places for the identifiers; or, of an interface that has gone and is made in another virtual router, the worker retires it, and it had as many identifiers
abbrev pub MayBeLive : Names → ℕ → Name → Option Row → List Vid → Type 0
MayBeLive names worker (name.Row (key.Intf n)) (Some old) ids = (state_of names (name.Row (key.Intf n)) ≡ state.Retiring worker) × (length ids ≡ length (ids_of names (name.Row (key.Intf n))))
MayBeLive names worker n now ids = (state_of names n ≡ state.Building worker) × (length ids ≤ places_of names n)

-- a change is due; an identifier came exactly where the call made one; what the change makes live may become that; and what the operation has to leave is live
pub record MayTake (operation : Operation) (made : Option Vid) (names : Names) : Type 0 where
  pub some : operation.due ≡ [] → ⊥
  pub numbered : (t : Thing) (rest : List Change) → operation.due ≡ Make t ∷ rest → is_some made ≡ has_number t
  pub builds : (t : Thing) (rest : List Change) (n : Name) → operation.due ≡ Make t ∷ rest → built_name operation.key t ≡ Some n → MayBeLive names operation.worker n operation.now (to_list made)
  pub leaves : (o : Owner) → operation.leaves ≡ Some o → state_of names (name_for o) ≡ state.Live
