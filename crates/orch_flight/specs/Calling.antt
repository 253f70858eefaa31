-- The call of a change, where the registry knows the identifiers of names. Own.
use Rattle.std.specs.Prelude.{◌≡◌, ◌⊎◌, true, List, [], ◌∷◌, ◌++◌, map, Option, Some, None, IsSome, option_map, if◌then◌else◌}
use Rattle.std.specs.BTreeMap.{is_at}
use Rattle.std.specs.List.{AllByRecursion}
use Rattle.swss_types.specs.declared.vrf.Vrf.{Vrf}
use Rattle.swss_types.specs.declared.vrf.Vrf.TheVariants as vrf
use Rattle.table_schema.specs.Names.{intf_names, router_names}
use Rattle.table_schema.specs.Plan.{IsPlan, Ports, port_named}
use Rattle.table_schema.specs.declared.key.Key.{Key}
use Rattle.table_schema.specs.declared.key.Key.TheVariants as key
use Rattle.table_schema.specs.declared.row.RouteRow.TheVariants as route
use Rattle.sai_types.specs.declared.weight.WHop.{WHop}
use Rattle.sai_types.specs.declared.ids.Vid.{Vid}
use Rattle.sai_types.specs.declared.body.Attr.{Attr}
use Rattle.sai_types.specs.declared.body.Body.{Body}
use Rattle.sai_types.specs.declared.body.Body.TheVariants as body
use Rattle.sai_types.specs.declared.body.Entry.{Entry}
use Rattle.sai_types.specs.declared.body.Entry.TheVariants as entry
use Rattle.sai_types.specs.declared.body.Call.{Call}
use Rattle.sai_types.specs.declared.body.Call.TheVariants as call
use Rattle.sai_types.specs.declared.thing.Goal.{Goal}
use Rattle.sai_types.specs.declared.thing.Goal.TheVariants as goal
use Rattle.sai_types.specs.declared.thing.Thing.{Thing}
use Rattle.sai_types.specs.declared.thing.Thing.TheVariants as thing
use Rattle.sai_types.specs.Alike.{IsIn}
use Rattle.sai_types.specs.Named.{whop_cmp}
use Rattle.sai_types.specs.Names as thing_name
use Rattle.sai_types.specs.Names.{name_of}
use Rattle.chip_layout.specs.Bodies.{IsBody, IsChange}
use Rattle.chip_layout.specs.Layout.{has_number}
use Rattle.switch_model.specs.Placed as row
use Rattle.switch_model.specs.Placed.{Placed as Row}
use Rattle.row_layout.specs.Operations.{Change, Make, Set, Take, uses_of}
use Rattle.row_layout.specs.Rows.{Owner, interface_on}
use Rattle.row_layout.specs.Shared.{shared_things}
use Rattle.switch_machine.specs.Changes.{Resembles}
use Rattle.switch_machine.specs.Flights.{Fits, own_of}
use Rattle.ref_counts.specs.declared.name.Name.{Name}
use Rattle.ref_counts.specs.declared.name.Name.TheVariants as name
use Rattle.ref_counts.specs.declared.next.Next.{Next}
use Rattle.ref_counts.specs.declared.next.Next.TheVariants as next
use Rattle.ref_counts.specs.Registered.{first_of}
use Rattle.ref_counts.specs.Registry.{Names, ids_of}
use Rattle.orch_flight.specs.Operation.{Operation}

-- the first identifier of a row's name, where there is a key
abbrev pub row_vid : Names → Option Key → Option Vid
row_vid names None = None
row_vid names (Some k) = first_of (ids_of names (name.Row k))

-- the identifier of a virtual router, which the default one has not
abbrev pub router_vid : Names → Vrf → Option Vid
router_vid names vrf.Default = None
router_vid names (vrf.Named label) = row_vid names (Some (key.Vrf label))

-- of a group's identifiers the first is its own, and the others are those of its members
abbrev pub members_ids : List Vid → List Vid
members_ids [] = []
members_ids (v ∷ vs) = vs

-- the identifier of the member for this hop, where the members for these hops have these
abbrev pub member_vid : List WHop → WHop → List Vid → Option Vid
member_vid [] hop vs = None
member_vid (h ∷ hs) hop [] = None
member_vid (h ∷ hs) hop (v ∷ vs) = if is_at (whop_cmp h) hop then Some v else member_vid hs hop vs

-- the identifier of what has this name on the chip. A neighbour's row has that of its next hop
abbrev pub vid_at : Ports → Names → thing_name.ThingName → Option Vid
vid_at plan names (thing_name.Port lane) = row_vid names (option_map key.Port (port_named plan lane))
vid_at plan names (thing_name.Vlan vlan) = row_vid names (Some (key.Vlan vlan))
vid_at plan names (thing_name.VirtualRouter label) = row_vid names (Some (key.Vrf label))
vid_at plan names (thing_name.BridgePort lane) = first_of (ids_of names (name.BridgePort lane))
vid_at plan names (thing_name.VlanMember vlan lane) = row_vid names (option_map (key.Member vlan) (port_named plan lane))
vid_at plan names (thing_name.Rif base) = row_vid names (option_map key.Intf (interface_on plan base))
vid_at plan names (thing_name.NextHop hop) = row_vid names (option_map (λ on. key.Neigh on hop.ip) (interface_on plan hop.on))
vid_at plan names (thing_name.Group hops) = first_of (ids_of names (name.Group hops))
vid_at plan names (thing_name.GroupMember hops hop) = member_vid hops hop (members_ids (ids_of names (name.Group hops)))
vid_at plan names _ = None

abbrev pub HasVid : Ports → Names → thing_name.ThingName → Vid → Type 0
HasVid plan names n v = vid_at plan names n ≡ Some v

-- a thing is made
pub record IsMaking (at : thing_name.ThingName → Vid → Type 0) (t : Thing) (c : Call Vid) : Type 0 where
  pub body : Body Vid
  pub of : IsBody at t body
  pub is : c ≡ call.Create body

-- the entry of an object: its key, or its identifier
abbrev pub entry_by : {I : Type 0} → I → Body I → Entry I
entry_by id (body.OwnAddress vr ip) = entry.Own vr ip
entry_by id (body.Neighbor rif ip mac) = entry.Neigh rif ip
entry_by id (body.Route vr prefix to) = entry.Route vr prefix
entry_by id b = entry.Oid id

-- of what a thing refers to, that whose identifier its entry has: a neighbour's interface, and the virtual router of an own address or a route
abbrev pub IsEnteredBy : Thing → thing_name.ThingName → Type 0
IsEnteredBy (thing.Neighbor hop mac) n = Unit {0}
IsEnteredBy (thing.Own v ip) n = Unit {0}
IsEnteredBy (thing.Route v prefix g) (thing_name.VirtualRouter label) = Unit {0}
IsEnteredBy t n = ⊥

-- a thing that stands, with its entry
pub record IsEntryOf (at : thing_name.ThingName → Vid → Type 0) (t : Thing) (e : Entry Vid) : Type 0 where
  pub body : Body Vid
  pub of : IsBody (λ n v. IsEnteredBy t n → at n v) t body
  pub id : Vid
  pub numbered : has_number t ≡ true → at (name_of t) id
  pub is : e ≡ entry_by id body

-- an attribute of one of the things is set, by which it becomes this one
pub record IsSetting (at : thing_name.ThingName → Vid → Type 0) (things : List Thing) (u : Thing) (c : Call Vid) : Type 0 where
  pub old : Thing
  pub there : IsIn old things
  pub same : name_of old ≡ name_of u
  pub entry : Entry Vid
  pub of : IsEntryOf at old entry
  pub attr : Attr Vid
  pub change : IsChange at old attr u
  pub is : c ≡ call.Set entry attr

-- one of the things is removed, which has this name
pub record IsTaking (at : thing_name.ThingName → Vid → Type 0) (things : List Thing) (n : thing_name.ThingName) (c : Call Vid) : Type 0 where
  pub old : Thing
  pub there : IsIn old things
  pub same : name_of old ≡ n
  pub entry : Entry Vid
  pub of : IsEntryOf at old entry
  pub is : c ≡ call.Remove entry

abbrev pub IsCallFor : (thing_name.ThingName → Vid → Type 0) → List Thing → Change → Call Vid → Type 0
IsCallFor at things (Make t) c = IsMaking at t c
IsCallFor at things (Set u) c = IsSetting at things u c
IsCallFor at things (Take n) c = IsTaking at things n c

abbrev pub things_retired : Option Owner → List Thing
things_retired None = []
things_retired (Some o) = shared_things o

-- what an operation may set or take away: its key's own things, and the things of what it takes away
abbrev pub things_held : Ports → Operation → List Thing
things_held plan operation = own_of plan operation.key operation.now ++ things_retired operation.retires

-- the call of the change that is due next, and the end where none is
abbrev pub IsNextOf : Ports → Names → Operation → Next → Type 0
IsNextOf plan names operation next.End = operation.due ≡ []
IsNextOf plan names operation (next.Call c) = (change : Change) × (rest : List Change) × (operation.due ≡ change ∷ rest) × IsCallFor (HasVid plan names) (things_held plan operation) change c

-- ---- when the call can be told

-- under which names the registry has the identifier of what a route's row points at
abbrev pub pointed : Option Row → Goal → List Name
pointed (Some (row.Route (route.Direct n))) g = name.Row (key.Intf n) ∷ []
pointed (Some (row.Route (route.Hops hops))) (goal.Group group) = name.Group group ∷ []
pointed (Some (row.Route (route.Hops hops))) g = map (λ h. name.Row (key.Neigh h.0.on h.0.ip)) hops
pointed _ g = []

-- and those of what a thing refers to that belongs to the row that a key is to have, or is shared by it
abbrev pub referred : Key → Option Row → Thing → List Name
referred (key.Member vlan port) new (thing.BridgePort lane) = name.Row (key.Port port) ∷ []
referred (key.Member vlan port) new (thing.VlanMember v lane tagging) = name.Row (key.Vlan vlan) ∷ name.BridgePort lane ∷ []
referred (key.Intf n) new (thing.Rif b v) = map name.Row (intf_names n v)
referred (key.Addr n ip len) new (thing.Own v q) = map name.Row (router_names v)
referred (key.Neigh n ip) new (thing.Neighbor hop mac) = name.Row (key.Intf n) ∷ []
referred (key.Neigh n ip) new (thing.NextHop hop) = name.Row (key.Intf n) ∷ []
referred (key.Route v prefix) new (thing.Route w p g) = map name.Row (router_names v) ++ pointed new g
referred k new t = []

-- and those by which it is named itself: a neighbour by its interface; an own address or a route by its virtual router, unless that is the default one
abbrev pub entered : Key → thing_name.ThingName → List Name
entered (key.Neigh n ip) (thing_name.Neighbor hop) = name.Row (key.Intf n) ∷ []
entered k (thing_name.BridgePort lane) = name.BridgePort lane ∷ []
entered k (thing_name.Own v ip) = map name.Row (router_names v)
entered k (thing_name.Route v prefix) = map name.Row (router_names v)
entered k n = name.Row k ∷ []

-- what an attribute that is set refers to: the new target of a route
abbrev pub set_refers : Key → Option Row → Thing → List Name
set_refers (key.Route v prefix) new (thing.Route w p g) = pointed new g
set_refers k new u = []

abbrev pub ids_needed : Key → Option Row → Change → List Name
ids_needed k new (Make t) = referred k new t
ids_needed k new (Set u) = entered k (name_of u) ++ set_refers k new u
ids_needed k new (Take n) = entered k n

abbrev pub HaveIds : Names → List Name → Type 0
HaveIds names ns = AllByRecursion (λ n. IsSome (first_of (ids_of names n))) ns

abbrev pub knows_for : Names → Key → Option Row → List Change → Type 0
knows_for names k new [] = Unit {0}
knows_for names k new (c ∷ cs) = HaveIds names (ids_needed k new c)

-- the registry has the identifiers that the call of the change that is due next needs
abbrev pub KnowsIds : Names → Operation → Type 0
KnowsIds names operation = knows_for names operation.key operation.new operation.due

-- a change is about a thing of the key's rows, or of what the operation shares or takes away
abbrev pub IsChangeFor : Ports → Operation → List Change → Type 0
IsChangeFor plan operation [] = Unit {0}
IsChangeFor plan operation (Make t ∷ cs) = IsIn t (own_of plan operation.key operation.new) ⊎ ((o : Owner) × IsIn o (uses_of plan operation.key operation.new) × IsIn t (shared_things o))
IsChangeFor plan operation (Set u ∷ cs) = (old : Thing) × IsIn old (own_of plan operation.key operation.now) × (name_of old ≡ name_of u)
IsChangeFor plan operation (Take n ∷ cs) = (old : Thing) × IsIn old (things_held plan operation) × (name_of old ≡ n)

-- what is set is a thing of the new row, but for values of a port that are set one after the other
abbrev pub SetsTo : Ports → Operation → List Change → Type 0
SetsTo plan operation (Set u ∷ cs) = (like : Thing) × IsIn like (own_of plan operation.key operation.new) × Resembles u like
SetsTo plan operation cs = Unit {0}

-- an operation is one over this port plan
pub record IsOver (plan : Ports) (operation : Operation) : Type 0 where
  pub plans : IsPlan plan
  pub now : (r : Row) → operation.now ≡ Some r → Fits plan operation.key r
  pub new : (r : Row) → operation.new ≡ Some r → Fits plan operation.key r
  pub next : IsChangeFor plan operation operation.due
  pub sets : SetsTo plan operation operation.due
