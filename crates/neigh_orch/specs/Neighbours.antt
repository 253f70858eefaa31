-- The operation of a neighbour, as far as it is made: it and its next hop are made, its Ethernet address is set, or its next hop and it are removed. The order of calls is that of SONiC's orchestration agent.
use Rattle.std.specs.Prelude.{◌≡◌, ◌≤◌, ℕ, Bool, true, false, List, [], ◌∷◌, length, Option, Some, None, IsSome, is_some, option_map, Result, Ok, Err, if◌then◌else◌}
use Rattle.swss_types.specs.contracts.address.MacPartialEq.TheImpl as mac_eq
use Rattle.swss_types.specs.declared.address.Ip.{Ip}
use Rattle.swss_types.specs.declared.address.Mac.{Mac}
use Rattle.swss_types.specs.declared.interface.IfName.{IfName}
use Rattle.table_schema.specs.Plan.{Ports}
use Rattle.table_schema.specs.declared.key.Key.{Key}
use Rattle.table_schema.specs.declared.key.Key.TheVariants as key
use Rattle.switch_model.specs.Placed.{Placed as Row}
use Rattle.switch_model.specs.Placed as row
use Rattle.sai_types.specs.declared.hop.Base.{Base}
use Rattle.sai_types.specs.declared.hop.Hop.{Hop}
use Rattle.sai_types.specs.declared.ids.Vid.{Vid}
use Rattle.sai_types.specs.declared.body.Attr.TheVariants as attr
use Rattle.sai_types.specs.declared.body.Body.TheVariants as body
use Rattle.sai_types.specs.declared.body.Call.TheVariants as call
use Rattle.sai_types.specs.declared.body.Entry.TheVariants as entry
use Rattle.sai_types.specs.declared.thing.Thing.TheVariants as thing
use Rattle.sai_types.specs.Names as thing_name
use Rattle.switch_model.specs.Things.{base_of}
use Rattle.switch_model.specs.declared.wait.Wait.{Wait}
use Rattle.row_layout.specs.Operations.{Change, Make, Set, Take}
use Rattle.ref_counts.specs.declared.name.Name.TheVariants as name
use Rattle.ref_counts.specs.declared.name.NameState.TheVariants as state
use Rattle.ref_counts.specs.declared.next.Next.{Next}
use Rattle.ref_counts.specs.declared.next.Next.TheVariants as next
use Rattle.ref_counts.specs.Registered.{first_of, made_live}
use Rattle.ref_counts.specs.Registry.{Names, changed, ids_of, places_of, state_of}
use Rattle.switch_machine.specs.Flights.{Fits}
use Rattle.orch_flight.specs.Operation.{Operation}
use Rattle.orch_flight.specs.Taking.{to_list}
use Rattle.neigh_orch.specs.declared.left.Left.{Left}
use Rattle.neigh_orch.specs.declared.left.Left.TheVariants as left

abbrev pub IsNeighKey : Key → Type 0
IsNeighKey (key.Neigh n ip) = Unit {0}
IsNeighKey _ = ⊥

-- ---- the operation

abbrev pub same_mac : Mac → Mac → Bool
same_mac = mac_eq.ghosts.eq

abbrev pub neighbor_hop : Base → Ip → Hop
neighbor_hop b ip = record { on = b; ip = ip }

-- the neighbour is made, and then its next hop
abbrev pub due_made : Left → Hop → Mac → List Change
due_made left.Both h mac = Make (thing.Neighbor h mac) ∷ Make (thing.NextHop h) ∷ []
due_made left.One h mac = Make (thing.NextHop h) ∷ []
due_made left.Neither h mac = []

-- its Ethernet address is set where it differs
abbrev pub due_set : Hop → Mac → Bool → List Change
due_set h mac same = if same then [] else Set (thing.Neighbor h mac) ∷ []

-- the next hop is removed, and then the neighbour
abbrev pub due_taken : Left → Hop → List Change
due_taken left.Both h = Take (thing_name.NextHop h) ∷ Take (thing_name.Neighbor h) ∷ []
due_taken left.One h = Take (thing_name.Neighbor h) ∷ []
due_taken left.Neither h = []

-- what is due for a neighbour that stands as for the first address, and that is to have the second
abbrev pub neigh_due : Left → Hop → Option Mac → Option Mac → List Change
neigh_due l h None None = []
neigh_due l h None (Some mac) = due_made l h mac
neigh_due l h (Some now) (Some mac) = due_set h mac (same_mac now mac)
neigh_due l h (Some now) None = due_taken l h

abbrev pub neigh_operation : ℕ → IfName → Ip → Base → Left → Option Mac → Option Mac → Operation
neigh_operation worker n ip b l now new = record { worker = worker; key = key.Neigh n ip; now = option_map row.Neigh now; new = option_map row.Neigh new; due = neigh_due l (neighbor_hop b ip) now new; leaves = None; retires = None }

-- ---- how it starts

abbrev pub row_mac : Option Row → Option Mac
row_mac (Some (row.Neigh mac)) = Some mac
row_mac _ = None

-- the rows are a neighbour's on an interface of the plan, and one of them is there
pub record HaveFit (plan : Ports) (n : IfName) (ip : Ip) (old new : Option Row) : Type 0 where
  pub old_fits : (r : Row) → old ≡ Some r → Fits plan (key.Neigh n ip) r
  pub new_fits : (r : Row) → new ≡ Some r → Fits plan (key.Neigh n ip) r
  pub some : old ≡ None → new ≡ None → ⊥

-- an operation of which nothing is made
abbrev pub IsNeighborStart : Ports → ℕ → IfName → Ip → Option Row → Option Row → Operation → Type 0
IsNeighborStart plan worker n ip old new operation = (b : Base) × (base_of plan n ≡ Some b) × (operation ≡ neigh_operation worker n ip b left.Both (row_mac old) (row_mac new))

-- it for an answer
abbrev pub IsNeighborFlown : Ports → ℕ → IfName → Ip → Option Row → Option Row → Result (Unit {0}) Wait → Result Operation Wait → Type 0
IsNeighborFlown plan worker n ip old new (Ok _) (Ok operation) = HaveFit plan n ip old new × IsNeighborStart plan worker n ip old new operation
IsNeighborFlown plan worker n ip old new (Err wait) (Err other) = other ≡ wait
IsNeighborFlown plan worker n ip old new _ _ = ⊥

-- ---- calls

-- the registry tells the identifier of the interface
abbrev pub KnowsInterface : Names → IfName → Type 0
KnowsInterface names n = IsSome (first_of (ids_of names (name.Row (key.Intf n))))

-- it is this one
abbrev pub IsInterface : Names → IfName → Vid → Type 0
IsInterface names n v = first_of (ids_of names (name.Row (key.Intf n))) ≡ Some v

abbrev pub KnowsMade : Names → IfName → Left → Type 0
KnowsMade names n left.Neither = Unit {0}
KnowsMade names n _ = KnowsInterface names n

abbrev pub IsMadeNext : Names → IfName → Ip → Mac → Left → Next → Type 0
IsMadeNext names n ip mac left.Both x = (v : Vid) × IsInterface names n v × (x ≡ next.Call (call.Create (body.Neighbor v ip mac)))
IsMadeNext names n ip mac left.One x = (v : Vid) × IsInterface names n v × (x ≡ next.Call (call.Create (body.NextHop v ip)))
IsMadeNext names n ip mac left.Neither x = x ≡ next.End

abbrev pub IsSetNext : Names → IfName → Ip → Mac → Bool → Next → Type 0
IsSetNext names n ip mac true x = x ≡ next.End
IsSetNext names n ip mac false x = (v : Vid) × IsInterface names n v × (x ≡ next.Call (call.Set (entry.Neigh v ip) (attr.Mac mac)))

abbrev pub KnowsTaken : Names → IfName → Ip → Left → Type 0
KnowsTaken names n ip left.Both = IsSome (first_of (ids_of names (name.Row (key.Neigh n ip))))
KnowsTaken names n ip left.One = KnowsInterface names n
KnowsTaken names n ip left.Neither = Unit {0}

abbrev pub IsTakenNext : Names → IfName → Ip → Left → Next → Type 0
IsTakenNext names n ip left.Both x = (v : Vid) × (first_of (ids_of names (name.Row (key.Neigh n ip))) ≡ Some v) × (x ≡ next.Call (call.Remove (entry.Oid v)))
IsTakenNext names n ip left.One x = (v : Vid) × IsInterface names n v × (x ≡ next.Call (call.Remove (entry.Neigh v ip)))
IsTakenNext names n ip left.Neither x = x ≡ next.End

-- ---- answers

abbrev pub fewer : Left → Left
fewer left.Both = left.One
fewer _ = left.Neither

-- the neighbour's name may become live with its next hop, which has an identifier
abbrev pub MayBuild : Names → ℕ → IfName → Ip → Left → Option Vid → Type 0
MayBuild names worker n ip left.One made = (is_some made ≡ true) × (state_of names (name.Row (key.Neigh n ip)) ≡ state.Building worker) × (length (to_list made) ≤ places_of names (name.Row (key.Neigh n ip)))
MayBuild names worker n ip _ made = Unit {0}

abbrev pub names_made : Names → IfName → Ip → Left → Option Vid → Names
names_made names n ip left.One made = changed names (name.Row (key.Neigh n ip)) (made_live (to_list made))
names_made names n ip _ made = names
