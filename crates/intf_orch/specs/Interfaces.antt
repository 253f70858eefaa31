-- The operation of an interface, of an interface's address or of a virtual router, as far as it is made. The order of calls is that of SONiC's orchestration agent; own: an interface's address as an object of its own.
use Rattle.std.specs.Prelude.{◌≡◌, ◌≤◌, ℕ, Bool, true, false, List, [], ◌∷◌, map, length, Option, Some, None, is_some}
use Rattle.swss_types.specs.declared.address.Ip.{Ip}
use Rattle.swss_types.specs.declared.interface.IfName.{IfName}
use Rattle.swss_types.specs.declared.interface.IfName.TheVariants as on
use Rattle.swss_types.specs.declared.vrf.Vrf.{Vrf}
use Rattle.table_schema.specs.Names.{intf_names, router_names}
use Rattle.table_schema.specs.declared.key.Key.{Key}
use Rattle.table_schema.specs.declared.key.Key.TheVariants as key
use Rattle.sai_types.specs.declared.hop.Base.{Base}
use Rattle.sai_types.specs.declared.ids.Vid.{Vid}
use Rattle.sai_types.specs.declared.body.Body.TheVariants as body
use Rattle.sai_types.specs.declared.body.Call.TheVariants as call
use Rattle.sai_types.specs.declared.body.Entry.TheVariants as entry
use Rattle.sai_types.specs.declared.body.RifOn.TheVariants as rif_on
use Rattle.sai_types.specs.declared.thing.Thing.TheVariants as thing
use Rattle.sai_types.specs.Names as thing_name
use Rattle.switch_model.specs.Placed as row
use Rattle.switch_model.specs.Placed.{Placed as Row}
use Rattle.row_layout.specs.Operations.{Change, Make, Take}
use Rattle.row_layout.specs.Rows.{Own, Owner}
use Rattle.ref_counts.specs.declared.name.Name.{Name}
use Rattle.ref_counts.specs.declared.name.Name.TheVariants as name
use Rattle.ref_counts.specs.declared.name.NameState.TheVariants as state
use Rattle.ref_counts.specs.declared.next.Next.{Next}
use Rattle.ref_counts.specs.declared.next.Next.TheVariants as next
use Rattle.ref_counts.specs.Registered.{first_of, made_live}
use Rattle.ref_counts.specs.Registry.{Names, changed, gone_from, ids_of, places_of, state_of}
use Rattle.orch_flight.specs.Calling.{HaveIds, router_vid}
use Rattle.orch_flight.specs.Operation.{Operation}
use Rattle.orch_flight.specs.Sharing.{owner_for}
use Rattle.orch_flight.specs.Starting.{left_names, retired_by}
use Rattle.orch_flight.specs.Taking.{to_list}
use Rattle.intf_orch.specs.declared.stage.OwnStage.{OwnStage}
use Rattle.intf_orch.specs.declared.stage.OwnStage.TheVariants as own
use Rattle.intf_orch.specs.declared.stage.RifStage.{RifStage}
use Rattle.intf_orch.specs.declared.stage.RifStage.TheVariants as rif
use Rattle.intf_orch.specs.declared.stage.Subject.{Subject}
use Rattle.intf_orch.specs.declared.stage.Subject.TheVariants as subject
use Rattle.intf_orch.specs.Routers.{router_due}

abbrev pub IsIntfKey : Key → Type 0
IsIntfKey (key.Intf n) = Unit {0}
IsIntfKey (key.Addr n ip len) = Unit {0}
IsIntfKey (key.Vrf label) = Unit {0}
IsIntfKey _ = ⊥

-- ---- the operation

abbrev pub subject_key : Subject → Key
subject_key (subject.Intf n v w stage) = key.Intf n
subject_key (subject.Addr v n ip len stage) = key.Addr n ip len
subject_key (subject.Vrf label stage) = key.Vrf label

-- the applied row of such a key, where it has one, and the one that it is to have: those of an interface may be in two routers
abbrev pub subject_old : Subject → Row
subject_old (subject.Intf n v w stage) = row.Intf v
subject_old (subject.Addr v n ip len stage) = row.Addr v
subject_old (subject.Vrf label stage) = row.Vrf

abbrev pub subject_new : Subject → Row
subject_new (subject.Intf n v w stage) = row.Intf w
subject_new (subject.Addr v n ip len stage) = row.Addr v
subject_new (subject.Vrf label stage) = row.Vrf

abbrev pub row_where : Bool → Row → Option Row
row_where true r = Some r
row_where false r = None

-- the router interface is made in this virtual router, or removed; one that goes over to another router is removed, and then made there
abbrev pub rif_due : Vrf → RifStage → List Change
rif_due w rif.Stays = []
rif_due w (rif.Comes b) = Make (thing.Rif b w) ∷ []
rif_due w (rif.Goes b) = Take (thing_name.Rif b) ∷ []
rif_due w (rif.Moves b) = Take (thing_name.Rif b) ∷ Make (thing.Rif b w) ∷ []

-- and so is the own address
abbrev pub own_due : Vrf → Ip → OwnStage → List Change
own_due v ip own.Comes = Make (thing.Own v ip) ∷ []
own_due v ip own.Goes = Take (thing_name.Own v ip) ∷ []
own_due v ip _ = []

abbrev pub due_of : Subject → List Change
due_of (subject.Intf n v w stage) = rif_due w stage
due_of (subject.Addr v n ip len stage) = own_due v ip stage
due_of (subject.Vrf label stage) = router_due label stage

-- the own address is taken away with its last row
abbrev pub retired : Vrf → Ip → OwnStage → Option Owner
retired v ip own.Goes = Some (Own v ip)
retired v ip own.Gone = Some (Own v ip)
retired v ip _ = None

abbrev pub retires_of : Subject → Option Owner
retires_of (subject.Intf n v w stage) = None
retires_of (subject.Addr v n ip len stage) = retired v ip stage
retires_of (subject.Vrf label stage) = None

abbrev pub intf_operation : ℕ → Bool → Bool → Subject → Operation
intf_operation worker old new s = record { worker = worker; key = subject_key s; now = row_where old (subject_old s); new = row_where new (subject_new s); due = due_of s; leaves = None; retires = retires_of s }

-- ---- how it starts

-- an interface that stands on something gets a router interface
abbrev pub coming : Option Base → RifStage
coming None = rif.Stays
coming (Some b) = rif.Comes b

abbrev pub rif_going : Option Base → RifStage
rif_going None = rif.Stays
rif_going (Some b) = rif.Goes b

-- one whose row goes over to another router goes, and comes back there
abbrev pub rif_moving : Option Base → RifStage
rif_moving None = rif.Stays
rif_moving (Some b) = rif.Moves b

-- an own address is made where nothing of it is there
abbrev pub own_stage : Bool → OwnStage
own_stage true = own.Comes
own_stage false = own.Stays

-- what is shared, if anything, is live
abbrev pub IsLive : Names → Option Name → Type 0
IsLive names None = Unit {0}
IsLive names (Some n) = state_of names n ≡ state.Live

-- a key has left what is shared, if anything
abbrev pub left_shared : Names → ℕ → Key → Option Name → Names
left_shared names worker k None = names
left_shared names worker k (Some n) = left_names names worker k (owner_for n)

abbrev pub taken : OwnStage → Name → Option Owner
taken own.Goes n = Some (owner_for n)
taken _ n = None

-- it goes where the key was the last that used it, and stays else
abbrev pub IsRetired : Names → ℕ → Key → Option Name → OwnStage → Type 0
IsRetired names worker k None stage = stage ≡ own.Stays
IsRetired names worker k (Some n) own.Goes = retired_by names worker k (owner_for n) ≡ Some (owner_for n)
IsRetired names worker k (Some n) own.Stays = retired_by names worker k (owner_for n) ≡ None
IsRetired names worker k (Some n) _ = ⊥

-- ---- calls

-- under which names the registry has the identifiers of what an interface stands on, and of a virtual router
abbrev pub intf_keys : IfName → Vrf → List Name
intf_keys n v = map name.Row (intf_names n v)

abbrev pub router_keys : Vrf → List Name
router_keys v = map name.Row (router_names v)

-- the call that makes a router interface in a virtual router, on what has this name
abbrev pub IsMadeOn : Names → IfName → Vrf → Next → Type 0
IsMadeOn names (on.Ethernet port) v n = (b : Vid) × (first_of (ids_of names (name.Row (key.Port port))) ≡ Some b) × (n ≡ next.Call (call.Create (body.Rif (router_vid names v) (rif_on.Port b))))
IsMadeOn names (on.Vlan vlan) v n = (b : Vid) × (first_of (ids_of names (name.Row (key.Vlan vlan))) ≡ Some b) × (n ≡ next.Call (call.Create (body.Rif (router_vid names v) (rif_on.Vlan b))))
IsMadeOn names (on.Loopback number) v n = n ≡ next.End

-- and the one that removes it
abbrev pub IsRemovedOf : Names → IfName → Next → Type 0
IsRemovedOf names n x = (v : Vid) × (first_of (ids_of names (name.Row (key.Intf n))) ≡ Some v) × (x ≡ next.Call (call.Remove (entry.Oid v)))

abbrev pub KnowsRif : Names → IfName → Vrf → RifStage → Type 0
KnowsRif names n w rif.Stays = Unit {0}
KnowsRif names n w (rif.Comes b) = HaveIds names (intf_keys n w)
KnowsRif names n w (rif.Goes b) = HaveIds names (name.Row (key.Intf n) ∷ [])
KnowsRif names n w (rif.Moves b) = HaveIds names (name.Row (key.Intf n) ∷ [])

-- the call that is due for a router interface that is to be in this router
abbrev pub IsRifNext : Names → IfName → Vrf → RifStage → Next → Type 0
IsRifNext names n w rif.Stays x = x ≡ next.End
IsRifNext names n w (rif.Comes b) x = IsMadeOn names n w x
IsRifNext names n w (rif.Goes b) x = IsRemovedOf names n x
IsRifNext names n w (rif.Moves b) x = IsRemovedOf names n x

-- and for an own address in this router
abbrev pub own_next : Names → Vrf → Ip → OwnStage → Next
own_next names v ip own.Comes = next.Call (call.Create (body.OwnAddress (router_vid names v) ip))
own_next names v ip own.Goes = next.Call (call.Remove (entry.Own (router_vid names v) ip))
own_next names v ip _ = next.End

-- ---- answers

-- the interface's name may become live, or come back where a row of it is applied
abbrev pub MayBeLiveRif : Bool → Names → ℕ → IfName → List Vid → Type 0
MayBeLiveRif true names worker n ids = (state_of names (name.Row (key.Intf n)) ≡ state.Retiring worker) × (length ids ≡ length (ids_of names (name.Row (key.Intf n))))
MayBeLiveRif false names worker n ids = (state_of names (name.Row (key.Intf n)) ≡ state.Building worker) × (length ids ≤ places_of names (name.Row (key.Intf n)))

-- and what was made has an identifier
abbrev pub MayBuildRif : Names → ℕ → IfName → Bool → RifStage → Option Vid → Type 0
MayBuildRif names worker n applied (rif.Comes b) made = (is_some made ≡ true) × MayBeLiveRif applied names worker n (to_list made)
MayBuildRif names worker n applied _ made = Unit {0}

abbrev pub rif_names : Names → IfName → RifStage → Option Vid → Names
rif_names names n (rif.Comes b) made = changed names (name.Row (key.Intf n)) (made_live (to_list made))
rif_names names n _ made = names

-- one that went over is still to be made
abbrev pub rif_after : RifStage → RifStage
rif_after (rif.Moves b) = rif.Comes b
rif_after _ = rif.Stays

abbrev pub MayBuildOwn : Names → ℕ → Vrf → Ip → OwnStage → Type 0
MayBuildOwn names worker v ip own.Comes = state_of names (name.Own v ip) ≡ state.Building worker
MayBuildOwn names worker v ip _ = Unit {0}

abbrev pub names_after_own : Names → Vrf → Ip → OwnStage → Names
names_after_own names v ip own.Comes = changed names (name.Own v ip) (made_live [])
names_after_own names v ip _ = gone_from names (name.Own v ip)

abbrev pub own_after : OwnStage → OwnStage
own_after own.Comes = own.Stays
own_after _ = own.Gone
