-- The operation of a virtual router, as far as it is made: the router is made, or removed. Own.
use Rattle.std.specs.Prelude.{◌≡◌, ◌≤◌, ℕ, true, List, [], ◌∷◌, length, Option, Some, is_some}
use Rattle.swss_types.specs.declared.vrf.VrfName.{VrfName}
use Rattle.table_schema.specs.declared.key.Key.TheVariants as key
use Rattle.sai_types.specs.declared.ids.Vid.{Vid}
use Rattle.sai_types.specs.declared.body.Body.TheVariants as body
use Rattle.sai_types.specs.declared.body.Call.TheVariants as call
use Rattle.sai_types.specs.declared.body.Entry.TheVariants as entry
use Rattle.sai_types.specs.declared.thing.Thing.TheVariants as thing
use Rattle.sai_types.specs.Names as thing_name
use Rattle.row_layout.specs.Operations.{Change, Make, Take}
use Rattle.ref_counts.specs.declared.name.Name.TheVariants as name
use Rattle.ref_counts.specs.declared.name.NameState.TheVariants as state
use Rattle.ref_counts.specs.declared.next.Next.{Next}
use Rattle.ref_counts.specs.declared.next.Next.TheVariants as next
use Rattle.ref_counts.specs.Registered.{first_of, made_live}
use Rattle.ref_counts.specs.Registry.{Names, changed, ids_of, places_of, state_of}
use Rattle.orch_flight.specs.Calling.{HaveIds}
use Rattle.orch_flight.specs.Taking.{to_list}
use Rattle.intf_orch.specs.declared.stage.RouterStage.{RouterStage}
use Rattle.intf_orch.specs.declared.stage.RouterStage.TheVariants as router

abbrev pub router_due : VrfName → RouterStage → List Change
router_due label router.Stays = []
router_due label router.Comes = Make (thing.VirtualRouter label) ∷ []
router_due label router.Goes = Take (thing_name.VirtualRouter label) ∷ []

-- the place that a router needs which is made
abbrev pub router_places : List ℕ
router_places = 0 ∷ 0 ∷ 1 ∷ 0 ∷ 0 ∷ 0 ∷ 0 ∷ 0 ∷ 0 ∷ 0 ∷ 0 ∷ 0 ∷ []

-- the registry has the identifier of a router that is to go
abbrev pub KnowsRouter : Names → VrfName → RouterStage → Type 0
KnowsRouter names label router.Goes = HaveIds names (name.Row (key.Vrf label) ∷ [])
KnowsRouter names label _ = Unit {0}

-- the call that is due for a router
abbrev pub IsRouterNext : Names → VrfName → RouterStage → Next → Type 0
IsRouterNext names label router.Stays x = x ≡ next.End
IsRouterNext names label router.Comes x = x ≡ next.Call (call.Create (body.VirtualRouter label))
IsRouterNext names label router.Goes x = (v : Vid) × (first_of (ids_of names (name.Row (key.Vrf label))) ≡ Some v) × (x ≡ next.Call (call.Remove (entry.Oid v)))

-- the router's name may become live, and what was made has an identifier
abbrev pub MayBuildRouter : Names → ℕ → VrfName → RouterStage → Option Vid → Type 0
MayBuildRouter names worker label router.Comes made = (is_some made ≡ true) × (state_of names (name.Row (key.Vrf label)) ≡ state.Building worker) × (length (to_list made) ≤ places_of names (name.Row (key.Vrf label)))
MayBuildRouter names worker label _ made = Unit {0}

abbrev pub names_after_router : Names → VrfName → RouterStage → Option Vid → Names
names_after_router names label router.Comes made = changed names (name.Row (key.Vrf label)) (made_live (to_list made))
names_after_router names label _ made = names
