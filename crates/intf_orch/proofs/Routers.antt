-- the start of a virtual router's operation, the call that is due of it, and what becomes of its name
use Rattle.std.proofs.Common.{◌≡◌, inl, ℕ, Bool, true, false, List, [], ◌++◌, Option, Some, None, Result, Ok, OnOk, OnErr, IfErr, refl, sym, subst}
use Rattle.std.specs.Result.{result_and}
use Rattle.swss_types.specs.declared.vrf.VrfName.{VrfName}
use Rattle.table_schema.specs.Plan.{Ports}
use Rattle.table_schema.specs.declared.key.Key.TheVariants as key
use Rattle.sai_types.specs.Alike.{IsIn}
use Rattle.sai_types.specs.Names as thing_name
use Rattle.sai_types.specs.declared.ids.Vid.{Vid}
use Rattle.sai_types.specs.declared.body.Body.TheVariants as body
use Rattle.sai_types.specs.declared.body.Call.TheVariants as call
use Rattle.sai_types.specs.declared.body.Entry.TheVariants as entry
use Rattle.sai_types.specs.declared.thing.Thing.{Thing}
use Rattle.sai_types.specs.declared.thing.Thing.TheVariants as thing
use Rattle.switch_model.specs.Placed as row
use Rattle.switch_model.specs.Placed.{Placed as Row}
use Rattle.switch_model.specs.declared.wait.Wait.{Wait}
use Rattle.row_layout.specs.Operations.{Make, Take, own_changes}
use Rattle.row_layout.proofs.Changing.{set_none}
use Rattle.ref_counts.specs.declared.name.Name.TheVariants as name
use Rattle.ref_counts.specs.declared.next.Next.{Next}
use Rattle.ref_counts.specs.declared.next.Next.TheVariants as next
use Rattle.ref_counts.specs.Registered.{begun_to_go, first_of}
use Rattle.ref_counts.specs.Registry.{Names, changed, ids_of, retire_refusal_at}
use Rattle.ref_counts.specs.Room.{Reserves, RoomState}
use Rattle.switch_machine.specs.Flights.{Fits, own_of}
use Rattle.orch_flight.specs.Calling.{IsNextOf, IsOver, KnowsIds}
use Rattle.orch_flight.specs.Needing.{row_reason}
use Rattle.orch_flight.specs.Operation.{Operation}
use Rattle.orch_flight.specs.Sharing.{MayStart, begun_by}
use Rattle.orch_flight.specs.Taking.{MayTake}
use Rattle.orch_flight.proofs.Begins.{no_places}
use Rattle.intf_orch.specs.Interfaces.{intf_operation, row_where}
use Rattle.intf_orch.specs.Routers.{IsRouterNext, KnowsRouter, MayBuildRouter, router_due, router_places}
use Rattle.intf_orch.specs.declared.stage.RouterStage.{RouterStage}
use Rattle.intf_orch.specs.declared.stage.RouterStage.TheVariants as router
use Rattle.intf_orch.specs.declared.stage.Subject.{Subject}
use Rattle.intf_orch.specs.declared.stage.Subject.TheVariants as subject
use Rattle.intf_orch.proofs.Operations.{Starts}
use Rattle.intf_orch.proofs.Unshared.{removal-started, row-started}

-- ---- the start

module _ (plan : Ports) (label : VrfName) where
  row-is : (r : Row) → Fits plan (key.Vrf label) r → row_where true row.Vrf ≡ Some r
  row-is row.Vrf fits = refl
  row-is _ fits = elim fits [ ]

  -- what is due of a router's own
  added-due : (r : Row) → Fits plan (key.Vrf label) r → own_changes plan (key.Vrf label) None (Some r) ≡ router_due label router.Comes
  added-due row.Vrf fits = refl
  added-due _ fits = elim fits [ ]

  changed-due : (a r : Row) → Fits plan (key.Vrf label) a → Fits plan (key.Vrf label) r → own_changes plan (key.Vrf label) (Some a) (Some r) ≡ []
  changed-due row.Vrf row.Vrf old fits = set_none (thing.VirtualRouter label) []
  changed-due row.Vrf _ old fits = elim fits [ ]
  changed-due _ r old fits = elim old [ ]

  removed-due : (a : Row) → Fits plan (key.Vrf label) a → own_changes plan (key.Vrf label) (Some a) None ≡ router_due label router.Goes
  removed-due row.Vrf fits = refl
  removed-due _ fits = elim fits [ ]

  module _ (names : Names) (room : RoomState) (used : List ℕ) (worker : ℕ) where
    pub router-added : (r : Row) (need : List ℕ) (names' : Names) (room' : RoomState) (begun : Result (Unit {0}) Wait) (answer : Result Subject Wait)
        → need ≡ router_places
        → answer ≡ result_and begun (Ok (subject.Vrf label router.Comes))
        → MayStart plan names worker (key.Vrf label) None (Some r)
        → OnOk begun (row_reason names room used [] [] need ≡ None)
        → OnOk begun (names' ≡ begun_by names worker (key.Vrf label) [] false None false)
        → OnOk begun (Reserves room worker need room')
        → IfErr begun (λ w. row_reason names room used [] [] need ≡ Some w)
        → OnErr begun (names' ≡ names)
        → OnErr begun (room' ≡ room)
        → Starts plan names room used worker answer names' room' (key.Vrf label) None (Some r)
    router-added r need names' room' begun answer needs is may =
        row-started plan names room used worker (subject.Vrf label router.Comes) (λ r. refl) refl None r need names' room' begun answer is needs may refl refl (row-is r) (added-due r)

    pub router-changed : (a r : Row) (names' : Names) (room' : RoomState) (begun : Result (Unit {0}) Wait) (answer : Result Subject Wait)
        → answer ≡ result_and begun (Ok (subject.Vrf label router.Stays))
        → MayStart plan names worker (key.Vrf label) (Some a) (Some r)
        → OnOk begun (row_reason names room used [] [] no_places ≡ None)
        → OnOk begun (names' ≡ begun_by names worker (key.Vrf label) [] true None false)
        → OnOk begun (Reserves room worker no_places room')
        → IfErr begun (λ w. row_reason names room used [] [] no_places ≡ Some w)
        → OnErr begun (names' ≡ names)
        → OnErr begun (room' ≡ room)
        → Starts plan names room used worker answer names' room' (key.Vrf label) (Some a) (Some r)
    router-changed a r names' room' begun answer is may =
        row-started plan names room used worker (subject.Vrf label router.Stays) (λ r. refl) refl (Some a) r no_places names' room' begun answer is refl may refl (row-is a (may.old_fits a refl)) (row-is r) (changed-due a r (may.old_fits a refl))

    pub router-removed : (a : Row) (names' : Names) (begun : Result (Unit {0}) Wait) (answer : Result Subject Wait)
        → answer ≡ result_and begun (Ok (subject.Vrf label router.Goes))
        → MayStart plan names worker (key.Vrf label) (Some a) None
        → OnOk begun (retire_refusal_at names worker (name.Row (key.Vrf label)) ≡ None)
        → OnOk begun (names' ≡ changed names (name.Row (key.Vrf label)) (begun_to_go worker))
        → IfErr begun (λ w. retire_refusal_at names worker (name.Row (key.Vrf label)) ≡ Some w)
        → OnErr begun (names' ≡ names)
        → Starts plan names room used worker answer names' room (key.Vrf label) (Some a) None
    router-removed a names' begun answer is may =
        let fits = may.old_fits a refl in
        removal-started plan names room used worker (subject.Vrf label router.Goes) (λ r. refl) refl a names' begun answer is refl (row-is a fits) (removed-due a fits)

-- ---- the call that is due, and the answer

module _ (names : Names) (label : VrfName) (worker : ℕ) (applied wanted : Bool) where
  abbrev Stage : RouterStage → Operation
  Stage s = intf_operation worker applied wanted (subject.Vrf label s)

  -- of a router that is to go the applied row has it
  own-router : (plan : Ports) (applied : Bool) (u : Thing) → IsIn u (own_of plan (key.Vrf label) (row_where applied row.Vrf) ++ []) → IsIn (thing.VirtualRouter label) (own_of plan (key.Vrf label) (row_where applied row.Vrf) ++ [])
  own-router plan true u h = inl refl
  own-router plan false u h = elim h [ ]

  made-next : (plan : Ports) → IsNextOf plan names (Stage router.Comes) (next.Call (call.Create (body.VirtualRouter label)))
  made-next plan = (
    Make (thing.VirtualRouter label),
    [],
    refl,
    record {
      body = body.VirtualRouter label;
      of = record { first = record { 0 = 0 }; second = record { 0 = 0 }; first_at = tt; second_at = tt; body_is = refl };
      is = refl;
    },
  )

  taken-next : (plan : Ports) (v : Vid) → first_of (ids_of names (name.Row (key.Vrf label))) ≡ Some v → IsOver plan (Stage router.Goes) → IsNextOf plan names (Stage router.Goes) (next.Call (call.Remove (entry.Oid v)))
  taken-next plan v known over = (
    Take (thing_name.VirtualRouter label),
    [],
    refl,
    record {
      old = thing.VirtualRouter label;
      there = own-router plan applied over.next.0 over.next.1;
      same = refl;
      entry = entry.Oid v;
      of = record {
        body = body.VirtualRouter label;
        of = record { first = v; second = v; first_at = tt; second_at = tt; body_is = refl };
        id = v;
        numbered = λ e. known;
        is = refl;
      };
      is = refl;
    },
  )

  module _ (f : Operation) (stage : RouterStage) (is : f ≡ Stage stage) where
    pub knows-router : KnowsIds names f → KnowsRouter names label stage
    knows-router knows = by stage (subst (KnowsIds names) is knows)
      where
        by : (s : RouterStage) → KnowsIds names (Stage s) → KnowsRouter names label s
        by router.Stays h = tt
        by router.Comes h = tt
        by router.Goes h = h

    pub next-router : (plan : Ports) (x : Next) → IsRouterNext names label stage x → IsOver plan f → IsNextOf plan names f x
    next-router plan x next over = subst (λ z. IsNextOf plan names z x) (sym is) (by stage next (subst (IsOver plan) is over))
      where
        by : (s : RouterStage) → IsRouterNext names label s x → IsOver plan (Stage s) → IsNextOf plan names (Stage s) x
        by router.Stays h over = rw h refl
        by router.Comes h over = subst (IsNextOf plan names (Stage router.Comes)) (sym h) (made-next plan)
        by router.Goes h over = subst (IsNextOf plan names (Stage router.Goes)) (sym h.2) (taken-next plan h.0 h.1 over)

    pub may-router : (made : Option Vid) → MayTake f made names → MayBuildRouter names worker label stage made
    may-router made may = by stage (subst (λ z. MayTake z made names) is may)
      where
        by : (s : RouterStage) → MayTake (Stage s) made names → MayBuildRouter names worker label s made
        by router.Stays m = tt
        by router.Comes m = let builds = m.builds (thing.VirtualRouter label) [] (name.Row (key.Vrf label)) refl refl in (m.numbered (thing.VirtualRouter label) [] refl, builds.0, builds.1)
        by router.Goes m = tt
