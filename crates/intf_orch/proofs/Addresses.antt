-- the start of the operation of an interface's address
use Rattle.std.proofs.Common.{◌≡◌, ◌⊎◌, inl, inr, ◌||◌, ◌&&◌, ℕ, Bool, true, false, List, [], ◌∷◌, Option, Some, None, is_some, Result, Ok, Err, OnOk, OnErr, IfErr, if◌then◌else◌, refl, sym, ap, ap₂, subst, ◌∙◌}
use Rattle.std.specs.Result.{result_and}
use Rattle.swss_types.specs.contracts.address.IpEq.TheImpl.Laws as equal_ip
use Rattle.swss_types.specs.declared.address.Ip.{Ip}
use Rattle.swss_types.specs.declared.interface.IfName.{IfName}
use Rattle.swss_types.specs.declared.interface.IfName.TheVariants as on
use Rattle.swss_types.specs.declared.vrf.Vrf.{Vrf}
use Rattle.swss_types.proofs.Routers.{vrf-refl}
use Rattle.table_schema.specs.Plan.{Ports}
use Rattle.table_schema.specs.declared.key.Key.{Key}
use Rattle.table_schema.specs.declared.key.Key.TheVariants as key
use Rattle.table_schema.specs.declared.row.Row.{Row as BareRow}
use Rattle.table_schema.specs.declared.row.Row.TheVariants as bare_row
use Rattle.sai_types.specs.Alike.{IsIn}
use Rattle.switch_model.specs.Placed as row
use Rattle.switch_model.specs.Placed.{Placed as Row, place}
use Rattle.switch_model.specs.Things.{lane_of}
use Rattle.switch_model.specs.declared.wait.Wait.{Wait}
use Rattle.row_layout.specs.Operations.{own_changes}
use Rattle.row_layout.specs.Rows.{Own, Owner, from}
use Rattle.row_layout.specs.Shared.{address_uses, uses}
use Rattle.ref_counts.specs.declared.name.Name.{Name}
use Rattle.ref_counts.specs.declared.name.Name.TheVariants as name
use Rattle.ref_counts.specs.declared.name.NameState.TheVariants as state
use Rattle.ref_counts.specs.Registered.{begun_to_go}
use Rattle.ref_counts.specs.Registry.{Names, changed, retire_refusal_at, state_in, state_of}
use Rattle.ref_counts.specs.Room.{Reserves, RoomState}
use Rattle.ref_counts.proofs.Found.{apart_from, found-other}
use Rattle.switch_machine.specs.Flights.{Fits}
use Rattle.switch_machine.specs.Operations.{built_first}
use Rattle.orch_flight.specs.Needing.{name_for, places_for, row_reason, to_build}
use Rattle.orch_flight.specs.Sharing.{AreOfShared, MayShare, MayStart, begun_by, is_absent, lacks_shared, owner_for, owners_of}
use Rattle.orch_flight.specs.Starting.{built_here, first_left, leaving, retired_by, started_by, started_names, started_names_by, started_operation, taken_here}
use Rattle.orch_flight.specs.Taking.{to_list}
use Rattle.orch_flight.proofs.Begins.{no_places, reserves-none, wait-removal}
use Rattle.orch_flight.proofs.Rows.{built_of, row-begins, row-builds, row-starts, same-name}
use Rattle.orch_flight.proofs.Stages.{row_apart}
use Rattle.intf_orch.specs.Interfaces.{IsLive, IsRetired, intf_operation, left_shared, own_due, own_stage, retired, row_where}
use Rattle.intf_orch.specs.declared.stage.OwnStage.{OwnStage}
use Rattle.intf_orch.specs.declared.stage.OwnStage.TheVariants as own
use Rattle.intf_orch.specs.declared.stage.Subject.{Subject}
use Rattle.intf_orch.specs.declared.stage.Subject.TheVariants as subject
use Rattle.intf_orch.proofs.Operations.{Starts, operation-is, operation-plain}

-- what a row shares may be begun
pub may-share : (plan : Ports) (names : Names) (k : Key) (r : Row) (shared : Option Name) → uses plan k r ≡ owners_of shared → ((o : Owner) → IsIn o (uses plan k r) → MayShare names (Some (name_for o))) → MayShare names shared
may-share plan names k r None is may = tt
may-share plan names k r (Some m) is may = subst (λ z. MayShare names (Some z)) (same-name m) (may (owner_for m) (subst (IsIn (owner_for m)) (sym is) (inl refl)))

-- and what the applied row shares is live, also once the row begins to go
pub is-live : (plan : Ports) (names : Names) (k : Key) (r : Row) (shared : Option Name) → uses plan k r ≡ owners_of shared → ((o : Owner) → IsIn o (uses plan k r) → state_of names (name_for o) ≡ state.Live) → IsLive names shared
is-live plan names k r None is live = tt
is-live plan names k r (Some m) is live = subst (λ z. state_of names z ≡ state.Live) (same-name m) (live (owner_for m) (subst (IsIn (owner_for m)) (sym is) (inl refl)))

module _ (plan : Ports) (v : Vrf) (n : IfName) (ip : Ip) (len : ℕ) where
  abbrev k : Key
  k = key.Addr n ip len

  -- what the row of an address shares is its own address, if anything
  abbrev IsOwn : Option Name → Type 0
  IsOwn shared = (shared ≡ None) ⊎ (shared ≡ Some (name.Own v ip))

  owned : (m : Name) → Own v ip ≡ owner_for m → Some m ≡ Some (name.Own v ip)
  owned (name.Row q) h = absurd cc
  owned (name.BridgePort lane) h = absurd cc
  owned (name.Own u q) h = let at : v ≡ u = cc in let same : ip ≡ q = cc in ap₂ (λ w z. Some (name.Own w z)) (sym at) (sym same)
  owned (name.Group hops) h = absurd cc

  own-one : (shared : Option Name) → Own v ip ∷ [] ≡ owners_of shared → IsOwn shared
  own-one None h = absurd cc
  own-one (Some m) h = let same : Own v ip ≡ owner_for m = cc in inr (owned m same)

  own-none : (shared : Option Name) → [] ≡ owners_of shared → IsOwn shared
  own-none None h = inl refl
  own-none (Some m) h = absurd cc

  own-from : (o : Option ℕ) (shared : Option Name) → from o (λ lane. Own v ip ∷ []) ≡ owners_of shared → IsOwn shared
  own-from None shared h = own-none shared h
  own-from (Some lane) shared h = own-one shared h

  is-own : (n : IfName) (shared : Option Name) → address_uses plan n v ip ≡ owners_of shared → IsOwn shared
  is-own (on.Ethernet p) shared h = own-from (lane_of plan p) shared h
  is-own (on.Vlan vlan) shared h = own-one shared h
  is-own (on.Loopback l) shared h = own-one shared h

  row-own : (r : BareRow) (shared : Option Name) → Fits plan k (place v r) → uses plan k (place v r) ≡ owners_of shared → IsOwn shared
  row-own bare_row.Addr shared fits is = is-own n shared is
  row-own _ shared fits is = elim fits [ ]

  row-is : (r : BareRow) → Fits plan k (place v r) → row_where true (row.Addr v) ≡ Some (place v r)
  row-is bare_row.Addr fits = refl
  row-is _ fits = elim fits [ ]

  -- nothing is due of a row's own
  none-added : (r : BareRow) → Fits plan k (place v r) → own_changes plan k None (Some (place v r)) ≡ []
  none-added bare_row.Addr fits = refl
  none-added _ fits = elim fits [ ]

  none-changed : (a r : BareRow) → Fits plan k (place v a) → Fits plan k (place v r) → own_changes plan k (Some (place v a)) (Some (place v r)) ≡ []
  none-changed bare_row.Addr bare_row.Addr old fits = refl
  none-changed bare_row.Addr _ old fits = elim fits [ ]
  none-changed _ r old fits = elim old [ ]

  none-removed : (a : BareRow) → Fits plan k (place v a) → own_changes plan k (Some (place v a)) None ≡ []
  none-removed bare_row.Addr fits = refl
  none-removed _ fits = elim fits [ ]

  same-uses : (a r : BareRow) → Fits plan k (place v a) → Fits plan k (place v r) → uses plan k (place v a) ≡ uses plan k (place v r)
  same-uses bare_row.Addr bare_row.Addr old fits = refl
  same-uses bare_row.Addr _ old fits = elim fits [ ]
  same-uses _ r old fits = elim old [ ]

  here-by : (b : Bool) → built_here (built_of (Some (name.Own v ip)) b) [] ≡ own_due v ip (own_stage b)
  here-by true = refl
  here-by false = refl

  first-by : (b : Bool) → built_first (built_of (Some (name.Own v ip)) b) [] ≡ own_due v ip (own_stage b)
  first-by true = refl
  first-by false = refl

  module _ (names : Names) where
    built-here : (shared : Option Name) → IsOwn shared → built_here (built_of shared (lacks_shared names shared)) [] ≡ own_due v ip (own_stage (lacks_shared names shared))
    built-here shared (inl e) = rw e refl
    built-here shared (inr e) = rw e (here-by (lacks_shared names (Some (name.Own v ip))))

    built-first : (shared : Option Name) → IsOwn shared → built_first (built_of shared (lacks_shared names shared)) [] ≡ own_due v ip (own_stage (lacks_shared names shared))
    built-first shared (inl e) = rw e refl
    built-first shared (inr e) = rw e (first-by (lacks_shared names (Some (name.Own v ip))))

    live-builds : (shared : Option Name) → IsLive names shared → lacks_shared names shared ≡ false
    live-builds None live = refl
    live-builds (Some m) live = ap is_absent live

    -- a row that is the same leaves nothing
    keeps : (shared : Option Name) → IsOwn shared → first_left (owners_of shared) (owners_of shared) ≡ None
    keeps shared (inl e) = rw e refl
    keeps shared (inr e) = rw e (ap₂ (λ a b. if (a && b) || false then None else Some (Own v ip)) (vrf-refl v) (equal_ip.laws-law.refl ip))

    module _ (room : RoomState) (used : List ℕ) (worker : ℕ) where
      -- a row that is to be applied
      row-started : (old : Option Row) (r : BareRow) (shared : Option Name) (stage : OwnStage) (need : List ℕ) (names' : Names) (room' : RoomState) (begun : Result (Unit {0}) Wait) (answer : Result Subject Wait)
          → uses plan k (place v r) ≡ owners_of shared
          → answer ≡ result_and begun (Ok (subject.Addr v n ip len stage))
          → need ≡ places_for (own_due v ip stage)
          → MayStart plan names worker k old (Some (place v r))
          → row_where (is_some old) (row.Addr v) ≡ old
          → (Fits plan k (place v r) → own_changes plan k old (Some (place v r)) ≡ [])
          → (Fits plan k (place v r) → own_due v ip (own_stage (lacks_shared names shared)) ≡ own_due v ip stage)
          → (Fits plan k (place v r) → leaving plan k old (Some (place v r)) ≡ None)
          → retired v ip stage ≡ None
          → OnOk begun (row_reason names room used (key.Intf n ∷ []) (to_list shared) need ≡ None)
          → OnOk begun (names' ≡ begun_by names worker k (key.Intf n ∷ []) (is_some old) shared (lacks_shared names shared))
          → OnOk begun (Reserves room worker need room')
          → IfErr begun (λ w. row_reason names room used (key.Intf n ∷ []) (to_list shared) need ≡ Some w)
          → OnErr begun (names' ≡ names)
          → OnErr begun (room' ≡ room)
          → Starts plan names room used worker answer names' room' k old (Some (place v r))
      row-started old r shared stage need names' room' begun answer shares is needs may there nothing due leaves stays free begins reserves waits same same_room =
          row-starts plan names room used worker k old (place v r) (intf_operation worker (is_some old) true) (subject.Addr v n ip len stage) names' room' begun answer is
          (λ none. let fits = may.new_fits (place v r) refl none in
          operation-plain plan names worker (subject.Addr v n ip len stage) old (Some (place v r)) there (row-is r fits)
          (sym (ap (λ cs. built_here (to_build plan names k (Some (place v r))) cs) (nothing fits) ∙ ap (λ o. built_here o []) (row-builds plan names k (place v r) shared shares) ∙ built-here shared (row-own r shared fits shares) ∙ due fits)) stays (leaves fits))
          (row-begins plan names room used worker k old (place v r) shared need names' room' (Ok begun) shares refl (λ none. leaves (may.new_fits (place v r) refl none))
          (λ none. let fits = may.new_fits (place v r) refl none in
          ap places_for (ap (λ cs. built_first (to_build plan names k (Some (place v r))) cs) (nothing fits) ∙ ap (λ o. built_first o []) (row-builds plan names k (place v r) shared shares) ∙ built-first shared (row-own r shared fits shares) ∙ due fits) ∙ sym needs)
          free begins reserves waits same same_room)

      pub address-added : (r : BareRow) (shared : Option Name) (builds : Bool) (stage : OwnStage) (need : List ℕ) (names' : Names) (room' : RoomState) (begun : Result (Unit {0}) Wait) (answer : Result Subject Wait)
          → uses plan k (place v r) ≡ owners_of shared
          → builds ≡ lacks_shared names shared
          → stage ≡ own_stage builds
          → need ≡ places_for (own_due v ip (own_stage builds))
          → answer ≡ result_and begun (Ok (subject.Addr v n ip len stage))
          → MayStart plan names worker k None (Some (place v r))
          → OnOk begun (row_reason names room used (key.Intf n ∷ []) (to_list shared) need ≡ None)
          → OnOk begun (names' ≡ begun_by names worker k (key.Intf n ∷ []) false shared (lacks_shared names shared))
          → OnOk begun (Reserves room worker need room')
          → IfErr begun (λ w. row_reason names room used (key.Intf n ∷ []) (to_list shared) need ≡ Some w)
          → OnErr begun (names' ≡ names)
          → OnErr begun (room' ≡ room)
          → Starts plan names room used worker answer names' room' k None (Some (place v r))
      address-added r shared builds stage need names' room' begun answer shares lacks comes needs is may =
          row-started None r shared stage need names' room' begun answer shares is (needs ∙ ap (λ s. places_for (own_due v ip s)) (sym comes)) may refl (none-added r)
          (λ fits. ap (λ b. own_due v ip (own_stage b)) (sym lacks) ∙ ap (own_due v ip) (sym comes)) (λ fits. refl) (ap (retired v ip) comes ∙ stays builds)
        where
          stays : (b : Bool) → retired v ip (own_stage b) ≡ None
          stays true = refl
          stays false = refl

      pub address-changed : (a r : BareRow) (shared : Option Name) (names' : Names) (room' : RoomState) (begun : Result (Unit {0}) Wait) (answer : Result Subject Wait)
          → uses plan k (place v r) ≡ owners_of shared
          → answer ≡ result_and begun (Ok (subject.Addr v n ip len own.Stays))
          → MayStart plan names worker k (Some (place v a)) (Some (place v r))
          → OnOk begun (row_reason names room used (key.Intf n ∷ []) (to_list shared) no_places ≡ None)
          → OnOk begun (names' ≡ begun_by names worker k (key.Intf n ∷ []) true shared (lacks_shared names shared))
          → OnOk begun (Reserves room worker no_places room')
          → IfErr begun (λ w. row_reason names room used (key.Intf n ∷ []) (to_list shared) no_places ≡ Some w)
          → OnErr begun (names' ≡ names)
          → OnErr begun (room' ≡ room)
          → Starts plan names room used worker answer names' room' k (Some (place v a)) (Some (place v r))
      address-changed a r shared names' room' begun answer shares is may =
          let old = may.old_fits (place v a) refl in
          row-started (Some (place v a)) r shared own.Stays no_places names' room' begun answer shares is refl may (row-is a old) (λ fits. none-changed a r old fits)
          (λ fits. ap (λ b. own_due v ip (own_stage b)) (live-builds shared (is-live plan names k (place v a) shared (same-uses a r old fits ∙ shares) may.shared)))
          (λ fits. ap (first_left (uses plan k (place v r))) (same-uses a r old fits) ∙ ap (λ os. first_left os os) shares ∙ keeps shared (row-own r shared fits shares)) refl

      -- the names while its row begins to go
      abbrev later : Names
      later = changed names (name.Row k) (begun_to_go worker)

      pub live-later : (a : BareRow) (shared : Option Name) → uses plan k (place v a) ≡ owners_of shared → MayStart plan names worker k (Some (place v a)) None → IsLive names shared
      live-later a shared shares may = is-live plan names k (place v a) shared shares may.shared

      retired-as : (stage : OwnStage) → IsRetired later worker k (Some (name.Own v ip)) stage → intf_operation worker true false (subject.Addr v n ip len stage) ≡ started_by later worker k (Some (row.Addr v)) None [] (Some (Own v ip))
      retired-as own.Goes h = operation-is worker (subject.Addr v n ip len own.Goes) (Some (row.Addr v)) None (taken_here (retired_by later worker k (Own v ip))) (retired_by later worker k (Own v ip)) refl refl (ap taken_here (sym h)) (sym h)
      retired-as own.Stays h = operation-is worker (subject.Addr v n ip len own.Stays) (Some (row.Addr v)) None (taken_here (retired_by later worker k (Own v ip))) (retired_by later worker k (Own v ip)) refl refl (ap taken_here (sym h)) (sym h)
      retired-as own.Comes h = elim h [ ]
      retired-as own.Gone h = elim h [ ]

      left-as : (shared : Option Name) (stage : OwnStage) → IsOwn shared → IsRetired later worker k shared stage
          → (intf_operation worker true false (subject.Addr v n ip len stage) ≡ started_by later worker k (Some (row.Addr v)) None [] (first_left [] (owners_of shared))) × (left_shared later worker k shared ≡ started_names_by later worker k [] (first_left [] (owners_of shared)))
      left-as shared stage (inl e) = rw e (λ h. (ap (λ s. intf_operation worker true false (subject.Addr v n ip len s)) h, refl))
      left-as shared stage (inr e) = rw e (λ h. (retired-as stage h, refl))

      removed-as : (a : BareRow) (shared : Option Name) (stage : OwnStage) → Fits plan k (place v a) → uses plan k (place v a) ≡ owners_of shared → IsRetired later worker k shared stage
          → (intf_operation worker true false (subject.Addr v n ip len stage) ≡ started_operation plan names worker k (Some (place v a)) None) × (left_shared later worker k shared ≡ started_names plan names worker k (Some (place v a)) None)
      removed-as bare_row.Addr shared stage fits shares gone =
          let is = left-as shared stage (is-own n shared shares) gone in
          (is.0 ∙ ap (λ os. started_by later worker k (Some (row.Addr v)) None [] (first_left [] os)) (sym shares), is.1 ∙ ap (λ os. started_names_by later worker k [] (first_left [] os)) (sym shares))
      removed-as _ shared stage fits shares gone = elim fits [ ]

      pub address-removed : (a : BareRow) (shared : Option Name) (stage : OwnStage) (names' : Names)
          → uses plan k (place v a) ≡ owners_of shared
          → MayStart plan names worker k (Some (place v a)) None
          → retire_refusal_at names worker (name.Row k) ≡ None
          → names' ≡ left_shared later worker k shared
          → IsRetired later worker k shared stage
          → Starts plan names room used worker (Ok (subject.Addr v n ip len stage)) names' room k (Some (place v a)) None
      address-removed a shared stage names' shares may free begins gone =
          let fits = may.old_fits (place v a) refl in
          let is = removed-as a shared stage fits shares gone in
          let none : places_for (own_changes plan k (Some (place v a)) None) ≡ no_places = ap places_for (none-removed a fits) in
          (wait-removal plan names room used worker k (Some (place v a)) none ∙ free, is.0, begins ∙ is.1, reserves-none room worker (places_for (own_changes plan k (Some (place v a)) None)) none)

      pub address-held : (a : BareRow) (w : Wait) (names' : Names) → MayStart plan names worker k (Some (place v a)) None → retire_refusal_at names worker (name.Row k) ≡ Some w → names' ≡ names → Starts plan names room used worker (Err w) names' room k (Some (place v a)) None
      address-held a w names' may waits same = (wait-removal plan names room used worker k (Some (place v a)) (ap places_for (none-removed a (may.old_fits (place v a) refl))) ∙ waits, same, refl)

pub stays-live : (names : Names) (worker : ℕ) (k : Key) (shared : Option Name) → AreOfShared shared → IsLive names shared → IsLive (changed names (name.Row k) (begun_to_go worker)) shared
stays-live names worker k None of live = tt
stays-live names worker k (Some m) of live = ap state_in (found-other names (name.Row k) m (begun_to_go worker) (λ q is. apart_from (name.Row k) m q (row_apart k m of) is)) ∙ live
