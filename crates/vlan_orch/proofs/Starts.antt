-- the start of the operation of a VLAN, or of a member of one
use Rattle.std.proofs.Common.{◌≡◌, ℕ, Bool, true, false, List, [], ◌∷◌, Option, Some, None, is_some, option_map, Result, Ok, IfOk, IfErr, OnOk, OnErr, refl, sym, ap, subst, ◌∙◌, Bor}
use Rattle.swss_types.specs.declared.out_of_memory.OutOfMemory.{OutOfMemory}
use Rattle.swss_types.specs.declared.tagging.Tagging.{Tagging}
use Rattle.table_schema.specs.Plan.{Ports}
use Rattle.table_schema.specs.declared.key.Key.{Key}
use Rattle.table_schema.specs.declared.key.Key.TheVariants as key
use Rattle.table_schema.specs.declared.row.Row.{Row as BareRow}
use Rattle.switch_model.specs.Placed.{Placed as Row}
use Rattle.switch_model.specs.Placed as row
use Rattle.sai_types.specs.declared.thing.Thing.TheVariants as thing
use Rattle.switch_model.specs.Things.{lane_of}
use Rattle.switch_model.specs.declared.wait.Wait.{Wait}
use Rattle.row_layout.specs.Operations.{Make, going, make_all, own_changes, set_all, set_to, take_all}
use Rattle.row_layout.specs.Rows.{Bridge}
use Rattle.row_layout.specs.Shared.{uses}
use Rattle.switch_machine.specs.Flights.{Fits}
use Rattle.switch_machine.specs.Operations.{built_first}
use Rattle.ref_counts.specs.declared.name.Name.{Name}
use Rattle.ref_counts.specs.declared.name.Name.TheVariants as name
use Rattle.ref_counts.specs.declared.name.NameState.TheVariants as state
use Rattle.ref_counts.specs.Registered as registered
use Rattle.ref_counts.specs.Registry.{Names, changed, retire_refusal_at, state_of}
use Rattle.ref_counts.specs.Room.{Reserves, RoomState}
use Rattle.orch_flight.specs.Needing.{absent_or, first_absent, first_unapplied, places_for, row_names, row_reason, to_build, wait_of}
use Rattle.orch_flight.specs.Sharing.{MayStart, begun_by, lacks_shared, owners_of}
use Rattle.orch_flight.specs.Starting.{IsBegunBy, IsStartedBy, first_due, first_left, leaving, started_names, started_names_by, in_default}
use Rattle.orch_flight.specs.Taking.{to_list}
use Rattle.orch_flight.proofs.Begins.{begun-removal, names-plain, no_places, none-missing, places-set, places-taken}
use Rattle.orch_flight.proofs.Rows.{built_of, row-begins, row-builds}
use Rattle.vlan_orch.specs.Vlans.{IsVlanStart, IsOfVlan, IsVlanKey, subject_operation, places_of_member, places_of_vlan}
use Rattle.vlan_orch.proofs.Operations.{AreLive, FitsAll, bridge-live, bridges, first-operation, keeps-bridge, members}
use Rattle.vlan_orch.specs.declared.steps.VlanSubject.{VlanSubject}

-- the rows behind references, in their places
abbrev pub rows : Option (Bor BareRow) → Option Row
rows o = in_default (option_map (λ r. r.now) o)

pub some-rows : (applied : Bool) (o : Option (Bor BareRow)) → applied ≡ is_some o → applied ≡ is_some (rows o)
some-rows applied None is = is
some-rows applied (Some r) is = is

-- what a row shares is built where nothing of it is there
built-some : (names : Names) (shared : Option Name) → is_some (built_of shared (lacks_shared names shared)) ≡ lacks_shared names shared
built-some names None = refl
built-some names (Some n) = elim (lacks_shared names (Some n)) as (λ b. is_some (built_of (Some n) b) ≡ b) [ true ↦ refl | false ↦ refl ]

pub builds-where : (plan : Ports) (names : Names) (k : Key) (r : Row) (shared : Option Name) → uses plan k r ≡ owners_of shared → lacks_shared names shared ≡ is_some (to_build plan names k (Some r))
builds-where plan names k r shared is = sym (ap is_some (row-builds plan names k r shared is) ∙ built-some names shared)

module _ (plan : Ports) (names : Names) (room : RoomState) (used : List ℕ) (worker : ℕ) where
  -- what is known of a row's start that names these keys, shares this and needs these places
  abbrev pub Told : Key → List Key → Bool → Option Name → List ℕ → Names → RoomState → Result (Result (Unit {0}) Wait) OutOfMemory → Type 0
  Told k ks applied shared need names' room' res =
      IfOk res (λ a. OnOk a (row_reason names room used ks (to_list shared) need ≡ None))
      × IfOk res (λ a. OnOk a (names' ≡ begun_by names worker k ks applied shared (lacks_shared names shared)))
      × IfOk res (λ a. OnOk a (Reserves room worker need room'))
      × IfOk res (λ a. IfErr a (λ w. row_reason names room used ks (to_list shared) need ≡ Some w))
      × IfOk res (λ a. OnErr a (names' ≡ names))
      × IfOk res (λ a. OnErr a (room' ≡ room))

  -- the places of what a row's operation makes
  abbrev Needs : Key → Option Row → Row → List ℕ → Type 0
  Needs k old r need = places_for (built_first (to_build plan names k (Some r)) (own_changes plan k old (Some r))) ≡ need

  -- ---- a VLAN

  vlan-places : (v : ℕ) (old : Option Row) (r : Row) → FitsAll plan (key.Vlan v) old → Fits plan (key.Vlan v) r → Needs (key.Vlan v) old r (places_of_vlan (is_some old))
  vlan-places v None row.Vlan fits_old fits = refl
  vlan-places v (Some row.Vlan) row.Vlan fits_old fits = places-set (thing.Vlan v) (thing.Vlan v) []
  vlan-places v (Some r) row.Vlan fits_old fits = elim (fits_old r refl) [ ]
  vlan-places v old _ fits_old fits = elim fits [ ]

  vlan-leaves : (v : ℕ) (old : Option Row) (r : Row) → leaving plan (key.Vlan v) old (Some r) ≡ None
  vlan-leaves v None r = refl
  vlan-leaves v (Some a) r = refl

  pub vlan-start : (k : Key) (old : Option Row) (r : Row) (applied : Bool) (need : List ℕ) (names' : Names) (room' : RoomState) (res : Result (Result (Unit {0}) Wait) OutOfMemory)
      → IsOfVlan k → FitsAll plan k old → (first_unapplied names (row_names k r) ≡ None → Fits plan k r) → applied ≡ is_some old → need ≡ places_of_vlan applied → Told k [] applied None need names' room' res
      → IfOk res (λ a. IsBegunBy plan names room used worker k old (Some r) a names' room')
  vlan-start (key.Vlan v) old r applied need names' room' res is fits_old fits some needs told =
      let (free, begun, places, waits, same, same_room) = subst (λ b. Told (key.Vlan v) [] b None need names' room' res) some told in
      row-begins plan names room used worker (key.Vlan v) old r None need names' room' res refl refl
      (λ none. vlan-leaves v old r) (λ none. vlan-places v old r fits_old (fits none) ∙ sym (needs ∙ ap places_of_vlan some)) free begun places waits same same_room
  vlan-start k old r applied need names' room' res is fits_old fits some needs told = elim is [ ]

  -- ---- a member

  module _ (v p : ℕ) where
    abbrev member_key : Key
    member_key = key.Member v p

    added-places : (tagging : Tagging) (lane : ℕ) → lane_of plan p ≡ Some lane → Needs member_key None (row.Member tagging) (places_of_member false (is_some (to_build plan names member_key (Some (row.Member tagging)))))
    added-places tagging lane is =
        subst (λ o. places_for (built_first (first_absent names (bridges o)) (make_all (members v tagging o) [])) ≡ places_of_member false (is_some (first_absent names (bridges o)))) (sym is)
        (elim (state_of names (name.BridgePort lane)) as (λ s. places_for (built_first (absent_or (Bridge lane) s None) (Make (thing.VlanMember v lane tagging) ∷ [])) ≡ places_of_member false (is_some (absent_or (Bridge lane) s None))) [
          | state.Absent ↦ refl
          | state.Live ↦ refl
          | state.Building w ↦ refl
          | state.Retiring w ↦ refl
        ])

    changed-places : (a b : Tagging) (lane : ℕ) → lane_of plan p ≡ Some lane → state_of names (name.BridgePort lane) ≡ state.Live → Needs member_key (Some (row.Member a)) (row.Member b) no_places
    changed-places a b lane is live =
        ap (λ o. places_for (built_first (first_absent names (bridges o)) (set_all (members v a o) (members v b o)))) is
        ∙ ap (λ s. places_for (built_first (absent_or (Bridge lane) s None) (set_to (thing.VlanMember v lane a) (thing.VlanMember v lane b) []))) live
        ∙ places-set (thing.VlanMember v lane a) (thing.VlanMember v lane b) []

    member-places : (old : Option Row) (r : Row) → FitsAll plan member_key old → AreLive plan names member_key old → Fits plan member_key r → Needs member_key old r (places_of_member (is_some old) (is_some (to_build plan names member_key (Some r))))
    member-places None (row.Member b) fits_old live fits = added-places b fits.0 fits.1
    member-places (Some (row.Member a)) (row.Member b) fits_old live fits = changed-places a b fits.0 fits.1 (bridge-live plan names v p fits.0 a fits.1 live)
    member-places (Some r) (row.Member b) fits_old live fits = elim (fits_old r refl) [ ]
    member-places old _ fits_old live fits = elim fits [ ]

    member-leaves : (old : Option Row) (r : Row) → FitsAll plan member_key old → Fits plan member_key r → leaving plan member_key old (Some r) ≡ None
    member-leaves None r fits_old fits = refl
    member-leaves (Some (row.Member a)) (row.Member b) fits_old fits = keeps-bridge (lane_of plan p)
    member-leaves (Some r) (row.Member b) fits_old fits = elim (fits_old r refl) [ ]
    member-leaves old _ fits_old fits = elim fits [ ]

    abbrev named : List Key
    named = key.Vlan v ∷ key.Port p ∷ []

    -- what is told of a member's row that starts
    abbrev StartsAs : Option Row → Row → Bool → Option Name → List ℕ → Names → RoomState → Result (Result (Unit {0}) Wait) OutOfMemory → Key → Type 0
    StartsAs old r applied shared need names' room' res k =
        FitsAll plan k old → AreLive plan names k old → (first_unapplied names (row_names k r) ≡ None → Fits plan k r) → uses plan k r ≡ owners_of shared → Told k named applied shared need names' room' res
        → IfOk res (λ a. IsBegunBy plan names room used worker k old (Some r) a names' room')

    pub member-start : (k : Key) (old : Option Row) (r : Row) (applied : Bool) (shared : Option Name) (need : List ℕ) (names' : Names) (room' : RoomState) (res : Result (Result (Unit {0}) Wait) OutOfMemory)
        → k ≡ member_key → applied ≡ is_some old → need ≡ places_of_member applied (lacks_shared names shared) → StartsAs old r applied shared need names' room' res k
    member-start k old r applied shared need names' room' res is some needs = subst (StartsAs old r applied shared need names' room' res) (sym is) by
      where
        by : StartsAs old r applied shared need names' room' res member_key
        by fits_old live fits shares told =
            let (free, begun, places, waits, same, same_room) = subst (λ b. Told member_key named b shared need names' room' res) some told in
            let needed : places_of_member (is_some old) (is_some (to_build plan names member_key (Some r))) ≡ need =
            sym (needs ∙ ap (λ b. places_of_member b (lacks_shared names shared)) some ∙ ap (places_of_member (is_some old)) (builds-where plan names member_key r shared shares)) in
            row-begins plan names room used worker member_key old r shared need names' room' res shares refl
            (λ none. member-leaves old r fits_old (fits none)) (λ none. member-places old r fits_old live (fits none) ∙ needed) free begun places waits same same_room

  -- ---- a row that is to go

  removed-names : (k : Key) (a : Row) → IsVlanKey k → Fits plan k a → started_names plan names worker k (Some a) None ≡ changed names (name.Row k) (registered.begun_to_go worker)
  removed-names (key.Vlan v) a is fits = names-plain (changed names (name.Row (key.Vlan v)) (registered.begun_to_go worker)) worker (key.Vlan v) (first_due plan names (key.Vlan v) (Some a) None)
  removed-names (key.Member v p) (row.Member a) is fits =
      let later = changed names (name.Row (key.Member v p)) (registered.begun_to_go worker) in
      subst (λ o. started_names_by later worker (key.Member v p) (take_all (members v a o) []) (first_left [] (bridges o)) ≡ later) (sym fits.1) refl
  removed-names (key.Member v p) _ is fits = elim fits [ ]
  removed-names _ a is fits = elim is [ ]

  pub removal-start : (k : Key) (old new : Option Row) (names' : Names) (room' : RoomState) (res : Result (Result (Unit {0}) Wait) OutOfMemory)
      → new ≡ None → IsVlanKey k → (old ≡ None → new ≡ None → ⊥) → FitsAll plan k old
      → IfOk res (λ a. OnOk a (retire_refusal_at names worker (name.Row k) ≡ None))
      → IfOk res (λ a. OnOk a (names' ≡ changed names (name.Row k) (registered.begun_to_go worker)))
      → IfOk res (λ a. IfErr a (λ w. retire_refusal_at names worker (name.Row k) ≡ Some w))
      → IfOk res (λ a. OnErr a (names' ≡ names))
      → IfOk res (λ a. IsBegunBy plan names room used worker k old new a names' room)
  removal-start k None new names' room' res none is some fits free begun waits same = absurd (some refl none)
  removal-start k (Some a) new names' room' res none is some fits free begun waits same =
      subst (λ n. IfOk res (λ x. IsBegunBy plan names room used worker k (Some a) n x names' room)) (sym none)
      (begun-removal plan names room used worker k (Some a) names' res (places-taken (going plan k a)) (removed-names k a is (fits a refl)) free begun waits same)

  -- ---- the operation

  -- the new row of what began fits its key
  pub begun-fits : (k : Key) (old new : Option Row) (names' : Names) (room' : RoomState) (begun : Result (Unit {0}) Wait) (x : Unit {0}) → begun ≡ Ok x → MayStart plan names worker k old new → IsBegunBy plan names room used worker k old new begun names' room' → FitsAll plan k new
  begun-fits k old new names' room' begun x is may told r same =
      let none = (subst (λ a. IsBegunBy plan names room used worker k old new a names' room') is told).0 in
      may.new_fits r same (none-missing (first_unapplied names (row_names k r)) _ (subst (λ n. wait_of plan names room used worker k old n ≡ None) same none))

  -- what began, with the operation
  pub started-as : (k : Key) (old new : Option Row) (builds : Bool) (s : VlanSubject) (names' : Names) (room' : RoomState) (begun : Result (Unit {0}) Wait) (x : Unit {0}) → begun ≡ Ok x → MayStart plan names worker k old new → builds ≡ is_some (to_build plan names k new) → IsVlanStart plan k old new builds s
      → IsBegunBy plan names room used worker k old new begun names' room' → IsStartedBy plan names room used worker k old new (Ok (subject_operation worker s)) names' room'
  started-as k old new builds s names' room' begun x is may lacks first told =
      let (none, names_are, places) = subst (λ a. IsBegunBy plan names room used worker k old new a names' room') is told in
      let fits = begun-fits k old new names' room' begun x is may told in
      (none, first-operation plan names worker k old new builds s may.some may.old_fits fits lacks may.shared first, names_are, places)
