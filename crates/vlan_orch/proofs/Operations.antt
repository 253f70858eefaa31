-- the operation of a VLAN, or of a member of one, when it starts
use Rattle.std.proofs.Common.{◌≡◌, inl, ℕ, Bool, true, false, ◌&&◌, ◌||◌, List, [], ◌∷◌, Option, Some, None, is_some, IsSome, option_map, if◌then◌else◌, refl, sym, ap, ap₂, subst, ◌∙◌}
use Rattle.std.proofs.lemmas.Bool.{eq-eqb, false≢true}
use Rattle.swss_types.specs.contracts.tagging.TaggingPartialEq.TheImpl as tagging_eq
use Rattle.swss_types.specs.declared.tagging.Tagging.{Tagging}
use Rattle.swss_types.proofs.SameValues.{tagging_exact}
use Rattle.table_schema.specs.Plan.{Ports}
use Rattle.table_schema.specs.declared.key.Key.{Key}
use Rattle.table_schema.specs.declared.key.Key.TheVariants as key
use Rattle.switch_model.specs.Placed.{Placed as Row}
use Rattle.switch_model.specs.Placed as row
use Rattle.sai_types.specs.Alike.{IsIn}
use Rattle.sai_types.specs.declared.thing.Thing.{Thing}
use Rattle.sai_types.specs.declared.thing.Thing.TheVariants as thing
use Rattle.switch_model.specs.Things.{lane_of}
use Rattle.row_layout.specs.Operations.{Change, Make, Set, make_all, same_thing, set_all, set_to, take_all, uses_of}
use Rattle.row_layout.specs.Rows.{Owner, Bridge, from}
use Rattle.row_layout.proofs.Changing.{set_none}
use Rattle.switch_machine.specs.Flights.{Fits}
use Rattle.ref_counts.specs.declared.name.Name.TheVariants as name
use Rattle.ref_counts.specs.declared.name.NameState.{NameState}
use Rattle.ref_counts.specs.declared.name.NameState.TheVariants as state
use Rattle.ref_counts.specs.Registry.{Names, state_of}
use Rattle.orch_flight.specs.Needing.{absent_or, first_absent, name_for, to_build}
use Rattle.orch_flight.specs.Operation.{Operation}
use Rattle.orch_flight.specs.Starting.{begun_names, built_here, first_left, started_by, started_operation}
use Rattle.orch_flight.proofs.Begins.{started-plain}
use Rattle.vlan_orch.specs.Vlans.{IsVlanStart, IsFirstMember, IsMemberRow, first_vlan, member_operation, subject_operation, vlan_operation}
use Rattle.vlan_orch.specs.declared.steps.Membership.{Membership}
use Rattle.vlan_orch.specs.declared.steps.MemberStep.{MemberStep}
use Rattle.vlan_orch.specs.declared.steps.MemberStep.TheVariants as member
use Rattle.vlan_orch.specs.declared.steps.VlanSubject.{VlanSubject}

-- ---- rows that fit

abbrev pub FitsAll : Ports → Key → Option Row → Type 0
FitsAll plan k o = (r : Row) → o ≡ Some r → Fits plan k r

fits-lane-at : (plan : Ports) (v p : ℕ) (r : Row) → Fits plan (key.Member v p) r → (lane : ℕ) × (lane_of plan p ≡ Some lane)
fits-lane-at plan v p (row.Member tagging) fits = fits
fits-lane-at plan v p _ fits = elim fits [ ]

lane-at : (plan : Ports) (v p : ℕ) (old new : Option Row) → (old ≡ None → new ≡ None → ⊥) → FitsAll plan (key.Member v p) old → FitsAll plan (key.Member v p) new → IsSome (lane_of plan p)
lane-at plan v p (Some r) new some fits_old fits_new = ap is_some (fits-lane-at plan v p r (fits_old r refl)).1
lane-at plan v p None (Some r) some fits_old fits_new = ap is_some (fits-lane-at plan v p r (fits_new r refl)).1
lane-at plan v p None None some fits_old fits_new = absurd (some refl refl)

-- the port of a member whose rows fit is in the plan
pub fits-lane : (plan : Ports) (k : Key) (v p : ℕ) (old new : Option Row) → k ≡ key.Member v p → (old ≡ None → new ≡ None → ⊥) → FitsAll plan k old → FitsAll plan k new → IsSome (lane_of plan p)
fits-lane plan k v p old new is some = subst (λ k. FitsAll plan k old → FitsAll plan k new → IsSome (lane_of plan p)) (sym is) (lane-at plan v p old new some)

member-row-at : (plan : Ports) (v p : ℕ) (o : Option Row) → FitsAll plan (key.Member v p) o → IsMemberRow o
member-row-at plan v p None fits = tt
member-row-at plan v p (Some (row.Member tagging)) fits = tt
member-row-at plan v p (Some r) fits = elim (fits r refl) [ ]

pub member-row : (plan : Ports) (k : Key) (v p : ℕ) (o : Option Row) → k ≡ key.Member v p → FitsAll plan k o → IsMemberRow o
member-row plan k v p o is = subst (λ k. FitsAll plan k o → IsMemberRow o) (sym is) (member-row-at plan v p o)

-- ---- what is set

module _ (at : Membership) where
  abbrev thing_with : Tagging → Thing
  thing_with tagging = thing.VlanMember at.vlan at.lane tagging

  -- of two members of one name the taggings alone can differ
  same-by : (a b : Tagging) → same_thing (thing_with a) (thing_with b) ≡ tagging_eq.ghosts.eq a b
  same-by a b = ap₂ (λ v l. v && (l && tagging_eq.ghosts.eq a b)) (eq-eqb at.vlan at.vlan refl) (eq-eqb at.lane at.lane refl)

  set-by : (a b : Tagging) (s : Bool) → tagging_eq.ghosts.eq a b ≡ s → set_to (thing_with a) (thing_with b) [] ≡ (if s then [] else Set (thing_with b) ∷ [])
  set-by a b s is = ap (λ s. if s then [] else Set (thing_with b) ∷ []) (same-by a b ∙ is)

-- ---- what members share

abbrev pub bridges : Option ℕ → List Owner
bridges o = from o (λ l. Bridge l ∷ [])

abbrev pub members : ℕ → Tagging → Option ℕ → List Thing
members vlan tagging o = from o (λ l. thing.VlanMember vlan l tagging ∷ [])

-- a member whose row changes keeps its bridge port
pub keeps-bridge : (o : Option ℕ) → first_left (bridges o) (bridges o) ≡ None
keeps-bridge None = refl
keeps-bridge (Some l) = ap (λ b. if b || false then None else Some (Bridge l)) (eq-eqb l l refl)

-- what a key's applied row shares is live
abbrev pub AreLive : Ports → Names → Key → Option Row → Type 0
AreLive plan names k o = (owner : Owner) → IsIn owner (uses_of plan k o) → state_of names (name_for owner) ≡ state.Live

pub bridge-live : (plan : Ports) (names : Names) (v p lane : ℕ) (tagging : Tagging) → lane_of plan p ≡ Some lane → AreLive plan names (key.Member v p) (Some (row.Member tagging)) → state_of names (name.BridgePort lane) ≡ state.Live
bridge-live plan names v p lane tagging is live = live (Bridge lane) (subst (λ o. IsIn (Bridge lane) (bridges o)) (sym is) (inl refl))

-- ---- the operation

module _ (plan : Ports) (names : Names) (worker : ℕ) where
  module _ (at : Membership) (lane : lane_of plan at.port ≡ Some at.lane) where
    abbrev own_key : Key
    own_key = key.Member at.vlan at.port

    added-by : (later : Names) (tagging : Tagging) (step : MemberStep) (s : NameState) (builds : Bool) → builds ≡ is_some (absent_or (Bridge at.lane) s None) → IsFirstMember None (Some tagging) builds step
        → member_operation worker at step ≡ started_by later worker own_key None (Some (row.Member tagging)) (built_here (absent_or (Bridge at.lane) s None) (Make (thing_with at tagging) ∷ [])) None
    added-by later tagging step state.Absent true is h = ap (member_operation worker at) h
    added-by later tagging step state.Absent false is h = absurd (false≢true is)
    added-by later tagging step state.Live true is h = absurd (false≢true (sym is))
    added-by later tagging step state.Live false is h = ap (member_operation worker at) h
    added-by later tagging step (state.Building w) true is h = absurd (false≢true (sym is))
    added-by later tagging step (state.Building w) false is h = ap (member_operation worker at) h
    added-by later tagging step (state.Retiring w) true is h = absurd (false≢true (sym is))
    added-by later tagging step (state.Retiring w) false is h = ap (member_operation worker at) h

    -- the operation of a member whose tagging is to be another
    abbrev sets : Tagging → Tagging → List Change → Operation
    sets a b due = record { worker = worker; key = own_key; now = Some (row.Member a); new = Some (row.Member b); due = due; leaves = None; retires = None }

    set-operation : (a b : Tagging) (s : Bool) → tagging_eq.ghosts.eq a b ≡ s → member_operation worker at (if s then member.Keep b else member.Set a b) ≡ sets a b (set_to (thing_with at a) (thing_with at b) [])
    set-operation a b true is = ap₂ (λ x due. sets x b due) (sym (tagging_exact a b is)) (sym (set-by at a b true is))
    set-operation a b false is = ap (sets a b) (sym (set-by at a b false is))

    operation-member : (a b : Option Tagging) (builds : Bool) (step : MemberStep) → builds ≡ is_some (to_build plan names own_key (option_map row.Member b)) → AreLive plan names own_key (option_map row.Member a) → IsFirstMember a b builds step
        → member_operation worker at step ≡ started_operation plan names worker own_key (option_map row.Member a) (option_map row.Member b)
    operation-member None None builds step is live h = elim h [ ]
    operation-member None (Some t) builds step is live h =
        let later = begun_names plan names worker own_key None (Some (row.Member t)) in
        added-by later t step (state_of names (name.BridgePort at.lane)) builds (is ∙ ap (λ o. is_some (first_absent names (bridges o))) lane) h
        ∙ sym (ap (λ o. started_by later worker own_key None (Some (row.Member t)) (built_here (first_absent names (bridges o)) (make_all (members at.vlan t o) [])) None) lane)
    operation-member (Some a) (Some t) builds step is live h =
        let later = begun_names plan names worker own_key (Some (row.Member a)) (Some (row.Member t)) in
        let start : List Change → Option Owner → Operation = started_by later worker own_key (Some (row.Member a)) (Some (row.Member t)) in
        let due = set_to (thing_with at a) (thing_with at t) [] in
        ap (member_operation worker at) h ∙ set-operation a t (tagging_eq.ghosts.eq a t) refl
        ∙ sym (
        ap (λ o. start (built_here (first_absent names (bridges o)) (set_all (members at.vlan a o) (members at.vlan t o))) (first_left (bridges o) (bridges o))) lane
        ∙ ap₂ (λ s left. start (built_here (absent_or (Bridge at.lane) s None) due) left) (bridge-live plan names at.vlan at.port at.lane a lane live) (keeps-bridge (Some at.lane))
        ∙ started-plain later worker own_key (Some (row.Member a)) (Some (row.Member t)) due
        )
    operation-member (Some a) None builds step is live h =
        let later = begun_names plan names worker own_key (Some (row.Member a)) None in
        ap (member_operation worker at) h ∙ sym (ap (λ o. started_by later worker own_key (Some (row.Member a)) None (take_all (members at.vlan a o) []) (first_left [] (bridges o))) lane)

  operation-vlan : (v : ℕ) (old new : Option Row) → (old ≡ None → new ≡ None → ⊥) → FitsAll plan (key.Vlan v) old → FitsAll plan (key.Vlan v) new → vlan_operation worker v (first_vlan old new) ≡ started_operation plan names worker (key.Vlan v) old new
  operation-vlan v None None some fits_old fits_new = absurd (some refl refl)
  operation-vlan v None (Some row.Vlan) some fits_old fits_new = refl
  operation-vlan v None (Some r) some fits_old fits_new = elim (fits_new r refl) [ ]
  operation-vlan v (Some row.Vlan) None some fits_old fits_new = refl
  operation-vlan v (Some row.Vlan) (Some row.Vlan) some fits_old fits_new =
      let later = begun_names plan names worker (key.Vlan v) (Some row.Vlan) (Some row.Vlan) in
      sym (ap (λ due. started_by later worker (key.Vlan v) (Some row.Vlan) (Some row.Vlan) due None) (set_none (thing.Vlan v) []))
  operation-vlan v (Some row.Vlan) (Some r) some fits_old fits_new = elim (fits_new r refl) [ ]
  operation-vlan v (Some r) new some fits_old fits_new = elim (fits_old r refl) [ ]

  -- what starts is the operation from one row to the other
  pub first-operation : (k : Key) (old new : Option Row) (builds : Bool) (s : VlanSubject) → (old ≡ None → new ≡ None → ⊥) → FitsAll plan k old → FitsAll plan k new → builds ≡ is_some (to_build plan names k new) → AreLive plan names k old → IsVlanStart plan k old new builds s
      → subject_operation worker s ≡ started_operation plan names worker k old new
  first-operation (key.Vlan v) old new builds s some fits_old fits_new is live h = ap (subject_operation worker) h ∙ operation-vlan v old new some fits_old fits_new
  first-operation (key.Member v p) old new builds s some fits_old fits_new is live (lane, a, b, step, lane_is, old_is, new_is, first, subject_is) =
      let at : Membership = record { vlan = v; port = p; lane = lane } in
      let k = key.Member v p in
      subst (λ o. AreLive plan names k o → subject_operation worker s ≡ started_operation plan names worker k o new) old_is
      (subst (λ n. builds ≡ is_some (to_build plan names k n) → AreLive plan names k (option_map row.Member a) → subject_operation worker s ≡ started_operation plan names worker k (option_map row.Member a) n) new_is
      (λ is live. ap (subject_operation worker) subject_is ∙ operation-member at lane_is a b builds step is live first) is) live
  first-operation k old new builds s some fits_old fits_new is live h = elim h [ ]
