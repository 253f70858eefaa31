-- changes that leave the states of names
use Rattle.std.proofs.Common.{◌≡◌, ℕ, ◌==◌, Bool, true, false, not, cond, List, [], ◌∷◌, ◌++◌, Option, Some, None, option_and_then, option_map, unwrap_or, refl, sym, ap, ap₂, ◌∙◌, subst}
use Rattle.std.specs.BTreeMap.{insert_entry, is_at}
use Rattle.std.specs.Ordering.{is_eq}
use Rattle.std.specs.declared.cmp.Ordering.{Ordering}
use Rattle.std.specs.declared.cmp.Ordering.TheVariants.{Less, Equal, Greater}
use Rattle.std.proofs.lemmas.Bool.{eq-eqb}
use Rattle.table_schema.proofs.Places.{put_step}
use Rattle.table_schema.specs.declared.key.Key.{Key}
use Rattle.ref_counts.specs.declared.name.Name.{Name}
use Rattle.ref_counts.specs.declared.name.Name.TheVariants as name
use Rattle.ref_counts.specs.declared.name.NameState.TheVariants as state
use Rattle.ref_counts.specs.declared.pin.Pin.{Pin}
use Rattle.switch_model.specs.declared.wait.Wait.{Wait}
use Rattle.ref_counts.specs.Registered.{Registered, begun, first_of, held_or, least_worker, pins_but, released, retire_refusal, with_pin}
use Rattle.ref_counts.specs.Registry.{Names, all_released, changed, changed_at, registered_name_cmp, pinned, registered_at, retire_refusal_at, state_in, state_of}
use Rattle.ref_counts.proofs.Found.{apart_from}
use Rattle.orch_flight.specs.Starting.{ids_for_row}
use Rattle.orch_flight.specs.Sharing.{HasNoPins, IsOfShared, IsNameReady, IsLiveOrAbsent, is_absent, lacks_shared, stage_of, with_row_begun, with_shared}

stage_step : (e : Name × Registered) (es : Names) (n : Name) (b : Bool) → is_at (registered_name_cmp n) e.0 ≡ b → stage_of (e ∷ es) n ≡ cond b (Some e.1.state) (stage_of es n)
stage_step e es n true h = ap (λ b. option_map (λ r. r.state) (cond b (Some e.1) (registered_at es n))) h
stage_step e es n false h = ap (λ b. option_map (λ r. r.state) (cond b (Some e.1) (registered_at es n))) h

module _ (m : Name) (f : Registered → Registered) (keeps : (r : Registered) → (f r).state ≡ r.state) where
  at-state : (e : Name × Registered) → (changed_at m f e).1.state ≡ e.1.state
  at-state e = elim (is_at (registered_name_cmp m) e.0) as (λ b. (cond b (e.0, f e.1) e).1.state ≡ e.1.state) [ true ↦ keeps e.1 | false ↦ refl ]

  at-name : (e : Name × Registered) → (changed_at m f e).0 ≡ e.0
  at-name e = elim (is_at (registered_name_cmp m) e.0) as (λ b. (cond b (e.0, f e.1) e).0 ≡ e.0) [ true ↦ refl | false ↦ refl ]

  pub stage-changed : (names : Names) (n : Name) → stage_of (changed names m f) n ≡ stage_of names n
  stage-changed [] n = refl
  stage-changed (e ∷ es) n =
      let rest = stage-changed es n in
      let by : (b : Bool) → is_at (registered_name_cmp n) e.0 ≡ b → stage_of (changed (e ∷ es) m f) n ≡ stage_of (e ∷ es) n =
      λ b. λ is. stage_step (changed_at m f e) (changed es m f) n b (ap (is_at (registered_name_cmp n)) (at-name e) ∙ is) ∙ ap₂ (λ s o. cond b (Some s) o) (at-state e) rest ∙ sym (stage_step e es n b is) in
      by (is_at (registered_name_cmp n) e.0) refl

pub stage-pinned : (names : Names) (worker : ℕ) (user : Key) (ks : List Key) (n : Name) → stage_of (pinned names worker user ks) n ≡ stage_of names n
stage-pinned names worker user [] n = refl
stage-pinned names worker user (k ∷ ks) n =
    stage-pinned (changed names (name.Row k) (with_pin worker user)) worker user ks n ∙ stage-changed (name.Row k) (with_pin worker user) (λ r. refl) names n

-- a name that is put is no other
pub stage-put : (names : Names) (m : Name) (r : Registered) (n : Name) → is_at (registered_name_cmp m) n ≡ false → is_at (registered_name_cmp n) m ≡ false → stage_of (insert_entry registered_name_cmp names m r) n ≡ stage_of names n
stage-put [] m r n apart back = stage_step (m, r) [] n false back
stage-put (e ∷ es) m r n apart back =
    let rest = stage-put es m r n apart back in
    let tail : (b : Bool) → is_at (registered_name_cmp n) e.0 ≡ b → stage_of (e ∷ insert_entry registered_name_cmp es m r) n ≡ stage_of (e ∷ es) n =
    λ b is. stage_step e (insert_entry registered_name_cmp es m r) n b is ∙ ap (λ o. cond b (Some e.1.state) o) rest ∙ sym (stage_step e es n b is) in
    let by : (o : Ordering) → registered_name_cmp m e.0 ≡ o → stage_of (insert_entry registered_name_cmp (e ∷ es) m r) n ≡ stage_of (e ∷ es) n =
    λ o. elim o as (λ o. registered_name_cmp m e.0 ≡ o → stage_of (insert_entry registered_name_cmp (e ∷ es) m r) n ≡ stage_of (e ∷ es) n) [
      | Less ↦ λ is. ap (λ l. stage_of l n) (put_step registered_name_cmp e es m r Less is) ∙ stage_step (m, r) (e ∷ es) n false back
      | Equal ↦ λ is. let other : is_at (registered_name_cmp n) e.0 ≡ false = apart_from m n e.0 apart (ap is_eq is) in ap (λ l. stage_of l n) (put_step registered_name_cmp e es m r Equal is) ∙ stage_step (e.0, r) es n false other ∙ sym (stage_step e es n false other)
      | Greater ↦ λ is. ap (λ l. stage_of l n) (put_step registered_name_cmp e es m r Greater is) ∙ (tail (is_at (registered_name_cmp n) e.0) refl)
    ] in
    by (registered_name_cmp m e.0) refl

-- a state by what is registered
pub state-stage : (names : Names) (n : Name) → state_of names n ≡ unwrap_or (stage_of names n) state.Absent
state-stage names n = elim (registered_at names n) as (λ o. state_in o ≡ unwrap_or (option_map (λ r. r.state) o) state.Absent) [ None ↦ refl | Some r ↦ refl ]

pub unregistered : (names : Names) (n : Name) → stage_of names n ≡ None → registered_at names n ≡ None
unregistered names n h = by (registered_at names n) h
  where
    by : (o : Option Registered) → option_map (λ r. r.state) o ≡ None → o ≡ None
    by None h = refl
    by (Some r) h = cc

-- ---- pins that are given up

but-push : (worker : ℕ) (user : Key) (ps : List Pin) → pins_but worker (ps ++ record { worker = worker; user = user } ∷ []) ≡ pins_but worker ps
but-push worker user [] = ap (λ b. cond (not b) (record { worker = worker; user = user } ∷ []) []) (eq-eqb worker worker refl)
but-push worker user (p ∷ ps) = ap (λ l. cond (not (p.worker == worker)) (p ∷ l) l) (but-push worker user ps)

released-pin : (worker : ℕ) (user : Key) (r : Registered) → released worker false (with_pin worker user r) ≡ released worker false r
released-pin worker user r =
    let made : List Pin → Registered = λ ps. record { state = r.state; ids = r.ids; places = r.places; users = r.users; pins = ps } in
    ap made (but-push worker user r.pins)

all-pin : (worker : ℕ) (user : Key) (m : Name) (names : Names) → all_released worker false (changed names m (with_pin worker user)) ≡ all_released worker false names
all-pin worker user m [] = refl
all-pin worker user m (e ∷ es) =
    let again : Name × Registered → Name × Registered = λ e. (e.0, released worker false e.1) in
    let first : again (changed_at m (with_pin worker user) e) ≡ again e =
    elim (is_at (registered_name_cmp m) e.0) as (λ b. again (cond b (e.0, with_pin worker user e.1) e) ≡ again e) [ true ↦ ap (λ r. (e.0, r)) (released-pin worker user e.1) | false ↦ refl ] in
    ap₂ (λ x xs. x ∷ xs) first (all-pin worker user m es)

all-pinned : (worker : ℕ) (user : Key) (ks : List Key) (names : Names) → all_released worker false (pinned names worker user ks) ≡ all_released worker false names
all-pinned worker user [] names = refl
all-pinned worker user (k ∷ ks) names = all-pinned worker user ks (changed names (name.Row k) (with_pin worker user)) ∙ all-pin worker user (name.Row k) names

none-released : (worker : ℕ) (names : Names) → HasNoPins names worker → all_released worker false names ≡ names
none-released worker [] h = refl
none-released worker (e ∷ es) h =
    let made : List Pin → Registered = λ ps. record { state = e.1.state; ids = e.1.ids; places = e.1.places; users = e.1.users; pins = ps } in
    ap₂ (λ r xs. (e.0, r) ∷ xs) (ap made h.0) (none-released worker es h.1)

-- pins of a worker that had none, given up again
pub pins-undone : (worker : ℕ) (user : Key) (ks : List Key) (names : Names) → HasNoPins names worker → all_released worker false (pinned names worker user ks) ≡ names
pins-undone worker user ks names h = all-pinned worker user ks names ∙ none-released worker names h

-- ---- why a name may not go, while its worker pins names

refusal_step : (worker : ℕ) (e : Name × Registered) (es : Names) (n : Name) (b : Bool) → is_at (registered_name_cmp n) e.0 ≡ b → retire_refusal_at (e ∷ es) worker n ≡ cond b (retire_refusal worker e.1) (retire_refusal_at es worker n)
refusal_step worker e es n true h = ap (λ b. option_and_then (retire_refusal worker) (cond b (Some e.1) (registered_at es n))) h
refusal_step worker e es n false h = ap (λ b. option_and_then (retire_refusal worker) (cond b (Some e.1) (registered_at es n))) h

module _ (worker : ℕ) (user : Key) (m : Name) where
  at_refusal : (e : Name × Registered) → retire_refusal worker (changed_at m (with_pin worker user) e).1 ≡ retire_refusal worker e.1
  at_refusal e = elim (is_at (registered_name_cmp m) e.0) as (λ b. retire_refusal worker (cond b (e.0, with_pin worker user e.1) e).1 ≡ retire_refusal worker e.1) [
    | true ↦ ap (λ ps. held_or (first_of e.1.users) (least_worker ps)) (but-push worker user e.1.pins)
    | false ↦ refl
  ]

  refusal_pin : (names : Names) (n : Name) → retire_refusal_at (changed names m (with_pin worker user)) worker n ≡ retire_refusal_at names worker n
  refusal_pin [] n = refl
  refusal_pin (e ∷ es) n =
      let rest = refusal_pin es n in
      let by : (b : Bool) → is_at (registered_name_cmp n) e.0 ≡ b → retire_refusal_at (changed (e ∷ es) m (with_pin worker user)) worker n ≡ retire_refusal_at (e ∷ es) worker n =
      λ b. λ is. refusal_step worker (changed_at m (with_pin worker user) e) (changed es m (with_pin worker user)) n b (ap (is_at (registered_name_cmp n)) (at-name m (with_pin worker user) (λ r. refl) e) ∙ is) ∙ ap₂ (λ s o. cond b s o) (at_refusal e) rest ∙ sym (refusal_step worker e es n b is) in
      by (is_at (registered_name_cmp n) e.0) refl

pub refusal-pinned : (worker : ℕ) (user : Key) (ks : List Key) (names : Names) (n : Name) → retire_refusal_at (pinned names worker user ks) worker n ≡ retire_refusal_at names worker n
refusal-pinned worker user [] names n = refl
refusal-pinned worker user (k ∷ ks) names n = refusal-pinned worker user ks (changed names (name.Row k) (with_pin worker user)) n ∙ refusal_pin worker user (name.Row k) names n

-- and how it stands
pub state-pinned : (worker : ℕ) (user : Key) (ks : List Key) (names : Names) (n : Name) → state_of (pinned names worker user ks) n ≡ state_of names n
state-pinned worker user ks names n = state-stage (pinned names worker user ks) n ∙ ap (λ o. unwrap_or o state.Absent) (stage-pinned names worker user ks n) ∙ sym (state-stage names n)

-- ---- what is shared, while names of rows are pinned and begin to be built

pub row_apart : (k : Key) (n : Name) → IsOfShared n → is_at (registered_name_cmp (name.Row k)) n ≡ false
row_apart k (name.Row q) h = elim h [ ]
row_apart k (name.BridgePort lane) h = refl
row_apart k (name.Own v ip) h = refl
row_apart k (name.Group hops) h = refl

apart_row : (k : Key) (n : Name) → IsOfShared n → is_at (registered_name_cmp n) (name.Row k) ≡ false
apart_row k (name.Row q) h = elim h [ ]
apart_row k (name.BridgePort lane) h = refl
apart_row k (name.Own v ip) h = refl
apart_row k (name.Group hops) h = refl

-- the names that rows share stand as before
abbrev pub AreAlike : Names → Names → Type 0
AreAlike new names = (n : Name) → IsOfShared n → stage_of new n ≡ stage_of names n

pub alike-ready : (new names : Names) (shared : Option Name) → AreAlike new names → IsNameReady names shared → IsNameReady new shared
alike-ready new names None same h = tt
alike-ready new names (Some n) same h = (h.0, subst IsLiveOrAbsent (sym (same n h.0)) h.1)

pub alike-lacks : (new names : Names) (shared : Option Name) → AreAlike new names → IsNameReady names shared → lacks_shared new shared ≡ lacks_shared names shared
alike-lacks new names None same h = refl
alike-lacks new names (Some n) same h = ap is_absent (state-stage new n ∙ ap (λ o. unwrap_or o state.Absent) (same n h.0) ∙ sym (state-stage names n))

pub alike-begun : (new names : Names) (k : Key) (m : Name) (worker vids : ℕ) → m ≡ name.Row k → new ≡ insert_entry registered_name_cmp names m (begun worker vids) → AreAlike new names
alike-begun new names k m worker vids same is n h =
    ap (λ l. stage_of l n) is ∙ ap (λ m. stage_of (insert_entry registered_name_cmp names m (begun worker vids)) n) same ∙ stage-put names (name.Row k) (begun worker vids) n (row_apart k n h) (apart_row k n h)

-- a row's name begins to be built, and then what it shares
pub row-shared-begun : (later new names : Names) (k : Key) (m : Name) (worker vids : ℕ) (applied : Bool) (shared : Option Name) → m ≡ name.Row k → vids ≡ ids_for_row k → applied ≡ false → new ≡ insert_entry registered_name_cmp names m (begun worker vids) → IsNameReady names shared → later ≡ with_shared new worker k shared (lacks_shared new shared) → later ≡ with_shared (with_row_begun names worker k applied) worker k shared (lacks_shared names shared)
row-shared-begun later new names k m worker vids applied shared same ids not is ready then =
    let row : new ≡ with_row_begun names worker k applied = is ∙ ap₂ (λ m v. insert_entry registered_name_cmp names m (begun worker v)) same ids ∙ sym (ap (with_row_begun names worker k) not) in
    then ∙ ap₂ (λ l b. with_shared l worker k shared b) row (alike-lacks new names shared (alike-begun new names k m worker vids same is) ready)

-- pinning leaves the states
pub alike-pinned : (new names : Names) (worker : ℕ) (user : Key) (ks : List Key) → new ≡ pinned names worker user ks → AreAlike new names
alike-pinned new names worker user ks is n h = ap (λ l. stage_of l n) is ∙ stage-pinned names worker user ks n

pub none-pinned : (new names : Names) (worker : ℕ) (user : Key) (ks : List Key) (n : Name) → new ≡ pinned names worker user ks → registered_at names n ≡ None → registered_at new n ≡ None
none-pinned new names worker user ks n is none = unregistered new n (ap (λ l. stage_of l n) is ∙ stage-pinned names worker user ks n ∙ ap (option_map (λ r. r.state)) none)

-- a change that keeps the state
pub state-changed : (names : Names) (m n : Name) (f : Registered → Registered) → ((r : Registered) → (f r).state ≡ r.state) → state_of (changed names m f) n ≡ state_of names n
state-changed names m n f keeps = state-stage (changed names m f) n ∙ ap (λ o. unwrap_or o state.Absent) (stage-changed m f keeps names n) ∙ sym (state-stage names n)
