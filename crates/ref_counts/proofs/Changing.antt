-- a change of what is known of one name
use Rattle.std.proofs.Common.{◌≡◌, ℕ, suc, ◌-◌, true, false, cond, List, [], ◌∷◌, ◌++◌, length, take, None, Some, Result, Ok, Err, OnOk, OnErr, refl, sym, ap, ap₂, ◌∙◌, arith}
use Rattle.std.specs.BTreeMap.{is_at}
use Rattle.std.specs.List.{AllByRecursion}
use Rattle.std.specs.List.Sorted.{IsStrictlySortedBy}
use Rattle.std.specs.Map.{keys_of, lookup, set_value}
use Rattle.std.specs.Ordering.{is_eq}
use Rattle.std.specs.Cmp.{IsTotalOrder}
use Rattle.std.specs.declared.cmp.Ordering.{Ordering}
use Rattle.std.specs.declared.cmp.Ordering.TheVariants.{Less, Equal, Greater}
use Rattle.std.proofs.lemmas.Map.Steps.{set_value_same}
use Rattle.std.proofs.lemmas.Option.{none-some}
use Rattle.table_schema.specs.Fields.{HasRisingKeys}
use Rattle.table_schema.proofs.Places.{HasRisingKeys-from_sorted}
use Rattle.ref_counts.specs.contracts.name.NameOrd.TheImpl.Laws as name_laws
use Rattle.table_schema.specs.declared.key.Key.{Key}
use Rattle.ref_counts.specs.declared.name.Name.{Name}
use Rattle.ref_counts.specs.declared.name.NameState.{NameState}
use Rattle.ref_counts.specs.declared.name.NameState.TheVariants as state
use Rattle.ref_counts.specs.declared.pin.Pin.{Pin}
use Rattle.ref_counts.specs.Registered.{Registered, finished_by, made_live, with_pin, without_last_pin}
use Rattle.ref_counts.specs.Registry.{Names, changed, changed_at, finished_in, registered_name_cmp, registered_at, state_in, state_of}

pub name_total : IsTotalOrder registered_name_cmp
name_total = name_laws.total-law

module _ (n : Name) (f : Registered → Registered) where
  pub changed_step : (e : Name × Registered) (r : Ordering) → registered_name_cmp n e.0 ≡ r → changed_at n f e ≡ cond (is_eq r) (e.0, f e.1) e
  changed_step e r h = ap (λ o. cond (is_eq o) (e.0, f e.1) e) h

  changed-above : (m : Name) → registered_name_cmp n m ≡ Equal → (names : Names) → AllByRecursion (λ e. registered_name_cmp m e.0 ≡ Less) names → changed names n f ≡ names
  changed-above m is [] h = refl
  changed-above m is (e ∷ es) h = ap₂ (λ x xs. x ∷ xs) (changed_step e Less (name_total.congr n m e.0 is ∙ h.0)) (changed-above m is es h.1)

  set_step : (e : Name × Registered) (es : Names) (w : Registered) (r : Ordering) → registered_name_cmp n e.0 ≡ r → set_value (is_at (registered_name_cmp n)) (e ∷ es) w ≡ cond (is_eq r) ((e.0, w) ∷ es) (e ∷ set_value (is_at (registered_name_cmp n)) es w)
  set_step e es w r h = ap (λ o. cond (is_eq o) ((e.0, w) ∷ es) (e ∷ set_value (is_at (registered_name_cmp n)) es w)) h

  find_step : (e : Name × Registered) (es : Names) (r : Ordering) → registered_name_cmp n e.0 ≡ r → lookup (is_at (registered_name_cmp n)) (e ∷ es) ≡ cond (is_eq r) (Some e.1) (lookup (is_at (registered_name_cmp n)) es)
  find_step e es r h = ap (λ o. cond (is_eq o) (Some e.1) (lookup (is_at (registered_name_cmp n)) es)) h

  first_value : (e : Name × Registered) (x : Registered) → Some e.1 ≡ Some x → ◌≡◌ {A = Name × Registered} (e.0, f x) (e.0, f e.1)
  first_value e x is = let same : x ≡ e.1 = cc in ap (λ v. (e.0, f v)) same

  -- what was found is changed in its place
  pub changed-there : (names : Names) (x : Registered) → HasRisingKeys registered_name_cmp names → registered_at names n ≡ Some x → set_value (is_at (registered_name_cmp n)) names (f x) ≡ changed names n f
  changed-there [] x h there = absurd (none-some x there)
  changed-there (e ∷ es) x h there =
      let rest = changed-there es x h.1 in
      let by : (r : Ordering) → registered_name_cmp n e.0 ≡ r → set_value (is_at (registered_name_cmp n)) (e ∷ es) (f x) ≡ changed_at n f e ∷ changed es n f =
      λ r. elim r as (λ r. registered_name_cmp n e.0 ≡ r → set_value (is_at (registered_name_cmp n)) (e ∷ es) (f x) ≡ changed_at n f e ∷ changed es n f) [
        | Less ↦ λ is. set_step e es (f x) Less is ∙ ap₂ (λ y ys. y ∷ ys) (sym (changed_step e Less is)) (rest (sym (find_step e es Less is) ∙ there))
        | Equal ↦ λ is. set_step e es (f x) Equal is ∙ ap₂ (λ y ys. y ∷ ys) (first_value e x (sym (find_step e es Equal is) ∙ there) ∙ sym (changed_step e Equal is)) (sym (changed-above e.0 is es h.0))
        | Greater ↦ λ is. set_step e es (f x) Greater is ∙ ap₂ (λ y ys. y ∷ ys) (sym (changed_step e Greater is)) (rest (sym (find_step e es Greater is) ∙ there))
      ] in
      by (registered_name_cmp n e.0) refl

  -- an absent name does not change
  pub changed-absent : (names : Names) → registered_at names n ≡ None → names ≡ changed names n f
  changed-absent [] none = refl
  changed-absent (e ∷ es) none =
      let rest = changed-absent es in
      elim (is_at (registered_name_cmp n) e.0) as (λ b. cond b (Some e.1) (lookup (is_at (registered_name_cmp n)) es) ≡ None → e ∷ es ≡ cond b (e.0, f e.1) e ∷ changed es n f) [
        | true ↦ λ h. absurd (none-some e.1 (sym h))
        | false ↦ λ h. ap (λ l. e ∷ l) (rest h)
      ] none

length_push : (xs : List Pin) (p : Pin) → length (xs ++ p ∷ []) ≡ suc (length xs)
length_push [] p = refl
length_push (x ∷ xs) p = ap suc (length_push xs p)

take_all : (xs : List Pin) (p : Pin) → take (length xs) (xs ++ p ∷ []) ≡ xs
take_all [] p = refl
take_all (x ∷ xs) p = ap (λ l. x ∷ l) (take_all xs p)

one_taken_off : (n : ℕ) → suc n - 1 ≡ n
one_taken_off n = omega arith

last_gone : (xs : List Pin) (p : Pin) → take (length (xs ++ p ∷ []) - 1) (xs ++ p ∷ []) ≡ xs
last_gone xs p = ap (λ n. take (n - 1) (xs ++ p ∷ [])) (length_push xs p) ∙ ap (λ n. take n (xs ++ p ∷ [])) (one_taken_off (length xs)) ∙ take_all xs p

pin-taken_back : (worker : ℕ) (user : Key) (r : Registered) → without_last_pin (with_pin worker user r) ≡ r
pin-taken_back worker user r =
    let made : List Pin → Registered = λ ps. record { state = r.state; ids = r.ids; places = r.places; users = r.users; pins = ps } in
    ap made (last_gone r.pins (record { worker = worker; user = user }))

-- a pin that is taken back was not made
pub changed-taken_back : (n : Name) (worker : ℕ) (user : Key) (names : Names) → changed (changed names n (with_pin worker user)) n without_last_pin ≡ names
changed-taken_back n worker user [] = refl
changed-taken_back n worker user (e ∷ es) =
    let rest = changed-taken_back n worker user es in
    let back = pin-taken_back worker user e.1 in
    let one : changed_at n without_last_pin (changed_at n (with_pin worker user) e) ≡ e =
    elim (is_at (registered_name_cmp n) e.0) as (λ b. (is_at (registered_name_cmp n) e.0 ≡ b) → changed_at n without_last_pin (cond b (e.0, with_pin worker user e.1) e) ≡ e) [
      | true ↦ λ is. ap (λ b. cond b (e.0, without_last_pin (with_pin worker user e.1)) (e.0, with_pin worker user e.1)) is ∙ ap (λ r. (e.0, r)) back
      | false ↦ λ is. ap (λ b. cond b (e.0, without_last_pin e.1) e) is
    ] refl in
    ap₂ (λ x xs. x ∷ xs) one rest

module _ (names new : Names) (n : Name) (r w : Registered) (sorted : IsStrictlySortedBy registered_name_cmp (keys_of names)) (there : registered_at names n ≡ Some r) (set : new ≡ set_value (is_at (registered_name_cmp n)) names w) where
  -- what was found and changed in its place
  pub changed-by : (f : Registered → Registered) → w ≡ f r → new ≡ changed names n f
  changed-by f is = set ∙ ap (set_value (is_at (registered_name_cmp n)) names) is ∙ changed-there n f names r (HasRisingKeys-from_sorted registered_name_cmp names sorted) there

  pub changed-ok : {T E : Type 0} (res : Result T E) (f : Registered → Registered) → OnOk res (w ≡ f r) → OnOk res (new ≡ changed names n f)
  changed-ok (Ok x) f is = changed-by f is
  changed-ok (Err e) f is = tt

  pub same-err : {T E : Type 0} (res : Result T E) → OnErr res (w ≡ r) → OnErr res (new ≡ names)
  same-err (Ok x) is = tt
  same-err (Err e) is = set ∙ ap (set_value (is_at (registered_name_cmp n)) names) is ∙ set_value_same (is_at (registered_name_cmp n)) names r there

  same-by : w ≡ r → new ≡ names
  same-by is = set ∙ ap (set_value (is_at (registered_name_cmp n)) names) is ∙ set_value_same (is_at (registered_name_cmp n)) names r there

  -- what was found comes to be live where it was being built
  finished-in : (s : NameState) → w ≡ finished_by s r → new ≡ finished_in s names n
  finished-in state.Absent is = same-by is
  finished-in (state.Building worker) is = changed-by (made_live []) is
  finished-in state.Live is = same-by is
  finished-in (state.Retiring worker) is = same-by is

  pub finished-there : w ≡ finished_by r.state r → new ≡ finished_in (state_of names n) names n
  finished-there is = finished-in r.state is ∙ sym (ap (λ o. finished_in (state_in o) names n) there)

-- a pin of a name that is taken back, since the others were not made
pub pin-undone : (n : Name) (worker : ℕ) (user : Key) (old one two three : Names) → one ≡ changed old n (with_pin worker user) → two ≡ one → three ≡ changed two n without_last_pin → three ≡ old
pin-undone n worker user old one two three made same back = back ∙ ap (λ ns. changed ns n without_last_pin) (same ∙ made) ∙ changed-taken_back n worker user old
