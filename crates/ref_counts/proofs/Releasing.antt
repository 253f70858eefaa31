-- a worker gives up all its pins, by the names that are noted
use Rattle.std.proofs.Common.{◌≡◌, ℕ, ◌==◌, Bool, true, false, not, cond, List, [], ◌∷◌, refl, sym, ap, ap₂, subst, ◌∙◌}
use Rattle.std.specs.BTreeMap.{is_at}
use Rattle.std.specs.List.{AllByRecursion}
use Rattle.std.proofs.lemmas.Bool.{eqb-true, false≢true}
use Rattle.table_schema.specs.declared.key.Key.{Key}
use Rattle.ref_counts.specs.declared.name.Name.{Name}
use Rattle.ref_counts.specs.declared.pin.Pin.{Pin}
use Rattle.ref_counts.specs.Registered.{Registered, pins_but, pins_of, released, with_users}
use Rattle.ref_counts.specs.Registry.{AreNoted, Names, Noted, all_released, changed, changed_at, each_released, is_among, registered_name_cmp, noted_by}

-- no pin is the worker's
abbrev pub HasNone : ℕ → List Pin → Type 0
HasNone worker pins = AllByRecursion (λ p. (p.worker == worker) ≡ false) pins

but-none : (worker : ℕ) (ps : List Pin) → HasNone worker ps → pins_but worker ps ≡ ps
but-none worker [] h = refl
but-none worker (p ∷ ps) h = rw h.0 (ap (λ l. p ∷ l) (but-none worker ps h.1))

of-none : (worker : ℕ) (ps : List Pin) → HasNone worker ps → pins_of worker ps ≡ []
of-none worker [] h = refl
of-none worker (p ∷ ps) h = rw h.0 (of-none worker ps h.1)

has_none-but : (worker : ℕ) (ps : List Pin) → HasNone worker (pins_but worker ps)
has_none-but worker [] = tt
has_none-but worker (p ∷ ps) =
    let rest = has_none-but worker ps in
    elim (p.worker == worker) as (λ b. (p.worker == worker) ≡ b → HasNone worker (cond (not b) (p ∷ pins_but worker ps) (pins_but worker ps))) [ true ↦ λ is. rest | false ↦ λ is. (is, rest) ] refl

users_same : (used : Bool) (us : List Key) → cond used us us ≡ us
users_same true us = refl
users_same false us = refl

-- without a pin of the worker nothing changes
released-none : (worker : ℕ) (used : Bool) (r : Registered) → HasNone worker r.pins → released worker used r ≡ r
released-none worker used r h =
    let made : List Key → List Pin → Registered = λ us ps. record { state = r.state; ids = r.ids; places = r.places; users = us; pins = ps } in
    ap₂ made (ap (λ ps. cond used (with_users ps r.users) r.users) (of-none worker r.pins h) ∙ users_same used r.users) (but-none worker r.pins h)

released-twice : (worker : ℕ) (used : Bool) (r : Registered) → released worker used (released worker used r) ≡ released worker used r
released-twice worker used r = released-none worker used (released worker used r) (has_none-but worker r.pins)

-- each pin of the worker is on one of these names
abbrev pub IsCovered : ℕ → List Name → Name × Registered → Type 0
IsCovered worker ns e = AllByRecursion (λ p. (p.worker == worker) ≡ true → is_among e.0 ns ≡ true) e.1.pins

abbrev pub AreCovered : ℕ → List Name → Names → Type 0
AreCovered worker ns names = AllByRecursion (IsCovered worker ns) names

none_of : (worker : ℕ) (n : Name) (ps : List Pin) → AllByRecursion (λ p. (p.worker == worker) ≡ true → is_among n [] ≡ true) ps → HasNone worker ps
none_of worker n [] h = tt
none_of worker n (p ∷ ps) h =
    let first : (p.worker == worker) ≡ false = elim (p.worker == worker) as (λ b. (b ≡ true → false ≡ true) → b ≡ false) [ true ↦ λ f. absurd (false≢true (f refl)) | false ↦ λ f. refl ] h.0 in
    (first, none_of worker n ps h.1)

vacuous : (worker : ℕ) (X : Type 0) (ps : List Pin) → HasNone worker ps → AllByRecursion (λ p. (p.worker == worker) ≡ true → X) ps
vacuous worker X [] h = tt
vacuous worker X (p ∷ ps) h = ((λ is. absurd (false≢true (sym h.0 ∙ is))), vacuous worker X ps h.1)

past_other_name : (worker : ℕ) (m n : Name) (ns : List Name) → is_at (registered_name_cmp n) m ≡ false → (ps : List Pin) → AllByRecursion (λ p. (p.worker == worker) ≡ true → is_among m (n ∷ ns) ≡ true) ps → AllByRecursion (λ p. (p.worker == worker) ≡ true → is_among m ns ≡ true) ps
past_other_name worker m n ns apart [] h = tt
past_other_name worker m n ns apart (p ∷ ps) h = ((λ is. let found = h.0 is in rw apart at found), past_other_name worker m n ns apart ps h.1)

covered-changed : (worker : ℕ) (used : Bool) (n : Name) (ns : List Name) (names : Names) → AreCovered worker (n ∷ ns) names → AreCovered worker ns (changed names n (released worker used))
covered-changed worker used n ns [] h = tt
covered-changed worker used n ns (e ∷ es) h =
    let rest = covered-changed worker used n ns es h.1 in
    let first : IsCovered worker ns (changed_at n (released worker used) e) =
    elim (is_at (registered_name_cmp n) e.0) as (λ b. is_at (registered_name_cmp n) e.0 ≡ b → IsCovered worker ns (cond b (e.0, released worker used e.1) e)) [
      | true ↦ λ is. vacuous worker (is_among e.0 ns ≡ true) (pins_but worker e.1.pins) (has_none-but worker e.1.pins)
      | false ↦ λ is. past_other_name worker e.0 n ns is e.1.pins h.0
    ] refl in
    (first, rest)

all-changed : (worker : ℕ) (used : Bool) (n : Name) (names : Names) → all_released worker used (changed names n (released worker used)) ≡ all_released worker used names
all-changed worker used n [] = refl
all-changed worker used n (e ∷ es) =
    let rest = all-changed worker used n es in
    let twice = released-twice worker used e.1 in
    let again : Name × Registered → Name × Registered = λ e. (e.0, released worker used e.1) in
    let first : again (changed_at n (released worker used) e) ≡ again e =
    elim (is_at (registered_name_cmp n) e.0) as (λ b. again (cond b (e.0, released worker used e.1) e) ≡ again e) [
      | true ↦ ap (λ r. (e.0, r)) twice
      | false ↦ refl
    ] in
    ap₂ (λ x xs. x ∷ xs) first rest

all-none : (worker : ℕ) (used : Bool) (names : Names) → AreCovered worker [] names → names ≡ all_released worker used names
all-none worker used [] h = refl
all-none worker used (e ∷ es) h = ap₂ (λ r xs. (e.0, r) ∷ xs) (sym (released-none worker used e.1 (none_of worker e.0 e.1.pins h.0))) (all-none worker used es h.1)

released-each : (worker : ℕ) (used : Bool) (ns : List Name) (names : Names) → AreCovered worker ns names → each_released names worker used ns ≡ all_released worker used names
released-each worker used [] names h = all-none worker used names h
released-each worker used (n ∷ ns) names h = released-each worker used ns (changed names n (released worker used)) (covered-changed worker used n ns names h) ∙ all-changed worker used n names

covered-pins : (noted : Noted) (worker : ℕ) (n : Name) (ps : List Pin) → AllByRecursion (λ p. is_among n (noted_by noted p.worker) ≡ true) ps → AllByRecursion (λ p. (p.worker == worker) ≡ true → is_among n (noted_by noted worker) ≡ true) ps
covered-pins noted worker n [] h = tt
covered-pins noted worker n (p ∷ ps) h = ((λ is. subst (λ w. is_among n (noted_by noted w) ≡ true) (eqb-true p.worker worker is) h.0), covered-pins noted worker n ps h.1)

covered-noted : (noted : Noted) (worker : ℕ) (names : Names) → AreNoted noted names → AreCovered worker (noted_by noted worker) names
covered-noted noted worker [] h = tt
covered-noted noted worker (e ∷ es) h = (covered-pins noted worker e.0 e.1.pins h.0, covered-noted noted worker es h.1)

-- all pins of a worker are on the names that are noted as its
pub released-noted : (noted : Noted) (worker : ℕ) (used : Bool) (names : Names) → AreNoted noted names → each_released names worker used (noted_by noted worker) ≡ all_released worker used names
released-noted noted worker used names h = released-each worker used (noted_by noted worker) names (covered-noted noted worker names h)

still-pins : (old new : Noted) (worker : ℕ) → ((q : ℕ) → (q == worker) ≡ false → noted_by new q ≡ noted_by old q) → (n : Name) (ps : List Pin) → AllByRecursion (λ p. is_among n (noted_by old p.worker) ≡ true) ps → AllByRecursion (λ p. is_among n (noted_by new p.worker) ≡ true) (pins_but worker ps)
still-pins old new worker others n [] h = tt
still-pins old new worker others n (p ∷ ps) h =
    let rest = still-pins old new worker others n ps h.1 in
    let first = h.0 in
    elim (p.worker == worker) as (λ b. (p.worker == worker) ≡ b → AllByRecursion (λ p. is_among n (noted_by new p.worker) ≡ true) (cond (not b) (p ∷ pins_but worker ps) (pins_but worker ps))) [
      | true ↦ λ is. rest
      | false ↦ λ is. (ap (is_among n) (others p.worker is) ∙ first, rest)
    ] refl

-- the names of the others stay noted
pub noted-released : (old new : Noted) (worker : ℕ) (used : Bool) → ((q : ℕ) → (q == worker) ≡ false → noted_by new q ≡ noted_by old q) → (names : Names) → AreNoted old names → AreNoted new (all_released worker used names)
noted-released old new worker used others [] h = tt
noted-released old new worker used others (e ∷ es) h = (still-pins old new worker others e.0 e.1.pins h.0, noted-released old new worker used others es h.1)
