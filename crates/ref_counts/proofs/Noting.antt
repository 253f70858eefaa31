-- the names that are noted as pinned
use Rattle.std.proofs.Common.{◌≡◌, ℕ, ◌==◌, Bool, true, false, ◌||◌, cond, List, [], ◌∷◌, ◌++◌, map, Some, Result, Ok, Err, OnOk, OnErr, Vec, refl, sym, ap, subst, ◌∙◌}
use Rattle.std.specs.BTreeMap.{insert_entry, is_at}
use Rattle.std.specs.List.{AllByRecursion}
use Rattle.std.specs.Map.{lookup, remove_entry}
use Rattle.std.specs.declared.alloc.Global.{Global}
use Rattle.std.specs.Ordering.{is_eq, match_ordering, nat_cmp}
use Rattle.std.specs.declared.cmp.Ordering.TheVariants.{Less, Equal, Greater}
use Rattle.std.proofs.lemmas.Bool.{eqb-true, false≢true, or_left, or_right}
use Rattle.std.proofs.lemmas.Cmp.{nat_cmp_total, nat_eq_equiv, tied_itself}
use Rattle.std.specs.Cmp.{unsigned_tied}
use Rattle.table_schema.specs.declared.key.Key.{Key}
use Rattle.ref_counts.specs.declared.name.Name.{Name}
use Rattle.ref_counts.specs.declared.name.Name.TheVariants as name
use Rattle.ref_counts.specs.declared.name.NameState.{NameState}
use Rattle.ref_counts.specs.declared.name.NameState.TheVariants as state
use Rattle.ref_counts.specs.declared.pin.Pin.{Pin}
use Rattle.ref_counts.specs.Registered.{Registered, made_live, with_pin}
use Rattle.ref_counts.specs.Registry.{AreNoted, IsNoted, Names, Noted, changed, changed_at, finished_in, gone_from, is_among, is_retiring, items_in, registered_name_cmp, noted_by, pinned, state_of}

pub or_more : (a b d : Bool) → (b ≡ true → d ≡ true) → (a || b) ≡ true → (a || d) ≡ true
or_more true b d f h = refl
or_more false b d f h = f h

-- a change that makes no pin
pub noted-changed : (noted : Noted) (n : Name) (f : Registered → Registered) → ((m : Name) (r : Registered) → IsNoted noted (m, r) → IsNoted noted (m, f r)) → (names : Names) → AreNoted noted names → AreNoted noted (changed names n f)
noted-changed noted n f keeps [] h = tt
noted-changed noted n f keeps (e ∷ es) h =
    let one = keeps e.0 e.1 h.0 in
    let first : IsNoted noted (changed_at n f e) = elim (is_at (registered_name_cmp n) e.0) as (λ b. IsNoted noted (cond b (e.0, f e.1) e)) [ true ↦ one | false ↦ h.0 ] in
    (first, noted-changed noted n f keeps es h.1)

-- a name that comes to be live where it was being built
pub noted-finished : (noted : Noted) (n : Name) (s : NameState) (names : Names) → AreNoted noted names → AreNoted noted (finished_in s names n)
noted-finished noted n state.Absent names h = h
noted-finished noted n (state.Building worker) names h = noted-changed noted n (made_live []) (λ m r is. is) names h
noted-finished noted n state.Live names h = h
noted-finished noted n (state.Retiring worker) names h = h

-- a name that nobody pins
pub noted-put : (noted : Noted) (n : Name) (r : Registered) → r.pins ≡ [] → (names : Names) → AreNoted noted names → AreNoted noted (insert_entry registered_name_cmp names n r)
noted-put noted n r none [] h = (subst (λ ps. AllByRecursion (λ p. is_among n (noted_by noted p.worker) ≡ true) ps) (sym none) tt, tt)
noted-put noted n r none (e ∷ es) h =
    let rest = noted-put noted n r none es h.1 in
    let new : (m : Name) → IsNoted noted (m, r) = λ m. subst (λ ps. AllByRecursion (λ p. is_among m (noted_by noted p.worker) ≡ true) ps) (sym none) tt in
    elim (registered_name_cmp n e.0) as (λ o. AreNoted noted (match_ordering o ((n, r) ∷ e ∷ es) ((e.0, r) ∷ es) (e ∷ insert_entry registered_name_cmp es n r))) [ Less ↦ (new n, h) | Equal ↦ (new e.0, h.1) | Greater ↦ (h.0, rest) ]

pub noted-remove : (noted : Noted) (test : Name → Bool) (names : Names) → AreNoted noted names → AreNoted noted (remove_entry test names)
noted-remove noted test [] h = tt
noted-remove noted test (e ∷ es) h =
    let rest = noted-remove noted test es h.1 in
    elim (test e.0) as (λ b. AreNoted noted (cond b es (e ∷ remove_entry test es))) [ true ↦ h.1 | false ↦ (h.0, rest) ]

-- ---- more names are noted

-- what was noted still is
abbrev pub Grows : Noted → Noted → Type 0
Grows old new = (q : ℕ) (n : Name) → is_among n (noted_by old q) ≡ true → is_among n (noted_by new q) ≡ true

pins-grow : (old new : Noted) → Grows old new → (n : Name) (ps : List Pin) → AllByRecursion (λ p. is_among n (noted_by old p.worker) ≡ true) ps → AllByRecursion (λ p. is_among n (noted_by new p.worker) ≡ true) ps
pins-grow old new grows n [] h = tt
pins-grow old new grows n (p ∷ ps) h = (grows p.worker n h.0, pins-grow old new grows n ps h.1)

pub noted-grow : (old new : Noted) → Grows old new → (names : Names) → AreNoted old names → AreNoted new names
noted-grow old new grows [] h = tt
noted-grow old new grows (e ∷ es) h = (pins-grow old new grows e.0 e.1.pins h.0, noted-grow old new grows es h.1)

pins-push : (noted : Noted) (n : Name) (ps : List Pin) (p : Pin) → AllByRecursion (λ p. is_among n (noted_by noted p.worker) ≡ true) ps → is_among n (noted_by noted p.worker) ≡ true → AllByRecursion (λ p. is_among n (noted_by noted p.worker) ≡ true) (ps ++ p ∷ [])
pins-push noted n [] p h has = (has, tt)
pins-push noted n (q ∷ qs) p h has = (h.0, pins-push noted n qs p h.1 has)

-- the name of a key that is noted as a worker's may be pinned by it
one-pinned : (noted : Noted) (worker : ℕ) (user : Key) (k : Key) → ((n : Name) → is_at (registered_name_cmp (name.Row k)) n ≡ true → is_among n (noted_by noted worker) ≡ true) → (names : Names) → AreNoted noted names → AreNoted noted (changed names (name.Row k) (with_pin worker user))
one-pinned noted worker user k has [] h = tt
one-pinned noted worker user k has (e ∷ es) h =
    let push = pins-push noted e.0 e.1.pins (record { worker = worker; user = user }) h.0 in
    let first : IsNoted noted (changed_at (name.Row k) (with_pin worker user) e) =
    elim (is_at (registered_name_cmp (name.Row k)) e.0) as (λ b. (is_at (registered_name_cmp (name.Row k)) e.0 ≡ b) → IsNoted noted (cond b (e.0, with_pin worker user e.1) e)) [
      | true ↦ λ is. push (has e.0 is)
      | false ↦ λ is. h.0
    ] refl in
    (first, one-pinned noted worker user k has es h.1)

all-pinned : (noted : Noted) (worker : ℕ) (user : Key) (ks : List Key) → ((n : Name) → is_among n (map name.Row ks) ≡ true → is_among n (noted_by noted worker) ≡ true) → (names : Names) → AreNoted noted names → AreNoted noted (pinned names worker user ks)
all-pinned noted worker user [] has names h = h
all-pinned noted worker user (k ∷ ks) has names h =
    let tail : (n : Name) → is_among n (map name.Row ks) ≡ true → is_among n (noted_by noted worker) ≡ true = λ n more. has n (or_right (is_at (registered_name_cmp (name.Row k)) n) _ more) in
    all-pinned noted worker user ks tail (changed names (name.Row k) (with_pin worker user))
    (one-pinned noted worker user k (λ n is. has n (or_left (is_at (registered_name_cmp (name.Row k)) n) _ is)) names h)

among-left : (n : Name) (xs ys : List Name) → is_among n xs ≡ true → is_among n (xs ++ ys) ≡ true
among-left n [] ys h = absurd (false≢true h)
among-left n (x ∷ xs) ys h = or_more (is_at (registered_name_cmp x) n) (is_among n xs) (is_among n (xs ++ ys)) (among-left n xs ys) h

among-right : (n : Name) (xs ys : List Name) → is_among n ys ≡ true → is_among n (xs ++ ys) ≡ true
among-right n [] ys h = h
among-right n (x ∷ xs) ys h = or_right (is_at (registered_name_cmp x) n) _ (among-right n xs ys h)

-- a worker pins the rows of keys, whose names are noted behind those that were
pub noted-pinned : (old new : Noted) (worker : ℕ) (user : Key) (ks : List Key) (names : Names) → ((q : ℕ) → (q == worker) ≡ false → noted_by new q ≡ noted_by old q) → noted_by new worker ≡ noted_by old worker ++ map name.Row ks → AreNoted old names → AreNoted new (pinned names worker user ks)
noted-pinned old new worker user ks names others mine h =
    let grows : Grows old new = λ q n is.
    elim (q == worker) as (λ b. (q == worker) ≡ b → is_among n (noted_by new q) ≡ true) [
      | true ↦ λ same. let e : q ≡ worker = eqb-true q worker same in
          let was : is_among n (noted_by old worker) ≡ true = subst (λ w. is_among n (noted_by old w) ≡ true) e is in
          subst (λ w. is_among n (noted_by new w) ≡ true) (sym e) (ap (is_among n) mine ∙ among-left n (noted_by old worker) (map name.Row ks) was)
      | false ↦ λ apart. ap (is_among n) (others q apart) ∙ is
    ] refl in
    all-pinned new worker user ks (λ n is. ap (is_among n) mine ∙ among-right n (noted_by old worker) (map name.Row ks) is) names (noted-grow old new grows names h)

pub noted-gone : (noted : Noted) (n : Name) (names : Names) → AreNoted noted names → AreNoted noted (gone_from names n)
noted-gone noted n names h =
    let less = noted-remove noted (is_at (registered_name_cmp n)) names h in
    elim (is_retiring (state_of names n)) as (λ b. AreNoted noted (cond b (remove_entry (is_at (registered_name_cmp n)) names) names)) [ true ↦ less | false ↦ h ]

-- what holds before and after a change holds of what it comes to
pub either-way : {T E : Type 0} (P : Names → Type 0) (res : Result T E) (old new after : Names) → OnOk res (new ≡ after) → OnErr res (new ≡ old) → P after → P old → P new
either-way P (Ok x) old new after ok err h g = subst P (sym ok) h
either-way P (Err e) old new after ok err h g = subst P (sym err) g

-- the names noted under one worker change
pub noted-set : (old new : Noted) (worker : ℕ) (v : Vec Name Global) → ((q : ℕ) → lookup (is_at (nat_cmp q)) new ≡ cond (is_at (nat_cmp worker) q) (Some v) (lookup (is_at (nat_cmp q)) old)) → (noted_by new worker ≡ v.items) × ((q : ℕ) → (q == worker) ≡ false → noted_by new q ≡ noted_by old q)
noted-set old new worker v update =
    let itself : is_at (nat_cmp worker) worker ≡ true = ap is_eq (tied_itself nat_cmp_total worker) in
    let mine : noted_by new worker ≡ v.items = ap items_in (update worker ∙ ap (λ b. cond b (Some v) (lookup (is_at (nat_cmp worker)) old)) itself) in (
      mine,
      λ q apart.
          let other : is_at (nat_cmp worker) q ≡ false = unsigned_tied worker q ∙ nat_eq_equiv.symm worker q ∙ apart in
          ap items_in (update q ∙ ap (λ b. cond b (Some v) (lookup (is_at (nat_cmp q)) old)) other),
    )

pub noted-same : (old new : Noted) → ((q : ℕ) → noted_by new q ≡ noted_by old q) → (names : Names) → AreNoted old names → AreNoted new names
noted-same old new same names h = noted-grow old new (λ q n is. ap (is_among n) (same q) ∙ is) names h

-- what a try to pin comes to
pub noted-tried : {T E : Type 0} (res : Result T E) (old new : Noted) (worker : ℕ) (user : Key) (ks : List Key) (names after : Names) (was now : List Name) → noted_by old worker ≡ was → noted_by new worker ≡ now → ((q : ℕ) → (q == worker) ≡ false → noted_by new q ≡ noted_by old q) → OnOk res (after ≡ pinned names worker user ks) → OnOk res (now ≡ was ++ map name.Row ks) → OnErr res (after ≡ names) → OnErr res (now ≡ was) → AreNoted old names → AreNoted new after
noted-tried (Ok x) old new worker user ks names after was now w n others ok more err less h =
    subst (AreNoted new) (sym ok) (noted-pinned old new worker user ks names others (n ∙ more ∙ ap (λ l. l ++ map name.Row ks) (sym w)) h)
noted-tried (Err e) old new worker user ks names after was now w n others ok more err less h =
    let mine : noted_by new worker ≡ noted_by old worker = n ∙ less ∙ sym w in
    let same : (q : ℕ) → noted_by new q ≡ noted_by old q = λ q. elim (q == worker) as (λ b. (q == worker) ≡ b → noted_by new q ≡ noted_by old q) [
      | true ↦ λ is. let e : q ≡ worker = eqb-true q worker is in subst (λ w. noted_by new w ≡ noted_by old w) (sym e) mine
      | false ↦ λ apart. others q apart
    ] refl in
    subst (AreNoted new) (sym err) (noted-same old new same names h)
