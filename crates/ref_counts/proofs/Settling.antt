-- what puts, sets and removals of places make of the users where keys wait for their pins
use Rattle.std.proofs.Common.{◌≡◌, ℕ, ◌==◌, Bool, true, false, not, ◌&&◌, ◌||◌, cond, List, [], ◌∷◌, ◌++◌, Option, None, Some, refl, sym, ap, ap₂, subst, ◌∙◌}
use Rattle.std.specs.BTreeMap.{insert_entry, is_at}
use Rattle.std.specs.BTreeSet.{insert_key}
use Rattle.std.specs.List.{AllByRecursion, list_any}
use Rattle.std.specs.Map.{lookup, remove_entry, set_value}
use Rattle.std.specs.Option.{is_some}
use Rattle.std.specs.Ordering.{is_eq, match_ordering}
use Rattle.std.specs.declared.cmp.Ordering.TheVariants.{Less, Equal, Greater}
use Rattle.std.proofs.lemmas.Bool.{false≢true, or_parts}
use Rattle.std.proofs.lemmas.Cmp.{tied_itself}
use Rattle.std.proofs.lemmas.List.Folds.{list_any-append}
use Rattle.std.proofs.lemmas.Map.Steps.{set_value_same}
use Rattle.std.proofs.lemmas.Option.{none-some}
use Rattle.swss_types.proofs.Tied.{tied}
use Rattle.table_schema.specs.Fields.{HasRisingKeys}
use Rattle.table_schema.specs.Key.{key_cmp}
use Rattle.table_schema.specs.declared.key.Key.{Key}
use Rattle.table_schema.proofs.Keys.{key_exact, key_total}
use Rattle.table_schema.proofs.Restored.{set-put}
use Rattle.ref_counts.specs.declared.pin.Pin.{Pin}
use Rattle.ref_counts.specs.Kept.{AreReadable, HasKeptPlace, Kept, is_pinned, is_waiting, marked_in, settled, users_in}
use Rattle.ref_counts.specs.Registered.{pins_but, pins_of, users_but}
use Rattle.ref_counts.proofs.Found.{eq_back}
use Rattle.ref_counts.proofs.Keeping.{above-equal, users-but_none, users-put, users-put_false, users-remove, users-remove_unused, users-set_false, users-set_true}
use Rattle.ref_counts.proofs.Pins.{none-but}

back_at : (x k : Key) → is_at (key_cmp x) k ≡ is_at (key_cmp k) x
back_at x k = ap is_eq (key_total.antisymm x k) ∙ eq_back (key_cmp k x)

or_swap : (a b c : Bool) → (a || (b || c)) ≡ (b || (a || c))
or_swap true true c = refl
or_swap true false c = refl
or_swap false true c = refl
or_swap false false c = refl

or_true : (v : Bool) → (v || true) ≡ true
or_true true = refl
or_true false = refl

or_false : (v : Bool) → (v || false) ≡ v
or_false true = refl
or_false false = refl

-- ---- the same keys, in the same order

above_settled : (f : Key → Bool) (k : Key) (es : Kept) → AllByRecursion (λ e. key_cmp k e.0 ≡ Less) es → AllByRecursion (λ e. key_cmp k e.0 ≡ Less) (settled f es)
above_settled f k [] h = tt
above_settled f k (e ∷ es) h = (h.0, above_settled f k es h.1)

rising_settled : (f : Key → Bool) (es : Kept) → HasRisingKeys key_cmp es → HasRisingKeys key_cmp (settled f es)
rising_settled f [] h = tt
rising_settled f (e ∷ es) h = (above_settled f e.0 es h.0, rising_settled f es h.1)

there_settled : (f : Key → Bool) (test : Key → Bool) (es : Kept) → is_some (lookup test (settled f es)) ≡ is_some (lookup test es)
there_settled f test [] = refl
there_settled f test (e ∷ es) =
    let rest = there_settled f test es in
    elim (test e.0) as (λ b. is_some (cond b (Some (e.1 || not (f e.0))) (lookup test (settled f es))) ≡ is_some (cond b (Some e.1) (lookup test es))) [ true ↦ refl | false ↦ rest ]

no_some : (o : Option Bool) → is_some o ≡ false → o ≡ None
no_some None h = refl
no_some (Some x) h = absurd (false≢true (sym h))

settled_all : (f g : Key → Bool) (es : Kept) → ((q : Key) → f q ≡ g q) → settled f es ≡ settled g es
settled_all f g [] h = refl
settled_all f g (e ∷ es) h = ap₂ (λ b l. (e.0, e.1 || not b) ∷ l) (h e.0) (settled_all f g es h)

-- ---- one pin more

-- entries at other keys
abbrev pub AreApart : Key → Kept → Type 0
AreApart k es = AllByRecursion (λ e. is_at (key_cmp e.0) k ≡ false) es

apart_above : (k : Key) (es : Kept) → AllByRecursion (λ e. key_cmp k e.0 ≡ Less) es → AreApart k es
apart_above k [] h = tt
apart_above k (e ∷ es) h = (back_at e.0 k ∙ ap is_eq h.0, apart_above k es h.1)

apart_none : (k : Key) (es : Kept) → lookup (is_at (key_cmp k)) es ≡ None → AreApart k es
apart_none k [] h = tt
apart_none k (e ∷ es) h =
    let rest = apart_none k es in
    let by : (b : Bool) → is_at (key_cmp k) e.0 ≡ b → cond b (Some e.1) (lookup (is_at (key_cmp k)) es) ≡ None → AreApart k (e ∷ es) =
    λ b. elim b as (λ b. is_at (key_cmp k) e.0 ≡ b → cond b (Some e.1) (lookup (is_at (key_cmp k)) es) ≡ None → AreApart k (e ∷ es)) [
      | true ↦ λ is none. absurd (none-some e.1 (sym none))
      | false ↦ λ is none. (back_at e.0 k ∙ is, rest none)
    ] in
    by (is_at (key_cmp k) e.0) refl h

settled_apart : (p : Pin) (ps : List Pin) (es : Kept) → AreApart p.user es → settled (is_pinned (p ∷ ps)) es ≡ settled (is_pinned ps) es
settled_apart p ps [] h = refl
settled_apart p ps (e ∷ es) h = ap₂ (λ b l. (e.0, e.1 || not (b || is_pinned ps e.0)) ∷ l) h.0 (settled_apart p ps es h.1)

settled_tied : (p : Pin) (ps : List Pin) (x : Key) (es : Kept) → is_at (key_cmp p.user) x ≡ true → AllByRecursion (λ e. key_cmp x e.0 ≡ Less) es → settled (is_pinned (p ∷ ps)) es ≡ settled (is_pinned ps) es
settled_tied p ps x es is h = settled_apart p ps es (apart_above p.user es (above-equal p.user x es (tied (key_cmp p.user x) is) h))

pinned_same : (p : Pin) (ps : List Pin) → is_pinned ps p.user ≡ true → (q : Key) → is_pinned (p ∷ ps) q ≡ is_pinned ps q
pinned_same p ps h q =
    elim (is_at (key_cmp q) p.user) as (λ b. is_at (key_cmp q) p.user ≡ b → (b || is_pinned ps q) ≡ is_pinned ps q) [
      | true ↦ λ is. sym (ap (is_pinned ps) (key_exact q p.user (tied (key_cmp q p.user) is)) ∙ h)
      | false ↦ λ is. refl
    ] refl

-- a pin more for a key that is pinned
pub users-pinned : (es : Kept) (p : Pin) (ps : List Pin) → is_pinned ps p.user ≡ true → users_in es ps ≡ users_in es (p ∷ ps)
users-pinned es p ps h = ap marked_in (settled_all (is_pinned ps) (is_pinned (p ∷ ps)) es (λ q. sym (pinned_same p ps h q)))

pinned_push : (p : Pin) (ps : List Pin) (q : Key) → is_pinned (ps ++ p ∷ []) q ≡ is_pinned (p ∷ ps) q
pinned_push p [] q = refl
pinned_push p (x ∷ xs) q = ap (λ b. is_at (key_cmp q) x.user || b) (pinned_push p xs q) ∙ or_swap (is_at (key_cmp q) x.user) (is_at (key_cmp q) p.user) (is_pinned xs q)

pub users-push : (es : Kept) (p : Pin) (ps : List Pin) → users_in es (ps ++ p ∷ []) ≡ users_in es (p ∷ ps)
users-push es p ps = ap marked_in (settled_all (is_pinned (ps ++ p ∷ [])) (is_pinned (p ∷ ps)) es (pinned_push p ps))

pinned_middle : (p : Pin) (xs ys : List Pin) (q : Key) → is_pinned (xs ++ p ∷ ys) q ≡ is_pinned (p ∷ (xs ++ ys)) q
pinned_middle p [] ys q = refl
pinned_middle p (x ∷ xs) ys q = ap (λ b. is_at (key_cmp q) x.user || b) (pinned_middle p xs ys q) ∙ or_swap (is_at (key_cmp q) x.user) (is_at (key_cmp q) p.user) (is_pinned (xs ++ ys) q)

pinned_parted : (worker : ℕ) (ps : List Pin) (q : Key) → is_pinned (pins_of worker ps ++ pins_but worker ps) q ≡ is_pinned ps q
pinned_parted worker [] q = refl
pinned_parted worker (p ∷ ps) q =
    let rest = ap (λ b. is_at (key_cmp q) p.user || b) (pinned_parted worker ps q) in
    let middle = pinned_middle p (pins_of worker ps) (pins_but worker ps) q in
    elim (p.worker == worker) as (λ b. is_pinned (cond b (p ∷ pins_of worker ps) (pins_of worker ps) ++ cond (not b) (p ∷ pins_but worker ps) (pins_but worker ps)) q ≡ is_pinned (p ∷ ps) q) [
      | true ↦ rest
      | false ↦ middle ∙ rest
    ]

-- the pins of a worker before those of the others
pub users-parted : (worker : ℕ) (es : Kept) (ps : List Pin) → users_in es (pins_of worker ps ++ pins_but worker ps) ≡ users_in es ps
users-parted worker es ps = ap marked_in (settled_all (is_pinned (pins_of worker ps ++ pins_but worker ps)) (is_pinned ps) es (pinned_parted worker ps))

-- ---- a user is put, a use ends

settled_put : (f : Key → Bool) (es : Kept) (k : Key) → settled f (insert_entry key_cmp es k true) ≡ insert_entry key_cmp (settled f es) k true
settled_put f [] k = refl
settled_put f (e ∷ es) k =
    let rest = settled_put f es k in
    elim (key_cmp k e.0) as (λ r. settled f (match_ordering r ((k, true) ∷ e ∷ es) ((e.0, true) ∷ es) (e ∷ insert_entry key_cmp es k true)) ≡ match_ordering r ((k, true) ∷ settled f (e ∷ es)) ((e.0, true) ∷ settled f es) ((e.0, e.1 || not (f e.0)) ∷ insert_entry key_cmp (settled f es) k true)) [
      | Less ↦ refl
      | Equal ↦ refl
      | Greater ↦ ap (λ l. (e.0, e.1 || not (f e.0)) ∷ l) rest
    ]

pub users_in-put : (es : Kept) (k : Key) (ps : List Pin) → HasRisingKeys key_cmp es → users_in (insert_entry key_cmp es k true) ps ≡ insert_key key_cmp (users_in es ps) k
users_in-put es k ps h = ap marked_in (settled_put (is_pinned ps) es k) ∙ users-put (settled (is_pinned ps) es) k (rising_settled (is_pinned ps) es h)

settled_remove : (f : Key → Bool) (test : Key → Bool) (es : Kept) → settled f (remove_entry test es) ≡ remove_entry test (settled f es)
settled_remove f test [] = refl
settled_remove f test (e ∷ es) =
    let rest = settled_remove f test es in
    elim (test e.0) as (λ b. settled f (cond b es (e ∷ remove_entry test es)) ≡ cond b (settled f es) ((e.0, e.1 || not (f e.0)) ∷ remove_entry test (settled f es))) [
      | true ↦ refl
      | false ↦ ap (λ l. (e.0, e.1 || not (f e.0)) ∷ l) rest
    ]

pub users_in-remove : (es : Kept) (k : Key) (ps : List Pin) → HasRisingKeys key_cmp es → users_in (remove_entry (is_at (key_cmp k)) es) ps ≡ users_but k (users_in es ps)
users_in-remove es k ps h = ap marked_in (settled_remove (is_pinned ps) (is_at (key_cmp k)) es) ∙ users-remove (settled (is_pinned ps) es) k (rising_settled (is_pinned ps) es h)

settled_set_false : (f : Key → Bool) (k : Key) (es : Kept) → f k ≡ true → settled f (set_value (is_at (key_cmp k)) es false) ≡ set_value (is_at (key_cmp k)) (settled f es) false
settled_set_false f k [] h = refl
settled_set_false f k (e ∷ es) h =
    let rest = settled_set_false f k es h in
    elim (is_at (key_cmp k) e.0) as (λ b. is_at (key_cmp k) e.0 ≡ b → settled f (cond b ((e.0, false) ∷ es) (e ∷ set_value (is_at (key_cmp k)) es false)) ≡ cond b ((e.0, false) ∷ settled f es) ((e.0, e.1 || not (f e.0)) ∷ set_value (is_at (key_cmp k)) (settled f es) false)) [
      | true ↦ λ is. ap (λ b. (e.0, not b) ∷ settled f es) (ap f (sym (key_exact k e.0 (tied (key_cmp k e.0) is))) ∙ h)
      | false ↦ λ is. ap (λ l. (e.0, e.1 || not (f e.0)) ∷ l) rest
    ] refl

pub users_in-set_false : (es : Kept) (k : Key) (ps : List Pin) → HasRisingKeys key_cmp es → is_pinned ps k ≡ true → users_in (set_value (is_at (key_cmp k)) es false) ps ≡ users_but k (users_in es ps)
users_in-set_false es k ps h is = ap marked_in (settled_set_false (is_pinned ps) k es is) ∙ users-set_false (settled (is_pinned ps) es) k (rising_settled (is_pinned ps) es h)

pub users_in-but_none : (es : Kept) (k : Key) (ps : List Pin) → HasRisingKeys key_cmp es → lookup (is_at (key_cmp k)) es ≡ None → users_in es ps ≡ users_but k (users_in es ps)
users_in-but_none es k ps h none = users-but_none (settled (is_pinned ps) es) k (rising_settled (is_pinned ps) es h) (no_some (lookup (is_at (key_cmp k)) (settled (is_pinned ps) es)) (there_settled (is_pinned ps) (is_at (key_cmp k)) es ∙ ap is_some none))

-- ---- a place is used

settled_set : (p : Pin) (ps : List Pin) (es : Kept) → HasRisingKeys key_cmp es → settled (is_pinned ps) (set_value (is_at (key_cmp p.user)) es true) ≡ set_value (is_at (key_cmp p.user)) (settled (is_pinned (p ∷ ps)) es) true
settled_set p ps [] h = refl
settled_set p ps (e ∷ es) h =
    let rest = settled_set p ps es h.1 in
    elim (is_at (key_cmp p.user) e.0) as (λ b. is_at (key_cmp p.user) e.0 ≡ b → settled (is_pinned ps) (cond b ((e.0, true) ∷ es) (e ∷ set_value (is_at (key_cmp p.user)) es true)) ≡ cond b ((e.0, true) ∷ settled (is_pinned (p ∷ ps)) es) ((e.0, e.1 || not (is_pinned (p ∷ ps) e.0)) ∷ set_value (is_at (key_cmp p.user)) (settled (is_pinned (p ∷ ps)) es) true)) [
      | true ↦ λ is. ap (λ l. (e.0, true) ∷ l) (sym (settled_tied p ps e.0 es is h.0))
      | false ↦ λ is. ap₂ (λ b l. (e.0, e.1 || not (b || is_pinned ps e.0)) ∷ l) (sym (back_at e.0 p.user ∙ is)) rest
    ] refl

users_set_some : (es : Kept) (k : Key) → HasRisingKeys key_cmp es → (o : Option Bool) → lookup (is_at (key_cmp k)) es ≡ o → is_some o ≡ true → marked_in (set_value (is_at (key_cmp k)) es true) ≡ insert_key key_cmp (marked_in es) k
users_set_some es k h (Some x) is some = users-set_true es k x h is
users_set_some es k h None is some = absurd (false≢true some)

users_use : (es : Kept) (p : Pin) (ps : List Pin) → HasRisingKeys key_cmp es → HasKeptPlace es p.user → users_in (set_value (is_at (key_cmp p.user)) es true) ps ≡ insert_key key_cmp (users_in es (p ∷ ps)) p.user
users_use es p ps h has =
    let f : Key → Bool = is_pinned (p ∷ ps) in
    let test : Key → Bool = is_at (key_cmp p.user) in
    ap marked_in (settled_set p ps es h) ∙ users_set_some (settled f es) p.user (rising_settled f es h) (lookup test (settled f es)) refl (there_settled f test es ∙ has)

-- the key of a pin that goes comes to be a user
pub users-use : (es : Kept) (k : Key) (p : Pin) (ps : List Pin) → p.user ≡ k → HasRisingKeys key_cmp es → HasKeptPlace es k → users_in (set_value (is_at (key_cmp k)) es true) ps ≡ insert_key key_cmp (users_in es (p ∷ ps)) k
users-use es k p ps same h = subst (λ k. HasKeptPlace es k → users_in (set_value (is_at (key_cmp k)) es true) ps ≡ insert_key key_cmp (users_in es (p ∷ ps)) k) same (users_use es p ps h)

settled_set_same : (f : Key → Bool) (k : Key) (es : Kept) → f k ≡ false → settled f es ≡ settled f (set_value (is_at (key_cmp k)) es true)
settled_set_same f k [] h = refl
settled_set_same f k (e ∷ es) h =
    let rest = settled_set_same f k es h in
    elim (is_at (key_cmp k) e.0) as (λ b. is_at (key_cmp k) e.0 ≡ b → settled f (e ∷ es) ≡ settled f (cond b ((e.0, true) ∷ es) (e ∷ set_value (is_at (key_cmp k)) es true))) [
      | true ↦ λ is. ap (λ b. (e.0, b) ∷ settled f es) (ap (λ b. e.1 || not b) (ap f (sym (key_exact k e.0 (tied (key_cmp k e.0) is))) ∙ h) ∙ or_true e.1)
      | false ↦ λ is. ap (λ l. (e.0, e.1 || not (f e.0)) ∷ l) rest
    ] refl

-- and so it does by itself where no other pin is for it
pub users-left : (es : Kept) (p : Pin) (ps : List Pin) → HasRisingKeys key_cmp es → HasKeptPlace es p.user → is_pinned ps p.user ≡ false → users_in es ps ≡ insert_key key_cmp (users_in es (p ∷ ps)) p.user
users-left es p ps h has free = ap marked_in (settled_set_same (is_pinned ps) p.user es free) ∙ users_use es p ps h has

-- ---- a place ends

settled_end : (p : Pin) (ps : List Pin) (es : Kept) → HasRisingKeys key_cmp es → settled (is_pinned ps) (remove_entry (is_at (key_cmp p.user)) es) ≡ remove_entry (is_at (key_cmp p.user)) (settled (is_pinned (p ∷ ps)) es)
settled_end p ps [] h = refl
settled_end p ps (e ∷ es) h =
    let rest = settled_end p ps es h.1 in
    elim (is_at (key_cmp p.user) e.0) as (λ b. is_at (key_cmp p.user) e.0 ≡ b → settled (is_pinned ps) (cond b es (e ∷ remove_entry (is_at (key_cmp p.user)) es)) ≡ cond b (settled (is_pinned (p ∷ ps)) es) ((e.0, e.1 || not (is_pinned (p ∷ ps) e.0)) ∷ remove_entry (is_at (key_cmp p.user)) (settled (is_pinned (p ∷ ps)) es))) [
      | true ↦ λ is. sym (settled_tied p ps e.0 es is h.0)
      | false ↦ λ is. ap₂ (λ b l. (e.0, e.1 || not (b || is_pinned ps e.0)) ∷ l) (sym (back_at e.0 p.user ∙ is)) rest
    ] refl

waiting_first : (v b c : Bool) → not v ≡ true → b ≡ true → Some (v || not (b || c)) ≡ Some false
waiting_first true b c is at = absurd (false≢true is)
waiting_first false b c is at = ap (λ b. Some (not (b || c))) at

lookup_waiting : (p : Pin) (ps : List Pin) (es : Kept) → is_waiting (lookup (is_at (key_cmp p.user)) es) ≡ true → lookup (is_at (key_cmp p.user)) (settled (is_pinned (p ∷ ps)) es) ≡ Some false
lookup_waiting p ps [] h = absurd (false≢true h)
lookup_waiting p ps (e ∷ es) h =
    let rest = lookup_waiting p ps es in
    elim (is_at (key_cmp p.user) e.0) as (λ b. is_at (key_cmp p.user) e.0 ≡ b → is_waiting (cond b (Some e.1) (lookup (is_at (key_cmp p.user)) es)) ≡ true → cond b (Some (e.1 || not (is_pinned (p ∷ ps) e.0))) (lookup (is_at (key_cmp p.user)) (settled (is_pinned (p ∷ ps)) es)) ≡ Some false) [
      | true ↦ λ is waits. waiting_first e.1 (is_at (key_cmp e.0) p.user) (is_pinned ps e.0) waits (back_at e.0 p.user ∙ is)
      | false ↦ λ is waits. rest waits
    ] refl h

-- the place of a pin that goes ends with it
pub users-end : (es : Kept) (k : Key) (p : Pin) (ps : List Pin) → p.user ≡ k → HasRisingKeys key_cmp es → is_waiting (lookup (is_at (key_cmp k)) es) ≡ true → users_in (remove_entry (is_at (key_cmp k)) es) ps ≡ users_in es (p ∷ ps)
users-end es k p ps same h = subst (λ k. is_waiting (lookup (is_at (key_cmp k)) es) ≡ true → users_in (remove_entry (is_at (key_cmp k)) es) ps ≡ users_in es (p ∷ ps)) same (λ waits. ap marked_in (settled_end p ps es h) ∙ users-remove_unused (settled (is_pinned (p ∷ ps)) es) p.user (lookup_waiting p ps es waits))

marked_first : (v b c : Bool) → not v ≡ false → (v || b) ≡ (v || c)
marked_first true b c is = refl
marked_first false b c is = absurd (false≢true (sym is))

settled_stay : (p : Pin) (ps : List Pin) (es : Kept) → HasRisingKeys key_cmp es → is_waiting (lookup (is_at (key_cmp p.user)) es) ≡ false → settled (is_pinned ps) es ≡ settled (is_pinned (p ∷ ps)) es
settled_stay p ps [] h stays = refl
settled_stay p ps (e ∷ es) h stays =
    let rest = settled_stay p ps es h.1 in
    elim (is_at (key_cmp p.user) e.0) as (λ b. is_at (key_cmp p.user) e.0 ≡ b → is_waiting (cond b (Some e.1) (lookup (is_at (key_cmp p.user)) es)) ≡ false → settled (is_pinned ps) (e ∷ es) ≡ settled (is_pinned (p ∷ ps)) (e ∷ es)) [
      | true ↦ λ is uses. ap₂ (λ b l. (e.0, b) ∷ l) (marked_first e.1 (not (is_pinned ps e.0)) (not (is_pinned (p ∷ ps) e.0)) uses) (sym (settled_tied p ps e.0 es is h.0))
      | false ↦ λ is uses. ap₂ (λ b l. (e.0, e.1 || not (b || is_pinned ps e.0)) ∷ l) (sym (back_at e.0 p.user ∙ is)) (rest uses)
    ] refl stays

-- a pin that goes and has no place of its own
pub users-stay : (es : Kept) (k : Key) (p : Pin) (ps : List Pin) → p.user ≡ k → HasRisingKeys key_cmp es → is_waiting (lookup (is_at (key_cmp k)) es) ≡ false → users_in es ps ≡ users_in es (p ∷ ps)
users-stay es k p ps same h = subst (λ k. is_waiting (lookup (is_at (key_cmp k)) es) ≡ false → users_in es ps ≡ users_in es (p ∷ ps)) same (λ stays. ap marked_in (settled_stay p ps es h stays))

-- ---- a place is kept for a pin

settled_put_false : (f : Key → Bool) (es : Kept) (k : Key) → f k ≡ true → settled f (insert_entry key_cmp es k false) ≡ insert_entry key_cmp (settled f es) k false
settled_put_false f [] k h = ap (λ b. (k, not b) ∷ []) h
settled_put_false f (e ∷ es) k h =
    let rest = settled_put_false f es k h in
    elim (key_cmp k e.0) as (λ r. key_cmp k e.0 ≡ r → settled f (match_ordering r ((k, false) ∷ e ∷ es) ((e.0, false) ∷ es) (e ∷ insert_entry key_cmp es k false)) ≡ match_ordering r ((k, false) ∷ settled f (e ∷ es)) ((e.0, false) ∷ settled f es) ((e.0, e.1 || not (f e.0)) ∷ insert_entry key_cmp (settled f es) k false)) [
      | Less ↦ λ is. ap (λ b. (k, not b) ∷ settled f (e ∷ es)) h
      | Equal ↦ λ is. ap (λ b. (e.0, not b) ∷ settled f es) (ap f (sym (key_exact k e.0 is)) ∙ h)
      | Greater ↦ λ is. ap (λ l. (e.0, e.1 || not (f e.0)) ∷ l) rest
    ] refl

or_first : (b c : Bool) → b ≡ true → (b || c) ≡ true
or_first true c h = refl
or_first false c h = absurd (false≢true h)

users_keep : (es : Kept) (p : Pin) (ps : List Pin) → is_at (key_cmp p.user) p.user ≡ true → lookup (is_at (key_cmp p.user)) es ≡ None → users_in (insert_entry key_cmp es p.user false) (ps ++ p ∷ []) ≡ users_in es ps
users_keep es p ps own none =
    let f : Key → Bool = is_pinned (p ∷ ps) in
    users-push (insert_entry key_cmp es p.user false) p ps
    ∙ ap marked_in (settled_put_false f es p.user (or_first (is_at (key_cmp p.user) p.user) (is_pinned ps p.user) own))
    ∙ users-put_false (settled f es) p.user (no_some (lookup (is_at (key_cmp p.user)) (settled f es)) (there_settled f (is_at (key_cmp p.user)) es ∙ ap is_some none))
    ∙ ap marked_in (settled_apart p ps es (apart_none p.user es none))

own_at : (k : Key) → is_at (key_cmp k) k ≡ true
own_at k = ap is_eq (tied_itself key_total k)

-- a place that is kept for a pin
pub users-keep : (es : Kept) (k : Key) (p : Pin) (ps : List Pin) → p.user ≡ k → lookup (is_at (key_cmp k)) es ≡ None → users_in (insert_entry key_cmp es k false) (ps ++ p ∷ []) ≡ users_in es ps
users-keep es k p ps same = subst (λ k. lookup (is_at (key_cmp k)) es ≡ None → users_in (insert_entry key_cmp es k false) (ps ++ p ∷ []) ≡ users_in es ps) same (users_keep es p ps (own_at p.user))

settled_keep : (p : Pin) (ps : List Pin) (es : Kept) → HasRisingKeys key_cmp es → is_pinned ps p.user ≡ false → settled (is_pinned (p ∷ ps)) (set_value (is_at (key_cmp p.user)) es true) ≡ settled (is_pinned ps) es
settled_keep p ps [] h free = refl
settled_keep p ps (e ∷ es) h free =
    let rest = settled_keep p ps es h.1 free in
    elim (is_at (key_cmp p.user) e.0) as (λ b. is_at (key_cmp p.user) e.0 ≡ b → settled (is_pinned (p ∷ ps)) (cond b ((e.0, true) ∷ es) (e ∷ set_value (is_at (key_cmp p.user)) es true)) ≡ settled (is_pinned ps) (e ∷ es)) [
      | true ↦ λ is. ap₂ (λ b l. (e.0, b) ∷ l) (sym (ap (λ b. e.1 || not b) (ap (is_pinned ps) (sym (key_exact p.user e.0 (tied (key_cmp p.user e.0) is))) ∙ free) ∙ or_true e.1)) (settled_tied p ps e.0 es is h.0)
      | false ↦ λ is. ap₂ (λ b l. (e.0, e.1 || not (b || is_pinned ps e.0)) ∷ l) (back_at e.0 p.user ∙ is) rest
    ] refl

-- a user that comes to be pinned stays one
users-keep_used : (es : Kept) (k : Key) (p : Pin) (ps : List Pin) → p.user ≡ k → HasRisingKeys key_cmp es → is_pinned ps k ≡ false → users_in (set_value (is_at (key_cmp k)) es true) (ps ++ p ∷ []) ≡ users_in es ps
users-keep_used es k p ps same h = subst (λ k. is_pinned ps k ≡ false → users_in (set_value (is_at (key_cmp k)) es true) (ps ++ p ∷ []) ≡ users_in es ps) same (λ free. users-push (set_value (is_at (key_cmp p.user)) es true) p ps ∙ ap marked_in (settled_keep p ps es h free))

-- a key that is pinned once more
users-keep_pinned : (es : Kept) (k : Key) (p : Pin) (ps : List Pin) → p.user ≡ k → is_pinned ps k ≡ true → users_in es (ps ++ p ∷ []) ≡ users_in es ps
users-keep_pinned es k p ps same = subst (λ k. is_pinned ps k ≡ true → users_in es (ps ++ p ∷ []) ≡ users_in es ps) same (λ is. users-push es p ps ∙ sym (users-pinned es p ps is))

set_twice : (test : Key → Bool) (es : Kept) (v w : Bool) → set_value test (set_value test es v) w ≡ set_value test es w
set_twice test [] v w = refl
set_twice test (e ∷ es) v w =
    let rest = set_twice test es v w in
    elim (test e.0) as (λ b. test e.0 ≡ b → set_value test (cond b ((e.0, v) ∷ es) (e ∷ set_value test es v)) w ≡ cond b ((e.0, w) ∷ es) (e ∷ set_value test es w)) [
      | true ↦ λ is. ap (λ b. cond b ((e.0, w) ∷ es) ((e.0, v) ∷ set_value test es w)) is
      | false ↦ λ is. ap (λ b. cond b ((e.0, w) ∷ set_value test es v) (e ∷ set_value test (set_value test es v) w)) is ∙ ap (λ l. e ∷ l) rest
    ] refl

-- a key that had a place, put anew and then set, stays a user where it was one by itself or for want of a pin
pub users-keep_put : (es : Kept) (k : Key) (p : Pin) (ps : List Pin) (v x : Bool) → p.user ≡ k → HasRisingKeys key_cmp es → lookup (is_at (key_cmp k)) es ≡ Some x → users_in (set_value (is_at (key_cmp k)) (insert_entry key_cmp es k v) (x || not (is_pinned ps k))) (ps ++ p ∷ []) ≡ users_in es ps
users-keep_put es k p ps v x same h there =
    let test : Key → Bool = is_at (key_cmp k) in
    let as_set : Bool → List Key = λ w. users_in (set_value test (insert_entry key_cmp es k v) w) (ps ++ p ∷ []) in
    let once : (w : Bool) → as_set w ≡ users_in (set_value test es w) (ps ++ p ∷ []) = λ w. ap (λ l. users_in l (ps ++ p ∷ [])) (ap (λ l. set_value test l w) (sym (set-put key_cmp key_total es k v x h there)) ∙ set_twice test es v w) in
    elim (is_pinned ps k) as (λ b. is_pinned ps k ≡ b → as_set (x || not b) ≡ users_in es ps) [
      | true ↦ λ is. ap as_set (or_false x) ∙ once x ∙ ap (λ l. users_in l (ps ++ p ∷ [])) (set_value_same test es x there) ∙ users-keep_pinned es k p ps same is
      | false ↦ λ free. ap as_set (or_true x) ∙ once true ∙ users-keep_used es k p ps same h free
    ] refl

pub readable-settled : (f : Key → Bool) (es : Kept) → AreReadable es → AreReadable (settled f es)
readable-settled f [] h = tt
readable-settled f (e ∷ es) h = (h.0, readable-settled f es h.1)

-- ---- pins of a worker and of the others

pub users-pinned_at : (es : Kept) (k : Key) (p : Pin) (ps : List Pin) → p.user ≡ k → is_pinned ps k ≡ true → users_in es ps ≡ users_in es (p ∷ ps)
users-pinned_at es k p ps same is = users-pinned es p ps (ap (is_pinned ps) same ∙ is)

none_of : (k : Key) (worker : ℕ) (ps : List Pin) → is_pinned ps k ≡ false → is_pinned (pins_of worker ps) k ≡ false
none_of k worker [] h = refl
none_of k worker (p ∷ ps) h =
    let parts = or_parts (is_at (key_cmp k) p.user) (is_pinned ps k) h in
    let rest = none_of k worker ps parts.1 in
    elim (p.worker == worker) as (λ b. is_pinned (cond b (p ∷ pins_of worker ps) (pins_of worker ps)) k ≡ false) [
      | true ↦ ap (λ b. b || is_pinned (pins_of worker ps) k) parts.0 ∙ rest
      | false ↦ rest
    ]

-- no pin of another worker and none of these others is for the key
pub none-beside : (k : Key) (worker : ℕ) (others all : List Pin) → list_any (λ p. not (p.worker == worker) && is_at (key_cmp k) p.user) all ≡ false → is_pinned others k ≡ false → is_pinned (pins_of worker others ++ pins_but worker all) k ≡ false
none-beside k worker others all none free = list_any-append (λ p. is_at (key_cmp k) p.user) (pins_of worker others) (pins_but worker all) ∙ ap₂ (λ a b. a || b) (none_of k worker others free) (none-but k worker all none)

or_either : (a b : Bool) → (b ≡ true) → (a || b) ≡ true
or_either true b h = refl
or_either false b h = h

some_but : (k : Key) (worker : ℕ) (ps : List Pin) → list_any (λ p. not (p.worker == worker) && is_at (key_cmp k) p.user) ps ≡ true → is_pinned (pins_but worker ps) k ≡ true
some_but k worker [] h = h
some_but k worker (p ∷ ps) h =
    let rest = some_but k worker ps in
    let by : (b a : Bool) → ((b && a) || list_any (λ p. not (p.worker == worker) && is_at (key_cmp k) p.user) ps) ≡ true → is_at (key_cmp k) p.user ≡ a → is_pinned (cond b (p ∷ pins_but worker ps) (pins_but worker ps)) k ≡ true =
    λ b a. elim b as (λ b. ((b && a) || list_any (λ p. not (p.worker == worker) && is_at (key_cmp k) p.user) ps) ≡ true → is_at (key_cmp k) p.user ≡ a → is_pinned (cond b (p ∷ pins_but worker ps) (pins_but worker ps)) k ≡ true) [
      | true ↦ elim a as (λ a. (a || list_any (λ p. not (p.worker == worker) && is_at (key_cmp k) p.user) ps) ≡ true → is_at (key_cmp k) p.user ≡ a → (is_at (key_cmp k) p.user || is_pinned (pins_but worker ps) k) ≡ true) [
        | true ↦ λ some is. ap (λ b. b || is_pinned (pins_but worker ps) k) is
        | false ↦ λ some is. or_either (is_at (key_cmp k) p.user) (is_pinned (pins_but worker ps) k) (rest some)
      ]
      | false ↦ λ some is. rest some
    ] in
    by (not (p.worker == worker)) (is_at (key_cmp k) p.user) h refl

-- another worker's pin is for the key of a pin
pub users-others : (es : Kept) (worker : ℕ) (p : Pin) (ps all : List Pin) → list_any (λ q. not (q.worker == worker) && is_at (key_cmp p.user) q.user) all ≡ true → users_in es (ps ++ pins_but worker all) ≡ users_in es (p ∷ (ps ++ pins_but worker all))
users-others es worker p ps all some = users-pinned es p (ps ++ pins_but worker all) (list_any-append (λ q. is_at (key_cmp p.user) q.user) ps (pins_but worker all) ∙ or_either (is_pinned ps p.user) (is_pinned (pins_but worker all) p.user) (some_but p.user worker all some))
