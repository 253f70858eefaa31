-- what puts, sets and removals of places make of the users
use Rattle.std.proofs.Common.{◌≡◌, Bool, true, false, not, cond, List, [], ◌∷◌, Option, None, Some, refl, sym, ap, subst, ◌∙◌}
use Rattle.std.specs.BTreeMap.{insert_entry, is_at}
use Rattle.std.specs.BTreeSet.{insert_key}
use Rattle.std.specs.Cmp.{eq_by_cmp_equiv}
use Rattle.std.specs.List.{AllByRecursion}
use Rattle.std.specs.Map.{lookup, remove_entry, set_value}
use Rattle.std.specs.Option.{is_some}
use Rattle.std.specs.Ordering.{is_eq, match_ordering}
use Rattle.std.specs.declared.cmp.Ordering.{Ordering}
use Rattle.std.specs.declared.cmp.Ordering.TheVariants.{Less, Equal, Greater}
use Rattle.std.proofs.lemmas.Option.{none-some}
use Rattle.swss_types.proofs.Maps.{lookup-insert_entry}
use Rattle.table_schema.specs.Fields.{HasRisingKeys}
use Rattle.table_schema.specs.Key.{key_cmp}
use Rattle.table_schema.specs.declared.key.Key.{Key}
use Rattle.table_schema.proofs.Keys.{at_itself, key_exact, key_total, tied_keys_same}
use Rattle.table_schema.proofs.Places.{above_more, find_step, out_step, put_step}
use Rattle.table_schema.proofs.Restored.{remove-none, set-put}
use Rattle.ref_counts.specs.Kept.{AreReadable, HasKeptPlace, Kept, marked_in}
use Rattle.ref_counts.specs.Registered.{IsReadable, first_of, users_but}

-- users that are all above a key
abbrev pub AreAbove : Key → List Key → Type 0
AreAbove k us = AllByRecursion (λ u. key_cmp k u ≡ Less) us

above_step : (k x : Key) (us : List Key) (b : Bool) → key_cmp k x ≡ Less → AreAbove k us → AreAbove k (cond b (x ∷ us) us)
above_step k x us true h rest = (h, rest)
above_step k x us false h rest = rest

users-above : (k : Key) (es : Kept) → AllByRecursion (λ e. key_cmp k e.0 ≡ Less) es → AreAbove k (marked_in es)
users-above k [] h = tt
users-above k (e ∷ es) h = above_step k e.0 (marked_in es) e.1 h.0 (users-above k es h.1)

key_step : (k x : Key) (us : List Key) (r : Ordering) → key_cmp k x ≡ r → insert_key key_cmp (x ∷ us) k ≡ match_ordering r (k ∷ x ∷ us) (x ∷ us) (x ∷ insert_key key_cmp us k)
key_step k x us r h = ap (λ o. match_ordering o (k ∷ x ∷ us) (x ∷ us) (x ∷ insert_key key_cmp us k)) h

put-above : (k : Key) (us : List Key) → AreAbove k us → insert_key key_cmp us k ≡ k ∷ us
put-above k [] h = refl
put-above k (u ∷ us) h = key_step k u us Less h.0

but_step : (k x : Key) (us : List Key) (r : Ordering) → key_cmp k x ≡ r → users_but k (x ∷ us) ≡ cond (not (is_eq r)) (x ∷ users_but k us) (users_but k us)
but_step k x us r h = ap (λ o. cond (not (is_eq o)) (x ∷ users_but k us) (users_but k us)) h

but-above : (k : Key) (us : List Key) → AreAbove k us → users_but k us ≡ us
but-above k [] h = refl
but-above k (u ∷ us) h = but_step k u us Less h.0 ∙ ap (λ l. u ∷ l) (but-above k us h.1)

-- a key of the same order is above the same keys
pub above-equal : (k x : Key) (es : Kept) → key_cmp k x ≡ Equal → AllByRecursion (λ e. key_cmp x e.0 ≡ Less) es → AllByRecursion (λ e. key_cmp k e.0 ≡ Less) es
above-equal k x [] is h = tt
above-equal k x (e ∷ es) is h = (key_total.congr k x e.0 is ∙ h.0, above-equal k x es is h.1)

put_equal : (k x : Key) (us : List Key) (b : Bool) → key_cmp k x ≡ Equal → AreAbove k us → x ∷ us ≡ insert_key key_cmp (cond b (x ∷ us) us) k
put_equal k x us true is above = sym (key_step k x us Equal is)
put_equal k x us false is above = ap (λ y. y ∷ us) (sym (key_exact k x is)) ∙ sym (put-above k us above)

put_greater : (k x : Key) (us vs : List Key) (b : Bool) → key_cmp k x ≡ Greater → vs ≡ insert_key key_cmp us k → cond b (x ∷ vs) vs ≡ insert_key key_cmp (cond b (x ∷ us) us) k
put_greater k x us vs true is rest = ap (λ l. x ∷ l) rest ∙ sym (key_step k x us Greater is)
put_greater k x us vs false is rest = rest

-- a place that is put for a user
pub users-put : (es : Kept) (k : Key) → HasRisingKeys key_cmp es → marked_in (insert_entry key_cmp es k true) ≡ insert_key key_cmp (marked_in es) k
users-put [] k h = refl
users-put (e ∷ es) k h =
    let rest = users-put es k h.1 in
    let by : (r : Ordering) → key_cmp k e.0 ≡ r → marked_in (insert_entry key_cmp (e ∷ es) k true) ≡ insert_key key_cmp (marked_in (e ∷ es)) k =
    λ r. elim r as (λ r. key_cmp k e.0 ≡ r → marked_in (insert_entry key_cmp (e ∷ es) k true) ≡ insert_key key_cmp (marked_in (e ∷ es)) k) [
      | Less ↦ λ is. ap marked_in (put_step key_cmp e es k true Less is) ∙ sym (put-above k (marked_in (e ∷ es)) (users-above k (e ∷ es) (is, above_more key_cmp key_total k e.0 es is h.0)))
      | Equal ↦ λ is. ap marked_in (put_step key_cmp e es k true Equal is) ∙ put_equal k e.0 (marked_in es) e.1 is (users-above k es (above-equal k e.0 es is h.0))
      | Greater ↦ λ is. ap marked_in (put_step key_cmp e es k true Greater is) ∙ put_greater k e.0 (marked_in es) (marked_in (insert_entry key_cmp es k true)) e.1 is rest
    ] in
    by (key_cmp k e.0) refl

-- a place that is set for a user
pub users-set_true : (es : Kept) (k : Key) (x : Bool) → HasRisingKeys key_cmp es → lookup (is_at (key_cmp k)) es ≡ Some x → marked_in (set_value (is_at (key_cmp k)) es true) ≡ insert_key key_cmp (marked_in es) k
users-set_true es k x h there = ap marked_in (set-put key_cmp key_total es k true x h there) ∙ users-put es k h

same_with : (x : Key) (us vs : List Key) (b : Bool) → vs ≡ us → cond b (x ∷ vs) vs ≡ cond b (x ∷ us) us
same_with x us vs b e = ap (λ l. cond b (x ∷ l) l) e

-- a place alone
pub users-put_false : (es : Kept) (k : Key) → lookup (is_at (key_cmp k)) es ≡ None → marked_in (insert_entry key_cmp es k false) ≡ marked_in es
users-put_false [] k none = refl
users-put_false (e ∷ es) k none =
    let rest = users-put_false es k in
    let by : (r : Ordering) → key_cmp k e.0 ≡ r → marked_in (insert_entry key_cmp (e ∷ es) k false) ≡ marked_in (e ∷ es) =
    λ r. elim r as (λ r. key_cmp k e.0 ≡ r → marked_in (insert_entry key_cmp (e ∷ es) k false) ≡ marked_in (e ∷ es)) [
      | Less ↦ λ is. ap marked_in (put_step key_cmp e es k false Less is)
      | Equal ↦ λ is. absurd (none-some e.1 (sym none ∙ find_step key_cmp e es k Equal is))
      | Greater ↦ λ is. ap marked_in (put_step key_cmp e es k false Greater is) ∙ same_with e.0 (marked_in es) (marked_in (insert_entry key_cmp es k false)) e.1 (rest (sym (find_step key_cmp e es k Greater is) ∙ none))
    ] in
    by (key_cmp k e.0) refl

unused_step : (e : Key × Bool) (us : List Key) (b : Bool) → b ≡ false → us ≡ cond b (e.0 ∷ us) us
unused_step e us b h = rw h refl

-- a place alone that is taken away
pub users-remove_unused : (es : Kept) (k : Key) → lookup (is_at (key_cmp k)) es ≡ Some false → marked_in (remove_entry (is_at (key_cmp k)) es) ≡ marked_in es
users-remove_unused [] k h = absurd (none-some false h)
users-remove_unused (e ∷ es) k h =
    let rest = users-remove_unused es k in
    let step = unused_step e (marked_in es) e.1 in
    elim (is_at (key_cmp k) e.0) as (λ b. cond b (Some e.1) (lookup (is_at (key_cmp k)) es) ≡ Some false → marked_in (cond b es (e ∷ remove_entry (is_at (key_cmp k)) es)) ≡ marked_in (e ∷ es)) [
      | true ↦ λ is. let unused : e.1 ≡ false = cc in step unused
      | false ↦ λ is. same_with e.0 (marked_in es) (marked_in (remove_entry (is_at (key_cmp k)) es)) e.1 (rest is)
    ] h

but_equal : (k x : Key) (us : List Key) (b : Bool) → key_cmp k x ≡ Equal → AreAbove k us → us ≡ users_but k (cond b (x ∷ us) us)
but_equal k x us true is above = sym (but_step k x us Equal is ∙ but-above k us above)
but_equal k x us false is above = sym (but-above k us above)

but_other : (k x : Key) (us vs : List Key) (r : Ordering) (b : Bool) → key_cmp k x ≡ r → is_eq r ≡ false → vs ≡ users_but k us → cond b (x ∷ vs) vs ≡ users_but k (cond b (x ∷ us) us)
but_other k x us vs r true is apart rest = ap (λ l. x ∷ l) rest ∙ sym (but_step k x us r is ∙ ap (λ c. cond (not c) (x ∷ users_but k us) (users_but k us)) apart)
but_other k x us vs r false is apart rest = rest

-- a place that is taken away
pub users-remove : (es : Kept) (k : Key) → HasRisingKeys key_cmp es → marked_in (remove_entry (is_at (key_cmp k)) es) ≡ users_but k (marked_in es)
users-remove [] k h = refl
users-remove (e ∷ es) k h =
    let rest = users-remove es k h.1 in
    let by : (r : Ordering) → key_cmp k e.0 ≡ r → marked_in (remove_entry (is_at (key_cmp k)) (e ∷ es)) ≡ users_but k (marked_in (e ∷ es)) =
    λ r. elim r as (λ r. key_cmp k e.0 ≡ r → marked_in (remove_entry (is_at (key_cmp k)) (e ∷ es)) ≡ users_but k (marked_in (e ∷ es))) [
      | Less ↦ λ is. ap marked_in (out_step key_cmp e es k Less is) ∙ but_other k e.0 (marked_in es) (marked_in (remove_entry (is_at (key_cmp k)) es)) Less e.1 is refl rest
      | Equal ↦ λ is. ap marked_in (out_step key_cmp e es k Equal is) ∙ but_equal k e.0 (marked_in es) e.1 is (users-above k es (above-equal k e.0 es is h.0))
      | Greater ↦ λ is. ap marked_in (out_step key_cmp e es k Greater is) ∙ but_other k e.0 (marked_in es) (marked_in (remove_entry (is_at (key_cmp k)) es)) Greater e.1 is refl rest
    ] in
    by (key_cmp k e.0) refl

set-remove : (test : Key → Bool) (es : Kept) → marked_in (set_value test es false) ≡ marked_in (remove_entry test es)
set-remove test [] = refl
set-remove test (e ∷ es) =
    let rest = set-remove test es in
    elim (test e.0) as (λ b. marked_in (cond b ((e.0, false) ∷ es) (e ∷ set_value test es false)) ≡ marked_in (cond b es (e ∷ remove_entry test es))) [
      | true ↦ refl
      | false ↦ same_with e.0 (marked_in (remove_entry test es)) (marked_in (set_value test es false)) e.1 rest
    ]

-- a place that stays without its user
pub users-set_false : (es : Kept) (k : Key) → HasRisingKeys key_cmp es → marked_in (set_value (is_at (key_cmp k)) es false) ≡ users_but k (marked_in es)
users-set_false es k h = set-remove (is_at (key_cmp k)) es ∙ users-remove es k h

-- a key that has no place is no user
pub users-but_none : (es : Kept) (k : Key) → HasRisingKeys key_cmp es → lookup (is_at (key_cmp k)) es ≡ None → marked_in es ≡ users_but k (marked_in es)
users-but_none es k h none = ap marked_in (sym (remove-none (is_at (key_cmp k)) es none)) ∙ users-remove es k h

-- ---- the first user is one of the keys

pub readable-first : (es : Kept) (k : Key) → AreReadable es → Some k ≡ first_of (marked_in es) → IsReadable k
readable-first [] k h e = absurd (none-some k (sym e))
readable-first (e ∷ es) k h first =
    let rest = readable-first es k h.1 in
    elim e.1 as (λ b. Some k ≡ first_of (cond b (e.0 ∷ marked_in es) (marked_in es)) → IsReadable k) [
      | true ↦ λ is. let same : e.0 ≡ k = cc in subst IsReadable same h.0
      | false ↦ λ is. rest is
    ] first

-- ---- places

place_stays_there : (b : Bool) (x y : Bool) (o p : Option Bool) → (is_some o ≡ true → is_some p ≡ true) → is_some (cond b (Some x) o) ≡ true → is_some (cond b (Some y) p) ≡ true
place_stays_there true x y o p f h = refl
place_stays_there false x y o p f h = f h

place_more : (b : Bool) (x : Bool) (o : Option Bool) → is_some o ≡ true → is_some (cond b (Some x) o) ≡ true
place_more true x o h = refl
place_more false x o h = h

-- a place that is put leaves the others
pub place-put : (es : Kept) (k : Key) (v : Bool) (q : Key) → HasKeptPlace es q → HasKeptPlace (insert_entry key_cmp es k v) q
place-put [] k v q h = place_more (is_at (key_cmp q) k) v None h
place-put (e ∷ es) k v q h =
    let rest = place-put es k v q in
    elim (key_cmp k e.0) as (λ r. HasKeptPlace (match_ordering r ((k, v) ∷ e ∷ es) ((e.0, v) ∷ es) (e ∷ insert_entry key_cmp es k v)) q) [
      | Less ↦ place_more (is_at (key_cmp q) k) v (lookup (is_at (key_cmp q)) (e ∷ es)) h
      | Equal ↦ place_stays_there (is_at (key_cmp q) e.0) e.1 v (lookup (is_at (key_cmp q)) es) (lookup (is_at (key_cmp q)) es) (λ x. x) h
      | Greater ↦ place_stays_there (is_at (key_cmp q) e.0) e.1 e.1 (lookup (is_at (key_cmp q)) es) (lookup (is_at (key_cmp q)) (insert_entry key_cmp es k v)) rest h
    ]

pub place-own : (es : Kept) (k : Key) (v : Bool) → HasKeptPlace (insert_entry key_cmp es k v) k
place-own es k v = ap is_some (lookup-insert_entry key_cmp key_total es k v k ∙ ap (λ b. cond b (Some v) (lookup (is_at (key_cmp k)) es)) (at_itself k k refl))

-- and so does one that is taken away
pub place-removed : (es : Kept) (k q : Key) → is_at (key_cmp k) q ≡ false → HasKeptPlace es q → HasKeptPlace (remove_entry (is_at (key_cmp k)) es) q
place-removed [] k q apart h = h
place-removed (e ∷ es) k q apart h =
    let rest = place-removed es k q apart in
    elim (is_at (key_cmp k) e.0) as (λ b. is_at (key_cmp k) e.0 ≡ b → HasKeptPlace (cond b es (e ∷ remove_entry (is_at (key_cmp k)) es)) q) [
      | true ↦ λ is. subst (λ b. is_some (cond b (Some e.1) (lookup (is_at (key_cmp q)) es)) ≡ true) (ap (is_at (key_cmp q)) (sym (tied_keys_same k e.0 is)) ∙ (eq_by_cmp_equiv key_total).symm q k ∙ apart) h
      | false ↦ λ is. place_stays_there (is_at (key_cmp q) e.0) e.1 e.1 (lookup (is_at (key_cmp q)) es) (lookup (is_at (key_cmp q)) (remove_entry (is_at (key_cmp k)) es)) rest h
    ] refl

-- a place that is set is there, and so are the others
pub place-set : (test : Key → Bool) (es : Kept) (v : Bool) (q : Key) → HasKeptPlace es q → HasKeptPlace (set_value test es v) q
place-set test [] v q h = h
place-set test (e ∷ es) v q h =
    let rest = place-set test es v q in
    elim (test e.0) as (λ b. HasKeptPlace (cond b ((e.0, v) ∷ es) (e ∷ set_value test es v)) q) [
      | true ↦ place_stays_there (is_at (key_cmp q) e.0) e.1 v (lookup (is_at (key_cmp q)) es) (lookup (is_at (key_cmp q)) es) (λ x. x) h
      | false ↦ place_stays_there (is_at (key_cmp q) e.0) e.1 e.1 (lookup (is_at (key_cmp q)) es) (lookup (is_at (key_cmp q)) (set_value test es v)) rest h
    ]
