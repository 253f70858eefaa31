-- the keys of rows and of others
use Rattle.std.proofs.Common.{◌≡◌, Bool, true, false, cond, ◌||◌, List, [], ◌∷◌, ◌++◌, Option, None, Some, is_some, option_and_then, refl, sym, ap, ap₂, ◌∙◌}
use Rattle.std.specs.declared.cmp.Ordering.{Ordering}
use Rattle.std.specs.declared.cmp.Ordering.TheVariants.{Less, Equal, Greater}
use Rattle.std.specs.Ordering.{is_eq, match_ordering, ordering_reverse}
use Rattle.std.specs.BTreeMap.{is_at}
use Rattle.std.specs.BTreeSet.{insert_key}
use Rattle.std.specs.Cmp.{eq_by_cmp_equiv}
use Rattle.std.specs.List.{AllByRecursion, flat_map, fold, list_any}
use Rattle.std.specs.Map.{keys_of, lookup}
use Rattle.std.proofs.lemmas.Cmp.{tied_itself}
use Rattle.swss_types.proofs.Truths.{or_none, or_swap}
use Rattle.table_schema.specs.Fields.{HasRisingKeys, Pairs}
use Rattle.table_schema.specs.Key.{key_cmp}
use Rattle.table_schema.specs.Rows.{Rows, fields_at}
use Rattle.table_schema.specs.declared.key.Key.{Key}
use Rattle.table_schema.specs.declared.write.Write.{Write}
use Rattle.table_schema.proofs.Keys.{key_exact, key_total}
use Rattle.app_restart.specs.Difference.{difference}
use Rattle.app_restart.specs.Entry.{CacheEntries, differences_of, kept_in, row_since, sent_in, with_choice}
use Rattle.app_restart.specs.Reconcile.{differences, keys_of_both}
use Rattle.app_restart.specs.declared.entry.Entry.{Entry}
use Rattle.app_restart.proofs.Chosen.{above-chosen, any-keys_of, lookup-chosen}

-- ---- which keys they are

or_twice : (a b : Bool) → (a || b) ≡ (a || (a || b))
or_twice true b = refl
or_twice false b = refl

-- with a key more
pub any-insert_key : (test : Key → Bool) (ks : List Key) (k : Key) → list_any test (insert_key key_cmp ks k) ≡ (test k || list_any test ks)
any-insert_key test [] k = refl
any-insert_key test (x ∷ xs) k =
    let more = any-insert_key test xs k in
    let all = list_any test (x ∷ xs) in
    let by : (r : Ordering) → key_cmp k x ≡ r → list_any test (match_ordering r (k ∷ x ∷ xs) (x ∷ xs) (x ∷ insert_key key_cmp xs k)) ≡ (test k || all) =
    λ r. elim r as (λ r. key_cmp k x ≡ r → list_any test (match_ordering r (k ∷ x ∷ xs) (x ∷ xs) (x ∷ insert_key key_cmp xs k)) ≡ (test k || all)) [
      | Less ↦ λ is. refl
      | Equal ↦ λ is. or_twice (test x) (list_any test xs) ∙ ap (λ b. b || all) (ap test (sym (key_exact k x is)))
      | Greater ↦ λ is. ap (λ b. test x || b) more ∙ or_swap (test x) (test k) (list_any test xs)
    ] in
    by (key_cmp k x) refl

or_regrouped : (a b c : Bool) → ((a || b) || c) ≡ (b || (a || c))
or_regrouped true true c = refl
or_regrouped true false c = refl
or_regrouped false b c = refl

any-fold : (test : Key → Bool) (ks js : List Key) → list_any test (fold (insert_key key_cmp) ks js) ≡ (list_any test ks || list_any test js)
any-fold test ks [] = sym (or_none (list_any test ks))
any-fold test ks (j ∷ js) =
    any-fold test (insert_key key_cmp ks j) js ∙ ap (λ b. b || list_any test js) (any-insert_key test ks j) ∙ or_regrouped (test j) (list_any test ks) (list_any test js)

-- exactly the keys that have a row in one of them
pub any-keys_of_both : (q : Key) (old new : Rows) → list_any (is_at (key_cmp q)) (keys_of_both old new) ≡ (is_some (fields_at old q) || is_some (fields_at new q))
any-keys_of_both q old new =
    any-fold (is_at (key_cmp q)) (keys_of old) (keys_of new)
    ∙ ap₂ (λ (a b : Bool). a || b) (any-keys_of (is_at (key_cmp q)) old) (any-keys_of (is_at (key_cmp q)) new)

-- ---- their differences are those of the entries

module _ {X : Type 0} where
  above-keys : (k : Key) (es : List (Key × X)) → AllByRecursion (λ e. key_cmp k e.0 ≡ Less) es → AllByRecursion (λ j. key_cmp k j ≡ Less) (keys_of es)
  above-keys k [] h = tt
  above-keys k (e ∷ es) h = (h.0, above-keys k es h.1)

insert_step : (k x : Key) (xs : List Key) (r : Ordering) → key_cmp k x ≡ r → insert_key key_cmp (x ∷ xs) k ≡ match_ordering r (k ∷ x ∷ xs) (x ∷ xs) (x ∷ insert_key key_cmp xs k)
insert_step k x xs r h = ap (λ o. match_ordering o (k ∷ x ∷ xs) (x ∷ xs) (x ∷ insert_key key_cmp xs k)) h

turned : (a b : Key) (r : Ordering) → key_cmp a b ≡ r → key_cmp b a ≡ ordering_reverse r
turned a b r h = key_total.antisymm b a ∙ ap ordering_reverse h

-- a key below all others stays in front
fold-past : (k : Key) (ks js : List Key) → AllByRecursion (λ j. key_cmp k j ≡ Less) js → fold (insert_key key_cmp) (k ∷ ks) js ≡ k ∷ fold (insert_key key_cmp) ks js
fold-past k ks [] h = refl
fold-past k ks (j ∷ js) h =
    ap (λ l. fold (insert_key key_cmp) l js) (insert_step j k ks Greater (turned k j Less h.0)) ∙ fold-past k (insert_key key_cmp ks j) js h.1

front : (k : Key) (ks : List Key) → AllByRecursion (λ j. key_cmp k j ≡ Less) ks → insert_key key_cmp ks k ≡ k ∷ ks
front k [] h = refl
front k (j ∷ ks) h = insert_step k j ks Less h.0

abbrev with_key : {A B : Type 0} → Key → Option A → Option B → List Key → List Key
with_key k None None ks = ks
with_key k None (Some b) ks = k ∷ ks
with_key k (Some a) None ks = k ∷ ks
with_key k (Some a) (Some b) ks = k ∷ ks

-- a key below all others, of which one or the other has a row
both-choice : (k : Key) (o n : Option Pairs) (old new : Rows) → AllByRecursion (λ e. key_cmp k e.0 ≡ Less) old → AllByRecursion (λ e. key_cmp k e.0 ≡ Less) new → keys_of_both (with_choice k o old) (with_choice k n new) ≡ with_key k o n (keys_of_both old new)
both-choice k None None old new a b = refl
both-choice k (Some v) None old new a b = fold-past k (keys_of old) (keys_of new) (above-keys k new b)
both-choice k None (Some w) old new a b =
    ap (λ l. fold (insert_key key_cmp) l (keys_of new)) (front k (keys_of old) (above-keys k old a)) ∙ fold-past k (keys_of old) (keys_of new) (above-keys k new b)
both-choice k (Some v) (Some w) old new a b =
    ap (λ l. fold (insert_key key_cmp) l (keys_of new)) (insert_step k k (keys_of old) Equal (tied_itself key_total k)) ∙ fold-past k (keys_of old) (keys_of new) (above-keys k new b)

flat-with_key : (d : Key → List Write) (k : Key) (o n : Option Pairs) (ks : List Key) → difference k o n ≡ d k → flat_map d (with_key k o n ks) ≡ difference k o n ++ flat_map d ks
flat-with_key d k None None ks same = refl
flat-with_key d k None (Some w) ks same = ap (λ l. l ++ flat_map d ks) (sym same)
flat-with_key d k (Some v) None ks same = ap (λ l. l ++ flat_map d ks) (sym same)
flat-with_key d k (Some v) (Some w) ks same = ap (λ l. l ++ flat_map d ks) (sym same)

abbrev IsDifference : (Key → List Write) → Key × Entry → Type 0
IsDifference d e = difference e.0 e.1.kept (row_since e.1.since) ≡ d e.0

flat-both : (d : Key → List Write) (es : CacheEntries) → HasRisingKeys key_cmp es → AllByRecursion (IsDifference d) es → differences_of es ≡ flat_map d (keys_of_both (kept_in es) (sent_in es))
flat-both d [] h same = refl
flat-both d (e ∷ es) h same =
    let old = e.1.kept in
    let new = row_since e.1.since in
    ap (λ l. difference e.0 old new ++ l) (flat-both d es h.1 same.1)
    ∙ sym (flat-with_key d e.0 old new (keys_of_both (kept_in es) (sent_in es)) same.0)
    ∙ ap (flat_map d) (sym (both-choice e.0 old new (kept_in es) (sent_in es) (above-chosen (λ e. e.kept) e.0 es h.0) (above-chosen (λ e. row_since e.since) e.0 es h.0)))

abbrev IsFound : CacheEntries → Key × Entry → Type 0
IsFound es e = lookup (is_at (key_cmp e.0)) es ≡ Some e.1

found-past : (e : Key × Entry) (es fs : CacheEntries) → AllByRecursion (λ y. key_cmp e.0 y.0 ≡ Less) fs → AllByRecursion (IsFound es) fs → AllByRecursion (IsFound (e ∷ es)) fs
found-past e es [] above h = tt
found-past e es (y ∷ ys) above h =
    let not : is_at (key_cmp y.0) e.0 ≡ false = ap is_eq (turned e.0 y.0 Less above.0) in
    (ap (λ b. cond b (Some e.1) (lookup (is_at (key_cmp y.0)) es)) not ∙ h.0, found-past e es ys above.1 h.1)

-- each entry is the one that is found of its key
found-each : (es : CacheEntries) → HasRisingKeys key_cmp es → AllByRecursion (IsFound es) es
found-each [] h = tt
found-each (e ∷ es) h =
    (ap (λ b. cond b (Some e.1) (lookup (is_at (key_cmp e.0)) es)) ((eq_by_cmp_equiv key_total).refl e.0), found-past e es es h.0 (found-each es h.1))

each-difference : (es fs : CacheEntries) → HasRisingKeys key_cmp es → AllByRecursion (IsFound es) fs → AllByRecursion (IsDifference (λ k. difference k (fields_at (kept_in es) k) (fields_at (sent_in es) k))) fs
each-difference es [] h found = tt
each-difference es (e ∷ fs) h found =
    let kept : Entry → Option Pairs = λ e. e.kept in
    let sent : Entry → Option Pairs = λ e. row_since e.since in
    let old = lookup-chosen kept e.0 es h ∙ ap (option_and_then kept) found.0 in
    let new = lookup-chosen sent e.0 es h ∙ ap (option_and_then sent) found.0 in
    (ap₂ (difference e.0) (sym old) (sym new), each-difference es fs h found.1)

pub differences_of-entries : (es : CacheEntries) → HasRisingKeys key_cmp es → differences_of es ≡ differences (kept_in es) (sent_in es)
differences_of-entries es h = flat-both (λ k. difference k (fields_at (kept_in es) k) (fields_at (sent_in es) k)) es h (each-difference es es h (found-each es h))
