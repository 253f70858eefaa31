-- what is filed under events, after a change of one event's keys
use Rattle.std.proofs.Common.{◌≡◌, Bool, true, false, cond, ◌&&◌, IsTrue, List, [], ◌∷◌, length, Option, None, Some, Result, Ok, Err, IfOk, IsOkAnd, OnOk, refl, sym, ap, subst, ◌∙◌}
use Rattle.std.specs.Bool.{OnTrue}
use Rattle.std.specs.BTreeMap.{insert_entry, is_at}
use Rattle.std.specs.BTreeSet.{BTreeSet}
use Rattle.std.specs.Cmp.{eq_by_cmp_equiv}
use Rattle.std.specs.List.{list_any}
use Rattle.std.specs.List.Sorted.{IsStrictlySortedBy}
use Rattle.std.specs.Map.{keys_of, lookup, remove_entry, set_value}
use Rattle.std.specs.Option.{IsSome}
use Rattle.std.proofs.lemmas.Map.{lookup-set_value}
use Rattle.swss_types.proofs.Maps.{lookup-insert_entry}
use Rattle.sai_types.proofs.Maps.{lookup-removed}
use Rattle.table_schema.specs.Key.{key_cmp}
use Rattle.table_schema.specs.declared.key.Key.{Key}
use Rattle.retry_list.specs.declared.event.Event.{Event}
use Rattle.retry_list.specs.Event.{event_cmp}
use Rattle.retry_list.specs.Index.{keys_in}
use Rattle.retry_list.proofs.Events.{event-itself, event-turned, event_total, same_event}

abbrev pub has : Option (BTreeSet Key) → Key → Bool
has o q = list_any (is_at (key_cmp q)) (keys_in o)

pub anyway_ok : {T E P : Type 0} (r : Result T E) → P → OnOk r P
anyway_ok (Ok x) p = p
anyway_ok (Err x) p = tt

pub if_ok : {T E : Type 0} (P Q : T → Type 0) (r : Result T E) → ((x : T) → P x → Q x) → IsOkAnd r P → IfOk r Q
if_ok P Q (Ok x) f h = f x h
if_ok P Q (Err x) f h = tt

abbrev Filed : Type 0
Filed = List (Event × BTreeSet Key)

abbrev pub under : Filed → Event → Option (BTreeSet Key)
under es e = lookup (is_at (event_cmp e)) es

-- one event has other keys, or none, and the others keep theirs
abbrev pub Sets : Filed → Filed → Event → Option (BTreeSet Key) → Type 0
Sets es new event o = (e : Event) → under new e ≡ cond (is_at (event_cmp event) e) o (under es e)

module _ (es new : Filed) (event : Event) where
  pub sets-inserted : (keys : BTreeSet Key) → new ≡ insert_entry event_cmp es event keys → Sets es new event (Some keys)
  sets-inserted keys is e = ap (λ m. under m e) is ∙ lookup-insert_entry event_cmp event_total es event keys e ∙ ap (λ b. cond b (Some keys) (under es e)) (event-turned e event)

  pub sets-set : (keys was : BTreeSet Key) → under es event ≡ Some was → new ≡ set_value (is_at (event_cmp event)) es keys → Sets es new event (Some keys)
  sets-set keys was at is e = ap (λ m. under m e) is ∙ lookup-set_value (eq_by_cmp_equiv event_total) (is_at (event_cmp event)) (λ x y same. (eq_by_cmp_equiv event_total).congr event x y same) e keys es (subst IsSome (sym at) refl)

  pub sets-removed : IsStrictlySortedBy event_cmp (keys_of es) → new ≡ remove_entry (is_at (event_cmp event)) es → Sets es new event None
  sets-removed rising is e = ap (λ m. under m e) is ∙ lookup-removed event_cmp event_total es event e rising

-- what stands under an event, under one that compares equal
at_event : (es : Filed) (event e : Event) (o : Option (BTreeSet Key)) → under es event ≡ o → is_at (event_cmp event) e ≡ true → under es e ≡ o
at_event es event e o at here = ap (under es) (sym (same_event event e here)) ∙ at

has_after_set : (b c v : Bool) (old new : Option (BTreeSet Key)) (keys : BTreeSet Key) (q : Key) (was : Bool) → new ≡ cond b (Some keys) old → list_any (is_at (key_cmp q)) keys.keys ≡ cond c v was → (b ≡ true → has old q ≡ was) → has new q ≡ cond (b && c) v (has old q)
has_after_set true c v old new keys q was set is there = ap (λ o. has o q) set ∙ is ∙ ap (λ x. cond c v x) (sym (there refl))
has_after_set false c v old new keys q was set is there = ap (λ o. has o q) set

-- an event's keys have one more, or one less
pub has-changed : (es new : Filed) (event e : Event) (q : Key) (c v : Bool) (keys : BTreeSet Key) (o : Option (BTreeSet Key)) → under es event ≡ o → Sets es new event (Some keys) → list_any (is_at (key_cmp q)) keys.keys ≡ cond c v (has o q) → has (under new e) q ≡ cond (is_at (event_cmp event) e && c) v (has (under es e) q)
has-changed es new event e q c v keys o at set is =
    has_after_set (is_at (event_cmp event) e) c v (under es e) (under new e) keys q (has o q) (set e) is (λ here. ap (λ o. has o q) (at_event es event e o at here))

-- an event's keys are as they were
unchanged : (b : Bool) (old new : Option (BTreeSet Key)) (keys : BTreeSet Key) (q : Key) → new ≡ cond b (Some keys) old → (b ≡ true → list_any (is_at (key_cmp q)) keys.keys ≡ has old q) → has new q ≡ has old q
unchanged true old new keys q set is = ap (λ o. has o q) set ∙ is refl
unchanged false old new keys q set is = ap (λ o. has o q) set

pub has-unchanged : (es new : Filed) (event e : Event) (q : Key) (keys was : BTreeSet Key) → under es event ≡ Some was → Sets es new event (Some keys) → keys.keys ≡ was.keys → has (under new e) q ≡ has (under es e) q
has-unchanged es new event e q keys was at set same =
    unchanged (is_at (event_cmp event) e) (under es e) (under new e) keys q (set e) (λ here. ap (list_any (is_at (key_cmp q))) same ∙ ap (λ o. has o q) (sym (at_event es event e (Some was) at here)))

none_there : (b c : Bool) (old : Option (BTreeSet Key)) (q : Key) → (b ≡ true → old ≡ None) → has old q ≡ cond (b && c) false (has old q)
none_there true true old q none = ap (λ o. has o q) (none refl)
none_there true false old q none = refl
none_there false c old q none = refl

-- nothing was there to take out
pub has-none : (es : Filed) (event e : Event) (q : Key) (c : Bool) → under es event ≡ None → has (under es e) q ≡ cond (is_at (event_cmp event) e && c) false (has (under es e) q)
has-none es event e q c at = none_there (is_at (event_cmp event) e) c (under es e) q (at_event es event e None at)

-- an event without keys left
emptied : (b : Bool) (mid new : Option (BTreeSet Key)) (q : Key) → new ≡ cond b None mid → (b ≡ true → has mid q ≡ false) → has new q ≡ has mid q
emptied true mid new q set none = ap (λ o. has o q) set ∙ sym (none refl)
emptied false mid new q set none = ap (λ o. has o q) set

pub has-emptied : (mid new : Filed) (event e : Event) (q : Key) → Sets mid new event None → has (under mid event) q ≡ false → has (under new e) q ≡ has (under mid e) q
has-emptied mid new event e q set none = emptied (is_at (event_cmp event) e) (under mid e) (under new e) q (set e) (λ here. ap (λ x. has (under mid x) q) (sym (same_event event e here)) ∙ none)

no_key : (ks : List Key) (q : Key) → length ks ≡ 0 → list_any (is_at (key_cmp q)) ks ≡ false
no_key [] q none = refl
no_key (k ∷ ks) q none = absurd cc

-- an event whose last key was taken out has none
pub has-no_key : (b : Bool) (es new : Filed) (event : Event) (keys : BTreeSet Key) → Sets es new event (Some keys) → (IsTrue b → length keys.keys ≡ 0) → OnTrue b ((q : Key) → has (under new event) q ≡ false)
has-no_key true es new event keys set none = λ q. ap (λ o. has o q) (set event ∙ ap (λ b. cond b (Some keys) (under es event)) (event-itself event)) ∙ no_key keys.keys q (none refl)
has-no_key false es new event keys set none = tt

-- the keys of the event were taken out
cleared : (b : Bool) (old new : Option (BTreeSet Key)) (q : Key) → new ≡ cond b None old → has new q ≡ cond b false (has old q)
cleared true old new q set = ap (λ o. has o q) set
cleared false old new q set = ap (λ o. has o q) set

pub has-cleared : (es new : Filed) (event e : Event) (q : Key) → Sets es new event None → has (under new e) q ≡ cond (is_at (event_cmp event) e) false (has (under es e) q)
has-cleared es new event e q set = cleared (is_at (event_cmp event) e) (under es e) (under new e) q (set e)
