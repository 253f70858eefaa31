-- the keys that an event wakes, and those that it leaves
use Rattle.std.proofs.Common.{◌≡◌, Bool, true, false, not, cond, ◌||◌, List, [], ◌∷◌, Option, None, Some, filter, refl, sym, ap, subst, ◌∙◌}
use Rattle.std.specs.declared.cmp.Ordering.TheVariants.{Less, Equal, Greater}
use Rattle.std.specs.Ordering.{ordering_reverse}
use Rattle.std.specs.BTreeMap.{is_at}
use Rattle.std.specs.List.{AllByRecursion, list_any}
use Rattle.std.specs.List.Sorted.{IsStrictlySortedBy}
use Rattle.std.specs.Map.{keys_of}
use Rattle.std.proofs.lemmas.Cmp.{eq_by_cmp_equiv, tied_itself}
use Rattle.std.proofs.lemmas.Map.Entries.{lookup-filter-values, option_filter}
use Rattle.std.proofs.lemmas.Map.Keys.{IsDistinct-from_sorted}
use Rattle.std.proofs.lemmas.Map.Lookups.{btree_set_from_contains}
use Rattle.swss_types.proofs.Maps.{lookup-insert_entry}
use Rattle.table_schema.specs.Fields.{HasRisingKeys}
use Rattle.table_schema.specs.Key.{key_cmp}
use Rattle.table_schema.specs.declared.key.Key.{Key}
use Rattle.table_schema.proofs.Keys.{key_exact, key_total}
use Rattle.table_schema.proofs.Places.{HasRisingKeys-insert_entry, out_step}
use Rattle.table_schema.proofs.RowLists.{HasRisingKeys-remove_entry}
use Rattle.switch_model.specs.declared.wait.Wait.{Wait}
use Rattle.sai_types.proofs.Maps.{lookup-removed}
use Rattle.retry_list.specs.declared.event.Event.{Event}
use Rattle.retry_list.specs.declared.index.Index.{Index}
use Rattle.retry_list.specs.Event.{event_cmp}
use Rattle.retry_list.specs.Index.{IsCleared, AreReasonsFiled, keys_about}
use Rattle.retry_list.specs.Reasons.{Forgot, Put, Reasons, RetryStep, Woke, event_of, is_about, is_woken, last_reason, left_asleep, reason_after, reason_at, reasons_after, reasons_after_all, unless_about, without_all, without_reason, woken_keys}
use Rattle.retry_list.proofs.Events.{event-turned, same_event}
use Rattle.retry_list.proofs.Keyed.{key-turned, lookup-above, sorted_from_rising}

-- what holds of each key holds of those that pass a test
each-filtered : (P : Key → Type 0) (test : Wait → Bool) (r : Reasons) → AllByRecursion (λ x. P x.0) r → AllByRecursion (λ x. P x.0) (filter (λ x. test x.1) r)
each-filtered P test [] h = tt
each-filtered P test (x ∷ xs) h =
    let rest = each-filtered P test xs h.1 in
    elim (test x.1) as (λ b. AllByRecursion (λ x. P x.0) (cond b (x ∷ filter (λ x. test x.1) xs) (filter (λ x. test x.1) xs))) [ true ↦ (h.0, rest) | false ↦ rest ]

HasRisingKeys-filtered : (test : Wait → Bool) (r : Reasons) → HasRisingKeys key_cmp r → HasRisingKeys key_cmp (filter (λ x. test x.1) r)
HasRisingKeys-filtered test [] h = tt
HasRisingKeys-filtered test (x ∷ xs) h =
    let above = each-filtered (λ k. key_cmp x.0 k ≡ Less) test xs h.0 in
    let rest = HasRisingKeys-filtered test xs h.1 in
    elim (test x.1) as (λ b. HasRisingKeys key_cmp (cond b (x ∷ filter (λ x. test x.1) xs) (filter (λ x. test x.1) xs))) [ true ↦ (above, rest) | false ↦ rest ]

pub woken_keys-rise : (e : Event) (r : Reasons) → HasRisingKeys key_cmp r → IsStrictlySortedBy key_cmp (woken_keys e r)
woken_keys-rise e r h = sorted_from_rising (filter (λ x. is_about e x.1) r) (HasRisingKeys-filtered (is_about e) r h)

-- a key is among those that an event wakes where its reason is about it
woken_step : (b a : Bool) (e : Event) (q : Key) (x : Key × Wait) (xs : Reasons) → is_about e x.1 ≡ b → is_at (key_cmp q) x.0 ≡ a → AllByRecursion (λ y. key_cmp x.0 y.0 ≡ Less) xs → list_any (is_at (key_cmp q)) (woken_keys e xs) ≡ is_woken e (reason_at xs q)
    → list_any (is_at (key_cmp q)) (keys_of (cond b (x ∷ filter (λ x. is_about e x.1) xs) (filter (λ x. is_about e x.1) xs))) ≡ is_woken e (cond a (Some x.1) (reason_at xs q))
woken_step true true e q x xs about at h rest = ap (λ b. b || list_any (is_at (key_cmp q)) (woken_keys e xs)) at ∙ sym about
woken_step true false e q x xs about at h rest = ap (λ b. b || list_any (is_at (key_cmp q)) (woken_keys e xs)) at ∙ rest
woken_step false true e q x xs about at h rest = rest ∙ ap (is_woken e) (lookup-above x.0 q xs at h) ∙ sym about
woken_step false false e q x xs about at h rest = rest

any-woken_keys : (e : Event) (q : Key) (r : Reasons) → HasRisingKeys key_cmp r → list_any (is_at (key_cmp q)) (woken_keys e r) ≡ is_woken e (reason_at r q)
any-woken_keys e q [] h = refl
any-woken_keys e q (x ∷ xs) h = woken_step (is_about e x.1) (is_at (key_cmp q) x.0) e q x xs refl refl h.0 (any-woken_keys e q xs h.1)

-- the keys that are filed under an event are those that it wakes
keys_about-woken : (r : Reasons) (index : Index) (e : Event) → HasRisingKeys key_cmp r → AreReasonsFiled r index → IsStrictlySortedBy key_cmp (keys_about index e) → keys_about index e ≡ woken_keys e r
keys_about-woken r index e h indexed sorted =
    btree_set_from_contains key_total (record { keys = keys_about index e }) (record { keys = woken_keys e r }) sorted (woken_keys-rise e r h) (λ q. indexed e q ∙ sym (any-woken_keys e q r h)) key_exact

-- keys above an entry are taken out behind it
without_all-past : (x : Key × Wait) (xs : Reasons) (ks : List Key) → AllByRecursion (λ k. key_cmp x.0 k ≡ Less) ks → without_all (x ∷ xs) ks ≡ x ∷ without_all xs ks
without_all-past x xs [] h = refl
without_all-past x xs (k ∷ ks) h = ap (λ r. without_all r ks) (out_step key_cmp x xs k Greater (key_total.antisymm k x.0 ∙ ap ordering_reverse h.0)) ∙ without_all-past x (without_reason xs k) ks h.1

each-key : (P : Key → Type 0) (r : Reasons) → AllByRecursion (λ x. P x.0) r → AllByRecursion P (keys_of r)
each-key P [] h = tt
each-key P (x ∷ xs) h = (h.0, each-key P xs h.1)

-- without the keys that an event wakes, those are left that it does not
asleep_step : (b : Bool) (e : Event) (x : Key × Wait) (xs : Reasons) → AllByRecursion (λ y. key_cmp x.0 y.0 ≡ Less) xs → without_all xs (woken_keys e xs) ≡ left_asleep e xs
    → without_all (x ∷ xs) (keys_of (cond b (x ∷ filter (λ x. is_about e x.1) xs) (filter (λ x. is_about e x.1) xs))) ≡ cond (not b) (x ∷ left_asleep e xs) (left_asleep e xs)
asleep_step true e x xs h rest = ap (λ r. without_all r (woken_keys e xs)) (out_step key_cmp x xs x.0 Equal (tied_itself key_total x.0)) ∙ rest
asleep_step false e x xs h rest =
    without_all-past x xs (woken_keys e xs) (each-key (λ k. key_cmp x.0 k ≡ Less) (filter (λ x. is_about e x.1) xs) (each-filtered (λ k. key_cmp x.0 k ≡ Less) (is_about e) xs h)) ∙ ap (λ l. x ∷ l) rest

without_all-woken_keys : (e : Event) (r : Reasons) → HasRisingKeys key_cmp r → without_all r (woken_keys e r) ≡ left_asleep e r
without_all-woken_keys e [] h = refl
without_all-woken_keys e (x ∷ xs) h = asleep_step (is_about e x.1) e x xs h.0 (without_all-woken_keys e xs h.1)

-- keys that were filed under an event, and what is left without them
pub are_woken : (r : Reasons) (index : Index) (e : Event) (ks : List Key) → HasRisingKeys key_cmp r → AreReasonsFiled r index → ks ≡ keys_about index e → IsStrictlySortedBy key_cmp ks → ks ≡ woken_keys e r
are_woken r index e ks h indexed about sorted = about ∙ keys_about-woken r index e h indexed (subst (IsStrictlySortedBy key_cmp) about sorted)

pub are_left : (r after : Reasons) (e : Event) (ks : List Key) → HasRisingKeys key_cmp r → ks ≡ woken_keys e r → after ≡ without_all r ks → after ≡ left_asleep e r
are_left r after e ks h woken left = left ∙ ap (without_all r) woken ∙ without_all-woken_keys e r h

-- what an event leaves of a key's reason
unless_filtered : (e : Event) (o : Option Wait) → option_filter (λ w. not (is_about e w)) o ≡ unless_about e o
unless_filtered e None = refl
unless_filtered e (Some w) = elim (is_about e w) as (λ b. cond (not b) (Some w) None ≡ cond b None (Some w)) [ true ↦ refl | false ↦ refl ]

reason_at-left_asleep : (e : Event) (r : Reasons) (q : Key) → HasRisingKeys key_cmp r → reason_at (left_asleep e r) q ≡ unless_about e (reason_at r q)
reason_at-left_asleep e r q h =
    lookup-filter-values (eq_by_cmp_equiv key_total) (λ w. not (is_about e w)) q r (IsDistinct-from_sorted key_cmp (keys_of r) (sorted_from_rising r h)) ∙ unless_filtered e (reason_at r q)

-- what is woken of what an event left
woken_unless : (e event : Event) (o : Option Wait) → is_woken e (unless_about event o) ≡ cond (is_at (event_cmp event) e) false (is_woken e o)
woken_unless e event None = elim (is_at (event_cmp event) e) as (λ b. false ≡ cond b false false) [ true ↦ refl | false ↦ refl ]
woken_unless e event (Some w) =
    let of = event_of w in
    let by : (a b c : Bool) → is_about event w ≡ a → is_at (event_cmp event) e ≡ b → is_about e w ≡ c → is_woken e (cond a None (Some w)) ≡ cond b false c =
    λ a b c. elim a as (λ a. is_about event w ≡ a → is_at (event_cmp event) e ≡ b → is_about e w ≡ c → is_woken e (cond a None (Some w)) ≡ cond b false c) [
      | true ↦ λ about. elim b as (λ b. is_at (event_cmp event) e ≡ b → is_about e w ≡ c → false ≡ cond b false c) [
        | true ↦ λ same also. refl
        | false ↦ λ apart also.
            let now : is_about e w ≡ is_at (event_cmp e) event = ap (is_at (event_cmp e)) (sym (same_event event of about)) in
            sym apart ∙ event-turned event e ∙ sym now ∙ also
      ]
      | false ↦ λ about. elim b as (λ b. is_at (event_cmp event) e ≡ b → is_about e w ≡ c → is_about e w ≡ cond b false c) [
        | true ↦ λ same also. ap (λ f. is_about f w) (sym (same_event event e same)) ∙ about
        | false ↦ λ apart also. also
      ]
    ] in
    by (is_about event w) (is_at (event_cmp event) e) (is_about e w) refl refl refl

-- after the keys of an event were taken out, those that are left stay filed
pub IsIndexed-woken : (r after : Reasons) (old new : Index) (event : Event) → HasRisingKeys key_cmp r → AreReasonsFiled r old → IsCleared old new event → after ≡ left_asleep event r → AreReasonsFiled after new
IsIndexed-woken r after old new event h indexed cleared left e q =
    cleared e q
    ∙ ap (λ x. cond (is_at (event_cmp event) e) false x) (indexed e q)
    ∙ sym (woken_unless e event (reason_at r q))
    ∙ ap (is_woken e) (sym (reason_at-left_asleep event r q h))
    ∙ ap (λ r. is_woken e (reason_at r q)) (sym left)

-- the list after a step, by key
pub reasons_after-rise : (r : Reasons) (step : RetryStep) → HasRisingKeys key_cmp r → HasRisingKeys key_cmp (reasons_after r step)
reasons_after-rise r (Put k w) h = HasRisingKeys-insert_entry key_cmp key_total r k w h
reasons_after-rise r (Forgot k) h = HasRisingKeys-remove_entry key_cmp (is_at (key_cmp k)) r h
reasons_after-rise r (Woke e) h = HasRisingKeys-filtered (λ w. not (is_about e w)) r h

reason_at-after : (r : Reasons) (step : RetryStep) (q : Key) → HasRisingKeys key_cmp r → reason_at (reasons_after r step) q ≡ reason_after q (reason_at r q) step
reason_at-after r (Put k w) q h = lookup-insert_entry key_cmp key_total r k w q
reason_at-after r (Forgot k) q h = lookup-removed key_cmp key_total r k q (sorted_from_rising r h) ∙ ap (λ b. cond b None (reason_at r q)) (key-turned k q)
reason_at-after r (Woke e) q h = reason_at-left_asleep e r q h

reason_at-after_all : (r : Reasons) (steps : List RetryStep) (q : Key) → HasRisingKeys key_cmp r → reason_at (reasons_after_all r steps) q ≡ last_reason q (reason_at r q) steps
reason_at-after_all r [] q h = refl
reason_at-after_all r (step ∷ steps) q h = reason_at-after_all (reasons_after r step) steps q (reasons_after-rise r step h) ∙ ap (λ o. last_reason q o steps) (reason_at-after r step q h)

pub reason_at-last : (steps : List RetryStep) (q : Key) → reason_at (reasons_after_all [] steps) q ≡ last_reason q None steps
reason_at-last steps q = reason_at-after_all [] steps q tt
