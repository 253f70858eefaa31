-- that keys stay filed under the events that their reasons are about
use Rattle.std.proofs.Common.{◌≡◌, Bool, true, false, cond, ◌&&◌, not, Option, None, Some, refl, sym, ap, ap₂, subst, ◌∙◌}
use Rattle.std.specs.BTreeMap.{is_at}
use Rattle.swss_types.proofs.Maps.{lookup-insert_entry}
use Rattle.table_schema.specs.Key.{key_cmp}
use Rattle.table_schema.specs.declared.key.Key.{Key}
use Rattle.table_schema.proofs.Keys.{key_total, tied_keys_same}
use Rattle.switch_model.specs.declared.wait.Wait.{Wait}
use Rattle.retry_list.specs.declared.event.Event.{Event}
use Rattle.retry_list.specs.declared.index.Index.{Index}
use Rattle.retry_list.specs.Event.{event_cmp}
use Rattle.retry_list.specs.Index.{IsFiledAs, IsFiledUnless, AreReasonsFiled, IsSameIndex}
use Rattle.retry_list.specs.Reasons.{Reasons, event_of, is_about, is_woken, reason_at, with_reason}
use Rattle.retry_list.proofs.Events.{event-turned, same_event}
use Rattle.retry_list.proofs.Keyed.{key-turned}

woken-cond : (c : Bool) (e : Event) (w : Wait) (o : Option Wait) → is_woken e (cond c (Some w) o) ≡ cond c (is_about e w) (is_woken e o)
woken-cond true e w o = refl
woken-cond false e w o = refl

-- what an event wakes once a key has another reason
woken-put : (r : Reasons) (k : Key) (w : Wait) (e : Event) (q : Key) → is_woken e (reason_at (with_reason r k w) q) ≡ cond (is_at (key_cmp k) q) (is_at (event_cmp (event_of w)) e) (is_woken e (reason_at r q))
woken-put r k w e q =
    ap (is_woken e) (lookup-insert_entry key_cmp key_total r k w q) ∙ woken-cond (is_at (key_cmp q) k) e w (reason_at r q)
    ∙ ap₂ (λ c b. cond c b (is_woken e (reason_at r q))) (key-turned q k) (event-turned e (event_of w))

-- what was woken of a key with this reason
was_of : (r : Reasons) (k q : Key) (e : Event) (o : Option Wait) → reason_at r k ≡ o → is_at (key_cmp k) q ≡ true → is_woken e (reason_at r q) ≡ is_woken e o
was_of r k q e o at here = ap (λ x. is_woken e (reason_at r x)) (sym (tied_keys_same k q here)) ∙ ap (is_woken e) at

filed_new : (b c was : Bool) → (c ≡ true → was ≡ false) → cond (b && c) true was ≡ cond c b was
filed_new true true was h = refl
filed_new true false was h = refl
filed_new false true was h = h refl
filed_new false false was h = refl

-- a key that had no reason
pub IsIndexed-new : (r : Reasons) (old new : Index) (k : Key) (w : Wait) → AreReasonsFiled r old → IsFiledAs true old new (event_of w) k → reason_at r k ≡ None → AreReasonsFiled (with_reason r k w) new
IsIndexed-new r old new k w indexed filed none e q =
    filed e q
    ∙ ap (λ x. cond (is_at (event_cmp (event_of w)) e && is_at (key_cmp k) q) true x) (indexed e q)
    ∙ filed_new (is_at (event_cmp (event_of w)) e) (is_at (key_cmp k) q) (is_woken e (reason_at r q)) (was_of r k q e None none)
    ∙ sym (woken-put r k w e q)

and_false : (x : Bool) → (x && false) ≡ false
and_false true = refl
and_false false = refl

moved_here : (b d x was : Bool) → was ≡ d → (b ≡ true → d ≡ true → x ≡ true) → (x ≡ true → d ≡ true → b ≡ true) → cond (not x && (d && true)) false (cond (b && true) true was) ≡ b
moved_here true true true was h f g = refl
moved_here true true false was h f g = let no = f refl refl in absurd cc
moved_here true false true was h f g = refl
moved_here true false false was h f g = refl
moved_here false true true was h f g = let no = g refl refl in absurd cc
moved_here false true false was h f g = refl
moved_here false false true was h f g = h
moved_here false false false was h f g = h

moved_anywhere : (b c d x was : Bool) → (c ≡ true → was ≡ d) → (b ≡ true → d ≡ true → x ≡ true) → (x ≡ true → d ≡ true → b ≡ true) → cond (not x && (d && c)) false (cond (b && c) true was) ≡ cond c b was
moved_anywhere b true d x was h f g = moved_here b d x was (h refl) f g
moved_anywhere b false d x was h f g = ap₂ (λ (y z : Bool). cond y false (cond z true was)) (ap (λ y. not x && y) (and_false d) ∙ and_false (not x)) (and_false b)

-- a key that had another reason, or the same
pub IsIndexed-moved : (r : Reasons) (old mid new : Index) (k : Key) (w before : Wait) → AreReasonsFiled r old → IsFiledAs true old mid (event_of w) k → IsFiledUnless mid new (event_of before) (event_of w) k → reason_at r k ≡ Some before → AreReasonsFiled (with_reason r k w) new
IsIndexed-moved r old mid new k w before indexed filed unfiled there e q =
    let from = event_of before in
    let to = event_of w in
    let same : is_at (event_cmp to) e ≡ true → is_at (event_cmp from) e ≡ true → is_at (event_cmp from) to ≡ true = λ a b. ap (is_at (event_cmp from)) (same_event to e a) ∙ b in
    let back : is_at (event_cmp from) to ≡ true → is_at (event_cmp from) e ≡ true → is_at (event_cmp to) e ≡ true = λ a b. ap (λ f. is_at (event_cmp f) e) (sym (same_event from to a)) ∙ b in
    unfiled e q
    ∙ ap (λ x. cond (not (is_at (event_cmp from) to) && (is_at (event_cmp from) e && is_at (key_cmp k) q)) false x) (filed e q ∙ ap (λ x. cond (is_at (event_cmp to) e && is_at (key_cmp k) q) true x) (indexed e q))
    ∙ moved_anywhere (is_at (event_cmp to) e) (is_at (key_cmp k) q) (is_at (event_cmp from) e) (is_at (event_cmp from) to) (is_woken e (reason_at r q)) (λ here. was_of r k q e (Some before) there here ∙ event-turned e from) same back
    ∙ sym (woken-put r k w e q)

filed_and_back : (b c was : Bool) → (b ≡ true → c ≡ true → was ≡ false) → cond (b && c) false (cond (b && c) true was) ≡ was
filed_and_back true true was h = sym (h refl refl)
filed_and_back true false was h = refl
filed_and_back false c was h = refl

-- a key that did not get a reason about an event, since memory was refused
pub IsIndexed-restored : (r after : Reasons) (old mid new : Index) (event : Event) (k : Key) → AreReasonsFiled r old → IsFiledAs true old mid event k → IsFiledAs false mid new event k → is_woken event (reason_at r k) ≡ false → after ≡ r → AreReasonsFiled after new
IsIndexed-restored r after old mid new event k indexed filed unfiled none same =
    subst (λ r. AreReasonsFiled r new) (sym same) (λ e q.
    unfiled e q
    ∙ ap (λ x. cond (is_at (event_cmp event) e && is_at (key_cmp k) q) false x) (filed e q ∙ ap (λ x. cond (is_at (event_cmp event) e && is_at (key_cmp k) q) true x) (indexed e q))
    ∙ filed_and_back (is_at (event_cmp event) e) (is_at (key_cmp k) q) (is_woken e (reason_at r q)) (λ same here. ap (λ f. is_woken f (reason_at r q)) (sym (same_event event e same)) ∙ was_of r k q event (reason_at r k) refl here ∙ none))

-- nothing changed
pub IsIndexed-same : (r after : Reasons) (old new : Index) → AreReasonsFiled r old → IsSameIndex old new → after ≡ r → AreReasonsFiled after new
IsIndexed-same r after old new indexed kept same = subst (λ r. AreReasonsFiled r new) (sym same) (λ e q. kept e q ∙ indexed e q)

forgotten : (b c was : Bool) → (c ≡ true → was ≡ b) → cond (b && c) false was ≡ cond c false was
forgotten true true was h = refl
forgotten true false was h = refl
forgotten false true was h = h refl
forgotten false false was h = refl

woken-none : (c : Bool) (e : Event) (o : Option Wait) → is_woken e (cond c None o) ≡ cond c false (is_woken e o)
woken-none true e o = refl
woken-none false e o = refl

-- a key that is forgotten
pub IsIndexed-forgotten : (r after : Reasons) (old new : Index) (k : Key) (w : Wait) → AreReasonsFiled r old → IsFiledAs false old new (event_of w) k → reason_at r k ≡ Some w → ((q : Key) → reason_at after q ≡ cond (is_at (key_cmp k) q) None (reason_at r q)) → AreReasonsFiled after new
IsIndexed-forgotten r after old new k w indexed unfiled there gone e q =
    unfiled e q
    ∙ ap (λ x. cond (is_at (event_cmp (event_of w)) e && is_at (key_cmp k) q) false x) (indexed e q)
    ∙ forgotten (is_at (event_cmp (event_of w)) e) (is_at (key_cmp k) q) (is_woken e (reason_at r q)) (λ here. was_of r k q e (Some w) there here ∙ event-turned e (event_of w))
    ∙ sym (woken-none (is_at (key_cmp k) q) e (reason_at r q))
    ∙ ap (is_woken e) (sym (gone q))
