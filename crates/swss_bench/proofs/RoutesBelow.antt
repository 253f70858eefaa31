-- routes that come and go in a view
use Rattle.std.proofs.Common.{◌≡◌, ℕ, ◌<◌, ◌+◌, ◌*◌, ◌&&◌, Bool, true, false, [], ◌∷◌, ◌++◌, None, ap, ap₂, sym, refl, ◌∙◌, ◌||◌, cond, arith, true≢false}
use Rattle.std.proofs.lemmas.Bool.{lt-leb, ne_eqb}
use Rattle.std.proofs.lemmas.List.Sums.{sum_by-cons}
use Rattle.std.specs.BTreeMap.{insert_entry, is_at}
use Rattle.std.specs.List.{list_any}
use Rattle.std.specs.Map.{values_of}
use Rattle.std.specs.Ordering.{match_ordering}
use Rattle.std.specs.declared.cmp.Ordering.{Ordering}
use Rattle.std.specs.declared.cmp.Ordering.TheVariants.{Less, Equal, Greater}
use Rattle.sai_types.specs.declared.answer.ChipAnswer.TheVariants.{Exists, Full}
use Rattle.sai_types.specs.declared.ids.Rid.{Rid}
use Rattle.sai_types.specs.declared.ids.Vid.{Vid}
use Rattle.sai_types.specs.declared.kind.Kind.TheVariants as kind
use Rattle.sai_types.specs.declared.body.Body.{Body}
use Rattle.sai_types.specs.declared.body.Body.TheVariants as body
use Rattle.sai_types.specs.declared.body.Call.TheVariants as call
use Rattle.sai_types.specs.declared.body.Entry.{Entry}
use Rattle.sai_types.specs.declared.body.To.TheVariants as to
use Rattle.sai_types.specs.Objects.{Objects, entry_cmp, is_of, used}
use Rattle.sai_types.specs.Refusal.{clash, first_refusal, same_prefix}
use Rattle.chip_layout.specs.Renamed.{body_renamed}
use Rattle.asic_view.specs.View.{IsLegalOn, ViewObjects, after_create, as_chip, as_rid, used_of, vid_cmp, without_object}
use Rattle.asic_view.specs.declared.object.ViewObject.{ViewObject}
use Rattle.swss_bench.specs.Churn.{AreRoutesBelow, IsRouteBelow, nth_prefix}

-- a route of the next number is one more
more : (n : ℕ) (xs : ViewObjects) → AreRoutesBelow n xs → AreRoutesBelow (n + 1) xs
more n [] h = tt
more n (x ∷ xs) h =
    let j = h.0.0 in
    let below = h.0.1 in
    ((j, omega (arith, below), h.0.2), more n xs h.1)

push : (n : ℕ) (xs : ViewObjects) (x : Vid × ViewObject) → AreRoutesBelow n xs → IsRouteBelow n x → AreRoutesBelow n (xs ++ x ∷ [])
push n [] x h is = (is, tt)
push n (y ∷ ys) x h is = (h.0, push n ys x h.1 is)

pub made : (n : ℕ) (os : ViewObjects) (v : Vid) → AreRoutesBelow n os → AreRoutesBelow (n + 1) (after_create os v (body.Route None (nth_prefix n) to.Drop))
made n os v h = push (n + 1) os _ (more n os h) (n, omega arith, refl)

either : (n : ℕ) (x : Vid × ViewObject) (xs : ViewObjects) (v : Vid) → AreRoutesBelow n (x ∷ xs) → AreRoutesBelow n (without_object xs v) → (b : Bool) → AreRoutesBelow n (cond b xs (x ∷ without_object xs v))
either n x xs v h rest true = h.1
either n x xs v h rest false = (h.0, rest)

pub taken : (n : ℕ) (os : ViewObjects) (v : Vid) → AreRoutesBelow n os → AreRoutesBelow n (without_object os v)
taken n [] v h = tt
taken n (x ∷ xs) v h = either n x xs v h (taken n xs v h.1) (is_at (vid_cmp v) x.0)

-- none is there where none is counted
pub none_left : (n : ℕ) (os : ViewObjects) → AreRoutesBelow n os → used_of os kind.Route ≡ 0 → AreRoutesBelow 0 os
none_left n [] h none = tt
none_left n (x ∷ xs) h none =
    let one = ap (λ b. cond (is_of kind.Route b) 1 0 + used_of xs kind.Route) (sym h.0.2) ∙ sym (sum_by-cons (λ o. cond (is_of kind.Route o.body) 1 0) x.1 (values_of xs)) ∙ none in
    absurd (omega (arith, one))

-- no other route has the prefix of this one
apart : (n j : ℕ) → j < n → same_prefix (nth_prefix n) (nth_prefix j) ≡ false
apart n j below =
    let differ : (184549376 + n * 256 ≡ 184549376 + j * 256) → ⊥ = λ same. omega (arith, below, same) in
    ap (λ b. (true && b) && true) (ne_eqb (184549376 + n * 256) (184549376 + j * 256) differ)

or-false-left : (a b : Bool) → a || b ≡ false → a ≡ false
or-false-left true b none = none
or-false-left false b none = refl

or-false-right : (a b : Bool) → a || b ≡ false → b ≡ false
or-false-right true b none = absurd (true≢false none)
or-false-right false b none = none

put_any : (p : Entry Rid × Body Rid → Bool) (o : Entry Rid × Body Rid) (os : Objects) (e : Entry Rid) (b : Body Rid) → ((d : Entry Rid) → p (d, b) ≡ false) → p o ≡ false → list_any p os ≡ false → list_any p (insert_entry entry_cmp os e b) ≡ false → (r : Ordering) → list_any p (match_ordering r ((e, b) ∷ o ∷ os) ((o.0, b) ∷ os) (o ∷ insert_entry entry_cmp os e b)) ≡ false
put_any p o os e b new first rest put Less = ap₂ (λ x y. x || y) (new e) (ap₂ (λ x y. x || y) first rest)
put_any p o os e b new first rest put Equal = ap₂ (λ x y. x || y) (new o.0) rest
put_any p o os e b new first rest put Greater = ap₂ (λ x y. x || y) first put

not_any : (p : Entry Rid × Body Rid → Bool) (es : Objects) (e : Entry Rid) (b : Body Rid) → ((d : Entry Rid) → p (d, b) ≡ false) → list_any p es ≡ false → list_any p (insert_entry entry_cmp es e b) ≡ false
not_any p [] e b new none = ap (λ x. x || false) (new e)
not_any p (o ∷ os) e b new none =
    let first = or-false-left (p o) (list_any p os) none in
    let rest = or-false-right (p o) (list_any p os) none in
    put_any p o os e b new first rest (not_any p os e b new rest) (entry_cmp e o.0)

free : (n : ℕ) (os : ViewObjects) → AreRoutesBelow n os → list_any (λ o. clash (body.Route None (nth_prefix n) to.Drop) o.1) (as_chip os) ≡ false
free n [] h = refl
free n (x ∷ xs) h =
    not_any (λ o. clash (body.Route None (nth_prefix n) to.Drop) o.1) (as_chip xs) _ (body_renamed as_rid x.1.body)
    (λ d. ap (λ b. clash (body.Route None (nth_prefix n) to.Drop) (body_renamed as_rid b)) h.0.2 ∙ apart n h.0.0 h.0.1) (free n xs h.1)

-- so it can be made
pub legal : (n : ℕ) (os : ViewObjects) → AreRoutesBelow n os → IsLegalOn os (call.Create (body.Route None (nth_prefix n) to.Drop))
legal n os h =
    let many = used (as_chip os) kind.Route in
    record {
      capacities = 0 ∷ 0 ∷ 0 ∷ 0 ∷ 0 ∷ 0 ∷ 0 ∷ 0 ∷ 0 ∷ 0 ∷ 0 ∷ (many + 1) ∷ [];
      legal = ap₂ (λ a f. first_refusal a Exists (first_refusal f Full None)) (free n os h) (lt-leb (many + 1) many (omega arith));
    }
