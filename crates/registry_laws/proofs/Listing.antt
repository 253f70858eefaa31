-- lists: what is first of them, least, or listed
use Rattle.std.proofs.Common.{◌≡◌, ◌⊎◌, ◌∷◌, ◌<◌, ◌≤◌, ◌∙◌, inl, inr, ℕ, ◌==◌, min, Bool, true, false, not, cond, List, [], map, Option, None, Some, refl, sym, ap, subst, arith, is_le}
use Rattle.std.proofs.lemmas.Bool.{cases_order, eqb-true}
use Rattle.std.proofs.lemmas.Cmp.{tied_itself}
use Rattle.std.proofs.lemmas.Option.{same_Some}
use Rattle.std.specs.List.{AllByRecursion}
use Rattle.std.specs.List.Sorted.{IsStrictlySortedBy}
use Rattle.std.specs.declared.cmp.Ordering.TheVariants.{Less, Equal}
use Rattle.table_schema.specs.Key.{key_cmp}
use Rattle.table_schema.specs.declared.key.Key.{Key}
use Rattle.table_schema.proofs.Keys.{key_total}
use Rattle.sai_types.specs.Alike.{IsIn}
use Rattle.switch_model.specs.declared.wait.Wait.{Wait}
use Rattle.ref_counts.specs.declared.pin.Pin.{Pin}
use Rattle.ref_counts.specs.Registered.{first_of, least_worker, lesser, pins_but}
use Rattle.row_layout.specs.Operations.{Change}
use Rattle.orch_flight.specs.Needing.{least_of, or_else}

-- ---- options

pub not_some : {X Y : Type 0} (x : X) → None ≡ Some x → Y
not_some x h = absurd cc

pub never_none : {X Y : Type 0} (x : X) → Some x ≡ None → Y
never_none x h = absurd cc

pub else_some : (a b : Option Wait) (w : Wait) → or_else a b ≡ Some w → (a ≡ Some w) ⊎ ((a ≡ None) × (b ≡ Some w))
else_some None b w h = inr (refl, h)
else_some (Some v) b w h = inl h

pub else_none : (a b : Option Wait) → or_else a b ≡ None → (a ≡ None) × (b ≡ None)
else_none None b h = (refl, h)
else_none (Some v) b h = never_none v h

-- ---- lists

pub map_in : {X Y : Type 0} (f : X → Y) (y : Y) (xs : List X) → IsIn y (map f xs) → (x : X) × IsIn x xs × (y ≡ f x)
map_in f y [] h = elim h [ ]
map_in f y (x ∷ xs) (inl e) = (x, inl refl, e)
map_in f y (x ∷ xs) (inr h) = let m = map_in f y xs h in (m.0, inr m.1, m.2)

-- ---- the first

pub first_listed_in : {X : Type 0} (xs : List X) (x : X) → first_of xs ≡ Some x → IsIn x xs
first_listed_in [] x h = not_some x h
first_listed_in (y ∷ ys) x h = inl (same_Some x y (sym h))

pub first_none : {X : Type 0} (xs : List X) (x : X) → first_of xs ≡ None → IsIn x xs → ⊥
first_none [] x h g = g
first_none (y ∷ ys) x h g = never_none y h

pub all_at : (P : Key → Type 0) (ks : List Key) (k : Key) → AllByRecursion P ks → IsIn k ks → P k
all_at P [] k h g = elim g [ ]
all_at P (q ∷ ks) k h (inl e) = subst P (sym e) h.0
all_at P (q ∷ ks) k h (inr g) = all_at P ks k h.1 g

-- of keys that rise the first is the least
pub first_least : (ks : List Key) (x k : Key) → IsStrictlySortedBy key_cmp ks → first_of ks ≡ Some x → IsIn k ks → is_le (key_cmp x k) ≡ true
unfolding IsStrictlySortedBy
first_least [] x k rising h g = elim g [ ]
first_least (y ∷ ys) x k rising h (inl e) = ap is_le (subst (λ z. key_cmp z k ≡ Equal) (e ∙ same_Some y x h) (tied_itself key_total k))
first_least (y ∷ ys) x k rising h (inr g) = ap is_le (subst (λ z. key_cmp z k ≡ Less) (same_Some y x h) (all_at (λ q. key_cmp y q ≡ Less) ys k rising.0 g))

-- ---- the least

lesser_is : (n : ℕ) (o : Option ℕ) (v : ℕ) → Some (lesser n o) ≡ Some v → (v ≡ n × ((m : ℕ) → o ≡ Some m → n ≤ m)) ⊎ (o ≡ Some v × v ≤ n)
lesser_is n None v h = inl (sym (same_Some n v h), λ m e. not_some m e)
lesser_is n (Some m) v h = by (same_Some (min n m) v h) (cases_order n m)
  where
    by : min n m ≡ v → (n ≡ m) ⊎ ((n < m) ⊎ (m < n)) → (v ≡ n × ((k : ℕ) → Some m ≡ Some k → n ≤ k)) ⊎ (Some m ≡ Some v × v ≤ n)
    by e (inl same) = inl (omega (arith, e, same), λ k g. let x = same_Some m k g in omega (arith, same, x))
    by e (inr (inl less)) = inl (omega (arith, e, less), λ k g. let x = same_Some m k g in omega (arith, less, x))
    by e (inr (inr more)) = let x : m ≡ v = omega (arith, e, more) in inr (ap Some x, omega (arith, x, more))

pub least_none : (ns : List ℕ) (u : ℕ) → least_of ns ≡ None → IsIn u ns → ⊥
least_none [] u h g = g
least_none (n ∷ ns) u h g = never_none (lesser n (least_of ns)) h

pub least_in : (ns : List ℕ) (v : ℕ) → least_of ns ≡ Some v → IsIn v ns
least_in [] v h = not_some v h
least_in (n ∷ ns) v h = by (λ e. least_in ns v e) (lesser_is n (least_of ns) v h)
  where
    by : (least_of ns ≡ Some v → IsIn v ns) → (v ≡ n × ((m : ℕ) → least_of ns ≡ Some m → n ≤ m)) ⊎ (least_of ns ≡ Some v × v ≤ n) → IsIn v (n ∷ ns)
    by rest (inl x) = inl x.0
    by rest (inr x) = inr (rest x.0)

pub least_below : (ns : List ℕ) (v u : ℕ) → least_of ns ≡ Some v → IsIn u ns → v ≤ u
least_below [] v u h g = elim g [ ]
least_below (n ∷ ns) v u h g = by (λ m e i. least_below ns m u e i) (lesser_is n (least_of ns) v h) g
  where
    some : IsIn u ns → (o : Option ℕ) → least_of ns ≡ o → (m : ℕ) × (least_of ns ≡ Some m)
    some i None e = absurd (least_none ns u e i)
    some i (Some m) e = (m, e)

    by : ((m : ℕ) → least_of ns ≡ Some m → IsIn u ns → m ≤ u) → (v ≡ n × ((m : ℕ) → least_of ns ≡ Some m → n ≤ m)) ⊎ (least_of ns ≡ Some v × v ≤ n) → IsIn u (n ∷ ns) → v ≤ u
    by rest (inl x) (inl e) = let a = x.0 in omega (arith, a, e)
    by rest (inl x) (inr i) = let a = x.0 in let s = some i (least_of ns) refl in let b = x.1 s.0 s.1 in let d = rest s.0 s.1 i in omega (arith, a, b, d)
    by rest (inr x) (inl e) = let b = x.1 in omega (arith, b, e)
    by rest (inr x) (inr i) = rest v x.0 i

pub least_worker_is : (ps : List Pin) → least_worker ps ≡ least_of (map (λ p. p.worker) ps)
least_worker_is [] = refl
least_worker_is (p ∷ ps) = ap (λ o. Some (lesser p.worker o)) (least_worker_is ps)

-- the pins of other workers
pub but_in : (w : ℕ) (p : Pin) (ps : List Pin) → IsIn p (pins_but w ps) → IsIn p ps
but_in w p [] h = elim h [ ]
but_in w p (q ∷ qs) h = by (λ g. but_in w p qs g) (q.worker == w) h
  where
    by : (IsIn p (pins_but w qs) → IsIn p qs) → (b : Bool) → IsIn p (cond (not b) (q ∷ pins_but w qs) (pins_but w qs)) → IsIn p (q ∷ qs)
    by rest true g = inr (rest g)
    by rest false (inl e) = inl e
    by rest false (inr g) = inr (rest g)

pub in_but : (w : ℕ) (p : Pin) (ps : List Pin) → (p.worker ≡ w → ⊥) → IsIn p ps → IsIn p (pins_but w ps)
in_but w p [] other h = elim h [ ]
in_but w p (q ∷ qs) other h = by (λ g. in_but w p qs other g) (q.worker == w) refl h
  where
    by : (IsIn p qs → IsIn p (pins_but w qs)) → (b : Bool) → (q.worker == w) ≡ b → IsIn p (q ∷ qs) → IsIn p (cond (not b) (q ∷ pins_but w qs) (pins_but w qs))
    by rest true e (inl is) = absurd (other (ap (λ (z : Pin). z.worker) is ∙ eqb-true q.worker w e))
    by rest true e (inr g) = rest g
    by rest false e (inl is) = inl is
    by rest false e (inr g) = inr (rest g)

pub none_rising : IsStrictlySortedBy key_cmp []
unfolding IsStrictlySortedBy
none_rising = tt

pub some_of_due : {X : Type 0} (c : Change) (cs : List Change) → c ∷ cs ≡ [] → X
some_of_due c cs h = absurd cc
