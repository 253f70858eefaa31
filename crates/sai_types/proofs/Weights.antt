-- hops with their weights, put one after another
use Rattle.std.proofs.Common.{◌≡◌, ◌⊎◌, inl, inr, ℕ, Bool, true, false, cond, ◌==◌, is_lt, List, [], ◌∷◌, ◌++◌, ◌<◌, length, get_or, set, take, drop, drop-cons, suc, Ordering, nat_cmp, nat_lt, if◌then◌else◌, refl, sym, ap, ◌∙◌}
use Rattle.std.specs.BTreeSet.{insert_key}
use Rattle.std.specs.Cmp.{IsTotalOrder, on_total, tied_itself}
use Rattle.std.specs.List.{AllByRecursion}
use Rattle.std.specs.List.Sorted.{IsStrictlySortedBy}
use Rattle.std.specs.Ordering.{match_ordering, ordering_reverse, ordering_then}
use Rattle.std.specs.declared.cmp.Ordering.TheVariants.{Less, Equal, Greater}
use Rattle.std.proofs.lemmas.Bool.{false≢true}
use Rattle.std.proofs.lemmas.List.{set_split}
use Rattle.swss_types.proofs.Risings.{all_above}
use Rattle.sai_types.specs.declared.hop.Hop.{Hop}
use Rattle.sai_types.specs.declared.weight.WHop.{WHop}
use Rattle.sai_types.specs.Alike.{IsIn}
use Rattle.sai_types.specs.Hop.{AreRisingHops, by_hop, heavier, hop_cmp, put_hop, whop_cmp}
use Rattle.sai_types.proofs.Rising.{hop_exact, hop_total, same-rising, whop_exact, whop_total}

-- a hop with the greater of two weights
abbrev pub raised : WHop → WHop → WHop
raised x w = record { hop = x.hop; weight = heavier x.weight w.weight }

-- a hop before, in or behind the head of a list
abbrev pub placed : Ordering → WHop → List WHop → WHop → List WHop
placed r x xs w = match_ordering r (w ∷ x ∷ xs) (raised x w ∷ xs) (x ∷ put_hop xs w)

-- ---- the hops rise

by_total : IsTotalOrder by_hop
by_total = on_total (λ (w : WHop). w.hop) hop_total

-- the hop of each item stands behind that of this one
abbrev AreAbove : WHop → List WHop → Type 0
AreAbove a ws = AllByRecursion (λ w. by_hop a w ≡ Less) ws

above_step : (a x w : WHop) (xs : List WHop) (r : Ordering) → by_hop a w ≡ Less → AreAbove a (x ∷ xs) → AreAbove a (put_hop xs w) → AreAbove a (placed r x xs w)
above_step a x w xs Less less h rest = (less, h)
above_step a x w xs Equal less h rest = h
above_step a x w xs Greater less h rest = (h.0, rest)

above_put : (a w : WHop) (xs : List WHop) → by_hop a w ≡ Less → AreAbove a xs → AreAbove a (put_hop xs w)
above_put a w [] less h = (less, tt)
above_put a w (x ∷ xs) less h = above_step a x w xs (hop_cmp w.hop x.hop) less h (above_put a w xs less h.1)

put_step : (x w : WHop) (xs : List WHop) (r : Ordering) → hop_cmp w.hop x.hop ≡ r → AreRisingHops (x ∷ xs) → AreRisingHops (put_hop xs w) → AreRisingHops (placed r x xs w)
unfolding IsStrictlySortedBy
put_step x w xs Less e h rest = ((e, all_above by_hop by_total w x xs e h.0), h)
put_step x w xs Equal e h rest = h
put_step x w xs Greater e h rest = (above_put x w xs (by_total.antisymm x w ∙ ap ordering_reverse e) h.0, rest)

-- hops that rise do so with one more
pub rising-put : (w : WHop) (xs : List WHop) → AreRisingHops xs → AreRisingHops (put_hop xs w)
unfolding IsStrictlySortedBy
rising-put w [] h = (tt, tt)
rising-put w (x ∷ xs) h = put_step x w xs (hop_cmp w.hop x.hop) refl h (rising-put w xs h.1)

pub rising-none : AreRisingHops []
unfolding IsStrictlySortedBy
rising-none = tt

-- where an item of a list has the hop, that item is raised
pub put-at : (xs : List WHop) (at : ℕ) (w d : WHop) → at < length xs → hop_cmp w.hop (get_or xs at d).hop ≡ Equal → take at xs ++ put_hop (drop at xs) w ≡ set xs at (raised (get_or xs at d) w)
put-at xs at w d lt e =
    ap (λ l. take at xs ++ put_hop l w) (drop-cons xs at d lt)
    ∙ ap (λ r. take at xs ++ placed r (get_or xs at d) (drop (suc at) xs) w) e
    ∙ sym (set_split xs at (raised (get_or xs at d) w) lt)

less_by : (b c : Bool) → is_lt (cond b Less (cond c Equal Greater)) ≡ true → b ≡ true
less_by true c h = refl
less_by false true h = absurd (false≢true h)
less_by false false h = absurd (false≢true h)

-- and where its weight was less, it has the new one
pub put-heavier : (xs : List WHop) (at : ℕ) (w d : WHop) → at < length xs → hop_cmp w.hop (get_or xs at d).hop ≡ Equal → is_lt (nat_cmp (get_or xs at d).weight w.weight) ≡ true → take at xs ++ put_hop (drop at xs) w ≡ set xs at (record { hop = (get_or xs at d).hop; weight = w.weight })
put-heavier xs at w d lt e less =
    let x = get_or xs at d in
    let weighed : Bool → WHop = λ b. record { hop = x.hop; weight = if b then w.weight else x.weight } in
    put-at xs at w d lt e ∙ ap (λ b. set xs at (weighed b)) (less_by (nat_lt x.weight w.weight) (x.weight == w.weight) less)

-- ---- what is among them

back_step : (x w y : WHop) (xs : List WHop) (r : Ordering) → hop_cmp w.hop x.hop ≡ r → (IsIn y (put_hop xs w) → (y.hop ≡ w.hop) ⊎ IsIn y xs) → IsIn y (placed r x xs w) → (y.hop ≡ w.hop) ⊎ IsIn y (x ∷ xs)
back_step x w y xs Less e rest (inl is) = inl (ap (λ (z : WHop). z.hop) is)
back_step x w y xs Less e rest (inr h) = inr h
back_step x w y xs Equal e rest (inl is) = inl (ap (λ (z : WHop). z.hop) is ∙ sym (hop_exact w.hop x.hop e))
back_step x w y xs Equal e rest (inr h) = inr (inr h)
back_step x w y xs Greater e rest (inl is) = inr (inl is)
back_step x w y xs Greater e rest (inr h) = more (rest h)
  where
    more : (y.hop ≡ w.hop) ⊎ IsIn y xs → (y.hop ≡ w.hop) ⊎ IsIn y (x ∷ xs)
    more (inl is) = inl is
    more (inr g) = inr (inr g)

-- a hop among them is the one that was put, or was there
pub put-back : (w y : WHop) (xs : List WHop) → IsIn y (put_hop xs w) → (y.hop ≡ w.hop) ⊎ IsIn y xs
put-back w y [] (inl is) = inl (ap (λ (z : WHop). z.hop) is)
put-back w y [] (inr h) = elim h [ ]
put-back w y (x ∷ xs) h = back_step x w y xs (hop_cmp w.hop x.hop) refl (put-back w y xs) h

-- the hop of an item is among these
abbrev pub HasHop : List WHop → Hop → Type 0
HasHop xs hop = (y : WHop) × IsIn y xs × (y.hop ≡ hop)

hop_step : (x w : WHop) (xs : List WHop) (r : Ordering) → hop_cmp w.hop x.hop ≡ r → HasHop (put_hop xs w) w.hop → HasHop (placed r x xs w) w.hop
hop_step x w xs Less e rest = (w, inl refl, refl)
hop_step x w xs Equal e rest = (raised x w, inl refl, sym (hop_exact w.hop x.hop e))
hop_step x w xs Greater e rest = (rest.0, inr rest.1, rest.2)

-- the hop that was put is among them, with some weight
pub put-hop : (w : WHop) (xs : List WHop) → (y : WHop) × IsIn y (put_hop xs w) × (y.hop ≡ w.hop)
put-hop w [] = (w, inl refl, refl)
put-hop w (x ∷ xs) = hop_step x w xs (hop_cmp w.hop x.hop) refl (put-hop w xs)

kept_step : (x w y : WHop) (xs : List WHop) (r : Ordering) → IsIn y (x ∷ xs) → (IsIn y xs → HasHop (put_hop xs w) y.hop) → HasHop (placed r x xs w) y.hop
kept_step x w y xs Less h rest = (y, inr h, refl)
kept_step x w y xs Equal (inl is) rest = (raised x w, inl refl, ap (λ (z : WHop). z.hop) (sym is))
kept_step x w y xs Equal (inr h) rest = (y, inr h, refl)
kept_step x w y xs Greater (inl is) rest = (y, inl is, refl)
kept_step x w y xs Greater (inr h) rest = let kept = rest h in (kept.0, inr kept.1, kept.2)

-- and each that was there, with some weight
pub put-kept_hop : (w y : WHop) (xs : List WHop) → IsIn y xs → (z : WHop) × IsIn z (put_hop xs w) × (z.hop ≡ y.hop)
put-kept_hop w y [] h = elim h [ ]
put-kept_hop w y (x ∷ xs) h = kept_step x w y xs (hop_cmp w.hop x.hop) h (put-kept_hop w y xs)

-- ---- a hop that is not there with another weight

less_weighed : (a b : WHop) → hop_cmp a.hop b.hop ≡ Less → whop_cmp a b ≡ Less
less_weighed a b h = ap (λ r. ordering_then r (nat_cmp a.weight b.weight)) h

greater_weighed : (a b : WHop) → hop_cmp a.hop b.hop ≡ Greater → whop_cmp a b ≡ Greater
greater_weighed a b h = ap (λ r. ordering_then r (nat_cmp a.weight b.weight)) h

either_way : (b : Bool) (n : ℕ) → (if b then n else n) ≡ n
either_way true n = refl
either_way false n = refl

raised-same : (x w : WHop) → x ≡ w → raised x w ≡ x
raised-same x w same =
    let heavy : heavier x.weight w.weight ≡ x.weight = ap (λ (z : WHop). heavier x.weight z.weight) (sym same) ∙ either_way (nat_lt x.weight x.weight) x.weight in
    let made : ℕ → WHop = λ n. record { hop = x.hop; weight = n } in
    ap made heavy

fresh_step : (x w : WHop) (xs : List WHop) (r : Ordering) → hop_cmp w.hop x.hop ≡ r → (x.hop ≡ w.hop → x ≡ w) → put_hop xs w ≡ insert_key whop_cmp xs w → placed r x xs w ≡ match_ordering (whop_cmp w x) (w ∷ x ∷ xs) (x ∷ xs) (x ∷ insert_key whop_cmp xs w)
fresh_step x w xs Less e fresh rest = sym (ap (λ o. match_ordering o (w ∷ x ∷ xs) (x ∷ xs) (x ∷ insert_key whop_cmp xs w)) (less_weighed w x e))
fresh_step x w xs Equal e fresh rest =
    let same = fresh (sym (hop_exact w.hop x.hop e)) in
    let tied : whop_cmp w x ≡ Equal = ap (whop_cmp w) same ∙ tied_itself whop_total w in
    ap (λ z. z ∷ xs) (raised-same x w same) ∙ sym (ap (λ o. match_ordering o (w ∷ x ∷ xs) (x ∷ xs) (x ∷ insert_key whop_cmp xs w)) tied)
fresh_step x w xs Greater e fresh rest = ap (λ zs. x ∷ zs) rest ∙ sym (ap (λ o. match_ordering o (w ∷ x ∷ xs) (x ∷ xs) (x ∷ insert_key whop_cmp xs w)) (greater_weighed w x e))

-- where a hop is there with its own weight at most, it is put as in any list that rises
pub put-fresh : (w : WHop) (xs : List WHop) → ((y : WHop) → IsIn y xs → y.hop ≡ w.hop → y ≡ w) → put_hop xs w ≡ insert_key whop_cmp xs w
put-fresh w [] fresh = refl
put-fresh w (x ∷ xs) fresh = fresh_step x w xs (hop_cmp w.hop x.hop) refl (fresh x (inl refl)) (put-fresh w xs (λ y h. fresh y (inr h)))

-- ---- each hop stands once

above_in : (x y : WHop) (xs : List WHop) → AreAbove x xs → IsIn y xs → by_hop x y ≡ Less
above_in x y [] a h = elim h [ ]
above_in x y (z ∷ zs) a (inl is) = ap (by_hop x) is ∙ a.0
above_in x y (z ∷ zs) a (inr h) = above_in x y zs a.1 h

not_less : (a b : Hop) → a ≡ b → hop_cmp a b ≡ Less → ⊥
not_less a b is less =
    let tied : hop_cmp a b ≡ Equal = ap (λ z. hop_cmp z b) is ∙ tied_itself hop_total b in
    absurd cc

-- of two with one hop both are one
pub one-weight : (xs : List WHop) (x y : WHop) → AreRisingHops xs → IsIn x xs → IsIn y xs → x.hop ≡ y.hop → x ≡ y
unfolding IsStrictlySortedBy
one-weight [] x y own i j e = elim i [ ]
one-weight (z ∷ zs) x y own (inl a) (inl b) e = a ∙ sym b
one-weight (z ∷ zs) x y own (inl a) (inr j) e = absurd (not_less z.hop y.hop (ap (λ (w : WHop). w.hop) (sym a) ∙ e) (above_in z y zs own.0 j))
one-weight (z ∷ zs) x y own (inr i) (inl b) e = absurd (not_less z.hop x.hop (ap (λ (w : WHop). w.hop) (sym b) ∙ sym e) (above_in z x zs own.0 i))
one-weight (z ∷ zs) x y own (inr i) (inr j) e = one-weight zs x y own.1 i j e

all_weighed : (x : WHop) (xs : List WHop) → AreAbove x xs → AllByRecursion (λ y. whop_cmp x y ≡ Less) xs
all_weighed x [] h = tt
all_weighed x (y ∷ ys) h = (less_weighed x y h.0, all_weighed x ys h.1)

-- they rise with their weights too
pub rising-weighed : (xs : List WHop) → AreRisingHops xs → IsStrictlySortedBy whop_cmp xs
unfolding IsStrictlySortedBy
rising-weighed [] h = tt
rising-weighed (x ∷ xs) h = (all_weighed x xs h.0, rising-weighed xs h.1)

-- rising hops with the same items are equal
pub same-hops : (xs ys : List WHop) → AreRisingHops xs → AreRisingHops ys → ((z : WHop) → IsIn z xs → IsIn z ys) → ((z : WHop) → IsIn z ys → IsIn z xs) → xs ≡ ys
same-hops xs ys s t f g = same-rising whop_cmp whop_total whop_exact xs ys (rising-weighed xs s) (rising-weighed ys t) f g
