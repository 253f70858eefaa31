-- hops put in their places: what the list holds, in whatever order they came
use Rattle.std.proofs.Common.{◌≡◌, ◌≤◌, ℕ, ◌+◌, nat_lt, Bool, true, false, ◌||◌, ◌&&◌, List, [], ◌∷◌, Option, None, Some, Ordering, refl, sym, ap, ap₂, ◌∙◌, subst, arith}
use Rattle.std.specs.declared.cmp.Ordering.TheVariants.{Less, Equal, Greater}
use Rattle.std.specs.Ordering.{is_eq, match_ordering}
use Rattle.std.specs.BTreeMap.{is_at}
use Rattle.std.specs.List.{list_any}
use Rattle.std.proofs.lemmas.Bool.{and_parts, false≢true, lt-ltb, ltb-true}
use Rattle.std.proofs.lemmas.Cmp.{tied_itself}
use Rattle.std.proofs.lemmas.Grind.{common_steps}
use Rattle.swss_types.proofs.Tied.{tied}
use Rattle.swss_types.proofs.Truths.{or_swap}
use Rattle.sai_types.specs.declared.ids.Rid.{Rid}
use Rattle.sai_types.specs.declared.hop.Hop.{Hop}
use Rattle.sai_types.specs.declared.weight.WHop.{WHop}
use Rattle.sai_types.specs.Alike.{IsIn}
use Rattle.sai_types.specs.Hop.{AreRisingHops, heavier, hop_cmp, put_hop}
use Rattle.sai_types.specs.Objects.{Objects}
use Rattle.sai_types.specs.Named.{both, whop_at}
use Rattle.sai_types.proofs.Rising.{hop_exact, hop_total}
use Rattle.sai_types.proofs.Weights.{one-weight, rising-none, rising-put, same-hops}
use Rattle.chip_names.specs.Members.{hops_by}
use Rattle.sai_chip.proofs.Passing.{any-found, any-there, or_true}

-- whether a hop is this one, with at least its weight
abbrev at_least : WHop → WHop → Bool
at_least q x = is_at (hop_cmp q.hop) x.hop && nat_lt q.weight (x.weight + 1)

-- ---- what is put

below_heavier : (n a b : ℕ) → nat_lt n (heavier a b + 1) ≡ (nat_lt n (a + 1) || nat_lt n (b + 1))
below_heavier n a b = grind (arith, common_steps)

spread : (h a b r : Bool) → ((h && (a || b)) || r) ≡ ((h && b) || ((h && a) || r))
spread false a b r = refl
spread true true true r = refl
spread true true false r = refl
spread true false true r = refl
spread true false false r = refl

any_step : (q w x : WHop) (xs : List WHop) (r : Ordering) → hop_cmp w.hop x.hop ≡ r
    → list_any (at_least q) (put_hop xs w) ≡ (at_least q w || list_any (at_least q) xs)
    → list_any (at_least q) (match_ordering r (w ∷ x ∷ xs) (record { hop = x.hop; weight = heavier x.weight w.weight } ∷ xs) (x ∷ put_hop xs w)) ≡ (at_least q w || (at_least q x || list_any (at_least q) xs))
any_step q w x xs Less is rest = refl
any_step q w x xs Equal is rest =
    ap (λ b. (is_at (hop_cmp q.hop) x.hop && b) || list_any (at_least q) xs) (below_heavier q.weight x.weight w.weight)
    ∙ spread (is_at (hop_cmp q.hop) x.hop) (nat_lt q.weight (x.weight + 1)) (nat_lt q.weight (w.weight + 1)) (list_any (at_least q) xs)
    ∙ ap (λ h. (is_at (hop_cmp q.hop) h && nat_lt q.weight (w.weight + 1)) || (at_least q x || list_any (at_least q) xs)) (sym (hop_exact w.hop x.hop is))
any_step q w x xs Greater is rest = ap (λ b. at_least q x || b) rest ∙ or_swap (at_least q x) (at_least q w) (list_any (at_least q) xs)

-- what hops hold where one was put
any-put : (q w : WHop) (xs : List WHop) → list_any (at_least q) (put_hop xs w) ≡ (at_least q w || list_any (at_least q) xs)
any-put q w [] = refl
any-put q w (x ∷ xs) = any_step q w x xs (hop_cmp w.hop x.hop) refl (any-put q w xs)

-- ---- hops that rise are what they hold

least_itself : (w : WHop) → at_least w w ≡ true
least_itself w = ap (λ r. is_eq r && nat_lt w.weight (w.weight + 1)) (tied_itself hop_total w.hop) ∙ lt-ltb w.weight (w.weight + 1) (omega arith)

least_parts : (q x : WHop) → at_least q x ≡ true → (q.hop ≡ x.hop) × (q.weight ≤ x.weight)
least_parts q x least =
    let parts = and_parts (is_at (hop_cmp q.hop) x.hop) (nat_lt q.weight (x.weight + 1)) least in
    let below = ltb-true q.weight (x.weight + 1) parts.1 in
    (hop_exact q.hop x.hop (tied (hop_cmp q.hop x.hop) parts.0), omega (arith, below))

carried : (xs ys : List WHop) → AreRisingHops xs → ((q : WHop) → list_any (at_least q) xs ≡ list_any (at_least q) ys) → (z : WHop) → IsIn z xs → IsIn z ys
carried xs ys rising same z there =
    let y = any-found (at_least z) ys (sym (same z) ∙ any-there (at_least z) z xs there (least_itself z)) in
    let x = any-found (at_least y.0) xs (same y.0 ∙ any-there (at_least y.0) y.0 ys y.1 (least_itself y.0)) in
    let up = least_parts z y.0 y.2 in
    let down = least_parts y.0 x.0 x.2 in
    let back = ap (λ (w : WHop). w.weight) (one-weight xs z x.0 rising there x.1 (up.0 ∙ down.0)) in
    let level : z.weight ≡ y.0.weight = omega (arith, up.1, down.1, back) in
    let made : Hop → ℕ → WHop = λ h n. record { hop = h; weight = n } in
    let is : z ≡ y.0 = ap₂ made up.0 level in
    subst (λ w. IsIn w ys) (sym is) y.1

same_held : (xs ys : List WHop) → AreRisingHops xs → AreRisingHops ys → ((q : WHop) → list_any (at_least q) xs ≡ list_any (at_least q) ys) → xs ≡ ys
same_held xs ys s t same = same-hops xs ys s t (carried xs ys s same) (carried ys xs t (λ q. sym (same q)))

-- ---- the hops of next hops

abbrev is_absent : Option WHop → Bool
is_absent None = true
is_absent (Some h) = false

abbrev is_reached : WHop → Option WHop → Bool
is_reached q None = false
is_reached q (Some h) = at_least q h

module _ (objects : Objects) where
  abbrev hop_at : Rid × ℕ → Option WHop
  hop_at n = whop_at objects n.0 n.1

  -- hops against the next hops that they are of: none where one is absent, else rising, and each with the greatest weight that one has
  abbrev Describes : List (Rid × ℕ) → Option (List WHop) → Type 0
  Describes ns None = list_any (λ n. is_absent (hop_at n)) ns ≡ true
  Describes ns (Some hs) = (list_any (λ n. is_absent (hop_at n)) ns ≡ false) × AreRisingHops hs × ((q : WHop) → list_any (at_least q) hs ≡ list_any (λ n. is_reached q (hop_at n)) ns)

  described_step : (n : Rid × ℕ) (ns : List (Rid × ℕ)) (hops : Option (List WHop)) (hop : Option WHop) → hop_at n ≡ hop → Describes ns hops → Describes (n ∷ ns) (both put_hop hops hop)
  described_step n ns None hop e d = ap (λ b. is_absent (hop_at n) || b) d ∙ or_true (is_absent (hop_at n))
  described_step n ns (Some hs) None e d = ap (λ h. is_absent h || list_any (λ m. is_absent (hop_at m)) ns) e
  described_step n ns (Some hs) (Some h) e d = (
    ap (λ x. is_absent x || list_any (λ m. is_absent (hop_at m)) ns) e ∙ d.0,
    rising-put h hs d.1,
    λ q.
        any-put q h hs
        ∙ ap (λ b. at_least q h || b) (d.2 q)
        ∙ ap (λ x. is_reached q x || list_any (λ m. is_reached q (hop_at m)) ns) (sym e),
  )

  described : (ns : List (Rid × ℕ)) → Describes ns (hops_by objects ns)
  described [] = (refl, rising-none, λ q. refl)
  described (n ∷ ns) = described_step n ns (hops_by objects ns) (hop_at n) refl (described ns)

  same_described : (ns ms : List (Rid × ℕ)) (a b : Option (List WHop)) → ((p : Rid × ℕ → Bool) → list_any p ns ≡ list_any p ms) → Describes ns a → Describes ms b → a ≡ b
  same_described ns ms None None same d e = refl
  same_described ns ms None (Some ks) same d e = absurd (false≢true (sym e.0 ∙ sym (same (λ n. is_absent (hop_at n))) ∙ d))
  same_described ns ms (Some hs) None same d e = absurd (false≢true (sym d.0 ∙ same (λ n. is_absent (hop_at n)) ∙ e))
  same_described ns ms (Some hs) (Some ks) same d e = ap Some (same_held hs ks d.1 e.1 (λ q. d.2 q ∙ same (λ n. is_reached q (hop_at n)) ∙ sym (e.2 q)))

  -- the hops of next hops don't depend on the order in which these stand, nor on how often
  pub hops_by-same : (ns ms : List (Rid × ℕ)) → ((p : Rid × ℕ → Bool) → list_any p ns ≡ list_any p ms) → hops_by objects ns ≡ hops_by objects ms
  hops_by-same ns ms same = same_described ns ms (hops_by objects ns) (hops_by objects ms) same (described ns) (described ms)
