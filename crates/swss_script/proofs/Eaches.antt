-- what stands for each of some numbers, made one after the other
use Rattle.std.proofs.Common.{◌≡◌, ℕ, zero, suc, ◌+◌, ◌-◌, ◌<◌, ◌≤◌, ◌%◌, List, [], ◌∷◌, ◌++◌, flat_map, length, refl, sym, ap, ◌∙◌, arith, append_assoc, append-nil}
use Rattle.std.specs.List.{AllByRecursion}
use Rattle.swss_script.specs.Generated.{drawn_route, each_from, hops_from, next_state, routes_from, texts_joined}
use Rattle.swss_script.specs.declared.parts.Act.{Act}

module _ {A : Type 0} (f : ℕ → A) where
  -- the first of those that are left
  each-next : (k n : ℕ) → k < n → each_from f k (n - k) ≡ f k ∷ each_from f (k + 1) (n - (k + 1))
  unfolding each_from
  each-next k n less =
      let more : n - k ≡ suc (n - (k + 1)) = omega (arith, less) in
      rw more refl

  -- one more was put behind those that are done
  pub each-more : (k n : ℕ) (done new all : List A) → k < n → new ≡ done ++ f k ∷ [] → done ++ each_from f k (n - k) ≡ all → new ++ each_from f (k + 1) (n - (k + 1)) ≡ all
  each-more k n done new all less is before =
      let rest : List A = each_from f (k + 1) (n - (k + 1)) in
      ap (λ l. l ++ rest) is ∙ append_assoc done (f k ∷ []) rest ∙ ap (λ l. done ++ l) (sym (each-next k n less)) ∙ before

  pub each-none : (k : ℕ) → each_from f k 0 ≡ []
  unfolding each_from
  each-none k = refl

  -- none is left
  pub each-done : (k n : ℕ) (done all : List A) → n ≤ k → done ++ each_from f k (n - k) ≡ all → done ≡ all
  each-done k n done all last before =
      let none : 0 ≡ n - k = omega (arith, last) in
      sym (append-nil done) ∙ ap (λ l. done ++ l) (sym (each-none k)) ∙ ap (λ m. done ++ each_from f k m) none ∙ before

  pub length-each : (a n : ℕ) → length (each_from f a n) ≡ n
  unfolding each_from
  length-each a zero = refl
  length-each a (suc n) = let rest = length-each (a + 1) n in omega (arith, rest)

  -- what holds of each
  pub all-each : (P : A → Type 0) (bound : ℕ) → ((k : ℕ) → k < bound → P (f k)) → (a n : ℕ) → a + n ≤ bound → AllByRecursion P (each_from f a n)
  unfolding each_from
  all-each P bound holds a zero within = tt
  all-each P bound holds a (suc n) within = (holds a (omega (arith, within)), all-each P bound holds (a + 1) n (omega (arith, within)))

-- ---- texts of hops

module _ (text : ℕ → List ℕ) where
  abbrev pub texts_left : ℕ → ℕ → List ℕ
  texts_left k n = flat_map (λ i. 44 ∷ text i) (each_from (λ j. j % 256) k (n - k))

  -- the text of the first hop, in front of the others
  pub texts-first : (first others : ℕ) → text (first % 256) ++ texts_left (first + 1) (first + 1 + others) ≡ texts_joined text (hops_from first (1 + others))
  unfolding each_from
  texts-first first others =
      let left : first + 1 + others - (first + 1) ≡ others = omega arith in
      let one : suc others ≡ 1 + others = omega arith in
      ap (λ m. text (first % 256) ++ flat_map (λ i. 44 ∷ text i) (each_from (λ j. j % 256) (first + 1) m)) left ∙ ap (λ m. texts_joined text (hops_from first m)) one

  pub texts-more : (k n : ℕ) (done new all : List ℕ) → k < n → new ≡ done ++ 44 ∷ text (k % 256) → done ++ texts_left k n ≡ all → new ++ texts_left (k + 1) n ≡ all
  texts-more k n done new all less is before =
      ap (λ l. l ++ texts_left (k + 1) n) is
      ∙ append_assoc done (44 ∷ text (k % 256)) (texts_left (k + 1) n)
      ∙ ap (λ l. done ++ flat_map (λ i. 44 ∷ text i) l) (sym (each-next (λ j. j % 256) k n less))
      ∙ before

  pub texts-done : (k n : ℕ) (done all : List ℕ) → n ≤ k → done ++ texts_left k n ≡ all → done ≡ all
  texts-done k n done all last before =
      let none : 0 ≡ n - k = omega (arith, last) in
      sym (append-nil done) ∙ ap (λ l. done ++ flat_map (λ i. 44 ∷ text i) l) (sym (each-none (λ j. j % 256) k)) ∙ ap (λ m. done ++ flat_map (λ i. 44 ∷ text i) (each_from (λ j. j % 256) k m)) none ∙ before

-- ---- routes

-- one more was put behind those that are done
pub routes-more : (i n state : ℕ) (done new all : List Act) → i < n → new ≡ done ++ drawn_route i state ∷ [] → done ++ routes_from i state (n - i) ≡ all → new ++ routes_from (i + 1) (next_state (next_state state)) (n - (i + 1)) ≡ all
routes-more i n state done new all less is before =
    let more : suc (n - (i + 1)) ≡ n - i = omega (arith, less) in
    let rest : List Act = routes_from (i + 1) (next_state (next_state state)) (n - (i + 1)) in
    ap (λ l. l ++ rest) is ∙ append_assoc done (drawn_route i state ∷ []) rest ∙ ap (λ m. done ++ routes_from i state m) more ∙ before

pub routes-done : (i n state : ℕ) (done all : List Act) → n ≤ i → done ++ routes_from i state (n - i) ≡ all → done ≡ all
routes-done i n state done all last before =
    let none : 0 ≡ n - i = omega (arith, last) in
    sym (append-nil done) ∙ ap (λ m. done ++ routes_from i state m) none ∙ before
