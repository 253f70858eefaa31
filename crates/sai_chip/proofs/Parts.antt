-- objects in parts: what a look-up finds, and where an entry comes and goes
use Rattle.std.proofs.Common.{◌≡◌, Bool, true, false, cond, ◌||◌, List, [], ◌∷◌, ◌++◌, map, Option, None, Some, option_map, Ordering, refl, sym, ap, ◌∙◌}
use Rattle.std.specs.declared.cmp.Ordering.TheVariants.{Less, Equal, Greater}
use Rattle.std.specs.Ordering.{is_eq, match_ordering}
use Rattle.std.specs.BTreeMap.{insert_entry, is_at}
use Rattle.std.specs.BTreeSet.{insert_key}
use Rattle.std.specs.Set.{remove_key}
use Rattle.std.specs.List.{list_any}
use Rattle.std.specs.Map.{lookup, remove_entry, set_value}
use Rattle.std.proofs.lemmas.List.{append-nil}
use Rattle.std.proofs.lemmas.Map.Lookups.{CmpEqualImpliesEq}
use Rattle.sai_types.specs.declared.ids.Rid.{Rid}
use Rattle.sai_types.specs.declared.body.Body.{Body}
use Rattle.sai_types.specs.declared.body.Entry.{Entry}
use Rattle.sai_types.specs.Objects.{Objects, entry_cmp}

-- a part whose keys a test does not pass
module _ {X : Type 0} (f : X → Entry Rid × Body Rid) where
  pub lookup-past : (p : Entry Rid → Bool) → ((x : X) → p (f x).0 ≡ false) → (xs : List X) (rest : Objects) → lookup p (map f xs ++ rest) ≡ lookup p rest
  lookup-past p none [] rest = refl
  lookup-past p none (x ∷ xs) rest = rw (none x) (lookup-past p none xs rest)

  pub remove-past : (p : Entry Rid → Bool) → ((x : X) → p (f x).0 ≡ false) → (xs : List X) (rest : Objects) → remove_entry p (map f xs ++ rest) ≡ map f xs ++ remove_entry p rest
  remove-past p none [] rest = refl
  remove-past p none (x ∷ xs) rest = rw (none x) (ap (λ l. f x ∷ l) (remove-past p none xs rest))

  pub set-past : (p : Entry Rid → Bool) (w : Body Rid) → ((x : X) → p (f x).0 ≡ false) → (xs : List X) (rest : Objects) → set_value p (map f xs ++ rest) w ≡ map f xs ++ set_value p rest w
  set-past p w none [] rest = refl
  set-past p w none (x ∷ xs) rest = rw (none x) (ap (λ l. f x ∷ l) (set-past p w none xs rest))

  -- the same of the last part
  pub lookup-last : (p : Entry Rid → Bool) → ((x : X) → p (f x).0 ≡ false) → (xs : List X) → lookup p (map f xs) ≡ None
  lookup-last p none xs = ap (lookup p) (sym (append-nil (map f xs))) ∙ lookup-past p none xs []

  pub remove-last : (p : Entry Rid → Bool) → ((x : X) → p (f x).0 ≡ false) → (xs : List X) → remove_entry p (map f xs) ≡ map f xs
  remove-last p none xs = ap (remove_entry p) (sym (append-nil (map f xs))) ∙ remove-past p none xs [] ∙ append-nil (map f xs)

  -- a part whose keys are below an entry
  pub insert-past : (e : Entry Rid) (b : Body Rid) → ((x : X) → entry_cmp e (f x).0 ≡ Greater) → (xs : List X) (rest : Objects) → insert_entry entry_cmp (map f xs ++ rest) e b ≡ map f xs ++ insert_entry entry_cmp rest e b
  insert-past e b past [] rest = refl
  insert-past e b past (x ∷ xs) rest = rw (past x) (ap (λ l. f x ∷ l) (insert-past e b past xs rest))

-- the part of the entries of a map
module _ {K V : Type 0} (cmp : K → K → Ordering) (k : K → Entry Rid) (b : K → V → Body Rid) (tied : (x y : K) → entry_cmp (k x) (k y) ≡ cmp x y) (exact : CmpEqualImpliesEq cmp) where
  abbrev part : List (K × V) → Objects
  part es = map (λ e. (k e.0, b e.0 e.1)) es

  found_step : (a : K) (e : K × V) (es : List (K × V)) (rest : Objects) (r : Ordering) → cmp a e.0 ≡ r → lookup (is_at (entry_cmp (k a))) (part es ++ rest) ≡ option_map (b a) (lookup (is_at (cmp a)) es) → cond (is_eq r) (Some (b e.0 e.1)) (lookup (is_at (entry_cmp (k a))) (part es ++ rest)) ≡ option_map (b a) (cond (is_eq r) (Some e.1) (lookup (is_at (cmp a)) es))
  found_step a e es rest Less is h = h
  found_step a e es rest Equal is h = ap (λ x. Some (b x e.1)) (sym (exact a e.0 is))
  found_step a e es rest Greater is h = h

  pub lookup-in : (a : K) (rest : Objects) → lookup (is_at (entry_cmp (k a))) rest ≡ None → (es : List (K × V)) → lookup (is_at (entry_cmp (k a))) (part es ++ rest) ≡ option_map (b a) (lookup (is_at (cmp a)) es)
  lookup-in a rest none [] = none
  lookup-in a rest none (e ∷ es) = rw (tied a e.0) (found_step a e es rest (cmp a e.0) refl (lookup-in a rest none es))

  insert_step : (a : K) (v : V) (e : K × V) (es : List (K × V)) (rest : Objects) (r : Ordering) → cmp a e.0 ≡ r → insert_entry entry_cmp (part es ++ rest) (k a) (b a v) ≡ part (insert_entry cmp es a v) ++ rest → match_ordering r ((k a, b a v) ∷ (part (e ∷ es) ++ rest)) ((k e.0, b a v) ∷ (part es ++ rest)) ((k e.0, b e.0 e.1) ∷ insert_entry entry_cmp (part es ++ rest) (k a) (b a v)) ≡ part (match_ordering r ((a, v) ∷ e ∷ es) ((e.0, v) ∷ es) (e ∷ insert_entry cmp es a v)) ++ rest
  insert_step a v e es rest Less is h = refl
  insert_step a v e es rest Equal is h = ap (λ x. (k e.0, b x v) ∷ (part es ++ rest)) (exact a e.0 is)
  insert_step a v e es rest Greater is h = ap (λ l. (k e.0, b e.0 e.1) ∷ l) h

  pub insert-in : (a : K) (v : V) (rest : Objects) → insert_entry entry_cmp rest (k a) (b a v) ≡ (k a, b a v) ∷ rest → (es : List (K × V)) → insert_entry entry_cmp (part es ++ rest) (k a) (b a v) ≡ part (insert_entry cmp es a v) ++ rest
  insert-in a v rest before [] = before
  insert-in a v rest before (e ∷ es) = rw (tied a e.0) (insert_step a v e es rest (cmp a e.0) refl (insert-in a v rest before es))

  remove_step : (t : Bool) (e : K × V) (ls : Objects) (es ds : List (K × V)) (rest : Objects) → ls ≡ part ds ++ rest → cond t (part es ++ rest) ((k e.0, b e.0 e.1) ∷ ls) ≡ part (cond t es (e ∷ ds)) ++ rest
  remove_step true e ls es ds rest h = refl
  remove_step false e ls es ds rest h = ap (λ l. (k e.0, b e.0 e.1) ∷ l) h

  pub remove-in : (a : K) (rest : Objects) → remove_entry (is_at (entry_cmp (k a))) rest ≡ rest → (es : List (K × V)) → remove_entry (is_at (entry_cmp (k a))) (part es ++ rest) ≡ part (remove_entry (is_at (cmp a)) es) ++ rest
  remove-in a rest none [] = none
  remove-in a rest none (e ∷ es) = rw (tied a e.0) (remove_step (is_at (cmp a) e.0) e _ es _ rest (remove-in a rest none es))

  set_step : (a : K) (v u : V) (e : K × V) (es : List (K × V)) (rest : Objects) (r : Ordering) → cmp a e.0 ≡ r → cond (is_eq r) (Some e.1) (lookup (is_at (cmp a)) es) ≡ Some u → (lookup (is_at (cmp a)) es ≡ Some u → set_value (is_at (entry_cmp (k a))) (part es ++ rest) (b a v) ≡ part (set_value (is_at (cmp a)) es v) ++ rest) → cond (is_eq r) ((k e.0, b a v) ∷ (part es ++ rest)) ((k e.0, b e.0 e.1) ∷ set_value (is_at (entry_cmp (k a))) (part es ++ rest) (b a v)) ≡ part (cond (is_eq r) ((e.0, v) ∷ es) (e ∷ set_value (is_at (cmp a)) es v)) ++ rest
  set_step a v u e es rest Less is there h = ap (λ l. (k e.0, b e.0 e.1) ∷ l) (h there)
  set_step a v u e es rest Equal is there h = ap (λ x. (k e.0, b x v) ∷ (part es ++ rest)) (exact a e.0 is)
  set_step a v u e es rest Greater is there h = ap (λ l. (k e.0, b e.0 e.1) ∷ l) (h there)

  pub set-in : (a : K) (v u : V) (rest : Objects) (es : List (K × V)) → lookup (is_at (cmp a)) es ≡ Some u → set_value (is_at (entry_cmp (k a))) (part es ++ rest) (b a v) ≡ part (set_value (is_at (cmp a)) es v) ++ rest
  set-in a v u rest [] there = absurd cc
  set-in a v u rest (e ∷ es) there = rw (tied a e.0) (set_step a v u e es rest (cmp a e.0) refl there (set-in a v u rest es))

-- the part of the keys of a set
module _ {K : Type 0} (cmp : K → K → Ordering) (k : K → Entry Rid) (b : K → Body Rid) (tied : (x y : K) → entry_cmp (k x) (k y) ≡ cmp x y) (exact : CmpEqualImpliesEq cmp) where
  abbrev keyed : List K → Objects
  keyed xs = map (λ x. (k x, b x)) xs

  key_found : (a x : K) (xs : List K) (o : Option (Body Rid)) (r : Ordering) → cmp a x ≡ r → o ≡ cond (list_any (is_at (cmp a)) xs) (Some (b a)) None → cond (is_eq r) (Some (b x)) o ≡ cond (is_eq r || list_any (is_at (cmp a)) xs) (Some (b a)) None
  key_found a x xs o Less is h = h
  key_found a x xs o Equal is h = ap (λ y. Some (b y)) (sym (exact a x is))
  key_found a x xs o Greater is h = h

  pub key-lookup : (a : K) (rest : Objects) → lookup (is_at (entry_cmp (k a))) rest ≡ None → (xs : List K) → lookup (is_at (entry_cmp (k a))) (keyed xs ++ rest) ≡ cond (list_any (is_at (cmp a)) xs) (Some (b a)) None
  key-lookup a rest none [] = none
  key-lookup a rest none (x ∷ xs) = rw (tied a x) (key_found a x xs _ (cmp a x) refl (key-lookup a rest none xs))

  key_inserted : (a x : K) (xs : List K) (ls rest : Objects) (r : Ordering) → cmp a x ≡ r → ls ≡ keyed (insert_key cmp xs a) ++ rest → match_ordering r ((k a, b a) ∷ (keyed (x ∷ xs) ++ rest)) ((k x, b a) ∷ (keyed xs ++ rest)) ((k x, b x) ∷ ls) ≡ keyed (match_ordering r (a ∷ x ∷ xs) (x ∷ xs) (x ∷ insert_key cmp xs a)) ++ rest
  key_inserted a x xs ls rest Less is h = refl
  key_inserted a x xs ls rest Equal is h = ap (λ y. (k x, b y) ∷ (keyed xs ++ rest)) (exact a x is)
  key_inserted a x xs ls rest Greater is h = ap (λ l. (k x, b x) ∷ l) h

  pub key-insert : (a : K) (rest : Objects) → insert_entry entry_cmp rest (k a) (b a) ≡ (k a, b a) ∷ rest → (xs : List K) → insert_entry entry_cmp (keyed xs ++ rest) (k a) (b a) ≡ keyed (insert_key cmp xs a) ++ rest
  key-insert a rest before [] = before
  key-insert a rest before (x ∷ xs) = rw (tied a x) (key_inserted a x xs _ rest (cmp a x) refl (key-insert a rest before xs))

  key_removed : (t : Bool) (x : K) (ls : Objects) (xs ds : List K) (rest : Objects) → ls ≡ keyed ds ++ rest → cond t (keyed xs ++ rest) ((k x, b x) ∷ ls) ≡ keyed (cond t xs (x ∷ ds)) ++ rest
  key_removed true x ls xs ds rest h = refl
  key_removed false x ls xs ds rest h = ap (λ l. (k x, b x) ∷ l) h

  pub key-remove : (a : K) (rest : Objects) → remove_entry (is_at (entry_cmp (k a))) rest ≡ rest → (xs : List K) → remove_entry (is_at (entry_cmp (k a))) (keyed xs ++ rest) ≡ keyed (remove_key (is_at (cmp a)) xs) ++ rest
  key-remove a rest none [] = none
  key-remove a rest none (x ∷ xs) = rw (tied a x) (key_removed (is_at (cmp a) x) x _ xs _ rest (key-remove a rest none xs))
