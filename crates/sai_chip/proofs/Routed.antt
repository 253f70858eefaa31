-- what tables of keys say of the routes
use Rattle.std.proofs.Common.{◌≡◌, Bool, true, false, cond, List, [], ◌∷◌, None, Some, Ordering, refl, ap, ◌∙◌}
use Rattle.std.specs.BTreeMap.{insert_entry, is_at}
use Rattle.std.specs.BTreeSet.{insert_key}
use Rattle.std.specs.Map.{keys_of, lookup, remove_entry, set_value}
use Rattle.std.specs.Ordering.{is_eq, match_ordering}
use Rattle.std.specs.Set.{remove_key}
use Rattle.std.specs.declared.cmp.Ordering.TheVariants.{Less, Equal, Greater}

-- the keys of a map are put and removed as those of a set
module _ {K X : Type 0} where
  pub keys-inserted : (cmp : K → K → Ordering) (es : List (K × X)) (k : K) (v : X) → keys_of (insert_entry cmp es k v) ≡ insert_key cmp (keys_of es) k
  keys-inserted cmp [] k v = refl
  keys-inserted cmp (e ∷ es) k v =
      elim (cmp k e.0) as (λ o. keys_of (match_ordering o ((k, v) ∷ e ∷ es) ((e.0, v) ∷ es) (e ∷ insert_entry cmp es k v)) ≡ match_ordering o (k ∷ e.0 ∷ keys_of es) (e.0 ∷ keys_of es) (e.0 ∷ insert_key cmp (keys_of es) k)) [
        | Less ↦ refl
        | Equal ↦ refl
        | Greater ↦ ap (λ l. e.0 ∷ l) (keys-inserted cmp es k v)
      ]

  pub keys-removed : (test : K → Bool) (es : List (K × X)) → keys_of (remove_entry test es) ≡ remove_key test (keys_of es)
  keys-removed test [] = refl
  keys-removed test (e ∷ es) = elim (test e.0) as (λ b. keys_of (cond b es (e ∷ remove_entry test es)) ≡ cond b (keys_of es) (e.0 ∷ remove_key test (keys_of es))) [ true ↦ refl | false ↦ ap (λ l. e.0 ∷ l) (keys-removed test es) ]

  pub keys-set : (test : K → Bool) (es : List (K × X)) (v : X) → keys_of (set_value test es v) ≡ keys_of es
  keys-set test [] v = refl
  keys-set test (e ∷ es) v = elim (test e.0) as (λ b. keys_of (cond b ((e.0, v) ∷ es) (e ∷ set_value test es v)) ≡ e.0 ∷ keys_of es) [ true ↦ refl | false ↦ ap (λ l. e.0 ∷ l) (keys-set test es v) ]

  -- a key that was not there is taken back
  pub taken_back : (cmp : K → K → Ordering) (k : K) → cmp k k ≡ Equal → (es : List (K × X)) → lookup (is_at (cmp k)) es ≡ None → remove_key (is_at (cmp k)) (insert_key cmp (keys_of es) k) ≡ keys_of es
  taken_back cmp k same [] none = ap (λ o. cond (is_eq o) [] (k ∷ [])) same
  taken_back cmp k same (e ∷ es) none =
      elim (cmp k e.0) as (λ o. cmp k e.0 ≡ o → cond (is_eq o) (Some e.1) (lookup (is_at (cmp k)) es) ≡ None → remove_key (is_at (cmp k)) (match_ordering o (k ∷ e.0 ∷ keys_of es) (e.0 ∷ keys_of es) (e.0 ∷ insert_key cmp (keys_of es) k)) ≡ e.0 ∷ keys_of es) [
        | Less ↦ λ is h. ap (λ o. cond (is_eq o) (e.0 ∷ keys_of es) (k ∷ remove_key (is_at (cmp k)) (e.0 ∷ keys_of es))) same
        | Equal ↦ λ is h. absurd cc
        | Greater ↦ λ is h. ap (λ o. cond (is_eq o) (insert_key cmp (keys_of es) k) (e.0 ∷ remove_key (is_at (cmp k)) (insert_key cmp (keys_of es) k))) is ∙ ap (λ l. e.0 ∷ l) (taken_back cmp k same es h)
      ] refl none
