-- what a mark lists of the keys to sync
use Rattle.std.proofs.Common.{◌≡◌, ◌∷◌, ◌++◌, ◌∙◌, inl, inr, suc, List, [], length, map, Option, Result, Ok, Err, refl, sym, ap, ap₂, subst}
use Rattle.std.specs.Result.{IfOk}
use Rattle.table_schema.specs.declared.key.Key.{Key}
use Rattle.table_schema.specs.declared.row.Row.{Row}
use Rattle.sai_types.specs.Alike.{IsIn}
use Rattle.switch_model.specs.Marks.{Waiting}
use Rattle.switch_model.specs.declared.wait.Wait.{Wait}
use Rattle.retry_list.specs.Listed.{AreListedWith, IsListedWith}
use Rattle.retry_list.specs.Reasons.{Reasons}

pub if_ok : {X E : Type 0} {P Q : X → Type 0} (r : Result X E) → ((x : X) → P x → Q x) → IfOk r P → IfOk r Q
if_ok (Ok x) on p = on x p
if_ok (Err e) on p = tt

pub in_middle : (xs ys : List Key) (k : Key) → IsIn k (xs ++ k ∷ ys)
in_middle [] ys k = inl refl
in_middle (x ∷ xs) ys k = inr (in_middle xs ys k)

module _ (reasons : Reasons) (rows : Key → Option Row) where
  abbrev AreListed : List Key → Waiting → Type 0
  AreListed ks ws = AreListedWith reasons rows ks ws

  pub listed_keys : (ks : List Key) (ws : Waiting) → AreListed ks ws → map (λ w. w.0) ws ≡ ks
  listed_keys [] [] h = refl
  listed_keys (k ∷ ks) (w ∷ ws) h = ap₂ (λ x l. x ∷ l) h.0.0 (listed_keys ks ws h.1)
  listed_keys [] (w ∷ ws) h = absurd h
  listed_keys (k ∷ ks) [] h = absurd h

  pub listed_length : (ks : List Key) (ws : Waiting) → AreListed ks ws → length ws ≡ length ks
  listed_length [] [] h = refl
  listed_length (k ∷ ks) (w ∷ ws) h = ap (λ n. suc n) (listed_length ks ws h.1)
  listed_length [] (w ∷ ws) h = absurd h
  listed_length (k ∷ ks) [] h = absurd h

  -- one more
  with_one : (ks : List Key) (ws : Waiting) (k : Key) (w : Key × Wait × Option Row) → AreListed ks ws → IsListedWith reasons rows k w → AreListed (ks ++ k ∷ []) (ws ++ w ∷ [])
  with_one [] [] k w h one = (one, tt)
  with_one (p ∷ ks) (v ∷ ws) k w h one = (h.0, with_one ks ws k w h.1 one)
  with_one [] (v ∷ ws) k w h one = absurd h
  with_one (p ∷ ks) [] k w h one = absurd h

  pub listed_one_more : (ks : List Key) (ws later : Waiting) (k : Key) (w : Key × Wait × Option Row) → later ≡ ws ++ w ∷ [] → AreListed ks ws → IsListedWith reasons rows k w → AreListed (ks ++ k ∷ []) later
  listed_one_more ks ws later k w are h one = subst (AreListed (ks ++ k ∷ [])) (sym are) (with_one ks ws k w h one)

  -- with the first of both
  pub listed_first : (ks more : List Key) (k : Key) (ws rest : Waiting) (w : Key × Wait × Option Row) → ks ≡ k ∷ more → ws ≡ w ∷ rest → IsListedWith reasons rows k w → AreListed more rest → AreListed ks ws
  listed_first ks more k ws rest w keys are one others = subst (λ l. AreListed l ws) (sym keys) (subst (AreListed (k ∷ more)) (sym are) (one, others))

  -- of no key nothing is listed
  pub listed_none : (ks : List Key) (ws : Waiting) → ks ≡ [] → length ws ≡ 0 → AreListed ks ws
  listed_none [] [] none empty = tt
  listed_none [] (w ∷ ws) none empty = cc
  listed_none (k ∷ ks) ws none empty = cc
