-- a list is filtered one element at a time
use Rattle.std.proofs.Common.{◌≡◌, Bool, true, false, cond, List, [], ◌∷◌, ◌++◌, refl, sym, ap, ◌∙◌}
use Rattle.std.specs.List.{filter}
use Rattle.std.proofs.lemmas.List.{append_assoc}

-- what was kept so far, and the next element if it is kept, with those kept of the elements that are left
pub filter-next : {X : Type 0} (p : X → Bool) (front more all : List X) (t : X) (ts : List X) (b : Bool) → p t ≡ b → more ≡ front ++ cond b (t ∷ []) [] → front ++ filter p (t ∷ ts) ≡ all → more ++ filter p ts ≡ all
filter-next p front more all t ts b is put so_far =
    ap (λ xs. xs ++ filter p ts) put
    ∙ append_assoc front (cond b (t ∷ []) []) (filter p ts)
    ∙ ap (λ xs. front ++ xs) (one b)
    ∙ ap (λ q. front ++ cond q (t ∷ filter p ts) (filter p ts)) (sym is)
    ∙ so_far
  where
    one : (q : Bool) → cond q (t ∷ []) [] ++ filter p ts ≡ cond q (t ∷ filter p ts) (filter p ts)
    one true = refl
    one false = refl
