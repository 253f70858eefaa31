-- walks over keys in order
use Rattle.std.proofs.Common.{◌≡◌, ◌∷◌, ◌++◌, ◌∙◌, inl, inr, cond, List, [], None, Some, Ordering, refl, sym, ap, subst}
use Rattle.std.specs.List.{AllByRecursion}
use Rattle.std.specs.Map.{keys_of}
use Rattle.std.specs.Ordering.{is_lt, ordering_reverse}
use Rattle.std.specs.declared.cmp.Ordering.TheVariants.{Less, Equal, Greater}
use Rattle.std.proofs.lemmas.Cmp.{tied_itself}
use Rattle.std.proofs.lemmas.Option.{none-some, same_Some}
use Rattle.table_schema.specs.Fields.{HasRisingKeys}
use Rattle.table_schema.specs.Key.{key_cmp}
use Rattle.table_schema.specs.declared.key.Key.{Key}
use Rattle.table_schema.proofs.Keys.{key_total}
use Rattle.table_schema.proofs.Places.{out_step}
use Rattle.sai_types.specs.Alike.{IsIn}
use Rattle.consumer_table.specs.Ops.{AreOpsInOrder, Ops, first_in, keys_behind, without_op}
use Rattle.machine_laws.specs.ToSync.{AreInKeyOrder}

-- ---- rising keys

module _ {X : Type 0} where
  pub above : (k : Key) (es : List (Key × X)) → AllByRecursion (λ e. key_cmp k e.0 ≡ Less) es → (q : Key) → IsIn q (keys_of es) → key_cmp k q ≡ Less
  above k [] h q i = absurd i
  above k (e ∷ es) h q (inl is) = ap (key_cmp k) is ∙ h.0
  above k (e ∷ es) h q (inr i) = above k es h.1 q i

  pub in_key_order : (es : List (Key × X)) → HasRisingKeys key_cmp es → AreInKeyOrder (keys_of es)
  in_key_order [] h = tt
  in_key_order (e ∷ es) h = (above e.0 es h.0, in_key_order es h.1)

-- a key is greater than one below it
pub greater : (a b : Key) → key_cmp a b ≡ Less → key_cmp b a ≡ Greater
greater a b h = key_total.antisymm b a ∙ ap ordering_reverse h

-- ---- the first of keys

pub first_next : (keys : List Key) (k : Key) → first_in keys ≡ Some k → (rest : List Key) × (keys ≡ k ∷ rest)
first_next [] k h = absurd (none-some k h)
first_next (q ∷ qs) k h = (qs, ap (λ x. x ∷ qs) (same_Some q k h))

pub first_last : (keys : List Key) → first_in keys ≡ None → keys ≡ []
first_last [] h = refl
first_last (q ∷ qs) h = absurd (none-some q (sym h))

-- ---- the keys behind one

module _ (k : Key) where
  taken_by : (q : Key) (qs : List Key) (r : Ordering) → key_cmp k q ≡ r → keys_behind (Some k) (q ∷ qs) ≡ cond (is_lt r) (q ∷ keys_behind (Some k) qs) (keys_behind (Some k) qs)
  taken_by q qs r h = ap (λ o. cond (is_lt o) (q ∷ keys_behind (Some k) qs) (keys_behind (Some k) qs)) h

  -- all of greater ones
  behind_all : (qs : List Key) → ((q : Key) → IsIn q qs → key_cmp k q ≡ Less) → keys_behind (Some k) qs ≡ qs
  behind_all [] h = refl
  behind_all (q ∷ qs) h = taken_by q qs Less (h q (inl refl)) ∙ ap (λ l. q ∷ l) (behind_all qs (λ p i. h p (inr i)))

  -- none of lesser ones
  behind_past : (ps qs : List Key) → ((p : Key) → IsIn p ps → key_cmp p k ≡ Less) → keys_behind (Some k) (ps ++ qs) ≡ keys_behind (Some k) qs
  behind_past [] qs h = refl
  behind_past (p ∷ ps) qs h = taken_by p (ps ++ qs) Greater (greater p k (h p (inl refl))) ∙ behind_past ps qs (λ q i. h q (inr i))

  -- ---- keys in order, of which this is one

  module _ (rest : List Key) where
    within : (left : List Key) → IsIn k (left ++ k ∷ rest)
    within [] = inl refl
    within (p ∷ ps) = inr (within ps)

    lesser : (left : List Key) → AreInKeyOrder (left ++ k ∷ rest) → (p : Key) → IsIn p left → key_cmp p k ≡ Less
    lesser [] order p i = absurd i
    lesser (q ∷ qs) order p (inl is) = ap (λ x. key_cmp x k) is ∙ order.0 k (within qs)
    lesser (q ∷ qs) order p (inr i) = lesser qs order.1 p i

    others : (left : List Key) → AreInKeyOrder (left ++ k ∷ rest) → (q : Key) → IsIn q rest → key_cmp k q ≡ Less
    others [] order = order.0
    others (p ∷ ps) order = others ps order.1

    module _ (left : List Key) (order : AreInKeyOrder (left ++ k ∷ rest)) where
      behind_it : keys_behind (Some k) (k ∷ rest) ≡ rest
      behind_it = taken_by k rest Equal (tied_itself key_total k) ∙ behind_all rest (others left order)

      pub behind_still : keys_behind (Some k) (left ++ k ∷ rest) ≡ rest
      behind_still = behind_past left (k ∷ rest) (lesser left order) ∙ behind_it

      pub behind_gone : keys_behind (Some k) (left ++ rest) ≡ rest
      behind_gone = behind_past left rest (lesser left order) ∙ behind_all rest (others left order)

    -- without its operation
    pub gone_from : (ops : Ops) (left : List Key) → AreInKeyOrder (left ++ k ∷ rest) → keys_of ops ≡ left ++ k ∷ rest → keys_of (without_op ops k) ≡ left ++ rest
    gone_from [] [] order h = absurd cc
    gone_from [] (p ∷ ps) order h = absurd cc
    gone_from (e ∷ es) [] order h =
        let here : k ≡ e.0 = cc in
        let tail : keys_of es ≡ rest = cc in
        ap keys_of (out_step key_cmp e es k Equal (subst (λ x. key_cmp k x ≡ Equal) here (tied_itself key_total k))) ∙ tail
    gone_from (e ∷ es) (p ∷ ps) order h =
        let here : p ≡ e.0 = cc in
        let tail : keys_of es ≡ ps ++ k ∷ rest = cc in
        let later = gone_from es ps order.1 tail in
        ap keys_of (out_step key_cmp e es k Greater (greater e.0 k (subst (λ x. key_cmp x k ≡ Less) here (order.0 k (within ps)))))
        ∙ ap (λ x. x ∷ keys_of (without_op es k)) (sym here) ∙ ap (λ l. p ∷ l) later

module _ (ops : Ops) (left rest : List Key) (k : Key) (order : AreOpsInOrder ops) (are : keys_of ops ≡ left ++ (k ∷ rest)) where
  ordered : AreInKeyOrder (left ++ (k ∷ rest))
  ordered = subst AreInKeyOrder are (in_key_order ops order.keys)

  pub walk_stays : keys_behind (Some k) (keys_of ops) ≡ rest
  walk_stays = ap (keys_behind (Some k)) are ∙ behind_still k rest left ordered

  pub walk_goes : (keys_of (without_op ops k) ≡ left ++ rest) × (keys_behind (Some k) (keys_of (without_op ops k)) ≡ rest)
  walk_goes = let gone = gone_from k rest ops left ordered are in (gone, ap (keys_behind (Some k)) gone ∙ behind_gone k rest left ordered)
