-- entries of different keys, put in either order
use Rattle.std.proofs.Common.{◌≡◌, List, [], ◌∷◌, refl, sym, ap, ◌∙◌, false}
use Rattle.std.specs.BTreeMap.{insert_entry, is_at}
use Rattle.std.specs.Cmp.{IsTotalOrder}
use Rattle.std.specs.Ordering.{is_eq, ordering_reverse}
use Rattle.std.specs.declared.cmp.Ordering.{Ordering}
use Rattle.std.specs.declared.cmp.Ordering.TheVariants.{Less, Equal, Greater}
use Rattle.table_schema.proofs.Places.{put_step}

less_turned : {K : Type 0} (cmp : K → K → Ordering) (o : IsTotalOrder cmp) (a b : K) → cmp a b ≡ Less → cmp b a ≡ Greater
less_turned cmp o a b less = o.antisymm b a ∙ ap ordering_reverse less

module _ {K X : Type 0} (cmp : K → K → Ordering) (o : IsTotalOrder cmp) where
  -- where a lesser and a greater key are put, the order of the two puts is nothing
  pub put-put : (es : List (K × X)) (k j : K) (v w : X) → cmp k j ≡ Less → insert_entry cmp (insert_entry cmp es k v) j w ≡ insert_entry cmp (insert_entry cmp es j w) k v
  put-put [] k j v w less = put_step cmp (k, v) [] j w Greater (less_turned cmp o k j less) ∙ sym (put_step cmp (j, w) [] k v Less less)
  put-put (e ∷ es) k j v w less =
      let all = e ∷ es in
      let first : cmp k e.0 ≡ Less → insert_entry cmp (insert_entry cmp all k v) j w ≡ (k, v) ∷ insert_entry cmp all j w =
      λ is. ap (λ l. insert_entry cmp l j w) (put_step cmp e es k v Less is) ∙ put_step cmp (k, v) all j w Greater (less_turned cmp o k j less) in
      let beyond : cmp j e.0 ≡ Greater → insert_entry cmp all j w ≡ e ∷ insert_entry cmp es j w = put_step cmp e es j w Greater in
      let above : (r : Ordering) → cmp j e.0 ≡ r → cmp k e.0 ≡ Less → (k, v) ∷ insert_entry cmp all j w ≡ insert_entry cmp (insert_entry cmp all j w) k v =
      λ r. elim r as (λ r. cmp j e.0 ≡ r → cmp k e.0 ≡ Less → (k, v) ∷ insert_entry cmp all j w ≡ insert_entry cmp (insert_entry cmp all j w) k v) [
        | Less ↦ λ is below. ap (λ l. (k, v) ∷ l) (put_step cmp e es j w Less is) ∙ sym (put_step cmp (j, w) all k v Less less) ∙ ap (λ l. insert_entry cmp l k v) (sym (put_step cmp e es j w Less is))
        | Equal ↦ λ is below. ap (λ l. (k, v) ∷ l) (put_step cmp e es j w Equal is) ∙ sym (put_step cmp (e.0, w) es k v Less below) ∙ ap (λ l. insert_entry cmp l k v) (sym (put_step cmp e es j w Equal is))
        | Greater ↦ λ is below. ap (λ l. (k, v) ∷ l) (beyond is) ∙ sym (put_step cmp e (insert_entry cmp es j w) k v Less below) ∙ ap (λ l. insert_entry cmp l k v) (sym (beyond is))
      ] in
      let by : (r : Ordering) → cmp k e.0 ≡ r → insert_entry cmp (insert_entry cmp all k v) j w ≡ insert_entry cmp (insert_entry cmp all j w) k v =
      λ r. elim r as (λ r. cmp k e.0 ≡ r → insert_entry cmp (insert_entry cmp all k v) j w ≡ insert_entry cmp (insert_entry cmp all j w) k v) [
        | Less ↦ λ is. first is ∙ above (cmp j e.0) refl is
        | Equal ↦ λ is.
            let far : cmp j e.0 ≡ Greater = less_turned cmp o e.0 j (sym (o.congr k e.0 j is) ∙ less) in
            ap (λ l. insert_entry cmp l j w) (put_step cmp e es k v Equal is) ∙ put_step cmp (e.0, v) es j w Greater far ∙ sym (put_step cmp e (insert_entry cmp es j w) k v Equal is) ∙ ap (λ l. insert_entry cmp l k v) (sym (beyond far))
        | Greater ↦ λ is.
            let far : cmp j e.0 ≡ Greater = less_turned cmp o e.0 j (o.trans e.0 k j (o.antisymm e.0 k ∙ ap ordering_reverse is) less) in
            ap (λ l. insert_entry cmp l j w) (put_step cmp e es k v Greater is) ∙ put_step cmp e (insert_entry cmp es k v) j w Greater far ∙ ap (λ l. e ∷ l) (put-put es k j v w less) ∙ sym (put_step cmp e (insert_entry cmp es j w) k v Greater is) ∙ ap (λ l. insert_entry cmp l k v) (sym (beyond far))
      ] in
      by (cmp k e.0) refl

  -- nor is it where neither key is the other
  pub put-other : (es : List (K × X)) (k j : K) (v w : X) → is_at (cmp j) k ≡ false → insert_entry cmp (insert_entry cmp es k v) j w ≡ insert_entry cmp (insert_entry cmp es j w) k v
  put-other es k j v w other =
      let by : (r : Ordering) → cmp j k ≡ r → is_eq r ≡ false → insert_entry cmp (insert_entry cmp es k v) j w ≡ insert_entry cmp (insert_entry cmp es j w) k v =
      λ r. elim r as (λ r. cmp j k ≡ r → is_eq r ≡ false → insert_entry cmp (insert_entry cmp es k v) j w ≡ insert_entry cmp (insert_entry cmp es j w) k v) [
        | Less ↦ λ is no. sym (put-put es j k w v is)
        | Equal ↦ λ is no. (let wrong = no in cc)
        | Greater ↦ λ is no. put-put es k j v w (o.antisymm k j ∙ ap ordering_reverse is)
      ] in
      by (cmp j k) refl other
