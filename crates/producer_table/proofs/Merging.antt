-- fields that are laid over others one after the other
use Rattle.std.proofs.Common.{◌≡◌, List, [], ◌∷◌, ℕ, refl, sym, ap, ◌∙◌}
use Rattle.std.specs.BTreeMap.{insert_entry}
use Rattle.std.specs.Cmp.{IsTotalOrder}
use Rattle.std.specs.List.{AllByRecursion}
use Rattle.std.specs.declared.cmp.Ordering.{Ordering}
use Rattle.std.specs.declared.cmp.Ordering.TheVariants.{Less, Equal, Greater}
use Rattle.std.proofs.lemmas.Cmp.{nat_list_cmp_total, tied_itself}
use Rattle.std.proofs.lemmas.Map.Lookups.{exact_bytes}
use Rattle.table_schema.specs.Fields.{Pairs, HasRisingNames, by_bytes, merged, with_pair}
use Rattle.table_schema.proofs.Places.{HasRisingKeys-insert_entry, above_more, put_step}
use Rattle.table_schema.proofs.Puts.{put-put}

module _ {K X : Type 0} (cmp : K → K → Ordering) (o : IsTotalOrder cmp) where
  -- the later of two values under one key stays
  pub put-twice : (es : List (K × X)) (k : K) (v w : X) → insert_entry cmp (insert_entry cmp es k v) k w ≡ insert_entry cmp es k w
  put-twice [] k v w = put_step cmp (k, v) [] k w Equal (tied_itself o k)
  put-twice (e ∷ es) k v w =
      let by : (r : Ordering) → cmp k e.0 ≡ r → insert_entry cmp (insert_entry cmp (e ∷ es) k v) k w ≡ insert_entry cmp (e ∷ es) k w =
      λ r. elim r as (λ r. cmp k e.0 ≡ r → insert_entry cmp (insert_entry cmp (e ∷ es) k v) k w ≡ insert_entry cmp (e ∷ es) k w) [
        | Less ↦ λ is. ap (λ l. insert_entry cmp l k w) (put_step cmp e es k v Less is) ∙ put_step cmp (k, v) (e ∷ es) k w Equal (tied_itself o k) ∙ sym (put_step cmp e es k w Less is)
        | Equal ↦ λ is. ap (λ l. insert_entry cmp l k w) (put_step cmp e es k v Equal is) ∙ put_step cmp (e.0, v) es k w Equal is ∙ sym (put_step cmp e es k w Equal is)
        | Greater ↦ λ is. ap (λ l. insert_entry cmp l k w) (put_step cmp e es k v Greater is) ∙ put_step cmp e (insert_entry cmp es k v) k w Greater is ∙ ap (λ l. e ∷ l) (put-twice es k v w) ∙ sym (put_step cmp e es k w Greater is)
      ] in
      by (cmp k e.0) refl

-- a pair below all of the others may as well be laid last
merged-past_pair : (row ys : Pairs) (k v : List ℕ) → AllByRecursion (λ y. by_bytes k y.0 ≡ Less) ys → merged (with_pair row k v) ys ≡ with_pair (merged row ys) k v
merged-past_pair row [] k v h = refl
merged-past_pair row (y ∷ ys) k v h = ap (λ l. merged l ys) (put-put by_bytes nat_list_cmp_total row k y.0 v y.1 h.0) ∙ merged-past_pair (with_pair row y.0 y.1) ys k v h.1

-- fields with a pair more, laid over a row
merged-with_pair : (row fields : Pairs) (k v : List ℕ) → HasRisingNames fields → merged row (with_pair fields k v) ≡ with_pair (merged row fields) k v
merged-with_pair row [] k v h = refl
merged-with_pair row (e ∷ es) k v h =
    let laid = with_pair row e.0 e.1 in
    let by : (r : Ordering) → by_bytes k e.0 ≡ r → merged row (with_pair (e ∷ es) k v) ≡ with_pair (merged laid es) k v =
    λ r. elim r as (λ r. by_bytes k e.0 ≡ r → merged row (with_pair (e ∷ es) k v) ≡ with_pair (merged laid es) k v) [
      | Less ↦ λ is. ap (merged row) (put_step by_bytes e es k v Less is) ∙ merged-past_pair row (e ∷ es) k v (is, above_more by_bytes nat_list_cmp_total k e.0 es is h.0)
      | Equal ↦ λ is.
          let same : e.0 ≡ k = sym (exact_bytes k e.0 is) in
          ap (merged row) (put_step by_bytes e es k v Equal is) ∙ ap (λ l. merged l es) (sym (put-twice by_bytes nat_list_cmp_total row e.0 e.1 v)) ∙ merged-past_pair laid es e.0 v h.0 ∙ ap (λ n. with_pair (merged laid es) n v) same
      | Greater ↦ λ is. ap (merged row) (put_step by_bytes e es k v Greater is) ∙ merged-with_pair laid es k v h.1
    ] in
    by (by_bytes k e.0) refl

-- fields laid over others that are laid over a row
pub merged-merged : (row held fields : Pairs) → HasRisingNames held → merged row (merged held fields) ≡ merged (merged row held) fields
merged-merged row held [] h = refl
merged-merged row held (p ∷ ps) h =
    merged-merged row (with_pair held p.0 p.1) ps (HasRisingKeys-insert_entry by_bytes nat_list_cmp_total held p.0 p.1 h) ∙ ap (λ l. merged l ps) (merged-with_pair row held p.0 p.1 h)
