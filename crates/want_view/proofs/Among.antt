-- things put among others: each stands then, and those of before, and no other
use Rattle.std.proofs.Common.{◌≡◌, ◌⊎◌, inl, inr, List, [], ◌∷◌, subst, sym}
use Rattle.std.specs.BTreeSet.{insert_key}
use Rattle.std.specs.List.Sorted.{IsStrictlySortedBy}
use Rattle.sai_types.specs.declared.thing.Thing.{Thing}
use Rattle.sai_types.specs.Alike.{IsIn}
use Rattle.sai_types.proofs.Rising.{in-back, in-insert, in-kept, rising-insert}
use Rattle.sai_types.specs.Order.{thing_cmp}
use Rattle.sai_types.proofs.Equal.{thing_exact, thing_total}
use Rattle.want_view.specs.Walk.{with_things}

pub kept-with : (xs ts : List Thing) (t : Thing) → IsIn t xs → IsIn t (with_things xs ts)
kept-with xs [] t h = h
kept-with xs (u ∷ us) t h = kept-with (insert_key thing_cmp xs u) us t (in-kept thing_cmp thing_total thing_exact xs u t h)

pub in-with : (xs ts : List Thing) (t : Thing) → IsIn t ts → IsIn t (with_things xs ts)
in-with xs [] t h = elim h [ ]
in-with xs (u ∷ us) t (inl same) = kept-with (insert_key thing_cmp xs u) us t (subst (λ z. IsIn z (insert_key thing_cmp xs u)) (sym same) (in-insert thing_cmp thing_total thing_exact xs u))
in-with xs (u ∷ us) t (inr h) = in-with (insert_key thing_cmp xs u) us t h

pub back-with : (xs ts : List Thing) (t : Thing) → IsIn t (with_things xs ts) → IsIn t ts ⊎ IsIn t xs
back-with xs [] t h = inr h
back-with xs (u ∷ us) t h = by (back-with (insert_key thing_cmp xs u) us t h)
  where
    before : (t ≡ u) ⊎ IsIn t xs → IsIn t (u ∷ us) ⊎ IsIn t xs
    before (inl same) = inl (inl same)
    before (inr g) = inr g

    by : IsIn t us ⊎ IsIn t (insert_key thing_cmp xs u) → IsIn t (u ∷ us) ⊎ IsIn t xs
    by (inl g) = inl (inr g)
    by (inr g) = before (in-back thing_cmp thing_total thing_exact xs u t g)

pub rising-with : (xs ts : List Thing) → IsStrictlySortedBy thing_cmp xs → IsStrictlySortedBy thing_cmp (with_things xs ts)
rising-with xs [] h = h
rising-with xs (u ∷ us) h = rising-with (insert_key thing_cmp xs u) us (rising-insert thing_cmp thing_total thing_exact xs u h)
