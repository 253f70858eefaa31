-- the objects of a view are, in another order, those of a chip that holds them
use Rattle.std.proofs.Common.{◌≡◌, inl, inr, [], ◌∷◌, Ordering, refl, sym, ap, subst, IsPermutation}
use Rattle.std.specs.declared.cmp.Ordering.TheVariants.{Less, Equal, Greater}
use Rattle.std.specs.BTreeMap.{insert_entry}
use Rattle.std.specs.Ordering.{is_eq, match_ordering}
use Rattle.std.proofs.lemmas.List.Sorted.{IsPermutation-cons, IsPermutation-middle, IsPermutation-refl, IsPermutation-sym, IsPermutation-trans}
use Rattle.sai_types.specs.declared.ids.Rid.{Rid}
use Rattle.sai_types.specs.declared.body.Body.{Body}
use Rattle.sai_types.specs.declared.body.Entry.{Entry}
use Rattle.sai_types.specs.Alike.{IsIn}
use Rattle.sai_types.specs.Objects.{Objects, entry_cmp}
use Rattle.sai_types.proofs.Exact.{entry-exact}
use Rattle.chip_names.specs.Naming.{entries_of}
use Rattle.chip_layout.specs.Counted.{AreDistinct}
use Rattle.view_match.specs.Listed.{objects_as}
use Rattle.asic_view.specs.View.{ViewObjects, as_chip, as_rid}
use Rattle.asic_view.proofs.Shown.{shown_body, shown_entry}
use Rattle.syncd_core.specs.Begun.{objects_listed}
use Rattle.apply_laws.proofs.Order.Shuffled.{in-shuffled}
use Rattle.apply_laws.specs.Begun.{entries_in}

abbrev Item : Type 0
Item = Entry Rid × Body Rid

-- an object with an entry of its own is put among others
put_among_others : (os : Objects) (e : Entry Rid) (b : Body Rid) → ((o : Item) → IsIn o os → e ≡ o.0 → ⊥) → IsPermutation ((e, b) ∷ os) (insert_entry entry_cmp os e b)
put_among_others [] e b fresh = IsPermutation-refl ((e, b) ∷ [])
put_among_others (o ∷ os) e b fresh = by (entry_cmp e o.0) refl (put_among_others os e b (λ p i. fresh p (inr i)))
  where
    by : (r : Ordering) → entry_cmp e o.0 ≡ r → IsPermutation ((e, b) ∷ os) (insert_entry entry_cmp os e b) → IsPermutation ((e, b) ∷ o ∷ os) (match_ordering r ((e, b) ∷ o ∷ os) ((o.0, b) ∷ os) (o ∷ insert_entry entry_cmp os e b))
    by Less h rest = IsPermutation-refl ((e, b) ∷ o ∷ os)
    by Equal h rest = absurd (fresh o (inl refl) (entry-exact e o.0 (ap is_eq h)))
    by Greater h rest = IsPermutation-trans _ _ _ (IsPermutation-sym _ _ (IsPermutation-middle (o ∷ []) (e, b) os)) (IsPermutation-cons o _ _ rest)

entry_among : (os : ViewObjects) (o : Item) → IsIn o (entries_of (objects_as (objects_listed os))) → IsIn o.0 (entries_in os)
entry_among [] o i = elim i [ ]
entry_among (x ∷ xs) o (inl is) = inl (ap (λ (z : Item). z.0) is)
entry_among (x ∷ xs) o (inr i) = inr (entry_among xs o i)

pub as-listed : (os : ViewObjects) → AreDistinct (entries_in os) → IsPermutation (entries_of (objects_as (objects_listed os))) (as_chip os)
as-listed [] apart = IsPermutation-refl []
as-listed (x ∷ xs) apart =
    let rest = as-listed xs apart.1 in
    IsPermutation-trans _ _ _ (IsPermutation-cons (shown_entry as_rid x, shown_body as_rid x) _ _ rest)
    (put_among_others (as_chip xs) (shown_entry as_rid x) (shown_body as_rid x) (λ o i same. apart.0 (subst (λ e. IsIn e (entries_in xs)) (sym same) (entry_among xs o (in-shuffled _ _ rest o i)))))
