-- the users of a name without one of them
use Rattle.std.proofs.Common.{◌≡◌, ◌∷◌, ◌∙◌, inl, inr, Bool, true, false, not, cond, List, [], refl, sym}
use Rattle.std.proofs.lemmas.Bool.{false≢true}
use Rattle.std.specs.BTreeMap.{is_at}
use Rattle.std.specs.List.{AllByRecursion}
use Rattle.std.specs.List.Sorted.{IsStrictlySortedBy}
use Rattle.std.specs.declared.cmp.Ordering.TheVariants.{Less}
use Rattle.table_schema.specs.Key.{key_cmp}
use Rattle.table_schema.specs.declared.key.Key.{Key}
use Rattle.table_schema.proofs.Keys.{at_itself, tied_keys_same}
use Rattle.sai_types.specs.Alike.{IsIn}
use Rattle.ref_counts.specs.Registered.{users_but}

pub but_users : (k q : Key) (us : List Key) → IsIn q (users_but k us) → IsIn q us × (k ≡ q → ⊥)
but_users k q [] h = elim h [ ]
but_users k q (u ∷ us) h = by (λ i. but_users k q us i) (is_at (key_cmp k) u) refl h
  where
    by : (IsIn q (users_but k us) → IsIn q us × (k ≡ q → ⊥)) → (b : Bool) → is_at (key_cmp k) u ≡ b → IsIn q (cond (not b) (u ∷ users_but k us) (users_but k us)) → IsIn q (u ∷ us) × (k ≡ q → ⊥)
    by rest true e i = let x = rest i in (inr x.0, x.1)
    by rest false e (inl same) = (inl same, λ is. false≢true (sym e ∙ at_itself k u (is ∙ same)))
    by rest false e (inr i) = let x = rest i in (inr x.0, x.1)

pub users_kept : (k q : Key) (us : List Key) → (k ≡ q → ⊥) → IsIn q us → IsIn q (users_but k us)
users_kept k q [] other h = elim h [ ]
users_kept k q (u ∷ us) other h = by (λ i. users_kept k q us other i) (is_at (key_cmp k) u) refl h
  where
    by : (IsIn q us → IsIn q (users_but k us)) → (b : Bool) → is_at (key_cmp k) u ≡ b → IsIn q (u ∷ us) → IsIn q (cond (not b) (u ∷ users_but k us) (users_but k us))
    by rest true e (inl same) = absurd (other (tied_keys_same k u e ∙ sym same))
    by rest true e (inr i) = rest i
    by rest false e (inl same) = inl same
    by rest false e (inr i) = inr (rest i)

all_but : (P : Key → Type 0) (k : Key) (us : List Key) → AllByRecursion P us → AllByRecursion P (users_but k us)
all_but P k [] h = tt
all_but P k (u ∷ us) h = by (all_but P k us h.1) (is_at (key_cmp k) u)
  where
    by : AllByRecursion P (users_but k us) → (b : Bool) → AllByRecursion P (cond (not b) (u ∷ users_but k us) (users_but k us))
    by rest true = rest
    by rest false = (h.0, rest)

pub but_rising : (k : Key) (us : List Key) → IsStrictlySortedBy key_cmp us → IsStrictlySortedBy key_cmp (users_but k us)
unfolding IsStrictlySortedBy
but_rising k [] h = tt
but_rising k (u ∷ us) h =
    let rest = but_rising k us h.1 in
    elim (is_at (key_cmp k) u) as (λ b. IsStrictlySortedBy key_cmp (cond (not b) (u ∷ users_but k us) (users_but k us))) [
      | true ↦ rest
      | false ↦ (all_but (λ y. key_cmp u y ≡ Less) k us h.0, rest)
    ]
