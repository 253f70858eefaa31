-- what an operation leaves, and what it builds
use Rattle.std.proofs.Common.{◌≡◌, ◌⊎◌, ◌∷◌, ◌∙◌, inl, inr, Bool, true, false, List, [], Option, None, Some, refl, sym, ap, subst, if◌then◌else◌}
use Rattle.std.proofs.lemmas.Bool.{false≢true}
use Rattle.std.proofs.lemmas.Option.{same_Some}
use Rattle.std.specs.List.{list_any}
use Rattle.table_schema.specs.Plan.{Ports}
use Rattle.table_schema.specs.declared.key.Key.{Key}
use Rattle.sai_types.specs.Alike.{IsIn}
use Rattle.switch_model.specs.Placed.{Placed as Row}
use Rattle.row_layout.specs.Operations.{same_owner, uses_of}
use Rattle.row_layout.specs.Rows.{Owner}
use Rattle.row_layout.proofs.Changing.{among}
use Rattle.switch_machine.proofs.Sequence.{IsShort, any_owner_in, uses_short}
use Rattle.ref_counts.specs.declared.name.NameState.{NameState}
use Rattle.ref_counts.specs.declared.name.NameState.TheVariants as state
use Rattle.ref_counts.specs.Registry.{Names, state_of}
use Rattle.orch_flight.specs.Needing.{absent_or, first_absent, name_for}
use Rattle.orch_flight.specs.Starting.{first_left, leaving}
use Rattle.registry_laws.proofs.Listing.{never_none, not_some}

-- ---- what an operation leaves

pub left_apart : (news os : List Owner) (o : Owner) → first_left news os ≡ Some o → IsIn o os × (IsIn o news → ⊥)
left_apart news [] o h = not_some o h
left_apart news (p ∷ os) o h = by (λ e. left_apart news os o e) (list_any (same_owner p) news) refl h
  where
    by : (first_left news os ≡ Some o → IsIn o os × (IsIn o news → ⊥)) → (b : Bool) → list_any (same_owner p) news ≡ b → (if b then first_left news os else Some p) ≡ Some o → IsIn o (p ∷ os) × (IsIn o news → ⊥)
    by rest true e g = let x = rest g in (inr x.0, x.1)
    by rest false e g = let same : p ≡ o = same_Some p o g in (inl (sym same), λ i. false≢true (sym e ∙ among p news (subst (λ z. IsIn z news) (sym same) i)))

left_one : (news : List Owner) (p : Owner) → IsIn p news ⊎ (first_left news (p ∷ []) ≡ Some p)
left_one news p = by (list_any (same_owner p) news) refl
  where
    by : (b : Bool) → list_any (same_owner p) news ≡ b → IsIn p news ⊎ ((if list_any (same_owner p) news then None else Some p) ≡ Some p)
    by true e = inl (any_owner_in p news e)
    by false e = inr (ap (λ b. if b then None else Some p) e)

-- all that the old row shared its new row shares too, or it is what is left
pub leaving_covers : (plan : Ports) (k : Key) (old new : Option Row) (o : Owner) → IsIn o (uses_of plan k old) → IsIn o (uses_of plan k new) ⊎ (leaving plan k old new ≡ Some o)
leaving_covers plan k old new o h = by (uses_short plan k old)
  where
    by : IsShort (uses_of plan k old) → IsIn o (uses_of plan k new) ⊎ (first_left (uses_of plan k new) (uses_of plan k old) ≡ Some o)
    by (inl e) = elim (subst (IsIn o) e h) [ ]
    by (inr (p, e)) = of (left_one (uses_of plan k new) p)
      where
        one : o ≡ p
        one = only (subst (IsIn o) e h)
          where
            only : IsIn o (p ∷ []) → o ≡ p
            only (inl same) = same
            only (inr none) = elim none [ ]

        of : IsIn p (uses_of plan k new) ⊎ (first_left (uses_of plan k new) (p ∷ []) ≡ Some p) → IsIn o (uses_of plan k new) ⊎ (first_left (uses_of plan k new) (uses_of plan k old) ≡ Some o)
        of (inl i) = inl (subst (λ z. IsIn z (uses_of plan k new)) (sym one) i)
        of (inr i) = inr (ap (first_left (uses_of plan k new)) e ∙ i ∙ ap Some (sym one))

-- ---- what it builds

is_absent : (st : NameState) (o p : Owner) (other : Option Owner) → absent_or o st other ≡ Some p → ((st ≡ state.Absent) × (o ≡ p)) ⊎ (other ≡ Some p)
is_absent state.Absent o p other h = inl (refl, same_Some o p h)
is_absent (state.Building w) o p other h = inr h
is_absent state.Live o p other h = inr h
is_absent (state.Retiring w) o p other h = inr h

pub absent_first : (names : Names) (os : List Owner) (o : Owner) → first_absent names os ≡ Some o → IsIn o os × (state_of names (name_for o) ≡ state.Absent)
absent_first names [] o h = not_some o h
absent_first names (p ∷ os) o h = by (λ e. absent_first names os o e) (is_absent (state_of names (name_for p)) p o (first_absent names os) h)
  where
    by : (first_absent names os ≡ Some o → IsIn o os × (state_of names (name_for o) ≡ state.Absent)) → ((state_of names (name_for p) ≡ state.Absent) × (p ≡ o)) ⊎ (first_absent names os ≡ Some o) → IsIn o (p ∷ os) × (state_of names (name_for o) ≡ state.Absent)
    by rest (inl x) = (inl (sym x.1), subst (λ z. state_of names (name_for z) ≡ state.Absent) x.1 x.0)
    by rest (inr e) = let x = rest e in (inr x.0, x.1)

not_absent : (st : NameState) (o : Owner) (other : Option Owner) → absent_or o st other ≡ None → (st ≡ state.Absent → ⊥) × (other ≡ None)
not_absent state.Absent o other h = never_none o h
not_absent (state.Building w) o other h = (λ e. cc, h)
not_absent state.Live o other h = (λ e. cc, h)
not_absent (state.Retiring w) o other h = (λ e. cc, h)

pub absent_none : (names : Names) (os : List Owner) (o : Owner) → first_absent names os ≡ None → IsIn o os → state_of names (name_for o) ≡ state.Absent → ⊥
absent_none names [] o h g e = g
absent_none names (p ∷ os) o h (inl same) e = (not_absent (state_of names (name_for p)) p (first_absent names os) h).0 (subst (λ z. state_of names (name_for z) ≡ state.Absent) same e)
absent_none names (p ∷ os) o h (inr g) e = absent_none names os o (not_absent (state_of names (name_for p)) p (first_absent names os) h).1 g e
