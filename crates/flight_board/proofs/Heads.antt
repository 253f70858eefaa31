-- the first of some keys, where it is not applied, is the first of them that is not
use Rattle.std.proofs.Common.{◌≡◌, List, [], ◌∷◌, None, Some, Option, slice_get, sym, subst}
use Rattle.std.proofs.lemmas.Option.{none-some}
use Rattle.table_schema.specs.declared.key.Key.{Key}
use Rattle.ref_counts.specs.declared.name.Name.TheVariants as name
use Rattle.ref_counts.specs.declared.name.NameState.{NameState}
use Rattle.ref_counts.specs.declared.name.NameState.TheVariants as state
use Rattle.ref_counts.specs.Registry.{Names, state_of}
use Rattle.orch_flight.specs.Needing.{first_unapplied, unapplied_or}
use Rattle.orch_flight.specs.Taking.{to_list}

pub head-unapplied : (names : Names) (ks : List Key) (o : Option Key) (k : Key) → o ≡ slice_get ks 0 → first_unapplied names (to_list o) ≡ Some k → first_unapplied names ks ≡ Some k
head-unapplied names [] None k e h = h
head-unapplied names [] (Some q) k e h = absurd (none-some q (sym e))
head-unapplied names (q ∷ ks) o k e h = by (state_of names (name.Row q)) (subst (λ o. first_unapplied names (to_list o) ≡ Some k) e h)
  where
    by : (st : NameState) → unapplied_or q st None ≡ Some k → unapplied_or q st (first_unapplied names ks) ≡ Some k
    by state.Absent h = h
    by (state.Building v) h = h
    by state.Live h = absurd (none-some k h)
    by (state.Retiring v) h = absurd (none-some k h)
