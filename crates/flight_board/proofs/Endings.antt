-- what an end finds of a name, when users and pins have gone
use Rattle.std.proofs.Common.{◌≡◌, ◌∷◌, ◌∙◌, ℕ, Bool, true, false, cond, List, [], Option, None, Some, IsSome, option_map, refl, sym, ap, ap₂, subst}
use Rattle.std.proofs.lemmas.Bool.{false≢true}
use Rattle.std.specs.BTreeMap.{is_at}
use Rattle.table_schema.specs.declared.key.Key.{Key}
use Rattle.table_schema.specs.declared.row.Row.{Row as BareRow}
use Rattle.sai_types.specs.declared.ids.Vid.{Vid}
use Rattle.switch_model.specs.Placed.{Placed as Row, bare}
use Rattle.ref_counts.specs.declared.name.Name.{Name}
use Rattle.ref_counts.specs.declared.name.Name.TheVariants as name
use Rattle.ref_counts.specs.declared.name.NameState.{NameState}
use Rattle.ref_counts.specs.declared.name.NameState.TheVariants as state
use Rattle.ref_counts.specs.Registered.{Registered, released, without_user}
use Rattle.ref_counts.specs.Registry.{Names, all_released, changed, changed_at, ids_by, ids_in, ids_of, registered_at, registered_name_cmp, state_in, state_of}
use Rattle.ref_counts.proofs.Found.{found-released}
use Rattle.registry_laws.specs.Ending.{MayEnd, users_dropped}

-- how a name stands, with its identifiers
abbrev Known : Type 0
Known = NameState × List Vid

abbrev known : Registered → Known
known r = (r.state, r.ids)

abbrev known_at : Names → Name → Option Known
known_at names n = option_map known (registered_at names n)

known_step : (e : Name × Registered) (es : Names) (n : Name) (b : Bool) → is_at (registered_name_cmp n) e.0 ≡ b → known_at (e ∷ es) n ≡ cond b (Some (known e.1)) (known_at es n)
known_step e es n true h = ap (λ b. option_map known (cond b (Some e.1) (registered_at es n))) h
known_step e es n false h = ap (λ b. option_map known (cond b (Some e.1) (registered_at es n))) h

module _ (m : Name) (f : Registered → Registered) (keeps : (r : Registered) → known (f r) ≡ known r) where
  at_known : (e : Name × Registered) → known (changed_at m f e).1 ≡ known e.1
  at_known e = elim (is_at (registered_name_cmp m) e.0) as (λ b. known (cond b (e.0, f e.1) e).1 ≡ known e.1) [ true ↦ keeps e.1 | false ↦ refl ]

  at_name : (e : Name × Registered) → (changed_at m f e).0 ≡ e.0
  at_name e = elim (is_at (registered_name_cmp m) e.0) as (λ b. (cond b (e.0, f e.1) e).0 ≡ e.0) [ true ↦ refl | false ↦ refl ]

  known_changed : (names : Names) (n : Name) → known_at (changed names m f) n ≡ known_at names n
  known_changed [] n = refl
  known_changed (e ∷ es) n =
      let rest = known_changed es n in
      let by : (b : Bool) → is_at (registered_name_cmp n) e.0 ≡ b → known_at (changed (e ∷ es) m f) n ≡ known_at (e ∷ es) n =
      λ b. λ is. known_step (changed_at m f e) (changed es m f) n b (ap (is_at (registered_name_cmp n)) (at_name e) ∙ is) ∙ ap₂ (λ s o. cond b (Some s) o) (at_known e) rest ∙ sym (known_step e es n b is) in
      by (is_at (registered_name_cmp n) e.0) refl

known_dropped : (k : Key) (ks : List Key) (names : Names) (n : Name) → known_at (users_dropped names k ks) n ≡ known_at names n
known_dropped k [] names n = refl
known_dropped k (p ∷ ps) names n = known_dropped k ps (changed names (name.Row p) (without_user k)) n ∙ known_changed (name.Row p) (without_user k) (λ r. refl) names n

known_released : (w : ℕ) (names : Names) (n : Name) → known_at (all_released w true names) n ≡ known_at names n
known_released w names n = ap (option_map known) (found-released names w true n) ∙ by (registered_at names n)
  where
    by : (o : Option Registered) → option_map known (option_map (released w true) o) ≡ option_map known o
    by None = refl
    by (Some r) = refl

abbrev state_by : Option Known → NameState
state_by None = state.Absent
state_by (Some x) = x.0

abbrev ids_known : Option Known → List Vid
ids_known None = []
ids_known (Some x) = ids_by x.0 x.1

state_told : (o : Option Registered) → state_in o ≡ state_by (option_map known o)
state_told None = refl
state_told (Some r) = refl

ids_told : (o : Option Registered) → ids_in o ≡ ids_known (option_map known o)
ids_told None = refl
ids_told (Some r) = refl

-- the names when users and pins have gone
module _ (names later : Names) (w : ℕ) (k : Key) (ks : List Key) (is : later ≡ all_released w true (users_dropped names k ks)) where
  known_later : (n : Name) → known_at later n ≡ known_at names n
  known_later n = ap (λ l. known_at l n) is ∙ known_released w (users_dropped names k ks) n ∙ known_dropped k ks names n

  state_later : (n : Name) → state_of later n ≡ state_of names n
  state_later n = state_told (registered_at later n) ∙ ap state_by (known_later n) ∙ sym (state_told (registered_at names n))

  ids_later : (n : Name) → ids_of later n ≡ ids_of names n
  ids_later n = ids_told (registered_at later n) ∙ ap ids_known (known_later n) ∙ sym (ids_told (registered_at names n))

  -- a name that comes back may do so
  pub may-come : (new : Option Row) (target : Option BareRow) (n : Name) → n ≡ name.Row k → target ≡ option_map bare new → MayEnd names w k new → IsSome target → (v : ℕ) → state_of later n ≡ state.Retiring v → (v ≡ w) × (ids_of later n ≡ [])
  may-come None target n named is_target may some v retires = absurd (false≢true (subst (λ o. IsSome o) is_target some))
  may-come (Some r) target n named is_target may some v retires =
      let at = ap (state_of names) (sym named) ∙ sym (state_later n) ∙ retires in
      let (same, none) = may v at in
      (same, ids_later n ∙ ap (ids_of names) named ∙ none)
