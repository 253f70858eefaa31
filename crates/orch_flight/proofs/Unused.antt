-- what is ready to be shared and does not come to be used is not there, and nothing changes
use Rattle.std.proofs.Common.{◌≡◌, ◌↔◌, ℕ, Bool, true, false, IsTrue, OnOk, OnErr, Option, Some, None, Result, option_map, refl, sym, ap, ◌∙◌, subst}
use Rattle.std.proofs.lemmas.Bool.{false≢true}
use Rattle.table_schema.specs.declared.key.Key.{Key}
use Rattle.ref_counts.specs.declared.name.Name.{Name}
use Rattle.ref_counts.specs.declared.name.NameState.TheVariants as state
use Rattle.ref_counts.specs.Registered.{Registered, with_user}
use Rattle.ref_counts.specs.Registry.{Names, changed, registered_at, state_in, state_of}
use Rattle.ref_counts.proofs.Changing.{changed-absent}
use Rattle.orch_flight.specs.Sharing.{IsLiveOrAbsent, IsNameReady, is_absent, lacks_shared, with_shared, with_shared_begun}

module _ (names new : Names) (n : Name) (k : Key) (there : Bool) (ready : IsNameReady names (Some n)) (tells : IsTrue there ↔ (state_of names n ≡ state.Absent → ⊥)) (is : new ≡ changed names n (with_user k)) (not : there ≡ false) where
  none : registered_at names n ≡ None
  none = by (registered_at names n) refl
    where
      live_not : state.Live ≡ state.Absent → ⊥
      live_not h = cc

      by : (x : Option Registered) → registered_at names n ≡ x → registered_at names n ≡ None
      by None e = e
      by (Some r) e =
          let live : r.state ≡ state.Live = subst (λ x. IsLiveOrAbsent (option_map (λ r. r.state) x)) e ready.1 in
          absurd (false≢true (sym not ∙ tells.1 (λ absent. live_not (sym live ∙ (sym (ap state_in e) ∙ absent)))))

  same : new ≡ names
  same = is ∙ sym (changed-absent n (with_user k) names none)

  pub unused-none : registered_at new n ≡ None
  unused-none = ap (λ l. registered_at l n) same ∙ none

  -- what is built then is built beside the names as they were
  pub unused-built : {A E : Type 0} (later : Names) (worker : ℕ) (r : Result A E) → OnOk r (later ≡ changed (with_shared_begun new worker n true) n (with_user k)) → OnOk r (later ≡ with_shared names worker k (Some n) (lacks_shared names (Some n)))
  unused-built later worker r h =
      subst (λ b. OnOk r (later ≡ with_shared names worker k (Some n) b)) (sym (ap (λ x. is_absent (state_in x)) none)) (subst (λ l. OnOk r (later ≡ changed (with_shared_begun l worker n true) n (with_user k))) same h)

  pub unused-same : {A E : Type 0} (later : Names) (r : Result A E) → OnErr r (later ≡ new) → OnErr r (later ≡ names)
  unused-same later r h = subst (λ l. OnErr r (later ≡ l)) same h
