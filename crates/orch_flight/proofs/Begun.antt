-- a name whose building began, and was taken back
use Rattle.std.proofs.Common.{◌≡◌, ℕ, Bool, true, cond, [], ◌∷◌, Some, None, refl, sym, ap, ap₂, ◌∙◌}
use Rattle.std.specs.BTreeMap.{insert_entry, is_at}
use Rattle.std.specs.Map.{remove_entry}
use Rattle.std.specs.declared.cmp.Ordering.{Ordering}
use Rattle.std.specs.declared.cmp.Ordering.TheVariants.{Less, Equal, Greater}
use Rattle.std.proofs.lemmas.Cmp.{tied_itself}
use Rattle.std.proofs.lemmas.Option.{none-some}
use Rattle.table_schema.proofs.Places.{find_step, out_step, put_step}
use Rattle.ref_counts.specs.declared.name.Name.{Name}
use Rattle.ref_counts.specs.declared.name.NameState.TheVariants as state
use Rattle.ref_counts.specs.Registered.{Registered, begun, begun_to_go, made_live}
use Rattle.ref_counts.specs.Registry.{Names, changed, gone_from, is_retiring, registered_name_cmp, registered_at, state_in, state_of}
use Rattle.ref_counts.proofs.Changing.{changed-absent, changed_step, name_total}
use Rattle.ref_counts.proofs.Found.{found-put}

module _ (n : Name) where
  here : (r : Registered) (es : Names) → registered_name_cmp n n ≡ Equal → remove_entry (is_at (registered_name_cmp n)) ((n, r) ∷ es) ≡ es
  here r es h = out_step registered_name_cmp (n, r) es n Equal h

  not_there : (e : Name × Registered) (es : Names) → registered_name_cmp n e.0 ≡ Equal → registered_at (e ∷ es) n ≡ None → ⊥
  not_there e es is none = none-some e.1 (sym none ∙ find_step registered_name_cmp e es n Equal is)

  -- what is put under a name that was not there, and removed, leaves all as it was
  pub put-removed : (r : Registered) (names : Names) → registered_at names n ≡ None → remove_entry (is_at (registered_name_cmp n)) (insert_entry registered_name_cmp names n r) ≡ names
  put-removed r [] none = here r [] (tied_itself name_total n)
  put-removed r (e ∷ es) none =
      let rest = put-removed r es in
      let by : (o : Ordering) → registered_name_cmp n e.0 ≡ o → remove_entry (is_at (registered_name_cmp n)) (insert_entry registered_name_cmp (e ∷ es) n r) ≡ e ∷ es =
      λ o. elim o as (λ o. registered_name_cmp n e.0 ≡ o → remove_entry (is_at (registered_name_cmp n)) (insert_entry registered_name_cmp (e ∷ es) n r) ≡ e ∷ es) [
        | Less ↦ λ is. ap (remove_entry (is_at (registered_name_cmp n))) (put_step registered_name_cmp e es n r Less is) ∙ here r (e ∷ es) (tied_itself name_total n)
        | Equal ↦ λ is. absurd (not_there e es is none)
        | Greater ↦ λ is. ap (remove_entry (is_at (registered_name_cmp n))) (put_step registered_name_cmp e es n r Greater is) ∙ out_step registered_name_cmp e (insert_entry registered_name_cmp es n r) n Greater is ∙ ap (λ l. e ∷ l) (rest (sym (find_step registered_name_cmp e es n Greater is) ∙ none))
      ] in
      by (registered_name_cmp n e.0) refl

  -- a change of what was put under a name that was not there
  pub put-changed : (f : Registered → Registered) (r : Registered) (names : Names) → registered_at names n ≡ None → changed (insert_entry registered_name_cmp names n r) n f ≡ insert_entry registered_name_cmp names n (f r)
  put-changed f r [] none = ap (λ x. x ∷ []) (changed_step n f (n, r) Equal (tied_itself name_total n))
  put-changed f r (e ∷ es) none =
      let rest = put-changed f r es in
      let same : e ∷ es ≡ changed (e ∷ es) n f = changed-absent n f (e ∷ es) none in
      let by : (o : Ordering) → registered_name_cmp n e.0 ≡ o → changed (insert_entry registered_name_cmp (e ∷ es) n r) n f ≡ insert_entry registered_name_cmp (e ∷ es) n (f r) =
      λ o. elim o as (λ o. registered_name_cmp n e.0 ≡ o → changed (insert_entry registered_name_cmp (e ∷ es) n r) n f ≡ insert_entry registered_name_cmp (e ∷ es) n (f r)) [
        | Less ↦ λ is. ap (λ l. changed l n f) (put_step registered_name_cmp e es n r Less is) ∙ ap₂ (λ x xs. x ∷ xs) (changed_step n f (n, r) Equal (tied_itself name_total n)) (sym same) ∙ sym (put_step registered_name_cmp e es n (f r) Less is)
        | Equal ↦ λ is. absurd (not_there e es is none)
        | Greater ↦ λ is. ap (λ l. changed l n f) (put_step registered_name_cmp e es n r Greater is) ∙ ap₂ (λ x xs. x ∷ xs) (changed_step n f e Greater is) (rest (sym (find_step registered_name_cmp e es n Greater is) ∙ none)) ∙ sym (put_step registered_name_cmp e es n (f r) Greater is)
      ] in
      by (registered_name_cmp n e.0) refl

  gone_step : (names : Names) (b : Bool) → is_retiring (state_of names n) ≡ b → gone_from names n ≡ cond b (remove_entry (is_at (registered_name_cmp n)) names) names
  gone_step names b h = ap (λ b. cond b (remove_entry (is_at (registered_name_cmp n)) names) names) h

  -- what was begun, made live, and taken away again
  pub begun-ended : (worker vids : ℕ) (names : Names) → registered_at names n ≡ None → gone_from (changed (changed (insert_entry registered_name_cmp names n (begun worker vids)) n (made_live [])) n (begun_to_go worker)) n ≡ names
  begun-ended worker vids names none =
      let r : Registered = begun_to_go worker (made_live [] (begun worker vids)) in
      let put : changed (changed (insert_entry registered_name_cmp names n (begun worker vids)) n (made_live [])) n (begun_to_go worker) ≡ insert_entry registered_name_cmp names n r =
      ap (λ l. changed l n (begun_to_go worker)) (put-changed (made_live []) (begun worker vids) names none) ∙ put-changed (begun_to_go worker) (made_live [] (begun worker vids)) names none in
      ap (λ l. gone_from l n) put
      ∙ gone_step (insert_entry registered_name_cmp names n r) true (ap (λ o. is_retiring (state_in o)) (found-put names n r))
      ∙ put-removed r names none

  -- what is known of what was begun and made live
  pub built-found : (worker vids : ℕ) (names : Names) → registered_at names n ≡ None → registered_at (changed (insert_entry registered_name_cmp names n (begun worker vids)) n (made_live [])) n ≡ Some (made_live [] (begun worker vids))
  built-found worker vids names none = ap (λ l. registered_at l n) (put-changed (made_live []) (begun worker vids) names none) ∙ found-put names n (made_live [] (begun worker vids))

-- the state of what begins to be built
pub begun-state : (new names : Names) (n m : Name) (worker vids : ℕ) → m ≡ n → new ≡ insert_entry registered_name_cmp names m (begun worker vids) → state_of new n ≡ state.Building worker
begun-state new names n m worker vids same is =
    ap (λ l. state_of l n) is ∙ ap (λ m. state_of (insert_entry registered_name_cmp names m (begun worker vids)) n) same ∙ ap state_in (found-put names n (begun worker vids))
