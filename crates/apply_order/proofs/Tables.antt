-- tables of partners
use Rattle.std.proofs.Common.{◌≡◌, ◌<◌, ◌≤◌, ℕ, zero, suc, Bool, true, false, cond, List, [], ◌∷◌, ◌++◌, length, set, get_or, Option, None, Some, refl, sym, ap, ◌∙◌, subst, arith}
use Rattle.std.specs.BTreeMap.{insert_entry, is_at}
use Rattle.std.specs.Cmp.{eq_by_cmp_equiv}
use Rattle.std.specs.List.{slice_get}
use Rattle.std.specs.Ordering.{nat_cmp}
use Rattle.std.proofs.lemmas.Bool.{false≢true}
use Rattle.std.proofs.lemmas.Cmp.{nat_cmp_total}
use Rattle.std.proofs.lemmas.List.{get_or-set_other, get_or-set_same, length-set}
use Rattle.std.proofs.lemmas.Map.Lookups.{exact_unsigned}
use Rattle.std.proofs.lemmas.Map.Views.{tells_apart}
use Rattle.std.proofs.lemmas.Option.{slice_get-get_or}
use Rattle.swss_types.proofs.Maps.{lookup-insert_entry}
use Rattle.apply_order.specs.Places.{IsTable, Places, partner_at}

abbrev pub AreNone : List (Option ℕ) → Type 0
AreNone table = (place : ℕ) → place < length table → slice_get table place ≡ Some None

pub none-more : (table : List (Option ℕ)) → AreNone table → AreNone (table ++ None ∷ [])
none-more [] h zero w = refl
none-more [] h (suc n) w = absurd (omega (arith, w))
none-more (x ∷ table) h zero w = h 0 (omega arith)
none-more (x ∷ table) h (suc n) w = none-more table (λ m v. h (suc m) (omega (arith, v))) n (omega (arith, w))

same_place : (j i : ℕ) → is_at (nat_cmp j) i ≡ true → j ≡ i
same_place j i h = tells_apart exact_unsigned j i h

not_same : (j i : ℕ) → is_at (nat_cmp j) i ≡ false → j ≡ i → ⊥
not_same j i e same = false≢true (sym e ∙ ap (λ n. is_at (nat_cmp n) i) same ∙ (eq_by_cmp_equiv nat_cmp_total).refl i)

module _ (places : Places) (table : List (Option ℕ)) (i p : ℕ) (is : IsTable places table) where
  later : (j : ℕ) → Some (partner_at (insert_entry nat_cmp places i p) j) ≡ Some (cond (is_at (nat_cmp j) i) (Some p) (partner_at places j))
  later j = ap Some (lookup-insert_entry nat_cmp nat_cmp_total places i p j)

  pub put-table : i < length table → IsTable (insert_entry nat_cmp places i p) (set table i (Some p))
  put-table within = record {
    each = λ j w.
        let known : j < length table = subst (λ n. j < n) (length-set table i (Some p)) w in
        slice_get-get_or (set table i (Some p)) j None w ∙ by j known (is_at (nat_cmp j) i) refl ∙ sym (later j);
  }
    where
      by : (j : ℕ) → j < length table → (b : Bool) → is_at (nat_cmp j) i ≡ b → Some (get_or (set table i (Some p)) j None) ≡ Some (cond b (Some p) (partner_at places j))
      by j w true e = ap Some (ap (λ n. get_or (set table i (Some p)) n None) (same_place j i e) ∙ get_or-set_same table i (Some p) None within)
      by j w false e = ap Some (get_or-set_other table i j (Some p) None (not_same j i e)) ∙ sym (slice_get-get_or table j None w) ∙ is.each j w

  pub left-table : length table ≤ i → IsTable (insert_entry nat_cmp places i p) table
  left-table past = record { each = λ j w. is.each j w ∙ by j w (is_at (nat_cmp j) i) refl ∙ sym (later j) }
    where
      by : (j : ℕ) → j < length table → (b : Bool) → is_at (nat_cmp j) i ≡ b → Some (partner_at places j) ≡ Some (cond b (Some p) (partner_at places j))
      by j w true e = let same = same_place j i e in absurd (omega (arith, past, w, same))
      by j w false e = refl
