-- pairs that were put are taken back
use Rattle.std.proofs.Common.{◌≡◌, ◌∷◌, [], ◌++◌, List, ℕ, Option, None, Some, Result, Ok, Err, Bor, refl, sym, ap, ◌∙◌, subst, slice_index_or, slice_set}
use Rattle.std.specs.BTreeMap.{is_at}
use Rattle.std.specs.List.{remove}
use Rattle.std.proofs.lemmas.Cmp.{nat_list_cmp_total}
use Rattle.table_schema.specs.Fields.{Pairs, by_bytes, HasRisingNames, IsPlace, restored, taken_back, value_of, with_pair}
use Rattle.table_schema.proofs.Restored.{set-put, set-after_put, remove-after_put, remove-none, set-none, HasRisingKeys-set_value}
use Rattle.table_schema.proofs.RowLists.{HasRisingKeys-remove_entry}

-- a put that is taken back
restored-by : (pairs : Pairs) (name value : List ℕ) (was : Option (List ℕ)) → HasRisingNames pairs → value_of name pairs ≡ was → restored (with_pair pairs name value) name was ≡ pairs
restored-by pairs name value None h is = remove-after_put by_bytes nat_list_cmp_total pairs name value is
restored-by pairs name value (Some there) h is = set-after_put by_bytes nat_list_cmp_total pairs name value there h is

pub HasRisingNames-restored : (pairs : Pairs) (name : List ℕ) (was : Option (List ℕ)) → HasRisingNames pairs → HasRisingNames (restored pairs name was)
HasRisingNames-restored pairs name None h = HasRisingKeys-remove_entry by_bytes (is_at (by_bytes name)) pairs h
HasRisingNames-restored pairs name (Some value) h = HasRisingKeys-set_value (is_at (by_bytes name)) by_bytes pairs value h

-- the last put is taken back first
pub taken_back-last : (pairs : Pairs) (puts : List (Bor (List ℕ) × Option (List ℕ))) (put : Bor (List ℕ) × Option (List ℕ)) → taken_back pairs (puts ++ put ∷ []) ≡ taken_back (restored pairs put.0.now put.1) puts
taken_back-last pairs [] put = refl
taken_back-last pairs (other ∷ puts) put = ap (λ l. restored l other.0.now other.1) (taken_back-last pairs puts put)

-- one put more, and then all taken back
pub taken_back-put : (pairs : Pairs) (puts : List (Bor (List ℕ) × Option (List ℕ))) (name : Bor (List ℕ)) (value : List ℕ) → HasRisingNames pairs → taken_back (with_pair pairs name.now value) (puts ++ (name, value_of name.now pairs) ∷ []) ≡ taken_back pairs puts
taken_back-put pairs puts name value h = taken_back-last (with_pair pairs name.now value) puts (name, value_of name.now pairs) ∙ ap (λ l. taken_back l puts) (restored-by pairs name.now value (value_of name.now pairs) h refl)

-- taking back at the place of a name
module _ (pairs : Pairs) (name : List ℕ) (place : Result ℕ ℕ) (was : Option (List ℕ)) (at : ℕ) (h : IsPlace pairs name place) where
  pub set-at : (v : List ℕ) (e : List ℕ × List ℕ) → HasRisingNames pairs → place ≡ Ok at → was ≡ Some v → e ≡ slice_index_or pairs at e → slice_set pairs at (e.0, v) ≡ restored pairs name was
  set-at v e rising is some found =
      let here : IsPlace pairs name (Ok at) = subst (IsPlace pairs name) is h in
      ap (λ x. slice_set pairs at (x.0, v)) found ∙ sym (here.2 v e) ∙ sym (set-put by_bytes nat_list_cmp_total pairs name v (slice_index_or pairs at e).1 rising (here.1 e)) ∙ ap (restored pairs name) (sym some)

  pub remove-at : place ≡ Ok at → was ≡ None → remove pairs at ≡ restored pairs name was
  remove-at is none =
      let here : IsPlace pairs name (Ok at) = subst (IsPlace pairs name) is h in
      sym here.3 ∙ ap (restored pairs name) (sym none)

  restored-none : (was : Option (List ℕ)) → value_of name pairs ≡ None → restored pairs name was ≡ pairs
  restored-none None none = remove-none (is_at (by_bytes name)) pairs none
  restored-none (Some v) none = set-none (is_at (by_bytes name)) pairs v none

  pub nothing-at : place ≡ Err at → pairs ≡ restored pairs name was
  nothing-at is =
      let here : IsPlace pairs name (Err at) = subst (IsPlace pairs name) is h in
      sym (restored-none was here.1)
