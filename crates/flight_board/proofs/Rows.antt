-- what stands in a key's place after a change of its map
use Rattle.std.proofs.Common.{◌≡◌, Bool, true, false, cond, Option, None, Some, IsSome, is_some, option_map, refl, sym, ap, subst, ◌∙◌}
use Rattle.std.proofs.lemmas.Bool.{false≢true}
use Rattle.std.proofs.lemmas.Map.{lookup-set_value}
use Rattle.std.specs.BTreeMap.{insert_entry, is_at}
use Rattle.std.specs.Cmp.{eq_by_cmp_equiv}
use Rattle.std.specs.List.Sorted.{IsStrictlySortedBy}
use Rattle.std.specs.Map.{keys_of, remove_entry, set_value}
use Rattle.swss_types.proofs.Maps.{lookup-insert_entry}
use Rattle.sai_types.proofs.Maps.{lookup-removed}
use Rattle.table_schema.specs.Key.{key_cmp}
use Rattle.table_schema.specs.declared.key.Key.{Key}
use Rattle.table_schema.specs.declared.row.Row.{Row}
use Rattle.table_schema.proofs.Keys.{at_itself, key_total, tied_keys_same}
use Rattle.flight_board.specs.Applied.{Entries, HasPlace, HasSameRows, KeepsOthers, SetsPlace, place_at, row_at, row_in}

-- what changes of a map do to the places
module _ (es : Entries) (k : Key) where
  pub place_put : (v : Option Row) → SetsPlace k (Some v) es (insert_entry key_cmp es k v)
  place_put v q = lookup-insert_entry key_cmp key_total es k v q ∙ ap (λ b. cond b (Some v) (place_at es q)) ((eq_by_cmp_equiv key_total).symm q k)

  pub place_removed : IsStrictlySortedBy key_cmp (keys_of es) → SetsPlace k None es (remove_entry (is_at (key_cmp k)) es)
  place_removed sorted q = lookup-removed key_cmp key_total es k q sorted

  pub place_set : (v : Option Row) → HasPlace es k → SetsPlace k (Some v) es (set_value (is_at (key_cmp k)) es v)
  place_set v there q = lookup-set_value (eq_by_cmp_equiv key_total) (is_at (key_cmp k)) (λ x y same. (eq_by_cmp_equiv key_total).congr k x y same) q v es there

-- a change of one place leaves the others
module _ (k : Key) (w : Option (Option Row)) (old new : Entries) (h : SetsPlace k w old new) where
  pub set-own : place_at new k ≡ w
  set-own = h k ∙ ap (λ b. cond b w (place_at old k)) (at_itself k k refl)

  other-place : (q : Key) → (q ≡ k → ⊥) → place_at new q ≡ place_at old q
  other-place q apart = by (is_at (key_cmp k) q) refl
    where
      by : (b : Bool) → is_at (key_cmp k) q ≡ b → place_at new q ≡ place_at old q
      by true e = absurd (apart (sym (tied_keys_same k q e)))
      by false e = h q ∙ ap (λ b. cond b w (place_at old q)) e

  pub set-others : KeepsOthers k old new
  set-others = record {
    rows = λ q apart. ap row_in (other-place q apart);
    places = λ q apart there. subst (λ o. IsSome o) (sym (other-place q apart)) there;
  }

  -- and all rows, where its own row stays
  pub set-rows : row_in w ≡ row_at old k → HasSameRows old new
  set-rows same q = by (is_at (key_cmp k) q) refl
    where
      by : (b : Bool) → is_at (key_cmp k) q ≡ b → row_at new q ≡ row_at old q
      by true e = ap row_in (h q ∙ ap (λ b. cond b w (place_at old q)) e) ∙ same ∙ ap (row_at old) (tied_keys_same k q e)
      by false e = ap row_in (h q ∙ ap (λ b. cond b w (place_at old q)) e)

pub no-row : {X : Type 0} (o : Option X) (f : X → Row) → is_some o ≡ false → option_map f o ≡ None
no-row None f e = refl
no-row (Some x) f e = absurd (false≢true (sym e))
