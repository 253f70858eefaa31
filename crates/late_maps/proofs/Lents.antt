-- what a value written through a reference into chunks makes of all entries
use Rattle.std.proofs.Common.{◌≡◌, ℕ, zero, suc, ◌<◌, Bool, List, [], ◌∷◌, length, None, Some, Ok, refl, sym, ap, subst, ◌∙◌, arith}
use Rattle.std.specs.Prelude.{slice_index_or, slice_set, Vec}
use Rattle.std.specs.Vec.{with_item}
use Rattle.std.specs.BTreeMap.{is_at}
use Rattle.std.specs.List.Sorted.{IsStrictlySortedBy}
use Rattle.std.specs.Map.{keys_of, lookup, set_value}
use Rattle.std.specs.declared.alloc.Global.{Global}
use Rattle.std.specs.declared.cmp.Ordering.{Ordering}
use Rattle.std.proofs.lemmas.List.{append-nil, length-set}
use Rattle.std.proofs.lemmas.Map.{keys-set_value, length-set_value, none_passes_from_lookup}
use Rattle.late_maps.specs.Chunks.{AreFilled, HaveRisingKeys, Chunks, IsRisingPlace, IsSpot, chunk_at, entries_of_chunks}
use Rattle.late_maps.specs.declared.chunks.Spot.{Spot}
use Rattle.late_maps.proofs.Edits.{at_within, chunk_within, entry_read, entries_of_chunks-edit, with_chunk-same}
use Rattle.late_maps.proofs.Ends.{set-past}
use Rattle.late_maps.proofs.Spots.{spot_found, spot_within, stands}

-- where a key has no value, none is written
pub set-absent : {K X : Type 0} (test : K → Bool) (es : List (K × X)) (w : X) → lookup test es ≡ None → set_value test es w ≡ es
set-absent test es w none = ap (λ l. set_value test l w) (sym (append-nil es)) ∙ set-past test es [] w (none_passes_from_lookup test es none) ∙ append-nil es

-- no chunk is empty with another in the place of one
filled-set : {A : Type 0} (cs : Chunks A) (i : ℕ) (c : Vec A Global) → AreFilled cs → 0 < length c.items → AreFilled (slice_set cs i c)
filled-set [] i c h some = tt
filled-set (x ∷ cs) zero c h some = (some, h.1)
filled-set (x ∷ cs) (suc i) c h some = (h.0, filled-set cs i c h.1 some)

module _ {K X : Type 0} (cmp : K → K → Ordering) (k : K) (cs seen : Chunks (K × X)) (value : seen ≡ cs) (spot : Spot) (seen_at : IsSpot cmp seen k spot) (at : ℕ) (here : spot.at ≡ Ok at) (c : Vec (K × X) Global) (read : c ≡ slice_index_or cs spot.chunk c) where
  is : IsSpot cmp cs k spot
  is = subst (λ l. IsSpot cmp l k spot) value seen_at

  within : at < length (chunk_at cs spot.chunk)
  within = spot_within cmp k cs spot is at here

  -- the place is one in the chunk that is lent
  pub lent-within : at < c.len
  lent-within = at_within cs spot.chunk at c read within

  there : spot.chunk < length cs
  there = chunk_within cs spot.chunk at within

  module _ (e : K × X) (entry : e ≡ slice_index_or c.items at e) where
    same : e ≡ slice_index_or (chunk_at cs spot.chunk) at e
    same = entry_read cs spot.chunk at c e e read within entry

    -- the value that is lent is the key's
    pub lent-found : Some e.1 ≡ lookup (is_at (cmp k)) (entries_of_chunks cs)
    lent-found = sym (spot_found cmp k cs spot is at here e ∙ ap (λ y. Some y.1) (sym same))

    module _ (w : X) where
      -- the key has the value that is written
      pub lent-set : entries_of_chunks (slice_set cs spot.chunk (with_item c at (e.0, w))) ≡ set_value (is_at (cmp k)) (entries_of_chunks cs) w
      lent-set =
          let place = subst (IsRisingPlace cmp (chunk_at cs spot.chunk) k) here is.2 in
          entries_of_chunks-edit cs spot.chunk c (with_item c at (e.0, w)) (λ l. slice_set l at (e.0, w)) there read refl
          ∙ (stands cmp k cs spot is).set _ w (ap (λ y. slice_set (chunk_at cs spot.chunk) at (y.0, w)) same ∙ sym (place.7 w e))
          ∙ ap (λ l. set_value (is_at (cmp k)) l w) (with_chunk-same cs spot.chunk)

      -- the keys rise as before, and there are as many
      pub lent-rising : (n : ℕ) → HaveRisingKeys cmp cs → n ≡ length (entries_of_chunks cs) → HaveRisingKeys cmp (slice_set cs spot.chunk (with_item c at (e.0, w))) × n ≡ length (entries_of_chunks (slice_set cs spot.chunk (with_item c at (e.0, w))))
      lent-rising n rising count =
          let some : 0 < length (slice_set c.items at (e.0, w)) = omega (arith, length-set c.items at (e.0, w), lent-within, c.ok.0) in (
            (subst (IsStrictlySortedBy cmp) (sym (ap keys_of lent-set ∙ keys-set_value (is_at (cmp k)) (entries_of_chunks cs) w)) rising.0, filled-set cs spot.chunk (with_item c at (e.0, w)) rising.1 some),
            count ∙ sym (ap length lent-set ∙ length-set_value (is_at (cmp k)) (entries_of_chunks cs) w),
          )
