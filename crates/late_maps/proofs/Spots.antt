-- what the entry at a key's spot in chunks says of all entries
use Rattle.std.proofs.Common.{◌≡◌, ℕ, ◌≤◌, ◌<◌, List, length, None, Some, Ok, Err, sym, ap, subst, ◌∙◌}
use Rattle.std.specs.Prelude.{slice_index_or, slice_set}
use Rattle.std.specs.BTreeMap.{insert_entry, is_at}
use Rattle.std.specs.List.{insert, remove}
use Rattle.std.specs.Map.{lookup, remove_entry}
use Rattle.std.specs.declared.cmp.Ordering.{Ordering}
use Rattle.late_maps.specs.Chunks.{Chunks, IsRisingPlace, IsSpot, chunk_at, entries_of_chunks, with_chunk}
use Rattle.late_maps.specs.declared.chunks.Spot.{Spot}
use Rattle.late_maps.proofs.Edits.{with_chunk-same}
use Rattle.late_maps.proofs.Segments.{StandsIn, StandsIn-above, StandsIn-below, StandsIn-itself}

module _ {K X : Type 0} (cmp : K → K → Ordering) (k : K) (cs : Chunks (K × X)) (spot : Spot) (is : IsSpot cmp cs k spot) where
  -- the chunk stands in all
  pub stands : StandsIn cmp k cmp k (chunk_at cs spot.chunk) (with_chunk cs spot.chunk)
  stands = StandsIn-above (StandsIn-below (StandsIn-itself cmp k (chunk_at cs spot.chunk)) _ is.0) _ is.1

  found : lookup (is_at (cmp k)) (entries_of_chunks cs) ≡ lookup (is_at (cmp k)) (chunk_at cs spot.chunk)
  found = sym (stands.found ∙ ap (lookup (is_at (cmp k))) (with_chunk-same cs spot.chunk))

  put : (es new : List (K × X)) (v : X) → new ≡ with_chunk cs spot.chunk es → es ≡ insert_entry cmp (chunk_at cs spot.chunk) k v → new ≡ insert_entry cmp (entries_of_chunks cs) k v
  put es new v after so = after ∙ stands.put es v so ∙ ap (λ l. insert_entry cmp l k v) (with_chunk-same cs spot.chunk)

  -- where the key is there
  module _ (at : ℕ) (here : spot.at ≡ Ok at) where
    place : IsRisingPlace cmp (chunk_at cs spot.chunk) k (Ok at)
    place = subst (IsRisingPlace cmp (chunk_at cs spot.chunk) k) here is.2

    pub spot_within : at < length (chunk_at cs spot.chunk)
    spot_within = place.0

    pub spot_found : (d : K × X) → lookup (is_at (cmp k)) (entries_of_chunks cs) ≡ Some (slice_index_or (chunk_at cs spot.chunk) at d).1
    spot_found d = found ∙ place.1 d

    pub spot_set : (new : List (K × X)) (v : X) (d : K × X) → new ≡ with_chunk cs spot.chunk (slice_set (chunk_at cs spot.chunk) at ((slice_index_or (chunk_at cs spot.chunk) at d).0, v)) → new ≡ insert_entry cmp (entries_of_chunks cs) k v
    spot_set new v d after = put _ new v after (sym (place.2 v d))

    pub spot_removed : (new : List (K × X)) → new ≡ with_chunk cs spot.chunk (remove (chunk_at cs spot.chunk) at) → new ≡ remove_entry (is_at (cmp k)) (entries_of_chunks cs)
    spot_removed new after = after ∙ stands.removed _ (sym place.3) ∙ ap (remove_entry (is_at (cmp k))) (with_chunk-same cs spot.chunk)

  -- where it is not
  module _ (at : ℕ) (here : spot.at ≡ Err at) where
    gap : IsRisingPlace cmp (chunk_at cs spot.chunk) k (Err at)
    gap = subst (IsRisingPlace cmp (chunk_at cs spot.chunk) k) here is.2

    pub gap_within : at ≤ length (chunk_at cs spot.chunk)
    gap_within = gap.0

    pub gap_absent : lookup (is_at (cmp k)) (entries_of_chunks cs) ≡ None
    gap_absent = found ∙ gap.1

    pub gap_put : (new : List (K × X)) (v : X) → new ≡ with_chunk cs spot.chunk (insert (chunk_at cs spot.chunk) at (k, v)) → new ≡ insert_entry cmp (entries_of_chunks cs) k v
    gap_put new v after = put _ new v after (sym (gap.2 v))
