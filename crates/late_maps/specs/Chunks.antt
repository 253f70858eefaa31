-- Entries in chunks, as one list. Own.
use Rattle.std.specs.Prelude.{◌≡◌, ℕ, zero, suc, ◌<◌, ◌≤◌, List, [], ◌∷◌, ◌++◌, length, take, drop, slice_index_or, slice_set, Result, Ok, Err, None, Some, Vec}
use Rattle.std.specs.BTreeMap.{insert_entry, is_at}
use Rattle.std.specs.List.{AllByRecursion, insert, remove}
use Rattle.std.specs.List.Sorted.{IsStrictlySortedBy}
use Rattle.std.specs.Map.{keys_of, lookup, remove_entry, set_value}
use Rattle.std.specs.declared.alloc.Global.{Global}
use Rattle.std.specs.declared.cmp.Ordering.{Ordering}
use Rattle.std.specs.declared.cmp.Ordering.TheVariants.{Less, Equal, Greater}
use Rattle.late_maps.specs.declared.chunks.Place.{Place}
use Rattle.late_maps.specs.declared.chunks.Spot.{Spot}

-- chunks of entries
abbrev pub Chunks : Type 0 → Type 0
Chunks A = List (Vec A Global)

-- their entries, those of each chunk behind those of the chunk before it
abbrev pub entries_of_chunks : {A : Type 0} → Chunks A → List A
entries_of_chunks [] = []
entries_of_chunks (c ∷ cs) = c.items ++ entries_of_chunks cs

-- the entries of the chunk at a place: none where there is no chunk
abbrev pub chunk_at : {A : Type 0} → Chunks A → ℕ → List A
chunk_at [] i = []
chunk_at (c ∷ cs) zero = c.items
chunk_at (c ∷ cs) (suc i) = chunk_at cs i

-- all entries, with these in the place of those of a chunk
abbrev pub with_chunk : {A : Type 0} → Chunks A → ℕ → List A → List A
with_chunk cs i es = entries_of_chunks (take i cs) ++ es ++ entries_of_chunks (drop (suc i) cs)

-- what is left of the entries of some chunks: of one, and of whole ones behind it
abbrev pub rest_of : {A : Type 0} → List A → Chunks A → List A
rest_of front cs = front ++ entries_of_chunks cs

-- no chunk is empty
abbrev pub AreFilled : {A : Type 0} → Chunks A → Type 0
AreFilled cs = AllByRecursion (λ c. 0 < length c.items) cs

-- the keys rise over all chunks, of which none is empty
abbrev pub HaveRisingKeys : {K X : Type 0} → (K → K → Ordering) → Chunks (K × X) → Type 0
HaveRisingKeys cmp cs = IsStrictlySortedBy cmp (keys_of (entries_of_chunks cs)) × AreFilled cs

-- where a key stands among rising entries, or where an entry with it is to be put: the keys before that place are lesser,
-- and those behind it greater
abbrev pub IsRisingPlace : {K X : Type 0} → (K → K → Ordering) → List (K × X) → K → Result ℕ ℕ → Type 0
IsRisingPlace {K} {X} cmp es k (Ok at) = (at < length es) × ((d : K × X) → lookup (is_at (cmp k)) es ≡ Some (slice_index_or es at d).1) × ((v : X) (d : K × X) → insert_entry cmp es k v ≡ slice_set es at ((slice_index_or es at d).0, v)) × (remove_entry (is_at (cmp k)) es ≡ remove es at) × AllByRecursion (λ e. cmp k e.0 ≡ Greater) (take at es) × AllByRecursion (λ e. cmp k e.0 ≡ Less) (drop (suc at) es) × ((d : K × X) → cmp k (slice_index_or es at d).0 ≡ Equal) × ((v : X) (d : K × X) → set_value (is_at (cmp k)) es v ≡ slice_set es at ((slice_index_or es at d).0, v))
IsRisingPlace {K} {X} cmp es k (Err at) = (at ≤ length es) × (lookup (is_at (cmp k)) es ≡ None) × ((v : X) → insert_entry cmp es k v ≡ insert es at (k, v)) × AllByRecursion (λ e. cmp k e.0 ≡ Greater) (take at es) × AllByRecursion (λ e. cmp k e.0 ≡ Less) (drop at es)

-- how a key compares to the one at a place where there is one
abbrev pub IsOrderAt : {K X : Type 0} → (K → K → Ordering) → Chunks (K × X) → Place → K → Ordering → Type 0
IsOrderAt {K} {X} cmp cs place k r = (place.chunk < length cs) × (place.at < length (chunk_at cs place.chunk)) × ((d : K × X) → r ≡ cmp k (slice_index_or (chunk_at cs place.chunk) place.at d).0)

-- a key stands in a chunk, or is to be put there: all entries of the chunks before it have lesser keys, and those of the
-- chunks behind it greater ones
abbrev pub IsSpot : {K X : Type 0} → (K → K → Ordering) → Chunks (K × X) → K → Spot → Type 0
IsSpot cmp cs k spot = AllByRecursion (λ e. cmp k e.0 ≡ Greater) (entries_of_chunks (take spot.chunk cs)) × AllByRecursion (λ e. cmp k e.0 ≡ Less) (entries_of_chunks (drop (suc spot.chunk) cs)) × IsRisingPlace cmp (chunk_at cs spot.chunk) k spot.at × (0 < length cs → spot.chunk < length cs)
