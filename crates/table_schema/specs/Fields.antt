-- The fields of a row: pairs of a name and a value, in the byte order of their names (SWSS schema).
use denote.Ref.{Bor}
use Rattle.std.specs.Prelude.{◌≡◌, ℕ, ◌<◌, ◌≤◌, List, [], ◌∷◌, length, slice_index_or, slice_set, Option, Some, None, Result, Ok, Err}
use Rattle.std.specs.BTreeMap.{insert_entry, is_at}
use Rattle.std.specs.Cmp.Lexicographic.{slice_cmp}
use Rattle.std.specs.List.{AllByRecursion, insert, remove}
use Rattle.std.specs.Map.{lookup, remove_entry, set_value}
use Rattle.std.specs.Ordering.{nat_cmp}
use Rattle.std.specs.declared.cmp.Ordering.{Ordering}
use Rattle.std.specs.declared.cmp.Ordering.TheVariants.{Less}

-- texts are ordered byte by byte
abbrev pub by_bytes : List ℕ → List ℕ → Ordering
by_bytes = slice_cmp nat_cmp

abbrev pub Pairs : Type 0
Pairs = List (List ℕ × List ℕ)

-- the keys of entries rise, so each stands once
abbrev pub HasRisingKeys : {K X : Type 0} → (K → K → Ordering) → List (K × X) → Type 0
HasRisingKeys cmp [] = Unit {0}
HasRisingKeys cmp (e ∷ es) = AllByRecursion (λ y. cmp e.0 y.0 ≡ Less) es × HasRisingKeys cmp es

abbrev pub HasRisingNames : Pairs → Type 0
HasRisingNames pairs = HasRisingKeys by_bytes pairs

-- the value under a name
abbrev pub value_of : List ℕ → Pairs → Option (List ℕ)
value_of name pairs = lookup (is_at (by_bytes name)) pairs

-- a pair more, its value in the place of one that is there under its name
abbrev pub with_pair : Pairs → List ℕ → List ℕ → Pairs
with_pair pairs name value = insert_entry by_bytes pairs name value

-- fields laid over others, the later value winning
abbrev pub merged : Pairs → Pairs → Pairs
merged pairs [] = pairs
merged pairs (pair ∷ others) = merged (with_pair pairs pair.0 pair.1) others

-- fields with what stood under a name before a pair was put there
abbrev pub restored : Pairs → List ℕ → Option (List ℕ) → Pairs
restored pairs name None = remove_entry (is_at (by_bytes name)) pairs
restored pairs name (Some value) = set_value (is_at (by_bytes name)) pairs value

-- fields before pairs were put, the last one taken back first: under each name, what stood there before
abbrev pub taken_back : Pairs → List (Bor (List ℕ) × Option (List ℕ)) → Pairs
taken_back pairs [] = pairs
taken_back pairs (put ∷ puts) = restored (taken_back pairs puts) put.0.now put.1

-- where a key stands among entries, or where an entry with it is to be put
abbrev pub IsPlaceBy : {K X : Type 0} → (K → K → Ordering) → List (K × X) → K → Result ℕ ℕ → Type 0
IsPlaceBy {K} {X} cmp es k (Ok at) = (at < length es) × ((d : K × X) → lookup (is_at (cmp k)) es ≡ Some (slice_index_or es at d).1) × ((v : X) (d : K × X) → insert_entry cmp es k v ≡ slice_set es at ((slice_index_or es at d).0, v)) × (remove_entry (is_at (cmp k)) es ≡ remove es at)
IsPlaceBy {K} {X} cmp es k (Err at) = (at ≤ length es) × (lookup (is_at (cmp k)) es ≡ None) × ((v : X) → insert_entry cmp es k v ≡ insert es at (k, v))

abbrev pub IsPlace : Pairs → List ℕ → Result ℕ ℕ → Type 0
IsPlace pairs name place = IsPlaceBy by_bytes pairs name place
