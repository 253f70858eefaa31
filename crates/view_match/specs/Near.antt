-- Old objects that stand at the place where they are looked for first. Own.
use Rattle.std.specs.Prelude.{◌≡◌, ℕ, ◌<◌, List, slice_get, Option, Some, option_map}
use Rattle.std.specs.BTreeMap.{is_at}
use Rattle.std.specs.Map.{lookup}
use Rattle.view_match.specs.declared.indexed.Partner.{Partner}
use Rattle.view_match.specs.declared.key.NaturalKey.{NaturalKey}
use Rattle.view_match.specs.Keys.{natural_key_cmp}

-- each object before this place stands under its key
abbrev pub AreFound : List (Option NaturalKey) → List (NaturalKey × Partner) → ℕ → Type 0
AreFound keys index place = (i : ℕ) (k : NaturalKey) → i < place → slice_get keys i ≡ Some (Some k) → option_map (λ p. p.place) (lookup (is_at (natural_key_cmp k)) index) ≡ Some i

-- what was found is a key, and is this one
abbrev pub IsKey : Option (Option NaturalKey) → Option NaturalKey → Type 0
IsKey found key = (k : NaturalKey) × (found ≡ Some (Some k)) × (key ≡ Some k)
