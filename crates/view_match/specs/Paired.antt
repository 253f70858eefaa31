-- When an old object and a new one are paired, said of any two of them. Own.
use Rattle.std.specs.Prelude.{◌≡◌, ◌⊎◌, ℕ, ◌<◌, ◌≤◌, Some, slice_get}
use Rattle.sai_types.specs.Objects.{Objects}
use Rattle.view_match.specs.declared.key.NaturalKey.{NaturalKey}
use Rattle.view_match.specs.Keys.{keys_of_objects}
use Rattle.view_match.specs.Pairs.{group_of}

-- the object at a place has this natural key
abbrev pub HasKey : Objects → ℕ → NaturalKey → Type 0
HasKey objects place key = slice_get (keys_of_objects objects) place ≡ Some (Some key)

-- of two places of objects of one natural key the one with the lesser group, else the earlier one
abbrev pub ComesFirst : Objects → ℕ → ℕ → Type 0
ComesFirst objects i h = (group_of (slice_get objects i) < group_of (slice_get objects h)) ⊎ ((group_of (slice_get objects i) ≡ group_of (slice_get objects h)) × (i ≤ h))

-- the old object at one place and the new one at another have one natural key, and of several old ones with it this is the one of the least group
pub record ArePaired (old new : Objects) (i j : ℕ) : Type 0 where
  pub key : NaturalKey
  pub old_key : HasKey old i key
  pub new_key : HasKey new j key
  pub least : (h : ℕ) → HasKey old h key → ComesFirst old i h
