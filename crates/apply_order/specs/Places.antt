-- Which places are paired, as maps from place to place. Own.
use Rattle.std.specs.Prelude.{◌≡◌, ℕ, ◌<◌, List, [], ◌∷◌, length, slice_get, Option, Some}
use Rattle.std.specs.BTreeMap.{insert_entry, is_at}
use Rattle.std.specs.Map.{lookup}
use Rattle.std.specs.Ordering.{nat_cmp}

abbrev pub Places : Type 0
Places = List (ℕ × ℕ)

-- by the place of a new object that of the old one
abbrev pub with_new : Places → List (ℕ × ℕ) → Places
with_new places [] = places
with_new places (p ∷ ps) = with_new (insert_entry nat_cmp places p.1 p.0) ps

-- by the place of an old object that of the new one
abbrev pub with_old : Places → List (ℕ × ℕ) → Places
with_old places [] = places
with_old places (p ∷ ps) = with_old (insert_entry nat_cmp places p.0 p.1) ps

abbrev pub by_new : List (ℕ × ℕ) → Places
by_new pairs = with_new [] pairs

abbrev pub by_old : List (ℕ × ℕ) → Places
by_old pairs = with_old [] pairs

abbrev pub partner_at : Places → ℕ → Option ℕ
partner_at places place = lookup (is_at (nat_cmp place)) places

-- a table of the partners of the places that it has
pub record IsTable (places : Places) (table : List (Option ℕ)) : Type 0 where
  pub each : (place : ℕ) → place < length table → slice_get table place ≡ Some (partner_at places place)
