-- The lanes of a port, as SONiC's PORT_TABLE lists them.
use Rattle.std.specs.Prelude.{ℕ, ◌+◌, ◌-◌, ◌<◌, ◌≤◌, ◌==◌, ◌&&◌, nat_le, List, [], ◌∷◌, ◌++◌, length, Option, Some, None, if◌then◌else◌, flat_map}
use Rattle.std.specs.BTreeSet.{insert_key}
use Rattle.std.specs.Ordering.{nat_cmp}
use Rattle.std.specs.Fmt.{decimal}
use Rattle.swss_types.specs.Number.{number_within}
use Rattle.swss_types.specs.Parts.{parts_at}
use Rattle.swss_types.specs.declared.lanes.TheConstants.{LANE_BOUND, MOST_LANES}

-- numbers in rising order, each once
abbrev pub rising : List ℕ → List ℕ → List ℕ
rising sorted [] = sorted
rising sorted (n ∷ ns) = rising (insert_key nat_cmp sorted n) ns

-- a lane before those behind it
abbrev pub with_lane : Option ℕ → Option (List ℕ) → Option (List ℕ)
with_lane None others = None
with_lane (Some lane) None = None
with_lane (Some lane) (Some others) = Some (lane ∷ others)

-- the numbers that the parts write, each that of a lane of the switch
abbrev pub lanes_in : List (List ℕ) → Option (List ℕ)
lanes_in [] = Some []
lanes_in (part ∷ parts) = with_lane (number_within (LANE_BOUND - 1) part) (lanes_in parts)

-- 1 to 8 numbers, no two of them equal, in rising order
abbrev pub in_order : Option (List ℕ) → Option (List ℕ)
in_order None = None
in_order (Some lanes) = if length (rising [] lanes) == length lanes && nat_le (length lanes) MOST_LANES then Some (rising [] lanes) else None

-- the lanes that a text lists: 1 to 8 different lanes joined by commas, in any order
abbrev pub lanes_of : List ℕ → Option (List ℕ)
lanes_of text = in_order (lanes_in (parts_at 44 text))

-- numbers joined by commas
abbrev pub lanes_text : List ℕ → List ℕ
lanes_text [] = []
lanes_text (lane ∷ lanes) = decimal lane ++ flat_map (λ l. 44 ∷ decimal l) lanes

-- lanes that rise from this one on
abbrev pub AreRising : ℕ → List ℕ → Type 0
AreRising low [] = Unit {0}
AreRising low (lane ∷ lanes) = (low ≤ lane) × (lane < LANE_BOUND) × AreRising (lane + 1) lanes

-- 1 to 8 rising lanes
pub record IsLaneList (lanes : List ℕ) : Type 0 where
  pub some : 0 < length lanes
  pub few : length lanes ≤ MOST_LANES
  pub rising : AreRising 0 lanes
