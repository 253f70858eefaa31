-- The room on a chip, and the places that are reserved of it. Own.
use Rattle.std.specs.Prelude.{◌≡◌, ℕ, ◌+◌, ◌*◌, ◌≤◌, nat_lt, Bool, ◌&&◌, List, [], ◌∷◌, length, replicate, slice_index, Option, Some, None, if◌then◌else◌}
use Rattle.sai_types.specs.declared.kind.Kind.{Kind}
use Rattle.sai_types.specs.Kinds.{all_kinds}
use Rattle.sai_types.specs.Objects.{level}
use Rattle.sai_types.specs.Refusal.{capacity_of}

-- the capacity of each kind in the order of the kinds, and the places that the four workers have reserved: worker by worker, and of each worker by kind
pub record RoomState : Type 0 where
  pub capacities : List ℕ
  pub reserved : List ℕ

-- how many kinds there are
abbrev pub kinds_in_all : ℕ
kinds_in_all = length all_kinds

-- room of which nothing is reserved
abbrev pub all_free : List ℕ → RoomState
all_free capacities = record { capacities = capacities; reserved = replicate (4 * kinds_in_all) 0 }

-- how many there are of a kind
abbrev pub number_of_kind : List ℕ → Kind → ℕ
number_of_kind numbers k = slice_index numbers (level k)

-- the places of a kind that a worker has reserved
abbrev pub places_by : List ℕ → ℕ → Kind → ℕ
places_by reserved worker k = slice_index reserved (kinds_in_all * worker + level k)

-- the places of a kind that all workers have reserved
abbrev pub places_in_all : List ℕ → Kind → ℕ
places_in_all reserved k = places_by reserved 0 k + places_by reserved 1 k + places_by reserved 2 k + places_by reserved 3 k

-- a place of the kind is needed, and with those that are used and reserved that is more than there is room for
abbrev pub lacks : RoomState → List ℕ → List ℕ → Kind → Bool
lacks room need used k = nat_lt 0 (number_of_kind need k) && nat_lt (capacity_of room.capacities k) (number_of_kind used k + places_in_all room.reserved k + number_of_kind need k)

abbrev pub first_lacking : RoomState → List ℕ → List ℕ → List Kind → Option Kind
first_lacking room need used [] = None
first_lacking room need used (k ∷ ks) = if lacks room need used k then Some k else first_lacking room need used ks

-- the first kind of which room is lacking
abbrev pub lacking : RoomState → List ℕ → List ℕ → Option Kind
lacking room need used = first_lacking room need used all_kinds

-- a worker has so many places more of each kind, and nothing else changes
pub record Reserves (old : RoomState) (worker : ℕ) (need : List ℕ) (new : RoomState) : Type 0 where
  pub capacities : new.capacities ≡ old.capacities
  pub more : (k : Kind) → places_by new.reserved worker k ≡ places_by old.reserved worker k + number_of_kind need k
  pub others : (other : ℕ) (k : Kind) → ¬ (other ≡ worker) → places_by new.reserved other k ≡ places_by old.reserved other k

-- a worker has no place any more, and nothing else changes
pub record GivesBack (old : RoomState) (worker : ℕ) (new : RoomState) : Type 0 where
  pub capacities : new.capacities ≡ old.capacities
  pub none : (k : Kind) → places_by new.reserved worker k ≡ 0
  pub others : (other : ℕ) (k : Kind) → ¬ (other ≡ worker) → places_by new.reserved other k ≡ places_by old.reserved other k

-- of no kind are more places reserved than there is room for
abbrev pub IsWithin : RoomState → Type 0
IsWithin room = (k : Kind) → places_in_all room.reserved k ≤ capacity_of room.capacities k
