-- Places on the chip. Own.
use Rattle.std.specs.Prelude.{◌≡◌, ◌+◌, ◌-◌, ◌≤◌, max, ◌<◌, ◌==◌, ◌∷◌, ℕ, zero, suc, cond, List, [], None}
use Rattle.sai_types.specs.declared.kind.Kind.{Kind}
use Rattle.sai_types.specs.Objects.{Objects, level, used}
use Rattle.sai_types.specs.Refusal.{capacity_of}
use Rattle.sai_types.specs.Names.{name_kind, name_of}
use Rattle.row_layout.specs.Operations.{Change, Make, Set, Take}
use Rattle.switch_machine.specs.Flights.{Machine}

-- how many places of a kind the changes need: what goes leaves its place to what is made behind it
abbrev pub makes : Kind → List Change → ℕ
makes kind [] = 0
makes kind (Make t ∷ cs) = cond (level (name_kind (name_of t)) == level kind) 1 0 + makes kind cs
makes kind (Set t ∷ cs) = makes kind cs
makes kind (Take n ∷ cs) = makes kind cs - cond (level (name_kind n) == level kind) 1 0

abbrev pub sum_below : ℕ → (ℕ → ℕ) → ℕ
sum_below zero f = 0
sum_below (suc n) f = sum_below n f + f n

-- how many objects of a kind the workers have still to make
abbrev pub missing : ℕ → Machine → Kind → ℕ
missing workers m kind = sum_below workers (λ w. makes kind (m.due w))

-- what stands and what is still to be made has room
abbrev pub HasPlaces : ℕ → List ℕ → Objects → Machine → Type 0
HasPlaces workers capacities objects m = (kind : Kind) → used objects kind + missing workers m kind ≤ capacity_of capacities kind

-- the places that workers keep: those that an operation needed when it began, be its objects made or not, and the one of an interface that has gone and is to be made in another router
abbrev pub places_kept : ℕ → Machine → Kind → ℕ
places_kept workers m kind = sum_below workers (λ w. max (makes kind (m.reserved w)) (makes kind (m.due w)))

-- a worker without an operation has nothing due and keeps no places
pub record AreCovered (m : Machine) : Type 0 where
  pub due : (w : ℕ) → m.board.flights w ≡ None → m.due w ≡ []
  pub idle : (w : ℕ) → m.board.flights w ≡ None → m.reserved w ≡ []

-- there is room for the changes of an operation that begins
abbrev pub HasRoomFor : ℕ → List ℕ → Objects → Machine → List Change → Type 0
HasRoomFor workers capacities objects m due = (kind : Kind) → 0 < makes kind due → used objects kind + places_kept workers m kind + makes kind due ≤ capacity_of capacities kind
