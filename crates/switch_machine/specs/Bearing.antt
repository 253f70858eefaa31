-- Which changes bear on where packets go: those of routes, own addresses and neighbours. Own.
use Rattle.std.specs.Prelude.{◌≡◌, ◌⊎◌, ◌<◌, ◌≤◌, ◌∷◌, ◌++◌, ℕ, true, List, [], map}
use Rattle.swss_types.specs.Vrf.{covers_in}
use Rattle.swss_types.specs.declared.vrf.Packet.{Packet}
use Rattle.sai_types.specs.declared.ids.Rid.{Rid}
use Rattle.sai_types.specs.declared.thing.Thing.{Thing}
use Rattle.sai_types.specs.Alike.{IsIn}
use Rattle.sai_types.specs.Names as name
use Rattle.sai_types.specs.Names.{ThingName}
use Rattle.row_layout.specs.Operations.{Change}
use Rattle.switch_machine.specs.Changes.{changed_name}
use Rattle.switch_machine.specs.Flights.{Machine}

-- what has this name bears on where packets go
abbrev pub Bears : ThingName → Type 0
Bears (name.Route v prefix) = Unit {0}
Bears (name.Own v ip) = Unit {0}
Bears (name.Neighbor hop) = Unit {0}
Bears _ = ⊥

-- and on where this packet goes
abbrev pub BearsOn : Packet → ThingName → Type 0
BearsOn a (name.Route v prefix) = covers_in v prefix a ≡ true
BearsOn a (name.Own v ip) = Unit {0}
BearsOn a (name.Neighbor hop) = Unit {0}
BearsOn a _ = ⊥

abbrev pub NoneBears : List Change → Type 0
NoneBears cs = (c : Change) → IsIn c cs → Bears (changed_name c) → ⊥

-- one change at most bears, and it is about what has this name
pub record BearsOnce (n : ThingName) (cs : List Change) : Type 0 where
  pub before : List Change
  pub middle : List Change
  pub after : List Change
  pub parts : cs ≡ before ++ (middle ++ after)
  pub first : NoneBears before
  pub once : (middle ≡ []) ⊎ ((c : Change) × (middle ≡ c ∷ []) × (changed_name c ≡ n))
  pub last : NoneBears after

-- what stands, as a list
abbrev pub standing_things : Machine → List Thing
standing_things m = map (λ (x : Rid × Thing). x.1) m.stands

-- a value is the old one up to a moment, and the new one from then on
pub record SwitchesOnce {X : Type 0} (value : ℕ → X) (old new : X) : Type 0 where
  pub moment : ℕ
  pub before : (n : ℕ) → n ≤ moment → value n ≡ old
  pub behind : (n : ℕ) → moment < n → value n ≡ new
