-- Which thing each object of a chip stands for. Own.
use Rattle.std.specs.Prelude.{◌≡◌, ◌⊎◌, ℕ, ◌+◌, Bool, true, false, nat_le, List, Some}
use Rattle.sai_types.specs.declared.ids.Rid.{Rid}
use Rattle.sai_types.specs.declared.body.Body.{Body}
use Rattle.sai_types.specs.declared.body.Entry.{Entry}
use Rattle.sai_types.specs.declared.thing.Thing.{Thing}
use Rattle.sai_types.specs.After.{entry_of}
use Rattle.sai_types.specs.Alike.{IsIn}
use Rattle.sai_types.specs.Made.{same_entry}
use Rattle.sai_types.specs.Objects.{Objects, body_at, used}
use Rattle.sai_types.specs.Refusal.{capacity_of}
use Rattle.sai_types.specs.Names.{ThingName, Meet, Refers, name_kind, name_of}
use Rattle.chip_layout.specs.Bodies.{IsBody, is_numbered}

-- the things that stand, each with its identifier; own addresses, neighbours and routes have none, and any may stand there
abbrev pub Layout : Type 0 → Type 1
Layout I = I → Thing → Type 0

-- a name has this identifier
abbrev pub Has : {I : Type 0} → Layout I → ThingName → I → Type 0
Has layout k i = (t : Thing) × layout i t × (name_of t ≡ k)

-- whether a thing's object has an identifier
abbrev pub has_number : Thing → Bool
has_number t = is_numbered (name_kind (name_of t))

-- a chip's objects are those of the things that stand
pub record IsLaidOut (layout : Layout Rid) (objects : Objects) : Type 0 where
  pub stand : (i : Rid) (t : Thing) → layout i t → (b : Body Rid) × IsBody (Has layout) t b × (body_at objects (entry_of i.0 b) ≡ Some b)
  pub tied : (e : Entry Rid) (b : Body Rid) → body_at objects e ≡ Some b → (i : Rid) × (t : Thing) × layout i t × IsBody (Has layout) t b × (same_entry e (entry_of i.0 b) ≡ true)
  pub one : (i j : Rid) (t u : Thing) → layout i t → layout j u → name_of t ≡ name_of u → (i ≡ j) × (t ≡ u)
  pub ids : (i : Rid) (t u : Thing) → layout i t → layout i u → has_number t ≡ true → has_number u ≡ true → t ≡ u

-- nothing that stands can't stand beside this thing
abbrev pub IsFree : {I : Type 0} → Layout I → Thing → Type 0
IsFree {I} layout t = (i : I) (u : Thing) → layout i u → Meet t u → ⊥

-- what a thing refers to stands
abbrev pub RefersWell : {I : Type 0} → Layout I → Thing → Type 0
RefersWell {I} layout t = (k : ThingName) → Refers t k → (i : I) × Has layout k i

-- nothing that stands refers to this name
abbrev pub IsUnused : {I : Type 0} → Layout I → ThingName → Type 0
IsUnused {I} layout k = (i : I) (u : Thing) → layout i u → Refers u k → ⊥

-- the things that stand, and one more
abbrev pub with_thing : {I : Type 0} → Layout I → I → Thing → Layout I
with_thing layout i t j u = layout j u ⊎ ((j ≡ i) × (u ≡ t))

-- but what has this name
abbrev pub without : {I : Type 0} → Layout I → ThingName → Layout I
without layout k j u = layout j u × (name_of u ≡ k → ⊥)

-- the identifier of the next thing to be made
abbrev pub next_rid : ℕ → Rid
next_rid made = record { 0 = made + 1 }

-- the things that stand, as a view
abbrev pub view_of : {I : Type 0} → Layout I → Thing → Type 0
view_of {I} layout t = (i : I) × layout i t

-- there is room for one more of a thing's kind
abbrev pub HasRoom : List ℕ → Objects → Thing → Type 0
HasRoom capacities objects t = nat_le (capacity_of capacities (name_kind (name_of t))) (used objects (name_kind (name_of t))) ≡ false

-- the things that stand, with another thing in the place of the one of its name
abbrev pub with_changed : {I : Type 0} → Layout I → I → Thing → Layout I
with_changed layout i t = with_thing (without layout (name_of t)) i t

-- a layout that a list gives
abbrev pub listed : {I : Type 0} → List (I × Thing) → Layout I
listed things i t = IsIn (i, t) things
