-- The rows that are applied, the operations that are under way, and what stands. Own.
use Rattle.std.specs.Prelude.{◌≡◌, ◌⊎◌, ◌==◌, ◌∷◌, ℕ, Bool, true, false, not, List, [], Option, Some, None, if◌then◌else◌}
use Rattle.swss_types.specs.Address.{IsProperPrefix}
use Rattle.swss_types.specs.Vrf.{same_vrf}
use Rattle.table_schema.specs.Plan.{Ports, lanes_in_plan}
use Rattle.table_schema.specs.declared.key.Key.{Key}
use Rattle.table_schema.specs.declared.key.Key.TheVariants as key
use Rattle.sai_types.specs.declared.ids.Rid.{Rid}
use Rattle.sai_types.specs.declared.hop.Base.{Base}
use Rattle.sai_types.specs.declared.thing.Goal.{Goal}
use Rattle.sai_types.specs.declared.thing.Thing.{Thing}
use Rattle.sai_types.specs.Alike.{IsIn}
use Rattle.switch_model.specs.Placed as row
use Rattle.switch_model.specs.Placed.{Placed as Row, PlacedRows}
use Rattle.switch_model.specs.Things.{base_of, lane_of}
use Rattle.sai_types.specs.Names.{ThingName, Refers, name_of}
use Rattle.sai_types.specs.Names as name
use Rattle.row_layout.specs.Rows.{Owner, OfRow, from, goal_of, own_things, owner_of}
use Rattle.row_layout.specs.Operations.{Change, Make, Set, Take, uses_of}
use Rattle.row_layout.specs.Shared.{shared_things}
use Rattle.switch_machine.specs.Changes.{IsSettable, Resembles, after, changed_name}

-- whether the applied row of a key goes: the key has no new row, or is an interface that goes over to another router
abbrev pub goes_over : Key → Option Row → Option Row → Bool
goes_over k old None = true
goes_over (key.Intf n) (Some (row.Intf v)) (Some (row.Intf w)) = not (same_vrf v w)
goes_over _ _ _ = false

-- an operation of a worker: its key, the row that the key is to have, what it shared before and has still to leave, and what it retires because it left it last
pub record MachineFlight : Type 0 where
  pub key : Key
  pub new : Option Row
  pub leaves : Option Owner
  pub retires : Option Owner
  -- whether its applied row goes: there is no new one, or it is in another router
  pub goes : Bool

-- the applied rows, and the operation of each worker
pub record MachineBoard : Type 0 where
  pub applied : PlacedRows
  pub flights : ℕ → Option MachineFlight

-- with the changes that are due for each worker, those for which it keeps places, and what stands, with identifiers
pub record Machine : Type 0 where
  pub board : MachineBoard
  pub due : ℕ → List Change
  pub reserved : ℕ → List Change
  pub stands : List (Rid × Thing)

-- a value of a worker in the place of the one before
abbrev pub put : {X : Type 0} → ℕ → X → (ℕ → X) → ℕ → X
put w x f v = if v == w then x else f v

abbrev pub StandsIn : Machine → Thing → Type 0
StandsIn m u = (i : Rid) × IsIn (i, u) m.stands

abbrev pub HasName : (Thing → Type 0) → ThingName → Type 0
HasName view n = (u : Thing) × view u × (name_of u ≡ n)

-- what belongs to a key's row, where it has one
abbrev pub own_of : Ports → Key → Option Row → List Thing
own_of plan k None = []
own_of plan k (Some r) = own_things plan k r

-- the names of a row's own things that other rows may name
abbrev pub own_names : Ports → Key → List ThingName
own_names plan (key.Port port) = from (lane_of plan port) (λ lane. name.Port lane ∷ [])
own_names plan (key.Vlan vlan) = name.Vlan vlan ∷ []
own_names plan (key.Vrf label) = name.VirtualRouter label ∷ []
own_names plan (key.Intf n) = from (base_of plan n) (λ b. name.Rif b ∷ [])
own_names plan (key.Neigh n ip) = from (base_of plan n) (λ b. name.Neighbor (record { on = b; ip = ip }) ∷ name.NextHop (record { on = b; ip = ip }) ∷ [])
own_names plan _ = []

-- a row is one of its key's table, a port's has the lanes of the plan, and what it stands on is in the plan
abbrev pub Fits : Ports → Key → Row → Type 0
Fits plan (key.Port port) (row.Port r) = lanes_in_plan plan port ≡ Some r.lanes
Fits plan (key.Vlan vlan) row.Vlan = Unit {0}
Fits plan (key.Vrf label) row.Vrf = Unit {0}
Fits plan (key.Member vlan port) (row.Member tagging) = (lane : ℕ) × (lane_of plan port ≡ Some lane)
Fits plan (key.Intf n) (row.Intf v) = Unit {0}
Fits plan (key.Addr n ip len) (row.Addr v) = Unit {0}
Fits plan (key.Neigh n ip) (row.Neigh mac) = (b : Base) × (base_of plan n ≡ Some b)
Fits plan (key.Route v prefix) (row.Route r) = IsProperPrefix prefix × ((g : Goal) × (goal_of plan r ≡ Some g))
Fits plan _ _ = ⊥

abbrev pub IsShared : Owner → Type 0
IsShared (OfRow k) = ⊥
IsShared _ = Unit {0}

-- ---- of the board

-- a row is applied, or is to be
abbrev pub IsRow : MachineBoard → Key → Row → Type 0
IsRow b k r = (b.applied k ≡ Some r) ⊎ ((w : ℕ) × (f : MachineFlight) × (b.flights w ≡ Some f) × (f.key ≡ k) × (f.new ≡ Some r))

-- a row is applied and not about to go
pub record IsFirm (b : MachineBoard) (k : Key) : Type 0 where
  pub row : Row
  pub applied : b.applied k ≡ Some row
  pub stays : (w : ℕ) (f : MachineFlight) → b.flights w ≡ Some f → f.key ≡ k → f.goes ≡ true → ⊥

-- no operation has the key
abbrev pub IsResting : MachineBoard → Key → Type 0
IsResting b k = (w : ℕ) (f : MachineFlight) → b.flights w ≡ Some f → f.key ≡ k → ⊥

-- an operation counts as a user of what its new row shares, and of what it has still to leave
abbrev pub CountsAsUser : Ports → MachineFlight → Owner → Type 0
CountsAsUser plan f o = IsIn o (uses_of plan f.key f.new) ⊎ (f.leaves ≡ Some o)

-- a key is a user of what is shared
abbrev pub IsUser : Ports → MachineBoard → Key → Owner → Type 0
IsUser plan b k o = ((w : ℕ) × (f : MachineFlight) × (b.flights w ≡ Some f) × (f.key ≡ k) × CountsAsUser plan f o) ⊎ (IsResting b k × IsIn o (uses_of plan k (b.applied k)))

-- ---- of an operation

-- its owners: its key's row, what its new row shares, and what it retires
abbrev pub Concerns : Ports → MachineFlight → Owner → Type 0
Concerns plan f o = (o ≡ OfRow f.key) ⊎ (IsIn o (uses_of plan f.key f.new) ⊎ (f.retires ≡ Some o))

abbrev pub IsOwnedBy : Ports → ThingName → Owner → Type 0
IsOwnedBy plan n o = owner_of plan n ≡ Some o

abbrev pub IsConcern : Ports → MachineFlight → ThingName → Type 0
IsConcern plan f n = (o : Owner) × IsOwnedBy plan n o × Concerns plan f o

-- what is to stand of its owners in the end
abbrev pub IsFinal : Ports → MachineFlight → Thing → Type 0
IsFinal plan f u = IsIn u (own_of plan f.key f.new) ⊎ ((o : Owner) × IsIn o (uses_of plan f.key f.new) × IsIn u (shared_things o))

-- what the new row shares stands whole
abbrev pub HasShared : Ports → MachineFlight → (Thing → Type 0) → Type 0
HasShared plan f view = (o : Owner) (x : Thing) → IsIn o (uses_of plan f.key f.new) → IsIn x (shared_things o) → view x

pub record CanMake (plan : Ports) (f : MachineFlight) (view : Thing → Type 0) (t : Thing) : Type 0 where
  pub final : IsFinal plan f t
  pub fresh : (u : Thing) → view u → name_of u ≡ name_of t → ⊥
  pub near : (n : ThingName) → Refers t n → IsConcern plan f n → HasName view n
  pub whole : IsIn t (own_of plan f.key f.new) → HasShared plan f view

pub record CanSet (plan : Ports) (f : MachineFlight) (view : Thing → Type 0) (t : Thing) : Type 0 where
  pub own : IsOwnedBy plan (name_of t) (OfRow f.key)
  pub old : Thing
  pub stands : view old
  pub settable : IsSettable old t
  pub like : Thing
  pub final : IsIn like (own_of plan f.key f.new)
  pub resembles : Resembles t like
  pub near : (n : ThingName) → Refers t n → IsConcern plan f n → HasName view n
  pub whole : HasShared plan f view

-- its row's things go where the row is to go, and what it shared where it retires it
abbrev pub Goes : Ports → MachineFlight → ThingName → Type 0
Goes plan f n = (IsOwnedBy plan n (OfRow f.key) × (f.goes ≡ true)) ⊎ ((o : Owner) × IsOwnedBy plan n o × (f.retires ≡ Some o))

pub record CanTake (plan : Ports) (f : MachineFlight) (view : Thing → Type 0) (n : ThingName) : Type 0 where
  pub goes : Goes plan f n
  pub there : HasName view n
  pub unused : (u : Thing) → IsConcern plan f (name_of u) → view u → Refers u n → ⊥

abbrev pub Can : Ports → MachineFlight → (Thing → Type 0) → Change → Type 0
Can plan f view (Make t) = CanMake plan f view t
Can plan f view (Set t) = CanSet plan f view t
Can plan f view (Take n) = CanTake plan f view n

-- changes that can be made one after the other, and that lead to what is to stand in the end
abbrev pub Runs : Ports → MachineFlight → (Thing → Type 0) → List Change → Type 0
Runs plan f view [] = (u : Thing) → IsConcern plan f (name_of u) → (view u → IsFinal plan f u) × (IsFinal plan f u → view u)
Runs plan f view (c ∷ cs) = Can plan f view c × Runs plan f (λ u. after c (view u) u) cs

-- a change of the list is about something of this owner
abbrev pub HasChangeOf : Ports → List Change → Owner → Type 0
HasChangeOf plan cs o = (c : Change) × IsIn c cs × IsOwnedBy plan (changed_name c) o
