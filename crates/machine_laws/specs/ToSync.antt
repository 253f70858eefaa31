-- The keys to sync, rows from which turns may begin, and room for what they bring. Own.
use Rattle.std.specs.Prelude.{◌≡◌, ◌⊎◌, ℕ, List, [], ◌∷◌, Some, None}
use Rattle.std.specs.declared.cmp.Ordering.TheVariants.{Less}
use Rattle.swss_types.specs.declared.interface.IfName.{IfName}
use Rattle.swss_types.specs.declared.vrf.Vrf.{Vrf}
use Rattle.table_schema.specs.Key.{key_cmp}
use Rattle.table_schema.specs.Plan.{Ports}
use Rattle.table_schema.specs.declared.key.Key.{Key}
use Rattle.table_schema.specs.declared.key.Key.TheVariants as key
use Rattle.table_schema.specs.declared.row.Row.{Row}
use Rattle.table_schema.specs.declared.row.Row.TheVariants as row
use Rattle.sai_types.specs.declared.thing.Thing.{Thing}
use Rattle.sai_types.specs.Alike.{IsIn}
use Rattle.switch_model.specs.Desired.{IsClosed, IsThingOf, placed_things}
use Rattle.switch_model.specs.Good.{TypedRows}
use Rattle.switch_model.specs.Room.{HasRoomForView}

-- keys in key order, each once
abbrev pub AreInKeyOrder : List Key → Type 0
AreInKeyOrder [] = Unit {0}
AreInKeyOrder (k ∷ ks) = ((q : Key) → IsIn q ks → key_cmp k q ≡ Less) × AreInKeyOrder ks

-- a key that is not to sync has its good row
abbrev pub AreSynced : TypedRows → TypedRows → List Key → Type 0
AreSynced good applied keys = (k : Key) → (applied k ≡ good k) ⊎ IsIn k keys

-- the row of an interface's key is an interface's
abbrev pub HaveInterfaces : TypedRows → Type 0
HaveInterfaces rows = (on : IfName) (r : Row) → rows (key.Intf on) ≡ Some r → (v : Vrf) × (r ≡ row.Intf v)

-- rows that are applied while no operation is under way: they name only each other, they are finitely many, and there is room for their things
pub record AreAtRest (plan : Ports) (capacities : List ℕ) (applied : TypedRows) : Type 0 where
  pub closed : IsClosed applied
  pub interfaces : HaveInterfaces applied
  pub keys : List Key
  pub all : (k : Key) (r : Row) → applied k ≡ Some r → IsIn k keys
  pub room : HasRoomForView capacities (IsThingOf plan applied)

-- an address row that the good rows lack
abbrev pub IsLackedAddress : TypedRows → Key → Type 0
IsLackedAddress good (key.Addr on ip len) = good (key.Addr on ip len) ≡ None
IsLackedAddress good _ = ⊥

-- a thing of an applied row, but for address rows that the good rows lack, since these go in the first turn
abbrev pub IsStayingThing : Ports → TypedRows → TypedRows → Thing → Type 0
IsStayingThing plan applied good t = (k : Key) × (r : Row) × (applied k ≡ Some r) × (IsLackedAddress good k → ⊥) × IsIn t (placed_things plan applied k r)

-- there is room for these things and those of the good rows together
abbrev pub HasRoomTogether : Ports → List ℕ → TypedRows → TypedRows → Type 0
HasRoomTogether plan capacities applied good = HasRoomForView capacities (λ t. IsStayingThing plan applied good t ⊎ IsThingOf plan good t)
