-- Which changes the names of what takes effect are said for at once. Own.
use Rattle.std.specs.Prelude.{List}
use Rattle.table_schema.specs.Plan.{Ports}
use Rattle.sai_types.specs.declared.weight.WHop.{WHop}
use Rattle.sai_types.specs.declared.thing.Thing.TheVariants as thing
use Rattle.row_layout.specs.Operations.{Change, Make, Set, Take}
use Rattle.row_layout.specs.Rows.{Group}
use Rattle.switch_machine.specs.Changes.{changed_name}
use Rattle.switch_machine.specs.Flights.{IsOwnedBy}

-- a change of a group or of a member of it
abbrev pub IsOfGroup : Ports → Change → Type 0
IsOfGroup plan c = (hops : List WHop) × IsOwnedBy plan (changed_name c) (Group hops)

-- the making of that thing of a row by which its name becomes live, with an identifier
abbrev pub MakesRowLive : Change → Type 0
MakesRowLive (Make (thing.BridgePort lane)) = ⊥
MakesRowLive (Make (thing.Own v ip)) = ⊥
MakesRowLive (Make (thing.Neighbor hop mac)) = ⊥
MakesRowLive (Make (thing.Route v prefix goal)) = ⊥
MakesRowLive (Make (thing.Group hops)) = ⊥
MakesRowLive (Make (thing.GroupMember hops hop)) = ⊥
MakesRowLive (Make t) = Unit {0}
MakesRowLive (Set u) = ⊥
MakesRowLive (Take n) = ⊥
