-- The kinds of objects, in the order of the chip's table: lowest level first. Own.
use Rattle.std.specs.Prelude.{List, [], ◌∷◌}
use Rattle.sai_types.specs.declared.kind.Kind.{Kind}
use Rattle.sai_types.specs.declared.kind.Kind.TheVariants as kind

-- all of them
abbrev pub all_kinds : List Kind
all_kinds = kind.Port ∷ kind.Vlan ∷ kind.VirtualRouter ∷ kind.BridgePort ∷ kind.VlanMember ∷ kind.Rif ∷ kind.OwnAddress ∷ kind.Neighbor ∷ kind.NextHop ∷ kind.Group ∷ kind.GroupMember ∷ kind.Route ∷ []
