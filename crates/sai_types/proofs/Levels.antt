-- the levels of the kinds of objects
use Rattle.std.proofs.Common.{◌<◌, arith}
use Rattle.sai_types.specs.declared.kind.Kind.{Kind}
use Rattle.sai_types.specs.declared.kind.Kind.TheVariants as kind
use Rattle.sai_types.specs.Objects.{level}

pub level_within : (k : Kind) → level k < 12
level_within kind.Port = omega arith
level_within kind.Vlan = omega arith
level_within kind.VirtualRouter = omega arith
level_within kind.BridgePort = omega arith
level_within kind.VlanMember = omega arith
level_within kind.Rif = omega arith
level_within kind.OwnAddress = omega arith
level_within kind.Neighbor = omega arith
level_within kind.NextHop = omega arith
level_within kind.Group = omega arith
level_within kind.GroupMember = omega arith
level_within kind.Route = omega arith
