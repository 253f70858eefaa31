-- the tables of packets may be shared by threads: they have trees of prefixes, so this is seen part by part
use denote.Param.Send.{IsSync, sendable}
use Rattle.std.proofs.Crossing as heap
use Rattle.std.proofs.MapsCrossing as maps
use Rattle.swss_types.proofs.address.Ip.TheSendSync as ip
use Rattle.swss_types.proofs.address.Prefix.TheSendSync as prefix
use Rattle.swss_types.proofs.vrf.Vrf.TheSendSync as vrf
use Rattle.lpm_table.proofs.tree.Tree.TheLaws.TheKnot as tree
use Rattle.sai_chip.proofs.forward.Forward.TheSendSync as forward
use Rattle.packet_walk.specs.contracts.router_table.RouterTable as router_table
use Rattle.packet_walk.specs.contracts.fib.Fib as fib

pub fib_shares : IsSync fib.the_row
fib_shares =
    let table : IsSync router_table.the_row = search (forward.the_sync, prefix.the_sync, ip.the_sync, maps.crosses, heap.crosses, tree.crosses, sendable) depth 60 fits 20000 in
    search (vrf.the_sync, maps.crosses, heap.crosses, sendable) depth 60 fits 20000
