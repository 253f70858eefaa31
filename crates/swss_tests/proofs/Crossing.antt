-- a simulated chip may go to another thread: it has trees of prefixes, so this is seen part by part
use denote.Param.Send.{IsSend, sendable}
use Rattle.std.proofs.Crossing as heap
use Rattle.std.proofs.MapsCrossing as maps
use Rattle.late_maps.proofs.late_map.LateMap.TheSendSync as late_map
use Rattle.swss_types.proofs.address.Ip.TheSendSync as ip
use Rattle.swss_types.proofs.address.Mac.TheSendSync as mac
use Rattle.sai_types.proofs.body.Body.TheSendSync as body
use Rattle.sai_types.proofs.body.Call.TheSendSync as call
use Rattle.sai_types.proofs.ids.Rid.TheSendSync as rid
use Rattle.lpm_table.proofs.tree.Tree.TheLaws.TheKnot as tree
use Rattle.sai_chip.proofs.counts.Counts.TheSendSync as counts
use Rattle.sai_chip.proofs.fail.Failing.TheSendSync as failing
use Rattle.sai_chip.specs.contracts.routing.Routing as routing
use Rattle.sai_chip.specs.contracts.bodies.Bodies as bodies
use Rattle.sai_chip.specs.contracts.held.Held as held
use Rattle.sai_chip.specs.contracts.sim.SimChip as sim

pub chip_crosses : IsSend sim.the_row
chip_crosses =
    let routes : IsSend routing.the_row = search (maps.crosses, heap.crosses, tree.crosses, sendable) depth 60 fits 20000 in
    let each : IsSend bodies.the_row = search (late_map.the_send, body.the_send, rid.the_send, mac.the_send, ip.the_send, maps.crosses, heap.crosses, sendable) depth 60 fits 20000 in
    let all : IsSend held.the_row = search (counts.the_send, heap.crosses, sendable) depth 60 fits 20000 in
    search (failing.the_send, call.the_send, heap.crosses, sendable) depth 60 fits 20000
