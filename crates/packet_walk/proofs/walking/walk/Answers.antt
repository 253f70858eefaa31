use denote.Param.Send.{sendable}
use Rattle.std.proofs.Common.{rules, ◌≡◌, length, arith}
use Rattle.std.proofs.Crossing as heap
use Rattle.swss_types.proofs.vrf.Packet.TheSendSync as packet
use Rattle.packet_walk.proofs.Parted.{walked}
use Rattle.packet_walk.proofs.Shared.{fib_shares}
use Rattle.packet_walk.proofs.walking.walk.Goals as goal

pub map_indices-requires-sync-F : goal.map_indices-requires-sync-F
map_indices-requires-sync-F g c κs within = let fib = fib_shares in let gate = c.type_bounds.sync-G in search (packet.the_sync, heap.crosses, sendable) depth 60 fits 20000

pub returns : goal.returns
returns g c =
    let len : length c.in_ok-parts.parts.items ≡ c.args.workers = search rules in
    walked c.joined_parts.result c.args.fib.now c.args.packets.now c.args.workers (omega (arith, c.requires.workers.0)) c.in_ok-parts.parts.items c.joined_parts.ensures len
    (λ k d lt. let given = (c.in_ok-parts.ensures.each k d (omega (arith, lt, len))).1 in search rules)
