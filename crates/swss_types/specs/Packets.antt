-- Packets by the address that they are to go to. Own.
use Rattle.swss_types.specs.declared.address.Ip.{Ip}
use Rattle.swss_types.specs.declared.vrf.Packet.{Packet}
use Rattle.swss_types.specs.declared.vrf.Vrf.TheVariants as vrf

-- a packet in the default router
abbrev pub packet_to : Ip → Packet
packet_to ip = record { vrf = vrf.Default; to = ip }
