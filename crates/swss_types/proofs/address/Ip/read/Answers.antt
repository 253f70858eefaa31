use Rattle.std.proofs.Common.{sym}
use Rattle.swss_types.proofs.Proper.{IsProperIp-ipv4_of, IfSome-ipv6_of}
use Rattle.swss_types.proofs.address.Ip.read.Goals as goal

pub returns-in-Some-clause-proper : goal.returns-in-Some-clause-proper
returns-in-Some-clause-proper c = IsProperIp-ipv4_of c.args.text.now c.in-Some.ip (sym c.in-Some.ensures)

pub returns-clause-proper : goal.returns-clause-proper
returns-clause-proper c = IfSome-ipv6_of c.args.text.now c.read_v6.result (sym c.read_v6.ensures)
