use Rattle.vlan_orch.proofs.Operations.{fits-lane, member-row}
use Rattle.vlan_orch.proofs.Starts.{rows}
use Rattle.vlan_orch.proofs.firsts.first.Goals as goal

pub lane-requires : goal.lane-requires
lane-requires c = fits-lane c.args.plan.now c.args.key.now c.in-Member.vlan c.in-Member.port (rows c.args.old) (rows c.args.new) c.in-Member.is c.requires.some c.requires.old c.requires.new

pub tagging_of-requires : goal.tagging_of-requires
tagging_of-requires c = member-row c.args.plan.now c.args.key.now c.in-Member.vlan c.in-Member.port (rows c.args.old) c.in-Member.is c.requires.old

pub tagging_of-requires-in-Member : goal.tagging_of-requires-in-Member
tagging_of-requires-in-Member c = member-row c.args.plan.now c.args.key.now c.in-Member.vlan c.in-Member.port (rows c.args.new) c.in-Member.is c.requires.new
