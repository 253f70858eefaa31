use Rattle.swss_service.proofs.Beginning.{begun}
use Rattle.swss_service.proofs.locked.Locked.begin.Goals as goal

pub invariant_of-result : goal.invariant_of-result
invariant_of-result g c = begun c.args.plan c.args.caps.0 c.args.log_limit (g.C.Chip.state c.args.chip).fails c.new.result (g.C.Chip.state c.args.chip) c.len-ports.ensures.plan c.new.ensures c.requires.new
