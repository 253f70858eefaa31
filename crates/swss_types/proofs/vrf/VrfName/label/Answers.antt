use Rattle.swss_types.proofs.VrfNames.{first-cut}
use Rattle.swss_types.proofs.vrf.VrfName.label.Goals as goal

pub returns : goal.returns
returns c = first-cut 0 c.args.self.now.0 c.cut_at.result.0.now c.cut_at.result.1 c.cut_at.ensures
