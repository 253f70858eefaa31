use Rattle.std.proofs.Common.{rules}
use Rattle.std.specs.Net.Text.{hex}
use Rattle.swss_types.proofs.ip.write_group.Goals as goal

pub returns-clause-ok : goal.returns-clause-ok
unfolding hex
returns-clause-ok c = search rules
