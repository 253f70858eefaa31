use Rattle.std.proofs.Common.{refl}
use Rattle.swss_cases.proofs.rounds.session.begin.Goals as goal

pub of-requires : goal.of-requires
of-requires c = record { read = (c.requires.read.0, c.args.script, c.requires.read.1, refl, refl) }
