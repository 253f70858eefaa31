use Rattle.swss_service.proofs.Scripts.{writes-read}
use Rattle.swss_service.proofs.whole.round.Goals as goal

pub round_copied-requires : goal.round_copied-requires
round_copied-requires g c = record { read = writes-read c.args.sections.now c.requires.sections.read }
