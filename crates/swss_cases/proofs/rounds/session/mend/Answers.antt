use denote.Param.Send.{sendable}
use Rattle.swss_run.proofs.Crossing.{chip_crosses}
use Rattle.swss_cases.proofs.rounds.session.mend.Goals as goal

pub round-next-requires-send-C : goal.round-next-requires-send-C
round-next-requires-send-C g c κs within = let chip = chip_crosses in search sendable depth 60
