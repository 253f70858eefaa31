use Rattle.std.proofs.Common.{inl, refl}
use Rattle.swss_service.proofs.OneRound.{none-made}
use Rattle.swss_service.proofs.Rounds.{made-none}
use Rattle.swss_service.proofs.rounding.unbegun.Goals as goal

pub returns-clause-one : goal.returns-clause-one
returns-clause-one g c = none-made c.args._sections.now c.args.locked.core c.args.locked.chip c.args.locked refl

pub returns-clause-any : goal.returns-clause-any
returns-clause-any g c = λ most. inl (made-none most c.args._sections.now c.args.locked.core c.args.locked.chip c.stand_for_one_session.ensures)
