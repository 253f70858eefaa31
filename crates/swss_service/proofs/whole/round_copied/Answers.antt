use Rattle.std.proofs.Common.{sym, subst}
use Rattle.swss_script.specs.Sent.{writes_in}
use Rattle.swss_service.specs.Taking.{HaveReadKeys}
use Rattle.swss_service.proofs.whole.round_copied.Goals as goal

pub round_alone-end-requires : goal.round_alone-end-requires
round_alone-end-requires g c = record { read = subst (λ l. HaveReadKeys (writes_in l)) (sym c.in-Ok.ensures) c.requires.read }
