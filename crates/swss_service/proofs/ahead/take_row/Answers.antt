use Rattle.std.proofs.Common.{◌∷◌, [], Err, ap, subst, refl, ◌∙◌}
use Rattle.table_schema.specs.declared.write.Write.{Write}
use Rattle.swss_service.specs.Ahead.{HasTaken}
use Rattle.swss_service.proofs.TakenAhead.{none-front, refused-ahead, taken-one}
use Rattle.swss_service.proofs.ahead.take_row.Goals as goal

-- no memory for the write
pub returns-in_default : goal.returns-in_default
returns-in_default g c = none-front _ c.args.locked.now c.args.locked.now c.stand_for_one_session.ensures refl

pub returns-in-Ok-take : goal.returns-in-Ok-take
returns-in-Ok-take g c = subst (λ (w : Write). HasTaken (record { from = 0; number = c.args.number; write = w } ∷ []) c.args.locked.now c.take.new.self) c.in-Ok.ensures (taken-one c.args.locked.now c.take.new.self (record { from = 0; number = c.args.number; write = c.in-Ok.write }) c.stand_for_one_session.ensures c.take.ensures.goes_on c.in-Ok-take.ensures.ok)

pub returns-in-Err : goal.returns-in-Err
returns-in-Err g c = refused-ahead _ c.args.locked.now c.take.new.self c.kept.result c.stand_for_one_session.ensures c.kept.ensures.refused c.in-Err.ensures.err (λ full. c.take.ensures.full (c.in-Err.is ∙ ap Err (c.kept.ensures.full.0 full)))
