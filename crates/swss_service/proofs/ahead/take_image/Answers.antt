use Rattle.std.proofs.Common.{◌∙◌, refl}
use Rattle.swss_service.proofs.TakenAhead.{front-so-far, row-refused, took-none, took-row}
use Rattle.swss_service.proofs.ahead.take_image.Goals as goal

pub loop-key-init : goal.loop-key-init
loop-key-init g c = took-none c.args.image.now c.into_iter-key-iterator.result c.args.locked.now c.stand_for_one_session.ensures c.requires.rows (c.into_iter-key-iterator.ensures.into_iter_gives ∙ c.iter-key-items.ensures.rest)

pub loop-key-preserved : goal.loop-key-preserved
loop-key-preserved g c = took-row c.args.image.now c.loop-key.key-iterator c.next.new.self (c.in-Some.key.now, c.in-Some.fields.now) c.args.locked.now c.loop-key.locked c.take_row.new.locked c.loop-key.number c.in-Some.ensures.steps c.loop-key.invariant c.in-Some-checked_add.next c.in-Some-checked_add.ensures.1 c.in-Nothing.ensures

pub returns-in_default : goal.returns-in_default
returns-in_default g c = row-refused c.args.image.now c.loop-key.key-iterator c.next.new.self (c.in-Some.key.now, c.in-Some.fields.now) c.args.locked.now c.loop-key.locked c.take_row.new.locked c.loop-key.number c.in-Some.ensures.steps c.loop-key.invariant c.take_row.result c.in_default.not-Nothing c.take_row.ensures

-- no number is left for the next
pub returns-in_default-checked_add : goal.returns-in_default-checked_add
returns-in_default-checked_add g c = front-so-far c.args.image.now c.next.new.self c.args.locked.now c.take_row.new.locked _ (took-row c.args.image.now c.loop-key.key-iterator c.next.new.self (c.in-Some.key.now, c.in-Some.fields.now) c.args.locked.now c.loop-key.locked c.take_row.new.locked c.loop-key.number c.in-Some.ensures.steps c.loop-key.invariant _ refl c.in-Nothing.ensures)
