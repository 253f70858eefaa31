use Rattle.std.proofs.Common.{rules, Some}
use Rattle.sai_types.specs.declared.body.Body.TheVariants as body
use Rattle.sai_types.specs.declared.body.Call.TheVariants as call
use Rattle.sai_types.specs.declared.body.Entry.TheVariants as entry
use Rattle.sai_types.specs.ChipState.{IsAnswered}
use Rattle.part_cases.specs.Tested.{tested_answer}
use Rattle.part_cases.proofs.Linked.{used-up, whole-follows}
use Rattle.part_cases.proofs.plans.trying.use_up.Goals as goal

pub returns-clause-whole : goal.returns-clause-whole
returns-clause-whole c =
    let made : IsAnswered c.args.chip.now (call.Create (body.Vlan 4094)) (tested_answer (Some c.in_ok-made.made)) c.make.new.chip = search rules in
    let gone : IsAnswered c.make.new.chip (call.Remove (entry.Oid c.in_ok-made.made)) (tested_answer c.in_ok-make-2.field-0) c.make-2.new.chip = search rules in
    whole-follows _ _ _ _ (whole-follows _ _ _ (Some c.in_ok-made.made) c.requires made) gone

pub returns-clause-same : goal.returns-clause-same
returns-clause-same c =
    let made : IsAnswered c.args.chip.now (call.Create (body.Vlan 4094)) (tested_answer (Some c.in_ok-made.made)) c.make.new.chip = search rules in
    let gone : IsAnswered c.make.new.chip (call.Remove (entry.Oid c.in_ok-made.made)) (tested_answer c.in_ok-make-2.field-0) c.make-2.new.chip = search rules in
    used-up c.args.chip.now c.make.new.chip c.make-2.new.chip 4094 c.in_ok-made.made c.in_ok-make-2.field-0 c.requires made gone
