use Rattle.std.proofs.Common.{rules, ◌∙◌}
use Rattle.table_schema.specs.Fields.{IsPlace}
use Rattle.table_schema.proofs.TakenBack.{set-at, remove-at, nothing-at}
use Rattle.table_schema.proofs.few.restore_few.Goals as goal

pub returns-in-Ok-Some : goal.returns-in-Ok-Some
returns-in-Ok-Some c =
    let placed : IsPlace c.args.pairs.now.items c.args.name.now c.place_of.result = search rules in
    set-at c.args.pairs.now.items c.args.name.now c.place_of.result c.args.was c.in-Ok-Some.at placed c.in-Ok-Some.value c.index_mut.result.now c.requires c.in-Ok-Some.is-0 c.in-Ok-Some.is-1 c.index_mut.ensures.value

pub returns-in-Ok-None : goal.returns-in-Ok-None
returns-in-Ok-None c =
    let placed : IsPlace c.args.pairs.now.items c.args.name.now c.place_of.result = search rules in
    c.remove.ensures.items ∙ remove-at c.args.pairs.now.items c.args.name.now c.place_of.result c.args.was c.in-Ok-None.at placed c.in-Ok-None.is-0 c.in-Ok-None.is-1

pub returns-in-Err-default : goal.returns-in-Err-default
returns-in-Err-default c =
    let placed : IsPlace c.args.pairs.now.items c.args.name.now c.place_of.result = search rules in
    nothing-at c.args.pairs.now.items c.args.name.now c.place_of.result c.args.was c.in-Err-default.field-0-0 placed c.in-Err-default.is-0
