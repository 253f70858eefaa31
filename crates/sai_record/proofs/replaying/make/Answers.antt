use Rattle.std.proofs.Common.{sym, ◌∙◌, subst}
use Rattle.sai_types.specs.ChipState.{Answers}
use Rattle.sai_record.proofs.Makes.{done-made, failed-made, none-why, not-asked, refused-made}
use Rattle.sai_record.proofs.replaying.make.Goals as goal

pub returns-in-Some-clause-made : goal.returns-in-Some-clause-made
returns-in-Some-clause-made g c = not-asked c.args.numbers.now (g.C.Chip.state c.args.chip.now) c.args.recorded.now c.in-Some.why (sym c.stop.ensures ∙ c.in-Some.is)

pub returns-in-Done-clause-made : goal.returns-in-Done-clause-made
returns-in-Done-clause-made g c =
    let old = g.C.Chip.state c.args.chip.now in
    let new = g.C.Chip.state c.call.new.self in
    done-made c.args.numbers.now old c.args.recorded.now (sym c.stop.ensures ∙ none-why c.stop.result c.in_default.not-Some) new c.in_ok-call.call c.in_ok-call.ensures
    (subst (λ a. Answers old c.in_ok-call.call a new) c.in-Done.is c.call.ensures.answer)

pub returns-in-Failed-clause-made : goal.returns-in-Failed-clause-made
returns-in-Failed-clause-made g c =
    let old = g.C.Chip.state c.args.chip.now in
    let new = g.C.Chip.state c.call.new.self in
    failed-made c.args.numbers.now old c.args.recorded.now (sym c.stop.ensures ∙ none-why c.stop.result c.in_default.not-Some) new c.in_ok-call.call c.in_ok-call.ensures
    (subst (λ a. Answers old c.in_ok-call.call a new) c.in-Failed.is c.call.ensures.answer)

pub returns-in_default-call : goal.returns-in_default-call
returns-in_default-call g c =
    let old = g.C.Chip.state c.args.chip.now in
    let new = g.C.Chip.state c.call.new.self in
    record {
      made = refused-made c.args.numbers.now old c.args.recorded.now (sym c.stop.ensures ∙ none-why c.stop.result c.in_default.not-Some) new c.in_ok-call.call c.in_ok-call.ensures
          c.call.result c.call.ensures.answer c.in_default-call.not-Made c.in_default-call.not-Done c.in_default-call.not-Failed c.in_default-call.not-NoMemory;
      memory = tt;
      room = c.call.ensures.capacities;
      fails = c.call.ensures.fails;
    }
