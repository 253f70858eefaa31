use Rattle.std.proofs.Common.{◌∙◌, is_some, Ok, ap, subst}
use Rattle.orch_core.specs.Settled.{MakesTurns}
use Rattle.orch_core.proofs.Ends.{keys_end}
use Rattle.orch_core.proofs.state.Core.settle_keys.Goals as goal

pub mark_settled-requires : goal.mark_settled-requires
mark_settled-requires g c =
    let s = c.requires.session in
    let x = subst (λ r. MakesTurns s.0 c.args.self.now (g.C.Chip.state c.args.chip.now) r c.make_turns.new.self (g.C.Chip.state c.make_turns.new.chip)) (c.in_ok-turns.was ∙ ap Ok c.in-Whole.is) (c.make_turns.ensures s.0 s.1) in
    record { listed = λ k i. ap is_some (x.1.lists k i).1 }

pub returns-in-Whole : goal.returns-in-Whole
returns-in-Whole g c = λ s is.
    let x = subst (λ r. MakesTurns s c.args.self.now (g.C.Chip.state c.args.chip.now) r c.make_turns.new.self (g.C.Chip.state c.make_turns.new.chip)) (c.in_ok-turns.was ∙ ap Ok c.in-Whole.is) (c.make_turns.ensures s is) in
    keys_end s c.args.self.now (g.C.Chip.state c.args.chip.now) is c.in-Whole.turns c.make_turns.new.self (g.C.Chip.state c.make_turns.new.chip) x.0 x.1 x.2 c.effects.result c.effects.ensures c.mark_settled.result c.mark_settled.new.self c.mark_settled.ensures
