use Rattle.std.proofs.Common.{List, sym, subst, ap, ◌∙◌, arith}
use Rattle.intake_queue.specs.Values.{Sender}
use Rattle.round_actors.specs.Round.{ActorsRan}
use Rattle.round_actors.proofs.Together.{ran-nothing}
use Rattle.round_actors.proofs.round.run_actors.Goals as goal

pub learn-requires : goal.learn-requires
learn-requires g c = record { name = c.requires.name; all = c.requires.passes.all; parts = c.requires.restarts.0 }

pub returns-in-Err-clause-ran : goal.returns-in-Err-clause-ran
returns-in-Err-clause-ran g c =
    let V = g.V.RoundValue in
    let value = c.learn.new.value in
    let e = c.learn.ensures in
    let none = c.requires.restarts.2 in
    let made = e.restarts.2 in
    subst (λ l. ActorsRan c.args.intake.now c.args.sections.now l (V.taker value) (V.refusal value) (V.restarts value)) (sym {A = List Sender} e.stays.1)
    (ran-nothing c.args.intake.now c.args.sections.now c.args.passes.items (V.taker value) (V.refusal value) (V.restarts value)
    c.requires.passes c.requires.sections (λ f. c.refuse.ensures (ap V.refusal (sym e.stays.0) ∙ f)) e.met (omega arith))
