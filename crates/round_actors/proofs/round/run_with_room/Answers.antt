use Rattle.std.proofs.Common.{List, length, sym, subst, ap, ◌∙◌, arith}
use Rattle.intake_queue.specs.Values.{AreAllPasses, IsMet, Sender}
use Rattle.round_actors.specs.Round.{ActorsRan}
use Rattle.round_actors.proofs.Actors.{all_may, all_may_more, pairs-length}
use Rattle.round_actors.proofs.Together.{IsPassed, have-made, ran, ran-passes}
use Rattle.round_actors.proofs.round.run_with_room.Goals as goal

pub run_list-requires-clause-may : goal.run_list-requires-clause-may
run_list-requires-clause-may g c lifetimes outlive =
    let up = c.line_up in
    all_may_more c.args.intake.now c.args.sections.now c.args.workers g.V.RoundValue.workers up.new.actors.items c.requires.few.2 up.ensures.may

pub take_all_back-requires : goal.take_all_back-requires
take_all_back-requires g c =
    let intake = c.args.intake.now in
    let sections = c.args.sections.now in
    let up = c.line_up in
    let made = have-made intake sections c.args.workers up.new.actors.items c.run_list.new.actors.items (all_may intake sections c.args.workers up.new.actors.items up.ensures.may) c.run_list.ensures in
    let long = pairs-length (IsPassed sections) _ _ made.passed in
    let lined = ap length up.ensures.passes in
    let room = c.requires.back.1 in record { room = (c.requires.back.0, omega arith) }

pub learn-requires : goal.learn-requires
learn-requires g c =
    let intake = c.args.intake.now in
    let sections = c.args.sections.now in
    let up = c.line_up in
    let xs = up.new.actors.items in
    let ys = c.run_list.new.actors.items in
    let made = have-made intake sections c.args.workers xs ys (all_may intake sections c.args.workers xs up.ensures.may) c.run_list.ensures in
    let same = made.parts in
    let lined = up.ensures.restarts.0 in
    let back = c.take_all_back.ensures.restarts.0 in
    let whole = c.requires.restarts.0 in
    record {
      name = c.requires.name;
      all = subst (AreAllPasses intake) (sym {A = List Sender} c.take_all_back.ensures.passes) (ran-passes intake sections c.args.passes.items xs ys c.requires.passes up.ensures.passes made);
      parts = omega arith;
    }

pub returns-clause-ran : goal.returns-clause-ran
returns-clause-ran g c =
    let intake = c.args.intake.now in
    let sections = c.args.sections.now in
    let V = g.V.RoundValue in
    let up = c.line_up in
    let xs = up.new.actors.items in
    let ys = c.run_list.new.actors.items in
    let made = have-made intake sections c.args.workers xs ys (all_may intake sections c.args.workers xs up.ensures.may) c.run_list.ensures in
    let back = c.take_all_back.ensures in
    let e = c.learn.ensures in
    let value = c.learn.new.value in
    let total = e.restarts.2 in
    let merged = back.restarts.1 in
    let none = up.ensures.restarts.1 in
    subst (λ l. ActorsRan intake sections l (V.taker value) (V.refusal value) (V.restarts value)) (sym {A = List Sender} (◌∙◌ {A = List Sender} e.stays.1 back.passes))
    (ran intake sections c.args.passes.items xs ys (V.taker value) (V.refusal value) (V.restarts value) c.requires.passes c.requires.sections up.ensures.passes made
    (λ calm. let z = e.stops calm in let b = back.stops in let s = up.ensures.stops in omega arith)
    (subst (IsMet (V.taker value)) back.passes e.met) (omega arith))
