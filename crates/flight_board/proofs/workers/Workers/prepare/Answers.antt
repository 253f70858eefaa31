use Rattle.std.proofs.Common.{Option, ◌≡◌, OnOk, Some, None, get_or, slice_set, option_map, sym, ap, ◌∙◌, subst}
use Rattle.std.proofs.lemmas.Result.{on_ok_weaker}
use Rattle.flight_board.specs.Board.{FlightState, flight_on, with_group}
use Rattle.flight_board.proofs.Places.{got-on}
use Rattle.flight_board.proofs.workers.Workers.prepare.Goals.{in-Some, in-None}
use Rattle.flight_board.proofs.workers.Workers.prepare.Goals as goal

pub prepare-requires : goal.prepare-requires
prepare-requires c =
    let w = c.args.worker in
    let at = got-on c.self.inside.flights c.args.self.now w c.index-self-worker.result c.self.view_is c.requires.worker c.requires.four in
    c.requires.shared c.in-Some.flight (at ∙ c.in-Some.is)

pub returns-clause-ok : goal.returns-clause-ok
returns-clause-ok c =
    let w = c.args.worker in
    let at = got-on c.self.inside.flights c.args.self.now w c.index-self-worker.result c.self.view_is c.requires.worker c.requires.four in
    let new = c.match-self-worker.self-inside.flights in
    let begun = with_group c.args.plan.now c.args.reg.now in
    let is : (o : Option FlightState) → get_or c.self.inside.flights w c.index-self-worker.result ≡ o → slice_set c.self.inside.flights w (option_map begun o) ≡ slice_set c.args.self.now w (option_map begun (flight_on c.args.self.now w)) = λ o e. ap (λ l. slice_set l w (option_map begun o)) c.self.view_is ∙ ap (λ o. slice_set c.args.self.now w (option_map begun o)) (sym (at ∙ e)) in
    elim c.match-self-worker.branch [
      | in-Some x ↦ subst (λ r. OnOk r (new ≡ slice_set c.args.self.now w (option_map begun (flight_on c.args.self.now w)))) (sym x.result-is)
          (on_ok_weaker x.prepare.result (λ made. ap (λ z. z.flights) x.self-inside-is ∙ ap (λ g. slice_set c.self.inside.flights w (Some g)) made ∙ is (Some x.in-Some.flight) x.in-Some.is) x.prepare.ensures.ok)
      | in-None x ↦ subst (λ r. OnOk r (new ≡ slice_set c.args.self.now w (option_map begun (flight_on c.args.self.now w)))) (sym x.result-is)
          (rw x.in-None.is at (ap (λ z. z.flights) x.self-inside-is) ∙ is None x.in-None.is)
    ]
