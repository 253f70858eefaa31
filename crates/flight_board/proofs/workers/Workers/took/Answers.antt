use Rattle.std.proofs.Common.{Some, slice_set, sym, ap, ◌∙◌, subst}
use Rattle.registry_laws.specs.Making.{TookFor}
use Rattle.flight_board.proofs.Places.{got-on, took-none, took-on}
use Rattle.flight_board.proofs.workers.Workers.took.Goals.{in-Some, in-None}
use Rattle.flight_board.proofs.workers.Workers.took.Goals as goal

pub took-requires : goal.took-requires
took-requires c =
    let w = c.args.worker in
    let at = got-on c.self.inside.flights c.args.self.now w c.index-self-worker.result c.self.view_is c.requires.worker c.requires.four in
    c.requires.may c.in-Some.flight (at ∙ c.in-Some.is)

pub returns : goal.returns
returns c =
    let w = c.args.worker in
    let at = got-on c.self.inside.flights c.args.self.now w c.index-self-worker.result c.self.view_is c.requires.worker c.requires.four in
    let new = c.match-self-worker.self-inside.flights in
    let reg = c.match-self-worker.reg in
    elim c.match-self-worker.branch [
      | in-Some x ↦ (
          let f = x.in-Some.flight in
          let g = x.took.new.self in
          took-on c.args.self.now new w c.args.made c.args.reg.now reg f g (at ∙ x.in-Some.is) (ap (λ z. z.flights) x.self-inside-is ∙ ap (λ l. slice_set l w (Some g)) c.self.view_is)
          (subst (TookFor f.flown.operation f.flown.group c.args.made c.args.reg.now g.flown) (sym x.reg-is) x.took.ensures.took) x.took.ensures.named x.took.ensures.shared)
      | in-None x ↦ took-none c.args.self.now new w c.args.made c.args.reg.now reg (at ∙ x.in-None.is)
    ]
