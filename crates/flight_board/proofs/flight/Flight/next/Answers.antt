use Rattle.std.proofs.Common.{◌≡◌, Some, ap, sym, ◌∙◌, subst}
use Rattle.orch_flight.specs.Grouping.{IsGroupNextOf}
use Rattle.registry_laws.specs.Making.{IsNextCall}
use Rattle.flight_board.specs.Flights.{unboxed}
use Rattle.flight_board.proofs.flight.Flight.next.Goals as goal

pub returns-in_ok-next-in-Some : goal.returns-in_ok-next-in-Some
returns-in_ok-next-in-Some c = λ plan ready.
    let x = c.args.self.now.flown in
    let group : x.group ≡ Some c.deref.result.now = ap (λ z. z.flown.group) (sym c.self.view_is) ∙ ap unboxed c.in-Some.is ∙ ap Some (sym c.deref.ensures) in
    subst (λ g. IsNextCall plan c.args.reg.now x.operation g c.call_in.result) (sym group)
    (subst (IsGroupNextOf plan c.args.reg.now c.deref.result.now) c.call_in.ensures (c.in_ok-next-in-Some.ensures plan ready.plans (ready.group_over c.deref.result.now group)))
