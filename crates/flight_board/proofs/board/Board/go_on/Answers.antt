use Rattle.std.proofs.Common.{◌≡◌, ◌<◌, [], Some, refl, sym, ap, subst, ◌∙◌}
use Rattle.registry_laws.specs.Ending.{MayEnd}
use Rattle.registry_laws.specs.Flown.{due_for}
use Rattle.flight_board.specs.Board.{AreKept, BoardFollows, BoardState, FlightState, flight_at}
use Rattle.flight_board.proofs.Events.{ends}
use Rattle.flight_board.proofs.Kept.{free-without, kept-moved, kept-without, within}
use Rattle.flight_board.proofs.Places.{is-held}
use Rattle.flight_board.proofs.board.Board.go_on.Goals as goal

pub end-requires-clause-worker : goal.end-requires-clause-worker
end-requires-clause-worker c = subst (λ n. n < 4) (sym (c.self.invariant.each c.args.worker c.in-Some.flight (sym c.in-Some.ensures.value)).worker) c.requires.worker

pub end-requires-clause-placed : goal.end-requires-clause-placed
end-requires-clause-placed c = (c.self.invariant.each c.args.worker c.in-Some.flight (sym c.in-Some.ensures.value)).placed

pub end-requires-clause-named : goal.end-requires-clause-named
end-requires-clause-named c = (c.self.invariant.each c.args.worker c.in-Some.flight (sym c.in-Some.ensures.value)).named

pub end-requires-clause-may : goal.end-requires-clause-may
end-requires-clause-may c =
    let i = c.self.inside in
    let w = c.args.worker in
    let f = c.in-Some.flight in
    let at = sym c.in-Some.ensures.value in
    let here = ap (λ z. flight_at z w) (sym c.self.view_is) ∙ at in
    let may = subst (λ (z : BoardState). MayEnd z.names w f.flown.operation.key f.flown.operation.new) (sym c.self.view_is) (c.requires.may f here ((c.if-not-is_over.ensures f here).0 refl)) in
    subst (λ n. MayEnd i.registry n f.flown.operation.key f.flown.operation.new) (sym (c.self.invariant.each w f at).worker) may

pub invariant_of-self : goal.invariant_of-self
invariant_of-self c =
    let i = c.self.inside in
    let w = c.args.worker in
    let f = c.in-Some.flight in
    subst (AreKept i.plan c.end.new.applied) (sym c.take.ensures.rest)
    (kept-moved i.plan i.applied c.end.new.applied _ f.flown.operation.key c.end.ensures.others (free-without i.plan i.applied i.workers w f c.requires.worker c.self.invariant (sym c.in-Some.ensures.value)) (kept-without i.plan i.applied i.workers w c.requires.worker c.self.invariant))

pub invariant_of-self-in_default : goal.invariant_of-self-in_default
invariant_of-self-in_default c =
    let i = c.self.inside in
    subst (AreKept i.plan i.applied) (sym c.take.ensures.rest) (kept-without i.plan i.applied i.workers c.args.worker c.requires.worker c.self.invariant)

pub returns-in-Some : goal.returns-in-Some
returns-in-Some c =
    let i = c.self.inside in
    let w = c.args.worker in
    let f = c.in-Some.flight in
    let at = sym c.in-Some.ensures.value in
    let b : BoardState = record { plan = i.plan; names = i.registry; room = i.room; applied = i.applied; flights = i.workers } in
    let new : BoardState = record { plan = i.plan; names = c.end.new.reg; room = c.end.new.room; applied = c.end.new.applied; flights = c.take.new.self } in
    let over = subst (λ z. due_for z.plan z.names f.flown ≡ []) (sym c.self.view_is) ((c.if-not-is_over.ensures f (ap (λ z. flight_at z w) (sym c.self.view_is) ∙ at)).0 refl) in
    let follows = ends b w f c.take.new.self c.end.new.reg c.end.new.room c.end.new.applied (within i.plan i.applied i.workers w c.requires.worker c.self.invariant) c.take.ensures.rest over (c.self.invariant.each w f at).worker c.end.ensures.names c.end.ensures.room c.end.ensures.row c.end.ensures.others in
    subst (λ (z : BoardState). (g : FlightState) → flight_at z w ≡ Some g → BoardFollows w g.flown z.names z.room z new) c.self.view_is (is-held i.workers w f (λ g. BoardFollows w g.flown i.registry i.room b new) at follows)
