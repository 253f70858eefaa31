use Rattle.std.proofs.Common.{◌≡◌, [], Some, option_map, refl, sym, ap, subst, ◌∙◌}
use Rattle.std.proofs.lemmas.Option.{same_Some}
use Rattle.registry_laws.specs.Ending.{MayEnd}
use Rattle.registry_laws.specs.Flown.{due_for}
use Rattle.registry_laws.specs.Making.{MayTakeFor}
use Rattle.flight_board.specs.Board.{AreKept, BoardState, FlightState, IsTakenFor, MayEndThen, flight_on, flown_at}
use Rattle.flight_board.proofs.Events.{took_event}
use Rattle.flight_board.proofs.Kept.{kept-back, took-alike, within}
use Rattle.flight_board.proofs.Places.{on-same, same-flown, under-way}
use Rattle.flight_board.proofs.board.Board.took.Goals as goal

pub took-requires-clause-may : goal.took-requires-clause-may
took-requires-clause-may c = λ f at.
    let i = c.self.inside in
    let may = c.requires.may in
    let same = same-flown (flight_on i.workers c.args.worker) f may.0 at (ap (λ z. flown_at z c.args.worker) c.self.view_is ∙ may.1) in
    subst (λ z. MayTakeFor z.operation z.group c.args.made i.registry) (sym same) (subst (λ z. MayTakeFor may.0.operation may.0.group c.args.made z.names) (sym c.self.view_is) may.2)

pub go_on-requires-clause-may : goal.go_on-requires-clause-may
go_on-requires-clause-may c = λ h here over.
    let i = c.self.inside in
    let w = c.args.worker in
    let (f, at, flies) = under-way (flight_on i.workers w) c.requires.may.0 (ap (λ z. flown_at z w) c.self.view_is ∙ c.requires.may.1) in
    let (g, is, took, named, shared) = c.took.ensures f at in
    let there = ap (λ l. flight_on l w) is ∙ on-same i.workers w (Some g) (within i.plan i.applied i.workers w c.requires.worker c.self.invariant) in
    let same = same_Some g h (sym there ∙ here) in
    let ends = subst (λ z. MayEndThen z w c.args.made) (sym c.self.view_is) c.requires.ends in
    subst (λ z. MayEnd c.took.new.reg w z.flown.operation.key z.flown.operation.new) same (ends f.flown g.flown c.took.new.reg (ap (option_map (λ z. z.flown)) at) took (subst (λ z. due_for i.plan c.took.new.reg z.flown ≡ []) (sym same) over))

pub invariant_of-self : goal.invariant_of-self
invariant_of-self c =
    let i = c.self.inside in
    let w = c.args.worker in
    let (f, at, _) = under-way (flight_on i.workers w) c.requires.may.0 (ap (λ z. flown_at z w) c.self.view_is ∙ c.requires.may.1) in
    let (g, is, took, named, shared) = c.took.ensures f at in
    subst (AreKept i.plan i.applied) (sym is) (kept-back i.plan i.applied i.workers w f g c.requires.worker c.self.invariant at named shared (took-alike f.flown.operation f.flown.group c.args.made i.registry g.flown c.took.new.reg took))

pub returns : goal.returns
returns c =
    let i = c.self.inside in
    let w = c.args.worker in
    let (f, at, _) = under-way (flight_on i.workers w) c.requires.may.0 (ap (λ z. flown_at z w) c.self.view_is ∙ c.requires.may.1) in
    let (g, is, took, named, shared) = c.took.ensures f at in
    let old : BoardState = record { plan = i.plan; names = i.registry; room = i.room; applied = i.applied; flights = i.workers } in
    let mid : BoardState = record { plan = i.plan; names = c.took.new.reg; room = i.room; applied = i.applied; flights = c.took.new.self } in
    let here = ap (λ l. flight_on l w) is ∙ on-same i.workers w (Some g) (within i.plan i.applied i.workers w c.requires.worker c.self.invariant) in
    subst (λ z. IsTakenFor z w c.args.made c.go_on.new.self) c.self.view_is (took_event old mid c.go_on.new.self w c.args.made f g at took refl refl refl is (c.go_on.ensures g here))
