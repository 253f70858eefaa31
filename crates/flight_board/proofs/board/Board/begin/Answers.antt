use Rattle.std.proofs.Common.{ℕ, ◌≡◌, Ok, Err, [], Some, IfOk, IfNone, IfSome, refl, sym, ap, subst, ◌∙◌}
use Rattle.std.proofs.lemmas.Option.{same_Some}
use Rattle.switch_model.specs.Placed.{router_in}
use Rattle.orch_flight.specs.Sharing.{MayStart}
use Rattle.orch_flight.specs.Starting.{in_place}
use Rattle.registry_laws.specs.Ending.{MayEnd}
use Rattle.registry_laws.specs.Flown.{due_for}
use Rattle.flight_board.specs.Applied.{placed_at, placed_for, row_at}
use Rattle.flight_board.specs.Board.{AreCountedWith, AreKept, BoardState, HasKeyAt, IsFlightBegun, IsBegunFor, IsHeldUp, IsUnflown, MayEndAtOnce, StartsOn, flight_on}
use Rattle.flight_board.proofs.Events.{begun-err, begun-ok, held-begun, operation-is, started-in}
use Rattle.flight_board.proofs.Kept.{kept-begun, kept-moved, kept-with, same-named, within}
use Rattle.flight_board.proofs.Places.{on-same}
use Rattle.flight_board.proofs.board.Board.begin.Goals as goal

pub start-requires-clause-may : goal.start-requires-clause-may
start-requires-clause-may c =
    let i = c.self.inside in
    let free = subst (λ z. IsUnflown z c.args.key.now) (sym c.self.view_is) (subst (λ o. IfNone o (IsUnflown c.args.self.now c.args.key.now)) c.in_default.is c.in_ok-wait.ensures.none) in
    let k = c.args.key.now in
    let may = subst (λ (z : BoardState). IsUnflown z k → MayStart z.plan z.names c.args.worker k (placed_at z.applied k) (placed_for z.applied k c.args.new)) (sym c.self.view_is) c.requires.may free in
    let v : c.router_of-router.result ≡ router_in (row_at i.applied) k = c.router_of-router.ensures.value ∙ ap (λ (z : BoardState). router_in (row_at z.applied) k) (sym c.self.view_is) in
    subst (λ o. MayStart i.plan i.registry c.args.worker k (in_place c.router_of-router.result o) (in_place c.router_of-router.result c.args.new)) (sym (c.known_row.ensures ∙ c.in_ok-has_row.ensures.rows k))
    (subst (λ u. MayStart i.plan i.registry c.args.worker k (in_place u (row_at i.applied k)) (in_place u c.args.new)) (sym v) may)

pub invariant_of-self-in-Ok-Ok : goal.invariant_of-self-in-Ok-Ok
invariant_of-self-in-Ok-Ok c =
    let i = c.self.inside in
    let k = c.args.key.now in
    let w = c.args.worker in
    let f = c.in-Ok-Ok.flight in
    let free = subst (λ z. IsUnflown z k) (sym c.self.view_is) (subst (λ o. IfNone o (IsUnflown c.args.self.now k)) c.in_default.is c.in_ok-wait.ensures.none) in
    let v = c.router_of-router.result in
    let old = in_place v (row_at c.keep_place.new.self k) in
    let new = in_place v c.args.new in
    let h = started-in i.plan i.registry i.room c.counted-counted.result w k c.start.new.reg c.start.new.room v v _ (row_at c.keep_place.new.self k) c.args.new c.in-Ok-Ok.field-0 (Ok f) refl c.known_row.ensures c.in-Ok-Ok.field-0-is c.in-Ok-Ok.ensures.started in
    let is = operation-is i.plan i.registry i.room c.counted-counted.result w k new c.start.new.reg c.start.new.room old f.flown.operation h in
    let begun = subst (λ a. IfOk a (IsFlightBegun i.plan k old new)) c.in-Ok-Ok.field-0-is (subst (λ o. IfOk c.in-Ok-Ok.field-0 (IsFlightBegun i.plan k (in_place v o) new)) c.known_row.ensures c.in-Ok-Ok.ensures.begun) in
    subst (AreKept i.plan c.keep_place.new.self) (sym c.put.ensures)
    (kept-with i.plan c.keep_place.new.self i.workers w f c.requires.worker (kept-begun i.plan c.keep_place.new.self w k old new f is begun (same-named k v (router_in (row_at c.keep_place.new.self) k) (row_at c.keep_place.new.self k) (row_at c.keep_place.new.self k) refl) c.in_ok-has_row.ensures.place)
    (subst (λ q. (v : ℕ) → HasKeyAt i.workers q v → ⊥) (sym is.key) free) (kept-moved i.plan i.applied c.keep_place.new.self i.workers k c.in_ok-has_row.ensures.others free c.self.invariant))

pub invariant_of-self-in-Ok-Err : goal.invariant_of-self-in-Ok-Err
invariant_of-self-in-Ok-Err c =
    let i = c.self.inside in
    let free = subst (λ z. IsUnflown z c.args.key.now) (sym c.self.view_is) (subst (λ o. IfNone o (IsUnflown c.args.self.now c.args.key.now)) c.in_default.is c.in_ok-wait.ensures.none) in
    kept-moved i.plan c.keep_place.new.self c.forget_place.new.self i.workers c.args.key.now c.forget_place.ensures.others free (kept-moved i.plan i.applied c.keep_place.new.self i.workers c.args.key.now c.in_ok-has_row.ensures.others free c.self.invariant)

pub invariant_of-self-in-Err : goal.invariant_of-self-in-Err
invariant_of-self-in-Err c =
    let i = c.self.inside in
    let free = subst (λ z. IsUnflown z c.args.key.now) (sym c.self.view_is) (subst (λ o. IfNone o (IsUnflown c.args.self.now c.args.key.now)) c.in_default.is c.in_ok-wait.ensures.none) in
    kept-moved i.plan c.keep_place.new.self c.forget_place-in-Err.new.self i.workers c.args.key.now c.forget_place-in-Err.ensures.others free (kept-moved i.plan i.applied c.keep_place.new.self i.workers c.args.key.now c.in_ok-has_row.ensures.others free c.self.invariant)

pub go_on-requires-clause-may : goal.go_on-requires-clause-may
go_on-requires-clause-may c = λ g here over.
    let i = c.self.inside in
    let k = c.args.key.now in
    let w = c.args.worker in
    let f = c.in-Ok-Ok.flight in
    let v = c.router_of-router.result in
    let at = c.router_of-router.ensures.value ∙ ap (λ (z : BoardState). router_in (row_at z.applied) k) (sym c.self.view_is) in
    let counts = subst (λ (z : BoardState). AreCountedWith z c.args.used.now c.counted-counted.result) (sym c.self.view_is) c.counted-counted.ensures in
    let u = router_in (row_at i.applied) k in
    let h = started-in i.plan i.registry i.room c.counted-counted.result w k c.start.new.reg c.start.new.room v u _ (row_at i.applied k) c.args.new c.in-Ok-Ok.field-0 (Ok f) at (c.known_row.ensures ∙ c.in_ok-has_row.ensures.rows k) c.in-Ok-Ok.field-0-is c.in-Ok-Ok.ensures.started in
    let is = operation-is i.plan i.registry i.room c.counted-counted.result w k (in_place u c.args.new) c.start.new.reg c.start.new.room (in_place u (row_at i.applied k)) f.flown.operation h in
    let begun = subst (λ a. IfOk a (IsFlightBegun i.plan k (in_place v (row_at c.keep_place.new.self k)) (in_place v c.args.new))) c.in-Ok-Ok.field-0-is (subst (λ o. IfOk c.in-Ok-Ok.field-0 (IsFlightBegun i.plan k (in_place v o) (in_place v c.args.new))) c.known_row.ensures c.in-Ok-Ok.ensures.begun) in
    let there = ap (λ l. flight_on l w) c.put.ensures ∙ on-same i.workers w (Some f) (within i.plan i.applied i.workers w c.requires.worker c.self.invariant) in
    let same = same_Some f g (sym there ∙ here) in
    let free = subst (λ o. IfNone o (IsUnflown c.args.self.now k)) c.in_default.is c.in_ok-wait.ensures.none in
    let ends = subst (λ z. MayEndAtOnce z c.args.used.now w k c.args.new) (sym c.self.view_is) (c.requires.ends free) in
    let none = subst (λ o. due_for i.plan c.start.new.reg (record { operation = f.flown.operation; group = o }) ≡ []) begun.group (subst (λ z. due_for i.plan c.start.new.reg z.flown ≡ []) (sym same) over) in
    subst (λ z. MayEnd c.start.new.reg w z.flown.operation.key z.flown.operation.new) same
    (subst (λ q. MayEnd c.start.new.reg w q f.flown.operation.new) (sym is.key) (ends f.flown.operation c.start.new.reg c.start.new.room (record { counted = c.counted-counted.result; counts = counts; started = h }) none))

pub returns-in-Ok-Ok-clause-begun : goal.returns-in-Ok-Ok-clause-begun
returns-in-Ok-Ok-clause-begun c =
    let i = c.self.inside in
    let free = subst (λ z. IsUnflown z c.args.key.now) (sym c.self.view_is) (subst (λ o. IfNone o (IsUnflown c.args.self.now c.args.key.now)) c.in_default.is c.in_ok-wait.ensures.none) in
    let k = c.args.key.now in
    let w = c.args.worker in
    let f = c.in-Ok-Ok.flight in
    let v = c.router_of-router.result in
    let at = c.router_of-router.ensures.value ∙ ap (λ (z : BoardState). router_in (row_at z.applied) k) (sym c.self.view_is) in
    let counts = subst (λ (z : BoardState). AreCountedWith z c.args.used.now c.counted-counted.result) (sym c.self.view_is) c.counted-counted.ensures in
    let u = router_in (row_at i.applied) k in
    let h = started-in i.plan i.registry i.room c.counted-counted.result w k c.start.new.reg c.start.new.room v u _ (row_at i.applied k) c.args.new c.in-Ok-Ok.field-0 (Ok f) at (c.known_row.ensures ∙ c.in_ok-has_row.ensures.rows k) c.in-Ok-Ok.field-0-is c.in-Ok-Ok.ensures.started in
    let begun = subst (λ a. IfOk a (IsFlightBegun i.plan k (in_place v (row_at c.keep_place.new.self k)) (in_place v c.args.new))) c.in-Ok-Ok.field-0-is (subst (λ o. IfOk c.in-Ok-Ok.field-0 (IsFlightBegun i.plan k (in_place v o) (in_place v c.args.new))) c.known_row.ensures c.in-Ok-Ok.ensures.begun) in
    let old : BoardState = record { plan = i.plan; names = i.registry; room = i.room; applied = i.applied; flights = i.workers } in
    let mid : BoardState = record { plan = i.plan; names = c.start.new.reg; room = c.start.new.room; applied = c.keep_place.new.self; flights = c.put.new.self } in
    let here = ap (λ l. flight_on l w) c.put.ensures ∙ on-same i.workers w (Some f) (within i.plan i.applied i.workers w c.requires.worker c.self.invariant) in
    let starts : StartsOn old c.args.used.now w k c.args.new f.flown.operation mid.names mid.room = record { counted = c.counted-counted.result; counts = counts; started = h } in
    subst (λ z. IsBegunFor z c.args.used.now w k c.args.new (Ok tt) c.go_on.new.self) c.self.view_is
    (begun-ok old mid c.go_on.new.self c.args.used.now w k c.args.new free f starts begun.group refl c.in_ok-has_row.ensures.rows c.put.ensures (c.go_on.ensures f here))

pub returns-in-Ok-Err-clause-begun : goal.returns-in-Ok-Err-clause-begun
returns-in-Ok-Err-clause-begun c =
    let i = c.self.inside in
    let free = subst (λ z. IsUnflown z c.args.key.now) (sym c.self.view_is) (subst (λ o. IfNone o (IsUnflown c.args.self.now c.args.key.now)) c.in_default.is c.in_ok-wait.ensures.none) in
    let k = c.args.key.now in
    let w = c.args.worker in
    let v = c.router_of-router.result in
    let at = c.router_of-router.ensures.value ∙ ap (λ (z : BoardState). router_in (row_at z.applied) k) (sym c.self.view_is) in
    let counts = subst (λ (z : BoardState). AreCountedWith z c.args.used.now c.counted-counted.result) (sym c.self.view_is) c.counted-counted.ensures in
    let h = started-in i.plan i.registry i.room c.counted-counted.result w k c.start.new.reg c.start.new.room v (router_in (row_at i.applied) k) _ (row_at i.applied k) c.args.new c.in-Ok-Err.field-0 (Err c.in-Ok-Err.wait) at (c.known_row.ensures ∙ c.in_ok-has_row.ensures.rows k) c.in-Ok-Err.field-0-is c.in-Ok-Err.ensures.started in
    let old : BoardState = record { plan = i.plan; names = i.registry; room = i.room; applied = i.applied; flights = i.workers } in
    let new : BoardState = record { plan = i.plan; names = c.start.new.reg; room = c.start.new.room; applied = c.forget_place.new.self; flights = i.workers } in
    subst (λ z. IsBegunFor z c.args.used.now w k c.args.new (Err c.in-Ok-Err.wait) new) c.self.view_is
    (begun-err old new new c.args.used.now w k c.args.new free c.in-Ok-Err.wait c.counted-counted.result counts h refl (λ q. c.forget_place.ensures.rows q ∙ c.in_ok-has_row.ensures.rows q) refl)

pub returns-in-Some-clause-begun : goal.returns-in-Some-clause-begun
returns-in-Some-clause-begun c =
    let board = c.args.self.now in
    let k = c.args.key.now in
    let held = subst (λ o. IfSome o (λ wait. IsHeldUp board k c.args.new wait)) c.in-Some.is c.in_ok-wait.ensures.some in
    held-begun board c.args.used.now c.args.worker k c.args.new c.in-Some.wait held
