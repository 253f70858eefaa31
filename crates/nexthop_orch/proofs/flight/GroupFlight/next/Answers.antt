use Rattle.std.proofs.Common.{◌-◌, suc, true, slice_get, refl, ap, sym, ◌∙◌, arith}
use Rattle.nexthop_orch.proofs.Calls.{group_operation_told, knows-neighbour, next-built, next-group, next-member, next-none}
use Rattle.nexthop_orch.proofs.flight.GroupFlight.next.Goals as goal

pub returns-then-not-self : goal.returns-then-not-self
returns-then-not-self c = λ plan plans over. c.next_removal.ensures plan

pub returns-then-self-eq0 : goal.returns-then-self-eq0
returns-then-self-eq0 c = λ plan plans over.
    let i = c.self.inside in
    next-group c.args.reg.now i.worker i.name i.neighbours.items i.made.items plan c.args.self.now
    (group_operation_told c.args.self.now i.worker i.name i.builds true i.neighbours.items i.made.items i.done 0 c.self.view_is c.if-not-self.false c.if-self-eq0.true)

pub returns-in_default : goal.returns-in_default
returns-in_default c = λ plan plans over.
    let i = c.self.inside in
    let some = c.if-self-eq0.false in
    next-none c.args.reg.now i.worker i.name i.neighbours.items i.made.items plan (i.done - 1) c.args.self.now
    (group_operation_told c.args.self.now i.worker i.name i.builds true i.neighbours.items i.made.items i.done (suc (i.done - 1)) c.self.view_is c.if-not-self.false (omega (arith, some)))
    (ap (λ l. slice_get l (i.done - 1)) (sym c.hops.ensures.value) ∙ sym c.hop_at.ensures ∙ c.in_default.is)

pub returns-in_default-2 : goal.returns-in_default-2
returns-in_default-2 c = λ plan plans over.
    let i = c.self.inside in
    let some = c.if-self-eq0.false in
    next-built c.args.reg.now i.worker i.name i.neighbours.items i.made.items plan (i.done - 1) c.args.self.now
    (group_operation_told c.args.self.now i.worker i.name i.builds true i.neighbours.items i.made.items i.done (suc (i.done - 1)) c.self.view_is c.if-not-self.false (omega (arith, some)))
    (ap (λ l. slice_get l (i.done - 1)) (sym c.as_slice.ensures.value) ∙ sym c.in_ok-key.ensures ∙ c.in_default-2.is) over

pub vid-requires : goal.vid-requires
vid-requires c =
    let i = c.self.inside in
    knows-neighbour c.args.reg.now i.worker i.name i.neighbours.items i.made.items (i.done - 1) c.in-Some-2.key i.done c.args.self.now
    (group_operation_told c.args.self.now i.worker i.name i.builds true i.neighbours.items i.made.items i.done i.done c.self.view_is c.if-not-self.false refl)
    (ap (λ l. slice_get l (i.done - 1)) (sym c.as_slice.ensures.value) ∙ sym c.in_ok-key.ensures ∙ c.in-Some-2.is) c.requires

pub returns : goal.returns
returns c = λ plan plans over.
    let i = c.self.inside in
    let some = c.if-self-eq0.false in
    let number = c.self.invariant.numbered c.if-not-self.false in
    next-member c.args.reg.now i.worker i.name i.neighbours.items i.made.items plan (i.done - 1) c.in-Some.hop c.in-Some-2.key _ _ _ c.args.self.now
    (group_operation_told c.args.self.now i.worker i.name i.builds true i.neighbours.items i.made.items i.done (suc (i.done - 1)) c.self.view_is c.if-not-self.false (omega (arith, some)))
    c.index.ensures (omega (arith, number, some))
    (ap (λ l. slice_get l (i.done - 1)) (sym c.hops.ensures.value) ∙ sym c.hop_at.ensures ∙ c.in-Some.is)
    (ap (λ l. slice_get l (i.done - 1)) (sym c.as_slice.ensures.value) ∙ sym c.in_ok-key.ensures ∙ c.in-Some-2.is) c.vid.ensures over
