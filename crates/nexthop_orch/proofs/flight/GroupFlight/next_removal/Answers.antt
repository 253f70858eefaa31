use Rattle.std.proofs.Common.{◌≡◌, ◌<◌, length, refl, ap, sym, ◌∙◌, subst, arith}
use Rattle.sai_types.specs.Hop.{AreRisingHops}
use Rattle.nexthop_orch.specs.Groups.{hops_named}
use Rattle.nexthop_orch.proofs.Calls.{group_operation_told, next-gone, next-last, next-removal}
use Rattle.nexthop_orch.proofs.flight.GroupFlight.next_removal.Goals as goal

pub returns-then-self-members : goal.returns-then-self-members
returns-then-self-members c = λ plan.
    let i = c.self.inside in
    let hops : c.hops-members.result.now ≡ hops_named i.name = c.hops-members.ensures.value ∙ ap (λ z. z.hops) (sym c.self.view_is) in
    next-removal c.args.reg.now i.worker i.name i.neighbours.items i.made.items plan i.done c.vids_of-ids.result.now _ c.args.self.now
    (group_operation_told c.args.self.now i.worker i.name i.builds _ i.neighbours.items i.made.items i.done i.done c.self.view_is (ap (λ z. z.builds) c.self.view_is ∙ c.requires.goes) refl)
    c.self.invariant.group (subst AreRisingHops hops c.hops-members.ensures.rising) (subst (λ l. i.done < length l) hops c.if-self-members.true) c.vids_of-ids.ensures c.requires.known

pub returns-then-self-members-2 : goal.returns-then-self-members-2
returns-then-self-members-2 c = λ plan.
    let i = c.self.inside in
    let hops : c.hops-members.result.now ≡ hops_named i.name = c.hops-members.ensures.value ∙ ap (λ z. z.hops) (sym c.self.view_is) in
    next-last c.args.reg.now i.worker i.name i.neighbours.items i.made.items plan c.vids_of-ids.result.now _ c.args.self.now
    (group_operation_told c.args.self.now i.worker i.name i.builds _ i.neighbours.items i.made.items i.done _ c.self.view_is (ap (λ z. z.builds) c.self.view_is ∙ c.requires.goes) (c.if-self-members-2.true ∙ ap length hops))
    c.self.invariant.group c.vids_of-ids.ensures c.requires.known

pub returns-else-self-members-2 : goal.returns-else-self-members-2
returns-else-self-members-2 c = λ plan.
    let i = c.self.inside in
    let hops : c.hops-members.result.now ≡ hops_named i.name = c.hops-members.ensures.value ∙ ap (λ z. z.hops) (sym c.self.view_is) in
    next-gone c.args.reg.now i.worker i.name i.neighbours.items i.made.items plan c.args.self.now i.done
    (group_operation_told c.args.self.now i.worker i.name i.builds _ i.neighbours.items i.made.items i.done i.done c.self.view_is (ap (λ z. z.builds) c.self.view_is ∙ c.requires.goes) refl)
    (let more = c.if-self-members.false in let apart = c.if-self-members-2.false in let long = ap length hops in omega (arith, more, apart, long))
