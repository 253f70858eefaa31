use Rattle.std.proofs.Common.{◌≡◌, ◌+◌, ◌<◌, length, ap, sym, ◌∙◌, subst, arith}
use Rattle.nexthop_orch.specs.Groups.{hops_named}
use Rattle.nexthop_orch.proofs.Takes.{kept-on, places, room, took-last, took-one}
use Rattle.nexthop_orch.proofs.flight.GroupFlight.took.Goals as goal

pub keep-requires : goal.keep-requires
keep-requires c =
    let i = c.self.inside in
    room c.args.reg.now i.worker i.name i.neighbours.items i.made.items i.done c.args.made i.builds _ c.args.self.now c.self.view_is c.self.invariant c.requires

pub invariant_of-self : goal.invariant_of-self
invariant_of-self c =
    let i = c.self.inside in
    kept-on c.args.reg.now i.worker i.name i.neighbours.items i.made.items i.done c.args.made i.builds c.keep.new.ids.items _ _ c.args.self.now c.self.view_is c.self.invariant c.requires c.keep.ensures.items c.keep.ensures.capacity

pub end-requires-clause-places : goal.end-requires-clause-places
end-requires-clause-places c =
    let i = c.self.inside in
    places c.args.reg.now i.worker i.name i.neighbours.items i.made.items i.done c.args.made i.builds c.keep.new.ids.items c.args.self.now c.self.view_is c.self.invariant.numbered c.requires c.keep.ensures.items

pub returns-then-members-self : goal.returns-then-members-self
returns-then-members-self c =
    let i = c.self.inside in
    let hops : c.hops-members.result.now ≡ hops_named i.name = c.hops-members.ensures.value ∙ ap (λ z. z.hops) (sym c.self.view_is) in
    took-last c.args.reg.now i.worker i.name i.neighbours.items i.made.items i.done c.args.made i.builds c.keep.new.ids.items c.end.new.reg c.args.self.now c.self.view_is c.requires c.keep.ensures.items (subst (λ l. length l < i.done + 1) hops c.if-members-self.true) c.end.ensures

pub returns-else-members-self : goal.returns-else-members-self
returns-else-members-self c =
    let i = c.self.inside in
    let hops : c.hops-members.result.now ≡ hops_named i.name = c.hops-members.ensures.value ∙ ap (λ z. z.hops) (sym c.self.view_is) in
    took-one c.args.reg.now i.worker i.name i.neighbours.items i.made.items i.done c.args.made i.builds c.keep.new.ids.items c.args.self.now c.self.view_is c.requires c.keep.ensures.items
    (λ past. let most = c.if-members-self.false in let long = ap length hops in omega (arith, past, most, long))
