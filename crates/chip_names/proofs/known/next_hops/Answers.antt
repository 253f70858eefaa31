use Rattle.std.proofs.Common.{subst}
use Rattle.chip_names.specs.Naming.{numbered}
use Rattle.chip_names.proofs.NextHops.{AreSoFar, at-last, hop_put, no_hop}
use Rattle.chip_names.proofs.known.next_hops.Goals as goal

pub loop-id-preserved-in_ok-insert : goal.loop-id-preserved-in_ok-insert
loop-id-preserved-in_ok-insert c =
    let all = c.args.bodies.now in
    let so_far = subst (λ l. AreSoFar (numbered all) all l c.loop-id.hops) c.in-Some.ensures.steps c.loop-id.invariant in
    rw c.in_ok-insert.ensures.entries (hop_put (numbered all) all c.next.new.self (c.in-Some.id.now, c.in-Some.body.now) c.loop-id.hops so_far c.in-Some-hop_of.hop c.in-Some-hop_of.ensures)

pub loop-id-preserved : goal.loop-id-preserved
loop-id-preserved c =
    let all = c.args.bodies.now in
    let so_far = subst (λ l. AreSoFar (numbered all) all l c.loop-id.hops) c.in-Some.ensures.steps c.loop-id.invariant in
    no_hop (numbered all) all c.next.new.self (c.in-Some.id.now, c.in-Some.body.now) c.loop-id.hops so_far c.in_default.ensures

pub returns : goal.returns
returns c =
    let all = c.args.bodies.now in
    at-last all c.loop-id.hops (subst (λ l. AreSoFar (numbered all) all l c.loop-id.hops) c.in-None.ensures.steps.0 c.loop-id.invariant)
