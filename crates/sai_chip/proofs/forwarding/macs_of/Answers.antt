use Rattle.std.proofs.Common.{ℕ, option_map, ap, ◌∙◌, rules}
use Rattle.sai_types.specs.declared.ids.Rid.{Rid}
use Rattle.sai_types.specs.Named.{whop_at}
use Rattle.sai_chip.specs.Forward.{way_of, ways_in}
use Rattle.sai_chip.proofs.Sending.{ways_by-before}
use Rattle.sai_chip.proofs.forwarding.macs_of.Goals as goal

pub loop-left-preserved : goal.loop-left-preserved
loop-left-preserved c = record {
  within = search rules;
  found = ways_by-before c.args.held.now c.args.next_hops.now c.loop-left.left c.index-next_hops-left.result c.way_to.result (option_map (λ m. ways_in m.entries) c.loop-left.macs) (option_map (λ m. ways_in m.entries) c.in_ok-macs.macs) c.loop-left-test.true c.loop-left.invariant.within c.loop-left.invariant.found (c.way_to.ensures ∙ ap (λ (n : Rid × ℕ). option_map (way_of c.args.held.now) (whop_at c.args.held.now n.0 n.1)) c.index-next_hops-left.is) c.in_ok-macs.ensures;
}
