use Rattle.std.proofs.Common.{ℕ, ap, ◌∙◌, rules}
use Rattle.sai_types.specs.Named.{whop_at}
use Rattle.sai_types.specs.declared.ids.Rid.{Rid}
use Rattle.chip_names.specs.Naming.{numbered}
use Rattle.chip_names.proofs.SameNames.{hops_by-before}
use Rattle.chip_names.proofs.things.hops_of.Goals as goal

pub loop-left-preserved : goal.loop-left-preserved
loop-left-preserved c =
    let bodies = numbered c.args.bodies.now in
    let member = c.index-next_hops-left.result in
    record {
      within = search rules;
      found = hops_by-before bodies c.args.next_hops.now c.loop-left.left member c.whop_at.result c.loop-left.hops c.in_ok-hops.hops c.loop-left-test.true c.loop-left.invariant.within c.loop-left.invariant.found (c.whop_at.ensures ∙ ap (λ (m : Rid × ℕ). whop_at bodies m.0 m.1) c.index-next_hops-left.is) c.in_ok-hops.ensures;
    }
