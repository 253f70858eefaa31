use Rattle.std.proofs.Common.{◌≡◌, ◌+◌, Bool, true, false, None, if◌then◌else◌, sym, ◌∙◌, subst, arith}
use Rattle.std.proofs.lemmas.Grind.{common_steps}
use Rattle.sai_types.specs.After.{after_call, makes_id}
use Rattle.sai_types.specs.Made.{IsWhole}
use Rattle.sai_chip.specs.Sim.{refusal_at}
use Rattle.sai_chip.proofs.sim.SimChip.make.Goals as goal

pub invariant_of-self-then-makes : goal.invariant_of-self-then-makes
invariant_of-self-then-makes c =
    let legal = subst (λ s. refusal_at s c.args.call.now ≡ None) (sym c.self.view_is) c.requires in
    let makes : makes_id c.args.call.now ≡ true = sym c.makes_id-makes.ensures ∙ c.if-makes.true in
    record {
      identifiers = grind (arith, common_steps);
      whole = rw c.in_ok-make_effect.ensures.ok (subst (λ (b : Bool). IsWhole (if b then c.self.inside.made + 1 else c.self.inside.made) (after_call (c.self.inside.made + 1) c.self.inside.held c.args.call.now)) makes (c.stays_whole.ensures c.self.inside.caps.0 c.self.inside.made c.self.inside.held c.args.call.now c.self.invariant.whole legal));
      lanes = rw c.in_ok-make_effect.ensures.ok (c.lanes_stay.ensures (c.self.inside.made + 1) c.self.inside.held c.args.call.now c.self.invariant.whole.sorted c.self.invariant.lanes c.makes_first.ensures);
      failures = c.self.invariant.failures;
      named = c.self.invariant.named;
    }

pub invariant_of-self-else-makes : goal.invariant_of-self-else-makes
invariant_of-self-else-makes c =
    let legal = subst (λ s. refusal_at s c.args.call.now ≡ None) (sym c.self.view_is) c.requires in
    let makes : makes_id c.args.call.now ≡ false = sym c.makes_id-makes.ensures ∙ c.if-makes.false in
    record {
      identifiers = grind (arith, common_steps);
      whole = rw c.in_ok-make_effect.ensures.ok (subst (λ (b : Bool). IsWhole (if b then c.self.inside.made + 1 else c.self.inside.made) (after_call (c.self.inside.made + 1) c.self.inside.held c.args.call.now)) makes (c.stays_whole.ensures c.self.inside.caps.0 c.self.inside.made c.self.inside.held c.args.call.now c.self.invariant.whole legal));
      lanes = rw c.in_ok-make_effect.ensures.ok (c.lanes_stay.ensures (c.self.inside.made + 1) c.self.inside.held c.args.call.now c.self.invariant.whole.sorted c.self.invariant.lanes c.makes_first.ensures);
      failures = c.self.invariant.failures;
      named = c.self.invariant.named;
    }
