use Rattle.std.proofs.Common.{◌≡◌, ◌<◌, length, get_or, is_lt, nat_cmp, set, true, sym, ap, subst, ◌∙◌, arith}
use Rattle.std.specs.declared.cmp.Ordering.TheVariants.{Equal}
use Rattle.std.proofs.lemmas.Grind.{common_steps}
use Rattle.std.proofs.lemmas.List.{get_or_read}
use Rattle.sai_types.specs.Hop.{AreRisingHops, hop_cmp, put_hop}
use Rattle.sai_types.specs.declared.weight.WHop.{WHop}
use Rattle.sai_types.proofs.Weights.{put-heavier, rising-put}
use Rattle.sai_types.proofs.hops.put_hop.Goals.{else-loop-at-test, then-loop-at-test+in-Less}
use Rattle.sai_types.proofs.hops.put_hop.Goals as goal

pub returns-then-lt-clause-ok : goal.returns-then-lt-clause-ok
returns-then-lt-clause-ok c =
    let xs = c.loop-at.hops.items in
    let at = c.loop-at.at in
    let there = c.index_mut.result.now in
    let within : at < length xs = omega (arith, c.loop-at-test.true, c.len.ensures, c.loop-at.hops.ok.0) in
    let one : c.index.result.now ≡ get_or xs at there = get_or_read xs at c.index.result.now within c.index.ensures there in
    let two : c.index-in-Equal.result.now ≡ get_or xs at there = get_or_read xs at c.index-in-Equal.result.now within c.index-in-Equal.ensures there in
    let equal : hop_cmp c.args.hop.hop c.index.result.now.hop ≡ Equal = sym c.in-Equal.ensures in
    let less : is_lt (nat_cmp c.index-in-Equal.result.now.weight c.args.hop.weight) ≡ true = sym c.if-lt.ensures in
    ap (λ (x : WHop). set xs at (record { hop = x.hop; weight = c.args.hop.weight })) c.index_mut.ensures.value
    ∙ sym (put-heavier xs at c.args.hop there within (ap (λ (x : WHop). hop_cmp c.args.hop.hop x.hop) (sym one) ∙ equal) (ap (λ (x : WHop). is_lt (nat_cmp x.weight c.args.hop.weight)) (sym two) ∙ less))
    ∙ c.loop-at.invariant.1
    ∙ ap (λ ys. put_hop ys c.args.hop) c.loop-at.invariant.2

pub returns-then-lt-clause-rising : goal.returns-then-lt-clause-rising
returns-then-lt-clause-rising c = subst AreRisingHops (sym (returns-then-lt-clause-ok c)) (rising-put c.args.hop c.args.hops.now.items c.requires)

pub returns-clause-rising : goal.returns-clause-rising
returns-clause-rising c =
    let is : c.insert.new.self.items ≡ put_hop c.args.hops.now.items c.args.hop = elim c.loop-at-test.branch [ else-loop-at-test w ↦ grind (arith, common_steps) | then-loop-at-test+in-Less w ↦ grind (arith, common_steps) ] in
    subst AreRisingHops (sym is) (rising-put c.args.hop c.args.hops.now.items c.requires)
