use Rattle.std.proofs.Common.{◌≡◌, true, suc, ◌-◌, drop, [], rules, subst, arith}
use Rattle.table_schema.specs.Fields.{HasRisingNames}
use Rattle.table_schema.proofs.Risen.{rising-from, rising-none}
use Rattle.table_schema.proofs.few.have_rising_names.Goals as goal

pub loop-at-init : goal.loop-at-init
loop-at-init c = (omega arith, rising-none c.args.pairs.now)

pub loop-at-preserved : goal.loop-at-preserved
loop-at-preserved c =
    let next : c.loop-at.at ≡ suc (c.loop-at.at - 1) = omega arith in
    let yes : c.is_below_next.result ≡ true = search rules in
    (omega arith, rising-from c.args.pairs.now (c.loop-at.at - 1) ([], []) (omega arith) (c.is_below_next.ensures yes ([], [])) (subst (λ at. HasRisingNames (drop at c.args.pairs.now)) next c.loop-at.invariant.1))
