use Rattle.std.proofs.Common.{◌<◌, arith, refl, subst, sym}
use Rattle.crm_counts.specs.Alarms.{Limits}
use Rattle.crm_counts.proofs.Followed.{none-counted}
use Rattle.crm_counts.proofs.crm.Crm.new.Goals as goal

pub returns-clause-none : goal.returns-clause-none
returns-clause-none c =
    let less = subst (λ (l : Limits). l.low < l.high) (sym c.new.ensures) c.requires.thresholds in record {
      counts = none-counted c.new.result c.new-2.result less c.new-2.ensures.used c.new-2.ensures.above c.new-2.ensures.kinds;
      number = refl;
      within = omega arith;
      alarms = c.new-3.ensures.items;
    }
