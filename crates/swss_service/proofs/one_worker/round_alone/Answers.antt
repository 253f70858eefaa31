use Rattle.std.proofs.Common.{length, refl, subst}
use Rattle.swss_service.specs.Taking.{IsRoundMade, acts_in}
use Rattle.swss_service.specs.declared.ending.RoundEnd.TheVariants as end
use Rattle.swss_service.proofs.OneRound.{alone-full, alone-settled, alone-short}
use Rattle.swss_service.proofs.Serving.{served-new}
use Rattle.swss_service.proofs.one_worker.round_alone.Goals as goal

pub returns-in-Nothing : goal.returns-in-Nothing
returns-in-Nothing g c =
    let o = c.args.locked.now in
    let mid = c.take_sections.new.locked in
    let served = c.take_sections.ensures.goes_on 0 o (served-new 0 o o.core o.chip refl c.stand_for_one_session.ensures) in
    let made = subst (λ k. IsRoundMade (length o.chip.effects) (acts_in c.args.sections) o.core k mid.core) c.in-Nothing.is c.take_sections.ensures.made in
    let both = alone-settled 0 c.args.sections o mid c.take_sections.ensures.chip served made c.settle.result c.settle.new.self c.settle.ensures in
    record { alone = both.0; any = both.1 }

pub returns-in-LogFull : goal.returns-in-LogFull
returns-in-LogFull g c =
    let o = c.args.locked.now in
    let mid = c.take_sections.new.locked in
    let served = c.take_sections.ensures.goes_on 0 o (served-new 0 o o.core o.chip refl c.stand_for_one_session.ensures) in
    let made = subst (λ k. IsRoundMade (length o.chip.effects) (acts_in c.args.sections) o.core k mid.core) c.in-LogFull.is c.take_sections.ensures.made in
    let both = alone-full 0 c.args.sections o mid c.take_sections.ensures.chip served made end.LogFull mid refl refl in
    record { alone = both.0; any = both.1 }

pub returns-in-NoMemory : goal.returns-in-NoMemory
returns-in-NoMemory g c =
    let o = c.args.locked.now in
    let mid = c.take_sections.new.locked in
    let served = c.take_sections.ensures.goes_on 0 o (served-new 0 o o.core o.chip refl c.stand_for_one_session.ensures) in
    let made = subst (λ k. IsRoundMade (length o.chip.effects) (acts_in c.args.sections) o.core k mid.core) c.in-NoMemory.is c.take_sections.ensures.made in
    let both = alone-short 0 c.args.sections o mid c.take_sections.ensures.chip served made end.NoMemory mid refl refl in
    record { alone = both.0; any = both.1 }
