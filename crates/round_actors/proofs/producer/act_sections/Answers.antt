use Rattle.std.proofs.Common.{rules, ◌≡◌, ◌+◌, true, false, drop, subst, sym}
use Rattle.round_actors.specs.Acts.{CanAct, HasActed, HasStopped, IsOnWay, own_acts, section_acts}
use Rattle.round_actors.proofs.Acting.{section-next, way-can, way-goes, way-stops, when-true, when-false}
use Rattle.round_actors.proofs.producer.act_sections.Goals as goal

pub act_section-made-requires-clause-may : goal.act_section-made-requires-clause-may
act_section-made-requires-clause-may g c =
    let p = c.args.me.now.number in
    let sections = c.args.sections.now in
    let i = c.loop-section.section-index in
    let s = c.section-item.result in
    let y = c.loop-section.me in
    let way = subst (λ l. IsOnWay (own_acts p sections) l c.args.me.now y) (section-next p sections i s c.loop-section-test.true c.section-item.is) c.loop-section.invariant in
    subst (λ n. CanAct c.args.intake.now (section_acts n s) y) (sym c.loop-section.invariant.made.number)
    (way-can c.args.intake.now (own_acts p sections) (section_acts p s) (own_acts p (drop (i + 1) sections)) c.args.me.now y c.requires.may way)

pub loop-section-preserved : goal.loop-section-preserved
loop-section-preserved g c =
    let p = c.args.me.now.number in
    let sections = c.args.sections.now in
    let i = c.loop-section.section-index in
    let s = c.section-item.result in
    let y = c.loop-section.me in
    let z = c.act_section-made.new.me in
    let way = subst (λ l. IsOnWay (own_acts p sections) l c.args.me.now y) (section-next p sections i s c.loop-section-test.true c.section-item.is) c.loop-section.invariant in
    let made : c.act_section-made.result ≡ true = search rules in
    way-goes (own_acts p sections) (section_acts p s) (own_acts p (drop (i + 1) sections)) c.args.me.now y z way
    (subst (λ n. HasActed (section_acts n s) y z) c.loop-section.invariant.made.number
    (when-true (HasActed (section_acts y.number s) y z) (HasStopped (section_acts y.number s) y z) c.act_section-made.result made c.act_section-made.ensures))

pub returns-then-not-made : goal.returns-then-not-made
returns-then-not-made g c =
    let p = c.args.me.now.number in
    let sections = c.args.sections.now in
    let i = c.loop-section.section-index in
    let s = c.section-item.result in
    let y = c.loop-section.me in
    let z = c.act_section-made.new.me in
    let way = subst (λ l. IsOnWay (own_acts p sections) l c.args.me.now y) (section-next p sections i s c.loop-section-test.true c.section-item.is) c.loop-section.invariant in
    let made : c.act_section-made.result ≡ false = search rules in
    let stopped = subst (λ n. HasStopped (section_acts n s) y z) c.loop-section.invariant.made.number
    (when-false (HasActed (section_acts y.number s) y z) (HasStopped (section_acts y.number s) y z) c.act_section-made.result made c.act_section-made.ensures) in
    (way-stops (own_acts p sections) (section_acts p s) (own_acts p (drop (i + 1) sections)) c.args.me.now y z way stopped.0, stopped.1)
