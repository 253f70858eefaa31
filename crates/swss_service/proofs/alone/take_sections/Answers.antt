use Rattle.std.proofs.Common.{rules, ◌≡◌, ◌∙◌, [], ◌∷◌, length, refl, sym, ap, subst}
use Rattle.sai_types.specs.ChipState.{ChipState}
use Rattle.swss_script.specs.Sent.{writes_in}
use Rattle.swss_service.specs.Taking.{AreCounted, HaveReadKeys, IsMade, acts_by, acts_in}
use Rattle.swss_service.proofs.Parts.{IsMakingActs, made-beside, making-ended, making-none, making-part, section-read, sections-read, sent_so_far}
use Rattle.swss_service.proofs.alone.take_sections.Goals as goal

pub loop-section-init : goal.loop-section-init
loop-section-init g c =
    let items : c.into_iter-section-iterator.result.rest.items ≡ c.args.sections = search rules in
    let none : c.new-counts.result.entries ≡ [] = search rules in
    let n = length c.args.locked.now.chip.effects in
    let core = c.args.locked.now.core in
    let counted = subst (λ e. AreCounted e []) (sym none) (record { each = λ producer. refl }) in (
      subst (λ l. IsMakingActs n [] (acts_in c.args.sections) (acts_in l) core core c.new-counts.result.entries) (sym items) (making-none n [] core (acts_in c.args.sections) c.new-counts.result.entries counted),
      refl,
      subst (λ l. HaveReadKeys (writes_in l)) (sym items) c.requires.read,
      λ m o x. x,
    )

pub take_section-requires : goal.take_section-requires
take_section-requires g c =
    let left : c.loop-section.section-iterator.rest.items ≡ c.in-Some.section ∷ c.next.new.self.rest.items = search rules in
    record { read = section-read c.in-Some.section c.next.new.self.rest.items c.loop-section.section-iterator.rest.items left c.loop-section.invariant.2 }

pub loop-section-preserved : goal.loop-section-preserved
loop-section-preserved g c =
    let left : c.loop-section.section-iterator.rest.items ≡ c.in-Some.section ∷ c.next.new.self.rest.items = search rules in
    let n = length c.args.locked.now.chip.effects in
    let same = ap (λ (z : ChipState). length z.effects) c.loop-section.invariant.1 in
    let making = subst (λ l. IsMakingActs n [] (acts_in c.args.sections) (acts_in l) c.args.locked.now.core c.loop-section.locked.core c.loop-section.counts.entries) left c.loop-section.invariant.0 in
    let acts = acts_by c.in-Some.section.producer c.in-Some.section.acts in
    let sent = sent_so_far n [] c.args.locked.now.core (acts_in c.args.sections) acts (acts_in c.next.new.self.rest.items) c.loop-section.locked.core c.loop-section.counts.entries making c.take_section.new.locked.core c.take_section.new.counts.entries in
    let made = made-beside (length c.loop-section.locked.chip.effects) n same sent acts c.loop-section.locked.core c.take_section.result c.take_section.new.locked.core c.take_section.new.counts.entries (c.take_section.ensures.made sent making.made.1) in (
      making-part n [] c.args.locked.now.core (acts_in c.args.sections) acts (acts_in c.next.new.self.rest.items) c.loop-section.locked.core c.loop-section.counts.entries making c.take_section.new.locked.core c.take_section.new.counts.entries
          (subst (λ r. IsMade n sent acts c.loop-section.locked.core r c.take_section.new.locked.core c.take_section.new.counts.entries) c.in-Nothing.is made),
      c.take_section.ensures.chip ∙ c.loop-section.invariant.1,
      sections-read c.in-Some.section c.next.new.self.rest.items c.loop-section.section-iterator.rest.items left c.loop-section.invariant.2,
      λ m o x. c.take_section.ensures.goes_on m o (c.loop-section.invariant.3 m o x),
    )

pub returns-in_default-clause-goes_on : goal.returns-in_default-clause-goes_on
returns-in_default-clause-goes_on g c = λ m o x. c.take_section.ensures.goes_on m o (c.loop-section.invariant.3 m o x)

pub returns-in_default-clause-made : goal.returns-in_default-clause-made
returns-in_default-clause-made g c =
    let left : c.loop-section.section-iterator.rest.items ≡ c.in-Some.section ∷ c.next.new.self.rest.items = search rules in
    let n = length c.args.locked.now.chip.effects in
    let same = ap (λ (z : ChipState). length z.effects) c.loop-section.invariant.1 in
    let making = subst (λ l. IsMakingActs n [] (acts_in c.args.sections) (acts_in l) c.args.locked.now.core c.loop-section.locked.core c.loop-section.counts.entries) left c.loop-section.invariant.0 in
    let acts = acts_by c.in-Some.section.producer c.in-Some.section.acts in
    let sent = sent_so_far n [] c.args.locked.now.core (acts_in c.args.sections) acts (acts_in c.next.new.self.rest.items) c.loop-section.locked.core c.loop-section.counts.entries making c.take_section.new.locked.core c.take_section.new.counts.entries in
    let made = made-beside (length c.loop-section.locked.chip.effects) n same sent acts c.loop-section.locked.core c.take_section.result c.take_section.new.locked.core c.take_section.new.counts.entries (c.take_section.ensures.made sent making.made.1) in (
      c.take_section.new.counts.entries,
      making-ended n [] c.args.locked.now.core (acts_in c.args.sections) acts (acts_in c.next.new.self.rest.items) c.loop-section.locked.core c.loop-section.counts.entries making c.take_section.new.locked.core c.take_section.new.counts.entries c.take_section.result c.in_default.not-Nothing made,
    )
