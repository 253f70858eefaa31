use Rattle.std.proofs.Common.{rules, ◌≡◌, ◌∙◌, [], ◌∷◌, length, ap, subst}
use Rattle.sai_types.specs.ChipState.{ChipState}
use Rattle.swss_service.specs.Taking.{IsMade, acts_by}
use Rattle.swss_service.proofs.Parts.{IsMakingActs, act-read, made-beside, making-ended, making-part, sent_so_far}
use Rattle.swss_service.proofs.alone.take_section.Goals as goal

pub take_act-requires : goal.take_act-requires
take_act-requires g c =
    let left : c.loop-act.act-iterator.rest.items ≡ c.in-Some.act ∷ c.next.new.self.rest.items = search rules in
    record { read = (act-read c.args.producer c.in-Some.act c.next.new.self.rest.items c.loop-act.act-iterator.rest.items left c.loop-act.invariant.2).0 }

pub loop-act-preserved : goal.loop-act-preserved
loop-act-preserved g c =
    let left : c.loop-act.act-iterator.rest.items ≡ c.in-Some.act ∷ c.next.new.self.rest.items = search rules in
    let n = length c.args.locked.now.chip.effects in
    let same = ap (λ (z : ChipState). length z.effects) c.loop-act.invariant.1 in
    let one = (c.args.producer, c.in-Some.act) ∷ [] in (
      λ before counted.
          let making = subst (λ l. IsMakingActs n before (acts_by c.args.producer c.args.acts) (acts_by c.args.producer l) c.args.locked.now.core c.loop-act.locked.core c.loop-act.counts.entries) left (c.loop-act.invariant.0 before counted) in
          let sent = sent_so_far n before c.args.locked.now.core (acts_by c.args.producer c.args.acts) one (acts_by c.args.producer c.next.new.self.rest.items) c.loop-act.locked.core c.loop-act.counts.entries making c.take_act.new.locked.core c.take_act.new.counts.entries in
          let made = made-beside (length c.loop-act.locked.chip.effects) n same sent one c.loop-act.locked.core c.take_act.result c.take_act.new.locked.core c.take_act.new.counts.entries (c.take_act.ensures.made sent making.made.1) in
          making-part n before c.args.locked.now.core (acts_by c.args.producer c.args.acts) one (acts_by c.args.producer c.next.new.self.rest.items) c.loop-act.locked.core c.loop-act.counts.entries making c.take_act.new.locked.core c.take_act.new.counts.entries
          (subst (λ r. IsMade n sent one c.loop-act.locked.core r c.take_act.new.locked.core c.take_act.new.counts.entries) c.in-Nothing.is made),
      c.take_act.ensures.chip ∙ c.loop-act.invariant.1,
      (act-read c.args.producer c.in-Some.act c.next.new.self.rest.items c.loop-act.act-iterator.rest.items left c.loop-act.invariant.2).1,
      λ m o x. c.take_act.ensures.goes_on m o (c.loop-act.invariant.3 m o x),
    )

pub returns-in_default-clause-goes_on : goal.returns-in_default-clause-goes_on
returns-in_default-clause-goes_on g c = λ m o x. c.take_act.ensures.goes_on m o (c.loop-act.invariant.3 m o x)

pub returns-in_default-clause-made : goal.returns-in_default-clause-made
returns-in_default-clause-made g c = λ before counted.
    let left : c.loop-act.act-iterator.rest.items ≡ c.in-Some.act ∷ c.next.new.self.rest.items = search rules in
    let n = length c.args.locked.now.chip.effects in
    let same = ap (λ (z : ChipState). length z.effects) c.loop-act.invariant.1 in
    let one = (c.args.producer, c.in-Some.act) ∷ [] in
    let making = subst (λ l. IsMakingActs n before (acts_by c.args.producer c.args.acts) (acts_by c.args.producer l) c.args.locked.now.core c.loop-act.locked.core c.loop-act.counts.entries) left (c.loop-act.invariant.0 before counted) in
    let sent = sent_so_far n before c.args.locked.now.core (acts_by c.args.producer c.args.acts) one (acts_by c.args.producer c.next.new.self.rest.items) c.loop-act.locked.core c.loop-act.counts.entries making c.take_act.new.locked.core c.take_act.new.counts.entries in
    let made = made-beside (length c.loop-act.locked.chip.effects) n same sent one c.loop-act.locked.core c.take_act.result c.take_act.new.locked.core c.take_act.new.counts.entries (c.take_act.ensures.made sent making.made.1) in
    making-ended n before c.args.locked.now.core (acts_by c.args.producer c.args.acts) one (acts_by c.args.producer c.next.new.self.rest.items) c.loop-act.locked.core c.loop-act.counts.entries making c.take_act.new.locked.core c.take_act.new.counts.entries c.take_act.result c.in_default.not-Nothing made
