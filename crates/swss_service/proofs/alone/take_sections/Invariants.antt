use Rattle.std.proofs.Common.{◌≡◌, [], length}
use Rattle.swss_script.specs.Sent.{writes_in}
use Rattle.swss_service.specs.Served.{StaysServed}
use Rattle.swss_service.specs.Taking.{HaveReadKeys, acts_in}
use Rattle.swss_service.proofs.Parts.{IsMakingActs}
use Rattle.swss_service.proofs.alone.take_sections.Given as goal

-- the acts of the sections so far were made
abbrev pub invariant-loop-section : goal.invariant-loop-section
invariant-loop-section g l =
    IsMakingActs (length l.fn.locked.chip.effects) [] (acts_in l.fn.sections) (acts_in l.section-iterator.rest.items) l.fn.locked.core l.locked.core l.counts.entries
    × (l.locked.chip ≡ l.fn.locked.chip) × HaveReadKeys (writes_in l.section-iterator.rest.items) × StaysServed l.fn.locked l.locked
