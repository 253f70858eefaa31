use Rattle.std.proofs.Common.{◌≡◌, take}
use Rattle.swss_service.proofs.whole.copy_sections.Given as goal

-- the sections so far are copied
abbrev pub invariant-loop-section : goal.invariant-loop-section
invariant-loop-section l = l.copies ≡ take l.section-index l.sections
