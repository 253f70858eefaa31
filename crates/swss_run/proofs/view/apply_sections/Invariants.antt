use Rattle.std.proofs.Common.{◌≡◌, drop}
use Rattle.std.specs.List.{fold}
use Rattle.swss_run.proofs.Applied.{after_section}
use Rattle.swss_run.proofs.view.apply_sections.Given as goal

-- the sections that are left, applied to what stands now, come to all sections applied to what stood at the beginning
abbrev pub invariant-loop-section : goal.invariant-loop-section
invariant-loop-section l = fold after_section l.rows (drop l.section-index l.sections) ≡ fold after_section l.fn.rows l.sections
