use Rattle.std.proofs.Common.{◌≡◌, List, length}
use Rattle.table_schema.specs.declared.write.Sent.{Sent}
use Rattle.swss_service.specs.Served.{StaysServed}
use Rattle.swss_service.specs.Taking.{AreCounted, HaveReadKeys, acts_by, writes_by}
use Rattle.swss_service.proofs.Parts.{IsMakingActs}
use Rattle.swss_service.proofs.alone.take_section.Given as goal

-- the acts so far were made
abbrev pub invariant-loop-act : goal.invariant-loop-act
invariant-loop-act g l =
    ((before : List Sent) → AreCounted l.fn.counts.entries before → IsMakingActs (length l.fn.locked.chip.effects) before (acts_by l.producer l.fn.acts) (acts_by l.producer l.act-iterator.rest.items) l.fn.locked.core l.locked.core l.counts.entries)
    × (l.locked.chip ≡ l.fn.locked.chip) × HaveReadKeys (writes_by l.producer l.act-iterator.rest.items) × StaysServed l.fn.locked l.locked
