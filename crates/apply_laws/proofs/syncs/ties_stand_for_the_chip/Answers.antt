use Rattle.std.proofs.Common.{sym, ap, ◌∙◌}
use Rattle.sai_types.specs.After.{after_calls}
use Rattle.chip_names.specs.Naming.{entries_of}
use Rattle.apply_laws.proofs.Sync.Ended.{view-stands}
use Rattle.apply_laws.proofs.Sync.Numbered.{tied-are}
use Rattle.apply_laws.proofs.syncs.ties_stand_for_the_chip.Goals as goal

pub returns : goal.returns
returns c = λ capacities made old view things plan x. view-stands view x.planned x.free ∙ ap (after_calls made (entries_of old)) (sym (tied-are view x.planned x.free))
