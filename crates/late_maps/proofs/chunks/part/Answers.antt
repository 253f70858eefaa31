use Rattle.std.proofs.Common.{◌<◌, length, add-one, ap, ◌∙◌}
use Rattle.late_maps.specs.Chunks.{entries_of_chunks}
use Rattle.late_maps.proofs.Edits.{entries_of_chunks-halve}
use Rattle.late_maps.proofs.chunks.part.Goals as goal

pub returns-in-Ok-insert-clause-entries : goal.returns-in-Ok-insert-clause-entries
returns-in-Ok-insert-clause-entries g c =
    let there : c.args.chunk < length c.reserve.new.self.items = rw c.reserve.ensures.items c.requires.chunk in
    ap entries_of_chunks (rw add-one at c.in-Ok-insert.ensures.items)
    ∙ entries_of_chunks-halve c.reserve.new.self.items c.args.chunk c.parting.result c.index_mut.result.now c.split_off.new.self c.in-Ok.upper there c.index_mut.ensures.value c.in-Ok.ensures.items c.in-Ok.ensures.tail
    ∙ ap entries_of_chunks c.reserve.ensures.items
