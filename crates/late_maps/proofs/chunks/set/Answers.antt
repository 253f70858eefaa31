use Rattle.std.proofs.Common.{ap, ap₂, ◌∙◌}
use Rattle.std.specs.Prelude.{slice_index_or, slice_set}
use Rattle.std.specs.Vec.{with_item}
use Rattle.late_maps.specs.Chunks.{chunk_at}
use Rattle.late_maps.proofs.Edits.{at_within, chunk_in, chunk_within, entry_read, entries_of_chunks-edit}
use Rattle.late_maps.proofs.chunks.set.Goals as goal

pub index_mut-requires : goal.index_mut-requires
index_mut-requires g c = chunk_in c.args.chunks.now c.args.chunk c.args.at c.requires.at

pub index_mut-requires-2 : goal.index_mut-requires-2
index_mut-requires-2 g c = at_within c.args.chunks.now.items c.args.chunk c.args.at c.index_mut.result.now c.index_mut.ensures.value c.requires.at

pub returns-clause-old : goal.returns-clause-old
returns-clause-old g c d = c.replace.ensures.value ∙ ap (λ e. e.1) (entry_read c.args.chunks.now.items c.args.chunk c.args.at c.index_mut.result.now c.index_mut-2.result.now d c.index_mut.ensures.value c.requires.at c.index_mut-2.ensures.value)

pub returns-clause-new : goal.returns-clause-new
returns-clause-new g c d =
    let entry = entry_read c.args.chunks.now.items c.args.chunk c.args.at c.index_mut.result.now c.index_mut-2.result.now d c.index_mut.ensures.value c.requires.at c.index_mut-2.ensures.value in
    entries_of_chunks-edit c.args.chunks.now.items c.args.chunk c.index_mut.result.now (with_item c.index_mut.result.now c.args.at (c.index_mut-2.result.now.0, c.replace.new.dest)) (λ l. slice_set l c.args.at ((slice_index_or (chunk_at c.args.chunks.now.items c.args.chunk) c.args.at d).0, c.args.value)) (chunk_within c.args.chunks.now.items c.args.chunk c.args.at c.requires.at) c.index_mut.ensures.value
    (ap₂ (λ k v. slice_set c.index_mut.result.now.items c.args.at (k, v)) (ap (λ e. e.0) entry) c.replace.ensures.after)
