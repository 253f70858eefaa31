use Rattle.std.proofs.Common.{ap, sym, ◌∙◌}
use Rattle.std.proofs.lemmas.Bool.{eqb-true}
use Rattle.std.specs.List.{remove}
use Rattle.late_maps.specs.Chunks.{entries_of_chunks}
use Rattle.late_maps.proofs.Edits.{at_within, chunk_in, chunk_within, entry_read, entries_of_chunks-edit, entries_of_chunks-emptied}
use Rattle.late_maps.proofs.chunks.take.Goals as goal

pub index_mut-requires : goal.index_mut-requires
index_mut-requires g c = chunk_in c.args.chunks.now c.args.chunk c.args.at c.requires.at

pub remove-entry-requires : goal.remove-entry-requires
remove-entry-requires g c = at_within c.args.chunks.now.items c.args.chunk c.args.at c.index_mut.result.now c.index_mut.ensures.value c.requires.at

pub index-requires : goal.index-requires
index-requires g c = chunk_in c.args.chunks.now c.args.chunk c.args.at c.requires.at

pub remove-requires : goal.remove-requires
remove-requires g c = chunk_in c.args.chunks.now c.args.chunk c.args.at c.requires.at

pub returns-then-is_empty-clause-entry : goal.returns-then-is_empty-clause-entry
returns-then-is_empty-clause-entry g c d = entry_read c.args.chunks.now.items c.args.chunk c.args.at c.index_mut.result.now c.remove-entry.result d c.index_mut.ensures.value c.requires.at c.remove-entry.ensures.value

pub returns-then-is_empty-clause-rest : goal.returns-then-is_empty-clause-rest
returns-then-is_empty-clause-rest g c =
    ap entries_of_chunks c.remove.ensures.items
    ∙ entries_of_chunks-emptied c.args.chunks.now.items c.args.chunk c.index_mut.result.now c.remove-entry.new.self c.index.result.now (λ l. remove l c.args.at) (chunk_within c.args.chunks.now.items c.args.chunk c.args.at c.requires.at) c.index_mut.ensures.value c.remove-entry.ensures.items c.index.ensures (eqb-true _ 0 (sym c.if-is_empty.ensures))

pub returns-else-is_empty-clause-entry : goal.returns-else-is_empty-clause-entry
returns-else-is_empty-clause-entry g c d = entry_read c.args.chunks.now.items c.args.chunk c.args.at c.index_mut.result.now c.remove-entry.result d c.index_mut.ensures.value c.requires.at c.remove-entry.ensures.value

pub returns-else-is_empty-clause-rest : goal.returns-else-is_empty-clause-rest
returns-else-is_empty-clause-rest g c =
    entries_of_chunks-edit c.args.chunks.now.items c.args.chunk c.index_mut.result.now c.remove-entry.new.self (λ l. remove l c.args.at) (chunk_within c.args.chunks.now.items c.args.chunk c.args.at c.requires.at) c.index_mut.ensures.value c.remove-entry.ensures.items
