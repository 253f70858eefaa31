use Rattle.std.proofs.Common.{◌<◌, length, ap, ◌∙◌, arith}
use Rattle.std.specs.List.{insert}
use Rattle.late_maps.proofs.Edits.{chunk_read, entries_of_chunks-edit, with_chunk-same}
use Rattle.late_maps.proofs.chunks.put.Goals as goal

pub insert-requires : goal.insert-requires
insert-requires g c =
    let there : c.args.chunk < length c.args.chunks.now.items = c.requires.chunk (rw c.as_slice.ensures.value at (c.is_behind_all.ensures.some c.if-is_behind_all.false)) in
    let read = ap length (chunk_read c.args.chunks.now.items c.args.chunk c.index_mut.result.now there c.index_mut.ensures.value) in
    omega (arith, c.requires.at, read, c.index_mut.result.now.ok.0)

pub returns-in-Ok-clause-ok : goal.returns-in-Ok-clause-ok
returns-in-Ok-clause-ok g c =
    let there : c.args.chunk < length c.args.chunks.now.items = c.requires.chunk (rw c.as_slice.ensures.value at (c.is_behind_all.ensures.some c.if-is_behind_all.false)) in
    c.part.ensures.entries
    ∙ entries_of_chunks-edit c.args.chunks.now.items c.args.chunk c.index_mut.result.now c.insert.new.self (λ l. insert l c.args.at c.args.entry) there c.index_mut.ensures.value c.in-Ok.ensures.items

pub returns-in-Err-clause-err : goal.returns-in-Err-clause-err
returns-in-Err-clause-err g c =
    let there : c.args.chunk < length c.args.chunks.now.items = c.requires.chunk (rw c.as_slice.ensures.value at (c.is_behind_all.ensures.some c.if-is_behind_all.false)) in
    entries_of_chunks-edit c.args.chunks.now.items c.args.chunk c.index_mut.result.now c.insert.new.self (λ l. l) there c.index_mut.ensures.value c.in-Err.ensures.items
    ∙ with_chunk-same c.args.chunks.now.items c.args.chunk
