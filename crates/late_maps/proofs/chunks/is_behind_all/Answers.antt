use Rattle.std.proofs.Common.{◌≡◌, ◌<◌, length, ap, sym, ◌∙◌, arith}
use Rattle.std.proofs.lemmas.Bool.{eqb-true}
use Rattle.late_maps.specs.Chunks.{chunk_at}
use Rattle.late_maps.proofs.Edits.{chunk_read, with_chunk-end}
use Rattle.late_maps.proofs.chunks.is_behind_all.Goals as goal
use Rattle.late_maps.proofs.chunks.is_behind_all.Goals.{then-chunk-chunks, else-chunk-chunks}

pub returns-then-at-len-clause-behind : goal.returns-then-at-len-clause-behind
returns-then-at-len-clause-behind g c full e =
    elim c.if-chunk-chunks.branch [
      | then-chunk-chunks w ↦
          let there : c.args.chunk < length c.args.chunks.now = omega (arith, w.if-chunk-chunks.true) in
          let read = ap length (chunk_read c.args.chunks.now c.args.chunk w.index-chunks-chunk.result there w.index-chunks-chunk.is) in
          let equal : c.args.at ≡ w.len.result = eqb-true c.args.at w.len.result (sym w.value-is ∙ c.if-at-len.true) in
          let end : c.args.at ≡ length (chunk_at c.args.chunks.now c.args.chunk) = omega (arith, equal, read, w.len.ensures, w.index-chunks-chunk.result.ok.0) in
          with_chunk-end c.args.chunks.now c.args.chunk c.args.at e w.if-chunk-chunks.true end
      | else-chunk-chunks w ↦ absurd (w.if-chunk-chunks.false (eqb-true _ _ (sym w.value-is ∙ c.if-at-len.true)))
    ]
