use Rattle.std.proofs.Common.{◌≤◌, ◌∙◌, ◌-◌, min, ap, subst}
use Rattle.swss_run.proofs.Pieces.{few-after}
use Rattle.swss_run.proofs.input.read_all.Goals as goal

pub returns-in_err-extend_from_slice-in-Bytes-clause-few : goal.returns-in_err-extend_from_slice-in-Bytes-clause-few
returns-in_err-extend_from_slice-in-Bytes-clause-few g c =
    let before = c.loop-buffer.invariant in
    let gave = c.in-Bytes.ensures.gives in
    let long = c.loop-buffer.bytes.ok.0 in
    few-after (g.S.Source.left c.args.source.now) (g.S.Source.left c.loop-buffer.source) (g.S.Source.left c.read.new.self) c.loop-buffer.bytes.items c.read.new.into c.loop-buffer.buffer c.in-Bytes.count c.min-room.result
    before.0 gave.2 gave.1 c.read.auto.into (c.min-room.ensures ∙ ap (λ n. min (67108865 - n) 4096) (c.len-in-loop-buffer.ensures ∙ long)) (subst (λ n. n ≤ 67108865) long before.2)
