use Rattle.std.proofs.Common.{◌∙◌, ap, sym}
use Rattle.swss_service.specs.Rounds.{restarts_logged, writes_logged}
use Rattle.swss_service.proofs.Rounds.{acted-by}
use Rattle.swss_service.proofs.rounding.act.Goals as goal

pub returns-clause-acted : goal.returns-clause-acted
returns-clause-acted g c =
    let value = c.run_actors-value.result.value in
    let parts = c.parts-served in
    let o = c.requires.opening in
    acted-by c.args.made.intake c.args.sections.now g.J.Named.opening parts.result.0 c.run_actors-value.result.passes.items value.taker parts.result.1 value.refusal parts.result.2 value.restarts g.J.Opening.restarts g.J.Opening.taken
    c.run_actors-value.ensures.ran parts.ensures.parts.1 parts.ensures.parts.2 (parts.ensures.intake ∙ sym c.requires.name) parts.ensures.follows parts.ensures.restarts
    (ap writes_logged (sym o.0) ∙ o.1) (ap restarts_logged (sym o.0) ∙ o.2) parts.ensures.cause
