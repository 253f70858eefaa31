use Rattle.std.proofs.Common.{sym, ◌∙◌}
use Rattle.sai_record.proofs.Heads.{no-call-here, no-meaning, other-line}
use Rattle.sai_record.proofs.reading.read_next.Goals as goal

pub returns-in_default-2 : goal.returns-in_default-2
returns-in_default-2 c =
    let line = c.in-Some.line.now in
    let meant = c.in_ok-recorded.field-0 in
    no-call-here c.args.text.now line c.in-Some.rest.now meant c.in-Some.ensures.0 c.in-Some.ensures.1 c.in_ok-recorded.ensures.value (no-meaning meant line c.in_default-2.is)

pub returns-else-branch : goal.returns-else-branch
returns-else-branch c =
    let line = c.in-Some.line.now in
    let meant = c.in_ok-recorded.field-0 in
    no-call-here c.args.text.now line c.in-Some.rest.now meant c.in-Some.ensures.0 c.in-Some.ensures.1 c.in_ok-recorded.ensures.value
    (other-line meant line c.in-Some-2.recorded c.in-Some-2.is (sym c.if-branch.false ∙ c.in_ok-is_call.ensures))
