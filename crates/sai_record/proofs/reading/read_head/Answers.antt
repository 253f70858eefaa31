use Rattle.std.proofs.Common.{sym, ◌∙◌, subst}
use Rattle.sai_record.specs.Lines.{IsFirstLine}
use Rattle.sai_record.proofs.Heads.{no-caps, no-head-here, no-head-unended, other-head}
use Rattle.sai_record.proofs.reading.read_head.Goals as goal

pub returns-in_default : goal.returns-in_default
returns-in_default c = no-head-unended c.args.text.now (subst (IsFirstLine c.args.text.now) c.in_default.is c.first_line.ensures)

pub returns-in_default-read_caps : goal.returns-in_default-read_caps
returns-in_default-read_caps c =
    let line = c.in-Some.line.now in
    no-head-here c.args.text.now line c.in-Some.rest.now c.in-Some.ensures.0 c.in-Some.ensures.1 (no-caps c.read_caps.result line c.read_caps.ensures.value c.in_default-read_caps.is)

pub returns-else-branch : goal.returns-else-branch
returns-else-branch c =
    let line = c.in-Some.line.now in
    no-head-here c.args.text.now line c.in-Some.rest.now c.in-Some.ensures.0 c.in-Some.ensures.1
    (other-head c.read_caps.result line c.in-Some-read_caps.caps c.read_caps.ensures.value c.in-Some-read_caps.is (sym c.if-branch.false ∙ c.in_ok-is_head.ensures))
