use Rattle.std.proofs.Common.{◌+◌, refl, sym}
use Rattle.std.proofs.lemmas.List.{take_rest}
use Rattle.swss_script.proofs.LinesIn.{next_ended, next_whole, rest-none}
use Rattle.swss_script.proofs.lines.next_line.Goals as goal

pub returns-in-Some : goal.returns-in-Some
returns-in-Some c = next_ended c.args.text.now _ _ c.in-Some.at (sym c.in-Some.ensures) refl (take_rest c.args.text.now (c.in-Some.at + 1))

pub returns-in-None : goal.returns-in-None
returns-in-None c = next_whole c.args.text.now _ (sym c.in-None.ensures) c.if-is_empty.ensures (rest-none c.args.text.now)
