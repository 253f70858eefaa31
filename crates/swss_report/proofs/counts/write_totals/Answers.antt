use Rattle.std.proofs.Common.{List, ℕ, ◌++◌}
use Rattle.std.specs.Prelude.{codes}
use Rattle.std.specs.Fmt.{decimal}
use Rattle.swss_report.specs.Counts.{turns_text}
use Rattle.swss_report.proofs.Appended.{both-appended}
use Rattle.swss_report.proofs.counts.write_totals.Goals as goal

pub returns : goal.returns
returns c =
    let old = c.args.out.now.items in
    let writes : List ℕ = codes "counts taken " ++ decimal c.args.taken in
    let calls : List ℕ = writes ++ codes " effects " ++ decimal c.args.effects in
    let one = both-appended old (codes "counts taken ") (decimal c.args.taken) _ _ c.in_ok-extend_from_slice.ensures.items c.in_ok-write_number.ensures.ok in
    let two = both-appended old writes (codes " effects ") _ _ one c.in_ok-extend_from_slice-2.ensures.items in
    let three = both-appended old (writes ++ codes " effects ") (decimal c.args.effects) _ _ two c.in_ok-write_number-2.ensures.ok in
    both-appended old calls (turns_text c.args.turns) _ _ three c.in_ok-write_turns.ensures
