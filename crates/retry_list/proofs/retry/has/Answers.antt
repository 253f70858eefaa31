use Rattle.std.proofs.Common.{◌≡◌, ◌∙◌, Some, ap, rules, sym}
use Rattle.std.specs.BTreeMap.{is_at}
use Rattle.std.specs.Map.{lookup}
use Rattle.table_schema.specs.Key.{key_cmp}
use Rattle.table_schema.proofs.Places.{HasRisingKeys-from_sorted}
use Rattle.retry_list.specs.Reasons.{event_of, is_woken}
use Rattle.retry_list.proofs.Events.{other_about, wait_exact}
use Rattle.retry_list.proofs.Keyed.{put-there}
use Rattle.retry_list.proofs.retry.has.Goals as goal

pub returns-in-Some-clause-same : goal.returns-in-Some-clause-same
returns-in-Some-clause-same c = λ same.
    let reasons = c.args.reasons.now in
    let own = wait_exact c.in-Some.own.now c.args.wait.now (sym c.eq.ensures ∙ same) in
    let there : lookup (is_at (key_cmp c.args.key.now)) reasons ≡ Some c.in-Some.own.now = search rules in
    put-there c.args.key.now c.args.wait.now reasons (HasRisingKeys-from_sorted key_cmp reasons c.len-rising.ensures.ordered) (there ∙ ap Some own)

pub returns-in-Some-clause-other : goal.returns-in-Some-clause-other
returns-in-Some-clause-other c = λ other.
    let there : lookup (is_at (key_cmp c.args.key.now)) c.args.reasons.now ≡ Some c.in-Some.own.now = search rules in
    ap (is_woken (event_of c.args.wait.now)) there ∙ other_about c.args.wait.now c.in-Some.own.now (sym c.eq.ensures ∙ other)
