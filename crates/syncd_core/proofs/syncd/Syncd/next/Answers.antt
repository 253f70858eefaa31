use Rattle.std.proofs.Common.{◌≡◌, ◌<◌, Some, length, get_or, drop-cons, sym, ap, ◌∙◌, rules}
use Rattle.chip_layout.specs.Renamed.{call_renamed}
use Rattle.sai_types.specs.declared.plan.PlanCall.{PlanCall}
use Rattle.syncd_core.specs.Next.{next_call}
use Rattle.syncd_core.specs.Tied.{plan_tie}
use Rattle.syncd_core.proofs.syncd.Syncd.next.Goals as goal

pub returns-in_ok-call_with_ids-in-Some : goal.returns-in_ok-call_with_ids-in-Some
returns-in_ok-call_with_ids-in-Some c =
    let inside = c.self.inside in
    let within : inside.made < length inside.plan = search (rules, c.in-Some.ensures.lookup.3) in
    let next : c.in-Some.next.now ≡ get_or inside.plan inside.made c.in-Some.next.now = c.in-Some.ensures.lookup.1 ∙ ap (λ xs. get_or xs inside.made c.in-Some.next.now) c.items.ensures in
    rw (← c.self.view_is)
    (ap Some c.in_ok-call_with_ids-in-Some.ensures
    ∙ ap (λ (p : PlanCall). Some (call_renamed (plan_tie inside.view.objects) p.call)) next
    ∙ sym (ap (λ cs. next_call cs inside.view.objects) (drop-cons inside.plan inside.made c.in-Some.next.now within)))
