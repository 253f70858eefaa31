use Rattle.std.proofs.Common.{◌≡◌, ◌+◌, suc, ◌<◌, drop, length, get_or, option_map, refl, ap, ◌∙◌, arith, rules}
use Rattle.sai_types.specs.declared.answer.ChipAnswer.TheVariants as answer
use Rattle.sai_types.specs.ChipState.{IsAnswered}
use Rattle.chip_layout.specs.Renamed.{call_renamed}
use Rattle.syncd_core.specs.Synced.{SyncState, Ties, answer_by, step_after}
use Rattle.syncd_core.specs.Tied.{plan_tie}
use Rattle.syncd_core.proofs.Failing.{failed-applied, went-applied}
use Rattle.syncd_core.proofs.syncd.Syncd.apply_one.Goals as goal

pub returns-in-Failed-clause-ok : goal.returns-in-Failed-clause-ok
returns-in-Failed-clause-ok g c =
    let inside = c.self.inside in
    let s : SyncState = record { view = inside.view.objects; temporary = option_map (λ v. v.objects) inside.temporary; listed = option_map (λ v. v.items) inside.listed; left = drop inside.made inside.plan; capacities = inside.caps.0 } in
    let within : inside.made < length inside.plan = search (rules, c.in-Some.ensures.lookup.3) in
    let next : c.in-Some.next.now ≡ get_or inside.plan inside.made c.in-Some.next.now = c.in-Some.ensures.lookup.1 ∙ ap (λ xs. get_or xs inside.made c.in-Some.next.now) c.items.ensures in
    let same : c.apply.new.view.objects ≡ inside.view.objects = search rules in
    let answered : IsAnswered (g.C.Chip.state c.args.chip.now) (call_renamed (plan_tie inside.view.objects) c.in-Some.next.now.call) answer.Failed (g.C.Chip.state c.apply.new.chip) = search rules in
    rw (← c.self.view_is) (failed-applied s (g.C.Chip.state c.args.chip.now) (g.C.Chip.state c.apply.new.chip) inside.plan inside.made c.in-Some.next.now c.apply.new.view.objects within next refl same answered)

pub returns-in_default-2 : goal.returns-in_default-2
returns-in_default-2 g c =
    let inside = c.self.inside in
    let s : SyncState = record { view = inside.view.objects; temporary = option_map (λ v. v.objects) inside.temporary; listed = option_map (λ v. v.items) inside.listed; left = drop inside.made inside.plan; capacities = inside.caps.0 } in
    let within : inside.made < length inside.plan = search (rules, c.in-Some.ensures.lookup.3) in
    let further : inside.made + 1 ≡ suc inside.made = omega arith in
    let next : c.in-Some.next.now ≡ get_or inside.plan inside.made c.in-Some.next.now = c.in-Some.ensures.lookup.1 ∙ ap (λ xs. get_or xs inside.made c.in-Some.next.now) c.items.ensures in
    let answered : IsAnswered (g.C.Chip.state c.args.chip.now) (call_renamed (plan_tie inside.view.objects) c.in-Some.next.now.call) (answer_by c.in_ok-apply.field-0) (g.C.Chip.state c.apply.new.chip) = search rules in
    let ties : Ties inside.view.objects c.in-Some.next.now (answer_by c.in_ok-apply.field-0) c.apply.new.view.objects = search rules in
    let ended : c.step.result ≡ step_after (drop (inside.made + 1) inside.plan) = search rules in
    let applies = went-applied s (g.C.Chip.state c.args.chip.now) (g.C.Chip.state c.apply.new.chip) inside.plan inside.made (inside.made + 1) c.in-Some.next.now c.apply.new.view.objects c.in_ok-apply.field-0 c.step.result within further next refl c.in_default-2.not-Failed answered ties ended in
    rw (← c.self.view_is) (record { ok = applies; err = tt; unmade = tt })
