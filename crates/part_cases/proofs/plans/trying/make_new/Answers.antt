use Rattle.std.proofs.Common.{◌≡◌, rules, [], ◌∷◌, ◌++◌, None, Some, sym, subst}
use Rattle.sai_types.specs.declared.body.Call.TheVariants as call
use Rattle.sai_types.specs.declared.ids.Vid.{Vid}
use Rattle.sai_types.specs.declared.answer.SyncAnswer.TheVariants as sync
use Rattle.sai_types.specs.ChipState.{IsAnswered}
use Rattle.chip_layout.specs.Renamed.{call_renamed}
use Rattle.asic_view.specs.View.{as_rid, entry_at}
use Rattle.syncd_core.specs.Synced.{Calls, CanCall}
use Rattle.part_cases.specs.Tested.{AreLinked, tested_answer}
use Rattle.part_cases.proofs.Linked.{can-call, linked-keyed, linked-numbered, linked-whole}
use Rattle.part_cases.proofs.plans.trying.make_new.Goals as goal

pub call-requires : goal.call-requires
call-requires c =
    let same : c.in_ok-copy.field-0 ≡ c.args.body.now = search rules in
    let made : IsAnswered c.args.chip.now (call_renamed as_rid (call.Create c.args.body.now)) (tested_answer c.in_ok-made.made) c.make.new.chip = search rules in
    subst (λ b. CanCall c.args.syncd.now c.args.syncd.now.temporary c.make.new.chip (call.Create b)) (sym same) (can-call c.args.syncd.now c.args.objects.now.items c.args.chip.now c.make.new.chip c.args.body.now c.in_ok-made.made c.requires made)

pub use_up-requires : goal.use_up-requires
use_up-requires c =
    let made : IsAnswered c.args.chip.now (call_renamed as_rid (call.Create c.args.body.now)) (tested_answer c.in_ok-made.made) c.make.new.chip = search rules in
    let calls : Calls c.args.syncd.now c.args.syncd.now.temporary c.make.new.chip (call.Create c.args.body.now) c.in_ok-answer.answer c.call.new.self c.call.new.chip = search rules in
    linked-whole c.args.syncd.now c.call.new.self c.args.objects.now.items c.args.chip.now c.make.new.chip c.call.new.chip c.args.body.now c.in_ok-made.made c.in_ok-answer.answer c.requires made calls

pub returns-in_ok-push-in-Made-Some : goal.returns-in_ok-push-in-Made-Some
returns-in_ok-push-in-Made-Some c =
    let vid = c.in-Made-Some.vid in
    let rid = c.in-Made-Some.rid in
    let made : IsAnswered c.args.chip.now (call_renamed as_rid (call.Create c.args.body.now)) (tested_answer (Some rid)) c.make.new.chip = search rules in
    let calls : Calls c.args.syncd.now c.args.syncd.now.temporary c.make.new.chip (call.Create c.args.body.now) (sync.Made vid) c.call.new.self c.call.new.chip = search rules in
    let number : vid.0 ≡ rid.0 = search rules in
    let items : c.push.new.self.items ≡ c.args.objects.now.items ++ (record { entry = entry_at vid c.args.body.now; body = c.args.body.now }) ∷ [] = search rules in
    subst (λ os. AreLinked c.call.new.self os c.call.new.chip) (sym items) (linked-numbered c.views_change_as_chips.ensures.made c.args.syncd.now c.call.new.self c.args.objects.now.items c.args.chip.now c.make.new.chip c.call.new.chip c.args.body.now vid rid c.requires made calls number)

pub returns-in_ok-push-in-Done-None : goal.returns-in_ok-push-in-Done-None
returns-in_ok-push-in-Done-None c =
    let none : Vid = record { 0 = 0 } in
    let made : IsAnswered c.args.chip.now (call_renamed as_rid (call.Create c.args.body.now)) (tested_answer None) c.make.new.chip = search rules in
    let calls : Calls c.args.syncd.now c.args.syncd.now.temporary c.make.new.chip (call.Create c.args.body.now) sync.Done c.call.new.self c.call.new.chip = search rules in
    let items : c.push-in-Done-None.new.self.items ≡ c.args.objects.now.items ++ (record { entry = entry_at none c.args.body.now; body = c.args.body.now }) ∷ [] = search rules in
    subst (λ os. AreLinked c.call.new.self os c.use_up.new.chip) (sym items) (linked-keyed c.views_change_as_chips.ensures.made c.args.syncd.now c.call.new.self c.args.objects.now.items c.args.chip.now c.make.new.chip c.call.new.chip c.use_up.new.chip c.args.body.now none c.requires made calls c.in_ok-use_up-in-Done-None.ensures.same c.in_ok-use_up-in-Done-None.ensures.whole)
