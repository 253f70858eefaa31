use Rattle.std.proofs.Common.{◌∙◌, subst, sym}
use Rattle.std.proofs.lemmas.Result.{IfOk-weaker}
use Rattle.std.specs.List.Sorted.{IsStrictlySortedBy}
use Rattle.sai_types.specs.Alike.{IsIn}
use Rattle.sai_types.specs.Order.{thing_cmp}
use Rattle.want_view.proofs.Walked.{walked-rising, walked-wanted, wanted-walked}
use Rattle.want_view.proofs.rows.want.Goals as goal

pub returns-clause-each : goal.returns-clause-each
returns-clause-each c =
    let plan = c.args.plan.now in
    let rows = c.args.rows.now in
    let walked = c.in_ok-things.ensures in
    IfOk-weaker c.list_of.result _ _ (λ list same t. (
      λ h. walked-wanted plan rows walked.rising t (subst (IsIn t) (same ∙ walked.things) h),
      λ h. subst (IsIn t) (sym (same ∙ walked.things)) (wanted-walked plan rows walked.rising t h),
    )) c.list_of.ensures

pub returns-clause-rising : goal.returns-clause-rising
returns-clause-rising c =
    let walked = c.in_ok-things.ensures in
    IfOk-weaker c.list_of.result _ _ (λ list same. subst (IsStrictlySortedBy thing_cmp) (sym (same ∙ walked.things)) (walked-rising c.args.plan.now c.args.rows.now walked.rising)) c.list_of.ensures
