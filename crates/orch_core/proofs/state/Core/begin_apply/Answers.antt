use Rattle.std.proofs.Common.{◌∙◌, ◌+◌, ap, subst, sym}
use Rattle.switch_model.specs.History.{with_mark}
use Rattle.warm_state.specs.declared.warm.Warm.TheVariants as warm
use Rattle.session_laws.specs.Core.{CoreState}
use Rattle.syncd_core.specs.Begun.{Begins, CanBegin}
use Rattle.session_laws.proofs.Service.Restoring.{can-begin}
use Rattle.orch_core.proofs.Answers.{never}
use Rattle.orch_core.proofs.GoingOver.{built_listed}
use Rattle.orch_core.proofs.Restores.{begun, full_for}
use Rattle.orch_core.proofs.state.Core.begin_apply.Goals as goal

pub returns-then-is_full : goal.returns-then-is_full
returns-then-is_full c = λ first chip s is at popped many x. (x.beside, full_for first chip s is at popped c.args.self.now x c.args.effects c.count-count.result many c.count-count.ensures.ops (c.is_full.ensures.full.0 c.if-is_full.true))

pub bare_list-requires : goal.bare_list-requires
bare_list-requires c = let x = c.requires.built in record { listed = λ k i. built_listed x.0 c.args.self.now x.6 k i }

pub plan_apply-requires : goal.plan_apply-requires
plan_apply-requires c =
    let x = c.requires.built in
    subst (λ (z : CoreState). CanBegin z.sync) (sym c.in_ok-log.ensures.ok.1) (can-begin x.0 x.1 x.2 x.3 x.4 x.5 c.args.self.now x.6)

pub returns-in-Ok : goal.returns-in-Ok
returns-in-Ok c = λ first chip s is at popped many x.
    let y = c.in-Ok.ensures.ok in
    let kept = c.in_ok-log.ensures.ok in
    begun first chip s is at popped c.args.self.now x c.in_ok-waits.waits c.in_ok-waits.ensures c.in-Ok.mode y.0 (subst (λ (z : CoreState). Begins z.sync c.in-Ok.mode y.0) kept.1 y.1) c.args.effects c.count-count.result many c.count-count.ensures.ops
    (never c.is_full.result c.if-is_full.false c.is_full.ensures.full.1) c.in_ok-log.log kept.0 c.enter_apply.new.self (
    c.enter_apply.ensures
    ∙ ap (λ (z : CoreState). record z { log = with_mark c.in_ok-log.log c.mark_in-mark.result; listed = z.listed + c.count-count.result; warm = warm.Applying }) (y.2 ∙ ap (λ (z : CoreState). record z { sync = y.0 }) kept.1)
    ∙ ap (λ m. record c.args.self.now { sync = y.0; log = with_mark c.in_ok-log.log m; listed = c.args.self.now.listed + c.count-count.result; warm = warm.Applying }) c.mark_in-mark.ensures
    )
