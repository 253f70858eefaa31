use Rattle.std.proofs.Common.{◌+◌, None, ap, subst, sym, ◌∙◌}
use Rattle.sai_types.specs.declared.body.Body.TheVariants as body
use Rattle.sai_types.specs.declared.body.Call.TheVariants as call
use Rattle.sai_types.specs.declared.body.To.TheVariants as to
use Rattle.asic_view.specs.View.{IsLegalOn, ViewState, after_create}
use Rattle.swss_bench.specs.Churn.{AreRoutesBelow}
use Rattle.swss_bench.proofs.RoutesBelow.{legal, made}
use Rattle.swss_bench.proofs.churn.make.Goals as goal

pub create-requires : goal.create-requires
create-requires c = subst (λ p. IsLegalOn c.args.view.now.objects (call.Create (body.Route None p to.Drop))) (sym c.prefix.ensures) (legal c.args.route c.args.view.now.objects c.requires.below)

pub returns : goal.returns
returns c =
    subst (AreRoutesBelow (c.args.route + 1)) (sym (ap (λ (o : ViewState). o.objects) c.in_ok-vid.ensures.ok ∙ ap (λ p. after_create c.args.view.now.objects c.in_ok-vid.vid (body.Route None p to.Drop)) c.prefix.ensures))
    (made c.args.route c.args.view.now.objects c.in_ok-vid.vid c.requires.below)
