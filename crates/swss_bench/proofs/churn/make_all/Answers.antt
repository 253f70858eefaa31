use Rattle.std.proofs.Common.{◌≡◌, rules}
use Rattle.sai_types.specs.declared.kind.Kind.TheVariants as kind
use Rattle.asic_view.specs.View.{used_of}
use Rattle.swss_bench.proofs.RoutesBelow.{none_left}
use Rattle.swss_bench.proofs.churn.make_all.Goals as goal

pub loop-route-init : goal.loop-route-init
loop-route-init c =
    let none : used_of c.args.view.now.objects kind.Route ≡ 0 = search rules in
    none_left 20000 c.args.view.now.objects c.requires none
