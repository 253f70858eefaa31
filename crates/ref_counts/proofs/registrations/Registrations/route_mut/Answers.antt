use Rattle.std.proofs.Common.{refl, ap, ◌∙◌}
use Rattle.ref_counts.specs.Parted.{all_names}
use Rattle.ref_counts.proofs.Partings.{route-stands}
use Rattle.ref_counts.proofs.registrations.Registrations.route_mut.Goals as goal

pub returns : goal.returns
returns c =
    let stands = route-stands c.self.inside c.self.invariant c.args.route.now in
    rw (← c.self.view_is) ((refl, (λ w. stands.set (c.get_mut.follows.lender w) w (c.get_mut.follows.holds w)), ap (λ m. all_names c.self.inside.rows c.self.inside.neighbors m c.self.inside.others c.self.inside.groups) c.get_mut.follows.holds-at-none), record { writes_back = tt; value = c.get_mut.ensures.value ∙ stands.found })
