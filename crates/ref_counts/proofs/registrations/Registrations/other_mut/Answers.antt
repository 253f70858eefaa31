use Rattle.std.proofs.Common.{refl, ap, ◌∙◌}
use Rattle.ref_counts.specs.Parted.{all_names}
use Rattle.ref_counts.proofs.Partings.{other-stands, parted-other_set}
use Rattle.ref_counts.proofs.registrations.Registrations.other_mut.Goals as goal

pub invariant_of-self-lent : goal.invariant_of-self-lent
invariant_of-self-lent c = λ _. ((λ w. parted-other_set c.self.inside c.self.invariant (c.get_mut.follows.lender w) c.args.name.now w (c.get_mut.follows.holds w)), rw c.get_mut.follows.holds-at-none c.self.invariant)

pub returns : goal.returns
returns c =
    let stands = other-stands c.self.inside c.self.invariant c.args.name.now c.requires in
    rw (← c.self.view_is) ((refl, (λ w. stands.set (c.get_mut.follows.lender w) w (c.get_mut.follows.holds w)), ap (λ m. all_names c.self.inside.rows c.self.inside.neighbors c.self.inside.routes m c.self.inside.groups) c.get_mut.follows.holds-at-none), record { writes_back = tt; value = c.get_mut.ensures.value ∙ stands.found })
