use Rattle.std.proofs.Common.{refl, ap, ◌∙◌}
use Rattle.ref_counts.specs.Parted.{all_names}
use Rattle.ref_counts.proofs.Partings.{parted-row_set, row-stands}
use Rattle.ref_counts.proofs.registrations.Registrations.row_mut.Goals as goal

pub invariant_of-self-lent : goal.invariant_of-self-lent
invariant_of-self-lent c = λ _. ((λ w. parted-row_set c.self.inside c.self.invariant (c.get_mut.follows.lender w) c.args.key.now w (c.get_mut.follows.holds w)), rw c.get_mut.follows.holds-at-none c.self.invariant)

pub returns : goal.returns
returns c =
    let stands = row-stands c.self.inside c.self.invariant c.args.key.now c.requires in
    rw (← c.self.view_is) ((refl, (λ w. stands.set (c.get_mut.follows.lender w) w (c.get_mut.follows.holds w)), ap (λ m. all_names m c.self.inside.neighbors c.self.inside.routes c.self.inside.others c.self.inside.groups) c.get_mut.follows.holds-at-none), record { writes_back = tt; value = c.get_mut.ensures.value ∙ stands.found })
