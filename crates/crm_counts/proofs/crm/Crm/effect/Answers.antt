use Rattle.std.proofs.Common.{◌≡◌, ◌+◌, ◌∷◌, ◌++◌, [], None, Some, refl, sym, ap, ◌∙◌, subst, arith}
use Rattle.std.proofs.lemmas.List.{append-nil}
use Rattle.crm_counts.specs.Crm.{IsCrmOf}
use Rattle.crm_counts.specs.Effects.{IsNextEffect}
use Rattle.crm_counts.specs.contracts.crm.Crm.{the_view}
use Rattle.crm_counts.proofs.Followed.{given-one}
use Rattle.crm_counts.proofs.crm.Crm.effect.Goals as goal

pub returns-in_ok-push-clause-given : goal.returns-in_ok-push-clause-given
returns-in_ok-push-clause-given c = λ before effects is next.
    let was = subst (λ s. IsCrmOf s before effects) (sym c.self.view_is) is in
    let after = subst (λ s. IsNextEffect s.limits.capacities effects c.args.call.now c.args.made) (sym c.self.view_is) next in
    let number : c.in-Some.number ≡ c.self.inside.effects + 1 = omega (arith, c.in-Some.ensures) in
    given-one (the_view c.self.inside) _ before effects c.args.call.now (Some c.in-Some-alarm.alarm) was refl (c.in_ok-alarm.ensures.counts effects was.counts after) number
    (c.in_ok-push.ensures.items ∙ ap (λ alarms. alarms ++ (c.in-Some.number, c.in-Some-alarm.alarm) ∷ []) c.in_ok-reserve.ensures.items)
    (sym c.in-Some-alarm.is ∙ c.in_ok-alarm.ensures.alarm effects was.counts after)

pub returns-in_default-alarm-clause-given : goal.returns-in_default-alarm-clause-given
returns-in_default-alarm-clause-given c = λ before effects is next.
    let was = subst (λ s. IsCrmOf s before effects) (sym c.self.view_is) is in
    let after = subst (λ s. IsNextEffect s.limits.capacities effects c.args.call.now c.args.made) (sym c.self.view_is) next in
    let number : c.in-Some.number ≡ c.self.inside.effects + 1 = omega (arith, c.in-Some.ensures) in
    given-one (the_view c.self.inside) _ before effects c.args.call.now None was refl (c.in_ok-alarm.ensures.counts effects was.counts after) number
    (c.in_ok-reserve.ensures.items ∙ sym (append-nil c.self.inside.alarms.items))
    (sym c.in_default-alarm.is ∙ c.in_ok-alarm.ensures.alarm effects was.counts after)
