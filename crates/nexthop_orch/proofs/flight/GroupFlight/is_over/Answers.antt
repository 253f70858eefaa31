use Rattle.std.proofs.Common.{◌≡◌, ◌<◌, length, ap, sym, ◌∙◌, subst}
use Rattle.std.proofs.lemmas.Bool.{lt-ltb, ltb-true}
use Rattle.nexthop_orch.specs.Groups.{hops_named}
use Rattle.nexthop_orch.proofs.Dues.{due-over, over-due}
use Rattle.nexthop_orch.proofs.flight.GroupFlight.is_over.Goals as goal

pub returns : goal.returns
returns c =
    let i = c.self.inside in
    let hops : c.hops.result.now ≡ hops_named i.name = c.hops.ensures.value ∙ ap (λ z. z.hops) (sym c.self.view_is) in (
      λ past. ap (λ z. z.due) (sym c.self.view_is) ∙ due-over (hops_named i.name) i.builds i.done (subst (λ l. length l < i.done) hops (ltb-true _ _ past)),
      λ none. lt-ltb _ _ (subst (λ l. length l < i.done) (sym hops) (over-due (hops_named i.name) i.builds i.done (ap (λ z. z.due) c.self.view_is ∙ none))),
    )
