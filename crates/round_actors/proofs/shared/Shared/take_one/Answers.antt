use Rattle.std.proofs.Common.{[], ◌∷◌, ◌++◌, ap, ◌∙◌}
use Rattle.round_actors.proofs.shared.Shared.take_one.Goals as goal

pub returns-in-Ok-clause-received : goal.returns-in-Ok-clause-received
returns-in-Ok-clause-received g c = let w = c.in-Some.sent in (w, ap (λ t. t.received) c.in-Some.ensures.some ∙ ap (λ v. v.taker.received ++ w ∷ []) c.self.view_is)
