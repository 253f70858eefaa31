use Rattle.std.proofs.Common.{rules, ◌∙◌}
use Rattle.indexmap.proofs.CallerLemmas.{filter-RetainsPairs}
use Rattle.asic_view.proofs.objects.close.Goals as goal

pub returns : goal.returns
returns c = c.give_back.ensures.entries ∙ filter-RetainsPairs _ _ _ (λ k v b w g call. search rules) _ _ c.retain.ensures.filtered
