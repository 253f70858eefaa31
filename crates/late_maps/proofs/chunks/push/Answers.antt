use Rattle.std.proofs.Common.{◌++◌, ◌∷◌, [], ap, ap₂, ◌∙◌}
use Rattle.late_maps.specs.Chunks.{entries_of_chunks}
use Rattle.late_maps.proofs.Edits.{entries_of_chunks-push}
use Rattle.late_maps.proofs.chunks.push.Goals as goal

pub returns-in-Ok-push-2-clause-ok : goal.returns-in-Ok-push-2-clause-ok
returns-in-Ok-push-2-clause-ok g c =
    ap entries_of_chunks c.in-Ok-push-2.ensures.items
    ∙ entries_of_chunks-push c.reserve.new.self.items c.push.new.self
    ∙ ap₂ (λ cs es. entries_of_chunks cs ++ es) c.reserve.ensures.items (c.in-Ok-push.ensures.items ∙ ap (λ l. l ++ c.args.entry ∷ []) c.in-Ok.ensures)
