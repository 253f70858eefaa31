-- The places that a failed call had in the log. Own.
use Rattle.std.specs.Prelude.{ℕ, ◌-◌, List, [], ◌∷◌}
use Rattle.switch_model.specs.declared.mark.Mark.{Mark}
use Rattle.orch_core.specs.ComingBack.{restarts_at}

-- how many places the call that failed last had beside that of its mark: one for its effect, but none where it was a list of the chip, right behind a restart
abbrev pub places_beside : List Mark → ℕ
places_beside [] = 1
places_beside (mark ∷ []) = 1
places_beside (mark ∷ last ∷ []) = 1 - restarts_at mark.event
places_beside (mark ∷ next ∷ last ∷ marks) = places_beside (next ∷ last ∷ marks)
