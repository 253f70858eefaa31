-- the size that the core counts is that of the session's log
use Rattle.std.proofs.Common.{◌≡◌, ◌∙◌, length, sym, ap}
use Rattle.sai_types.specs.ChipState.{ChipState}
use Rattle.switch_model.specs.History.{History, log_size, size_listing}
use Rattle.restart_laws.specs.Logged.{LoggedService}
use Rattle.session_laws.specs.Core.{CoreState, size_beside}
use Rattle.session_laws.specs.Standing.{IsSessionOf}

pub sized : (c : CoreState) (chip : ChipState) (s : LoggedService) → IsSessionOf c chip s → size_beside c (length chip.effects) ≡ log_size s.log (length s.effects)
sized c chip s is =
    ap (λ n. size_listing n c.log (length chip.effects)) is.listed
    ∙ ap (λ (h : History). log_size h (length chip.effects)) (sym is.log)
    ∙ ap (λ l. log_size s.log (length l)) (sym is.effects)
