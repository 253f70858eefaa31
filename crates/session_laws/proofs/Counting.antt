-- what syncd counts is what stands on the chip
use Rattle.std.proofs.Common.{◌≡◌, ◌∙◌, ℕ, List, sym, ap}
use Rattle.sai_types.specs.declared.kind.Kind.{Kind}
use Rattle.sai_types.specs.ChipState.{ChipState}
use Rattle.sai_types.specs.Objects.{used}
use Rattle.ref_counts.specs.Room.{number_of_kind}
use Rattle.asic_view.specs.View.{used_of}
use Rattle.syncd_core.specs.Synced.{current}
use Rattle.apply_laws.proofs.Tying.Calls.{current-used}
use Rattle.restart_laws.specs.Logged.{LoggedService}
use Rattle.warm_state.specs.declared.warm.Warm.TheVariants as warm
use Rattle.session_laws.specs.Core.{CoreState}
use Rattle.session_laws.specs.Events.{CountObjects}
use Rattle.session_laws.specs.Standing.{IsSessionOf}

pub counts : (c : CoreState) (chip : ChipState) (s : LoggedService) (numbers : List ℕ) → IsSessionOf c chip s → c.warm ≡ warm.Reconciled → ((kind : Kind) → number_of_kind numbers kind ≡ used_of (current c.sync) kind) → CountObjects s.service.core.objects numbers
counts c chip s numbers is at same kind =
    let its = is.working at in
    same kind ∙ current-used c.sync s.service.core.made chip.objects kind its.no_view its.tied ∙ ap (λ o. used o kind) (sym is.objects)
