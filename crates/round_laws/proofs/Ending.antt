-- how a round ends with its settling
use Rattle.std.proofs.Common.{◌∙◌, ◌<◌, ℕ, List, Option, ap, subst}
use Rattle.table_schema.specs.declared.write.Sent.{Sent}
use Rattle.sai_types.specs.ChipState.{ChipState}
use Rattle.switch_model.specs.History.{with_end, with_mark}
use Rattle.switch_model.specs.declared.mark.Mark.{Mark}
use Rattle.session_laws.specs.Core.{CoreState}
use Rattle.session_laws.specs.Leading.{SettlesTo}
use Rattle.round_laws.specs.Between.{IsInRound, RoundEnds}
use Rattle.round_laws.specs.Quiet.{LeavesQuietRows}
use Rattle.round_laws.specs.Turns.{IsMadeByTurns}
use Rattle.round_laws.proofs.Between.{its-log, its-mark, settled-between}
use Rattle.round_laws.proofs.Quieted.{quiet-left}
use Rattle.round_laws.proofs.Turned.{made-by-turns, more-effects, the-round}

pub round-ends : {workers : ℕ} (since : Option Mark) (old c c' : CoreState) (chip chip' : ChipState) (sent : List Sent) (x : IsInRound workers since old chip sent c) → 0 < workers → SettlesTo c x.within.session c' chip' → RoundEnds workers since old chip sent c' chip'
round-ends since old c c' chip chip' sent x some y =
    let r = the-round since old c c' chip chip' sent x y in
    record {
      calls = y.settling.calls;
      mark = its-mark c c' chip chip' x.within y;
      effects = more-effects since old c c' chip chip' sent x y;
      log = its-log c c' chip chip' x.within y ∙ ap (λ h. with_end (with_mark h (its-mark c c' chip chip' x.within y))) x.log;
      made = subst (λ b. IsMadeByTurns b.plan old.sync.capacities r) x.board (subst (λ z. IsMadeByTurns c.board.plan z.capacities r) x.sync (made-by-turns since old c c' chip chip' sent x y));
      quiet = subst (λ b. LeavesQuietRows b.plan r) x.board (quiet-left since old c c' chip chip' sent x y);
      later = settled-between c c' chip chip' x.within y some;
      plan = y.leads.plan ∙ ap (λ b. b.plan) x.board;
      capacities = y.leads.capacities ∙ ap (λ z. z.capacities) x.sync;
    }
