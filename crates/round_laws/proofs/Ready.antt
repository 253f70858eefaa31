-- when a round may begin
use Rattle.std.proofs.Common.{◌≡◌, inl, inr, true, ℕ, List, [], Option, sym, subst}
use Rattle.table_schema.specs.Plan.{IsPlan, Ports}
use Rattle.table_schema.specs.declared.write.Sent.{Sent}
use Rattle.sai_types.specs.ChipState.{ChipState}
use Rattle.switch_model.specs.declared.mark.Mark.{Mark}
use Rattle.producer_table.specs.Pending.{ArePendingInOrder}
use Rattle.warm_state.specs.declared.warm.Warm.TheVariants as warm
use Rattle.session_laws.specs.Core.{CoreState, new_core}
use Rattle.round_laws.specs.Between.{IsBetweenRounds, IsReadyForRound, RoundEnds}
use Rattle.round_laws.specs.Sessions.{InSession}
use Rattle.round_laws.proofs.Between.{between-first}
use Rattle.round_laws.proofs.ToSync.{not_suspect}

pub between-ready : {workers : ℕ} (c : CoreState) (chip : ChipState) → IsBetweenRounds workers c chip → IsReadyForRound workers c chip
between-ready c chip x = record { within = x.resting.within; order = subst ArePendingInOrder (sym x.resting.rest.popped) (record { keys = tt; names = tt }); warm = inl x.resting.rest.warm; between = λ at. x }

pub ready-first : (workers : ℕ) (plan : Ports) (capacities : List ℕ) (limit : ℕ) (chip : ChipState) → IsPlan plan → chip.objects ≡ [] → chip.effects ≡ [] → chip.clean ≡ true → chip.capacities ≡ capacities → IsReadyForRound workers (new_core plan capacities limit) chip
ready-first workers plan capacities limit chip is objects effects clean room = between-ready (new_core plan capacities limit) chip (between-first workers plan capacities limit chip is objects effects clean room)

pub ended-ready : {workers : ℕ} (since : Option Mark) (old c : CoreState) (chip chip' : ChipState) (sent : List Sent) → RoundEnds workers since old chip sent c chip' → IsReadyForRound workers c chip'
ended-ready since old c chip chip' sent x = between-ready c chip' x.later

pub suspect-ready : {workers : ℕ} (c : CoreState) (chip : ChipState) → InSession workers c chip → ArePendingInOrder c.tables.waiting → c.warm ≡ warm.Suspect → IsReadyForRound workers c chip
suspect-ready c chip x order at = record { within = x; order = order; warm = inr at; between = λ back. absurd (not_suspect c.warm back at) }
