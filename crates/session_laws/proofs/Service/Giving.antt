-- a building that is given up leaves the core as it was listed, but for rows that were popped
use Rattle.std.proofs.Common.{◌≡◌, ◌∙◌, refl, sym, ap, subst}
use Rattle.table_schema.specs.Plan.{IsPlan, Ports}
use Rattle.table_schema.specs.Rows.{fields_at}
use Rattle.sai_types.specs.ChipState.{ChipState}
use Rattle.switch_model.specs.History.{History, listed_by}
use Rattle.sai_types.specs.Alike.{IsIn}
use Rattle.table_schema.specs.declared.write.Write.{Write}
use Rattle.switch_model.specs.Marks.{sent_writes, written_key}
use Rattle.switch_machine.specs.Written.{HasNoWrite, Written}
use Rattle.machine_laws.specs.Reading.{IsOnSwitch}
use Rattle.producer_table.specs.Pending.{pending_at, row_with_pending}
use Rattle.sync_tables.specs.Tables.{written_in}
use Rattle.warm_state.specs.declared.warm.Warm.TheVariants as warm
use Rattle.restart_laws.specs.Invariant.{Holds}
use Rattle.restart_laws.specs.Logged.{LoggedService}
use Rattle.session_laws.specs.Core.{CoreState}
use Rattle.session_laws.specs.Service.Built.{IsBeside, given_up}
use Rattle.session_laws.specs.Service.Standing.{IsAhead, IsServiceOf, written_of}
use Rattle.session_laws.proofs.Service.States.{not-in, restored-applying, restored-initialized, restored-reconciled}

-- the tables hold what they held
pub written-beside : (first c : CoreState) → IsBeside first c → written_of first ≡ written_of c
written-beside first c x =
    ap (λ (h : History). written_in (sent_writes h.taken) first.tables) (sym x.log)
    ∙ ap (λ r. record { taken = sent_writes c.log.taken; rows = λ k. fields_at r k; waiting = λ k o. row_with_pending o (pending_at first.tables.waiting k) }) (sym x.rows)
    ∙ ap (λ w. record { taken = sent_writes c.log.taken; rows = λ k. fields_at c.tables.rows k; waiting = λ k o. row_with_pending o (pending_at w k) }) (sym x.popped)

module _ (first : CoreState) (chip : ChipState) (s : LoggedService) (is : IsServiceOf first chip s) (at : first.warm ≡ warm.Restored) (c : CoreState) (x : IsBeside first c) where
  abbrev later : CoreState
  later = given_up c

  written_is : written_of first ≡ written_of later
  written_is = written-beside first c x

  here : later.warm ≡ warm.Restored
  here = x.warm ∙ at

  pub given-up : IsServiceOf later chip s
  given-up = record {
    always = record {
      plan = subst IsPlan (sym x.plan) is.always.plan;
      capacities = is.always.capacities ∙ sym x.capacities;
      clean = is.always.clean;
      warm_is = is.always.warm_is ∙ sym x.warm;
      holds = subst (λ (p : Ports). Holds p 4 c.sync.capacities s.service) (sym x.plan) (subst (λ l. Holds first.board.plan 4 l s.service) (sym x.capacities) is.always.holds);
      numbers = is.always.numbers;
      ahead = subst (IsAhead s.service.core.written) written_is is.always.ahead;
      objects = is.always.objects;
      made = is.always.made;
      log = is.always.log ∙ sym x.log;
      effects = is.always.effects;
      listed = x.listed ∙ is.always.listed ∙ ap (λ (h : History). listed_by h.marks) (sym x.log);
      read = record {
        taken = subst (λ (h : History). (w : Write) → IsIn w (sent_writes h.taken) → IsOnSwitch (written_key w)) (sym x.log) is.always.read.taken;
        to_sync = λ k i. elim i [ ];
        waiting = λ k. subst (λ (w : Written). (HasNoWrite w k → ⊥) → IsOnSwitch k) written_is (is.always.read.waiting k);
      };
    };
    working = not-in warm.Restored warm.Reconciled c.warm here restored-reconciled;
    restarted = not-in warm.Restored warm.Initialized c.warm here restored-initialized;
    seen = λ _. record { bare = record { board = refl; no_view = refl; no_plan = refl }; listed = x.seen ∙ (is.seen at).listed };
    applying = not-in warm.Restored warm.Applying c.warm here restored-applying;
  }
