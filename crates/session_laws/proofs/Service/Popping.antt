-- keys that are popped for a restore change nothing of the session
use Rattle.std.proofs.Common.{◌≡◌, ◌∙◌, ap}
use Rattle.table_schema.specs.declared.key.Key.{Key}
use Rattle.sai_types.specs.ChipState.{ChipState}
use Rattle.switch_model.specs.Marks.{sent_writes}
use Rattle.switch_machine.specs.Written.{HasNoWrite, Written}
use Rattle.machine_laws.specs.Reading.{IsOnSwitch}
use Rattle.sync_tables.specs.Tables.{IsPoppedIn, IsToSync, Popped, PopsKeys, Stays, TablesState}
use Rattle.warm_state.specs.declared.warm.Warm.TheVariants as warm
use Rattle.restart_laws.specs.Logged.{LoggedService}
use Rattle.session_laws.specs.Core.{CoreState}
use Rattle.session_laws.specs.Service.Standing.{AreKeysOnSwitch, IsAhead, IsServiceOf, written_of}
use Rattle.session_laws.proofs.Service.States.{not-in, restored-applying, restored-initialized, restored-reconciled}

module _ (c : CoreState) (t : TablesState) (pops : PopsKeys c.tables t) where
  abbrev popped : CoreState
  popped = record c { tables = t }

  whole : (k : Key) → IsPoppedIn c.tables t k → (written_of popped).waiting k ((written_of popped).rows k) ≡ (written_of c).waiting k ((written_of c).rows k)
  whole k (Stays same only) = let x = same (sent_writes c.log.taken) in x.waiting ((written_of popped).rows k) ∙ ap ((written_of c).waiting k) x.row
  whole k (Popped more gone there) = let x = gone (sent_writes c.log.taken) in x.none ((written_of popped).rows k) ∙ x.row

  pub pops-ahead : (w : Written) → IsAhead w (written_of c) → IsAhead w (written_of popped)
  pops-ahead w a = record { taken = a.taken; whole = λ k. whole k (pops.keys k) ∙ a.whole k }

  module _ (read : AreKeysOnSwitch c) where
    to_sync : (k : Key) → IsPoppedIn c.tables t k → IsToSync t k → IsOnSwitch k
    to_sync k (Stays same only) i = read.to_sync k (only i)
    to_sync k (Popped more gone there) i = read.waiting k (more (sent_writes c.log.taken))

    waiting : (k : Key) → IsPoppedIn c.tables t k → (HasNoWrite (written_of popped) k → ⊥) → IsOnSwitch k
    waiting k (Stays same only) some = read.waiting k (λ none. some (λ o. (same (sent_writes c.log.taken)).waiting o ∙ none o))
    waiting k (Popped more gone there) some = absurd (some (gone (sent_writes c.log.taken)).none)

    pub pops-read : AreKeysOnSwitch popped
    pops-read = record { taken = read.taken; to_sync = λ k. to_sync k (pops.keys k); waiting = λ k. waiting k (pops.keys k) }

  pub pops-stay : (chip : ChipState) (s : LoggedService) → IsServiceOf c chip s → c.warm ≡ warm.Restored → IsServiceOf popped chip s
  pops-stay chip s is at = record {
    always = record {
      plan = is.always.plan;
      capacities = is.always.capacities;
      clean = is.always.clean;
      warm_is = is.always.warm_is;
      holds = is.always.holds;
      numbers = is.always.numbers;
      ahead = pops-ahead s.service.core.written is.always.ahead;
      objects = is.always.objects;
      made = is.always.made;
      log = is.always.log;
      effects = is.always.effects;
      listed = is.always.listed;
      read = pops-read is.always.read;
    };
    working = not-in warm.Restored warm.Reconciled c.warm at restored-reconciled;
    restarted = not-in warm.Restored warm.Initialized c.warm at restored-initialized;
    seen = λ h. let x = is.seen h in record { bare = record { board = x.bare.board; no_view = x.bare.no_view; no_plan = x.bare.no_plan }; listed = x.listed };
    applying = not-in warm.Restored warm.Applying c.warm at restored-applying;
  }
