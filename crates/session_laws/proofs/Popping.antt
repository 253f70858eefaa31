-- a pop is a step
use Rattle.std.proofs.Common.{◌≡◌, ◌∙◌, inl, inr, List, None, refl, sym, subst}
use Rattle.std.specs.Map.{keys_of}
use Rattle.table_schema.specs.declared.key.Key.{Key}
use Rattle.table_schema.specs.declared.write.Write.{Write}
use Rattle.sai_types.specs.ChipState.{ChipState}
use Rattle.switch_model.specs.Marks.{sent_writes}
use Rattle.switch_machine.specs.Events.{IsPop, SwitchState}
use Rattle.switch_machine.specs.Written.{HasNoWrite, IsPoppedKey}
use Rattle.machine_laws.specs.Reading.{IsOnSwitch}
use Rattle.restart_laws.specs.Logged.{LoggedService}
use Rattle.asic_view.specs.View.{rid_at}
use Rattle.registry_laws.proofs.Core.Empty.{stands_popped}
use Rattle.sync_tables.specs.Tables.{IsPoppedIn, IsToSync, Popped, PopsKeys, PopsSome, Stays, TablesState, written_in}
use Rattle.sync_tables.proofs.Popped.{is_pop}
use Rattle.flight_board.specs.Board.{flown_at}
use Rattle.warm_state.specs.declared.warm.Warm.TheVariants as warm
use Rattle.session_laws.specs.Core.{CoreState}
use Rattle.session_laws.specs.Events.{IsMachineStep, MakesOne, session_with}
use Rattle.session_laws.specs.Standing.{IsSessionOf}
use Rattle.session_laws.proofs.Making.{machine_step, without_call}

module _ (c : CoreState) (chip : ChipState) (s : LoggedService) (t : TablesState) (is : IsSessionOf c chip s) (at : c.warm ≡ warm.Reconciled) (pops : PopsKeys c.tables t) where
  abbrev taken : List Write
  taken = sent_writes c.log.taken

  abbrev core : SwitchState
  core = record { machine = s.service.core.machine; written = written_in taken t; to_sync = keys_of t.ops; made = s.service.core.made; objects = s.service.core.objects }

  pop : IsPop s.service.core core
  pop = is_pop c.tables t taken s.service.core core pops is.written is.to_sync refl

  waited : (k : Key) → (HasNoWrite (written_in taken c.tables) k → ⊥) → IsOnSwitch k
  waited k some = is.waiting_read k (λ none. some (subst (λ z. HasNoWrite z k) is.written none))

  read_to_sync : (k : Key) → IsPoppedIn c.tables t k → IsToSync t k → IsOnSwitch k
  read_to_sync k (Stays same only) i = is.to_sync_read k (only i)
  read_to_sync k (Popped some popped there) i = waited k (some taken)

  read_waiting : (k : Key) → IsPoppedIn c.tables t k → (HasNoWrite (written_in taken t) k → ⊥) → IsOnSwitch k
  read_waiting k (Stays same only) some = waited k (λ none. some (λ o. (same taken).waiting o ∙ none o))
  read_waiting k (Popped more popped there) some = absurd (some (popped taken).none)

  pub pop_step : MakesOne c s (record c { tables = t }) chip
  pop_step = record {
    later = session_with s core None;
    plan = refl;
    capacities = refl;
    limit = refl;
    makes = machine_step c.board.plan c.sync.capacities s core None (is.warm_is ∙ at) (inr (inl pop)) pop.taken;
    stands = record {
      plan = is.plan;
      capacities = is.capacities;
      clean = is.clean;
      warm_is = is.warm_is;
      written = refl;
      to_sync = refl;
      objects = is.objects;
      made = is.made;
      log = is.log;
      effects = without_call s ∙ is.effects;
      listed = is.listed;
      to_sync_read = λ k. read_to_sync k (pops.keys k);
      waiting_read = λ k. read_waiting k (pops.keys k);
      working = λ w. let x = is.working w in record {
        stands = stands_popped c.board.plan is.plan c.sync.capacities c.board.names c.board.room (flown_at c.board) (rid_at c.sync.view) s.service.core core x.stands pop;
        rows = x.rows;
        tied = x.tied;
        no_view = x.no_view;
        no_plan = x.no_plan;
      };
    };
  }

  pub pop_some : PopsSome c.tables t → (k : Key) × (HasNoWrite s.service.core.written k → ⊥) × IsPoppedKey s.service.core.written (written_in taken t) k
  pop_some x = (x.0, subst (λ z. HasNoWrite z x.0 → ⊥) (sym is.written) (x.1 taken), subst (λ z. IsPoppedKey z (written_in taken t) x.0) (sym is.written) (x.2 taken))

  pub pop_told : (x : MakesOne c s (record c { tables = t }) chip) × IsPop s.service.core x.later.service.core × IsMachineStep s None x.later × (PopsSome c.tables t → (k : Key) × (HasNoWrite s.service.core.written k → ⊥) × IsPoppedKey s.service.core.written x.later.service.core.written k)
  unfolding pop_step
  pop_told = (pop_step, pop, refl, pop_some)
