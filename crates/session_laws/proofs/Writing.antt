-- a write that is taken is a step, in any warm state
use Rattle.std.proofs.Common.{◌≡◌, ◌++◌, ◌∷◌, ◌∙◌, Bool, true, false, cond, [], Option, None, Some, unwrap_or, refl, sym, ap, subst}
use Rattle.std.proofs.lemmas.List.{append-nil}
use Rattle.std.specs.BTreeMap.{is_at}
use Rattle.table_schema.specs.Fields.{Pairs, merged}
use Rattle.table_schema.specs.Key.{key_cmp}
use Rattle.table_schema.specs.declared.key.Key.{Key}
use Rattle.table_schema.specs.declared.write.Sent.{Sent}
use Rattle.table_schema.specs.declared.write.Write.{Write}
use Rattle.table_schema.specs.declared.write.Write.TheVariants.{Set, Del}
use Rattle.table_schema.proofs.Keys.{tied_keys_same}
use Rattle.sai_types.specs.ChipState.{ChipState}
use Rattle.switch_model.specs.History.{with_write}
use Rattle.switch_model.specs.Marks.{sent_writes, written_key}
use Rattle.switch_machine.specs.Events.{IsTake, SwitchState}
use Rattle.switch_machine.specs.Written.{HasNoWrite, TakesWrite, Written, fields_after}
use Rattle.machine_laws.specs.Reading.{IsOnSwitch}
use Rattle.machine_laws.proofs.Staying.{map-more}
use Rattle.producer_table.specs.Pending.{ArePendingInOrder}
use Rattle.restart_laws.specs.Logged.{LoggedService, OfService}
use Rattle.restart_laws.specs.Service.{OfTake}
use Rattle.asic_view.specs.View.{rid_at}
use Rattle.registry_laws.proofs.Core.Empty.{stands_taken}
use Rattle.sync_tables.specs.Tables.{tables_with_write, written_in}
use Rattle.sync_tables.proofs.Waits.{takes_write}
use Rattle.flight_board.specs.Board.{flown_at}
use Rattle.session_laws.specs.Core.{CoreState, with_taken}
use Rattle.session_laws.specs.Events.{MakesOne}
use Rattle.session_laws.specs.Standing.{IsSessionOf}

-- a write leaves each other key
pub other_key : (w : Write) (k : Key) (o : Option Pairs) → is_at (key_cmp k) (written_key w) ≡ false → fields_after w k o ≡ o
other_key (Set key fields) k o apart = ap (λ b. cond b (Some (merged (unwrap_or o []) fields)) o) apart
other_key (Del key) k o apart = ap (λ b. cond b None o) apart

module _ (c : CoreState) (chip : ChipState) (s : LoggedService) (sent : Sent) (is : IsSessionOf c chip s) (on : IsOnSwitch (written_key sent.write)) (order : ArePendingInOrder c.tables.waiting) where
  abbrev after : Written
  after = written_in (sent_writes c.log.taken ++ sent.write ∷ []) (tables_with_write c.tables sent.write)

  abbrev core : SwitchState
  core = record { machine = s.service.core.machine; written = after; to_sync = s.service.core.to_sync; made = s.service.core.made; objects = s.service.core.objects }

  abbrev later : LoggedService
  later = record { service = record { warm = s.service.warm; core = core; seen = s.service.seen; left = s.service.left }; log = with_write s.log sent; effects = s.effects }

  taken : TakesWrite sent.write s.service.core.written after
  taken = subst (λ z. TakesWrite sent.write z after) (sym is.written) (takes_write c.tables (sent_writes c.log.taken) sent.write order)

  abbrev takes : IsTake s.service.core core
  takes = record {
    write = sent.write;
    taken = taken;
    machine = refl;
    to_sync = refl;
    made = refl;
    objects = refl;
  }

  reads : (k : Key) → (HasNoWrite after k → ⊥) → IsOnSwitch k
  reads k some = by (is_at (key_cmp k) (written_key sent.write)) refl
    where
      by : (b : Bool) → is_at (key_cmp k) (written_key sent.write) ≡ b → IsOnSwitch k
      by true here = subst IsOnSwitch (sym (tied_keys_same k (written_key sent.write) here)) on
      by false apart = is.waiting_read k (λ none. some (λ o. taken.waiting k o ∙ other_key sent.write k (s.service.core.written.waiting k o) apart ∙ none o))

  pub write_step : MakesOne c s (with_taken c sent) chip
  write_step = record {
    later = later;
    plan = refl;
    capacities = refl;
    limit = refl;
    makes = OfService None (OfTake later.service (record { warm = refl; core = takes; seen = refl; left = refl })) (sym (append-nil s.effects)) (sent, refl, refl);
    stands = record {
      plan = is.plan;
      capacities = is.capacities;
      clean = is.clean;
      warm_is = is.warm_is;
      written = ap (λ l. written_in l (tables_with_write c.tables sent.write)) (sym (map-more c.log.taken sent));
      to_sync = is.to_sync;
      objects = is.objects;
      made = is.made;
      log = ap (λ h. with_write h sent) is.log;
      effects = is.effects;
      listed = is.listed;
      to_sync_read = is.to_sync_read;
      waiting_read = reads;
      working = λ w. let x = is.working w in record {
        stands = stands_taken c.board.plan is.plan c.sync.capacities c.board.names c.board.room (flown_at c.board) (rid_at c.sync.view) s.service.core core x.stands takes;
        rows = x.rows;
        tied = x.tied;
        no_view = x.no_view;
        no_plan = x.no_plan;
      };
    };
  }
