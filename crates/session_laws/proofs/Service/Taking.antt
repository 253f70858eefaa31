-- a write that is taken is a step, in any warm state
use Rattle.std.proofs.Common.{◌≡◌, ◌⊎◌, ◌++◌, ◌∷◌, ◌∙◌, inl, inr, Bool, true, false, [], None, refl, sym, ap, subst}
use Rattle.std.proofs.lemmas.List.{append-nil}
use Rattle.std.specs.BTreeMap.{is_at}
use Rattle.table_schema.specs.Key.{key_cmp}
use Rattle.table_schema.specs.declared.key.Key.{Key}
use Rattle.table_schema.specs.declared.write.Sent.{Sent}
use Rattle.table_schema.specs.declared.write.Write.{Write}
use Rattle.sai_types.specs.Alike.{IsIn}
use Rattle.sai_types.specs.ChipState.{ChipState}
use Rattle.sai_types.proofs.Membership.{in-push}
use Rattle.switch_model.specs.History.{with_write}
use Rattle.switch_model.specs.Marks.{sent_writes, written_key}
use Rattle.switch_machine.specs.Events.{IsTake, SwitchState}
use Rattle.switch_machine.specs.Written.{HasNoWrite, TakesWrite, Written, fields_after}
use Rattle.machine_laws.specs.Reading.{IsOnSwitch}
use Rattle.machine_laws.proofs.Staying.{map-more}
use Rattle.producer_table.specs.Pending.{ArePendingInOrder}
use Rattle.table_schema.proofs.Keys.{tied_keys_same}
use Rattle.restart_laws.specs.Invariant.{with_chip}
use Rattle.restart_laws.specs.Logged.{IsLoggedStep, LoggedService, OfService}
use Rattle.restart_laws.specs.Service.{OfTake}
use Rattle.asic_view.specs.View.{rid_at}
use Rattle.registry_laws.proofs.Core.Empty.{stands_taken}
use Rattle.sync_tables.specs.Tables.{tables_with_write, written_in}
use Rattle.sync_tables.proofs.Waits.{takes_write}
use Rattle.flight_board.specs.Board.{flown_at}
use Rattle.warm_state.specs.declared.warm.Warm.{Warm}
use Rattle.warm_state.specs.declared.warm.Warm.TheVariants as warm
use Rattle.session_laws.specs.Core.{CoreState, with_taken}
use Rattle.session_laws.proofs.Writing.{other_key}
use Rattle.session_laws.specs.Service.Events.{MakesNext}
use Rattle.session_laws.specs.Service.Standing.{IsAhead, IsExact, IsServiceOf, written_of}
use Rattle.session_laws.proofs.Service.Holding.{step-holds}
use Rattle.session_laws.proofs.Service.Sessions.{exactly-ahead}
use Rattle.session_laws.proofs.Service.Numbers.{step-numbers}
use Rattle.session_laws.proofs.Service.States.{initialized-applying, initialized-reconciled, restored-applying, restored-reconciled, suspect-applying, suspect-reconciled}

module _ (c : CoreState) (chip : ChipState) (s : LoggedService) (sent : Sent) (is : IsServiceOf c chip s) (on : IsOnSwitch (written_key sent.write)) (order : ArePendingInOrder c.tables.waiting) where
  abbrev core : SwitchState
  core = s.service.core

  abbrev after : Written
  after = written_in (sent_writes c.log.taken ++ sent.write ∷ []) (tables_with_write c.tables sent.write)

  now_taken : TakesWrite sent.write (written_of c) after
  now_taken = takes_write c.tables (sent_writes c.log.taken) sent.write order

  after_is : after ≡ written_of (with_taken c sent)
  after_is = ap (λ l. written_in l (tables_with_write c.tables sent.write)) (sym (map-more c.log.taken sent))

  reads : (k : Key) → (HasNoWrite after k → ⊥) → IsOnSwitch k
  reads k some = by (is_at (key_cmp k) (written_key sent.write)) refl
    where
      by : (b : Bool) → is_at (key_cmp k) (written_key sent.write) ≡ b → IsOnSwitch k
      by true here = subst IsOnSwitch (sym (tied_keys_same k (written_key sent.write) here)) on
      by false apart = is.always.read.waiting k (λ none. some (λ o. now_taken.waiting k o ∙ other_key sent.write k ((written_of c).waiting k o) apart ∙ none o))

  -- the session's tables take the write too
  module _ (w : Written) (taken : TakesWrite sent.write core.written w) (ahead : IsAhead w (written_of (with_taken c sent))) (exact : (c.warm ≡ warm.Reconciled) ⊎ (c.warm ≡ warm.Applying) → w ≡ written_of (with_taken c sent)) where
    abbrev with : SwitchState
    with = record { machine = core.machine; written = w; to_sync = core.to_sync; made = core.made; objects = core.objects }

    abbrev later : LoggedService
    later = record { service = record { warm = s.service.warm; core = with; seen = s.service.seen; left = s.service.left }; log = with_write s.log sent; effects = s.effects }

    abbrev takes : IsTake core with
    takes = record { write = sent.write; taken = taken; machine = refl; to_sync = refl; made = refl; objects = refl }

    makes : IsLoggedStep c.board.plan 4 c.sync.capacities s later
    makes = OfService None (OfTake later.service (record { warm = refl; core = takes; seen = refl; left = refl })) (sym (append-nil s.effects)) (sent, refl, refl)

    either : (v : Write) → IsIn v (sent_writes c.log.taken) ⊎ (v ≡ sent.write) → IsOnSwitch (written_key v)
    either v (inl i) = is.always.read.taken v i
    either v (inr same) = subst (λ z. IsOnSwitch (written_key z)) (sym same) on

    exactly : (c.warm ≡ warm.Reconciled) ⊎ (c.warm ≡ warm.Applying) → IsExact c core → IsExact (with_taken c sent) with
    exactly at x = record { written = exact at; to_sync = x.to_sync }

    take_step : MakesNext c s (with_taken c sent) chip
    take_step = record {
      later = later;
      makes = makes;
      plan = refl;
      capacities = refl;
      limit = refl;
      stands = record {
        always = record {
          plan = is.always.plan;
          capacities = is.always.capacities;
          clean = is.always.clean;
          warm_is = is.always.warm_is;
          holds = step-holds c.board.plan is.always.plan c.sync.capacities s later is.always.holds makes;
          numbers = step-numbers c.board.plan c.sync.capacities s later is.always.holds is.always.numbers makes;
          ahead = ahead;
          objects = is.always.objects;
          made = is.always.made;
          log = ap (λ h. with_write h sent) is.always.log;
          effects = is.always.effects;
          listed = is.always.listed;
          read = record {
            to_sync = is.always.read.to_sync;
            taken = λ v i. either v (in-push (sent_writes c.log.taken) sent.write v (subst (IsIn v) (map-more c.log.taken sent) i));
            waiting = λ k. subst (λ z. (HasNoWrite z k → ⊥) → IsOnSwitch k) after_is (reads k);
          };
        };
        working = λ at. let x = is.working at in (
          exactly (inl at) x.0,
          record {
            stands = stands_taken c.board.plan is.always.plan c.sync.capacities c.board.names c.board.room (flown_at c.board) (rid_at c.sync.view) core with x.1.stands takes;
            rows = x.1.rows;
            tied = x.1.tied;
            no_view = x.1.no_view;
            no_plan = x.1.no_plan;
          },
        );
        restarted = λ at. let x = is.restarted at in record { board = x.board; no_view = x.no_view; no_plan = x.no_plan };
        seen = λ at. let x = is.seen at in record { bare = record { board = x.bare.board; no_view = x.bare.no_view; no_plan = x.bare.no_plan }; listed = x.listed };
        applying = λ at. let x = is.applying at in (
          exactly (inr at) x.0,
          record {
            rid = x.1.rid;
            made = x.1.made;
            objects = x.1.objects;
            stands = stands_taken c.board.plan is.always.plan c.sync.capacities c.board.names c.board.room (flown_at c.board) x.1.rid (with_chip core x.1.made x.1.objects) (with_chip with x.1.made x.1.objects) x.1.stands
                (record { write = sent.write; taken = taken; machine = refl; to_sync = refl; made = refl; objects = refl });
            rows = x.1.rows;
            things = x.1.things;
            into = x.1.into;
            back = x.1.back;
            same = x.1.same;
            no_view = x.1.no_view;
            underway = x.1.underway;
          },
        );
      };
    }

  -- where they are the core's
  as_theirs : core.written ≡ written_of c → MakesNext c s (with_taken c sent) chip
  as_theirs same = take_step after (subst (λ z. TakesWrite sent.write z after) (sym same) now_taken) (exactly-ahead after (written_of (with_taken c sent)) after_is) (λ _. after_is)

  -- where the core's are ahead
  abbrev own : Written
  own = record { taken = core.written.taken ++ sent.write ∷ []; rows = core.written.rows; waiting = λ k o. fields_after sent.write k (core.written.waiting k o) }

  own_ahead : IsAhead own after
  own_ahead = record {
    taken = ap (λ l. l ++ sent.write ∷ []) is.always.ahead.taken;
    whole = λ k. now_taken.waiting k (after.rows k) ∙ ap (λ o. fields_after sent.write k ((written_of c).waiting k o)) (now_taken.rows k) ∙ ap (fields_after sent.write k) (is.always.ahead.whole k);
  }

  as_own : ((c.warm ≡ warm.Reconciled) ⊎ (c.warm ≡ warm.Applying) → ⊥) → MakesNext c s (with_taken c sent) chip
  as_own apart = take_step own (record { taken = refl; rows = λ k. refl; waiting = λ k o. refl }) (subst (IsAhead own) after_is own_ahead) (λ at. absurd (apart at))

  is_apart : (w : Warm) → c.warm ≡ w → (w ≡ warm.Reconciled → ⊥) → (w ≡ warm.Applying → ⊥) → (c.warm ≡ warm.Reconciled) ⊎ (c.warm ≡ warm.Applying) → ⊥
  is_apart w at a b (inl h) = a (sym at ∙ h)
  is_apart w at a b (inr h) = b (sym at ∙ h)

  pub taken-next : MakesNext c s (with_taken c sent) chip
  taken-next = by c.warm refl
    where
      by : (w : Warm) → c.warm ≡ w → MakesNext c s (with_taken c sent) chip
      by warm.Reconciled at = as_theirs (is.working at).0.written
      by warm.Applying at = as_theirs (is.applying at).0.written
      by warm.Initialized at = as_own (is_apart warm.Initialized at initialized-reconciled initialized-applying)
      by warm.Restored at = as_own (is_apart warm.Restored at restored-reconciled restored-applying)
      by warm.Suspect at = as_own (is_apart warm.Suspect at suspect-reconciled suspect-applying)
