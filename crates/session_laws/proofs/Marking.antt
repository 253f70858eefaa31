-- the mark at the end of a settling is a step
use Rattle.std.proofs.Common.{◌≡◌, ◌+◌, ◌<◌, ◌∷◌, ◌++◌, ◌∙◌, inr, ℕ, List, [], length, None, refl, sym, ap, subst, arith}
use Rattle.table_schema.specs.declared.key.Key.{Key}
use Rattle.sai_types.specs.Alike.{IsIn}
use Rattle.sai_types.specs.ChipState.{ChipState}
use Rattle.switch_model.specs.History.{History, keys_listed, listed_by, with_end, with_mark}
use Rattle.switch_model.specs.Marks.{AreInOrder, Waiting}
use Rattle.switch_model.specs.declared.mark.Mark.{Mark}
use Rattle.switch_model.specs.declared.mark.MarkEvent.{MarkEvent}
use Rattle.switch_model.specs.declared.mark.MarkEvent.TheVariants as event
use Rattle.producer_table.specs.Pending.{pending_at, row_with_pending}
use Rattle.switch_machine.specs.Events.{SwitchState}
use Rattle.switch_machine.specs.Written.{IsPopped}
use Rattle.switch_machine.proofs.Needing.{listed_more}
use Rattle.machine_laws.specs.Logged.{AreListed, ListsKey, LogsMark}
use Rattle.registry_laws.proofs.Core.Resting.{none_flies}
use Rattle.sync_tables.specs.Tables.{IsToSync}
use Rattle.restart_laws.specs.Logged.{LoggedService, OfMachine, mark_now, switch_of}
use Rattle.flight_board.specs.Board.{flown_at}
use Rattle.warm_state.specs.declared.warm.Warm.TheVariants as warm
use Rattle.session_laws.specs.Core.{CoreState, mark_at}
use Rattle.session_laws.specs.Events.{HaveReasons, MakesOne}
use Rattle.session_laws.specs.Standing.{IsSessionOf, IsWorking}

listed_now : (marks : List Mark) (mark : Mark) (n m : ℕ) → n ≡ listed_by marks → keys_listed mark.event ≡ m → n + m ≡ listed_by (marks ++ mark ∷ [])
listed_now marks mark n m h k = let more = listed_more marks mark in omega (arith, h, k, more)

module _ (c : CoreState) (chip : ChipState) (s : LoggedService) (is : IsSessionOf c chip s) (at : c.warm ≡ warm.Reconciled) where
  abbrev core : SwitchState
  core = s.service.core

  abbrev its : IsWorking c chip core
  its = is.working at

  are_listed : (waits : Waiting) → HaveReasons c core waits → AreListed c.board.plan 4 c.sync.capacities core waits
  are_listed [] h = tt
  are_listed (w ∷ ws) h = (h.0, h.1 ∙ sym (its.rows w.0), are_listed ws h.2)

  pub popped : c.tables.waiting ≡ [] → IsPopped core.written
  popped none = subst IsPopped (sym is.written) (λ k o. ap (λ w. row_with_pending o (pending_at w k)) none)

  module _ (waits : Waiting) (turns : ℕ) (none : c.tables.waiting ≡ []) (rest : (v : ℕ) → v < 4 → flown_at c.board v ≡ None) (reasons : HaveReasons c core waits) (all : (k : Key) → IsToSync c.tables k → ListsKey k waits) (order : AreInOrder waits) where
    abbrev settled : MarkEvent
    settled = event.Settled waits turns

    abbrev log : History
    log = with_end (with_mark c.log (mark_at c (length chip.effects) settled))

    abbrev later : LoggedService
    later = record { service = s.service; log = log; effects = s.effects }

    same_log : log ≡ with_end (with_mark s.log (mark_now s.log s.effects settled))
    same_log =
        ap (λ h. with_end (with_mark h (mark_now h chip.effects settled))) (sym is.log)
        ∙ ap (λ e. with_end (with_mark s.log (mark_now s.log e settled))) (sym is.effects)

    marks : LogsMark c.board.plan 4 c.sync.capacities (switch_of s) (switch_of later)
    marks = record {
      quiet = none_flies c.board.plan c.sync.capacities c.board.names c.board.room (flown_at c.board) core its.stands.board rest;
      popped = popped none;
      waits = waits;
      turns = turns;
      listed = are_listed waits reasons;
      all = λ k i. all k (subst (IsIn k) is.to_sync i);
      in_order = order;
      switch = refl;
      log = same_log;
      effects = refl;
    }

    abbrev marked : CoreState
    marked = record c { log = log; listed = c.listed + length waits }

    mark_step : MakesOne c s marked chip
    mark_step = record {
      later = later;
      plan = refl;
      capacities = refl;
      limit = refl;
      makes = OfMachine (is.warm_is ∙ at) (is.warm_is ∙ at) (inr (inr marks));
      stands = record {
        plan = is.plan;
        capacities = is.capacities;
        clean = is.clean;
        warm_is = is.warm_is;
        written = is.written;
        to_sync = is.to_sync;
        objects = is.objects;
        made = is.made;
        log = refl;
        effects = is.effects;
        listed = listed_now c.log.marks (mark_at c (length chip.effects) settled) c.listed (length waits) is.listed refl;
        to_sync_read = is.to_sync_read;
        waiting_read = is.waiting_read;
        working = λ w. let x = is.working w in record { stands = x.stands; rows = x.rows; tied = x.tied; no_view = x.no_view; no_plan = x.no_plan };
      };
    }

    pub marks_told : (x : MakesOne c s marked chip) × LogsMark c.board.plan 4 c.sync.capacities (switch_of s) (switch_of x.later)
    unfolding mark_step
    marks_told = (mark_step, marks)
