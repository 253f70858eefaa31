-- a call of a worker that failed is a fault, without its effect or with it
use Rattle.std.proofs.Common.{◌≡◌, ◌⊎◌, ◌+◌, ◌∷◌, ◌++◌, ◌∙◌, inl, inr, ℕ, List, [], length, Option, None, Some, refl, sym, ap, subst, arith}
use Rattle.std.proofs.lemmas.List.{append-nil}
use Rattle.sai_types.specs.declared.answer.ChipAnswer.{ChipAnswer}
use Rattle.sai_types.specs.declared.answer.ChipAnswer.TheVariants as answer
use Rattle.sai_types.specs.declared.answer.SyncAnswer.TheVariants as sync
use Rattle.sai_types.specs.declared.body.Call.{Call}
use Rattle.sai_types.specs.declared.body.Call.TheVariants as call
use Rattle.sai_types.specs.declared.ids.Rid.{Rid}
use Rattle.sai_types.specs.declared.ids.Vid.{Vid}
use Rattle.sai_types.specs.After.{after_call, next_id}
use Rattle.sai_types.specs.ChipState.{Answers, ChipState, StaysSame, TakesEffect}
use Rattle.sai_types.specs.Made.{made_after}
use Rattle.chip_layout.specs.Renamed.{call_renamed}
use Rattle.switch_model.specs.History.{History, keys_listed, listed_by, with_end, with_mark}
use Rattle.switch_model.specs.Marks.{sent_writes}
use Rattle.switch_model.specs.declared.mark.Mark.{Mark}
use Rattle.switch_model.specs.declared.mark.MarkEvent.{MarkEvent}
use Rattle.switch_model.specs.declared.mark.MarkEvent.TheVariants as event
use Rattle.switch_machine.specs.Events.{SwitchState, with_made_call}
use Rattle.switch_machine.specs.Written.{HasNoWrite}
use Rattle.switch_machine.proofs.Needing.{listed_more}
use Rattle.machine_laws.specs.Reading.{IsOnSwitch}
use Rattle.registry_laws.specs.Flown.{Flown}
use Rattle.registry_laws.specs.Making.{IsNextCall}
use Rattle.registry_laws.specs.Identified.{tie_by}
use Rattle.registry_laws.specs.Standing.{HasBegun}
use Rattle.asic_view.specs.View.{ViewObjects, rid_at}
use Rattle.syncd_core.specs.Synced.{Calls, AnswerFollows, IsMadeOnChip, SyncState, with_view}
use Rattle.restart_laws.specs.Logged.{LoggedService, OfService, mark_now}
use Rattle.restart_laws.specs.Service.{HasFailed, OfFault, OfFlight}
use Rattle.sync_tables.specs.Tables.{written_in}
use Rattle.flight_board.specs.Board.{flown_at}
use Rattle.warm_state.specs.declared.warm.Warm.TheVariants as warm
use Rattle.session_laws.specs.Core.{CoreState, mark_at}
use Rattle.session_laws.specs.Events.{MakesOne}
use Rattle.session_laws.specs.Standing.{IsSessionOf}
use Rattle.session_laws.proofs.Called.{answered, capacities_then, clean_then, effects_then, made_then, objects_then}
use Rattle.session_laws.proofs.Preparing.{due_call}

pub listed_same : (marks : List Mark) (mark : Mark) (n : ℕ) → keys_listed mark.event ≡ 0 → n ≡ listed_by marks → n ≡ listed_by (marks ++ mark ∷ [])
listed_same marks mark n none h = let more = listed_more marks mark in omega (arith, none, h, more)

suspect_not : warm.Suspect ≡ warm.Reconciled → ⊥
suspect_not h = cc

failed_not_made : (v : Vid) → sync.Failed ≡ sync.Made v → ⊥
failed_not_made v h = cc

failed_not_done : sync.Failed ≡ sync.Done → ⊥
failed_not_done h = cc

-- the chip said so where the call failed
pub said_failed : (view view' : ViewObjects) (c : Call Vid) (said : ChipAnswer) → AnswerFollows view c said sync.Failed view' → said ≡ answer.Failed
said_failed view view' (call.Create b) (answer.Made r) f = absurd (failed_not_made f.0 f.3)
said_failed view view' (call.Create b) answer.Done f = absurd (failed_not_done f.3)
said_failed view view' (call.Set e x) answer.Done f = absurd (failed_not_done f.1)
said_failed view view' (call.Remove e) answer.Done f = absurd (failed_not_done f.1)
said_failed view view' (call.Create b) answer.Failed f = refl
said_failed view view' (call.Set e x) answer.Failed f = refl
said_failed view view' (call.Remove e) answer.Failed f = refl
said_failed view view' (call.Create b) _ f = absurd f
said_failed view view' (call.Set e x) _ f = absurd f
said_failed view view' (call.Remove e) _ f = absurd f

-- the log with the mark of a fault, and in a settling with the end of its round
pub data IsFaultLog (log : History) (mark : Mark) : History → Type 0 where
  Marked : IsFaultLog log mark (with_mark log mark)
  Ended : IsFaultLog log mark (with_end (with_mark log mark))

module _ (c : CoreState) (chip : ChipState) (s : LoggedService) (is : IsSessionOf c chip s) (at : c.warm ≡ warm.Reconciled) (w : ℕ) (x : Flown) (there : flown_at c.board w ≡ Some x) (begun : HasBegun c.board.plan c.board.names x) (call : Call Vid) (told : IsNextCall c.board.plan c.board.names x.operation x.group call) (view' : ViewObjects) (chip' : ChipState) (m : IsMadeOnChip c.sync.view chip call sync.Failed view' chip') where
  abbrev d : Call Rid
  d = call_renamed (tie_by (rid_at c.sync.view)) call

  abbrev core : SwitchState
  core = s.service.core

  abbrev fault : MarkEvent
  fault = event.Faulted chip.faults chip'.faults

  abbrev with_log : History → CoreState
  with_log log = record c { sync = with_view c.sync view'; log = log; warm = warm.Suspect }

  failed : Answers chip d answer.Failed chip'
  failed = subst (λ z. Answers chip d z chip') (said_failed c.sync.view view' call m.answer m.follows) (answered c chip s is at w x there begun call told sync.Failed view' chip' m).answer

  abbrev mark : Mark
  mark = mark_at c (length chip'.effects) fault

  listed : c.listed ≡ listed_by (c.log.marks ++ mark ∷ [])
  listed = listed_same c.log.marks mark c.listed refl is.listed

  -- without effect or with it
  module _ (effect : Option (Call Rid)) (later : SwitchState) (written : later.written ≡ core.written) (to_sync : later.to_sync ≡ core.to_sync) (has : HasFailed d core effect later) (objects : later.objects ≡ chip'.objects) (made : next_id chip'.effects ≡ later.made + 1) (effects : s.effects ++ with_made_call effect [] ≡ chip'.effects) where
    abbrev then : History → LoggedService
    then log = record { service = record { warm = warm.Suspect; core = later; seen = s.service.seen; left = s.service.left }; log = log; effects = s.effects ++ with_made_call effect [] }

    stands : (log : History) → log.taken ≡ c.log.taken → log.marks ≡ c.log.marks ++ mark ∷ [] → IsSessionOf (with_log log) chip' (then log)
    stands log taken marks = record {
      plan = is.plan;
      capacities = capacities_then c chip s is at w x there begun call told sync.Failed view' chip' m;
      clean = clean_then c chip s is at w x there begun call told sync.Failed view' chip' m;
      warm_is = refl;
      written = written ∙ is.written ∙ ap (λ l. written_in (sent_writes l) c.tables) (sym taken);
      to_sync = to_sync ∙ is.to_sync;
      objects = objects;
      made = made;
      log = refl;
      effects = effects;
      listed = listed ∙ ap listed_by (sym marks);
      to_sync_read = is.to_sync_read;
      waiting_read = λ k. subst (λ z. (HasNoWrite z k → ⊥) → IsOnSwitch k) (sym written) (is.waiting_read k);
      working = λ w. absurd (suspect_not w);
    }

    marked : with_mark c.log mark ≡ with_mark s.log (mark_now s.log (s.effects ++ with_made_call effect []) fault)
    marked =
        ap (λ h. with_mark h (mark_now h chip'.effects fault)) (sym is.log)
        ∙ ap (λ e. with_mark s.log (mark_now s.log e fault)) (sym effects)

    by : (log : History) → IsFaultLog c.log mark log → MakesOne c s (with_log log) chip'
    by log form = record {
      later = then log;
      plan = refl;
      capacities = refl;
      limit = refl;
      makes = OfService effect (OfFault effect (then log).service (record { call = d; due = OfFlight (is.warm_is ∙ at) (due_call c chip s is at w x there begun call told).0; warm = refl; written = written; chip = has })) refl (chip.faults, chip'.faults, omega (arith, failed.1), adds log form);
      stands = stands log (same_taken log form) (same_marks log form);
    }
      where
        adds : (log : History) → IsFaultLog c.log mark log → (log ≡ with_mark s.log (mark_now s.log (s.effects ++ with_made_call effect []) fault)) ⊎ (log ≡ with_end (with_mark s.log (mark_now s.log (s.effects ++ with_made_call effect []) fault)))
        adds log Marked = inl marked
        adds log Ended = inr (ap with_end marked)

        same_taken : (log : History) → IsFaultLog c.log mark log → log.taken ≡ c.log.taken
        same_taken log Marked = refl
        same_taken log Ended = refl

        same_marks : (log : History) → IsFaultLog c.log mark log → log.marks ≡ c.log.marks ++ mark ∷ []
        same_marks log Marked = refl
        same_marks log Ended = refl

  pub fault_step : (log : History) → IsFaultLog c.log mark log → MakesOne c s (with_log log) chip'
  fault_step log form = either failed.0
    where
      either : StaysSame chip chip' ⊎ TakesEffect chip d chip' → MakesOne c s (with_log log) chip'
      either (inl same) =
          by None core refl refl (refl, refl) (is.objects ∙ sym same.objects) (ap next_id same.effects ∙ is.made) (append-nil s.effects ∙ is.effects ∙ sym same.effects) log form
      either (inr effect) =
          by (Some d) (record { machine = core.machine; written = core.written; to_sync = core.to_sync; made = made_after core.made d; objects = after_call (core.made + 1) core.objects d }) refl refl (refl, refl, refl)
          (objects_then c chip s is d chip' effect) (made_then c chip s is d chip' effect) (effects_then c chip s is d chip' effect) log form

-- as syncd tells it
pub faults_step : (c : CoreState) (chip : ChipState) (s : LoggedService) (w : ℕ) (x : Flown) (call : Call Vid) (sync' : SyncState) (chip' : ChipState) (log : History) → IsSessionOf c chip s → c.warm ≡ warm.Reconciled → flown_at c.board w ≡ Some x → HasBegun c.board.plan c.board.names x → IsNextCall c.board.plan c.board.names x.operation x.group call → Calls c.sync c.sync.temporary chip call sync.Failed sync' chip' → IsFaultLog c.log (mark_at c (length chip'.effects) (event.Faulted chip.faults chip'.faults)) log → MakesOne c s (record c { sync = sync'; log = log; warm = warm.Suspect }) chip'
faults_step c chip s w x call sync' chip' log is at there begun told calls form =
    let gone : Calls c.sync None chip call sync.Failed sync' chip' = subst (λ o. Calls c.sync o chip call sync.Failed sync' chip') (is.working at).no_view calls in
    subst (λ z. MakesOne c s (record c { sync = z; log = log; warm = warm.Suspect }) chip') (sym gone.1) (fault_step c chip s is at w x there begun call told gone.0 chip' gone.2 log form)
