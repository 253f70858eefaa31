-- the call that was due for a worker, as the core makes it
use Rattle.std.proofs.Common.{◌≡◌, ◌∙◌, ℕ, Bool, true, false, length, Option, Some, None, option_map, is_some, Result, Ok, Err, refl, sym, ap, subst, arith}
use Rattle.std.specs.Option.{IfNone, IfSome, IsSome}
use Rattle.std.specs.Result.{IsErr}
use Rattle.std.proofs.lemmas.Bool.{false≢true}
use Rattle.sai_types.specs.declared.answer.ChipAnswer.{ChipAnswer}
use Rattle.sai_types.specs.declared.answer.ChipAnswer.TheVariants as answer
use Rattle.sai_types.specs.declared.answer.SyncAnswer.{SyncAnswer}
use Rattle.sai_types.specs.declared.answer.SyncAnswer.TheVariants as sync
use Rattle.sai_types.specs.declared.body.Call.{Call}
use Rattle.sai_types.specs.declared.ids.Rid.{Rid}
use Rattle.sai_types.specs.declared.ids.Vid.{Vid}
use Rattle.sai_types.specs.ChipState.{ChipState, IsAskedOnce}
use Rattle.swss_types.specs.declared.out_of_memory.OutOfMemory.{OutOfMemory}
use Rattle.switch_model.specs.History.{History, no_history}
use Rattle.switch_model.specs.declared.mark.Mark.{Mark}
use Rattle.switch_model.specs.declared.mark.MarkEvent.TheVariants as event
use Rattle.chip_layout.specs.Renamed.{call_renamed}
use Rattle.switch_machine.specs.Events.{IsAnswer}
use Rattle.registry_laws.specs.Flown.{Flown}
use Rattle.registry_laws.specs.Making.{IsNextCall, MayTakeFor, with_group_begun}
use Rattle.registry_laws.specs.Standing.{HasBegun}
use Rattle.restart_laws.specs.Logged.{IsLoggedStep, LoggedService}
use Rattle.asic_view.specs.View.{ViewObjects}
use Rattle.syncd_core.specs.Synced.{AnswerFollows, CanCall, Calls, IsMadeOnChip, SyncState}
use Rattle.syncd_core.specs.Tied.{tie_of}
use Rattle.flight_board.specs.Board.{BoardState, FlightState, IsPrepared, IsCallReady, IsTakenFor, MayEndThen, flown_at}
use Rattle.warm_state.specs.declared.warm.Warm.TheVariants as warm
use Rattle.session_laws.specs.Core.{CoreState, IsFullFor, mark_at}
use Rattle.session_laws.specs.Events.{MakesOne, vid_made_by}
use Rattle.session_laws.specs.Standing.{IsSessionOf}
use Rattle.session_laws.proofs.Answering.{answers_step, ends_then, may_take}
use Rattle.session_laws.proofs.Faulting.{Ended, Marked, faults_step, said_failed}
use Rattle.session_laws.proofs.Preparing.{due_call, has_begun, prepared_stands, ready as ready_of}
use Rattle.orch_core.specs.Outcomes.{Answered, AnswersCall, FaultsCall, Heeds, KeepsChip, KeepsFlights, StaysInSession, with_fault}
use Rattle.orch_core.specs.declared.answer.Step.{Step}
use Rattle.orch_core.specs.declared.answer.Step.TheVariants as step
use Rattle.orch_core.proofs.Chips.{keeps_called, last_effect, one_more_effect}

-- ---- a call that was made

-- the others' operations stay when a worker's call took effect
pub kept_flights : (w : ℕ) (x : Flown) (made : Option Vid) (b b' : BoardState) → flown_at b w ≡ Some x → IsTakenFor b w made b' → KeepsFlights w b b'
kept_flights w x made b b' there taken v apart = let y = taken x there in ap (option_map (λ (f : FlightState). f.flown)) (y.3.others.flights v apart)

-- where syncd's answer is no failure, the chip's is none
went_on : (old new : ViewObjects) (c : Call Vid) (a : SyncAnswer) (said : ChipAnswer) → AnswerFollows old c said a new → (a ≡ sync.Failed → ⊥) → said ≡ answer.Failed → ⊥
went_on old new c a said follows went failed = went (subst (λ z. AnswerFollows old c z a new) failed follows).1

module _ (s : LoggedService) (w : ℕ) (c : CoreState) (chip : ChipState) (is : IsSessionOf c chip s) (at : c.warm ≡ warm.Reconciled) (x : Flown) (there : flown_at c.board w ≡ Some x) (begun : HasBegun c.board.plan c.board.names x) (call : Call Vid) (told : IsNextCall c.board.plan c.board.names x.operation x.group call) (room : IsFullFor c (length chip.effects) 2 → ⊥) (y : SyncState) (chip' : ChipState) where
  -- without its log
  abbrev beside : CoreState
  beside = record c { log = no_history; sync = y }

  abbrev fault : Mark
  fault = mark_at c (length chip'.effects) (event.Faulted chip.faults chip'.faults)

  -- syncd made the call on the chip
  abbrev d : Call Rid
  d = call_renamed (tie_of c.sync.view) call

  is_made : (a : SyncAnswer) → Calls c.sync c.sync.temporary chip call a y chip' → (view : ViewObjects) × IsMadeOnChip c.sync.view chip call a view chip'
  is_made a calls = let z = subst (λ o. Calls c.sync o chip call a y chip') (is.working at).no_view calls in (z.0, z.2)

  keeps : (a : SyncAnswer) → (a ≡ sync.Failed → ⊥) → Calls c.sync c.sync.temporary chip call a y chip' → (b : BoardState) → KeepsChip c chip (record c { sync = y; board = b }) chip'
  keeps a went calls b = let z = is_made a calls in keeps_called c (record c { sync = y; board = b }) chip chip' d z.1.answer refl refl refl room (went_on c.sync.view z.0 call a z.1.answer z.1.follows went) z.1.answered

  effect : (a : SyncAnswer) → (a ≡ sync.Failed → ⊥) → Calls c.sync c.sync.temporary chip call a y chip' → (b : BoardState) → IsTakenFor c.board w (vid_made_by a) b → AnswersCall s w c chip (record c { sync = y; board = b }) chip'
  effect a went calls b taken =
      let z = answers_step c chip s is at w x there begun call told a went y chip' calls b taken in
      record {
        makes = z.0;
        call = z.1;
        answer = z.2;
        worker = z.3;
        moves = z.4;
        beside = record { tables = refl; waiting = refl; log = refl; listed = refl; limit = refl; warm = refl };
        others = kept_flights w x (vid_made_by a) c.board b there taken;
        room = room;
        called = (is_made a calls).1.answered.calls;
        keeps = keeps a went calls b;
      }

  failed : (ends : Bool) → Calls c.sync c.sync.temporary chip call sync.Failed y chip' → MakesOne c s (record c { sync = y; log = with_fault ends c.log fault; warm = warm.Suspect }) chip'
  failed true calls = faults_step c chip s w x call y chip' (with_fault true c.log fault) is at there begun told calls Ended
  failed false calls = faults_step c chip s w x call y chip' (with_fault false c.log fault) is at there begun told calls Marked

  faulted : (ends : Bool) → Calls c.sync c.sync.temporary chip call sync.Failed y chip' → FaultsCall ends s w c chip (record c { sync = y; log = with_fault ends c.log fault; warm = warm.Suspect }) chip'
  faulted ends calls =
      let z = is_made sync.Failed calls in
      let said = said_failed c.sync.view z.0 call z.1.answer z.1.follows in
      let one = one_more_effect chip chip' d z.1.answer said z.1.answered in
      let due = due_call c chip s is at w x there begun call told in
      let behind = one.1 in
      record {
        makes = failed ends calls;
        call = d;
        due = due.0;
        worker = due.1;
        effects = last_effect chip chip' d z.1.answer said z.1.answered;
        called = z.1.answered.calls;
        tables = refl;
        fails = z.1.answered.fails;
        marks = record {
          one = one.2;
          log = refl;
          warm = refl;
          places = omega (arith, behind, room);
          few = one.0;
        };
      }

  as_did : (ends : Bool) (a : SyncAnswer) → (a ≡ sync.Failed → ⊥) → Calls c.sync c.sync.temporary chip call a y chip' → (r : Step) (c' : CoreState) → r ≡ step.Did → (b : BoardState) → IsTakenFor c.board w (vid_made_by a) b → c' ≡ record c { sync = y; board = b } → Answered ends s w c chip (Ok r) c' chip'
  as_did ends a went calls r c' did b taken same =
      subst (λ q. Answered ends s w c chip (Ok q) c' chip') (sym did)
      (subst (λ d. AnswersCall s w c chip d chip') (sym same) (effect a went calls b taken))

  pub heeded : (ends : Bool) (a : SyncAnswer) (r : Step) (c' : CoreState) → Calls c.sync c.sync.temporary chip call a y chip' → Heeds w a c.log fault ends beside r c' → Answered ends s w c chip (Ok r) c' chip'
  heeded ends sync.Failed r c' calls h =
      subst (λ q. Answered ends s w c chip (Ok q) c' chip') (sym h.0)
      (subst (λ z. FaultsCall ends s w c chip z chip') (sym h.1) (faulted ends calls))
  heeded ends (sync.Made v) r c' calls h = as_did ends (sync.Made v) (λ e. cc) calls r c' h.0 h.1 h.2 h.3
  heeded ends sync.Done r c' calls h = as_did ends sync.Done (λ e. cc) calls r c' h.0 h.1 h.2 h.3

  -- a core without its log, and what syncd made of the call
  pub may_heed : (d : CoreState) → d ≡ beside → (a : SyncAnswer) → Calls c.sync c.sync.temporary chip call a y chip' → (a ≡ sync.Failed → ⊥) → (z : Flown) × (flown_at d.board w ≡ Some z) × MayTakeFor z.operation z.group (vid_made_by a) d.board.names
  may_heed d is_without a calls went = subst (λ (k : CoreState). (z : Flown) × (flown_at k.board w ≡ Some z) × MayTakeFor z.operation z.group (vid_made_by a) k.board.names) (sym is_without) (x, there, may_take c chip s is at w x there begun call told a went y chip' calls)

  pub ends_heed : (d : CoreState) → d ≡ beside → (a : SyncAnswer) → Calls c.sync c.sync.temporary chip call a y chip' → (a ≡ sync.Failed → ⊥) → MayEndThen d.board w (vid_made_by a)
  ends_heed d is_without a calls went = subst (λ (k : CoreState). MayEndThen k.board w (vid_made_by a)) (sym is_without) (ends_then c chip s is at w x there begun call told a went y chip' calls)

  fault_is : (h : History) → h ≡ c.log → (n before after : ℕ) → n ≡ length chip'.effects → before ≡ chip.faults → after ≡ chip'.faults → (f : Mark) → f ≡ record { taken = length h.taken; effects = n; event = event.Faulted before after } → f ≡ fault
  fault_is h same n before after many first last f is_mark =
      let made : ℕ → ℕ → ℕ → ℕ → Mark = λ t n i j. record { taken = t; effects = n; event = event.Faulted i j } in
      is_mark ∙ ap (λ (l : History). made (length l.taken) n before after) same ∙ ap (λ k. made (length c.log.taken) k before after) many
      ∙ ap (λ k. made (length c.log.taken) (length chip'.effects) k after) first ∙ ap (λ k. made (length c.log.taken) (length chip'.effects) chip.faults k) last

  pub made : (ends : Bool) (d : CoreState) → d ≡ beside → (h : History) → h ≡ c.log → (a : SyncAnswer) → Calls c.sync c.sync.temporary chip call a y chip' → (n before after : ℕ) → n ≡ length chip'.effects → before ≡ chip.faults → after ≡ chip'.faults → (f : Mark) → f ≡ record { taken = length h.taken; effects = n; event = event.Faulted before after } → (r : Step) (c' : CoreState) → Heeds w a h f ends d r c' → Answered ends s w c chip (Ok r) c' chip'
  made ends d is_without h same a calls n before after many first last f is_mark r c' heeds =
      heeded ends a r c' calls
      (subst (λ l. Heeds w a l fault ends beside r c') same
      (subst (λ g. Heeds w a h g ends beside r c') (fault_is h same n before after many first last f is_mark)
      (subst (λ z. Heeds w a h f ends z r c') is_without heeds)))

-- without its log the call can be made still
pub can_kept : (c d : CoreState) (chip : ChipState) (call : Call Vid) → d ≡ record c { log = no_history } → CanCall c.sync c.sync.temporary chip call → CanCall d.sync d.sync.temporary chip call
can_kept c d chip call is_without can = subst (λ (z : CoreState). CanCall z.sync z.sync.temporary chip call) (sym is_without) can

pub calls_kept : (c d : CoreState) (chip chip' : ChipState) (call : Call Vid) (a : SyncAnswer) (y : SyncState) → d ≡ record c { log = no_history } → Calls d.sync d.sync.temporary chip call a y chip' → Calls c.sync c.sync.temporary chip call a y chip'
calls_kept c d chip chip' call a y is_without calls = subst (λ (z : CoreState). Calls z.sync z.sync.temporary chip call a y chip') is_without calls

pub with_sync : (c d e : CoreState) (y : SyncState) → d ≡ record c { log = no_history } → e ≡ record d { sync = y } → e ≡ record c { log = no_history; sync = y }
with_sync c d e y first next = next ∙ ap (λ (z : CoreState). record z { sync = y }) first

-- ---- small facts

pub there_is : (o : Option Flown) → IsSome o → (x : Flown) × (o ≡ Some x)
there_is (Some x) h = (x, refl)
there_is None h = absurd (false≢true h)

pub none_then : {P : Type 0} (o : Option ℕ) → is_some o ≡ false → IfNone o P → P
none_then None h p = p
none_then (Some n) h p = absurd (false≢true (sym h))

pub some_then : {P : ℕ → Type 0} (o : Option ℕ) → is_some o ≡ true → IfSome o P → (n : ℕ) × P n
some_then (Some n) h p = (n, p)
some_then None h p = absurd (false≢true h)

pub never : {P : Type 0} (b : Bool) → b ≡ false → (P → b ≡ true) → P → ⊥
never b off on p = false≢true (sym off ∙ on p)

pub answered_err : (ends : Bool) (s : LoggedService) (w : ℕ) (c : CoreState) (chip chip' : ChipState) (r : Result Step OutOfMemory) (c' : CoreState) → IsErr r → (IsFullFor c (length chip.effects) 2 → ⊥) → IsAskedOnce chip chip' → StaysInSession s c c' chip' → Answered ends s w c chip r c' chip'
answered_err ends s w c chip chip' (Err e) c' h room asked x = (asked, x, room)
answered_err ends s w c chip chip' (Ok r) c' h room asked x = absurd (false≢true h)

-- the same core
pub stays_itself : (s : LoggedService) (c d : CoreState) (chip : ChipState) → d ≡ c → IsSessionOf c chip s → StaysInSession s c d chip
stays_itself s c d chip same is = subst (λ z. StaysInSession s c z chip) (sym same) (record { stands = is; plan = refl; capacities = refl; limit = refl; warm = refl; log = refl })

-- ---- a worker's group began before it

module _ (s : LoggedService) (w : ℕ) (c : CoreState) (b : BoardState) (chip : ChipState) (ready : IsPrepared c.board w b) where
  abbrev with : CoreState
  with = record c { board = b }

  makes_from : (c' : CoreState) (chip' : ChipState) → MakesOne with s c' chip' → MakesOne c s c' chip'
  makes_from c' chip' x = record { later = x.later; makes = subst (λ p. IsLoggedStep p 4 c.sync.capacities s x.later) ready.plan x.makes; stands = x.stands; plan = x.plan ∙ ready.plan; capacities = x.capacities; limit = x.limit }

  call_from : (c' : CoreState) (chip' : ChipState) → AnswersCall s w with chip c' chip' → AnswersCall s w c chip c' chip'
  unfolding makes_from
  call_from c' chip' x =
      let z : (z : IsAnswer c.board.plan 4 x.call s.service.core x.makes.later.service.core) × (z.next.worker ≡ w) = subst (λ p. (z : IsAnswer p 4 x.call s.service.core x.makes.later.service.core) × (z.next.worker ≡ w)) ready.plan (x.answer, x.worker) in
      record {
        makes = makes_from c' chip' x.makes;
        call = x.call;
        answer = z.0;
        worker = z.1;
        moves = x.moves;
        beside = record { tables = x.beside.tables; waiting = x.beside.waiting; log = x.beside.log; listed = x.beside.listed; limit = x.beside.limit; warm = x.beside.warm };
        others = λ v apart. x.others v apart ∙ ap (option_map (λ (f : FlightState). f.flown)) (ready.others v apart);
        room = x.room;
        called = x.called;
        keeps = record { fails = x.keeps.fails; faults = x.keeps.faults; limit = x.keeps.limit };
      }

  fault_from : (ends : Bool) (c' : CoreState) (chip' : ChipState) → FaultsCall ends s w with chip c' chip' → FaultsCall ends s w c chip c' chip'
  fault_from ends c' chip' x = record {
    makes = makes_from c' chip' x.makes;
    call = x.call;
    due = x.due;
    worker = x.worker;
    effects = x.effects;
    called = x.called;
    tables = x.tables;
    fails = x.fails;
    marks = record { one = x.marks.one; log = x.marks.log; warm = x.marks.warm; places = x.marks.places; few = x.marks.few };
  }

  stays_from : (c' : CoreState) (chip' : ChipState) → StaysInSession s with c' chip' → StaysInSession s c c' chip'
  stays_from c' chip' x = record { stands = x.stands; plan = x.plan ∙ ready.plan; capacities = x.capacities; limit = x.limit; warm = x.warm; log = x.log }

  pub answered_from : (ends : Bool) → (IsFullFor c (length chip.effects) 2 → ⊥) → (r : Result Step OutOfMemory) (c' : CoreState) (chip' : ChipState) → Answered ends s w with chip r c' chip' → Answered ends s w c chip r c' chip'
  answered_from ends room (Ok step.Did) c' chip' x = call_from c' chip' x
  answered_from ends room (Ok step.Faulted) c' chip' x = fault_from ends c' chip' x
  answered_from ends room (Ok step.LogFull) c' chip' x = absurd (room x.2)
  answered_from ends room (Ok step.Idle) c' chip' x = absurd x
  answered_from ends room (Ok step.Suspect) c' chip' x = absurd x
  answered_from ends room (Err e) c' chip' x = (x.0, stays_from c' chip' x.1, room)

  -- what the next call is about, once it is prepared
  module _ (is : IsSessionOf c chip s) (x : Flown) (there : flown_at c.board w ≡ Some x) (d : CoreState) (is_with : d ≡ with) where
    abbrev begun_now : Flown
    begun_now = with_group_begun c.board.plan c.board.names x

    there_now : flown_at b w ≡ Some begun_now
    there_now = ready.own ∙ ap (option_map (with_group_begun c.board.plan c.board.names)) there

    pub stands_now : IsSessionOf d chip s
    stands_now = subst (λ z. IsSessionOf z chip s) (sym is_with) (prepared_stands c chip s is w b ready x there)

    pub ready_now : c.warm ≡ warm.Reconciled → (z : Flown) × (flown_at d.board w ≡ Some z) × IsCallReady d.board.plan d.board.names z
    ready_now at = subst (λ (k : CoreState). (z : Flown) × (flown_at k.board w ≡ Some z) × IsCallReady k.board.plan k.board.names z) (sym is_with)
        (begun_now, there_now, ready_of with chip s (prepared_stands c chip s is w b ready x there) at w begun_now there_now (has_begun c chip s is w b ready x there begun_now there_now))

    pub next_now : (call : Call Vid) → ((z : Flown) → flown_at d.board w ≡ Some z → IsNextCall d.board.plan d.board.names z.operation z.group call) → (z : Flown) × (flown_at d.board w ≡ Some z) × HasBegun d.board.plan d.board.names z × IsNextCall d.board.plan d.board.names z.operation z.group call
    next_now call told = subst (λ (k : CoreState). ((z : Flown) → flown_at k.board w ≡ Some z → IsNextCall k.board.plan k.board.names z.operation z.group call) → (z : Flown) × (flown_at k.board w ≡ Some z) × HasBegun k.board.plan k.board.names z × IsNextCall k.board.plan k.board.names z.operation z.group call) (sym is_with)
        (λ told. (begun_now, there_now, has_begun c chip s is w b ready x there begun_now there_now, told begun_now there_now)) told

    pub room_now : (IsFullFor c (length chip.effects) 2 → ⊥) → IsFullFor d (length chip.effects) 2 → ⊥
    room_now room = subst (λ z. IsFullFor z (length chip.effects) 2 → ⊥) (sym is_with) room

    pub whole : (ends : Bool) → (IsFullFor c (length chip.effects) 2 → ⊥) → (r : Result Step OutOfMemory) (c' : CoreState) (chip' : ChipState) → Answered ends s w d chip r c' chip' → Answered ends s w c chip r c' chip'
    whole ends room r c' chip' h = answered_from ends room r c' chip' (subst (λ z. Answered ends s w z chip r c' chip') is_with h)

    pub stays_now : StaysInSession s c d chip
    stays_now = record { stands = stands_now; plan = ap (λ (z : CoreState). z.board.plan) is_with ∙ ready.plan; capacities = ap (λ (z : CoreState). z.sync.capacities) is_with; limit = ap (λ (z : CoreState). z.limit) is_with; warm = ap (λ (z : CoreState). z.warm) is_with; log = ap (λ (z : CoreState). z.log) is_with }
