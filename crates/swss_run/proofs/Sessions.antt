-- what a session comes to, round by round
use Rattle.std.proofs.Common.{◌≡◌, inl, inr, ℕ, ◌+◌, ◌<◌, ◌≤◌, List, [], ◌∷◌, ◌++◌, length, take, drop, slice_get, Option, Some, None, refl, sym, ap, ◌∙◌, subst, arith, false}
use Rattle.std.proofs.Math.Seq.{drop-append_seam, take-add, take-append_seam, take-length}
use Rattle.std.proofs.lemmas.Bool.{false≢true}
use Rattle.std.proofs.lemmas.List.{append-nil, length-append}
use Rattle.swss_types.specs.Outside.{Takes}
use Rattle.table_schema.specs.Plan.{IsPlan, Ports}
use Rattle.table_schema.specs.declared.write.Sent.{Sent}
use Rattle.sai_types.specs.ChipState.{ChipState, new_chip}
use Rattle.sai_types.specs.declared.ids.Rid.{Rid}
use Rattle.sai_types.specs.declared.body.Call.{Call}
use Rattle.sai_chip.specs.Replay.{IsReplayOf, Replayed, new_replay}
use Rattle.sai_chip.proofs.Replays.{IsReplayOf-new}
use Rattle.switch_model.specs.History.{History, log_size, no_history}
use Rattle.switch_model.specs.Promises.{EffectsAreLegal, MarksAreTrue}
use Rattle.switch_model.specs.Sound.{is_suspect}
use Rattle.switch_model.specs.declared.mark.Mark.{Mark}
use Rattle.restart_laws.specs.Applied.{AreFollowed}
use Rattle.restart_laws.specs.Logged.{last_mark}
use Rattle.session_laws.specs.Core.{CoreState, new_core}
use Rattle.round_laws.specs.Awaited.{HasRecorded}
use Rattle.round_laws.specs.Between.{IsReadyForRound, mark_of}
use Rattle.round_laws.specs.Named.{keys_named}
use Rattle.round_laws.specs.Sessions.{InSession}
use Rattle.round_laws.proofs.Awaited.{session-recorded}
use Rattle.round_laws.proofs.Bounded.{all-few}
use Rattle.round_laws.proofs.Ready.{ready-first}
use Rattle.round_laws.proofs.Sessions.{applies-followed, counts-within, effects-legal, log-ordered, marks-true, objects-left, outside-few-of, sized}
use Rattle.swss_script.specs.Sent.{sent_in_round}
use Rattle.swss_script.specs.declared.parts.Round.{Round}
use Rattle.swss_report.specs.Round.{IsRoundText}
use Rattle.swss_service.specs.Faults.{FaultsRise}
use Rattle.swss_run.specs.Faults.{places_beside}
use Rattle.swss_run.specs.Full.{IsFull}
use Rattle.swss_run.specs.Output.{TakesFront, TakesPart}
use Rattle.swss_run.specs.Restarts.{AreRestarted, HasFewRestarts, HasRestarts}
use Rattle.swss_run.specs.Rounds.{AreEndsRising, AreFenced, AreTaken, EndsAtMark, IsCutInRounds, IsReport, Ran, all_calls, all_marks, all_sent, ends_from, nothing_ran, round_end}
use Rattle.swss_run.specs.Running.{EndsRound, HasLines, IsRunReady, IsRoundRun, KeepsPlan, StopsInTurns, StopsRound}
use Rattle.swss_run.specs.Report.{TookFront, TookPart, TookReport}
use Rattle.swss_run.specs.Session.{HasEnded, IsReported, IsRunRecorded, IsSession, log_limit}
use Rattle.swss_run.specs.Turned.{AreDrained, AreTurned, DrainsBehind, IsRoundTurned, IsSinceTurned}
use Rattle.swss_run.specs.declared.status.Status.{Status}
use Rattle.swss_run.specs.declared.status.Status.TheVariants as status
use Rattle.swss_run.proofs.Pieces.{Takes-trans}
use Rattle.restart_laws.proofs.BrokenOff.{steady-breaks}
use Rattle.swss_run.proofs.OnWay.{same-trans}
use Rattle.swss_run.proofs.Over.{empty-last, IsEndedAs}
use Rattle.swss_run.proofs.Rounds.{at_marks-more, calls-more, drained-more, ends-more, ends-rise, marks-more, report-more, restarted-more, restarted-none, restarted-since, sent-more, suspect-rounds, suspect_then, taken-more, taken-since, turned-more}

-- ---- what the sink took

-- a whole piece is a front of itself
pub whole-front : (a b : Option (List ℕ)) (text : List ℕ) → Takes a text b → TakesFront a text b
whole-front a b text took = (length text, omega arith, subst (λ t. Takes a t b) (sym (take-length text)) took)

none-front : (a b : Option (List ℕ)) → b ≡ a → (text : List ℕ) → Takes a text a → TakesFront a text b
none-front a b same text took = whole-front a b text (subst (λ x. Takes a text x) (sym same) took)

take-seam : (n : ℕ) (xs lines : List ℕ) → take (length xs + n) (xs ++ lines) ≡ xs ++ take n lines
take-seam n xs lines =
    take-add (length xs) n (xs ++ lines)
    ∙ ap (λ l. l ++ take n (drop (length xs) (xs ++ lines))) (take-append_seam xs lines)
    ∙ ap (λ l. xs ++ take n l) (drop-append_seam xs lines)

-- a text and a front of the next are a front of both, and not all where that is not all
pub front-more : (a b c : Option (List ℕ)) (text lines : List ℕ) → Takes a text b → TakesFront b lines c → TakesFront a (text ++ lines) c
front-more a b c text lines took (n, few, next) = (
  length text + n,
  omega (arith, few, length-append text lines),
  subst (λ t. Takes a t c) (sym (take-seam n text lines)) (Takes-trans a b c text (take n lines) took next),
)

pub part-more : (a b c : Option (List ℕ)) (text lines : List ℕ) → Takes a text b → TakesPart b lines c → TakesPart a (text ++ lines) c
part-more a b c text lines took (n, few, next) = (
  length text + n,
  omega (arith, few, length-append text lines),
  subst (λ t. Takes a t c) (sym (take-seam n text lines)) (Takes-trans a b c text (take n lines) took next),
)

-- ---- one round more

module _ (round : Round) (old : CoreState) (sim : ChipState) (ran : Ran) (new : CoreState) (sim' : ChipState) (ends : EndsRound round old sim ran new sim') (rans : List Ran) (cut : IsCutInRounds old.log sim.effects rans nothing_ran) where
  taken_were : old.log.taken ≡ all_sent rans
  taken_were = cut.taken ∙ append-nil (all_sent rans)

  effects_were : sim.effects ≡ all_calls rans
  effects_were = cut.effects ∙ append-nil (all_calls rans)

  at_mark : EndsAtMark (0 + length (all_sent rans)) (0 + length (all_calls rans)) ran
  at_mark = record {
    before = ends.before;
    mark = ends.mark;
    marks = ends.marks;
    way = ends.way;
    fenced = subst (λ n. AreFenced n (n + length ran.sent) (0 + length (all_calls rans)) ends.before) (omega (arith, ap length taken_were)) (subst (λ n. AreFenced (length old.log.taken) (length old.log.taken + length ran.sent) n ends.before) (omega (arith, ap length effects_were)) ends.fenced);
    settling = ends.settling;
    taken = omega (arith, ends.taken, length-append old.log.taken ran.sent, ap length taken_were);
    effects = omega (arith, ends.effects, length-append sim.effects ran.calls, ap length effects_were);
  }

  marks_were : old.log.marks ≡ all_marks rans
  marks_were = cut.marks ∙ append-nil (all_marks rans)

  count_were : length old.log.marks + length ran.marks ≡ 0 + length (all_marks rans) + length ran.marks
  count_were = let same = ap length marks_were in omega (arith, same)

  cut-more : IsCutInRounds new.log sim'.effects (rans ++ ran ∷ []) nothing_ran
  cut-more = record {
    marks = ap (λ (h : History). h.marks) ends.log ∙ ap (λ l. l ++ ran.marks) marks_were ∙ sym (marks-more rans ran) ∙ sym (append-nil (all_marks (rans ++ ran ∷ [])));
    ends = ap (λ (h : History). h.ends) ends.log ∙ ap (λ l. l ++ length (old.log.marks ++ ran.marks) ∷ []) cut.ends ∙ ap (λ n. ends_from 0 rans ++ n ∷ []) (length-append old.log.marks ran.marks ∙ count_were) ∙ sym (ends-more 0 rans ran);
    taken = ap (λ (h : History). h.taken) ends.log ∙ ap (λ l. l ++ ran.sent) taken_were ∙ sym (sent-more rans ran) ∙ sym (append-nil (all_sent (rans ++ ran ∷ [])));
    effects = ends.calls ∙ ap (λ l. l ++ ran.calls) effects_were ∙ sym (calls-more rans ran) ∙ sym (append-nil (all_calls (rans ++ ran ∷ [])));
    at_marks = at_marks-more 0 0 rans ran cut.at_marks at_mark;
    way = tt;
    fenced = tt;
  }

  report-longer : (number : ℕ) (plan : Ports) (capacities : List ℕ) (rounds : List Round) (text lines : List ℕ) → plan ≡ old.board.plan → capacities ≡ old.sync.capacities → slice_get rounds (length rans) ≡ Some round → number ≡ length rans + 1 → IsReport plan capacities rans rounds text → HasLines number round old sim ran lines → IsReport plan capacities (rans ++ ran ∷ []) rounds (text ++ lines)
  report-longer number plan capacities rounds text lines plan_is capacities_are at number_is told has =
      report-more plan capacities 0 [] [] rans rounds text ran round lines has.before old.log.taken sim.effects told at (omega (arith, number_is, has.number_is)) taken_were effects_were
      (subst (λ p. IsRoundText (round_end p capacities has.before old.log.taken sim.effects ran) (length sim.effects) round.shows lines) (sym plan_is)
      (subst (λ c. IsRoundText (round_end old.board.plan c has.before old.log.taken sim.effects ran) (length sim.effects) round.shows lines) (sym capacities_are) has.text))

-- ---- a session

-- what holds between two rounds
pub record IsRunning (rounds done : List Round) (first : CoreState) (held0 : Option (List ℕ)) (core : CoreState) (sim : ChipState) (replay : Replayed) (held : Option (List ℕ)) : Type 0 where
  pub ready : IsRunReady core sim replay
  pub same : KeepsPlan first core
  pub limit : first.limit ≡ log_limit
  pub rans : List Ran
  pub cut : IsCutInRounds core.log sim.effects rans nothing_ran
  pub many : length rans ≡ length done
  pub writes : AreTaken rans rounds []
  pub restarts : AreRestarted false rans rounds []
  pub turned : AreTurned first.board.plan first.sync.capacities None [] [] rans
  pub drained : AreDrained first.board.plan first.sync.capacities [] rans
  pub told : TookReport first.board.plan first.sync.capacities rans rounds held0 held
  pub ended : HasEnded nothing_ran core.log sim

-- behind the last round there is no call
turned_none : (plan : Ports) (capacities : List ℕ) (before : Option Mark) (taken : List Sent) (effects : List (Call Rid)) → IsSinceTurned plan capacities before taken effects nothing_ran
turned_none plan capacities before taken effects = record { so_far = λ none settled mark. inl refl; quiet = λ none settled mark k row e at other stood call called changes. called; behind = λ earlier ended is end. absurd (empty-last earlier ended is) }

none_taken : (rounds : List Round) → AreTaken [] rounds []
none_taken [] = refl
none_taken (r ∷ rounds) = (sent_in_round r, refl)

pub Takes-none : (held : Option (List ℕ)) → Takes held [] held
Takes-none None = refl
Takes-none (Some text) = ap Some (sym (append-nil text))

-- a new replay is that of any effects
pub replay-none : (effects : List (Call Rid)) (r : Replayed) → r ≡ new_replay → IsReplayOf r effects
replay-none effects r is = subst (λ x. IsReplayOf x effects) (sym is) (IsReplayOf-new effects)

pub running-none : (rounds : List Round) (first : CoreState) (sim : ChipState) (held : Option (List ℕ)) (replay : Replayed) → first ≡ new_core first.board.plan first.sync.capacities log_limit → sim ≡ new_chip first.sync.capacities sim.fails → IsPlan first.board.plan → IsReplayOf replay sim.effects → replay.at ≡ 0 → IsRunning rounds [] first held first sim replay held
running-none rounds first sim held replay new chip plan follows at = record {
  ready = record {
    ready = subst (λ c. IsReadyForRound 1 c sim) (sym new)
        (ready-first 1 first.board.plan first.sync.capacities log_limit sim plan (ap (λ (c : ChipState). c.objects) chip) (ap (λ (c : ChipState). c.effects) chip) (ap (λ (c : ChipState). c.clean) chip) (ap (λ (c : ChipState). c.capacities) chip));
    follows = follows;
    at_end = at ∙ sym (ap (λ (c : ChipState). length c.effects) chip);
    places = subst (λ (c : CoreState). log_size c.log (length sim.effects) ≤ c.limit) (sym new) (subst (λ n. n ≤ log_limit) (sym (ap (λ (c : ChipState). log_size no_history (length c.effects)) chip)) (omega arith));
    faults = subst (λ (c : CoreState). FaultsRise 0 c.log.marks sim.faults) (sym new) (ap (λ (c : ChipState). c.faults) chip);
  };
  same = record { plan = refl; capacities = refl; limit = refl };
  limit = ap (λ (s : CoreState). s.limit) new;
  rans = [];
  cut = record {
    marks = ap (λ (s : CoreState). s.log.marks) new;
    ends = ap (λ (s : CoreState). s.log.ends) new;
    taken = ap (λ (s : CoreState). s.log.taken) new;
    effects = ap (λ (c : ChipState). c.effects) chip;
    at_marks = tt;
    way = tt;
    fenced = tt;
  };
  many = refl;
  writes = none_taken rounds;
  restarts = restarted-none false rounds;
  turned = tt;
  drained = tt;
  told = record { text = []; report = refl; took = Takes-none held };
  ended = record {
    none = refl;
    fault_places = λ failed. absurd (false≢true (sym (ap (λ (s : CoreState). is_suspect s.log.marks) new) ∙ failed));
  };
}

-- no round ended yet
pub ended-none : (first : CoreState) (sim : ChipState) → first ≡ new_core first.board.plan first.sync.capacities log_limit → IsEndedAs status.Done first sim
ended-none first sim new = inl (refl, ap (λ (s : CoreState). is_suspect s.log.marks) new)

-- what is recorded of a core and a chip within a session of the service, by any number of workers
module _ {workers : ℕ} (first core : CoreState) (chip : ChipState) (within : InSession workers core chip) (same : KeepsPlan first core) (places : log_size core.log (length chip.effects) ≤ log_limit) (faults : FaultsRise 0 core.log.marks chip.faults) (rise : AreEndsRising 0 core.log.ends) where
  pub as_first : (P : Ports → List ℕ → Type 0) → P core.board.plan core.sync.capacities → P first.board.plan first.sync.capacities
  as_first P h = subst (λ p. P p first.sync.capacities) same.plan (subst (P core.board.plan) same.capacities h)

  pub followed : AreFollowed first.board.plan first.sync.capacities core.log.taken chip.effects core.log.marks
  followed = as_first (λ p c. AreFollowed p c core.log.taken chip.effects core.log.marks) (applies-followed core chip within)

  abbrev pub run-recorded : IsRunRecorded workers first.board.plan first.sync.capacities core.log chip
  run-recorded = record {
    run = within.session;
    recorded = as_first (λ p c. HasRecorded workers p c core.log chip.effects within.session) (session-recorded core chip within);
    room = within.stands.always.capacities ∙ same.capacities;
    clean = within.stands.always.clean;
    objects = objects-left core chip within;
    legality = as_first (λ p c. EffectsAreLegal p c core.log.taken chip.effects) (effects-legal core chip within);
    few = outside-few-of core chip within;
    all_few = all-few core chip within;
    marks = as_first (λ p c. MarksAreTrue p c core.log chip.effects) (marks-true core chip within);
    counts = counts-within core chip within;
    order = log-ordered core chip within;
    places = places;
    applies = followed;
    breaks = steady-breaks first.board.plan first.sync.capacities core.log.taken chip.effects core.log.marks followed;
    faults = faults;
    rise = rise;
  }

-- a session, from a core and a chip within one of the service
session-from : (rounds : List Round) (ended : Status) (first core : CoreState) (chip : ChipState) (held held' : Option (List ℕ)) (rans : List Ran) (since : Ran)
    → (within : InSession 1 core chip) → KeepsPlan first core → log_size core.log (length chip.effects) ≤ log_limit → FaultsRise 0 core.log.marks chip.faults → IsCutInRounds core.log chip.effects rans since → AreTaken rans rounds since.sent → AreRestarted false rans rounds since.marks → AreTurned first.board.plan first.sync.capacities None [] [] rans → IsSinceTurned first.board.plan first.sync.capacities (last_mark None (all_marks rans)) (all_sent rans) (all_calls rans) since → AreDrained first.board.plan first.sync.capacities [] rans
    → IsReported ended first.board.plan first.sync.capacities rounds rans since core.log chip within.session held held'
    → IsSession first.board.plan first.sync.capacities rounds ended core.log chip held held'
session-from rounds ended first core chip held held' rans since within same places faults cut writes restarts turned since_turned drained reported = record {
  recorded = run-recorded first core chip within same places faults (subst (AreEndsRising 0) (sym cut.ends) (ends-rise 0 0 0 rans cut.at_marks));
  rans = rans;
  since = since;
  cut = cut;
  writes = writes;
  restarts = restarts;
  turned = turned;
  since_turned = since_turned;
  drained = drained;
  reported = reported;
}

module _ (rounds done : List Round) (first : CoreState) (held0 : Option (List ℕ)) (core : CoreState) (sim : ChipState) (replay : Replayed) (held : Option (List ℕ)) (running : IsRunning rounds done first held0 core sim replay held) where
  -- every round ended
  pub session-done : (ended : Status) → length done ≡ length rounds → IsEndedAs ended core sim → IsSession first.board.plan first.sync.capacities rounds ended core.log sim held0 held
  session-done ended all how = session-from rounds ended first core sim held0 held running.rans nothing_ran running.ready.ready.within running.same (subst (λ n. log_size core.log (length sim.effects) ≤ n) (running.same.limit ∙ running.limit) running.ready.places) running.ready.faults running.cut running.writes running.restarts running.turned (turned_none first.board.plan first.sync.capacities (last_mark None (all_marks running.rans)) (all_sent running.rans) (all_calls running.rans)) running.drained (by how)
    where
      by : IsEndedAs ended core sim → IsReported ended first.board.plan first.sync.capacities rounds running.rans nothing_ran core.log sim running.ready.ready.within.session held0 held
      by (inl (is, known)) = subst (λ e. IsReported e first.board.plan first.sync.capacities rounds running.rans nothing_ran core.log sim running.ready.ready.within.session held0 held) (sym is) (running.ended, running.many ∙ all, known, running.told)
      by (inr (is, bad, rose)) = subst (λ e. IsReported e first.board.plan first.sync.capacities rounds running.rans nothing_ran core.log sim running.ready.ready.within.session held0 held) (sym is) (running.ended, running.many ∙ all, bad, rose, running.told)

  module _ (round : Round) (number : ℕ) (next : slice_get rounds (length done) ≡ Some round) (number_is : number ≡ length done + 1) (faults faults' : ℕ) (new : CoreState) (sim' : ChipState) (replay' : Replayed) (held' : Option (List ℕ)) where
    abbrev rans : List Ran
    rans = running.rans

    at_round : slice_get rounds (length rans) ≡ Some round
    at_round = ap (λ n. slice_get rounds n) running.many ∙ next

    number_at : number ≡ length rans + 1
    number_at = number_is ∙ ap (λ n. n + 1) (sym running.many)

    plan_is : first.board.plan ≡ core.board.plan
    plan_is = sym running.same.plan

    capacities_are : first.sync.capacities ≡ core.sync.capacities
    capacities_are = sym running.same.capacities

    suspect_core : is_suspect core.log.marks ≡ suspect_then false rans
    suspect_core = ap is_suspect (running.cut.marks ∙ append-nil (all_marks rans)) ∙ suspect-rounds [] rans 0 0 running.cut.at_marks

    module _ (ran : Ran) (ends : EndsRound round core sim ran new sim') where
      cut_now : IsCutInRounds new.log sim'.effects (rans ++ ran ∷ []) nothing_ran
      cut_now = cut-more round core sim ran new sim' ends rans running.cut

      taken_now : AreTaken (rans ++ ran ∷ []) rounds []
      taken_now = taken-more rans rounds ran round running.writes at_round ends.sent

      restarted_now : AreRestarted false (rans ++ ran ∷ []) rounds []
      restarted_now = restarted-more false rans rounds ran round running.restarts at_round (subst (λ b. HasRestarts b round ran.marks) suspect_core ends.restarts)

      turned_now : AreTurned first.board.plan first.sync.capacities None [] [] (rans ++ ran ∷ [])
      turned_now =
          turned-more first.board.plan first.sync.capacities None [] [] rans ran (mark_of core) core.log.taken sim.effects running.turned
          (ap (λ l. last_mark None l) (running.cut.marks ∙ append-nil (all_marks rans))) (running.cut.taken ∙ append-nil (all_sent rans)) (running.cut.effects ∙ append-nil (all_calls rans))
          (subst (λ p. IsRoundTurned p first.sync.capacities (mark_of core) core.log.taken sim.effects ran) (sym plan_is)
          (subst (λ c. IsRoundTurned core.board.plan c (mark_of core) core.log.taken sim.effects ran) (sym capacities_are) ends.turned))

      drained_now : AreDrained first.board.plan first.sync.capacities [] (rans ++ ran ∷ [])
      drained_now =
          drained-more first.board.plan first.sync.capacities [] rans ran core.log.taken running.drained (running.cut.taken ∙ append-nil (all_sent rans))
          (subst (λ p. DrainsBehind p first.sync.capacities core.log.taken ran) (sym plan_is) (subst (λ c. DrainsBehind core.board.plan c core.log.taken ran) (sym capacities_are) ends.drained))

      same_now : KeepsPlan first new
      same_now = same-trans first core new running.same ends.same

      limit_now : new.limit ≡ log_limit
      limit_now = same_now.limit ∙ running.limit

      report_now : (lines : List ℕ) → HasLines number round core sim ran lines → IsReport first.board.plan first.sync.capacities (rans ++ ran ∷ []) rounds (running.told.text ++ lines)
      report_now lines has = report-longer round core sim ran new sim' ends rans running.cut number first.board.plan first.sync.capacities rounds running.told.text lines plan_is capacities_are at_round number_at running.told.report has

      told_now : (lines : List ℕ) → HasLines number round core sim ran lines → Takes held lines held' → TookReport first.board.plan first.sync.capacities (rans ++ ran ∷ []) rounds held0 held'
      told_now lines has took = record { text = running.told.text ++ lines; report = report_now lines has; took = Takes-trans held0 held held' running.told.text lines running.told.took took }

      front_now : (lines : List ℕ) → HasLines number round core sim ran lines → TakesFront held lines held' → TookFront first.board.plan first.sync.capacities (rans ++ ran ∷ []) rounds held0 held'
      front_now lines has took = record { text = running.told.text ++ lines; report = report_now lines has; took = front-more held0 held held' running.told.text lines running.told.took took }

      part_now : (lines : List ℕ) → HasLines number round core sim ran lines → TakesPart held lines held' → TookPart first.board.plan first.sync.capacities (rans ++ ran ∷ []) rounds held0 held'
      part_now lines has took = record { text = running.told.text ++ lines; report = report_now lines has; took = part-more held0 held held' running.told.text lines running.told.took took }

      session_now : (ended : Status) → IsReported ended first.board.plan first.sync.capacities rounds (rans ++ ran ∷ []) nothing_ran new.log sim' ends.within.session held0 held' → IsSession first.board.plan first.sync.capacities rounds ended new.log sim' held0 held'
      session_now ended reported = session-from rounds ended first new sim' held0 held' (rans ++ ran ∷ []) nothing_ran ends.within same_now (subst (λ n. log_size new.log (length sim'.effects) ≤ n) limit_now ends.places) ends.faults cut_now taken_now restarted_now turned_now (turned_none first.board.plan first.sync.capacities (last_mark None (all_marks (rans ++ ran ∷ []))) (all_sent (rans ++ ran ∷ [])) (all_calls (rans ++ ran ∷ []))) drained_now reported

      has_ended : HasEnded nothing_ran new.log sim'
      has_ended = record {
        none = refl;
        fault_places = λ failed. subst (λ n. log_size new.log sim'.before_fault + places_beside new.log.marks ≤ n) limit_now (ends.fault_places failed);
      }

      running_now : (lines : List ℕ) → HasLines number round core sim ran lines → Takes held lines held' → IsRunReady new sim' replay' → IsRunning rounds (done ++ round ∷ []) first held0 new sim' replay' held'
      running_now lines has took ready = record {
        ready = ready;
        same = same_now;
        limit = running.limit;
        rans = rans ++ ran ∷ [];
        cut = cut_now;
        many = length-append rans (ran ∷ []) ∙ ap (λ n. n + 1) running.many ∙ sym (length-append done (round ∷ []));
        writes = taken_now;
        restarts = restarted_now;
        turned = turned_now;
        drained = drained_now;
        told = told_now lines has took;
        ended = has_ended;
      }

    -- it ended, and all its lines were written: at the mark of its settling, or at a fault
    pub running-more : IsRoundRun number round core sim held faults status.Done new sim' replay' held' faults' → IsRunning rounds (done ++ round ∷ []) first held0 new sim' replay' held' × IsEndedAs status.Done new sim'
    running-more (ran, lines, ends, has, took, known, ready) = (running_now ran ends lines has took ready, inl (refl, known))

    pub running-failed : IsRoundRun number round core sim held faults status.ChipFault new sim' replay' held' faults' → IsRunning rounds (done ++ round ∷ []) first held0 new sim' replay' held' × IsEndedAs status.ChipFault new sim'
    running-failed (ran, lines, ends, has, took, bad, rose, ready) = (running_now ran ends lines has took ready, inr (refl, bad, rose))

    -- a front of what was told before
    front_before : held' ≡ held → TookFront first.board.plan first.sync.capacities rans rounds held0 held'
    front_before same = record { text = running.told.text; report = running.told.report; took = whole-front held0 held' running.told.text (subst (λ h. Takes held0 running.told.text h) (sym same) running.told.took) }

    module _ (stopped : StopsInTurns round core sim new sim') where
      abbrev stops : StopsRound round core sim new sim'
      stops = stopped.0

      cut_stopped : IsCutInRounds new.log sim'.effects rans stops.since
      cut_stopped = record {
        marks = ap (λ (h : History). h.marks) stops.come.log ∙ ap (λ l. l ++ stops.since.marks) (running.cut.marks ∙ append-nil (all_marks rans));
        ends = ap (λ (h : History). h.ends) stops.come.log ∙ running.cut.ends;
        taken = ap (λ (h : History). h.taken) stops.come.log ∙ ap (λ l. l ++ stops.since.sent) (running.cut.taken ∙ append-nil (all_sent rans));
        effects = stops.come.calls ∙ ap (λ l. l ++ stops.since.calls) (running.cut.effects ∙ append-nil (all_calls rans));
        at_marks = running.cut.at_marks;
        way = stops.come.way;
        fenced =
            subst (λ n. AreFenced n (n + length stops.since.sent) (length (all_calls rans)) stops.since.marks) (ap length (running.cut.taken ∙ append-nil (all_sent rans)))
            (subst (λ n. AreFenced (length core.log.taken) (length core.log.taken + length stops.since.sent) n stops.since.marks) (ap length (running.cut.effects ∙ append-nil (all_calls rans))) stops.come.fenced);
      }

      taken_stopped : AreTaken rans rounds stops.since.sent
      taken_stopped = taken-since rans rounds round stops.since.sent stops.rest running.writes at_round stops.front

      restarted_stopped : AreRestarted false rans rounds stops.since.marks
      restarted_stopped = restarted-since false rans rounds round stops.since.marks running.restarts at_round (subst (λ b. HasFewRestarts b round stops.since.marks) suspect_core stops.restarts)

      same_stopped : KeepsPlan first new
      same_stopped = same-trans first core new running.same stops.come.same

      places_stopped : log_size new.log (length sim'.effects) ≤ log_limit
      places_stopped =
          let size = sized new sim' stops.come.within in
          let limit = same_stopped.limit ∙ running.limit in
          let within = stops.come.limit in
          omega (arith, size, limit, within)

      turned_stopped : IsSinceTurned first.board.plan first.sync.capacities (last_mark None (all_marks rans)) (all_sent rans) (all_calls rans) stops.since
      turned_stopped =
          subst (λ p. IsSinceTurned p first.sync.capacities (last_mark None (all_marks rans)) (all_sent rans) (all_calls rans) stops.since) (sym plan_is)
          (subst (λ c. IsSinceTurned core.board.plan c (last_mark None (all_marks rans)) (all_sent rans) (all_calls rans) stops.since) (sym capacities_are)
          (subst (λ l. IsSinceTurned core.board.plan core.sync.capacities (last_mark None l) (all_sent rans) (all_calls rans) stops.since) (running.cut.marks ∙ append-nil (all_marks rans))
          (subst (λ l. IsSinceTurned core.board.plan core.sync.capacities (mark_of core) l (all_calls rans) stops.since) (running.cut.taken ∙ append-nil (all_sent rans))
          (subst (λ l. IsSinceTurned core.board.plan core.sync.capacities (mark_of core) core.log.taken l stops.since) (running.cut.effects ∙ append-nil (all_calls rans)) stopped.1))))

      session_stopped : (ended : Status) → IsReported ended first.board.plan first.sync.capacities rounds rans stops.since new.log sim' stops.come.within.session held0 held' → IsSession first.board.plan first.sync.capacities rounds ended new.log sim' held0 held'
      session_stopped ended reported = session-from rounds ended first new sim' held0 held' rans stops.since stops.come.within same_stopped places_stopped stops.come.faults cut_stopped taken_stopped restarted_stopped running.turned turned_stopped running.drained reported

    pub session-ended : (ended : Status) → ¬ (ended ≡ status.Done) → ¬ (ended ≡ status.ChipFault) → IsRoundRun number round core sim held faults ended new sim' replay' held' faults' → IsSession first.board.plan first.sync.capacities rounds ended new.log sim' held0 held'
    session-ended status.Done other fault run = absurd (other refl)
    session-ended status.ChipFault other fault run = absurd (fault refl)
    session-ended status.WriteFault other fault (ran, lines, ends, has, took, rose) =
        session_now ran ends status.WriteFault (has_ended ran ends, part_now ran ends lines has took)
    session-ended status.LogFull other fault (stops, full, many, same) =
        session_stopped stops status.LogFull (
          record {
            round = round;
            next = at_round;
            full = full_here stops full;
            many = subst (λ n. n < log_size new.log (length sim'.effects) + 2 + length (keys_named new.log.taken)) ((same_stopped stops).limit ∙ running.limit) many;
          },
          record { text = running.told.text; report = running.told.report; took = subst (λ h. Takes held0 running.told.text h) (sym same) running.told.took },
        )
      where
        full_here : (stops : StopsInTurns round core sim new sim') → IsFull new.board.plan new.sync.capacities new.limit round new.log sim' stops.0.since stops.0.come.within.session → IsFull first.board.plan first.sync.capacities log_limit round new.log sim' stops.0.since stops.0.come.within.session
        full_here stops full =
            subst (λ n. IsFull first.board.plan first.sync.capacities n round new.log sim' stops.0.since stops.0.come.within.session) ((same_stopped stops).limit ∙ running.limit)
            (subst (λ p. IsFull p first.sync.capacities new.limit round new.log sim' stops.0.since stops.0.come.within.session) (same_stopped stops).plan
            (subst (λ c. IsFull new.board.plan c new.limit round new.log sim' stops.0.since stops.0.come.within.session) (same_stopped stops).capacities full))
    session-ended status.OutOfMemory other fault (inl (stops, same)) =
        session_stopped stops status.OutOfMemory (rans, [], sym (append-nil rans), front_before same)
    session-ended status.OutOfMemory other fault (inr (ran, ends, inl same)) =
        session_now ran ends status.OutOfMemory (rans, ran ∷ [], refl, front_before same)
    session-ended status.OutOfMemory other fault (inr (ran, ends, inr (lines, has, took))) =
        session_now ran ends status.OutOfMemory (rans ++ ran ∷ [], [], sym (append-nil (rans ++ ran ∷ [])), front_now ran ends lines has took)
    session-ended status.Usage other fault run = absurd run
    session-ended (status.ScriptRefused refusal) other fault run = absurd run
    session-ended status.ReadFault other fault run = absurd run
