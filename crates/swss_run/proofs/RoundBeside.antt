-- what a round by several workers comes to
use Rattle.std.proofs.Common.{◌≡◌, ◌⊎◌, inl, inr, ℕ, zero, suc, ◌+◌, ◌-◌, ◌<◌, ◌≤◌, List, [], ◌∷◌, ◌++◌, length, drop, Option, None, Result, Ok, Err, refl, sym, ap, ◌∙◌, subst, arith}
use Rattle.std.proofs.Math.Seq.{drop-append_seam}
use Rattle.std.proofs.lemmas.List.{append-nil, append_assoc, length-append}
use Rattle.swss_types.specs.declared.out_of_memory.OutOfMemory.{OutOfMemory}
use Rattle.table_schema.specs.Rows.{rows_of}
use Rattle.table_schema.specs.SentBy.{sent_of}
use Rattle.sai_types.specs.After.{chip_after}
use Rattle.sai_types.specs.ChipState.{ChipState}
use Rattle.sai_types.specs.declared.ids.Rid.{Rid}
use Rattle.sai_types.specs.declared.body.Call.{Call}
use Rattle.sai_chip.specs.Replay.{IsReplayOf, Replayed}
use Rattle.sai_chip.proofs.Replays.{IsReplayOf-append}
use Rattle.switch_model.specs.History.{History, log_size}
use Rattle.switch_model.specs.Marks.{sent_writes}
use Rattle.switch_model.specs.Sound.{is_suspect}
use Rattle.machine_laws.specs.Order.{AreMarksInOrder}
use Rattle.session_laws.specs.Core.{CoreState}
use Rattle.session_laws.specs.Service.Events.{MakesMore}
use Rattle.round_laws.specs.Named.{keys_named}
use Rattle.round_laws.specs.Sessions.{InSession}
use Rattle.round_laws.proofs.Growing.{effects-grow, marks-grow, taken-grow}
use Rattle.round_laws.proofs.Sessions.{log-ordered, objects-left, sized, some-on, warm-after}
use Rattle.orch_core.specs.ComingBack.{restarts_due, restarts_marked}
use Rattle.orch_core.specs.Outcomes.{IsWithinLimit}
use Rattle.orch_core.specs.declared.answer.Settled.{Settled}
use Rattle.orch_core.proofs.Coming.{restarts_both}
use Rattle.orch_core.proofs.Serving.{settle_serves}
use Rattle.swss_script.specs.Sent.{restarts_in}
use Rattle.swss_script.specs.declared.parts.Round.{Round}
use Rattle.swss_report.specs.Round.{IsRoundText}
use Rattle.round_actors.specs.declared.answers.Kept.{Kept}
use Rattle.round_actors.specs.declared.answers.Kept.TheVariants as keeps
use Rattle.swss_service.specs.CoreAndChip.{CoreAndChip}
use Rattle.swss_service.specs.Faults.{FaultsRise}
use Rattle.swss_service.specs.Going.{HasGoneOn}
use Rattle.swss_service.specs.Rounds.{HasMadeAll, HasMadeSome, RoundsBeside, SettlesAll, restarts_logged}
use Rattle.swss_service.specs.Served.{IsServed, LacksPlaces}
use Rattle.swss_service.specs.declared.ending.RoundEnd.{RoundEnd}
use Rattle.swss_service.specs.declared.ending.RoundEnd.TheVariants as end
use Rattle.swss_service.proofs.Going.{rise-both}
use Rattle.swss_run.specs.Restarts.{HasFewRestarts, HasOneMore, HasRestarts, RestartsAfterFault}
use Rattle.swss_run.specs.Rounds.{Ran}
use Rattle.swss_run.specs.Running.{HasLines, IsWritten, KeepsPlan, ended_now, round_ended, settling_ended}
use Rattle.swss_run.specs.Running.IsWritten.{Whole, Failed, Wanting, Unwritten}
use Rattle.swss_run.specs.RunningBeside.{EndsBeside, IsInRun, IsRoundRunBeside, IsRunReadyBeside, StopsBeside}
use Rattle.swss_run.specs.Told.{IsToldOf}
use Rattle.swss_run.specs.declared.status.Status.{Status}
use Rattle.swss_run.specs.declared.status.Status.TheVariants as status
use Rattle.swss_run.specs.declared.told.Told.{Told}
use Rattle.swss_run.proofs.Adding.{Adds, AddsBy, AddsEnd, settling-adds}
use Rattle.swss_run.proofs.Counting.{due-or, due-suspect, more-behind, one-more, suspect-now}
use Rattle.swss_run.proofs.OnWay.{log-as, same-trans}
use Rattle.swss_run.proofs.Over.{IsEndedAs}
use Rattle.swss_run.proofs.RoundRuns.{HasGrown, from-fails, text-as}
use Rattle.swss_run.proofs.Tables.{told-more}

-- a round ended with this status
pub record IsOverBeside (workers : ℕ) (round : Round) (old : CoreState) (sim : ChipState) (ended : Status) (new : CoreState) (sim' : ChipState) : Type 0 where
  pub ran : Ran
  pub ends : EndsBeside workers round old sim ran new sim'
  pub how : IsEndedAs ended new sim'

none-or-one : (n : ℕ) → n ≤ 1 → (n ≡ 0) ⊎ (n ≡ 1)
none-or-one zero few = inl refl
none-or-one (suc zero) few = inr refl
none-or-one (suc (suc n)) few = absurd (omega (arith, few))

-- ---- what came grew

more-grown : {workers w : ℕ} (a b : CoreState) (achip bchip : ChipState) (x : InSession workers a achip) → MakesMore w a x.session b bchip → bchip.fails ≡ achip.fails → HasGrown a achip b bchip
more-grown a b achip bchip x more fails = record { taken = taken-grow a b achip bchip x more; marks = marks-grow a b achip bchip x more; calls = effects-grow a b achip bchip x more; fails = fails }

grown-both : (a b c : CoreState) (achip bchip cchip : ChipState) → HasGrown a achip b bchip → HasGrown b bchip c cchip → HasGrown a achip c cchip
grown-both a b c achip bchip cchip x y = record {
  taken = (x.taken.0 ++ y.taken.0, y.taken.1 ∙ ap (λ l. l ++ y.taken.0) x.taken.1 ∙ append_assoc a.log.taken x.taken.0 y.taken.0);
  marks = (x.marks.0 ++ y.marks.0, y.marks.1 ∙ ap (λ l. l ++ y.marks.0) x.marks.1 ∙ append_assoc a.log.marks x.marks.0 y.marks.0);
  calls = (x.calls.0 ++ y.calls.0, y.calls.1 ∙ ap (λ l. l ++ y.calls.0) x.calls.1 ∙ append_assoc achip.effects x.calls.0 y.calls.0);
  fails = y.fails ∙ x.fails;
}

module _ (old : CoreState) (sim : ChipState) (new : CoreState) (sim' : ChipState) (x : HasGrown old sim new sim') where
  pub beside-told : (t : Told) → IsToldOf t old.log.taken → IsToldOf t new.log.taken
  beside-told t told = told-more t old.log.taken x.taken.0 new.log.taken told x.taken.1

  pub beside-follows : (replay : Replayed) → IsReplayOf replay sim.effects → IsReplayOf replay sim'.effects
  beside-follows replay follows = subst (IsReplayOf replay) (sym x.calls.1) (IsReplayOf-append replay sim.effects x.calls.0 follows)

  pub beside-longer : length old.log.marks ≤ length new.log.marks
  beside-longer = let longer = ap length x.marks.1 in let both = length-append old.log.marks x.marks.0 in omega (arith, longer, both)

-- ---- a round

module _ {workers most : ℕ} (few : most < workers) (round : Round) (o : CoreAndChip) (start : IsInRun workers o.core o.chip) where
  some : 0 < workers
  some = omega (arith, few)

  limit_old : IsWithinLimit o.core o.chip
  limit_old = let size = sized o.core o.chip start.within in let places = start.places in omega (arith, size, places)

  -- what the actors came to
  module _ (m : CoreAndChip) (served : IsServed most o m) where
    gone : HasGoneOn most o m.core m.chip served.0 served.1
    gone = served.2

    more : MakesMore most o.core start.within.session m.core m.chip
    more = gone.steps start.within.session start.within.stands

    in_mid : InSession workers m.core m.chip
    in_mid = (some-on o.core m.core o.chip m.chip start.within few more).0

    marks_mid : m.core.log.marks ≡ o.core.log.marks ++ served.1
    marks_mid = ap (λ (h : History). h.marks) gone.log

    ends_mid : m.core.log.ends ≡ o.core.log.ends
    ends_mid = ap (λ (h : History). h.ends) gone.log

    calls_mid : (calls : List (Call Rid)) × (m.chip.effects ≡ o.chip.effects ++ calls)
    calls_mid = effects-grow o.core m.core o.chip m.chip start.within more

    same_mid : KeepsPlan o.core m.core
    same_mid = record { plan = more.plan; capacities = more.capacities; limit = more.limit }

    here_mid : IsInRun workers m.core m.chip
    here_mid = record {
      within = in_mid;
      places = let size = sized m.core m.chip in_mid in let within = gone.places limit_old in omega (arith, size, within);
      faults = subst (λ l. FaultsRise 0 l m.chip.faults) (sym marks_mid) (rise-both 0 o.chip.faults m.chip.faults o.core.log.marks served.1 start.faults gone.faults);
    }

    restarts_mid : restarts_logged m ≡ restarts_logged o + restarts_marked served.1
    restarts_mid = ap restarts_marked marks_mid ∙ restarts_both o.core.log.marks served.1

    grown_mid : HasGrown o.core o.chip m.core m.chip
    grown_mid = more-grown o.core m.core o.chip m.chip start.within more gone.fails

  -- some acts were made
  stops-made : (kept : Kept) (m : CoreAndChip) → HasMadeSome most round.sections kept o m → StopsBeside workers round o.core o.chip m.core m.chip
  stops-made kept m x = record {
    here = here_mid m x.served;
    same = same_mid m x.served;
    since = record { marks = x.served.1; sent = x.ran.new; calls = (calls_mid m x.served).0 };
    fronts = x.ran.fronts;
    restarts = let least = x.ran.few in let count = restarts_mid m x.served in inl (omega (arith, least, count));
    log = log-as m.core.log (o.core.log.taken ++ x.ran.new) (o.core.log.marks ++ x.served.1) o.core.log.ends x.ran.taken (marks_mid m x.served) (ends_mid m x.served);
    calls = (calls_mid m x.served).1;
  }

  -- all were, and what a settling adds
  module _ (m : CoreAndChip) (x : HasMadeAll most round.sections o m) (new : CoreState) (sim' : ChipState) (a : Adds workers m.core m.chip new sim') where
    abbrev ran_now : Ran
    ran_now = record { marks = x.served.1 ++ a.added; sent = x.new; calls = (calls_mid m x.served).0 ++ a.calls }

    taken_now : new.log.taken ≡ o.core.log.taken ++ x.new
    taken_now = a.taken ∙ x.taken

    marks_now : new.log.marks ≡ o.core.log.marks ++ ran_now.marks
    marks_now = a.marks ∙ ap (λ l. l ++ a.added) (marks_mid m x.served) ∙ append_assoc o.core.log.marks x.served.1 a.added

    calls_now : sim'.effects ≡ o.chip.effects ++ ran_now.calls
    calls_now = a.effects ∙ ap (λ l. l ++ a.calls) (calls_mid m x.served).1 ∙ append_assoc o.chip.effects (calls_mid m x.served).0 a.calls

    same_now : KeepsPlan o.core new
    same_now = same-trans o.core m.core new (same_mid m x.served) a.same

    count_now : restarts_marked ran_now.marks ≡ restarts_in round.sections + restarts_marked a.added
    count_now =
        let both = restarts_both x.served.1 a.added in
        let made = restarts_mid m x.served in
        let its = x.restarts in
        omega (arith, both, made, its)

    -- the restart that the settling made stands behind a fault
    one_more : restarts_marked a.added ≡ 1 → restarts_due m.core.warm ≡ 1 → HasOneMore (is_suspect o.core.log.marks) round ran_now.marks
    one_more one due =
        let bad = suspect-now m.core.log.marks m.core.warm (warm-after m.core m.chip (in_mid m x.served)) (due-suspect m.core.warm due) in
        let order = subst (AreMarksInOrder None) a.marks (log-ordered new sim' a.here.within).order in
        let behind = one-more m.core.log.marks a.added 0 bad order (omega (arith, one)) in
        let count = count_now in
        (omega (arith, count, one), more-behind (is_suspect o.core.log.marks) o.core.log.marks x.served.1 a.added refl (subst (λ l. RestartsAfterFault (is_suspect l) a.added) (marks_mid m x.served) behind))

    few_now : HasFewRestarts (is_suspect o.core.log.marks) round ran_now.marks
    few_now = by (due-or m.core.warm)
      where
        count : restarts_marked ran_now.marks ≡ restarts_in round.sections + restarts_marked a.added
        count = count_now

        least : restarts_marked a.added ≤ restarts_due m.core.warm
        least = a.restarts

        made : restarts_due m.core.warm ≡ 1 → (restarts_marked a.added ≡ 0) ⊎ (restarts_marked a.added ≡ 1) → HasFewRestarts (is_suspect o.core.log.marks) round ran_now.marks
        made due (inl none) = inl (omega (arith, count, none))
        made due (inr one) = inr (one_more one due)

        by : (restarts_due m.core.warm ≡ 0) ⊎ (restarts_due m.core.warm ≡ 1) → HasFewRestarts (is_suspect o.core.log.marks) round ran_now.marks
        by (inl none) = inl (omega (arith, count, least, none))
        by (inr due) = made due (none-or-one (restarts_marked a.added) (omega (arith, least, due)))

    restarts_now : restarts_marked a.added ≡ restarts_due m.core.warm → HasRestarts (is_suspect o.core.log.marks) round ran_now.marks
    restarts_now all = by (due-or m.core.warm)
      where
        count : restarts_marked ran_now.marks ≡ restarts_in round.sections + restarts_marked a.added
        count = count_now

        by : (restarts_due m.core.warm ≡ 0) ⊎ (restarts_due m.core.warm ≡ 1) → HasRestarts (is_suspect o.core.log.marks) round ran_now.marks
        by (inl none) = inl (omega (arith, count, all, none))
        by (inr due) = inr (one_more (all ∙ due) due)

    stops-adding : new.log.ends ≡ m.core.log.ends → StopsBeside workers round o.core o.chip new sim'
    stops-adding ends = record {
      here = a.here;
      same = same_now;
      since = ran_now;
      fronts = λ p. ([], append-nil (sent_of p x.new) ∙ x.whole p);
      restarts = few_now;
      log = log-as new.log (o.core.log.taken ++ x.new) (o.core.log.marks ++ ran_now.marks) o.core.log.ends taken_now marks_now (ends ∙ ends_mid m x.served);
      calls = calls_now;
    }

  -- it ended at its mark
  ends-adding : (m : CoreAndChip) (x : HasMadeAll most round.sections o m) (new : CoreState) (sim' : ChipState) (e : AddsEnd workers m.core m.chip new sim') → EndsBeside workers round o.core o.chip (ran_now m x new sim' e.adds) new sim'
  ends-adding m x new sim' e = record {
    here = e.adds.here;
    same = same_now m x new sim' e.adds;
    at_mark = record {
      before = x.served.1 ++ e.before;
      mark = e.mark;
      marks = ap (λ l. x.served.1 ++ l) e.last ∙ sym (append_assoc x.served.1 e.before (e.mark ∷ []));
      settling = e.settling;
      taken = e.counts_taken ∙ ap length (taken_now m x new sim' e.adds) ∙ length-append o.core.log.taken x.new;
      effects = e.counts_effects ∙ ap length (calls_now m x new sim' e.adds) ∙ length-append o.chip.effects ((calls_mid m x.served).0 ++ e.adds.calls);
    };
    sent = x.whole;
    restarts = restarts_now m x new sim' e.adds e.restarted;
    log = log-as new.log (o.core.log.taken ++ x.new) (o.core.log.marks ++ (x.served.1 ++ e.adds.added)) (o.core.log.ends ++ length (o.core.log.marks ++ (x.served.1 ++ e.adds.added)) ∷ [])
        (taken_now m x new sim' e.adds) (marks_now m x new sim' e.adds)
        (e.ends ∙ ap (λ l. l ++ length new.log.marks ∷ []) (ends_mid m x.served) ∙ ap (λ l. o.core.log.ends ++ length l ∷ []) (marks_now m x new sim' e.adds));
    calls = calls_now m x new sim' e.adds;
  }

  -- ---- a round of the service

  module _ (r : Result Settled OutOfMemory) (last : CoreAndChip) (x : SettlesAll most round.sections o r last) where
    abbrev in_all : InSession workers x.mid.core x.mid.chip
    in_all = (here_mid x.mid x.all.served).within

    adds-by : (answer : Result Status Status) → settling_ended r ≡ answer → AddsBy workers x.mid.core x.mid.chip answer last.core last.chip
    adds-by answer same = subst (λ z. AddsBy workers x.mid.core x.mid.chip z last.core last.chip) same (settling-adds some x.mid.core x.mid.chip (here_mid x.mid x.all.served) last.core last.chip r (x.settles in_all.session in_all.stands))

    grown_all : HasGrown o.core o.chip last.core last.chip
    grown_all =
        grown-both o.core x.mid.core last.core o.chip x.mid.chip last.chip (grown_mid x.mid x.all.served)
        (more-grown x.mid.core last.core x.mid.chip last.chip in_all (settle_serves in_all.session x.mid.core x.mid.chip r last.core last.chip (x.settles in_all.session in_all.stands)) (from-fails x.mid.core x.mid.chip in_all.session r last.core last.chip (x.settles in_all.session in_all.stands)))

  pub beside-grown : (e : RoundEnd) (last : CoreAndChip) → RoundsBeside most round.sections o e last → HasGrown o.core o.chip last.core last.chip
  beside-grown (end.Ran r) last x = grown_all (Ok r) last x
  beside-grown end.LogFull last x = grown_mid last x.served
  beside-grown end.NoMemory last (inl x) = grown_mid last x.served
  beside-grown end.NoMemory last (inr (wanting, x)) = grown_all (Err wanting) last x

  apart : (s t : Status) → ◌≡◌ {A = Result Status Status} (Err s) (Ok t) → ⊥
  apart s t same = cc

  -- the round ended
  pub beside-over : (e : RoundEnd) (ended : Status) (last : CoreAndChip) → round_ended e ≡ Ok ended → RoundsBeside most round.sections o e last → IsOverBeside workers round o.core o.chip ended last.core last.chip
  beside-over (end.Ran r) ended last same x =
      let y = adds-by (Ok r) last x (Ok ended) same in
      record { ran = ran_now x.mid x.all last.core last.chip y.0.adds; ends = ends-adding x.mid x.all last.core last.chip y.0; how = y.1 }
  beside-over end.LogFull ended last same x = absurd (apart status.LogFull ended same)
  beside-over end.NoMemory ended last same x = absurd (apart status.OutOfMemory ended same)

  -- or it did not, and nothing was written
  module _ (number : ℕ) (held : Option (List ℕ)) (faults : ℕ) (replay' : Replayed) (last : CoreAndChip) where
    abbrev IsHalted : Status → Type 0
    IsHalted ended = IsRoundRunBeside workers number round o.core o.chip held faults ended last.core last.chip replay' held faults

    halted-adding : (m : CoreAndChip) (x : HasMadeAll most round.sections o m) (ended : Status) → AddsBy workers m.core m.chip (Err ended) last.core last.chip → IsHalted ended
    halted-adding m x status.LogFull (y, many) = (stops-adding m x last.core last.chip y.adds y.ends, many, refl)
    halted-adding m x status.OutOfMemory y = inl (stops-adding m x last.core last.chip y.adds y.ends, refl)
    halted-adding m x status.Done y = absurd y
    halted-adding m x status.Usage y = absurd y
    halted-adding m x (status.ScriptRefused refusal) y = absurd y
    halted-adding m x status.ReadFault y = absurd y
    halted-adding m x status.WriteFault y = absurd y
    halted-adding m x status.ChipFault y = absurd y

    many-lacked : InSession workers last.core last.chip → LacksPlaces last → last.core.limit < log_size last.core.log (length last.chip.effects) + 2 + length (keys_named last.core.log.taken)
    many-lacked within lacks = let size = sized last.core last.chip within in omega (arith, size, lacks)

    pub beside-halted : (e : RoundEnd) (ended : Status) → round_ended e ≡ Err ended → RoundsBeside most round.sections o e last → IsHalted ended
    beside-halted (end.Ran r) ended same x = halted-adding x.mid x.all ended (adds-by (Ok r) last x (Err ended) same)
    beside-halted end.LogFull ended same x =
        let is : status.LogFull ≡ ended = cc in
        subst IsHalted is (stops-made keeps.LogFull last x, many-lacked (in_mid last x.served) (x.cause refl), refl)
    beside-halted end.NoMemory ended same (inl x) = let is : status.OutOfMemory ≡ ended = cc in subst IsHalted is (inl (stops-made keeps.NoMemory last x, refl))
    beside-halted end.NoMemory ended same (inr (wanting, x)) = halted-adding x.mid x.all ended (adds-by (Err wanting) last x (Err ended) same)

-- ---- what is written

module _ {workers : ℕ} (round : Round) (old : CoreState) (sim : ChipState) (replay : Replayed) (at_end : replay.at ≡ length sim.effects) (ended : Status) (new : CoreState) (sim' : ChipState) (over : IsOverBeside workers round old sim ended new sim') (number : ℕ) (counted : 0 < number) where
  has-lines : (lines : List ℕ) → IsRoundText (ended_now new sim' number (length old.log.marks)) replay.at round.shows lines → HasLines number round old sim over.ran lines
  has-lines lines text = record {
    before = number - 1;
    number_is = omega (arith, counted);
    text =
        text-as round.shows lines
        new.board.plan old.board.plan number (number - 1 + 1) (drop (length old.log.marks) new.log.marks) over.ran.marks (length new.log.taken) (length (old.log.taken ++ over.ran.sent)) (rows_of (sent_writes new.log.taken)) (rows_of (sent_writes (old.log.taken ++ over.ran.sent)))
        sim'.capacities old.sync.capacities sim'.objects (chip_after (sim.effects ++ over.ran.calls) (length (sim.effects ++ over.ran.calls))) sim'.effects (sim.effects ++ over.ran.calls) replay.at (length sim.effects)
        over.ends.same.plan
        (omega (arith, counted))
        (ap (λ (h : History). drop (length old.log.marks) h.marks) over.ends.log ∙ drop-append_seam old.log.marks over.ran.marks)
        (ap (λ (h : History). length h.taken) over.ends.log)
        (ap (λ (h : History). rows_of (sent_writes h.taken)) over.ends.log)
        (over.ends.here.within.stands.always.capacities ∙ over.ends.same.capacities)
        (objects-left new sim' over.ends.here.within ∙ ap (λ l. chip_after l (length l)) over.ends.calls)
        over.ends.calls
        at_end
        text;
  }

  module _ (held held' : Option (List ℕ)) (faults faults' : ℕ) (result : Status) (replay' : Replayed) where
    as_result : (status : Status) → result ≡ status → IsRoundRunBeside workers number round old sim held faults status new sim' replay' held' faults' → IsRoundRunBeside workers number round old sim held faults result new sim' replay' held' faults'
    as_result status is = subst (λ r. IsRoundRunBeside workers number round old sim held faults r new sim' replay' held' faults') (sym is)

    pub beside-written : IsWritten (ended_now new sim' number (length old.log.marks)) replay.at round.shows ended held faults result replay' held' faults' → IsRoundRunBeside workers number round old sim held faults result new sim' replay' held' faults'
    beside-written (Whole lines text took follows at is) = by over.how
      where
        ready : IsRunReadyBeside workers new sim' replay'
        ready = record { here = over.ends.here; follows = follows; at_end = at }

        by : IsEndedAs ended new sim' → IsRoundRunBeside workers number round old sim held faults result new sim' replay' held' faults'
        by (inl (done, known)) = as_result status.Done (is ∙ done) (record { ran = over.ran; lines = lines; ends = over.ends; has = has-lines lines text; took = took; ready = ready }, known)
        by (inr (failed, bad, rose)) = as_result status.ChipFault (is ∙ failed) (record { ran = over.ran; lines = lines; ends = over.ends; has = has-lines lines text; took = took; ready = ready }, bad, rose)
    beside-written (Failed lines text took rose is) = as_result status.WriteFault is (over.ran, lines, over.ends, has-lines lines text, took, rose)
    beside-written (Wanting lines text took is) = as_result status.OutOfMemory is (inr (over.ran, over.ends, inr (lines, has-lines lines text, took)))
    beside-written (Unwritten same is) = as_result status.OutOfMemory is (inr (over.ran, over.ends, inl same))
