-- what a session by several workers comes to, round by round
use Rattle.std.proofs.Common.{◌≡◌, ◌⊎◌, inl, inr, ℕ, zero, suc, ◌+◌, ◌<◌, ◌≤◌, Bool, false, List, [], ◌∷◌, ◌++◌, length, slice_get, Option, Some, refl, sym, ap, ◌∙◌, subst, arith}
use Rattle.std.proofs.lemmas.List.{append-nil, append_assoc, length-append}
use Rattle.std.specs.List.{AllByRecursion}
use Rattle.swss_types.specs.Outside.{Takes}
use Rattle.table_schema.specs.Plan.{Ports}
use Rattle.table_schema.specs.Rows.{Rows, rows_of}
use Rattle.table_schema.specs.SentBy.{sent_of}
use Rattle.table_schema.specs.declared.write.Sent.{Sent}
use Rattle.sai_types.specs.After.{chip_after}
use Rattle.sai_types.specs.ChipState.{ChipState}
use Rattle.sai_types.specs.declared.ids.Rid.{Rid}
use Rattle.sai_types.specs.declared.body.Call.{Call}
use Rattle.sai_chip.specs.Replay.{IsReplayOf, Replayed}
use Rattle.switch_model.specs.History.{History, log_size}
use Rattle.switch_model.specs.Marks.{sent_writes}
use Rattle.switch_model.specs.Sound.{is_suspect}
use Rattle.switch_model.specs.declared.mark.Mark.{Mark}
use Rattle.session_laws.specs.Core.{CoreState}
use Rattle.round_laws.specs.Named.{keys_named}
use Rattle.orch_core.specs.ComingBack.{restarts_marked}
use Rattle.swss_script.specs.Behind.{image_sent, rounds_behind}
use Rattle.swss_script.specs.Sent.{restarts_in}
use Rattle.swss_script.specs.Stage.{AreOfProducers}
use Rattle.swss_script.specs.declared.parts.Round.{Round}
use Rattle.swss_script.specs.declared.parts.Show.{Show}
use Rattle.swss_report.specs.Ended.{Ended}
use Rattle.swss_report.specs.Round.{IsRoundText}
use Rattle.round_actors.specs.Round.{HasFront, own_sent}
use Rattle.swss_run.specs.Beside.{AreTakenBeside, BeginsWithRows, EndAtLasts, EndsAtLast, IsCutBeside, IsReportedBeside, IsSessionBeside}
use Rattle.swss_run.specs.Output.{TakesFront, TakesPart}
use Rattle.swss_run.specs.Report.{TookFront, TookPart, TookReport}
use Rattle.swss_run.specs.Restarts.{AreRestarted, HasFewRestarts, HasRestarts, RestartsAfterFault}
use Rattle.swss_run.specs.Rounds.{AreEndsRising, IsReport, Ran, all_calls, all_marks, all_sent, ends_from, nothing_ran, round_end}
use Rattle.swss_run.specs.Running.{HasLines, KeepsPlan}
use Rattle.swss_run.specs.Run.{ends_early}
use Rattle.swss_run.specs.RunningBeside.{EndsBeside, IsInRun, IsOpened, IsRoundRunBeside, IsRunReadyBeside, StopsBeside}
use Rattle.swss_run.specs.Session.{log_limit}
use Rattle.swss_run.specs.declared.status.Status.{Status}
use Rattle.swss_run.specs.declared.status.Status.TheVariants as status
use Rattle.swss_run.proofs.Counting.{suspect-behind}
use Rattle.swss_run.proofs.OnWay.{same-trans}
use Rattle.swss_run.proofs.OpenedRounds.{IsAhead, OpensAt, length-behind, opens-at, sent_of-both, some-round}
use Rattle.swss_run.proofs.Over.{IsEndedAs}
use Rattle.swss_run.proofs.Pieces.{Takes-trans}
use Rattle.swss_run.proofs.Rounds.{calls-more, ends-more, marks-more, report-more, restarted-more, restarted-none, restarted-since, sent-more, suspect_then}
use Rattle.swss_run.proofs.Sessions.{Takes-none, front-more, part-more, run-recorded, whole-front}

-- ---- one round more

taken-none-beside : (rounds : List Round) → AreTakenBeside [] rounds []
taken-none-beside [] = refl
taken-none-beside (r ∷ rounds) = λ p. (own_sent p r.sections, refl)

taken-beside-more : (rans : List Ran) (rounds : List Round) (ran : Ran) (round : Round) (sent : List Sent) → AreTakenBeside rans rounds sent → slice_get rounds (length rans) ≡ Some round → ((p : ℕ) → sent_of p ran.sent ≡ own_sent p round.sections) → AreTakenBeside (rans ++ ran ∷ []) rounds []
taken-beside-more [] [] ran round sent were at is = cc
taken-beside-more [] (r ∷ rounds) ran round sent were at is =
    let same : round ≡ r = cc in
    (subst (λ (x : Round). (p : ℕ) → sent_of p ran.sent ≡ own_sent p x.sections) same is, taken-none-beside rounds)
taken-beside-more (x ∷ rans) [] ran round sent were at is = absurd were
taken-beside-more (x ∷ rans) (r ∷ rounds) ran round sent (first, more) at is = (first, taken-beside-more rans rounds ran round sent more at is)

taken-beside-since : (rans : List Ran) (rounds : List Round) (round : Round) (sent now : List Sent) → AreTakenBeside rans rounds sent → slice_get rounds (length rans) ≡ Some round → ((p : ℕ) → HasFront (own_sent p round.sections) (sent_of p now)) → AreTakenBeside rans rounds now
taken-beside-since [] [] round sent now were at is = cc
taken-beside-since [] (r ∷ rounds) round sent now were at is =
    let same : round ≡ r = cc in
    subst (λ (x : Round). (p : ℕ) → HasFront (own_sent p x.sections) (sent_of p now)) same is
taken-beside-since (x ∷ rans) [] round sent now were at is = absurd were
taken-beside-since (x ∷ rans) (r ∷ rounds) round sent now (first, more) at is = (first, taken-beside-since rans rounds round sent now more at is)

-- the same counts in other words
last-at : (sent sent' calls calls' : ℕ) (ran : Ran) → sent ≡ sent' → calls ≡ calls' → EndsAtLast sent calls ran → EndsAtLast sent' calls' ran
last-at sent sent' calls calls' ran sents callses h = subst (λ n. EndsAtLast n calls' ran) sents (subst (λ n. EndsAtLast sent n ran) callses h)

lasts-more : (sent calls : ℕ) (rans : List Ran) (ran : Ran) → EndAtLasts sent calls rans → EndsAtLast (sent + length (all_sent rans)) (calls + length (all_calls rans)) ran → EndAtLasts sent calls (rans ++ ran ∷ [])
lasts-more sent calls [] ran at one = (last-at (sent + 0) sent (calls + 0) calls ran (omega arith) (omega arith) one, tt)
lasts-more sent calls (r ∷ rans) ran (first, more) one = (
  first,
  lasts-more (sent + length r.sent) (calls + length r.calls) rans ran more (last-at
      (sent + length (all_sent (r ∷ rans))) (sent + length r.sent + length (all_sent rans))
      (calls + length (all_calls (r ∷ rans))) (calls + length r.calls + length (all_calls rans)) ran
      (omega (arith, length-append r.sent (all_sent rans))) (omega (arith, length-append r.calls (all_calls rans))) one),
)

lasts-rise : (sent calls n : ℕ) (rans : List Ran) → EndAtLasts sent calls rans → AreEndsRising n (ends_from n rans)
lasts-rise sent calls n [] at = tt
lasts-rise sent calls n (r ∷ rans) (first, more) = (
  omega (arith, ap length first.marks, length-append first.before (first.mark ∷ [])),
  lasts-rise (sent + length r.sent) (calls + length r.calls) (n + length r.marks) rans more,
)

suspect-lasts : (xs : List Mark) (rans : List Ran) (sent calls : ℕ) → EndAtLasts sent calls rans → is_suspect (xs ++ all_marks rans) ≡ suspect_then (is_suspect xs) rans
suspect-lasts xs [] sent calls at = ap is_suspect (append-nil xs)
suspect-lasts xs (r ∷ rans) sent calls at =
    ap is_suspect (sym (append_assoc xs r.marks (all_marks rans)))
    ∙ suspect-lasts (xs ++ r.marks) rans (sent + length r.sent) (calls + length r.calls) at.1
    ∙ ap (λ b. suspect_then b rans) one
  where
    one : is_suspect (xs ++ r.marks) ≡ is_suspect r.marks
    one = ap (λ l. is_suspect (xs ++ l)) at.0.marks ∙ suspect-behind xs at.0.before at.0.mark ∙ ap is_suspect (sym at.0.marks)

-- the restarts of a round are those of another that has as many
restarts-as : (fault : Bool) (round other : Round) (marks : List Mark) → restarts_in other.sections ≡ restarts_in round.sections → HasRestarts fault round marks → HasRestarts fault other marks
restarts-as fault round other marks same h = subst (λ n. (restarts_marked marks ≡ n) ⊎ ((restarts_marked marks ≡ n + 1) × RestartsAfterFault fault marks)) (sym same) h

few-as : (fault : Bool) (round other : Round) (marks : List Mark) → restarts_in other.sections ≡ restarts_in round.sections → HasFewRestarts fault round marks → HasFewRestarts fault other marks
few-as fault round other marks same h = subst (λ n. (restarts_marked marks ≤ n) ⊎ ((restarts_marked marks ≡ n + 1) × RestartsAfterFault fault marks)) (sym same) h

-- ---- a session

abbrev only_sent : List Sent → Ran
only_sent sent = record { marks = []; sent = sent; calls = [] }

-- what holds between two rounds
pub record IsRunningBeside (workers : ℕ) (image : List Sent) (rounds : List Round) (done : ℕ) (first : CoreState) (held0 : Option (List ℕ)) (core : CoreState) (sim : ChipState) (replay : Replayed) (held : Option (List ℕ)) : Type 0 where
  pub ready : IsRunReadyBeside workers core sim replay
  pub same : KeepsPlan first core
  pub limit : first.limit ≡ log_limit
  pub rans : List Ran
  pub ahead : List Sent
  pub which : IsAhead image done ahead
  pub cut : IsCutBeside core.log sim.effects rans (record { marks = []; sent = ahead; calls = [] })
  pub many : length rans ≡ done
  pub writes : AreTakenBeside rans rounds ahead
  pub restarts : AreRestarted false rans rounds []
  pub told : TookReport first.board.plan first.sync.capacities rans rounds held0 held
  pub begins : (more : List Sent) × (core.log.taken ≡ image ++ more)

-- a session, from a core and a chip in a run
session-beside : {workers : ℕ} (rounds : List Round) (ended : Status) (first core : CoreState) (chip : ChipState) (held held' : Option (List ℕ)) (rans : List Ran) (since : Ran)
    → IsInRun workers core chip → KeepsPlan first core → first.limit ≡ log_limit → IsCutBeside core.log chip.effects rans since → AreTakenBeside rans rounds since.sent → AreRestarted false rans rounds since.marks
    → IsReportedBeside ended first.board.plan first.sync.capacities rounds rans since core.log chip held held'
    → IsSessionBeside workers first.board.plan first.sync.capacities rounds ended core.log chip held held'
session-beside rounds ended first core chip held held' rans since here same limit cut writes restarts reported = record {
  recorded = run-recorded first core chip here.within same (subst (λ n. log_size core.log (length chip.effects) ≤ n) (same.limit ∙ limit) here.places) here.faults (subst (AreEndsRising 0) (sym cut.ends) (lasts-rise 0 0 0 rans cut.at_marks));
  rans = rans;
  since = since;
  cut = cut;
  writes = writes;
  restarts = restarts;
  reported = reported;
}

abbrev AllOfProducers : ℕ → List Round → Type 0
AllOfProducers count rounds = AllByRecursion (λ (r : Round). AreOfProducers count r.sections) rounds

at-below : (rounds : List Round) (at : ℕ) (round : Round) → slice_get rounds at ≡ Some round → at < length rounds
at-below [] at round is = absurd cc
at-below (r ∷ rounds) zero round is = omega arith
at-below (r ∷ rounds) (suc n) round is = let below = at-below rounds n round is in omega (arith, below)

-- the rows of the image were taken, or the first of them
front-image : (image : Rows) (rounds : List Round) (count : ℕ) → AllOfProducers count rounds → 0 < length rounds → (now left : List Sent) → image_sent image ≡ now ++ left → AreTakenBeside [] (rounds_behind image rounds) now
front-image image rounds count numbers some now left split =
    let r = some-round rounds 0 some in
    let x = opens-at image rounds count 0 (image_sent image) r.0 numbers r.1 (inl (refl, refl)) in
    taken-beside-since [] (rounds_behind image rounds) x.opened [] now (taken-none-beside (rounds_behind image rounds)) x.there
    (λ p. (
      sent_of p left ++ own_sent p r.0.sections,
      sym (append_assoc (sent_of p now) (sent_of p left) (own_sent p r.0.sections)) ∙ ap (λ l. l ++ own_sent p r.0.sections) (sym (sent_of-both p now left) ∙ ap (sent_of p) (sym split)) ∙ sym (x.opens.own p),
    ))

-- the end of the round with this number, with so much taken in all, behind these calls
abbrev end_of : ℕ → Ran → Ports → List ℕ → List Sent → List (Call Rid) → Ended
end_of number ran plan capacities sent calls = record { plan = plan; number = number; marks = ran.marks; taken = length sent; rows = rows_of (sent_writes sent); capacities = capacities; objects = chip_after (calls ++ ran.calls) (length (calls ++ ran.calls)); effects = calls ++ ran.calls }

-- a round that was run does not end early
pub beside-ran : (workers number : ℕ) (round : Round) (old : CoreState) (sim : ChipState) (held : Option (List ℕ)) (faults : ℕ) (ended : Status) (new : CoreState) (sim' : ChipState) (replay : Replayed) (held' : Option (List ℕ)) (faults' : ℕ) → IsRoundRunBeside workers number round old sim held faults ended new sim' replay held' faults' → ends_early ended ≡ false
beside-ran workers number round old sim held faults status.Done new sim' replay held' faults' run = refl
beside-ran workers number round old sim held faults status.ChipFault new sim' replay held' faults' run = refl
beside-ran workers number round old sim held faults status.WriteFault new sim' replay held' faults' run = refl
beside-ran workers number round old sim held faults status.LogFull new sim' replay held' faults' run = refl
beside-ran workers number round old sim held faults status.OutOfMemory new sim' replay held' faults' run = refl
beside-ran workers number round old sim held faults status.Usage new sim' replay held' faults' run = absurd run
beside-ran workers number round old sim held faults (status.ScriptRefused refusal) new sim' replay held' faults' run = absurd run
beside-ran workers number round old sim held faults status.ReadFault new sim' replay held' faults' run = absurd run

-- before the first round nothing is told
nothing-told : (plan : Ports) (capacities : List ℕ) (rounds : List Round) (held : Option (List ℕ)) → TookReport plan capacities [] rounds held held
nothing-told plan capacities rounds held = record { text = []; report = refl; took = Takes-none held }

module _ {workers : ℕ} (image : Rows) (rounds : List Round) (count : ℕ) (numbers : AllOfProducers count rounds) (some : 0 < length rounds) where
  cut-opened : (now : List Sent) (core : CoreState) (sim : ChipState) → IsOpened workers now core sim → IsCutBeside core.log sim.effects [] (only_sent now)
  cut-opened now core sim x = record {
    marks = ap (λ (h : History). h.marks) x.log;
    ends = ap (λ (h : History). h.ends) x.log;
    taken = ap (λ (h : History). h.taken) x.log;
    effects = x.effects;
    at_marks = tt;
  }

  pub opened-running : (first : CoreState) (sim : ChipState) (held : Option (List ℕ)) (replay : Replayed) → IsOpened workers (image_sent image) first sim → IsReplayOf replay sim.effects → replay.at ≡ 0 → IsRunningBeside workers (image_sent image) (rounds_behind image rounds) 0 first held first sim replay held
  opened-running first sim held replay x follows at = record {
    ready = record { here = x.here; follows = follows; at_end = at ∙ sym (ap length x.effects) };
    same = record { plan = refl; capacities = refl; limit = refl };
    limit = x.limit;
    rans = [];
    ahead = image_sent image;
    which = inl (refl, refl);
    cut = cut-opened (image_sent image) first sim x;
    many = refl;
    writes = front-image image rounds count numbers some (image_sent image) [] (sym (append-nil (image_sent image)));
    restarts = restarted-none false (rounds_behind image rounds);
    told = nothing-told first.board.plan first.sync.capacities (rounds_behind image rounds) held;
    begins = ([], ap (λ (h : History). h.taken) x.log ∙ sym (append-nil (image_sent image)));
  }

  -- the log is full, or memory was refused, within the image
  module _ (first core : CoreState) (sim : ChipState) (held : Option (List ℕ)) (now left : List Sent) (split : image_sent image ≡ now ++ left) (x : IsOpened workers now core sim) (same : KeepsPlan first core) where
    image-session : (ended : Status) → IsReportedBeside ended first.board.plan first.sync.capacities (rounds_behind image rounds) [] (only_sent now) core.log sim held held → IsSessionBeside workers first.board.plan first.sync.capacities (rounds_behind image rounds) ended core.log sim held held
    image-session ended reported = session-beside (rounds_behind image rounds) ended first core sim held held [] (only_sent now) x.here same (sym same.limit ∙ x.limit) (cut-opened now core sim x) (front-image image rounds count numbers some now left split) (restarted-none false (rounds_behind image rounds)) reported

    pub image-full : log_limit < log_size core.log (length sim.effects) + 2 + length (keys_named core.log.taken) → IsSessionBeside workers first.board.plan first.sync.capacities (rounds_behind image rounds) status.LogFull core.log sim held held
    image-full many = image-session status.LogFull (subst (λ n. 0 < n) (sym (length-behind image rounds)) some, many, nothing-told first.board.plan first.sync.capacities (rounds_behind image rounds) held)

    pub image-short : IsSessionBeside workers first.board.plan first.sync.capacities (rounds_behind image rounds) status.OutOfMemory core.log sim held held
    image-short = image-session status.OutOfMemory ([], [], refl, record { text = []; report = refl; took = whole-front held held [] (Takes-none held) })

    pub image-begins : BeginsWithRows (image_sent image) core.log sim.effects
    image-begins = inr (left, split ∙ ap (λ l. l ++ left) (sym (ap (λ (h : History). h.taken) x.log)), ap (λ (h : History). h.marks) x.log, x.effects)

  module _ (done : ℕ) (first : CoreState) (held0 : Option (List ℕ)) (core : CoreState) (sim : ChipState) (replay : Replayed) (held : Option (List ℕ)) (running : IsRunningBeside workers (image_sent image) (rounds_behind image rounds) done first held0 core sim replay held) where
    abbrev rans : List Ran
    rans = running.rans

    abbrev plan : Ports
    plan = first.board.plan

    abbrev room : List ℕ
    room = first.sync.capacities

    marks_were : core.log.marks ≡ all_marks rans
    marks_were = running.cut.marks ∙ append-nil (all_marks rans)

    effects_were : sim.effects ≡ all_calls rans
    effects_were = running.cut.effects ∙ append-nil (all_calls rans)

    -- every round ended
    module _ (all : done ≡ length rounds) where
      none_ahead : running.ahead ≡ []
      none_ahead = by running.which
        where
          by : IsAhead (image_sent image) done running.ahead → running.ahead ≡ []
          by (inl (none, first)) = absurd (omega (arith, none, all, some))
          by (inr (later, none)) = none

      many_all : length rans ≡ length (rounds_behind image rounds)
      many_all = running.many ∙ all ∙ sym (length-behind image rounds)

      pub beside-begins : BeginsWithRows (image_sent image) core.log sim.effects
      beside-begins = inl running.begins

      pub beside-done : (ended : Status) → IsEndedAs ended core sim → IsSessionBeside workers plan room (rounds_behind image rounds) ended core.log sim held0 held
      beside-done ended how =
          session-beside (rounds_behind image rounds) ended first core sim held0 held rans (only_sent running.ahead) running.ready.here running.same running.limit running.cut running.writes running.restarts (by how)
        where
          nothing : only_sent running.ahead ≡ nothing_ran
          nothing = ap only_sent none_ahead

          by : IsEndedAs ended core sim → IsReportedBeside ended plan room (rounds_behind image rounds) rans (only_sent running.ahead) core.log sim held0 held
          by (inl (is, known)) = subst (λ e. IsReportedBeside e plan room (rounds_behind image rounds) rans (only_sent running.ahead) core.log sim held0 held) (sym is) (nothing, many_all, known, running.told)
          by (inr (is, bad, rose)) = subst (λ e. IsReportedBeside e plan room (rounds_behind image rounds) rans (only_sent running.ahead) core.log sim held0 held) (sym is) (nothing, many_all, bad, rose, running.told)

    module _ (round : Round) (next : slice_get rounds done ≡ Some round) (faults faults' : ℕ) (new : CoreState) (sim' : ChipState) (replay' : Replayed) (held' : Option (List ℕ)) where
      x : OpensAt image rounds done running.ahead round
      x = opens-at image rounds count done running.ahead round numbers next running.which

      at_round : slice_get (rounds_behind image rounds) (length rans) ≡ Some x.opened
      at_round = ap (λ n. slice_get (rounds_behind image rounds) n) running.many ∙ x.there

      suspect_core : is_suspect core.log.marks ≡ suspect_then false rans
      suspect_core = ap is_suspect marks_were ∙ suspect-lasts [] rans 0 0 running.cut.at_marks

      module _ (ran : Ran) (ends : EndsBeside workers round core sim ran new sim') where
        abbrev ran_whole : Ran
        ran_whole = record { marks = ran.marks; sent = running.ahead ++ ran.sent; calls = ran.calls }

        at_last : EndsAtLast (0 + length (all_sent rans)) (0 + length (all_calls rans)) ran_whole
        at_last = record {
          before = ends.at_mark.before;
          mark = ends.at_mark.mark;
          marks = ends.at_mark.marks;
          settling = ends.at_mark.settling;
          taken = omega (arith, ends.at_mark.taken, ap length running.cut.taken, length-append (all_sent rans) running.ahead, length-append running.ahead ran.sent);
          effects = omega (arith, ends.at_mark.effects, ap length effects_were);
        }

        count_were : length core.log.marks + length ran.marks ≡ 0 + length (all_marks rans) + length ran.marks
        count_were = let same = ap length marks_were in omega (arith, same)

        cut_now : IsCutBeside new.log sim'.effects (rans ++ ran_whole ∷ []) (only_sent [])
        cut_now = record {
          marks = ap (λ (h : History). h.marks) ends.log ∙ ap (λ l. l ++ ran.marks) marks_were ∙ sym (marks-more rans ran_whole) ∙ sym (append-nil (all_marks (rans ++ ran_whole ∷ [])));
          ends = ap (λ (h : History). h.ends) ends.log ∙ ap (λ l. l ++ length (core.log.marks ++ ran.marks) ∷ []) running.cut.ends ∙ ap (λ n. ends_from 0 rans ++ n ∷ []) (length-append core.log.marks ran.marks ∙ count_were) ∙ sym (ends-more 0 rans ran_whole);
          taken = ap (λ (h : History). h.taken) ends.log ∙ ap (λ l. l ++ ran.sent) running.cut.taken ∙ append_assoc (all_sent rans) running.ahead ran.sent ∙ sym (sent-more rans ran_whole) ∙ sym (append-nil (all_sent (rans ++ ran_whole ∷ [])));
          effects = ends.calls ∙ ap (λ l. l ++ ran.calls) effects_were ∙ sym (calls-more rans ran_whole) ∙ sym (append-nil (all_calls (rans ++ ran_whole ∷ [])));
          at_marks = lasts-more 0 0 rans ran_whole running.cut.at_marks at_last;
        }

        taken_now : AreTakenBeside (rans ++ ran_whole ∷ []) (rounds_behind image rounds) []
        taken_now = taken-beside-more rans (rounds_behind image rounds) ran_whole x.opened running.ahead running.writes at_round (λ p. sent_of-both p running.ahead ran.sent ∙ ap (λ l. sent_of p running.ahead ++ l) (ends.sent p) ∙ sym (x.opens.own p))

        restarted_now : AreRestarted false (rans ++ ran_whole ∷ []) (rounds_behind image rounds) []
        restarted_now = restarted-more false rans (rounds_behind image rounds) ran_whole x.opened running.restarts at_round (restarts-as (suspect_then false rans) round x.opened ran.marks x.opens.restarts (subst (λ b. HasRestarts b round ran.marks) suspect_core ends.restarts))

        same_now : KeepsPlan first new
        same_now = same-trans first core new running.same ends.same

        -- its lines, behind what came before
        lines_whole : (number : ℕ) (lines : List ℕ) → HasLines number round core sim ran lines → (before : ℕ) × (number ≡ before + 1) × IsRoundText (round_end plan room before (all_sent rans) (all_calls rans) ran_whole) (length (all_calls rans)) x.opened.shows lines
        lines_whole number lines has = (has.before, has.number_is, moved)
          where
            moved : IsRoundText (end_of (has.before + 1) ran plan room (all_sent rans ++ (running.ahead ++ ran.sent)) (all_calls rans)) (length (all_calls rans)) x.opened.shows lines
            moved =
                subst (λ (l : List Show). IsRoundText (end_of (has.before + 1) ran plan room (all_sent rans ++ (running.ahead ++ ran.sent)) (all_calls rans)) (length (all_calls rans)) l lines) (sym x.opens.shows)
                (subst (λ l. IsRoundText (end_of (has.before + 1) ran plan room l (all_calls rans)) (length (all_calls rans)) round.shows lines) (ap (λ l. l ++ ran.sent) running.cut.taken ∙ append_assoc (all_sent rans) running.ahead ran.sent)
                (subst (λ l. IsRoundText (end_of (has.before + 1) ran plan room (core.log.taken ++ ran.sent) l) (length l) round.shows lines) effects_were
                (subst (λ p. IsRoundText (end_of (has.before + 1) ran p room (core.log.taken ++ ran.sent) sim.effects) (length sim.effects) round.shows lines) running.same.plan
                (subst (λ c. IsRoundText (end_of (has.before + 1) ran core.board.plan c (core.log.taken ++ ran.sent) sim.effects) (length sim.effects) round.shows lines) running.same.capacities has.text))))

        report_now : (lines : List ℕ) → HasLines (done + 1) round core sim ran lines → IsReport plan room (rans ++ ran_whole ∷ []) (rounds_behind image rounds) (running.told.text ++ lines)
        report_now lines has =
            let y = lines_whole (done + 1) lines has in
            let number = y.1 in
            let many = running.many in
            report-more plan room 0 [] [] rans (rounds_behind image rounds) running.told.text ran_whole x.opened lines y.0 (all_sent rans) (all_calls rans) running.told.report at_round (omega (arith, number, many)) refl refl y.2

        told_now : (lines : List ℕ) → HasLines (done + 1) round core sim ran lines → Takes held lines held' → TookReport plan room (rans ++ ran_whole ∷ []) (rounds_behind image rounds) held0 held'
        told_now lines has took = record { text = running.told.text ++ lines; report = report_now lines has; took = Takes-trans held0 held held' running.told.text lines running.told.took took }

        front_now : (lines : List ℕ) → HasLines (done + 1) round core sim ran lines → TakesFront held lines held' → TookFront plan room (rans ++ ran_whole ∷ []) (rounds_behind image rounds) held0 held'
        front_now lines has took = record { text = running.told.text ++ lines; report = report_now lines has; took = front-more held0 held held' running.told.text lines running.told.took took }

        part_now : (lines : List ℕ) → HasLines (done + 1) round core sim ran lines → TakesPart held lines held' → TookPart plan room (rans ++ ran_whole ∷ []) (rounds_behind image rounds) held0 held'
        part_now lines has took = record { text = running.told.text ++ lines; report = report_now lines has; took = part-more held0 held held' running.told.text lines running.told.took took }

        begins_now : (more : List Sent) × (new.log.taken ≡ image_sent image ++ more)
        begins_now = (running.begins.0 ++ ran.sent, ap (λ (h : History). h.taken) ends.log ∙ ap (λ l. l ++ ran.sent) running.begins.1 ∙ append_assoc (image_sent image) running.begins.0 ran.sent)

        session_now : (ended : Status) → IsReportedBeside ended plan room (rounds_behind image rounds) (rans ++ ran_whole ∷ []) nothing_ran new.log sim' held0 held' → IsSessionBeside workers plan room (rounds_behind image rounds) ended new.log sim' held0 held'
        session_now ended reported = session-beside (rounds_behind image rounds) ended first new sim' held0 held' (rans ++ ran_whole ∷ []) nothing_ran ends.here same_now running.limit cut_now taken_now restarted_now reported

        running_now : (lines : List ℕ) → HasLines (done + 1) round core sim ran lines → Takes held lines held' → IsRunReadyBeside workers new sim' replay' → IsRunningBeside workers (image_sent image) (rounds_behind image rounds) (done + 1) first held0 new sim' replay' held'
        running_now lines has took ready = record {
          ready = ready;
          same = same_now;
          limit = running.limit;
          rans = rans ++ ran_whole ∷ [];
          ahead = [];
          which = inr (omega arith, refl);
          cut = cut_now;
          many = length-append rans (ran_whole ∷ []) ∙ ap (λ n. n + 1) running.many;
          writes = taken_now;
          restarts = restarted_now;
          told = told_now lines has took;
          begins = begins_now;
        }

      -- it ended, and all its lines were written: at the mark of its settling, or at a fault
      pub beside-more : IsRoundRunBeside workers (done + 1) round core sim held faults status.Done new sim' replay' held' faults' → IsRunningBeside workers (image_sent image) (rounds_behind image rounds) (done + 1) first held0 new sim' replay' held' × IsEndedAs status.Done new sim'
      beside-more (y, known) = (running_now y.ran y.ends y.lines y.has y.took y.ready, inl (refl, known))

      pub beside-failed : IsRoundRunBeside workers (done + 1) round core sim held faults status.ChipFault new sim' replay' held' faults' → IsRunningBeside workers (image_sent image) (rounds_behind image rounds) (done + 1) first held0 new sim' replay' held' × IsEndedAs status.ChipFault new sim'
      beside-failed (y, bad, rose) = (running_now y.ran y.ends y.lines y.has y.took y.ready, inr (refl, bad, rose))

      -- a front of what was told before
      front_before : held' ≡ held → TookFront plan room rans (rounds_behind image rounds) held0 held'
      front_before same = record { text = running.told.text; report = running.told.report; took = whole-front held0 held' running.told.text (subst (λ h. Takes held0 running.told.text h) (sym same) running.told.took) }

      less : length rans < length (rounds_behind image rounds)
      less = let long = length-behind image rounds in let many = running.many in let below = at-below rounds done round next in omega (arith, long, many, below)

      module _ (stops : StopsBeside workers round core sim new sim') where
        abbrev since_whole : Ran
        since_whole = record { marks = stops.since.marks; sent = running.ahead ++ stops.since.sent; calls = stops.since.calls }

        cut_stopped : IsCutBeside new.log sim'.effects rans since_whole
        cut_stopped = record {
          marks = ap (λ (h : History). h.marks) stops.log ∙ ap (λ l. l ++ stops.since.marks) marks_were;
          ends = ap (λ (h : History). h.ends) stops.log ∙ running.cut.ends;
          taken = ap (λ (h : History). h.taken) stops.log ∙ ap (λ l. l ++ stops.since.sent) running.cut.taken ∙ append_assoc (all_sent rans) running.ahead stops.since.sent;
          effects = stops.calls ∙ ap (λ l. l ++ stops.since.calls) effects_were;
          at_marks = running.cut.at_marks;
        }

        fronts_stopped : (p : ℕ) → HasFront (own_sent p x.opened.sections) (sent_of p since_whole.sent)
        fronts_stopped p =
            let front = stops.fronts p in (
              front.0,
              ap (λ l. l ++ front.0) (sent_of-both p running.ahead stops.since.sent) ∙ append_assoc (sent_of p running.ahead) (sent_of p stops.since.sent) front.0 ∙ ap (λ l. sent_of p running.ahead ++ l) front.1 ∙ sym (x.opens.own p),
            )

        same_stopped : KeepsPlan first new
        same_stopped = same-trans first core new running.same stops.same

        session_stopped : (ended : Status) → IsReportedBeside ended plan room (rounds_behind image rounds) rans since_whole new.log sim' held0 held' → IsSessionBeside workers plan room (rounds_behind image rounds) ended new.log sim' held0 held'
        session_stopped ended reported =
            session-beside (rounds_behind image rounds) ended first new sim' held0 held' rans since_whole stops.here same_stopped running.limit cut_stopped (taken-beside-since rans (rounds_behind image rounds) x.opened running.ahead since_whole.sent running.writes at_round fronts_stopped)
            (restarted-since false rans (rounds_behind image rounds) x.opened stops.since.marks running.restarts at_round (few-as (suspect_then false rans) round x.opened stops.since.marks x.opens.restarts (subst (λ b. HasFewRestarts b round stops.since.marks) suspect_core stops.restarts))) reported

        begins_stopped : BeginsWithRows (image_sent image) new.log sim'.effects
        begins_stopped = inl (running.begins.0 ++ stops.since.sent, ap (λ (h : History). h.taken) stops.log ∙ ap (λ l. l ++ stops.since.sent) running.begins.1 ∙ append_assoc (image_sent image) running.begins.0 stops.since.sent)

      abbrev Both : Status → Type 0
      Both ended = IsSessionBeside workers plan room (rounds_behind image rounds) ended new.log sim' held0 held' × BeginsWithRows (image_sent image) new.log sim'.effects

      pub beside-ended : (ended : Status) → ¬ (ended ≡ status.Done) → ¬ (ended ≡ status.ChipFault) → IsRoundRunBeside workers (done + 1) round core sim held faults ended new sim' replay' held' faults' → Both ended
      beside-ended status.Done other fault run = absurd (other refl)
      beside-ended status.ChipFault other fault run = absurd (fault refl)
      beside-ended status.WriteFault other fault (ran, lines, ends, has, took, rose) = (session_now ran ends status.WriteFault (refl, part_now ran ends lines has took), inl (begins_now ran ends))
      beside-ended status.LogFull other fault (stops, many, same) = (
        session_stopped stops status.LogFull (
          less,
          subst (λ n. n < log_size new.log (length sim'.effects) + 2 + length (keys_named new.log.taken)) ((same_stopped stops).limit ∙ running.limit) many,
          record { text = running.told.text; report = running.told.report; took = subst (λ h. Takes held0 running.told.text h) (sym same) running.told.took },
        ),
        begins_stopped stops,
      )
      beside-ended status.OutOfMemory other fault (inl (stops, same)) = (session_stopped stops status.OutOfMemory (rans, [], sym (append-nil rans), front_before same), begins_stopped stops)
      beside-ended status.OutOfMemory other fault (inr (ran, ends, inl same)) = (session_now ran ends status.OutOfMemory (rans, ran_whole ran ends ∷ [], refl, front_before same), inl (begins_now ran ends))
      beside-ended status.OutOfMemory other fault (inr (ran, ends, inr (lines, has, took))) =
          (session_now ran ends status.OutOfMemory (rans ++ ran_whole ran ends ∷ [], [], sym (append-nil (rans ++ ran_whole ran ends ∷ [])), front_now ran ends lines has took), inl (begins_now ran ends))
      beside-ended status.Usage other fault run = absurd run
      beside-ended (status.ScriptRefused refusal) other fault run = absurd run
      beside-ended status.ReadFault other fault run = absurd run
