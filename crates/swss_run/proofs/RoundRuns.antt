-- what a round comes to, from its acts and its settling
use Rattle.std.proofs.Common.{◌≡◌, ◌⊎◌, inl, inr, ℕ, ◌+◌, ◌-◌, ◌<◌, ◌≤◌, true, List, [], ◌∷◌, ◌++◌, length, drop, Option, Result, Ok, Err, refl, sym, ap, ◌∙◌, subst, arith}
use Rattle.std.proofs.Math.Seq.{drop-append_seam}
use Rattle.std.proofs.lemmas.List.{append-nil, append_assoc, length-append, nil_from_length}
use Rattle.swss_types.specs.declared.out_of_memory.OutOfMemory.{OutOfMemory}
use Rattle.table_schema.specs.Plan.{Ports}
use Rattle.table_schema.specs.Rows.{Rows, rows_of}
use Rattle.table_schema.specs.declared.write.Sent.{Sent}
use Rattle.sai_types.specs.After.{chip_after}
use Rattle.sai_types.specs.ChipState.{ChipState}
use Rattle.sai_types.specs.Objects.{Objects}
use Rattle.sai_types.specs.declared.ids.Rid.{Rid}
use Rattle.sai_types.specs.declared.body.Call.{Call}
use Rattle.sai_chip.specs.Replay.{IsReplayOf, Replayed}
use Rattle.sai_chip.proofs.Replays.{IsReplayOf-append}
use Rattle.switch_model.specs.History.{History, log_size, with_end, with_mark}
use Rattle.switch_model.specs.Marks.{Waiting, sent_writes}
use Rattle.switch_model.specs.declared.mark.Mark.{Mark}
use Rattle.switch_model.specs.declared.mark.MarkEvent.{MarkEvent}
use Rattle.switch_model.specs.declared.mark.MarkEvent.TheVariants as event
use Rattle.machine_laws.specs.Order.{MayEndRound}
use Rattle.producer_table.specs.Pending.{ArePendingInOrder}
use Rattle.flight_board.specs.Board.{BoardState}
use Rattle.restart_laws.specs.Logged.{LoggedService}
use Rattle.syncd_core.specs.Synced.{SyncState}
use Rattle.warm_state.specs.declared.warm.Warm.TheVariants as warm
use Rattle.session_laws.specs.Core.{CoreState, IsFullFor, mark_at}
use Rattle.session_laws.specs.Service.Events.{MakesMore}
use Rattle.session_laws.specs.Service.Standing.{IsServiceOf}
use Rattle.round_laws.specs.Between.{IsInRound, mark_of, round_from}
use Rattle.round_laws.specs.Ended.{LeavesSettled}
use Rattle.round_laws.specs.Named.{keys_named}
use Rattle.round_laws.specs.Quiet.{LeavesQuietRows}
use Rattle.round_laws.specs.Sessions.{InSession}
use Rattle.round_laws.specs.Turns.{IsMadeSoFar}
use Rattle.round_laws.proofs.Between.{its-log, round-begins}
use Rattle.round_laws.proofs.Drained.{round-drained}
use Rattle.round_laws.proofs.Ending.{round-ends}
use Rattle.round_laws.proofs.Growing.{effects-grow, marks-grow, taken-grow}
use Rattle.round_laws.proofs.Quieted.{quiet-so-far}
use Rattle.round_laws.proofs.Sessions.{objects-left, sized, warm-after}
use Rattle.orch_core.specs.ComingBack.{Back, SettlesFrom, Stopped, is_unrestored, restarts_at, restarts_due, restarts_marked}
use Rattle.orch_core.specs.Outcomes.{IsWithinLimit}
use Rattle.orch_core.specs.Settled.{Settles, SettlesWhole}
use Rattle.orch_core.specs.declared.answer.Settled.{Settled}
use Rattle.orch_core.specs.declared.answer.Settled.TheVariants as settled
use Rattle.orch_core.proofs.Chips.{fails_asked}
use Rattle.orch_core.proofs.Coming.{settles_as_ever}
use Rattle.orch_core.proofs.Serving.{settle_serves}
use Rattle.swss_script.specs.Sent.{restarts_in, sent_in_round, writes_in}
use Rattle.swss_script.specs.declared.parts.Round.{Round}
use Rattle.swss_script.specs.declared.parts.Show.{Show}
use Rattle.swss_report.specs.Round.{IsRoundText}
use Rattle.swss_service.specs.Faults.{FaultsRise}
use Rattle.swss_service.specs.Made.{restarts_made, with_made, writes_among}
use Rattle.swss_service.specs.Round.{AreAllMade, AreSomeMade, FillsUp, RoundsTo, SettlesActs as Settling}
use Rattle.swss_service.specs.Taking.{HaveReadKeys}
use Rattle.swss_service.specs.declared.ending.RoundEnd.{RoundEnd}
use Rattle.swss_service.specs.declared.ending.RoundEnd.TheVariants as end
use Rattle.swss_run.specs.Full.{IsFull}
use Rattle.swss_run.specs.Full.IsFull.{AtRestart, AtWrite}
use Rattle.swss_run.specs.Rounds.{Ran}
use Rattle.swss_run.specs.Running.{HasCome, HasLines, IsRunReady, IsRoundRun, IsWritten, KeepsPlan, StopsInTurns, StopsRound, ended_now, round_ended, settling_ended}
use Rattle.swss_run.specs.Running.IsWritten.{Whole, Failed, Wanting, Unwritten}
use Rattle.swss_run.specs.Told.{IsToldOf}
use Rattle.swss_run.specs.Turned.{EndsTurned, IsSinceTurned, round_at}
use Rattle.swss_run.specs.declared.status.Status.{Status}
use Rattle.swss_run.specs.declared.status.Status.TheVariants as status
use Rattle.swss_run.specs.declared.told.Told.{Told}
use Rattle.swss_run.proofs.CameBack.{ends-over, ends-stopped, from-over, from-since, from-stopped}
use Rattle.swss_run.proofs.Counting.{HasRestarted, suspect-now, unsettled}
use Rattle.swss_run.proofs.Given.{AreOnSwitch, on-front, on-round}
use Rattle.swss_run.proofs.OnWay.{come-made, since_made}
use Rattle.swss_run.proofs.CutOff.{cut-failed, cut-stopped}
use Rattle.swss_run.proofs.Over.{IsEndedAs, IsOver, alone, cut-plain, drained_none, empty-last, over-settled, unfailed}
use Rattle.swss_run.proofs.Settling.{IsStopped}
use Rattle.swss_run.proofs.Tables.{HasMade, in-round, made-all, made-none, told-more, unended-restarts}
use Rattle.swss_run.proofs.Behind.{IsTurnedSince, marked-more, same-last-two, unended}

-- ---- whatever a settling came to

settled-fails : (mid : CoreState) (chip : ChipState) (s : LoggedService) (r : Result Settled OutOfMemory) (new : CoreState) (chip' : ChipState) → Settles s mid chip r new chip' → chip'.fails ≡ chip.fails
settled-fails mid chip s (Ok settled.Settled) new chip' e = e.keeps.fails
settled-fails mid chip s (Ok settled.Faulted) new chip' e = e.0.fails
settled-fails mid chip s (Ok settled.LogFull) new chip' (inl e) = e.keeps.fails
settled-fails mid chip s (Ok settled.LogFull) new chip' (inr e) = e.keeps.fails
settled-fails mid chip s (Err wanting) new chip' e = e.keeps.fails

-- the chip has the failing calls that it was made with
pub from-fails : (mid : CoreState) (chip : ChipState) (s : LoggedService) (r : Result Settled OutOfMemory) (new : CoreState) (chip' : ChipState) → SettlesFrom s mid chip r new chip' → chip'.fails ≡ chip.fails
from-fails mid chip s r new chip' (Back c cchip x h) = settled-fails c cchip x.later r new chip' h ∙ x.comes.keeps.fails
from-fails mid chip s (Ok settled.Settled) new chip' (Stopped h) = absurd h
from-fails mid chip s (Ok settled.Faulted) new chip' (Stopped h) = h.stops.1.fails ∙ h.comes.keeps.fails
from-fails mid chip s (Ok settled.LogFull) new chip' (Stopped h) = ap (λ (z : ChipState). z.fails) h.stops.0 ∙ h.comes.keeps.fails
from-fails mid chip s (Err wanting) new chip' (Stopped h) = fails_asked h.stops.0 ∙ h.comes.keeps.fails

-- ---- the lines

-- what stands at the end of a round, said in other words
pub text-as : (shows : List Show) (lines : List ℕ) (p p' : Ports) (n n' : ℕ) (ms ms' : List Mark) (t t' : ℕ) (r r' : Rows) (c c' : List ℕ) (o o' : Objects) (e e' : List (Call Rid)) (b b' : ℕ)
    → p ≡ p' → n ≡ n' → ms ≡ ms' → t ≡ t' → r ≡ r' → c ≡ c' → o ≡ o' → e ≡ e' → b ≡ b'
    → IsRoundText (record { plan = p; number = n; marks = ms; taken = t; rows = r; capacities = c; objects = o; effects = e }) b shows lines
    → IsRoundText (record { plan = p'; number = n'; marks = ms'; taken = t'; rows = r'; capacities = c'; objects = o'; effects = e' }) b' shows lines
text-as shows lines p p' n n' ms ms' t t' r r' c c' o o' e e' b b' ps ns mss ts rs cs os es bs text =
    subst (λ x. IsRoundText (record { plan = x; number = n'; marks = ms'; taken = t'; rows = r'; capacities = c'; objects = o'; effects = e' }) b' shows lines) ps
    (subst (λ x. IsRoundText (record { plan = p; number = x; marks = ms'; taken = t'; rows = r'; capacities = c'; objects = o'; effects = e' }) b' shows lines) ns
    (subst (λ x. IsRoundText (record { plan = p; number = n; marks = x; taken = t'; rows = r'; capacities = c'; objects = o'; effects = e' }) b' shows lines) mss
    (subst (λ x. IsRoundText (record { plan = p; number = n; marks = ms; taken = x; rows = r'; capacities = c'; objects = o'; effects = e' }) b' shows lines) ts
    (subst (λ x. IsRoundText (record { plan = p; number = n; marks = ms; taken = t; rows = x; capacities = c'; objects = o'; effects = e' }) b' shows lines) rs
    (subst (λ x. IsRoundText (record { plan = p; number = n; marks = ms; taken = t; rows = r; capacities = x; objects = o'; effects = e' }) b' shows lines) cs
    (subst (λ x. IsRoundText (record { plan = p; number = n; marks = ms; taken = t; rows = r; capacities = c; objects = x; effects = e' }) b' shows lines) os
    (subst (λ x. IsRoundText (record { plan = p; number = n; marks = ms; taken = t; rows = r; capacities = c; objects = o; effects = x }) b' shows lines) es
    (subst (λ x. IsRoundText (record { plan = p; number = n; marks = ms; taken = t; rows = r; capacities = c; objects = o; effects = e }) x shows lines) bs text))))))))

-- ---- a round

-- writes, marks and calls are those that there were, and then some
pub record HasGrown (old : CoreState) (sim : ChipState) (new : CoreState) (sim' : ChipState) : Type 0 where
  pub taken : (more : List Sent) × (new.log.taken ≡ old.log.taken ++ more)
  pub marks : (more : List Mark) × (new.log.marks ≡ old.log.marks ++ more)
  pub calls : (more : List (Call Rid)) × (sim'.effects ≡ sim.effects ++ more)
  pub fails : sim'.fails ≡ sim.fails

-- a round that stopped with a full log, in its turns
abbrev IsFullRun : Round → CoreState → ChipState → CoreState → ChipState → Type 0
IsFullRun round old sim new sim' =
    (stops : StopsInTurns round old sim new sim') × IsFull new.board.plan new.sync.capacities new.limit round new.log sim' stops.0.since stops.0.come.within.session × (new.limit < log_size new.log (length sim'.effects) + 2 + length (keys_named new.log.taken))

-- there are no more restarts than marks
few_restarts : (e : MarkEvent) → restarts_at e ≤ 1
few_restarts event.Restarted = omega arith
few_restarts (event.Settled waits turns) = omega arith
few_restarts (event.Faulted before after) = omega arith
few_restarts (event.ApplyBegan mode waits) = omega arith
few_restarts event.ApplyEnded = omega arith

restarts_few : (marks : List Mark) → restarts_marked marks ≤ length marks
restarts_few [] = omega arith
restarts_few (mark ∷ marks) = let one = few_restarts mark.event in let rest = restarts_few marks in omega (arith, one, rest)

-- the mark of a settling that ended is that of no restart
unrestarted_mark : (mark : Mark) (waits : Waiting) (turns : ℕ) → mark.event ≡ event.Settled waits turns → 1 ≤ restarts_marked (mark ∷ []) → ⊥
unrestarted_mark mark waits turns is some = let none : restarts_at mark.event ≡ 0 = ap restarts_at is in omega (arith, none, some)

-- the front of a list that grew is all of it, where the whole is behind it
front_all : (xs ys zs rest more : List Sent) → ys ≡ zs ++ rest → xs ++ zs ≡ (xs ++ ys) ++ more → ys ≡ zs
front_all xs ys zs rest more split grown = split ∙ ap (λ l. zs ++ l) none ∙ append-nil zs
  where
    none : rest ≡ []
    none =
        let front = ap length split ∙ length-append zs rest in
        let now = sym (length-append xs zs) ∙ ap length grown ∙ length-append (xs ++ ys) more in
        let then = length-append xs ys in
        nil_from_length rest (omega (arith, front, now, then))

module _ (round : Round) (old : CoreState) (sim : ChipState) (replay : Replayed) (ready : IsRunReady old sim replay) (read : HaveReadKeys (writes_in round.sections)) where
  -- the log is within its limit
  within_old : IsWithinLimit old sim
  within_old = let size = sized old sim ready.ready.within in let places = ready.places in omega (arith, size, places)

  -- ---- some of its acts were made

  module _ (mid : CoreState) (left : List Sent) (acts : AreSomeMade round.sections old sim mid left) where
    abbrev sent_then : List Sent
    sent_then = writes_among acts.made

    on_then : AreOnSwitch sent_then
    on_then = on-front sent_then left (subst AreOnSwitch (sym acts.writes) (on-round round read))

    has_then : HasMade old sim sent_then (restarts_made acts.made) mid
    has_then =
        subst (HasMade old sim sent_then (restarts_made acts.made)) (sym acts.is)
        (subst (λ n. HasMade old sim sent_then n (with_made (length sim.effects) old acts.made)) (omega arith)
        (made-all old sim [] 0 acts.made old (made-none old sim ready.ready.within ready.ready.order) on_then))

    abbrev since_then : Ran
    since_then = since_made has_then.added sent_then

    come_then : HasCome old sim since_then mid sim
    come_then = come-made old sim sent_then (restarts_made acts.made) mid ready.faults (acts.places within_old) has_then

    abbrev stops_then : StopsRound round old sim mid sim
    stops_then = record {
      since = since_then;
      rest = left;
      front = sym acts.writes;
      restarts = let few = acts.restarts in let count = has_then.count in inl (omega (arith, few, count));
      come = come_then;
    }

    -- no call was made
    turned_then : IsSinceTurned old.board.plan old.sync.capacities (mark_of old) old.log.taken sim.effects since_then
    turned_then = record { so_far = λ none settled mark. inl refl; quiet = λ none settled mark k row e at other stood call called changes. called; behind = λ earlier ended is end. absurd (unended-restarts has_then.added earlier ended has_then.alone is end) }

    abbrev stopped_then : StopsInTurns round old sim mid sim
    stopped_then = (stops_then, turned_then)

    -- the log and the chip grew by what was made
    grown_then : HasGrown old sim mid sim
    grown_then = record {
      taken = (sent_then, ap (λ (h : History). h.taken) has_then.log);
      marks = (has_then.added, ap (λ (h : History). h.marks) has_then.log);
      calls = ([], sym (append-nil sim.effects));
      fails = refl;
    }

    -- the next act has no place
    module _ (full : IsFullFor mid (length sim.effects) 1) where
      short : mid.limit < log_size mid.log (length sim.effects) + 1
      short = let size = sized mid sim has_then.within in omega (arith, full, size)

      abbrev IsFullThen : Type 0
      IsFullThen = IsFull mid.board.plan mid.sync.capacities mid.limit round mid.log sim since_then come_then.within.session

      full_write : (rest : List Sent) → sent_in_round round ≡ sent_then ++ rest → 1 ≤ length rest → IsFullThen
      full_write [] split some = absurd (omega (arith, some))
      full_write (next ∷ later) split some = AtWrite next later split short

      full_act : (1 ≤ length left) ⊎ (restarts_made acts.made < restarts_in round.sections) → IsFullThen
      full_act (inl some) = full_write left (sym acts.writes) some
      full_act (inr less) = let count = has_then.count in AtRestart (omega (arith, less, count)) short

  full_run : (new : CoreState) → FillsUp round.sections old sim new → IsFullRun round old sim new sim
  full_run new x =
      let lack = short new x.left x.some x.full in
      (stopped_then new x.left x.some, full_act new x.left x.some x.full x.due, omega (arith, lack))

  -- ---- all of its acts were made

  module _ (mid : CoreState) (acts : AreAllMade round.sections old sim mid) where
    abbrev all_some : AreSomeMade round.sections old sim mid []
    all_some = record { made = acts.made; later = []; order = append-nil acts.made ∙ acts.order; is = acts.is; writes = append-nil (writes_among acts.made) ∙ acts.writes; restarts = let same = acts.restarts in omega (arith, same); places = acts.places }

    abbrev all_sent : List Sent
    all_sent = writes_among acts.made

    abbrev all_restarts : ℕ
    all_restarts = restarts_made acts.made

    abbrev since_all : Ran
    since_all = since_then mid [] all_some

    abbrev has_all : HasMade old sim all_sent all_restarts mid
    has_all = has_then mid [] all_some

    abbrev come_all : HasCome old sim since_all mid sim
    come_all = come_then mid [] all_some

    in_all : InSession 1 mid sim
    in_all = come_all.within

    sent_all : all_sent ≡ sent_in_round round
    sent_all = acts.writes

    count_all : restarts_marked since_all.marks ≡ restarts_in round.sections
    count_all = has_all.count ∙ acts.restarts

    restarted_same : mid.warm ≡ old.warm → HasRestarted round old.log.marks since_all.marks mid.warm
    restarted_same same = by ready.ready.warm
      where
        least : restarts_in round.sections ≤ restarts_marked since_all.marks
        least = let count = count_all in omega (arith, count)

        by : (old.warm ≡ warm.Reconciled) ⊎ (old.warm ≡ warm.Suspect) → HasRestarted round old.log.marks since_all.marks mid.warm
        by (inl at) =
            let none : restarts_due mid.warm ≡ 0 = ap restarts_due (same ∙ at) in
            let count = count_all in
            record { more = 0; count = omega (arith, count, none); behind = inl refl; least = least }
        by (inr at) =
            let one : restarts_due mid.warm ≡ 1 = ap restarts_due (same ∙ at) in
            let count = count_all in
            record { more = 1; count = omega (arith, count, one); behind = inr (refl, suspect-now old.log.marks old.warm (warm-after old sim ready.ready.within) at); least = least }

    restarted_all : HasRestarted round old.log.marks since_all.marks mid.warm
    restarted_all = by has_all.warm
      where
        by : ((all_restarts ≡ 0) × (mid.warm ≡ old.warm)) ⊎ ((1 ≤ all_restarts) × (mid.warm ≡ warm.Initialized)) → HasRestarted round old.log.marks since_all.marks mid.warm
        by (inl (none, same)) = restarted_same same
        by (inr (some, at)) =
            let none : restarts_due mid.warm ≡ 0 = ap restarts_due at in
            let count = count_all in
            record { more = 0; count = omega (arith, count, none); behind = inl refl; least = omega (arith, count) }

    module _ (new : CoreState) (sim' : ChipState) where
      -- ---- a core that is reconciled

      module _ (none : all_restarts ≡ 0) (same : mid.warm ≡ old.warm) (at : old.warm ≡ warm.Reconciled) where
        now : mid.warm ≡ warm.Reconciled
        now = same ∙ at

        alike : IsInRound 1 (mark_of old) old sim all_sent mid
        alike =
            subst (IsInRound 1 (mark_of old) old sim all_sent) (sym acts.is)
            (in-round (length sim.effects) (mark_of old) old sim [] acts.made old (round-begins (mark_of old) old sim (ready.ready.between at).resting) none (on_then mid [] all_some))

        abbrev since_plain : Ran
        since_plain = since_made [] all_sent

        abbrev plain : HasCome old sim since_plain mid sim
        plain = record {
          log = alike.log ∙ ap (λ ms. record { taken = old.log.taken ++ all_sent; marks = ms; ends = old.log.ends }) (sym (append-nil old.log.marks));
          calls = sym (append-nil sim.effects);
          way = tt;
          fenced = tt;
          within = alike.within;
          same = record { plan = ap (λ (b : BoardState). b.plan) alike.board; capacities = ap (λ (z : SyncState). z.capacities) alike.sync; limit = has_all.same.limit };
          limit = acts.places within_old;
          faults = subst (λ (h : History). FaultsRise 0 h.marks sim.faults) (sym alike.log) ready.faults;
        }

        restarted_plain : HasRestarted round old.log.marks [] mid.warm
        restarted_plain =
            let due : restarts_due mid.warm ≡ 0 = ap restarts_due now in
            let count : restarts_in round.sections ≡ 0 = sym acts.restarts ∙ none in
            record { more = 0; count = omega (arith, due, count); behind = inl refl; least = omega (arith, count) }

        plain-settled : SettlesWhole plain.within.session mid sim new sim' → IsOver round old sim status.Done new sim'
        plain-settled e =
            let ends = round-ends (mark_of old) old mid new sim sim' all_sent alike (omega arith) e.settles in
            let leads = e.settles.leads in
            let log = ends.log ∙ ap (λ h. with_end (with_mark h ends.mark)) (sym alike.log) in
            let due : restarts_due mid.warm ≡ 0 = ap restarts_due now in
            let may : MayEndRound ends.mark.event = subst MayEndRound (sym ends.made.event_is) tt in
            let keeps : KeepsPlan mid new = record { plan = leads.plan; capacities = leads.capacities; limit = leads.limit } in
            over-settled round old sim since_plain mid sim plain sent_all restarted_plain due new sim' ends.mark may log ends.calls ends.effects ends.later.resting.within keeps ends.made.waits ends.made.turns ends.made.event_is ends.later e.places e.keeps
            (record {
              whole = λ m single settled left. subst (λ x. EndsTurned old.board.plan old.sync.capacities (round_from (mark_of old) old sim all_sent ends.calls x)) (alone [] ends.mark m single).1
                  (record { made = ends.made; quiet = ends.quiet; drains = λ from least. round-drained old.board.plan old.sync.capacities (round_from (mark_of old) old sim all_sent ends.calls ends.mark) ends.made from least });
              cut = λ m single bad left. absurd (unfailed ends.mark m ends.made.waits ends.made.turns ends.made.event_is (alone [] ends.mark m single).1 bad);
              behind = λ earlier m single settled restarts. absurd (unrestarted_mark ends.mark ends.made.waits ends.made.turns ends.made.event_is restarts);
              cut_behind = λ earlier ended m single end bad. absurd (empty-last earlier ended (same-last-two [] earlier ends.mark m ended single).0);
            })
            (drained_none round old sim since_plain mid sim plain sent_all restarted_plain due new sim' ends.mark may log ends.calls ends.effects ends.later.resting.within keeps refl)

        plain-over : (r : Result Settled OutOfMemory) (ended : Status) → settling_ended r ≡ Ok ended → Settles plain.within.session mid sim r new sim' → ArePendingInOrder new.tables.waiting → IsOver round old sim ended new sim'
        plain-over r ended same e order = ends-over round old sim since_plain mid sim plain sent_all restarted_plain new sim' now plain-settled (λ failed calls grown. cut-plain old sim since_plain calls refl (λ mark. cut-failed (mark_of old) old sim all_sent mid alike new sim' failed.0 calls grown mark)) r ended same e order

        plain-stopped : (r : Result Settled OutOfMemory) (ended : Status) → settling_ended r ≡ Err ended → Settles plain.within.session mid sim r new sim' → IsStopped round old sim ended new sim'
        plain-stopped r ended same e = ends-stopped round old sim since_plain mid sim plain sent_all restarted_plain new sim' now r ended same e

      -- ---- any core

      -- what the core's settling comes to, for any session that core and chip stand for
      abbrev SettlesSo : Result Settled OutOfMemory → Type 0
      SettlesSo r = (s : LoggedService) → IsServiceOf mid sim s → SettlesFrom s mid sim r new sim'

      by_warm : {P : Type 0} → ((none : all_restarts ≡ 0) → mid.warm ≡ old.warm → old.warm ≡ warm.Reconciled → P) → (1 ≤ restarts_marked since_all.marks + restarts_due mid.warm → is_unrestored mid.warm ≡ true → P) → P
      by_warm {P} reconciled other = by has_all.warm ready.ready.warm
        where
          by : ((all_restarts ≡ 0) × (mid.warm ≡ old.warm)) ⊎ ((1 ≤ all_restarts) × (mid.warm ≡ warm.Initialized)) → (old.warm ≡ warm.Reconciled) ⊎ (old.warm ≡ warm.Suspect) → P
          by (inl (none, same)) (inl at) = reconciled none same at
          by (inl (none, same)) (inr at) = let one : restarts_due mid.warm ≡ 1 = ap restarts_due (same ∙ at) in other (omega (arith, one)) (ap is_unrestored (same ∙ at))
          by (inr (some, at)) warms = let count = has_all.count in other (omega (arith, some, count)) (ap is_unrestored at)

      run_over : (r : Result Settled OutOfMemory) (ended : Status) → settling_ended r ≡ Ok ended → SettlesSo r → ArePendingInOrder new.tables.waiting → IsOver round old sim ended new sim'
      run_over r ended same e order =
          by_warm
          (λ none alike at.
          let x = plain none alike at in
          plain-over none alike at r ended same (settles_as_ever x.within.session mid sim new sim' r (alike ∙ at) (e x.within.session x.within.stands)) order)
          (λ some out. from-over round old sim since_all mid sim come_all sent_all restarted_all new sim' refl some out r ended same (e come_all.within.session come_all.within.stands) order)

      run_stopped : (r : Result Settled OutOfMemory) (ended : Status) → settling_ended r ≡ Err ended → SettlesSo r → IsStopped round old sim ended new sim'
      run_stopped r ended same e =
          by_warm
          (λ none alike at.
          let x = plain none alike at in
          plain-stopped none alike at r ended same (settles_as_ever x.within.session mid sim new sim' r (alike ∙ at) (e x.within.session x.within.stands)))
          (λ some out. from-stopped round old sim since_all mid sim come_all sent_all restarted_all new sim' refl some out r ended same (e come_all.within.session come_all.within.stands))

      -- where no mark was made, it neither restarted nor follows a fault, and so its calls are those of a settling as ever, so far, and leave quiet rows alone
      module _ (r : Result Settled OutOfMemory) (e : SettlesSo r) (stops : StopsRound round old sim new sim') (empty : stops.since.marks ≡ []) (leaves : LeavesSettled (mark_of old)) where
        marks_same : length new.log.marks ≡ length old.log.marks
        marks_same = ap (λ (h : History). length h.marks) stops.come.log ∙ ap (λ l. length (old.log.marks ++ l)) empty ∙ ap length (append-nil old.log.marks)

        unrestarted : 1 ≤ all_restarts → ⊥
        unrestarted some =
            let longer = length-append old.log.marks since_all.marks in
            let made : length mid.log.marks ≡ length (old.log.marks ++ since_all.marks) = ap (λ (h : History). length h.marks) come_all.log in
            let grown = marks-grow mid new sim sim' in_all (settle_serves in_all.session mid sim r new sim' (e in_all.session in_all.stands)) in
            let later = ap length grown.1 ∙ length-append mid.log.marks grown.0 in
            let few = restarts_few since_all.marks in
            let count = has_all.count in
            let same = marks_same in
            omega (arith, some, longer, made, later, few, count, same)

        module _ (none : all_restarts ≡ 0) (same : mid.warm ≡ old.warm) (at : old.warm ≡ warm.Reconciled) where
          begun : IsInRound 1 (mark_of old) old sim all_sent mid
          begun = alike none same at

          more : MakesMore 0 mid begun.within.session new sim'
          more = settle_serves begun.within.session mid sim r new sim' (e begun.within.session begun.within.stands)

          taken_by : new.log.taken ≡ mid.log.taken ++ (taken-grow mid new sim sim' begun.within more).0
          taken_by = (taken-grow mid new sim sim' begun.within more).1

          sent_is : all_sent ≡ stops.since.sent
          sent_is =
              front_all old.log.taken all_sent stops.since.sent stops.rest (taken-grow mid new sim sim' begun.within more).0
              (sent_all ∙ stops.front)
              (sym (ap (λ (h : History). h.taken) stops.come.log) ∙ taken_by ∙ ap (λ (h : History). h.taken ++ (taken-grow mid new sim sim' begun.within more).0) begun.log)

          log_same : new.log ≡ mid.log
          log_same =
              stops.come.log
              ∙ ap (λ l. record { taken = old.log.taken ++ l; marks = old.log.marks ++ stops.since.marks; ends = old.log.ends }) (sym sent_is)
              ∙ ap (λ l. record { taken = old.log.taken ++ all_sent; marks = old.log.marks ++ l; ends = old.log.ends }) empty
              ∙ ap (λ l. record { taken = old.log.taken ++ all_sent; marks = l; ends = old.log.ends }) (append-nil old.log.marks)
              ∙ sym begun.log

          quiet_plain : (mark : Mark) → LeavesQuietRows old.board.plan (round_at (mark_of old) old.log.taken sim.effects stops.since mark)
          quiet_plain mark =
              subst (λ l. LeavesQuietRows old.board.plan (record { before = mark_of old; taken = old.log.taken; effects = sim.effects; sent = l; calls = stops.since.calls; mark = mark })) sent_is
              (subst (λ (b : BoardState). LeavesQuietRows b.plan (round_from (mark_of old) old sim all_sent stops.since.calls mark)) begun.board
              (quiet-so-far (mark_of old) old mid new sim sim' all_sent begun more log_same stops.since.calls stops.come.calls mark))

          -- no mark was made
          unmarked : (xs : List Mark) (mark : Mark) → new.log.marks ≡ xs ++ mark ∷ [] → length xs ≡ length old.log.marks → ⊥
          unmarked xs mark made long =
              let one = ap length made ∙ length-append xs (mark ∷ []) in
              let count = marks_same in
              omega (arith, one, long, count)

          marks_begun : length mid.log.marks ≡ length old.log.marks
          marks_begun = ap (λ (h : History). length h.marks) begun.log

          so_far_plain : (a : Result Settled OutOfMemory) → Settles begun.within.session mid sim a new sim' → (mark : Mark) → IsMadeSoFar old.board.plan old.sync.capacities (round_from (mark_of old) old sim all_sent stops.since.calls mark)
          so_far_plain (Ok settled.Settled) x mark =
              let ends = round-ends (mark_of old) old mid new sim sim' all_sent begun (omega arith) x.settles in
              absurd (unmarked old.log.marks ends.mark (ap (λ (h : History). h.marks) ends.log) refl)
          so_far_plain (Ok settled.Faulted) x mark = absurd (unmarked mid.log.marks (mark_at mid (length sim'.effects) (event.Faulted sim.faults sim'.faults)) (ap (λ (h : History). h.marks) x.0.marks.log) marks_begun)
          so_far_plain (Ok settled.LogFull) (inl x) mark = cut-stopped (mark_of old) old sim all_sent mid begun x.then x.calls x.so sim' x.effects stops.since.calls stops.come.calls mark
          so_far_plain (Ok settled.LogFull) (inr x) mark = cut-stopped (mark_of old) old sim all_sent mid begun x.later.service.core x.calls x.so sim' x.effects stops.since.calls stops.come.calls mark
          so_far_plain (Err wanting) x mark = cut-stopped (mark_of old) old sim all_sent mid begun x.then x.calls x.so sim' x.effects stops.since.calls stops.come.calls mark

          so_far_since : (mark : Mark) → IsMadeSoFar old.board.plan old.sync.capacities (round_at (mark_of old) old.log.taken sim.effects stops.since mark)
          so_far_since mark =
              subst (λ l. IsMadeSoFar old.board.plan old.sync.capacities (round_from (mark_of old) old sim l stops.since.calls mark)) sent_is
              (so_far_plain r (settles_as_ever begun.within.session mid sim new sim' r (same ∙ at) (e begun.within.session begun.within.stands)) mark)

        -- by how it began
        by_start : {P : Type 0} → ((none : all_restarts ≡ 0) → mid.warm ≡ old.warm → old.warm ≡ warm.Reconciled → P) → P
        by_start {P} reconciled = by has_all.warm ready.ready.warm
          where
            by : ((all_restarts ≡ 0) × (mid.warm ≡ old.warm)) ⊎ ((1 ≤ all_restarts) × (mid.warm ≡ warm.Initialized)) → (old.warm ≡ warm.Reconciled) ⊎ (old.warm ≡ warm.Suspect) → P
            by (inl (none, same)) (inl at) = reconciled none same at
            by (inl (none, same)) (inr at) = absurd (unsettled old.log.marks (suspect-now old.log.marks old.warm (warm-after old sim ready.ready.within) at) leaves)
            by (inr (some, at)) warms = absurd (unrestarted some)

        quiet_by : (mark : Mark) → LeavesQuietRows old.board.plan (round_at (mark_of old) old.log.taken sim.effects stops.since mark)
        quiet_by mark = by_start (λ none same at. quiet_plain none same at mark)

        so_far_by : (mark : Mark) → IsMadeSoFar old.board.plan old.sync.capacities (round_at (mark_of old) old.log.taken sim.effects stops.since mark)
        so_far_by mark = by_start (λ none same at. so_far_since none same at mark)

      -- where an apply ended last, it restarted, or follows a fault
      module _ (r : Result Settled OutOfMemory) (e : SettlesSo r) (stops : StopsRound round old sim new sim') (earlier : List Mark) (ended : Mark) (behind : stops.since.marks ≡ earlier ++ ended ∷ []) (end : ended.event ≡ event.ApplyEnded) where
        module _ (x : IsInRound 1 (mark_of old) old sim all_sent mid) where
          ends_same : mid.log.ends ≡ old.log.ends
          ends_same = ap (λ (h : History). h.ends) x.log

          none_marked : new.log ≡ mid.log → ⊥
          none_marked same = marked-more old sim stops.since new sim' stops.come earlier ended behind (ap (λ (h : History). h.marks) (same ∙ x.log))

          unbegun : (a : Result Settled OutOfMemory) → Settles x.within.session mid sim a new sim' → ⊥
          unbegun (Ok settled.Settled) h = unended old sim stops.since new sim' stops.come mid.log.ends _ (ap (λ (l : History). l.ends) (its-log mid new sim sim' x.within h.settles)) ends_same
          unbegun (Ok settled.Faulted) h = unended old sim stops.since new sim' stops.come mid.log.ends _ (ap (λ (l : History). l.ends) h.0.marks.log) ends_same
          unbegun (Ok settled.LogFull) (inl h) = none_marked h.log
          unbegun (Ok settled.LogFull) (inr h) = none_marked h.log
          unbegun (Err wanting) h = none_marked h.log

        behind_by : IsTurnedSince old sim stops.since
        behind_by =
            by_warm
            (λ none same at.
            let x = alike none same at in
            absurd (unbegun x r (settles_as_ever x.within.session mid sim new sim' r (same ∙ at) (e x.within.session x.within.stands))))
            (λ some out. from-since round old sim since_all mid sim come_all sent_all restarted_all new sim' refl some out stops earlier ended behind end r (e come_all.within.session come_all.within.stands))

      run_turned : (r : Result Settled OutOfMemory) → SettlesSo r → (stops : StopsRound round old sim new sim') → IsSinceTurned old.board.plan old.sync.capacities (mark_of old) old.log.taken sim.effects stops.since
      run_turned r e stops = record {
        so_far = λ empty settled mark. so_far_by r e stops empty settled mark;
        quiet = λ empty settled mark. quiet_by r e stops empty settled mark;
        behind = λ earlier ended behind end. behind_by r e stops earlier ended behind end;
      }

      -- the log and the chip grew by what was made, and then by the settling
      all_grown : (r : Result Settled OutOfMemory) → SettlesSo r → HasGrown old sim new sim'
      all_grown r e =
          let before = grown_then mid [] all_some in
          let more = settle_serves in_all.session mid sim r new sim' (e in_all.session in_all.stands) in
          let taken = taken-grow mid new sim sim' in_all more in
          let marks = marks-grow mid new sim sim' in_all more in
          let calls = effects-grow mid new sim sim' in_all more in
          record {
            taken = (before.taken.0 ++ taken.0, taken.1 ∙ ap (λ l. l ++ taken.0) before.taken.1 ∙ append_assoc old.log.taken before.taken.0 taken.0);
            marks = (before.marks.0 ++ marks.0, marks.1 ∙ ap (λ l. l ++ marks.0) before.marks.1 ∙ append_assoc old.log.marks before.marks.0 marks.0);
            calls = calls;
            fails = from-fails mid sim in_all.session r new sim' (e in_all.session in_all.stands);
          }

  -- ---- a round of the service

  grown : (e : RoundEnd) (new : CoreState) (sim' : ChipState) → RoundsTo round.sections old sim e new sim' → HasGrown old sim new sim'
  grown (end.Ran r) new sim' x = all_grown x.mid x.all new sim' (Ok r) x.settles
  grown end.LogFull new sim' (same, x) = subst (HasGrown old sim new) (sym same) (grown_then new x.left x.some)
  grown end.NoMemory new sim' (inl (same, left, x)) = subst (HasGrown old sim new) (sym same) (grown_then new left x)
  grown end.NoMemory new sim' (inr (wanting, x)) = all_grown x.mid x.all new sim' (Err wanting) x.settles

  module _ (e : RoundEnd) (new : CoreState) (sim' : ChipState) (x : RoundsTo round.sections old sim e new sim') where
    abbrev now_grown : HasGrown old sim new sim'
    now_grown = grown e new sim' x

    -- what was told stays so
    pub round-told : (t : Told) → IsToldOf t old.log.taken → IsToldOf t new.log.taken
    round-told t told = told-more t old.log.taken now_grown.taken.0 new.log.taken told now_grown.taken.1

    pub round-follows : IsReplayOf replay sim'.effects
    round-follows = subst (IsReplayOf replay) (sym now_grown.calls.1) (IsReplayOf-append replay sim.effects now_grown.calls.0 ready.follows)

    -- no mark is lost
    pub round-longer : length old.log.marks ≤ length new.log.marks
    round-longer = let longer = ap length now_grown.marks.1 in let both = length-append old.log.marks now_grown.marks.0 in omega (arith, longer, both)

    pub round-fails : sim'.fails ≡ sim.fails
    round-fails = now_grown.fails

  apart : (r : Result Status Status) (s t : Status) → r ≡ Err s → r ≡ Ok t → ⊥
  apart r s t refused ended = cc

  -- the round ended
  pub round-over : (e : RoundEnd) (ended : Status) (new : CoreState) (sim' : ChipState) → round_ended e ≡ Ok ended → RoundsTo round.sections old sim e new sim' → ArePendingInOrder new.tables.waiting → IsOver round old sim ended new sim'
  round-over (end.Ran r) ended new sim' same x order = run_over x.mid x.all new sim' (Ok r) ended same x.settles order
  round-over end.LogFull ended new sim' same x order = absurd (apart (Err status.LogFull) status.LogFull ended refl same)
  round-over end.NoMemory ended new sim' same x order = absurd (apart (Err status.OutOfMemory) status.OutOfMemory ended refl same)

  -- or it did not, and nothing was written
  module _ (number : ℕ) (held : Option (List ℕ)) (faults : ℕ) (replay' : Replayed) where
    abbrev IsHalted : Status → CoreState → ChipState → Type 0
    IsHalted ended new sim' = IsRoundRun number round old sim held faults ended new sim' replay' held faults

    -- in its settling
    settling_halted : (r : Result Settled OutOfMemory) (ended : Status) (new : CoreState) (sim' : ChipState) → settling_ended r ≡ Err ended → Settling round.sections old sim r new sim' → IsHalted ended new sim'
    settling_halted r ended new sim' same x = by (run_stopped x.mid x.all new sim' r ended same x.settles)
      where
        turned : (stops : StopsRound round old sim new sim') → IsSinceTurned old.board.plan old.sync.capacities (mark_of old) old.log.taken sim.effects stops.since
        turned stops = run_turned x.mid x.all new sim' r x.settles stops

        by : IsStopped round old sim ended new sim' → IsHalted ended new sim'
        by (inl (is, (stops, full, many))) = subst (λ z. IsHalted z new sim') (sym is) ((stops, turned stops), full, many, refl)
        by (inr (is, stops)) = subst (λ z. IsHalted z new sim') (sym is) (inl ((stops, turned stops), refl))

    -- before it, with a full log
    acts_halted : (new : CoreState) (sim' : ChipState) → sim' ≡ sim → FillsUp round.sections old sim new → IsHalted status.LogFull new sim'
    acts_halted new sim' same x = let stop = full_run new x in subst (IsHalted status.LogFull new) (sym same) (stop.0, stop.1, stop.2, refl)

    pub round-halted : (e : RoundEnd) (ended : Status) (new : CoreState) (sim' : ChipState) → round_ended e ≡ Err ended → RoundsTo round.sections old sim e new sim' → IsHalted ended new sim'
    round-halted (end.Ran r) ended new sim' same x = settling_halted (Ok r) ended new sim' same x
    round-halted end.LogFull ended new sim' same (chip, x) = let is : status.LogFull ≡ ended = cc in subst (λ z. IsHalted z new sim') is (acts_halted new sim' chip x)
    round-halted end.NoMemory ended new sim' same (inl (chip, left, x)) =
        let is : status.OutOfMemory ≡ ended = cc in
        subst (λ z. IsHalted z new sim') is (subst (IsHalted status.OutOfMemory new) (sym chip) (inl (stopped_then new left x, refl)))
    round-halted end.NoMemory ended new sim' same (inr (wanting, x)) = settling_halted (Err wanting) ended new sim' same x

-- ---- what is written

module _ (round : Round) (old : CoreState) (sim : ChipState) (replay : Replayed) (ready : IsRunReady old sim replay) (ended : Status) (new : CoreState) (sim' : ChipState) (over : IsOver round old sim ended new sim') where
  module _ (number : ℕ) (counted : 0 < number) where
    has-lines : (lines : List ℕ) → IsRoundText (ended_now new sim' number (length old.log.marks)) replay.at round.shows lines → HasLines number round old sim over.ran lines
    has-lines lines text = record {
      before = number - 1;
      number_is = omega (arith, counted);
      text =
          text-as round.shows lines
          new.board.plan old.board.plan number (number - 1 + 1) (drop (length old.log.marks) new.log.marks) over.ran.marks (length new.log.taken) (length (old.log.taken ++ over.ran.sent)) (rows_of (sent_writes new.log.taken)) (rows_of (sent_writes (old.log.taken ++ over.ran.sent)))
          sim'.capacities old.sync.capacities sim'.objects (chip_after (sim.effects ++ over.ran.calls) (length (sim.effects ++ over.ran.calls))) sim'.effects (sim.effects ++ over.ran.calls) replay.at (length sim.effects)
          over.ends.same.plan
          (omega (arith, counted))
          (ap (λ (h : History). drop (length old.log.marks) h.marks) over.ends.log ∙ drop-append_seam old.log.marks over.ran.marks)
          (ap (λ (h : History). length h.taken) over.ends.log)
          (ap (λ (h : History). rows_of (sent_writes h.taken)) over.ends.log)
          (over.ends.within.stands.always.capacities ∙ over.ends.same.capacities)
          (objects-left new sim' over.ends.within ∙ ap (λ l. chip_after l (length l)) over.ends.calls)
          over.ends.calls
          ready.at_end
          text;
    }

    module _ (held held' : Option (List ℕ)) (faults faults' : ℕ) (result : Status) (replay' : Replayed) where
      as_result : (status : Status) → result ≡ status → IsRoundRun number round old sim held faults status new sim' replay' held' faults' → IsRoundRun number round old sim held faults result new sim' replay' held' faults'
      as_result status is = subst (λ r. IsRoundRun number round old sim held faults r new sim' replay' held' faults') (sym is)

      ready_then : IsReplayOf replay' sim'.effects → replay'.at ≡ length sim'.effects → IsRunReady new sim' replay'
      ready_then follows at = record { ready = over.ready; follows = follows; at_end = at; places = over.ends.places; faults = over.ends.faults }

      pub run-written : IsWritten (ended_now new sim' number (length old.log.marks)) replay.at round.shows ended held faults result replay' held' faults' → IsRoundRun number round old sim held faults result new sim' replay' held' faults'
      run-written (Whole lines text took follows at is) = by over.how
        where
          by : IsEndedAs ended new sim' → IsRoundRun number round old sim held faults result new sim' replay' held' faults'
          by (inl (done, known)) = as_result status.Done (is ∙ done) (over.ran, lines, over.ends, has-lines lines text, took, known, ready_then follows at)
          by (inr (failed, bad, rose)) = as_result status.ChipFault (is ∙ failed) (over.ran, lines, over.ends, has-lines lines text, took, bad, rose, ready_then follows at)
      run-written (Failed lines text took rose is) = as_result status.WriteFault is (over.ran, lines, over.ends, has-lines lines text, took, rose)
      run-written (Wanting lines text took is) = as_result status.OutOfMemory is (inr (over.ran, over.ends, inr (lines, has-lines lines text, took)))
      run-written (Unwritten same is) = as_result status.OutOfMemory is (inr (over.ran, over.ends, inl same))
