-- what comes behind the last apply of a round
use Rattle.std.proofs.Common.{◌≡◌, ℕ, ◌+◌, List, [], ◌∷◌, ◌++◌, length, Some, refl, sym, ap, ◌∙◌, subst, arith}
use Rattle.std.proofs.lemmas.List.{append-nil, append_assoc, append_cancel_left, length-append}
use Rattle.table_schema.specs.Plan.{Ports}
use Rattle.table_schema.specs.declared.write.Sent.{Sent}
use Rattle.sai_types.specs.ChipState.{ChipState}
use Rattle.sai_types.specs.declared.ids.Rid.{Rid}
use Rattle.sai_types.specs.declared.body.Call.{Call}
use Rattle.switch_model.specs.History.{History, with_end, with_mark}
use Rattle.switch_model.specs.declared.mark.Mark.{Mark}
use Rattle.switch_model.specs.declared.mark.MarkEvent.TheVariants as event
use Rattle.switch_machine.specs.Events.{SwitchState}
use Rattle.session_laws.specs.Core.{CoreState}
use Rattle.session_laws.specs.Leading.{SettlesTo}
use Rattle.session_laws.specs.Service.Events.{MakesMore}
use Rattle.round_laws.specs.Between.{IsAtRestSince, IsInRound, RoundEnds, round_from}
use Rattle.round_laws.specs.Ended.{EndedRound}
use Rattle.round_laws.specs.Quiet.{LeavesQuietRows}
use Rattle.round_laws.specs.Sessions.{InSession}
use Rattle.round_laws.specs.Turns.{IsMadeSoFar}
use Rattle.round_laws.proofs.Between.{round-begins}
use Rattle.round_laws.proofs.Drained.{round-drained}
use Rattle.round_laws.proofs.Ending.{round-ends}
use Rattle.round_laws.proofs.Quieted.{quiet-so-far}
use Rattle.orch_core.specs.Settled.{SettlesSoFar, StopsFaulted}
use Rattle.swss_run.specs.Rounds.{Ran}
use Rattle.swss_run.specs.Running.{HasCome}
use Rattle.swss_run.specs.Turned.{EndedApply, EndsTurned, behind_apply}
use Rattle.swss_run.proofs.CutOff.{cut-failed, cut-stopped}

-- ---- the last marks

-- lists that are the same with one more are the same, and so are their last
pub same-last : (xs ys : List Mark) (x y : Mark) → xs ++ x ∷ [] ≡ ys ++ y ∷ [] → (xs ≡ ys) × (x ≡ y)
same-last [] [] x y is = (refl, cc)
same-last [] (b ∷ ys) x y is = absurd (longer (ap length is) (length-append (b ∷ ys) (y ∷ [])))
  where
    longer : length ([] ++ x ∷ []) ≡ length ((b ∷ ys) ++ y ∷ []) → length ((b ∷ ys) ++ y ∷ []) ≡ length (b ∷ ys) + length (y ∷ []) → ⊥
    longer h m = omega (arith, h, m)
same-last (a ∷ xs) [] x y is = absurd (longer (ap length is) (length-append (a ∷ xs) (x ∷ [])))
  where
    longer : length ((a ∷ xs) ++ x ∷ []) ≡ length ([] ++ y ∷ []) → length ((a ∷ xs) ++ x ∷ []) ≡ length (a ∷ xs) + length (x ∷ []) → ⊥
    longer h m = omega (arith, h, m)
same-last (a ∷ xs) (b ∷ ys) x y is =
    let head : a ≡ b = cc in
    let tail : xs ++ x ∷ [] ≡ ys ++ y ∷ [] = cc in
    let rest = same-last xs ys x y tail in
    (ap (λ z. z ∷ xs) head ∙ ap (λ l. b ∷ l) rest.0, rest.1)

-- and of two more the one before the last
pub same-last-two : (xs ys : List Mark) (x y ended : Mark) → xs ++ x ∷ [] ≡ ys ++ ended ∷ y ∷ [] → (xs ≡ ys ++ ended ∷ []) × (x ≡ y)
same-last-two xs ys x y ended is = same-last xs (ys ++ ended ∷ []) x y (is ∙ sym (append_assoc ys (ended ∷ []) (y ∷ [])))

-- ---- an apply that ended

-- an apply ended, the last mark is that of its end, and the core is at rest since that of its beginning
pub record IsBehind (old : CoreState) (sim : ChipState) (since : Ran) (c : CoreState) (cchip : ChipState) (come : HasCome old sim since c cchip) : Type 0 where
  pub earlier : List Mark
  pub began : Mark
  pub ended : Mark
  pub marks : since.marks ≡ earlier ++ began ∷ ended ∷ []
  pub end : ended.event ≡ event.ApplyEnded
  pub counted : ended.effects ≡ length cchip.effects
  pub resting : IsAtRestSince 1 (Some began) c cchip
  pub within : resting.within ≡ come.within

module _ (old : CoreState) (sim : ChipState) (since : Ran) (c : CoreState) (cchip : ChipState) (come : HasCome old sim since c cchip) (x : IsBehind old sim since c cchip come) where
  -- what came with these calls and marks behind it
  abbrev pub ran_behind : List (Call Rid) → List Mark → Ran
  ran_behind calls behind = record { marks = since.marks ++ behind; sent = since.sent; calls = since.calls ++ calls }

  abbrev pub ends_apply : (calls : List (Call Rid)) (behind : List Mark) → EndedApply sim.effects (ran_behind calls behind) behind
  ends_apply calls behind = record {
    earlier = x.earlier;
    began = x.began;
    ended = x.ended;
    marks = ap (λ l. l ++ behind) x.marks ∙ append_assoc x.earlier (x.began ∷ x.ended ∷ []) behind;
    end = x.end;
    applied = since.calls;
    calls = calls;
    made = refl;
    counted = x.counted ∙ ap length come.calls;
  }

  abbrev begun : IsInRound 1 (Some x.began) c cchip [] c
  begun = round-begins (Some x.began) c cchip x.resting

  -- in the words of the round's beginning
  abbrev its_round : List (Call Rid) → List Mark → Mark → EndedRound
  its_round calls behind mark = behind_apply old.log.taken sim.effects (ran_behind calls behind) behind (ends_apply calls behind) mark

  same_round : (calls : List (Call Rid)) (behind : List Mark) (mark : Mark) → round_from (Some x.began) c cchip [] calls mark ≡ its_round calls behind mark
  same_round calls behind mark =
      ap (λ ts. record { before = Some x.began; taken = ts; effects = cchip.effects; sent = []; calls = calls; mark = mark }) (ap (λ (h : History). h.taken) come.log)
      ∙ ap (λ es. record { before = Some x.began; taken = old.log.taken ++ since.sent; effects = es; sent = []; calls = calls; mark = mark }) come.calls

  as_old : (P : Ports → List ℕ → EndedRound → Type 0) (calls : List (Call Rid)) (behind : List Mark) (mark : Mark) → P c.board.plan c.sync.capacities (round_from (Some x.began) c cchip [] calls mark) → P old.board.plan old.sync.capacities (its_round calls behind mark)
  as_old P calls behind mark h =
      subst (λ p. P p old.sync.capacities (its_round calls behind mark)) come.same.plan
      (subst (λ l. P c.board.plan l (its_round calls behind mark)) come.same.capacities
      (subst (P c.board.plan c.sync.capacities) (same_round calls behind mark) h))

  module _ (new : CoreState) (sim' : ChipState) where
    -- ---- a settling that ended

    pub ends-behind : SettlesTo c come.within.session new sim' → RoundEnds 1 (Some x.began) c cchip [] new sim'
    ends-behind e = round-ends (Some x.began) c c new cchip sim' [] begun (omega arith) (subst (λ (w : InSession 1 c cchip). SettlesTo c w.session new sim') (sym x.within) e)

    pub log-behind : (y : RoundEnds 1 (Some x.began) c cchip [] new sim') → new.log ≡ with_end (with_mark c.log y.mark)
    log-behind y = y.log ∙ ap (λ ts. with_end (with_mark (record { taken = ts; marks = c.log.marks; ends = c.log.ends }) y.mark)) (append-nil c.log.taken)

    pub turned-behind : (y : RoundEnds 1 (Some x.began) c cchip [] new sim') → (z : EndedApply sim.effects (ran_behind y.calls (y.mark ∷ [])) (y.mark ∷ [])) × EndsTurned old.board.plan old.sync.capacities (behind_apply old.log.taken sim.effects (ran_behind y.calls (y.mark ∷ [])) (y.mark ∷ []) z y.mark)
    turned-behind y = (
      ends_apply y.calls (y.mark ∷ []),
      as_old EndsTurned y.calls (y.mark ∷ []) y.mark (record { made = y.made; quiet = y.quiet; drains = λ from least. round-drained c.board.plan c.sync.capacities (round_from (Some x.began) c cchip [] y.calls y.mark) y.made from least }),
    )

    -- ---- one that was cut off

    module _ (calls : List (Call Rid)) (grown : sim'.effects ≡ cchip.effects ++ calls) where
      pub failed-behind : StopsFaulted (SettlesSoFar c.board.plan c.sync.capacities) come.within.session c cchip new sim' → (behind : List Mark) (mark : Mark) → (z : EndedApply sim.effects (ran_behind calls behind) behind) × IsMadeSoFar old.board.plan old.sync.capacities (behind_apply old.log.taken sim.effects (ran_behind calls behind) behind z mark)
      failed-behind f behind mark = (
        ends_apply calls behind,
        as_old IsMadeSoFar calls behind mark (cut-failed (Some x.began) c cchip [] c begun new sim' (subst (λ (w : InSession 1 c cchip). StopsFaulted (SettlesSoFar c.board.plan c.sync.capacities) w.session c cchip new sim') (sym x.within) f) calls grown mark),
      )

      pub stopped-behind : (t : SwitchState) (made : List (Call Rid)) → SettlesSoFar c.board.plan c.sync.capacities come.within.session.service.core t made → sim'.effects ≡ cchip.effects ++ made → MakesMore 0 c come.within.session new sim' → new.log ≡ c.log → (z : EndedApply sim.effects (ran_behind calls []) []) × ((mark : Mark) → IsMadeSoFar old.board.plan old.sync.capacities (behind_apply old.log.taken sim.effects (ran_behind calls []) [] z mark) × LeavesQuietRows old.board.plan (behind_apply old.log.taken sim.effects (ran_behind calls []) [] z mark))
      stopped-behind t made so grew more log = (
        ends_apply calls [],
        λ mark. (
          as_old IsMadeSoFar calls [] mark (cut-stopped (Some x.began) c cchip [] c begun t made (subst (λ (w : InSession 1 c cchip). SettlesSoFar c.board.plan c.sync.capacities w.session.service.core t made) (sym x.within) so) sim' grew calls grown mark),
          as_old (λ plan capacities r. LeavesQuietRows plan r) calls [] mark (quiet-so-far (Some x.began) c c new cchip sim' [] begun (subst (λ (w : InSession 1 c cchip). MakesMore 0 c w.session new sim') (sym x.within) more) log calls grown mark),
        ),
      )

-- ---- a round that did not end

-- behind an apply, the mark of whose end is its last, its calls are those of its turns so far, and leave quiet rows alone
abbrev pub IsTurnedSince : CoreState → ChipState → Ran → Type 0
IsTurnedSince old sim since = (x : EndedApply sim.effects since []) × ((mark : Mark) → IsMadeSoFar old.board.plan old.sync.capacities (behind_apply old.log.taken sim.effects since [] x mark) × LeavesQuietRows old.board.plan (behind_apply old.log.taken sim.effects since [] x mark))

-- what came, by its three lists
ran-as : (r : Ran) (marks : List Mark) (sent : List Sent) (calls : List (Call Rid)) → r.marks ≡ marks → r.sent ≡ sent → r.calls ≡ calls → r ≡ record { marks = marks; sent = sent; calls = calls }
ran-as r marks sent calls ms ss cs =
    ap (λ l. record { marks = l; sent = r.sent; calls = r.calls }) ms ∙ ap (λ l. record { marks = marks; sent = l; calls = r.calls }) ss ∙ ap (λ l. record { marks = marks; sent = sent; calls = l }) cs

module _ (old : CoreState) (sim : ChipState) (since : Ran) (new : CoreState) (sim' : ChipState) (come : HasCome old sim since new sim') where
  -- no round ended
  pub unended : (ends : List ℕ) (n : ℕ) → new.log.ends ≡ ends ++ n ∷ [] → ends ≡ old.log.ends → ⊥
  unended ends n is same =
      let one = length-append ends (n ∷ []) in
      let long = ap length is in
      let now = ap (λ (h : History). length h.ends) come.log in
      let before = ap length same in
      omega (arith, one, long, now, before)

  -- where marks were made, there are more than before
  pub marked-more : (earlier : List Mark) (ended : Mark) → since.marks ≡ earlier ++ ended ∷ [] → new.log.marks ≡ old.log.marks → ⊥
  marked-more earlier ended is same =
      let one = ap length is ∙ length-append earlier (ended ∷ []) in
      let more = length-append old.log.marks since.marks in
      let now = ap (λ (h : History). length h.marks) come.log in
      let before = ap length same in
      omega (arith, one, more, now, before)

  -- what came is what had come with a core whose log is the same, and these calls behind it
  pub since-same : (on : Ran) (c : CoreState) (cchip : ChipState) → HasCome old sim on c cchip → new.log ≡ c.log → (calls : List (Call Rid)) → sim'.effects ≡ cchip.effects ++ calls → since ≡ record { marks = on.marks ++ []; sent = on.sent; calls = on.calls ++ calls }
  since-same on c cchip x log calls grown =
      ran-as since (on.marks ++ []) on.sent (on.calls ++ calls)
      (append_cancel_left old.log.marks since.marks on.marks (ap (λ (h : History). h.marks) (sym come.log ∙ log ∙ x.log)) ∙ sym (append-nil on.marks))
      (append_cancel_left old.log.taken since.sent on.sent (ap (λ (h : History). h.taken) (sym come.log ∙ log ∙ x.log)))
      (append_cancel_left sim.effects since.calls (on.calls ++ calls) (sym come.calls ∙ grown ∙ ap (λ l. l ++ calls) x.calls ∙ append_assoc sim.effects on.calls calls))
