-- what the calls of a round's core keep, and what they come to
use Rattle.std.proofs.Common.{◌≡◌, ℕ, ◌+◌, ◌≤◌, List, [], ◌∷◌, ◌++◌, length, Result, Ok, Err, IfOk, OnErr, refl, sym, ap, ◌∙◌, subst, arith}
use Rattle.std.proofs.lemmas.List.{append-nil}
use Rattle.swss_types.specs.declared.out_of_memory.OutOfMemory.{OutOfMemory}
use Rattle.table_schema.specs.KeyText.{key_text}
use Rattle.table_schema.specs.ProperKey.{IsReadKey}
use Rattle.table_schema.specs.Writes.{HasReadKey}
use Rattle.table_schema.specs.declared.key.Key.{Key}
use Rattle.table_schema.specs.declared.write.Sent.{Sent}
use Rattle.table_schema.specs.declared.write.Write.{Write}
use Rattle.table_schema.specs.declared.write.Write.TheVariants as write
use Rattle.sai_types.specs.ChipState.{ChipState}
use Rattle.switch_model.specs.History.{History}
use Rattle.switch_model.specs.Marks.{written_key}
use Rattle.switch_model.specs.declared.mark.Mark.{Mark}
use Rattle.switch_model.specs.declared.mark.MarkEvent.TheVariants as event
use Rattle.machine_laws.specs.Reading.{IsOnSwitch}
use Rattle.machine_laws.proofs.Switched.{switched-key_of}
use Rattle.restart_laws.specs.Logged.{LoggedService, session_after}
use Rattle.session_laws.specs.Core.{CoreState, IsFullFor, mark_at, with_taken}
use Rattle.session_laws.specs.Service.Events.{MakesMore, MakesNext, restarted}
use Rattle.session_laws.specs.Service.Standing.{IsServiceOf}
use Rattle.orch_core.specs.ComingBack.{restarts_marked}
use Rattle.orch_core.specs.Restarting.{IsInService, MarksRestart, RestartsStep, StepsFrom}
use Rattle.orch_core.specs.Taking.{TakesNext, TakesSent}
use Rattle.orch_core.specs.declared.answer.LogFull.{LogFull}
use Rattle.orch_core.specs.declared.answer.Step.{Step}
use Rattle.orch_core.specs.declared.answer.Step.TheVariants as step
use Rattle.orch_core.specs.declared.answer.TakeFault.{TakeFault}
use Rattle.orch_core.specs.declared.answer.TakeFault.TheVariants as fault
use Rattle.orch_core.proofs.Coming.{restarts_both}
use Rattle.swss_service.specs.CoreAndChip.{CoreAndChip, beside}
use Rattle.swss_service.specs.Going.{HasGoneOn}
use Rattle.round_actors.specs.declared.answers.Step.TheVariants as told
use Rattle.round_actors.specs.declared.round_core.Refusal.{Refusal}
use Rattle.round_actors.specs.declared.round_core.Refusal.TheVariants as refusals
use Rattle.swss_service.specs.Served.{IsServed, LacksPlaces, core_step, told_step}
use Rattle.swss_service.proofs.Going.{gone-both, gone-in, gone-none, gone-restarted, gone-taken}
use Rattle.swss_service.proofs.Stepping.{gone-stepped, lacks-same, step-lacks}

-- a key that was read is one that a text is
on-read : (k : Key) → IsReadKey k → IsOnSwitch k
on-read k is = subst IsOnSwitch is.reads (switched-key_of (key_text k))

pub on-write : (w : Write) → HasReadKey w → IsOnSwitch (written_key w)
on-write (write.Set k fields) is = on-read k is
on-write (write.Del k) is = on-read k is

-- the core answered what a worker is told
pub told-core : (r : Step) → core_step (told_step r) ≡ r
told-core step.Did = refl
told-core step.Idle = refl
told-core step.Suspect = refl
told-core step.Faulted = refl
told-core step.LogFull = refl

-- at the opening
pub served-new : (most : ℕ) (o : CoreAndChip) (c : CoreState) (chip : ChipState) → o ≡ beside c chip → IsInService c chip → IsServed most o (beside c chip)
served-new most o c chip is within = subst (λ z. IsServed most z (beside c chip)) (sym is) ([], [], gone-none most c chip within)

-- how many restarts are marked, and the writes taken
abbrev pub restarts_of : CoreState → ℕ
restarts_of c = restarts_marked c.log.marks

module _ (most : ℕ) (o : CoreAndChip) (c : CoreState) (chip : ChipState) (x : IsServed most o (beside c chip)) where
  pub within : IsInService c chip
  within = gone-in most o c chip x.0 x.1 x.2

  goes : (d : CoreState) (dchip : ChipState) (ts : List Sent) (ms : List Mark) → HasGoneOn most (beside c chip) d dchip ts ms → IsServed most o (beside d dchip)
  goes d dchip ts ms y = (x.0 ++ ts, x.1 ++ ms, gone-both most o c d chip dchip x.0 ts x.1 ms x.2 y)

  stays : (d : CoreState) → d ≡ c → IsServed most o (beside d chip)
  stays d same = subst (λ z. IsServed most o (beside z chip)) (sym same) x

  -- ---- a write

  module _ (sent : Sent) (effects : ℕ) (count : effects ≡ length chip.effects) where
    pub served-taken : (r : Result (Result (Unit {0}) TakeFault) OutOfMemory) (d : CoreState) → IsOnSwitch (written_key sent.write) → IfOk r (λ t. TakesSent c sent effects t d) → OnErr r (d ≡ c) → ((chip : ChipState) (u : LoggedService) → IsServiceOf c chip u → IsOnSwitch (written_key sent.write) → TakesNext u c chip r d) → IsServed most o (beside d chip)
    served-taken (Ok (Ok done)) d on ok err next =
        subst (λ z. IsServed most o (beside z chip)) (sym ok.0)
        (goes (with_taken c sent) chip (sent ∷ []) [] (gone-taken most c chip sent within (λ full. ok.1 (omega (arith, full, count))) (λ u is. subst (λ z. MakesNext c u z chip) ok.0 (next chip u is on))))
    served-taken (Ok (Err (fault.LogFull back))) d on ok err next = stays d ok.0
    served-taken (Err e) d on ok err next = stays d err

  -- ---- a restart

  module _ (effects : ℕ) (count : effects ≡ length chip.effects) where
    pub served-restarted : (r : Result (Result (Unit {0}) LogFull) OutOfMemory) (d : CoreState) → IfOk r (λ t. MarksRestart c effects t d) → OnErr r (d ≡ c) → ((chip : ChipState) (u : LoggedService) → IsServiceOf c chip u → effects ≡ length chip.effects → RestartsStep u c chip r d) → IsServed most o (beside d chip)
    served-restarted (Ok (Ok done)) d ok err next =
        subst (λ z. IsServed most o (beside z chip)) (sym ok.0)
        (goes (restarted c effects) chip [] (mark_at c effects event.Restarted ∷ []) (gone-restarted most c chip effects count within ok.1 (λ u is. subst (λ z. MakesNext c u z chip) ok.0 (next chip u is count))))
    served-restarted (Ok (Err full)) d ok err next = stays d ok.0
    served-restarted (Err e) d ok err next = stays d err

  -- ---- a step

  module _ (w : ℕ) (few : w ≤ most) (r : Result Step OutOfMemory) (d : CoreState) (dchip : ChipState) (steps : (s : LoggedService) → IsServiceOf c chip s → StepsFrom c.warm w s c chip r d dchip) (more : (s : LoggedService) → IsServiceOf c chip s → MakesMore w c s d dchip) where
    stepped : (marks : List Mark) × HasGoneOn most (beside c chip) d dchip [] marks × (restarts_marked marks ≡ 0)
    stepped = gone-stepped most c chip within w few r d dchip steps more

    pub served-stepped : IsServed most o (beside d dchip)
    served-stepped = goes d dchip [] stepped.0 stepped.1

    pub stepped-same : (d.log.taken ≡ c.log.taken) × (restarts_of d ≡ restarts_of c)
    stepped-same =
        let y = stepped in
        let both = restarts_both c.log.marks y.0 in
        let none = y.2 in
        let marks : restarts_of d ≡ restarts_marked (c.log.marks ++ y.0) = ap (λ (h : History). restarts_marked h.marks) y.1.log in
        (ap (λ (h : History). h.taken) y.1.log ∙ append-nil c.log.taken, omega (arith, both, none, marks))

  -- the step found the log full
  step-cause : (r : Result Step OutOfMemory) → ((s : LoggedService) → IsServiceOf c chip s → (w : ℕ) (d : CoreState) (dchip : ChipState) → StepsFrom c.warm w s c chip r d dchip → (t : Step) → r ≡ Ok t → told_step t ≡ told.LogFull → LacksPlaces (beside d dchip))
  step-cause r s is w d dchip steps step.LogFull at full = step-lacks c chip s is w d dchip (subst (λ z. StepsFrom c.warm w s c chip z d dchip) at steps)
  step-cause r s is w d dchip steps step.Did at full = absurd cc
  step-cause r s is w d dchip steps step.Idle at full = absurd cc
  step-cause r s is w d dchip steps step.Suspect at full = absurd cc
  step-cause r s is w d dchip steps step.Faulted at full = absurd cc

  pub stepped-cause : (w : ℕ) (r : Result Step OutOfMemory) (d : CoreState) (dchip : ChipState) → ((s : LoggedService) → IsServiceOf c chip s → StepsFrom c.warm w s c chip r d dchip) → (t : Step) → r ≡ Ok t → told_step t ≡ told.LogFull → LacksPlaces (beside d dchip)
  stepped-cause w r d dchip steps = step-cause r within.0 within.1 w d dchip (steps within.0 within.1)

-- a write or a restart found it full, and nothing was done
pub refused-cause : (r : Result (Unit {0}) Refusal) (old new : CoreAndChip) → OnErr r (new ≡ old) → (r ≡ Err refusals.LogFull → IsFullFor old.core (length old.chip.effects) 1) → r ≡ Err refusals.LogFull → LacksPlaces new
refused-cause r old new err full is = subst LacksPlaces (sym (subst (λ z. OnErr z (new ≡ old)) is err)) (lacks-same old.core old.chip old.core old.chip 1 refl refl (full is) (omega arith))

-- one mark of a restart more
pub restarts_more : (c : CoreState) (effects : ℕ) → restarts_of (restarted c effects) ≡ restarts_of c + 1
restarts_more c effects = restarts_both c.log.marks (mark_at c effects event.Restarted ∷ [])

-- whole steps led to a session that both stand for
pub stepped-in : (w : ℕ) (c d : CoreState) (chip dchip : ChipState) → IsInService c chip → ((s : LoggedService) → IsServiceOf c chip s → MakesMore w c s d dchip) → IsInService d dchip
stepped-in w c d chip dchip x more = let y = more x.0 x.1 in (session_after x.0 y.steps, y.stands)
