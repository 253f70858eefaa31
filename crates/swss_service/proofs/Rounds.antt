-- from the actors to the round
use Rattle.std.proofs.Common.{◌≡◌, inl, inr, ℕ, ◌+◌, List, [], ◌∷◌, ◌++◌, Result, Ok, Err, refl, sym, ap, ◌∙◌, subst, arith}
use Rattle.std.proofs.lemmas.List.{append-nil, append_assoc}
use Rattle.swss_types.specs.declared.out_of_memory.OutOfMemory.{OutOfMemory}
use Rattle.table_schema.specs.declared.write.Sent.{Sent}
use Rattle.sai_types.specs.ChipState.{ChipState}
use Rattle.restart_laws.specs.Logged.{LoggedService}
use Rattle.session_laws.specs.Core.{CoreState}
use Rattle.session_laws.specs.Service.Standing.{IsServiceOf}
use Rattle.orch_core.specs.ComingBack.{SettlesFrom}
use Rattle.orch_core.specs.Restarting.{IsInService}
use Rattle.orch_core.specs.declared.answer.Settled.{Settled}
use Rattle.swss_script.specs.declared.parts.Section.{Section}
use Rattle.intake_queue.specs.Values.{IntakeId, IsAllTaken, IsMet, Receiver, Sender}
use Rattle.round_actors.specs.Follows.{FollowsTaker}
use Rattle.round_actors.specs.Round.{ActorsRan, own_sent}
use Rattle.round_actors.specs.declared.answers.Kept.{Kept}
use Rattle.round_actors.specs.declared.answers.Kept.TheVariants as keeps
use Rattle.round_actors.proofs.Took.{core-ran}
use Rattle.swss_service.specs.CoreAndChip.{CoreAndChip, beside}
use Rattle.swss_service.specs.Rounds.{HaveActed, HasMadeAll, HasMadeSome, HasTakenRest, RoundsBeside, SettlesBoth, end_of_settling, restarts_logged, writes_logged}
use Rattle.swss_service.specs.Served.{IsServed, LacksPlaces}
use Rattle.swss_service.specs.declared.ending.RoundEnd.{RoundEnd}
use Rattle.swss_service.specs.declared.ending.RoundEnd.TheVariants as end
use Rattle.swss_service.proofs.Going.{gone-none}

module _ (most : ℕ) (intake : IntakeId) (sections : List Section) (old : CoreAndChip) (passes : List Sender) where
  -- more was received, and the core took it, but the last where it refused that
  pub acted-on : (now later : CoreAndChip) (taker more : Receiver) (kept : Kept) → HaveActed intake sections old now passes taker keeps.Nothing → more.intake ≡ taker.intake → IsMet more passes → FollowsTaker (writes_logged old) (writes_logged later) more.received kept → restarts_logged later ≡ restarts_logged now → (kept ≡ keeps.LogFull → LacksPlaces later) → HaveActed intake sections old later passes more kept
  acted-on now later taker more kept x here met follows same cause = record {
    made = x.made;
    ran = record { all = x.ran.all; met = met; fronts = x.ran.fronts; whole = λ h. x.ran.whole refl; few = x.ran.few; restarts = λ h. x.ran.restarts refl };
    here = here ∙ x.here;
    follows = follows;
    marked = same ∙ x.marked;
    cause = cause;
  }

  pub made-all : (now : CoreAndChip) (taker : Receiver) → IsServed most old now → HasTakenRest intake sections old now passes taker keeps.Nothing → HasMadeAll most sections old now
  made-all now taker served x = record {
    served = served;
    new = taker.received;
    taken = x.acted.follows;
    whole = λ p. x.all refl p ∙ x.acted.ran.whole refl p;
    restarts = let marked = x.acted.marked in let made = x.acted.ran.restarts refl in omega (arith, marked, made);
  }

  pub made-some : (now : CoreAndChip) (taker : Receiver) (kept : Kept) → IsServed most old now → HaveActed intake sections old now passes taker kept → HasMadeSome most sections kept old now
  made-some now taker kept served x = record {
    served = served;
    ran = core-ran intake sections passes taker x.made (writes_logged old) (writes_logged now) (restarts_logged old) (restarts_logged now) x.marked kept x.ran x.follows;
    cause = x.cause;
  }

-- what the actors came to, as the value tells it
pub acted-by : (intake : IntakeId) (sections : List Section) (old now : CoreAndChip) (passes : List Sender) (taker back : Receiver) (kept told : Kept) (made before : ℕ) (opening : List Sent) → ActorsRan intake sections passes taker kept made → back ≡ taker → told ≡ kept → back.intake ≡ intake → FollowsTaker opening (writes_logged now) back.received told → restarts_logged now ≡ before + made → writes_logged old ≡ opening → restarts_logged old ≡ before → (told ≡ keeps.LogFull → LacksPlaces now) → HaveActed intake sections old now passes back told
acted-by intake sections old now passes taker back kept told made before opening ran same alike here follows marked writes restarts cause = record {
  made = made;
  ran = subst (λ k. ActorsRan intake sections passes back k made) (sym alike) (subst (λ t. ActorsRan intake sections passes t kept made) (sym same) ran);
  here = here;
  follows = subst (λ l. FollowsTaker l (writes_logged now) back.received told) (sym writes) follows;
  marked = omega (arith, marked, restarts);
  cause = cause;
}

-- the last write was refused
pub refused-last : (opening taken received : List Sent) (sent : Sent) (k : Kept) → (k ≡ keeps.Nothing → ⊥) → taken ≡ opening ++ received → FollowsTaker opening taken (received ++ sent ∷ []) k
refused-last opening taken received sent keeps.Nothing not h = absurd (not refl)
refused-last opening taken received sent keeps.LogFull not h = inr (record { before = received; last = sent; received_is = refl; taken_is = h })
refused-last opening taken received sent keeps.NoMemory not h = inr (record { before = received; last = sent; received_is = refl; taken_is = h })

-- one more was taken
pub taken-next : (opening taken taken' received received' : List Sent) (sent : Sent) → taken ≡ opening ++ received → taken' ≡ taken ++ sent ∷ [] → received' ≡ received ++ sent ∷ [] → taken' ≡ opening ++ received'
taken-next opening taken taken' received received' sent h next more = next ∙ ap (λ l. l ++ sent ∷ []) h ∙ append_assoc opening received (sent ∷ []) ∙ ap (λ l. opening ++ l) (sym more)

-- nothing was done
pub made-none : (most : ℕ) (sections : List Section) (c : CoreState) (chip : ChipState) → IsInService c chip → HasMadeSome most sections keeps.NoMemory (beside c chip) (beside c chip)
made-none most sections c chip within = record {
  served = ([], [], gone-none most c chip within);
  ran = record { new = []; taken = sym (append-nil c.log.taken); fronts = λ p. (own_sent p sections, refl); whole = λ h. absurd cc; few = omega arith; restarts = λ h. absurd cc };
  cause = λ h. absurd cc;
}

-- memory was refused when all was taken
pub made-short : (most : ℕ) (intake : IntakeId) (sections : List Section) (old now : CoreAndChip) (passes : List Sender) (taker : Receiver) → IsServed most old now → HaveActed intake sections old now passes taker keeps.Nothing → HasMadeSome most sections keeps.NoMemory old now
made-short most intake sections old now passes taker served x =
    made-some most intake sections old passes now taker keeps.NoMemory served (acted-on most intake sections old passes now now taker taker keeps.NoMemory x refl x.ran.met (inl x.follows) refl (λ h. absurd cc))

-- the settling
pub settled-all : (most : ℕ) (sections : List Section) (old mid new : CoreAndChip) (e : RoundEnd) → HasMadeAll most sections old mid → SettlesBoth mid e new → RoundsBeside most sections old e new
settled-all most sections old mid new (end.Ran r) all h = record { mid = mid; all = all; settles = h }
settled-all most sections old mid new end.LogFull all h = absurd h
settled-all most sections old mid new end.NoMemory all h = inr (h.0, record { mid = mid; all = all; settles = h.1 })

-- ---- by the functions of a round

module _ (most : ℕ) (intake : IntakeId) (sections : List Section) (old : CoreAndChip) where
  pub rest-refused : (passes : List Sender) (now : CoreAndChip) (taker : Receiver) (kept : Kept) → (kept ≡ keeps.Nothing → ⊥) → HaveActed intake sections old now passes taker kept → HasTakenRest intake sections old now passes taker kept
  rest-refused passes now taker kept not x = record { acted = x; all = λ h. absurd (not h) }

  pub rest-taken : (passes passes' : List Sender) (now later : CoreAndChip) (taker more : Receiver) (kept k : Kept) → kept ≡ keeps.Nothing → passes' ≡ passes → HaveActed intake sections old now passes taker kept → more.intake ≡ taker.intake → IsMet more passes → ((opening : List Sent) → writes_logged now ≡ opening ++ taker.received → FollowsTaker opening (writes_logged later) more.received k) → restarts_logged later ≡ restarts_logged now → (k ≡ keeps.Nothing → IsAllTaken more passes) → (k ≡ keeps.LogFull → LacksPlaces later) → HasTakenRest intake sections old later passes' more k
  rest-taken passes passes' now later taker more kept k calm same x here met follows restarts all cause =
      subst (λ ps. HasTakenRest intake sections old later ps more k) (sym same)
      (record { acted = acted-on most intake sections old passes now later taker more k y here met (follows (writes_logged old) y.follows) restarts cause; all = all })
    where
      y : HaveActed intake sections old now passes taker keeps.Nothing
      y = subst (HaveActed intake sections old now passes taker) calm x

  module _ (passes : List Sender) (now : CoreAndChip) (taker : Receiver) (kept : Kept) (served : IsServed most old now) (x : HasTakenRest intake sections old now passes taker kept) (e : RoundEnd) (last : CoreAndChip) where
    rest-at : (k : Kept) → kept ≡ k → HasTakenRest intake sections old now passes taker k
    rest-at k at = subst (HasTakenRest intake sections old now passes taker) at x

    pub ends-settled : kept ≡ keeps.Nothing → SettlesBoth now e last → RoundsBeside most sections old e last
    ends-settled calm h = settled-all most sections old now last e (made-all most intake sections old passes now taker served (rest-at keeps.Nothing calm)) h

    pub ends-short : kept ≡ keeps.Nothing → last ≡ now → e ≡ end.NoMemory → RoundsBeside most sections old e last
    ends-short calm same at =
        subst (λ z. RoundsBeside most sections old z last) (sym at)
        (subst (λ z. RoundsBeside most sections old end.NoMemory z) (sym same) (inl (made-short most intake sections old now passes taker served (rest-at keeps.Nothing calm).acted)))

    pub ends-full : kept ≡ keeps.LogFull → last ≡ now → e ≡ end.LogFull → RoundsBeside most sections old e last
    ends-full full same at =
        subst (λ z. RoundsBeside most sections old z last) (sym at)
        (subst (λ z. RoundsBeside most sections old end.LogFull z) (sym same) (made-some most intake sections old passes now taker keeps.LogFull served (rest-at keeps.LogFull full).acted))

    pub ends-refused : kept ≡ keeps.NoMemory → last ≡ now → e ≡ end.NoMemory → RoundsBeside most sections old e last
    ends-refused short same at =
        subst (λ z. RoundsBeside most sections old z last) (sym at)
        (subst (λ z. RoundsBeside most sections old end.NoMemory z) (sym same) (inl (made-some most intake sections old passes now taker keeps.NoMemory served (rest-at keeps.NoMemory short).acted)))

-- a settling by how it ends the round
pub settles-both : (mid last : CoreAndChip) (r : Result Settled OutOfMemory) → ((s : LoggedService) → IsServiceOf mid.core mid.chip s → SettlesFrom s mid.core mid.chip r last.core last.chip) → SettlesBoth mid (end_of_settling r) last
settles-both mid last (Ok r) h = h
settles-both mid last (Err e) h = (e, h)
