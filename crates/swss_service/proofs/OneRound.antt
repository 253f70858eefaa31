-- what a round with one worker comes to, from its acts
use Rattle.std.proofs.Common.{◌≡◌, inl, inr, ℕ, List, [], ◌∷◌, ◌++◌, length, Result, Ok, Err, refl, sym, ap, ◌∙◌, subst, arith}
use Rattle.swss_types.specs.declared.out_of_memory.OutOfMemory.{OutOfMemory}
use Rattle.table_schema.specs.declared.write.Sent.{Sent}
use Rattle.sai_types.specs.ChipState.{ChipState}
use Rattle.restart_laws.specs.Logged.{LoggedService}
use Rattle.session_laws.specs.Core.{CoreState, IsFullFor}
use Rattle.session_laws.specs.Service.Standing.{IsServiceOf}
use Rattle.orch_core.specs.ComingBack.{SettlesFrom}
use Rattle.orch_core.specs.Outcomes.{IsWithinLimit}
use Rattle.orch_core.specs.declared.answer.Settled.{Settled}
use Rattle.swss_script.specs.Sent.{sent_after, writes_in}
use Rattle.swss_script.specs.declared.parts.Act.{Act}
use Rattle.swss_script.specs.declared.parts.Act.TheVariants as act
use Rattle.swss_script.specs.declared.parts.Round.{Round}
use Rattle.swss_script.specs.declared.parts.Section.{Section}
use Rattle.round_actors.specs.declared.answers.Kept.{Kept}
use Rattle.round_actors.specs.declared.answers.Kept.TheVariants as keeps
use Rattle.swss_service.specs.CoreAndChip.{CoreAndChip, beside}
use Rattle.swss_service.specs.Made.{with_made, writes_among}
use Rattle.swss_service.specs.Round.{AreAllMade, AreSomeMade, FillsUp, RoundsTo, SettlesActs}
use Rattle.swss_service.specs.Rounds.{HasMadeAll, RoundsBeside, SettlesBoth}
use Rattle.swss_service.specs.Served.{IsServed}
use Rattle.swss_service.specs.Taking.{IsRoundMade, acts_in, acts_made}
use Rattle.swss_service.specs.declared.ending.RoundEnd.{RoundEnd}
use Rattle.swss_service.specs.declared.ending.RoundEnd.TheVariants as end
use Rattle.swss_service.proofs.Acts.{made-append, restarts-front, restarts-made, sent-front, sent-made}
use Rattle.swss_service.proofs.Alike.{all-alike, some-alike}
use Rattle.swss_service.proofs.Rounds.{settled-all}
use Rattle.swss_service.proofs.Stepping.{lacks-same}

module _ (sections : List Section) (old : CoreState) (chip : ChipState) (mid : CoreState) (places : IsWithinLimit old chip → IsWithinLimit mid chip) where
  abbrev round : Round
  round = record { sections = sections; shows = [] }

  pub acts-all : IsRoundMade (length chip.effects) (acts_in sections) old keeps.Nothing mid → AreAllMade sections old chip mid
  acts-all (counts, (is, counted)) = record { made = acts_made [] (acts_in sections); order = refl; is = is; writes = sym (sent-made round); restarts = restarts-made round; places = places }

  -- the first of the acts
  module _ (done later : List (ℕ × Act)) (split : acts_in sections ≡ done ++ later) (is : mid ≡ with_made (length chip.effects) old (acts_made [] done)) where
    abbrev sent_then : List Sent
    sent_then = writes_among (acts_made [] done)

    abbrev left : List Sent
    left = writes_among (acts_made sent_then later)

    acts-some : AreSomeMade sections old chip mid left
    acts-some = record {
      made = acts_made [] done;
      later = acts_made sent_then later;
      order = sym (made-append [] done later) ∙ ap (acts_made []) (sym split);
      is = is;
      writes = sym (sent-front round done later split);
      restarts = let all = restarts-front round done later split in omega (arith, all);
      places = places;
    }

  pub some-wanting : IsRoundMade (length chip.effects) (acts_in sections) old keeps.NoMemory mid → (left : List Sent) × AreSomeMade sections old chip mid left
  some-wanting (counts, (done, later, split, is)) = (left done later split is, acts-some done later split is)

  full-at : (done : List (ℕ × Act)) (producer : ℕ) (a : Act) (later : List (ℕ × Act)) → acts_in sections ≡ done ++ (producer, a) ∷ later → mid ≡ with_made (length chip.effects) old (acts_made [] done) → IsFullFor mid (length chip.effects) 1 → FillsUp sections old chip mid
  unfolding acts-some
  full-at done producer (act.Write w) later split is full = record { left = left done ((producer, act.Write w) ∷ later) split is; some = acts-some done ((producer, act.Write w) ∷ later) split is; full = full; due = inl (omega arith) }
  full-at done producer act.Restart later split is full = record {
    left = left done ((producer, act.Restart) ∷ later) split is;
    some = acts-some done ((producer, act.Restart) ∷ later) split is;
    full = full;
    due = inr (let all = restarts-front round done ((producer, act.Restart) ∷ later) split in omega (arith, all));
  }

  pub full-taking : IsRoundMade (length chip.effects) (acts_in sections) old keeps.LogFull mid → FillsUp sections old chip mid
  full-taking (counts, (done, (producer, a), later, split, is, full)) = full-at done producer a later split is full

-- before anything is made
pub none-made : (sections : List Section) (c : CoreState) (chip : ChipState) (last : CoreAndChip) → last ≡ beside c chip → RoundsTo sections c chip end.NoMemory last.core last.chip
none-made sections c chip last is =
    subst (λ (z : CoreAndChip). RoundsTo sections c chip end.NoMemory z.core z.chip) (sym is) (inl (
      refl,
      sent_after [] (writes_in sections),
      record {
        made = [];
        later = acts_made [] (acts_in sections);
        order = refl;
        is = refl;
        writes = refl;
        restarts = omega arith;
        places = λ h. h;
      },
    ))

-- ---- by how it ended

module _ (most : ℕ) (sections : List Section) (o : CoreAndChip) (mid : CoreAndChip) (same : mid.chip ≡ o.chip) (served : IsServed most o mid) where
  abbrev pub Both : RoundEnd → CoreAndChip → Type 0
  Both e then = RoundsTo sections o.core o.chip e then.core then.chip × RoundsBeside most sections o e then

  abbrev Made : Kept → Type 0
  Made kept = IsRoundMade (length o.chip.effects) (acts_in sections) o.core kept mid.core

  places : IsWithinLimit o.core o.chip → IsWithinLimit mid.core o.chip
  places h = subst (IsWithinLimit mid.core) same (served.2.places h)

  its : IsServed most o (beside mid.core o.chip)
  its = subst (λ z. IsServed most o (beside mid.core z)) same served

  as-mid : (P : CoreAndChip → Type 0) → P (beside mid.core o.chip) → P mid
  as-mid P h = subst (λ z. P (beside mid.core z)) (sym same) h

  pub alone-full : Made keeps.LogFull → (e : RoundEnd) (last : CoreAndChip) → e ≡ end.LogFull → last ≡ mid → Both e last
  alone-full made e last ended is =
      let fills = full-taking sections o.core o.chip mid.core places made in
      subst (λ x. Both x last) (sym ended)
      (subst (Both end.LogFull) (sym is) ((same, fills), as-mid (RoundsBeside most sections o end.LogFull) (some-alike most sections o mid.core its keeps.LogFull (λ h. absurd cc) fills.left fills.some (λ h. lacks-same mid.core o.chip mid.core o.chip 1 refl refl fills.full (omega arith)))))

  pub alone-short : Made keeps.NoMemory → (e : RoundEnd) (last : CoreAndChip) → e ≡ end.NoMemory → last ≡ mid → Both e last
  alone-short made e last ended is =
      let some = some-wanting sections o.core o.chip mid.core places made in
      subst (λ x. Both x last) (sym ended)
      (subst (Both end.NoMemory) (sym is) (inl (same, some.0, some.1), as-mid (RoundsBeside most sections o end.NoMemory) (inl (some-alike most sections o mid.core its keeps.NoMemory (λ h. absurd cc) some.0 some.1 (λ h. absurd cc)))))

  pub alone-settled : Made keeps.Nothing → (e : RoundEnd) (last : CoreAndChip) → SettlesBoth mid e last → Both e last
  alone-settled made e last h =
      let all = acts-all sections o.core o.chip mid.core places made in
      (by all e h, settled-all most sections o mid last e (as-mid (HasMadeAll most sections o) (all-alike most sections o mid.core its all)) h)
    where
      settled : AreAllMade sections o.core o.chip mid.core → (r : Result Settled OutOfMemory) → ((s : LoggedService) → IsServiceOf mid.core mid.chip s → SettlesFrom s mid.core mid.chip r last.core last.chip) → SettlesActs sections o.core o.chip r last.core last.chip
      settled all r h = record { mid = mid.core; all = all; settles = subst (λ (z : ChipState). (s : LoggedService) → IsServiceOf mid.core z s → SettlesFrom s mid.core z r last.core last.chip) same h }

      by : AreAllMade sections o.core o.chip mid.core → (e : RoundEnd) → SettlesBoth mid e last → RoundsTo sections o.core o.chip e last.core last.chip
      by all (end.Ran r) h = settled all (Ok r) h
      by all end.LogFull h = absurd h
      by all end.NoMemory h = inr (h.0, settled all (Err h.0) h.1)
