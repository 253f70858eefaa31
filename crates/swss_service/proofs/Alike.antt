-- a round with one worker is one with any number of them
use Rattle.std.proofs.Common.{◌≡◌, ℕ, ◌+◌, List, [], ◌∷◌, ◌++◌, length, Option, Some, None, sym, ap, ◌∙◌, arith}
use Rattle.std.proofs.lemmas.List.{append-nil, append_assoc}
use Rattle.table_schema.specs.SentBy.{sent_of}
use Rattle.table_schema.specs.declared.write.Sent.{Sent}
use Rattle.session_laws.specs.Core.{CoreState, with_taken}
use Rattle.session_laws.specs.Service.Events.{restarted}
use Rattle.intake_queue.proofs.Writes.{sent_of-append}
use Rattle.swss_script.specs.Sent.{sent_after, writes_in}
use Rattle.swss_script.specs.declared.parts.Section.{Section}
use Rattle.swss_script.proofs.SentOrder.{sent-by_sections}
use Rattle.round_actors.specs.Round.{own_sent}
use Rattle.round_actors.specs.declared.answers.Kept.{Kept}
use Rattle.round_actors.specs.declared.answers.Kept.TheVariants as keeps
use Rattle.swss_service.specs.CoreAndChip.{CoreAndChip, beside}
use Rattle.swss_service.specs.Made.{restarts_made, with_made, writes_among}
use Rattle.swss_service.specs.Round.{AreAllMade, AreSomeMade}
use Rattle.swss_service.specs.Rounds.{HasMadeAll, HasMadeSome}
use Rattle.swss_service.specs.Served.{IsServed, LacksPlaces}
use Rattle.swss_service.proofs.Serving.{restarts_more, restarts_of}

-- what is made of a core: the writes among it are taken, and its restarts marked
made-taken : (effects : ℕ) (c : CoreState) (made : List (Option Sent)) → (with_made effects c made).log.taken ≡ c.log.taken ++ writes_among made
made-taken effects c [] = sym (append-nil c.log.taken)
made-taken effects c (Some s ∷ more) = made-taken effects (with_taken c s) more ∙ append_assoc c.log.taken (s ∷ []) (writes_among more)
made-taken effects c (None ∷ more) = made-taken effects (restarted c effects) more

made-restarts : (effects : ℕ) (c : CoreState) (made : List (Option Sent)) → restarts_of (with_made effects c made) ≡ restarts_of c + restarts_made made
made-restarts effects c [] = omega arith
made-restarts effects c (Some s ∷ more) = made-restarts effects (with_taken c s) more
made-restarts effects c (None ∷ more) =
    let rest = made-restarts effects (restarted c effects) more in
    let one = restarts_more c effects in
    omega (arith, rest, one)

-- what each producer sends, in the script's order
own-of : (sections : List Section) (p : ℕ) → sent_of p (sent_after [] (writes_in sections)) ≡ own_sent p sections
own-of sections p = sent-by_sections (record { sections = sections; shows = [] }) p

module _ (most : ℕ) (sections : List Section) (o : CoreAndChip) (mid : CoreState) (served : IsServed most o (beside mid o.chip)) where
  pub all-alike : AreAllMade sections o.core o.chip mid → HasMadeAll most sections o (beside mid o.chip)
  all-alike x = record {
    served = served;
    new = writes_among x.made;
    taken = ap (λ (c : CoreState). c.log.taken) x.is ∙ made-taken (length o.chip.effects) o.core x.made;
    whole = λ p. ap (sent_of p) x.writes ∙ own-of sections p;
    restarts =
        let is = ap restarts_of x.is in
        let count = made-restarts (length o.chip.effects) o.core x.made in
        let its = x.restarts in
        omega (arith, is, count, its);
  }

  pub some-alike : (kept : Kept) → (kept ≡ keeps.Nothing → ⊥) → (left : List Sent) → AreSomeMade sections o.core o.chip mid left → (kept ≡ keeps.LogFull → LacksPlaces (beside mid o.chip)) → HasMadeSome most sections kept o (beside mid o.chip)
  some-alike kept not left x cause = record {
    served = served;
    ran = record {
      new = writes_among x.made;
      taken = ap (λ (c : CoreState). c.log.taken) x.is ∙ made-taken (length o.chip.effects) o.core x.made;
      fronts = λ p. (sent_of p left, sym (sent_of-append p (writes_among x.made) left) ∙ ap (sent_of p) x.writes ∙ own-of sections p);
      whole = λ h. absurd (not h);
      few =
          let is = ap restarts_of x.is in
          let count = made-restarts (length o.chip.effects) o.core x.made in
          let its = x.restarts in
          omega (arith, is, count, its);
      restarts = λ h. absurd (not h);
    };
    cause = cause;
  }
