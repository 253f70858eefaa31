-- what comes in a round before its end
use Rattle.std.proofs.Common.{◌≡◌, ◌+◌, ◌++◌, ◌∙◌, ℕ, List, [], length, refl, sym, ap, subst, arith}
use Rattle.std.proofs.lemmas.List.{append-nil, append_assoc, length-append}
use Rattle.table_schema.specs.declared.write.Sent.{Sent}
use Rattle.sai_types.specs.ChipState.{ChipState, IsAskedOnce}
use Rattle.sai_types.specs.declared.ids.Rid.{Rid}
use Rattle.sai_types.specs.declared.body.Call.{Call}
use Rattle.switch_model.specs.History.{History, listed_by}
use Rattle.switch_model.specs.declared.mark.Mark.{Mark}
use Rattle.restart_laws.specs.Logged.{LoggedService}
use Rattle.session_laws.specs.Core.{CoreState}
use Rattle.session_laws.specs.Service.Events.{MakesMore}
use Rattle.round_laws.specs.Sessions.{InSession}
use Rattle.round_laws.proofs.Growing.{effects-grow}
use Rattle.round_laws.proofs.Sessions.{steps-on}
use Rattle.orch_core.specs.ComingBack.{ComesTo, CountAll}
use Rattle.orch_core.specs.Outcomes.{IsWithinLimit, KeepsChip}
use Rattle.orch_core.specs.Restarting.{StaysInService}
use Rattle.orch_core.proofs.Chips.{effects_asked, keeps_alike, keeps_asked}
use Rattle.orch_core.proofs.Coming.{restarts_both, way_both}
use Rattle.orch_core.proofs.Serving.{comes_serves}
use Rattle.swss_script.specs.declared.parts.Round.{Round}
use Rattle.swss_service.specs.Faults.{FaultsRise}
use Rattle.swss_run.specs.Rounds.{Ran}
use Rattle.swss_run.specs.Running.{HasCome, KeepsPlan}
use Rattle.swss_run.proofs.Counting.{HasRestarted, rise-later, rise-way}
use Rattle.swss_run.proofs.Tables.{HasMade, counted-fenced, fenced-both}

pub same-trans : (a b c : CoreState) → KeepsPlan a b → KeepsPlan b c → KeepsPlan a c
same-trans a b c first next = record { plan = next.plan ∙ first.plan; capacities = next.capacities ∙ first.capacities; limit = next.limit ∙ first.limit }

-- a log by its three lists
pub log-as : (h : History) (taken : List Sent) (marks : List Mark) (ends : List ℕ) → h.taken ≡ taken → h.marks ≡ marks → h.ends ≡ ends → h ≡ record { taken = taken; marks = marks; ends = ends }
log-as h taken marks ends ts ms es =
    ap (λ l. record { taken = l; marks = h.marks; ends = h.ends }) ts ∙ ap (λ l. record { taken = taken; marks = l; ends = h.ends }) ms ∙ ap (λ l. record { taken = taken; marks = marks; ends = l }) es

-- after the acts of the round
abbrev pub since_made : List Mark → List Sent → Ran
since_made marks sent = record { marks = marks; sent = sent; calls = [] }

pub come-made : (old : CoreState) (chip : ChipState) (sent : List Sent) (restarts : ℕ) (c : CoreState) → FaultsRise 0 old.log.marks chip.faults → IsWithinLimit c chip → (x : HasMade old chip sent restarts c) → HasCome old chip (since_made x.added sent) c chip
come-made old chip sent restarts c rise limit x = record {
  log = x.log;
  calls = sym (append-nil chip.effects);
  way = x.way;
  fenced = x.fenced (length old.log.taken + length sent) (omega arith);
  within = x.within;
  same = x.same;
  limit = limit;
  faults = subst (λ (h : History). FaultsRise 0 h.marks chip.faults) (sym x.log) (rise-way 0 chip.faults old.log.marks x.added rise x.way);
}

module _ (old : CoreState) (chip : ChipState) (since : Ran) (c : CoreState) (cchip : ChipState) (x : HasCome old chip since c cchip) (d : CoreState) where
  pub more-calls : (dchip : ChipState) (calls : List (Call Rid)) → dchip.effects ≡ cchip.effects ++ calls → dchip.effects ≡ chip.effects ++ (since.calls ++ calls)
  more-calls dchip calls grown = grown ∙ ap (λ l. l ++ calls) x.calls ∙ append_assoc chip.effects since.calls calls

  -- the core in the same session, with the same log, and the chip, of which perhaps one call or list more was asked
  pub come-stays : (dchip : ChipState) → IsAskedOnce cchip dchip → StaysInService x.within.session c d dchip → (z : HasCome old chip since d dchip) × (z.within.session ≡ x.within.session)
  come-stays dchip asked stays =
      let within = steps-on c d cchip dchip x.within x.within.session [] tt (λ first. tt) refl stays.stands stays.plan stays.capacities in
      let keeps = keeps_asked asked (keeps_alike c d cchip cchip refl stays.log (stays.stands.always.listed ∙ ap (λ (h : History). listed_by h.marks) stays.log ∙ sym x.within.stands.always.listed) stays.limit) in (
        record {
          log = stays.log ∙ x.log;
          calls = effects_asked asked ∙ x.calls;
          way = x.way;
          fenced = x.fenced;
          within = within.0;
          same = same-trans old c d x.same (record { plan = stays.plan; capacities = stays.capacities; limit = stays.limit });
          limit = keeps.limit x.limit;
          faults = subst (λ (h : History). FaultsRise 0 h.marks dchip.faults) (sym stays.log) (rise-later 0 cchip.faults dchip.faults c.log.marks x.faults keeps.faults);
        },
        within.1,
      )

  module _ (dchip : ChipState) (keeps : KeepsChip c cchip d dchip) where
    -- steps without a record
    abbrev pub since_steps : List (Call Rid) → Ran
    since_steps calls = record { marks = since.marks; sent = since.sent; calls = since.calls ++ calls }

    abbrev pub come-steps : (more : MakesMore 0 c x.within.session d dchip) → (within : InSession 1 d dchip) → d.log ≡ c.log → HasCome old chip (since_steps (effects-grow c d cchip dchip x.within more).0) d dchip
    come-steps more within log =
        let grown = effects-grow c d cchip dchip x.within more in
        record {
          log = log ∙ x.log;
          calls = more-calls dchip grown.0 grown.1;
          way = x.way;
          fenced = x.fenced;
          within = within;
          same = same-trans old c d x.same (record { plan = more.plan; capacities = more.capacities; limit = more.limit });
          limit = keeps.limit x.limit;
          faults = subst (λ (h : History). FaultsRise 0 h.marks dchip.faults) (sym log) (rise-later 0 cchip.faults dchip.faults c.log.marks x.faults keeps.faults);
        }

  -- whole events of a core that comes back, where no call took effect in the round so far
  module _ (uncalled : cchip.effects ≡ chip.effects) (dchip : ChipState) (later : LoggedService) (y : ComesTo x.within.session later c cchip d dchip) where
    came_more : MakesMore 0 c x.within.session d dchip
    came_more = (comes_serves x.within.session later c cchip d dchip y).0

    pub came_calls : (calls : List (Call Rid)) × (dchip.effects ≡ cchip.effects ++ calls)
    came_calls = effects-grow c d cchip dchip x.within came_more

    came_in : (z : InSession 1 d dchip) × (z.session ≡ later)
    came_in = steps-on c d cchip dchip x.within later y.steps y.are (y.few 1 (omega arith)) y.is y.stands y.plan y.capacities

    abbrev pub since_coming : Ran
    since_coming = record { marks = since.marks ++ y.added; sent = since.sent; calls = since.calls ++ came_calls.0 }

    pub come-coming : (z : HasCome old chip since_coming d dchip) × (z.within.session ≡ later)
    come-coming = (
      record {
        log = log-as d.log (old.log.taken ++ since.sent) (old.log.marks ++ (since.marks ++ y.added)) old.log.ends
            (y.taken ∙ ap (λ (h : History). h.taken) x.log)
            (y.marks ∙ ap (λ (h : History). h.marks ++ y.added) x.log ∙ append_assoc old.log.marks since.marks y.added)
            (y.ends ∙ ap (λ (h : History). h.ends) x.log);
        calls = more-calls dchip came_calls.0 came_calls.1;
        way = way_both since.marks y.added x.way y.way;
        fenced = fenced-both (length old.log.taken) (length old.log.taken + length since.sent) (length chip.effects) since.marks y.added x.fenced
            (counted-fenced (length old.log.taken) (length since.sent) (length chip.effects) y.added
            (subst (λ n. CountAll n (length chip.effects) y.added) (ap (λ (h : History). length h.taken) x.log ∙ length-append old.log.taken since.sent)
            (subst (λ n. CountAll (length c.log.taken) n y.added) (ap length uncalled) y.counted)));
        within = came_in.0;
        same = same-trans old c d x.same (record { plan = y.plan; capacities = y.capacities; limit = y.limit });
        limit = y.keeps.limit x.limit;
        faults = subst (λ l. FaultsRise 0 l dchip.faults) (sym y.marks) (rise-way 0 dchip.faults c.log.marks y.added (rise-later 0 cchip.faults dchip.faults c.log.marks x.faults y.keeps.faults) y.way);
      },
      came_in.1,
    )

    -- and a restart that was due is made
    pub restarted-coming : (round : Round) (xs : List Mark) → HasRestarted round xs since.marks c.warm → HasRestarted round xs since_coming.marks d.warm
    restarted-coming round xs h =
        let both = restarts_both since.marks y.added in
        let before = h.count in
        let made = y.restarts in
        let least = h.least in
        record { more = h.more; count = omega (arith, both, before, made); behind = h.behind; least = omega (arith, both, least) }
