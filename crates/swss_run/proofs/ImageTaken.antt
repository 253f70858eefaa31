-- a new core over a new chip, which took the rows of an image, or the first of them
use Rattle.std.proofs.Common.{◌≡◌, ◌+◌, ◌<◌, ◌++◌, ◌∙◌, ℕ, List, [], length, sym, ap, subst, arith}
use Rattle.table_schema.specs.Plan.{IsPlan}
use Rattle.table_schema.specs.declared.write.Sent.{Sent}
use Rattle.sai_types.specs.ChipState.{ChipState, new_chip}
use Rattle.switch_model.specs.History.{History, log_size, no_history}
use Rattle.session_laws.specs.Core.{CoreState, new_core}
use Rattle.session_laws.specs.Service.Events.{MakesMore}
use Rattle.round_laws.specs.Named.{keys_named}
use Rattle.round_laws.specs.Sessions.{InSession}
use Rattle.round_laws.proofs.Sessions.{begins-session, sized, some-on}
use Rattle.orch_core.specs.Outcomes.{IsWithinLimit}
use Rattle.swss_service.specs.Ahead.{HasTaken}
use Rattle.swss_service.specs.CoreAndChip.{CoreAndChip}
use Rattle.swss_service.specs.Faults.{FaultsRise}
use Rattle.swss_service.specs.Going.{HasGoneOn}
use Rattle.swss_service.specs.Served.{LacksPlaces}
use Rattle.swss_run.specs.Running.{KeepsPlan}
use Rattle.swss_run.specs.RunningBeside.{IsOpened}
use Rattle.swss_run.specs.Session.{log_limit}

module _ {workers : ℕ} (some : 0 < workers) (o : CoreAndChip) (new : o.core ≡ new_core o.core.board.plan o.core.sync.capacities log_limit) (chip : o.chip ≡ new_chip o.core.sync.capacities o.chip.fails) (plan : IsPlan o.core.board.plan) (taken : List Sent) (now : CoreAndChip) (x : HasTaken taken o now) where
  within_new : InSession workers o.core o.chip
  within_new =
      subst (λ c. InSession workers c o.chip) (sym new)
      (begins-session workers o.core.board.plan o.core.sync.capacities log_limit o.chip plan (ap (λ (c : ChipState). c.objects) chip) (ap (λ (c : ChipState). c.effects) chip) (ap (λ (c : ChipState). c.clean) chip) (ap (λ (c : ChipState). c.capacities) chip))

  limit_new : IsWithinLimit o.core o.chip
  limit_new =
      let size = sized o.core o.chip within_new in
      let none : log_size o.core.log (length o.chip.effects) ≡ 0 = ap (λ (c : CoreState). log_size c.log (length o.chip.effects)) new ∙ ap (λ (c : ChipState). log_size no_history (length c.effects)) chip in
      omega (arith, size, none)

  gone : HasGoneOn 0 o now.core now.chip x.served.0 x.served.1
  gone = x.served.2

  more : MakesMore 0 o.core within_new.session now.core now.chip
  more = gone.steps within_new.session within_new.stands

  within_now : InSession workers now.core now.chip
  within_now = (some-on o.core now.core o.chip now.chip within_new some more).0

  log_now : now.core.log ≡ record { taken = taken; marks = []; ends = [] }
  log_now = x.log ∙ ap (λ (c : CoreState). record { taken = c.log.taken ++ taken; marks = c.log.marks; ends = c.log.ends }) new

  pub image-same : KeepsPlan o.core now.core
  image-same = record { plan = more.plan; capacities = more.capacities; limit = more.limit }

  pub image-fails : now.chip.fails ≡ o.chip.fails
  image-fails = gone.fails

  pub image-opened : IsOpened workers taken now.core now.chip
  image-opened = record {
    here = record {
      within = within_now;
      places = let size = sized now.core now.chip within_now in let within = gone.places limit_new in omega (arith, size, within);
      faults = subst (λ (h : History). FaultsRise 0 h.marks now.chip.faults) (sym log_now) (ap (λ (c : ChipState). c.faults) (x.chip ∙ chip));
    };
    limit = more.limit ∙ ap (λ (c : CoreState). c.limit) new;
    log = log_now;
    effects = ap (λ (c : ChipState). c.effects) (x.chip ∙ chip);
  }

  pub image-many : LacksPlaces now → log_limit < log_size now.core.log (length now.chip.effects) + 2 + length (keys_named now.core.log.taken)
  image-many lacks =
      let size = sized now.core now.chip within_now in
      let limit : now.core.limit ≡ log_limit = image-opened.limit in
      omega (arith, size, limit, lacks)
