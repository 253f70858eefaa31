-- what holds of a session is kept by each of its steps
use Rattle.std.proofs.Common.{inl, inr, ℕ, List, None, sym, subst}
use Rattle.table_schema.specs.Plan.{IsPlan, Ports}
use Rattle.switch_machine.specs.Events.{IsSafe}
use Rattle.warm_state.specs.declared.warm.Warm.TheVariants.{Reconciled}
use Rattle.restart_laws.specs.Invariant.{Holds, HoldsAlways}
use Rattle.restart_laws.specs.Logged.{IsLoggedStep, LoggedService, OfMachine, OfService}
use Rattle.restart_laws.specs.Service.{OfWork}
use Rattle.restart_laws.proofs.Holding.{holds-step, in_state, to_state}

module _ (plan : Ports) (is : IsPlan plan) (capacities : List ℕ) (s t : LoggedService) (h : Holds plan 4 capacities s.service) where
  pub step-holds : IsLoggedStep plan 4 capacities s t → Holds plan 4 capacities t.service
  step-holds (OfService c e effects records) = holds-step plan is 4 capacities s.service t.service c h e
  step-holds (OfMachine at later (inl x)) = holds-step plan is 4 capacities s.service t.service None h (OfWork None t.service (record { before = at; warm = later; event = inl x.takes }))
  step-holds (OfMachine at later (inr (inl x))) = holds-step plan is 4 capacities s.service t.service x.call h (OfWork x.call t.service (record { before = at; warm = later; event = x.event }))
  step-holds (OfMachine at later (inr (inr x))) =
      to_state plan is 4 capacities t.service Reconciled later (subst (HoldsAlways plan capacities) (sym x.switch) h.safe)
      (subst (IsSafe plan 4 capacities) (sym x.switch) (in_state plan is 4 capacities s.service Reconciled h at))
