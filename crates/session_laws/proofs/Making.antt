-- an event of the machine is a step of the session
use Rattle.std.proofs.Common.{◌≡◌, ◌++◌, inl, inr, ℕ, List, [], Option, None, refl}
use Rattle.std.proofs.lemmas.List.{append-nil}
use Rattle.table_schema.specs.Plan.{Ports}
use Rattle.sai_types.specs.declared.ids.Rid.{Rid}
use Rattle.sai_types.specs.declared.body.Call.{Call}
use Rattle.switch_machine.specs.Events.{IsEvent, SwitchState, with_made_call}
use Rattle.restart_laws.specs.Logged.{IsLoggedStep, LoggedService, OfMachine}
use Rattle.warm_state.specs.declared.warm.Warm.TheVariants as warm
use Rattle.session_laws.specs.Events.{session_with}

pub machine_step : (plan : Ports) (capacities : List ℕ) (s : LoggedService) (core : SwitchState) (call : Option (Call Rid)) → s.service.warm ≡ warm.Reconciled → IsEvent plan 4 capacities s.service.core call core → core.written.taken ≡ s.service.core.written.taken → IsLoggedStep plan 4 capacities s (session_with s core call)
machine_step plan capacities s core call at event taken = OfMachine at at (inr (inl (record { call = call; event = event; taken = taken; log = refl; effects = refl })))

pub without_call : (s : LoggedService) → s.effects ++ with_made_call None [] ≡ s.effects
without_call s = append-nil s.effects
