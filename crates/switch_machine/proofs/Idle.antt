-- what a worker does next is an event, and nothing where it is idle
use Rattle.std.proofs.Common.{◌≡◌, ◌⊎◌, inl, inr, ℕ, List, Option, None, Some, refl, sym, ap, ◌∙◌}
use Rattle.table_schema.specs.Plan.{IsPlan, Ports}
use Rattle.sai_types.specs.declared.ids.Rid.{Rid}
use Rattle.sai_types.specs.declared.body.Call.{Call}
use Rattle.switch_machine.specs.Events.{IsEvent, IsSafe, SwitchState}
use Rattle.switch_machine.specs.Flights.{MachineFlight}
use Rattle.switch_machine.specs.Next.{Answering, Beginning, Dropping, Idling, IsIdle, IsNextEvent, Popping}
use Rattle.switch_machine.proofs.Hindered.{begins-free, drops-free}

pub next-event : (plan : Ports) (workers : ℕ) (capacities : List ℕ) (w : ℕ) (s : SwitchState) (c : Option (Call Rid)) (t : SwitchState) → IsNextEvent plan workers capacities w s c t → IsEvent plan workers capacities s c t ⊎ (IsIdle plan workers capacities w s × (c ≡ None) × (t ≡ s))
next-event plan workers capacities w s _ _ (Answering call t x at) = inl x
next-event plan workers capacities w s _ _ (Popping t k none x had popped) = inl (inr (inl x))
next-event plan workers capacities w s _ _ (Beginning t x at popped hindered) = inl (inr (inr (inr x)))
next-event plan workers capacities w s _ _ (Dropping t x none popped hindered) = inl (inr (inr (inl x)))
next-event plan workers capacities w s _ _ (Idling idle) = inr (idle, refl, refl)

never_flying : {X : Type 0} (f : MachineFlight) (o : Option MachineFlight) → o ≡ Some f → o ≡ None → X
never_flying f o h g = absurd cc

pub idle-none : (plan : Ports) (is : IsPlan plan) (workers : ℕ) (capacities : List ℕ) (w : ℕ) (s : SwitchState) → IsSafe plan workers capacities s → IsIdle plan workers capacities w s → (c : Option (Call Rid)) (t : SwitchState) → IsNextEvent plan workers capacities w s c t → (c ≡ None) × (t ≡ s)
idle-none plan is workers capacities w s kept idle _ _ (Answering call t x at) = never_flying x.next.flight (s.machine.board.flights w) (ap s.machine.board.flights (sym at) ∙ x.next.flying) idle.none
idle-none plan is workers capacities w s kept idle _ _ (Popping t k none x had popped) = absurd (had (idle.popped k))
idle-none plan is workers capacities w s kept idle _ _ (Beginning t x at popped hindered) = let h = idle.hindered x.flight.key x.to_sync.there in absurd (begins-free plan is workers capacities s t x h.0 h.1)
idle-none plan is workers capacities w s kept idle _ _ (Dropping t x none popped hindered) = let h = idle.hindered x.key x.to_sync.there in absurd (drops-free plan is workers capacities s kept t x h.0 h.1)
idle-none plan is workers capacities w s kept idle _ _ (Idling _) = (refl, refl)
