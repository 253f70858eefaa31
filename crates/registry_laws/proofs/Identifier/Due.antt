-- the call of the change that is due next, told by the service's identifiers, is due by the chip's
use Rattle.std.proofs.Common.{◌≡◌, ◌<◌, ◌∷◌, ◌∙◌, ℕ, true, List, Option, Some, refl, ap, subst}
use Rattle.table_schema.specs.Plan.{IsPlan, Ports}
use Rattle.sai_types.specs.declared.body.Call.{Call}
use Rattle.sai_types.specs.declared.weight.WHop.{WHop}
use Rattle.sai_types.specs.declared.ids.Rid.{Rid}
use Rattle.sai_types.specs.declared.ids.Vid.{Vid}
use Rattle.sai_types.specs.declared.thing.Thing.{Thing}
use Rattle.sai_types.specs.Names.{ThingName, name_kind}
use Rattle.chip_layout.specs.Bodies.{is_numbered}
use Rattle.chip_layout.specs.Layout.{Has, Layout, listed}
use Rattle.chip_layout.specs.Renamed.{call_renamed}
use Rattle.row_layout.specs.Operations.{Change, Make, Set, Take}
use Rattle.row_layout.specs.Rows as owner
use Rattle.row_layout.specs.Shared.{shared_things}
use Rattle.switch_machine.specs.Changes.{IsCall}
use Rattle.switch_machine.specs.Events.{IsDueCall, IsSafe, SwitchState}
use Rattle.switch_machine.specs.Flights.{Can, MachineFlight, Machine, Runs, StandsIn}
use Rattle.switch_machine.proofs.Calling.{make-has_call, set-has_call, shared_no_port, take-has_call}
use Rattle.switch_machine.proofs.Tabled.{tabled}
use Rattle.ref_counts.specs.Registry.{Names}
use Rattle.orch_flight.specs.Calling.{IsCallFor}
use Rattle.registry_laws.specs.Flown.{Flown}
use Rattle.registry_laws.specs.Identified.{Identified, IsVidOf, PortsStand, rid_or_zero, tie_by}
use Rattle.registry_laws.proofs.Identifier.Telling.{making_told, setting_told, taking_told}

-- no port is of a group
pub group_ports : (m : Machine) (hops : List WHop) (c : Change) → PortsStand m (shared_things (owner.Group hops)) c
group_ports m hops (Make t) = tt
group_ports m hops (Set u) = λ p h same. absurd (shared_no_port (owner.Group hops) p h)
group_ports m hops (Take n) = tt

module _ (plan : Ports) (is : IsPlan plan) (workers : ℕ) (capacities : List ℕ) (s : SwitchState) (kept : IsSafe plan workers capacities s) (names : Names) (rid : Vid → Option Rid) (flown : ℕ → Option Flown) (known : Identified plan names rid flown s.machine.stands) where
  abbrev L : Layout Rid
  L = listed s.machine.stands

  tied_to : (at : ThingName → Vid → Type 0) → ((n : ThingName) (v u : Vid) → at n v → IsVidOf plan names flown n u → v ≡ u) → (n : ThingName) (v : Vid) (i : Rid) → is_numbered (name_kind n) ≡ true → Has L n i → at n v → tie_by rid v ≡ i
  tied_to at one n v i numbered (t, there, same) told =
      let x = known.each i t there (ap (λ z. is_numbered (name_kind z)) same ∙ numbered) in
      let vids = one n v x.0 told (subst (λ z. IsVidOf plan names flown z x.0) same x.1) in
      ap rid_or_zero (ap rid vids ∙ x.2)

  module _ (w : ℕ) (f : MachineFlight) (flying : s.machine.board.flights w ≡ Some f) (change : Change) (rest : List Change) (due : s.machine.due w ≡ change ∷ rest) where
    can : Can plan f (StandsIn s.machine) change
    can = (subst (Runs plan f (StandsIn s.machine)) due (kept.sound.runs w f flying)).0

    call_told : (at : ThingName → Vid → Type 0) → ((n : ThingName) (v u : Vid) → at n v → IsVidOf plan names flown n u → v ≡ u) → (things : List Thing) (d : Change) → Can plan f (StandsIn s.machine) d → PortsStand s.machine things d → (c : Call Vid) → IsCallFor at things d c → IsCall L d (call_renamed (tie_by rid) c)
    call_told at one things (Make t) h ports c x =
        let d = make-has_call plan is (tabled plan is) s.machine kept.sound w f flying s.made s.objects kept.whole kept.laid t h in
        making_told L s.objects kept.laid at (tie_by rid) (tied_to at one) t c d.0 x d.1
    call_told at one things (Set u) h ports c x =
        let d = set-has_call plan is (tabled plan is) s.machine kept.sound w f flying s.made s.objects kept.whole kept.laid u h in
        setting_told L s.objects kept.laid at (tie_by rid) (tied_to at one) things u c d.0 (λ p i same. ports p i same) x d.1
    call_told at one things (Take n) h ports c x =
        let d = take-has_call plan is (tabled plan is) s.machine kept.sound w f flying s.made s.objects kept.whole kept.laid n h in
        taking_told L s.objects kept.laid at (tie_by rid) (tied_to at one) things n c d.0 x d.1

    pub is_due : (at : ThingName → Vid → Type 0) → ((n : ThingName) (v u : Vid) → at n v → IsVidOf plan names flown n u → v ≡ u) → (things : List Thing) → PortsStand s.machine things change → (c : Call Vid) → w < workers → IsCallFor at things change c → (x : IsDueCall workers (call_renamed (tie_by rid) c) s) × (x.worker ≡ w) × (x.change ≡ change)
    is_due at one things ports c less x = (record { worker = w; below = less; flight = f; change = change; rest = rest; flying = flying; due = due; of = call_told at one things change can ports c x }, refl, refl)
