-- what workers have under way, and the ties, told otherwise
use Rattle.std.proofs.Common.{◌≡◌, ℕ, List, Option, sym, subst}
use Rattle.std.proofs.Math.Path.{fun_ext}
use Rattle.table_schema.specs.Plan.{Ports}
use Rattle.sai_types.specs.declared.ids.Rid.{Rid}
use Rattle.sai_types.specs.declared.ids.Vid.{Vid}
use Rattle.switch_machine.specs.Events.{SwitchState}
use Rattle.ref_counts.specs.Registry.{Names}
use Rattle.ref_counts.specs.Room.{RoomState}
use Rattle.registry_laws.specs.Flown.{Flown}
use Rattle.registry_laws.specs.Identified.{KeepsTies}
use Rattle.registry_laws.specs.Standing.{StandsFor}

module _ (plan : Ports) (capacities : List ℕ) (names : Names) (room : RoomState) (flown : ℕ → Option Flown) (rid : Vid → Option Rid) (s : SwitchState) (stands : StandsFor plan capacities names room flown rid s) where
  pub stands_flown : (flown' : ℕ → Option Flown) → ((v : ℕ) → flown' v ≡ flown v) → StandsFor plan capacities names room flown' rid s
  stands_flown flown' same = subst (λ fl. StandsFor plan capacities names room fl rid s) (sym (fun_ext same)) stands

  pub stands_tied : (rid' : Vid → Option Rid) → KeepsTies rid rid' → StandsFor plan capacities names room flown rid' s
  stands_tied rid' keeps = record {
    safe = stands.safe;
    board = stands.board;
    identified = record { each = λ i t h numbered. let x = stands.identified.each i t h numbered in (x.0, x.1, keeps x.0 i x.2) };
    whole = stands.whole;
    interfaces = stands.interfaces;
  }
