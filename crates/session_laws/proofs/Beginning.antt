-- a new core begins a session
use Rattle.std.proofs.Common.{◌≡◌, ℕ, zero, suc, true, List, [], None, refl, sym, ap, subst}
use Rattle.table_schema.specs.Plan.{IsPlan, Ports}
use Rattle.sai_types.specs.After.{next_id}
use Rattle.sai_types.specs.ChipState.{ChipState}
use Rattle.switch_machine.specs.Events.{empty_switch}
use Rattle.ref_counts.specs.Room.{all_free}
use Rattle.asic_view.specs.View.{rid_at}
use Rattle.apply_laws.specs.Ties.{AreTied}
use Rattle.apply_laws.proofs.Tying.Alike.{none-tied}
use Rattle.registry_laws.proofs.Core.Empty.{stands_first}
use Rattle.registry_laws.proofs.Core.Same.{stands_flown}
use Rattle.restart_laws.specs.Logged.{new_session}
use Rattle.flight_board.specs.Board.{flown_at, new_board}
use Rattle.session_laws.specs.Core.{new_core}
use Rattle.session_laws.specs.Standing.{IsSessionOf}

pub none_flown : (plan : Ports) (capacities : List ℕ) (w : ℕ) → flown_at (new_board plan capacities) w ≡ None
none_flown plan capacities zero = refl
none_flown plan capacities (suc zero) = refl
none_flown plan capacities (suc (suc zero)) = refl
none_flown plan capacities (suc (suc (suc zero))) = refl
none_flown plan capacities (suc (suc (suc (suc w)))) = refl

pub new_stands : (plan : Ports) (capacities : List ℕ) (limit : ℕ) (chip : ChipState) → IsPlan plan → chip.objects ≡ [] → chip.effects ≡ [] → chip.clean ≡ true → chip.capacities ≡ capacities → IsSessionOf (new_core plan capacities limit) chip new_session
new_stands plan capacities limit chip is none no_effects clean same = record {
  plan = is;
  capacities = same;
  clean = clean;
  warm_is = refl;
  written = refl;
  to_sync = refl;
  objects = sym none;
  made = ap next_id no_effects;
  log = refl;
  effects = sym no_effects;
  listed = refl;
  to_sync_read = λ k i. elim i [ ];
  waiting_read = λ k some. absurd (some (λ o. refl));
  working = λ w. record {
    stands = stands_flown plan capacities [] (all_free capacities) (λ v. None) (rid_at []) empty_switch (stands_first plan is capacities (rid_at [])) (flown_at (new_board plan capacities)) (none_flown plan capacities);
    rows = λ k. refl;
    tied = subst (AreTied [] 0) (sym none) none-tied;
    no_view = refl;
    no_plan = refl;
  };
}
