-- an apply that syncd begins is one of those that are proved
use Rattle.std.proofs.Common.{ℕ, List}
use Rattle.sai_types.specs.declared.ids.Rid.{Rid}
use Rattle.sai_types.specs.declared.body.Object.{Object}
use Rattle.sai_types.specs.declared.plan.Plan.{Plan}
use Rattle.view_match.specs.Pairs.{pairs_of}
use Rattle.apply_order.specs.Planned.{IsPlanOf}
use Rattle.asic_view.specs.View.{ViewObjects, as_chip}
use Rattle.syncd_core.specs.Begun.{objects_listed}
use Rattle.apply_laws.specs.Viewed.{IsMadeView}
use Rattle.apply_laws.proofs.Order.Viewing.{laid_things, shown-of, view-of}
use Rattle.apply_laws.specs.Begun.{IsApplyBegun, IsApplyReady, IsReadyView}
use Rattle.apply_laws.proofs.Sync.Made.{as-listed}

pub made-view : {calls : ℕ} {view : ViewObjects} → IsReadyView calls view → IsMadeView calls (as_chip view) (objects_listed view)
made-view {view = view} r = record { chip = r.chip; same = as-listed view r.apart; distinct = r.distinct }

pub ready-begun : {capacities : List ℕ} {made calls : ℕ} {old : List (Object Rid)} {view : ViewObjects} → (r : IsApplyReady capacities made old calls view) → (plan : Plan) → IsPlanOf old (objects_listed view) (pairs_of old (objects_listed view)) capacities plan → IsApplyBegun capacities made old view (laid_things (made-view r.ready)) plan
ready-begun r plan planned =
    let m = made-view r.ready in
    record {
      planned = record {
        chip = r.chip;
        view = view-of m;
        lanes = record { same = λ p q i j meet. r.lanes.same p q ((shown-of m _).0 i) j meet };
        planned = planned;
        held = r.held;
        fits = r.fits;
      };
      free = r.ready.free;
    }
