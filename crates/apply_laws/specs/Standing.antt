-- The things for which the objects of a view stand, and those of the chip to which it is tied. Own.
use Rattle.std.specs.Prelude.{◌≡◌, true, List, Some}
use Rattle.sai_types.specs.declared.ids.Rid.{Rid}
use Rattle.sai_types.specs.declared.ids.Vid.{Vid}
use Rattle.sai_types.specs.declared.thing.Thing.{Thing}
use Rattle.sai_types.specs.Alike.{IsIn}
use Rattle.chip_layout.specs.Layout.{has_number}
use Rattle.asic_view.specs.View.{ViewObjects, rid_at}

-- the same things, each of a kind that has identifiers by one that is tied to the chip's
pub record AreThingsOf (view : ViewObjects) (stands : List (Rid × Thing)) (things : List (Vid × Thing)) : Type 0 where
  pub into : (v : Vid) (t : Thing) → IsIn (v, t) things → (i : Rid) × IsIn (i, t) stands × (has_number t ≡ true → rid_at view v ≡ Some i)
  pub back : (i : Rid) (t : Thing) → IsIn (i, t) stands → (v : Vid) × IsIn (v, t) things × (has_number t ≡ true → rid_at view v ≡ Some i)
