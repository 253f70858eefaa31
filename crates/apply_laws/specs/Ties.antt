-- A view each of whose objects is tied to one of the chip. Own.
use Rattle.std.specs.Prelude.{◌≡◌, ℕ, ◌<◌, ◌≤◌, Bool, true, false, map, Option, Some, None}
use Rattle.std.specs.List.{AllByRecursion}
use Rattle.std.specs.List.Sorted.{IsStrictlySortedBy}
use Rattle.std.specs.Map.{keys_of}
use Rattle.sai_types.specs.declared.body.Body.{Body}
use Rattle.sai_types.specs.declared.body.Entry.{Entry}
use Rattle.sai_types.specs.declared.ids.Rid.{Rid}
use Rattle.sai_types.specs.declared.ids.Vid.{Vid}
use Rattle.sai_types.specs.After.{has_id}
use Rattle.sai_types.specs.Objects.{Objects}
use Rattle.chip_layout.specs.Counted.{AreDistinct}
use Rattle.chip_layout.specs.Renamed.{body_renamed, entry_renamed}
use Rattle.asic_view.specs.declared.object.ViewObject.{ViewObject}
use Rattle.asic_view.specs.View.{ViewObjects, entry_at, rid_at, shown_by, vid_cmp}
use Rattle.syncd_core.specs.Tied.{tie_of}

-- an object whose kind has an identifier is tied to one of those that the chip has made so far, and no other is tied
abbrev pub IsTie : ℕ → Bool → Option Rid → Type 0
IsTie made true (Some r) = (0 < r.0) × (r.0 ≤ made)
IsTie made false None = Unit {0}
IsTie made _ _ = ⊥

abbrev pub HasTie : ℕ → Vid × ViewObject → Type 0
HasTie made x = IsTie made (has_id x.1.body) x.1.rid

-- an identifier is tied
abbrev pub IsTied : ViewObjects → Vid → Type 0
IsTied view v = (r : Rid) × (rid_at view v ≡ Some r)

-- the chip's entry of an object of a view, and its body
abbrev pub entry_tied : ViewObjects → Vid × ViewObject → Entry Rid
entry_tied view x = entry_renamed (tie_of view) (entry_at x.0 x.1.body)

abbrev pub body_tied : ViewObjects → Vid × ViewObject → Body Rid
body_tied view x = body_renamed (tie_of view) x.1.body

-- under its ties the view's objects are the chip's, which has made so many identifiers: each object of the chip is that of one object of the view
pub record AreTied (view : ViewObjects) (made : ℕ) (objects : Objects) : Type 0 where
  pub rising : IsStrictlySortedBy vid_cmp (keys_of view)
  pub ties : AllByRecursion (HasTie made) view
  pub once : AreDistinct (map (entry_tied view) view)
  pub shown : shown_by (tie_of view) view ≡ objects
