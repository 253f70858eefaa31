-- How an apply begins. Own.
use Rattle.std.specs.Prelude.{◌≡◌, ℕ, List, [], ◌∷◌, map, Option, None, Some, slice_get}
use Rattle.sai_types.specs.declared.body.Entry.{Entry}
use Rattle.sai_types.specs.declared.body.Entry.TheVariants as entry
use Rattle.sai_types.specs.declared.body.Object.{Object}
use Rattle.sai_types.specs.declared.ids.Rid.{Rid}
use Rattle.sai_types.specs.declared.ids.Vid.{Vid}
use Rattle.sai_types.specs.declared.plan.Mode.{Mode}
use Rattle.sai_types.specs.declared.plan.Mode.TheVariants as mode
use Rattle.sai_types.specs.declared.plan.Plan.{Plan}
use Rattle.sai_types.specs.Named.{those}
use Rattle.chip_layout.specs.Counted.{AreDistinct}
use Rattle.view_match.specs.Pairs.{new_keys, pairs_of}
use Rattle.apply_order.specs.Planned.{IsPlanOf}
use Rattle.asic_view.specs.View.{ViewObjects, object_of, with_tie}
use Rattle.syncd_core.specs.Synced.{SyncState}

-- the objects of a view, as a list of them gives them
abbrev pub objects_listed : ViewObjects → List (Object Vid)
objects_listed view = map object_of view

-- a new object that is paired is tied to the old one, where they have identifiers
abbrev pub tied_entries : ViewObjects → Entry Rid → Entry Vid → ViewObjects
tied_entries view (entry.Oid r) (entry.Oid v) = with_tie view v r
tied_entries view e f = view

abbrev pub tied_objects : ViewObjects → Option (Object Rid) → Option (Object Vid) → ViewObjects
tied_objects view (Some o) (Some n) = tied_entries view o.entry n.entry
tied_objects view _ _ = view

abbrev pub tied_pairs : ViewObjects → List (Object Rid) → List (Object Vid) → List (ℕ × ℕ) → ViewObjects
tied_pairs view old new [] = view
tied_pairs view old new (p ∷ ps) = tied_pairs (tied_objects view (slice_get old p.0) (slice_get new p.1)) old new ps

-- a cold plan makes every object anew
abbrev pub tied_in : Mode → ViewObjects → List (Object Rid) → List (Object Vid) → List (ℕ × ℕ) → ViewObjects
tied_in mode.Hitless view old new pairs = tied_pairs view old new pairs
tied_in mode.Cold view old new pairs = view

-- a list was taken, and a temporary view is there, in which no two objects have one natural key
pub record CanBegin (s : SyncState) : Type 0 where
  pub old : List (Object Rid)
  pub new : ViewObjects
  pub listed : s.listed ≡ Some old
  pub temporary : s.temporary ≡ Some new
  pub distinct : AreDistinct (those (new_keys (objects_listed new)))

-- the plan from the list to the temporary view, which stands for the chip once the plan's calls are made
pub record Begins (s : SyncState) (m : Mode) (s' : SyncState) : Type 0 where
  pub old : List (Object Rid)
  pub new : ViewObjects
  pub listed : s.listed ≡ Some old
  pub temporary : s.temporary ≡ Some new
  pub plan : Plan
  pub planned : IsPlanOf old (objects_listed new) (pairs_of old (objects_listed new)) s.capacities plan
  pub mode : m ≡ plan.mode
  pub later : s' ≡ record { view = tied_in plan.mode new old (objects_listed new) (pairs_of old (objects_listed new)); temporary = None; listed = None; left = plan.calls; capacities = s.capacities }
