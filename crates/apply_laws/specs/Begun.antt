-- An apply of syncd: the plan that it begins with, and the calls that come of it. Own.
use Rattle.std.specs.Prelude.{◌≡◌, ℕ, ◌≤◌, List, [], map, None}
use Rattle.sai_types.specs.declared.ids.Rid.{Rid}
use Rattle.sai_types.specs.declared.ids.Vid.{Vid}
use Rattle.sai_types.specs.declared.body.Call.{Call}
use Rattle.sai_types.specs.declared.body.Entry.{Entry}
use Rattle.sai_types.specs.declared.kind.Kind.{Kind}
use Rattle.sai_types.specs.Named.{those}
use Rattle.sai_types.specs.Objects.{used}
use Rattle.sai_types.specs.Refusal.{capacity_of}
use Rattle.chip_names.specs.Naming.{entries_of}
use Rattle.chip_layout.specs.Counted.{AreDistinct}
use Rattle.chip_layout.specs.Renamed.{entry_renamed}
use Rattle.plan_laws.specs.Applied.{IsListedChip, chip_things}
use Rattle.sai_types.specs.declared.body.Object.{Object}
use Rattle.sai_types.specs.declared.plan.Plan.{Plan}
use Rattle.sai_types.specs.declared.thing.Thing.{Thing}
use Rattle.view_match.specs.Pairs.{new_keys, pairs_of}
use Rattle.apply_order.specs.Room.{lacking_from}
use Rattle.asic_view.specs.View.{ViewObjects, as_chip, as_rid, entry_at, rid_at}
use Rattle.syncd_core.specs.Begun.{objects_listed, tied_in}
use Rattle.syncd_core.specs.Run.{tied_calls}
use Rattle.apply_laws.specs.Apply.{IsPlannedFrom}
use Rattle.apply_laws.specs.Viewed.{HaveOneLanes}

-- the plan to a new view, of which nothing is tied yet
pub record IsApplyBegun (capacities : List ℕ) (made : ℕ) (old : List (Object Rid)) (view : ViewObjects) (things : List (Vid × Thing)) (plan : Plan) : Type 0 where
  pub planned : IsPlannedFrom capacities made old (objects_listed view) things plan
  pub free : (v : Vid) → rid_at view v ≡ None

-- the entries of a view's objects
abbrev pub entries_in : ViewObjects → List (Entry Rid)
entries_in view = map (λ x. entry_renamed as_rid (entry_at x.0 x.1.body)) view

-- a view that a plan can be made to: legal calls made its objects, each with an entry of its own, no two with one natural key, and none is tied
pub record IsReadyView (made : ℕ) (view : ViewObjects) : Type 0 where
  pub chip : IsListedChip made (as_chip view)
  pub apart : AreDistinct (entries_in view)
  pub distinct : AreDistinct (those (new_keys (objects_listed view)))
  pub free : (v : Vid) → rid_at view v ≡ None

-- the chip and the view that an apply begins with: the chip is the list as legal calls left it, and has room for what stands and for the new objects; an old port and a new one that can't stand together have the same lanes
pub record IsApplyReady (capacities : List ℕ) (made : ℕ) (old : List (Object Rid)) (calls : ℕ) (view : ViewObjects) : Type 0 where
  pub chip : IsListedChip made (entries_of old)
  pub ready : IsReadyView calls view
  pub lanes : HaveOneLanes (entries_of old) (chip_things (as_chip view))
  pub held : (kind : Kind) → used (entries_of old) kind ≤ capacity_of capacities kind
  pub fits : (kind : Kind) → lacking_from kind [] (objects_listed view) 0 ≤ capacity_of capacities kind

-- the view as its apply begins: what is paired and stays is tied
abbrev pub first_ties : List (Object Rid) → ViewObjects → Plan → ViewObjects
first_ties old view plan = tied_in plan.mode view old (objects_listed view) (pairs_of old (objects_listed view))

-- the calls that come to the chip, each by the ties of its moment
abbrev pub calls_from : ℕ → List (Object Rid) → ViewObjects → Plan → List (Call Rid)
calls_from made old view plan = tied_calls made (first_ties old view plan) plan.calls
