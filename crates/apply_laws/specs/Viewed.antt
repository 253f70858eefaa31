-- A new view that a plan leads to: its objects, laid out by things with their identifiers. Own.
use Rattle.std.specs.Prelude.{◌≡◌, ℕ, true, false, List, [], ◌∷◌, map, Some}
use Rattle.std.specs.List.Sorted.{IsPermutation}
use Rattle.sai_types.specs.declared.ids.Vid.{Vid}
use Rattle.sai_types.specs.declared.body.Entry.{Entry}
use Rattle.sai_types.specs.declared.body.Entry.TheVariants as entry
use Rattle.sai_types.specs.declared.body.Object.{Object}
use Rattle.sai_types.specs.declared.thing.PortThing.{PortThing}
use Rattle.sai_types.specs.declared.thing.Thing.{Thing}
use Rattle.sai_types.specs.declared.thing.Thing.TheVariants as thing
use Rattle.sai_types.specs.Alike.{IsIn}
use Rattle.sai_types.specs.Named.{those}
use Rattle.sai_types.specs.Names.{Meet, name_of}
use Rattle.sai_types.specs.Objects.{Objects}
use Rattle.chip_names.specs.Naming.{entries_of}
use Rattle.chip_layout.specs.Bodies.{IsBody}
use Rattle.chip_layout.specs.Counted.{AreDistinct}
use Rattle.chip_layout.specs.Layout.{Has, Layout, has_number}
use Rattle.plan_laws.specs.Applied.{IsListedChip, IsView, chip_things}
use Rattle.plan_laws.specs.Calls.{viewed}
use Rattle.plan_laws.specs.Views.{LanesApart}
use Rattle.view_match.specs.Keys.{natural_key_of}
use Rattle.view_match.specs.Listed.{objects_as}
use Rattle.view_match.specs.Pairs.{new_keys}

-- the things of a view
abbrev pub things_in : List (Vid × Thing) → List Thing
things_in things = map (λ x. x.1) things

-- an object has the identifier of its thing, where it has one
pub record IsEntry (v : Vid) (t : Thing) (e : Entry Vid) : Type 0 where
  pub some : has_number t ≡ true → e ≡ entry.Oid v
  pub none : has_number t ≡ false → (w : Vid) → e ≡ entry.Oid w → ⊥

-- the objects are those of the things, one by one
abbrev pub AreObjects : Layout Vid → List (Vid × Thing) → List (Object Vid) → Type 0
AreObjects view [] [] = Unit {0}
AreObjects view (x ∷ xs) (o ∷ os) = IsBody (Has view) x.1 o.body × IsEntry x.0 x.1 o.entry × AreObjects view xs os
AreObjects view _ _ = ⊥

-- the objects of a new view are those of these things, no two things have one name or one identifier, and no two ports a lane in common
pub record IsViewOf (things : List (Vid × Thing)) (new : List (Object Vid)) : Type 0 where
  pub view : IsView (things_in things)
  pub objects : AreObjects (viewed things) things new
  pub keys : new_keys new ≡ map (λ x. Some (natural_key_of x.1)) things
  pub once : AreDistinct (map (λ x. name_of x.1) things)
  pub ids : (v : Vid) (t u : Thing) → IsIn (v, t) things → IsIn (v, u) things → has_number t ≡ true → has_number u ≡ true → t ≡ u
  pub lanes : LanesApart [] (things_in things)

-- an old port and a new one that can't stand together have the same lanes
pub record HaveOneLanes (objects : Objects) (new : List Thing) : Type 0 where
  pub same : (p q : PortThing) → IsIn (thing.Port p) new → IsIn (thing.Port q) (chip_things objects) → Meet (thing.Port p) (thing.Port q) → p.lanes ≡ q.lanes

-- the objects of a new view are, in some order, those of a chip that legal calls made, by identifiers of the same numbers; no two have one natural key
pub record IsMadeView (made : ℕ) (objects : Objects) (new : List (Object Vid)) : Type 0 where
  pub chip : IsListedChip made objects
  pub same : IsPermutation (entries_of (objects_as new)) objects
  pub distinct : AreDistinct (those (new_keys new))
