-- The views that a plan leads between, and the room that it needs. Own.
use Rattle.std.specs.Prelude.{◌≡◌, true, ℕ, ◌+◌, ◌≤◌, ◌==◌, List, length, map, Option, None, Some, if◌then◌else◌}
use Rattle.swss_types.specs.Address.{IsProperPrefix}
use Rattle.swss_types.specs.declared.address.Prefix.{Prefix}
use Rattle.swss_types.specs.declared.vrf.Vrf.{Vrf}
use Rattle.sai_types.specs.declared.hop.Base.{Base}
use Rattle.sai_types.specs.declared.weight.WHop.{WHop}
use Rattle.sai_types.specs.declared.kind.Kind.{Kind}
use Rattle.sai_types.specs.declared.thing.Goal.{Goal}
use Rattle.sai_types.specs.declared.thing.PortThing.{PortThing}
use Rattle.sai_types.specs.declared.thing.Thing.{Thing}
use Rattle.sai_types.specs.declared.thing.Thing.TheVariants as thing
use Rattle.sai_types.specs.Alike.{IsIn}
use Rattle.sai_types.specs.Hop.{AreRisingHops}
use Rattle.sai_types.specs.Named.{those}
use Rattle.sai_types.specs.Names.{ThingName, Refers, name_kind, name_of}
use Rattle.sai_types.specs.Objects.{Objects, level, used}
use Rattle.sai_types.specs.Refusal.{capacity_of, share_lane}
use Rattle.chip_layout.specs.Counted.{AreDistinct}
use Rattle.plan_laws.specs.Plans.{PlanChange, Make}

-- no two things have one name, and each route's prefix is proper
pub record HaveOwnNames (things : List Thing) : Type 0 where
  pub one : (t u : Thing) → IsIn t things → IsIn u things → name_of t ≡ name_of u → t ≡ u
  pub proper : (v : Vrf) (p : Prefix) (g : Goal) → IsIn (thing.Route v p g) things → IsProperPrefix p

-- what a thing of the view refers to is one of the view
pub record ReferWithin (things : List Thing) : Type 0 where
  pub refers : (t : Thing) (k : ThingName) → IsIn t things → Refers t k → (u : Thing) × IsIn u things × (name_of u ≡ k)

-- a port and one of others have one name where they have a lane in common
abbrev pub PortsApart : List Thing → List Thing → Type 0
PortsApart things others = (p q : PortThing) → IsIn (thing.Port p) things → IsIn (thing.Port q) others → share_lane p.lanes q.lanes ≡ true → name_of (thing.Port p) ≡ name_of (thing.Port q)

-- the new ports are so apart from the old ones, and from each other
pub record LanesApart (old new : List Thing) : Type 0 where
  pub beside : PortsApart new old
  pub within : PortsApart new new

-- each group of the view has a member for each of its hops and no other, and its hops rise
pub record HaveWholeGroups (things : List Thing) : Type 0 where
  pub rising : (hops : List WHop) → IsIn (thing.Group hops) things → AreRisingHops hops
  pub have : (hops : List WHop) (hop : WHop) → IsIn (thing.Group hops) things → IsIn hop hops → IsIn (thing.GroupMember hops hop) things
  pub only : (hops : List WHop) (hop : WHop) → IsIn (thing.GroupMember hops hop) things → IsIn hop hops

-- no base has an old interface and a new one in different virtual routers
abbrev pub SameRouters : List Thing → List Thing → Type 0
SameRouters old new = (b : Base) (v w : Vrf) → IsIn (thing.Rif b v) old → IsIn (thing.Rif b w) new → v ≡ w

-- ---- room

-- the name of a kind that a change makes
abbrev pub made_name : Kind → PlanChange → Option ThingName
made_name kind (Make t) = if level (name_kind (name_of t)) == level kind then Some (name_of t) else None
made_name kind _ = None

-- the names of a kind that changes make
abbrev pub made_names : Kind → List PlanChange → List ThingName
made_names kind cs = those (map (made_name kind) cs)

-- there is room for the old objects of each kind and all that the plan makes
abbrev pub HasRoomForPlan : List ℕ → Objects → List PlanChange → Type 0
HasRoomForPlan capacities objects plan = (kind : Kind) → used objects kind + length (made_names kind plan) ≤ capacity_of capacities kind

-- names of new things of a kind that no old thing has, each once
pub record AreLacking (old new : List Thing) (kind : Kind) (names : List ThingName) : Type 0 where
  pub distinct : AreDistinct names
  pub each : (k : ThingName) → IsIn k names → (level (name_kind k) ≡ level kind) × (t : Thing) × IsIn t new × (name_of t ≡ k) × ((u : Thing) → IsIn u old → name_of u ≡ k → ⊥)

-- of each kind the objects and the new names that no old thing has number at most the capacity
abbrev pub FitsHitless : List ℕ → Objects → List Thing → List Thing → Type 0
FitsHitless capacities objects old new = (kind : Kind) (names : List ThingName) → AreLacking old new kind names → used objects kind + length names ≤ capacity_of capacities kind
