-- What a decision rests on: which routes and own addresses stand, in whatever order. Own.
use Rattle.std.specs.Prelude.{◌≡◌, true, List}
use Rattle.swss_types.specs.Address.{IsProperPrefix, covers}
use Rattle.swss_types.specs.declared.vrf.Packet.{Packet}
use Rattle.swss_types.specs.declared.vrf.Vrf.{Vrf}
use Rattle.swss_types.specs.declared.address.Prefix.{Prefix}
use Rattle.sai_types.specs.declared.thing.Goal.{Goal}
use Rattle.sai_types.specs.declared.thing.Thing.{Thing}
use Rattle.sai_types.specs.declared.thing.Thing.TheVariants as thing
use Rattle.sai_types.specs.Alike.{IsIn}

-- each prefix is proper and has one route in a router
pub record AreRoutes (things : List Thing) : Type 0 where
  pub proper : (v : Vrf) (p : Prefix) (g : Goal) → IsIn (thing.Route v p g) things → IsProperPrefix p
  pub one : (v : Vrf) (p : Prefix) (g h : Goal) → IsIn (thing.Route v p g) things → IsIn (thing.Route v p h) things → g ≡ h

-- the routes of a packet's router that cover its address, and the address as one of the switch's own there, stand in both
pub record DecideAlike (things others : List Thing) (a : Packet) : Type 0 where
  pub own : IsIn (thing.Own a.vrf a.to) things → IsIn (thing.Own a.vrf a.to) others
  pub own_back : IsIn (thing.Own a.vrf a.to) others → IsIn (thing.Own a.vrf a.to) things
  pub routes : (p : Prefix) (g : Goal) → covers p a.to ≡ true → IsIn (thing.Route a.vrf p g) things → IsIn (thing.Route a.vrf p g) others
  pub routes_back : (p : Prefix) (g : Goal) → covers p a.to ≡ true → IsIn (thing.Route a.vrf p g) others → IsIn (thing.Route a.vrf p g) things
