-- That packets have one answer. Own.
use Rattle.std.specs.Prelude.{◌≡◌, List, Some}
use Rattle.swss_types.specs.Address.{IsProperPrefix}
use Rattle.swss_types.specs.declared.address.Mac.{Mac}
use Rattle.sai_types.specs.declared.ids.Rid.{Rid}
use Rattle.sai_types.specs.declared.hop.Hop.{Hop}
use Rattle.sai_types.specs.declared.weight.WHop.{WHop}
use Rattle.sai_types.specs.declared.body.Body.{Body}
use Rattle.sai_types.specs.declared.body.Body.TheVariants as body
use Rattle.sai_types.specs.declared.body.Entry.{Entry}
use Rattle.sai_types.specs.declared.thing.Thing.{Thing}
use Rattle.sai_types.specs.declared.thing.Thing.TheVariants as thing
use Rattle.sai_types.specs.Alike.{IsIn}
use Rattle.sai_types.specs.Forwarding.{Decision, hop_mac}
use Rattle.sai_types.specs.Forwarding as decision
use Rattle.sai_types.specs.Objects.{Objects, body_at}

abbrev pub HasPrefix : Body Rid → Type 0
HasPrefix (body.Route vr prefix to) = IsProperPrefix prefix
HasPrefix _ = Unit {0}

-- the prefix of each route is proper
pub record HavePrefixes (objects : Objects) : Type 0 where
  pub each : (e : Entry Rid) (b : Body Rid) → body_at objects e ≡ Some b → HasPrefix b

-- the same things, in whatever order and however often
pub record AreSame (things others : List Thing) : Type 0 where
  pub into : (t : Thing) → IsIn t things → IsIn t others
  pub back : (t : Thing) → IsIn t others → IsIn t things

-- a hop has one Ethernet address, and that is the one that its packets get
pub record HasOneMac (things : List Thing) (hop : Hop) : Type 0 where
  pub mac : Mac
  pub stands : IsIn (thing.Neighbor hop mac) things
  pub one : (other : Mac) → IsIn (thing.Neighbor hop other) things → other ≡ mac
  pub found : hop_mac things hop ≡ Some mac

-- each hop that packets go through has one
abbrev pub HopsAreReached : List Thing → Decision → Type 0
HopsAreReached things (decision.Via hops) = (whop : WHop) → IsIn whop hops → HasOneMac things whop.hop
HopsAreReached things _ = Unit {0}
