-- What a move from old things to new ones does to each packet. Own.
use Rattle.std.specs.Prelude.{◌≡◌, ◌⊎◌, List}
use Rattle.swss_types.specs.declared.vrf.Packet.{Packet}
use Rattle.sai_types.specs.declared.thing.Thing.{Thing}
use Rattle.sai_types.specs.Alike.{IsIn}
use Rattle.sai_types.specs.Forwarding.{decide, forward}
use Rattle.sai_types.specs.Names as name
use Rattle.sai_types.specs.Names.{ThingName, name_of}
use Rattle.plan_laws.specs.Plans.{PlanChange, stands_after_all}

-- the names by which packets go
abbrev pub IsForwarding : ThingName → Type 0
IsForwarding (name.Own v ip) = Unit {0}
IsForwarding (name.Neighbor hop) = Unit {0}
IsForwarding (name.Route v prefix) = Unit {0}
IsForwarding _ = ⊥

-- a list of what stands after changes of the old things, as far as packets go by it
pub record ForwardsAfter (old : List Thing) (done : List PlanChange) (now : List Thing) : Type 0 where
  pub sound : (t : Thing) → IsForwarding (name_of t) → IsIn t now → stands_after_all done (λ u. IsIn u old) t
  pub all : (t : Thing) → IsForwarding (name_of t) → stands_after_all done (λ u. IsIn u old) t → IsIn t now

-- each packet is decided as by the old things or as by the new ones
abbrev pub IsOldOrNew : List Thing → List Thing → List Thing → Type 0
IsOldOrNew old new now = (a : Packet) → (decide now a ≡ decide old a) ⊎ (decide now a ≡ decide new a)

-- what is decided as by the new things stays so
abbrev pub StaysNew : List Thing → List Thing → List Thing → Type 0
StaysNew new now later = (a : Packet) → decide now a ≡ decide new a → decide later a ≡ decide new a

-- what the old and the new things forward equally is forwarded so
abbrev pub IsHitless : List Thing → List Thing → List Thing → Type 0
IsHitless old new now = (a : Packet) → forward old a ≡ forward new a → (forward now a ≡ forward old a) × (forward now a ≡ forward new a)
