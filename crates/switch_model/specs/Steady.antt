-- Changes of a chip that move an address's packets at most once, from where they went to where they are to go. Own.
use Rattle.std.specs.Prelude.{◌≡◌, ◌⊎◌, ℕ, ◌≤◌, List}
use Rattle.swss_types.specs.Address.{IsProperIp}
use Rattle.swss_types.specs.declared.vrf.Packet.{Packet}
use Rattle.sai_types.specs.declared.ids.Rid.{Rid}
use Rattle.sai_types.specs.declared.body.Call.{Call}
use Rattle.sai_types.specs.declared.thing.Thing.{Thing}
use Rattle.sai_types.specs.After.{chip_after}
use Rattle.sai_types.specs.Forwarding.{decide, forward}
use Rattle.sai_types.specs.Named.{named, those}

-- what stands once so many calls took effect
abbrev pub things_after : List (Call Rid) → ℕ → List Thing
things_after effects k = those (named (chip_after effects k))

-- from the one number of effects to the other each address is decided as in the old view or as in the new one, and once as in the new one it stays so; an address that both views forward alike is forwarded so all along
pub record IsSteady (old new : List Thing) (effects : List (Call Rid)) (from to : ℕ) : Type 0 where
  pub decided : (a : Packet) (k : ℕ) → IsProperIp a.to → from ≤ k → k ≤ to → (decide (things_after effects k) a ≡ decide old a) ⊎ (decide (things_after effects k) a ≡ decide new a)
  pub stays : (a : Packet) (k l : ℕ) → IsProperIp a.to → from ≤ k → k ≤ l → l ≤ to → decide (things_after effects k) a ≡ decide new a → decide (things_after effects l) a ≡ decide new a
  pub forwarded : (a : Packet) (k : ℕ) → IsProperIp a.to → from ≤ k → k ≤ to → forward old a ≡ forward new a → forward (things_after effects k) a ≡ forward old a
