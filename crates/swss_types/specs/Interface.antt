-- Names of interfaces, as SONiC's application tables spell them.
use Rattle.std.specs.Prelude.{ℕ, ◌<◌, ◌≤◌, nat_lt, List, ◌++◌, Option, Some, None, length, take, drop, codes, if◌then◌else◌, ◌==◌, option_map}
use Rattle.std.specs.Fmt.{decimal}
use Rattle.std.specs.Cmp.Lexicographic.{pointwise}
use Rattle.swss_types.specs.Number.{number_within}
use Rattle.swss_types.specs.declared.interface.IfName.{IfName}
use Rattle.swss_types.specs.declared.interface.IfName.TheVariants.{Ethernet, Vlan, Loopback}
use Rattle.swss_types.specs.declared.interface.TheConstants.{MOST_PORT, MOST_VLAN}

-- what stands behind a word at the front of a text
abbrev pub behind : List ℕ → List ℕ → Option (List ℕ)
behind word text = if pointwise ◌==◌ (take (length word) text) word then Some (drop (length word) text) else None

-- a VLAN's number is not 0
abbrev pub vlan_of : Option ℕ → Option IfName
vlan_of None = None
vlan_of (Some n) = if nat_lt 0 n then Some (Vlan n) else None

abbrev pub loopback_of : List ℕ → Option (List ℕ) → Option IfName
loopback_of text None = None
loopback_of text (Some number) = option_map Loopback (number_within MOST_PORT number)

abbrev pub vlan_or_other : List ℕ → Option (List ℕ) → Option IfName
vlan_or_other text None = loopback_of text (behind (codes "Loopback") text)
vlan_or_other text (Some number) = vlan_of (number_within MOST_VLAN number)

abbrev pub ethernet_or_other : List ℕ → Option (List ℕ) → Option IfName
ethernet_or_other text None = vlan_or_other text (behind (codes "Vlan") text)
ethernet_or_other text (Some number) = option_map Ethernet (number_within MOST_PORT number)

-- `Ethernet` and a port's number, `Vlan` and a VLAN's number from 1 on, or `Loopback` and a number like a port's
abbrev pub if_name_of : List ℕ → Option IfName
if_name_of text = ethernet_or_other text (behind (codes "Ethernet") text)

-- the written name
abbrev pub if_name_text : IfName → List ℕ
if_name_text (Ethernet n) = codes "Ethernet" ++ decimal n
if_name_text (Vlan n) = codes "Vlan" ++ decimal n
if_name_text (Loopback n) = codes "Loopback" ++ decimal n

-- the numbers in their ranges
abbrev pub IsProperIfName : IfName → Type 0
IsProperIfName (Ethernet n) = n ≤ MOST_PORT
IsProperIfName (Vlan n) = (0 < n) × (n ≤ MOST_VLAN)
IsProperIfName (Loopback n) = n ≤ MOST_PORT
