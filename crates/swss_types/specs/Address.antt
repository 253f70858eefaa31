-- Addresses and prefixes (RFC 4291 section 2; RFC 4632 section 3 for the prefixes of version 4).
use Rattle.std.specs.Prelude.{◌≡◌, ℕ, ◌-◌, ◌/◌, ◌%◌, ◌^◌, ◌<◌, ◌≤◌, ◌==◌, Bool, true, false, ◌&&◌, Option, Some, None}
use Rattle.swss_types.specs.declared.address.Family.{Family}
use Rattle.swss_types.specs.declared.address.Family.TheVariants.{V4, V6}
use Rattle.swss_types.specs.declared.address.Ip.{Ip}
use Rattle.swss_types.specs.declared.address.TheConstants.{V4_BITS, V6_BITS}
use Rattle.swss_types.specs.PrefixParts.{PrefixParts}

-- the number of bits of an address
abbrev pub width : Family → ℕ
width V4 = V4_BITS
width V6 = V6_BITS

abbrev pub same_family : Family → Family → Bool
same_family V4 V4 = true
same_family V6 V6 = true
same_family V4 V6 = false
same_family V6 V4 = false

-- an address has no bits past its width
abbrev pub IsProperIp : Ip → Type 0
IsProperIp ip = ip.bits < 2 ^ width ip.family

-- a prefix is no longer than its address, and has no host bits
abbrev pub IsProperPrefix : PrefixParts → Type 0
IsProperPrefix p = IsProperIp p.ip × (p.len ≤ width p.ip.family) × (p.ip.bits % 2 ^ (width p.ip.family - p.len) ≡ 0)

-- the bits of an address that are left when so many of its last bits are cut
abbrev pub front : ℕ → ℕ → ℕ
front rest bits = bits / 2 ^ rest

-- a prefix covers the addresses of its family that agree with it in its first bits
abbrev pub covers : PrefixParts → Ip → Bool
covers p ip = same_family p.ip.family ip.family && (front (width ip.family - p.len) p.ip.bits == front (width ip.family - p.len) ip.bits)

-- what is said of an address's first bits as a prefix: it is the prefix, or the two make no proper one
abbrev pub IsPrefixOf : Ip → ℕ → Option PrefixParts → Type 0
IsPrefixOf ip len (Some p) = p ≡ record { ip = ip; len = len }
IsPrefixOf ip len None = IsProperPrefix (record { ip = ip; len = len }) → ⊥
