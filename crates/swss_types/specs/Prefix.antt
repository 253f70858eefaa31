-- The texts of prefixes and of interface addresses (RFC 4291 section 2.3; RFC 4632 section 3.1).
use Rattle.std.specs.Prelude.{ℕ, ◌-◌, ◌%◌, ◌^◌, ◌≤◌, ◌==◌, not, Bool, false, List, [], ◌∷◌, ◌++◌, Option, Some, None, option_map, if◌then◌else◌}
use Rattle.std.specs.Fmt.{decimal}
use Rattle.swss_types.specs.Address.{width, IsProperIp}
use Rattle.swss_types.specs.Ip.{ip_of, ip_text}
use Rattle.swss_types.specs.Number.{number_within}
use Rattle.swss_types.specs.Parts.{parts_at}
use Rattle.swss_types.specs.declared.address.Ip.{Ip}
use Rattle.swss_types.specs.declared.address.Prefix.{Prefix}

-- an address without a length has that of its family
abbrev pub with_width : Option Ip → Option (Ip × ℕ)
with_width None = None
with_width (Some ip) = Some (ip, width ip.family)

-- an address and a length in its family's range
abbrev pub with_length : List ℕ → Option Ip → Option (Ip × ℕ)
with_length len None = None
with_length len (Some ip) = option_map (λ n. (ip, n)) (number_within (width ip.family) len)

-- an address, or an address and a length
abbrev pub address_in : List (List ℕ) → Option (Ip × ℕ)
address_in [] = None
address_in (ip ∷ []) = with_width (ip_of ip)
address_in (ip ∷ len ∷ []) = with_length len (ip_of ip)
address_in (ip ∷ len ∷ other ∷ others) = None

-- the address and the length that a text writes: an address, or an address, `/` and a length
abbrev pub interface_address_of : List ℕ → Option (Ip × ℕ)
interface_address_of text = address_in (parts_at 47 text)

-- all bits past the length are zero
abbrev pub is_clean : Ip → ℕ → Bool
is_clean ip len = ip.bits % 2 ^ (width ip.family - len) == 0

abbrev pub prefix_from : Option (Ip × ℕ) → Option Prefix
prefix_from None = None
prefix_from (Some a) = if is_clean a.0 a.1 then Some (record { ip = a.0; len = a.1 }) else None

-- the prefix that a text writes: an address and a length, and no bits past it
abbrev pub prefix_of : List ℕ → Option Prefix
prefix_of text = prefix_from (interface_address_of text)

abbrev pub is_unclean : Option (Ip × ℕ) → Bool
is_unclean None = false
is_unclean (Some a) = not (is_clean a.0 a.1)

-- the text is a prefix but for bits past its length
abbrev pub has_host_bits : List ℕ → Bool
has_host_bits text = is_unclean (interface_address_of text)

-- the written form: the address, `/` and the length
abbrev pub interface_address_text : Ip → ℕ → List ℕ
interface_address_text ip len = ip_text ip ++ 47 ∷ decimal len

-- the written form of a prefix
abbrev pub prefix_text : Prefix → List ℕ
prefix_text p = interface_address_text p.ip p.len

-- an interface address: a proper address, and a length in its family's range
abbrev pub IsProperInterfaceAddress : Ip × ℕ → Type 0
IsProperInterfaceAddress a = IsProperIp a.0 × (a.1 ≤ width a.0.family)
