-- The texts of addresses (RFC 4291 section 2.2, without the form that ends in dotted numbers; RFC 5952 section 4).
use Rattle.std.specs.Prelude.{◌≡◌, ℕ, suc, ◌+◌, ◌-◌, ◌*◌, ◌/◌, ◌%◌, ◌^◌, ◌≤◌, ◌==◌, ◌&&◌, nat_le, ◌<◌, ◌≢◌, ◌⊎◌, List, [], ◌∷◌, ◌++◌, length, take, drop, replicate, slice_index, Option, Some, None, option_map, codes, if◌then◌else◌}
use Rattle.std.specs.Int.{IsInRange}
use Rattle.std.specs.Net.Text.{dotted_text, groups_text, hex_groups_text}
use Rattle.swss_types.specs.Hex.{hex_within}
use Rattle.swss_types.specs.Number.{number_within}
use Rattle.swss_types.specs.Parts.{parts_at, each_of}
use Rattle.swss_types.specs.declared.address.Family.{Family}
use Rattle.swss_types.specs.declared.address.Family.TheVariants.{V4, V6}
use Rattle.swss_types.specs.declared.address.Ip.{Ip}

-- the number with these digits in a base, the highest first, behind the number n
abbrev pub joined : ℕ → ℕ → List ℕ → ℕ
joined base n [] = n
joined base n (d ∷ ds) = joined base (base * n + d) ds

-- four bytes are an address of version 4
abbrev pub ipv4_from : Option (List ℕ) → Option Ip
ipv4_from None = None
ipv4_from (Some bytes) = if length bytes == 4 then Some (record { family = V4; bits = joined 256 0 bytes }) else None

-- the address of version 4 that a text writes: four numbers 0 to 255 joined by `.`
abbrev pub ipv4_of : List ℕ → Option Ip
ipv4_of text = ipv4_from (each_of (number_within 255) (parts_at 46 text))

-- the groups that a text writes, each of 1 to 4 hexadecimal digits of either case, joined by `:`
abbrev pub groups_of : List ℕ → Option (List ℕ)
groups_of text = each_of (hex_within 1 4) (parts_at 58 text)

-- the groups beside a `::`, of which there may be none
abbrev pub side_of : List ℕ → Option (List ℕ)
side_of [] = Some []
side_of (b ∷ bs) = groups_of (b ∷ bs)

-- the place of the first `::`
abbrev pub gap_at : List ℕ → Option ℕ
gap_at [] = None
gap_at (b ∷ bs) = if b == 58 && slice_index bs 0 == 58 then Some 0 else option_map suc (gap_at bs)

-- eight groups are an address of version 6
abbrev pub ipv6_from : Option (List ℕ) → Option Ip
ipv6_from None = None
ipv6_from (Some groups) = if length groups == 8 then Some (record { family = V6; bits = joined 65536 0 groups }) else None

-- `::` stands for the groups of zeros that are missing, one or more
abbrev pub filled : List ℕ → List ℕ → Option (List ℕ)
filled front back =
    if nat_le (length front + length back) 7
    then Some (front ++ replicate (8 - (length front + length back)) 0 ++ back)
    else None

-- the groups before and behind a `::`, and those between them
abbrev pub filled_between : Option (List ℕ) → Option (List ℕ) → Option (List ℕ)
filled_between None back = None
filled_between (Some front) None = None
filled_between (Some front) (Some back) = filled front back

-- all eight groups of a text, by the place of its first `::`
abbrev pub eight_of : List ℕ → Option ℕ → Option (List ℕ)
eight_of text None = groups_of text
eight_of text (Some at) = filled_between (side_of (take at text)) (side_of (drop (at + 2) text))

-- the address of version 6 that a text writes: eight groups joined by `:`, or `::` once and at most seven groups
abbrev pub ipv6_of : List ℕ → Option Ip
ipv6_of text = ipv6_from (eight_of text (gap_at text))

abbrev pub ip_or : Option Ip → Option Ip → Option Ip
ip_or None other = other
ip_or (Some ip) other = Some ip

-- the address that a text writes
abbrev pub ip_of : List ℕ → Option Ip
ip_of text = ip_or (ipv4_of text) (ipv6_of text)

-- the eight groups of an address of version 6, the highest first
abbrev pub groups_in : ℕ → List ℕ
groups_in bits =
    bits / 2 ^ 112 % 65536 ∷ bits / 2 ^ 96 % 65536 ∷ bits / 2 ^ 80 % 65536 ∷ bits / 2 ^ 64 % 65536 ∷ bits / 2 ^ 48 % 65536
    ∷ bits / 2 ^ 32 % 65536 ∷ bits / 2 ^ 16 % 65536 ∷ bits % 65536 ∷ []

-- four numbers joined by `.`; or std's form of eight groups, of which `IsRecommended` says what it is
abbrev pub text_in : Family → ℕ → List ℕ
text_in V4 bits = dotted_text (bits / 2 ^ 24 % 256) (bits / 2 ^ 16 % 256) (bits / 2 ^ 8 % 256) (bits % 256)
text_in V6 bits = hex_groups_text (groups_in bits)

-- the written form
abbrev pub ip_text : Ip → List ℕ
ip_text ip = text_in ip.family ip.bits

-- digits of hexadecimal numbers, letters in lower case
abbrev pub AreLowerDigits : List ℕ → Type 0
AreLowerDigits [] = Unit {0}
AreLowerDigits (b ∷ bs) = (IsInRange 48 57 b ⊎ IsInRange 97 102 b) × AreLowerDigits bs

-- a group in 1 to 4 digits, letters in lower case, without leading zeros (RFC 5952 sections 4.1 and 4.3)
pub record IsPlainGroup (group : ℕ) (text : List ℕ) : Type 0 where
  pub reads : hex_within 1 4 text ≡ Some group
  pub lower : AreLowerDigits text
  pub lean : 1 < length text → slice_index text 0 ≢ 48

-- so many zero groups stand there
abbrev pub IsZeroRun : List ℕ → ℕ → ℕ → Type 0
IsZeroRun groups start len = (start + len ≤ length groups) × (take len (drop start groups) ≡ replicate len 0)

-- the run of zero groups that is written `::`: one of at least two groups, none is longer, and it is the first of its length
pub record IsGap (groups : List ℕ) (start len : ℕ) : Type 0 where
  pub zeros : IsZeroRun groups start len
  pub many : 2 ≤ len
  pub longest : (s l : ℕ) → IsZeroRun groups s l → l ≤ len
  pub first : (s : ℕ) → IsZeroRun groups s len → start ≤ s

-- the recommended form (RFC 5952 section 4): plain groups (std's `hex`) joined by `:`, and `::` for that run where there is one
pub record IsRecommended (groups text : List ℕ) : Type 0 where
  pub gap : (start len : ℕ) → IsGap groups start len → text ≡ groups_text (take start groups) ++ codes "::" ++ groups_text (drop (start + len) groups)
  pub whole : ((start len : ℕ) → IsZeroRun groups start len → len ≤ 1) → text ≡ groups_text groups
