-- The texts of Ethernet addresses: six pairs of hexadecimal digits, joined by colons.
use Rattle.std.specs.Prelude.{◌≡◌, ℕ, ◌/◌, ◌%◌, ◌==◌, List, [], ◌∷◌, ◌++◌, length, Option, Some, None, if◌then◌else◌, flat_map}
use Rattle.std.specs.Char.{digit_char}
use Rattle.swss_types.specs.Hex.{hex_within}
use Rattle.swss_types.specs.Parts.{parts_at, each_of, AllBelow}
use Rattle.swss_types.specs.declared.address.Mac.{Mac}

-- six numbers are an address
abbrev pub mac_from : Option (List ℕ) → Option Mac
mac_from None = None
mac_from (Some bytes) = if length bytes == 6 then Some (record { 0 = bytes }) else None

-- the address that a text writes: six pairs of digits of either case, joined by `:`
abbrev pub mac_of : List ℕ → Option Mac
mac_of text = mac_from (each_of (hex_within 2 2) (parts_at 58 text))

-- a byte as two digits, letters in lower case
abbrev pub pair_text : ℕ → List ℕ
pair_text byte = digit_char (byte / 16) ∷ digit_char (byte % 16) ∷ []

-- pairs joined by colons
abbrev pub pairs_text : List ℕ → List ℕ
pairs_text [] = []
pairs_text (byte ∷ bytes) = pair_text byte ++ flat_map (λ b. 58 ∷ pair_text b) bytes

-- the written form: six pairs of digits, letters in lower case, joined by `:`
abbrev pub mac_text : Mac → List ℕ
mac_text mac = pairs_text mac.0

-- six bytes
abbrev pub IsProperMac : Mac → Type 0
IsProperMac mac = (length mac.0 ≡ 6) × AllBelow 256 mac.0
