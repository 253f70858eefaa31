-- words have no blank and no newline in them
use Rattle.std.proofs.Common.{◌≡◌, ℕ, zero, suc, ◌+◌, ◌/◌, ◌%◌, ◌^◌, ◌<◌, true, ltb, List, [], ◌∷◌, get_or, flat_map, All, codes, refl, arith, inl, inr, lit≤}
use Rattle.std.specs.Char.{digit_char}
use Rattle.std.specs.Fmt.{decimal}
use Rattle.std.specs.List.{list_all}
use Rattle.std.proofs.NetLemmas.Alphabet.{IsHexOrColon, IsDigitOrDot, All-hex_groups_text, All-ipv4_text}
use Rattle.std.proofs.lemmas.Bool.{and_parts, ltb-true}
use Rattle.std.proofs.lemmas.Bool.Decides.{nat_tests}
use Rattle.std.proofs.lemmas.Fmt.{decimal_is_IsNumeral}
use Rattle.std.proofs.lemmas.List.Elements.{All-append, All-cons, All-from_get_or, All-nil, All-weaker}
use Rattle.std.proofs.lemmas.Str.Parse.{digit_at}
use Rattle.swss_types.specs.Address.{IsProperPrefix}
use Rattle.swss_types.specs.Ip.{groups_in, ip_text, text_in}
use Rattle.swss_types.specs.Lanes.{AreRising, IsLaneList, lanes_text}
use Rattle.swss_types.specs.Mac.{IsProperMac, mac_text, pair_text, pairs_text}
use Rattle.swss_types.specs.Parts.{AllBelow}
use Rattle.swss_types.specs.Prefix.{prefix_text}
use Rattle.swss_types.specs.Tagging.{tagging_text}
use Rattle.swss_types.specs.VrfNames.{IsProperVrfName, are_label_bytes, is_label_byte, label_of, vrf_name_text}
use Rattle.swss_types.specs.declared.address.Family.{Family}
use Rattle.swss_types.specs.declared.address.Family.TheVariants.{V4, V6}
use Rattle.swss_types.specs.declared.address.Ip.{Ip}
use Rattle.swss_types.specs.declared.address.Mac.{Mac}
use Rattle.swss_types.specs.declared.address.Prefix.{Prefix}
use Rattle.swss_types.specs.declared.tagging.Tagging.{Tagging}
use Rattle.swss_types.specs.declared.tagging.Tagging.TheVariants.{Untagged, Tagged, PriorityTagged}
use Rattle.swss_types.specs.declared.vrf.VrfName.{VrfName}
use Rattle.swss_types.proofs.IpTexts.{AllBelow-groups_in, AllSegments-below}
use Rattle.swss_types.proofs.PrefixTexts.{width-le}

abbrev pub IsVisible : ℕ → Type 0
IsVisible b = 32 < b

abbrev pub IsPlain : List ℕ → Type 0
IsPlain text = All IsVisible text

-- a text that is written out
pub plain-codes : (text : List ℕ) → list_all (λ b. ltb 32 b) text ≡ true → IsPlain text
plain-codes [] h = All-nil IsVisible
plain-codes (b ∷ bs) h =
    let parts = and_parts (ltb 32 b) (list_all (λ c. ltb 32 c) bs) h in
    All-cons IsVisible b bs (ltb-true 32 b parts.0) (plain-codes bs parts.1)

pub plain-decimal : (n : ℕ) → n < 2 ^ 64 → IsPlain (decimal n)
plain-decimal n small = All-from_get_or IsVisible (decimal n) 0 (λ i within. let digit = digit_at (decimal n) i (decimal_is_IsNumeral n small).0.1 within in omega (arith, digit))

lanes_behind : (low : ℕ) (lanes : List ℕ) → AreRising low lanes → IsPlain (flat_map (λ lane. 44 ∷ decimal lane) lanes)
lanes_behind low [] h = All-nil IsVisible
lanes_behind low (lane ∷ lanes) h =
    All-append IsVisible (44 ∷ decimal lane) (flat_map (λ l. 44 ∷ decimal l) lanes) (All-cons IsVisible 44 (decimal lane) (omega arith) (plain-decimal lane (omega (arith, h.1)))) (lanes_behind (lane + 1) lanes h.2)

lanes_plain : (lanes : List ℕ) → AreRising 0 lanes → IsPlain (lanes_text lanes)
lanes_plain [] h = All-nil IsVisible
lanes_plain (lane ∷ lanes) h = All-append IsVisible (decimal lane) (flat_map (λ l. 44 ∷ decimal l) lanes) (plain-decimal lane (omega (arith, h.1))) (lanes_behind (lane + 1) lanes h.2)

pub plain-lanes : (lanes : List ℕ) → IsLaneList lanes → IsPlain (lanes_text lanes)
plain-lanes lanes h = lanes_plain lanes h.rising

digit_visible : (d : ℕ) → d < 16 → IsVisible (digit_char d)
digit_visible d h = grind (arith, nat_tests)

pair_plain : (b : ℕ) → b < 256 → IsPlain (pair_text b)
pair_plain b h = All-cons IsVisible (digit_char (b / 16)) (digit_char (b % 16) ∷ []) (digit_visible (b / 16) (omega arith)) (All-cons IsVisible (digit_char (b % 16)) [] (digit_visible (b % 16) (omega arith)) (All-nil IsVisible))

pairs_behind : (bytes : List ℕ) → AllBelow 256 bytes → IsPlain (flat_map (λ b. 58 ∷ pair_text b) bytes)
pairs_behind [] h = All-nil IsVisible
pairs_behind (b ∷ bs) h =
    All-append IsVisible (58 ∷ pair_text b) (flat_map (λ c. 58 ∷ pair_text c) bs) (All-cons IsVisible 58 (pair_text b) (omega arith) (pair_plain b h.0)) (pairs_behind bs h.1)

pairs_plain : (bytes : List ℕ) → AllBelow 256 bytes → IsPlain (pairs_text bytes)
pairs_plain [] h = All-nil IsVisible
pairs_plain (b ∷ bs) h = All-append IsVisible (pair_text b) (flat_map (λ c. 58 ∷ pair_text c) bs) (pair_plain b h.0) (pairs_behind bs h.1)

pub plain-mac : (mac : Mac) → IsProperMac mac → IsPlain (mac_text mac)
plain-mac mac h = pairs_plain mac.0 h.1

hex_visible : (c : ℕ) → IsHexOrColon c → IsVisible c
hex_visible c (inl digit) = omega arith
hex_visible c (inr letter) = omega arith

dotted_visible : (c : ℕ) → IsDigitOrDot c → IsVisible c
dotted_visible c (inl digit) = omega arith
dotted_visible c (inr dot) = omega arith

bytes_fit : (a b c d k : ℕ) → a < 256 → b < 256 → c < 256 → d < 256 → get_or (a ∷ b ∷ c ∷ d ∷ []) k 0 < 2 ^ 8
bytes_fit a b c d zero ha hb hc hd = ha
bytes_fit a b c d (suc zero) ha hb hc hd = hb
bytes_fit a b c d (suc (suc zero)) ha hb hc hd = hc
bytes_fit a b c d (suc (suc (suc zero))) ha hb hc hd = hd
bytes_fit a b c d (suc (suc (suc (suc k)))) ha hb hc hd = lit≤ tt

text_plain : (family : Family) (bits : ℕ) → IsPlain (text_in family bits)
text_plain V4 bits = All-weaker IsDigitOrDot IsVisible dotted_visible (text_in V4 bits) (All-ipv4_text (bits / 2 ^ 24 % 256 ∷ bits / 2 ^ 16 % 256 ∷ bits / 2 ^ 8 % 256 ∷ bits % 256 ∷ []) (λ j. bytes_fit _ _ _ _ j (omega arith) (omega arith) (omega arith) (omega arith)))
text_plain V6 bits = All-weaker IsHexOrColon IsVisible hex_visible (text_in V6 bits) (All-hex_groups_text (groups_in bits) (AllSegments-below (groups_in bits) (AllBelow-groups_in bits)))

pub plain-ip : (ip : Ip) → IsPlain (ip_text ip)
plain-ip ip = text_plain ip.family ip.bits

pub plain-prefix : (p : Prefix) → IsProperPrefix p → IsPlain (prefix_text p)
plain-prefix p h =
    let most = width-le p.ip.family in
    All-append IsVisible (ip_text p.ip) (47 ∷ decimal p.len) (plain-ip p.ip) (All-cons IsVisible 47 (decimal p.len) (omega arith) (plain-decimal p.len (omega (arith, h.1))))

label_visible : (b : ℕ) → is_label_byte b ≡ true → IsVisible b
label_visible b h = grind (arith, nat_tests)

label_plain : (label : List ℕ) → are_label_bytes label ≡ true → IsPlain label
label_plain [] h = All-nil IsVisible
label_plain (b ∷ bs) h =
    let parts = and_parts (is_label_byte b) (are_label_bytes bs) h in
    All-cons IsVisible b bs (label_visible b parts.0) (label_plain bs parts.1)

pub plain-vrf_name : (name : VrfName) → IsProperVrfName name → IsPlain (vrf_name_text name)
plain-vrf_name name h = All-append IsVisible (codes "Vrf") (label_of name) (plain-codes (codes "Vrf") refl) (label_plain (label_of name) h.0.1)

pub plain-tagging : (tagging : Tagging) → IsPlain (tagging_text tagging)
plain-tagging Untagged = plain-codes (codes "untagged") refl
plain-tagging Tagged = plain-codes (codes "tagged") refl
plain-tagging PriorityTagged = plain-codes (codes "priority_tagged") refl
