-- hexadecimal digits and MACs that are written read as the same
use Rattle.std.proofs.Common.{◌≡◌, ℕ, ◌+◌, ◌*◌, ◌/◌, ◌%◌, ◌<◌, ◌==◌, true, false, List, [], ◌∷◌, length, Option, Some, refl, ap, ◌∙◌, arith}
use Rattle.std.proofs.lemmas.Bool.{lt-ltb}
use Rattle.std.proofs.lemmas.Bool.Decides.{nat_tests}
use Rattle.std.proofs.lemmas.List.Elements.{All-nil, All-cons}
use Rattle.std.specs.Char.{digit_char, digit_value, is_digit}
use Rattle.swss_types.specs.Hex.{hex_behind, hex_within}
use Rattle.swss_types.specs.Mac.{mac_from, mac_of, mac_text, pair_text, pairs_text, IsProperMac}
use Rattle.swss_types.specs.Parts.{AllBelow}
use Rattle.swss_types.specs.declared.address.Mac.{Mac}
use Rattle.swss_types.proofs.Joins.{IsFree, each_of-joined}

digit_value-digit_char : (d : ℕ) → d < 16 → digit_value (digit_char d) ≡ d
digit_value-digit_char d h = grind (arith, nat_tests)

-- the next digit
pub hex_behind-digit : (n d : ℕ) (bs : List ℕ) → d < 16 → hex_behind n (digit_char d ∷ bs) ≡ hex_behind (16 * n + d) bs
hex_behind-digit n d bs h =
    let value = digit_value-digit_char d h in
    let test : is_digit (digit_char d) 16 ≡ true = rw value (lt-ltb d 16 h) in
    rw (test, value) refl

-- digits are no colons, dots or slashes
pub digit_char-free : (byte d : ℕ) → byte < 48 → d < 16 → (digit_char d == byte) ≡ false
digit_char-free byte d low h = grind (arith, nat_tests)

pub digit_char-no_colon : (d : ℕ) → d < 16 → (digit_char d == 58) ≡ false
digit_char-no_colon d h = grind (arith, nat_tests)

pub IsFree-cons : (byte b : ℕ) (bs : List ℕ) → (b == byte) ≡ false → IsFree byte bs → IsFree byte (b ∷ bs)
IsFree-cons byte b bs h k = All-cons (λ b. (b == byte) ≡ false) b bs h k

pub IsFree-nil : (byte : ℕ) → IsFree byte []
IsFree-nil byte = All-nil (λ b. (b == byte) ≡ false)

pair_reads : (b : ℕ) → b < 256 → hex_within 2 2 (pair_text b) ≡ Some b
pair_reads b h =
    let high : b / 16 < 16 = omega arith in
    let low : b % 16 < 16 = omega arith in
    let both : 16 * (16 * 0 + b / 16) + b % 16 ≡ b = omega arith in
    hex_behind-digit 0 (b / 16) (digit_char (b % 16) ∷ []) high ∙ hex_behind-digit (16 * 0 + b / 16) (b % 16) [] low ∙ ap Some both

pair_free : (b : ℕ) → b < 256 → IsFree 58 (pair_text b)
pair_free b h = IsFree-cons 58 _ (digit_char (b % 16) ∷ []) (digit_char-no_colon (b / 16) (omega arith)) (IsFree-cons 58 _ [] (digit_char-no_colon (b % 16) (omega arith)) (IsFree-nil 58))

mac_from-some : (o : Option (List ℕ)) (bytes : List ℕ) → o ≡ Some bytes → length bytes ≡ 6 → mac_from o ≡ Some (record { 0 = bytes })
mac_from-some o bytes same six = rw (same, six) refl

mac_of_bytes : (bytes : List ℕ) → length bytes ≡ 6 → AllBelow 256 bytes → mac_of (pairs_text bytes) ≡ Some (record { 0 = bytes })
mac_of_bytes [] six below = absurd (omega arith)
mac_of_bytes (b ∷ bs) six below = mac_from-some _ (b ∷ bs) (each_of-joined 58 256 pair_text (hex_within 2 2) pair_free pair_reads b bs below) six

pub mac_of-mac_text : (mac : Mac) → IsProperMac mac → mac_of (mac_text mac) ≡ Some mac
mac_of-mac_text mac h = mac_of_bytes mac.0 h.0 h.1
