-- the texts of a script that is made
use Rattle.std.proofs.Common.{◌≡◌, ℕ, ◌+◌, ◌*◌, ◌/◌, ◌%◌, ◌^◌, ◌-◌, ◌<◌, false, [], ◌∷◌, ◌++◌, codes, refl, sym, ap, ap₂, ◌∙◌, arith, append_assoc, append-nil}
use Rattle.std.specs.Fmt.{decimal, digits, format_spec, padded_integral}
use Rattle.std.specs.Net.Text.{dotted_text}
use Rattle.std.proofs.lemmas.Fmt.{decimal_digit, decimal_step, hex_byte}
use Rattle.swss_types.specs.Ip.{ip_text}
use Rattle.swss_types.specs.Lanes.{lanes_text}
use Rattle.swss_types.specs.Mac.{pair_text}
use Rattle.swss_script.specs.Generated.{drawn, hop_address, next_state, four_lanes, v4}

-- ---- draws

-- the first draw of seed 7, worked out by hand
pub first-draw : drawn (next_state 7) ≡ 1059165278
first-draw = refl

-- ---- lanes, and Ethernet addresses

pub lanes_written : (k : ℕ) → decimal (4 * k) ++ (44 ∷ (decimal (4 * k + 1) ++ (44 ∷ (decimal (4 * k + 2) ++ (44 ∷ decimal (4 * k + 3)))))) ≡ lanes_text (four_lanes k)
lanes_written k = ap (λ t. decimal (4 * k) ++ (44 ∷ (decimal (4 * k + 1) ++ (44 ∷ (decimal (4 * k + 2) ++ (44 ∷ t)))))) (sym (append-nil (decimal (4 * k + 3))))

pub pair_written : (j : ℕ) → j < 256 → padded_integral (format_spec 32 0 4 2 (2 ^ 64 - 1)) false [] (digits 16 false j) ≡ pair_text j
pair_written j small = hex_byte false j small

-- ---- addresses

zero-text : decimal 0 ≡ 48 ∷ []
zero-text = decimal_digit 0 (omega arith)

ten-text : decimal 10 ≡ 49 ∷ 48 ∷ []
ten-text = decimal_step 10 (omega arith) (omega arith) ∙ ap (λ l. l ++ 48 ∷ []) (decimal_digit 1 (omega arith))

-- an address of the network 10.0.0.0/16
ten-address : (c d : ℕ) → c < 256 → d < 256 → codes "10.0." ++ (decimal c ++ (46 ∷ decimal d)) ≡ ip_text (v4 10 0 c d)
ten-address c d hc hd =
    let bits : ℕ = ((10 * 256 + 0) * 256 + c) * 256 + d in
    let one : 10 ≡ bits / 2 ^ 24 % 256 = omega (arith, hc, hd) in
    let two : 0 ≡ bits / 2 ^ 16 % 256 = omega (arith, hc, hd) in
    let three : c ≡ bits / 2 ^ 8 % 256 = omega (arith, hc, hd) in
    let four : d ≡ bits % 256 = omega (arith, hc, hd) in
    ap (λ l. codes "10.0." ++ l) (sym (append_assoc (decimal c) (codes ".") (decimal d)))
    ∙ ap₂ (λ t z. t ++ codes "." ++ z ++ codes "." ++ decimal c ++ codes "." ++ decimal d) (sym ten-text) (sym zero-text)
    ∙ ap₂ (λ a b. dotted_text a b c d) one two
    ∙ ap₂ (λ x y. dotted_text (bits / 2 ^ 24 % 256) (bits / 2 ^ 16 % 256) x y) three four

-- the address of a neighbour
pub hop_written : (j : ℕ) → j < 256 → codes "10.0." ++ (decimal (j % 64) ++ (46 ∷ decimal (2 + j / 64))) ≡ hop_address j
hop_written j small = ten-address (j % 64) (2 + j / 64) (omega (arith, small)) (omega (arith, small))
