-- prefixes and interface addresses that are written read as the same
use Rattle.std.proofs.Common.{◌≡◌, ℕ, ◌-◌, ◌/◌, ◌%◌, ◌^◌, ◌<◌, ◌≤◌, ◌==◌, false, [], ◌∷◌, Option, Some, refl, ap, ◌∙◌, arith, inl, inr, lit≤, zero, suc, get_or}
use Rattle.std.proofs.NetLemmas.Alphabet.{IsHexOrColon, IsDigitOrDot, All-hex_groups_text, All-ipv4_text}
use Rattle.std.proofs.lemmas.Bool.{ne_eqb, eq-eqb}
use Rattle.std.proofs.lemmas.List.Splits.{slice_split_none, slice_split_at}
use Rattle.std.specs.Fmt.{decimal}
use Rattle.swss_types.specs.Address.{width, IsProperPrefix}
use Rattle.swss_types.specs.Ip.{ip_of, ip_text, text_in, groups_in}
use Rattle.swss_types.specs.Parts.{parts_at}
use Rattle.swss_types.specs.Prefix.{with_length, address_in, interface_address_of, interface_address_text, prefix_from, prefix_of, prefix_text, IsProperInterfaceAddress}
use Rattle.swss_types.specs.declared.address.Family.{Family}
use Rattle.swss_types.specs.declared.address.Family.TheVariants.{V4, V6}
use Rattle.swss_types.specs.declared.address.Ip.{Ip}
use Rattle.swss_types.specs.declared.address.Prefix.{Prefix}
use Rattle.swss_types.proofs.Decimals.{IsFree-decimal, number_within-decimal}
use Rattle.swss_types.proofs.IpTexts.{ip_of-ip_text, AllSegments-below, AllBelow-groups_in}
use Rattle.swss_types.proofs.Joins.{IsFree}

hex_no_slash : (c : ℕ) → IsHexOrColon c → (c == 47) ≡ false
hex_no_slash c (inl digit) = ne_eqb c 47 (omega arith)
hex_no_slash c (inr letter) = ne_eqb c 47 (omega arith)

dotted_no_slash : (c : ℕ) → IsDigitOrDot c → (c == 47) ≡ false
dotted_no_slash c (inl digit) = ne_eqb c 47 (omega arith)
dotted_no_slash c (inr dot) = ne_eqb c 47 (omega arith)

bytes_fit : (a b c d k : ℕ) → a < 256 → b < 256 → c < 256 → d < 256 → get_or (a ∷ b ∷ c ∷ d ∷ []) k 0 < 2 ^ 8
bytes_fit a b c d zero ha hb hc hd = ha
bytes_fit a b c d (suc zero) ha hb hc hd = hb
bytes_fit a b c d (suc (suc zero)) ha hb hc hd = hc
bytes_fit a b c d (suc (suc (suc zero))) ha hb hc hd = hd
bytes_fit a b c d (suc (suc (suc (suc k)))) ha hb hc hd = lit≤ tt

no_slash : (family : Family) (bits : ℕ) → IsFree 47 (text_in family bits)
no_slash V4 bits = λ k d within. dotted_no_slash _ (All-ipv4_text (bits / 2 ^ 24 % 256 ∷ bits / 2 ^ 16 % 256 ∷ bits / 2 ^ 8 % 256 ∷ bits % 256 ∷ []) (λ j. bytes_fit _ _ _ _ j (omega arith) (omega arith) (omega arith) (omega arith)) k d within)
no_slash V6 bits = λ k d within. hex_no_slash _ (All-hex_groups_text (groups_in bits) (AllSegments-below (groups_in bits) (AllBelow-groups_in bits)) k d within)

pub width-le : (family : Family) → width family ≤ 128
width-le V4 = lit≤ tt
width-le V6 = lit≤ tt

with_length-some : (o : Option Ip) (ip : Ip) (len : ℕ) → o ≡ Some ip → len ≤ width ip.family → with_length (decimal len) o ≡ Some (ip, len)
with_length-some o ip len same within =
    let most = width-le ip.family in
    rw (same, number_within-decimal (width ip.family) len within (omega arith)) refl

pub interface_address_of-text : (a : Ip × ℕ) → IsProperInterfaceAddress a → interface_address_of (interface_address_text a.0 a.1) ≡ Some a
interface_address_of-text a h =
    let most = width-le a.0.family in
    let len : parts_at 47 (decimal a.1) ≡ decimal a.1 ∷ [] = slice_split_none (λ b. b == 47) (decimal a.1) (IsFree-decimal 47 a.1 (λ r. absurd (omega arith)) (omega arith)) in
    let cut : parts_at 47 (interface_address_text a.0 a.1) ≡ ip_text a.0 ∷ parts_at 47 (decimal a.1) = slice_split_at (λ b. b == 47) (ip_text a.0) 47 (decimal a.1) (no_slash a.0.family a.0.bits) (eq-eqb 47 47 refl) in
    ap address_in (cut ∙ ap (λ parts. ip_text a.0 ∷ parts) len) ∙ with_length-some (ip_of (ip_text a.0)) a.0 a.1 (ip_of-ip_text a.0 h.0) h.1

prefix_from-some : (ip : Ip) (len : ℕ) → ip.bits % 2 ^ (width ip.family - len) ≡ 0 → prefix_from (Some (ip, len)) ≡ Some (record { ip = ip; len = len })
prefix_from-some ip len clean = rw clean refl

pub prefix_of-prefix_text : (p : Prefix) → IsProperPrefix p → prefix_of (prefix_text p) ≡ Some p
prefix_of-prefix_text p h = ap prefix_from (interface_address_of-text (p.ip, p.len) (h.0, h.1)) ∙ prefix_from-some p.ip p.len h.2
