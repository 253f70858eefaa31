-- texts of virtual routers, and of what stands behind them
use Rattle.std.proofs.Common.{◌≡◌, ℕ, zero, suc, ◌+◌, ◌<◌, ◌≤◌, ◌==◌, ◌^◌, ◌/◌, ◌%◌, Bool, true, false, ltb, cond, List, [], ◌∷◌, ◌++◌, take, drop, append_assoc, Option, None, Some, option_map, codes, inl, inr, refl, sym, ap, ◌∙◌, arith}
use Rattle.std.specs.Fmt.{decimal}
use Rattle.std.specs.List.{position}
use Rattle.std.specs.Str.{IsAscii}
use Rattle.std.proofs.NetLemmas.Alphabet.{IsHexOrColon, All-hex_groups_text}
use Rattle.std.proofs.lemmas.Bool.{and_parts, eqb-true, false≢true, ne_eqb}
use Rattle.std.proofs.lemmas.Bool.Decides.{nat_tests}
use Rattle.std.proofs.lemmas.Str.{IsAscii-append}
use Rattle.swss_types.specs.Address.{width, IsProperPrefix}
use Rattle.swss_types.specs.Ip.{ip_text, text_in, groups_in}
use Rattle.swss_types.specs.Prefix.{prefix_text}
use Rattle.swss_types.specs.VrfNames.{are_label_bytes, is_label_byte, label_of, vrf_name_of, vrf_name_text, IsProperVrfName}
use Rattle.swss_types.specs.declared.address.Family.{Family}
use Rattle.swss_types.specs.declared.address.Family.TheVariants.{V4, V6}
use Rattle.swss_types.specs.declared.address.Prefix.{Prefix}
use Rattle.swss_types.specs.declared.vrf.Vrf.{Vrf}
use Rattle.swss_types.specs.declared.vrf.Vrf.TheVariants as vrf
use Rattle.swss_types.specs.declared.vrf.VrfName.{VrfName}
use Rattle.swss_types.proofs.Decimals.{IsFree-decimal}
use Rattle.swss_types.proofs.IpTexts.{AllBelow-groups_in, AllSegments-below}
use Rattle.swss_types.proofs.Joins.{IsFree}
use Rattle.swss_types.proofs.Macs.{IsFree-cons, IsFree-nil}
use Rattle.swss_types.proofs.VrfNames.{vrf_name_of-vrf_name_text}
use Rattle.table_schema.specs.KeyText.{in_named, router_before, route_parts, router_text}
use Rattle.table_schema.specs.ProperKey.{IsProperVrf}
use Rattle.table_schema.proofs.Texts.{is_ascii, IsAscii-tested, IsFree-append, IsFree-tested, split_once-first}

-- ---- names of routers

-- no byte of a label is a colon, and each is ASCII
colon_or_not : (b : ℕ) (t : Bool) → (b == 58) ≡ t → is_label_byte b ≡ true → t ≡ false
colon_or_not b false e h = refl
colon_or_not b true e h = absurd (false≢true (ap is_label_byte (sym (eqb-true b 58 e)) ∙ h))

label_free : (label : List ℕ) → are_label_bytes label ≡ true → IsFree 58 label
label_free [] h = IsFree-nil 58
label_free (b ∷ bs) h =
    let parts = and_parts (is_label_byte b) (are_label_bytes bs) h in
    IsFree-cons 58 b bs (colon_or_not b (b == 58) refl parts.0) (label_free bs parts.1)

label_small : (b : ℕ) → is_label_byte b ≡ true → ltb b 128 ≡ true
label_small b h = grind (arith, nat_tests)

label_ascii : (label : List ℕ) → are_label_bytes label ≡ true → is_ascii label ≡ true
label_ascii [] h = refl
label_ascii (b ∷ bs) h =
    let parts = and_parts (is_label_byte b) (are_label_bytes bs) h in
    ap (λ c. cond c (is_ascii bs) false) (label_small b parts.0) ∙ label_ascii bs parts.1

IsFree-vrf_name_text : (n : VrfName) → IsProperVrfName n → IsFree 58 (vrf_name_text n)
IsFree-vrf_name_text n h = IsFree-append 58 (codes "Vrf") (label_of n) (IsFree-tested 58 (codes "Vrf") refl) (label_free (label_of n) h.0.1)

pub IsAscii-vrf_name_text : (n : VrfName) → IsProperVrfName n → IsAscii (vrf_name_text n)
IsAscii-vrf_name_text n h = IsAscii-append (codes "Vrf") (label_of n) (IsAscii-tested (codes "Vrf") refl) (IsAscii-tested (label_of n) (label_ascii (label_of n) h.0.1))

pub IsAscii-router_text : (v : Vrf) → IsProperVrf v → IsAscii (router_text v)
IsAscii-router_text vrf.Default h = IsAscii-tested [] refl
IsAscii-router_text (vrf.Named n) h = IsAscii-append (vrf_name_text n) (codes ":") (IsAscii-vrf_name_text n h) (IsAscii-tested (codes ":") refl)

-- ---- no prefix begins with the name of a router

hex_is_no_v : (c : ℕ) → IsHexOrColon c → (c == 86) ≡ false
hex_is_no_v c (inl digit) = ne_eqb c 86 (λ e. omega arith)
hex_is_no_v c (inr letter) = ne_eqb c 86 (λ e. omega arith)

decimal_no_v : (n : ℕ) → n < 2 ^ 64 → IsFree 86 (decimal n)
decimal_no_v n small = IsFree-decimal 86 n (λ r. absurd (omega arith)) small

IsFree-text_in : (family : Family) (bits : ℕ) → IsFree 86 (text_in family bits)
IsFree-text_in V4 bits =
    let dot = IsFree-tested 86 (codes ".") refl in
    let a = decimal (bits / 2 ^ 24 % 256) in
    let b = decimal (bits / 2 ^ 16 % 256) in
    let c = decimal (bits / 2 ^ 8 % 256) in
    let d = decimal (bits % 256) in
    let one = IsFree-append 86 a (codes ".") (decimal_no_v (bits / 2 ^ 24 % 256) (omega arith)) dot in
    let two = IsFree-append 86 (a ++ codes ".") b one (decimal_no_v (bits / 2 ^ 16 % 256) (omega arith)) in
    let three = IsFree-append 86 (a ++ codes "." ++ b) (codes ".") two dot in
    let four = IsFree-append 86 (a ++ codes "." ++ b ++ codes ".") c three (decimal_no_v (bits / 2 ^ 8 % 256) (omega arith)) in
    let five = IsFree-append 86 (a ++ codes "." ++ b ++ codes "." ++ c) (codes ".") four dot in
    IsFree-append 86 (a ++ codes "." ++ b ++ codes "." ++ c ++ codes ".") d five (decimal_no_v (bits % 256) (omega arith))
IsFree-text_in V6 bits = λ k d within. hex_is_no_v _ (All-hex_groups_text (groups_in bits) (AllSegments-below (groups_in bits) (AllBelow-groups_in bits)) k d within)

IsFree-prefix_text : (p : Prefix) → IsProperPrefix p → IsFree 86 (prefix_text p)
IsFree-prefix_text p h =
    IsFree-append 86 (ip_text p.ip) (47 ∷ decimal p.len) (IsFree-text_in p.ip.family p.ip.bits)
    (IsFree-cons 86 47 (decimal p.len) refl (decimal_no_v p.len (len_small p.ip.family p.len h.1)))
  where
    len_small : (family : Family) (len : ℕ) → len ≤ width family → len < 2 ^ 64
    len_small V4 len h = omega arith
    len_small V6 len h = omega arith

-- a text without the first letter of such names does not begin with one
no_name : (n : ℕ) (text : List ℕ) → IsFree 86 text → vrf_name_of (take n text) ≡ None
no_name zero text h = refl
no_name (suc n) [] h = refl
no_name (suc n) (b ∷ bs) h = rw (h zero b (omega arith)) refl

unrouted : (text : List ℕ) → IsFree 86 text → route_parts text ≡ (vrf.Default, text)
unrouted text h = by (position (λ b. b == 58) text)
  where
    by : (at : Option ℕ) → router_before text (option_map (λ i. (take i text, drop (i + 1) text)) at) ≡ (vrf.Default, text)
    by None = refl
    by (Some i) = ap (λ n. in_named text n (drop (i + 1) text)) (no_name i text h)

-- a written router and a written prefix are told apart
pub route_parts-written : (v : Vrf) (p : Prefix) → IsProperVrf v → IsProperPrefix p → route_parts (router_text v ++ prefix_text p) ≡ (v, prefix_text p)
route_parts-written vrf.Default p h proper = unrouted (prefix_text p) (IsFree-prefix_text p proper)
route_parts-written (vrf.Named n) p h proper =
    let text = router_text (vrf.Named n) ++ prefix_text p in
    ap route_parts (append_assoc (vrf_name_text n) (codes ":") (prefix_text p))
    ∙ ap (router_before (vrf_name_text n ++ 58 ∷ prefix_text p)) (split_once-first 58 (vrf_name_text n) (prefix_text p) (IsFree-vrf_name_text n h))
    ∙ ap (λ o. in_named (vrf_name_text n ++ 58 ∷ prefix_text p) o (prefix_text p)) (vrf_name_of-vrf_name_text n h)
