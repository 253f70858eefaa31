-- addresses that are written read as the same addresses
use Rattle.std.proofs.Common.{◌≡◌, ℕ, zero, suc, ◌+◌, ◌-◌, ◌*◌, ◌/◌, ◌%◌, ◌^◌, ◌<◌, ◌≤◌, ◌==◌, false, List, [], ◌∷◌, ◌++◌, length, take, drop, replicate, codes, Option, None, Some, refl, sym, ap, ◌∙◌, arith, inl, inr, lit≤, append_assoc, length-drop, take-add}
use Rattle.std.proofs.Math.Nat.{mod-eq_of_lt, div-div-eq-div-mul}
use Rattle.std.proofs.Math.Seq.{drop-append-add, take-append_seam}
use Rattle.std.proofs.NetLemmas.Alphabet.{IsHexOrColon, All-hex_groups_text}
use Rattle.std.proofs.NetLemmas.Texts.{AllSegments, IsZeroRun-longest_zero_run}
use Rattle.std.proofs.lemmas.Bool.{cases_lt, le-leb, ne_eqb}
use Rattle.std.proofs.lemmas.List.{append-nil, length-take-le, take-append-drop}
use Rattle.std.proofs.lemmas.List.Splits.{slice_split_none}
use Rattle.std.specs.Fmt.{decimal}
use Rattle.std.specs.Net.Text.{dotted_text, groups_text, hex_groups_text, longest_zero_run}
use Rattle.swss_types.specs.Address.{IsProperIp}
use Rattle.swss_types.specs.Ip.{joined, ipv4_from, ipv4_of, gap_at, ipv6_from, filled, eight_of, ipv6_of, ip_or, ip_of, groups_in, text_in, ip_text}
use Rattle.swss_types.specs.Number.{number_within}
use Rattle.swss_types.specs.Parts.{each_of, with_value, AllBelow}
use Rattle.swss_types.specs.declared.address.Family.{Family}
use Rattle.swss_types.specs.declared.address.Family.TheVariants.{V4, V6}
use Rattle.swss_types.specs.declared.address.Ip.{Ip}
use Rattle.swss_types.proofs.Decimals.{IsFree-decimal, number_within-decimal}
use Rattle.swss_types.proofs.Gaps.{hex_groups_text_whole, hex_groups_text_long}
use Rattle.swss_types.proofs.GroupTexts.{gap_at-groups_text, groups_of-groups_text, side_of-groups_text}
use Rattle.swss_types.proofs.Joins.{IsFree, texts_behind, each_of-joined}

-- four bytes
joined-bytes : (bits : ℕ) → bits < 2 ^ 32 → joined 256 0 (bits / 2 ^ 24 % 256 ∷ bits / 2 ^ 16 % 256 ∷ bits / 2 ^ 8 % 256 ∷ bits % 256 ∷ []) ≡ bits
joined-bytes bits small = let e : 256 * (256 * (256 * (256 * 0 + bits / 2 ^ 24 % 256) + bits / 2 ^ 16 % 256) + bits / 2 ^ 8 % 256) + bits % 256 ≡ bits = omega arith in e

dotted_text-joined : (a b c d : ℕ) → dotted_text a b c d ≡ decimal a ++ texts_behind 46 decimal (b ∷ c ∷ d ∷ [])
dotted_text-joined a b c d = simp (append_assoc, append-nil)

ipv4_of-bytes : (a b c d : ℕ) → a < 256 → b < 256 → c < 256 → d < 256 → ipv4_of (dotted_text a b c d) ≡ Some (record { family = V4; bits = joined 256 0 (a ∷ b ∷ c ∷ d ∷ []) })
ipv4_of-bytes a b c d ha hb hc hd =
    let each = each_of-joined 46 256 decimal (number_within 255) (λ v small. IsFree-decimal 46 v (λ r. absurd (omega arith)) (omega arith)) (λ v small. number_within-decimal 255 v (omega arith) (omega arith)) a (b ∷ c ∷ d ∷ []) (ha, (hb, (hc, (hd, tt)))) in
    ap ipv4_of (dotted_text-joined a b c d) ∙ ap ipv4_from each

-- eight groups
last_group : (q : ℕ) → 65536 * (q / 65536) + q % 65536 ≡ q
last_group q = omega arith

next_group : (bits n : ℕ) → 65536 * (bits / (n * 65536)) + bits / n % 65536 ≡ bits / n
next_group bits n = rw (← div-div-eq-div-mul bits n 65536) (last_group (bits / n))

joined-groups_in : (bits : ℕ) → bits < 2 ^ 128 → joined 65536 0 (groups_in bits) ≡ bits
joined-groups_in bits small =
    let high : bits / 2 ^ 112 < 65536 = omega arith in
    let s₇ : 65536 * 0 + bits / 2 ^ 112 % 65536 ≡ bits / 2 ^ 112 = omega (arith, mod-eq_of_lt high) in
    let s₆ = ap (λ x. 65536 * x + bits / 2 ^ 96 % 65536) s₇ ∙ next_group bits (2 ^ 96) in
    let s₅ = ap (λ x. 65536 * x + bits / 2 ^ 80 % 65536) s₆ ∙ next_group bits (2 ^ 80) in
    let s₄ = ap (λ x. 65536 * x + bits / 2 ^ 64 % 65536) s₅ ∙ next_group bits (2 ^ 64) in
    let s₃ = ap (λ x. 65536 * x + bits / 2 ^ 48 % 65536) s₄ ∙ next_group bits (2 ^ 48) in
    let s₂ = ap (λ x. 65536 * x + bits / 2 ^ 32 % 65536) s₃ ∙ next_group bits (2 ^ 32) in
    let s₁ = ap (λ x. 65536 * x + bits / 2 ^ 16 % 65536) s₂ ∙ next_group bits (2 ^ 16) in
    ap (λ x. 65536 * x + bits % 65536) s₁ ∙ last_group bits

pub AllBelow-groups_in : (bits : ℕ) → AllBelow 65536 (groups_in bits)
AllBelow-groups_in bits = (omega arith, (omega arith, (omega arith, (omega arith, (omega arith, (omega arith, (omega arith, (omega arith, tt))))))))

AllBelow-take : (bound n : ℕ) (xs : List ℕ) → AllBelow bound xs → AllBelow bound (take n xs)
AllBelow-take bound zero xs h = tt
AllBelow-take bound (suc n) [] h = tt
AllBelow-take bound (suc n) (x ∷ xs) h = (h.0, AllBelow-take bound n xs h.1)

AllBelow-drop : (bound n : ℕ) (xs : List ℕ) → AllBelow bound xs → AllBelow bound (drop n xs)
AllBelow-drop bound zero xs h = h
AllBelow-drop bound (suc n) [] h = tt
AllBelow-drop bound (suc n) (x ∷ xs) h = AllBelow-drop bound n xs h.1

pub AllSegments-below : (xs : List ℕ) → AllBelow 65536 xs → AllSegments xs
AllSegments-below [] h k = lit≤ tt
AllSegments-below (x ∷ xs) h zero = h.0
AllSegments-below (x ∷ xs) h (suc k) = AllSegments-below xs h.1 k

-- written whole
whole_reads : (g : ℕ) (gs : List ℕ) → AllBelow 65536 (g ∷ gs) → eight_of (groups_text (g ∷ gs)) (gap_at (groups_text (g ∷ gs))) ≡ Some (g ∷ gs)
whole_reads g gs h =
    let none : gap_at (groups_text (g ∷ gs)) ≡ None = ap gap_at (sym (append-nil (groups_text (g ∷ gs)))) ∙ gap_at-groups_text (g ∷ gs) [] h in
    ap (eight_of (groups_text (g ∷ gs))) none ∙ groups_of-groups_text g gs h

-- written around a double colon
around_reads : (front back : List ℕ) → AllBelow 65536 front → AllBelow 65536 back → eight_of (groups_text front ++ codes "::" ++ groups_text back) (gap_at (groups_text front ++ codes "::" ++ groups_text back)) ≡ filled front back
around_reads front back hf hb =
    let f = groups_text front in
    let b = groups_text back in
    let split : f ++ codes "::" ++ b ≡ f ++ (58 ∷ 58 ∷ b) = append_assoc f (codes "::") b in
    let at : gap_at (f ++ (58 ∷ 58 ∷ b)) ≡ Some (length f + 0) = gap_at-groups_text front (58 ∷ 58 ∷ b) hf in
    let len : length f + 0 ≡ length f = omega arith in
    let at' : gap_at (f ++ (58 ∷ 58 ∷ b)) ≡ Some (length f) = at ∙ ap Some len in
    rw (split, at', take-append_seam f (58 ∷ 58 ∷ b), drop-append-add f (58 ∷ 58 ∷ b) 2, side_of-groups_text front hf, side_of-groups_text back hb) refl

-- the groups before a run of zeros, the zeros, and the groups behind it
filled-run : (groups : List ℕ) (start len : ℕ) → length groups ≡ 8 → 1 ≤ len → start + len ≤ length groups → take len (drop start groups) ≡ replicate len 0 → filled (take start groups) (drop (start + len) groups) ≡ Some groups
filled-run groups start len eight some within zeros =
    let front : length (take start groups) ≡ start = length-take-le start groups (omega arith) in
    let back : length (drop (start + len) groups) ≡ length groups - (start + len) = length-drop (start + len) groups in
    let few : length (take start groups) + length (drop (start + len) groups) ≤ 7 = omega arith in
    let gap : 8 - (length (take start groups) + length (drop (start + len) groups)) ≡ len = omega arith in
    let all : take start groups ++ replicate len 0 ++ drop (start + len) groups ≡ groups = rw (← zeros, ← take-add start len groups) (take-append-drop (start + len) groups) in
    rw (le-leb _ 7 few, gap) (ap Some all)

eight_reads : (groups : List ℕ) → length groups ≡ 8 → AllBelow 65536 groups → eight_of (hex_groups_text groups) (gap_at (hex_groups_text groups)) ≡ Some groups
eight_reads [] eight h = absurd (omega arith)
eight_reads (g ∷ gs) eight h =
    let run = longest_zero_run (g ∷ gs) in
    let zeros = IsZeroRun-longest_zero_run (g ∷ gs) in
    elim (cases_lt run.1 2) [
      | inl few ↦ rw (hex_groups_text_whole (g ∷ gs) few) (whole_reads g gs h)
      | inr many ↦
          rw (hex_groups_text_long (g ∷ gs) many)
          (around_reads (take run.0 (g ∷ gs)) (drop (run.0 + run.1) (g ∷ gs)) (AllBelow-take 65536 run.0 (g ∷ gs) h) (AllBelow-drop 65536 (run.0 + run.1) (g ∷ gs) h)
          ∙ filled-run (g ∷ gs) run.0 run.1 eight (omega arith) zeros.0 zeros.1)
    ]

ipv6_of-groups : (groups : List ℕ) → length groups ≡ 8 → AllBelow 65536 groups → ipv6_of (hex_groups_text groups) ≡ Some (record { family = V6; bits = joined 65536 0 groups })
ipv6_of-groups groups eight h = ap ipv6_from (eight_reads groups eight h) ∙ rw eight refl

-- no address of version 4 has a text without dots
one_part : (o : Option ℕ) → ipv4_from (with_value o (Some [])) ≡ None
one_part None = refl
one_part (Some n) = refl

no_dot : (text : List ℕ) → IsFree 46 text → ipv4_of text ≡ None
no_dot text free = ap (λ parts. ipv4_from (each_of (number_within 255) parts)) (slice_split_none (λ b. b == 46) text free) ∙ one_part (number_within 255 text)

hex_no_dot : (c : ℕ) → IsHexOrColon c → (c == 46) ≡ false
hex_no_dot c (inl digit) = ne_eqb c 46 (omega arith)
hex_no_dot c (inr letter) = ne_eqb c 46 (omega arith)

no_dot-groups : (groups : List ℕ) → AllBelow 65536 groups → IsFree 46 (hex_groups_text groups)
no_dot-groups groups h = λ k d within. hex_no_dot _ (All-hex_groups_text groups (AllSegments-below groups h) k d within)

ip_of-text_in : (family : Family) (bits : ℕ) → IsProperIp (record { family = family; bits = bits }) → ip_of (text_in family bits) ≡ Some (record { family = family; bits = bits })
ip_of-text_in V4 bits small =
    let v4 = ipv4_of-bytes (bits / 2 ^ 24 % 256) (bits / 2 ^ 16 % 256) (bits / 2 ^ 8 % 256) (bits % 256) (omega arith) (omega arith) (omega arith) (omega arith) in
    ap (λ o. ip_or o (ipv6_of (text_in V4 bits))) v4 ∙ ap (λ n. Some (record { family = V4; bits = n })) (joined-bytes bits small)
ip_of-text_in V6 bits small =
    let groups = groups_in bits in
    let below = AllBelow-groups_in bits in
    ap (λ o. ip_or o (ipv6_of (text_in V6 bits))) (no_dot (hex_groups_text groups) (no_dot-groups groups below))
    ∙ ipv6_of-groups groups refl below
    ∙ ap (λ n. Some (record { family = V6; bits = n })) (joined-groups_in bits small)

pub ip_of-ip_text : (ip : Ip) → IsProperIp ip → ip_of (ip_text ip) ≡ Some ip
ip_of-ip_text ip h = ip_of-text_in ip.family ip.bits h
