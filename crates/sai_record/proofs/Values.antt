-- each word that is written reads as its value, whatever words stand behind it
use Rattle.std.proofs.Common.{◌≡◌, ◌≢◌, ℕ, ◌^◌, ◌<◌, ◌≤◌, ◌==◌, Bool, true, false, cond, List, [], ◌∷◌, ◌++◌, length, length-append, get_or, take, drop, bytes_eq, codes, Option, None, Some, option_and_then, option_map, refl, sym, ap, ap₂, ◌∙◌, arith}
use Rattle.std.specs.Fmt.{decimal}
use Rattle.std.proofs.Math.Seq.{drop-append_seam, get_or-append_seam, take-append_seam}
use Rattle.std.proofs.lemmas.Bool.{le-leb, ne_eqb}
use Rattle.std.proofs.lemmas.List.{append-nil, get_or_append_left}
use Rattle.std.proofs.lemmas.List.Sums.{position_or_len_is}
use Rattle.std.proofs.lemmas.Slice.Eq.{bytes_eq-Decides}
use Rattle.swss_types.specs.Address.{IsProperIp, IsProperPrefix}
use Rattle.swss_types.specs.Ip.{ip_of, ip_text}
use Rattle.swss_types.specs.Mac.{IsProperMac, mac_of, mac_text}
use Rattle.swss_types.specs.Number.{number_of}
use Rattle.swss_types.specs.Prefix.{prefix_of, prefix_text}
use Rattle.swss_types.specs.Tagging.{tagging_of, tagging_text}
use Rattle.swss_types.specs.VrfNames.{IsProperVrfName, vrf_name_of, vrf_name_text}
use Rattle.swss_types.specs.declared.address.Ip.{Ip}
use Rattle.swss_types.specs.declared.address.Mac.{Mac}
use Rattle.swss_types.specs.declared.address.Prefix.{Prefix}
use Rattle.swss_types.specs.declared.tagging.Tagging.{Tagging}
use Rattle.swss_types.specs.declared.tagging.Tagging.TheVariants.{Untagged, Tagged, PriorityTagged}
use Rattle.swss_types.specs.declared.vrf.VrfName.{VrfName}
use Rattle.swss_types.proofs.Decimals.{number_of-decimal, number_within-decimal}
use Rattle.swss_types.proofs.IpTexts.{ip_of-ip_text}
use Rattle.swss_types.proofs.Macs.{mac_of-mac_text}
use Rattle.swss_types.proofs.PrefixTexts.{prefix_of-prefix_text}
use Rattle.swss_types.proofs.VrfNames.{vrf_name_of-vrf_name_text}
use Rattle.sai_types.specs.declared.ids.Rid.{Rid}
use Rattle.sai_record.specs.Line.{admin_word, id_or_none, id_word, spaced}
use Rattle.sai_record.specs.Ranges.{IsId, IsIdOrNone}
use Rattle.sai_record.specs.Words.{above_least, admin_of, id_of, id_or_none_of, id_with, number_from, value_at, word_at, word_len}
use Rattle.sai_record.proofs.Plain.{IsPlain, plain-codes, plain-decimal, plain-ip, plain-mac, plain-prefix, plain-tagging, plain-vrf_name}

abbrev is_space : ℕ → Bool
is_space b = b == 32

not_space : (word : List ℕ) → IsPlain word → (k : ℕ) → k < length word → is_space (get_or word k 0) ≡ false
not_space word plain k within = let visible = plain k 0 within in ne_eqb (get_or word k 0) 32 (omega (arith, visible))

-- a word ends where the words behind it begin, each behind a space
len-word : (word : List ℕ) (words : List (List ℕ)) → IsPlain word → word_len (word ++ spaced words) ≡ length word
len-word word [] plain =
    position_or_len_is is_space (word ++ []) (length word) 0 (omega (arith, ap length (append-nil word)))
    (λ k within. ap (λ text. is_space (get_or text k 0)) (append-nil word) ∙ not_space word plain k within)
    (λ more. absurd (omega (arith, more, ap length (append-nil word))))
len-word word (next ∷ words) plain =
    let rest = next ++ spaced words in
    position_or_len_is is_space (word ++ 32 ∷ rest) (length word) 0 (omega (arith, length-append word (32 ∷ rest)))
    (λ k within. ap is_space (get_or_append_left word (32 ∷ rest) 0 k within) ∙ not_space word plain k within)
    (λ more. ap is_space (get_or-append_seam word 32 rest 0))

pub word-spaced : (word : List ℕ) (words : List (List ℕ)) → IsPlain word → word_at (spaced (word ∷ words)) ≡ Some (word, spaced words)
unfolding word_at
word-spaced word words plain =
    let rest = spaced words in
    ap (λ n. Some (take n (word ++ rest), drop n (word ++ rest))) (len-word word words plain)
    ∙ ap₂ (λ w r. Some (w, r)) (take-append_seam word rest) (drop-append_seam word rest)

pub value-spaced : {A : Type 0} (value_of : List ℕ → Option A) (word : List ℕ) (words : List (List ℕ)) (value : A) → IsPlain word → value_of word ≡ Some value → value_at value_of (spaced (word ∷ words)) ≡ Some (value, spaced words)
unfolding value_at
value-spaced {A} value_of word words value plain reads =
    let then : List ℕ → Option A → Option (A × List ℕ) = λ r o. option_and_then (λ v. Some (v, r)) o in
    ap (λ o. option_and_then (λ w. then w.1 (value_of w.0)) o) (word-spaced word words plain) ∙ ap (then (spaced words)) reads

-- ---- numbers

pub number-read : (least most n : ℕ) → least ≤ n → n ≤ most → n < 2 ^ 64 → number_from least most (decimal n) ≡ Some n
number-read least most n above within small = ap (option_and_then (above_least least)) (number_within-decimal most n within small) ∙ ap (λ b. cond b (Some n) None) (le-leb least n above)

pub number-spaced : (least most n : ℕ) (words : List (List ℕ)) → least ≤ n → n ≤ most → n < 2 ^ 64 → value_at (number_from least most) (spaced (decimal n ∷ words)) ≡ Some (n, spaced words)
number-spaced least most n words above within small = value-spaced (number_from least most) (decimal n) words n (plain-decimal n small) (number-read least most n above within small)

id-read : (i : Rid) → IsId i → id_of (id_word i) ≡ Some i
id-read i h = ap (option_map id_with) (number-read 1 18446744073709551615 i.0 h.0 h.1 (omega (arith, h.1)))

pub plain-id : (i : Rid) → IsId i → IsPlain (id_word i)
plain-id i h = plain-decimal i.0 (omega (arith, h.1))

pub id-spaced : (i : Rid) (words : List (List ℕ)) → IsId i → value_at id_of (spaced (id_word i ∷ words)) ≡ Some (i, spaced words)
id-spaced i words h = value-spaced id_of (id_word i) words i (plain-id i h) (id-read i h)

no_dash : (n : ℕ) → n < 2 ^ 64 → decimal n ≢ codes "-"
no_dash n small same = let read : Some n ≡ None = sym (number_of-decimal n small) ∙ ap number_of same in absurd cc

other-than : (a b : List ℕ) → a ≢ b → bytes_eq a b ≡ false
other-than a b differ = by (bytes_eq a b) refl
  where
    by : (t : Bool) → bytes_eq a b ≡ t → t ≡ false
    by true is = absurd (differ ((bytes_eq-Decides a b).0 is))
    by false is = refl

id_or_none-read : (i : Option Rid) → IsIdOrNone i → id_or_none_of (id_or_none i) ≡ Some i
id_or_none-read None h = refl
id_or_none-read (Some i) h =
    ap (λ b. cond b (Some None) (option_map Some (id_of (id_word i)))) (other-than (id_word i) (codes "-") (no_dash i.0 (omega (arith, h.1))))
    ∙ ap (option_map Some) (id-read i h)

pub plain-id_or_none : (i : Option Rid) → IsIdOrNone i → IsPlain (id_or_none i)
plain-id_or_none None h = plain-codes (codes "-") refl
plain-id_or_none (Some i) h = plain-id i h

pub id_or_none-spaced : (i : Option Rid) (words : List (List ℕ)) → IsIdOrNone i → value_at id_or_none_of (spaced (id_or_none i ∷ words)) ≡ Some (i, spaced words)
id_or_none-spaced i words h = value-spaced id_or_none_of (id_or_none i) words i (plain-id_or_none i h) (id_or_none-read i h)

-- ---- other values

admin-read : (up : Bool) → admin_of (admin_word up) ≡ Some up
admin-read true = refl
admin-read false = refl

pub plain-admin : (up : Bool) → IsPlain (admin_word up)
plain-admin true = plain-codes (codes "up") refl
plain-admin false = plain-codes (codes "down") refl

pub admin-spaced : (up : Bool) (words : List (List ℕ)) → value_at admin_of (spaced (admin_word up ∷ words)) ≡ Some (up, spaced words)
admin-spaced up words = value-spaced admin_of (admin_word up) words up (plain-admin up) (admin-read up)

tagging-read : (tagging : Tagging) → tagging_of (tagging_text tagging) ≡ Some tagging
tagging-read Untagged = refl
tagging-read Tagged = refl
tagging-read PriorityTagged = refl

pub tagging-spaced : (tagging : Tagging) (words : List (List ℕ)) → value_at tagging_of (spaced (tagging_text tagging ∷ words)) ≡ Some (tagging, spaced words)
tagging-spaced tagging words = value-spaced tagging_of (tagging_text tagging) words tagging (plain-tagging tagging) (tagging-read tagging)

pub ip-spaced : (ip : Ip) (words : List (List ℕ)) → IsProperIp ip → value_at ip_of (spaced (ip_text ip ∷ words)) ≡ Some (ip, spaced words)
ip-spaced ip words h = value-spaced ip_of (ip_text ip) words ip (plain-ip ip) (ip_of-ip_text ip h)

pub mac-spaced : (mac : Mac) (words : List (List ℕ)) → IsProperMac mac → value_at mac_of (spaced (mac_text mac ∷ words)) ≡ Some (mac, spaced words)
mac-spaced mac words h = value-spaced mac_of (mac_text mac) words mac (plain-mac mac h) (mac_of-mac_text mac h)

pub prefix-spaced : (p : Prefix) (words : List (List ℕ)) → IsProperPrefix p → value_at prefix_of (spaced (prefix_text p ∷ words)) ≡ Some (p, spaced words)
prefix-spaced p words h = value-spaced prefix_of (prefix_text p) words p (plain-prefix p h) (prefix_of-prefix_text p h)

pub vrf_name-spaced : (name : VrfName) (words : List (List ℕ)) → IsProperVrfName name → value_at vrf_name_of (spaced (vrf_name_text name ∷ words)) ≡ Some (name, spaced words)
vrf_name-spaced name words h = value-spaced vrf_name_of (vrf_name_text name) words name (plain-vrf_name name h) (vrf_name_of-vrf_name_text name h)
