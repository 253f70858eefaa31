-- the texts of groups, and the double colon between them
use Rattle.std.proofs.Common.{◌≡◌, ℕ, suc, ◌+◌, ◌<◌, ◌==◌, false, List, [], ◌∷◌, ◌++◌, length, get_or, Option, None, Some, option_map, refl, sym, ap, ◌∙◌, arith, append_assoc, length-append}
use Rattle.std.proofs.lemmas.Bool.{and_left, and_right}
use Rattle.std.specs.Net.Text.{hex, groups_text}
use Rattle.swss_types.specs.Ip.{gap_at, groups_of, side_of}
use Rattle.swss_types.specs.Hex.{hex_within}
use Rattle.swss_types.specs.Parts.{AllBelow}
use Rattle.swss_types.proofs.Groups.{IsGroupText-hex}
use Rattle.swss_types.proofs.Joins.{IsFree, texts_behind, each_of-joined}

-- groups that are written and joined read as the groups
pub groups_of-groups_text : (g : ℕ) (gs : List ℕ) → AllBelow 65536 (g ∷ gs) → groups_of (groups_text (g ∷ gs)) ≡ Some (g ∷ gs)
groups_of-groups_text g gs h =
    each_of-joined 58 65536 hex (hex_within 1 4) (λ v small. (IsGroupText-hex v small).no_colon) (λ v small. (IsGroupText-hex v small).plain.reads) g gs h

side_of_some : (text : List ℕ) → 0 < length text → side_of text ≡ groups_of text
side_of_some [] h = absurd (omega arith)
side_of_some (b ∷ bs) h = refl

pub side_of-groups_text : (gs : List ℕ) → AllBelow 65536 gs → side_of (groups_text gs) ≡ Some gs
side_of-groups_text [] h = refl
side_of-groups_text (g ∷ gs) h =
    let first = IsGroupText-hex g h.0 in
    let some : 0 < length (groups_text (g ∷ gs)) = omega (arith, first.some, length-append (hex g) (texts_behind 58 hex gs)) in
    side_of_some (groups_text (g ∷ gs)) some ∙ groups_of-groups_text g gs h

-- the place of a later double colon
abbrev pub later : ℕ → Option ℕ → Option ℕ
later n o = option_map (λ k. n + k) o

later-suc : (n : ℕ) (o : Option ℕ) → option_map suc (later n o) ≡ later (suc n) o
later-suc n None = refl
later-suc n (Some k) = ap Some (omega arith)

later-zero : (o : Option ℕ) → o ≡ later 0 o
later-zero None = refl
later-zero (Some k) = ap Some (omega arith)

later-later : (m n : ℕ) (o : Option ℕ) → later m (later n o) ≡ later (m + n) o
later-later m n None = refl
later-later m n (Some k) = ap Some (omega arith)

-- no double colon begins in a text without colons
gap_at-free : (text rest : List ℕ) → IsFree 58 text → gap_at (text ++ rest) ≡ later (length text) (gap_at rest)
gap_at-free [] rest free = later-zero (gap_at rest)
gap_at-free (b ∷ bs) rest free =
    let other : (b == 58) ≡ false = free 0 0 (omega arith) in
    let tail : IsFree 58 bs = λ k d within. free (suc k) d (omega arith) in
    rw (and_left (b == 58) (get_or (bs ++ rest) 0 0 == 58) other) (ap (option_map suc) (gap_at-free bs rest tail) ∙ later-suc (length bs) (gap_at rest))

gap_at-cons : (b : ℕ) (bs : List ℕ) → (get_or bs 0 0 == 58) ≡ false → gap_at (b ∷ bs) ≡ option_map suc (gap_at bs)
gap_at-cons b bs other = rw (and_right (b == 58) (get_or bs 0 0 == 58) other) refl

-- nor at a colon before such a text
gap_at-colon : (text rest : List ℕ) → IsFree 58 text → 0 < length text → gap_at (58 ∷ text ++ rest) ≡ later (suc (length text)) (gap_at rest)
gap_at-colon [] rest free some = absurd (omega arith)
gap_at-colon (b ∷ bs) rest free some =
    let other : (b == 58) ≡ false = free 0 0 (omega arith) in
    gap_at-cons 58 ((b ∷ bs) ++ rest) other ∙ ap (option_map suc) (gap_at-free (b ∷ bs) rest free) ∙ later-suc (length (b ∷ bs)) (gap_at rest)

gap_at-behind : (gs rest : List ℕ) → AllBelow 65536 gs → gap_at (texts_behind 58 hex gs ++ rest) ≡ later (length (texts_behind 58 hex gs)) (gap_at rest)
gap_at-behind [] rest h = later-zero (gap_at rest)
gap_at-behind (g ∷ gs) rest h =
    let first = IsGroupText-hex g h.0 in
    let split : texts_behind 58 hex (g ∷ gs) ++ rest ≡ 58 ∷ hex g ++ (texts_behind 58 hex gs ++ rest) = append_assoc (58 ∷ hex g) (texts_behind 58 hex gs) rest in
    let len : suc (length (hex g)) + length (texts_behind 58 hex gs) ≡ length (texts_behind 58 hex (g ∷ gs)) = omega (arith, length-append (hex g) (texts_behind 58 hex gs)) in
    ap gap_at split
    ∙ gap_at-colon (hex g) (texts_behind 58 hex gs ++ rest) first.no_colon first.some
    ∙ ap (later (suc (length (hex g)))) (gap_at-behind gs rest h.1)
    ∙ later-later (suc (length (hex g))) (length (texts_behind 58 hex gs)) (gap_at rest)
    ∙ ap (λ n. later n (gap_at rest)) len

-- no double colon begins in the text of groups
pub gap_at-groups_text : (gs rest : List ℕ) → AllBelow 65536 gs → gap_at (groups_text gs ++ rest) ≡ later (length (groups_text gs)) (gap_at rest)
gap_at-groups_text [] rest h = later-zero (gap_at rest)
gap_at-groups_text (g ∷ gs) rest h =
    let first = IsGroupText-hex g h.0 in
    let len : length (hex g) + length (texts_behind 58 hex gs) ≡ length (groups_text (g ∷ gs)) = sym (length-append (hex g) (texts_behind 58 hex gs)) in
    ap gap_at (append_assoc (hex g) (texts_behind 58 hex gs) rest)
    ∙ gap_at-free (hex g) (texts_behind 58 hex gs ++ rest) first.no_colon
    ∙ ap (later (length (hex g))) (gap_at-behind gs rest h.1)
    ∙ later-later (length (hex g)) (length (texts_behind 58 hex gs)) (gap_at rest)
    ∙ ap (λ n. later n (gap_at rest)) len
