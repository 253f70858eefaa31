-- the words of a text, one after the other
use Rattle.std.proofs.Common.{◌≡◌, ℕ, suc, ◌+◌, ◌-◌, ◌<◌, ◌≤◌, ◌==◌, Bool, true, false, ◌||◌, cond, not, List, [], ◌∷◌, length, get_or, take, drop, filter, Some, None, refl, sym, ap, ◌∙◌, subst, arith, ltb, length-drop, length-take, inl, inr}
use Rattle.std.proofs.lemmas.List.{drop_all, nil_from_length, get_or-drop}
use Rattle.std.proofs.Math.Seq.{drop-cons}
use Rattle.std.proofs.Math.Nat.{eq-zero-or-pos}
use Rattle.std.specs.List.{position, position_or_len, slice_split}
use Rattle.std.specs.Str.{IsUtf8, IsCharBoundary}
use Rattle.std.proofs.lemmas.Bool.{cond-true, ltb-true, ltb-false, lt-ltb, eqb-true, not-true, not-false}
use Rattle.std.proofs.lemmas.List.Splits.{slice_split-cons_yes, slice_split_first, slice_split_none}
use Rattle.std.proofs.lemmas.List.Sums.{fails_before_first, passes_at_first}
use Rattle.std.proofs.lemmas.Str.{IsCharBoundary-before_ascii, IsCharBoundary-after_ascii}
use Rattle.std.proofs.lemmas.Option.{cond_some}
use Rattle.swss_types.proofs.Choices.{chosen_none}
use Rattle.swss_script.specs.Words.{behind_word, from_blank, from_word, is_blank, words_in}

abbrev in_word : ℕ → Bool
in_word byte = not (is_blank byte)

less_either_way : (a b : ℕ) (p q : Bool) → (p ≡ true → a < b) → (q ≡ true → a < b) → (p || q) ≡ true → a < b
less_either_way a b true q f g h = f refl
less_either_way a b false q f g h = g h

-- blanks are ASCII
blank_is_ascii : (b : ℕ) → is_blank b ≡ true → b < 128
blank_is_ascii b h = less_either_way b 128 (b == 32) (b == 9) (λ e. let same : b ≡ 32 = eqb-true b 32 e in omega arith) (λ e. let same : b ≡ 9 = eqb-true b 9 e in omega arith) h

-- a blank at the front changes no words
words-blank : (b : ℕ) (text : List ℕ) → is_blank b ≡ true → words_in (b ∷ text) ≡ words_in text
words-blank b text h = ap (filter (λ word. ltb 0 (length word))) (slice_split-cons_yes is_blank b text h)

drop_past : (n b : ℕ) (text : List ℕ) → drop (1 + n) (b ∷ text) ≡ drop n text
drop_past n b text = let e : 1 + n ≡ suc n = omega arith in ap (λ k. drop k (b ∷ text)) e

-- nor do the blanks before the first word
words-behind_blanks : (text : List ℕ) → words_in text ≡ words_in (drop (position_or_len in_word text) text)
words-behind_blanks [] = refl
words-behind_blanks (b ∷ text) =
    let by : (blank : Bool) → is_blank b ≡ blank → words_in (b ∷ text) ≡ words_in (drop (cond (not (not blank)) (1 + position_or_len in_word text) 0) (b ∷ text)) =
    λ blank. elim blank as (λ blank. is_blank b ≡ blank → words_in (b ∷ text) ≡ words_in (drop (cond (not (not blank)) (1 + position_or_len in_word text) 0) (b ∷ text))) [
      | true ↦ λ h. words-blank b text h ∙ words-behind_blanks text ∙ ap words_in (sym (drop_past (position_or_len in_word text) b text))
      | false ↦ λ h. refl
    ] in
    by (is_blank b) refl

-- the place that a search finds
found : (p : ℕ → Bool) (text : List ℕ) (i : ℕ) → position p text ≡ Some i → (position_or_len p text ≡ i) × (i < length text)
found p text i h =
    let at = cond_some (ltb (position_or_len p text) (length text)) (position_or_len p text) i h in
    (at.1, subst (λ k. k < length text) at.1 (ltb-true _ _ at.0))

-- a text without a word
pub words_none : (text : List ℕ) → position in_word text ≡ None → words_in text ≡ []
words_none text h =
    let past : length text ≤ position_or_len in_word text = ltb-false _ _ (chosen_none (ltb (position_or_len in_word text) (length text)) (position_or_len in_word text) h) in
    words-behind_blanks text ∙ ap words_in (nil_from_length (drop (position_or_len in_word text) text) (omega (arith, length-drop (position_or_len in_word text) text)))

-- a word may be cut off where it begins
pub boundary_start : (text : List ℕ) (start : ℕ) → IsUtf8 text → position in_word text ≡ Some start → 0 < start → IsCharBoundary text start
boundary_start text start utf8 h some =
    let at = found in_word text start h in
    let within : start - 1 < length text = omega (arith, at.1) in
    let before : start - 1 < position_or_len in_word text = omega (arith, at.0) in
    let ascii : get_or text (start - 1) 0 < 128 = blank_is_ascii _ (not-false _ (fails_before_first in_word text (start - 1) 0 before)) in
    let same : start - 1 + 1 ≡ start = omega arith in
    subst (IsCharBoundary text) same (IsCharBoundary-after_ascii text (start - 1) utf8 within ascii)

-- and where it ends
pub boundary_end : (text : List ℕ) (end : ℕ) → position is_blank text ≡ Some end → IsCharBoundary text end
boundary_end text end h =
    let at = found is_blank text end h in
    let blank : is_blank (get_or text end 0) ≡ true = subst (λ i. is_blank (get_or text i 0) ≡ true) at.0 (passes_at_first is_blank text 0 (subst (λ i. i < length text) (sym at.0) at.1)) in
    IsCharBoundary-before_ascii text end at.1 (blank_is_ascii _ blank)

-- what is left behind the blanks begins with a word
pub words_from : (text : List ℕ) (start : ℕ) → position in_word text ≡ Some start → (words_in text ≡ words_in (drop start text)) × (0 < length (drop start text)) × (is_blank (get_or (drop start text) 0 0) ≡ false)
words_from text start h =
    let at = found in_word text start h in
    let word : in_word (get_or text start 0) ≡ true = subst (λ i. in_word (get_or text i 0) ≡ true) at.0 (passes_at_first in_word text 0 (subst (λ i. i < length text) (sym at.0) at.1)) in (
      subst (λ i. words_in text ≡ words_in (drop i text)) at.0 (words-behind_blanks text),
      omega (arith, at.1, length-drop start text),
      let same : start + 0 ≡ start = omega arith in ap is_blank (get_or-drop start text 0 0 ∙ ap (λ i. get_or text i 0) same) ∙ not-true _ word,
    )

word_kept : (word : List ℕ) (parts : List (List ℕ)) → 0 < length word → filter (λ w. ltb 0 (length w)) (word ∷ parts) ≡ word ∷ filter (λ w. ltb 0 (length w)) parts
word_kept word parts some = cond-true (ltb 0 (length word)) _ _ (lt-ltb 0 (length word) some)

-- a word up to a blank
pub words_first : (text : List ℕ) (end : ℕ) → is_blank (get_or text 0 0) ≡ false → position is_blank text ≡ Some end → (words_in text ≡ take end text ∷ words_in (drop end text)) × (0 < end) × (end < length text)
words_first text end word h =
    let at = found is_blank text end h in
    let blank : is_blank (get_or text end 0) ≡ true = subst (λ i. is_blank (get_or text i 0) ≡ true) at.0 (passes_at_first is_blank text 0 (subst (λ i. i < length text) (sym at.0) at.1)) in
    let some : 0 < end = elim (eq-zero-or-pos end) [ inl z ↦ let wrong : true ≡ false = sym blank ∙ ap (λ i. is_blank (get_or text i 0)) z ∙ word in cc | inr some ↦ some ] in
    let long : 0 < length (take end text) = omega (arith, at.1, length-take end text) in
    let parts : slice_split is_blank text ≡ take end text ∷ slice_split is_blank (drop (end + 1) text) =
    subst (λ i. slice_split is_blank text ≡ take i text ∷ slice_split is_blank (drop (i + 1) text)) at.0 (slice_split_first is_blank text 0 (subst (λ i. i < length text) (sym at.0) at.1)) in
    let next : suc end ≡ end + 1 = omega arith in
    let rest : words_in (drop end text) ≡ words_in (drop (end + 1) text) = ap words_in (drop-cons text end 0 at.1) ∙ words-blank (get_or text end 0) (drop (suc end) text) blank ∙ ap (λ i. words_in (drop i text)) next in (
      ap (filter (λ w. ltb 0 (length w))) parts ∙ word_kept (take end text) (slice_split is_blank (drop (end + 1) text)) long ∙ ap (λ ws. take end text ∷ ws) (sym rest),
      some,
      at.1,
    )

-- a word up to the end
pub words_last : (text : List ℕ) → 0 < length text → position is_blank text ≡ None → words_in text ≡ text ∷ []
words_last text some h =
    let past : length text ≤ position_or_len is_blank text = ltb-false _ _ (chosen_none (ltb (position_or_len is_blank text) (length text)) (position_or_len is_blank text) h) in
    ap (filter (λ w. ltb 0 (length w))) (slice_split_none is_blank text (λ k d within. fails_before_first is_blank text k d (omega arith))) ∙ word_kept text [] some

-- what stands behind the first word
behind_found : (text left rest : List ℕ) (start end : ℕ) → position in_word text ≡ Some start → left ≡ drop start text → position is_blank left ≡ Some end → rest ≡ drop end left → rest ≡ behind_word text
behind_found text left rest start end at left_is end_at rest_is =
    let from : left ≡ from_word text = left_is ∙ ap (λ i. drop i text) (sym (found in_word text start at).0) in
    rest_is ∙ ap (λ i. drop i left) (sym (found is_blank left end end_at).0) ∙ ap from_blank from

behind_last : (text left : List ℕ) (start : ℕ) → position in_word text ≡ Some start → left ≡ drop start text → position is_blank left ≡ None → [] ≡ behind_word text
behind_last text left start at left_is none =
    let from : left ≡ from_word text = left_is ∙ ap (λ i. drop i text) (sym (found in_word text start at).0) in
    let past : length left ≤ position_or_len is_blank left = ltb-false _ _ (chosen_none (ltb (position_or_len is_blank left) (length left)) (position_or_len is_blank left) none) in
    sym (drop_all (position_or_len is_blank left) left past) ∙ ap from_blank from

-- the first word, where a blank ends it
pub next_found : (text left word rest : List ℕ) (start end : ℕ) → position in_word text ≡ Some start → left ≡ drop start text → position is_blank left ≡ Some end → word ≡ take (end - 0) (drop 0 left) → rest ≡ drop end left → (words_in text ≡ word ∷ words_in rest) × (rest ≡ behind_word text) × (length rest < length text)
next_found text left word rest start end at left_is end_at word_is rest_is =
    let from = words_from text start at in
    let begins : is_blank (get_or left 0 0) ≡ false = ap (λ l. is_blank (get_or l 0 0)) left_is ∙ from.2 in
    let first = words_first left end begins end_at in
    let whole : word ≡ take end left = let z : end - 0 ≡ end = omega arith in word_is ∙ ap (λ n. take n left) z in (
      from.0 ∙ ap words_in (sym left_is) ∙ first.0 ∙ ap (λ w. w ∷ words_in (drop end left)) (sym whole) ∙ ap (λ r. word ∷ words_in r) (sym rest_is),
      behind_found text left rest start end at left_is end_at rest_is,
      omega (arith, first.1, first.2, ap length rest_is, length-drop end left, ap length left_is, length-drop start text),
    )

-- the first word, where the text ends it
pub next_last : (text left : List ℕ) (start : ℕ) → position in_word text ≡ Some start → left ≡ drop start text → position is_blank left ≡ None → (words_in text ≡ left ∷ []) × ([] ≡ behind_word text) × (0 < length text)
next_last text left start at left_is none =
    let from = words_from text start at in
    let some : 0 < length left = subst (λ l. 0 < length l) (sym left_is) from.1 in (
      from.0 ∙ ap words_in (sym left_is) ∙ words_last left some none,
      behind_last text left start at left_is none,
      omega (arith, some, ap length left_is, length-drop start text),
    )
