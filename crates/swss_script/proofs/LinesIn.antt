-- the lines of a text, one after the other
use Rattle.std.proofs.Common.{◌≡◌, ℕ, suc, ◌+◌, ◌-◌, ◌<◌, ◌≤◌, ◌==◌, Bool, true, false, cond, not, List, [], ◌∷◌, ◌++◌, length, take, drop, Option, Some, None, option_map, refl, sym, ap, ap₂, ◌∙◌, subst, arith, ltb, length-drop, length-take, length-append, append_assoc}
use Rattle.std.proofs.lemmas.List.{take-append-drop, take_rest}
use Rattle.std.proofs.Math.Seq.{drop-append_seam, drop-length, take-append_seam}
use Rattle.std.proofs.lemmas.Bool.{ltb-true, ltb-false}
use Rattle.std.specs.List.{position, position_or_len}
use Rattle.std.proofs.lemmas.Option.{cond_some}
use Rattle.swss_types.proofs.Choices.{chosen_none}
use Rattle.swss_script.specs.Lines.{IsNextLine, block_of, is_end, line_text, lines_in, with_byte}

abbrev is_newline : ℕ → Bool
is_newline byte = byte == 10

abbrev cut : Bool → List ℕ → ℕ
cut newline bytes = cond (not newline) (1 + position_or_len is_newline bytes) 0

first_by : (byte : ℕ) (bytes : List ℕ) (newline : Bool) → (newline ≡ false → lines_in bytes ≡ take (position_or_len is_newline bytes + 1) bytes ∷ lines_in (drop (position_or_len is_newline bytes + 1) bytes))
    → cond newline ((byte ∷ []) ∷ lines_in bytes) (with_byte byte (lines_in bytes)) ≡ take (cut newline bytes + 1) (byte ∷ bytes) ∷ lines_in (drop (cut newline bytes + 1) (byte ∷ bytes))
first_by byte bytes true more = refl
first_by byte bytes false more =
    let next : (1 + position_or_len is_newline bytes) + 1 ≡ suc (position_or_len is_newline bytes + 1) = omega arith in
    ap (with_byte byte) (more refl) ∙ ap (λ n. take n (byte ∷ bytes) ∷ lines_in (drop n (byte ∷ bytes))) (sym next)

cut_within : (newline : Bool) (bytes : List ℕ) → cut newline bytes < suc (length bytes) → newline ≡ false → position_or_len is_newline bytes < length bytes
cut_within true bytes h is = cc
cut_within false bytes h is = omega arith

-- the line up to a newline
lines_first : (text : List ℕ) → position_or_len is_newline text < length text → lines_in text ≡ take (position_or_len is_newline text + 1) text ∷ lines_in (drop (position_or_len is_newline text + 1) text)
lines_first [] h = absurd (omega arith)
lines_first (byte ∷ bytes) h = first_by byte bytes (byte == 10) (λ is. lines_first bytes (cut_within (byte == 10) bytes h is))

whole_by : (byte : ℕ) (bytes : List ℕ) (newline : Bool) → suc (length bytes) ≤ cut newline bytes → with_byte byte (lines_in bytes) ≡ (byte ∷ bytes) ∷ [] → cond newline ((byte ∷ []) ∷ lines_in bytes) (with_byte byte (lines_in bytes)) ≡ (byte ∷ bytes) ∷ []
whole_by byte bytes true h more = absurd (omega arith)
whole_by byte bytes false h more = more

cut_past : (newline : Bool) (bytes : List ℕ) → suc (length bytes) ≤ cut newline bytes → length bytes ≤ position_or_len is_newline bytes
cut_past true bytes h = absurd (omega arith)
cut_past false bytes h = omega arith

-- a text without a newline is one line
lines_whole : (byte : ℕ) (bytes : List ℕ) → length (byte ∷ bytes) ≤ position_or_len is_newline (byte ∷ bytes) → lines_in (byte ∷ bytes) ≡ (byte ∷ bytes) ∷ []
lines_whole byte [] h = whole_by byte [] (byte == 10) h refl
lines_whole byte (b ∷ bs) h = whole_by byte (b ∷ bs) (byte == 10) h (ap (with_byte byte) (lines_whole b bs (cut_past (byte == 10) (b ∷ bs) h)))

-- the next line ends at the first newline
pub next_ended : (text line rest : List ℕ) (at : ℕ) → position is_newline text ≡ Some at → line ≡ take (at + 1) text → rest ≡ drop (at + 1) text → IsNextLine text (Some (line, rest))
next_ended text line rest at found line_is rest_is =
    let here = cond_some (ltb (position_or_len is_newline text) (length text)) (position_or_len is_newline text) at found in
    let within : position_or_len is_newline text < length text = ltb-true _ _ here.0 in
    let first = subst (λ n. lines_in text ≡ take (n + 1) text ∷ lines_in (drop (n + 1) text)) here.1 (lines_first text within) in (
      first ∙ ap₂ (λ l r. l ∷ lines_in r) (sym line_is) (sym rest_is),
      sym (take-append-drop (at + 1) text) ∙ ap₂ (λ l r. l ++ r) (sym line_is) (sym rest_is),
      omega (arith, within, here.1, ap length rest_is, length-drop (at + 1) text),
    )

append-nil : (xs : List ℕ) → xs ≡ xs ++ []
append-nil [] = refl
append-nil (x ∷ xs) = ap (λ ys. x ∷ ys) (append-nil xs)

-- the last line lacks one
pub next_whole : (text rest : List ℕ) → position is_newline text ≡ None → false ≡ (length text == 0) → rest ≡ [] → IsNextLine text (Some (text, rest))
next_whole [] rest none some rest_is = cc
next_whole (byte ∷ bytes) rest none some rest_is =
    let past : length (byte ∷ bytes) ≤ position_or_len is_newline (byte ∷ bytes) = ltb-false _ _ (chosen_none (ltb (position_or_len is_newline (byte ∷ bytes)) (length (byte ∷ bytes))) (position_or_len is_newline (byte ∷ bytes)) none) in (
      lines_whole byte bytes past ∙ ap (λ r. (byte ∷ bytes) ∷ lines_in r) (sym rest_is),
      append-nil (byte ∷ bytes) ∙ ap (λ r. (byte ∷ bytes) ++ r) (sym rest_is),
      omega (arith, ap length rest_is),
    )

-- a slice from the end on is empty
pub rest-none : (text : List ℕ) → take (length text - length text) (drop (length text) text) ≡ []
rest-none text = take_rest text (length text) ∙ drop-length text

-- ---- blocks

-- a block, where so many bytes are before these
abbrev pub block_behind : List ℕ → ℕ → List ℕ → Option (List ℕ)
block_behind text at left = option_map (λ block. take at text ++ block) (block_of (lines_in left))

take-more : (text line rest : List ℕ) (at : ℕ) → at ≤ length text → drop at text ≡ line ++ rest → take (at + length line) text ≡ take at text ++ line
take-more text line rest at within split =
    let whole : text ≡ (take at text ++ line) ++ rest = sym (take-append-drop at text) ∙ ap (λ r. take at text ++ r) split ∙ sym (append_assoc (take at text) line rest) in
    let size : at + length line ≡ length (take at text ++ line) = omega (arith, length-append (take at text) line, length-take at text) in
    ap₂ take size whole ∙ take-append_seam (take at text ++ line) rest

drop-more : (text line rest : List ℕ) (at : ℕ) → at ≤ length text → drop at text ≡ line ++ rest → drop (at + length line) text ≡ rest
drop-more text line rest at within split =
    let whole : text ≡ (take at text ++ line) ++ rest = sym (take-append-drop at text) ∙ ap (λ r. take at text ++ r) split ∙ sym (append_assoc (take at text) line rest) in
    let size : at + length line ≡ length (take at text ++ line) = omega (arith, length-append (take at text) line, length-take at text) in
    ap₂ drop size whole ∙ drop-append_seam (take at text ++ line) rest

prefixes_joined : (xs ys : List ℕ) (o : Option (List ℕ)) → option_map (λ b. xs ++ b) (option_map (λ b. ys ++ b) o) ≡ option_map (λ b. (xs ++ ys) ++ b) o
prefixes_joined xs ys None = refl
prefixes_joined xs ys (Some b) = ap Some (sym (append_assoc xs ys b))

-- a line more, which is no end
pub block-more : (text left line rest : List ℕ) (at : ℕ) → at ≤ length text → left ≡ drop at text → lines_in left ≡ line ∷ lines_in rest → left ≡ line ++ rest → is_end (line_text line) ≡ false
    → (at + length line ≤ length text) × (rest ≡ drop (at + length line) text) × (block_behind text (at + length line) rest ≡ block_behind text at left)
block-more text left line rest at within left_is lines parts open_still =
    let split : drop at text ≡ line ++ rest = sym left_is ∙ parts in (
      omega (arith, length-drop at text, ap length split, length-append line rest),
      sym (drop-more text line rest at within split),
      ap (λ front. option_map (λ b. front ++ b) (block_of (lines_in rest))) (take-more text line rest at within split)
          ∙ sym (prefixes_joined (take at text) line (block_of (lines_in rest)))
          ∙ ap (option_map (λ b. take at text ++ b)) (sym (ap (λ b. cond b (Some []) (option_map (λ t. line ++ t) (block_of (lines_in rest)))) open_still) ∙ ap block_of (sym lines)),
    )
