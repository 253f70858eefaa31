-- where a text is cut into lines
use Rattle.std.proofs.Common.{◌≡◌, ℕ, ◌+◌, ◌<◌, ◌≤◌, ◌==◌, Bool, true, false, cond, ltb, not, List, [], ◌∷◌, ◌++◌, length, get_or, take, drop, None, Some, refl, sym, ap, ap₂, ◌∙◌, arith, length-take}
use Rattle.std.specs.List.{position, position_or_len}
use Rattle.std.proofs.lemmas.Bool.{eq-eqb, eqb-true, false≢true, ltb-false, ne_eqb}
use Rattle.std.proofs.lemmas.List.{append_cancel_left, get_or-take, take-append-drop, take_more}
use Rattle.std.proofs.lemmas.List.Elements.{All-append, All-cons, All-from_get_or, All-head, All-nil, All-tail, All-weaker}
use Rattle.std.proofs.lemmas.List.Quantifiers.{position-Some}
use Rattle.std.proofs.lemmas.List.Sums.{fails_before_first, prefix_len-le-length}
use Rattle.std.proofs.lemmas.Option.{none-some, same_Some}
use Rattle.swss_types.proofs.Choices.{chosen_none}
use Rattle.sai_record.specs.Line.{call_line, closed, spaced, words_text}
use Rattle.sai_record.specs.Lines.{IsOneLine}
use Rattle.sai_record.specs.Ranges.{IsRecorded}
use Rattle.sai_record.specs.declared.recording.Recorded.{Recorded}
use Rattle.sai_record.proofs.Plain.{IsPlain, IsVisible}
use Rattle.sai_record.proofs.Texts.{ArePlain, plain-call}

abbrev NoNewline : ℕ → Type 0
NoNewline b = (b == 10) ≡ false

-- ---- words have no newline

visible : (b : ℕ) → IsVisible b → NoNewline b
visible b h = ne_eqb b 10 (omega (arith, h))

word_line : (word : List ℕ) → IsPlain word → IsOneLine word
word_line word plain = All-weaker IsVisible NoNewline visible word plain

spaced_line : (words : List (List ℕ)) → ArePlain words → IsOneLine (spaced words)
spaced_line [] h = All-nil NoNewline
spaced_line (word ∷ words) h = All-append NoNewline (32 ∷ word) (spaced words) (All-cons NoNewline 32 word refl (word_line word h.0)) (spaced_line words h.1)

pub line-words : (words : List (List ℕ)) → ArePlain words → IsOneLine (words_text words)
line-words [] h = All-nil NoNewline
line-words (word ∷ words) h = All-append NoNewline word (spaced words) (word_line word h.0) (spaced_line words h.1)

pub line-call : (r : Recorded) → IsRecorded r → IsOneLine (call_line r)
line-call r h = line-words _ (plain-call r.made r.call h.made h.call)

-- ---- a text has one first line

-- what has an end is more than one line
pub line-closed : (line rest : List ℕ) → IsOneLine (closed line ++ rest) → ⊥
line-closed [] rest h = false≢true (sym (All-head NoNewline 10 rest h))
line-closed (b ∷ bs) rest h = line-closed bs rest (All-tail NoNewline b (closed bs ++ rest) h)

heads : (a b : ℕ) (xs ys : List ℕ) → a ∷ xs ≡ b ∷ ys → a ≡ b
heads a b xs ys h = cc

tails : (a b : ℕ) (xs ys : List ℕ) → a ∷ xs ≡ b ∷ ys → xs ≡ ys
tails a b xs ys h = cc

is_newline : (b : ℕ) → 10 ≡ b → NoNewline b → ⊥
is_newline b same h = false≢true (sym h ∙ eq-eqb b 10 (sym same))

-- the first line of a text is one
pub one-line : (a b x y : List ℕ) → IsOneLine a → IsOneLine b → closed a ++ x ≡ closed b ++ y → a ≡ b
one-line [] [] x y h g same = refl
one-line [] (b ∷ bs) x y h g same = absurd (is_newline b (heads 10 b x (closed bs ++ y) same) (All-head NoNewline b bs g))
one-line (a ∷ as') [] x y h g same = absurd (is_newline a (sym (heads a 10 (closed as' ++ x) y same)) (All-head NoNewline a as' h))
one-line (a ∷ as') (b ∷ bs) x y h g same =
    ap₂ (λ c cs. c ∷ cs) (heads a b (closed as' ++ x) (closed bs ++ y) same)
    (one-line as' bs x y (All-tail NoNewline a as' h) (All-tail NoNewline b bs g) (tails a b (closed as' ++ x) (closed bs ++ y) same))

-- ---- the place of the first newline

abbrev newline : ℕ → Bool
newline b = b == 10

pub cut-some : (text : List ℕ) (at : ℕ) → position newline text ≡ Some at → IsOneLine (take at text) × (text ≡ closed (take at text) ++ drop (at + 1) text)
cut-some text at found =
    let place = position-Some newline text at 0 found in (
      All-from_get_or NoNewline (take at text) 0 (λ i within. let here : i < at = omega (arith, within, length-take at text) in rw (get_or-take at text i 0 here) (place.2 i here)),
      whole (eqb-true (get_or text at 0) 10 place.1) place.0,
    )
  where
    whole : get_or text at 0 ≡ 10 → at < length text → text ≡ closed (take at text) ++ drop (at + 1) text
    whole is within =
        sym (take-append-drop (at + 1) text)
        ∙ ap (λ front. front ++ drop (at + 1) text) (take_more text at 0 within ∙ ap (λ b. take at text ++ b ∷ []) is)

pub cut-none : (text : List ℕ) → position newline text ≡ None → IsOneLine text
cut-none text none =
    let past : length text ≤ position_or_len newline text = ltb-false (position_or_len newline text) (length text) (chosen_none (ltb (position_or_len newline text) (length text)) (position_or_len newline text) none) in
    λ k d within. fails_before_first newline text k d (omega (arith, within, past))

-- and so is the text behind it
pub one-rest : (a b x y : List ℕ) → a ≡ b → closed a ++ x ≡ closed b ++ y → x ≡ y
one-rest a b x y same h = append_cancel_left (closed a) x y (h ∙ ap (λ line. closed line ++ y) (sym same))

-- ---- the first place that passes

chosen_is : (t : Bool) (n at : ℕ) → cond t (Some n) None ≡ Some at → at ≡ n
chosen_is true n at h = sym (same_Some n at h)
chosen_is false n at h = absurd (none-some at h)

pub place-some : (p : ℕ → Bool) (text : List ℕ) (at : ℕ) → position p text ≡ Some at → at ≡ position_or_len p text
place-some p text at h = chosen_is (ltb (position_or_len p text) (length text)) (position_or_len p text) at h

pub place-none : (p : ℕ → Bool) (text : List ℕ) → position p text ≡ None → length text ≡ position_or_len p text
place-none p text none =
    let past : length text ≤ position_or_len p text = ltb-false (position_or_len p text) (length text) (chosen_none (ltb (position_or_len p text) (length text)) (position_or_len p text) none) in
    let within : position_or_len p text ≤ length text = prefix_len-le-length (λ b. not (p b)) text in
    omega (arith, past, within)
