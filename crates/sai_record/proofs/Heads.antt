-- the first line of a text, and a call's, where one is read and where none is
use Rattle.std.proofs.Common.{◌≡◌, ◌≢◌, ℕ, ◌^◌, ◌<◌, true, false, List, [], ◌∷◌, ◌++◌, bytes_eq, codes, length, map, Option, None, Some, option_map, refl, sym, ap, ◌∙◌, subst, arith}
use Rattle.std.specs.Fmt.{decimal}
use Rattle.std.proofs.lemmas.Bool.{false≢true}
use Rattle.std.proofs.lemmas.Option.{none-some, same_Some}
use Rattle.std.proofs.lemmas.Slice.Eq.{bytes_eq-Decides}
use Rattle.swss_types.specs.Parts.{AllBelow}
use Rattle.swss_types.proofs.Decimals.{number_within-decimal}
use Rattle.sai_types.specs.declared.caps.Caps.{Caps}
use Rattle.sai_record.specs.Line.{call_line, closed, head_line, spaced}
use Rattle.sai_record.specs.Lines.{IsOneLine, caps_of, longs_at}
use Rattle.sai_record.specs.Meaning.{call_at}
use Rattle.sai_record.specs.Ranges.{AreCaps}
use Rattle.sai_record.specs.Reading.{BeginsWithNoCall, BeginsWithNoHead}
use Rattle.sai_record.specs.Words.{long_of}
use Rattle.sai_record.specs.declared.recording.Recorded.{Recorded}
use Rattle.sai_record.proofs.Cut.{line-call, line-closed, line-words, one-line}
use Rattle.sai_record.proofs.Meant.{call-means}
use Rattle.sai_record.proofs.Plain.{plain-codes, plain-decimal}
use Rattle.sai_record.proofs.Texts.{ArePlain}
use Rattle.sai_record.proofs.Values.{value-spaced}

-- ---- the line of a call

-- a text without a newline begins with no line
pub no-call-unended : (text : List ℕ) → IsOneLine text → BeginsWithNoCall text
no-call-unended text h r rest good same = line-closed (call_line r) rest (subst IsOneLine same h)

-- a line that means no call, or one whose line is another
pub no-call-here : (text line rest : List ℕ) (meant : Option Recorded) → IsOneLine line → text ≡ closed line ++ rest → meant ≡ call_at line → ((r : Recorded) → meant ≡ Some r → line ≢ call_line r) → BeginsWithNoCall text
no-call-here text line rest meant one cut is other r more good same =
    let here : line ≡ call_line r = one-line line (call_line r) rest more one (line-call r good) (sym cut ∙ same) in
    other r (is ∙ ap call_at here ∙ call-means r good) here

pub no-meaning : (o : Option Recorded) (line : List ℕ) → o ≡ None → (r : Recorded) → o ≡ Some r → line ≢ call_line r
no-meaning o line none r some = λ same. let both : None ≡ Some r = sym none ∙ some in absurd cc

pub other-line : (o : Option Recorded) (line : List ℕ) (s : Recorded) → o ≡ Some s → false ≡ bytes_eq (call_line s) line → (r : Recorded) → o ≡ Some r → line ≢ call_line r
other-line o line s is differs r some same =
    let rs : s ≡ r = same_Some s r (sym is ∙ some) in
    false≢true (differs ∙ (bytes_eq-Decides (call_line s) line).1 (ap call_line rs ∙ sym same))

pub same-line : (a b : List ℕ) → true ≡ bytes_eq a b → b ≡ a
same-line a b h = sym ((bytes_eq-Decides a b).0 (sym h))

-- ---- the first line

long-read : (n : ℕ) → n < 2 ^ 64 → long_of (decimal n) ≡ Some n
long-read n small = number_within-decimal 18446744073709551615 n (omega arith) small

pub longs-read : (ns : List ℕ) → AllBelow (2 ^ 64) ns → longs_at (length ns) (spaced (map decimal ns)) ≡ Some ns
unfolding longs_at
longs-read [] h = refl
longs-read (n ∷ ns) h = rw (value-spaced long_of (decimal n) (map decimal ns) n (plain-decimal n h.0) (long-read n h.0), longs-read ns h.1) refl

numbers_plain : (ns : List ℕ) → AllBelow (2 ^ 64) ns → ArePlain (map decimal ns)
numbers_plain [] h = tt
numbers_plain (n ∷ ns) h = (plain-decimal n h.0, numbers_plain ns h.1)

pub line-head : (caps : Caps) → AreCaps caps → IsOneLine (head_line caps)
line-head caps h = line-words (codes "recording" ∷ codes "1" ∷ map decimal caps.0) (plain-codes (codes "recording") refl, (plain-codes (codes "1") refl, numbers_plain caps.0 h.1))

pub caps-read : (caps : Caps) → AreCaps caps → caps_of (head_line caps) ≡ Some caps.0
unfolding caps_of
caps-read caps h = ap (λ n. longs_at n (spaced (map decimal caps.0))) (sym h.0) ∙ longs-read caps.0 h.1

pub no-head-unended : (text : List ℕ) → IsOneLine text → BeginsWithNoHead text
no-head-unended text h caps rest good same = line-closed (head_line caps) rest (subst IsOneLine same h)

pub no-head-here : (text line rest : List ℕ) → IsOneLine line → text ≡ closed line ++ rest → ((caps : Caps) → caps_of line ≡ Some caps.0 → line ≢ head_line caps) → BeginsWithNoHead text
no-head-here text line rest one cut other caps more good same =
    let here : line ≡ head_line caps = one-line line (head_line caps) rest more one (line-head caps good) (sym cut ∙ same) in
    other caps (ap caps_of here ∙ caps-read caps good) here

-- a line that has no capacities, or whose capacities have another line
pub no-caps : (o : Option Caps) (line : List ℕ) → option_map (λ (c : Caps). c.0) o ≡ caps_of line → o ≡ None → (caps : Caps) → caps_of line ≡ Some caps.0 → line ≢ head_line caps
no-caps o line value none caps some same = none-some caps.0 (sym (ap (option_map (λ (c : Caps). c.0)) none) ∙ value ∙ some)

pub other-head : (o : Option Caps) (line : List ℕ) (d : Caps) → option_map (λ (c : Caps). c.0) o ≡ caps_of line → o ≡ Some d → false ≡ bytes_eq (head_line d) line → (caps : Caps) → caps_of line ≡ Some caps.0 → line ≢ head_line caps
other-head o line d value is differs caps some same =
    let numbers : d.0 ≡ caps.0 = same_Some d.0 caps.0 (sym (ap (option_map (λ (c : Caps). c.0)) is) ∙ value ∙ some) in
    let of : List ℕ → Caps = λ ns. record { 0 = ns } in
    false≢true (differs ∙ (bytes_eq-Decides (head_line d) line).1 (ap (λ ns. head_line (of ns)) numbers ∙ sym same))
