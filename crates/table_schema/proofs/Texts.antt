-- texts that are split at a byte, and texts of ASCII
use Rattle.std.proofs.Common.{◌≡◌, ℕ, zero, suc, ◌+◌, ◌==◌, Bool, true, false, cond, ltb, not, List, [], ◌∷◌, ◌++◌, length, None, Some, refl, ap, ◌∙◌, arith, length-append}
use Rattle.std.specs.List.{Contains, list_any, position_or_len}
use Rattle.std.specs.Str.{IsAscii}
use Rattle.std.proofs.Math.Seq.{take-append_seam, drop-append-add}
use Rattle.std.proofs.lemmas.Bool.{eq-eqb, lt-ltb, le-ltb, ltb-true, or_parts}
use Rattle.swss_types.proofs.Joins.{IsFree}
use Rattle.table_schema.specs.Split.{split_once}

-- ---- texts without a byte

pub IsFree-tested : (byte : ℕ) (text : List ℕ) → list_any (λ b. b == byte) text ≡ false → IsFree byte text
IsFree-tested byte [] h k d lt = absurd (omega arith)
IsFree-tested byte (b ∷ bs) h zero d lt = (or_parts (b == byte) (list_any (λ c. c == byte) bs) h).0
IsFree-tested byte (b ∷ bs) h (suc k) d lt = IsFree-tested byte bs (or_parts (b == byte) (list_any (λ c. c == byte) bs) h).1 k d (omega arith)

pub IsFree-append : (byte : ℕ) (a b : List ℕ) → IsFree byte a → IsFree byte b → IsFree byte (a ++ b)
IsFree-append byte [] b ha hb k d lt = hb k d lt
IsFree-append byte (x ∷ a) b ha hb zero d lt = ha zero d (omega arith)
IsFree-append byte (x ∷ a) b ha hb (suc k) d lt = IsFree-append byte a b (λ j e l. ha (suc j) e (omega arith)) hb k d (omega arith)

-- ---- the first such byte

tail_free : (byte x : ℕ) (text : List ℕ) → IsFree byte (x ∷ text) → IsFree byte text
tail_free byte x text h k d lt = h (suc k) d (omega arith)

place_of_first : (byte : ℕ) (front rest : List ℕ) → IsFree byte front → position_or_len (λ b. b == byte) (front ++ byte ∷ rest) ≡ length front
place_of_first byte [] rest h = ap (λ b. cond (not b) (1 + position_or_len (λ b. b == byte) rest) 0) (eq-eqb byte byte refl)
place_of_first byte (x ∷ front) rest h =
    ap (λ b. cond (not b) (1 + position_or_len (λ b. b == byte) (front ++ byte ∷ rest)) 0) (h zero x (omega arith))
    ∙ ap (λ n. 1 + n) (place_of_first byte front rest (tail_free byte x front h)) ∙ omega arith

place_of_none : (byte : ℕ) (text : List ℕ) → IsFree byte text → position_or_len (λ b. b == byte) text ≡ length text
place_of_none byte [] h = refl
place_of_none byte (x ∷ text) h =
    ap (λ b. cond (not b) (1 + position_or_len (λ b. b == byte) text) 0) (h zero x (omega arith))
    ∙ ap (λ n. 1 + n) (place_of_none byte text (tail_free byte x text h)) ∙ omega arith

-- a text is split at its first such byte
pub split_once-first : (byte : ℕ) (front rest : List ℕ) → IsFree byte front → split_once byte (front ++ byte ∷ rest) ≡ Some (front, rest)
split_once-first byte front rest h =
    let at = place_of_first byte front rest h in
    let within : ltb (length front) (length (front ++ byte ∷ rest)) ≡ true = lt-ltb _ _ (omega (arith, length-append front (byte ∷ rest))) in
    rw (at, within, take-append_seam front (byte ∷ rest), drop-append-add front (byte ∷ rest) 1) refl

pub split_once-none : (byte : ℕ) (text : List ℕ) → IsFree byte text → split_once byte text ≡ None
split_once-none byte text h = rw (place_of_none byte text h, le-ltb (length text) (length text) (omega arith)) refl

-- a byte in the middle of a text
pub Contains-middle : (byte : ℕ) (front rest : List ℕ) → Contains (front ++ byte ∷ rest) byte
Contains-middle byte [] rest = (0, omega arith, refl)
Contains-middle byte (x ∷ front) rest = let there = Contains-middle byte front rest in (suc there.0, omega (arith, there.1), there.2)

-- ---- texts of ASCII

abbrev pub is_ascii : List ℕ → Bool
is_ascii [] = true
is_ascii (b ∷ bs) = cond (ltb b 128) (is_ascii bs) false

passed : (b c : Bool) → cond b c false ≡ true → (b ≡ true) × (c ≡ true)
passed true c h = (refl, h)
passed false c h = cc

pub IsAscii-tested : (text : List ℕ) → is_ascii text ≡ true → IsAscii text
IsAscii-tested [] h i = omega arith
IsAscii-tested (b ∷ bs) h zero = ltb-true b 128 (passed (ltb b 128) (is_ascii bs) h).0
IsAscii-tested (b ∷ bs) h (suc i) = IsAscii-tested bs (passed (ltb b 128) (is_ascii bs) h).1 i
