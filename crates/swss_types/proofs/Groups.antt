-- groups of hexadecimal digits that are written read as the same groups
use Rattle.std.proofs.Common.{◌≡◌, ◌≢◌, ◌⊎◌, get_or, ℕ, ◌+◌, ◌*◌, ◌/◌, ◌%◌, ◌<◌, ◌≤◌, ◌==◌, false, List, [], ◌∷◌, length, map, Some, refl, ap, ◌∙◌, arith, inl, inr, lit≤}
use Rattle.std.proofs.lemmas.Bool.{cases_lt, lt-ltb, le-ltb, lt-leb, le-leb}
use Rattle.std.proofs.lemmas.List.{length-map}
use Rattle.std.specs.Char.{digit_char}
use Rattle.std.specs.Int.{IsInRange}
use Rattle.std.specs.Net.Text.{hex}
use Rattle.swss_types.specs.Hex.{hex_behind}
use Rattle.swss_types.specs.Ip.{joined, AreLowerDigits, IsPlainGroup}
use Rattle.swss_types.specs.Parts.{AllBelow}
use Rattle.swss_types.proofs.Joins.{IsFree}
use Rattle.swss_types.proofs.Macs.{hex_behind-digit, digit_char-no_colon, digit_char-free, IsFree-cons, IsFree-nil}

-- a written group: it reads as the group, is not empty, and has none of the bytes that part texts
pub record IsGroupText (g : ℕ) (text : List ℕ) : Type 0 where
  pub plain : IsPlainGroup g text
  pub some : 0 < length text
  pub no_colon : IsFree 58 text
  pub no_dot : IsFree 46 text

hex_behind-digits : (n : ℕ) (ds : List ℕ) → AllBelow 16 ds → hex_behind n (map digit_char ds) ≡ Some (joined 16 n ds)
hex_behind-digits n [] h = refl
hex_behind-digits n (d ∷ ds) h = hex_behind-digit n d (map digit_char ds) h.0 ∙ hex_behind-digits (16 * n + d) ds h.1

free : (byte : ℕ) → ((d : ℕ) → d < 16 → (digit_char d == byte) ≡ false) → (ds : List ℕ) → AllBelow 16 ds → IsFree byte (map digit_char ds)
free byte other [] h = IsFree-nil byte
free byte other (d ∷ ds) h = IsFree-cons byte (digit_char d) (map digit_char ds) (other d h.0) (free byte other ds h.1)

digit_char-lower : (d : ℕ) → d < 16 → IsInRange 48 57 (digit_char d) ⊎ IsInRange 97 102 (digit_char d)
digit_char-lower d h =
    elim (cases_lt d 10) [
      | inl few ↦ rw (lt-ltb d 10 few) (inl (omega arith))
      | inr more ↦ rw (le-ltb d 10 more) (inr (omega arith))
    ]

AreLowerDigits-digits : (ds : List ℕ) → AllBelow 16 ds → AreLowerDigits (map digit_char ds)
AreLowerDigits-digits [] h = tt
AreLowerDigits-digits (d ∷ ds) h = (digit_char-lower d h.0, AreLowerDigits-digits ds h.1)

digit_char-some : (d : ℕ) → 0 < d → d < 16 → digit_char d ≢ 48
digit_char-some d some h =
    elim (cases_lt d 10) [
      | inl few ↦ rw (lt-ltb d 10 few) (omega arith)
      | inr more ↦ rw (le-ltb d 10 more) (omega arith)
    ]

lean_digits : (ds : List ℕ) → AllBelow 16 ds → (1 < length ds → 0 < get_or ds 0 0) → 1 < length ds → get_or (map digit_char ds) 0 0 ≢ 48
lean_digits [] h lead many = absurd (omega arith)
lean_digits (d ∷ ds) h lead many = digit_char-some d (lead many) h.0

IsGroupText-digits : (g : ℕ) (ds : List ℕ) → AllBelow 16 ds → 0 < length ds → length ds ≤ 4 → (1 < length ds → 0 < get_or ds 0 0) → joined 16 0 ds ≡ g → IsGroupText g (map digit_char ds)
IsGroupText-digits g ds h some few lead value =
    let len : length (map digit_char ds) ≡ length ds = length-map ds digit_char in
    record {
      plain = record {
        reads = rw (len, le-leb 1 (length ds) some, le-leb (length ds) 4 few) (hex_behind-digits 0 ds h ∙ ap Some value);
        lower = AreLowerDigits-digits ds h;
        lean = λ many. lean_digits ds h lead (omega arith);
      };
      some = omega arith;
      no_colon = free 58 digit_char-no_colon ds h;
      no_dot = free 46 (λ d. digit_char-free 46 d (lit≤ tt)) ds h;
    }

pub IsGroupText-hex : (g : ℕ) → g < 65536 → IsGroupText g (hex g)
unfolding hex
IsGroupText-hex g small =
    let d₀ : g % 16 < 16 = omega arith in
    let d₁ : g / 0x10 % 16 < 16 = omega arith in
    let d₂ : g / 0x100 % 16 < 16 = omega arith in
    let d₃ : g / 0x1000 < 16 = omega arith in
    elim (cases_lt g 0x1000) [
      | inr four ↦ rw (le-leb 0x1000 g four) (IsGroupText-digits g (g / 0x1000 ∷ g / 0x100 % 16 ∷ g / 0x10 % 16 ∷ g % 16 ∷ []) (d₃, (d₂, (d₁, (d₀, tt)))) (lit≤ tt) (lit≤ tt) (λ _. omega arith) (omega arith))
      | inl h₃ ↦ elim (cases_lt g 0x100) [
        | inr three ↦ rw (lt-leb 0x1000 g h₃, le-leb 0x100 g three) (IsGroupText-digits g (g / 0x100 % 16 ∷ g / 0x10 % 16 ∷ g % 16 ∷ []) (d₂, (d₁, (d₀, tt))) (lit≤ tt) (lit≤ tt) (λ _. omega arith) (omega arith))
        | inl h₂ ↦ elim (cases_lt g 0x10) [
          | inr two ↦ rw (lt-leb 0x1000 g h₃, lt-leb 0x100 g h₂, le-leb 0x10 g two) (IsGroupText-digits g (g / 0x10 % 16 ∷ g % 16 ∷ []) (d₁, (d₀, tt)) (lit≤ tt) (lit≤ tt) (λ _. omega arith) (omega arith))
          | inl h₁ ↦ rw (lt-leb 0x1000 g h₃, lt-leb 0x100 g h₂, lt-leb 0x10 g h₁) (IsGroupText-digits g (g % 16 ∷ []) (d₀, tt) (lit≤ tt) (lit≤ tt) (λ many. absurd (omega arith)) (omega arith))
        ]
      ]
    ]
