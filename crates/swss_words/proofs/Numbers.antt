-- A number begins with a digit, and so with no hyphen.
use Rattle.std.proofs.Common.{◌≡◌, ◌==◌, ℕ, Bool, cond, true, false, [], ◌∷◌, ◌*◌, ◌+◌, ◌-◌, Option, Some, None, refl, arith, nat_le}
use Rattle.std.specs.Char.{is_ascii_digit}
use Rattle.swss_types.specs.Number.{at_most, is_misspelt, number_of, number_within, value_behind}
use Rattle.swss_words.specs.Words.{Text, not_below, workers_of}

-- the text has a first character, which is no hyphen
pub record IsPlain (text : Text) : Type 0 where
  pub first : ℕ
  pub rest : Text
  pub is : text ≡ first ∷ rest
  pub plain : (first == 45) ≡ false

not_hyphen : (b : ℕ) → is_ascii_digit b ≡ true → (b == 45) ≡ false
not_hyphen b h = grind arith

pub at_most-inverse : (most : ℕ) (o : Option ℕ) (n : ℕ) → at_most most o ≡ Some n → o ≡ Some n
at_most-inverse most None n h = cc
at_most-inverse most (Some k) n h = go (nat_le k most) h
  where
    go : (b : Bool) → cond b (Some k) None ≡ Some n → ◌≡◌ {A = Option ℕ} (Some k) (Some n)
    go true h = h
    go false h = cc

pub not_below-inverse : (low : ℕ) (o : Option ℕ) (n : ℕ) → not_below low o ≡ Some n → o ≡ Some n
not_below-inverse low None n h = cc
not_below-inverse low (Some k) n h = go (nat_le low k) h
  where
    go : (b : Bool) → cond b (Some k) None ≡ Some n → ◌≡◌ {A = Option ℕ} (Some k) (Some n)
    go true h = h
    go false h = cc

plain_number : (text : Text) (n : ℕ) → number_of text ≡ Some n → IsPlain text
plain_number [] n h = cc
plain_number (b ∷ bs) n h = record { first = b; rest = bs; is = refl; plain = go (is_misspelt (b ∷ bs)) (is_ascii_digit b) refl h }
  where
    go : (m d : Bool) → is_ascii_digit b ≡ d → cond m None (cond d (value_behind (10 * 0 + (b - 48)) bs) None) ≡ Some n → (b == 45) ≡ false
    go true d e h = cc
    go false true e h = not_hyphen b e
    go false false e h = cc

pub plain_within : (most : ℕ) (text : Text) (n : ℕ) → number_within most text ≡ Some n → IsPlain text
plain_within most text n h = plain_number text n (at_most-inverse most _ n h)

pub plain_workers : (text : Text) (n : ℕ) → workers_of text ≡ Some n → IsPlain text
plain_workers text n h = plain_within 4 text n (not_below-inverse 1 _ n h)
