-- lists of lanes, read part by part
use Rattle.std.proofs.Common.{◌≡◌, ℕ, ◌+◌, ◌<◌, ◌≤◌, ◌==◌, Bool, true, false, cond, leb, List, [], ◌∷◌, length, Option, None, Some, Bor, Ordering, suc, refl, ap, subst, arith}
use Rattle.std.specs.BTreeSet.{insert_key}
use Rattle.std.specs.Ordering.{nat_cmp, match_ordering, MatchOrdering}
use Rattle.std.specs.declared.cmp.Ordering.TheVariants.{Less, Equal, Greater}
use Rattle.std.specs.Cmp.{ranks}
use Rattle.std.proofs.lemmas.Bool.{leb-true}
use Rattle.std.proofs.lemmas.List.Splits.{length-slice_split}
use Rattle.swss_types.specs.Lanes.{lanes_in, with_lane, rising, AreRising, IsLaneList}
use Rattle.swss_types.specs.Number.{at_most, number_within, number_of}
use Rattle.swss_types.specs.Parts.{parts_at}

-- the numbers in the text that is left
abbrev pub left_in : Option (Bor (List ℕ)) → Option (List ℕ)
left_in None = Some []
left_in (Some text) = lanes_in (parts_at 44 text.now)

-- how much text is left, and 0 only where there is none
abbrev pub left_len : Option (Bor (List ℕ)) → ℕ
left_len None = 0
left_len (Some text) = length text.now + 1

-- by the order of two numbers
by_order : (P : List ℕ → Type 0) (x y : ℕ) (o : Ordering) (a b c : List ℕ) → MatchOrdering o (x < y) (x ≡ y) (y < x) → (x < y → P a) → P b → (y < x → P c) → P (match_ordering o a b c)
by_order P x y Less a b c o f g h = f o
by_order P x y Equal a b c o f g h = g
by_order P x y Greater a b c o f g h = h o

-- a number in its place keeps a list rising
AreRising-insert_key : (low n : ℕ) (lanes : List ℕ) → low ≤ n → n < 512 → AreRising low lanes → AreRising low (insert_key nat_cmp lanes n)
AreRising-insert_key low n [] above small h = (above, small, tt)
AreRising-insert_key low n (lane ∷ lanes) above small h =
    by_order (AreRising low) n lane (nat_cmp n lane) (n ∷ lane ∷ lanes) (lane ∷ lanes) (lane ∷ insert_key nat_cmp lanes n) (ranks n lane)
    (λ less. (above, small, (omega (arith, less), h.1, h.2)))
    h
    (λ more. (h.0, h.1, AreRising-insert_key (lane + 1) n lanes (omega (arith, more)) small h.2))

-- numbers below 512
abbrev pub AreSmall : List ℕ → Type 0
AreSmall [] = Unit {0}
AreSmall (n ∷ ns) = (n < 512) × AreSmall ns

pub AreRising-rising : (lanes ns : List ℕ) → AreSmall ns → AreRising 0 lanes → AreRising 0 (rising lanes ns)
AreRising-rising lanes [] small h = h
AreRising-rising lanes (n ∷ ns) small h = AreRising-rising (insert_key nat_cmp lanes n) ns small.1 (AreRising-insert_key 0 n lanes (omega arith) small.0 h)

chosen_le : (b : Bool) (m n most : ℕ) → (b ≡ true → m ≤ most) → cond b (Some m) None ≡ Some n → n ≤ most
chosen_le true m n most le h = let same : m ≡ n = cc in subst (λ k. k ≤ most) same (le refl)
chosen_le false m n most le h = cc

pub at_most-le : (most : ℕ) (o : Option ℕ) (n : ℕ) → at_most most o ≡ Some n → n ≤ most
at_most-le most None n h = cc
at_most-le most (Some m) n h = chosen_le (leb m most) m n most (leb-true m most) h

with_small : (o : Option ℕ) (others : Option (List ℕ)) (ns : List ℕ) (k : ℕ) → ((n : ℕ) → o ≡ Some n → n < 512) → ((ms : List ℕ) → others ≡ Some ms → AreSmall ms × (length ms ≡ k)) → with_lane o others ≡ Some ns → AreSmall ns × (length ns ≡ suc k)
with_small None others ns k f g h = cc
with_small (Some n) None ns k f g h = cc
with_small (Some n) (Some ms) ns k f g h = let same : n ∷ ms ≡ ns = cc in subst (λ l. AreSmall l × (length l ≡ suc k)) same (((f n refl), (g ms refl).0), ap suc (g ms refl).1)

-- the numbers of the parts are below 512, one for each part
pub AreSmall-lanes_in : (parts : List (List ℕ)) (ns : List ℕ) → lanes_in parts ≡ Some ns → AreSmall ns × (length ns ≡ length parts)
AreSmall-lanes_in [] ns h = let same : [] ≡ ns = cc in subst (λ l. AreSmall l × (length l ≡ 0)) same (tt, refl)
AreSmall-lanes_in (part ∷ parts) ns h = with_small (number_within 511 part) (lanes_in parts) ns (length parts) (λ n e. let le = at_most-le 511 (number_of part) n e in omega (arith, le)) (λ ms e. AreSmall-lanes_in parts ms e) h

-- the lanes that a text lists in a good list
pub IsLaneList-rising : (text ns : List ℕ) → lanes_in (parts_at 44 text) ≡ Some ns → length (rising [] ns) ≡ length ns → length ns ≤ 8 → IsLaneList (rising [] ns)
IsLaneList-rising text ns h same few =
    let each = AreSmall-lanes_in (parts_at 44 text) ns h in
    record {
      some = omega (arith, each.1, same, length-slice_split (λ b. b == 44) text);
      few = omega (arith, same);
      rising = AreRising-rising [] ns each.0 tt;
    }
