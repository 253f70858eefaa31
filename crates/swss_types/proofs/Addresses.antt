-- addresses, read part by part
use Rattle.std.proofs.Common.{◌≡◌, ℕ, zero, suc, ◌+◌, ◌-◌, ◌*◌, ◌%◌, ◌<◌, ◌≤◌, ◌^◌, List, [], ◌∷◌, ◌++◌, length, replicate, Option, inl, inr, subst, None, Some, refl, sym, ap, arith, lit≤, length-append}
use Rattle.std.proofs.Math.Nat.{mod-eq_of_lt, pow-le-pow_right, pow-zero, pow-suc, mul-le-mul_right}
use Rattle.std.proofs.lemmas.Bool.{cases_lt, lt-leb, le-leb}
use Rattle.std.proofs.lemmas.List.{length-replicate}
use Rattle.std.proofs.lemmas.Nat.{pow-add}
use Rattle.std.proofs.lemmas.Option.{same_Some}
use Rattle.swss_types.specs.Ip.{joined, ipv6_from, filled, filled_between, side_of, groups_of}
use Rattle.swss_types.specs.Hex.{hex_within}
use Rattle.swss_types.proofs.Hexes.{hex_within-lt}
use Rattle.swss_types.proofs.Each.{AllBelow-each_of}
use Rattle.swss_types.specs.Parts.{AllBelow, parts_at}
use Rattle.swss_types.specs.IpParts.{made}
use Rattle.swss_types.specs.declared.address.Family.TheVariants.{V6}

-- one group more still fits in 128 bits
pub part_fits : (n count v : ℕ) → n < 65536 ^ count → count < 8 → v < 65536 → 65536 * n + v < 2 ^ 128
part_fits n count v small few below =
    let few' : count ≤ 7 = omega arith in
    let most : 65536 ^ count ≤ 65536 ^ 7 = pow-le-pow_right (lit≤ tt) few' in
    omega arith

-- a shift by so many parts
pub shifts : (k : ℕ) → 2 ^ (16 * k) ≡ 65536 ^ k
shifts zero = refl
shifts (suc k) =
    let more : 16 * suc k ≡ 16 * k + 16 = omega arith in
    rw (more, pow-add 2 (16 * k) 16, shifts k, pow-suc 65536 k) refl

pub joined-append : (b n : ℕ) (xs ys : List ℕ) → joined b n (xs ++ ys) ≡ joined b (joined b n xs) ys
joined-append b n [] ys = refl
joined-append b n (x ∷ xs) ys = joined-append b (b * n + x) xs ys

-- what is behind a number
pub joined_behind : (b n : ℕ) (ys : List ℕ) → joined b n ys ≡ n * b ^ length ys + joined b 0 ys
joined_behind b n [] = let e : n ≡ n * b ^ 0 + 0 = rw (pow-zero b) (omega arith) in e
joined_behind b n (y ∷ ys) = rw (joined_behind b (b * n + y) ys, joined_behind b (b * 0 + y) ys, pow-suc b (length ys)) (omega arith)

pub joined_zeros : (b n k : ℕ) → joined b n (replicate k 0) ≡ n * b ^ k
joined_zeros b n zero = let e : n ≡ n * b ^ 0 = rw (pow-zero b) (omega arith) in e
joined_zeros b n (suc k) = rw (joined_zeros b (b * n + 0) k, pow-suc b k) (omega arith)

pub AllBelow-append : (b : ℕ) (xs ys : List ℕ) → AllBelow b xs → AllBelow b ys → AllBelow b (xs ++ ys)
AllBelow-append b [] ys h k = k
AllBelow-append b (x ∷ xs) ys h k = (h.0, AllBelow-append b xs ys h.1 k)

pub AllBelow-replicate : (b k : ℕ) → 0 < b → AllBelow b (replicate k 0)
AllBelow-replicate b zero h = tt
AllBelow-replicate b (suc k) h = (h, AllBelow-replicate b k h)

-- a number of so many digits
pub joined-lt : (b n : ℕ) (xs : List ℕ) → AllBelow b xs → joined b n xs < (n + 1) * b ^ length xs
joined-lt b n [] h = let e : n < (n + 1) * b ^ 0 = rw (pow-zero b) (omega arith) in e
joined-lt b n (x ∷ xs) h =
    let later = joined-lt b (b * n + x) xs h.1 in
    let step : b * n + x + 1 ≤ (n + 1) * b = omega (arith, h.0) in
    let scaled = mul-le-mul_right (b ^ length xs) step in
    rw (pow-suc b (length xs)) (omega arith)

-- values that were made are there
pub made_some : (o : Option (List ℕ)) (n count : ℕ) → made 0 0 o ≡ Some (n, count) → (values : List ℕ) × (o ≡ Some values) × (n ≡ joined 65536 0 values) × (count ≡ length values) × (count ≤ 8)
made_some None n count h = cc
made_some (Some values) n count h =
    elim (cases_lt 8 (0 + length values)) [
      | inl more ↦ let none = rw (lt-leb (0 + length values) 8 more) at h in cc
      | inr few ↦
          let same = rw (le-leb (0 + length values) 8 few) at h in
          let pair = same_Some _ _ same in
          let all : 0 + length values ≡ count = ap (λ p. p.1) pair in
          (values, refl, ap (λ p. p.0) (sym pair), omega arith, omega arith)
    ]

filled_none : (front back : List ℕ) → 7 < length front + length back → filled front back ≡ None
filled_none front back many = rw (lt-leb (length front + length back) 7 many) refl

filled_from_none : (front back : List ℕ) → 7 < length front + length back → ipv6_from (filled_between (Some front) (Some back)) ≡ None
filled_from_none front back many = ap ipv6_from (filled_none front back many)

-- where none were made, there are none or too many
made_none : (values : List ℕ) → made 0 0 (Some values) ≡ None → 8 < length values
made_none values h =
    elim (cases_lt 8 (0 + length values)) [
      | inl more ↦ omega arith
      | inr few ↦ let some = rw (le-leb (0 + length values) 8 few) at h in cc
    ]

-- no address is made where a side is none
pub around_none-front : (front back : Option (List ℕ)) → made 0 0 front ≡ None → ipv6_from (filled_between front back) ≡ None
around_none-front None back h = refl
around_none-front (Some front) None h = refl
around_none-front (Some front) (Some back) h = let many = made_none front h in filled_from_none front back (omega arith)

pub around_none-back : (front back : Option (List ℕ)) → made 0 0 back ≡ None → ipv6_from (filled_between front back) ≡ None
around_none-back None back h = refl
around_none-back (Some front) None h = refl
around_none-back (Some front) (Some back) h = let many = made_none back h in filled_from_none front back (omega arith)

-- nor where there are too many groups
pub around_many : (front back : Option (List ℕ)) (h a l b : ℕ) → made 0 0 front ≡ Some (h, a) → made 0 0 back ≡ Some (l, b) → 7 < a + b → ipv6_from (filled_between front back) ≡ None
around_many front back h a l b f g many =
    let (fs, front_is, _, a_is, _) = made_some front h a f in
    let (bs, back_is, _, b_is, _) = made_some back l b g in
    rw (front_is, back_is) (filled_from_none fs bs (omega arith))

-- the number of the groups with zeros between them
joined-filled : (front back : List ℕ) → AllBelow 65536 front → AllBelow 65536 back → length front + length back ≤ 7 →
    (joined 65536 0 (front ++ replicate (8 - (length front + length back)) 0 ++ back) ≡ joined 65536 0 front * 65536 ^ (8 - length front) + joined 65536 0 back)
    × (joined 65536 0 (front ++ replicate (8 - (length front + length back)) 0 ++ back) < 2 ^ 128)
    × (length (front ++ replicate (8 - (length front + length back)) 0 ++ back) ≡ 8)
joined-filled front back f g few =
    let zeros = 8 - (length front + length back) in
    let filling : List ℕ = replicate zeros 0 in
    let all : length ((front ++ filling) ++ back) ≡ 8 = omega (arith, length-append (front ++ filling) back, length-append front filling, length-replicate {A = ℕ} zeros 0) in
    let below = joined-lt 65536 0 ((front ++ filling) ++ back) (AllBelow-append 65536 (front ++ filling) back (AllBelow-append 65536 front filling f (AllBelow-replicate 65536 zeros (lit≤ tt))) g) in
    let split : 8 - length front ≡ zeros + length back = omega arith in
    let number : joined 65536 0 ((front ++ filling) ++ back) ≡ joined 65536 0 front * 65536 ^ (8 - length front) + joined 65536 0 back =
    rw (joined-append 65536 0 (front ++ filling) back, joined-append 65536 0 front filling, joined_zeros 65536 (joined 65536 0 front) zeros, joined_behind 65536 (joined 65536 0 front * 65536 ^ zeros) back, split, pow-add 65536 zeros (length back)) (omega arith) in
    (number, (let small = rw all at below in omega arith), all)

-- the groups of a side are below their base
pub AllBelow-groups_of : (text values : List ℕ) → groups_of text ≡ Some values → AllBelow 65536 values
AllBelow-groups_of text values h = (AllBelow-each_of 65536 (hex_within 1 4) (λ part n e. hex_within-lt 1 4 part n e) (parts_at 58 text) values h).0

pub AllBelow-side_of : (text values : List ℕ) → side_of text ≡ Some values → AllBelow 65536 values
AllBelow-side_of [] values h = let none : [] ≡ values = cc in subst (AllBelow 65536) none tt
AllBelow-side_of (b ∷ bs) values h = AllBelow-groups_of (b ∷ bs) values h

-- no bit is lost in a shift to the front
around_value : (h a l : ℕ) → a ≤ 7 → h * 65536 ^ (8 - a) + l < 2 ^ 128 → h * 2 ^ (16 * (7 - a)) % 340282366920938463463374607431768211456 * 65536 % 340282366920938463463374607431768211456 + l ≡ h * 65536 ^ (8 - a) + l
around_value h a l few small =
    let p = h * 65536 ^ (7 - a) in
    let next : 8 - a ≡ suc (7 - a) = omega arith in
    let all : h * 65536 ^ (8 - a) ≡ p * 65536 = rw (next, pow-suc 65536 (7 - a)) (omega arith) in
    let fits : p * 65536 < 340282366920938463463374607431768211456 = omega arith in
    let fits' : p < 340282366920938463463374607431768211456 = omega arith in
    rw (shifts (7 - a), mod-eq_of_lt fits', mod-eq_of_lt fits, all) refl

-- the address with these sides
around_lists : (front back : Option (List ℕ)) (fs bs : List ℕ) (h a l : ℕ) → front ≡ Some fs → back ≡ Some bs → AllBelow 65536 fs → AllBelow 65536 bs → h ≡ joined 65536 0 fs → a ≡ length fs → l ≡ joined 65536 0 bs → length fs + length bs ≤ 7 →
    (h * 2 ^ (16 * (7 - a)) % 340282366920938463463374607431768211456 * 65536 % 340282366920938463463374607431768211456 + l < 340282366920938463463374607431768211456)
    × (ipv6_from (filled_between front back) ≡ Some (record { family = V6; bits = h * 2 ^ (16 * (7 - a)) % 340282366920938463463374607431768211456 * 65536 % 340282366920938463463374607431768211456 + l }))
around_lists front back fs bs h a l front_is back_is f g h_is a_is l_is few =
    let all = joined-filled fs bs f g few in
    let value : joined 65536 0 fs * 65536 ^ (8 - length fs) + joined 65536 0 bs < 2 ^ 128 = rw (← all.0) all.1 in
    let same = around_value (joined 65536 0 fs) (length fs) (joined 65536 0 bs) (omega arith) value in
    rw (h_is, a_is, l_is, front_is, back_is, le-leb (length fs + length bs) 7 few, all.2, same) (value, ap (λ bits. Some (record { family = V6; bits = bits })) all.0)

pub around_some : (front back : List ℕ) (h a l b : ℕ) → made 0 0 (side_of front) ≡ Some (h, a) → made 0 0 (side_of back) ≡ Some (l, b) → a + b ≤ 7 →
    (h * 2 ^ (16 * (7 - a)) % 340282366920938463463374607431768211456 * 65536 % 340282366920938463463374607431768211456 + l < 340282366920938463463374607431768211456)
    × (ipv6_from (filled_between (side_of front) (side_of back)) ≡ Some (record { family = V6; bits = h * 2 ^ (16 * (7 - a)) % 340282366920938463463374607431768211456 * 65536 % 340282366920938463463374607431768211456 + l }))
around_some front back h a l b f g few =
    let (fs, front_is, h_is, a_is, _) = made_some (side_of front) h a f in
    let (bs, back_is, l_is, b_is, _) = made_some (side_of back) l b g in
    let few' : length fs + length bs ≤ 7 = omega arith in
    around_lists (side_of front) (side_of back) fs bs h a l front_is back_is (AllBelow-side_of front fs front_is) (AllBelow-side_of back bs back_is) h_is a_is l_is few'

pub made_few : (o : Option (List ℕ)) (n count : ℕ) → made 0 0 o ≡ Some (n, count) → count ≤ 8
made_few o n count h = (made_some o n count h).4
