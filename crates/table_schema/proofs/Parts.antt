-- lists of parts that are read part by part
use Rattle.std.proofs.Common.{◌≡◌, ℕ, ◌+◌, ◌<◌, ◌==◌, List, length, ltb, is_some, Option, None, Some, Bor, sym, ap, arith}
use Rattle.std.proofs.lemmas.Bool.{lt-ltb}
use Rattle.std.proofs.lemmas.List.Splits.{length-slice_split}
use Rattle.swss_types.specs.Parts.{IsCutInto, parts_at}

-- how much text is left, and 0 only where there is none
abbrev pub left_len : Option (Bor (List ℕ)) → ℕ
left_len None = 0
left_len (Some text) = length text.now + 1

-- a list has more parts than one where something stands behind the first
pub is_some-cut : (text part : List ℕ) (rest : Option (Bor (List ℕ))) → IsCutInto 44 text part rest → is_some rest ≡ ltb 1 (length (parts_at 44 text))
is_some-cut text part None h = ap (λ parts. ltb 1 (length parts)) (sym h.1)
is_some-cut text part (Some rest) h =
    let some = length-slice_split (λ b. b == 44) rest.now in
    let many : 1 < length (parts_at 44 text) = rw h.1 (omega (arith, some)) in
    sym (lt-ltb 1 (length (parts_at 44 text)) many)
