-- failing calls by their numbers
use Rattle.std.proofs.Common.{◌≡◌, ℕ, ◌-◌, ◌<◌, ◌≤◌, ◌==◌, suc, Bool, cond, List, ◌∷◌, length, drop, get_or, drop-cons, Some, nat_cmp, sym, ap, ◌∙◌, arith, rules}
use Rattle.std.specs.BTreeMap.{BTreeMap, get, is_at}
use Rattle.sai_types.specs.declared.fail.Fail.{Fail}
use Rattle.sai_chip.specs.Failing.{IsFailIndex, fail_at}

pub is_at-nat_cmp : (a b : ℕ) → is_at (nat_cmp a) b ≡ (a == b)
is_at-nat_cmp a b = search rules

-- one more entry in front
pub IsIndex-cons : (all rest : List Fail) (f : Fail) (old new : BTreeMap ℕ Bool) → all ≡ f ∷ rest → IsFailIndex rest old → ((n : ℕ) → get nat_cmp new n ≡ cond (is_at (nat_cmp f.at) n) (Some f.after) (get nat_cmp old n)) → IsFailIndex all new
IsIndex-cons all rest f old new e index put n =
    let here = is_at-nat_cmp f.at n in
    put n ∙ ap (λ b. cond b (Some f.after) (get nat_cmp old n)) here ∙ ap (λ o. cond (f.at == n) (Some f.after) o) (index n) ∙ ap (λ l. fail_at l n) (sym e)

-- a list from one place further to the front
pub drop-before : (fails : List Fail) (left : ℕ) (d : Fail) → 0 < left → left ≤ length fails → drop (left - 1) fails ≡ get_or fails (left - 1) d ∷ drop left fails
drop-before fails left d some within =
    let next : suc (left - 1) ≡ left = omega arith in
    let inside : left - 1 < length fails = omega arith in
    drop-cons fails (left - 1) d inside ∙ ap (λ k. get_or fails (left - 1) d ∷ drop k fails) next
