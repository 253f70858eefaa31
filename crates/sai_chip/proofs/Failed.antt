-- how many of the failing calls lie behind a chip
use Rattle.std.proofs.Common.{◌≡◌, ℕ, ◌+◌, ◌≤◌, ◌<◌, nat_lt, min, Bool, true, false, List, [], ◌∷◌, None, IsSome, if◌then◌else◌, refl, sym, subst, ◌-◌, ◌^◌, arith}
use Rattle.std.proofs.lemmas.Bool.{ltb-false, ltb-true}
use Rattle.std.proofs.lemmas.Grind.{common_steps}
use Rattle.sai_types.specs.declared.ids.Rid.{Rid}
use Rattle.sai_types.specs.declared.body.Call.{Call}
use Rattle.sai_types.specs.declared.fail.Fail.{Fail}
use Rattle.sai_types.specs.Objects.{Objects}
use Rattle.sai_chip.specs.Failing.{fail_at}
use Rattle.sai_chip.specs.SimChip.{IsChipInOrder, failing_by}

-- one call further at least as many of them do
pub failing-more : (fails : List Fail) (calls : ℕ) → failing_by calls fails ≤ failing_by (calls + 1) fails
failing-more [] calls = omega arith
failing-more (f ∷ fs) calls =
    let more = failing-more fs calls in
    grind (arith, common_steps)

-- and one more where this call is one of them
pub failing-one : (fails : List Fail) (calls : ℕ) → IsSome (fail_at fails (calls + 1)) → failing_by calls fails + 1 ≤ failing_by (calls + 1) fails
failing-one [] calls some = cc
failing-one (f ∷ fs) calls some =
    let more = failing-more fs calls in
    let later = failing-one fs calls in
    grind (arith, common_steps)

-- what holds of the counts holds after one call more
pub counted-order : (objects : Objects) (effects : List (Call Rid)) (fails : List Fail) (made faults calls next more : ℕ) (failed : Bool) → IsChipInOrder objects effects fails made faults calls → calls < 2 ^ 64 → more ≡ (if failed then 1 else 0) → next ≡ min (calls + 1) (2 ^ 64 - 1)
    → (failed ≡ true → IsSome (if nat_lt calls 18446744073709551615 then fail_at fails (calls + 1) else None)) → IsChipInOrder objects effects fails made (faults + more) next
counted-order objects effects fails made faults calls next more failed order small is at some = by (nat_lt calls 18446744073709551615) failed refl is some
  where
    -- one call further
    further : nat_lt calls 18446744073709551615 ≡ true → next ≡ calls + 1
    further below = omega (arith, at, ltb-true calls 18446744073709551615 below)

    by : (b failed : Bool) → nat_lt calls 18446744073709551615 ≡ b → more ≡ (if failed then 1 else 0) → (failed ≡ true → IsSome (if b then fail_at fails (calls + 1) else None)) → IsChipInOrder objects effects fails made (faults + more) next
    by true true below is some = record {
      identifiers = order.identifiers;
      whole = order.whole;
      lanes = order.lanes;
      failures = omega (arith, further below, is, order.failures);
      named = subst (λ n. faults + more ≤ failing_by n fails) (sym (further below)) (omega (arith, is, order.named, failing-one fails calls (some refl)));
    }
    by true false below is some = record {
      identifiers = order.identifiers;
      whole = order.whole;
      lanes = order.lanes;
      failures = omega (arith, further below, is, order.failures);
      named = subst (λ n. faults + more ≤ failing_by n fails) (sym (further below)) (omega (arith, is, order.named, failing-more fails calls));
    }
    by false true past is some = let there = some refl in cc
    by false false past is some =
        let same : next ≡ calls = omega (arith, at, small, ltb-false calls 18446744073709551615 past) in
        record {
          identifiers = order.identifiers;
          whole = order.whole;
          lanes = order.lanes;
          failures = omega (arith, same, is, order.failures);
          named = subst (λ n. faults + more ≤ failing_by n fails) (sym same) (omega (arith, is, order.named));
        }
