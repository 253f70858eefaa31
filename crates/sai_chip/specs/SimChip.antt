-- What holds of the counts of a simulated chip. Own.
use Rattle.std.specs.Prelude.{◌≡◌, ℕ, ◌+◌, ◌-◌, ◌≤◌, ◌==◌, nat_lt, Bool, true, List, Option, None, count_by, slice_get, if◌then◌else◌}
use Rattle.sai_types.specs.declared.ids.Rid.{Rid}
use Rattle.sai_types.specs.declared.body.Call.{Call}
use Rattle.sai_types.specs.declared.body.Call.TheVariants as call
use Rattle.sai_types.specs.declared.fail.Fail.{Fail}
use Rattle.sai_types.specs.After.{makes_id}
use Rattle.sai_types.specs.Made.{HaveLanes, IsWhole, has_first}
use Rattle.sai_types.specs.Objects.{Objects}

-- how many of the failing calls have a number up to this one
abbrev pub failing_by : ℕ → List Fail → ℕ
failing_by calls fails = count_by (λ f. nat_lt f.at (calls + 1)) fails

-- so many identifiers were made, the chip failed at no more calls than were made, nor than it was to fail at by then, and its state is one that legal calls make
pub record IsChipInOrder (objects : Objects) (effects : List (Call Rid)) (fails : List Fail) (made faults calls : ℕ) : Type 0 where
  pub identifiers : made ≡ count_by makes_id effects
  pub whole : IsWhole made objects
  pub lanes : HaveLanes objects
  pub failures : faults ≤ calls
  pub named : faults ≤ failing_by calls fails

-- effect k, counted from 1
abbrev pub effect_at : List (Call Rid) → ℕ → Option (Call Rid)
effect_at effects k = if k == 0 then None else slice_get effects (k - 1)

-- whether the port that a call makes has the lane by which it is named
abbrev pub makes_first : Call Rid → Bool
makes_first (call.Create b) = has_first b
makes_first _ = true
