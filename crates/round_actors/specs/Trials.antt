-- What cores in memory do. Own.
use Rattle.std.specs.Prelude.{◌≡◌, ℕ, ◌+◌}
use Rattle.round_actors.specs.declared.answers.Step.{Step}
use Rattle.round_actors.specs.declared.answers.Step.TheVariants.{Did, Idle, Suspect, Faulted, LogFull}

-- of so many events that are left one is made, or there is none
abbrev pub MakesOneEvent : ℕ → Step → ℕ → Type 0
MakesOneEvent old Did new = old ≡ new + 1
MakesOneEvent old Idle new = (old ≡ 0) × (new ≡ 0)
MakesOneEvent old Suspect new = ⊥
MakesOneEvent old Faulted new = ⊥
MakesOneEvent old LogFull new = ⊥
