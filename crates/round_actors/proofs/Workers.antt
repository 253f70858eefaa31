-- A worker that met a refusal ends.
use Rattle.std.proofs.Common.{◌≡◌, ℕ, false, true≢false, Result, Ok, Err, IsErr, refl, sym, ap}
use Rattle.swss_types.specs.declared.out_of_memory.OutOfMemory.{OutOfMemory}
use Rattle.round_actors.specs.declared.answers.Step.{Step}
use Rattle.round_actors.specs.declared.answers.Step.TheVariants.{LogFull}
use Rattle.round_actors.specs.Workers.{goes_on_behind}

pub ends_full : (answer : Result Step OutOfMemory) (ended producers : ℕ) → answer ≡ Ok LogFull → goes_on_behind answer ended producers ≡ false
ends_full answer ended producers full = ap (λ a. goes_on_behind a ended producers) full

pub ends_unfit : (answer : Result Step OutOfMemory) (ended producers : ℕ) → IsErr answer → goes_on_behind answer ended producers ≡ false
ends_unfit (Ok step) ended producers h = absurd (true≢false (sym h))
ends_unfit (Err e) ended producers h = refl
