-- When a worker goes on. Own.
use Rattle.std.specs.Prelude.{ℕ, Bool, true, false, nat_lt, Result, Ok, Err}
use Rattle.swss_types.specs.declared.out_of_memory.OutOfMemory.{OutOfMemory}
use Rattle.round_actors.specs.declared.answers.Step.{Step}
use Rattle.round_actors.specs.declared.answers.Step.TheVariants.{Did, Idle, Suspect, Faulted, LogFull}

-- behind a step with this answer, where so many of the producers have ended: something was done, or there was nothing to do and some
-- producer has not ended
abbrev pub goes_on_behind : Result Step OutOfMemory → ℕ → ℕ → Bool
goes_on_behind (Ok Did) ended producers = true
goes_on_behind (Ok Idle) ended producers = nat_lt ended producers
goes_on_behind (Ok Suspect) ended producers = false
goes_on_behind (Ok Faulted) ended producers = false
goes_on_behind (Ok LogFull) ended producers = false
goes_on_behind (Err e) ended producers = false
