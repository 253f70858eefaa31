-- Writes that are taken before a round, in the calling thread. Own.
use Rattle.std.specs.Prelude.{◌≡◌, List, ◌++◌}
use Rattle.table_schema.specs.declared.write.Sent.{Sent}
use Rattle.round_actors.specs.declared.answers.Kept.{Kept}
use Rattle.round_actors.specs.declared.answers.Kept.TheVariants as keeps
use Rattle.swss_service.specs.CoreAndChip.{CoreAndChip}
use Rattle.swss_service.specs.Served.{IsServed, LacksPlaces}

-- these writes were taken, and nothing else was done
pub record HasTaken (new : List Sent) (old now : CoreAndChip) : Type 0 where
  pub served : IsServed 0 old now
  pub chip : now.chip ≡ old.chip
  pub log : now.core.log ≡ record { taken = old.core.log.taken ++ new; marks = old.core.log.marks; ends = old.core.log.ends }

-- the first of these were
pub record HasTakenFront (all : List Sent) (old now : CoreAndChip) : Type 0 where
  pub new : List Sent
  pub left : List Sent
  pub split : all ≡ new ++ left
  pub taken : HasTaken new old now

-- by what refused the next: nothing, and all were taken; the log, which has fewer places left than any event can need; or memory
abbrev pub TakesAhead : List Sent → CoreAndChip → Kept → CoreAndChip → Type 0
TakesAhead all old keeps.Nothing now = HasTaken all old now
TakesAhead all old keeps.LogFull now = HasTakenFront all old now × LacksPlaces now
TakesAhead all old keeps.NoMemory now = HasTakenFront all old now
