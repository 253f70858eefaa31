-- A core beside its chip. Own.
use Rattle.std.specs.Prelude.{[]}
use Rattle.sai_types.specs.ChipState.{ChipState, new_chip}
use Rattle.session_laws.specs.Core.{CoreState, new_core}

-- what contracts see of the two
pub record CoreAndChip : Type 0 where
  pub core : CoreState
  pub chip : ChipState

abbrev pub beside : CoreState → ChipState → CoreAndChip
beside core chip = record { core = core; chip = chip }

-- no round's opening
abbrev pub nothing_opened : CoreAndChip
nothing_opened = beside (new_core [] [] 0) (new_chip [] [])
