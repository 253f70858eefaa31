-- a replay that follows effects
use Rattle.std.proofs.Common.{List, ◌++◌, arith}
use Rattle.std.proofs.lemmas.List.{length-append}
use Rattle.sai_types.specs.declared.ids.Rid.{Rid}
use Rattle.sai_types.specs.declared.body.Call.{Call}
use Rattle.sai_chip.specs.Replay.{Replayed, IsReplayOf, new_replay}
use Rattle.sai_chip.proofs.Remades.{IsRemadeOf-append, IsRemadeOf-new}

-- nothing followed, of whatever effects
pub IsReplayOf-new : (effects : List (Call Rid)) → IsReplayOf new_replay effects
IsReplayOf-new effects = record { at = omega arith; behind = omega arith; remade = IsRemadeOf-new effects }

-- what was followed of some effects was followed of these with more behind them
pub IsReplayOf-append : (r : Replayed) (effects more : List (Call Rid)) → IsReplayOf r effects → IsReplayOf r (effects ++ more)
IsReplayOf-append r effects more is = record {
  at = omega (arith, is.at, length-append effects more);
  behind = is.behind;
  remade = IsRemadeOf-append r.remade effects more is.remade;
}
