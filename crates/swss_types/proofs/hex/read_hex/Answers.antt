use Rattle.std.proofs.Common.{arith}
use Rattle.swss_types.proofs.Hexes.{small_for_more}
use Rattle.swss_types.proofs.hex.read_hex.Goals as goal

pub returns-clause-small : goal.returns-clause-small
returns-clause-small c = small_for_more c.read_digits.result _ _ (omega arith) c.read_digits.ensures.small
