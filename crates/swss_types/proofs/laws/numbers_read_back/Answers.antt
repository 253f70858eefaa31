use Rattle.std.proofs.Common.{◌<◌, ◌^◌}
use Rattle.std.specs.Fmt.{decimal}
use Rattle.swss_types.specs.Number.{number_of}
use Rattle.swss_types.proofs.Decimals.{number_of-decimal, decimal-number_of}
use Rattle.swss_types.proofs.WrittenOnce.{IsWrittenOnce-from_back}
use Rattle.swss_types.proofs.laws.numbers_read_back.Goals as goal

pub returns-clause-back : goal.returns-clause-back
returns-clause-back c = number_of-decimal

pub returns-clause-once : goal.returns-clause-once
returns-clause-once c = IsWrittenOnce-from_back (λ n. n < 2 ^ 64) decimal number_of number_of-decimal

pub returns-clause-only : goal.returns-clause-only
returns-clause-only c = λ text n small h. decimal-number_of n text small h
