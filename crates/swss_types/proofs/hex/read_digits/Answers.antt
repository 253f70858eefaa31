use Rattle.std.proofs.Common.{◌<◌, arith}
use Rattle.swss_types.proofs.Hexes.{sixteenth_fits, four_fit}
use Rattle.swss_types.proofs.hex.read_digits.Goals as goal

pub overflow_mul-value : goal.overflow_mul-value
overflow_mul-value c = let small = sixteenth_fits c.loop-byte.value c.loop-byte.byte-index c.loop-byte.invariant.1 (omega arith) in omega arith

pub overflow_add-value : goal.overflow_add-value
overflow_add-value c =
    let small = sixteenth_fits c.loop-byte.value c.loop-byte.byte-index c.loop-byte.invariant.1 (omega arith) in
    let digit : c.in_ok-value.field-0 < 16 = omega (arith, c.in_ok-value.ensures.value) in
    omega arith

pub overflow_cast-result : goal.overflow_cast-result
overflow_cast-result c = let small = four_fit c.loop-byte.value c.loop-byte.byte-index c.loop-byte.invariant.1 (omega arith) in omega arith
