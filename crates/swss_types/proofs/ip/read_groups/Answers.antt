use Rattle.std.proofs.Common.{◌<◌, arith}
use Rattle.swss_types.proofs.Addresses.{part_fits}
use Rattle.swss_types.proofs.ip.read_groups.Goals as goal

pub overflow_mul-bits : goal.overflow_mul-bits
overflow_mul-bits c =
    let few : c.loop-left.count < 8 = omega arith in
    let fits = part_fits c.loop-left.bits c.loop-left.count c.in_ok-value.value c.loop-left.invariant.2 few c.in_ok-value.ensures.small in
    omega arith

pub overflow_add-bits : goal.overflow_add-bits
overflow_add-bits c =
    let few : c.loop-left.count < 8 = omega arith in
    let fits = part_fits c.loop-left.bits c.loop-left.count c.in_ok-value.value c.loop-left.invariant.2 few c.in_ok-value.ensures.small in
    rw c.from.ensures (omega arith)
