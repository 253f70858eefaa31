use Rattle.std.proofs.Common.{◌≡◌, ◌<◌, ◌+◌, ◌*◌, ◌-◌, None, get_or, drop, sym, ap, ◌∙◌, arith}
use Rattle.swss_types.specs.Number.{at_most, value_behind}
use Rattle.swss_types.proofs.Numbers.{at_most-value_behind_past, value_behind_more}
use Rattle.sai_record.proofs.words.read_digits.Goals as goal

pub returns-then-value-from : goal.returns-then-value-from
returns-then-value-from c =
    let i = c.loop-byte.byte-index in
    let more = 10 * c.loop-byte.value + (get_or c.args.digits.now i 0 - 48) in
    let past : 18446744073709551615 < more = omega (arith, c.from.ensures, c.from-in-loop-byte.ensures) in
    let gone : at_most 18446744073709551615 (value_behind more (drop (i + 1) c.args.digits.now)) ≡ None = at_most-value_behind_past more 18446744073709551615 (drop (i + 1) c.args.digits.now) past in
    sym (ap (at_most 18446744073709551615) (sym c.loop-byte.invariant.0 ∙ value_behind_more c.loop-byte.value i c.args.digits.now c.loop-byte-test.true (sym c.is_ascii_digit.ensures.value ∙ c.if-not-is_ascii_digit.false))
    ∙ gone)
