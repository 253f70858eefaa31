use Rattle.std.proofs.Common.{◌≡◌, ◌+◌, ◌*◌, Some, ◌∙◌, rules, sym, arith}
use Rattle.swss_types.specs.Ipv4.{split_digit}
use Rattle.swss_types.specs.Parts.{parts_at}
use Rattle.swss_types.proofs.Ipv4Bytes.{bytes_behind_past, bytes_behind_three, bytes_of_three}
use Rattle.swss_types.proofs.ipv4.read_digits.Goals as goal

pub returns-then-value-gt255-clause-value : goal.returns-then-value-gt255-clause-value
returns-then-value-gt255-clause-value c =
    let first : split_digit c.args.text.now ≡ Some (c.in_ok-first.first, c.in_ok-first.rest.now) = search rules in
    let second : split_digit c.in_ok-first.rest.now ≡ Some (c.in-Some.second, c.in-Some.rest.now) = search rules in
    let third : split_digit c.in-Some.rest.now ≡ Some (c.in-Some-split_digit.third, c.in-Some-split_digit.rest.now) = search rules in
    let value = 10 * (10 * c.in_ok-first.first + c.in-Some.second) + c.in-Some-split_digit.third in
    sym (bytes_of_three c.args.text.now _ _ _ _ _ _ first second third c.if-first-eq0.false ∙ bytes_behind_past value (parts_at 46 c.in-Some-split_digit.rest.now) (omega arith))

pub returns-clause-value : goal.returns-clause-value
returns-clause-value c =
    let first : split_digit c.args.text.now ≡ Some (c.in_ok-first.first, c.in_ok-first.rest.now) = search rules in
    let second : split_digit c.in_ok-first.rest.now ≡ Some (c.in-Some.second, c.in-Some.rest.now) = search rules in
    let third : split_digit c.in-Some.rest.now ≡ Some (c.in-Some-split_digit.third, c.in-Some-split_digit.rest.now) = search rules in
    let value = 10 * (10 * c.in_ok-first.first + c.in-Some.second) + c.in-Some-split_digit.third in
    sym (bytes_of_three c.args.text.now _ _ _ _ _ _ first second third c.if-first-eq0.false ∙ bytes_behind_three value c.in-Some-split_digit.rest.now (omega arith) (omega arith))
