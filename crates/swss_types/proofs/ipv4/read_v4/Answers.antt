use Rattle.std.proofs.Common.{◌≡◌, true, Some, is_some, rules, sym, ap, ◌∙◌}
use Rattle.swss_types.specs.Ip.{ipv4_from}
use Rattle.swss_types.specs.Ipv4.{bytes_left, bytes_of}
use Rattle.swss_types.specs.Parts.{with_value}
use Rattle.swss_types.proofs.Ipv4Bytes.{ipv4_from_five}
use Rattle.swss_types.proofs.ipv4.read_v4.Goals as goal

pub returns-then-is_some : goal.returns-then-is_some
returns-then-is_some c =
    let all : bytes_of c.args.text.now ≡ with_value (Some c.in_ok-first.first) (with_value (Some c.in_ok-second.second) (with_value (Some c.in_ok-third.third) (with_value (Some c.in_ok-fourth.fourth) (bytes_left c.in_ok-fourth.behind)))) = search rules in
    let more : is_some c.in_ok-fourth.behind ≡ true = search rules in
    sym (ap ipv4_from all ∙ ipv4_from_five c.in_ok-first.first c.in_ok-second.second c.in_ok-third.third c.in_ok-fourth.fourth c.in_ok-fourth.behind more)
