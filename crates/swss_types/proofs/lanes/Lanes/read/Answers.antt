use Rattle.std.proofs.Common.{◌≡◌, ◌≤◌, length, Some, [], rules}
use Rattle.swss_types.specs.Lanes.{rising, lanes_in}
use Rattle.swss_types.specs.Parts.{parts_at}
use Rattle.swss_types.proofs.Lists.{IsLaneList-rising}
use Rattle.swss_types.proofs.lanes.Lanes.read.Goals as goal

pub of_list-requires : goal.of_list-requires
of_list-requires c =
    let all : lanes_in (parts_at 44 c.args.text.now) ≡ Some c.in-Some.numbers.items = cc (c.in_ok-numbers.ensures, c.in-Some.is) in
    let lanes : c.in_ok-lanes.lanes.items ≡ rising [] c.in-Some.numbers.items = search rules in
    let same : length c.in_ok-lanes.lanes.items ≡ length c.in-Some.numbers.items = search rules in
    let few : length c.in-Some.numbers.items ≤ 8 = search rules in
    let given : c.as_slice-2.result.now ≡ rising [] c.in-Some.numbers.items = search rules in
    rw given (IsLaneList-rising c.args.text.now c.in-Some.numbers.items all (rw lanes at same) few)
