use Rattle.std.proofs.Common.{Some, ap, ◌∙◌}
use Rattle.std.specs.BTreeMap.{insert_entry}
use Rattle.sai_types.specs.Hop.{hop_cmp}
use Rattle.sai_chip.specs.Forward.{ways_in, weight_beside}
use Rattle.sai_chip.proofs.Sending.{ways_in-more}
use Rattle.sai_chip.proofs.forwarding.add_way.Goals as goal

pub returns : goal.returns
returns c =
    let macs = c.in-Some-Some.macs.entries in
    let whop = c.in-Some-Some.whop in
    let mac = c.in-Some-Some.mac in
    rw (c.in-Some-Some.is-0, c.in-Some-Some.is-1) (ap Some
    (ap ways_in c.in_ok-insert.ensures.entries
    ∙ ap (λ n. ways_in (insert_entry hop_cmp macs whop.hop (n, mac))) (c.weight_beside-weight.ensures ∙ ap (λ o. weight_beside o whop.weight) c.get.ensures.value)
    ∙ ways_in-more whop mac macs c.in_ok-insert.ensures.was_ordered))
