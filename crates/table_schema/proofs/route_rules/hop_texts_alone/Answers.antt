use Rattle.std.proofs.Common.{codes, sym, ◌∙◌, ap₂, bytes_eq}
use Rattle.table_schema.proofs.TwoPairs.{two_named}
use Rattle.table_schema.proofs.route_rules.hop_texts_alone.Goals as goal

pub returns-then-eq-2 : goal.returns-then-eq-2
returns-then-eq-2 c =
    let first = ap₂ bytes_eq (sym c.bytes.ensures.value) (sym c.as_slice.ensures) ∙ sym c.if-eq.ensures in
    let second = ap₂ bytes_eq (sym c.bytes-then-eq.ensures.value) (sym c.as_slice-then-eq.ensures) ∙ sym c.if-eq-2.ensures in
    sym c.in_ok-listed.ensures ∙ two_named c.in_ok-listed.field-0.now c.first-item.result c.second-item.result (codes "ifname") (codes "nexthop") c.first-item.is c.second-item.is c.in-len2.len_at_least c.in-len2.len_below first second
