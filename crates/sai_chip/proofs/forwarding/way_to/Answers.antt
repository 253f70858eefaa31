use Rattle.std.proofs.Common.{◌≡◌, Some, ap, sym, ◌∙◌}
use Rattle.sai_types.specs.declared.body.Body.TheVariants as body
use Rattle.sai_types.specs.declared.body.Entry.TheVariants as entry
use Rattle.sai_types.specs.Objects.{body_at}
use Rattle.sai_chip.proofs.Sending.{through-stands}
use Rattle.sai_chip.proofs.forwarding.way_to.Goals as goal

pub way_by-requires-clause-stands : goal.way_by-requires-clause-stands
way_by-requires-clause-stands c =
    let found : body_at c.args.held.now (entry.Oid c.args.next_hop.0) ≡ Some (body.NextHop c.in-Some-NextHop.rif c.in-Some-NextHop.ip) =
    ap (λ o. body_at o (entry.Oid c.args.next_hop.0)) (sym c.bodies.ensures) ∙ sym c.in-Some-NextHop.ensures ∙ ap Some c.in-Some-NextHop.field-0-is in
    through-stands c.args.held.now c.in-Some-NextHop.rif c.in-Some-NextHop.ip (c.requires.refer.each (entry.Oid c.args.next_hop.0) (body.NextHop c.in-Some-NextHop.rif c.in-Some-NextHop.ip) found)
