use Rattle.std.proofs.Common.{◌≡◌, true, Some, ◌∙◌, sym, ap, subst}
use Rattle.std.specs.BTreeMap.{is_at}
use Rattle.std.specs.Map.{lookup}
use Rattle.std.specs.Option.{is_some}
use Rattle.sai_types.specs.declared.body.Body.TheVariants as body
use Rattle.sai_types.specs.declared.body.Entry.TheVariants as entry
use Rattle.sai_types.specs.Made.{HaveOneEach}
use Rattle.sai_types.specs.Named.{hop_on}
use Rattle.sai_types.specs.Objects.{body_at}
use Rattle.sai_chip.specs.Tally.{neighbor_cmp}
use Rattle.sai_chip.proofs.Changed.{at-neighbor}
use Rattle.sai_chip.proofs.Nearby.{mac-held, mapped_some}
use Rattle.sai_chip.proofs.bodies.Bodies.mac.Goals as goal

pub returns : goal.returns
returns c = λ hop named.
    let one = subst HaveOneEach (sym c.self.view_is) c.requires.one in
    let is = subst (λ objects. hop_on objects c.args.rif c.args.ip ≡ Some hop) (sym c.self.view_is) named in
    let stands = subst (λ objects. is_some (body_at objects (entry.Neigh c.args.rif c.args.ip)) ≡ true) (sym c.self.view_is) c.requires.stands in
    let there : is_some (lookup (is_at (neighbor_cmp (c.args.rif, c.args.ip))) c.self.inside.neighbors.entries) ≡ true =
    sym (mapped_some (body.Neighbor c.args.rif c.args.ip) (lookup (is_at (neighbor_cmp (c.args.rif, c.args.ip))) c.self.inside.neighbors.entries)) ∙ ap is_some (sym (at-neighbor c.self.inside.numbered c.self.inside.own.keys c.self.inside.neighbors.entries c.self.inside.routes c.args.rif c.args.ip)) ∙ stands in
    rw (← c.self.view_is) (c.copied.ensures ∙ c.get.ensures.value ∙ mac-held c.self.inside.numbered c.self.inside.own.keys c.self.inside.neighbors.entries c.self.inside.routes c.self.invariant.with_ids one c.args.rif c.args.ip hop is there)
