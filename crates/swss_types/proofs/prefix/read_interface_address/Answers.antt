use Rattle.std.proofs.Common.{◌≡◌, ◌∷◌, sym, ◌∙◌, ap}
use Rattle.swss_types.specs.Parts.{parts_at}
use Rattle.swss_types.specs.Prefix.{address_in}
use Rattle.swss_types.proofs.Prefixes.{address_in_three, cut_some}
use Rattle.swss_types.proofs.prefix.read_interface_address.Goals as goal

pub returns-in-Some-other-clause-value : goal.returns-in-Some-other-clause-value
returns-in-Some-other-clause-value c =
    let ip = c.cut_at.result.0.now in
    let len = c.cut_at-2.result.0.now in
    let rest = c.in-Some-other.field-0.now in
    let first : parts_at 47 c.args.text.now ≡ ip ∷ parts_at 47 c.in-Some.number.now = cut_some 47 _ ip _ _ c.cut_at.ensures c.in-Some.is in
    let second : parts_at 47 c.in-Some.number.now ≡ len ∷ parts_at 47 rest = cut_some 47 _ len _ _ c.cut_at-2.ensures c.in-Some-other.is in
    sym (ap address_in (first ∙ ap (λ parts. ip ∷ parts) second) ∙ address_in_three ip len rest)
