use Rattle.std.proofs.Common.{◌≡◌, [], ◌∷◌, ◌++◌, ap, ap₂, ◌∙◌, rules}
use Rattle.std.proofs.lemmas.Cmp.{nat_list_cmp_total}
use Rattle.table_schema.specs.Fields.{by_bytes, taken_back, value_of, with_pair}
use Rattle.table_schema.specs.Held.{pairs_in}
use Rattle.table_schema.proofs.Places.{kept}
use Rattle.table_schema.proofs.TakenBack.{taken_back-put}
use Rattle.table_schema.proofs.own_fields.OwnFields.lay.Goals as goal

pub invariant_of-self-2 : goal.invariant_of-self-2
invariant_of-self-2 c = kept by_bytes nat_list_cmp_total c.lay.result _ _ _ _ c.lay.ensures.ok c.lay.ensures.err c.self.invariant

pub returns-clause-noted : goal.returns-clause-noted
returns-clause-noted c =
    let old = pairs_in c.self.inside.held in
    let laid = c.args.laid.now.items in
    let was : old ≡ c.args.self.now = search rules in
    let put : pairs_in c.lay.new.self ≡ with_pair old c.args.name.now c.args.value.now = search rules in
    let more : c.push.new.self.items ≡ laid ++ (c.args.name, value_of c.args.name.now old) ∷ [] = search rules in
    ap₂ taken_back put more ∙ taken_back-put old laid c.args.name c.args.value.now c.self.invariant ∙ ap (λ s. taken_back s laid) was
