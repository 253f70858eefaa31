use Rattle.std.proofs.Common.{◌≡◌, ◌++◌, ◌∷◌, [], sym, ap, ◌∙◌, rules}
use Rattle.table_schema.specs.Fields.{taken_back}
use Rattle.table_schema.proofs.TakenBack.{taken_back-last}
use Rattle.table_schema.proofs.own_fields.OwnFields.take_back.Goals as goal

pub loop-name-preserved : goal.loop-name-preserved
loop-name-preserved c =
    let last : c.loop-name.laid.items ≡ c.pop.new.self.items ++ (c.in-Some.name, c.in-Some.was) ∷ [] = search rules in
    ap (λ s. taken_back s c.pop.new.self.items) c.restore.ensures ∙ sym (taken_back-last c.loop-name.self c.pop.new.self.items (c.in-Some.name, c.in-Some.was)) ∙ ap (taken_back c.loop-name.self) (sym last) ∙ c.loop-name.invariant
