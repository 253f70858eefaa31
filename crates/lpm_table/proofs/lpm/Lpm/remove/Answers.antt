use Rattle.std.proofs.Common.{ap, ◌∙◌}
use Rattle.std.specs.List.{list_any}
use Rattle.std.specs.Set.{remove_key}
use Rattle.lpm_table.specs.Parts.{whole}
use Rattle.lpm_table.specs.Trees.{members}
use Rattle.lpm_table.proofs.Families.{fours_removed, held_four, held_six, remove_four, remove_six, sixes_removed}
use Rattle.lpm_table.proofs.Nodes.{finds}
use Rattle.lpm_table.proofs.lpm.Lpm.remove.Goals as goal

pub invariant_of-self : goal.invariant_of-self
invariant_of-self c = fours_removed (members c.self.inside.fours) (members c.self.inside.sixes) c.self.invariant (whole c.of-parts.result) c.in-V4.is (members c.remove.new.link) c.remove.ensures.removed

pub returns-in-V4-clause-removed : goal.returns-in-V4-clause-removed
returns-in-V4-clause-removed c = remove_four (members c.self.inside.fours) (members c.self.inside.sixes) c.self.invariant (whole c.of-parts.result) c.in-V4.is (members c.remove.new.link) c.remove.ensures.removed ∙ ap (remove_key (finds (whole c.of-parts.result))) c.self.view_is ∙ ap (λ q. remove_key (finds q) c.args.self.now) c.of-parts.ensures.same

pub returns-in-V4-clause-held : goal.returns-in-V4-clause-held
returns-in-V4-clause-held c = held_four (members c.self.inside.fours) (members c.self.inside.sixes) c.self.invariant (whole c.of-parts.result) c.in-V4.is c.remove.result c.remove.ensures.held ∙ ap (list_any (finds (whole c.of-parts.result))) c.self.view_is ∙ ap (λ q. list_any (finds q) c.args.self.now) c.of-parts.ensures.same

pub invariant_of-self-in-V6 : goal.invariant_of-self-in-V6
invariant_of-self-in-V6 c = sixes_removed (members c.self.inside.fours) (members c.self.inside.sixes) c.self.invariant (whole c.of-parts.result) c.in-V6.is (members c.remove-in-V6.new.link) c.remove-in-V6.ensures.removed

pub returns-in-V6-clause-removed : goal.returns-in-V6-clause-removed
returns-in-V6-clause-removed c = remove_six (members c.self.inside.fours) (members c.self.inside.sixes) c.self.invariant (whole c.of-parts.result) c.in-V6.is (members c.remove-in-V6.new.link) c.remove-in-V6.ensures.removed ∙ ap (remove_key (finds (whole c.of-parts.result))) c.self.view_is ∙ ap (λ q. remove_key (finds q) c.args.self.now) c.of-parts.ensures.same

pub returns-in-V6-clause-held : goal.returns-in-V6-clause-held
returns-in-V6-clause-held c = held_six (members c.self.inside.fours) (members c.self.inside.sixes) c.self.invariant (whole c.of-parts.result) c.in-V6.is c.remove-in-V6.result c.remove-in-V6.ensures.held ∙ ap (list_any (finds (whole c.of-parts.result))) c.self.view_is ∙ ap (λ q. list_any (finds q) c.args.self.now) c.of-parts.ensures.same
