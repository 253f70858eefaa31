use Rattle.std.proofs.Common.{ap, ◌∙◌}
use Rattle.std.specs.BTreeSet.{insert_key}
use Rattle.swss_types.specs.AddressOrder.{prefix_cmp}
use Rattle.lpm_table.specs.Parts.{whole}
use Rattle.lpm_table.specs.Trees.{members}
use Rattle.lpm_table.proofs.Families.{fours_put, put_four, put_six, sixes_put}
use Rattle.lpm_table.proofs.Steps.{ok_weaker}
use Rattle.lpm_table.proofs.lpm.Lpm.put.Goals as goal

pub invariant_of-self : goal.invariant_of-self
invariant_of-self c = fours_put (members c.self.inside.fours) (members c.self.inside.sixes) c.self.invariant (whole c.of-parts.result) c.in-V4.is c.put.result (members c.put.new.link) c.put.ensures.ok c.put.ensures.err

pub returns-in-V4-clause-ok : goal.returns-in-V4-clause-ok
returns-in-V4-clause-ok c = ok_weaker c.put.result (λ e. put_four (members c.self.inside.fours) (members c.self.inside.sixes) c.self.invariant (whole c.of-parts.result) c.in-V4.is (members c.put.new.link) e ∙ ap (λ l. insert_key prefix_cmp l (whole c.of-parts.result)) c.self.view_is ∙ ap (insert_key prefix_cmp c.args.self.now) c.of-parts.ensures.same) c.put.ensures.ok

pub invariant_of-self-in-V6 : goal.invariant_of-self-in-V6
invariant_of-self-in-V6 c = sixes_put (members c.self.inside.fours) (members c.self.inside.sixes) c.self.invariant (whole c.of-parts.result) c.in-V6.is c.put-in-V6.result (members c.put-in-V6.new.link) c.put-in-V6.ensures.ok c.put-in-V6.ensures.err

pub returns-in-V6-clause-ok : goal.returns-in-V6-clause-ok
returns-in-V6-clause-ok c = ok_weaker c.put-in-V6.result (λ e. put_six (members c.self.inside.fours) (members c.self.inside.sixes) c.self.invariant (whole c.of-parts.result) c.in-V6.is (members c.put-in-V6.new.link) e ∙ ap (λ l. insert_key prefix_cmp l (whole c.of-parts.result)) c.self.view_is ∙ ap (insert_key prefix_cmp c.args.self.now) c.of-parts.ensures.same) c.put-in-V6.ensures.ok
