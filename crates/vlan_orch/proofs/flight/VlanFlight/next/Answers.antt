use Rattle.std.proofs.Common.{sym, ap, subst, ◌∙◌}
use Rattle.orch_flight.specs.Calling.{IsNextOf, IsOver}
use Rattle.vlan_orch.specs.Vlans.{subject_operation}
use Rattle.vlan_orch.proofs.flight.VlanFlight.next.Goals as goal

pub returns-in-Vlan : goal.returns-in-Vlan
returns-in-Vlan c = λ plan.
    subst (λ f. IsOver plan f → IsNextOf plan c.args.reg.now f c.vlan_next.result) (sym (ap (subject_operation c.self.inside.worker) c.in-Vlan.is) ∙ c.self.view_is) (c.vlan_next.ensures c.self.inside.worker plan)

pub returns-in-Member : goal.returns-in-Member
returns-in-Member c = λ plan.
    subst (λ f. IsOver plan f → IsNextOf plan c.args.reg.now f c.member_next.result) (sym (ap (subject_operation c.self.inside.worker) c.in-Member.is) ∙ c.self.view_is) (c.member_next.ensures c.self.inside.worker plan)
