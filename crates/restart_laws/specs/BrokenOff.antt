-- Applies that are broken off one after the other, told by the marks of a log. Own.
use Rattle.std.specs.Prelude.{◌≡◌, ◌⊎◌, ℕ, ◌≤◌, List, [], ◌∷◌, ◌++◌}
use Rattle.swss_types.specs.Address.{IsProperIp}
use Rattle.swss_types.specs.declared.vrf.Packet.{Packet}
use Rattle.table_schema.specs.Plan.{Ports}
use Rattle.table_schema.specs.declared.write.Sent.{Sent}
use Rattle.sai_types.specs.declared.body.Call.{Call}
use Rattle.sai_types.specs.declared.ids.Rid.{Rid}
use Rattle.sai_types.specs.declared.plan.Mode.{Mode}
use Rattle.sai_types.specs.declared.plan.Mode.TheVariants.{Hitless}
use Rattle.sai_types.specs.declared.thing.Thing.{Thing}
use Rattle.sai_types.specs.Alike.{IsIn}
use Rattle.sai_types.specs.Forwarding.{Decision, Forwarding, decide, forward}
use Rattle.switch_model.specs.Desired.{IsThingOf}
use Rattle.switch_model.specs.Marks.{Waiting}
use Rattle.switch_model.specs.Promises.{applied_at}
use Rattle.switch_model.specs.Steady.{things_after}
use Rattle.switch_model.specs.declared.mark.Mark.{Mark}
use Rattle.switch_model.specs.declared.mark.MarkEvent.{MarkEvent}
use Rattle.switch_model.specs.declared.mark.MarkEvent.TheVariants as event
use Rattle.plan_laws.specs.Views.{HaveOwnNames}
use Rattle.restart_laws.specs.Applied.{until_next}

-- a hitless apply begins, or a fault or a restart breaks one off
abbrev pub IsOfBroken : MarkEvent → Type 0
IsOfBroken (event.ApplyBegan mode waits) = mode ≡ Hitless
IsOfBroken (event.Faulted before after) = Unit {0}
IsOfBroken event.Restarted = Unit {0}
IsOfBroken _ = ⊥

abbrev pub AreOfBroken : List Mark → Type 0
AreOfBroken [] = Unit {0}
AreOfBroken (mark ∷ marks) = IsOfBroken mark.event × AreOfBroken marks

-- an apply begins at one of the marks, and these are the things of the rows that are applied at it
pub record IsViewAt (plan : Ports) (taken : List Sent) (marks : List Mark) (mark : Mark) (view : List Thing) : Type 0 where
  pub one : IsIn mark marks
  pub mode : Mode
  pub waits : Waiting
  pub began : mark.event ≡ event.ApplyBegan mode waits
  pub into : (t : Thing) → IsThingOf plan (applied_at plan taken mark waits) t → IsIn t view
  pub back : (t : Thing) → IsIn t view → IsThingOf plan (applied_at plan taken mark waits) t
  pub apart : HaveOwnNames view

-- the view of one of the marks, with at most so many effects, decides the address so
pub record IsDecidedByView (plan : Ports) (taken : List Sent) (marks : List Mark) (k : ℕ) (a : Packet) (d : Decision) : Type 0 where
  pub mark : Mark
  pub view : List Thing
  pub of : IsViewAt plan taken marks mark view
  pub least : mark.effects ≤ k
  pub decides : decide view a ≡ d

-- over marks of hitless applies that are broken off one after the other, by faults and restarts, each address is decided after every effect as by what stood at the first of them, or as by the view of one that had begun by then; and what stood at first and all their views forward in one way is forwarded so, up to the next other mark or the end
pub record AreSteadyOverBreaks (plan : Ports) (taken : List Sent) (effects : List (Call Rid)) (marks : List Mark) : Type 0 where
  pub decided : (front ms behind : List Mark) (m : Mark) (a : Packet) (k : ℕ) → marks ≡ front ++ ((m ∷ ms) ++ behind) → AreOfBroken (m ∷ ms) → IsProperIp a.to → m.effects ≤ k → k ≤ until_next behind effects → (decide (things_after effects k) a ≡ decide (things_after effects m.effects) a) ⊎ IsDecidedByView plan taken (m ∷ ms) k a (decide (things_after effects k) a)
  pub forwarded : (front ms behind : List Mark) (m : Mark) (a : Packet) (f : Forwarding) (k : ℕ) → marks ≡ front ++ ((m ∷ ms) ++ behind) → AreOfBroken (m ∷ ms) → IsProperIp a.to → forward (things_after effects m.effects) a ≡ f → ((mark : Mark) (view : List Thing) → IsViewAt plan taken (m ∷ ms) mark view → forward view a ≡ f) → m.effects ≤ k → k ≤ until_next behind effects → forward (things_after effects k) a ≡ f
