-- What holds of each apply of a session, told by its log and its effects. Own.
use Rattle.std.specs.Prelude.{◌≡◌, ℕ, ◌+◌, ◌*◌, ◌≤◌, ◌++◌, List, [], ◌∷◌, length, count_by}
use Rattle.table_schema.specs.Plan.{Ports}
use Rattle.table_schema.specs.declared.write.Sent.{Sent}
use Rattle.sai_types.specs.declared.ids.Rid.{Rid}
use Rattle.sai_types.specs.declared.body.Call.{Call}
use Rattle.sai_types.specs.declared.body.Call.TheVariants as call
use Rattle.sai_types.specs.declared.body.Entry.{Entry}
use Rattle.sai_types.specs.declared.kind.Kind.{Kind}
use Rattle.sai_types.specs.declared.plan.Mode.{Mode}
use Rattle.sai_types.specs.declared.plan.Mode.TheVariants.{Hitless}
use Rattle.sai_types.specs.declared.thing.Thing.{Thing}
use Rattle.sai_types.specs.After.{chip_after}
use Rattle.sai_types.specs.Alike.{IsIn}
use Rattle.sai_types.specs.Names.{ThingName, name_of}
use Rattle.switch_model.specs.Desired.{IsThingOf}
use Rattle.switch_model.specs.Good.{TypedRows}
use Rattle.switch_model.specs.Promises.{applied_at}
use Rattle.switch_model.specs.Room.{FitsTogether, HasSameRouters}
use Rattle.switch_model.specs.Steady.{IsSteady, things_after}
use Rattle.switch_model.specs.declared.mark.Mark.{Mark}
use Rattle.switch_model.specs.declared.mark.MarkEvent.{MarkEvent}
use Rattle.switch_model.specs.declared.mark.MarkEvent.TheVariants as event
use Rattle.chip_layout.specs.Counted.{AreDistinct}
use Rattle.plan_laws.specs.Bounds.{IsUnwanted, makes_kind}
use Rattle.plan_laws.specs.Views.{AreLacking, HaveOwnNames}

-- an apply from the one number of effects to the other, where these rows are applied: it is hitless exactly where the chip and their things fit together and their interfaces are in the same routers; a hitless one is steady after each effect, makes of each kind no more than these things have names that the chip did not show, and removes nothing whose name they have, but doubles; and an apply has no more effects than the chip had objects and three for each name of these things
pub record IsSteadyApply (plan : Ports) (capacities : List ℕ) (rows : TypedRows) (effects : List (Call Rid)) (mode : Mode) (from to : ℕ) : Type 0 where
  pub hitless : mode ≡ Hitless → FitsTogether capacities (chip_after effects from) (IsThingOf plan rows)
  pub routers : mode ≡ Hitless → HasSameRouters (chip_after effects from) (IsThingOf plan rows)
  pub fitting : FitsTogether capacities (chip_after effects from) (IsThingOf plan rows) → HasSameRouters (chip_after effects from) (IsThingOf plan rows) → mode ≡ Hitless
  pub view : List Thing
  pub into : (t : Thing) → IsThingOf plan rows t → IsIn t view
  pub back : (t : Thing) → IsIn t view → IsThingOf plan rows t
  pub apart : HaveOwnNames view
  pub steady : mode ≡ Hitless → IsSteady (things_after effects from) view effects from to
  pub front : List (Call Rid)
  pub during : List (Call Rid)
  pub behind : List (Call Rid)
  pub parts : effects ≡ front ++ (during ++ behind)
  pub at : length front ≡ from
  pub long : from + length during ≡ to
  pub made : mode ≡ Hitless → (kind : Kind) → (lacking : List ThingName) × AreLacking (things_after effects from) view kind lacking × (count_by (makes_kind kind) during ≤ length lacking)
  pub kept : mode ≡ Hitless → (e : Entry Rid) → IsIn (call.Remove e) during → IsUnwanted (chip_after effects from) view e
  pub names : List ThingName
  pub distinct : AreDistinct names
  pub of : (k : ThingName) → IsIn k names → (t : Thing) × IsThingOf plan rows t × (name_of t ≡ k)
  pub short : to ≤ from + (length (chip_after effects from) + 3 * length names)

-- up to the next mark, or to the end
abbrev pub until_next : List Mark → List (Call Rid) → ℕ
until_next [] effects = length effects
until_next (mark ∷ marks) effects = mark.effects

-- what holds of the effects from a mark to this number of them: of an apply that begins at it as above; and none is behind a fault or a restart
abbrev pub IsFollowed : Ports → List ℕ → List Sent → List (Call Rid) → Mark → MarkEvent → ℕ → Type 0
IsFollowed plan capacities taken effects mark (event.ApplyBegan mode waits) to = IsSteadyApply plan capacities (applied_at plan taken mark waits) effects mode mark.effects to
IsFollowed plan capacities taken effects mark event.Restarted to = to ≡ mark.effects
IsFollowed plan capacities taken effects mark (event.Faulted before after) to = to ≡ mark.effects
IsFollowed plan capacities taken effects mark _ to = Unit {0}

abbrev pub AreFollowed : Ports → List ℕ → List Sent → List (Call Rid) → List Mark → Type 0
AreFollowed plan capacities taken effects [] = Unit {0}
AreFollowed plan capacities taken effects (mark ∷ marks) = IsFollowed plan capacities taken effects mark mark.event (until_next marks effects) × AreFollowed plan capacities taken effects marks
