-- what becomes of an operation of INTF_TABLE when the call that is due has taken effect
use Rattle.std.proofs.Common.{◌≡◌, ℕ, Bool, true, false, List, [], Option, refl, subst}
use Rattle.swss_types.specs.declared.address.Ip.{Ip}
use Rattle.swss_types.specs.declared.interface.IfName.{IfName}
use Rattle.swss_types.specs.declared.vrf.Vrf.{Vrf}
use Rattle.table_schema.specs.declared.key.Key.TheVariants as key
use Rattle.sai_types.specs.declared.ids.Vid.{Vid}
use Rattle.sai_types.specs.declared.thing.Thing.TheVariants as thing
use Rattle.switch_model.specs.Placed as row
use Rattle.ref_counts.specs.declared.name.Name.TheVariants as name
use Rattle.ref_counts.specs.Registry.{Names}
use Rattle.orch_flight.specs.Operation.{Operation}
use Rattle.orch_flight.specs.Taking.{MayBeLive, MayTake, to_list}
use Rattle.intf_orch.specs.Interfaces.{MayBeLiveRif, MayBuildOwn, MayBuildRif, intf_operation, row_where}
use Rattle.intf_orch.specs.declared.stage.OwnStage.{OwnStage}
use Rattle.intf_orch.specs.declared.stage.OwnStage.TheVariants as own
use Rattle.intf_orch.specs.declared.stage.RifStage.{RifStage}
use Rattle.intf_orch.specs.declared.stage.RifStage.TheVariants as rif
use Rattle.intf_orch.specs.declared.stage.Subject.TheVariants as subject

-- whether an interface's name comes back is told by whether a row of it is applied
live-rif : (names : Names) (worker : ℕ) (n : IfName) (v : Vrf) (ids : List Vid) (applied : Bool) → MayBeLive names worker (name.Row (key.Intf n)) (row_where applied (row.Intf v)) ids → MayBeLiveRif applied names worker n ids
live-rif names worker n v ids true h = h
live-rif names worker n v ids false h = h

module _ (names : Names) (worker : ℕ) (applied wanted : Bool) (made : Option Vid) (f : Operation) (may : MayTake f made names) where
  module _ (n : IfName) (v w : Vrf) (stage : RifStage) (is : f ≡ intf_operation worker applied wanted (subject.Intf n v w stage)) where
    pub may-rif : MayBuildRif names worker n applied stage made
    may-rif = by stage (subst (λ z. MayTake z made names) is may)
      where
        by : (s : RifStage) → MayTake (intf_operation worker applied wanted (subject.Intf n v w s)) made names → MayBuildRif names worker n applied s made
        by rif.Stays m = tt
        by (rif.Comes b) m = (m.numbered (thing.Rif b w) [] refl, live-rif names worker n v (to_list made) applied (m.builds (thing.Rif b w) [] (name.Row (key.Intf n)) refl refl))
        by (rif.Goes b) m = tt
        by (rif.Moves b) m = tt

  module _ (v : Vrf) (n : IfName) (ip : Ip) (len : ℕ) (stage : OwnStage) (is : f ≡ intf_operation worker applied wanted (subject.Addr v n ip len stage)) where
    pub may-own : MayBuildOwn names worker v ip stage
    may-own = by stage (subst (λ z. MayTake z made names) is may)
      where
        by : (s : OwnStage) → MayTake (intf_operation worker applied wanted (subject.Addr v n ip len s)) made names → MayBuildOwn names worker v ip s
        by own.Comes m = (m.builds (thing.Own v ip) [] (name.Own v ip) refl refl).0
        by own.Stays m = tt
        by own.Goes m = tt
        by own.Gone m = tt
