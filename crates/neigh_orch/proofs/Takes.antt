-- when the answer to the call of a neighbour's operation can be taken
use Rattle.std.proofs.Common.{◌≡◌, ℕ, [], Option, Some, None, refl, subst}
use Rattle.swss_types.specs.declared.address.Ip.{Ip}
use Rattle.swss_types.specs.declared.address.Mac.{Mac}
use Rattle.swss_types.specs.declared.interface.IfName.{IfName}
use Rattle.table_schema.specs.declared.key.Key.TheVariants as key
use Rattle.sai_types.specs.declared.hop.Base.{Base}
use Rattle.sai_types.specs.declared.ids.Vid.{Vid}
use Rattle.sai_types.specs.declared.thing.Thing.TheVariants as thing
use Rattle.ref_counts.specs.declared.name.Name.TheVariants as name
use Rattle.ref_counts.specs.Registry.{Names}
use Rattle.orch_flight.specs.Operation.{Operation}
use Rattle.orch_flight.specs.Taking.{MayTake}
use Rattle.neigh_orch.specs.Neighbours.{MayBuild, neighbor_hop, neigh_operation}
use Rattle.neigh_orch.specs.declared.left.Left.{Left}
use Rattle.neigh_orch.specs.declared.left.Left.TheVariants as left

-- a neighbour's name may become live when its next hop is made
pub may-build : (names : Names) (worker : ℕ) (n : IfName) (ip : Ip) (b : Base) (l : Left) (mac : Mac) (made : Option Vid) (f : Operation) → f ≡ neigh_operation worker n ip b l None (Some mac) → MayTake f made names → MayBuild names worker n ip l made
may-build names worker n ip b l mac made f is may = by l (subst (λ z. MayTake z made names) is may)
  where
    by : (l : Left) → MayTake (neigh_operation worker n ip b l None (Some mac)) made names → MayBuild names worker n ip l made
    by left.Both m = tt
    by left.One m = let builds = m.builds (thing.NextHop (neighbor_hop b ip)) [] (name.Row (key.Neigh n ip)) refl refl in (m.numbered (thing.NextHop (neighbor_hop b ip)) [] refl, builds.0, builds.1)
    by left.Neither m = tt
