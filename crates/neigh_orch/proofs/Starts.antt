-- the start of a neighbour's operation
use Rattle.std.proofs.Common.{◌≡◌, ℕ, List, [], ◌∷◌, Option, Some, None, refl, ap, ◌∙◌}
use Rattle.swss_types.specs.declared.address.Ip.{Ip}
use Rattle.swss_types.specs.declared.address.Mac.{Mac}
use Rattle.swss_types.specs.declared.interface.IfName.{IfName}
use Rattle.table_schema.specs.Plan.{Ports}
use Rattle.table_schema.specs.declared.key.Key.TheVariants as key
use Rattle.switch_model.specs.Placed.{Placed as Row}
use Rattle.switch_model.specs.Placed as row
use Rattle.sai_types.specs.declared.hop.Base.{Base}
use Rattle.sai_types.specs.declared.thing.Thing.{Thing}
use Rattle.sai_types.specs.declared.thing.Thing.TheVariants as thing
use Rattle.row_layout.specs.Operations.{going, make_all, own_changes, set_all, set_to}
use Rattle.row_layout.specs.Rows.{from}
use Rattle.ref_counts.specs.declared.name.Name.TheVariants as name
use Rattle.ref_counts.specs.Registered as registered
use Rattle.ref_counts.specs.Registry.{Names, changed}
use Rattle.switch_machine.specs.Flights.{Fits}
use Rattle.orch_flight.specs.Needing.{places_for}
use Rattle.orch_flight.specs.Starting.{first_due, leaving, started_names}
use Rattle.orch_flight.proofs.Begins.{names-plain, no_places, places-set, places-taken}
use Rattle.neigh_orch.specs.Neighbours.{neighbor_hop}

abbrev pub made : List ℕ
made = 0 ∷ 0 ∷ 0 ∷ 0 ∷ 0 ∷ 0 ∷ 0 ∷ 1 ∷ 1 ∷ 0 ∷ 0 ∷ 0 ∷ []

-- the things of a neighbour, where its interface stands on something
abbrev pub things_on : Ip → Mac → Option Base → List Thing
things_on ip mac o = from o (λ b. thing.Neighbor (neighbor_hop b ip) mac ∷ thing.NextHop (neighbor_hop b ip) ∷ [])

module _ (plan : Ports) (n : IfName) (ip : Ip) where
  pub leaves-nothing : (old new : Option Row) → leaving plan (key.Neigh n ip) old new ≡ None
  leaves-nothing None None = refl
  leaves-nothing None (Some r) = refl
  leaves-nothing (Some a) None = refl
  leaves-nothing (Some a) (Some r) = refl

  pub added-places : (r : Row) → Fits plan (key.Neigh n ip) r → places_for (own_changes plan (key.Neigh n ip) None (Some r)) ≡ made
  added-places (row.Neigh mac) fits = ap (λ o. places_for (make_all (things_on ip mac o) [])) fits.1
  added-places _ fits = elim fits [ ]

  set-places : (a m : Mac) (b : Base) → places_for (set_all (things_on ip a (Some b)) (things_on ip m (Some b))) ≡ no_places
  set-places a m b =
      places-set (thing.Neighbor (neighbor_hop b ip) a) (thing.Neighbor (neighbor_hop b ip) m) (set_to (thing.NextHop (neighbor_hop b ip)) (thing.NextHop (neighbor_hop b ip)) [])
      ∙ places-set (thing.NextHop (neighbor_hop b ip)) (thing.NextHop (neighbor_hop b ip)) []

  pub changed-places : (a r : Row) → Fits plan (key.Neigh n ip) a → Fits plan (key.Neigh n ip) r → places_for (own_changes plan (key.Neigh n ip) (Some a) (Some r)) ≡ no_places
  changed-places (row.Neigh a) (row.Neigh m) old fits = ap (λ o. places_for (set_all (things_on ip a o) (things_on ip m o))) fits.1 ∙ set-places a m fits.0
  changed-places (row.Neigh a) _ old fits = elim fits [ ]
  changed-places _ r old fits = elim old [ ]

  pub removed-places : (a : Row) → places_for (own_changes plan (key.Neigh n ip) (Some a) None) ≡ no_places
  removed-places a = places-taken (going plan (key.Neigh n ip) a)

  pub removed-names : (names : Names) (worker : ℕ) (a : Row) → started_names plan names worker (key.Neigh n ip) (Some a) None ≡ changed names (name.Row (key.Neigh n ip)) (registered.begun_to_go worker)
  removed-names names worker a = names-plain (changed names (name.Row (key.Neigh n ip)) (registered.begun_to_go worker)) worker (key.Neigh n ip) (first_due plan names (key.Neigh n ip) (Some a) None)
