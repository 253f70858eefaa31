-- the start of a port's operation
use Rattle.std.proofs.Common.{◌≡◌, ℕ, false, true, List, [], ◌∷◌, Option, Some, None, option_map, refl, ap, ◌∙◌}
use Rattle.table_schema.specs.Plan.{Ports, lanes_in_plan}
use Rattle.table_schema.specs.declared.key.Key.{Key}
use Rattle.table_schema.specs.declared.key.Key.TheVariants as key
use Rattle.switch_model.specs.Placed.{Placed as Row}
use Rattle.switch_model.specs.Placed as row
use Rattle.sai_types.specs.Named.{first_lane}
use Rattle.switch_model.specs.declared.wait.Wait.TheVariants as wait
use Rattle.row_layout.specs.Operations.{make_all, own_changes, thing_of_port, set_to}
use Rattle.row_layout.specs.Rows.{from}
use Rattle.ref_counts.specs.declared.name.Name.TheVariants as name
use Rattle.ref_counts.specs.Registered.{begun_to_go}
use Rattle.ref_counts.specs.Registry.{Names, changed}
use Rattle.ref_counts.specs.Room.{RoomState, lacking}
use Rattle.switch_machine.specs.Flights.{Fits}
use Rattle.switch_machine.specs.Operations.{built_first}
use Rattle.orch_flight.specs.Needing.{first_unapplied, places_for, row_names, row_reason, to_build, wait_of}
use Rattle.orch_flight.specs.Sharing.{begun_by, lacks_shared}
use Rattle.orch_flight.specs.Starting.{first_due, started_names}
use Rattle.orch_flight.proofs.Begins.{names-plain, no_places, places-set, places-taken}
use Rattle.port_orch.specs.Ports.{IsPortKey, port_thing}

abbrev pub made : List ℕ
made = 1 ∷ 0 ∷ 0 ∷ 0 ∷ 0 ∷ 0 ∷ 0 ∷ 0 ∷ 0 ∷ 0 ∷ 0 ∷ 0 ∷ []

-- a port's row names nothing
pub no-names : (names : Names) (k : Key) (r : Row) → IsPortKey k → first_unapplied names (row_names k r) ≡ None
no-names names (key.Port p) r is = refl
no-names names _ r is = elim is [ ]

module _ (plan : Ports) (names : Names) where
  pub added-places : (k : Key) (r : Row) → IsPortKey k → Fits plan k r → places_for (built_first (to_build plan names k (Some r)) (own_changes plan k None (Some r))) ≡ made
  added-places (key.Port p) (row.Port r) is fits = ap (λ o. places_for (make_all (from (option_map first_lane o) (λ lane. port_thing r ∷ [])) [])) fits
  added-places (key.Port p) _ is fits = elim fits [ ]
  added-places _ r is fits = elim is [ ]

  pub changed-places : (k : Key) (a r : Row) → IsPortKey k → Fits plan k a → Fits plan k r → places_for (built_first (to_build plan names k (Some r)) (own_changes plan k (Some a) (Some r))) ≡ no_places
  changed-places (key.Port p) (row.Port a) (row.Port r) is old fits =
      places-set (thing_of_port a.lanes a.speed a.mtu a.up) (thing_of_port a.lanes r.speed a.mtu a.up) (set_to (thing_of_port a.lanes r.speed a.mtu a.up) (thing_of_port a.lanes r.speed r.mtu a.up) (set_to (thing_of_port a.lanes r.speed r.mtu a.up) (thing_of_port a.lanes r.speed r.mtu r.up) []))
      ∙ places-set (thing_of_port a.lanes r.speed a.mtu a.up) (thing_of_port a.lanes r.speed r.mtu a.up) (set_to (thing_of_port a.lanes r.speed r.mtu a.up) (thing_of_port a.lanes r.speed r.mtu r.up) [])
      ∙ places-set (thing_of_port a.lanes r.speed r.mtu a.up) (thing_of_port a.lanes r.speed r.mtu r.up) []
  changed-places (key.Port p) (row.Port a) _ is old fits = elim fits [ ]
  changed-places (key.Port p) _ r is old fits = elim old [ ]
  changed-places _ a r is old fits = elim is [ ]

  pub port-reason : (room : RoomState) (used : List ℕ) (worker : ℕ) (k : Key) (old : Option Row) (r : Row) (need : List ℕ) → IsPortKey k → places_for (built_first (to_build plan names k (Some r)) (own_changes plan k old (Some r))) ≡ need → wait_of plan names room used worker k old (Some r) ≡ row_reason names room used [] [] need
  port-reason room used worker (key.Port p) old r need is places = ap (λ n. option_map wait.NoRoom (lacking room n used)) places
  port-reason room used worker _ old r need is places = elim is [ ]

  pub added-names : (worker : ℕ) (k : Key) (r : Row) → IsPortKey k → started_names plan names worker k None (Some r) ≡ begun_by names worker k [] false None (lacks_shared names None)
  added-names worker (key.Port p) r is = names-plain (begun_by names worker (key.Port p) [] false None false) worker (key.Port p) (first_due plan names (key.Port p) None (Some r))
  added-names worker _ r is = elim is [ ]

  pub changed-names : (worker : ℕ) (k : Key) (a r : Row) → IsPortKey k → started_names plan names worker k (Some a) (Some r) ≡ begun_by names worker k [] true None (lacks_shared names None)
  changed-names worker (key.Port p) a r is = names-plain names worker (key.Port p) (first_due plan names (key.Port p) (Some a) (Some r))
  changed-names worker _ a r is = elim is [ ]

  pub removed-places : (k : Key) (a : Row) → IsPortKey k → Fits plan k a → places_for (own_changes plan k (Some a) None) ≡ no_places
  removed-places (key.Port p) (row.Port a) is fits = places-taken (from (option_map first_lane (lanes_in_plan plan p)) (λ lane. port_thing a ∷ []))
  removed-places (key.Port p) _ is fits = elim fits [ ]
  removed-places _ a is fits = elim is [ ]

  pub removed-names : (worker : ℕ) (k : Key) (a : Row) → IsPortKey k → started_names plan names worker k (Some a) None ≡ changed names (name.Row k) (begun_to_go worker)
  removed-names worker (key.Port p) a is = names-plain (changed names (name.Row (key.Port p)) (begun_to_go worker)) worker (key.Port p) (first_due plan names (key.Port p) (Some a) None)
  removed-names worker _ a is = elim is [ ]
