-- the operation with which a neighbour's start leaves
use Rattle.std.proofs.Common.{◌≡◌, ◌&&◌, ℕ, List, [], ◌∷◌, Option, Some, None, option_map, Result, Ok, Err, if◌then◌else◌, refl, sym, ap, subst, ◌∙◌, Bor}
use Rattle.std.proofs.lemmas.Option.{none-some}
use Rattle.swss_types.specs.declared.address.Ip.{Ip}
use Rattle.swss_types.specs.declared.address.Mac.{Mac}
use Rattle.swss_types.specs.declared.interface.IfName.{IfName}
use Rattle.table_schema.specs.Plan.{Ports}
use Rattle.table_schema.specs.declared.key.Key.TheVariants as key
use Rattle.table_schema.specs.declared.row.Row.{Row as BareRow}
use Rattle.switch_model.specs.Placed.{Placed as Row}
use Rattle.switch_model.specs.Placed as row
use Rattle.sai_types.specs.contracts.hop.HopEq.TheImpl.Laws as equal_hop
use Rattle.sai_types.specs.contracts.thing.ThingEq.TheImpl.Laws as equal_thing
use Rattle.sai_types.specs.declared.hop.Base.{Base}
use Rattle.sai_types.specs.declared.thing.Thing.TheVariants as thing
use Rattle.switch_model.specs.Things.{base_of}
use Rattle.switch_model.specs.declared.wait.Wait.{Wait}
use Rattle.row_layout.specs.Operations.{Set, make_all, same_thing, set_all, take_all}
use Rattle.row_layout.specs.Rows.{from}
use Rattle.ref_counts.specs.Registry.{Names}
use Rattle.ref_counts.specs.Room.{RoomState}
use Rattle.switch_machine.specs.Flights.{Fits}
use Rattle.orch_flight.specs.Operation.{Operation}
use Rattle.orch_flight.specs.Starting.{IsBegunBy, IsStartedBy, begun_names, first_due, started_by, started_operation, in_default}
use Rattle.orch_flight.proofs.Begins.{started-plain}
use Rattle.neigh_orch.specs.Neighbours.{HaveFit, IsNeighborFlown, due_set, neighbor_hop, row_mac, neigh_due, neigh_operation, same_mac}
use Rattle.neigh_orch.specs.declared.left.Left.TheVariants as left
use Rattle.neigh_orch.proofs.Starts.{leaves-nothing, things_on}

-- the rows behind references, in their places
abbrev pub rows : Option (Bor BareRow) → Option Row
rows o = in_default (option_map (λ r. r.now) o)

module _ (plan : Ports) (n : IfName) (ip : Ip) where
  -- an interface of the plan stands on something
  fits-base : (r : Row) → Fits plan (key.Neigh n ip) r → (b : Base) × (base_of plan n ≡ Some b)
  fits-base (row.Neigh mac) fits = fits
  fits-base _ fits = elim fits [ ]

  pub never-none : (old new : Option Row) → HaveFit plan n ip old new → base_of plan n ≡ None → ⊥
  never-none None None fit none = fit.some refl refl
  never-none None (Some r) fit none = let base = fits-base r (fit.new_fits r refl) in none-some base.0 (sym none ∙ base.1)
  never-none (Some a) new fit none = let base = fits-base a (fit.old_fits a refl) in none-some base.0 (sym none ∙ base.1)

  row-is : (o : Option Row) → ((r : Row) → o ≡ Some r → Fits plan (key.Neigh n ip) r) → option_map row.Neigh (row_mac o) ≡ o
  row-is None fits = refl
  row-is (Some (row.Neigh mac)) fits = refl
  row-is (Some r) fits = elim (fits r refl) [ ]

  set-due : (a m : Mac) (b : Base) → set_all (things_on ip a (Some b)) (things_on ip m (Some b)) ≡ due_set (neighbor_hop b ip) m (same_mac a m)
  set-due a m b =
      let h = neighbor_hop b ip in
      ap (λ e. if e && same_mac a m then (if same_thing (thing.NextHop h) (thing.NextHop h) then [] else Set (thing.NextHop h) ∷ []) else Set (thing.Neighbor h m) ∷ (if same_thing (thing.NextHop h) (thing.NextHop h) then [] else Set (thing.NextHop h) ∷ [])) (equal_hop.laws-law.refl h)
      ∙ ap (λ e. if same_mac a m then (if e then [] else Set (thing.NextHop h) ∷ []) else Set (thing.Neighbor h m) ∷ (if e then [] else Set (thing.NextHop h) ∷ [])) (equal_thing.laws-law.refl (thing.NextHop h))

  module _ (names : Names) (worker : ℕ) (b : Base) (on : base_of plan n ≡ Some b) where
    due-first : (now new : Option Mac) → neigh_due left.Both (neighbor_hop b ip) now new ≡ first_due plan names (key.Neigh n ip) (option_map row.Neigh now) (option_map row.Neigh new)
    due-first None None = refl
    due-first None (Some m) = sym (ap (λ o. make_all (things_on ip m o) []) on)
    due-first (Some a) None = sym (ap (λ o. take_all (from o (λ b. thing.NextHop (neighbor_hop b ip) ∷ thing.Neighbor (neighbor_hop b ip) a ∷ [])) []) on)
    due-first (Some a) (Some m) = sym (ap (λ o. set_all (things_on ip a o) (things_on ip m o)) on ∙ set-due a m b)

    operation-first : (now new : Option Mac) → neigh_operation worker n ip b left.Both now new ≡ started_operation plan names worker (key.Neigh n ip) (option_map row.Neigh now) (option_map row.Neigh new)
    operation-first now new =
        let k = key.Neigh n ip in
        let later = begun_names plan names worker k (option_map row.Neigh now) (option_map row.Neigh new) in
        let due = first_due plan names k (option_map row.Neigh now) (option_map row.Neigh new) in
        ap (λ d. record { worker = worker; key = k; now = option_map row.Neigh now; new = option_map row.Neigh new; due = d; leaves = None; retires = None }) (due-first now new)
        ∙ sym (ap (started_by later worker k (option_map row.Neigh now) (option_map row.Neigh new) due) (leaves-nothing plan n ip (option_map row.Neigh now) (option_map row.Neigh new)) ∙ started-plain later worker k (option_map row.Neigh now) (option_map row.Neigh new) due)

    operation-is : (old new : Option Row) → HaveFit plan n ip old new → neigh_operation worker n ip b left.Both (row_mac old) (row_mac new) ≡ started_operation plan names worker (key.Neigh n ip) old new
    operation-is old new fit =
        operation-first (row_mac old) (row_mac new) ∙ ap (λ o. started_operation plan names worker (key.Neigh n ip) o (option_map row.Neigh (row_mac new))) (row-is old fit.old_fits)
        ∙ ap (started_operation plan names worker (key.Neigh n ip) old) (row-is new fit.new_fits)

module _ (plan : Ports) (names : Names) (room : RoomState) (used : List ℕ) (worker : ℕ) (n : IfName) (ip : Ip) (names' : Names) (room' : RoomState) where
  abbrev Begins : Option Row → Option Row → Result (Unit {0}) Wait → Type 0
  Begins old new begun = IsBegunBy plan names room used worker (key.Neigh n ip) old new begun names' room'

  started : (old new : Option Row) (begun : Result (Unit {0}) Wait) (answer : Result Operation Wait) → IsNeighborFlown plan worker n ip old new begun answer → Begins old new begun → IsStartedBy plan names room used worker (key.Neigh n ip) old new answer names' room'
  started old new (Ok x) (Ok f) flown (free, is, places) = (free, flown.1.2 ∙ operation-is plan n ip names worker flown.1.0 flown.1.1 old new flown.0, is, places)
  started old new (Err w) (Err v) flown h = subst (λ z. IsStartedBy plan names room used worker (key.Neigh n ip) old new (Err z) names' room') (sym flown) h
  started old new (Ok x) (Err v) flown h = elim flown [ ]
  started old new (Err w) (Ok f) flown h = elim flown [ ]

  -- what began is the start of the operation, for the rows that are given
  pub started-as : (old new old' new' : Option Row) (begun : Result (Unit {0}) Wait) (answer : Result Operation Wait) → old ≡ old' → new ≡ new' → IsNeighborFlown plan worker n ip old new begun answer → Begins old' new' begun → IsStartedBy plan names room used worker (key.Neigh n ip) old new answer names' room'
  started-as old new old' new' begun answer o e flown h = started old new begun answer flown (subst (λ z. Begins z new begun) (sym o) (subst (λ z. Begins old' z begun) (sym e) h))
