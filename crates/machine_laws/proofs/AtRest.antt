-- while no operation is under way the applied rows are at rest; the good row of an interface's key is an interface's
use Rattle.std.proofs.Common.{◌≡◌, ◌≤◌, inl, ℕ, List, length, Option, None, Some, refl, sym, subst, arith}
use Rattle.swss_types.specs.declared.vrf.Vrf.{Vrf}
use Rattle.table_schema.specs.Fields.{Pairs}
use Rattle.table_schema.specs.Plan.{IsPlan, Ports}
use Rattle.table_schema.specs.Rules.{row_of as read}
use Rattle.table_schema.specs.declared.key.Key.{Key}
use Rattle.table_schema.specs.declared.key.Key.TheVariants as key
use Rattle.table_schema.specs.declared.row.Row.{Row}
use Rattle.table_schema.specs.declared.row.Row.TheVariants as row
use Rattle.sai_types.specs.Alike.{IsIn}
use Rattle.sai_types.specs.Names.{ThingName, name_of}
use Rattle.sai_types.specs.Objects.{used}
use Rattle.sai_types.specs.Refusal.{capacity_of}
use Rattle.switch_model.specs.Desired.{IsThingOf}
use Rattle.switch_model.specs.Good.{TypedRows, good_row}
use Rattle.switch_model.specs.Placed as placed
use Rattle.switch_model.specs.Placed.{Placed, bare, bare_rows}
use Rattle.switch_model.specs.Room.{HasRoomForView}
use Rattle.switch_model.proofs.ReadRows.{intf_read, row_read_ok}
use Rattle.chip_layout.specs.Counted.{AreAll}
use Rattle.chip_layout.specs.Layout.{listed}
use Rattle.chip_layout.proofs.Counting.{counted, no-longer}
use Rattle.row_layout.proofs.Split.{things-split}
use Rattle.switch_machine.specs.Events.{IsQuiet, IsSafe, SwitchState}
use Rattle.switch_machine.specs.Flights.{Fits}
use Rattle.switch_machine.specs.Written.{IsGoodOnce, Written, good_of}
use Rattle.switch_machine.proofs.Overflowing.{counted_distinct}
use Rattle.switch_machine.proofs.Placing.{row_of, row_of_thing}
use Rattle.switch_machine.proofs.Reasoned.{closed}
use Rattle.switch_machine.proofs.Resting.{back_by}
use Rattle.switch_machine.proofs.Tabled.{tabled}
use Rattle.machine_laws.specs.ToSync.{AreAtRest, HaveInterfaces}
use Rattle.machine_laws.proofs.Sharing.{AreKeys, written-once}

pub good_interfaces : (plan : Ports) (written : Written) → HaveInterfaces (good_of plan written)
good_interfaces plan written on r at = by (written.rows (key.Intf on)) at
  where
    by : (o : Option Pairs) → good_row plan (key.Intf on) o ≡ Some r → (v : Vrf) × (r ≡ row.Intf v)
    by None h = absurd cc
    by (Some fields) h = intf_read plan on r (fields, row_read_ok (read plan (key.Intf on) fields) r h)

module _ (plan : Ports) (is : IsPlan plan) (workers : ℕ) (capacities : List ℕ) (s : SwitchState) (kept : IsSafe plan workers capacities s) (quiet : IsQuiet s) where
  abbrev rows : TypedRows
  rows = bare_rows s.machine.board.applied

  interfaces : HaveInterfaces rows
  interfaces on r at = let x = row_of (s.machine.board.applied (key.Intf on)) r at in by x.0 x.2 (kept.sound.board.fit (key.Intf on) x.0 (inl x.1))
    where
      by : (x : Placed) → bare x ≡ r → Fits plan (key.Intf on) x → (v : Vrf) × (r ≡ row.Intf v)
      by (placed.Intf v) e fit = (v, sym e)
      by _ e fit = elim fit [ ]

  all : (k : Key) (r : Row) → rows k ≡ Some r → IsIn k (AreKeys s.written.taken)
  all k r at = let x = row_of (s.machine.board.applied k) r at in written-once plan s.written.taken k r (subst (IsGoodOnce plan s.written.taken k) x.2 (kept.good k x.0 (inl x.1)))

  -- their things stand, each with a name of its own, and the chip has room for what stands
  room : HasRoomForView capacities (IsThingOf plan rows)
  room kind keys x = by (counted (listed s.machine.stands) s.objects kept.laid kind s.made kept.whole)
    where
      by : ((names : List ThingName) × AreAll (listed s.machine.stands) kind names × (length names ≡ used s.objects kind)) → length keys ≤ capacity_of capacities kind
      by (names, standing, count) =
          let most = no-longer keys names (counted_distinct keys x.distinct) within in
          let places = kept.places kind in
          omega (arith, most, count, places)
        where
          within : (n : ThingName) → IsIn n keys → IsIn n names
          within n h =
              let t = x.things n h in
              let r = row_of_thing plan s.machine.board kept.sound.board t.0 t.3 in
              let stands = back_by plan (tabled plan is) s.machine kept.sound quiet t.0 r.0 r.1 r.2 ((things-split plan r.0 r.1).into t.0 r.3) in
              subst (λ z. IsIn z names) t.1 (standing.all (name_of t.0) (t.2, stands.0, (t.0, stands.1, refl)))

  pub at-rest : AreAtRest plan capacities rows
  at-rest = record { closed = closed plan is workers capacities s kept; interfaces = interfaces; keys = AreKeys s.written.taken; all = all; room = room }
