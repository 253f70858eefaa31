-- the keys of what workers have under way are those of the machine's operations
use Rattle.std.proofs.Common.{◌≡◌, ◌<◌, ◌∙◌, inl, ℕ, Bool, true, false, List, Option, None, Some, refl, sym, ap, option_map}
use Rattle.std.specs.Prelude.{◌&&◌, bytes_eq, codes, if◌then◌else◌}
use Rattle.std.proofs.lemmas.Option.{same_Some}
use Rattle.swss_types.specs.Prefix.{has_host_bits}
use Rattle.table_schema.specs.Broken.{bad}
use Rattle.table_schema.specs.Fields.{Pairs}
use Rattle.table_schema.specs.KeyText.{route_parts}
use Rattle.table_schema.specs.Plan.{Ports}
use Rattle.table_schema.specs.Rules.{other_row}
use Rattle.table_schema.specs.Split.{split_once}
use Rattle.table_schema.specs.declared.key.Key.{Key}
use Rattle.table_schema.specs.declared.key.Key.TheVariants as key
use Rattle.table_schema.specs.declared.row.BadWhy.TheVariants.{HostBits, Unsupported}
use Rattle.switch_model.specs.Good.{good_row, row_read}
use Rattle.switch_model.specs.Placed.{Placed as Row, bare}
use Rattle.switch_machine.specs.Consistent.{IsConsistent}
use Rattle.switch_machine.specs.Events.{IsQuiet, SwitchState}
use Rattle.switch_machine.specs.Flights.{MachineFlight, IsResting}
use Rattle.switch_machine.specs.Reasons.{IsReason}
use Rattle.switch_machine.specs.Written.{good_of}
use Rattle.switch_model.specs.declared.wait.Wait.TheVariants as wait
use Rattle.ref_counts.specs.Registered.{IsReadable}
use Rattle.ref_counts.specs.Registry.{Names}
use Rattle.ref_counts.specs.Room.{RoomState}
use Rattle.registry_laws.specs.Flown.{Flown, flight_of}
use Rattle.registry_laws.specs.Flying.{KnowsBoard}
use Rattle.registry_laws.proofs.Listing.{not_some}
use Rattle.registry_laws.specs.Standing.{IsNotFlown}

module _ (plan : Ports) (capacities : List ℕ) (names : Names) (room : RoomState) (flown : ℕ → Option Flown) (s : SwitchState) (board : KnowsBoard plan capacities names room flown s.machine) where
  pub free_rests : (k : Key) → IsNotFlown flown k → IsResting s.machine.board k
  free_rests k free v f there same = by (flown v) refl
    where
      by : (o : Option Flown) → flown v ≡ o → ⊥
      by None e = not_some f (sym (board.idle v e) ∙ there)
      by (Some x) e =
          let y = board.flying v x e in
          let one = same_Some f (flight_of x.operation) (sym there ∙ y.flying) in
          free v x (board.registers.below v f there) e (sym (ap (λ (z : MachineFlight). z.key) one) ∙ same)

  pub flown_busy : (v : ℕ) (x : Flown) → flown v ≡ Some x → IsReason plan 4 capacities s x.operation.key (wait.Busy v)
  flown_busy v x at = inl (flight_of x.operation, (board.flying v x at).flying, refl)

  pub none_flies : ((v : ℕ) → v < 4 → flown v ≡ None) → IsQuiet s
  none_flies none v f there = not_some f (sym (board.idle v (none v (board.registers.below v f there))) ∙ there)

-- a key that does not read has no good row
none_good : (plan : Ports) (text : List ℕ) (fields : Option Pairs) → good_row plan (key.Other text) fields ≡ None
none_good plan text None = refl
none_good plan text (Some fields) = by (split_once 58 text)
  where
    either : (b : Bool) → row_read (if b then bad HostBits 0 else bad Unsupported 0) ≡ None
    either true = refl
    either false = refl

    by : (parts : Option (List ℕ × List ℕ)) → row_read (other_row parts) ≡ None
    by None = refl
    by (Some parts) = either (bytes_eq parts.0 (codes "ROUTE_TABLE") && has_host_bits (route_parts parts.1).1)

-- so a key whose good row is another than its applied one reads
pub differing_reads : (plan : Ports) (s : SwitchState) → IsConsistent plan s.machine → (k : Key) → (option_map bare (s.machine.board.applied k) ≡ good_of plan s.written k → ⊥) → IsReadable k
differing_reads plan s sound (key.Other text) differs = differs (ap (option_map bare) (none (s.machine.board.applied (key.Other text)) refl) ∙ sym (none_good plan text (s.written.rows (key.Other text))))
  where
    none : (r : Option Row) → s.machine.board.applied (key.Other text) ≡ r → s.machine.board.applied (key.Other text) ≡ None
    none None e = e
    none (Some r) e = elim (sound.board.fit (key.Other text) r (inl e)) [ ]
differing_reads plan s sound _ differs = tt
