-- what becomes of a key that is to sync
use Rattle.std.proofs.Common.{◌≡◌, ◌<◌, inl, inr, ℕ, Bool, true, List, None, option_map, Result, Ok, Err, refl, sym, ap, subst}
use Rattle.std.specs.Result.{IsErr}
use Rattle.std.proofs.lemmas.Bool.{false≢true}
use Rattle.swss_types.specs.declared.out_of_memory.OutOfMemory.{OutOfMemory}
use Rattle.table_schema.specs.declared.key.Key.{Key}
use Rattle.sai_types.specs.ChipState.{ChipState}
use Rattle.consumer_table.specs.Ops.{AreOpsInOrder, without_op}
use Rattle.retry_list.specs.Reasons.{without_reason}
use Rattle.switch_model.specs.declared.wait.Wait.{Wait}
use Rattle.switch_machine.specs.Events.{IsBegin, IsDrop}
use Rattle.ref_counts.specs.Room.{number_of_kind}
use Rattle.restart_laws.specs.Logged.{LoggedService}
use Rattle.sync_tables.specs.Tables.{IsToSync}
use Rattle.flight_board.specs.Applied.{row_at}
use Rattle.flight_board.specs.Board.{BoardState, FlightState, IsBegunFor, IsUnflown, flown_at}
use Rattle.warm_state.specs.declared.warm.Warm.TheVariants as warm
use Rattle.session_laws.specs.Core.{CoreState, good_in}
use Rattle.session_laws.specs.Events.{IsMachineStep}
use Rattle.session_laws.specs.Standing.{IsSessionOf}
use Rattle.session_laws.proofs.Beginnings.{begins, drops, same_board, waits_on}
use Rattle.session_laws.proofs.Beside.{makes_with}
use Rattle.session_laws.proofs.Counting.{counts}
use Rattle.orch_core.specs.Outcomes.{AreKindsCounted, BeginsOrDrops, BeginsTo, Begun, DropsTo, IsSameCore, KeepsFlights, Tries, key_left}
use Rattle.orch_core.specs.declared.answer.Tried.{Tried}
use Rattle.orch_core.specs.declared.answer.Tried.TheVariants as tried

module _ (s : LoggedService) (k : Key) (c : CoreState) (chip : ChipState) (is : IsSessionOf c chip s) (at : c.warm ≡ warm.Reconciled) (order : AreOpsInOrder c.tables.ops) (i : IsToSync c.tables k) where
  -- it has its good row
  pub dropped : IsUnflown c.board k → row_at c.board.applied k ≡ good_in c k → (c' : CoreState) → c' ≡ key_left c k → DropsTo s k c c' chip
  dropped un same c' left =
      let z = drops c chip s is at k i order un same in
      let y = makes_with c (record c { tables = record c.tables { ops = without_op c.tables.ops k } }) chip s (without_reason c.waiting k) z.0 in
      let there : (d : IsDrop c.board.plan s.service.core y.0.later.service.core) × (d.key ≡ k) × IsMachineStep s None y.0.later = subst (λ (t : LoggedService). (d : IsDrop c.board.plan s.service.core t.service.core) × (d.key ≡ k) × IsMachineStep s None t) (sym y.1) (z.1, z.2, z.3) in
      subst (λ d. DropsTo s k c d chip) (sym left) (record { makes = y.0; drop = there.0; key = there.1; moves = there.2; is = refl })

  module _ (w : ℕ) (less : w < 4) (none : flown_at c.board w ≡ None) (differs : IsUnflown c.board k → row_at c.board.applied k ≡ good_in c k → ⊥) where
    others_kept : (used : List ℕ) (b : BoardState) → IsBegunFor c.board used w k (good_in c k) (Ok tt) b → KeepsFlights w c.board b
    others_kept used b h v apart = ap (option_map (λ (f : FlightState). f.flown)) (h.5.others.flights v apart)

    begun : (used : List ℕ) → AreKindsCounted c.sync (number_of_kind used) → (b : BoardState) → IsBegunFor c.board used w k (good_in c k) (Ok tt) b → BeginsTo s w k c (record (key_left c k) { board = b }) chip
    begun used are b h =
        let z = begins c chip s is at k i w less none differs used (counts c chip s used is at are) order tt b h in
        let y = makes_with c (record c { board = b; tables = record c.tables { ops = without_op c.tables.ops k } }) chip s (without_reason c.waiting k) z.0 in
        let there : (d : IsBegin c.board.plan 4 c.sync.capacities s.service.core y.0.later.service.core) × (d.worker ≡ w) × (d.flight.key ≡ k) × IsMachineStep s None y.0.later = subst (λ (t : LoggedService). (d : IsBegin c.board.plan 4 c.sync.capacities s.service.core t.service.core) × (d.worker ≡ w) × (d.flight.key ≡ k) × IsMachineStep s None t) (sym y.1) (z.1, z.2, z.3, z.4) in
        record { makes = y.0; begin = there.0; worker = there.1; key = there.2; moves = there.3; board = b; is = refl; others = others_kept used b h }

    pub tries : (r : Result Tried OutOfMemory) (c' : CoreState) → Begun w k (good_in c k) c r c' → Tries s w k c chip r c'
    tries (Ok tried.Begun) c' (used, are, b, h, same) = subst (λ d. BeginsTo s w k c d chip) (sym same) (begun used are b h)
    tries (Ok (tried.Waits r)) c' (used, are, b, h, same) =
        let z = waits_on c chip s is at k i w less none differs used (counts c chip s used is at are) r b h in
        ((b, h.0, same), subst (λ d. IsSessionOf d chip s) (sym same) z.0, z.1)
    tries (Ok tried.Dropped) c' h = absurd h
    tries (Err e) c' (b, h, same) = ((b, h, same), subst (λ d. IsSessionOf d chip s) (sym same) (same_board c chip s is at k b h))

-- ---- by the answer

module _ (s : LoggedService) (w : ℕ) (k : Key) (c : CoreState) (chip : ChipState) (d : CoreState) where
  pub begun_err : (r : Result Bool OutOfMemory) → IsErr r → IsSameCore c d × IsSessionOf d chip s → BeginsOrDrops s w k c chip r d
  begun_err (Err e) h x = x
  begun_err (Ok b) h x = absurd (false≢true h)

  pub begun_by : (t : Tried) → ((r : Wait) → t ≡ tried.Waits r → ⊥) → Tries s w k c chip (Ok t) d → BeginsOrDrops s w k c chip (Ok true) d
  begun_by tried.Dropped not x = inl x
  begun_by tried.Begun not x = inr x
  begun_by (tried.Waits r) not x = absurd (not r refl)
