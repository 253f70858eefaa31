-- what holds of a core in a session that is at rest
use Rattle.std.proofs.Common.{◌≡◌, ◌⊎◌, ◌<◌, ◌∷◌, ◌∙◌, inl, inr, ℕ, List, [], length, None, sym, ap, subst}
use Rattle.std.proofs.Math.Seq.{take-length}
use Rattle.table_schema.specs.Plan.{IsPlan, Ports}
use Rattle.table_schema.specs.Rows.{fields_at, rows_of}
use Rattle.table_schema.specs.declared.key.Key.{Key}
use Rattle.table_schema.specs.declared.write.Sent.{Sent}
use Rattle.sai_types.specs.declared.thing.Thing.{Thing}
use Rattle.sai_types.specs.declared.ids.Rid.{Rid}
use Rattle.sai_types.specs.Alike.{IsIn}
use Rattle.sai_types.specs.ChipState.{ChipState}
use Rattle.switch_model.specs.Desired.{IsThingOf}
use Rattle.switch_model.specs.Good.{TypedRows, good_row, good_rows}
use Rattle.switch_model.specs.Marks.{Waiting, applied_rows, sent_writes}
use Rattle.switch_model.specs.Placed.{bare_rows}
use Rattle.switch_model.specs.Promises.{good_rows_at}
use Rattle.switch_model.specs.declared.wait.Wait.{Wait}
use Rattle.chip_layout.specs.Layout.{IsLaidOut, listed}
use Rattle.row_layout.proofs.Split.{things-split}
use Rattle.switch_machine.specs.Events.{IsQuiet, IsSafe, SwitchState}
use Rattle.switch_machine.specs.Reasons.{IsReason}
use Rattle.switch_machine.specs.Written.{IsPopped, Written, good_of}
use Rattle.switch_machine.proofs.Calling.{sort_of}
use Rattle.switch_machine.proofs.Placing.{row_of_thing}
use Rattle.switch_machine.proofs.Reasoned.{reason-true}
use Rattle.switch_machine.proofs.Resting.{back_by, into_by}
use Rattle.switch_machine.proofs.Runs.{good-quiet}
use Rattle.switch_machine.proofs.Splits.{IsSplit, key_split, row_at, row_off}
use Rattle.switch_machine.proofs.Tabled.{tabled}
use Rattle.machine_laws.specs.Logged.{AreListed, ListsKey}
use Rattle.machine_laws.specs.Settling.{situation}
use Rattle.machine_laws.proofs.Deciding.{IsDecided}
use Rattle.machine_laws.proofs.Dropping.{same-no_reason}
use Rattle.machine_laws.proofs.Sharing.{key_listed_decided}
use Rattle.registry_laws.proofs.Core.Resting.{none_flies}
use Rattle.flight_board.specs.Board.{flown_at}
use Rattle.warm_state.specs.declared.warm.Warm.TheVariants as warm
use Rattle.session_laws.specs.Core.{CoreState}
use Rattle.session_laws.specs.Standing.{IsSessionOf, IsWorking}
use Rattle.session_laws.proofs.Marking.{popped}
use Rattle.session_laws.specs.Service.Standing.{written_of}
use Rattle.session_laws.proofs.Service.Sessions.{session-of}
use Rattle.round_laws.specs.Sessions.{InSession}
use Rattle.round_laws.specs.Turns.{StandsOnChip}
use Rattle.round_laws.proofs.Sessions.{objects-left}

-- the good rows of all writes taken
pub all-good : (plan : Ports) (taken : List Sent) → good_rows_at plan taken (length taken) ≡ good_rows plan (rows_of (sent_writes taken))
all-good plan taken = ap (λ ts. good_rows plan (rows_of (sent_writes ts))) (take-length taken)

-- ---- the rows that a listing tells

module _ (plan : Ports) (capacities : List ℕ) (s : SwitchState) where
  -- the listed rows, and the good row of each key that is not listed
  pub listed-rows : (good : TypedRows) (waits : Waiting) (q : Key) → AreListed plan 4 capacities s waits → ((ListsKey q waits → ⊥) → bare_rows s.machine.board.applied q ≡ good q) → applied_rows waits good q ≡ bare_rows s.machine.board.applied q
  listed-rows good [] q listed f = sym (f (λ h. h))
  listed-rows good (w ∷ ws) q listed f = by (listed-rows good ws q listed.2) (key_split q w.0)
    where
      by : (((ListsKey q ws → ⊥) → bare_rows s.machine.board.applied q ≡ good q) → applied_rows ws good q ≡ bare_rows s.machine.board.applied q) → IsSplit q w.0 → applied_rows (w ∷ ws) good q ≡ bare_rows s.machine.board.applied q
      by rest (inl e) = row_at q w.0 w.2 (λ z. applied_rows ws good q) e ∙ listed.1 ∙ ap (bare_rows s.machine.board.applied) (sym e)
      by rest (inr apart) = row_off q w.0 w.2 (λ z. applied_rows ws good q) apart ∙ rest (λ none. f (λ h. other none h))
        where
          other : (ListsKey q ws → ⊥) → (w.0 ≡ q) ⊎ ListsKey q ws → ⊥
          other none (inl e) = apart (sym e)
          other none (inr h) = none h

  pub listed-reason : (waits : Waiting) (q : Key) → AreListed plan 4 capacities s waits → ListsKey q waits → (w : Wait) × IsReason plan 4 capacities s q w
  listed-reason [] q listed at = absurd at
  listed-reason (w ∷ ws) q listed (inl same) = (w.1, subst (λ z. IsReason plan 4 capacities s z w.1) same listed.0)
  listed-reason (w ∷ ws) q listed (inr at) = listed-reason ws q listed.2 at

-- ---- of a machine without operations

module _ (plan : Ports) (is : IsPlan plan) (capacities : List ℕ) (s : SwitchState) (safe : IsSafe plan 4 capacities s) (quiet : IsQuiet s) where
  -- a key with a reason to wait is to sync
  pub waits-synced : (k : Key) (w : Wait) → IsReason plan 4 capacities s k w → IsIn k s.to_sync
  waits-synced k w reason = by (key_listed_decided k s.to_sync)
    where
      by : IsDecided (IsIn k s.to_sync) → IsIn k s.to_sync
      by (inl at) = at
      by (inr none) = absurd (same-no_reason plan is 4 capacities s safe quiet k (good-quiet plan is 4 capacities s safe quiet k none) w (reason-true plan is 4 capacities s safe quiet k w reason))

  -- what stands are the things of the applied rows
  pub stands-thing : (t : Thing) (i : Rid) → IsIn (i, t) s.machine.stands → IsThingOf plan (bare_rows s.machine.board.applied) t
  stands-thing t i at = let o = safe.sound.owned t (i, at) in into_by plan (tabled plan is) s.machine safe.sound quiet t (i, at) o.0 o.1 (sort_of o.0)

  pub thing-stands : (t : Thing) → IsThingOf plan (bare_rows s.machine.board.applied) t → (i : Rid) × IsIn (i, t) s.machine.stands
  thing-stands t h = let x = row_of_thing plan s.machine.board safe.sound.board t h in back_by plan (tabled plan is) s.machine safe.sound quiet t x.0 x.1 x.2 ((things-split plan x.0 x.1).into t x.3)

-- ---- of a core

module _ {workers : ℕ} (c : CoreState) (chip : ChipState) (x : InSession workers c chip) (at : c.warm ≡ warm.Reconciled) (free : (v : ℕ) → v < 4 → flown_at c.board v ≡ None) where
  abbrev pub core : SwitchState
  core = x.session.service.core

  abbrev pub its : IsWorking c chip core
  its = (x.stands.working at).1

  pub core-safe : IsSafe c.board.plan 4 c.sync.capacities core
  core-safe = its.stands.safe

  pub core-quiet : IsQuiet core
  core-quiet = none_flies c.board.plan c.sync.capacities c.board.names c.board.room (flown_at c.board) core its.stands.board free

  -- the tables and the log tell what was written
  pub core-written : core.written ≡ written_of c
  core-written = (x.stands.working at).0.written

  -- while the core is reconciled its session is one over the tables, the board and syncd
  pub core-session : IsSessionOf c chip x.session
  core-session = session-of c chip x.session x.stands at

  pub core-taken : core.written.taken ≡ sent_writes c.log.taken
  core-taken = ap (λ (z : Written). z.taken) core-written

  -- what the chip shows
  pub core-stands : StandsOnChip c.board.plan chip.effects (situation core)
  core-stands = record {
    things = λ t i h. stands-thing c.board.plan x.stands.always.plan c.sync.capacities core core-safe core-quiet t i h;
    stand = λ t h. thing-stands c.board.plan x.stands.always.plan c.sync.capacities core core-safe core-quiet t h;
    laid = subst (IsLaidOut (listed core.machine.stands)) (x.stands.always.objects ∙ objects-left c chip x) core-safe.laid;
    made = x.stands.always.made;
  }

  module _ (none : c.tables.waiting ≡ []) where
    pub core-popped : IsPopped core.written
    core-popped = popped c chip x.session core-session at none

    -- where no write waits the good rows are those of all writes taken
    pub core-good : (k : Key) → good_of c.board.plan core.written k ≡ good_rows c.board.plan (rows_of (sent_writes c.log.taken)) k
    core-good k = ap (good_row c.board.plan k) (sym (core-popped k (core.written.rows k)) ∙ sym (core-safe.told k) ∙ ap (λ z. fields_at (rows_of z) k) core-taken)
