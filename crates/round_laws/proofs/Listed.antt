-- the keys that a restore is to list were named
use Rattle.std.proofs.Common.{◌≡◌, ◌≤◌, ◌∷◌, ◌∙◌, inl, inr, ℕ, List, [], length, map, refl, sym, ap, subst, arith}
use Rattle.std.proofs.lemmas.List.{append-nil, length-map}
use Rattle.table_schema.specs.Plan.{IsPlan, Ports}
use Rattle.table_schema.specs.Rows.{Rows}
use Rattle.table_schema.specs.declared.key.Key.{Key}
use Rattle.table_schema.specs.declared.write.Sent.{Sent}
use Rattle.table_schema.specs.declared.write.Write.{Write}
use Rattle.sai_types.specs.declared.ids.Rid.{Rid}
use Rattle.sai_types.specs.declared.body.Call.{Call}
use Rattle.sai_types.specs.Alike.{IsIn}
use Rattle.switch_model.specs.History.{History}
use Rattle.switch_model.specs.Marks.{IsTrueReason, sent_writes, written_key}
use Rattle.switch_model.specs.Placed.{bare, bare_rows}
use Rattle.switch_model.specs.declared.wait.Wait.{Wait}
use Rattle.switch_model.specs.declared.wait.Wait.TheVariants as wait
use Rattle.producer_table.specs.Pending.{PendingKeys}
use Rattle.switch_machine.specs.Events.{AreAnswers, IsQuiet, IsSafe, SwitchState, after_answers, fresh_view}
use Rattle.switch_machine.specs.Written.{HasWrittenRows, IsTold, Written, good_of}
use Rattle.switch_machine.proofs.Placing.{row_of}
use Rattle.switch_machine.proofs.Reasoned.{reason-true}
use Rattle.switch_machine.proofs.Runs.{safe-fresh}
use Rattle.machine_laws.proofs.Sharing.{written-once}
use Rattle.restart_laws.specs.Restored.{IsBrought, IsPass, keys_waiting, waiting_of}
use Rattle.switch_machine.proofs.Kept.{kept_drops}
use Rattle.restart_laws.proofs.Passing.{alone-keeps, drops-quiet}
use Rattle.restart_laws.proofs.Rising.{pass-rising}
use Rattle.sync_tables.specs.Tables.{written_in}
use Rattle.session_laws.specs.Core.{CoreState}
use Rattle.session_laws.specs.Standing.{IsWorking}
use Rattle.session_laws.specs.Service.Built.{IsBuilt, over_view}
use Rattle.session_laws.specs.Service.Standing.{written_of}
use Rattle.round_laws.specs.Named.{keys_named}
use Rattle.round_laws.proofs.Named.{few-among, named-sorted, of-named}
use Rattle.round_laws.proofs.ToSync.{good_named}

-- ---- a key that waits in a pass

module _ (plan : Ports) (is : IsPlan plan) (capacities : List ℕ) (taken : List Sent) where
  -- a key with a reason has a good row, or an applied one that was good once
  reason_named : (s : SwitchState) (k : Key) (w : Wait) → IsSafe plan 4 capacities s → s.written.taken ≡ sent_writes taken → IsTrueReason plan capacities (good_of plan s.written) (bare_rows s.machine.board.applied) k w → IsIn k (keys_named taken)
  reason_named s k (wait.Missing name) safe same (row, good, first) = good_named plan s.written taken k row safe.dated same good
  reason_named s k (wait.Held holder) safe same (to_go, row, there, held) =
      let x = row_of (s.machine.board.applied k) row there in
      of-named taken k (subst (λ (z : List Write). IsIn k (map written_key z)) same (written-once plan s.written.taken k (bare x.0) (safe.good k x.0 (inl x.1))))
  reason_named s k (wait.NoRoom kind) safe same (row, good, named, over) = good_named plan s.written taken k row safe.dated same good
  reason_named s k (wait.Busy worker) safe same h = absurd h

  answers_written : (s : SwitchState) (answers : List (Call Rid × SwitchState)) → AreAnswers plan 4 s answers → (after_answers s answers).written ≡ s.written
  answers_written s [] run = refl
  answers_written s (a ∷ rest) run = answers_written a.1 rest run.1 ∙ run.0.written

  brought_written : (s mid : SwitchState) (k : Key) → IsBrought plan 4 capacities s k mid → mid.written ≡ s.written
  brought_written s mid k (inl x) = x.0.written
  brought_written s mid k (inr x) = ap (λ (z : SwitchState). z.written) x.ends ∙ answers_written x.first x.answers x.run ∙ x.starting.written

  brought_keeps : (s mid : SwitchState) (k : Key) → IsSafe plan 4 capacities s → IsQuiet s → IsBrought plan 4 capacities s k mid → IsSafe plan 4 capacities mid × IsQuiet mid
  brought_keeps s mid k safe quiet (inl x) = (kept_drops plan is 4 capacities s mid safe x.0, drops-quiet plan is 4 capacities s mid quiet x.0)
  brought_keeps s mid k safe quiet (inr x) = (alone-keeps plan is 4 capacities s mid k safe x, x.quiet)

  pass_named : (s t : SwitchState) (ks : List Key) (waits : List (Key × Wait)) → IsSafe plan 4 capacities s → IsQuiet s → s.written.taken ≡ sent_writes taken → IsPass plan 4 capacities s ks waits t → (q : Key) → IsIn q (keys_waiting waits) → IsIn q (keys_named taken)
  pass_named s t [] waits safe quiet same x q i = absurd (subst (λ l. IsIn q (keys_waiting l)) x.0 i)
  pass_named s t (k ∷ ks) waits safe quiet same (inr (mid, x, rest)) q i =
      let y = brought_keeps s mid k safe quiet x in
      pass_named mid t ks waits y.0 y.1 (ap (λ (z : Written). z.taken) (brought_written s mid k x) ∙ same) rest q i
  pass_named s t (k ∷ ks) waits safe quiet same (inl x) q i = by (pass_named s t ks x.0.rest safe quiet same x.1 q) (subst (λ l. IsIn q (keys_waiting l)) x.0.is i)
    where
      by : (IsIn q (keys_waiting x.0.rest) → IsIn q (keys_named taken)) → IsIn q (keys_waiting ((k, x.0.wait) ∷ x.0.rest)) → IsIn q (keys_named taken)
      by rest (inl e) = subst (λ z. IsIn z (keys_named taken)) (sym e) (reason_named s k x.0.wait safe same (reason-true plan is 4 capacities s safe quiet k x.0.wait x.0.reason))
      by rest (inr j) = rest j

-- ---- of a building that has come to its end

pub waiting_keys : (ws : List (Key × Wait)) → map (λ w. w.0) (waiting_of ws) ≡ keys_waiting ws
waiting_keys [] = refl
waiting_keys (w ∷ ws) = ap (λ l. w.0 ∷ l) (waiting_keys ws)

waiting_long : (ws : List (Key × Wait)) → length (waiting_of ws) ≡ length ws
waiting_long [] = refl
waiting_long (w ∷ ws) = let rest = waiting_long ws in omega (arith, rest)

module _ (first built : CoreState) (x : IsBuilt first built []) where
  abbrev own : SwitchState
  own = x.own.service.core

  its : IsWorking (over_view built x.over.view) x.own_chip own
  its = x.over.session.working refl

  plan_is : IsPlan first.board.plan
  plan_is = subst (λ (p : Ports). IsPlan p) x.beside.plan x.over.session.plan

  abbrev told_by : Rows → PendingKeys → Written
  told_by rows waiting = written_in (sent_writes first.log.taken) (record { rows = rows; waiting = waiting; ops = [] })

  written_is : own.written ≡ written_of first
  written_is =
      x.over.session.written
      ∙ ap (λ (h : History). written_in (sent_writes h.taken) built.tables) x.beside.log
      ∙ ap (λ (r : Rows). told_by r built.tables.waiting) x.beside.rows
      ∙ ap (λ (w : PendingKeys). told_by first.tables.rows w) x.beside.popped

  pass : IsPass first.board.plan 4 first.sync.capacities (fresh_view (written_of first) x.keys) x.keys x.waits own
  pass = subst (λ l. IsPass first.board.plan 4 first.sync.capacities (fresh_view (written_of first) x.keys) x.keys l own) (append-nil x.waits) (x.pass [] own (refl, refl))

  safe : IsSafe first.board.plan 4 first.sync.capacities (fresh_view (written_of first) x.keys)
  safe = safe-fresh first.board.plan plan_is 4 first.sync.capacities (written_of first) x.keys (subst (λ (w : Written). IsTold w) written_is its.stands.safe.told) (subst (λ (w : Written). HasWrittenRows w) written_is its.stands.safe.dated) x.all

  no_flights : IsQuiet (fresh_view (written_of first) x.keys)
  no_flights w f at = cc

  pub listed-named : (k : Key) → IsIn k (keys_waiting x.waits) → IsIn k (keys_named first.log.taken)
  listed-named k i = pass_named first.board.plan plan_is first.sync.capacities first.log.taken (fresh_view (written_of first) x.keys) own x.keys x.waits safe no_flights refl pass k i

  pub listed-few : length x.waits ≤ length (keys_named first.log.taken)
  listed-few =
      let few = few-among (map (λ w. w.0) (waiting_of x.waits)) (keys_named first.log.taken)
      (pass-rising first.board.plan 4 first.sync.capacities (fresh_view (written_of first) x.keys) own x.keys x.waits x.rising pass)
      (named-sorted first.log.taken) (λ k i. listed-named k (subst (IsIn k) (waiting_keys x.waits) i)) in
      let long = length-map (waiting_of x.waits) (λ w. w.0) in
      let same = waiting_long x.waits in
      omega (arith, few, long, same)
