-- what is due in a session, and what its mark would say
use Rattle.std.proofs.Common.{◌≡◌, ◌⊎◌, ◌<◌, ◌≤◌, ◌∷◌, ◌++◌, ◌∙◌, inl, inr, ℕ, List, [], length, map, Option, None, Some, IsSome, refl, sym, ap, subst, arith}
use Rattle.std.specs.List.Sorted.{IsStrictlySortedBy}
use Rattle.std.specs.Map.{keys_of}
use Rattle.std.proofs.lemmas.List.{length-map}
use Rattle.table_schema.specs.Key.{key_cmp}
use Rattle.table_schema.specs.Plan.{IsPlan, Ports}
use Rattle.table_schema.specs.declared.key.Key.{Key}
use Rattle.sai_types.specs.declared.ids.Rid.{Rid}
use Rattle.sai_types.specs.declared.body.Call.{Call}
use Rattle.sai_types.specs.declared.plan.PlanCall.{PlanCall}
use Rattle.sai_types.specs.After.{chip_after}
use Rattle.sai_types.specs.Alike.{IsIn}
use Rattle.sai_types.specs.ChipState.{ChipState}
use Rattle.sai_types.specs.Refusal.{IsLegal}
use Rattle.switch_model.specs.History.{History, with_end, with_mark}
use Rattle.switch_model.specs.Marks.{AreInOrder, Waiting}
use Rattle.switch_model.specs.Placed.{bare_rows}
use Rattle.switch_model.specs.Promises.{AreTrueMarks, IsSettled, IsTrueMark}
use Rattle.switch_model.specs.declared.mark.Mark.{Mark}
use Rattle.switch_model.specs.declared.mark.MarkEvent.TheVariants as event
use Rattle.consumer_table.specs.Ops.{AreOpsInOrder}
use Rattle.row_layout.specs.Operations.{Change}
use Rattle.switch_machine.specs.Events.{IsDueCall, SwitchState}
use Rattle.switch_machine.specs.Next.{MustWait}
use Rattle.switch_machine.proofs.Reasoned.{has-call}
use Rattle.machine_laws.specs.Logged.{AreListed, ListsKey, LogsMark}
use Rattle.machine_laws.proofs.Staying.{chip_after-all}
use Rattle.registry_laws.proofs.Core.Resting.{none_flies}
use Rattle.registry_laws.specs.Flown.{Flown, flight_of}
use Rattle.syncd_core.specs.Run.{tied_calls}
use Rattle.restart_laws.specs.Logged.{LoggedService, OfMachine, last_mark, mark_now, switch_of}
use Rattle.restart_laws.specs.Service.{OfFlight, OfPlan}
use Rattle.restart_laws.proofs.Holding.{due-legal}
use Rattle.restart_laws.proofs.Logged.{told-step}
use Rattle.sync_tables.specs.Tables.{IsToSync}
use Rattle.flight_board.specs.Board.{flown_at}
use Rattle.warm_state.specs.declared.warm.Warm.TheVariants as warm
use Rattle.retry_list.proofs.Keyed.{sorted_from_rising}
use Rattle.session_laws.specs.Core.{CoreState}
use Rattle.session_laws.specs.Events.{HaveReasons}
use Rattle.session_laws.specs.Standing.{IsSessionOf, IsWorking}
use Rattle.session_laws.proofs.Marking.{popped}
use Rattle.session_laws.proofs.Seeing.{keys_same, same_keys}
use Rattle.session_laws.specs.Service.Standing.{IsApplyingCore}
use Rattle.session_laws.proofs.Service.Sessions.{session-of}
use Rattle.round_laws.specs.Awaited.{AwaitsCall, AwaitsMark, HasRecorded}
use Rattle.round_laws.specs.Named.{keys_named}
use Rattle.round_laws.specs.Sessions.{HasComeAbout, InSession}
use Rattle.round_laws.proofs.Named.{few-among, named-sorted}
use Rattle.round_laws.proofs.Sessions.{told}
use Rattle.round_laws.proofs.ToSync.{came-synced, keys-named, not_suspect}

-- the session came about, with the log and the effects of the core and its chip
pub session-recorded : {workers : ℕ} (c : CoreState) (chip : ChipState) (x : InSession workers c chip) → HasRecorded workers c.board.plan c.sync.capacities c.log chip.effects x.session
session-recorded c chip x = record { came = x.came; log_is = x.stands.always.log; effects_are = x.stands.always.effects }

-- ---- a call

module _ {workers : ℕ} (c : CoreState) (chip : ChipState) (x : InSession workers c chip) (at : c.warm ≡ warm.Reconciled) where
  abbrev core : SwitchState
  core = x.session.service.core

  abbrev its : IsWorking c chip core
  its = (x.stands.working at).1

  -- a worker that has something under way has a call that is due
  due_for : (w : ℕ) (f : Flown) → w < 4 → flown_at c.board w ≡ Some f → (call : Call Rid) × IsDueCall 4 call core
  due_for w f below there = by (core.machine.due w) refl
    where
      flying : core.machine.board.flights w ≡ Some (flight_of f.operation)
      flying = (its.stands.board.flying w f there).flying

      by : (due : List Change) → core.machine.due w ≡ due → (call : Call Rid) × IsDueCall 4 call core
      by [] e = absurd (its.stands.board.busy w (flight_of f.operation) flying e)
      by (d ∷ ds) e = has-call c.board.plan x.stands.always.plan 4 c.sync.capacities core its.stands.safe w (flight_of f.operation) d ds below flying e

  pub call-awaited : (w : ℕ) → w < 4 → IsSome (flown_at c.board w) → AwaitsCall x.session
  call-awaited w below some = by (flown_at c.board w) refl some
    where
      by : (o : Option Flown) → flown_at c.board w ≡ o → IsSome o → AwaitsCall x.session
      by None e h = absurd cc
      by (Some f) e h = let y = due_for w f below e in record { call = y.0; due = OfFlight (x.stands.always.warm_is ∙ at) y.1 }

-- the next call of a plan is due
module _ {workers : ℕ} (c : CoreState) (chip : ChipState) (x : InSession workers c chip) (at : c.warm ≡ warm.Applying) where
  applies : IsApplyingCore c x.session.service
  applies = (x.stands.applying at).1

  pub apply-awaited : (next : PlanCall) (rest : List PlanCall) → c.sync.left ≡ next ∷ rest → AwaitsCall x.session
  apply-awaited next rest left = record { call = _; due = OfPlan _ (x.stands.always.warm_is ∙ at) (applies.underway.left_are ∙ ap (tied_calls x.session.service.core.made c.sync.view) left) }

pub awaited-legal : {workers : ℕ} (plan : Ports) (capacities : List ℕ) (log : History) (effects : List (Call Rid)) (s : LoggedService) → IsPlan plan → HasRecorded workers plan capacities log effects s → (x : AwaitsCall s) → IsLegal capacities (chip_after effects (length effects)) x.call
awaited-legal plan capacities log effects s is recorded x =
    let t = told plan is capacities s recorded.came in
    subst (λ es. IsLegal capacities (chip_after es (length es)) x.call) recorded.effects_are
    (subst (λ o. IsLegal capacities o x.call) (t.tells.objects ∙ sym (chip_after-all s.effects)) (due-legal plan is 4 capacities s.service x.call t.holds x.due).0)

-- ---- a mark

module _ {workers : ℕ} (c : CoreState) (chip : ChipState) (x : InSession workers c chip) (at : c.warm ≡ warm.Reconciled) (none : c.tables.waiting ≡ []) (rest : (v : ℕ) → v < 4 → flown_at c.board v ≡ None) where
  its_rows : IsWorking c chip x.session.service.core
  its_rows = (x.stands.working at).1

  its_session : IsSessionOf c chip x.session
  its_session = session-of c chip x.session x.stands at

  listing : (waits : Waiting) → HaveReasons c x.session.service.core waits → AreListed c.board.plan 4 c.sync.capacities x.session.service.core waits
  listing [] h = tt
  listing (w ∷ ws) h = (h.0, h.1 ∙ sym (its_rows.rows w.0), listing ws h.2)

  awaits : (waits : Waiting) → AreListed c.board.plan 4 c.sync.capacities x.session.service.core waits → ((k : Key) → IsToSync c.tables k → ListsKey k waits) → ((k : Key) → ListsKey k waits → IsToSync c.tables k) → AreInOrder waits → AwaitsMark c.board.plan c.sync.capacities x.session waits
  awaits waits listed all only order = record {
    warm = x.stands.always.warm_is ∙ at;
    quiet = none_flies c.board.plan c.sync.capacities c.board.names c.board.room (flown_at c.board) x.session.service.core its_rows.stands.board rest;
    popped = popped c chip x.session its_session at none;
    listed = listed;
    all = λ k i. all k (same_keys c chip x.session its_session k i);
    only = λ k i. keys_same c chip x.session its_session k (only k i);
    in_order = order;
  }

  pub mark-awaited : (waits : Waiting) → HaveReasons c x.session.service.core waits → ((k : Key) → IsToSync c.tables k → ListsKey k waits) → ((k : Key) → ListsKey k waits → IsToSync c.tables k) → AreInOrder waits → AwaitsMark c.board.plan c.sync.capacities x.session waits
  mark-awaited waits reasons all only order = awaits waits (listing waits reasons) all only order

  -- the list of keys that have reasons
  module _ (must : (k : Key) → IsToSync c.tables k → MustWait c.board.plan 4 c.sync.capacities x.session.service.core k) where
    record ListOf (keys : List Key) : Type 0 where
      waits : Waiting
      keys_are : map (λ w. w.0) waits ≡ keys
      listed : AreListed c.board.plan 4 c.sync.capacities x.session.service.core waits

    list_of : (keys : List Key) → ((k : Key) → IsIn k keys → IsToSync c.tables k) → ListOf keys
    list_of [] there = record { waits = []; keys_are = refl; listed = tt }
    list_of (k ∷ ks) there =
        let rest = list_of ks (λ q i. there q (inr i)) in
        let reason = must k (there k (inl refl)) in
        record {
          waits = (k, reason.0, bare_rows x.session.service.core.machine.board.applied k) ∷ rest.waits;
          keys_are = ap (λ z. k ∷ z) rest.keys_are;
          listed = (reason.1, refl, rest.listed);
        }

pub lists-in : (waits : Waiting) (k : Key) → IsIn k (map (λ w. w.0) waits) → ListsKey k waits
lists-in [] k i = absurd i
lists-in (w ∷ ws) k (inl is) = inl (sym is)
lists-in (w ∷ ws) k (inr i) = inr (lists-in ws k i)

pub listed-in : (waits : Waiting) (k : Key) → ListsKey k waits → IsIn k (map (λ w. w.0) waits)
listed-in [] k i = absurd i
listed-in (w ∷ ws) k (inl is) = inl (sym is)
listed-in (w ∷ ws) k (inr i) = inr (listed-in ws k i)

pub keys-awaited : {workers : ℕ} (c : CoreState) (chip : ChipState) (x : InSession workers c chip) → c.warm ≡ warm.Reconciled → c.tables.waiting ≡ [] → ((v : ℕ) → v < 4 → flown_at c.board v ≡ None) → AreOpsInOrder c.tables.ops → ((k : Key) → IsToSync c.tables k → MustWait c.board.plan 4 c.sync.capacities x.session.service.core k) → (waits : Waiting) × (length waits ≡ length c.tables.ops) × AwaitsMark c.board.plan c.sync.capacities x.session waits
keys-awaited c chip x at none rest order must =
    let keys = keys_of c.tables.ops in
    let y = list_of c chip x at none rest must keys (λ k i. i) in (
      y.waits,
      sym (length-map y.waits (λ w. w.0)) ∙ ap length y.keys_are ∙ length-map c.tables.ops (λ e. e.0),
      awaits c chip x at none rest y.waits y.listed (λ k i. lists-in y.waits k (subst (IsIn k) (sym y.keys_are) i)) (λ k i. subst (IsIn k) y.keys_are (listed-in y.waits k i)) (subst (IsStrictlySortedBy key_cmp) (sym y.keys_are) (sorted_from_rising c.tables.ops order.keys)),
    )

-- the keys that such a mark lists were named
pub awaited-few : {workers : ℕ} (plan : Ports) (capacities : List ℕ) (log : History) (effects : List (Call Rid)) (s : LoggedService) (waits : Waiting) → IsPlan plan → HasRecorded workers plan capacities log effects s → AwaitsMark plan capacities s waits → length waits ≤ length (keys_named log.taken)
awaited-few plan capacities log effects s waits is recorded x =
    let few = few-among (map (λ w. w.0) waits) (keys_named log.taken) x.in_order (named-sorted log.taken)
    (λ k i. subst (λ (z : History). IsIn k (keys_named z.taken)) recorded.log_is (came-synced plan is capacities s recorded.came (not_suspect s.service.warm x.warm) k (x.only k (lists-in waits k i)))) in
    let long = length-map waits (λ w. w.0) in
    omega (arith, few, long)

pub ops-few : {workers : ℕ} (c : CoreState) (chip : ChipState) → InSession workers c chip → (c.warm ≡ warm.Reconciled) ⊎ (c.warm ≡ warm.Applying) → AreOpsInOrder c.tables.ops → length c.tables.ops ≤ length (keys_named c.log.taken)
ops-few c chip x known order =
    let few = few-among (keys_of c.tables.ops) (keys_named c.log.taken) (sorted_from_rising c.tables.ops order.keys) (named-sorted c.log.taken) (keys-named c chip x known) in
    let long = length-map c.tables.ops (λ e. e.0) in
    omega (arith, few, long)

-- ---- what it would say

-- the last of true marks is true
pub last-true : (plan : Ports) (capacities : List ℕ) (log : History) (effects : List (Call Rid)) (before : Option Mark) (marks : List Mark) (mark : Mark) → AreTrueMarks plan capacities log.taken effects before (marks ++ mark ∷ []) → IsTrueMark plan capacities log.taken effects (last_mark before marks) mark mark.event
last-true plan capacities log effects before [] mark h = h.0
last-true plan capacities log effects before (m ∷ marks) mark h = last-true plan capacities log effects (Some m) marks mark h.1

module _ {workers : ℕ} (plan : Ports) (is : IsPlan plan) (capacities : List ℕ) (s : LoggedService) (came : HasComeAbout workers plan capacities s) (waits : Waiting) (turns : ℕ) where
  abbrev mark : Mark
  mark = mark_now s.log s.effects (event.Settled waits turns)

  abbrev marked : LoggedService
  marked = record { service = s.service; log = with_end (with_mark s.log mark); effects = s.effects }

  marked_true : LogsMark plan 4 capacities (switch_of s) (switch_of marked) → s.service.warm ≡ warm.Reconciled → IsSettled plan capacities s.log.taken s.effects mark waits
  marked_true x at = last-true plan capacities s.log s.effects None s.log.marks mark (told-step plan is 4 capacities s marked (told plan is capacities s came) (OfMachine at at (inr (inr x)))).tells.marks

pub awaited-true : {workers : ℕ} (plan : Ports) (capacities : List ℕ) (log : History) (effects : List (Call Rid)) (s : LoggedService) (waits : Waiting) (turns : ℕ) → IsPlan plan → HasRecorded workers plan capacities log effects s → AwaitsMark plan capacities s waits → IsSettled plan capacities log.taken effects (mark_now log effects (event.Settled waits turns)) waits
awaited-true plan capacities log effects s waits turns is recorded x =
    subst (λ (h : History). IsSettled plan capacities h.taken effects (mark_now h effects (event.Settled waits turns)) waits) recorded.log_is
    (subst (λ es. IsSettled plan capacities s.log.taken es (mark_now s.log es (event.Settled waits turns)) waits) recorded.effects_are
    (marked_true plan is capacities s recorded.came waits turns (record {
      quiet = x.quiet;
      popped = x.popped;
      waits = waits;
      turns = turns;
      listed = x.listed;
      all = x.all;
      in_order = x.in_order;
      switch = refl;
      log = refl;
      effects = refl;
    }) x.warm))
