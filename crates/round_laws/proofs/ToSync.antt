-- the keys to sync of a session were named by writes
use Rattle.std.proofs.Common.{◌≡◌, ◌⊎◌, ◌∷◌, ◌++◌, ◌∙◌, inl, inr, ℕ, List, [], map, Option, None, Some, refl, sym, ap, subst}
use Rattle.table_schema.specs.Plan.{IsPlan, Ports}
use Rattle.table_schema.specs.declared.key.Key.{Key}
use Rattle.table_schema.specs.declared.row.Row.{Row}
use Rattle.table_schema.specs.declared.write.Sent.{Sent}
use Rattle.sai_types.specs.declared.ids.Rid.{Rid}
use Rattle.sai_types.specs.declared.body.Call.{Call}
use Rattle.sai_types.specs.Alike.{IsIn}
use Rattle.sai_types.specs.ChipState.{ChipState}
use Rattle.switch_model.specs.Good.{TypedRows, good_row}
use Rattle.switch_model.specs.History.{History}
use Rattle.switch_model.specs.Marks.{IsTrueReason, sent_writes, written_key}
use Rattle.switch_model.specs.Placed.{bare_rows}
use Rattle.switch_model.specs.declared.wait.Wait.{Wait}
use Rattle.switch_model.specs.declared.wait.Wait.TheVariants as wait
use Rattle.switch_machine.specs.Events.{IsEvent, IsPop, IsTake, Popped, PopsKey, Stays, SwitchState}
use Rattle.switch_machine.specs.Written.{HasNoWrite, HasWrittenRows, Written, good_of}
use Rattle.switch_machine.proofs.Splits.{IsSplit, key_split}
use Rattle.machine_laws.specs.Logged.{IsLoggedEvent}
use Rattle.machine_laws.proofs.Sharing.{fields_beside, written-once}
use Rattle.machine_laws.proofs.Unnamed.{one_more_differs}
use Rattle.restart_laws.specs.Logged.{AddsFault, AreLoggedSteps, IsLoggedStep, LoggedService, OfMachine, OfService, Records, new_session, session_after, switch_of}
use Rattle.restart_laws.specs.Restored.{keys_waiting}
use Rattle.restart_laws.specs.Service.{IsServiceEvent, OfApply, OfFault, OfFinish, OfList, OfListFault, OfRestart, OfRestore, OfTake, OfWork, Restores}
use Rattle.restart_laws.proofs.Logged.{IsToldLog, told-first, told-step}
use Rattle.restart_laws.proofs.Restoring.{restored-waits, restored-written}
use Rattle.sync_tables.specs.Tables.{IsToSync}
use Rattle.warm_state.specs.declared.warm.Warm.{Warm}
use Rattle.warm_state.specs.declared.warm.Warm.TheVariants as warm
use Rattle.session_laws.specs.Core.{CoreState}
use Rattle.session_laws.specs.Service.Standing.{IsExact}
use Rattle.round_laws.specs.Named.{keys_named}
use Rattle.round_laws.specs.Sessions.{HasComeAbout, InSession}
use Rattle.round_laws.proofs.Named.{named-front, named-last, of-named}

-- each key of which a write waits was named, and each key to sync, unless the state is not known
record AreNamed (known : Type 0) (s : SwitchState) (taken : List Sent) : Type 0 where
  to_sync : known → (k : Key) → IsIn k s.to_sync → IsIn k (keys_named taken)
  waiting : (k : Key) → (HasNoWrite s.written k → ⊥) → IsIn k (keys_named taken)

-- ---- a write

waits_more : (s t : SwitchState) (taken : List Sent) (sent : Sent) (x : IsTake s t) → x.write ≡ sent.write → ((k : Key) → (HasNoWrite s.written k → ⊥) → IsIn k (keys_named taken)) → (k : Key) → (HasNoWrite t.written k → ⊥) → IsIn k (keys_named (taken ++ sent ∷ []))
waits_more s t taken sent x same before k some = by (key_split (written_key x.write) k)
  where
    by : IsSplit (written_key x.write) k → IsIn k (keys_named (taken ++ sent ∷ []))
    by (inl is) = subst (λ q. IsIn q (keys_named (taken ++ sent ∷ []))) (ap written_key (sym same) ∙ is) (named-last taken sent)
    by (inr apart) = named-front taken (sent ∷ []) k (before k (λ none. some (λ o. x.taken.waiting k o ∙ fields_beside x.write k (s.written.waiting k o) apart ∙ none o)))

named_take : (known : Type 0) (s t : SwitchState) (taken : List Sent) (sent : Sent) (x : IsTake s t) → x.write ≡ sent.write → AreNamed known s taken → AreNamed known t (taken ++ sent ∷ [])
named_take known s t taken sent x same h = record {
  to_sync = λ v k at. named-front taken (sent ∷ []) k (h.to_sync v k (subst (IsIn k) x.to_sync at));
  waiting = waits_more s t taken sent x same h.waiting;
}

-- ---- other events of the machine

named_pop : (s t : SwitchState) (taken : List Sent) → IsPop s t → AreNamed (Unit {0}) s taken → AreNamed (Unit {0}) t taken
named_pop s t taken x h = record { to_sync = λ v k at. synced k (x.keys k) at; waiting = λ k some. waits k (x.keys k) some }
  where
    synced : (k : Key) → PopsKey s t k → IsIn k t.to_sync → IsIn k (keys_named taken)
    synced k (Stays same gone) at = h.to_sync tt k (gone at)
    synced k (Popped some popped there) at = h.waiting k some

    waits : (k : Key) → PopsKey s t k → (HasNoWrite t.written k → ⊥) → IsIn k (keys_named taken)
    waits k (Stays same gone) some = h.waiting k (λ none. some (λ o. same.waiting o ∙ none o))
    waits k (Popped one popped there) some = absurd (some popped.none)

named_less : (known : Type 0) (s t : SwitchState) (taken : List Sent) → t.written ≡ s.written → ((k : Key) → IsIn k t.to_sync → IsIn k s.to_sync) → AreNamed known s taken → AreNamed known t taken
named_less known s t taken written fewer h = record {
  to_sync = λ v k at. h.to_sync v k (fewer k at);
  waiting = λ k some. h.waiting k (λ none. some (subst (λ z. HasNoWrite z k) (sym written) none));
}

pub not_suspect : (w : Warm) → w ≡ warm.Reconciled → w ≡ warm.Suspect → ⊥
not_suspect w a b = two (sym a ∙ b)
  where
    two : warm.Reconciled ≡ warm.Suspect → ⊥
    two e = cc

module _ (plan : Ports) (capacities : List ℕ) where
  named_event : (s t : SwitchState) (taken : List Sent) (c : Option (Call Rid)) → IsEvent plan 4 capacities s c t → t.written.taken ≡ s.written.taken → AreNamed (Unit {0}) s taken → AreNamed (Unit {0}) t taken
  named_event s t taken None (inl x) same h = absurd (one_more_differs s.written.taken x.write (sym x.taken.taken ∙ same))
  named_event s t taken None (inr (inl x)) same h = named_pop s t taken x h
  named_event s t taken None (inr (inr (inl x))) same h = named_less (Unit {0}) s t taken x.written x.to_sync.only h
  named_event s t taken None (inr (inr (inr x))) same h = named_less (Unit {0}) s t taken x.written x.to_sync.only h
  named_event s t taken (Some call) x same h = named_less (Unit {0}) s t taken x.written (λ k at. subst (IsIn k) x.to_sync at) h

  abbrev IsKnown : LoggedService → Type 0
  IsKnown s = s.service.warm ≡ warm.Suspect → ⊥

  abbrev AreNamedIn : LoggedService → Type 0
  AreNamedIn s = AreNamed (IsKnown s) s.service.core s.log.taken

  weaker : (A B : Type 0) (s : SwitchState) (taken : List Sent) → (B → A) → AreNamed A s taken → AreNamed B s taken
  weaker A B s taken f h = record { to_sync = λ v k at. h.to_sync (f v) k at; waiting = h.waiting }

  by_log : (known : Type 0) (s : SwitchState) (log log' : History) → log' ≡ log → AreNamed known s log.taken → AreNamed known s log'.taken
  by_log known s log log' same h = subst (λ z. AreNamed known s z.taken) (sym same) h

  named_machine : (s t : LoggedService) → s.service.warm ≡ warm.Reconciled → t.service.warm ≡ warm.Reconciled → IsLoggedEvent plan 4 capacities (switch_of s) (switch_of t) → AreNamedIn s → AreNamedIn t
  named_machine s t before after e h = weaker (Unit {0}) (IsKnown t) t.service.core t.log.taken (λ v. tt) (by e)
    where
      h' : AreNamed (Unit {0}) s.service.core s.log.taken
      h' = weaker (IsKnown s) (Unit {0}) s.service.core s.log.taken (λ v. not_suspect s.service.warm before) h

      by : IsLoggedEvent plan 4 capacities (switch_of s) (switch_of t) → AreNamed (Unit {0}) t.service.core t.log.taken
      by (inl x) = subst (λ z. AreNamed (Unit {0}) t.service.core z.taken) (sym x.log) (named_take (Unit {0}) s.service.core t.service.core s.log.taken x.sent x.takes x.same h')
      by (inr (inl x)) = by_log (Unit {0}) t.service.core s.log t.log x.log (named_event s.service.core t.service.core s.log.taken x.call x.event x.taken h')
      by (inr (inr x)) = subst (λ z. AreNamed (Unit {0}) t.service.core z.taken) (sym x.log) (subst (λ z. AreNamed (Unit {0}) z s.log.taken) (sym x.switch) h')

-- ---- what is restored

reads : (plan : Ports) (capacities : List ℕ) (good applied : TypedRows) (k : Key) (w : Wait) → applied k ≡ None → IsTrueReason plan capacities good applied k w → (row : Row) × (good k ≡ Some row)
reads plan capacities good applied k (wait.Missing name) none (row, is, first) = (row, is)
reads plan capacities good applied k (wait.Held holder) none (to_go, row, there, held) = absurd (two row (sym none ∙ there))
  where
    two : (r : Row) → None ≡ Some r → ⊥
    two r e = cc
reads plan capacities good applied k (wait.NoRoom kind) none (row, is, has, over) = (row, is)
reads plan capacities good applied k (wait.Busy worker) none h = absurd h

waiting_in : (ws : List (Key × Wait)) (k : Key) → IsIn k (keys_waiting ws) → (w : Wait) × IsIn (k, w) ws
waiting_in [] k at = absurd at
waiting_in ((q, w) ∷ ws) k (inl is) = (w, inl (ap (λ (z : Key). (z, w)) is))
waiting_in ((q, w) ∷ ws) k (inr at) = let x = waiting_in ws k at in (x.0, inr x.1)

-- a key with a good row was named
pub good_named : (plan : Ports) (written : Written) (taken : List Sent) (k : Key) (row : Row) → HasWrittenRows written → written.taken ≡ sent_writes taken → good_of plan written k ≡ Some row → IsIn k (keys_named taken)
good_named plan written taken k row dated same good =
    let x = dated k in
    of-named taken k (subst (λ z. IsIn k (map written_key z)) same (written-once plan written.taken k row (x.0, x.1, ap (good_row plan k) (sym x.2) ∙ good)))

module _ (plan : Ports) (is : IsPlan plan) (capacities : List ℕ) where
  restored_named : (s t : LoggedService) (x : Restores plan 4 capacities s.service t.service) → IsToldLog plan is 4 capacities s → IsToldLog plan is 4 capacities t → AreNamedIn plan capacities t
  restored_named s t x before after = record {
    to_sync = λ v k at. by k (waiting_in x.restored.waits k (subst (IsIn k) x.to_sync at));
    waiting = λ k some. absurd (some (subst (λ z. HasNoWrite z k) (sym written) (x.restored.none k)));
  }
    where
      written : t.service.core.written ≡ x.restored.written
      written = x.written ∙ restored-written plan is 4 capacities s.service.core.written x.view before.holds.safe.told before.holds.safe.dated x.restored

      by : (k : Key) → (w : Wait) × IsIn (k, w) x.restored.waits → IsIn k (keys_named t.log.taken)
      by k (w, at) =
          let y = restored-waits plan is 4 capacities s.service.core.written x.view before.holds.safe.told before.holds.safe.dated x.restored k w at in
          let r = reads plan capacities (good_of plan x.view.written) (bare_rows x.view.machine.board.applied) k w y.absent y.reason in
          good_named plan t.service.core.written t.log.taken k r.0 after.holds.safe.dated after.tells.taken (ap (λ z. good_of plan z k) x.written ∙ r.1)

  -- ---- the events of the service

  fault_log : (s t : LoggedService) → AddsFault s t → t.log.taken ≡ s.log.taken
  fault_log s t (before, after, less, inl x) = ap (λ (z : History). z.taken) x
  fault_log s t (before, after, less, inr x) = ap (λ (z : History). z.taken) x

  same_taken : (s t : LoggedService) → t.log.taken ≡ s.log.taken → AreNamed (IsKnown plan capacities t) t.service.core s.log.taken → AreNamedIn plan capacities t
  same_taken s t same h = subst (AreNamed (IsKnown plan capacities t) t.service.core) (sym same) h

  -- where nothing but the machine changes, or what is to sync is given up
  like : (s t : LoggedService) → t.service.core.written ≡ s.service.core.written → (IsKnown plan capacities t → IsKnown plan capacities s × ((k : Key) → IsIn k t.service.core.to_sync → IsIn k s.service.core.to_sync)) → AreNamedIn plan capacities s → AreNamed (IsKnown plan capacities t) t.service.core s.log.taken
  like s t written fewer h = record {
    to_sync = λ v k at. let f = fewer v in h.to_sync f.0 k (f.1 k at);
    waiting = λ k some. h.waiting k (λ none. some (subst (λ z. HasNoWrite z k) (sym written) none));
  }

  known_as : (s : LoggedService) (w : Warm) → s.service.warm ≡ w → (w ≡ warm.Suspect → ⊥) → IsKnown plan capacities s
  known_as s w at not e = not (sym at ∙ e)

  named_service : (s t : LoggedService) (c : Option (Call Rid)) (e : IsServiceEvent plan 4 capacities s.service c t.service) → IsToldLog plan is 4 capacities s → IsToldLog plan is 4 capacities t → Records s t e → AreNamedIn plan capacities s → AreNamedIn plan capacities t
  named_service s t _ (OfTake _ x) before after (sent, same, log) h =
      subst (λ z. AreNamed (IsKnown plan capacities t) t.service.core z.taken) (sym log)
      (named_take (IsKnown plan capacities t) s.service.core t.service.core s.log.taken sent x.core same (weaker plan capacities (IsKnown plan capacities s) (IsKnown plan capacities t) s.service.core s.log.taken (λ v e. v (x.warm ∙ e)) h))
  named_service s t _ (OfWork c _ x) before after records h = absurd records
  named_service s t _ (OfFault c _ x) before after records h = same_taken s t (fault_log s t records) (like s t x.written (λ v. absurd (v x.warm)) h)
  named_service s t _ (OfListFault _ x) before after records h = same_taken s t (fault_log s t records) (like s t (ap (λ (z : SwitchState). z.written) x.core) (λ v. absurd (v x.warm)) h)
  named_service s t _ (OfRestart _ x) before after records h = same_taken s t (ap (λ (z : History). z.taken) records) (record {
    to_sync = λ v k at. absurd (subst (λ (z : SwitchState). IsIn k z.to_sync) x.core at);
    waiting = λ k some. h.waiting k (λ none. some (subst (λ (z : SwitchState). HasNoWrite z.written k) (sym x.core) none));
  })
  named_service s t _ (OfList _ x) before after records h =
      same_taken s t (ap (λ (z : History). z.taken) records) (like s t (ap (λ (z : SwitchState). z.written) x.core) (λ v. (known_as s warm.Initialized x.before (λ e. cc), λ k at. subst (λ (z : SwitchState). IsIn k z.to_sync) x.core at)) h)
  named_service s t _ (OfRestore _ x) before after records h = restored_named s t x before after
  named_service s t _ (OfApply call _ x) before after records h =
      same_taken s t (ap (λ (z : History). z.taken) records) (like s t x.written (λ v. (known_as s warm.Applying x.before (λ e. cc), λ k at. subst (IsIn k) x.to_sync at)) h)
  named_service s t _ (OfFinish _ x) before after records h =
      same_taken s t (ap (λ (z : History). z.taken) records) (like s t x.written (λ v. (known_as s warm.Applying x.before (λ e. cc), λ k at. subst (IsIn k) x.to_sync at)) h)

  named_step : (s t : LoggedService) → IsToldLog plan is 4 capacities s → IsToldLog plan is 4 capacities t → IsLoggedStep plan 4 capacities s t → AreNamedIn plan capacities s → AreNamedIn plan capacities t
  named_step s t before after (OfMachine at then e) h = named_machine plan capacities s t at then e h
  named_step s t before after (OfService c e effects records) h = named_service s t c e before after records h

  named_steps : (s : LoggedService) (ts : List LoggedService) → IsToldLog plan is 4 capacities s → AreLoggedSteps plan 4 capacities s ts → AreNamedIn plan capacities s → AreNamedIn plan capacities (session_after s ts)
  named_steps s [] told run h = h
  named_steps s (t ∷ ts) told run h =
      let after = told-step plan is 4 capacities s t told run.0 in
      named_steps t ts after run.1 (named_step s t told after run.0 h)

  named_first : AreNamedIn plan capacities new_session
  named_first = record { to_sync = λ v k at. absurd at; waiting = λ k some. absurd (some (λ o. refl)) }

  came_named : {workers : ℕ} (s : LoggedService) → HasComeAbout workers plan capacities s → AreNamedIn plan capacities s
  came_named s x = subst (AreNamedIn plan capacities) x.is (named_steps new_session x.steps (told-first plan is 4 capacities) x.are named_first)

  -- the keys to sync of a session that is not suspect were named
  pub came-synced : {workers : ℕ} (s : LoggedService) → HasComeAbout workers plan capacities s → (s.service.warm ≡ warm.Suspect → ⊥) → (k : Key) → IsIn k s.service.core.to_sync → IsIn k (keys_named s.log.taken)
  came-synced s x known k at = (came_named s x).to_sync known k at

-- ---- of the core

known_not_suspect : (w : Warm) → (w ≡ warm.Reconciled) ⊎ (w ≡ warm.Applying) → w ≡ warm.Suspect → ⊥
known_not_suspect w (inl at) e = not_suspect w at e
known_not_suspect w (inr at) e = two (sym at ∙ e)
  where
    two : warm.Applying ≡ warm.Suspect → ⊥
    two e = cc

module _ {workers : ℕ} (c : CoreState) (chip : ChipState) (x : InSession workers c chip) (known : (c.warm ≡ warm.Reconciled) ⊎ (c.warm ≡ warm.Applying)) where
  its_exact : (c.warm ≡ warm.Reconciled) ⊎ (c.warm ≡ warm.Applying) → IsExact c x.session.service.core
  its_exact (inl at) = (x.stands.working at).0
  its_exact (inr at) = (x.stands.applying at).0

  pub keys-named : (k : Key) → IsToSync c.tables k → IsIn k (keys_named c.log.taken)
  keys-named k at =
      subst (λ (z : History). IsIn k (keys_named z.taken)) x.stands.always.log
      (came-synced c.board.plan x.stands.always.plan c.sync.capacities x.session x.came (λ e. known_not_suspect c.warm known (sym x.stands.always.warm_is ∙ e)) k (subst (IsIn k) (sym (its_exact known).to_sync) at))
