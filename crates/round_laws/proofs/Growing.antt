-- steps only add to the log and to the effects
use Rattle.std.proofs.Common.{◌≡◌, ◌+◌, ◌≤◌, ◌∷◌, ◌++◌, ◌∙◌, inl, inr, ℕ, List, [], length, Option, None, Some, refl, sym, ap, arith}
use Rattle.std.proofs.lemmas.List.{append-nil, append_assoc, length-append}
use Rattle.table_schema.specs.Plan.{Ports}
use Rattle.table_schema.specs.declared.write.Sent.{Sent}
use Rattle.sai_types.specs.declared.ids.Rid.{Rid}
use Rattle.sai_types.specs.declared.body.Call.{Call}
use Rattle.sai_types.specs.ChipState.{ChipState}
use Rattle.switch_model.specs.History.{History, with_end, with_mark, with_write}
use Rattle.switch_model.specs.declared.mark.Mark.{Mark}
use Rattle.switch_machine.specs.Events.{AreEvents, IsEvent, SwitchState, calls_of, with_made_call}
use Rattle.machine_laws.specs.Logged.{IsLoggedEvent}
use Rattle.machine_laws.proofs.Turning.{TakeNothing}
use Rattle.warm_state.specs.declared.warm.Warm.{Warm}
use Rattle.warm_state.specs.declared.warm.Warm.TheVariants as warm
use Rattle.restart_laws.specs.Logged.{AddsFault, AreLoggedSteps, IsLoggedStep, LoggedService, OfMachine, OfService, Records, session_after, switch_of}
use Rattle.restart_laws.specs.Service.{IsServiceEvent, OfApply, OfFault, OfFinish, OfList, OfListFault, OfRestart, OfRestore, OfTake, OfWork}
use Rattle.session_laws.specs.Core.{CoreState}
use Rattle.session_laws.specs.Service.Events.{MakesMore}
use Rattle.round_laws.specs.Sessions.{InSession}

record LogGrows (g h : History) : Type 0 where
  sent : List Sent
  taken : h.taken ≡ g.taken ++ sent
  more : List Mark
  marks : h.marks ≡ g.marks ++ more
  later : List ℕ
  ends : h.ends ≡ g.ends ++ later

record Grows (s t : LoggedService) : Type 0 where
  calls : List (Call Rid)
  effects : t.effects ≡ s.effects ++ calls
  log : LogGrows s.log t.log

same_log : (g h : History) → h ≡ g → LogGrows g h
same_log g h e = record {
  sent = [];
  taken = ap (λ (z : History). z.taken) e ∙ sym (append-nil g.taken);
  more = [];
  marks = ap (λ (z : History). z.marks) e ∙ sym (append-nil g.marks);
  later = [];
  ends = ap (λ (z : History). z.ends) e ∙ sym (append-nil g.ends);
}

write_log : (g h : History) (sent : Sent) → h ≡ with_write g sent → LogGrows g h
write_log g h sent e = record {
  sent = sent ∷ [];
  taken = ap (λ (z : History). z.taken) e;
  more = [];
  marks = ap (λ (z : History). z.marks) e ∙ sym (append-nil g.marks);
  later = [];
  ends = ap (λ (z : History). z.ends) e ∙ sym (append-nil g.ends);
}

mark_log : (g h : History) (mark : Mark) → h ≡ with_mark g mark → LogGrows g h
mark_log g h mark e = record {
  sent = [];
  taken = ap (λ (z : History). z.taken) e ∙ sym (append-nil g.taken);
  more = mark ∷ [];
  marks = ap (λ (z : History). z.marks) e;
  later = [];
  ends = ap (λ (z : History). z.ends) e ∙ sym (append-nil g.ends);
}

end_log : (g h : History) (mark : Mark) → h ≡ with_end (with_mark g mark) → LogGrows g h
end_log g h mark e = record {
  sent = [];
  taken = ap (λ (z : History). z.taken) e ∙ sym (append-nil g.taken);
  more = mark ∷ [];
  marks = ap (λ (z : History). z.marks) e;
  later = length (g.marks ++ mark ∷ []) ∷ [];
  ends = ap (λ (z : History). z.ends) e;
}

fault_log : (s t : LoggedService) → AddsFault s t → LogGrows s.log t.log
fault_log s t (before, after, less, inl e) = mark_log s.log t.log _ e
fault_log s t (before, after, less, inr e) = end_log s.log t.log _ e

module _ (plan : Ports) (capacities : List ℕ) where
  recorded : (s t : LoggedService) (c : Option (Call Rid)) (e : IsServiceEvent plan 4 capacities s.service c t.service) → Records s t e → LogGrows s.log t.log
  recorded s t _ (OfTake _ x) (sent, same, log) = write_log s.log t.log sent log
  recorded s t _ (OfWork c _ x) records = absurd records
  recorded s t _ (OfFault c _ x) records = fault_log s t records
  recorded s t _ (OfListFault _ x) records = fault_log s t records
  recorded s t _ (OfRestart _ x) records = mark_log s.log t.log _ records
  recorded s t _ (OfList _ x) records = same_log s.log t.log records
  recorded s t _ (OfRestore _ x) records = mark_log s.log t.log _ records
  recorded s t _ (OfApply call _ x) records = same_log s.log t.log records
  recorded s t _ (OfFinish _ x) records = mark_log s.log t.log _ records

  machine_grows : (s t : LoggedService) → IsLoggedEvent plan 4 capacities (switch_of s) (switch_of t) → Grows s t
  machine_grows s t (inl x) = record { calls = []; effects = x.effects ∙ sym (append-nil s.effects); log = write_log s.log t.log x.sent x.log }
  machine_grows s t (inr (inl x)) = record { calls = with_made_call x.call []; effects = x.effects; log = same_log s.log t.log x.log }
  machine_grows s t (inr (inr x)) = record { calls = []; effects = x.effects ∙ sym (append-nil s.effects); log = end_log s.log t.log _ x.log }

  step_grows : (s t : LoggedService) → IsLoggedStep plan 4 capacities s t → Grows s t
  step_grows s t (OfMachine before after e) = machine_grows s t e
  step_grows s t (OfService c e effects records) = record { calls = with_made_call c []; effects = effects; log = recorded s t c e records }

  more_list : {A : Type 0} (a b c : List A) (xs ys : List A) → b ≡ a ++ xs → c ≡ b ++ ys → c ≡ a ++ (xs ++ ys)
  more_list a b c xs ys e f = f ∙ ap (λ z. z ++ ys) e ∙ append_assoc a xs ys

  steps_grow : (s : LoggedService) (ts : List LoggedService) → AreLoggedSteps plan 4 capacities s ts → Grows s (session_after s ts)
  steps_grow s [] run = record { calls = []; effects = sym (append-nil s.effects); log = same_log s.log s.log refl }
  steps_grow s (t ∷ ts) run =
      let u = session_after t ts in
      let x = step_grows s t run.0 in
      let y = steps_grow t ts run.1 in
      record {
        calls = x.calls ++ y.calls;
        effects = more_list s.effects t.effects u.effects x.calls y.calls x.effects y.effects;
        log = record {
          sent = x.log.sent ++ y.log.sent;
          taken = more_list s.log.taken t.log.taken u.log.taken x.log.sent y.log.sent x.log.taken y.log.taken;
          more = x.log.more ++ y.log.more;
          marks = more_list s.log.marks t.log.marks u.log.marks x.log.more y.log.more x.log.marks y.log.marks;
          later = x.log.later ++ y.log.later;
          ends = more_list s.log.ends t.log.ends u.log.ends x.log.later y.log.later x.log.ends y.log.ends;
        };
      }

-- ---- steps that log nothing

-- how many writes and marks a log has
abbrev entries : History → ℕ
entries h = length h.taken + length h.marks

longer : (g h : History) → LogGrows g h → entries g ≤ entries h
longer g h x =
    let taken = ap length x.taken ∙ length-append g.taken x.sent in
    let marks = ap length x.marks ∙ length-append g.marks x.more in
    omega (arith, taken, marks)

write_longer : (g h : History) (sent : Sent) → h ≡ with_write g sent → entries h ≤ entries g → ⊥
write_longer g h sent e short =
    let taken = ap (λ (z : History). length z.taken) e ∙ length-append g.taken (sent ∷ []) in
    let marks = ap (λ (z : History). length z.marks) e in
    omega (arith, taken, marks, short)

mark_longer : (g h : History) (mark : Mark) → h.taken ≡ g.taken → h.marks ≡ g.marks ++ mark ∷ [] → entries h ≤ entries g → ⊥
mark_longer g h mark same e short =
    let taken = ap length same in
    let longer = ap length e ∙ length-append g.marks (mark ∷ []) in
    omega (arith, taken, longer, short)

fault_longer : (s t : LoggedService) → AddsFault s t → entries t.log ≤ entries s.log → ⊥
fault_longer s t (before, after, less, inl e) short = mark_longer s.log t.log _ (ap (λ (z : History). z.taken) e) (ap (λ (z : History). z.marks) e) short
fault_longer s t (before, after, less, inr e) short = mark_longer s.log t.log _ (ap (λ (z : History). z.taken) e) (ap (λ (z : History). z.marks) e) short

reconciled_alone : (w other : Warm) → w ≡ other → w ≡ warm.Reconciled → (other ≡ warm.Reconciled → ⊥) → ⊥
reconciled_alone w other is at apart = apart (sym is ∙ at)

made_front : (c : Option (Call Rid)) (calls es : List (Call Rid)) → (es ++ with_made_call c []) ++ calls ≡ es ++ with_made_call c calls
made_front None calls es = ap (λ z. z ++ calls) (append-nil es)
made_front (Some call) calls es = append_assoc es (call ∷ []) calls

module _ (plan : Ports) (capacities : List ℕ) where
  -- an event of the service that is none of the machine logs something, or does not come while the core is reconciled
  service_logs : (s t : LoggedService) → s.service.warm ≡ warm.Reconciled → entries t.log ≤ entries s.log → (c : Option (Call Rid)) (e : IsServiceEvent plan 4 capacities s.service c t.service) → Records s t e → ⊥
  service_logs s t at short _ (OfTake _ x) (sent, same, log) = write_longer s.log t.log sent log short
  service_logs s t at short _ (OfWork c _ x) records = records
  service_logs s t at short _ (OfFault c _ x) records = fault_longer s t records short
  service_logs s t at short _ (OfListFault _ x) records = reconciled_alone s.service.warm warm.Initialized x.before at (λ h. cc)
  service_logs s t at short _ (OfRestart _ x) records = mark_longer s.log t.log _ (ap (λ (z : History). z.taken) records) (ap (λ (z : History). z.marks) records) short
  service_logs s t at short _ (OfList _ x) records = reconciled_alone s.service.warm warm.Initialized x.before at (λ h. cc)
  service_logs s t at short _ (OfRestore _ x) records = mark_longer s.log t.log _ (ap (λ (z : History). z.taken) records) (ap (λ (z : History). z.marks) records) short
  service_logs s t at short _ (OfApply call _ x) records = reconciled_alone s.service.warm warm.Applying x.before at (λ h. cc)
  service_logs s t at short _ (OfFinish _ x) records = mark_longer s.log t.log _ (ap (λ (z : History). z.taken) records) (ap (λ (z : History). z.marks) records) short

  -- one that logs nothing is an event of the machine that takes no write
  record UnloggedStep (s t : LoggedService) : Type 0 where
    call : Option (Call Rid)
    event : IsEvent plan 4 capacities s.service.core call t.service.core
    taken : t.service.core.written.taken ≡ s.service.core.written.taken
    effects : t.effects ≡ s.effects ++ with_made_call call []
    warm : t.service.warm ≡ warm.Reconciled

  unlogged_step : (s t : LoggedService) → s.service.warm ≡ warm.Reconciled → entries t.log ≤ entries s.log → IsLoggedStep plan 4 capacities s t → UnloggedStep s t
  unlogged_step s t at short (OfMachine before after (inl x)) = absurd (write_longer s.log t.log x.sent x.log short)
  unlogged_step s t at short (OfMachine before after (inr (inl x))) = record { call = x.call; event = x.event; taken = x.taken; effects = x.effects; warm = after }
  unlogged_step s t at short (OfMachine before after (inr (inr x))) = absurd (mark_longer s.log t.log _ (ap (λ (z : History). z.taken) x.log) (ap (λ (z : History). z.marks) x.log) short)
  unlogged_step s t at short (OfService c e effects records) = absurd (service_logs s t at short c e records)

  -- steps that log nothing are events of the machine that take no write
  pub record Unlogged (s t : LoggedService) : Type 0 where
    pub events : List (Option (Call Rid) × SwitchState)
    pub are : AreEvents plan 4 capacities s.service.core events
    pub takeless : TakeNothing plan 4 capacities s.service.core events
    pub grown : t.effects ≡ s.effects ++ calls_of events

  unlogged_steps : (s : LoggedService) (ts : List LoggedService) → s.service.warm ≡ warm.Reconciled → entries (session_after s ts).log ≤ entries s.log → AreLoggedSteps plan 4 capacities s ts → Unlogged s (session_after s ts)
  unlogged_steps s [] at short run = record { events = []; are = tt; takeless = tt; grown = sym (append-nil s.effects) }
  unlogged_steps s (t ∷ ts) at short run =
      let u = session_after t ts in
      let head = longer s.log t.log (step_grows plan capacities s t run.0).log in
      let tail = longer t.log u.log (steps_grow plan capacities t ts run.1).log in
      let one = unlogged_step s t at (omega (arith, tail, short)) run.0 in
      let more = unlogged_steps t ts one.warm (omega (arith, head, short)) run.1 in
      record {
        events = (one.call, t.service.core) ∷ more.events;
        are = (one.event, more.are);
        takeless = (one.taken, more.takeless);
        grown = more.grown ∙ ap (λ z. z ++ calls_of more.events) one.effects ∙ made_front one.call (calls_of more.events) s.effects;
      }

  pub unlogged : (s : LoggedService) (ts : List LoggedService) → s.service.warm ≡ warm.Reconciled → (session_after s ts).log ≡ s.log → AreLoggedSteps plan 4 capacities s ts → Unlogged s (session_after s ts)
  unlogged s ts at same run = unlogged_steps s ts at (let one = ap entries same in omega (arith, one)) run

module _ {workers w : ℕ} (c c' : CoreState) (chip chip' : ChipState) (x : InSession workers c chip) (y : MakesMore w c x.session c' chip') where
  grown : Grows x.session (session_after x.session y.steps)
  grown = steps_grow c.board.plan c.sync.capacities x.session y.steps y.are

  pub effects-grow : (calls : List (Call Rid)) × (chip'.effects ≡ chip.effects ++ calls)
  effects-grow = (grown.calls, sym y.stands.always.effects ∙ grown.effects ∙ ap (λ es. es ++ grown.calls) x.stands.always.effects)

  pub taken-grow : (sent : List Sent) × (c'.log.taken ≡ c.log.taken ++ sent)
  taken-grow = (grown.log.sent, ap (λ (h : History). h.taken) (sym y.stands.always.log) ∙ grown.log.taken ∙ ap (λ (h : History). h.taken ++ grown.log.sent) x.stands.always.log)

  pub marks-grow : (more : List Mark) × (c'.log.marks ≡ c.log.marks ++ more)
  marks-grow = (grown.log.more, ap (λ (h : History). h.marks) (sym y.stands.always.log) ∙ grown.log.marks ∙ ap (λ (h : History). h.marks ++ grown.log.more) x.stands.always.log)

  pub ends-grow : (more : List ℕ) × (c'.log.ends ≡ c.log.ends ++ more)
  ends-grow = (grown.log.later, ap (λ (h : History). h.ends) (sym y.stands.always.log) ∙ grown.log.ends ∙ ap (λ (h : History). h.ends ++ grown.log.later) x.stands.always.log)
