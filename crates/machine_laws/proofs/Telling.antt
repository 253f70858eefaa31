-- a session's marks are true, and its calls are legal
use Rattle.std.proofs.Common.{◌≡◌, ◌⊎◌, ◌+◌, ◌∷◌, ◌++◌, ◌∙◌, inl, inr, ℕ, List, [], length, Option, None, Some, refl, sym, ap, subst, arith}
use Rattle.std.proofs.Math.Seq.{take-length}
use Rattle.std.proofs.lemmas.List.{append-nil, length-append}
use Rattle.sai_types.specs.declared.ids.Rid.{Rid}
use Rattle.sai_types.specs.declared.body.Call.{Call}
use Rattle.sai_types.specs.After.{after_call, after_calls}
use Rattle.sai_types.specs.Alike.{IsAlike}
use Rattle.sai_types.specs.Made.{AreLegal, made_after, made_after_all}
use Rattle.sai_types.specs.Refusal.{IsLegal}
use Rattle.table_schema.specs.Names.{names_of}
use Rattle.table_schema.specs.Plan.{IsPlan, Ports}
use Rattle.table_schema.specs.Rows.{fields_at, rows_of}
use Rattle.table_schema.specs.declared.key.Key.{Key}
use Rattle.switch_model.specs.Desired.{IsClosed, IsThingOf}
use Rattle.switch_model.specs.Good.{TypedRows, good_row}
use Rattle.switch_model.specs.Marks.{NameFirstKinds, ReasonsAreTrue, Waiting, applied_rows, sent_writes}
use Rattle.switch_model.specs.Promises.{AreTrueMarks, IsSettled, MarksAreTrue, good_rows_at}
use Rattle.switch_model.specs.Sound.{AreWithin}
use Rattle.switch_model.specs.declared.mark.Mark.{Mark}
use Rattle.switch_model.specs.declared.mark.MarkEvent.TheVariants as event
use Rattle.switch_model.specs.Placed.{bare_rows}
use Rattle.switch_machine.specs.Events.{SwitchState, IsEvent, IsSafe, IsQuiet, with_made_call}
use Rattle.switch_machine.specs.Written.{good_of}
use Rattle.switch_machine.proofs.Runs.{alike-quiet, good-quiet, kept-empty, kept-run, legal-run}
use Rattle.switch_machine.proofs.Reasoned.{closed, reason-first, reason-true}
use Rattle.switch_machine.proofs.Splits.{IsSplit, key_split, row_at, row_off}
use Rattle.machine_laws.specs.Logged.{AreListed, AreLoggedEvents, IsLoggedEvent, ListsKey, LogsWrite, LoggedSwitch, LogsMark, MakesEvent, new_switch, after_logged}
use Rattle.machine_laws.proofs.Staying.{after_calls-grown, chip_after-all, legal-grown, made-one, map-more, marks-grown, marks-more, marks-taken, within-mark, within-more}
use Rattle.machine_laws.proofs.Rows.{AreSameRows, good-same, have_same, kind-same, reason-same, thing_same}

module _ (plan : Ports) (is : IsPlan plan) (workers : ℕ) (capacities : List ℕ) where
  module _ (s : SwitchState) (kept : IsSafe plan workers capacities s) (quiet : IsQuiet s) (good : TypedRows) (same_good : AreSameRows (good_of plan s.written) good) where
    rows_at : (waits : Waiting) (q : Key) → AreListed plan workers capacities s waits → ((ListsKey q waits → ⊥) → bare_rows s.machine.board.applied q ≡ good q) → applied_rows waits good q ≡ bare_rows s.machine.board.applied q
    rows_at [] q listed f = sym (f (λ h. h))
    rows_at (w ∷ ws) q listed f = by (rows_at ws q listed.2) (key_split q w.0)
      where
        by : (((ListsKey q ws → ⊥) → bare_rows s.machine.board.applied q ≡ good q) → applied_rows ws good q ≡ bare_rows s.machine.board.applied q) → IsSplit q w.0 → applied_rows (w ∷ ws) good q ≡ bare_rows s.machine.board.applied q
        by rest (inl e) = row_at q w.0 w.2 (λ z. applied_rows ws good q) e ∙ listed.1 ∙ ap (bare_rows s.machine.board.applied) (sym e)
        by rest (inr apart) = row_off q w.0 w.2 (λ z. applied_rows ws good q) apart ∙ rest (λ none. f (λ h. other none h))
          where
            other : (ListsKey q ws → ⊥) → (w.0 ≡ q) ⊎ ListsKey q ws → ⊥
            other none (inl e) = apart (sym e)
            other none (inr h) = none h

    module _ (rows : TypedRows) (same : AreSameRows (bare_rows s.machine.board.applied) rows) where
      reasons_true : (waits : Waiting) → AreListed plan workers capacities s waits → ReasonsAreTrue plan capacities good rows waits
      reasons_true [] listed = tt
      reasons_true (w ∷ ws) (reason, row, listed) = (good-same plan capacities (good_of plan s.written) good rows w.0 w.1 (same_good w.0) (reason-same plan capacities (good_of plan s.written) (bare_rows s.machine.board.applied) rows same w.0 w.1 (reason-true plan is workers capacities s kept quiet w.0 w.1 reason)), reasons_true ws listed)

      kinds_first : (waits : Waiting) → AreListed plan workers capacities s waits → NameFirstKinds plan capacities good rows waits
      kinds_first [] listed = tt
      kinds_first (w ∷ ws) (reason, row, listed) = (kind-same plan capacities (good_of plan s.written) good (bare_rows s.machine.board.applied) rows w.0 w.1 same (same_good w.0) (reason-first plan is workers capacities s kept quiet w.0 w.1 reason), kinds_first ws listed)

      closed_rows : IsClosed rows
      closed_rows k r at = sym (have_same (bare_rows s.machine.board.applied) rows same (names_of k r)) ∙ closed plan is workers capacities s kept k r (same k ∙ at)

      alike_rows : IsAlike s.objects (IsThingOf plan rows)
      alike_rows =
          let x = alike-quiet plan is workers capacities s kept quiet in
          record {
            each = λ t h. let y = x.each t h in (y.0, y.1, thing_same plan (bare_rows s.machine.board.applied) rows same y.0 y.2);
            once = λ t h. x.once t (thing_same plan rows (bare_rows s.machine.board.applied) (λ q. sym (same q)) t h);
          }

  pub record Told (s : LoggedSwitch) : Type 0 where
    pub kept : IsSafe plan workers capacities s.switch
    pub taken : s.switch.written.taken ≡ sent_writes s.log.taken
    pub objects : s.switch.objects ≡ after_calls 0 [] s.effects
    pub made : s.switch.made ≡ made_after_all 0 s.effects
    pub legal : AreLegal capacities 0 [] s.effects
    pub within : AreWithin (length s.log.taken) (length s.effects) s.log.marks
    pub marks : MarksAreTrue plan capacities s.log s.effects

  settled : (s t : LoggedSwitch) → Told s → (x : LogsMark plan workers capacities s t) → IsSettled plan capacities s.log.taken s.effects (record { taken = length s.log.taken; effects = length s.effects; event = event.Settled x.waits x.turns }) x.waits
  settled s t told x = record {
    alike = subst (λ o. IsAlike o (IsThingOf plan rows)) (told.objects ∙ sym (chip_after-all s.effects)) (alike_rows s.switch told.kept x.quiet good same_good rows same);
    closed = closed_rows s.switch told.kept x.quiet good same_good rows same;
    order = x.in_order;
    reasons = reasons_true s.switch told.kept x.quiet good same_good rows same x.waits x.listed;
    kinds = kinds_first s.switch told.kept x.quiet good same_good rows same x.waits x.listed;
  }
    where
      good : TypedRows
      good = good_rows_at plan s.log.taken (length s.log.taken)

      rows : TypedRows
      rows = applied_rows x.waits good

      same_good : AreSameRows (good_of plan s.switch.written) good
      same_good k = ap (good_row plan k) (sym (x.popped k (s.switch.written.rows k)) ∙ sym (told.kept.told k) ∙ ap (λ z. fields_at (rows_of z) k) told.taken ∙ ap (λ z. fields_at (rows_of (sent_writes z)) k) (sym (take-length s.log.taken)))

      same : AreSameRows (bare_rows s.switch.machine.board.applied) rows
      same q = sym (rows_at s.switch told.kept x.quiet good same_good x.waits q x.listed (λ none. good-quiet plan is workers capacities s.switch told.kept x.quiet q (λ h. none (x.all q h)) ∙ same_good q))

  told_mark : (s t : LoggedSwitch) → Told s → LogsMark plan workers capacities s t → Told t
  told_mark s t told x = record {
    kept = subst (IsSafe plan workers capacities) (sym x.switch) told.kept;
    taken = ap (λ (z : SwitchState). z.written.taken) x.switch ∙ told.taken ∙ ap (λ z. sent_writes z.taken) (sym x.log);
    objects = ap (λ (z : SwitchState). z.objects) x.switch ∙ told.objects ∙ ap (after_calls 0 []) (sym x.effects);
    made = ap (λ (z : SwitchState). z.made) x.switch ∙ told.made ∙ ap (made_after_all 0) (sym x.effects);
    legal = subst (AreLegal capacities 0 []) (sym x.effects) told.legal;
    within = subst (λ z. AreWithin (length z.taken) (length t.effects) z.marks) (sym x.log) (subst (λ z. AreWithin (length s.log.taken) (length z) (s.log.marks ++ mark ∷ [])) (sym x.effects) (within-mark (length s.log.taken) (length s.effects) mark s.log.marks refl refl told.within));
    marks = subst (λ z. MarksAreTrue plan capacities z t.effects) (sym x.log) (subst (λ z. AreTrueMarks plan capacities s.log.taken z None (s.log.marks ++ mark ∷ [])) (sym x.effects) (marks-more plan capacities s.log.taken s.effects mark None s.log.marks (λ b. settled s t told x) told.marks));
  }
    where
      mark : Mark
      mark = record { taken = length s.log.taken; effects = length s.effects; event = event.Settled x.waits x.turns }

  told_write : (s t : LoggedSwitch) → Told s → LogsWrite s t → Told t
  told_write s t told x = record {
    kept = kept-run plan is workers capacities s.switch ((None, t.switch) ∷ []) told.kept (inl x.takes, tt);
    taken = x.takes.taken.taken ∙ ap (λ z. z ++ (x.takes.write ∷ [])) told.taken ∙ ap (λ z. sent_writes s.log.taken ++ (z ∷ [])) x.same ∙ sym (map-more s.log.taken x.sent) ∙ ap (λ z. sent_writes z.taken) (sym x.log);
    objects = x.takes.objects ∙ told.objects ∙ ap (after_calls 0 []) (sym x.effects);
    made = x.takes.made ∙ told.made ∙ ap (made_after_all 0) (sym x.effects);
    legal = subst (AreLegal capacities 0 []) (sym x.effects) told.legal;
    within = subst (λ z. AreWithin (length z.taken) (length t.effects) z.marks) (sym x.log) (subst (λ z. AreWithin (length (s.log.taken ++ x.sent ∷ [])) (length z) s.log.marks) (sym x.effects) (within-more (length s.log.taken) (length (s.log.taken ++ x.sent ∷ [])) (length s.effects) (length s.effects) s.log.marks (omega (arith, length-append s.log.taken (x.sent ∷ []))) (omega arith) told.within));
    marks = subst (λ z. MarksAreTrue plan capacities z t.effects) (sym x.log) (subst (λ z. AreTrueMarks plan capacities (s.log.taken ++ x.sent ∷ []) z None s.log.marks) (sym x.effects) (marks-taken plan capacities s.log.taken x.sent s.effects (length s.effects) None s.log.marks (λ b e. absurd cc) told.within told.marks));
  }

  record Grown (s : LoggedSwitch) (c : Option (Call Rid)) (effects : List (Call Rid)) (t : SwitchState) : Type 0 where
    objects : t.objects ≡ after_calls 0 [] effects
    made : t.made ≡ made_after_all 0 effects
    legal : AreLegal capacities 0 [] effects
    within : AreWithin (length s.log.taken) (length effects) s.log.marks
    marks : AreTrueMarks plan capacities s.log.taken effects None s.log.marks

  same_grown : (s : LoggedSwitch) (t : SwitchState) → Told s → t.objects ≡ s.switch.objects → t.made ≡ s.switch.made → Grown s None (s.effects ++ []) t
  same_grown s t told objects made = subst (λ z. Grown s None z t) (sym (append-nil s.effects)) (record { objects = objects ∙ told.objects; made = made ∙ told.made; legal = told.legal; within = told.within; marks = told.marks })

  grown : (s : LoggedSwitch) (c : Option (Call Rid)) (t : SwitchState) → Told s → IsEvent plan workers capacities s.switch c t → Grown s c (s.effects ++ with_made_call c []) t
  grown s None t told (inl x) = same_grown s t told x.objects x.made
  grown s None t told (inr (inl x)) = same_grown s t told x.objects x.made
  grown s None t told (inr (inr (inl x))) = same_grown s t told x.objects x.made
  grown s None t told (inr (inr (inr x))) = same_grown s t told x.objects x.made
  grown s (Some call) t told x = record {
    objects = x.objects ∙ ap (λ z. after_call (z + 1) s.switch.objects call) told.made ∙ ap (λ z. after_call (made_after_all 0 s.effects + 1) z call) told.objects ∙ sym (after_calls-grown 0 [] s.effects call);
    made = x.made ∙ ap (λ z. made_after z call) told.made ∙ sym (made-one 0 s.effects call);
    legal = legal-grown capacities 0 [] s.effects call told.legal (subst (λ z. IsLegal capacities z call) told.objects (legal-run plan is workers capacities s.switch ((Some call, t) ∷ []) told.kept (x, tt)).0);
    within = within-more (length s.log.taken) (length s.log.taken) (length s.effects) (length (s.effects ++ call ∷ [])) s.log.marks (omega arith) (omega (arith, length-append s.effects (call ∷ []))) told.within;
    marks = marks-grown plan capacities s.log.taken s.effects call (length s.log.taken) None s.log.marks told.within told.marks;
  }

  told_call : (s t : LoggedSwitch) → Told s → MakesEvent plan workers capacities s t → Told t
  told_call s t told x =
      let g = subst (λ z. Grown s x.call z t.switch) (sym x.effects) (grown s x.call t.switch told x.event) in
      record {
        kept = kept-run plan is workers capacities s.switch ((x.call, t.switch) ∷ []) told.kept (x.event, tt);
        taken = x.taken ∙ told.taken ∙ ap (λ z. sent_writes z.taken) (sym x.log);
        objects = g.objects;
        made = g.made;
        legal = g.legal;
        within = subst (λ z. AreWithin (length z.taken) (length t.effects) z.marks) (sym x.log) g.within;
        marks = subst (λ z. MarksAreTrue plan capacities z t.effects) (sym x.log) g.marks;
      }

  pub told_event : (s t : LoggedSwitch) → Told s → IsLoggedEvent plan workers capacities s t → Told t
  told_event s t told (inl x) = told_write s t told x
  told_event s t told (inr (inl x)) = told_call s t told x
  told_event s t told (inr (inr x)) = told_mark s t told x

  pub told-log : (s : LoggedSwitch) (ts : List LoggedSwitch) → Told s → AreLoggedEvents plan workers capacities s ts → Told (after_logged s ts)
  told-log s [] told run = told
  told-log s (t ∷ ts) told run = told-log t ts (told_event s t told run.0) run.1

  pub told-new : Told new_switch
  told-new = record { kept = kept-empty plan is workers capacities; taken = refl; objects = refl; made = refl; legal = tt; within = tt; marks = tt }
