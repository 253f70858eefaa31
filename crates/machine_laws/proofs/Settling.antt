-- a settling of the machine, by operations run alone: its rows and its calls are those of turns over rows; cut off, those of turns that are cut off
use Rattle.std.proofs.Common.{◌≡◌, ◌⊎◌, ◌+◌, ◌≤◌, ◌∷◌, ◌++◌, ◌∙◌, inl, inr, ℕ, zero, suc, Bool, List, [], Option, None, Some, option_map, refl, sym, ap, ap₂, subst, arith}
use Rattle.std.proofs.lemmas.List.{append_assoc}
use Rattle.table_schema.specs.Plan.{Ports, IsPlan}
use Rattle.table_schema.specs.declared.key.Key.{Key}
use Rattle.table_schema.specs.declared.row.Row.{Row}
use Rattle.sai_types.specs.declared.ids.Rid.{Rid}
use Rattle.sai_types.specs.declared.body.Call.{Call}
use Rattle.sai_types.specs.declared.thing.Thing.{Thing}
use Rattle.sai_types.specs.Made.{made_after_all}
use Rattle.sai_types.specs.Objects.{used as on_chip}
use Rattle.sai_types.specs.Refusal.{capacity_of}
use Rattle.switch_model.specs.Good.{TypedRows}
use Rattle.switch_model.specs.Marks.{IsTrueReason}
use Rattle.switch_model.specs.Placed.{Placed, bare, bare_rows, place, placed_rows, router_in}
use Rattle.switch_model.specs.Turns.{HasReason, with_good}
use Rattle.switch_model.specs.declared.wait.Wait.{Wait}
use Rattle.switch_model.specs.declared.wait.Wait.TheVariants as wait
use Rattle.row_layout.specs.Operations.{Change, changes_of}
use Rattle.row_layout.specs.Rows.{Owner}
use Rattle.row_layout.proofs.Changing.{changes-same}
use Rattle.switch_machine.specs.Consistent.{IsOrderly}
use Rattle.switch_machine.specs.Events.{AreAnswers, SwitchState, IsSafe, IsQuiet, after_answers, changes_made, placed_good}
use Rattle.switch_machine.specs.Flights.{MachineBoard, MachineFlight, Machine}
use Rattle.switch_machine.specs.Operations.{IsUsedByOthers}
use Rattle.switch_machine.specs.Places.{makes}
use Rattle.switch_machine.specs.Reasons.{IsReason}
use Rattle.switch_machine.specs.Steps.{started, with_row}
use Rattle.switch_machine.specs.Written.{Written, good_of}
use Rattle.switch_machine.proofs.Hindered.{not_held, not_missing}
use Rattle.switch_machine.proofs.Kept.{kept-answers}
use Rattle.switch_machine.proofs.Overflowing.{no-overflow}
use Rattle.switch_machine.proofs.Placing.{bares, own_place}
use Rattle.switch_machine.proofs.Reasoned.{reason-true}
use Rattle.switch_machine.proofs.Runs.{kept-run}
use Rattle.switch_machine.proofs.Sequence.{sequence, sequence-so-far}
use Rattle.switch_machine.proofs.Solo.{solo-key}
use Rattle.switch_machine.proofs.Splits.{IsSplit, key_split, row_at, row_off}
use Rattle.machine_laws.specs.Calls.{AreCallsOf, AreChangesOf, AreFirstCallsOf, AreTurnsWith, AreTurnsWithSoFar, BeginsWith, CompletesWith, IsTurnWith, IsTurnWithSoFar, Situation}
use Rattle.machine_laws.specs.Settling.{AreMachineTurns, AreMachineTurnsSoFar, DropsKey, IsMachineTurn, IsMachineTurnSoFar, IsSituationOf, RunsAlone, RunsSoFar, situation}
use Rattle.machine_laws.proofs.Alone.{AreTried, DueCall, NoCall, alone-so-far, calls-made, calls_in, first-calls, follows-stands}
use Rattle.machine_laws.proofs.Dropping.{same-no_reason}
use Rattle.machine_laws.proofs.Rows.{AreSameRows, bare_with, reason-same, router_same}
use Rattle.machine_laws.proofs.Sharing.{others-use, used-by}

pub record Rests (plan : Ports) (workers : ℕ) (capacities : List ℕ) (written : Written) (t : SwitchState) : Type 0 where
  pub kept : IsSafe plan workers capacities t
  pub quiet : IsQuiet t
  pub same : t.written ≡ written

pub placed_same : (a b : TypedRows) → AreSameRows a b → (q : Key) → placed_rows a q ≡ placed_rows b q
placed_same a b same q = ap₂ (λ v o. option_map (place v) o) (router_same a b same q) (same q)

-- the applied rows are in their places
pub restored : (plan : Ports) (b : MachineBoard) → IsOrderly plan b → (q : Key) → placed_rows (bare_rows b.applied) q ≡ b.applied q
restored plan b orderly q = by (b.applied q) refl
  where
    by : (o : Option Placed) → b.applied q ≡ o → placed_rows (bare_rows b.applied) q ≡ b.applied q
    by None e = ap (λ o. option_map (place (router_in (bare_rows b.applied) q)) (option_map bare o)) e ∙ sym e
    by (Some y) e = ap (λ o. option_map (place (router_in (bare_rows b.applied) q)) (option_map bare o)) e ∙ ap Some (sym (own_place plan b orderly q y e)) ∙ sym e

over_placed : (plan : Ports) (b : MachineBoard) → IsOrderly plan b → (k : Key) (used : Owner → Bool) → IsUsedByOthers plan b.applied k used → IsUsedByOthers plan (placed_rows (bare_rows b.applied)) k used
over_placed plan b orderly k used x = record {
  yes = λ o h. let y = x.yes o h in (y.0, y.1, y.2, restored plan b orderly y.0 ∙ y.3, y.4);
  no = λ o h q r apart at. x.no o h q r apart (sym (restored plan b orderly q) ∙ at);
}

-- the changes of a key over the same rows
changes_over : (plan : Ports) (a b : TypedRows) (k : Key) (new : Option Row) (changes : List Change) → AreSameRows a b → AreChangesOf plan a k new changes → AreChangesOf plan b k new changes
changes_over plan a b k new changes same x = record {
  used = x.used;
  by_others = record {
    yes = λ o h. let y = x.by_others.yes o h in (y.0, y.1, y.2, sym (placed_same a b same y.0) ∙ y.3, y.4);
    no = λ o h q r apart at. x.by_others.no o h q r apart (placed_same a b same q ∙ at);
  };
  is = x.is ∙ ap₂ (λ z n. changes_of plan k z n x.used) (placed_same a b same k) (ap (λ v. option_map (place v) new) (router_same a b same k));
}

no_changes : (plan : Ports) (k : Key) (o : Option Placed) (used : Owner → Bool) → changes_of plan k o o used ≡ []
no_changes plan k None used = refl
no_changes plan k (Some r) used = changes-same plan k r used

module _ (plan : Ports) (is : IsPlan plan) (workers : ℕ) (capacities : List ℕ) where
  answered : (s : SwitchState) (es : List (Call Rid × SwitchState)) → AreAnswers plan workers s es → IsSafe plan workers capacities s → IsSafe plan workers capacities (after_answers s es) × ((after_answers s es).written ≡ s.written) × ((after_answers s es).made ≡ made_after_all s.made (calls_in es))
  answered s [] run kept = (kept, refl, refl)
  answered s (e ∷ es) run kept =
      let y = answered e.1 es run.1 (kept-answers plan is workers capacities s e.1 kept e.0 run.0) in
      (y.0, y.1 ∙ run.0.written, y.2 ∙ ap (λ z. made_after_all z (calls_in es)) run.0.made)

  module _ (k : Key) (s t : SwitchState) (calls : List (Call Rid)) (kept : IsSafe plan workers capacities s) (quiet : IsQuiet s) where
    abbrev good : TypedRows
    good = good_of plan s.written

    abbrev rows : TypedRows
    rows = bare_rows s.machine.board.applied

    -- ---- a key that has its good row already

    dropped : DropsKey plan k s t calls → Rests plan workers capacities s.written t
    dropped x = record {
      kept = kept-run plan is workers capacities s ((None, t) ∷ []) kept (inr (inr (inl x.drop)), tt);
      quiet = subst (λ z. (w : ℕ) (f : MachineFlight) → z.board.flights w ≡ Some f → ⊥) (sym x.drop.machine) quiet;
      same = x.drop.written;
    }

    -- ---- an operation that runs alone, so far

    module _ (x : RunsSoFar plan workers capacities k s t calls) where
      abbrev f : MachineFlight
      f = x.starting.flight

      abbrev used : Owner → Bool
      used = used-by plan workers capacities s kept f.key

      first_safe : IsSafe plan workers capacities x.first
      first_safe = kept-run plan is workers capacities s ((None, x.first) ∷ []) kept (inr (inr (inr x.starting)), tt)

      begun_changes : (changes : List Change) → changes ≡ changes_of plan f.key (s.machine.board.applied f.key) f.new used → AreChangesOf plan rows k (good k) changes
      begun_changes changes e = subst (λ q. AreChangesOf plan rows q (good q) changes) x.is (record {
        used = used;
        by_others = over_placed plan s.machine.board kept.sound.board f.key used (others-use plan workers capacities s kept f.key);
        is = e ∙ ap₂ (λ z n. changes_of plan f.key z n used) (sym (restored plan s.machine.board kept.sound.board f.key)) x.starting.new;
      })

      -- what stands when it has begun stood before
      from_first : (P : List (Rid × Thing) → ℕ → Type 0) (z : Situation) → IsSituationOf z s → P x.first.machine.stands x.first.made → P z.stands z.made
      from_first P z agrees h = subst (P z.stands) (x.starting.made ∙ sym agrees.made) (subst (λ v. P v x.first.made) (follows-stands plan x.starting.worker (started s.machine x.starting.worker f x.starting.due) x.first.machine x.starting.follows ∙ sym agrees.stands) h)

      -- its calls, and one that is due, are the first of its key's changes
      begun : (z : Situation) → IsSituationOf z s → (more : List (Call Rid)) → AreTried workers t more → BeginsWith plan good k z (calls ++ more)
      begun z agrees more tried =
          let y = sequence-so-far plan workers capacities s x.first x.starting x.answers x.are used quiet (others-use plan workers capacities s kept f.key) in
          let changes = changes_made plan workers x.first x.answers x.are ++ y.0 in
          let first = first-calls plan workers x.first x.answers x.are y.0 more (subst (λ v. AreTried workers v more) x.last tried) y.2 in
          record {
            changes = changes;
            are = changes_over plan rows z.applied k (good k) changes (λ q. sym (agrees.rows q)) (begun_changes changes y.1);
            calls_are = subst (λ v. AreFirstCallsOf z.stands z.made changes (v ++ more)) (sym x.calls_are) (from_first (λ stands made. AreFirstCallsOf stands made changes (calls_in x.answers ++ more)) z agrees first);
          }

      -- of its key no reason was true
      begun-no_reason : (w : Wait) → IsTrueReason plan capacities good rows f.key w → ⊥
      begun-no_reason (wait.Missing p) (r, at, h) = not_missing plan is workers capacities s x.starting.worker f x.starting.due x.starting.begins x.starting.new p (x.starting.begins.rests, (r, at, h))
      begun-no_reason (wait.Held h) (to_go, r, at, held) = not_held plan is workers capacities s x.starting.worker f x.starting.due x.starting.begins x.starting.new h (x.starting.begins.rests, to_go, (r, at, held))
      begun-no_reason (wait.NoRoom kind) (r, at, have, over) = no-overflow plan is capacities s.machine kept.sound quiet s.made s.objects kept.whole kept.laid x.starting.worker f x.starting.due x.starting.begins r (x.starting.new ∙ ap (option_map (place (router_in rows f.key))) at) kind (fits (makes kind x.starting.due) refl) over
        where
          fits : (n : ℕ) → makes kind x.starting.due ≡ n → on_chip s.objects kind + makes kind x.starting.due ≤ capacity_of capacities kind
          fits zero e = let p = kept.places kind in omega (arith, e, p)
          fits (suc n) e = let p = x.starting.room kind (omega (arith, e)) in omega (arith, p)
      begun-no_reason (wait.Busy v) h = h

      no_reason : (z : Situation) → IsSituationOf z s → HasReason plan capacities good z.applied k → ⊥
      no_reason z agrees h = begun-no_reason h.0 (subst (λ v. IsTrueReason plan capacities good rows v h.0) (sym x.is) (reason-same plan capacities good z.applied rows agrees.rows k h.0 h.1))

    -- ---- and to its end

    module _ (x : RunsAlone plan workers capacities k s t calls) where
      abbrev so_far : RunsSoFar plan workers capacities k s t calls
      so_far = alone-so-far plan workers capacities k s t calls x

      pub ran : Rests plan workers capacities s.written t
      ran =
          let y = answered x.first x.answers x.are (first_safe so_far) in
          subst (Rests plan workers capacities s.written) (sym x.last) (record { kept = y.0; quiet = x.quiet; same = y.1 ∙ x.starting.written })

      abbrev changes : List Change
      changes = changes_made plan workers x.first x.answers x.are

      alone_changes : AreChangesOf plan rows k (good k) changes
      alone_changes = begun_changes so_far changes (sequence plan workers capacities s x.first x.starting x.answers x.are (used so_far) quiet x.quiet (others-use plan workers capacities s kept x.starting.flight.key))

      alone_calls : (z : Situation) → IsSituationOf z s → AreCallsOf z.stands z.made changes calls t.machine.stands
      alone_calls z agrees = subst (λ v. AreCallsOf z.stands z.made changes v t.machine.stands) (sym x.calls_are) (subst (λ (v : SwitchState). AreCallsOf z.stands z.made changes (calls_in x.answers) v.machine.stands) (sym x.last) (from_first so_far (λ stands made. AreCallsOf stands made changes (calls_in x.answers) (after_answers x.first x.answers).machine.stands) z agrees (calls-made plan workers x.first x.answers x.are)))

      ran_made : t.made ≡ made_after_all s.made calls
      ran_made =
          ap (λ (z : SwitchState). z.made) x.last
          ∙ (answered x.first x.answers x.are (first_safe so_far)).2
          ∙ ap (λ z. made_after_all z (calls_in x.answers)) x.starting.made
          ∙ ap (made_after_all s.made) (sym x.calls_are)

      -- the rows after it
      ran_rows : (a : TypedRows) → AreSameRows a rows → AreSameRows (with_good good a k) (bare_rows t.machine.board.applied)
      ran_rows a same q = by (key_split k q)
        where
          own : Key
          own = x.starting.flight.key

          now : bare_rows t.machine.board.applied q ≡ with_row k (good k) rows q
          now =
              ap (λ (z : SwitchState). bare_rows z.machine.board.applied q) x.last
              ∙ ap (option_map bare) (solo-key plan workers capacities s x.first x.starting x.answers quiet x.are x.quiet q)
              ∙ bare_with own (placed_good plan s.machine.board s.written own) s.machine.board.applied q
              ∙ ap (λ o. with_row own o rows q) (bares (router_in rows own) (good own))
              ∙ ap (λ z. with_row z (good z) rows q) x.is

          by : IsSplit k q → with_good good a k q ≡ bare_rows t.machine.board.applied q
          by (inl e) = row_at k q (good q) a e ∙ ap good (sym e) ∙ sym (row_at k q (good k) rows e) ∙ sym now
          by (inr h) = row_off k q (good q) a h ∙ same q ∙ sym (row_off k q (good k) rows h) ∙ sym now

    -- a key that leaves has its good row then, after the calls of its operation, and no reason was true of it
    record Left (z : Situation) : Type 0 where
      then : Situation
      so : CompletesWith plan good k z then calls
      agrees : IsSituationOf then t
      rest : Rests plan workers capacities s.written t
      none : HasReason plan capacities good z.applied k → ⊥

    left_when_done : (z : Situation) → IsSituationOf z s → DropsKey plan k s t calls ⊎ RunsAlone plan workers capacities k s t calls → Left z
    left_when_done z agrees (inl x) = record {
      then = then;
      so = record {
        changes = [];
        are = changes_over plan rows z.applied k (good k) [] (λ q. sym (agrees.rows q)) (record {
          used = used-by plan workers capacities s kept k;
          by_others = over_placed plan s.machine.board kept.sound.board k (used-by plan workers capacities s kept k) (others-use plan workers capacities s kept k);
          is = sym (no_changes plan k (placed_rows rows k) (used-by plan workers capacities s kept k)) ∙ ap (λ o. changes_of plan k (placed_rows rows k) (option_map (place (router_in rows k)) o) (used-by plan workers capacities s kept k)) same;
        });
        calls_are = (x.none, refl);
        applied = refl;
        made = ap (made_after_all z.made) (sym x.none);
      };
      agrees = record {
        rows = λ q. by q (key_split k q) ∙ ap (λ (v : Machine). bare_rows v.board.applied q) (sym x.drop.machine);
        stands = agrees.stands ∙ ap (λ (v : Machine). v.stands) (sym x.drop.machine);
        made = agrees.made ∙ sym x.drop.made;
      };
      rest = dropped x;
      none = λ h. same-no_reason plan is workers capacities s kept quiet k same h.0 (reason-same plan capacities good z.applied rows agrees.rows k h.0 h.1);
    }
      where
        same : rows k ≡ good k
        same = subst (λ q. rows q ≡ good q) x.is x.drop.same

        then : Situation
        then = record { applied = with_good good z.applied k; stands = z.stands; made = z.made }

        by : (q : Key) → IsSplit k q → with_good good z.applied k q ≡ rows q
        by q (inl e) = row_at k q (good q) z.applied e ∙ subst (λ v. good v ≡ rows v) e (sym same)
        by q (inr h) = row_off k q (good q) z.applied h ∙ agrees.rows q
    left_when_done z agrees (inr x) = record {
      then = record { applied = with_good good z.applied k; stands = t.machine.stands; made = made_after_all z.made calls };
      so = record {
        changes = changes x;
        are = changes_over plan rows z.applied k (good k) (changes x) (λ q. sym (agrees.rows q)) (alone_changes x);
        calls_are = alone_calls x z agrees;
        applied = refl;
        made = refl;
      };
      agrees = record { rows = ran_rows x z.applied agrees.rows; stands = refl; made = ap (λ v. made_after_all v calls) agrees.made ∙ sym (ran_made x) };
      rest = ran x;
      none = no_reason (alone-so-far plan workers capacities k s t calls x) z agrees;
    }

  -- what a turn, or turns, of the machine come to over rows
  pub record Comes (P : Situation → Type 0) (written : Written) (t : SwitchState) : Type 0 where
    pub then : Situation
    pub so : P then
    pub agrees : IsSituationOf then t
    pub rest : Rests plan workers capacities written t

  -- where nothing happens
  same_state : (z : Situation) (s t : SwitchState) → IsSafe plan workers capacities s → IsQuiet s → IsSituationOf z s → t ≡ s → Comes (λ y. y ≡ z) s.written t
  same_state z s t kept quiet agrees e = subst (Comes (λ y. y ≡ z) s.written) (sym e) (record { then = z; so = refl; agrees = agrees; rest = record { kept = kept; quiet = quiet; same = refl } })

  -- a reason of the machine is one over rows
  left_reason : (s : SwitchState) (z : Situation) → IsSafe plan workers capacities s → IsQuiet s → IsSituationOf z s → (k : Key) (w : Wait) → IsReason plan workers capacities s k w → HasReason plan capacities (good_of plan s.written) z.applied k
  left_reason s z kept quiet agrees k w reason = (w, reason-same plan capacities (good_of plan s.written) (bare_rows s.machine.board.applied) z.applied (λ q. sym (agrees.rows q)) k w (reason-true plan is workers capacities s kept quiet k w reason))

  turn : (ks : List Key) (s t : SwitchState) (left : List Key) (calls : List (Call Rid)) (z : Situation) → IsSafe plan workers capacities s → IsQuiet s → IsSituationOf z s → IsMachineTurn plan workers capacities s ks t left calls → Comes (λ y. IsTurnWith plan capacities (good_of plan s.written) z ks y left calls) s.written t
  turn [] s t left calls z kept quiet agrees (e, none, no_call) = let y = same_state z s t kept quiet agrees e in record { then = y.then; so = (y.so, none, no_call); agrees = y.agrees; rest = y.rest }
  turn (k ∷ ks) s t left calls z kept quiet agrees (inl (w, reason, rest, e, more)) =
      let y = turn ks s t rest calls z kept quiet agrees more in
      record { then = y.then; so = inl (left_reason s z kept quiet agrees k w reason, rest, e, y.so); agrees = y.agrees; rest = y.rest }
  turn (k ∷ ks) s t left calls z kept quiet agrees (inr (mid, own, rest, x, e, more)) =
      let r = left_when_done k s mid own kept quiet z agrees x in
      let y = turn ks mid t left rest r.then r.rest.kept r.rest.quiet r.agrees more in
      record {
        then = y.then;
        so = inr (r.none, r.then, own, rest, r.so, e, subst (λ v. IsTurnWith plan capacities (good_of plan v) r.then ks y.then left rest) r.rest.same y.so);
        agrees = y.agrees;
        rest = subst (λ v. Rests plan workers capacities v t) r.rest.same y.rest;
      }

  turns : (n : ℕ) (s t : SwitchState) (keys left : List Key) (calls : List (Call Rid)) (z : Situation) → IsSafe plan workers capacities s → IsQuiet s → IsSituationOf z s → AreMachineTurns plan workers capacities n s keys t left calls → Comes (λ y. AreTurnsWith plan capacities (good_of plan s.written) n z keys y left calls) s.written t
  turns zero s t keys left calls z kept quiet agrees (none, e, gone, no_call) = let y = same_state z s t kept quiet agrees e in record { then = y.then; so = (none, y.so, gone, no_call); agrees = y.agrees; rest = y.rest }
  turns (suc n) s t keys left calls z kept quiet agrees (some, mid, rest, own, one, inl (e, zero_more, at, gone, all)) =
      let y = turn keys s mid rest own z kept quiet agrees one in
      record {
        then = y.then;
        so = (some, y.then, rest, own, y.so, inl (e, zero_more, refl, gone, all));
        agrees = subst (IsSituationOf y.then) (sym at) y.agrees;
        rest = subst (Rests plan workers capacities s.written) (sym at) y.rest;
      }
  turns (suc n) s t keys left calls z kept quiet agrees (some, mid, rest, own, one, inr (less, more, all, later)) =
      let y = turn keys s mid rest own z kept quiet agrees one in
      let v = turns n mid t rest left more y.then y.rest.kept y.rest.quiet y.agrees later in
      record {
        then = v.then;
        so = (some, y.then, rest, own, y.so, inr (less, more, all, subst (λ u. AreTurnsWith plan capacities (good_of plan u) n y.then rest v.then left more) y.rest.same v.so));
        agrees = v.agrees;
        rest = subst (λ u. Rests plan workers capacities u t) y.rest.same v.rest;
      }

  -- a settling comes to turns over rows, with the same calls
  pub settles : (n : ℕ) (s t : SwitchState) (keys left : List Key) (calls : List (Call Rid)) → IsSafe plan workers capacities s → IsQuiet s → AreMachineTurns plan workers capacities n s keys t left calls → Comes (λ y. AreTurnsWith plan capacities (good_of plan s.written) n (situation s) keys y left calls) s.written t
  settles n s t keys left calls kept quiet h = turns n s t keys left calls (situation s) kept quiet (record { rows = λ q. refl; stands = refl; made = refl }) h

  pub alone : (k : Key) (s t : SwitchState) (calls : List (Call Rid)) → IsSafe plan workers capacities s → IsQuiet s → RunsAlone plan workers capacities k s t calls → (z : Situation) × CompletesWith plan (good_of plan s.written) k (situation s) z calls × IsSituationOf z t
  alone k s t calls kept quiet x = let y = left_when_done k s t calls kept quiet (situation s) (record { rows = λ q. refl; stands = refl; made = refl }) (inr x) in (y.then, y.so, y.agrees)

  -- ---- cut off, with the calls that are tried from there on

  module _ (t : SwitchState) (tried : List (Call Rid)) (are_tried : AreTried workers t tried) where
    none_tried : (more : List (Call Rid)) → AreTried workers t more → IsQuiet t → more ≡ []
    none_tried _ NoCall quiet = refl
    none_tried _ (DueCall call y) quiet = absurd (quiet y.worker y.flight y.flying)

    cut_before : (s : SwitchState) (calls : List (Call Rid)) → IsQuiet s → t ≡ s → calls ≡ [] → calls ++ tried ≡ []
    cut_before s calls quiet e no_call = ap (λ v. v ++ tried) no_call ∙ none_tried tried are_tried (subst IsQuiet (sym e) quiet)

    turn_so_far : (ks : List Key) (s : SwitchState) (calls : List (Call Rid)) (z : Situation) → IsSafe plan workers capacities s → IsQuiet s → IsSituationOf z s → IsMachineTurnSoFar plan workers capacities s ks t calls → IsTurnWithSoFar plan capacities (good_of plan s.written) z ks (calls ++ tried)
    turn_so_far [] s calls z kept quiet agrees (e, no_call) = cut_before s calls quiet e no_call
    turn_so_far (k ∷ ks) s calls z kept quiet agrees (inl (e, no_call)) = inl (cut_before s calls quiet e no_call)
    turn_so_far (k ∷ ks) s calls z kept quiet agrees (inr (inl x)) = inr (inl (no_reason k s t calls kept quiet x z agrees, begun k s t calls kept quiet x z agrees tried are_tried))
    turn_so_far (k ∷ ks) s calls z kept quiet agrees (inr (inr (inl (w, reason, more)))) = inr (inr (inl (left_reason s z kept quiet agrees k w reason, turn_so_far ks s calls z kept quiet agrees more)))
    turn_so_far (k ∷ ks) s calls z kept quiet agrees (inr (inr (inr (mid, own, rest, x, e, more)))) =
        let r = left_when_done k s mid own kept quiet z agrees x in
        let y = turn_so_far ks mid rest r.then r.rest.kept r.rest.quiet r.agrees more in
        inr (inr (inr (r.none, r.then, own, rest ++ tried, r.so, ap (λ v. v ++ tried) e ∙ append_assoc own rest tried, subst (λ v. IsTurnWithSoFar plan capacities (good_of plan v) r.then ks (rest ++ tried)) r.rest.same y)))

    turns_so_far : (n : ℕ) (s : SwitchState) (keys : List Key) (calls : List (Call Rid)) (z : Situation) → IsSafe plan workers capacities s → IsQuiet s → IsSituationOf z s → AreMachineTurnsSoFar plan workers capacities n s keys t calls → AreTurnsWithSoFar plan capacities (good_of plan s.written) n z keys (calls ++ tried)
    turns_so_far zero s keys calls z kept quiet agrees h = turn_so_far keys s calls z kept quiet agrees h
    turns_so_far (suc n) s keys calls z kept quiet agrees (mid, rest, own, one, less, more, all, later) =
        let y = turn keys s mid rest own z kept quiet agrees one in
        let v = turns_so_far n mid rest more y.then y.rest.kept y.rest.quiet y.agrees later in
        (y.then, rest, own, y.so, less, more ++ tried, ap (λ u. u ++ tried) all ∙ append_assoc own more tried, subst (λ u. AreTurnsWithSoFar plan capacities (good_of plan u) n y.then rest (more ++ tried)) y.rest.same v)

  -- a settling so far comes to turns over rows, cut off, with the same calls, and with one more that is due and fails
  pub settles-so-far : (n : ℕ) (s t : SwitchState) (keys : List Key) (calls tried : List (Call Rid)) → IsSafe plan workers capacities s → IsQuiet s → AreMachineTurnsSoFar plan workers capacities n s keys t calls → AreTried workers t tried → AreTurnsWithSoFar plan capacities (good_of plan s.written) n (situation s) keys (calls ++ tried)
  settles-so-far n s t keys calls tried kept quiet h are = turns_so_far t tried are n s keys calls (situation s) kept quiet (record { rows = λ q. refl; stands = refl; made = refl }) h
