-- one operation from its beginning to its end, alone: the key has its good row, and all other rows are as they were
use Rattle.std.proofs.Common.{◌≡◌, ◌∷◌, ◌∙◌, ℕ, List, [], Option, None, Some, if◌then◌else◌, refl, sym, ap, subst}
use Rattle.std.specs.BTreeMap.{is_at}
use Rattle.std.proofs.lemmas.Option.{same_Some}
use Rattle.table_schema.specs.Key.{key_cmp}
use Rattle.table_schema.specs.Plan.{Ports}
use Rattle.table_schema.specs.declared.key.Key.{Key}
use Rattle.sai_types.specs.declared.ids.Rid.{Rid}
use Rattle.sai_types.specs.declared.body.Call.{Call}
use Rattle.switch_model.specs.Placed.{Placed as Row, PlacedRows}
use Rattle.row_layout.specs.Rows.{Owner}
use Rattle.row_layout.specs.Operations.{Change}
use Rattle.switch_machine.specs.Events.{IsAnswer, AreAnswers, SwitchState, Due, Ended, Follows, IsQuiet, Left, Retires, IsBegin, after_answers, placed_good}
use Rattle.switch_machine.specs.Steps.{finished, left, moved, parted, started, with_row}
use Rattle.switch_machine.specs.Flights.{MachineFlight, Machine}
use Rattle.switch_machine.specs.Written.{good_of}
use Rattle.switch_machine.proofs.Running.{no_flight}
use Rattle.switch_machine.proofs.Splits.{IsPut, New, Old, put_at, put_by}

row_same : (k : Key) (o p : Option Row) (rows old : PlacedRows) (q : Key) → o ≡ p → rows q ≡ old q → with_row k o rows q ≡ with_row k p old q
row_same k o p rows old q e h = ap (λ z. if is_at (key_cmp k) q then o else z) h ∙ ap (λ z. if is_at (key_cmp k) q then z else old q) e

module _ (plan : Ports) (workers w : ℕ) (k : Key) (new : Option Row) (old : PlacedRows) where
  record Flying (m : Machine) : Type 0 where
    there : (f : MachineFlight) × (m.board.flights w ≡ Some f)
    only : (v : ℕ) (g : MachineFlight) → m.board.flights v ≡ Some g → (v ≡ w) × (g.key ≡ k) × (g.new ≡ new)
    rows : (q : Key) → m.board.applied q ≡ old q

  record Done (m : Machine) : Type 0 where
    quiet : (v : ℕ) (g : MachineFlight) → m.board.flights v ≡ Some g → ⊥
    rows : (q : Key) → m.board.applied q ≡ with_row k new old q

  data Solo (m : Machine) : Type 0 where
    Flies : Flying m → Solo m
    Ends : Done m → Solo m

  ended_done : (m : Machine) (f : MachineFlight) → f.key ≡ k → f.new ≡ new → Flying m → Done (finished m w f)
  ended_done m f is that x = record {
    quiet = λ v g at. gone v g (put_by w v None m.board.flights (Some g) at);
    rows = λ q. subst (λ z. with_row z f.new m.board.applied q ≡ with_row k new old q) (sym is) (row_same k f.new new m.board.applied old q that (x.rows q));
  }
    where
      gone : (v : ℕ) (g : MachineFlight) → IsPut w v None m.board.flights (Some g) → ⊥
      gone v g (New same e) = no_flight g e
      gone v g (Old other there) = other (x.only v g there).0

  left_flying : (m : Machine) (f : MachineFlight) (retires : Option Owner) (due : List Change) → f.key ≡ k → f.new ≡ new → Flying m → Flying (left m w f retires due)
  left_flying m f retires due is that x = record {
    there = (parted f retires, put_at w w (Some (parted f retires)) m.board.flights refl);
    only = λ v g at. of v g (put_by w v (Some (parted f retires)) m.board.flights (Some g) at);
    rows = x.rows;
  }
    where
      of : (v : ℕ) (g : MachineFlight) → IsPut w v (Some (parted f retires)) m.board.flights (Some g) → (v ≡ w) × (g.key ≡ k) × (g.new ≡ new)
      of v g (New same e) = let one = same_Some (parted f retires) g e in (same, sym (ap (λ (z : MachineFlight). z.key) one) ∙ is, sym (ap (λ (z : MachineFlight). z.new) one) ∙ that)
      of v g (Old other there) = x.only v g there

  solo_follows : (m later : Machine) → Flying m → Follows plan w m later → Solo later
  solo_follows m _ x (Due c cs at) = Flies x
  solo_follows m _ x (Ended f ends) = let y = x.only w f ends.flying in Ends (ended_done m f y.1 y.2 x)
  solo_follows m _ x (Left f o leaves) = let y = x.only w f leaves.leaving.flying in Ends (ended_done (left m w f f.retires []) (parted f f.retires) y.1 y.2 (left_flying m f f.retires [] y.1 y.2 x))
  solo_follows m _ x (Retires f o last) = let y = x.only w f last.leaving.flying in Flies (left_flying m f (Some o) _ y.1 y.2 x)

  solo_answer : (s t : SwitchState) (call : Call Rid) → IsAnswer plan workers call s t → Solo s.machine → Solo t.machine
  solo_answer s t call x (Ends done) = absurd (done.quiet x.next.worker x.next.flight x.next.flying)
  solo_answer s t call x (Flies f) =
      let at = (f.only x.next.worker x.next.flight x.next.flying).0 in
      let m : Machine = moved s.machine x.next.worker x.next.rest x.stands in
      solo_follows m t.machine (record { there = f.there; only = f.only; rows = f.rows }) (subst (λ v. Follows plan v m t.machine) at x.follows)

  solo_answers : (s : SwitchState) (es : List (Call Rid × SwitchState)) → AreAnswers plan workers s es → Solo s.machine → Solo (after_answers s es).machine
  solo_answers s [] run h = h
  solo_answers s (e ∷ es) run h = solo_answers e.1 es run.1 (solo_answer s e.1 e.0 run.0 h)

-- alone, an operation brings its key's good row and changes no other
pub solo-key : (plan : Ports) (workers : ℕ) (capacities : List ℕ) (s t : SwitchState) (x : IsBegin plan workers capacities s t) (es : List (Call Rid × SwitchState)) → IsQuiet s → AreAnswers plan workers t es → IsQuiet (after_answers t es) → (q : Key) → (after_answers t es).machine.board.applied q ≡ with_row x.flight.key (placed_good plan s.machine.board s.written x.flight.key) s.machine.board.applied q
solo-key plan workers capacities s t x es quiet run end q = by (solo_answers plan workers x.worker x.flight.key (placed_good plan s.machine.board s.written x.flight.key) s.machine.board.applied t es run first)
  where
    first : Solo plan workers x.worker x.flight.key (placed_good plan s.machine.board s.written x.flight.key) s.machine.board.applied t.machine
    first = solo_follows plan workers x.worker x.flight.key (placed_good plan s.machine.board s.written x.flight.key) s.machine.board.applied (started s.machine x.worker x.flight x.due) t.machine (record {
      there = (x.flight, put_at x.worker x.worker (Some x.flight) s.machine.board.flights refl);
      only = λ v g at. of v g (put_by x.worker v (Some x.flight) s.machine.board.flights (Some g) at);
      rows = λ q. refl;
    }) x.follows
      where
        of : (v : ℕ) (g : MachineFlight) → IsPut x.worker v (Some x.flight) s.machine.board.flights (Some g) → (v ≡ x.worker) × (g.key ≡ x.flight.key) × (g.new ≡ placed_good plan s.machine.board s.written x.flight.key)
        of v g (New same e) = let one = same_Some x.flight g e in (same, sym (ap (λ (z : MachineFlight). z.key) one), sym (ap (λ (z : MachineFlight). z.new) one) ∙ x.new)
        of v g (Old other there) = absurd (quiet v g there)

    by : Solo plan workers x.worker x.flight.key (placed_good plan s.machine.board s.written x.flight.key) s.machine.board.applied (after_answers t es).machine → (after_answers t es).machine.board.applied q ≡ with_row x.flight.key (placed_good plan s.machine.board s.written x.flight.key) s.machine.board.applied q
    by (Ends done) = done.rows q
    by (Flies f) = absurd (end x.worker f.there.0 f.there.1)
