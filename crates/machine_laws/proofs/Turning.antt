-- turns with their calls are turns over rows, and a settling of the machine, whole or so far, is a list of its events
use Rattle.std.proofs.Common.{◌≡◌, ◌⊎◌, ◌+◌, ◌<◌, ◌∷◌, ◌++◌, ◌∙◌, inl, inr, ℕ, zero, suc, List, [], length, map, Option, None, Some, refl, sym, ap, subst, arith}
use Rattle.std.proofs.lemmas.List.{append-nil}
use Rattle.table_schema.specs.Plan.{Ports}
use Rattle.table_schema.specs.declared.key.Key.{Key}
use Rattle.sai_types.specs.declared.ids.Rid.{Rid}
use Rattle.sai_types.specs.declared.body.Call.{Call}
use Rattle.switch_model.specs.Good.{TypedRows}
use Rattle.switch_model.specs.Turns.{IsTurn, TakeTurns}
use Rattle.switch_machine.specs.Events.{AreAnswers, AreEvents, SwitchState, after_answers, after_events, calls_of, with_made_call}
use Rattle.machine_laws.specs.Calls.{AreTurnsWith, IsTurnWith, Situation}
use Rattle.machine_laws.specs.Settling.{AreMachineTurns, AreMachineTurnsSoFar, DropsKey, IsMachineTurn, IsMachineTurnSoFar, RunsAlone, RunsSoFar}
use Rattle.machine_laws.proofs.Alone.{alone-so-far}

-- ---- turns without their calls

module _ (plan : Ports) (capacities : List ℕ) (good : TypedRows) where
  turn_rows : (ks : List Key) (s t : Situation) (left : List Key) (calls : List (Call Rid)) → IsTurnWith plan capacities good s ks t left calls → IsTurn plan capacities good s.applied ks t.applied left
  turn_rows [] s t left calls (e, none, no_call) = (ap (λ (z : Situation). z.applied) e, none)
  turn_rows (k ∷ ks) s t left calls (inl (reason, rest, e, more)) = inl (reason, rest, e, turn_rows ks s t rest calls more)
  turn_rows (k ∷ ks) s t left calls (inr (none, mid, own, rest, x, e, more)) = inr (none, subst (λ z. IsTurn plan capacities good z ks t.applied left) x.applied (turn_rows ks mid t left rest more))

  pub turns-rows : (n : ℕ) (s t : Situation) (keys left : List Key) (calls : List (Call Rid)) → AreTurnsWith plan capacities good n s keys t left calls → TakeTurns plan capacities good n s.applied keys t.applied left
  turns-rows zero s t keys left calls (none, e, gone, no_call) = (none, ap (λ (z : Situation). z.applied) e, gone)
  turns-rows (suc n) s t keys left calls (some, mid, rest, own, one, inl (e, zero_more, at, gone, all)) = (some, mid.applied, rest, turn_rows keys s mid rest own one, inl (e, zero_more, ap (λ (z : Situation). z.applied) at, gone))
  turns-rows (suc n) s t keys left calls (some, mid, rest, own, one, inr (less, more, all, later)) = (some, mid.applied, rest, turn_rows keys s mid rest own one, inr (less, turns-rows n mid t rest left more later))

-- ---- a settling as events

module _ (plan : Ports) (workers : ℕ) (capacities : List ℕ) where
  -- no event takes a write
  abbrev pub TakeNothing : SwitchState → List (Option (Call Rid) × SwitchState) → Type 0
  TakeNothing s [] = Unit {0}
  TakeNothing s (e ∷ es) = (e.1.written.taken ≡ s.written.taken) × TakeNothing e.1 es

  -- events that lead from one state to another, with these calls
  pub record Leads (s t : SwitchState) (calls : List (Call Rid)) : Type 0 where
    pub events : List (Option (Call Rid) × SwitchState)
    pub are : AreEvents plan workers capacities s events
    pub last : after_events s events ≡ t
    pub takeless : TakeNothing s events
    pub calls_are : calls_of events ≡ calls

  nothing : (s t : SwitchState) (calls : List (Call Rid)) → t ≡ s → calls ≡ [] → Leads s t calls
  nothing s t calls e none = record { events = []; are = tt; last = sym e; takeless = tt; calls_are = sym none }

  events_after : (s : SwitchState) (es fs : List (Option (Call Rid) × SwitchState)) → AreEvents plan workers capacities s es → AreEvents plan workers capacities (after_events s es) fs → AreEvents plan workers capacities s (es ++ fs) × (after_events s (es ++ fs) ≡ after_events (after_events s es) fs)
  events_after s [] fs run more = (more, refl)
  events_after s (e ∷ es) fs run more = let y = events_after e.1 es fs run.1 more in ((run.0, y.0), y.1)

  takeless_after : (s : SwitchState) (es fs : List (Option (Call Rid) × SwitchState)) → TakeNothing s es → TakeNothing (after_events s es) fs → TakeNothing s (es ++ fs)
  takeless_after s [] fs h g = g
  takeless_after s (e ∷ es) fs h g = (h.0, takeless_after e.1 es fs h.1 g)

  made_more : (c : Option (Call Rid)) (calls more : List (Call Rid)) → with_made_call c (calls ++ more) ≡ with_made_call c calls ++ more
  made_more None calls more = refl
  made_more (Some call) calls more = refl

  calls_more : (es fs : List (Option (Call Rid) × SwitchState)) → calls_of (es ++ fs) ≡ calls_of es ++ calls_of fs
  calls_more [] fs = refl
  calls_more (e ∷ es) fs = ap (with_made_call e.0) (calls_more es fs) ∙ made_more e.0 (calls_of es) (calls_of fs)

  pub both : (s mid t : SwitchState) (own more calls : List (Call Rid)) → calls ≡ own ++ more → Leads s mid own → Leads mid t more → Leads s t calls
  both s mid t own more calls e x y =
      let z = events_after s x.events y.events x.are (subst (λ v. AreEvents plan workers capacities v y.events) (sym x.last) y.are) in
      record {
        events = x.events ++ y.events;
        are = z.0;
        last = z.1 ∙ ap (λ v. after_events v y.events) x.last ∙ y.last;
        takeless = takeless_after s x.events y.events x.takeless (subst (λ v. TakeNothing v y.events) (sym x.last) y.takeless);
        calls_are = calls_more x.events y.events ∙ ap (λ v. v ++ calls_of y.events) x.calls_are ∙ ap (λ v. own ++ v) y.calls_are ∙ sym e;
      }

  answers : (s : SwitchState) (es : List (Call Rid × SwitchState)) → AreAnswers plan workers s es → Leads s (after_answers s es) (map (λ (a : Call Rid × SwitchState). a.0) es)
  answers s [] run = nothing s s [] refl refl
  answers s (e ∷ es) run =
      let y = answers e.1 es run.1 in
      record { events = (Some e.0, e.1) ∷ y.events; are = (run.0, y.are); last = y.last; takeless = (ap (λ z. z.taken) run.0.written, y.takeless); calls_are = ap (λ z. e.0 ∷ z) y.calls_are }

  begun : (k : Key) (s t : SwitchState) (calls : List (Call Rid)) → RunsSoFar plan workers capacities k s t calls → Leads s t calls
  begun k s t calls x =
      let y = answers x.first x.answers x.are in
      record { events = (None, x.first) ∷ y.events; are = (inr (inr (inr x.starting)), y.are); last = y.last ∙ sym x.last; takeless = (ap (λ z. z.taken) x.starting.written, y.takeless); calls_are = y.calls_are ∙ sym x.calls_are }

  leaves : (k : Key) (s t : SwitchState) (calls : List (Call Rid)) → DropsKey plan k s t calls ⊎ RunsAlone plan workers capacities k s t calls → Leads s t calls
  leaves k s t calls (inl x) = record { events = (None, t) ∷ []; are = (inr (inr (inl x.drop)), tt); last = refl; takeless = (ap (λ z. z.taken) x.drop.written, tt); calls_are = sym x.none }
  leaves k s t calls (inr x) = begun k s t calls (alone-so-far plan workers capacities k s t calls x)

  turn : (ks : List Key) (s t : SwitchState) (left : List Key) (calls : List (Call Rid)) → IsMachineTurn plan workers capacities s ks t left calls → Leads s t calls
  turn [] s t left calls (e, none, no_call) = nothing s t calls e no_call
  turn (k ∷ ks) s t left calls (inl (w, reason, rest, e, more)) = turn ks s t rest calls more
  turn (k ∷ ks) s t left calls (inr (mid, own, rest, x, e, more)) = both s mid t own rest calls e (leaves k s mid own x) (turn ks mid t left rest more)

  pub turns-lead : (n : ℕ) (s t : SwitchState) (keys left : List Key) (calls : List (Call Rid)) → AreMachineTurns plan workers capacities n s keys t left calls → Leads s t calls
  turns-lead zero s t keys left calls (none, e, gone, no_call) = nothing s t calls e no_call
  turns-lead (suc n) s t keys left calls (some, mid, rest, own, one, inl (e, zero_more, at, gone, all)) = both s mid t own [] calls (all ∙ sym (append-nil own)) (turn keys s mid rest own one) (nothing mid t [] at refl)
  turns-lead (suc n) s t keys left calls (some, mid, rest, own, one, inr (less, more, all, later)) = both s mid t own more calls all (turn keys s mid rest own one) (turns-lead n mid t rest left more later)

  -- a settling is a list of events with its calls
  pub settling-events : (n : ℕ) (s t : SwitchState) (keys left : List Key) (calls : List (Call Rid)) → AreMachineTurns plan workers capacities n s keys t left calls → (es : List (Option (Call Rid) × SwitchState)) × AreEvents plan workers capacities s es × (after_events s es ≡ t) × (calls_of es ≡ calls)
  settling-events n s t keys left calls h = let x = turns-lead n s t keys left calls h in (x.events, x.are, x.last, x.calls_are)

  -- ---- and so far

  turn_so_far : (ks : List Key) (s t : SwitchState) (calls : List (Call Rid)) → IsMachineTurnSoFar plan workers capacities s ks t calls → Leads s t calls
  turn_so_far [] s t calls (e, no_call) = nothing s t calls e no_call
  turn_so_far (k ∷ ks) s t calls (inl (e, no_call)) = nothing s t calls e no_call
  turn_so_far (k ∷ ks) s t calls (inr (inl x)) = begun k s t calls x
  turn_so_far (k ∷ ks) s t calls (inr (inr (inl (w, reason, more)))) = turn_so_far ks s t calls more
  turn_so_far (k ∷ ks) s t calls (inr (inr (inr (mid, own, rest, x, e, more)))) = both s mid t own rest calls e (leaves k s mid own x) (turn_so_far ks mid t rest more)

  pub turns-so-far-lead : (n : ℕ) (s t : SwitchState) (keys : List Key) (calls : List (Call Rid)) → AreMachineTurnsSoFar plan workers capacities n s keys t calls → Leads s t calls
  turns-so-far-lead zero s t keys calls h = turn_so_far keys s t calls h
  turns-so-far-lead (suc n) s t keys calls (mid, rest, own, one, less, more, all, later) = both s mid t own more calls all (turn keys s mid rest own one) (turns-so-far-lead n mid t rest more later)

  -- a settling so far is a list of events with its calls
  pub so-far-events : (n : ℕ) (s t : SwitchState) (keys : List Key) (calls : List (Call Rid)) → AreMachineTurnsSoFar plan workers capacities n s keys t calls → (es : List (Option (Call Rid) × SwitchState)) × AreEvents plan workers capacities s es × (after_events s es ≡ t) × (calls_of es ≡ calls)
  so-far-events n s t keys calls h = let x = turns-so-far-lead n s t keys calls h in (x.events, x.are, x.last, x.calls_are)

  -- a whole turn is one so far
  turn_cut : (ks : List Key) (s t : SwitchState) (left : List Key) (calls : List (Call Rid)) → IsMachineTurn plan workers capacities s ks t left calls → IsMachineTurnSoFar plan workers capacities s ks t calls
  turn_cut [] s t left calls (e, none, no_call) = (e, no_call)
  turn_cut (k ∷ ks) s t left calls (inl (w, reason, rest, e, more)) = inr (inr (inl (w, reason, turn_cut ks s t rest calls more)))
  turn_cut (k ∷ ks) s t left calls (inr (mid, own, rest, x, e, more)) = inr (inr (inr (mid, own, rest, x, e, turn_cut ks mid t left rest more)))

  -- and whole turns are turns so far, one less where they left a key
  abbrev IsCount : ℕ → ℕ → List Key → Type 0
  IsCount m n left = ((left ≡ []) × (m ≡ n)) ⊎ ((0 < length left) × (n ≡ m + 1))

  one_more : (m n : ℕ) (left : List Key) → IsCount m n left → IsCount (suc m) (suc n) left
  one_more m n left (inl (none, e)) = inl (none, ap suc e)
  one_more m n left (inr (some, e)) = inr (some, omega (arith, e))

  pub turns-cut : (n : ℕ) (s t : SwitchState) (keys left : List Key) (calls : List (Call Rid)) → AreMachineTurns plan workers capacities n s keys t left calls → (m : ℕ) × IsCount m n left × AreMachineTurnsSoFar plan workers capacities m s keys t calls
  turns-cut zero s t keys left calls (none, e, gone, no_call) = (0, inl (gone, refl), subst (λ v. IsMachineTurnSoFar plan workers capacities s v t calls) (sym none) (e, no_call))
  turns-cut (suc n) s t keys left calls (some, mid, rest, own, one, inl (e, zero_more, at, gone, all)) =
      let y = turn_cut keys s mid rest own one in
      (0, inr (omega (arith, some, e, ap length gone), ap suc zero_more), subst (λ v. IsMachineTurnSoFar plan workers capacities s keys v calls) (sym at) (subst (λ v. IsMachineTurnSoFar plan workers capacities s keys mid v) (sym all) y))
  turns-cut (suc n) s t keys left calls (some, mid, rest, own, one, inr (less, more, all, later)) =
      let y = turns-cut n mid t rest left more later in
      (suc y.0, one_more y.0 n left y.1, (mid, rest, own, one, less, more, all, y.2))
