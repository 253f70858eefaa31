-- how a turn goes on: its keys are left or brought, one after the other
use Rattle.std.proofs.Common.{◌≡◌, ◌⊎◌, ◌<◌, ◌∷◌, ◌++◌, ◌∙◌, inl, inr, ℕ, Bool, true, false, cond, List, [], length, None, Some, refl, sym, ap, subst, arith}
use Rattle.std.specs.BTreeMap.{is_at}
use Rattle.std.specs.Map.{keys_of}
use Rattle.std.proofs.lemmas.Bool.{false≢true}
use Rattle.std.proofs.lemmas.List.{append-nil, append_assoc, length-append}
use Rattle.swss_types.proofs.Maps.{lookup-insert_entry}
use Rattle.table_schema.specs.Key.{key_cmp}
use Rattle.table_schema.specs.declared.key.Key.{Key}
use Rattle.table_schema.proofs.Keys.{at_itself, key_total, tied_keys_same}
use Rattle.sai_types.specs.Alike.{IsIn}
use Rattle.sai_types.specs.ChipState.{ChipState}
use Rattle.sai_types.specs.declared.body.Call.{Call}
use Rattle.sai_types.specs.declared.ids.Rid.{Rid}
use Rattle.sai_types.proofs.Membership.{in-either}
use Rattle.switch_model.specs.declared.wait.Wait.{Wait}
use Rattle.retry_list.specs.Reasons.{Reasons, reason_at, with_reason}
use Rattle.switch_machine.specs.Events.{AreAnswers, IsBegin, IsDrop, IsQuiet, SwitchState}
use Rattle.switch_machine.specs.Reasons.{IsReason}
use Rattle.machine_laws.specs.Settling.{DropsKey, IsMachineTurn, IsMachineTurnSoFar, RunsAlone}
use Rattle.restart_laws.specs.Logged.{LoggedService}
use Rattle.registry_laws.proofs.Core.Resting.{none_flies}
use Rattle.flight_board.specs.Board.{flown_at}
use Rattle.warm_state.specs.declared.warm.Warm.TheVariants as warm
use Rattle.session_laws.specs.Core.{CoreState}
use Rattle.session_laws.specs.Events.{IsMachineStep, MakesOne}
use Rattle.session_laws.specs.Standing.{IsSessionOf}
use Rattle.session_laws.specs.Leading.{LeadsTo, RunsTo, calls_in}
use Rattle.session_laws.specs.Turning.{HaveListed, IsAtRest, IsTurning}
use Rattle.session_laws.proofs.ByFirst.{begin_stays, by_any, same_machine_stays}
use Rattle.session_laws.proofs.Settling.Leading.{plan_led_back, grown, leads_more, leads_none, leads_one, leads_still}

pub turn_begins : (c : CoreState) (chip : ChipState) (s : LoggedService) → IsSessionOf c chip s → IsAtRest c → IsTurning (keys_of c.tables.ops) c s [] (keys_of c.tables.ops) c chip
turn_begins c chip s is rest = record {
  later = s;
  leads = leads_none c chip s is;
  calls = [];
  turn = λ t left calls h. h;
  cut = λ t calls h. h;
  effects = sym (append-nil s.effects);
  log = refl;
  ops = refl;
  at_rest = rest;
  lists = inr (refl, refl, λ k i. absurd i);
}

-- where no worker has anything under way the machine is quiet
pub free_quiet : (c : CoreState) (chip : ChipState) (s : LoggedService) → IsSessionOf c chip s → c.warm ≡ warm.Reconciled → ((v : ℕ) → v < 4 → flown_at c.board v ≡ None) → IsQuiet s.service.core
free_quiet c chip s is at free = none_flies c.board.plan c.sync.capacities c.board.names c.board.room (flown_at c.board) s.service.core (is.working at).stands.board free

pub quiet : (c : CoreState) (chip : ChipState) (s : LoggedService) → IsSessionOf c chip s → IsAtRest c → IsQuiet s.service.core
quiet c chip s is rest = free_quiet c chip s is rest.warm rest.free

module _ (keys left rest : List Key) (k : Key) (c c' : CoreState) (chip' : ChipState) (s : LoggedService) (x : IsTurning keys c s left (k ∷ rest) c' chip') where
  abbrev core : SwitchState
  core = x.later.service.core

  -- ---- the key leaves

  fewer : length (left ++ rest) < length keys
  fewer =
      let one = length-append left (k ∷ rest) in
      let less = length-append left rest in
      elim x.lists [ inl some ↦ omega (arith, one, less, some) | inr none ↦ let same = none.0 in omega (arith, one, less, same) ]

  -- it is brought with these calls, and the others are still to be tried
  turn_brings : (c'' : CoreState) (chip'' : ChipState) (later : LoggedService) (own : List (Call Rid)) → LeadsTo c' x.later later c'' chip''
      → DropsKey c'.board.plan k core later.service.core own ⊎ RunsAlone c'.board.plan 4 c'.sync.capacities k core later.service.core own
      → later.effects ≡ x.later.effects ++ own → later.log ≡ x.later.log → IsAtRest c'' → keys_of c''.tables.ops ≡ left ++ rest → IsTurning keys c s left rest c'' chip''
  turn_brings c'' chip'' later own leads brings effects log rests ops = record {
    later = later;
    leads = leads_more c c' c'' chip' chip'' s x.later later x.leads leads;
    calls = x.calls ++ own;
    turn = λ t left' calls' h.
        subst (IsMachineTurn c.board.plan 4 c.sync.capacities s.service.core keys t (left ++ left')) (sym (append_assoc x.calls own calls'))
        (x.turn t left' (own ++ calls') (inr (later.service.core, own, calls', brought, refl, h)));
    cut = λ t calls' h.
        subst (IsMachineTurnSoFar c.board.plan 4 c.sync.capacities s.service.core keys t) (sym (append_assoc x.calls own calls'))
        (x.cut t (own ++ calls') (inr (inr (inr (later.service.core, own, calls', brought, refl, h)))));
    effects = grown s.effects x.later.effects later.effects x.calls own x.effects effects;
    log = log ∙ x.log;
    ops = ops;
    at_rest = rests;
    lists = inl fewer;
  }
    where
      brought : DropsKey c.board.plan k core later.service.core own ⊎ RunsAlone c.board.plan 4 c.sync.capacities k core later.service.core own
      brought = plan_led_back (λ p l. DropsKey p k core later.service.core own ⊎ RunsAlone p 4 l k core later.service.core own) x.leads brings

  pub turn_drops : (c'' : CoreState) (y : MakesOne c' x.later c'' chip') (z : IsDrop c'.board.plan core y.later.service.core) → z.key ≡ k → IsMachineStep x.later None y.later → IsAtRest c'' → keys_of c''.tables.ops ≡ left ++ rest → IsTurning keys c s left rest c'' chip'
  turn_drops c'' y z at step rests ops =
      turn_brings c'' chip' y.later [] (leads_one c' c'' chip' x.later y (by_any 0 x.later y.later (same_machine_stays x.later y.later (ap (λ (t : LoggedService). t.service.warm) step) z.machine))) (inl (record { drop = z; is = at; none = refl })) (ap (λ (t : LoggedService). t.effects) step) (ap (λ (t : LoggedService). t.log) step) rests ops

  module _ (c'' d : CoreState) (chip'' : ChipState) (y : MakesOne c' x.later c'' chip') (z : IsBegin c'.board.plan 4 c'.sync.capacities core y.later.service.core) (at : z.flight.key ≡ k) (own : z.worker ≡ 0) (step : IsMachineStep x.later None y.later) (r : RunsTo c'' y.later d chip'') (rests : IsAtRest d) where
    runs_alone : RunsAlone c'.board.plan 4 c'.sync.capacities k core r.later.service.core (calls_in r.answers)
    runs_alone = record {
      first = y.later.service.core;
      starting = z;
      is = at;
      answers = r.answers;
      are = subst (λ p. AreAnswers p 4 y.later.service.core r.answers) y.plan r.are;
      quiet = subst IsQuiet r.core (quiet d chip'' r.later r.leads.stands rests);
      last = r.core;
      calls_are = refl;
    }

    pub turn_runs : keys_of d.tables.ops ≡ left ++ rest → IsTurning keys c s left rest d chip''
    turn_runs ops =
        turn_brings d chip'' r.later (calls_in r.answers) (leads_more c' c'' d chip' chip'' x.later y.later r.later (leads_one c' c'' chip' x.later y (begin_stays x.later y.later (ap (λ (t : LoggedService). t.service.warm) step) c'.board.plan 4 c'.sync.capacities z 0 own)) r.leads) (inr runs_alone)
        (r.effects ∙ ap (λ l. l ++ calls_in r.answers) (ap (λ (t : LoggedService). t.effects) step ∙ append-nil x.later.effects))
        (r.log ∙ ap (λ (t : LoggedService). t.log) step) rests ops

  -- ---- the key waits

  module _ (r : Wait) (reason : IsReason c'.board.plan 4 c'.sync.capacities core k r) where
    true_reason : IsReason c.board.plan 4 c.sync.capacities core k r
    true_reason = plan_led_back (λ p l. IsReason p 4 l core k r) x.leads reason

    -- with its reason on the list each key that was left has one there
    one_listed : HaveListed c core c'.waiting left → (q : Key) (b : Bool) → is_at (key_cmp q) k ≡ b → IsIn q left ⊎ IsIn q (k ∷ []) → (w : Wait) × (cond b (Some r) (reason_at c'.waiting q) ≡ Some w) × IsReason c.board.plan 4 c.sync.capacities core q w
    one_listed have q true e i = (r, refl, subst (λ z. IsReason c.board.plan 4 c.sync.capacities core z r) (sym (tied_keys_same q k e)) true_reason)
    one_listed have q false e (inl i) = have q i
    one_listed have q false e (inr (inl is)) = absurd (false≢true (sym e ∙ at_itself q k is))
    one_listed have q false e (inr (inr i)) = absurd i

    all_listed : (waiting : Reasons) → waiting ≡ with_reason c'.waiting k r → HaveListed c core c'.waiting left → HaveListed c core waiting (left ++ k ∷ [])
    all_listed waiting is have = λ q i.
        let one = one_listed have q (is_at (key_cmp q) k) refl (in-either q left (k ∷ []) i) in
        (one.0, ap (λ l. reason_at l q) is ∙ lookup-insert_entry key_cmp key_total c'.waiting k r q ∙ one.1, one.2)

    pub turn_waits : (c'' : CoreState) → IsSessionOf c'' chip' x.later → c''.board.plan ≡ c'.board.plan → c''.sync.capacities ≡ c'.sync.capacities → c''.limit ≡ c'.limit → IsAtRest c'' → c''.tables.ops ≡ c'.tables.ops → c''.waiting ≡ with_reason c'.waiting k r → IsTurning keys c s (left ++ k ∷ []) rest c'' chip'
    turn_waits c'' is plan capacities limit rests ops waiting =
        let long : length ((left ++ k ∷ []) ++ rest) ≡ length (left ++ k ∷ rest) = ap length (append_assoc left (k ∷ []) rest) in
        record {
          later = x.later;
          leads = leads_more c c' c'' chip' chip' s x.later x.later x.leads (leads_still c' c'' chip' x.later is plan capacities limit);
          calls = x.calls;
          turn = λ t left' calls' h.
              subst (λ l. IsMachineTurn c.board.plan 4 c.sync.capacities s.service.core keys t l (x.calls ++ calls')) (sym (append_assoc left (k ∷ []) left'))
              (x.turn t (k ∷ left') calls' (inl (r, true_reason, left', refl, h)));
          cut = λ t calls' h. x.cut t calls' (inr (inr (inl (r, true_reason, h))));
          effects = x.effects;
          log = x.log;
          ops = ap keys_of ops ∙ x.ops ∙ sym (append_assoc left (k ∷ []) rest);
          at_rest = rests;
          lists = elim x.lists [
            | inl some ↦ inl (subst (λ n. n < length keys) (sym long) some)
            | inr none ↦ inr (long ∙ none.0, none.1, all_listed c''.waiting waiting none.2)
          ];
        }
