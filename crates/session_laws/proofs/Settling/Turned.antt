-- turns that were made, one after the other, and how they end
use Rattle.std.proofs.Common.{◌≡◌, ◌+◌, ◌<◌, ◌++◌, ◌∙◌, inl, inr, ℕ, suc, List, [], length, refl, sym, ap, subst, arith}
use Rattle.std.specs.Map.{keys_of}
use Rattle.std.proofs.lemmas.List.{append-nil, append_assoc}
use Rattle.table_schema.specs.declared.key.Key.{Key}
use Rattle.sai_types.specs.Alike.{IsIn}
use Rattle.sai_types.specs.ChipState.{ChipState}
use Rattle.sai_types.specs.declared.body.Call.{Call}
use Rattle.sai_types.specs.declared.ids.Rid.{Rid}
use Rattle.switch_machine.specs.Events.{SwitchState}
use Rattle.switch_machine.specs.Reasons.{IsReason}
use Rattle.machine_laws.specs.Settling.{AreMachineTurns, AreMachineTurnsSoFar, IsMachineTurn}
use Rattle.restart_laws.specs.Logged.{LoggedService}
use Rattle.session_laws.specs.Core.{CoreState}
use Rattle.session_laws.specs.Standing.{IsSessionOf}
use Rattle.session_laws.specs.Leading.{LeadsTo}
use Rattle.session_laws.specs.Turning.{HaveListed, IsAtRest, IsTurned, IsTurning, TurnsTo}
use Rattle.session_laws.proofs.Settling.Leading.{ahead, plan_led_back, grown, leads_more, leads_none}

-- turns of a core's session
abbrev AreTurns : CoreState → ℕ → SwitchState → List Key → SwitchState → List Key → List (Call Rid) → Type 0
AreTurns c n s keys t left calls = AreMachineTurns c.board.plan 4 c.sync.capacities n s keys t left calls

so_many : (c : CoreState) (n m : ℕ) (s : SwitchState) (keys : List Key) (t : SwitchState) (left : List Key) (calls others : List (Call Rid)) → n ≡ m → calls ≡ others → AreTurns c n s keys t left calls → AreTurns c m s keys t left others
so_many c n m s keys t left calls others many same h = subst (λ k. AreTurns c k s keys t left others) many (subst (AreTurns c n s keys t left) same h)

-- and turns so far
so_far : (c : CoreState) (n m : ℕ) (s : SwitchState) (keys : List Key) (t : SwitchState) (calls others : List (Call Rid)) → n ≡ m → calls ≡ others → AreMachineTurnsSoFar c.board.plan 4 c.sync.capacities n s keys t calls → AreMachineTurnsSoFar c.board.plan 4 c.sync.capacities m s keys t others
so_far c n m s keys t calls others many same h = subst (λ k. AreMachineTurnsSoFar c.board.plan 4 c.sync.capacities k s keys t others) many (subst (AreMachineTurnsSoFar c.board.plan 4 c.sync.capacities n s keys t) same h)

pub turned_none : (c : CoreState) (chip : ChipState) (s : LoggedService) → IsSessionOf c chip s → IsAtRest c → IsTurned 0 c s c chip
turned_none c chip s is rest = record {
  later = s;
  leads = leads_none c chip s is;
  calls = [];
  turns = λ m t left calls h. so_many c m (0 + m) s.service.core (keys_of c.tables.ops) t left calls calls (omega arith) refl h;
  cut = λ m t calls h. so_far c m (0 + m) s.service.core (keys_of c.tables.ops) t calls calls (omega arith) refl h;
  effects = sym (append-nil s.effects);
  log = refl;
  at_rest = rest;
}

module _ (n : ℕ) (c c' : CoreState) (chip' : ChipState) (s : LoggedService) (x : IsTurned n c s c' chip') where
  abbrev first : List Key
  first = keys_of c.tables.ops

  abbrev keys : List Key
  keys = keys_of c'.tables.ops

  module _ (left : List Key) (c'' : CoreState) (chip'' : ChipState) (y : IsTurning keys c' x.later left [] c'' chip'') where
    abbrev over : List Key
    over = keys_of c''.tables.ops

    turn : IsMachineTurn c.board.plan 4 c.sync.capacities x.later.service.core keys y.later.service.core over y.calls
    turn = plan_led_back (λ p l. IsMachineTurn p 4 l x.later.service.core keys y.later.service.core over y.calls) x.leads
        (subst (λ ks. IsMachineTurn c'.board.plan 4 c'.sync.capacities x.later.service.core keys y.later.service.core ks y.calls) (sym y.ops)
        (subst (IsMachineTurn c'.board.plan 4 c'.sync.capacities x.later.service.core keys y.later.service.core (left ++ [])) (append-nil y.calls)
        (y.turn y.later.service.core [] [] (refl, refl, refl))))

    leads : LeadsTo c s y.later c'' chip''
    leads = leads_more c c' c'' chip' chip'' s x.later y.later x.leads y.leads

    -- it took a key away
    pub turned_more : length over < length keys → IsTurned (n + 1) c s c'' chip''
    turned_more fewer = record {
      later = y.later;
      leads = leads;
      calls = x.calls ++ y.calls;
      turns = λ m t left' calls' h.
          so_many c (n + suc m) (n + 1 + m) s.service.core first t left' (x.calls ++ (y.calls ++ calls')) ((x.calls ++ y.calls) ++ calls') (omega arith) (sym (append_assoc x.calls y.calls calls'))
          (x.turns (suc m) t left' (y.calls ++ calls') (omega (arith, fewer), y.later.service.core, over, y.calls, turn, inr (fewer, calls', refl, h)));
      cut = λ m t calls' h.
          so_far c (n + suc m) (n + 1 + m) s.service.core first t (x.calls ++ (y.calls ++ calls')) ((x.calls ++ y.calls) ++ calls') (omega arith) (sym (append_assoc x.calls y.calls calls'))
          (x.cut (suc m) t (y.calls ++ calls') (y.later.service.core, over, y.calls, turn, fewer, calls', refl, h));
      effects = grown s.effects x.later.effects y.later.effects x.calls y.calls x.effects y.effects;
      log = y.log ∙ x.log;
      at_rest = y.at_rest;
    }

    -- it took none away
    module _ (some : 0 < length keys) (same : length over ≡ length keys) where
      still_listed : HaveListed c'' y.later.service.core c''.waiting over
      still_listed = elim y.lists [
        | inl less ↦ let long = ap length y.ops in absurd (omega (arith, less, same, long))
        | inr none ↦ λ k i.
            let one = none.2 k (subst (IsIn k) (y.ops ∙ append-nil left) i) in
            (one.0, one.1, ahead (λ p l. IsReason p 4 l y.later.service.core k one.0) y.leads one.2)
      ]

      pub turned_still : TurnsTo (n + 1) c s c'' chip''
      turned_still = record {
        later = y.later;
        leads = leads;
        calls = x.calls ++ y.calls;
        turns = x.turns 1 y.later.service.core over y.calls (some, y.later.service.core, over, y.calls, turn, inl (same, refl, refl, refl, refl));
        effects = grown s.effects x.later.effects y.later.effects x.calls y.calls x.effects y.effects;
        log = y.log ∙ x.log;
        at_rest = y.at_rest;
        lists = still_listed;
      }

  -- no key is to sync
  pub turned_empty : keys ≡ [] → TurnsTo n c s c' chip'
  turned_empty none = record {
    later = x.later;
    leads = x.leads;
    calls = x.calls;
    turns = so_many c (n + 0) n s.service.core first x.later.service.core keys (x.calls ++ []) x.calls (omega arith) (append-nil x.calls) (x.turns 0 x.later.service.core keys [] (none, refl, none, refl));
    effects = x.effects;
    log = x.log;
    at_rest = x.at_rest;
    lists = λ k i. absurd (subst (IsIn k) none i);
  }
