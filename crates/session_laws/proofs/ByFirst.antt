-- none but the first workers has an operation under way, step by step
use Rattle.std.proofs.Common.{◌≡◌, ◌≤◌, ◌<◌, ◌∙◌, ◌∷◌, ◌++◌, ℕ, List, [], Option, Some, None, refl, sym, ap, subst, arith}
use Rattle.std.proofs.lemmas.Option.{none-some}
use Rattle.table_schema.specs.Plan.{Ports}
use Rattle.sai_types.specs.declared.body.Call.{Call}
use Rattle.sai_types.specs.declared.ids.Rid.{Rid}
use Rattle.switch_machine.specs.Events.{Due, Ended, Follows, IsAnswer, IsBegin, IsQuiet, Left, Retires, SwitchState}
use Rattle.switch_machine.specs.Flights.{Machine, MachineFlight}
use Rattle.switch_machine.specs.Next.{Answering, Beginning, Dropping, Idling, IsNextEvent, Popping}
use Rattle.switch_machine.specs.Steps.{left, moved, parted, started}
use Rattle.switch_machine.proofs.Splits.{put_off}
use Rattle.restart_laws.specs.Invariant.{Holds, HoldsIn}
use Rattle.restart_laws.specs.Logged.{LoggedService, session_after}
use Rattle.restart_laws.specs.Service.{Finishes}
use Rattle.warm_state.specs.declared.warm.Warm.TheVariants.{Reconciled}
use Rattle.session_laws.specs.Workers.{AreByFirst, IsByFirst, StayByFirst, StaysByFirst}

-- ---- the machine

-- none but the first workers has an operation under way
abbrev AreFew : ℕ → Machine → Type 0
AreFew n m = (v : ℕ) → n ≤ v → m.board.flights v ≡ None

module _ (plan : Ports) (n w : ℕ) (apart : (v : ℕ) → n ≤ v → v ≡ w → ⊥) where
  follows_few : (m m' : Machine) → AreFew n m → Follows plan w m m' → AreFew n m'
  follows_few m _ few (Due c cs due) = few
  follows_few m _ few (Ended f x) = λ v above. put_off w v None m.board.flights (apart v above) ∙ few v above
  follows_few m _ few (Left f o x) = λ v above. put_off w v None (left m w f f.retires []).board.flights (apart v above) ∙ put_off w v (Some (parted f f.retires)) m.board.flights (apart v above) ∙ few v above
  follows_few m _ few (Retires f o x) = λ v above. put_off w v (Some (parted f (Some o))) m.board.flights (apart v above) ∙ few v above

module _ (plan : Ports) (workers n : ℕ) (s t : SwitchState) (few : AreFew n s.machine) where
  -- the worker of an answer has an operation, so it is one of them
  answer_few : (call : Call Rid) → IsAnswer plan workers call s t → AreFew n t.machine
  answer_few call x =
      follows_few plan n x.next.worker (λ v above same. none-some x.next.flight (sym (few v above) ∙ subst (λ u. s.machine.board.flights u ≡ Some x.next.flight) (sym same) x.next.flying))
      (moved s.machine x.next.worker x.next.rest x.stands) t.machine few x.follows

  begin_few : (capacities : List ℕ) (x : IsBegin plan workers capacities s t) → x.worker < n → AreFew n t.machine
  begin_few capacities x less =
      follows_few plan n x.worker apart (started s.machine x.worker x.flight x.due) t.machine (λ v above. put_off x.worker v (Some x.flight) s.machine.board.flights (apart v above) ∙ few v above) x.follows
    where
      apart : (v : ℕ) → n ≤ v → v ≡ x.worker → ⊥
      apart v above same = omega (arith, less, above, same)

  same_few : t.machine ≡ s.machine → AreFew n t.machine
  same_few same = λ v above. ap (λ (m : Machine). m.board.flights v) same ∙ few v above

next_few : (plan : Ports) (workers : ℕ) (capacities : List ℕ) (w n : ℕ) (s t : SwitchState) (call : Option (Call Rid)) → w < n → AreFew n s.machine → IsNextEvent plan workers capacities w s call t → AreFew n t.machine
next_few plan workers capacities w n s t _ less few (Answering call _ x same) = answer_few plan workers n s t few call x
next_few plan workers capacities w n s t _ less few (Popping _ k none x more gone) = same_few plan workers n s t few x.machine
next_few plan workers capacities w n s t _ less few (Beginning _ x same popped hindered) = begin_few plan workers n s t few capacities x (omega (arith, less, same))
next_few plan workers capacities w n s t _ less few (Dropping _ x none popped hindered) = same_few plan workers n s t few x.machine
next_few plan workers capacities w n s _ _ less few (Idling idle) = few

-- ---- a session

module _ (s t : LoggedService) (same : t.service.warm ≡ s.service.warm) where
  pub answer_stays : (plan : Ports) (workers : ℕ) (call : Call Rid) → IsAnswer plan workers call s.service.core t.service.core → (n : ℕ) → IsByFirst n s → IsByFirst n t
  answer_stays plan workers call x n first = λ at. answer_few plan workers n s.service.core t.service.core (first (sym same ∙ at)) call x

  pub begin_stays : (plan : Ports) (workers : ℕ) (capacities : List ℕ) (x : IsBegin plan workers capacities s.service.core t.service.core) (w : ℕ) → x.worker ≡ w → StaysByFirst w s t
  begin_stays plan workers capacities x w own n less first = λ at. begin_few plan workers n s.service.core t.service.core (first (sym same ∙ at)) capacities x (omega (arith, less, own))

  pub next_stays : (plan : Ports) (workers : ℕ) (capacities : List ℕ) (w : ℕ) (call : Option (Call Rid)) → IsNextEvent plan workers capacities w s.service.core call t.service.core → StaysByFirst w s t
  next_stays plan workers capacities w call x n less first = λ at. next_few plan workers capacities w n s.service.core t.service.core call less (first (sym same ∙ at)) x

  -- pops, drops, writes and marks leave the machine as it is
  pub same_machine_stays : t.service.core.machine ≡ s.service.core.machine → (n : ℕ) → IsByFirst n s → IsByFirst n t
  same_machine_stays is n first = λ at v above. ap (λ (m : Machine). m.board.flights v) is ∙ first (sym same ∙ at) v above

-- after a fault, a restart, a list and a restore, and in an apply, nothing is asked
pub away_stays : (s t : LoggedService) → (t.service.warm ≡ Reconciled → ⊥) → (n : ℕ) → IsByFirst n s → IsByFirst n t
away_stays s t away n first = λ at. absurd (away at)

-- an apply ends where no operation is under way
quiet_none : (s : SwitchState) → IsQuiet s → (v : ℕ) → s.machine.board.flights v ≡ None
quiet_none s quiet v = by (s.machine.board.flights v) refl
  where
    by : (o : Option MachineFlight) → s.machine.board.flights v ≡ o → s.machine.board.flights v ≡ None
    by None none = none
    by (Some f) flying = absurd (quiet v f flying)

pub finish_stays : (plan : Ports) (workers : ℕ) (capacities : List ℕ) (s t : LoggedService) → Holds plan workers capacities s.service → Finishes s.service t.service → (n : ℕ) → IsByFirst n s → IsByFirst n t
finish_stays plan workers capacities s t holds x n first = λ at v above.
    let applying = subst (λ z. HoldsIn plan workers capacities z s.service) x.before holds.state in
    ap (λ (m : Machine). m.board.flights v) x.machine ∙ quiet_none s.service.core applying.quiet v

-- ---- one after the other

pub after_first : (n : ℕ) (s : LoggedService) (steps : List LoggedService) → IsByFirst n s → AreByFirst n steps → IsByFirst n (session_after s steps)
after_first n s [] first are = first
after_first n s (t ∷ ts) first are = after_first n t ts are.0 are.1

pub both_first : (n : ℕ) (xs ys : List LoggedService) → AreByFirst n xs → AreByFirst n ys → AreByFirst n (xs ++ ys)
both_first n [] ys one two = two
both_first n (x ∷ xs) ys one two = (one.0, both_first n xs ys one.1 two)

pub none_stay : (w : ℕ) (s : LoggedService) → StayByFirst w s []
none_stay w s n less first = tt

pub one_stays : (w : ℕ) (s t : LoggedService) → StaysByFirst w s t → StayByFirst w s (t ∷ [])
one_stays w s t stays n less first = (stays n less first, tt)

-- what holds of every number of workers
pub by_any : (w : ℕ) (s t : LoggedService) → ((n : ℕ) → IsByFirst n s → IsByFirst n t) → StaysByFirst w s t
by_any w s t keeps n less first = keeps n first

-- what begins operations for the first worker alone does so for this one and those before it
pub stay_for : (w : ℕ) (s : LoggedService) (steps : List LoggedService) → StayByFirst 0 s steps → StayByFirst w s steps
stay_for w s steps stay n less first = stay n (omega (arith, less)) first

pub both_stay : (w : ℕ) (s : LoggedService) (xs ys : List LoggedService) → StayByFirst w s xs → StayByFirst w (session_after s xs) ys → StayByFirst w s (xs ++ ys)
both_stay w s xs ys one two n less first = let are = one n less first in both_first n xs ys are (two n less (after_first n s xs first are))
