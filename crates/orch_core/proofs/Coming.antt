-- a core comes back from a fault and from a restart, event by event
use Rattle.std.proofs.Common.{◌≡◌, ◌⊎◌, ◌+◌, ◌<◌, ◌∷◌, ◌++◌, ◌∙◌, inl, inr, ℕ, Bool, true, false, List, [], length, Result, Ok, Err, refl, sym, ap, subst, arith}
use Rattle.std.proofs.lemmas.List.{append-nil, append_assoc, length-append}
use Rattle.std.specs.Result.{IsErr}
use Rattle.std.proofs.lemmas.Bool.{false≢true}
use Rattle.swss_types.specs.declared.out_of_memory.OutOfMemory.{OutOfMemory}
use Rattle.table_schema.specs.Plan.{Ports}
use Rattle.sai_types.specs.ChipState.{ChipState, IsAskedOnce}
use Rattle.switch_model.specs.History.{History, listed_by, with_mark}
use Rattle.switch_model.specs.declared.mark.Mark.{Mark}
use Rattle.switch_model.specs.declared.mark.MarkEvent.TheVariants as event
use Rattle.machine_laws.specs.Order.{MayEndRound}
use Rattle.restart_laws.specs.Logged.{AreLoggedSteps, LoggedService, session_after}
use Rattle.warm_state.specs.declared.warm.Warm.{Warm}
use Rattle.warm_state.specs.declared.warm.Warm.TheVariants as warm
use Rattle.session_laws.specs.Core.{CoreState, IsFullFor, mark_at}
use Rattle.session_laws.specs.Service.Events.{MakesMore, MakesNext, restarted}
use Rattle.session_laws.specs.Service.Standing.{IsServiceOf}
use Rattle.session_laws.proofs.Asked.{service_asked_once}
use Rattle.session_laws.proofs.Service.Marking.{listed-so}
use Rattle.session_laws.proofs.Service.Restarting.{restart-next}
use Rattle.session_laws.specs.Workers.{StayByFirst}
use Rattle.session_laws.proofs.ByFirst.{away_stays, both_stay, by_any, none_stay, one_stays}
use Rattle.session_laws.proofs.Service.States.{applying-reconciled, initialized-reconciled, restored-reconciled}
use Rattle.orch_core.specs.ComingBack.{AreOnWay, Back, ComesOut, ComesTo, CountAll, CountsSo, HasRestored, IsFullOnWay, KeepsRestored, SettlesFrom, Stopped, StopsAfter, StopsOnWay, is_unrestored, places_on_way, ran_of, restarts_due, restarts_marked}
use Rattle.orch_core.specs.Outcomes.{KeepsChip}
use Rattle.orch_core.specs.Restarting.{AppliesOut, FaultsOnWay, ListsOut, RestoresOut, RestoresRows, StaysInService}
use Rattle.orch_core.specs.Settled.{Settles}
use Rattle.orch_core.specs.declared.answer.Ran.{Ran}
use Rattle.orch_core.specs.declared.answer.Ran.TheVariants as ran
use Rattle.orch_core.specs.declared.answer.Settled.{Settled}
use Rattle.orch_core.specs.declared.answer.Settled.TheVariants as settled
use Rattle.orch_core.specs.declared.answer.Step.{Step}
use Rattle.orch_core.specs.declared.answer.Step.TheVariants as step
use Rattle.orch_core.proofs.Chips.{keeps_alike, keeps_asked, keeps_itself, keeps_on}

-- ---- events one after the other

after_both : (s : LoggedService) (xs ys : List LoggedService) → session_after s (xs ++ ys) ≡ session_after (session_after s xs) ys
after_both s [] ys = refl
after_both s (x ∷ xs) ys = after_both x xs ys

are_both : (plan : Ports) (capacities : List ℕ) (s : LoggedService) (xs ys : List LoggedService) → AreLoggedSteps plan 4 capacities s xs → AreLoggedSteps plan 4 capacities (session_after s xs) ys → AreLoggedSteps plan 4 capacities s (xs ++ ys)
are_both plan capacities s [] ys a b = b
are_both plan capacities s (x ∷ xs) ys a b = (a.0, are_both plan capacities x xs ys a.1 b)

pub way_both : (xs ys : List Mark) → AreOnWay xs → AreOnWay ys → AreOnWay (xs ++ ys)
way_both [] ys a b = b
way_both (x ∷ xs) ys a b = (a.0, way_both xs ys a.1 b)

pub restarts_both : (xs ys : List Mark) → restarts_marked (xs ++ ys) ≡ restarts_marked xs + restarts_marked ys
restarts_both [] ys = omega arith
restarts_both (x ∷ xs) ys = let rest = restarts_both xs ys in omega (arith, rest)

counted_both : (taken effects : ℕ) (xs ys : List Mark) → CountAll taken effects xs → CountAll taken effects ys → CountAll taken effects (xs ++ ys)
counted_both taken effects [] ys a b = b
counted_both taken effects (x ∷ xs) ys a b = (a.0, counted_both taken effects xs ys a.1 b)

-- a step after which the core is not reconciled begins no operation
away_stay : (s : LoggedService) (c d : CoreState) (dchip : ChipState) (x : MakesNext c s d dchip) → (d.warm ≡ warm.Reconciled → ⊥) → StayByFirst 0 s (x.later ∷ [])
away_stay s c d dchip x away = one_stays 0 s x.later (by_any 0 s x.later (away_stays s x.later (λ h. away (sym x.stands.always.warm_is ∙ h))))

pub comes_none : (s : LoggedService) (c : CoreState) (chip : ChipState) → IsServiceOf c chip s → ComesTo s s c chip c chip
comes_none s c chip is = record { steps = []; are = tt; few = none_stay 0 s; is = refl; stands = is; plan = refl; capacities = refl; limit = refl; taken = refl; ends = refl; added = []; marks = sym (append-nil c.log.marks); way = tt; counted = tt; none_counted = λ in_it taken effects. tt; unmoved = λ out. refl; restarts = omega arith; restored = λ out in_it. absurd (false≢true (sym in_it ∙ out)); kept = λ in_it. record { restored = in_it; board = refl; tables = refl; goes_on = λ at. (at, refl); ends = λ was at. absurd (applying-reconciled (sym was ∙ at)); ended = λ at. (refl, refl) }; keeps = keeps_itself c chip; still = λ at. (refl, refl, refl) }

-- the rows that were restored on the way from a later core
restored_later : (s t : LoggedService) (c d e : CoreState) (chip dchip echip : ChipState) → ComesTo s t c chip d dchip → HasRestored t d e echip → HasRestored s c e echip
restored_later s t c d e chip dchip echip x y = record {
  begun = y.begun;
  begun_chip = y.begun_chip;
  then = y.then;
  steps = x.steps ++ y.steps;
  are = are_both c.board.plan c.sync.capacities s x.steps y.steps x.are
      (subst (λ z. AreLoggedSteps c.board.plan 4 c.sync.capacities z y.steps) (sym x.is)
      (subst (λ p. AreLoggedSteps p 4 c.sync.capacities t y.steps) x.plan
      (subst (λ l. AreLoggedSteps d.board.plan 4 l t y.steps) x.capacities y.are)));
  few = both_stay 0 s x.steps y.steps x.few (subst (λ z. StayByFirst 0 z y.steps) (sym x.is) y.few);
  is = after_both s x.steps y.steps ∙ ap (λ z. session_after z y.steps) x.is ∙ y.is;
  stands = y.stands;
  plan = y.plan ∙ x.plan;
  capacities = y.capacities ∙ x.capacities;
  warm = y.warm;
  free = y.free;
  popped = y.popped;
  taken = y.taken ∙ x.taken;
  earlier = x.added ++ y.earlier;
  mark = y.mark;
  marks = y.marks ∙ ap (λ l. l ++ (y.earlier ++ y.mark ∷ [])) x.marks ∙ append_assoc c.log.marks x.added (y.earlier ++ y.mark ∷ []) ∙ ap (λ l. c.log.marks ++ l) (sym (append_assoc x.added y.earlier (y.mark ∷ [])));
  counts = y.counts ∙ ap length x.taken;
  mode = y.mode;
  waits = y.waits;
  event_is = y.event_is;
  lists = y.lists;
  board = y.board;
  tables = y.tables;
  goes_on = y.goes_on;
  ends = y.ends;
}

-- a core that has its rows applies a plan, or is reconciled
applying_or : (w : Warm) → is_unrestored w ≡ false → (w ≡ warm.Applying) ⊎ (w ≡ warm.Reconciled)
applying_or warm.Initialized h = absurd (false≢true (sym h))
applying_or warm.Restored h = absurd (false≢true (sym h))
applying_or warm.Applying h = inl refl
applying_or warm.Reconciled h = inr refl
applying_or warm.Suspect h = absurd (false≢true (sym h))

-- where a core has its rows and others follow, and where these follow it
module _ (c d e : CoreState) (chip dchip echip : ChipState) (taken : d.log.taken ≡ c.log.taken) (y : KeepsRestored d dchip e echip) where
  -- the mark at the end of an apply is the one that the core had made first
  same_end : (marks : List Mark) → e.log.marks ≡ marks ++ mark_at d (length echip.effects) event.ApplyEnded ∷ [] → e.log.marks ≡ marks ++ mark_at c (length echip.effects) event.ApplyEnded ∷ []
  same_end marks h = h ∙ ap (λ n. marks ++ (record { taken = n; effects = length echip.effects; event = event.ApplyEnded }) ∷ []) (ap length taken)

  -- an apply that goes on, or that has ended by then
  ends_by : (marks : List Mark) → (d.warm ≡ warm.Applying → d.log.marks ≡ marks) → (d.warm ≡ warm.Reconciled → d.log.marks ≡ marks ++ mark_at c (length dchip.effects) event.ApplyEnded ∷ []) → is_unrestored d.warm ≡ false → e.warm ≡ warm.Reconciled → e.log.marks ≡ marks ++ mark_at c (length echip.effects) event.ApplyEnded ∷ []
  ends_by marks on ended known at = by (applying_or d.warm known)
    where
      by : (d.warm ≡ warm.Applying) ⊎ (d.warm ≡ warm.Reconciled) → e.log.marks ≡ marks ++ mark_at c (length echip.effects) event.ApplyEnded ∷ []
      by (inl applies) = same_end marks (y.ends applies at ∙ ap (λ l. l ++ mark_at d (length echip.effects) event.ApplyEnded ∷ []) (on applies))
      by (inr back) = (y.ended back).0 ∙ ended back ∙ ap (λ n. marks ++ mark_at c n event.ApplyEnded ∷ []) (ap length (sym (y.ended back).1))

-- and those on the way to an earlier one
restored_earlier : (s : LoggedService) (c d e : CoreState) (dchip echip : ChipState) → d.log.taken ≡ c.log.taken → is_unrestored d.warm ≡ false → HasRestored s c d dchip → KeepsRestored d dchip e echip → HasRestored s c e echip
restored_earlier s c d e dchip echip taken known x y = record {
  begun = x.begun;
  begun_chip = x.begun_chip;
  then = x.then;
  steps = x.steps;
  are = x.are;
  few = x.few;
  is = x.is;
  stands = x.stands;
  plan = x.plan;
  capacities = x.capacities;
  warm = x.warm;
  free = x.free;
  popped = x.popped;
  taken = x.taken;
  earlier = x.earlier;
  mark = x.mark;
  marks = x.marks;
  counts = x.counts;
  mode = x.mode;
  waits = x.waits;
  event_is = x.event_is;
  lists = x.lists;
  board = y.board ∙ x.board;
  tables = y.tables ∙ x.tables;
  goes_on = λ at. let was = y.goes_on at in was.1 ∙ x.goes_on was.0;
  ends = ends_by x.begun d e dchip dchip echip (taken ∙ sym x.taken) y x.begun.log.marks x.goes_on x.ends known;
}

restored_on : (s t u : LoggedService) (c d e : CoreState) (chip dchip echip : ChipState) → ComesTo s t c chip d dchip → ComesTo t u d dchip e echip → is_unrestored c.warm ≡ true → is_unrestored e.warm ≡ false → HasRestored s c e echip
restored_on s t u c d e chip dchip echip x y out in_it = by (is_unrestored d.warm) refl
  where
    by : (b : Bool) → is_unrestored d.warm ≡ b → HasRestored s c e echip
    by true still = restored_later s t c d e chip dchip echip x (y.restored still in_it)
    by false was = restored_earlier s c d e dchip echip x.taken was (x.restored out was) (y.kept was)

keeps_restored_on : (c d e : CoreState) (chip dchip echip : ChipState) → d.log.taken ≡ c.log.taken → KeepsRestored c chip d dchip → KeepsRestored d dchip e echip → KeepsRestored c chip e echip
keeps_restored_on c d e chip dchip echip taken x y = record {
  restored = y.restored;
  board = y.board ∙ x.board;
  tables = y.tables ∙ x.tables;
  goes_on = λ at. let b = y.goes_on at in let a = x.goes_on b.0 in (a.0, b.1 ∙ a.1);
  ends = λ was. ends_by c d e chip dchip echip taken y c.log.marks (λ at. (x.goes_on at).1) (λ at. x.ends was at) x.restored;
  ended = λ at. let a = x.ended at in let b = y.ended (still_back at) in (b.0 ∙ a.0, b.1 ∙ a.1);
}
  where
    -- a core that is reconciled stays so
    still_back : c.warm ≡ warm.Reconciled → d.warm ≡ warm.Reconciled
    still_back at = by (applying_or d.warm x.restored)
      where
        by : (d.warm ≡ warm.Applying) ⊎ (d.warm ≡ warm.Reconciled) → d.warm ≡ warm.Reconciled
        by (inl applies) = absurd (applying-reconciled (sym (x.goes_on applies).0 ∙ at))
        by (inr back) = back

-- the marks that come behind count the same, as no call took effect before the rows are restored
counted_on : (s t u : LoggedService) (c d e : CoreState) (chip dchip echip : ChipState) → ComesTo s t c chip d dchip → (y : ComesTo t u d dchip e echip) → CountAll (length c.log.taken) (length chip.effects) y.added
counted_on s t u c d e chip dchip echip x y = by (is_unrestored d.warm) refl
  where
    by : (b : Bool) → is_unrestored d.warm ≡ b → CountAll (length c.log.taken) (length chip.effects) y.added
    by true out = subst (λ n. CountAll n (length chip.effects) y.added) (ap length x.taken) (subst (λ n. CountAll (length d.log.taken) n y.added) (ap length (x.unmoved out)) y.counted)
    by false in_it = y.none_counted in_it (length c.log.taken) (length chip.effects)

-- rows that are still to be restored were so before
out_before : (s t u : LoggedService) (c d e : CoreState) (chip dchip echip : ChipState) → ComesTo s t c chip d dchip → ComesTo t u d dchip e echip → is_unrestored e.warm ≡ true → is_unrestored d.warm ≡ true
out_before s t u c d e chip dchip echip x y out = by (is_unrestored d.warm) refl
  where
    by : (b : Bool) → is_unrestored d.warm ≡ b → is_unrestored d.warm ≡ true
    by true h = h
    by false h = absurd (false≢true (sym (y.kept h).restored ∙ out))

pub comes_on : (s t u : LoggedService) (c d e : CoreState) (chip dchip echip : ChipState) → ComesTo s t c chip d dchip → ComesTo t u d dchip e echip → ComesTo s u c chip e echip
comes_on s t u c d e chip dchip echip x y = record {
  steps = x.steps ++ y.steps;
  are = are_both c.board.plan c.sync.capacities s x.steps y.steps x.are
      (subst (λ z. AreLoggedSteps c.board.plan 4 c.sync.capacities z y.steps) (sym x.is)
      (subst (λ p. AreLoggedSteps p 4 c.sync.capacities t y.steps) x.plan
      (subst (λ l. AreLoggedSteps d.board.plan 4 l t y.steps) x.capacities y.are)));
  few = both_stay 0 s x.steps y.steps x.few (subst (λ z. StayByFirst 0 z y.steps) (sym x.is) y.few);
  is = after_both s x.steps y.steps ∙ ap (λ z. session_after z y.steps) x.is ∙ y.is;
  stands = y.stands;
  plan = y.plan ∙ x.plan;
  capacities = y.capacities ∙ x.capacities;
  limit = y.limit ∙ x.limit;
  taken = y.taken ∙ x.taken;
  ends = y.ends ∙ x.ends;
  added = x.added ++ y.added;
  marks = y.marks ∙ ap (λ l. l ++ y.added) x.marks ∙ append_assoc c.log.marks x.added y.added;
  way = way_both x.added y.added x.way y.way;
  counted = counted_both (length c.log.taken) (length chip.effects) x.added y.added x.counted (counted_on s t u c d e chip dchip echip x y);
  none_counted = λ in_it taken effects. counted_both taken effects x.added y.added (x.none_counted in_it taken effects) (y.none_counted (x.kept in_it).restored taken effects);
  unmoved = λ out. y.unmoved out ∙ x.unmoved (out_before s t u c d e chip dchip echip x y out);
  restarts = let both = restarts_both x.added y.added in let first = x.restarts in let next = y.restarts in omega (arith, both, first, next);
  restored = restored_on s t u c d e chip dchip echip x y;
  kept = λ was. let a = x.kept was in keeps_restored_on c d e chip dchip echip x.taken a (y.kept a.restored);
  keeps = keeps_on x.keeps y.keeps;
  still = λ at.
      let a = x.still at in
      let b = y.still (ap (λ (z : CoreState). z.warm) a.0 ∙ at) in
      (b.0 ∙ a.0, b.1 ∙ a.1, b.2 ∙ a.2);
}

-- what an event on the way records: no write and no end of a round, at most the marks of a restart or an apply, and a restart that was due
record Records (s : LoggedService) (c : CoreState) (chip : ChipState) (d : CoreState) (dchip : ChipState) : Type 0 where
  taken : d.log.taken ≡ c.log.taken
  ends : d.log.ends ≡ c.log.ends
  added : List Mark
  marks : d.log.marks ≡ c.log.marks ++ added
  way : AreOnWay added
  counted : CountAll (length c.log.taken) (length chip.effects) added
  none_counted : is_unrestored c.warm ≡ false → (taken effects : ℕ) → CountAll taken effects added
  restarts : restarts_marked added + restarts_due d.warm ≡ restarts_due c.warm
  restored : is_unrestored c.warm ≡ true → is_unrestored d.warm ≡ false → HasRestored s c d dchip
  kept : is_unrestored c.warm ≡ false → KeepsRestored c chip d dchip

-- so many steps of a core that is not reconciled
comes_more : (s : LoggedService) (c : CoreState) (chip : ChipState) (d : CoreState) (dchip : ChipState) → (c.warm ≡ warm.Reconciled → ⊥) → (x : MakesMore 0 c s d dchip) → Records s c chip d dchip → (is_unrestored d.warm ≡ true → dchip.effects ≡ chip.effects) → KeepsChip c chip d dchip → ComesTo s (session_after s x.steps) c chip d dchip
comes_more s c chip d dchip away x r unmoved keeps = record { steps = x.steps; are = x.are; few = x.few; is = refl; stands = x.stands; plan = x.plan; capacities = x.capacities; limit = x.limit; taken = r.taken; ends = r.ends; added = r.added; marks = r.marks; way = r.way; counted = r.counted; none_counted = r.none_counted; unmoved = unmoved; restarts = r.restarts; restored = r.restored; kept = r.kept; keeps = keeps; still = λ at. absurd (away at) }

comes_one : (s : LoggedService) (c : CoreState) (chip : ChipState) (d : CoreState) (dchip : ChipState) → (c.warm ≡ warm.Reconciled → ⊥) → (d.warm ≡ warm.Reconciled → ⊥) → (x : MakesNext c s d dchip) → Records s c chip d dchip → (is_unrestored d.warm ≡ true → dchip.effects ≡ chip.effects) → KeepsChip c chip d dchip → ComesTo s x.later c chip d dchip
comes_one s c chip d dchip away out x r unmoved keeps = record { steps = x.later ∷ []; are = (x.makes, tt); few = away_stay s c d dchip x out; is = refl; stands = x.stands; plan = x.plan; capacities = x.capacities; limit = x.limit; taken = r.taken; ends = r.ends; added = r.added; marks = r.marks; way = r.way; counted = r.counted; none_counted = r.none_counted; unmoved = unmoved; restarts = r.restarts; restored = r.restored; kept = r.kept; keeps = keeps; still = λ at. absurd (away at) }

-- neither state is that of a suspect core
abbrev NoneDue : CoreState → CoreState → Type 0
NoneDue c d = (restarts_due c.warm ≡ 0) × (restarts_due d.warm ≡ 0)

none_due : (w v : Warm) (c d : CoreState) → c.warm ≡ w → d.warm ≡ v → restarts_due w ≡ 0 → restarts_due v ≡ 0 → NoneDue c d
none_due w v c d at then a b = (ap restarts_due at ∙ a, ap restarts_due then ∙ b)

-- how the rows are: still to be restored, restored now, or as they were
abbrev Restores : LoggedService → CoreState → ChipState → CoreState → ChipState → Type 0
Restores s c chip d dchip = (is_unrestored c.warm ≡ true → is_unrestored d.warm ≡ false → HasRestored s c d dchip) × (is_unrestored c.warm ≡ false → KeepsRestored c chip d dchip)

still_out : (s : LoggedService) (w v : Warm) (c : CoreState) (chip : ChipState) (d : CoreState) (dchip : ChipState) → c.warm ≡ w → d.warm ≡ v → is_unrestored w ≡ true → is_unrestored v ≡ true → Restores s c chip d dchip
still_out s w v c chip d dchip at then a b = (
  (λ out in_it. absurd (false≢true (sym in_it ∙ ap is_unrestored then ∙ b))),
  (λ in_it. absurd (false≢true (sym in_it ∙ ap is_unrestored at ∙ a))),
)

now_in : (s : LoggedService) (w : Warm) (c : CoreState) (chip : ChipState) (d : CoreState) (dchip : ChipState) → c.warm ≡ w → is_unrestored w ≡ true → HasRestored s c d dchip → Restores s c chip d dchip
now_in s w c chip d dchip at a h = ((λ out in_it. h), (λ in_it. absurd (false≢true (sym in_it ∙ ap is_unrestored at ∙ a))))

-- an apply goes on
applies_in : (s : LoggedService) (c : CoreState) (chip : ChipState) (d : CoreState) (dchip : ChipState) → c.warm ≡ warm.Applying → d.warm ≡ warm.Applying → d.board ≡ c.board → d.tables ≡ c.tables → d.log ≡ c.log → Restores s c chip d dchip
applies_in s c chip d dchip at then board tables log = (
  (λ out in_it. absurd (false≢true (sym (ap is_unrestored at) ∙ out))),
  (λ in_it. record {
    restored = ap is_unrestored then;
    board = board;
    tables = tables;
    goes_on = λ on. (at, ap (λ (h : History). h.marks) log);
    ends = λ was back. absurd (applying-reconciled (sym then ∙ back));
    ended = λ back. absurd (applying-reconciled (sym at ∙ back));
  }),
)

-- and ends at its mark
ends_in : (s : LoggedService) (c : CoreState) (chip : ChipState) (d : CoreState) (dchip : ChipState) → c.warm ≡ warm.Applying → d.warm ≡ warm.Reconciled → d.board ≡ c.board → d.tables ≡ c.tables → d.log ≡ with_mark c.log (mark_at c (length dchip.effects) event.ApplyEnded) → Restores s c chip d dchip
ends_in s c chip d dchip at then board tables log = (
  (λ out in_it. absurd (false≢true (sym (ap is_unrestored at) ∙ out))),
  (λ in_it. record {
    restored = ap is_unrestored then;
    board = board;
    tables = tables;
    goes_on = λ on. absurd (applying-reconciled (sym on ∙ then));
    ends = λ was back. ap (λ (h : History). h.marks) log;
    ended = λ back. absurd (applying-reconciled (sym at ∙ back));
  }),
)

records_none : (s : LoggedService) (c : CoreState) (chip : ChipState) (d : CoreState) (dchip : ChipState) → NoneDue c d → Restores s c chip d dchip → d.log ≡ c.log → Records s c chip d dchip
records_none s c chip d dchip due rows same = record {
  taken = ap (λ (h : History). h.taken) same;
  ends = ap (λ (h : History). h.ends) same;
  added = [];
  marks = ap (λ (h : History). h.marks) same ∙ sym (append-nil c.log.marks);
  way = tt;
  counted = tt;
  none_counted = λ in_it taken many. tt;
  restarts = let now = due.1 in let before = due.0 in omega (arith, now, before);
  restored = rows.0;
  kept = rows.1;
}

-- a mark at which no round may end, and which is not that of a restart
records_mark : (s : LoggedService) (c : CoreState) (chip : ChipState) (d : CoreState) (dchip : ChipState) (m : Mark) → NoneDue c d → Restores s c chip d dchip → (MayEndRound m.event → ⊥) → CountsSo (length c.log.taken) (length chip.effects) m m.event → (is_unrestored c.warm ≡ false → (taken many : ℕ) → CountsSo taken many m m.event) → restarts_marked (m ∷ []) ≡ 0 → d.log ≡ with_mark c.log m → Records s c chip d dchip
records_mark s c chip d dchip m due rows way counts none_counts none same = record {
  taken = ap (λ (h : History). h.taken) same;
  ends = ap (λ (h : History). h.ends) same;
  added = m ∷ [];
  marks = ap (λ (h : History). h.marks) same;
  way = (way, tt);
  counted = (counts, tt);
  none_counted = λ in_it taken many. (none_counts in_it taken many, tt);
  restarts = let now = due.1 in let before = due.0 in omega (arith, now, before, none);
  restored = rows.0;
  kept = rows.1;
}

records_restart : (s : LoggedService) (c : CoreState) (chip : ChipState) → c.warm ≡ warm.Suspect → Records s c chip (restarted c (length chip.effects)) chip
records_restart s c chip at =
    let rows = still_out s warm.Suspect warm.Initialized c chip (restarted c (length chip.effects)) chip at refl refl refl in
    record {
      taken = refl;
      ends = refl;
      added = mark_at c (length chip.effects) event.Restarted ∷ [];
      marks = refl;
      way = ((λ h. h), tt);
      counted = ((refl, refl), tt);
      none_counted = λ in_it. absurd (false≢true (sym in_it ∙ ap is_unrestored at));
      restarts = sym (ap restarts_due at);
      restored = rows.0;
      kept = rows.1;
    }

-- ---- from where the core came first

module _ (s t : LoggedService) (c d : CoreState) (chip dchip : ChipState) (x : ComesTo s t c chip d dchip) where
  stops_on : (r : Result Ran OutOfMemory) (e : CoreState) (echip : ChipState) → StopsAfter t d dchip r e echip → StopsAfter s c chip r e echip
  stops_on r e echip y = record { mid = y.mid; mid_chip = y.mid_chip; later = y.later; comes = comes_on s t y.later c d y.mid chip dchip y.mid_chip x y.comes; warm = y.warm; stops = y.stops }

  pub out_on : (r : Result Ran OutOfMemory) (e : CoreState) (echip : ChipState) → ComesOut t d dchip r e echip → ComesOut s c chip r e echip
  out_on (Ok ran.Whole) e echip y = record { later = y.later; comes = comes_on s t y.later c d e chip dchip echip x y.comes; warm = y.warm }
  out_on (Ok ran.Faulted) e echip y = stops_on (Ok ran.Faulted) e echip y
  out_on (Ok ran.LogFull) e echip y = stops_on (Ok ran.LogFull) e echip y
  out_on (Err o) e echip y = stops_on (Err o) e echip y

-- ---- stopped at once

module _ (s : LoggedService) (c : CoreState) (chip : ChipState) (is : IsServiceOf c chip s) (away : c.warm ≡ warm.Reconciled → ⊥) where
  stops_now : (r : Result Ran OutOfMemory) (d : CoreState) (dchip : ChipState) → StopsOnWay s c chip r d dchip → StopsAfter s c chip r d dchip
  stops_now r d dchip y = record { mid = c; mid_chip = chip; later = s; comes = comes_none s c chip is; warm = away; stops = y }

  faulted_now : (w : Warm) → c.warm ≡ w → restarts_due w ≡ 0 → (d : CoreState) (dchip : ChipState) → FaultsOnWay (places_on_way w) true s c chip d dchip → ComesOut s c chip (Ok ran.Faulted) d dchip
  faulted_now w at none d dchip y = stops_now (Ok ran.Faulted) d dchip (ap restarts_due at ∙ none, subst (λ v. FaultsOnWay (places_on_way v) true s c chip d dchip) (sym at) y)

  full_now : (d : CoreState) (dchip : ChipState) → dchip ≡ chip → StaysInService s c d chip → IsFullOnWay c.warm s c chip → ComesOut s c chip (Ok ran.LogFull) d dchip
  full_now d dchip same stays full = stops_now (Ok ran.LogFull) d dchip (same, stays, full)

  pub short_now : (r : Result Ran OutOfMemory) → IsErr r → (d : CoreState) (dchip : ChipState) → IsAskedOnce chip dchip → StaysInService s c d dchip → ComesOut s c chip r d dchip
  short_now (Err e) h d dchip asked stays = stops_now (Err e) d dchip (asked, stays)
  short_now (Ok b) h d dchip asked stays = absurd (false≢true h)

  -- the same core, of whose chip a call or list more may have been asked
  pub stays_asked : (d : CoreState) (dchip : ChipState) → d ≡ c → IsAskedOnce chip dchip → StaysInService s c d dchip
  stays_asked d dchip same asked = subst (λ z. StaysInService s c z dchip) (sym same) (record { stands = service_asked_once c chip dchip s asked is; plan = refl; capacities = refl; limit = refl; warm = refl; log = refl })

  pub stays_same : (d : CoreState) → d ≡ c → StaysInService s c d chip
  stays_same d same = subst (λ z. StaysInService s c z chip) (sym same) (record { stands = is; plan = refl; capacities = refl; limit = refl; warm = refl; log = refl })

  -- ---- a restart

  pub restart_full : (at : c.warm ≡ warm.Suspect) (d : CoreState) → d ≡ c → IsFullFor c (length chip.effects) 1 → ComesOut s c chip (Ok ran.LogFull) d chip
  restart_full at d same full = full_now d chip refl (stays_same d same) (subst (λ w. IsFullOnWay w s c chip) (sym at) full)

  keeps_restarted : (IsFullFor c (length chip.effects) 1 → ⊥) → KeepsChip c chip (restarted c (length chip.effects)) chip
  keeps_restarted room = record { fails = refl; faults = refl; limit = λ within. let longer = length-append c.log.marks (mark_at c (length chip.effects) event.Restarted ∷ []) in omega (arith, room, longer) }

  pub restart_comes : c.warm ≡ warm.Suspect → (IsFullFor c (length chip.effects) 1 → ⊥) → (d : CoreState) → d ≡ restarted c (length chip.effects) → (t : LoggedService) × ComesTo s t c chip d chip × (d.warm ≡ warm.Initialized)
  restart_comes at room d same =
      let x = restart-next c chip s is in
      subst (λ z. (t : LoggedService) × ComesTo s t c chip z chip × (z.warm ≡ warm.Initialized)) (sym same) (x.later, comes_one s c chip (restarted c (length chip.effects)) chip away initialized-reconciled x (records_restart s c chip at) (λ out. refl) (keeps_restarted room), refl)

  -- ---- a list

  module _ (at : c.warm ≡ warm.Initialized) where
    pub list_comes : (r : Step) (d : CoreState) (dchip : ChipState) → ran_of r ≡ ran.Whole → ListsOut true s c chip (Ok r) d dchip → (t : LoggedService) × ComesTo s t c chip d dchip × (d.warm ≡ warm.Restored)
    list_comes step.Did d dchip h x = (
      x.makes.later,
      comes_one s c chip d dchip away (λ h. restored-reconciled (sym (ap (λ (z : CoreState). z.warm) x.is) ∙ h)) x.makes (records_none s c chip d dchip (none_due warm.Initialized warm.Restored c d at (ap (λ (z : CoreState). z.warm) x.is) refl refl) (still_out s warm.Initialized warm.Restored c chip d dchip at (ap (λ (z : CoreState). z.warm) x.is) refl refl) (ap (λ (z : CoreState). z.log) x.is)) (λ out. ap (λ (z : ChipState). z.effects) x.chip_is) (keeps_asked (inr x.chip_is) (keeps_alike c d chip chip refl (ap (λ (z : CoreState). z.log) x.is) (ap (λ (z : CoreState). z.listed) x.is) (ap (λ (z : CoreState). z.limit) x.is))),
      ap (λ (z : CoreState). z.warm) x.is,
    )
    list_comes step.Faulted d dchip h x = absurd cc
    list_comes step.LogFull d dchip h x = absurd cc
    list_comes step.Idle d dchip h x = absurd x
    list_comes step.Suspect d dchip h x = absurd x

    pub list_stops : (r : Step) (d : CoreState) (dchip : ChipState) → (ran_of r ≡ ran.Whole → ⊥) → ListsOut true s c chip (Ok r) d dchip → ComesOut s c chip (Ok (ran_of r)) d dchip
    list_stops step.Did d dchip not x = absurd (not refl)
    list_stops step.Faulted d dchip not x = faulted_now warm.Initialized at refl d dchip x
    list_stops step.LogFull d dchip not x = full_now d dchip x.1 (stays_same d x.0) (subst (λ w. IsFullOnWay w s c chip) (sym at) x.2)
    list_stops step.Idle d dchip not x = absurd x
    list_stops step.Suspect d dchip not x = absurd x

  -- ---- a restore

  module _ (at : c.warm ≡ warm.Restored) where
    restores_now : (d : CoreState) → RestoresRows s c chip d → HasRestored s c d chip
    restores_now d x =
        let mark = mark_at c (length chip.effects) (event.ApplyBegan x.mode x.waits) in
        record {
          begun = d;
          begun_chip = chip;
          then = x.makes.later;
          steps = x.makes.later ∷ [];
          are = (x.makes.makes, tt);
          few = away_stay s c d chip x.makes (λ h. applying-reconciled (sym x.warm ∙ h));
          is = refl;
          stands = x.makes.stands;
          plan = x.makes.plan;
          capacities = x.makes.capacities;
          warm = x.warm;
          free = x.free;
          popped = x.popped;
          taken = ap (λ (h : History). h.taken) x.log;
          earlier = [];
          mark = mark;
          marks = ap (λ (h : History). h.marks) x.log;
          counts = refl;
          mode = x.mode;
          waits = x.waits;
          event_is = refl;
          lists = x.lists;
          board = refl;
          tables = refl;
          goes_on = λ on. refl;
          ends = λ back. absurd (applying-reconciled (sym x.warm ∙ back));
        }

    -- the keys that the mark lists had their places too
    keeps_restored : (d : CoreState) → RestoresRows s c chip d → KeepsChip c chip d chip
    keeps_restored d x =
        let mark = mark_at c (length chip.effects) (event.ApplyBegan x.mode x.waits) in
        let room = x.room in
        let limit = x.makes.limit in
        let taken : length d.log.taken ≡ length c.log.taken = ap (λ (h : History). length h.taken) x.log in
        let marks : length d.log.marks ≡ length c.log.marks + 1 = ap (λ (h : History). length h.marks) x.log ∙ length-append c.log.marks (mark ∷ []) in
        let listed : d.listed ≡ c.listed + length x.waits = x.makes.stands.always.listed ∙ ap (λ (h : History). listed_by h.marks) x.log ∙ sym (listed-so c.log.marks mark c.listed (length x.waits) refl is.always.listed) in
        record { fails = refl; faults = refl; limit = λ within. omega (arith, room, limit, taken, marks, listed) }

    pub restore_comes : (r : Step) (d : CoreState) (dchip : ChipState) → ran_of r ≡ ran.Whole → RestoresOut s c chip (Ok r) d dchip → (t : LoggedService) × ComesTo s t c chip d dchip × (d.warm ≡ warm.Applying)
    restore_comes step.Did d dchip h x =
        subst (λ z. (t : LoggedService) × ComesTo s t c chip d z × (d.warm ≡ warm.Applying)) (sym x.0)
        (x.1.makes.later, comes_one s c chip d chip away (λ h. applying-reconciled (sym x.1.warm ∙ h)) x.1.makes (records_mark s c chip d chip (mark_at c (length chip.effects) (event.ApplyBegan x.1.mode x.1.waits)) (none_due warm.Restored warm.Applying c d at x.1.warm refl refl) (now_in s warm.Restored c chip d chip at refl (restores_now d x.1)) (λ h. h) (refl, refl) (λ in_it. absurd (false≢true (sym in_it ∙ ap is_unrestored at))) refl x.1.log) (λ out. refl) (keeps_restored d x.1), x.1.warm)
    restore_comes step.Faulted d dchip h x = absurd x
    restore_comes step.LogFull d dchip h x = absurd cc
    restore_comes step.Idle d dchip h x = absurd x
    restore_comes step.Suspect d dchip h x = absurd x

    pub restore_stops : (r : Step) (d : CoreState) (dchip : ChipState) → (ran_of r ≡ ran.Whole → ⊥) → RestoresOut s c chip (Ok r) d dchip → ComesOut s c chip (Ok (ran_of r)) d dchip
    restore_stops step.Did d dchip not x = absurd (not refl)
    restore_stops step.Faulted d dchip not x = absurd x
    restore_stops step.LogFull d dchip not x = full_now d dchip x.0 x.1 (subst (λ w. IsFullOnWay w s c chip) (sym at) x.2)
    restore_stops step.Idle d dchip not x = absurd x
    restore_stops step.Suspect d dchip not x = absurd x

  -- ---- an apply

  module _ (at : c.warm ≡ warm.Applying) where
    -- how far the apply is then: fewer calls are left, or it has ended
    abbrev GoesOnApplying : CoreState → Type 0
    GoesOnApplying d = ((d.warm ≡ warm.Applying) × (length d.sync.left < length c.sync.left)) ⊎ (d.warm ≡ warm.Reconciled)

    pub apply_comes : (r : Step) (d : CoreState) (dchip : ChipState) → ran_of r ≡ ran.Whole → AppliesOut true s c chip (Ok r) d dchip → (t : LoggedService) × ComesTo s t c chip d dchip × GoesOnApplying d
    apply_comes step.Did d dchip h (inl x) = (x.makes.later, comes_one s c chip d dchip away (λ h. applying-reconciled (sym x.warm ∙ h)) x.makes (records_none s c chip d dchip (none_due warm.Applying warm.Applying c d at x.warm refl refl) (applies_in s c chip d dchip at x.warm x.board x.tables x.log) x.log) (λ out. absurd (false≢true (sym (ap is_unrestored x.warm) ∙ out))) x.keeps, inl (x.warm, x.fewer))
    apply_comes step.Did d dchip h (inr x) = (session_after s x.makes.steps, comes_more s c chip d dchip away x.makes (records_mark s c chip d dchip (mark_at c (length dchip.effects) event.ApplyEnded) (none_due warm.Applying warm.Reconciled c d at x.warm refl refl) (ends_in s c chip d dchip at x.warm x.board x.tables x.log) (λ h. h) tt (λ in_it taken many. tt) refl x.log) (λ out. absurd (false≢true (sym (ap is_unrestored x.warm) ∙ out))) x.keeps, inr x.warm)
    apply_comes step.Faulted d dchip h x = absurd cc
    apply_comes step.LogFull d dchip h x = absurd cc
    apply_comes step.Idle d dchip h x = absurd x
    apply_comes step.Suspect d dchip h x = absurd x

    pub apply_stops : (r : Step) (d : CoreState) (dchip : ChipState) → (ran_of r ≡ ran.Whole → ⊥) → AppliesOut true s c chip (Ok r) d dchip → ComesOut s c chip (Ok (ran_of r)) d dchip
    apply_stops step.Did d dchip not x = absurd (not refl)
    apply_stops step.Faulted d dchip not x = faulted_now warm.Applying at refl d dchip x
    apply_stops step.LogFull d dchip not x = full_now d dchip x.1 (stays_same d x.0) (subst (λ w. IsFullOnWay w s c chip) (sym at) x.2)
    apply_stops step.Idle d dchip not x = absurd x
    apply_stops step.Suspect d dchip not x = absurd x

-- how many events an apply has still to make at most
abbrev pub calls_to_apply : Warm → ℕ → ℕ
calls_to_apply warm.Applying n = n + 1
calls_to_apply _ n = 0

pub fewer_to_apply : (w v : Warm) (n m : ℕ) → w ≡ warm.Applying → ((v ≡ warm.Applying) × (m < n)) ⊎ (v ≡ warm.Reconciled) → calls_to_apply v m < calls_to_apply w n
fewer_to_apply w v n m at (inl on) =
    let now : calls_to_apply v m ≡ m + 1 = ap (λ x. calls_to_apply x m) on.0 in
    let before : calls_to_apply w n ≡ n + 1 = ap (λ x. calls_to_apply x n) at in
    let less = on.1 in
    omega (arith, now, before, less)
fewer_to_apply w v n m at (inr back) =
    let now : calls_to_apply v m ≡ 0 = ap (λ x. calls_to_apply x m) back in
    let before : calls_to_apply w n ≡ n + 1 = ap (λ x. calls_to_apply x n) at in
    omega (arith, now, before)

pub still_applies : {P : Type 0} (v : Warm) → (v ≡ warm.Applying) × P ⊎ (v ≡ warm.Reconciled) → (v ≡ warm.Applying) ⊎ (v ≡ warm.Reconciled)
still_applies v (inl x) = inl x.0
still_applies v (inr x) = inr x

-- ---- warm states apart

pub away : {v : Warm} (c : CoreState) → c.warm ≡ v → (v ≡ warm.Reconciled → ⊥) → c.warm ≡ warm.Reconciled → ⊥
away c same not h = not (sym same ∙ h)

pub whole_out : (s : LoggedService) (c : CoreState) (chip : ChipState) (d : CoreState) (dchip : ChipState) → (t : LoggedService) → ComesTo s t c chip d dchip → d.warm ≡ warm.Reconciled → ComesOut s c chip (Ok ran.Whole) d dchip
whole_out s c chip d dchip t x at = record { later = t; comes = x; warm = at }

-- ---- a settling

module _ (s : LoggedService) (c : CoreState) (chip : ChipState) (d : CoreState) (dchip : ChipState) where
  pub settles_short : (o : OutOfMemory) (r : Result Settled OutOfMemory) → IsErr r → ComesOut s c chip (Err o) d dchip → SettlesFrom s c chip r d dchip
  settles_short o (Err e) h x = Stopped (record { mid = x.mid; mid_chip = x.mid_chip; later = x.later; comes = x.comes; warm = x.warm; stops = x.stops })
  settles_short o (Ok b) h x = absurd (false≢true h)

  -- a core that is reconciled settles as ever
  pub settles_as_ever : (r : Result Settled OutOfMemory) → c.warm ≡ warm.Reconciled → SettlesFrom s c chip r d dchip → Settles s c chip r d dchip
  settles_as_ever r at (Back mid mid_chip x h) =
      let still = x.comes.still at in
      subst (λ t. Settles t c chip r d dchip) still.2
      (subst (λ k. Settles x.later c k r d dchip) still.1
      (subst (λ z. Settles x.later z mid_chip r d dchip) still.0 h))
  settles_as_ever (Ok settled.Settled) at (Stopped h) = absurd h
  settles_as_ever (Ok settled.Faulted) at (Stopped h) = absurd (h.warm (ap (λ (z : CoreState). z.warm) (h.comes.still at).0 ∙ at))
  settles_as_ever (Ok settled.LogFull) at (Stopped h) = absurd (h.warm (ap (λ (z : CoreState). z.warm) (h.comes.still at).0 ∙ at))
  settles_as_ever (Err e) at (Stopped h) = absurd (h.warm (ap (λ (z : CoreState). z.warm) (h.comes.still at).0 ∙ at))
