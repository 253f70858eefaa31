-- faults and restarts, counted by marks
use Rattle.std.proofs.Common.{◌≡◌, ◌⊎◌, inl, inr, ℕ, ◌+◌, ◌-◌, ◌≤◌, Bool, true, List, [], ◌∷◌, ◌++◌, Option, Some, None, refl, sym, ap, ◌∙◌, subst, arith}
use Rattle.std.proofs.lemmas.List.{append_assoc, append-nil}
use Rattle.std.proofs.lemmas.Option.{same_Some}
use Rattle.switch_model.specs.Sound.{is_fault, is_suspect}
use Rattle.switch_model.specs.declared.mark.Mark.{Mark}
use Rattle.switch_model.specs.declared.mark.MarkEvent.{MarkEvent}
use Rattle.switch_model.specs.declared.mark.MarkEvent.TheVariants as event
use Rattle.machine_laws.specs.Order.{AreMarksInOrder, IsSettledMark, MayEndRound, MayFollow}
use Rattle.restart_laws.specs.Logged.{IsLeftIn, IsWarmAfter, last_mark}
use Rattle.warm_state.specs.declared.warm.Warm.{Warm}
use Rattle.warm_state.specs.declared.warm.Warm.TheVariants as warm
use Rattle.round_laws.specs.Ended.{LeavesSettled}
use Rattle.orch_core.specs.ComingBack.{AreOnWay, restarts_at, restarts_due, restarts_marked}
use Rattle.orch_core.proofs.Coming.{restarts_both}
use Rattle.swss_script.specs.Sent.{restarts_in}
use Rattle.swss_script.specs.declared.parts.Round.{Round}
use Rattle.swss_service.specs.Faults.{CountsOne, FaultsRise, faults_then}
use Rattle.swss_run.specs.Faults.{places_beside}
use Rattle.swss_run.specs.Restarts.{HasFewRestarts, HasRestarts, RestartsAfterFault}

-- ---- the counts of faults

pub rise-later : (n m m' : ℕ) (marks : List Mark) → FaultsRise n marks m → m' ≡ m → FaultsRise n marks m'
rise-later n m m' marks h same = subst (FaultsRise n marks) (sym same) h

pub rise-mark : (n m m' : ℕ) (marks : List Mark) (mark : Mark) → FaultsRise n marks m → CountsOne m mark.event → m' ≡ faults_then m mark.event → FaultsRise n (marks ++ mark ∷ []) m'
rise-mark n m m' [] mark h counts last = (subst (λ k. CountsOne k mark.event) h counts, last ∙ ap (λ k. faults_then k mark.event) h)
rise-mark n m m' (x ∷ marks) mark h counts last = (h.0, rise-mark (faults_then n x.event) m m' marks mark h.1 counts last)

-- a mark at which no round ends is no fault's
counts-none : (m : ℕ) (e : MarkEvent) → (MayEndRound e → ⊥) → CountsOne m e × (m ≡ faults_then m e)
counts-none m (event.Faulted before after) way = absurd (way tt)
counts-none m (event.Settled waits turns) way = absurd (way tt)
counts-none m event.Restarted way = (tt, refl)
counts-none m (event.ApplyBegan mode waits) way = (tt, refl)
counts-none m event.ApplyEnded way = (tt, refl)

pub rise-way : (n m : ℕ) (marks added : List Mark) → FaultsRise n marks m → AreOnWay added → FaultsRise n (marks ++ added) m
rise-way n m marks [] h way = subst (λ l. FaultsRise n l m) (sym (append-nil marks)) h
rise-way n m marks (x ∷ added) h way =
    let one = counts-none m x.event way.0 in
    subst (λ l. FaultsRise n l m) (append_assoc marks (x ∷ []) added) (rise-way n m (marks ++ x ∷ []) added (rise-mark n m m marks x h one.0 one.1) way.1)

-- ---- the last mark

pub suspect-last : (marks : List Mark) (mark : Mark) → is_suspect (marks ++ mark ∷ []) ≡ is_fault mark.event
suspect-last [] mark = refl
suspect-last (m ∷ []) mark = refl
suspect-last (m ∷ n ∷ marks) mark = suspect-last (n ∷ marks) mark

-- behind other marks it is the same
pub suspect-behind : (xs ms : List Mark) (mark : Mark) → is_suspect (xs ++ (ms ++ mark ∷ [])) ≡ is_suspect (ms ++ mark ∷ [])
suspect-behind xs ms mark = ap is_suspect (sym (append_assoc xs ms (mark ∷ []))) ∙ suspect-last (xs ++ ms) mark ∙ sym (suspect-last ms mark)

suspect-by : (first : Mark) (marks : List Mark) (last : Mark) → last_mark (Some first) marks ≡ Some last → is_suspect (first ∷ marks) ≡ is_fault last.event
suspect-by first [] last is = ap (λ (m : Mark). is_fault m.event) (same_Some first last is)
suspect-by first (next ∷ marks) last is = suspect-by next marks last is

suspect-at : (marks : List Mark) (last : Mark) → last_mark None marks ≡ Some last → is_suspect marks ≡ is_fault last.event
suspect-at [] last is = cc
suspect-at (first ∷ marks) last is = suspect-by first marks last is

fault-left : (e : MarkEvent) (w : Warm) → IsLeftIn e w → w ≡ warm.Suspect → is_fault e ≡ true
fault-left (event.Faulted before after) w left at = refl
fault-left (event.Settled waits turns) w left at = cc
fault-left event.Restarted w (inl left) at = cc
fault-left event.Restarted w (inr left) at = cc
fault-left (event.ApplyBegan mode waits) w left at = cc
fault-left event.ApplyEnded w left at = cc

fault-by : (o : Option Mark) (w : Warm) → IsWarmAfter o w → w ≡ warm.Suspect → (last : Mark) × (o ≡ Some last) × (is_fault last.event ≡ true)
fault-by None w left at = cc
fault-by (Some last) w left at = (last, refl, fault-left last.event w left at)

-- the last mark of a suspect core is that of a fault
pub suspect-now : (marks : List Mark) (w : Warm) → IsWarmAfter (last_mark None marks) w → w ≡ warm.Suspect → is_suspect marks ≡ true
suspect-now marks w left at = let x = fault-by (last_mark None marks) w left at in suspect-at marks x.0 x.1 ∙ x.2

-- it is then no mark of a settling that ended
pub fault_unsettled : (e : MarkEvent) → is_fault e ≡ true → IsSettledMark e → ⊥
fault_unsettled (event.Settled waits turns) bad h = cc
fault_unsettled (event.Faulted before after) bad h = h
fault_unsettled event.Restarted bad h = h
fault_unsettled (event.ApplyBegan mode waits) bad h = h
fault_unsettled event.ApplyEnded bad h = h

unsettled-by : (first : Mark) (marks : List Mark) → is_suspect (first ∷ marks) ≡ true → LeavesSettled (last_mark (Some first) marks) → ⊥
unsettled-by first [] bad h = fault_unsettled first.event bad h
unsettled-by first (next ∷ marks) bad h = unsettled-by next marks bad h

pub unsettled : (marks : List Mark) → is_suspect marks ≡ true → LeavesSettled (last_mark None marks) → ⊥
unsettled [] bad h = cc
unsettled (mark ∷ marks) bad h = unsettled-by mark marks bad h

restart-left : (e : MarkEvent) (w : Warm) → IsLeftIn e w → w ≡ warm.Initialized → restarts_at e ≡ 1
restart-left event.Restarted w left at = refl
restart-left (event.Faulted before after) w left at = cc
restart-left (event.Settled waits turns) w left at = cc
restart-left (event.ApplyBegan mode waits) w left at = cc
restart-left event.ApplyEnded w left at = cc

restart-by : (o : Option Mark) (w : Warm) → IsWarmAfter o w → w ≡ warm.Initialized → (last : Mark) × (o ≡ Some last) × (restarts_at last.event ≡ 1)
restart-by None w left at = cc
restart-by (Some last) w left at = (last, refl, restart-left last.event w left at)

-- the last mark of a core that is initialized is that of a restart
pub restart-last : (marks : List Mark) (w : Warm) → IsWarmAfter (last_mark None marks) w → w ≡ warm.Initialized → (last : Mark) × (last_mark None marks ≡ Some last) × (restarts_at last.event ≡ 1)
restart-last marks w left at = restart-by (last_mark None marks) w left at

-- ---- the places of the call that failed

few-restarts : (e : MarkEvent) → 1 - restarts_at e ≤ 1
few-restarts e = omega arith

pub beside-one : (marks : List Mark) → places_beside marks ≤ 1
beside-one [] = omega arith
beside-one (x ∷ []) = omega arith
beside-one (x ∷ y ∷ []) = few-restarts x.event
beside-one (x ∷ y ∷ z ∷ marks) = beside-one (y ∷ z ∷ marks)

beside-first : (first : Mark) (marks : List Mark) (last fault : Mark) → last_mark (Some first) marks ≡ Some last → restarts_at last.event ≡ 1 → places_beside (first ∷ (marks ++ fault ∷ [])) ≡ 0
beside-first first [] last fault is at =
    let one : restarts_at first.event ≡ 1 = ap (λ (m : Mark). restarts_at m.event) (same_Some first last is) ∙ at in
    omega (arith, one)
beside-first first (x ∷ []) last fault is at = beside-first x [] last fault is at
beside-first first (x ∷ y ∷ marks) last fault is at = beside-first x (y ∷ marks) last fault is at

-- a list of the chip has none for an effect
pub beside-list : (marks : List Mark) (last fault : Mark) → last_mark None marks ≡ Some last → restarts_at last.event ≡ 1 → places_beside (marks ++ fault ∷ []) ≡ 0
beside-list [] last fault is at = cc
beside-list (first ∷ marks) last fault is at = beside-first first marks last fault is at

-- ---- the restarts of a round

follows-fault : (e f : MarkEvent) → is_fault e ≡ true → MayFollow (Some e) f → restarts_at f ≡ 1
follows-fault (event.Faulted before after) event.Restarted bad may = refl
follows-fault (event.Faulted before after) (event.Faulted b a) bad may = absurd may
follows-fault (event.Faulted before after) (event.Settled waits turns) bad may = absurd may
follows-fault (event.Faulted before after) (event.ApplyBegan mode waits) bad may = absurd may
follows-fault (event.Faulted before after) event.ApplyEnded bad may = absurd may
follows-fault (event.Settled waits turns) f bad may = cc
follows-fault event.Restarted f bad may = cc
follows-fault (event.ApplyBegan mode waits) f bad may = cc
follows-fault event.ApplyEnded f bad may = cc

-- behind a fault the next mark is that of a restart
restart-next : (o : Option MarkEvent) (xs : List Mark) (m : Mark) (rest : List Mark) → is_suspect xs ≡ true → AreMarksInOrder o (xs ++ m ∷ rest) → restarts_at m.event ≡ 1
restart-next o [] m rest bad order = cc
restart-next o (x ∷ []) m rest bad order = follows-fault x.event m.event bad order.1.0
restart-next o (x ∷ y ∷ xs) m rest bad order = restart-next (Some x.event) (y ∷ xs) m rest bad order.1

pub one-more : (xs ms : List Mark) (n : ℕ) → is_suspect xs ≡ true → AreMarksInOrder None (xs ++ ms) → restarts_marked ms ≡ n + 1 → RestartsAfterFault (is_suspect xs) ms
one-more xs [] n bad order count = absurd (none (sym count))
  where
    none : n + 1 ≡ 0 → ⊥
    none h = omega (arith, h)
one-more xs (m ∷ rest) n bad order count = inl (bad, restart-next None xs m rest bad order)

-- so there is one among more marks, where the round began behind fewer
pub more-behind : (fault : Bool) (xs ms added : List Mark) → is_suspect xs ≡ fault → RestartsAfterFault (is_suspect (xs ++ ms)) added → RestartsAfterFault fault (ms ++ added)
more-behind fault xs [] added is h = subst (λ b. RestartsAfterFault b added) (ap is_suspect (append-nil xs) ∙ is) h
more-behind fault xs (m ∷ ms) added is h = inr (more-behind (is_fault m.event) (xs ++ m ∷ []) ms added (suspect-last xs m) (subst (λ l. RestartsAfterFault (is_suspect l) added) (sym (append_assoc xs (m ∷ []) ms)) h))

-- how often a round restarted so far that began behind these marks: as its sections say, and once more where it began behind a fault and they had restarted before that; a restart may be due yet
pub record HasRestarted (round : Round) (xs ms : List Mark) (w : Warm) : Type 0 where
  pub more : ℕ
  pub count : restarts_marked ms + restarts_due w ≡ restarts_in round.sections + more
  pub behind : (more ≡ 0) ⊎ ((more ≡ 1) × (is_suspect xs ≡ true))
  pub least : restarts_in round.sections ≤ restarts_marked ms

pub no_restart : (e : MarkEvent) → MayEndRound e → restarts_at e ≡ 0
no_restart (event.Settled waits turns) h = refl
no_restart (event.Faulted before after) h = refl
no_restart event.Restarted h = absurd h
no_restart (event.ApplyBegan mode waits) h = absurd h
no_restart event.ApplyEnded h = absurd h

pub restarts-mark : (ms : List Mark) (mark : Mark) → MayEndRound mark.event → restarts_marked (ms ++ mark ∷ []) ≡ restarts_marked ms
restarts-mark ms mark may = let both = restarts_both ms (mark ∷ []) in let none = no_restart mark.event may in omega (arith, both, none)

-- a round that ended
pub restarts-ended : (round : Round) (xs ms : List Mark) (w : Warm) (mark : Mark) → HasRestarted round xs ms w → restarts_due w ≡ 0 → MayEndRound mark.event → AreMarksInOrder None (xs ++ (ms ++ mark ∷ [])) → HasRestarts (is_suspect xs) round (ms ++ mark ∷ [])
restarts-ended round xs ms w mark h none may order = by h.behind
  where
    count : restarts_marked (ms ++ mark ∷ []) ≡ restarts_in round.sections + h.more
    count = let same = restarts-mark ms mark may in let so_far = h.count in omega (arith, same, so_far, none)

    by : (h.more ≡ 0) ⊎ ((h.more ≡ 1) × (is_suspect xs ≡ true)) → HasRestarts (is_suspect xs) round (ms ++ mark ∷ [])
    by (inl zero_more) = inl (omega (arith, count, zero_more))
    by (inr (one, bad)) =
        let all : restarts_marked (ms ++ mark ∷ []) ≡ restarts_in round.sections + 1 = omega (arith, count, one) in
        inr (all, one-more xs (ms ++ mark ∷ []) (restarts_in round.sections) bad order all)

-- a restart is due of a suspect core alone
pub due-suspect : (w : Warm) → restarts_due w ≡ 1 → w ≡ warm.Suspect
due-suspect warm.Suspect is = refl
due-suspect warm.Initialized is = cc
due-suspect warm.Restored is = cc
due-suspect warm.Applying is = cc
due-suspect warm.Reconciled is = cc

pub due-or : (w : Warm) → (restarts_due w ≡ 0) ⊎ (restarts_due w ≡ 1)
due-or warm.Suspect = inr refl
due-or warm.Initialized = inl refl
due-or warm.Restored = inl refl
due-or warm.Applying = inl refl
due-or warm.Reconciled = inl refl

-- and one that did not end
pub restarts-stopped : (round : Round) (xs ms : List Mark) (w : Warm) → HasRestarted round xs ms w → AreMarksInOrder None (xs ++ ms) → HasFewRestarts (is_suspect xs) round ms
restarts-stopped round xs ms w h order = by h.behind (due-or w)
  where
    by : (h.more ≡ 0) ⊎ ((h.more ≡ 1) × (is_suspect xs ≡ true)) → (restarts_due w ≡ 0) ⊎ (restarts_due w ≡ 1) → HasFewRestarts (is_suspect xs) round ms
    by (inl zero_more) due = let count = h.count in inl (omega (arith, count, zero_more))
    by (inr (one, bad)) (inr due) = let count = h.count in inl (omega (arith, count, one, due))
    by (inr (one, bad)) (inl due) =
        let count = h.count in
        let all : restarts_marked ms ≡ restarts_in round.sections + 1 = omega (arith, count, one, due) in
        inr (all, one-more xs ms (restarts_in round.sections) bad order all)
