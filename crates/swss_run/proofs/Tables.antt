-- what a core made of the acts of a round, and what its tables come to
use Rattle.std.proofs.Common.{◌≡◌, ◌⊎◌, ◌+◌, ◌-◌, ◌<◌, ◌≤◌, ◌++◌, ◌∷◌, ◌∙◌, inl, inr, ℕ, suc, Bool, true, false, if◌then◌else◌, List, [], length, take, drop, get_or, Option, Some, None, refl, sym, ap, subst, arith}
use Rattle.std.proofs.lemmas.List.{append-nil, append_assoc, get_or-drop, length-append, length-drop, map-append, take-append-le, take_rest}
use Rattle.std.proofs.Math.Seq.{take-suc}
use Rattle.table_schema.specs.Key.{key_cmp}
use Rattle.table_schema.specs.Rows.{HasRisingRows, Rows, after_write, fields_at, rows_of}
use Rattle.table_schema.specs.declared.key.Key.{Key}
use Rattle.table_schema.specs.declared.write.Sent.{Sent}
use Rattle.table_schema.proofs.Keys.{key_exact, key_total}
use Rattle.table_schema.proofs.RowLists.{HasRisingRows-rows_of, after_writes-more}
use Rattle.sai_types.specs.ChipState.{ChipState}
use Rattle.switch_model.specs.History.{History, with_mark, with_write}
use Rattle.switch_model.specs.Marks.{sent_writes, written_key}
use Rattle.switch_model.specs.declared.mark.Mark.{Mark}
use Rattle.switch_model.specs.declared.mark.MarkEvent.{MarkEvent}
use Rattle.switch_model.specs.declared.mark.MarkEvent.TheVariants as event
use Rattle.producer_table.specs.Pending.{ArePendingInOrder, pending_at, row_with_pending}
use Rattle.producer_table.proofs.Found.{same_entries}
use Rattle.producer_table.proofs.PendingWrites.{AreInOrder-after}
use Rattle.machine_laws.specs.Reading.{IsOnSwitch}
use Rattle.warm_state.specs.declared.warm.Warm.TheVariants as warm
use Rattle.session_laws.specs.Core.{CoreState, mark_at, with_taken}
use Rattle.session_laws.specs.Service.Events.{restarted}
use Rattle.session_laws.specs.Service.Standing.{IsAhead, written_of}
use Rattle.session_laws.proofs.Service.ByFirst.{board-stays, core-away}
use Rattle.session_laws.proofs.Service.Restarting.{restart-next}
use Rattle.session_laws.proofs.Service.States.{initialized-reconciled}
use Rattle.session_laws.proofs.Service.Taking.{taken-next}
use Rattle.round_laws.specs.Between.{IsInRound}
use Rattle.round_laws.specs.Sessions.{InSession}
use Rattle.round_laws.proofs.Between.{round-takes}
use Rattle.round_laws.proofs.Sessions.{one-on}
use Rattle.orch_core.specs.ComingBack.{AreOnWay, CountAll, CountsSo, restarts_at, restarts_marked}
use Rattle.orch_core.specs.Restarting.{IsInService}
use Rattle.orch_core.proofs.Coming.{restarts_both, way_both}
use Rattle.swss_service.specs.Made.{restarts_made, with_made, writes_among}
use Rattle.swss_run.specs.Running.{KeepsPlan}
use Rattle.swss_run.specs.Told.{AreRowsTaken, IsToldOf}
use Rattle.swss_run.specs.declared.told.Told.{Told}
use Rattle.swss_run.proofs.Given.{AreOnSwitch}
use Rattle.swss_run.specs.Rounds.{AreFenced, IsFenced}

-- ---- a round without a restart

pub in-round : (effects : ℕ) (since : Option Mark) (old : CoreState) (chip : ChipState) (done : List Sent) (made : List (Option Sent)) (c : CoreState) → IsInRound 1 since old chip done c → restarts_made made ≡ 0 → AreOnSwitch (writes_among made) → IsInRound 1 since old chip (done ++ writes_among made) (with_made effects c made)
in-round effects since old chip done [] c x none on = subst (λ l. IsInRound 1 since old chip l c) (sym (append-nil done)) x
in-round effects since old chip done (Some s ∷ made) c x none on =
    subst (λ l. IsInRound 1 since old chip l (with_made effects (with_taken c s) made)) (append_assoc done (s ∷ []) (writes_among made))
    (in-round effects since old chip (done ++ s ∷ []) made (with_taken c s) (round-takes since old c chip done s x on.0) none on.1)
in-round effects since old chip done (None ∷ made) c x none on = absurd (some none)
  where
    some : 1 + restarts_made made ≡ 0 → ⊥
    some h = omega (arith, h)

-- ---- fences

pub fenced-both : (from to calls : ℕ) (xs ys : List Mark) → AreFenced from to calls xs → AreFenced from to calls ys → AreFenced from to calls (xs ++ ys)
fenced-both from to calls [] ys a b = b
fenced-both from to calls (x ∷ xs) ys a b = (a.0, fenced-both from to calls xs ys a.1 b)

-- marks that count all writes of the round, and the calls that there were when it began
pub counted-fenced : (from more calls : ℕ) (ms : List Mark) → CountAll (from + more) calls ms → AreFenced from (from + more) calls ms
counted-fenced from more calls [] h = tt
counted-fenced from more calls (m ∷ ms) h = (by m.event h.0, counted-fenced from more calls ms h.1)
  where
    by : (e : MarkEvent) → CountsSo (from + more) calls m e → IsFenced from (from + more) calls m e
    by event.Restarted x = let taken = x.0 in (omega (arith, taken), omega (arith, taken), x.1)
    by (event.ApplyBegan mode waits) x = x
    by (event.Settled waits turns) x = tt
    by (event.Faulted before after) x = tt
    by event.ApplyEnded x = tt

-- ---- any round

-- each of these marks is that of a restart
abbrev pub AreRestarts : List Mark → Type 0
AreRestarts [] = Unit {0}
AreRestarts (mark ∷ marks) = (restarts_at mark.event ≡ 1) × AreRestarts marks

restarts_with : (marks : List Mark) (mark : Mark) → AreRestarts marks → restarts_at mark.event ≡ 1 → AreRestarts (marks ++ mark ∷ [])
restarts_with [] mark h one = (one, tt)
restarts_with (m ∷ marks) mark h one = (h.0, restarts_with marks mark h.1 one)

last_restart : (earlier : List Mark) (ended : Mark) → AreRestarts (earlier ++ ended ∷ []) → restarts_at ended.event ≡ 1
last_restart [] ended h = h.0
last_restart (m ∷ earlier) ended h = last_restart earlier ended h.1

-- none of them is that of the end of an apply
pub unended-restarts : (marks earlier : List Mark) (ended : Mark) → AreRestarts marks → marks ≡ earlier ++ ended ∷ [] → ended.event ≡ event.ApplyEnded → ⊥
unended-restarts marks earlier ended h is end =
    let one = last_restart earlier ended (subst AreRestarts is h) in
    let none : restarts_at ended.event ≡ 0 = ap restarts_at end in
    omega (arith, one, none)

-- in a round that began with the old core these writes were taken, and so many restarts were made, and nothing else was done; without a restart the warm state is the same, and behind one the core is initialized
pub record HasMade (old : CoreState) (chip : ChipState) (sent : List Sent) (restarts : ℕ) (c : CoreState) : Type 0 where
  pub within : InSession 1 c chip
  pub order : ArePendingInOrder c.tables.waiting
  pub added : List Mark
  pub log : c.log ≡ record { taken = old.log.taken ++ sent; marks = old.log.marks ++ added; ends = old.log.ends }
  pub way : AreOnWay added
  pub fenced : (to : ℕ) → length old.log.taken + length sent ≤ to → AreFenced (length old.log.taken) to (length chip.effects) added
  pub count : restarts_marked added ≡ restarts
  pub alone : AreRestarts added
  pub same : KeepsPlan old c
  pub warm : ((restarts ≡ 0) × (c.warm ≡ old.warm)) ⊎ ((1 ≤ restarts) × (c.warm ≡ warm.Initialized))

pub made-none : (old : CoreState) (chip : ChipState) → InSession 1 old chip → ArePendingInOrder old.tables.waiting → HasMade old chip [] 0 old
made-none old chip within order = record {
  within = within;
  order = order;
  added = [];
  log = ap (λ ts. record { taken = ts; marks = old.log.marks; ends = old.log.ends }) (sym (append-nil old.log.taken)) ∙ ap (λ ms. record { taken = old.log.taken ++ []; marks = ms; ends = old.log.ends }) (sym (append-nil old.log.marks));
  way = tt;
  fenced = λ to least. tt;
  count = refl;
  alone = tt;
  same = record { plan = refl; capacities = refl; limit = refl };
  warm = inl (refl, refl);
}

module _ (old : CoreState) (chip : ChipState) where
  made-write : (sent : List Sent) (restarts : ℕ) (c : CoreState) (s : Sent) → HasMade old chip sent restarts c → IsOnSwitch (written_key s.write) → HasMade old chip (sent ++ s ∷ []) restarts (with_taken c s)
  made-write sent restarts c s x on = record {
    within =
        let y = taken-next c chip x.within.session s x.within.stands on x.order in
        (one-on c (with_taken c s) chip chip x.within y (board-stays c (with_taken c s) chip chip x.within.session y.later x.within.stands y.stands refl refl 1)).0;
    order = AreInOrder-after c.tables.waiting s.write x.order;
    added = x.added;
    log = ap (λ h. with_write h s) x.log ∙ ap (λ ts. record { taken = ts; marks = old.log.marks ++ x.added; ends = old.log.ends }) (append_assoc old.log.taken sent (s ∷ []));
    way = x.way;
    fenced = λ to least. x.fenced to (let longer = length-append sent (s ∷ []) in omega (arith, least, longer));
    count = x.count;
    alone = x.alone;
    same = record { plan = x.same.plan; capacities = x.same.capacities; limit = x.same.limit };
    warm = x.warm;
  }

  made-restart : (sent : List Sent) (restarts : ℕ) (c : CoreState) → HasMade old chip sent restarts c → HasMade old chip sent (restarts + 1) (restarted c (length chip.effects))
  made-restart sent restarts c x =
      let mark = mark_at c (length chip.effects) event.Restarted in
      record {
        within =
            let y = restart-next c chip x.within.session x.within.stands in
            (one-on c (restarted c (length chip.effects)) chip chip x.within y (core-away c (restarted c (length chip.effects)) chip chip x.within.session y.later x.within.stands y.stands initialized-reconciled 1)).0;
        order = x.order;
        added = x.added ++ mark ∷ [];
        log = ap (λ h. with_mark h mark) x.log ∙ ap (λ ms. record { taken = old.log.taken ++ sent; marks = ms; ends = old.log.ends }) (append_assoc old.log.marks x.added (mark ∷ []));
        way = way_both x.added (mark ∷ []) x.way ((λ h. h), tt);
        fenced = λ to least.
            let taken : length c.log.taken ≡ length old.log.taken + length sent = ap (λ (h : History). length h.taken) x.log ∙ length-append old.log.taken sent in
            fenced-both (length old.log.taken) to (length chip.effects) x.added (mark ∷ []) (x.fenced to least) ((omega (arith, taken), omega (arith, taken, least), refl), tt);
        count = let both = restarts_both x.added (mark ∷ []) in let count = x.count in omega (arith, both, count);
        alone = restarts_with x.added mark x.alone refl;
        same = record { plan = x.same.plan; capacities = x.same.capacities; limit = x.same.limit };
        warm = inr (omega arith, refl);
      }

  pub made-all : (sent : List Sent) (restarts : ℕ) (made : List (Option Sent)) (c : CoreState) → HasMade old chip sent restarts c → AreOnSwitch (writes_among made) → HasMade old chip (sent ++ writes_among made) (restarts + restarts_made made) (with_made (length chip.effects) c made)
  made-all sent restarts [] c x on = subst (λ l. HasMade old chip l (restarts + 0) c) (sym (append-nil sent)) (subst (λ n. HasMade old chip sent n c) (omega arith) x)
  made-all sent restarts (Some s ∷ made) c x on =
      subst (λ l. HasMade old chip l (restarts + restarts_made made) (with_made (length chip.effects) (with_taken c s) made)) (append_assoc sent (s ∷ []) (writes_among made))
      (made-all (sent ++ s ∷ []) restarts made (with_taken c s) (made-write sent restarts c s x on.0) on.1)
  made-all sent restarts (None ∷ made) c x on =
      subst (λ n. HasMade old chip (sent ++ writes_among made) n (with_made (length chip.effects) (restarted c (length chip.effects)) made)) (omega arith)
      (made-all sent (restarts + 1) made (restarted c (length chip.effects)) (made-restart sent restarts c x) on)

-- ---- the rows

-- where no write waits the rows are the fold of the writes taken
rows-told : (c : CoreState) (chip : ChipState) → IsInService c chip → c.tables.waiting ≡ [] → HasRisingRows c.tables.rows → c.tables.rows ≡ rows_of (sent_writes c.log.taken)
rows-told c chip (s, is) none rising =
    same_entries key_cmp key_total key_exact c.tables.rows (rows_of (sent_writes c.log.taken)) rising (HasRisingRows-rows_of (sent_writes c.log.taken))
    (λ k. sym (told k ∙ ap (λ w. row_with_pending (fields_at c.tables.rows k) (pending_at w k)) none))
  where
    ahead : IsAhead s.service.core.written (written_of c)
    ahead = is.always.ahead

    told : (k : Key) → fields_at (rows_of (sent_writes c.log.taken)) k ≡ row_with_pending (fields_at c.tables.rows k) (pending_at c.tables.waiting k)
    told k = ap (λ ws. fields_at (rows_of ws) k) ahead.taken ∙ is.always.holds.safe.told k ∙ sym (ahead.whole k)

-- the rows that are shown
pub rows-shown : (c : CoreState) (chip : ChipState) (behind : Bool) (rows : Rows) → IsInService c chip → AreRowsTaken c behind rows → HasRisingRows c.tables.rows → (if behind then rows else c.tables.rows) ≡ rows_of (sent_writes c.log.taken)
rows-shown c chip false rows x taken rising = rows-told c chip x taken rising
rows-shown c chip true rows x taken rising = taken

-- nothing is told at first
pub told-none : (t : Told) (taken : List Sent) → t.rows ≡ [] → t.count ≡ 0 → IsToldOf t taken
told-none t taken rows count = record {
  few = omega (arith, count);
  rows = rows ∙ ap (λ n. rows_of (sent_writes (take n taken))) (sym count);
}

-- where more writes were taken, what is told is as far as it was
pub told-more : (t : Told) (taken more all : List Sent) → IsToldOf t taken → all ≡ taken ++ more → IsToldOf t all
told-more t taken more all x is = record {
  few = let longer = length-append taken more in let same = ap length is in let few = x.few in omega (arith, longer, same, few);
  rows = x.rows ∙ ap (λ l. rows_of (sent_writes l)) (sym (ap (take t.count) is ∙ take-append-le t.count taken more x.few));
}

-- and one write more is told, which is the next of those behind the start
pub told-next : (t : Told) (start at : ℕ) (taken : List Sent) (s : Sent) (rows : Rows) → t.count ≡ start + at → IsToldOf t taken → at < length (take (length taken - start) (drop start taken)) → s ≡ get_or (take (length taken - start) (drop start taken)) at s → rows ≡ after_write t.rows s.write → IsToldOf (record { rows = rows; count = t.count + 1 }) taken
told-next t start at taken s rows count x less is applied = record { few = omega (arith, within); rows = all }
  where
    behind : take (length taken - start) (drop start taken) ≡ drop start taken
    behind = take_rest taken start

    within : t.count < length taken
    within = let long = ap length behind ∙ length-drop start taken in omega (arith, less, long, count)

    next : get_or taken t.count s ≡ s
    next = ap (λ n. get_or taken n s) count ∙ sym (get_or-drop start taken at s) ∙ ap (λ l. get_or l at s) (sym behind) ∙ sym is

    longer : take (t.count + 1) taken ≡ take t.count taken ++ s ∷ []
    longer = let one : t.count + 1 ≡ suc t.count = omega arith in ap (λ n. take n taken) one ∙ take-suc taken t.count s within ∙ ap (λ y. take t.count taken ++ y ∷ []) next

    all : rows ≡ rows_of (sent_writes (take (t.count + 1) taken))
    all =
        applied
        ∙ ap (λ r. after_write r s.write) x.rows
        ∙ sym (after_writes-more [] (sent_writes (take t.count taken)) s.write)
        ∙ ap rows_of (sym (map-append (λ (z : Sent). z.write) (take t.count taken) (s ∷ [])))
        ∙ ap (λ l. rows_of (sent_writes l)) (sym longer)
