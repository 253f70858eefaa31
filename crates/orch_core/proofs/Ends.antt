-- the end of a settling
use Rattle.std.proofs.Common.{◌≡◌, ◌+◌, ◌≤◌, ◌∷◌, ◌++◌, ◌∙◌, inl, inr, ℕ, List, [], length, Result, Ok, Err, refl, sym, ap, subst, arith}
use Rattle.std.specs.Map.{keys_of}
use Rattle.std.proofs.lemmas.List.{length-append}
use Rattle.std.proofs.lemmas.Map.Entries.{length-keys_of}
use Rattle.swss_types.specs.declared.out_of_memory.OutOfMemory.{OutOfMemory}
use Rattle.table_schema.specs.declared.key.Key.{Key}
use Rattle.sai_types.specs.declared.body.Call.{Call}
use Rattle.sai_types.specs.declared.ids.Rid.{Rid}
use Rattle.sai_types.specs.ChipState.{ChipState}
use Rattle.consumer_table.specs.Ops.{AreOpsInOrder}
use Rattle.switch_model.specs.History.{with_end, with_mark}
use Rattle.switch_model.specs.Marks.{Waiting}
use Rattle.switch_model.specs.declared.mark.Mark.{Mark}
use Rattle.switch_model.specs.declared.mark.MarkEvent.TheVariants as event
use Rattle.switch_machine.specs.Events.{SwitchState}
use Rattle.switch_machine.specs.Next.{MustWait}
use Rattle.machine_laws.proofs.Turning.{turns-cut}
use Rattle.restart_laws.specs.Logged.{LoggedService}
use Rattle.sync_tables.specs.Tables.{IsToSync}
use Rattle.session_laws.specs.Core.{CoreState, IsFullFor, mark_at, size_beside}
use Rattle.session_laws.specs.Standing.{IsSessionOf}
use Rattle.session_laws.specs.Leading.{LeadsTo, PopsTo, RunsTo, SettlesTo, calls_in}
use Rattle.session_laws.specs.Turning.{IsAtRest, TurnsTo}
use Rattle.session_laws.proofs.Settling.Leading.{leads_more, leads_some}
use Rattle.session_laws.proofs.Settling.Settling.{quiet_answered, settling_ends, turns_cut}
use Rattle.session_laws.proofs.Settling.Walking.{in_key_order}
use Rattle.orch_core.specs.Marked.{AreListedFrom, ListsWhatWaits, Marks, with_settled}
use Rattle.orch_core.specs.Outcomes.{KeepsChip}
use Rattle.orch_core.specs.Settled.{AreByWorkers, AreTurnsSoFar, BehindThem, MarksTurns, RunsInOrder, Settles, SettlesKeys, SettlesSoFar, SettlesWhole, StopsAtMark, StopsShort}
use Rattle.orch_core.specs.declared.answer.Settled.{Settled}
use Rattle.orch_core.specs.declared.answer.Settled.TheVariants as settled
use Rattle.flight_board.specs.Applied.{row_at}
use Rattle.mark_lists.proofs.Listings.{listed_length}
use Rattle.orch_core.proofs.Listings.{listed_all, listed_only, listed_order, listed_reasons}
use Rattle.orch_core.proofs.Chips.{keeps_on, keeps_stood}
use Rattle.orch_core.proofs.Runs.{effects_on, faulted_more, full_more, log_same, short_more}

-- ---- turns and their mark

-- why each key to sync waits is told
waits_told : (n : ℕ) (s : LoggedService) (c mid : CoreState) (chip' : ChipState) (x : TurnsTo n c s mid chip') (k : Key) → IsToSync mid.tables k → MustWait mid.board.plan 4 mid.sync.capacities x.later.service.core k
waits_told n s c mid chip' x k i = let one = x.lists k i in (one.0, one.2)

module _ (s : LoggedService) (c : CoreState) (first : ChipState) (is : IsSessionOf c first s) (n : ℕ) (mid : CoreState) (chip' : ChipState) (order : AreOpsInOrder c.tables.ops) (x : TurnsTo n c s mid chip') (keeps : KeepsChip c first mid chip') (effects : ℕ) (same : effects ≡ length chip'.effects) where
  kept : mid.log ≡ c.log
  kept = log_same c mid first chip' s x.later is x.leads.stands x.log

  abbrev So : SwitchState → SwitchState → List (Call Rid) → Type 0
  So = AreTurnsSoFar c.board.plan c.sync.capacities (keys_of c.tables.ops)

  -- whole turns are turns so far
  so : So s.service.core x.later.service.core x.calls
  so = let cut = turns-cut c.board.plan 4 c.sync.capacities n s.service.core x.later.service.core (keys_of c.tables.ops) (keys_of mid.tables.ops) x.calls x.turns in (in_key_order c.tables.ops order.keys, cut.0, cut.2)

  made : chip'.effects ≡ first.effects ++ x.calls
  made = sym x.leads.stands.effects ∙ x.effects ∙ ap (λ l. l ++ x.calls) is.effects

  full : IsFullFor mid effects (1 + length mid.tables.ops) → AreOpsInOrder mid.tables.ops → StopsAtMark So s c first mid chip'
  full h rise = record { later = x.later; leads = x.leads; calls = x.calls; so = so; effects = made; at_rest = x.at_rest; log = kept; order = rise; waits = waits_told n s c mid chip' x; full = subst (λ e. IsFullFor mid e (1 + length mid.tables.ops)) same h; keeps = keeps }

  short : StopsShort So s c first mid chip'
  short = record { steps = leads_some c mid chip' s x.later x.leads; then = x.later.service.core; calls = x.calls; so = so; effects = made; warm = x.at_rest.warm; log = kept; keeps = keeps }

  pub keys_end : (r : Result Settled OutOfMemory) (c' : CoreState) → Marks effects n mid r c' → SettlesKeys s c first r c' chip'
  keys_end (Ok settled.Settled) c' h = record { turns = n; mid = mid; order = order; turned = x; marks = subst (λ e. Marks e n mid (Ok settled.Settled) c') same h; keeps = keeps }
  keys_end (Ok settled.LogFull) c' h = inr (subst (λ z. StopsAtMark So s c first z chip') (sym h.0) (full h.1 h.2))
  keys_end (Ok settled.Faulted) c' h = absurd h
  keys_end (Err e) c' h = subst (λ z. StopsShort So s c first z chip') (sym h) short

-- ---- the whole

module _ (s : LoggedService) (c : CoreState) (first : ChipState) (is : IsSessionOf c first s) (c1 c2 : CoreState) (chip1 : ChipState) (ran : KeepsChip c first c1 chip1) (all : RunsInOrder 4 s c c1 chip1) (y : PopsTo c1 all.runs.later c2 chip1) (rest : IsAtRest c2) where
  abbrev x : RunsTo c s c1 chip1
  x = all.runs

  leads : LeadsTo c s y.later c2 chip1
  leads = leads_more c c1 c2 chip1 chip1 s x.later y.later x.leads y.leads

  kept_log : c2.log ≡ c.log
  kept_log = log_same c c2 first chip1 s y.later is y.leads.stands (y.log ∙ x.log)

  keeps : KeepsChip c first c2 chip1
  keeps = keeps_on ran (keeps_stood c1 c2 chip1 chip1 x.later y.later x.leads.stands y.leads.stands (log_same c1 c2 chip1 chip1 x.later y.later x.leads.stands y.leads.stands y.log) y.leads.limit)

  module _ (c' : CoreState) (chip' : ChipState) (m : MarksTurns y.later c2 chip1 c' chip') where
    abbrev waits : Waiting
    waits = m.marks.1

    listed : AreListedFrom m.mid (keys_of m.mid.tables.ops) waits
    listed = m.marks.2

    many : length waits ≡ length m.mid.tables.ops
    many = listed_length m.mid.waiting (row_at m.mid.board.applied) (keys_of m.mid.tables.ops) waits listed ∙ length-keys_of m.mid.tables.ops

    ended : (t : SettlesTo c s c' chip') × AreByWorkers c.board.plan 0 4 s.service.core t.answers
    ended =
        subst (λ z. (t : SettlesTo c s z chip') × AreByWorkers c.board.plan 0 4 s.service.core t.answers) (sym (m.marks.3 ∙ ap (λ n. record m.mid { log = with_end (with_mark m.mid.log (mark_at m.mid (length chip'.effects) (event.Settled waits m.turns))); listed = m.mid.listed + n }) (sym many))) (
          settling_ends m.turns c c1 c2 m.mid chip1 chip1 chip' s x y m.turned waits rest m.order
              (listed_reasons m.mid m.turned.later.service.core (keys_of m.mid.tables.ops) waits m.turned.lists listed)
              (λ k i. listed_all m.mid (keys_of m.mid.tables.ops) waits listed k i)
              (λ k i. listed_only m.mid (keys_of m.mid.tables.ops) waits listed k i)
              (listed_order m.mid m.mid.tables.ops waits m.marks.0 listed),
          all.order,
        )

    fits_marked : size_beside (with_settled m.mid (length chip'.effects) waits m.turns (length m.mid.tables.ops)) (length chip'.effects) ≤ m.mid.limit
    fits_marked =
        let longer = length-append m.mid.log.marks (mark_at m.mid (length chip'.effects) (event.Settled waits m.turns) ∷ []) in
        let room = m.marks.4 in
        omega (arith, longer, room)

    fits : size_beside c' (length chip'.effects) ≤ c'.limit
    fits = subst (λ (z : CoreState). size_beside z (length chip'.effects) ≤ z.limit) (sym m.marks.3) fits_marked

    lists_marked : ListsWhatWaits (with_settled m.mid (length chip'.effects) waits m.turns (length m.mid.tables.ops))
    lists_marked =
        let mark : Mark = mark_at m.mid (length chip'.effects) (event.Settled waits m.turns) in
        record {
          before = m.mid.log;
          mark = mark;
          waits = waits;
          turns = m.turns;
          log = refl;
          settled = refl;
          listed = listed;
        }

    lists : ListsWhatWaits c'
    lists = subst ListsWhatWaits (sym m.marks.3) lists_marked

    whole : SettlesWhole s c first c' chip'
    whole = record { settles = ended.0; workers = ended.1; places = fits; lists = lists; keeps = record { fails = m.keeps.fails ∙ keeps.fails; faults = m.keeps.faults ∙ keeps.faults; limit = λ within. fits } }

  -- turns so far, behind what workers left and the pops
  abbrev KeysSo : SwitchState → SwitchState → List (Call Rid) → Type 0
  KeysSo = AreTurnsSoFar c2.board.plan c2.sync.capacities (keys_of c2.tables.ops)

  abbrev AllSo : SwitchState → SwitchState → List (Call Rid) → Type 0
  AllSo = SettlesSoFar c.board.plan c.sync.capacities

  through : (u : SwitchState) (calls : List (Call Rid)) → KeysSo y.later.service.core u calls → AllSo s.service.core u (calls_in x.answers ++ calls)
  through u calls (order, n, turns) = BehindThem x.answers calls all.order (quiet_answered c c1 c2 chip1 chip1 s x y rest) (turns_cut c c1 c2 chip1 chip1 s x y rest order n u calls turns) refl

  grew : y.later.effects ≡ s.effects ++ calls_in x.answers
  grew = y.effects ∙ x.effects

  pub settles_all : (r : Result Settled OutOfMemory) (c' : CoreState) (chip' : ChipState) → SettlesKeys y.later c2 chip1 r c' chip' → Settles s c first r c' chip'
  settles_all (Ok settled.Settled) c' chip' m = whole c' chip' m
  settles_all (Ok settled.Faulted) c' chip' h = (faulted_more s y.later c c2 chip1 leads first is kept_log keeps AllSo KeysSo (calls_in x.answers) grew through (λ none. rest.popped) c' chip' h, λ free. h.popped rest.popped)
  settles_all (Ok settled.LogFull) c' chip' (inl h) = inl (full_more s y.later c c2 chip1 leads first is kept_log keeps AllSo KeysSo (calls_in x.answers) grew through c' chip' h)
  settles_all (Ok settled.LogFull) c' chip' (inr h) = inr (record {
    later = h.later;
    leads = leads_more c c2 c' chip1 chip' s y.later h.later leads h.leads;
    calls = calls_in x.answers ++ h.calls;
    so = through h.later.service.core h.calls h.so;
    effects = h.effects ∙ effects_on s y.later c c2 chip1 leads first is kept_log keeps AllSo KeysSo (calls_in x.answers) grew through h.calls;
    at_rest = h.at_rest;
    log = h.log ∙ kept_log;
    order = h.order;
    waits = h.waits;
    full = h.full;
    keeps = keeps_on keeps h.keeps;
  })
  settles_all (Err e) c' chip' h = short_more s y.later c c2 chip1 leads first is kept_log keeps AllSo KeysSo (calls_in x.answers) grew through c' chip' h
