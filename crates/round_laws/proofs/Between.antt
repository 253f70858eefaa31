-- a settling ends between rounds, and a round begins there
use Rattle.std.proofs.Common.{◌≡◌, ◌⊎◌, ◌<◌, ◌∷◌, ◌++◌, ◌∙◌, inl, inr, true, ℕ, List, [], length, None, Option, Some, refl, suc, sym, ap, subst, arith}
use Rattle.std.proofs.lemmas.List.{append-nil, append_assoc}
use Rattle.std.proofs.lemmas.Option.{none-some, same_Some}
use Rattle.table_schema.specs.Plan.{IsPlan, Ports}
use Rattle.table_schema.specs.Rows.{rows_of}
use Rattle.table_schema.specs.declared.key.Key.{Key}
use Rattle.table_schema.specs.declared.write.Sent.{Sent}
use Rattle.sai_types.specs.Alike.{IsIn}
use Rattle.sai_types.specs.ChipState.{ChipState}
use Rattle.switch_model.specs.Good.{TypedRows, good_rows}
use Rattle.switch_model.specs.History.{History, with_end, with_mark, with_write}
use Rattle.switch_model.specs.Marks.{applied_rows, sent_writes, written_key}
use Rattle.switch_model.specs.Placed.{bare_rows}
use Rattle.switch_model.specs.Promises.{good_rows_at}
use Rattle.switch_model.specs.declared.mark.Mark.{Mark}
use Rattle.switch_model.specs.declared.mark.MarkEvent.TheVariants as event
use Rattle.producer_table.specs.Pending.{ArePendingInOrder}
use Rattle.producer_table.proofs.PendingWrites.{AreInOrder-after}
use Rattle.switch_machine.specs.Events.{SwitchState, after_answers}
use Rattle.switch_machine.specs.Written.{HasNoWrite, TakesWrite, Written}
use Rattle.switch_machine.proofs.Runs.{good-quiet}
use Rattle.switch_machine.proofs.Splits.{IsSplit, key_split}
use Rattle.machine_laws.specs.Logged.{AreListed, ListsKey, after_pops}
use Rattle.machine_laws.specs.Reading.{IsOnSwitch}
use Rattle.machine_laws.proofs.Waiting.{sync-left}
use Rattle.restart_laws.specs.Logged.{last_mark}
use Rattle.restart_laws.proofs.Marking.{last-more}
use Rattle.sync_tables.specs.Tables.{tables_with_write, written_in}
use Rattle.sync_tables.proofs.Waits.{takes_write}
use Rattle.flight_board.specs.Applied.{row_at}
use Rattle.session_laws.specs.Core.{CoreState, new_core, with_taken}
use Rattle.session_laws.proofs.Seeing.{keys_same, same_keys}
use Rattle.session_laws.proofs.Beginning.{none_flown}
use Rattle.session_laws.specs.Leading.{SettlesTo}
use Rattle.session_laws.specs.Service.Events.{MakesNext}
use Rattle.session_laws.specs.Service.Standing.{IsServiceOf}
use Rattle.session_laws.specs.Workers.{IsByFirst}
use Rattle.session_laws.proofs.Service.ByFirst.{board-stays}
use Rattle.session_laws.proofs.Service.Taking.{taken-next}
use Rattle.round_laws.specs.Between.{IsAtRestSince, IsBetweenRounds, IsInRound, mark_of}
use Rattle.round_laws.specs.Ended.{CountsCalls, LeavesRows, LeavesSettled, applied_since, waits_since}
use Rattle.round_laws.specs.Named.{keys_named}
use Rattle.round_laws.specs.Sessions.{InSession}
use Rattle.round_laws.proofs.Named.{in_put-or_there, named-back, named-front, named-last}
use Rattle.round_laws.proofs.Resting.{all-good, core-good, core-popped, core-quiet, core-safe, core-written, listed-reason, listed-rows, waits-synced}
use Rattle.round_laws.proofs.Sessions.{begins-session, by_more, in_later, leads-stand, one-on}
use Rattle.round_laws.proofs.Writes.{beside-write, write-beside, write-waits}

-- ---- the first round

pub between-first : (workers : ℕ) (plan : Ports) (capacities : List ℕ) (limit : ℕ) (chip : ChipState) → IsPlan plan → chip.objects ≡ [] → chip.effects ≡ [] → chip.clean ≡ true → chip.capacities ≡ capacities → IsBetweenRounds workers (new_core plan capacities limit) chip
between-first workers plan capacities limit chip is objects effects clean room = record {
  resting = record {
    within = begins-session workers plan capacities limit chip is objects effects clean room;
    rest = record { free = λ v below. none_flown plan capacities v; popped = refl; warm = refl };
    tells = tt;
    first = λ e. (refl, effects);
    taken = λ mark e. absurd (none-some mark e);
    effects = λ mark e. absurd (none-some mark e);
    applied = λ k. refl;
    to_sync = λ k i. absurd i;
    listed = λ k i. absurd i;
  };
  settled = tt;
}

-- ---- a round begins, and takes writes

-- no write waits for its pop
pub none_waits : {workers : ℕ} (since : Option Mark) (c : CoreState) (chip : ChipState) (x : IsAtRestSince workers since c chip) (k : Key) → HasNoWrite (written_in (sent_writes c.log.taken) c.tables) k
none_waits since c chip x k o = subst (λ w. HasNoWrite w k) (core-written c chip x.within x.rest.warm x.rest.free) (λ o. no_write k o) o
  where
    no_write : (k : Key) → HasNoWrite x.within.session.service.core.written k
    no_write k = core-popped c chip x.within x.rest.warm x.rest.free x.rest.popped k

abbrev pub round-begins : {workers : ℕ} (since : Option Mark) (c : CoreState) (chip : ChipState) → IsAtRestSince workers since c chip → IsInRound workers since c chip [] c
round-begins since c chip x = record {
  began = x;
  within = x.within;
  log = ap (λ ts. record { taken = ts; marks = c.log.marks; ends = c.log.ends }) (sym (append-nil c.log.taken));
  board = refl;
  sync = refl;
  warm = refl;
  ops = refl;
  order = subst ArePendingInOrder (sym x.rest.popped) (record { keys = tt; names = tt });
  named = λ k i. absurd i;
  unnamed = λ k none. none_waits since c chip x k;
}

module _ {workers : ℕ} (since : Option Mark) (old c : CoreState) (chip : ChipState) (sent : List Sent) (next : Sent) (x : IsInRound workers since old chip sent c) (on : IsOnSwitch (written_key next.write)) where
  abbrev before : Written
  before = written_in (sent_writes c.log.taken) c.tables

  abbrev then : Written
  then = written_in (sent_writes c.log.taken ++ next.write ∷ []) (tables_with_write c.tables next.write)

  takes : TakesWrite next.write before then
  takes = takes_write c.tables (sent_writes c.log.taken) next.write x.order

  -- a key that is named is that of the last write, or was named before
  but_last : (ss : List Sent) (k : Key) → IsIn k (keys_named (ss ++ next ∷ [])) → (k ≡ written_key next.write) ⊎ IsIn k (keys_named ss)
  but_last [] k i = i
  but_last (s ∷ ss) k i = by (but_last ss k) (in_put-or_there (keys_named (ss ++ next ∷ [])) (written_key s.write) k i)
    where
      front : (k ≡ written_key next.write) ⊎ IsIn k (keys_named ss) → (k ≡ written_key next.write) ⊎ IsIn k (keys_named (s ∷ ss))
      front (inl same) = inl same
      front (inr at) = inr (named-back (s ∷ []) ss k at)

      by : (IsIn k (keys_named (ss ++ next ∷ [])) → (k ≡ written_key next.write) ⊎ IsIn k (keys_named ss)) → (k ≡ written_key s.write) ⊎ IsIn k (keys_named (ss ++ next ∷ [])) → (k ≡ written_key next.write) ⊎ IsIn k (keys_named (s ∷ ss))
      by rest (inl same) = inr (named-front (s ∷ []) ss k (inl same))
      by rest (inr at) = front (rest at)

  named_or : (k : Key) → IsSplit (written_key next.write) k → IsIn k (keys_named (sent ++ next ∷ [])) → HasNoWrite then k → ⊥
  named_or k (inl same) i none = write-waits next.write before then k takes same none
  named_or k (inr apart) i none = by (but_last sent k i)
    where
      by : (k ≡ written_key next.write) ⊎ IsIn k (keys_named sent) → ⊥
      by (inl same) = apart (sym same)
      by (inr at) = x.named k at (beside-write next.write before then k takes apart none)

  its-take : MakesNext c x.within.session (with_taken c next) chip
  its-take = taken-next c chip x.within.session next x.within.stands on x.order

  takes-on : (n : ℕ) → IsByFirst n x.within.session → IsByFirst n its-take.later
  takes-on = board-stays c (with_taken c next) chip chip x.within.session its-take.later x.within.stands its-take.stands refl refl

  pub round-takes : IsInRound workers since old chip (sent ++ next ∷ []) (with_taken c next)
  round-takes = record {
    began = x.began;
    within = (one-on c (with_taken c next) chip chip x.within its-take (takes-on workers)).0;
    log = ap (λ h. with_write h next) x.log ∙ ap (λ ts. record { taken = ts; marks = old.log.marks; ends = old.log.ends }) (append_assoc old.log.taken sent (next ∷ []));
    board = x.board;
    sync = x.sync;
    warm = x.warm;
    ops = x.ops;
    order = AreInOrder-after c.tables.waiting next.write x.order;
    named = λ k i none. named_or k (key_split (written_key next.write) k) i none;
    unnamed = λ k none. write-beside next.write before then k takes (λ same. none (subst (λ z. IsIn z (keys_named (sent ++ next ∷ []))) same (named-last sent next))) (x.unnamed k (λ i. none (named-front sent (next ∷ []) k i)));
  }

-- ---- a settling ends between rounds

module _ {workers : ℕ} (c c' : CoreState) (chip chip' : ChipState) (x : InSession workers c chip) (y : SettlesTo c x.session c' chip') where
  abbrev t : SwitchState
  t = y.later.service.core

  abbrev pub its-mark : Mark
  its-mark = record { taken = length x.session.log.taken; effects = length y.later.effects; event = event.Settled y.settling.waits y.settling.turns }

  pub its-log : c'.log ≡ with_end (with_mark c.log its-mark)
  its-log = sym y.leads.stands.log ∙ y.settling.log ∙ ap (λ h. with_end (with_mark h its-mark)) x.stands.always.log

  last : mark_of c' ≡ Some its-mark
  last = ap (λ (h : History). last_mark None h.marks) its-log ∙ last-more None c.log.marks its-mark

  pub same_taken : c'.log.taken ≡ c.log.taken
  same_taken = ap (λ (h : History). h.taken) its-log

  pub later_stands : IsServiceOf c' chip' y.later
  later_stands = leads-stand c c' chip chip' x same_taken (inl y.warm) y.later y.leads

  -- whoever had operations under way before, the first worker has them now too
  abbrev pub later-in : InSession (suc workers) c' chip'
  later-in = in_later c c' chip chip' (by_more c chip x) y.later y.leads.steps y.leads.are (y.leads.few (suc workers) (omega arith)) y.leads.is later_stands y.leads.plan y.leads.capacities

  counts : its-mark.taken ≡ length c'.log.taken
  counts = ap (λ (h : History). length h.taken) x.stands.always.log ∙ ap length (sym same_taken)

  by_last : (P : Mark → Type 0) → P its-mark → (mark : Mark) → mark_of c' ≡ Some mark → P mark
  by_last P h mark e = subst P (same_Some its-mark mark (sym last ∙ e)) h

  pub its-listed : AreListed c'.board.plan 4 c'.sync.capacities t y.settling.waits
  its-listed = subst (λ p. AreListed p 4 c'.sync.capacities t y.settling.waits) (sym y.leads.plan) (subst (λ l. AreListed c.board.plan 4 l t y.settling.waits) (sym y.leads.capacities) y.settling.listed)

  synced_listed : (k : Key) → IsIn k t.to_sync → ListsKey k y.settling.waits
  synced_listed k i = y.settling.lists k (sync-left c.board.plan 4 c.sync.capacities y.settling.turns (after_pops (after_answers x.session.service.core y.answers) y.settling.pops) t y.settling.keys y.settling.left y.settling.calls y.settling.all y.settling.turns_are k i)

  abbrev its_good : TypedRows
  its_good = good_rows_at c'.board.plan c'.log.taken its-mark.taken

  good_is : (k : Key) → good_rows c'.board.plan (rows_of (sent_writes c'.log.taken)) k ≡ its_good k
  good_is k = ap (λ (g : TypedRows). g k) (sym (all-good c'.board.plan c'.log.taken)) ∙ ap (λ n. good_rows_at c'.board.plan c'.log.taken n k) (sym counts)

  pub its-rows : (k : Key) → applied_rows y.settling.waits its_good k ≡ bare_rows t.machine.board.applied k
  its-rows k = listed-rows c'.board.plan c'.sync.capacities t its_good y.settling.waits k its-listed (λ none.
      good-quiet c'.board.plan later-in.stands.always.plan 4 c'.sync.capacities t (core-safe c' chip' later-in y.warm y.free) (core-quiet c' chip' later-in y.warm y.free) k (λ i. none (synced_listed k i))
      ∙ core-good c' chip' later-in y.warm y.free y.popped k
      ∙ good_is k)

  pub settled-between : 0 < workers → IsBetweenRounds workers c' chip'
  settled-between some = record {
    resting = record {
      within = in_later c c' chip chip' x y.later y.leads.steps y.leads.are (y.leads.few workers some) y.leads.is later_stands y.leads.plan y.leads.capacities;
      rest = record { free = y.free; popped = y.popped; warm = y.warm };
      tells = subst LeavesRows (sym last) tt;
      first = λ e. absurd (none-some its-mark (sym e ∙ last));
      taken = by_last (λ m. m.taken ≡ length c'.log.taken) counts;
      effects = by_last (λ m. CountsCalls m.event m.effects (length chip'.effects)) (ap length y.leads.stands.effects);
      applied = λ k. subst (λ o. row_at c'.board.applied k ≡ applied_since c'.board.plan c'.log.taken o k) (sym last) (sym ((y.leads.stands.working y.warm).rows k) ∙ sym (its-rows k));
      to_sync = λ k i. subst (λ o. ListsKey k (waits_since o)) (sym last) (synced_listed k (keys_same c' chip' y.later y.leads.stands k i));
      listed = λ k i.
          let r = listed-reason c'.board.plan c'.sync.capacities t y.settling.waits k its-listed (subst (λ o. ListsKey k (waits_since o)) last i) in
          same_keys c' chip' y.later y.leads.stands k (waits-synced c'.board.plan later-in.stands.always.plan c'.sync.capacities t (core-safe c' chip' later-in y.warm y.free) (core-quiet c' chip' later-in y.warm y.free) k r.0 r.1);
    };
    settled = subst LeavesSettled (sym last) tt;
  }
