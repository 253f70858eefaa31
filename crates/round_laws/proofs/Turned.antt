-- the calls of a round are those of turns
use Rattle.std.proofs.Common.{◌≡◌, ◌+◌, ◌<◌, ◌∷◌, ◌++◌, ◌∙◌, inl, inr, ℕ, List, [], length, map, None, Option, refl, sym, ap, subst}
use Rattle.std.proofs.lemmas.List.{append-nil}
use Rattle.std.specs.Map.{keys_of}
use Rattle.table_schema.specs.Plan.{Ports}
use Rattle.table_schema.specs.Rows.{rows_of}
use Rattle.table_schema.specs.declared.key.Key.{Key}
use Rattle.table_schema.specs.declared.write.Sent.{Sent}
use Rattle.sai_types.specs.declared.ids.Rid.{Rid}
use Rattle.sai_types.specs.declared.body.Call.{Call}
use Rattle.sai_types.specs.After.{chip_after}
use Rattle.sai_types.specs.Alike.{IsIn}
use Rattle.sai_types.specs.ChipState.{ChipState}
use Rattle.switch_model.specs.Good.{good_rows}
use Rattle.switch_model.specs.History.{History}
use Rattle.switch_model.specs.Marks.{applied_rows, sent_writes}
use Rattle.switch_model.specs.Placed.{bare_rows}
use Rattle.switch_model.specs.Promises.{applied_at, good_rows_at}
use Rattle.switch_model.specs.declared.mark.Mark.{Mark}
use Rattle.chip_layout.specs.Layout.{IsLaidOut, listed}
use Rattle.switch_machine.specs.Events.{AreAnswers, IsQuiet, IsSafe, SwitchState, after_answers}
use Rattle.switch_machine.specs.Written.{HasNoWrite, good_of}
use Rattle.machine_laws.specs.Calls.{AreTurnsWith, Situation}
use Rattle.machine_laws.specs.Logged.{LoggedSwitch, after_pops}
use Rattle.machine_laws.specs.Settling.{IsSituationOf, situation}
use Rattle.machine_laws.proofs.AtRest.{at-rest}
use Rattle.machine_laws.proofs.Deciding.{IsDecided}
use Rattle.machine_laws.proofs.Logging.{settling-calls, settling-good, settling-keys}
use Rattle.machine_laws.proofs.Rows.{thing_same}
use Rattle.machine_laws.proofs.Sharing.{key_listed_decided}
use Rattle.restart_laws.specs.Logged.{switch_of}
use Rattle.sync_tables.specs.Tables.{IsToSync}
use Rattle.flight_board.specs.Applied.{row_at}
use Rattle.flight_board.specs.Board.{flown_at}
use Rattle.warm_state.specs.declared.warm.Warm.TheVariants as warm
use Rattle.session_laws.specs.Core.{CoreState}
use Rattle.session_laws.proofs.Seeing.{keys_same, same_keys}
use Rattle.session_laws.specs.Leading.{SettlesTo, calls_in, switch_answered}
use Rattle.round_laws.specs.Between.{IsInRound, round_from}
use Rattle.round_laws.specs.Ended.{EndedRound, HasCounts, IsToTry, applied_since, rows_wanted}
use Rattle.round_laws.specs.Named.{keys_named}
use Rattle.round_laws.specs.Turns.{IsMadeByTurns, StandsOnChip}
use Rattle.round_laws.proofs.Awaited.{listed-in, lists-in}
use Rattle.round_laws.proofs.Between.{its-log, its-mark, its-rows, later-in}
use Rattle.round_laws.proofs.Ordering.{same-order, sorted-order, turns-order}
use Rattle.round_laws.proofs.Resting.{core-quiet, core-safe, core-session, core-stands, core-taken, core-written}

-- what stands in a situation that is that of a state
stands_as : (plan : Ports) (effects : List (Call Rid)) (t : SwitchState) (z : Situation) → IsSituationOf z t → StandsOnChip plan effects (situation t) → StandsOnChip plan effects z
stands_as plan effects t z agrees x = record {
  things = λ u i h. thing_same plan (bare_rows t.machine.board.applied) z.applied (λ k. sym (agrees.rows k)) u (x.things u i (subst (IsIn (i, u)) agrees.stands h));
  stand = λ u h. let y = x.stand u (thing_same plan z.applied (bare_rows t.machine.board.applied) agrees.rows u h) in (y.0, subst (IsIn (y.0, u)) (sym agrees.stands) y.1);
  laid = subst (λ l. IsLaidOut (listed l) (chip_after effects (length effects))) (sym agrees.stands) x.laid;
  made = x.made ∙ ap (λ n. n + 1) (sym agrees.made);
}

-- ---- a settling of a core whose workers have nothing under way

-- where nothing is under way no answer is given
pub no-answers : (plan : Ports) (s : SwitchState) (answers : List (Call Rid × SwitchState)) → IsQuiet s → AreAnswers plan 4 s answers → answers ≡ []
no-answers plan s [] quiet run = refl
no-answers plan s (a ∷ rest) quiet run = absurd (quiet run.0.next.worker run.0.next.flight run.0.next.flying)

module _ {workers : ℕ} (since : Option Mark) (old c : CoreState) (chip : ChipState) (sent : List Sent) (x : IsInRound workers since old chip sent c) where
  pub round-warm : c.warm ≡ warm.Reconciled
  round-warm = x.warm ∙ x.began.rest.warm

  pub round-free : (v : ℕ) → v < 4 → flown_at c.board v ≡ None
  round-free v below = ap (λ b. flown_at b v) x.board ∙ x.began.rest.free v below

  abbrev pub before : SwitchState
  before = x.within.session.service.core

  pub round-safe : IsSafe c.board.plan 4 c.sync.capacities before
  round-safe = core-safe c chip x.within round-warm round-free

  pub round-quiet : IsQuiet before
  round-quiet = core-quiet c chip x.within round-warm round-free

  -- the applied rows
  pub round-rows : (k : Key) → bare_rows before.machine.board.applied k ≡ applied_since c.board.plan old.log.taken since k
  round-rows k =
      (x.within.stands.working round-warm).1.rows k
      ∙ ap (λ b. row_at b.applied k) x.board
      ∙ x.began.applied k
      ∙ ap (λ b. applied_since b.plan old.log.taken since k) (sym x.board)

  pub round-taken : c.log.taken ≡ old.log.taken ++ sent
  round-taken = ap (λ (h : History). h.taken) x.log

  -- a key that the round does not try has no write that waits, and is not to sync
  pub round-unnamed : (k : Key) → (IsIn k (keys_named sent) → ⊥) → HasNoWrite before.written k
  round-unnamed k none = subst (λ w. HasNoWrite w k) (sym (core-written c chip x.within round-warm round-free)) (x.unnamed k none)

  pub round-named : (k : Key) → IsIn k (keys_named sent) → HasNoWrite before.written k → ⊥
  round-named k i none = x.named k i (subst (λ w. HasNoWrite w k) (core-written c chip x.within round-warm round-free) none)

  pub round-synced : (k : Key) → IsIn k before.to_sync → IsToSync old.tables k
  round-synced k i = subst (λ o. IsIn k (keys_of o)) x.ops (same_keys c chip x.within.session (core-session c chip x.within round-warm round-free) k i)

  pub synced-round : (k : Key) → IsToSync old.tables k → IsIn k before.to_sync
  synced-round k i = keys_same c chip x.within.session (core-session c chip x.within round-warm round-free) k (subst (λ o. IsIn k (keys_of o)) (sym x.ops) i)

module _ {workers : ℕ} (since : Option Mark) (old c c' : CoreState) (chip chip' : ChipState) (sent : List Sent) (x : IsInRound workers since old chip sent c) (y : SettlesTo c x.within.session c' chip') where
  none_given : y.answers ≡ []
  none_given = no-answers c.board.plan (before since old c chip sent x) y.answers (round-quiet since old c chip sent x) y.are

  abbrev pub s : LoggedSwitch
  s = switch_answered x.within.session y.answers

  pub same-switch : s.switch ≡ before since old c chip sent x
  same-switch = ap (after_answers (before since old c chip sent x)) none_given

  pub same-effects : s.effects ≡ chip.effects
  same-effects = ap (λ answers. x.within.session.effects ++ calls_in answers) none_given ∙ append-nil x.within.session.effects ∙ x.within.stands.always.effects

  pub settling-safe : IsSafe c.board.plan 4 c.sync.capacities s.switch
  settling-safe = subst (IsSafe c.board.plan 4 c.sync.capacities) (sym same-switch) (round-safe since old c chip sent x)

  pub settling-quiet : IsQuiet s.switch
  settling-quiet = subst (λ (z : SwitchState). IsQuiet z) (sym same-switch) (round-quiet since old c chip sent x)

  abbrev plan : Ports
  plan = c.board.plan

  abbrev room : List ℕ
  room = c.sync.capacities

  abbrev mark : Mark
  mark = its-mark c c' chip chip' x.within y

  abbrev pub the-round : EndedRound
  the-round = round_from since old chip sent y.settling.calls mark

  pub more-effects : chip'.effects ≡ chip.effects ++ y.settling.calls
  more-effects = sym y.leads.stands.effects ∙ y.settling.effects ∙ ap (λ es. es ++ y.settling.calls) same-effects

  counts : HasCounts the-round
  counts = record {
    first = x.began.first;
    taken_before = x.began.taken;
    effects_before = x.began.effects;
    taken = ap (λ (h : History). length h.taken) x.within.stands.always.log ∙ ap length (round-taken since old c chip sent x);
    effects = ap length (y.leads.stands.effects ∙ more-effects);
  }

  begins : StandsOnChip plan chip.effects (situation s.switch)
  begins = subst (λ (z : SwitchState). StandsOnChip plan chip.effects (situation z)) (sym same-switch) (core-stands c chip x.within (round-warm since old c chip sent x) (round-free since old c chip sent x))

  wanted : (k : Key) → good_of plan (after_pops s.switch y.settling.pops).written k ≡ rows_wanted plan the-round k
  wanted k =
      settling-good plan 4 room s (switch_of y.later) y.settling settling-safe k
      ∙ ap (λ (z : SwitchState). good_rows plan (rows_of z.written.taken) k) same-switch
      ∙ ap (λ ts. good_rows plan (rows_of ts) k) (core-taken c chip x.within (round-warm since old c chip sent x) (round-free since old c chip sent x))
      ∙ ap (λ ts. good_rows plan (rows_of (sent_writes ts)) k) (round-taken since old c chip sent x)

  keys : (k : Key) → (IsIn k s.switch.to_sync → IsIn k y.settling.keys) × ((HasNoWrite s.switch.written k → ⊥) → IsIn k y.settling.keys) × (IsIn k y.settling.keys → HasNoWrite s.switch.written k → IsIn k s.switch.to_sync)
  keys k = settling-keys plan 4 room s (switch_of y.later) y.settling k

  tried : (k : Key) → IsIn k y.settling.keys → IsToTry the-round k
  tried k i = by (key_listed_decided k (keys_named sent))
    where
      by : IsDecided (IsIn k (keys_named sent)) → IsToTry the-round k
      by (inl named) = inr named
      by (inr none) =
          let still = (keys k).2 i (subst (λ (z : SwitchState). HasNoWrite z.written k) (sym same-switch) (round-unnamed since old c chip sent x k none)) in
          inl (x.began.to_sync k (round-synced since old c chip sent x k (subst (λ (z : SwitchState). IsIn k z.to_sync) same-switch still)))

  all : (k : Key) → IsToTry the-round k → IsIn k y.settling.keys
  all k (inl listed) = (keys k).0 (subst (λ (z : SwitchState). IsIn k z.to_sync) (sym same-switch) (synced-round since old c chip sent x k (x.began.listed k listed)))
  all k (inr named) = (keys k).1 (λ none. round-named since old c chip sent x k named (subst (λ (z : SwitchState). HasNoWrite z.written k) same-switch none))

  comes : (z : Situation) × AreTurnsWith plan room (good_of plan (after_pops s.switch y.settling.pops).written) y.settling.turns (situation s.switch) y.settling.keys z y.settling.left y.settling.calls × IsSituationOf z y.later.service.core
  comes = settling-calls plan 4 room x.within.stands.always.plan s (switch_of y.later) y.settling settling-safe settling-quiet

  ends : StandsOnChip plan (chip.effects ++ y.settling.calls) comes.0
  ends =
      stands_as plan (chip.effects ++ y.settling.calls) y.later.service.core comes.0 comes.2
      (subst (λ p. StandsOnChip p (chip.effects ++ y.settling.calls) (situation y.later.service.core)) y.leads.plan
      (subst (λ es. StandsOnChip c'.board.plan es (situation y.later.service.core)) more-effects (core-stands c' chip' (later-in c c' chip chip' x.within y) y.warm y.free)))

  lists : y.settling.left ≡ map (λ w. w.0) y.settling.waits
  lists =
      same-order y.settling.left (map (λ w. w.0) y.settling.waits)
      (turns-order plan room (good_of plan (after_pops s.switch y.settling.pops).written) y.settling.turns (situation s.switch) comes.0 y.settling.keys y.settling.left y.settling.calls comes.1 y.settling.order)
      (sorted-order (map (λ w. w.0) y.settling.waits) y.settling.in_order)
      (λ k i. listed-in y.settling.waits k (y.settling.lists k i))
      (λ k i. y.settling.lists_only k (lists-in y.settling.waits k i))

  all_taken : c'.log.taken ≡ old.log.taken ++ sent
  all_taken = ap (λ (h : History). h.taken) (its-log c c' chip chip' x.within y) ∙ round-taken since old c chip sent x

  applied_then : (k : Key) → comes.0.applied k ≡ applied_at plan (old.log.taken ++ sent) mark y.settling.waits k
  applied_then k =
      comes.2.rows k
      ∙ sym (its-rows c c' chip chip' x.within y k)
      ∙ ap (λ p. applied_rows y.settling.waits (good_rows_at p c'.log.taken mark.taken) k) y.leads.plan
      ∙ ap (λ ts. applied_rows y.settling.waits (good_rows_at plan ts mark.taken) k) all_taken

  pub made-by-turns : IsMadeByTurns c.board.plan c.sync.capacities the-round
  made-by-turns = record {
    counts = counts;
    follows = x.began.tells;
    waits = y.settling.waits;
    turns = y.settling.turns;
    event_is = refl;
    start = situation s.switch;
    applied = λ k. ap (λ (z : SwitchState). bare_rows z.machine.board.applied k) same-switch ∙ round-rows since old c chip sent x k;
    rests = at-rest plan x.within.stands.always.plan 4 room s.switch settling-safe settling-quiet;
    begins = begins;
    good = good_of plan (after_pops s.switch y.settling.pops).written;
    wanted = wanted;
    keys = y.settling.keys;
    order = y.settling.order;
    tried = tried;
    all = all;
    later = comes.0;
    left = y.settling.left;
    are = comes.1;
    lists = lists;
    applied_then = applied_then;
    ends = ends;
  }
