-- a round leaves quiet rows alone
use Rattle.std.proofs.Common.{◌≡◌, ◌∷◌, ◌++◌, ◌∙◌, inl, inr, ℕ, List, [], length, Option, None, Some, refl, sym, ap, ap₂, subst}
use Rattle.std.proofs.lemmas.List.{append_cancel_left}
use Rattle.std.proofs.lemmas.Option.{same_Some}
use Rattle.table_schema.specs.Plan.{IsPlan, Ports}
use Rattle.table_schema.specs.declared.key.Key.{Key}
use Rattle.table_schema.specs.declared.row.Row.{Row}
use Rattle.table_schema.specs.declared.write.Sent.{Sent}
use Rattle.sai_types.specs.declared.ids.Rid.{Rid}
use Rattle.sai_types.specs.declared.body.Call.{Call}
use Rattle.sai_types.specs.declared.body.Entry.{Entry}
use Rattle.sai_types.specs.After.{chip_after, entry_of}
use Rattle.sai_types.specs.Alike.{IsIn}
use Rattle.sai_types.specs.ChipState.{ChipState}
use Rattle.sai_types.specs.Named.{thing_of}
use Rattle.sai_types.specs.Objects.{Objects, body_at}
use Rattle.sai_types.proofs.Exact.{entry-exact}
use Rattle.switch_model.specs.Good.{TypedRows}
use Rattle.switch_model.specs.Placed.{bare_rows, place, router_in}
use Rattle.switch_model.specs.Things.{things_of}
use Rattle.switch_model.specs.declared.mark.Mark.{Mark}
use Rattle.chip_layout.specs.Layout.{listed}
use Rattle.chip_layout.proofs.Naming.{thing-laid}
use Rattle.switch_machine.specs.Events.{AreEvents, IsEvent, IsQuiet, IsSafe, SwitchState, calls_of}
use Rattle.switch_machine.specs.Written.{HasNoWrite}
use Rattle.switch_machine.proofs.Placing.{own_place, row_of}
use Rattle.switch_machine.proofs.Resting.{grouped}
use Rattle.switch_machine.proofs.Tabled.{tabled}
use Rattle.machine_laws.specs.Logged.{ArePops, after_pops}
use Rattle.machine_laws.specs.Quiet.{NamesNot, EntryStandsFor, TakesNoWriteOf}
use Rattle.machine_laws.proofs.Rows.{AreSameRows, router_same}
use Rattle.machine_laws.proofs.Turning.{Leads, TakeNothing, both, turns-lead}
use Rattle.machine_laws.proofs.Unnamed.{one_more_differs, unnamed-rows}
use Rattle.restart_laws.specs.Logged.{session_after}
use Rattle.session_laws.specs.Core.{CoreState}
use Rattle.session_laws.specs.Service.Events.{MakesMore}
use Rattle.session_laws.specs.Leading.{SettlesTo}
use Rattle.round_laws.specs.Between.{IsInRound, round_from}
use Rattle.round_laws.specs.Ended.{applied_since}
use Rattle.round_laws.specs.Quiet.{LeavesQuietRows, StandsForRow}
use Rattle.round_laws.proofs.Growing.{Unlogged, unlogged}
use Rattle.round_laws.proofs.Sessions.{objects-left}
use Rattle.round_laws.proofs.Turned.{before, round-quiet, round-rows, round-safe, round-synced, round-unnamed, round-warm, s, same-switch, settling-quiet, settling-safe, the-round}

-- ---- a settling's events take no write

pub pops-lead : (plan : Ports) (capacities : List ℕ) (s : SwitchState) (ts : List SwitchState) → ArePops s ts → Leads plan 4 capacities s (after_pops s ts) []
pops-lead plan capacities s [] run = record { events = []; are = tt; last = refl; takeless = tt; calls_are = refl }
pops-lead plan capacities s (t ∷ ts) run =
    let y = pops-lead plan capacities t ts run.1 in
    record { events = (None, t) ∷ y.events; are = (inr (inl run.0), y.are); last = y.last; takeless = (run.0.taken, y.takeless); calls_are = y.calls_are }

module _ (plan : Ports) (capacities : List ℕ) (k : Key) where
  takes_none : (s t : SwitchState) (c : Option (Call Rid)) (x : IsEvent plan 4 capacities s c t) → t.written.taken ≡ s.written.taken → TakesNoWriteOf plan 4 capacities k s c t x
  takes_none s t None (inl x) same = λ e. one_more_differs s.written.taken x.write (sym x.taken.taken ∙ same)
  takes_none s t None (inr x) same = tt
  takes_none s t (Some call) x same = tt

  names_not : (s : SwitchState) (es : List (Option (Call Rid) × SwitchState)) (run : AreEvents plan 4 capacities s es) → TakeNothing plan 4 capacities s es → NamesNot plan 4 capacities k s es run
  names_not s [] run h = tt
  names_not s (e ∷ es) run h = (takes_none s e.1 e.0 run.0 h.0, names_not e.1 es run.1 h.1)

-- ---- what stands for a row on the chip stands for it in the machine

module _ (plan : Ports) (is : IsPlan plan) (capacities : List ℕ) (s : SwitchState) (safe : IsSafe plan 4 capacities s) (quiet : IsQuiet s) where
  pub stands-for : (rows : TypedRows) (objects : Objects) (k : Key) (row : Row) (e : Entry Rid) → s.objects ≡ objects → AreSameRows rows (bare_rows s.machine.board.applied) → rows k ≡ Some row → StandsForRow plan rows objects k row e → EntryStandsFor plan k e s.machine
  stands-for rows objects k row e same alike at x =
      let y = row_of (s.machine.board.applied k) row (sym (alike k) ∙ at) in
      let placed : place (router_in rows k) row ≡ y.0 = ap₂ (λ v r. place v r) (router_same rows (bare_rows s.machine.board.applied) alike k) (sym y.2) ∙ sym (own_place plan s.machine.board safe.sound.board k y.0 y.1) in
      let laid = safe.laid in
      let owner = laid.tied e x.body (subst (λ o. body_at o e ≡ Some x.body) (sym same) x.there) in
      let named = thing-laid (listed s.machine.stands) s.objects laid s.made safe.whole (grouped plan (tabled plan is) s.machine safe.sound quiet) owner.0 owner.1 e x.body owner.2 owner.3 owner.4 in
      let one : x.thing ≡ owner.1 = same_Some x.thing owner.1 (sym x.is ∙ ap (λ o. thing_of o (e, x.body)) (sym same) ∙ named) in
      record {
        row = y.0;
        applied = y.1;
        thing = owner.1;
        of = subst (λ t. IsIn t (things_of plan k y.0)) one (subst (λ r. IsIn x.thing (things_of plan k r)) placed x.of);
        id = owner.0;
        stands = owner.2;
        body = x.body;
        is_body = owner.3;
        entry = entry-exact e (entry_of owner.0.0 x.body) owner.4;
      }

-- ---- of a round

module _ {workers : ℕ} (since : Option Mark) (old c c' : CoreState) (chip chip' : ChipState) (sent : List Sent) (x : IsInRound workers since old chip sent c) (y : SettlesTo c x.within.session c' chip') where
  abbrev plan : Ports
  plan = c.board.plan

  abbrev room : List ℕ
  room = c.sync.capacities

  abbrev from : SwitchState
  from = (s since old c c' chip chip' sent x y).switch

  events : Leads plan 4 room from y.later.service.core y.settling.calls
  events =
      both plan 4 room from (after_pops from y.settling.pops) y.later.service.core [] y.settling.calls y.settling.calls refl (pops-lead plan room from y.settling.pops y.settling.are_pops)
      (turns-lead plan 4 room y.settling.turns (after_pops from y.settling.pops) y.later.service.core y.settling.keys y.settling.left y.settling.calls y.settling.turns_are)

  same : from ≡ before since old c chip sent x
  same = same-switch since old c c' chip chip' sent x y

  objects : from.objects ≡ chip_after chip.effects (length chip.effects)
  objects = ap (λ (z : SwitchState). z.objects) same ∙ x.within.stands.always.objects ∙ objects-left c chip x.within

  pub quiet-left : LeavesQuietRows c.board.plan (the-round since old c c' chip chip' sent x y)
  quiet-left k row e at other stood call called =
      let safe = settling-safe since old c c' chip chip' sent x y in
      let alike : AreSameRows (applied_since c.board.plan old.log.taken since) (bare_rows from.machine.board.applied) = λ q. sym (ap (λ (z : SwitchState). bare_rows z.machine.board.applied q) same ∙ round-rows since old c chip sent x q) in
      let there = stands-for plan x.within.stands.always.plan room from safe (settling-quiet since old c c' chip chip' sent x y) (applied_since c.board.plan old.log.taken since) (chip_after chip.effects (length chip.effects)) k row e objects alike at stood in
      (unnamed-rows plan x.within.stands.always.plan 4 room k from events.events e safe events.are (names_not plan room k from events.events events.are events.takeless)
      (subst (λ (z : SwitchState). HasNoWrite z.written k) (sym same) (round-unnamed since old c chip sent x k (λ i. other (inr i))))
      (λ w f flying is. settling-quiet since old c c' chip chip' sent x y w f flying)
      (λ i. other (inl (x.began.to_sync k (round-synced since old c chip sent x k (subst (λ (z : SwitchState). IsIn k z.to_sync) same i)))))
      there).2 call (subst (IsIn call) (sym events.calls_are) called)

-- ---- of a round so far

module _ {workers w : ℕ} (since : Option Mark) (old c c' : CoreState) (chip chip' : ChipState) (sent : List Sent) (x : IsInRound workers since old chip sent c) (y : MakesMore w c x.within.session c' chip') (log : c'.log ≡ c.log) where
  abbrev start : SwitchState
  start = x.within.session.service.core

  same_session : (session_after x.within.session y.steps).log ≡ x.within.session.log
  same_session = y.stands.always.log ∙ log ∙ sym x.within.stands.always.log

  run : Unlogged c.board.plan c.sync.capacities x.within.session (session_after x.within.session y.steps)
  run = unlogged c.board.plan c.sync.capacities x.within.session y.steps (x.within.stands.always.warm_is ∙ round-warm since old c chip sent x) same_session y.are

  module _ (calls : List (Call Rid)) (grown : chip'.effects ≡ chip.effects ++ calls) where
    same_calls : calls ≡ calls_of run.events
    same_calls =
        append_cancel_left chip.effects calls (calls_of run.events)
        (sym grown ∙ sym y.stands.always.effects ∙ run.grown ∙ ap (λ l. l ++ calls_of run.events) x.within.stands.always.effects)

    -- where nothing is logged no call changes what stood for the row of a key that the round does not try, whatever mark would end it
    pub quiet-so-far : (mark : Mark) → LeavesQuietRows c.board.plan (round_from since old chip sent calls mark)
    quiet-so-far mark k row e at other stood call called =
        let safe = round-safe since old c chip sent x in
        let quiet = round-quiet since old c chip sent x in
        let alike : AreSameRows (applied_since c.board.plan old.log.taken since) (bare_rows start.machine.board.applied) = λ q. sym (round-rows since old c chip sent x q) in
        let there = stands-for c.board.plan x.within.stands.always.plan c.sync.capacities start safe quiet (applied_since c.board.plan old.log.taken since) (chip_after chip.effects (length chip.effects)) k row e (x.within.stands.always.objects ∙ objects-left c chip x.within) alike at stood in
        (unnamed-rows c.board.plan x.within.stands.always.plan 4 c.sync.capacities k start run.events e safe run.are (names_not c.board.plan c.sync.capacities k start run.events run.are run.takeless)
        (round-unnamed since old c chip sent x k (λ i. other (inr i)))
        (λ w f flying is. quiet w f flying)
        (λ i. other (inl (x.began.to_sync k (round-synced since old c chip sent x k i))))
        there).2 call (subst (IsIn call) same_calls called)
