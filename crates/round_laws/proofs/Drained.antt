-- where its good rows are closed and there is room, a settling leaves no key
use Rattle.std.proofs.Common.{◌≡◌, ◌⊎◌, ◌≤◌, ◌∷◌, ◌∙◌, inl, inr, ℕ, zero, suc, List, [], length, map, take, Option, None, Some, refl, sym, ap, subst, arith}
use Rattle.std.proofs.lemmas.Option.{same_Some}
use Rattle.swss_types.specs.declared.address.Ip.{Ip}
use Rattle.swss_types.specs.declared.interface.IfName.{IfName}
use Rattle.table_schema.specs.Fields.{Pairs}
use Rattle.table_schema.specs.Names.{names_of}
use Rattle.table_schema.specs.Plan.{IsPlan, Ports}
use Rattle.table_schema.specs.Rows.{Rows, fields_at, rows_of}
use Rattle.table_schema.specs.declared.key.Key.{Key}
use Rattle.table_schema.specs.declared.key.Key.TheVariants as key
use Rattle.table_schema.specs.declared.row.Row.{Row}
use Rattle.table_schema.specs.declared.row.Row.TheVariants as row
use Rattle.table_schema.specs.declared.write.Sent.{Sent}
use Rattle.sai_types.specs.declared.ids.Rid.{Rid}
use Rattle.sai_types.specs.declared.body.Call.{Call}
use Rattle.sai_types.specs.declared.thing.Thing.{Thing}
use Rattle.sai_types.specs.Alike.{IsIn}
use Rattle.sai_types.specs.ChipState.{ChipState}
use Rattle.switch_model.specs.Desired.{IsClosed, IsThingOf, placed_things}
use Rattle.switch_model.specs.Good.{TypedRows, good_row, good_rows}
use Rattle.switch_model.specs.Marks.{Waiting, applied_rows, sent_writes}
use Rattle.switch_model.specs.Placed.{bare_rows, place, router_in}
use Rattle.switch_model.specs.Promises.{good_rows_at}
use Rattle.switch_model.specs.Room.{HasRoomForView, IsRoundStill, IsRoundThing, IsStill}
use Rattle.switch_model.specs.Things.{things_of}
use Rattle.switch_model.specs.declared.mark.Mark.{Mark}
use Rattle.switch_model.specs.declared.mark.MarkEvent.{MarkEvent}
use Rattle.switch_model.specs.declared.mark.MarkEvent.TheVariants as event
use Rattle.switch_model.specs.declared.wait.Wait.{Wait}
use Rattle.switch_machine.specs.Events.{AreAnswers, IsQuiet, IsSafe, SwitchState, after_answers}
use Rattle.switch_machine.specs.Flights.{Machine}
use Rattle.switch_machine.specs.Written.{good_of}
use Rattle.switch_machine.proofs.Kept.{kept-event}
use Rattle.switch_machine.proofs.Runs.{kept-run}
use Rattle.switch_machine.proofs.Splits.{row_off}
use Rattle.machine_laws.specs.Logged.{ArePops, ListsKey, after_pops}
use Rattle.machine_laws.specs.ToSync.{AreSynced, HasRoomTogether, HaveInterfaces, IsLackedAddress, IsStayingThing}
use Rattle.machine_laws.proofs.Addresses.{IsAddress}
use Rattle.machine_laws.proofs.AtRest.{at-rest, good_interfaces}
use Rattle.machine_laws.proofs.Between.{router-still}
use Rattle.machine_laws.proofs.Deciding.{IsDecided}
use Rattle.machine_laws.proofs.Draining.{drains, nothing-waits}
use Rattle.machine_laws.proofs.Four.{four}
use Rattle.machine_laws.proofs.Logging.{settling-good}
use Rattle.machine_laws.proofs.Rows.{AreSameRows, has_row, have_same, thing_same}
use Rattle.machine_laws.proofs.Sharing.{key_listed_decided}
use Rattle.machine_laws.proofs.Turning.{turns-rows}
use Rattle.restart_laws.specs.Logged.{switch_of}
use Rattle.warm_state.specs.declared.warm.Warm.TheVariants as warm
use Rattle.session_laws.specs.Core.{CoreState}
use Rattle.session_laws.specs.Leading.{SettlesTo, switch_answered}
use Rattle.round_laws.specs.Drained.{Drains}
use Rattle.round_laws.specs.Ended.{EndedRound, IsToTry, LeavesRows, TellsRows, applied_by, applied_since, rows_before, rows_wanted, taken_then, waits_by, waits_since}
use Rattle.round_laws.specs.Sessions.{InSession}
use Rattle.round_laws.specs.Turns.{IsMadeByTurns}
use Rattle.round_laws.proofs.Quieted.{pops-lead}
use Rattle.round_laws.proofs.Resting.{all-good}
use Rattle.round_laws.proofs.Writes.{fields-same}

-- ---- closed rows, and room

-- so many writes, or more, are all
taken_all : (n : ℕ) (taken : List Sent) → length taken ≤ n → take n taken ≡ taken
taken_all zero [] most = refl
taken_all zero (s ∷ ss) most = absurd (omega (arith, most))
taken_all (suc n) [] most = refl
taken_all (suc n) (s ∷ ss) most = ap (λ rest. s ∷ rest) (taken_all n ss (omega (arith, most)))

closed_same : (a b : TypedRows) → AreSameRows a b → IsClosed a → IsClosed b
closed_same a b same h k r at = sym (have_same a b same (names_of k r)) ∙ h k r (same k ∙ at)

-- a good row of an interface's key is an interface's, one of an address key an address's
interfaces_good : (plan : Ports) (rows : Rows) (good : TypedRows) → AreSameRows good (good_rows plan rows) → HaveInterfaces good
interfaces_good plan rows good same on r at = good_interfaces plan (record { taken = []; rows = λ k. fields_at rows k; waiting = λ k o. o }) on r (sym (same (key.Intf on)) ∙ at)

address_row : (plan : Ports) (on : IfName) (ip : Ip) (len : ℕ) (fields : Option Pairs) (r : Row) → good_row plan (key.Addr on ip len) fields ≡ Some r → r ≡ row.Addr
address_row plan on ip len None r h = absurd cc
address_row plan on ip len (Some fields) r h = sym (same_Some row.Addr r h)

-- but for an address the rows do not matter to the router of a row
router_off : (a b : TypedRows) (k : Key) → (IsAddress k → ⊥) → router_in a k ≡ router_in b k
router_off a b (key.Addr on ip len) none = absurd (none tt)
router_off a b _ none = refl

-- each applied row was applied before the round, or was good after some of its writes; and no interface that a good row names moves
module _ (plan : Ports) (before applied good : TypedRows) (taken : List Sent) (from to : ℕ) (rows : (k : Key) (row : Row) → applied k ≡ Some row → (before k ≡ Some row) ⊎ ((n : ℕ) × (from ≤ n) × (n ≤ to) × (good_rows_at plan taken n k ≡ Some row))) (same : AreSameRows good (good_rows plan (rows_of (sent_writes taken)))) (least : from ≤ length taken) (most : length taken ≤ to) where
  good_last : (k : Key) → good k ≡ good_rows_at plan taken (length taken) k
  good_last k = same k ∙ ap (λ (g : TypedRows). g k) (sym (all-good plan taken))

  good_then : (k : Key) → good k ≡ good_rows_at plan taken to k
  good_then k = same k ∙ ap (λ ts. good_rows plan (rows_of (sent_writes ts)) k) (sym (taken_all to taken most))

  still_then : IsRoundStill plan before taken from to → IsStill applied good
  still_then still q p r old new at named there is moves = by (rows q old there)
    where
      by : (before q ≡ Some old) ⊎ ((n : ℕ) × (from ≤ n) × (n ≤ to) × (good_rows_at plan taken n q ≡ Some old)) → ⊥
      by (inl e) = still.0 q p r old new (sym (good_then p) ∙ at) named e (sym (good_then q) ∙ is) moves
      by (inr (n, a, b, e)) = still.1 n a b q p r old new (sym (good_then p) ∙ at) named e (sym (good_then q) ∙ is) moves

  module _ (closed : IsClosed good) (rest : HaveInterfaces applied) (together : IsClosed applied) (still : IsStill applied good) where
    good_thing : (t : Thing) → IsThingOf plan good t → IsRoundThing plan before taken from to t
    good_thing t h = inr (length taken, least, most, thing_same plan good (good_rows_at plan taken (length taken)) good_last t h)

    -- an address that is applied and good is in its good router
    address_thing : (on : IfName) (ip : Ip) (len : ℕ) (r g : Row) (t : Thing) → applied (key.Addr on ip len) ≡ Some r → good (key.Addr on ip len) ≡ Some g → IsIn t (placed_things plan applied (key.Addr on ip len) r) → IsThingOf plan good t
    address_thing on ip len row.Addr g t at is of =
        let addr : good (key.Addr on ip len) ≡ Some row.Addr = is ∙ ap Some (address_row plan on ip len (fields_at (rows_of (sent_writes taken)) (key.Addr on ip len)) g (sym (same (key.Addr on ip len)) ∙ is)) in
        let there = has_row applied (key.Intf on ∷ []) (key.Intf on) (together (key.Addr on ip len) row.Addr at) (inl refl) in
        let router = router-still good applied closed (interfaces_good plan (rows_of (sent_writes taken)) good same) rest still on (key.Addr on ip len) row.Addr addr (inl refl) there in
        (key.Addr on ip len, row.Addr, addr, subst (λ v. IsIn t (things_of plan (key.Addr on ip len) (place v row.Addr))) router of)
    address_thing on ip len _ g t at is of = elim of [ ]

    row_thing : (k : Key) (r : Row) (t : Thing) → (IsAddress k → ⊥) → IsIn t (placed_things plan applied k r) → (before k ≡ Some r) ⊎ ((n : ℕ) × (from ≤ n) × (n ≤ to) × (good_rows_at plan taken n k ≡ Some r)) → IsRoundThing plan before taken from to t
    row_thing k r t none of (inl at) = inl (k, r, at, subst (λ v. IsIn t (things_of plan k (place v r))) (router_off applied before k none) of)
    row_thing k r t none of (inr (n, a, b, at)) = inr (n, a, b, (k, r, at, subst (λ v. IsIn t (things_of plan k (place v r))) (router_off applied (good_rows_at plan taken n) k none) of))

    staying_thing : (k : Key) (r : Row) (t : Thing) → applied k ≡ Some r → (IsLackedAddress good k → ⊥) → IsIn t (placed_things plan applied k r) → IsRoundThing plan before taken from to t
    staying_thing (key.Addr on ip len) r t at stays of = by (good (key.Addr on ip len)) refl
      where
        by : (o : Option Row) → good (key.Addr on ip len) ≡ o → IsRoundThing plan before taken from to t
        by None e = absurd (stays e)
        by (Some g) e = good_thing t (address_thing on ip len r g t at e of)
    staying_thing k r t at stays of = row_thing k r t (λ h. h) of (rows k r at)

    -- there is room for the applied rows and the good ones together
    room_together : (capacities : List ℕ) → HasRoomForView capacities (IsRoundThing plan before taken from to) → HasRoomTogether plan capacities applied good
    room_together capacities room kind keys x = room kind keys (record { distinct = x.distinct; things = λ n h. let y = x.things n h in (y.0, y.1, y.2, by y.0 y.3) })
      where
        by : (t : Thing) → IsStayingThing plan applied good t ⊎ IsThingOf plan good t → IsRoundThing plan before taken from to t
        by t (inl (k, r, at, stays, of)) = staying_thing k r t at stays of
        by t (inr h) = good_thing t h

-- ---- of a round, by its turns

module _ (plan : Ports) (capacities : List ℕ) (r : EndedRound) (x : IsMadeByTurns plan capacities r) where
  -- a key that a mark does not list has its good row
  unlisted : (waits : Waiting) (good : TypedRows) (k : Key) → (ListsKey k waits → ⊥) → applied_rows waits good k ≡ good k
  unlisted [] good k none = refl
  unlisted (w ∷ ws) good k none = row_off k w.0 w.2 (λ z. applied_rows ws good k) (λ e. none (inl (sym e))) ∙ unlisted ws good k (λ h. none (inr h))

  good_before : (mark : Mark) (e : MarkEvent) (k : Key) → mark.taken ≡ length r.taken → TellsRows e → (ListsKey k (waits_by e) → ⊥) → applied_by plan r.taken mark e k ≡ good_rows plan (rows_of (sent_writes r.taken)) k
  good_before mark (event.Settled waits turns) k count tells none =
      unlisted waits (good_rows_at plan r.taken mark.taken) k none
      ∙ ap (λ n. good_rows_at plan r.taken n k) count
      ∙ ap (λ (g : TypedRows). g k) (all-good plan r.taken)
  good_before mark (event.Faulted before after) k count tells none = absurd tells
  good_before mark event.Restarted k count tells none = absurd tells
  good_before mark (event.ApplyBegan mode waits) k count tells none =
      unlisted waits (good_rows_at plan r.taken mark.taken) k none
      ∙ ap (λ n. good_rows_at plan r.taken n k) count
      ∙ ap (λ (g : TypedRows). g k) (all-good plan r.taken)
  good_before mark event.ApplyEnded k count tells none = absurd tells

  -- the row of a key that the round does not try is good already
  good_by : (o : Option Mark) (k : Key) → r.before ≡ o → LeavesRows o → (ListsKey k (waits_since o) → ⊥) → applied_since plan r.taken o k ≡ good_rows plan (rows_of (sent_writes r.taken)) k
  good_by None k e tells none = ap (λ ts. good_rows plan (rows_of (sent_writes ts)) k) (sym (x.counts.first e).0)
  good_by (Some mark) k e tells none = good_before mark mark.event k (x.counts.taken_before mark e) tells none

  rests : (k : Key) → (IsToTry r k → ⊥) → x.start.applied k ≡ x.good k
  rests k none =
      x.applied k
      ∙ good_by r.before k refl x.follows (λ h. none (inl h))
      ∙ ap (good_row plan k) (sym (fields-same r.taken r.sent k (λ i. none (inr i))))
      ∙ sym (x.wanted k)

  synced : AreSynced x.good x.start.applied x.keys
  synced k = by (key_listed_decided k x.keys)
    where
      by : IsDecided (IsIn k x.keys) → (x.start.applied k ≡ x.good k) ⊎ IsIn k x.keys
      by (inl i) = inr i
      by (inr none) = inl (rests k (λ h. none (x.all k h)))

  no_waits : (waits : Waiting) → [] ≡ map (λ (w : Key × Wait × Option Row). w.0) waits → waits ≡ []
  no_waits [] e = refl
  no_waits (w ∷ ws) e = absurd cc

  round_drains : (from to : ℕ) → IsClosed (rows_wanted plan r) → from ≤ length (taken_then r) → length (taken_then r) ≤ to → IsRoundStill plan (rows_before plan r) (taken_then r) from to → HasRoomForView capacities (IsRoundThing plan (rows_before plan r) (taken_then r) from to) → (x.waits ≡ []) × (x.turns ≤ 4)
  round_drains from to closed least most still room =
      let rows = λ (k : Key) (row : Row) (at : x.start.applied k ≡ Some row). inl (sym (x.applied k) ∙ at) in
      let good_closed = closed_same (rows_wanted plan r) x.good (λ k. sym (x.wanted k)) closed in
      let stays = still_then plan (rows_before plan r) x.start.applied x.good (taken_then r) from to rows x.wanted least most still in
      let together = room_together plan (rows_before plan r) x.start.applied x.good (taken_then r) from to rows x.wanted least most good_closed x.rests.interfaces x.rests.closed stays capacities room in
      let typed = interfaces_good plan (rows_of (sent_writes (taken_then r))) x.good x.wanted in
      let y = four plan capacities x.good good_closed typed x.start.applied x.rests stays together x.turns x.later.applied x.keys x.left synced x.order (turns-rows plan capacities x.good x.turns x.start x.later x.keys x.left r.calls x.are) in
      (no_waits x.waits (sym y.0 ∙ x.lists), y.1)

  same_waits : (a b : Waiting) (m n : ℕ) → event.Settled a m ≡ event.Settled b n → (a ≡ b) × (m ≡ n)
  same_waits a b m n e = (cc, cc)

  pub round-drained : (from : ℕ) → from ≤ length (taken_then r) → Drains plan capacities from r
  round-drained from least waits turns is closed still room =
      let y = round_drains from (length (taken_then r)) closed least (omega arith) still room in
      let same = same_waits waits x.waits turns x.turns (sym is ∙ x.event_is) in
      (same.0 ∙ y.0, subst (λ n. n ≤ 4) (sym same.1) y.1)

-- ---- of any settling

module _ (plan : Ports) (is : IsPlan plan) (capacities : List ℕ) where
  answers_safe : (s : SwitchState) (answers : List (Call Rid × SwitchState)) → IsSafe plan 4 capacities s → AreAnswers plan 4 s answers → IsSafe plan 4 capacities (after_answers s answers)
  answers_safe s [] safe run = safe
  answers_safe s (a ∷ rest) safe run = answers_safe a.1 rest (kept-event plan is 4 capacities s a.1 (Some a.0) safe run.0) run.1

  pops_machine : (s : SwitchState) (ts : List SwitchState) → ArePops s ts → (after_pops s ts).machine ≡ s.machine
  pops_machine s [] run = refl
  pops_machine s (t ∷ ts) run = pops_machine t ts run.1 ∙ run.0.machine

module _ {workers : ℕ} (c c' : CoreState) (chip chip' : ChipState) (x : InSession workers c chip) (y : SettlesTo c x.session c' chip') (at : c.warm ≡ warm.Reconciled) where
  abbrev from : SwitchState
  from = after_answers x.session.service.core y.answers

  abbrev popped : SwitchState
  popped = after_pops from y.settling.pops

  from_safe : IsSafe c.board.plan 4 c.sync.capacities from
  from_safe = answers_safe c.board.plan x.stands.always.plan c.sync.capacities x.session.service.core y.answers (x.stands.working at).1.stands.safe y.are

  popped_safe : IsSafe c.board.plan 4 c.sync.capacities popped
  popped_safe =
      let lead = pops-lead c.board.plan c.sync.capacities from y.settling.pops y.settling.are_pops in
      subst (IsSafe c.board.plan 4 c.sync.capacities) lead.last (kept-run c.board.plan x.stands.always.plan 4 c.sync.capacities from lead.events from_safe lead.are)

  same_machine : popped.machine ≡ from.machine
  same_machine = pops_machine c.board.plan x.stands.always.plan c.sync.capacities from y.settling.pops y.settling.are_pops

  popped_quiet : IsQuiet popped
  popped_quiet w f flying = y.quiet w f (ap (λ (m : Machine). m.board.flights w) (sym same_machine) ∙ flying)

  answers_taken : (s : SwitchState) (answers : List (Call Rid × SwitchState)) → AreAnswers c.board.plan 4 s answers → (after_answers s answers).written.taken ≡ s.written.taken
  answers_taken s [] run = refl
  answers_taken s (a ∷ rest) run = answers_taken a.1 rest run.1 ∙ ap (λ w. w.taken) run.0.written

  good_is : AreSameRows (good_of c.board.plan popped.written) (good_rows c.board.plan (rows_of (sent_writes c.log.taken)))
  good_is k =
      settling-good c.board.plan 4 c.sync.capacities (switch_answered x.session y.answers) (switch_of y.later) y.settling from_safe k
      ∙ ap (λ ts. good_rows c.board.plan (rows_of ts) k) (answers_taken x.session.service.core y.answers y.are ∙ ap (λ w. w.taken) (x.stands.working at).0.written)

  pub settling-drains : (before : TypedRows) (from to : ℕ) → ((k : Key) (row : Row) → bare_rows (after_answers x.session.service.core y.answers).machine.board.applied k ≡ Some row → (before k ≡ Some row) ⊎ ((n : ℕ) × (from ≤ n) × (n ≤ to) × (good_rows_at c.board.plan c.log.taken n k ≡ Some row))) → IsClosed (good_rows c.board.plan (rows_of (sent_writes c.log.taken))) → from ≤ length c.log.taken → length c.log.taken ≤ to → IsRoundStill c.board.plan before c.log.taken from to → HasRoomForView c.sync.capacities (IsRoundThing c.board.plan before c.log.taken from to) → (y.settling.waits ≡ []) × (y.settling.turns ≤ 4)
  settling-drains before low high rows closed least most still room =
      let good = good_of c.board.plan popped.written in
      let good_closed = closed_same (good_rows c.board.plan (rows_of (sent_writes c.log.taken))) good (λ k. sym (good_is k)) closed in
      let applied = bare_rows popped.machine.board.applied in
      let rows_then = λ (k : Key) (row : Row) (h : applied k ≡ Some row). rows k row (ap (λ (m : Machine). bare_rows m.board.applied k) (sym same_machine) ∙ h) in
      let rest = at-rest c.board.plan x.stands.always.plan 4 c.sync.capacities popped popped_safe popped_quiet in
      let stays = still_then c.board.plan before applied good c.log.taken low high rows_then good_is least most still in
      let together = room_together c.board.plan before applied good c.log.taken low high rows_then good_is least most good_closed rest.interfaces rest.closed stays c.sync.capacities room in
      let d = drains c.board.plan x.stands.always.plan 4 c.sync.capacities y.settling.turns popped y.later.service.core y.settling.keys y.settling.left y.settling.calls popped_safe popped_quiet good_closed stays together y.settling.all y.settling.order y.settling.turns_are in
      (nothing-waits c.board.plan x.stands.always.plan 4 c.sync.capacities y.settling.turns popped y.later.service.core y.settling.keys y.settling.left y.settling.calls popped_safe popped_quiet good_closed stays together y.settling.all y.settling.order y.settling.turns_are y.settling.waits y.settling.listed, d.1)
