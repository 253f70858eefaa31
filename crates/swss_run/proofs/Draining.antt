-- behind a restart a settling leaves no key, where the good rows are closed and there is room for their things
use Rattle.std.proofs.Common.{◌≡◌, inl, inr, ℕ, ◌<◌, ◌≤◌, Bool, true, false, List, [], ◌∷◌, ◌++◌, length, Option, Some, None, sym, ap, ◌∙◌, subst, arith, if◌then◌else◌}
use Rattle.std.proofs.lemmas.Option.{same_Some}
use Rattle.std.specs.BTreeMap.{is_at}
use Rattle.table_schema.specs.Key.{key_cmp}
use Rattle.table_schema.specs.Plan.{Ports}
use Rattle.table_schema.specs.Rows.{rows_of}
use Rattle.table_schema.specs.declared.key.Key.{Key}
use Rattle.table_schema.specs.declared.row.Row.{Row}
use Rattle.table_schema.specs.declared.write.Sent.{Sent}
use Rattle.sai_types.specs.ChipState.{ChipState}
use Rattle.sai_types.specs.declared.ids.Rid.{Rid}
use Rattle.sai_types.specs.declared.body.Call.{Call}
use Rattle.sai_types.specs.declared.plan.Mode.{Mode}
use Rattle.sai_types.specs.declared.thing.Thing.{Thing}
use Rattle.switch_model.specs.Desired.{IsClosed, IsThingOf}
use Rattle.switch_model.specs.Good.{TypedRows, good_rows}
use Rattle.switch_model.specs.History.{History}
use Rattle.switch_model.specs.Marks.{IsMoved, ListsNoRow, Waiting, applied_rows, sent_writes}
use Rattle.switch_model.specs.Placed.{bare_rows}
use Rattle.switch_model.specs.Promises.{AreTrueMarks, IsTrueMark, good_rows_at}
use Rattle.switch_model.specs.Room.{HasRoomForView, IsRoundStill, IsRoundThing}
use Rattle.switch_model.specs.declared.mark.Mark.{Mark}
use Rattle.switch_model.specs.declared.mark.MarkEvent.{MarkEvent}
use Rattle.switch_model.specs.declared.mark.MarkEvent.TheVariants as event
use Rattle.switch_machine.specs.Events.{SwitchState, after_answers}
use Rattle.switch_machine.proofs.Placing.{moved_not}
use Rattle.flight_board.specs.Applied.{row_at}
use Rattle.flight_board.specs.Board.{flown_at}
use Rattle.restart_laws.specs.Logged.{last_mark}
use Rattle.restart_laws.proofs.Logged.{HasBegun}
use Rattle.warm_state.specs.declared.warm.Warm.TheVariants as warm
use Rattle.session_laws.specs.Core.{CoreState}
use Rattle.session_laws.specs.Leading.{SettlesTo}
use Rattle.round_laws.specs.Sessions.{InSession}
use Rattle.round_laws.proofs.Awaited.{last-true}
use Rattle.round_laws.proofs.Behind.{begun-mark}
use Rattle.round_laws.proofs.Turned.{no-answers}
use Rattle.round_laws.proofs.Drained.{settling-drains}
use Rattle.round_laws.proofs.Resting.{all-good, core-quiet}
use Rattle.round_laws.proofs.Sessions.{its_plan, marks-true, told_of}

listed-one : (o rest : Option Row) (good : TypedRows) (k : Key) (row : Row) → o ≡ None → (rest ≡ Some row → good k ≡ Some row) → (here : Bool) → (if here then o else rest) ≡ Some row → good k ≡ Some row
listed-one o rest good k row none more true is = absurd (apart none is)
  where
    apart : o ≡ None → o ≡ Some row → ⊥
    apart a b = cc
listed-one o rest good k row none more false is = more is

-- where none of the listed keys has a row, a row that is applied is good
listed-none : (waits : Waiting) (good : TypedRows) (k : Key) (row : Row) → ListsNoRow waits → applied_rows waits good k ≡ Some row → good k ≡ Some row
listed-none [] good k row none at = at
listed-none (w ∷ waits) good k row none at = listed-one w.2 (applied_rows waits good k) good k row none.0 (listed-none waits good k row none.1) (is_at (key_cmp k) w.0) at

-- where an apply begins none of the listed keys has a row
begun-lists : (plan : Ports) (capacities : List ℕ) (taken : List Sent) (effects : List (Call Rid)) (before : Option Mark) (mark : Mark) (e : MarkEvent) (mode : Mode) (waits : Waiting) → e ≡ event.ApplyBegan mode waits → IsTrueMark plan capacities taken effects before mark e → ListsNoRow waits
begun-lists plan capacities taken effects before mark e mode waits is true_mark = (subst (IsTrueMark plan capacities taken effects before mark) is true_mark).absent

-- ---- a core that had just begun its apply

module _ (b : CoreState) (bchip : ChipState) (x : InSession 1 b bchip) (at : b.warm ≡ warm.Applying) (earlier : List Mark) (mark : Mark) (marks : b.log.marks ≡ earlier ++ mark ∷ []) (counts : mark.taken ≡ length b.log.taken) where
  abbrev begun : HasBegun b.board.plan (its_plan b bchip x) 4 b.sync.capacities x.session
  begun = (told_of b bchip x).begun (x.stands.always.warm_is ∙ at)

  same_mark : begun.mark ≡ mark
  same_mark = begun-mark b bchip x at earlier mark marks

  true_last : IsTrueMark b.board.plan b.sync.capacities b.log.taken bchip.effects (last_mark None earlier) mark mark.event
  true_last = last-true b.board.plan b.sync.capacities b.log bchip.effects None earlier mark (subst (AreTrueMarks b.board.plan b.sync.capacities b.log.taken bchip.effects None) marks (marks-true b bchip x))

  none_listed : ListsNoRow begun.waits
  none_listed = begun-lists b.board.plan b.sync.capacities b.log.taken bchip.effects (last_mark None earlier) mark mark.event begun.mode begun.waits (ap (λ (m : Mark). m.event) (sym same_mark) ∙ begun.event_is) true_last

  -- each applied row is the good row of all writes taken
  pub begun-rows : (k : Key) (row : Row) → row_at b.board.applied k ≡ Some row → good_rows_at b.board.plan b.log.taken (length b.log.taken) k ≡ Some row
  begun-rows k row there =
      ap (λ (h : History). good_rows_at b.board.plan h.taken (length b.log.taken) k) (sym x.stands.always.log)
      ∙ ap (λ n. good_rows_at b.board.plan x.session.log.taken n k) (sym (ap (λ (m : Mark). m.taken) same_mark ∙ counts))
      ∙ listed-none begun.waits (good_rows_at b.board.plan x.session.log.taken begun.mark.taken) k row none_listed
      (begun.rows k ∙ (x.stands.applying at).1.rows k ∙ there)

-- ---- the settling behind it

module _ (c new : CoreState) (chip chip' : ChipState) (x : InSession 1 c chip) (at : c.warm ≡ warm.Reconciled) (y : SettlesTo c x.session new chip') (free : (v : ℕ) → v < 4 → flown_at c.board v ≡ None) (rows : (k : Key) (row : Row) → row_at c.board.applied k ≡ Some row → good_rows_at c.board.plan c.log.taken (length c.log.taken) k ≡ Some row) where
  abbrev core : SwitchState
  core = x.session.service.core

  none_left : y.answers ≡ []
  none_left = no-answers c.board.plan core y.answers (core-quiet c chip x at free) y.are

  abbrev good : TypedRows
  good = good_rows c.board.plan (rows_of (sent_writes c.log.taken))

  applied_good : (k : Key) (row : Row) → bare_rows (after_answers core y.answers).machine.board.applied k ≡ Some row → good_rows_at c.board.plan c.log.taken (length c.log.taken) k ≡ Some row
  applied_good k row there =
      rows k row (sym ((x.stands.working at).1.rows k) ∙ ap (λ answers. bare_rows (after_answers core answers).machine.board.applied k) (sym none_left) ∙ there)

  abbrev none_before : TypedRows
  none_before k = None

  -- the things of the round are those of the good rows
  good_thing : (t : Thing) → IsRoundThing c.board.plan none_before c.log.taken (length c.log.taken) (length c.log.taken) t → IsThingOf c.board.plan good t
  good_thing t (inl (k, row, none, of)) = absurd (apart none)
    where
      apart : None ≡ Some row → ⊥
      apart e = cc
  good_thing t (inr (n, least, most, h)) =
      let same : n ≡ length c.log.taken = omega (arith, least, most) in
      subst (λ g. IsThingOf c.board.plan g t) (all-good c.board.plan c.log.taken) (subst (λ m. IsThingOf c.board.plan (good_rows_at c.board.plan c.log.taken m) t) same h)

  -- no interface moves, since none was applied before, and the good rows are those of all writes
  still : IsRoundStill c.board.plan none_before c.log.taken (length c.log.taken) (length c.log.taken)
  still = (
    λ q p r old new at named there is moves. apart_none old there,
    λ n least most q p r old new at named there is moves.
        let same : n ≡ length c.log.taken = omega (arith, least, most) in
        let one : old ≡ new = same_Some old new (sym there ∙ ap (λ m. good_rows_at c.board.plan c.log.taken m q) same ∙ is) in
        moved_not q new (subst (λ z. IsMoved q z new) one moves),
  )
    where
      apart_none : (row : Row) → None ≡ Some row → ⊥
      apart_none row e = cc

  pub drains-behind : IsClosed good → HasRoomForView c.sync.capacities (IsThingOf c.board.plan good) → (y.settling.waits ≡ []) × (y.settling.turns ≤ 4)
  drains-behind closed room =
      settling-drains c new chip chip' x y at none_before (length c.log.taken) (length c.log.taken) (λ k row there. inr (length c.log.taken, omega arith, omega arith, applied_good k row there)) closed (omega arith) (omega arith) still
      (λ kind keys h. room kind keys (record { distinct = h.distinct; things = λ k i. let z = h.things k i in (z.0, z.1, z.2, good_thing z.0 z.3) }))
