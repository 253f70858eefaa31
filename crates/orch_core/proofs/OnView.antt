-- the calls of an operation on the temporary view come to an end
use Rattle.std.proofs.Common.{◌≡◌, ◌+◌, ◌<◌, ◌≤◌, ◌∷◌, ◌∙◌, ℕ, List, [], length, suc, Option, None, Some, refl, sym, ap, subst, arith}
use Rattle.std.proofs.lemmas.Option.{same_Some}
use Rattle.table_schema.specs.Plan.{Ports}
use Rattle.table_schema.specs.declared.key.Key.{Key}
use Rattle.sai_types.specs.declared.answer.SyncAnswer.{SyncAnswer}
use Rattle.sai_types.specs.declared.body.Call.{Call}
use Rattle.sai_types.specs.declared.ids.Rid.{Rid}
use Rattle.sai_types.specs.declared.ids.Vid.{Vid}
use Rattle.sai_types.specs.declared.thing.Thing.{Thing}
use Rattle.sai_types.specs.ChipState.{ChipState}
use Rattle.chip_layout.specs.Renamed.{call_renamed}
use Rattle.row_layout.specs.Operations.{shared_going, take_all}
use Rattle.row_layout.specs.Rows.{Owner}
use Rattle.switch_machine.specs.Events.{Due, Ended, Follows, IsAnswer, Left, Retires, SwitchState}
use Rattle.switch_machine.specs.Flights.{Machine, MachineFlight, put}
use Rattle.switch_machine.specs.Steps.{moved, parted}
use Rattle.switch_machine.proofs.Splits.{put_at}
use Rattle.ref_counts.specs.Registry.{Names}
use Rattle.ref_counts.specs.Room.{RoomState}
use Rattle.registry_laws.specs.Flown.{Flown}
use Rattle.registry_laws.specs.Flying.{KnowsBoard}
use Rattle.registry_laws.specs.Making.{IsNextCall}
use Rattle.registry_laws.specs.Standing.{HasBegun}
use Rattle.asic_view.specs.View.{ViewObjects}
use Rattle.restart_laws.specs.Logged.{LoggedService}
use Rattle.syncd_core.specs.Synced.{Calls, Changes, CanCall, SyncState}
use Rattle.syncd_core.specs.Tied.{tie_of}
use Rattle.flight_board.specs.Board.{BoardState, IsPrepared, IsTakenFor, flown_at}
use Rattle.session_laws.specs.Core.{CoreState}
use Rattle.session_laws.specs.Events.{vid_made_by}
use Rattle.session_laws.specs.Standing.{IsSessionOf}
use Rattle.session_laws.proofs.Answering.{answer_step}
use Rattle.session_laws.proofs.Preparing.{can, prepared_stands}
use Rattle.session_laws.specs.Service.Built.{IsBringing, over_view, untied_view}
use Rattle.session_laws.proofs.Service.Viewing.{IsMadeOver, chip_then, made-over}
use Rattle.orch_core.specs.Restarting.{calls_for, calls_leaving, calls_left}

-- the same count, of the machine's operation and so many changes that are due
abbrev calls_of : Option MachineFlight → ℕ → ℕ
calls_of None n = 0
calls_of (Some f) n = n + calls_leaving f.leaves + 1

take_long : (ts : List Thing) → length (take_all ts []) ≡ length ts
take_long [] = refl
take_long (t ∷ ts) = ap (λ n. suc n) (take_long ts)

pub longer : {X : Type 0} (x : X) (xs : List X) → length (x ∷ xs) ≡ length xs + 1
longer x xs = omega arith

none_before : (n : ℕ) → 0 ≤ n
none_before n = omega arith

-- what follows when a change has taken effect adds no call that is not counted
module _ (plan : Ports) (w : ℕ) (m : Machine) (f : MachineFlight) (flying : m.board.flights w ≡ Some f) where
  abbrev most : ℕ
  most = length (m.due w) + calls_leaving f.leaves + 1

  ended : (m' : Machine) → m'.board.flights w ≡ None → calls_of (m'.board.flights w) (length (m'.due w)) ≤ most
  ended m' none = subst (λ o. calls_of o (length (m'.due w)) ≤ most) (sym none) (none_before most)

  retired : (g : MachineFlight) (o : Owner) → m.board.flights w ≡ Some g → g.leaves ≡ Some o → (m' : Machine) → m'.board.flights w ≡ Some (parted g (Some o)) → m'.due w ≡ take_all (shared_going o) [] → calls_of (m'.board.flights w) (length (m'.due w)) ≤ most
  retired g o has leaves m' flies due =
      let leaving : calls_leaving f.leaves ≡ length (shared_going o) + 1 = ap (λ (h : MachineFlight). calls_leaving h.leaves) (same_Some _ _ (sym flying ∙ has)) ∙ ap calls_leaving leaves in
      let long : length (m'.due w) ≡ length (shared_going o) = ap length due ∙ take_long (shared_going o) in
      let now : calls_of (m'.board.flights w) (length (m'.due w)) ≡ length (m'.due w) + 0 + 1 = ap (λ o. calls_of o (length (m'.due w))) flies in
      omega (arith, leaving, long, now)

  follows_fewer : (m' : Machine) → Follows plan w m m' → calls_of (m'.board.flights w) (length (m'.due w)) ≤ most
  follows_fewer m' (Due c cs due) = let now : calls_of (m.board.flights w) (length (m.due w)) ≡ most = ap (λ o. calls_of o (length (m.due w))) flying in omega (arith, now)
  follows_fewer m' (Ended g e) = ended m' (put_at w w None m.board.flights refl)
  follows_fewer m' (Left g o l) = ended m' (put_at w w None (put w (Some (parted g g.retires)) m.board.flights) refl)
  follows_fewer m' (Retires g o last) = retired g o last.leaving.flying last.leaving.leaves m' (put_at w w (Some (parted g (Some o))) m.board.flights refl) (put_at w w (take_all (shared_going o) []) m.due refl)

-- an answer for a worker makes its calls fewer
answer_fewer : (plan : Ports) (call : Call Rid) (s t : SwitchState) (x : IsAnswer plan 4 call s t) → calls_of (t.machine.board.flights x.next.worker) (length (t.machine.due x.next.worker)) < calls_of (s.machine.board.flights x.next.worker) (length (s.machine.due x.next.worker))
answer_fewer plan call s t x =
    let w = x.next.worker in
    let m : Machine = moved s.machine w x.next.rest x.stands in
    let after = follows_fewer plan w m x.next.flight x.next.flying t.machine x.follows in
    let due_then : length (m.due w) ≡ length x.next.rest = ap length (put_at w w x.next.rest s.machine.due refl) in
    let due_now : length (s.machine.due w) ≡ length x.next.rest + 1 = ap length x.next.due ∙ longer x.next.change x.next.rest in
    let now : calls_of (s.machine.board.flights w) (length (s.machine.due w)) ≡ length (s.machine.due w) + calls_leaving x.next.flight.leaves + 1 = ap (λ o. calls_of o (length (s.machine.due w))) x.next.flying in
    omega (arith, after, due_then, due_now, now)

-- the board's count is the machine's
module _ (plan : Ports) (capacities : List ℕ) (names : Names) (room : RoomState) (flown : ℕ → Option Flown) (m : Machine) (knows : KnowsBoard plan capacities names room flown m) where
  calls_known : (o : Option Flown) → flown 0 ≡ o → calls_for plan names o ≡ calls_of (m.board.flights 0) (length (m.due 0))
  calls_known None none = ap (λ o. calls_of o (length (m.due 0))) (sym (knows.idle 0 none))
  calls_known (Some x) some =
      let k = knows.flying 0 x some in
      ap (λ d. length d + calls_leaving x.operation.leaves + 1) (sym k.due) ∙ ap (λ o. calls_of o (length (m.due 0))) (sym k.flying)

calls_same : (c : CoreState) (chip : ChipState) (s : LoggedService) (view : ViewObjects) → IsSessionOf (over_view c view) chip s → calls_left c.board ≡ calls_of (s.service.core.machine.board.flights 0) (length (s.service.core.machine.due 0))
calls_same c chip s view is = calls_known c.board.plan c.sync.capacities c.board.names c.board.room (flown_at c.board) s.service.core.machine (is.working refl).stands.board (flown_at c.board 0) refl

module _ (first c : CoreState) (rest : List Key) (x : IsBringing first c rest) where
  abbrev seen : CoreState
  seen = over_view c x.over.view

  -- as many are left when a group's operation has begun
  pub fewer_prepared : (b : BoardState) → IsPrepared c.board 0 b → (f : Flown) → flown_at c.board 0 ≡ Some f → calls_left b ≡ calls_left c.board
  fewer_prepared b prepared f there =
      calls_same (record c { board = b }) x.own_chip x.own x.over.view (prepared_stands seen x.own_chip x.own x.over.session 0 b prepared f there)
      ∙ sym (calls_same c x.own_chip x.own x.over.view x.over.session)

  -- fewer are left when one was made
  module _ (f : Flown) (there : flown_at c.board 0 ≡ Some f) (begun : HasBegun c.board.plan c.board.names f) (call : Call Vid) (told : IsNextCall c.board.plan c.board.names f.operation f.group call) (a : SyncAnswer) where
    fewer_next : (later : ViewObjects) → Changes (untied_view x.over.view) call a later → (b : BoardState) → IsTakenFor c.board 0 (vid_made_by a) b → calls_left b < calls_left c.board
    fewer_next later changes b taken =
        let both : CanCall seen.sync None x.own_chip call = can seen x.own_chip x.own x.over.session refl 0 f there begun call told in
        let made : IsMadeOver x.over.view x.own_chip call a later = made-over x.over.view x.own_chip call a later both.1 changes in
        let y = answer_step seen x.own_chip x.own x.over.session refl 0 f there begun call told a made.went made.view' (chip_then x.own_chip (call_renamed (tie_of x.over.view) call)) made.made b taken in
        let less = answer_fewer c.board.plan y.1 x.own.service.core y.0.later.service.core y.2 in
        let at = subst (λ w. calls_of (y.0.later.service.core.machine.board.flights w) (length (y.0.later.service.core.machine.due w)) < calls_of (x.own.service.core.machine.board.flights w) (length (x.own.service.core.machine.due w))) y.3 less in
        let before = calls_same c x.own_chip x.own x.over.view x.over.session in
        let after = calls_same (record c { board = b }) (chip_then x.own_chip (call_renamed (tie_of x.over.view) call)) y.0.later made.view' y.0.stands in
        omega (arith, at, before, after)

    pub fewer_called : (chip : ChipState) (y : SyncState) (chip' : ChipState) → Calls c.sync c.sync.temporary chip call a y chip' → (b : BoardState) → IsTakenFor c.board 0 (vid_made_by a) b → calls_left b < calls_left c.board
    fewer_called chip y chip' calls b taken = let z = subst (λ o. Calls c.sync o chip call a y chip') x.over.temporary calls in fewer_next z.0 z.2 b taken
