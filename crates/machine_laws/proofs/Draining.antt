-- where a settling drains, no key has a reason, and a mark lists none
use Rattle.std.proofs.Common.{◌≡◌, ◌⊎◌, ◌∷◌, inl, inr, ℕ, List, [], refl, sym, ◌∙◌, ◌≤◌, subst, arith}
use Rattle.std.proofs.lemmas.Option.{same_Some}
use Rattle.table_schema.specs.Names.{names_of}
use Rattle.table_schema.specs.Plan.{IsPlan, Ports}
use Rattle.table_schema.specs.declared.key.Key.{Key}
use Rattle.sai_types.specs.declared.thing.Thing.{Thing}
use Rattle.sai_types.specs.declared.ids.Rid.{Rid}
use Rattle.sai_types.specs.declared.body.Call.{Call}
use Rattle.sai_types.specs.Alike.{IsAlike, IsIn}
use Rattle.switch_model.specs.Desired.{IsClosed, IsThingOf, placed_things}
use Rattle.switch_model.specs.Good.{TypedRows}
use Rattle.switch_model.specs.Marks.{IsMoved, IsTrueReason, Waiting, first_missing}
use Rattle.switch_model.specs.Placed.{bare_rows}
use Rattle.switch_model.specs.Room.{IsStill}
use Rattle.switch_model.specs.declared.wait.Wait.{Wait}
use Rattle.switch_model.specs.declared.wait.Wait.TheVariants as wait
use Rattle.switch_machine.specs.Events.{SwitchState, IsSafe, IsQuiet}
use Rattle.switch_machine.specs.Reasons.{IsReason}
use Rattle.switch_machine.specs.Written.{good_of}
use Rattle.switch_machine.specs.Consistent.{IsCurrent}
use Rattle.switch_machine.proofs.Placing.{moved_not}
use Rattle.switch_machine.proofs.Runs.{alike-quiet}
use Rattle.switch_machine.proofs.Reasoned.{reason-true}
use Rattle.machine_laws.specs.ToSync.{AreSynced, AreInKeyOrder, HasRoomTogether}
use Rattle.machine_laws.specs.Settling.{AreMachineTurns, situation}
use Rattle.machine_laws.specs.Logged.{AreListed}
use Rattle.machine_laws.proofs.AtRest.{at-rest, good_interfaces}
use Rattle.machine_laws.proofs.Four.{four}
use Rattle.machine_laws.proofs.Turning.{turns-rows}
use Rattle.machine_laws.proofs.Rows.{AreSameRows, thing_same, has_row, no_some, none_missing, reason-same}
use Rattle.machine_laws.proofs.Settling.{settles}

module _ (plan : Ports) (capacities : List ℕ) (good : TypedRows) (closed : IsClosed good) (old : TypedRows) (room : HasRoomTogether plan capacities old good) where
  -- where the good rows are applied no reason is true
  no_reason : (k : Key) (w : Wait) → IsTrueReason plan capacities good good k w → ⊥
  no_reason k (wait.Missing p) (r, at, h) = no_some (first_missing good (names_of k r)) p (none_missing good (names_of k r) (λ q in_it. has_row good (names_of k r) q (closed k r at) in_it)) h
  no_reason k (wait.Held h) (inl none, r, at, held) = no_some (good k) r none at
  no_reason k (wait.Held h) (inr (a, new, was, is, have, moved), r, at, held) = moved_not k new (subst (λ z. IsMoved k z new) (same_Some a new (sym was ∙ is)) moved)
  no_reason k (wait.NoRoom kind) (r, at, have, over) = absurd (omega (arith, over.many, room kind over.keys (record { distinct = over.distinct; things = λ n h. let y = over.things n h in (y.0, y.1, y.2, inr (by y.0 y.3)) })))
    where
      by : (t : Thing) → IsThingOf plan good t ⊎ IsIn t (placed_things plan good k r) → IsThingOf plan good t
      by t (inl h) = h
      by t (inr h) = (k, r, at, h)
  no_reason k (wait.Busy v) h = h

module _ (plan : Ports) (is : IsPlan plan) (workers : ℕ) (capacities : List ℕ) where
  empty_listing : (t : SwitchState) → ((k : Key) (w : Wait) → IsReason plan workers capacities t k w → ⊥) → (waits : Waiting) → AreListed plan workers capacities t waits → waits ≡ []
  empty_listing t never [] listed = refl
  empty_listing t never (w ∷ ws) listed = absurd (never w.0 w.1 listed.0)

  -- with closed good rows, room, and interfaces that stay in their routers it leaves no key, takes at most four turns, and each key has its good row
  pub drains : (n : ℕ) (s t : SwitchState) (keys left : List Key) (calls : List (Call Rid)) → IsSafe plan workers capacities s → IsQuiet s → IsClosed (good_of plan s.written) → IsStill (bare_rows s.machine.board.applied) (good_of plan s.written) → HasRoomTogether plan capacities (bare_rows s.machine.board.applied) (good_of plan s.written) → ((k : Key) → IsIn k s.to_sync → IsIn k keys) → AreInKeyOrder keys → AreMachineTurns plan workers capacities n s keys t left calls → (left ≡ []) × (n ≤ 4) × ((k : Key) → bare_rows t.machine.board.applied k ≡ good_of plan s.written k) × IsAlike t.objects (IsThingOf plan (good_of plan s.written))
  drains n s t keys left calls kept quiet closed still room all rising h =
      let y = settles plan is workers capacities n s t keys left calls kept quiet h in
      let turns = turns-rows plan capacities (good_of plan s.written) n (situation s) y.then keys left calls y.so in
      let z = four plan capacities (good_of plan s.written) closed (good_interfaces plan s.written) (bare_rows s.machine.board.applied) (at-rest plan is workers capacities s kept quiet) still room n y.then.applied keys left sync rising turns in
      let rows : AreSameRows (bare_rows t.machine.board.applied) (good_of plan s.written) = λ k. sym (y.agrees.rows k) ∙ z.2 k in
      let alike = alike-quiet plan is workers capacities t y.rest.kept y.rest.quiet in (
        z.0,
        z.1,
        rows,
        record {
          each = λ o at. let v = alike.each o at in (v.0, v.1, thing_same plan (bare_rows t.machine.board.applied) (good_of plan s.written) rows v.0 v.2);
          once = λ x at. alike.once x (thing_same plan (good_of plan s.written) (bare_rows t.machine.board.applied) (λ k. sym (rows k)) x at);
        },
      )
    where
      sync : AreSynced (good_of plan s.written) (bare_rows s.machine.board.applied) keys
      sync k = by (kept.synced k)
        where
          by : IsIn k s.to_sync ⊎ IsCurrent s.machine.board (good_of plan s.written) k → (bare_rows s.machine.board.applied k ≡ good_of plan s.written k) ⊎ IsIn k keys
          by (inl at) = inr (all k at)
          by (inr (inl y)) = inl y.1
          by (inr (inr (w, f, at, is, that))) = absurd (quiet w f at)

  pub nothing-waits : (n : ℕ) (s t : SwitchState) (keys left : List Key) (calls : List (Call Rid)) → IsSafe plan workers capacities s → IsQuiet s → IsClosed (good_of plan s.written) → IsStill (bare_rows s.machine.board.applied) (good_of plan s.written) → HasRoomTogether plan capacities (bare_rows s.machine.board.applied) (good_of plan s.written) → ((k : Key) → IsIn k s.to_sync → IsIn k keys) → AreInKeyOrder keys → AreMachineTurns plan workers capacities n s keys t left calls → (waits : Waiting) → AreListed plan workers capacities t waits → waits ≡ []
  nothing-waits n s t keys left calls kept quiet closed still room all rising h waits listed =
      let x = drains n s t keys left calls kept quiet closed still room all rising h in
      let y = (settles plan is workers capacities n s t keys left calls kept quiet h).rest in
      empty_listing t (λ k w reason.
      let true_there = reason-true plan is workers capacities t y.kept y.quiet k w reason in
      let true_good = subst (λ z. IsTrueReason plan capacities (good_of plan z) (bare_rows t.machine.board.applied) k w) y.same true_there in
      no_reason plan capacities (good_of plan s.written) closed (bare_rows s.machine.board.applied) room k w (reason-same plan capacities (good_of plan s.written) (bare_rows t.machine.board.applied) (good_of plan s.written) x.2 k w true_good)) waits listed
