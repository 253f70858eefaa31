-- from rest there are turns over the keys to sync, to their end
use Rattle.std.proofs.Common.{◌≡◌, ◌⊎◌, ◌<◌, ◌≤◌, ◌∷◌, ◌++◌, ◌∙◌, inl, inr, ℕ, zero, suc, List, [], length, refl, sym, ap, subst, arith}
use Rattle.std.specs.Cmp.{eq_by_cmp_equiv}
use Rattle.std.specs.declared.cmp.Ordering.{Ordering}
use Rattle.std.specs.declared.cmp.Ordering.TheVariants.{Less, Equal}
use Rattle.swss_types.proofs.Tied.{tied}
use Rattle.table_schema.specs.Key.{key_cmp}
use Rattle.table_schema.specs.Plan.{IsPlan, Ports}
use Rattle.table_schema.specs.declared.key.Key.{Key}
use Rattle.table_schema.proofs.Keys.{key_total}
use Rattle.sai_types.specs.declared.ids.Rid.{Rid}
use Rattle.sai_types.specs.declared.body.Call.{Call}
use Rattle.sai_types.specs.Alike.{IsIn}
use Rattle.switch_machine.specs.Events.{IsBegin, IsQuiet, IsSafe, SwitchState, after_answers}
use Rattle.switch_machine.specs.Next.{MustWait}
use Rattle.machine_laws.specs.Reading.{IsOnSwitch}
use Rattle.machine_laws.specs.Settling.{AreMachineTurns, IsMachineTurn, RunsAlone}
use Rattle.machine_laws.specs.ToSync.{AreInKeyOrder}
use Rattle.machine_laws.proofs.Alone.{calls_in}
use Rattle.machine_laws.proofs.Completing.{runs-to-end}
use Rattle.machine_laws.proofs.Progress.{waits-or-begins}
use Rattle.machine_laws.proofs.Settling.{ran}
use Rattle.machine_laws.proofs.Waiting.{answers_sync}

pub less_apart : (k q : Key) → key_cmp k q ≡ Less → q ≡ k → ⊥
less_apart k q less same = two (key_cmp k k) (subst (λ z. key_cmp k z ≡ Less) same less) (tied (key_cmp k k) ((eq_by_cmp_equiv key_total).refl k))
  where
    two : (o : Ordering) → o ≡ Less → o ≡ Equal → ⊥
    two o a b = cc

module _ (plan : Ports) (is : IsPlan plan) (workers : ℕ) (some : 0 < workers) (capacities : List ℕ) where
  -- keys that are to sync, and that were read
  record AreKeys (s : SwitchState) (ks : List Key) : Type 0 where
    order : AreInKeyOrder ks
    there : (q : Key) → IsIn q ks → IsIn q s.to_sync
    on : (q : Key) → IsIn q ks → IsOnSwitch q

  record Turned (s : SwitchState) (ks : List Key) : Type 0 where
    then : SwitchState
    kept : IsSafe plan workers capacities then
    quiet : IsQuiet then
    left : List Key
    calls : List (Call Rid)
    turn : IsMachineTurn plan workers capacities s ks then left calls
    within : (q : Key) → IsIn q left → IsIn q ks
    few : length left ≤ length ks
    keys : AreKeys then left

  tail_keys : (s : SwitchState) (k : Key) (ks : List Key) → AreKeys s (k ∷ ks) → AreKeys s ks
  tail_keys s k ks x = record { order = x.order.1; there = λ q h. x.there q (inr h); on = λ q h. x.on q (inr h) }

  record Ran (s : SwitchState) (k : Key) : Type 0 where
    then : SwitchState
    calls : List (Call Rid)
    runs : RunsAlone plan workers capacities k s then calls
    kept : IsSafe plan workers capacities then
    quiet : IsQuiet then
    others : (q : Key) → (q ≡ k → ⊥) → IsIn q s.to_sync → IsIn q then.to_sync

  run : (s t : SwitchState) (k : Key) → IsSafe plan workers capacities s → IsQuiet s → (x : IsBegin plan workers capacities s t) → x.flight.key ≡ k → Ran s k
  run s t k kept quiet x same =
      let y = runs-to-end plan is workers capacities s t kept quiet x in
      let alone : RunsAlone plan workers capacities k s (after_answers t y.0) (calls_in y.0) = record { first = t; starting = x; is = same; answers = y.0; are = y.1; quiet = y.2; last = refl; calls_are = refl } in
      let z = ran plan is workers capacities k s (after_answers t y.0) (calls_in y.0) kept quiet alone in
      record {
        then = after_answers t y.0;
        calls = calls_in y.0;
        runs = alone;
        kept = z.kept;
        quiet = z.quiet;
        others = λ q apart h. subst (IsIn q) (sym (answers_sync plan workers capacities t y.0 y.1)) (stays q apart (x.to_sync.others q h));
      }
    where
      stays : (q : Key) → (q ≡ k → ⊥) → (q ≡ x.flight.key) ⊎ IsIn q t.to_sync → IsIn q t.to_sync
      stays q apart (inl e) = absurd (apart (e ∙ same))
      stays q apart (inr h) = h

  -- what holds of the keys of a turn, with every key that comes before them all
  abbrev AreBefore : Key → List Key → Type 0
  AreBefore p ks = (q : Key) → IsIn q ks → key_cmp p q ≡ Less

  record Whole (s : SwitchState) (ks : List Key) : Type 0 where
    turned : Turned s ks
    still : (p : Key) → AreBefore p ks → IsIn p s.to_sync → IsIn p turned.then.to_sync

  turn : (ks : List Key) (s : SwitchState) → IsSafe plan workers capacities s → IsQuiet s → AreKeys s ks → Whole s ks
  turn [] s kept quiet keys = record { turned = record { then = s; kept = kept; quiet = quiet; left = []; calls = []; turn = (refl, refl, refl); within = λ q h. h; few = omega arith; keys = keys }; still = λ p before h. h }
  turn (k ∷ ks) s kept quiet keys = by (waits-or-begins plan is workers capacities s kept quiet 0 some k (keys.there k (inl refl)) (keys.on k (inl refl))) (turn ks s kept quiet (tail_keys s k ks keys)) (λ t x same. let r = run s t k kept quiet x same in (r, turn ks r.then r.kept r.quiet (rest_keys r)))
    where
      rest_keys : (r : Ran s k) → AreKeys r.then ks
      rest_keys r = record { order = keys.order.1; there = λ q h. r.others q (less_apart k q (keys.order.0 q h)) (keys.there q (inr h)); on = λ q h. keys.on q (inr h) }

      stay : MustWait plan workers capacities s k → Whole s ks → Whole s (k ∷ ks)
      stay (wait, reason) x = record {
        turned = record {
          then = x.turned.then;
          kept = x.turned.kept;
          quiet = x.turned.quiet;
          left = k ∷ x.turned.left;
          calls = x.turned.calls;
          turn = inl (wait, reason, x.turned.left, refl, x.turned.turn);
          within = within;
          few = let le = x.turned.few in omega (arith, le);
          keys = record { order = ((λ q h. keys.order.0 q (x.turned.within q h)), x.turned.keys.order); there = there; on = on };
        };
        still = λ p before h. x.still p (λ q at. before q (inr at)) h;
      }
        where
          within : (q : Key) → IsIn q (k ∷ x.turned.left) → IsIn q (k ∷ ks)
          within q (inl e) = inl e
          within q (inr h) = inr (x.turned.within q h)

          there : (q : Key) → IsIn q (k ∷ x.turned.left) → IsIn q x.turned.then.to_sync
          there q (inl e) = subst (λ z. IsIn z x.turned.then.to_sync) (sym e) (x.still k keys.order.0 (keys.there k (inl refl)))
          there q (inr h) = x.turned.keys.there q h

          on : (q : Key) → IsIn q (k ∷ x.turned.left) → IsOnSwitch q
          on q (inl e) = subst IsOnSwitch (sym e) (keys.on k (inl refl))
          on q (inr h) = x.turned.keys.on q h

      leave : (r : Ran s k) → Whole r.then ks → Whole s (k ∷ ks)
      leave r x = record {
        turned = record {
          then = x.turned.then;
          kept = x.turned.kept;
          quiet = x.turned.quiet;
          left = x.turned.left;
          calls = r.calls ++ x.turned.calls;
          turn = inr (r.then, r.calls, x.turned.calls, inr r.runs, refl, x.turned.turn);
          within = λ q h. inr (x.turned.within q h);
          few = let le = x.turned.few in omega (arith, le);
          keys = x.turned.keys;
        };
        still = λ p before h. x.still p (λ q at. before q (inr at)) (r.others p (λ e. less_apart p k (before k (inl refl)) (sym e)) h);
      }

      by : MustWait plan workers capacities s k ⊎ ((t : SwitchState) × (x : IsBegin plan workers capacities s t) × (x.worker ≡ 0) × (x.flight.key ≡ k)) → Whole s ks → ((t : SwitchState) (x : IsBegin plan workers capacities s t) → x.flight.key ≡ k → (r : Ran s k) × Whole r.then ks) → Whole s (k ∷ ks)
      by (inl reason) rest begun = stay reason rest
      by (inr (t, x, at, same)) rest begun = let y = begun t x same in leave y.0 y.1

  less_or : (a b : ℕ) → a ≤ b → (a < b) ⊎ (a ≡ b)
  less_or zero zero le = inr refl
  less_or zero (suc b) le = inl (omega arith)
  less_or (suc a) zero le = absurd (omega (arith, le))
  less_or (suc a) (suc b) le = up (less_or a b (omega (arith, le)))
    where
      up : (a < b) ⊎ (a ≡ b) → (suc a < suc b) ⊎ (suc a ≡ suc b)
      up (inl h) = inl (omega (arith, h))
      up (inr h) = inr (ap suc h)

  abbrev Settled : SwitchState → List Key → Type 0
  Settled s ks = (n : ℕ) × (t : SwitchState) × (left : List Key) × (calls : List (Call Rid)) × AreMachineTurns plan workers capacities n s ks t left calls

  turns : (m : ℕ) (ks : List Key) (s : SwitchState) → length ks ≤ m → IsSafe plan workers capacities s → IsQuiet s → AreKeys s ks → Settled s ks
  turns m [] s bound kept quiet keys = (0, s, [], [], (refl, refl, refl, refl))
  turns zero (k ∷ ks) s bound kept quiet keys = absurd (omega (arith, bound))
  turns (suc m) (k ∷ ks) s bound kept quiet keys =
      let x = (turn (k ∷ ks) s kept quiet keys).turned in
      by x (less_or (length x.left) (length (k ∷ ks)) x.few) (λ less. turns m x.left x.then (omega (arith, less, bound)) x.kept x.quiet x.keys)
    where
      by : (x : Turned s (k ∷ ks)) → (length x.left < length (k ∷ ks)) ⊎ (length x.left ≡ length (k ∷ ks)) → (length x.left < length (k ∷ ks) → Settled x.then x.left) → Settled s (k ∷ ks)
      by x (inl less) more = let y = more less in (suc y.0, y.1, y.2, x.calls ++ y.3, ((omega arith), x.then, x.left, x.calls, x.turn, inr (less, y.3, refl, y.4)))
      by x (inr same) more = (1, x.then, x.left, x.calls, ((omega arith), x.then, x.left, x.calls, x.turn, inl (same, refl, refl, refl, refl)))

  -- from rest there are turns over keys to sync that were read
  pub turns-exist : (s : SwitchState) (ks : List Key) → IsSafe plan workers capacities s → IsQuiet s → AreInKeyOrder ks → ((q : Key) → IsIn q ks → IsIn q s.to_sync) → ((q : Key) → IsIn q ks → IsOnSwitch q) → Settled s ks
  turns-exist s ks kept quiet order there on = turns (length ks) ks s (omega arith) kept quiet (record { order = order; there = there; on = on })
