-- what a settling leaves: each key to sync is listed, each with its reason
use Rattle.std.proofs.Common.{◌≡◌, ◌⊎◌, ◌≤◌, ◌∷◌, ◌∙◌, inl, inr, ℕ, zero, suc, List, [], length, refl, sym, ap, subst, arith}
use Rattle.table_schema.specs.Plan.{Ports}
use Rattle.table_schema.specs.declared.key.Key.{Key}
use Rattle.sai_types.specs.declared.ids.Rid.{Rid}
use Rattle.sai_types.specs.declared.body.Call.{Call}
use Rattle.sai_types.specs.Alike.{IsIn}
use Rattle.switch_model.specs.Marks.{Waiting}
use Rattle.switch_model.specs.declared.wait.Wait.{Wait}
use Rattle.switch_model.specs.Placed.{bare_rows}
use Rattle.switch_machine.specs.Events.{AreAnswers, SwitchState, after_answers}
use Rattle.switch_machine.specs.Reasons.{IsReason}
use Rattle.machine_laws.specs.Settling.{AreMachineTurns, DropsKey, IsMachineTurn, RunsAlone}
use Rattle.machine_laws.specs.Logged.{AreListed, ListsKey}

module _ (plan : Ports) (workers : ℕ) (capacities : List ℕ) where
  abbrev Waits : SwitchState → Key → Type 0
  Waits t k = (w : Wait) × IsReason plan workers capacities t k w

  -- a turn that takes no key away changes nothing, and each key waits
  record Idle (s t : SwitchState) (ks left : List Key) : Type 0 where
    few : length left ≤ length ks
    same : length left ≡ length ks → t ≡ s
    waits : length left ≡ length ks → (k : Key) → IsIn k left → Waits s k

  one_less : (a b : ℕ) → suc a ≡ suc b → a ≡ b
  one_less a b h = omega (arith, h)

  idle : (ks : List Key) (s t : SwitchState) (left : List Key) (calls : List (Call Rid)) → IsMachineTurn plan workers capacities s ks t left calls → Idle s t ks left
  idle [] s t left calls (e, none, no_call) = record { few = subst (λ z. length z ≤ 0) (sym none) (omega arith); same = λ h. e; waits = λ h k at. absurd (subst (IsIn k) none at) }
  idle (k ∷ ks) s t left calls (inl (w, reason, rest, is, more)) =
      let y = idle ks s t rest calls more in
      record {
        few = subst (λ z. length z ≤ length (k ∷ ks)) (sym is) (omega (arith, y.few));
        same = λ h. y.same (fewer h);
        waits = λ h q at. by y (fewer h) q (subst (IsIn q) is at);
      }
    where
      fewer : length left ≡ length (k ∷ ks) → length rest ≡ length ks
      fewer h = one_less (length rest) (length ks) (sym (ap length is) ∙ h)

      by : Idle s t ks rest → length rest ≡ length ks → (q : Key) → IsIn q (k ∷ rest) → Waits s q
      by y h q (inl e) = subst (Waits s) (sym e) (w, reason)
      by y h q (inr at) = y.waits h q at
  idle (k ∷ ks) s t left calls (inr (mid, own, later, x, is, more)) =
      let y = idle ks mid t left later more in
      record { few = omega (arith, y.few); same = λ h. absurd (omega (arith, h, y.few)); waits = λ h q at. absurd (omega (arith, h, y.few)) }

  pub answers_sync : (s : SwitchState) (es : List (Call Rid × SwitchState)) → AreAnswers plan workers s es → (after_answers s es).to_sync ≡ s.to_sync
  answers_sync s [] run = refl
  answers_sync s (e ∷ es) run = answers_sync e.1 es run.1 ∙ run.0.to_sync

  -- a key that leaves is not to sync any more
  gone : (k : Key) (s t : SwitchState) (calls : List (Call Rid)) → DropsKey plan k s t calls ⊎ RunsAlone plan workers capacities k s t calls → (q : Key) → IsIn q t.to_sync → IsIn q s.to_sync × (q ≡ k → ⊥)
  gone k s t calls (inl x) q at = (x.drop.to_sync.only q at, λ e. x.drop.to_sync.gone (subst (λ z. IsIn z t.to_sync) (e ∙ sym x.is) at))
  gone k s t calls (inr x) q at =
      let there = subst (IsIn q) (ap (λ (z : SwitchState). z.to_sync) x.last ∙ answers_sync x.first x.answers x.are) at in
      (x.starting.to_sync.only q there, λ e. x.starting.to_sync.gone (subst (λ z. IsIn z x.first.to_sync) (e ∙ sym x.is) there))

  -- a key to sync that a turn does not leave is none any more
  synced : (P : Key → Type 0) (ks : List Key) (s t : SwitchState) (left : List Key) (calls : List (Call Rid)) → IsMachineTurn plan workers capacities s ks t left calls → ((q : Key) → IsIn q s.to_sync → IsIn q ks ⊎ P q) → (q : Key) → IsIn q t.to_sync → IsIn q left ⊎ P q
  synced P [] s t left calls (e, none, no_call) f q at = by (f q (subst (λ (z : SwitchState). IsIn q z.to_sync) e at))
    where
      by : IsIn q [] ⊎ P q → IsIn q left ⊎ P q
      by (inl h) = elim h [ ]
      by (inr h) = inr h
  synced P (k ∷ ks) s t left calls (inl (w, reason, rest, is, more)) f q at = back (synced (λ q. (q ≡ k) ⊎ P q) ks s t rest calls more (λ q h. into q (f q h)) q at)
    where
      into : (q : Key) → IsIn q (k ∷ ks) ⊎ P q → IsIn q ks ⊎ ((q ≡ k) ⊎ P q)
      into q (inl (inl e)) = inr (inl e)
      into q (inl (inr h)) = inl h
      into q (inr h) = inr (inr h)

      back : IsIn q rest ⊎ ((q ≡ k) ⊎ P q) → IsIn q left ⊎ P q
      back (inl h) = inl (subst (IsIn q) (sym is) (inr h))
      back (inr (inl e)) = inl (subst (IsIn q) (sym is) (inl e))
      back (inr (inr h)) = inr h
  synced P (k ∷ ks) s t left calls (inr (mid, own, later, x, is, more)) f q at = synced P ks mid t left later more (λ q h. into q (f q (gone k s mid own x q h).0) (gone k s mid own x q h).1) q at
    where
      into : (q : Key) → IsIn q (k ∷ ks) ⊎ P q → (q ≡ k → ⊥) → IsIn q ks ⊎ P q
      into q (inl (inl e)) apart = absurd (apart e)
      into q (inl (inr h)) apart = inl h
      into q (inr h) apart = inr h

  record Left (t : SwitchState) (left : List Key) : Type 0 where
    all : (q : Key) → IsIn q t.to_sync → IsIn q left
    waits : (q : Key) → IsIn q left → Waits t q

  one_turn : (s t : SwitchState) (keys left : List Key) (calls : List (Call Rid)) → ((q : Key) → IsIn q s.to_sync → IsIn q keys) → IsMachineTurn plan workers capacities s keys t left calls → (q : Key) → IsIn q t.to_sync → IsIn q left
  one_turn s t keys left calls f turn q at = by (synced (λ q. ⊥) keys s t left calls turn (λ q h. inl (f q h)) q at)
    where
      by : IsIn q left ⊎ ⊥ → IsIn q left
      by (inl h) = h
      by (inr h) = elim h [ ]

  turns : (n : ℕ) (s t : SwitchState) (keys left : List Key) (calls : List (Call Rid)) → ((q : Key) → IsIn q s.to_sync → IsIn q keys) → AreMachineTurns plan workers capacities n s keys t left calls → Left t left
  turns zero s t keys left calls f (none, e, gone, no_call) = record {
    all = λ q at. absurd (subst (IsIn q) none (f q (subst (λ (z : SwitchState). IsIn q z.to_sync) e at)));
    waits = λ q at. absurd (subst (IsIn q) gone at);
  }
  turns (suc n) s t keys left calls f (some, mid, rest, own, turn, inl (e, zero_more, at, gone, all)) =
      let y = idle keys s mid rest own turn in
      record {
        all = λ q h. subst (IsIn q) (sym gone) (one_turn s mid keys rest own f turn q (subst (λ (z : SwitchState). IsIn q z.to_sync) at h));
        waits = λ q h. subst (λ z. Waits z q) (sym (at ∙ y.same e)) (y.waits e q (subst (IsIn q) gone h));
      }
  turns (suc n) s t keys left calls f (some, mid, rest, own, turn, inr (less, more, all, later)) = turns n mid t rest left more (one_turn s mid keys rest own f turn) later

  record Listing (t : SwitchState) (left : List Key) : Type 0 where
    waits : Waiting
    listed : AreListed plan workers capacities t waits
    all : (q : Key) → IsIn q left → ListsKey q waits
    only : (q : Key) → ListsKey q waits → IsIn q left

  listing : (t : SwitchState) (left : List Key) → ((q : Key) → IsIn q left → Waits t q) → Listing t left
  listing t [] f = record { waits = []; listed = tt; all = λ q h. h; only = λ q h. h }
  listing t (k ∷ ks) f =
      let y = listing t ks (λ q h. f q (inr h)) in
      let w = f k (inl refl) in
      record {
        waits = (k, w.0, bare_rows t.machine.board.applied k) ∷ y.waits;
        listed = (w.1, refl, y.listed);
        all = λ q h. all y q h;
        only = λ q h. only y q h;
      }
    where
      all : (y : Listing t ks) (q : Key) → IsIn q (k ∷ ks) → (k ≡ q) ⊎ ListsKey q y.waits
      all y q (inl e) = inl (sym e)
      all y q (inr h) = inr (y.all q h)

      only : (y : Listing t ks) (q : Key) → (k ≡ q) ⊎ ListsKey q y.waits → IsIn q (k ∷ ks)
      only y q (inl e) = inl (sym e)
      only y q (inr h) = inr (y.only q h)

  -- a settling ends where a mark can list what waits
  pub lists : (n : ℕ) (s t : SwitchState) (keys left : List Key) (calls : List (Call Rid)) → ((q : Key) → IsIn q s.to_sync → IsIn q keys) → AreMachineTurns plan workers capacities n s keys t left calls → (waits : Waiting) × AreListed plan workers capacities t waits × ((q : Key) → IsIn q t.to_sync → ListsKey q waits) × ((q : Key) → ListsKey q waits → IsIn q left)
  lists n s t keys left calls f h =
      let x = turns n s t keys left calls f h in
      let y = listing t left x.waits in
      (y.waits, y.listed, (λ q at. y.all q (x.all q at)), y.only)

  -- a key that is to sync after a settling is one that its turns left
  pub sync-left : (n : ℕ) (s t : SwitchState) (keys left : List Key) (calls : List (Call Rid)) → ((q : Key) → IsIn q s.to_sync → IsIn q keys) → AreMachineTurns plan workers capacities n s keys t left calls → (q : Key) → IsIn q t.to_sync → IsIn q left
  sync-left n s t keys left calls f h = (turns n s t keys left calls f h).all
