-- after one pass: what waits is not applied and has its true reason, and every other key has its good row
use Rattle.std.proofs.Common.{◌≡◌, ◌⊎◌, ◌∷◌, ◌∙◌, inl, inr, ℕ, List, [], None, Some, option_map, refl, sym, ap, subst}
use Rattle.std.specs.List.Sorted.{IsStrictlySortedBy}
use Rattle.std.specs.declared.cmp.Ordering.TheVariants.{Less}
use Rattle.std.proofs.lemmas.Map.Keys.{sorted_tail}
use Rattle.table_schema.specs.Key.{key_cmp}
use Rattle.table_schema.specs.Names.{names_of}
use Rattle.table_schema.specs.Plan.{Ports, IsPlan}
use Rattle.table_schema.specs.declared.key.Key.{Key}
use Rattle.table_schema.specs.declared.row.Row.{Row}
use Rattle.sai_types.specs.declared.ids.Rid.{Rid}
use Rattle.sai_types.specs.declared.body.Call.{Call}
use Rattle.sai_types.specs.Alike.{IsIn}
use Rattle.switch_model.specs.Desired.{IsClosed}
use Rattle.switch_model.specs.Good.{TypedRows, good_row}
use Rattle.switch_model.specs.Marks.{IsTrueReason}
use Rattle.switch_model.specs.Placed.{bare, bare_rows, router_in}
use Rattle.switch_model.specs.declared.wait.Wait.{Wait}
use Rattle.switch_machine.specs.Events.{AreAnswers, SwitchState, IsSafe, IsQuiet, after_answers, fresh_view, placed_good}
use Rattle.switch_machine.specs.Steps.{with_row}
use Rattle.switch_machine.specs.Consistent.{IsCurrent}
use Rattle.switch_machine.specs.Written.{Written, good_of}
use Rattle.switch_machine.proofs.Placing.{bares}
use Rattle.switch_machine.proofs.Reasoned.{closed, reason-true}
use Rattle.switch_machine.proofs.Solo.{solo-key}
use Rattle.switch_machine.proofs.Splits.{IsSplit, key_split, row_at, row_off}
use Rattle.machine_laws.proofs.Rows.{bare_with}
use Rattle.restart_laws.specs.Restored.{IsAlone, IsBrought, IsPass, IsRestored, keys_waiting}
use Rattle.restart_laws.proofs.Passing.{alone-keeps, drops-quiet, restored-fresh, restored-keeps}
use Rattle.restart_laws.proofs.Order.{above, names-below, not-both, not-self}
use Rattle.restart_laws.proofs.Reasons.{reason-stays}
use Rattle.switch_machine.specs.Flights.{Machine}
use Rattle.switch_machine.specs.Written.{HasWrittenRows, IsTold}
use Rattle.switch_machine.proofs.Kept.{kept_drops}

module _ (plan : Ports) (is : IsPlan plan) (workers : ℕ) (capacities : List ℕ) where
  answers_written : (s : SwitchState) (es : List (Call Rid × SwitchState)) → AreAnswers plan workers s es → (after_answers s es).written ≡ s.written
  answers_written s [] run = refl
  answers_written s (e ∷ es) run = answers_written e.1 es run.1 ∙ run.0.written

  -- what one operation alone does to the rows
  alone_written : (s t : SwitchState) (k : Key) → IsAlone plan workers capacities s k t → t.written ≡ s.written
  alone_written s t k x = ap (λ (z : SwitchState). z.written) x.ends ∙ answers_written x.first x.answers x.run ∙ x.starting.written

  -- the rows that are applied, as the tables have them
  abbrev applied : SwitchState → TypedRows
  applied s = bare_rows s.machine.board.applied

  alone_rows : (s t : SwitchState) (k : Key) → IsQuiet s → (x : IsAlone plan workers capacities s k t) (q : Key) → applied t q ≡ with_row k (good_of plan s.written k) (applied s) q
  alone_rows s t k quiet x q =
      ap (λ (z : SwitchState). applied z q) x.ends
      ∙ ap (option_map bare) (solo-key plan workers capacities s x.first x.starting x.answers quiet x.run (subst IsQuiet x.ends x.quiet) q)
      ∙ bare_with own (placed_good plan s.machine.board s.written own) s.machine.board.applied q
      ∙ ap (λ o. with_row own o (applied s) q) (bares (router_in (applied s) own) (good_of plan s.written own))
      ∙ ap (λ z. with_row z (good_of plan s.written z) (applied s) q) x.is
    where
      own : Key
      own = x.starting.flight.key

  brings_kept : (s mid : SwitchState) (k : Key) → IsSafe plan workers capacities s → IsQuiet s → IsBrought plan workers capacities s k mid → IsSafe plan workers capacities mid × IsQuiet mid
  brings_kept s mid k kept quiet (inl x) = (kept_drops plan is workers capacities s mid kept x.0, drops-quiet plan is workers capacities s mid quiet x.0)
  brings_kept s mid k kept quiet (inr x) = (alone-keeps plan is workers capacities s mid k kept x, x.quiet)

  brings_written : (s mid : SwitchState) (k : Key) → IsBrought plan workers capacities s k mid → mid.written ≡ s.written
  brings_written s mid k (inl x) = x.0.written
  brings_written s mid k (inr x) = alone_written s mid k x

  brings_other : (s mid : SwitchState) (k q : Key) → IsQuiet s → IsBrought plan workers capacities s k mid → (k ≡ q → ⊥) → applied mid q ≡ applied s q
  brings_other s mid k q quiet (inl x) other = ap (λ (z : Machine). bare_rows z.board.applied q) x.0.machine
  brings_other s mid k q quiet (inr x) other = alone_rows s mid k quiet x q ∙ row_off k q (good_of plan s.written k) (applied s) other

  brings_good : (s mid : SwitchState) (k : Key) → IsQuiet s → IsBrought plan workers capacities s k mid → applied mid k ≡ good_of plan s.written k
  brings_good s mid k quiet (inl x) = ap (λ (z : Machine). bare_rows z.board.applied k) x.0.machine ∙ subst (λ z. applied s z ≡ good_of plan s.written z) x.1 x.0.same
  brings_good s mid k quiet (inr x) = alone_rows s mid k quiet x k ∙ row_at k k (good_of plan s.written k) (applied s) refl

  -- the pass touches its own keys alone
  pass_other : (s t : SwitchState) (ks : List Key) (waits : List (Key × Wait)) (q : Key) → IsSafe plan workers capacities s → IsQuiet s → IsPass plan workers capacities s ks waits t → (IsIn q ks → ⊥) → applied t q ≡ applied s q
  pass_other s t [] waits q kept quiet x other = ap (λ (z : SwitchState). applied z q) x.1
  pass_other s t (k ∷ ks) waits q kept quiet (inl x) other = pass_other s t ks x.0.rest q kept quiet x.1 (λ h. other (inr h))
  pass_other s t (k ∷ ks) waits q kept quiet (inr (mid, x, rest)) other =
      let y = brings_kept s mid k kept quiet x in
      pass_other mid t ks waits q y.0 y.1 rest (λ h. other (inr h)) ∙ brings_other s mid k q quiet x (λ e. other (inl (sym e)))

  pass_written : (s t : SwitchState) (ks : List Key) (waits : List (Key × Wait)) → IsPass plan workers capacities s ks waits t → t.written ≡ s.written
  pass_written s t [] waits x = ap (λ (z : SwitchState). z.written) x.1
  pass_written s t (k ∷ ks) waits (inl x) = pass_written s t ks x.0.rest x.1
  pass_written s t (k ∷ ks) waits (inr (mid, x, rest)) = pass_written mid t ks waits rest ∙ brings_written s mid k x

  abbrev AreAbsent : SwitchState → List Key → Type 0
  AreAbsent s ks = (q : Key) → IsIn q ks → applied s q ≡ None

  absent_next : (s mid : SwitchState) (k : Key) (ks : List Key) → IsStrictlySortedBy key_cmp (k ∷ ks) → IsQuiet s → IsBrought plan workers capacities s k mid → AreAbsent s (k ∷ ks) → AreAbsent mid ks
  absent_next s mid k ks sorted quiet x none q h = brings_other s mid k q quiet x (not-self k q (above k q ks sorted h)) ∙ none q (inr h)

  -- rows that are applied stay
  pass_grows : (s t : SwitchState) (ks : List Key) (waits : List (Key × Wait)) → IsSafe plan workers capacities s → IsQuiet s → IsPass plan workers capacities s ks waits t → AreAbsent s ks → (q : Key) (r : Row) → applied s q ≡ Some r → applied t q ≡ Some r
  pass_grows s t ks waits kept quiet x none q r at = pass_other s t ks waits q kept quiet x (λ h. no_row (sym (none q h) ∙ at)) ∙ at
    where
      no_row : None ≡ Some r → ⊥
      no_row e = cc

  -- a key that waits is one of the keys, it is not applied, and its reason is true in the end
  pub record IsWaiting (t : SwitchState) (ks : List Key) (q : Key) (w : Wait) : Type 0 where
    pub key : IsIn q ks
    pub absent : applied t q ≡ None
    pub reason : IsTrueReason plan capacities (good_of plan t.written) (applied t) q w

  waits_by : (s t : SwitchState) (ks : List Key) (waits : List (Key × Wait)) → IsStrictlySortedBy key_cmp ks → IsSafe plan workers capacities s → IsQuiet s → AreAbsent s ks → IsPass plan workers capacities s ks waits t → (q : Key) (w : Wait) → IsIn (q, w) waits → IsWaiting t ks q w
  waits_by s t [] waits sorted kept quiet none x q w h = elim (subst (IsIn (q, w)) x.0 h) [ ]
  waits_by s t (k ∷ ks) waits sorted kept quiet none (inr (mid, x, rest)) q w h =
      let y = brings_kept s mid k kept quiet x in
      let z = waits_by mid t ks waits (sorted_tail key_cmp k ks sorted) y.0 y.1 (absent_next s mid k ks sorted quiet x none) rest q w h in
      record { key = inr z.key; absent = z.absent; reason = z.reason }
  waits_by s t (k ∷ ks) waits sorted kept quiet none (inl x) q w h = by (λ i. waits_by s t ks x.0.rest (sorted_tail key_cmp k ks sorted) kept quiet (λ q i. none q (inr i)) x.1 q w i) (subst (IsIn (q, w)) x.0.is h)
    where
      apart : (p : Key) → key_cmp p k ≡ Less → IsIn p ks → ⊥
      apart p less i = not-both k p (above k p ks sorted i) less

      same : (p : Key) (r : Row) → IsIn p (names_of k r) → applied t p ≡ applied s p
      same p r i = pass_other s t ks x.0.rest p kept quiet x.1 (apart p (names-below k p r i))

      here : IsWaiting t (k ∷ ks) k x.0.wait
      here = record {
        key = inl refl;
        absent = pass_other s t ks x.0.rest k kept quiet x.1 (λ i. not-self k k (above k k ks sorted i) refl) ∙ none k (inl refl);
        reason = subst (λ z. IsTrueReason plan capacities (good_of plan z) (applied t) k x.0.wait) (sym (pass_written s t ks x.0.rest x.1))
            (reason-stays plan capacities (good_of plan s.written) (good_of plan s.written) (applied s) (applied t) k x.0.wait (closed plan is workers capacities s kept) (none k (inl refl)) refl same
            (pass_grows s t ks x.0.rest kept quiet x.1 (λ q i. none q (inr i)))
            (reason-true plan is workers capacities s kept quiet k x.0.wait x.0.reason));
      }

      by : (IsIn (q, w) x.0.rest → IsWaiting t ks q w) → IsIn (q, w) ((k, x.0.wait) ∷ x.0.rest) → IsWaiting t (k ∷ ks) q w
      by again (inl e) =
          let one : q ≡ k = ap (λ (z : Key × Wait). z.0) e in
          let two : w ≡ x.0.wait = ap (λ (z : Key × Wait). z.1) e in
          subst (λ z. IsWaiting t (k ∷ ks) z w) (sym one) (subst (IsWaiting t (k ∷ ks) k) (sym two) here)
      by again (inr i) = let z = again i in record { key = inr z.key; absent = z.absent; reason = z.reason }

  -- and every other key of the pass has its good row
  goods_by : (s t : SwitchState) (ks : List Key) (waits : List (Key × Wait)) → IsStrictlySortedBy key_cmp ks → IsSafe plan workers capacities s → IsQuiet s → IsPass plan workers capacities s ks waits t → (q : Key) → IsIn q ks → ((w : Wait) × IsIn (q, w) waits) ⊎ (applied t q ≡ good_of plan s.written q)
  goods_by s t [] waits sorted kept quiet x q h = elim h [ ]
  goods_by s t (k ∷ ks) waits sorted kept quiet (inl x) q (inl e) = inl (x.0.wait, subst (IsIn (q, x.0.wait)) (sym x.0.is) (inl (ap (λ (z : Key). (z, x.0.wait)) e)))
  goods_by s t (k ∷ ks) waits sorted kept quiet (inl x) q (inr h) = by (goods_by s t ks x.0.rest (sorted_tail key_cmp k ks sorted) kept quiet x.1 q h)
    where
      by : ((w : Wait) × IsIn (q, w) x.0.rest) ⊎ (applied t q ≡ good_of plan s.written q) → ((w : Wait) × IsIn (q, w) waits) ⊎ (applied t q ≡ good_of plan s.written q)
      by (inl y) = inl (y.0, subst (IsIn (q, y.0)) (sym x.0.is) (inr y.1))
      by (inr y) = inr y
  goods_by s t (k ∷ ks) waits sorted kept quiet (inr (mid, x, rest)) q (inl e) =
      let y = brings_kept s mid k kept quiet x in
      inr (pass_other mid t ks waits q y.0 y.1 rest (λ h. not-self k q (above k q ks sorted h) (sym e)) ∙ subst (λ z. applied mid z ≡ good_of plan s.written z) (sym e) (brings_good s mid k quiet x))
  goods_by s t (k ∷ ks) waits sorted kept quiet (inr (mid, x, rest)) q (inr h) = by (goods_by mid t ks waits (sorted_tail key_cmp k ks sorted) y.0 y.1 rest q h)
    where
      y : IsSafe plan workers capacities mid × IsQuiet mid
      y = brings_kept s mid k kept quiet x

      by : ((w : Wait) × IsIn (q, w) waits) ⊎ (applied t q ≡ good_of plan mid.written q) → ((w : Wait) × IsIn (q, w) waits) ⊎ (applied t q ≡ good_of plan s.written q)
      by (inl z) = inl z
      by (inr z) = inr (z ∙ ap (λ w. good_of plan w q) (brings_written s mid k x))

  -- ---- what is restored

  key_in : (q : Key) (ks : List Key) → IsIn q ks ⊎ (IsIn q ks → ⊥)
  key_in q [] = inr (λ h. elim h [ ])
  key_in q (k ∷ ks) = both (key_split q k) (key_in q ks)
    where
      both : IsSplit q k → IsIn q ks ⊎ (IsIn q ks → ⊥) → IsIn q (k ∷ ks) ⊎ (IsIn q (k ∷ ks) → ⊥)
      both (inl e) _ = inl (inl e)
      both (inr e) (inl h) = inl (inr h)
      both (inr e) (inr h) = inr (λ z. elim z [ inl a ↦ e a | inr b ↦ h b ])

  waiting : (k : Key) (w : Wait) (ws : List (Key × Wait)) → IsIn (k, w) ws → IsIn k (keys_waiting ws)
  waiting k w [] h = elim h [ ]
  waiting k w (y ∷ ys) (inl e) = inl (ap (λ (z : Key × Wait). z.0) e)
  waiting k w (y ∷ ys) (inr h) = inr (waiting k w ys h)

  module _ (s : Written) (view : SwitchState) (told : IsTold s) (dated : HasWrittenRows s) (x : IsRestored plan workers capacities s view) where
    abbrev start : SwitchState
    start = fresh_view x.written x.keys

    start_kept : IsSafe plan workers capacities start
    start_kept = restored-fresh plan is workers capacities s view told dated x

    start_quiet : IsQuiet start
    start_quiet w f at = cc

    pub restored-waits : (q : Key) (w : Wait) → IsIn (q, w) x.waits → IsWaiting view x.keys q w
    restored-waits q w h = waits_by start view x.keys x.waits x.rising start_kept start_quiet (λ q i. refl) x.pass q w h

    pub restored-good : (q : Key) → ((w : Wait) × IsIn (q, w) x.waits) ⊎ (applied view q ≡ good_of plan x.written q)
    restored-good q = by (key_in q x.keys)
      where
        by : IsIn q x.keys ⊎ (IsIn q x.keys → ⊥) → ((w : Wait) × IsIn (q, w) x.waits) ⊎ (applied view q ≡ good_of plan x.written q)
        by (inl h) = goods_by start view x.keys x.waits x.rising start_kept start_quiet x.pass q h
        by (inr other) = inr (pass_other start view x.keys x.waits q start_kept start_quiet x.pass other ∙ no_row (x.all q))
          where
            no_row : (x.written.rows q ≡ None) ⊎ IsIn q x.keys → None ≡ good_of plan x.written q
            no_row (inl e) = sym (ap (good_row plan q) e)
            no_row (inr h) = absurd (other h)

    pub restored-closed : IsClosed (applied view)
    restored-closed = let v = restored-keeps plan is workers capacities s view told dated x in closed plan is workers capacities view v.0

    pub restored-written : view.written ≡ x.written
    restored-written = pass_written start view x.keys x.waits x.pass

    -- with the keys that wait to sync, what is restored is safe
    pub restored-kept : IsSafe plan workers capacities (record { machine = view.machine; written = view.written; to_sync = keys_waiting x.waits; made = view.made; objects = view.objects })
    restored-kept = let v = restored-keeps plan is workers capacities s view told dated x in record {
      sound = v.0.sound;
      whole = v.0.whole;
      laid = v.0.laid;
      places = v.0.places;
      synced = λ k. by k v.1 (restored-good k);
      told = v.0.told;
      covered = v.0.covered;
      dated = v.0.dated;
      good = v.0.good;
    }
      where
        by : (k : Key) → IsQuiet view → ((w : Wait) × IsIn (k, w) x.waits) ⊎ (applied view k ≡ good_of plan x.written k) → IsIn k (keys_waiting x.waits) ⊎ IsCurrent view.machine.board (good_of plan view.written) k
        by k quiet (inl h) = inl (waiting k h.0 x.waits h.1)
        by k quiet (inr h) = inr (inl ((λ w f at same. quiet w f at), h ∙ ap (λ z. good_of plan z k) (sym restored-written)))
