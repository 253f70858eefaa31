-- turns over the keys to sync, with closed good rows and room: each frees a level more
use Rattle.std.proofs.Common.{◌≡◌, ◌⊎◌, ◌<◌, ◌≤◌, ◌∷◌, ◌++◌, ◌∙◌, inl, inr, ℕ, zero, suc, true, List, [], length, Option, None, Some, is_some, refl, sym, ap, subst, arith}
use Rattle.table_schema.specs.Names.{names_of}
use Rattle.table_schema.specs.Plan.{Ports}
use Rattle.table_schema.specs.declared.key.Key.{Key}
use Rattle.table_schema.specs.declared.row.Row.{Row}
use Rattle.sai_types.specs.Alike.{IsIn}
use Rattle.sai_types.proofs.Membership.{in-left, in-right}
use Rattle.switch_model.specs.Desired.{IsClosed}
use Rattle.switch_model.specs.Good.{TypedRows}
use Rattle.switch_model.specs.Levels.{level_of}
use Rattle.switch_model.specs.Marks.{IsMoved, IsToGo, first_missing}
use Rattle.switch_model.specs.Room.{IsStill}
use Rattle.switch_model.specs.Turns.{HasReason, IsTurn, TakeTurns, with_good}
use Rattle.switch_model.specs.declared.wait.Wait.TheVariants as wait
use Rattle.switch_model.proofs.Levels.{first_lower, named_below}
use Rattle.switch_model.proofs.Ready.{low}
use Rattle.switch_machine.proofs.Placing.{moved_not}
use Rattle.machine_laws.specs.ToSync.{AreAtRest, AreInKeyOrder, AreSynced, HasRoomTogether, HaveInterfaces, IsLackedAddress}
use Rattle.machine_laws.proofs.Addresses.{IsAddress, address_level, address_unnamed, is_address, lacked_address, lacked_none}
use Rattle.machine_laws.proofs.Between.{Between, at_first, left-between, no-lack, none_row, with_good-by}
use Rattle.machine_laws.proofs.Rows.{has_row, no_some, none_missing}

-- ---- levels

-- keys of which none is of a lower level than one before it
abbrev AreByLevel : List Key → Type 0
AreByLevel [] = Unit {0}
AreByLevel (k ∷ ks) = ((q : Key) → IsIn q ks → level_of k ≤ level_of q) × AreByLevel ks

by_level : (ks : List Key) → AreInKeyOrder ks → AreByLevel ks
by_level [] rising = tt
by_level (k ∷ ks) rising = ((λ q h. first_lower k q (rising.0 q h)), by_level ks rising.1)

below_or : (a m : ℕ) → a < suc m → (a < m) ⊎ (a ≡ m)
below_or zero zero h = inr refl
below_or zero (suc m) h = inl (omega arith)
below_or (suc a) zero h = absurd (omega (arith, h))
below_or (suc a) (suc m) h = up (below_or a m (omega (arith, h)))
  where
    up : (a < m) ⊎ (a ≡ m) → (suc a < suc m) ⊎ (suc a ≡ suc m)
    up (inl x) = inl (omega (arith, x))
    up (inr x) = inr (ap suc x)

same_row : (a b : Row) → Some a ≡ Some b → a ≡ b
same_row a b h = cc

-- ---- a turn

module _ (plan : Ports) (capacities : List ℕ) (good : TypedRows) (closed : IsClosed good) (typed : HaveInterfaces good) (old : TypedRows) (rest : AreAtRest plan capacities old) (still : IsStill old good) (room : HasRoomTogether plan capacities old good) (names : List Key) (found : (k : Key) (r : Row) → good k ≡ Some r → IsIn k names) where
  abbrev AreBetween : TypedRows → Type 0
  AreBetween = Between plan capacities good closed typed old rest still names found

  -- before a key of a turn, where the keys that are left have levels up to m
  record Before (m : ℕ) (applied : TypedRows) (ks : List Key) : Type 0 where
    rows : AreBetween applied
    -- a key that rows may name has no good row, is applied, or is to be tried
    there : (q : Key) → (good q ≡ None) ⊎ (IsAddress q ⊎ ((is_some (applied q) ≡ true) ⊎ IsIn q ks))
    high : (q : Key) → m < level_of q → applied q ≡ good q
    -- behind the first turn no address is to go
    away : (2 < m) ⊎ ((q : Key) → IsLackedAddress good q → applied q ≡ None)

  -- a key that stays is of a level below the highest, has no good row or is applied unless it is an address, and is no address that is to go
  record Stays (m : ℕ) (applied : TypedRows) (k : Key) : Type 0 where
    below : level_of k < m
    there : (good k ≡ None) ⊎ (IsAddress k ⊎ (is_some (applied k) ≡ true))
    kept : IsLackedAddress good k → ⊥

  held_below : (m : ℕ) (applied : TypedRows) (k h : Key) (x : Row) (ks : List Key) → Before m applied ks → level_of k < suc m → IsToGo good applied k → applied h ≡ Some x → IsIn k (names_of h x) → level_of k < m
  held_below m applied k h x ks before bound to_go at named = by (below_or (level_of k) m bound)
    where
      go : IsToGo good applied k → good h ≡ Some x → (applied k ≡ old k) ⊎ (applied k ≡ good k) → ⊥
      go (inl none) is _ = none_row (good k) none (has_row good (names_of h x) k (closed h x is) named)
      go (inr (a, new, was, to, have, moved)) is (inl e) = still k h x a new is named (sym e ∙ was) to moved
      go (inr (a, new, was, to, have, moved)) is (inr e) = moved_not k new (subst (λ z. IsMoved k z new) (same_row a new (sym was ∙ e ∙ to)) moved)

      by : (level_of k < m) ⊎ (level_of k ≡ m) → level_of k < m
      by (inl less) = less
      by (inr same) =
          let above = named_below h x k named in
          absurd (go to_go (sym (before.high h (subst (λ z. z < level_of h) same above)) ∙ at) (before.rows.mixed k))

  stays : (m : ℕ) (applied : TypedRows) (k : Key) (ks : List Key) → Before m applied (k ∷ ks) → ((q : Key) → IsIn q ks → level_of k ≤ level_of q) → level_of k < suc m → HasReason plan capacities good applied k → Stays m applied k
  stays m applied k ks x order bound (wait.Missing p, (r, at, missing)) = no_some (first_missing applied (names_of k r)) p (none_missing applied (names_of k r) there) missing
    where
      there : (p : Key) → IsIn p (names_of k r) → is_some (applied p) ≡ true
      there p h = by (x.there p)
        where
          by : (good p ≡ None) ⊎ (IsAddress p ⊎ ((is_some (applied p) ≡ true) ⊎ IsIn p (k ∷ ks))) → is_some (applied p) ≡ true
          by (inl none) = none_row (good p) none (has_row good (names_of k r) p (closed k r at) h)
          by (inr (inl address)) = absurd (address_unnamed k p r h address)
          by (inr (inr (inl some))) = some
          by (inr (inr (inr (inl e)))) = absurd (omega (arith, subst (λ z. level_of z < level_of k) e (named_below k r p h)))
          by (inr (inr (inr (inr e)))) = absurd (omega (arith, named_below k r p h, order p e))
  stays m applied k ks x order bound (wait.Held h, (to_go, r, at, held)) = record {
    below = held_below m applied k h held.row (k ∷ ks) x bound to_go held.applied_row held.names;
    there = inr (inr (ap is_some at));
    kept = λ lacked. address_unnamed h k held.row held.names (lacked_address good k lacked);
  }
  stays m applied k ks x order bound (wait.NoRoom kind, (r, at, have, over)) = by (is_address k) x.away
    where
      by : (IsAddress k) ⊎ (IsAddress k → ⊥) → (2 < m) ⊎ ((q : Key) → IsLackedAddress good q → applied q ≡ None) → Stays m applied k
      by (inl address) (inl first) = record { below = (let two = address_level k address in omega (arith, first, two)); there = inr (inl address); kept = λ lacked. no_some (good k) r (lacked_none good k lacked) at }
      by (inl address) (inr none) = absurd (no-lack plan capacities good closed typed old rest still names found room applied x.rows k r kind at have (inr none) over)
      by (inr other) _ = absurd (no-lack plan capacities good closed typed old rest still names found room applied x.rows k r kind at have (inl other) over)
  stays m applied k ks x order bound (wait.Busy w, h) = elim h [ ]

  -- the key stays
  kept : (m : ℕ) (applied : TypedRows) (k : Key) (ks : List Key) → Before m applied (k ∷ ks) → Stays m applied k → Before m applied ks
  kept m applied k ks x y = record { rows = x.rows; there = λ q. by q (x.there q); high = x.high; away = x.away }
    where
      Is : Key → Type 0
      Is q = (good q ≡ None) ⊎ (IsAddress q ⊎ ((is_some (applied q) ≡ true) ⊎ IsIn q ks))

      own : (good k ≡ None) ⊎ (IsAddress k ⊎ (is_some (applied k) ≡ true)) → Is k
      own (inl h) = inl h
      own (inr (inl h)) = inr (inl h)
      own (inr (inr h)) = inr (inr (inl h))

      by : (q : Key) → (good q ≡ None) ⊎ (IsAddress q ⊎ ((is_some (applied q) ≡ true) ⊎ IsIn q (k ∷ ks))) → Is q
      by q (inl h) = inl h
      by q (inr (inl h)) = inr (inl h)
      by q (inr (inr (inl h))) = inr (inr (inl h))
      by q (inr (inr (inr (inl e)))) = subst Is (sym e) (own y.there)
      by q (inr (inr (inr (inr h)))) = inr (inr (inr h))

  -- the key leaves
  gone : (m : ℕ) (applied : TypedRows) (k : Key) (ks : List Key) → Before m applied (k ∷ ks) → (HasReason plan capacities good applied k → ⊥) → Before m (with_good good applied k) ks
  gone m applied k ks x free = record {
    rows = left-between plan capacities good closed typed old rest still names found applied x.rows k free;
    there = λ q. there_by q (with_good-by good applied k q) (x.there q);
    high = λ q above. high_by q (with_good-by good applied k q) (x.high q above);
    away = away_by x.away;
  }
    where
      Is : Key → Type 0
      Is q = ((q ≡ k) × (with_good good applied k q ≡ good q)) ⊎ ((with_good good applied k q ≡ applied q) × (q ≡ k → ⊥))

      good_or : (q : Key) (o : Option Row) → good q ≡ o → with_good good applied k q ≡ good q → (good q ≡ None) ⊎ (is_some (with_good good applied k q) ≡ true)
      good_or q None e h = inl e
      good_or q (Some r) e h = inr (ap is_some (h ∙ e))

      own : (q : Key) → (good q ≡ None) ⊎ (is_some (with_good good applied k q) ≡ true) → (good q ≡ None) ⊎ (IsAddress q ⊎ ((is_some (with_good good applied k q) ≡ true) ⊎ IsIn q ks))
      own q (inl h) = inl h
      own q (inr h) = inr (inr (inl h))

      there_by : (q : Key) → Is q → (good q ≡ None) ⊎ (IsAddress q ⊎ ((is_some (applied q) ≡ true) ⊎ IsIn q (k ∷ ks))) → (good q ≡ None) ⊎ (IsAddress q ⊎ ((is_some (with_good good applied k q) ≡ true) ⊎ IsIn q ks))
      there_by q (inl y) _ = own q (good_or q (good q) refl y.1)
      there_by q (inr y) (inl h) = inl h
      there_by q (inr y) (inr (inl h)) = inr (inl h)
      there_by q (inr y) (inr (inr (inl h))) = inr (inr (inl (ap is_some y.0 ∙ h)))
      there_by q (inr y) (inr (inr (inr (inl e)))) = absurd (y.1 e)
      there_by q (inr y) (inr (inr (inr (inr h)))) = inr (inr (inr h))

      high_by : (q : Key) → Is q → applied q ≡ good q → with_good good applied k q ≡ good q
      high_by q (inl y) h = y.1
      high_by q (inr y) h = y.0 ∙ h

      lacked_by : (q : Key) → IsLackedAddress good q → applied q ≡ None → Is q → with_good good applied k q ≡ None
      lacked_by q lacked none (inl y) = y.1 ∙ lacked_none good q lacked
      lacked_by q lacked none (inr y) = y.0 ∙ none

      away_by : (2 < m) ⊎ ((q : Key) → IsLackedAddress good q → applied q ≡ None) → (2 < m) ⊎ ((q : Key) → IsLackedAddress good q → with_good good applied k q ≡ None)
      away_by (inl first) = inl first
      away_by (inr none) = inr (λ q lacked. lacked_by q lacked (none q lacked) (with_good-by good applied k q))

  -- what a turn comes to
  record Turned (m : ℕ) (ks : List Key) (later : TypedRows) (left : List Key) : Type 0 where
    rows : AreBetween later
    within : (q : Key) → IsIn q left → IsIn q ks
    lower : (q : Key) → IsIn q left → level_of q < m
    kept : (q : Key) → IsIn q left → IsLackedAddress good q → ⊥
    order : AreByLevel left
    few : length left ≤ length ks
    same : length left ≡ length ks → left ≡ ks

  turned : (m : ℕ) (ks : List Key) (applied later : TypedRows) (left : List Key) → Before m applied ks → AreByLevel ks → ((q : Key) → IsIn q ks → level_of q < suc m) → IsTurn plan capacities good applied ks later left → Turned m ks later left
  turned m [] applied later left x order bound (e, none) = record {
    rows = subst AreBetween (sym e) x.rows;
    within = λ q h. subst (IsIn q) none h;
    lower = λ q h. absurd (subst (IsIn q) none h);
    kept = λ q h. absurd (subst (IsIn q) none h);
    order = subst AreByLevel (sym none) tt;
    few = subst (λ z. length z ≤ 0) (sym none) (omega arith);
    same = λ h. none;
  }
  turned m (k ∷ ks) applied later left x order bound (inl (reason, rest, is, turn)) =
      let y = stays m applied k ks x order.0 (bound k (inl refl)) reason in
      let z = turned m ks applied later rest (kept m applied k ks x y) order.1 (λ q h. bound q (inr h)) turn in
      record {
        rows = z.rows;
        within = λ q h. within_by z q (subst (IsIn q) is h);
        lower = λ q h. lower_by z y.below q (subst (IsIn q) is h);
        kept = λ q h. kept_by z y q (subst (IsIn q) is h);
        order = subst AreByLevel (sym is) ((λ q h. order.0 q (z.within q h)), z.order);
        few = subst (λ v. length v ≤ length (k ∷ ks)) (sym is) (omega (arith, z.few));
        same = λ h. is ∙ ap (λ v. k ∷ v) (z.same (one_less (length rest) (length ks) (sym (ap length is) ∙ h)));
      }
    where
      within_by : Turned m ks later rest → (q : Key) → IsIn q (k ∷ rest) → IsIn q (k ∷ ks)
      within_by z q (inl e) = inl e
      within_by z q (inr h) = inr (z.within q h)

      lower_by : Turned m ks later rest → level_of k < m → (q : Key) → IsIn q (k ∷ rest) → level_of q < m
      lower_by z less q (inl e) = subst (λ v. level_of v < m) (sym e) less
      lower_by z less q (inr h) = z.lower q h

      kept_by : Turned m ks later rest → Stays m applied k → (q : Key) → IsIn q (k ∷ rest) → IsLackedAddress good q → ⊥
      kept_by z y q (inl e) lacked = y.kept (subst (IsLackedAddress good) e lacked)
      kept_by z y q (inr h) lacked = z.kept q h lacked

      one_less : (a b : ℕ) → suc a ≡ suc b → a ≡ b
      one_less a b h = omega (arith, h)
  turned m (k ∷ ks) applied later left x order bound (inr (none, turn)) =
      let z = turned m ks (with_good good applied k) later left (gone m applied k ks x none) order.1 (λ q h. bound q (inr h)) turn in
      record {
        rows = z.rows;
        within = λ q h. inr (z.within q h);
        lower = z.lower;
        kept = z.kept;
        order = z.order;
        few = omega (arith, z.few);
        same = λ h. absurd (omega (arith, h, z.few));
      }

  -- a key that a turn does not leave has its good row
  synced : (P : Key → Type 0) (ks : List Key) (applied later : TypedRows) (left : List Key) → IsTurn plan capacities good applied ks later left → ((q : Key) → (applied q ≡ good q) ⊎ (IsIn q ks ⊎ P q)) → (q : Key) → (later q ≡ good q) ⊎ (IsIn q left ⊎ P q)
  synced P [] applied later left (e, none) f q = by (f q)
    where
      by : (applied q ≡ good q) ⊎ (IsIn q [] ⊎ P q) → (later q ≡ good q) ⊎ (IsIn q left ⊎ P q)
      by (inl h) = inl (ap (λ (z : TypedRows). z q) e ∙ h)
      by (inr (inl h)) = elim h [ ]
      by (inr (inr h)) = inr (inr h)
  synced P (k ∷ ks) applied later left (inl (reason, rest, is, turn)) f q = back (synced (λ q. (q ≡ k) ⊎ P q) ks applied later rest turn (λ q. into q (f q)) q)
    where
      into : (q : Key) → (applied q ≡ good q) ⊎ (IsIn q (k ∷ ks) ⊎ P q) → (applied q ≡ good q) ⊎ (IsIn q ks ⊎ ((q ≡ k) ⊎ P q))
      into q (inl h) = inl h
      into q (inr (inl (inl e))) = inr (inr (inl e))
      into q (inr (inl (inr h))) = inr (inl h)
      into q (inr (inr h)) = inr (inr (inr h))

      back : (later q ≡ good q) ⊎ (IsIn q rest ⊎ ((q ≡ k) ⊎ P q)) → (later q ≡ good q) ⊎ (IsIn q left ⊎ P q)
      back (inl h) = inl h
      back (inr (inl h)) = inr (inl (subst (IsIn q) (sym is) (inr h)))
      back (inr (inr (inl e))) = inr (inl (subst (IsIn q) (sym is) (inl e)))
      back (inr (inr (inr h))) = inr (inr h)
  synced P (k ∷ ks) applied later left (inr (none, turn)) f q = synced P ks (with_good good applied k) later left turn (λ q. into q (with_good-by good applied k q) (f q)) q
    where
      into : (q : Key) → ((q ≡ k) × (with_good good applied k q ≡ good q)) ⊎ ((with_good good applied k q ≡ applied q) × (q ≡ k → ⊥)) → (applied q ≡ good q) ⊎ (IsIn q (k ∷ ks) ⊎ P q) → (with_good good applied k q ≡ good q) ⊎ (IsIn q ks ⊎ P q)
      into q (inl y) _ = inl y.1
      into q (inr y) (inl h) = inl (y.0 ∙ h)
      into q (inr y) (inr (inl (inl e))) = absurd (y.1 e)
      into q (inr y) (inr (inl (inr h))) = inr (inl h)
      into q (inr y) (inr (inr h)) = inr (inr h)

  -- ---- turns

  record Turns (m : ℕ) (applied : TypedRows) (keys : List Key) : Type 0 where
    rows : AreBetween applied
    sync : AreSynced good applied keys
    order : AreByLevel keys
    bound : (q : Key) → IsIn q keys → level_of q < m
    away : (3 < m) ⊎ ((q : Key) → IsLackedAddress good q → applied q ≡ None)

  before : (m : ℕ) (applied : TypedRows) (keys : List Key) → Turns (suc m) applied keys → Before m applied keys
  before m applied keys x = record { rows = x.rows; there = λ q. there_by q (good q) refl (x.sync q); high = λ q above. by q above (x.sync q); away = away_by x.away }
    where
      there_by : (q : Key) (o : Option Row) → good q ≡ o → (applied q ≡ good q) ⊎ IsIn q keys → (good q ≡ None) ⊎ (IsAddress q ⊎ ((is_some (applied q) ≡ true) ⊎ IsIn q keys))
      there_by q None e h = inl e
      there_by q (Some r) e (inl same) = inr (inr (inl (ap is_some (same ∙ e))))
      there_by q (Some r) e (inr h) = inr (inr (inr h))

      by : (q : Key) → m < level_of q → (applied q ≡ good q) ⊎ IsIn q keys → applied q ≡ good q
      by q above (inl h) = h
      by q above (inr h) = absurd (omega (arith, above, x.bound q h))

      away_by : (3 < suc m) ⊎ ((q : Key) → IsLackedAddress good q → applied q ≡ None) → (2 < m) ⊎ ((q : Key) → IsLackedAddress good q → applied q ≡ None)
      away_by (inl first) = inl (omega (arith, first))
      away_by (inr none) = inr none

  after : (m : ℕ) (applied later : TypedRows) (keys left : List Key) → Turns (suc m) applied keys → IsTurn plan capacities good applied keys later left → Turns m later left × Turned m keys later left
  after m applied later keys left x turn =
      let y = turned m keys applied later left (before m applied keys x) x.order x.bound turn in
      (record { rows = y.rows; sync = sync; order = y.order; bound = y.lower; away = inr (λ q lacked. lacked_by y q lacked (sync q)) }, y)
    where
      into : (q : Key) → (applied q ≡ good q) ⊎ IsIn q keys → (applied q ≡ good q) ⊎ (IsIn q keys ⊎ ⊥)
      into q (inl h) = inl h
      into q (inr h) = inr (inl h)

      by : (q : Key) → (later q ≡ good q) ⊎ (IsIn q left ⊎ ⊥) → (later q ≡ good q) ⊎ IsIn q left
      by q (inl h) = inl h
      by q (inr (inl h)) = inr h
      by q (inr (inr h)) = elim h [ ]

      sync : AreSynced good later left
      sync q = by q (synced (λ q. ⊥) keys applied later left turn (λ q. into q (x.sync q)) q)

      lacked_by : Turned m keys later left → (q : Key) → IsLackedAddress good q → (later q ≡ good q) ⊎ IsIn q left → later q ≡ None
      lacked_by y q lacked (inl h) = h ∙ lacked_none good q lacked
      lacked_by y q lacked (inr h) = absurd (y.kept q h lacked)

  no_key : {X : Type 0} (keys : List Key) → ((q : Key) → IsIn q keys → level_of q < 0) → 0 < length keys → X
  no_key [] f h = absurd (omega (arith, h))
  no_key (k ∷ ks) f h = absurd (omega (arith, f k (inl refl)))

  -- a turn over some keys takes one away
  takes : {X : Type 0} (m : ℕ) (applied later : TypedRows) (keys left : List Key) → Turns m applied keys → IsTurn plan capacities good applied keys later left → length left ≡ length keys → 0 < length keys → X
  takes zero applied later keys left x turn e some = no_key keys x.bound some
  takes (suc m) applied later keys left x turn e some =
      let y = (after m applied later keys left x turn).1 in
      takes m applied later keys left (record { rows = x.rows; sync = x.sync; order = x.order; bound = λ q h. y.lower q (subst (IsIn q) (sym (y.same e)) h); away = inr (λ q lacked. by y q lacked (x.sync q)) }) turn e some
    where
      by : Turned m keys later left → (q : Key) → IsLackedAddress good q → (applied q ≡ good q) ⊎ IsIn q keys → applied q ≡ None
      by y q lacked (inl h) = h ∙ lacked_none good q lacked
      by y q lacked (inr h) = absurd (y.kept q (subst (IsIn q) (sym (y.same e)) h) lacked)

  turns : (n m : ℕ) (applied later : TypedRows) (keys left : List Key) → Turns m applied keys → TakeTurns plan capacities good n applied keys later left → (left ≡ []) × (n ≤ m) × ((k : Key) → later k ≡ good k)
  turns zero m applied later keys left x (none, same, is) = (is, (omega arith), λ k. ap (λ (z : TypedRows). z k) same ∙ by k (x.sync k))
    where
      by : (k : Key) → (applied k ≡ good k) ⊎ IsIn k keys → applied k ≡ good k
      by k (inl h) = h
      by k (inr h) = absurd (subst (IsIn k) none h)
  turns (suc n) zero applied later keys left x (some, mid, rest, turn, end) = no_key keys x.bound some
  turns (suc n) (suc m) applied later keys left x (some, mid, rest, turn, inl (e, one, same, is)) = takes (suc m) applied mid keys rest x turn e some
  turns (suc n) (suc m) applied later keys left x (some, mid, rest, turn, inr (less, more)) =
      let y = turns n m mid later rest left (after m applied mid keys rest x turn).0 more in
      (y.0, (omega (arith, y.1)), y.2)

  four_from : (n : ℕ) (later : TypedRows) (keys left : List Key) → AreSynced good old keys → AreInKeyOrder keys → TakeTurns plan capacities good n old keys later left → (left ≡ []) × (n ≤ 4) × ((k : Key) → later k ≡ good k)
  four_from n later keys left sync rising h = turns n 4 old later keys left (record { rows = at_first plan capacities good closed typed old rest still names found; sync = sync; order = by_level keys rising; bound = λ q at. low q; away = inl (omega arith) }) h

-- from rows at rest turns leave no key, are at most four, and bring each key its good row
pub four : (plan : Ports) (capacities : List ℕ) (good : TypedRows) → IsClosed good → HaveInterfaces good → (old : TypedRows) → AreAtRest plan capacities old → IsStill old good → HasRoomTogether plan capacities old good → (n : ℕ) (later : TypedRows) (keys left : List Key) → AreSynced good old keys → AreInKeyOrder keys → TakeTurns plan capacities good n old keys later left → (left ≡ []) × (n ≤ 4) × ((k : Key) → later k ≡ good k)
four plan capacities good closed typed old rest still room n later keys left sync rising h = four_from plan capacities good closed typed old rest still room (rest.keys ++ keys) found n later keys left sync rising h
  where
    found : (k : Key) (r : Row) → good k ≡ Some r → IsIn k (rest.keys ++ keys)
    found k r at = by (sync k)
      where
        by : (old k ≡ good k) ⊎ IsIn k keys → IsIn k (rest.keys ++ keys)
        by (inl e) = in-left k rest.keys keys (rest.all k r (e ∙ at))
        by (inr i) = in-right k rest.keys keys i
