-- who is above, as the alarms tell, and as the thresholds bound it
use Rattle.std.proofs.Common.{◌≡◌, ◌⊎◌, inl, inr, ℕ, ◌+◌, ◌*◌, ◌<◌, ◌==◌, Bool, true, false, not, ◌&&◌, ◌||◌, cond, nat_le, nat_lt, List, [], ◌∷◌, ◌++◌, length, fold, Option, Some, None, refl, sym, ap, ◌∙◌, subst, append_assoc, arith}
use Rattle.std.specs.Option.{option_and_then}
use Rattle.std.proofs.Math.Nat.{mul-lt-mul_of_pos_right}
use Rattle.std.proofs.lemmas.Bool.{and_cases, and_parts, eq-eqb, eqb-false, eqb-true, leb-false, leb-true, ltb-true, not-false, not-true, or_cases, or_parts}
use Rattle.std.proofs.lemmas.List.{append-nil}
use Rattle.std.proofs.lemmas.List.Sums.{fold-append}
use Rattle.sai_types.specs.declared.ids.Rid.{Rid}
use Rattle.sai_types.specs.declared.kind.Kind.{Kind}
use Rattle.sai_types.specs.declared.body.Call.{Call}
use Rattle.sai_types.specs.Made.{AreLegal}
use Rattle.sai_types.specs.Objects.{level, used}
use Rattle.sai_types.specs.Refusal.{IsLegal, capacity_of}
use Rattle.crm_counts.specs.declared.alarm.Alarm.{Alarm}
use Rattle.crm_counts.specs.Above.{is_above_after}
use Rattle.crm_counts.specs.Alarms.{Limits, alarm_between, alarm_of, alarms_among, is_above_behind, numbered_alarm, told_by}
use Rattle.crm_counts.specs.Effects.{chip_of, kind_changed}
use Rattle.crm_counts.proofs.Chips.{above-stays, legal-split, settled}
use Rattle.crm_counts.proofs.Counting.{counted-others, is_touched}
use Rattle.crm_counts.proofs.Uses.{level-exact}

-- whether a kind is above, as one effect tells
abbrev told_if : Kind → Bool → Option Alarm → Bool
told_if k before None = before
told_if k before (Some a) = told_by k before a

told_same : (k : Kind) (old new : Bool) → (level k == level k) ≡ true → new ≡ told_if k old (alarm_between k old new)
told_same k false false is = refl
told_same k false true is = ap (λ t. cond t true false) (sym is)
told_same k true false is = ap (λ t. cond t false true) (sym is)
told_same k true true is = refl

told_other : (l k : Kind) (before old new : Bool) → (level l == level k) ≡ false → before ≡ told_if k before (alarm_between l old new)
told_other l k before false false is = refl
told_other l k before false true is = ap (λ t. cond t true before) (sym is)
told_other l k before true false is = ap (λ t. cond t false before) (sym is)
told_other l k before true true is = refl

told_some : (old new : Kind → Bool) (k l : Kind) (t : Bool) → (level l == level k) ≡ t → (t ≡ false → new k ≡ old k) → new k ≡ told_if k (old k) (alarm_between l (old l) (new l))
told_some old new k l true same stays = subst (λ j. new k ≡ told_if k (old k) (alarm_between j (old j) (new j))) (sym (level-exact l k same)) (told_same k (old k) (new k) (eq-eqb (level k) (level k) refl))
told_some old new k l false same stays = stays refl ∙ told_other l k (old k) (old l) (new l) same

told_at : (old new : Kind → Bool) (k : Kind) (o : Option Kind) → (is_touched o k ≡ false → new k ≡ old k) → new k ≡ told_if k (old k) (option_and_then (λ l. alarm_between l (old l) (new l)) o)
told_at old new k None stays = stays refl
told_at old new k (Some l) stays = told_some old new k l (level l == level k) refl stays

numbered_told : (k : Kind) (before : Bool) (n : ℕ) (o : Option Alarm) → fold (λ (b : Bool) (a : ℕ × Alarm). told_by k b a.1) before (numbered_alarm n o) ≡ told_if k before o
numbered_told k before n None = refl
numbered_told k before n (Some a) = refl

module _ (limits : Limits) (k : Kind) (less : limits.low < limits.high) where
  -- an effect tells whether the kind is above then
  told_once : (effects : List (Call Rid)) (c : Call Rid) → AreLegal limits.capacities 0 [] effects → IsLegal limits.capacities (chip_of effects) c → is_above_behind limits (effects ++ c ∷ []) k ≡ told_if k (is_above_behind limits effects k) (alarm_of limits effects c)
  told_once effects c legal next = told_at (is_above_behind limits effects) (is_above_behind limits (effects ++ c ∷ [])) k (kind_changed (chip_of effects) c) (λ apart.
      above-stays limits.high limits.low (capacity_of limits.capacities k) k effects c less (counted-others limits.capacities effects legal c next k apart))

  abbrev pub told_along : Bool → List (ℕ × Alarm) → Bool
  told_along before alarms = fold (λ b a. told_by k b a.1) before alarms

  told_among : (past cs : List (Call Rid)) → AreLegal limits.capacities 0 [] (past ++ cs) → is_above_behind limits (past ++ cs) k ≡ told_along (is_above_behind limits past k) (alarms_among limits past cs)
  told_among past [] legal = ap (λ effects. is_above_behind limits effects k) (append-nil past)
  told_among past (c ∷ cs) legal =
      let parts = legal-split limits.capacities 0 [] past c cs legal in
      let whole = append_assoc past (c ∷ []) cs in
      let first = numbered_alarm (length past + 1) (alarm_of limits past c) in
      let rest = alarms_among limits (past ++ c ∷ []) cs in
      ap (λ effects. is_above_behind limits effects k) (sym whole)
      ∙ told_among (past ++ c ∷ []) cs (subst (AreLegal limits.capacities 0 []) (sym whole) legal)
      ∙ ap (λ b. told_along b rest) (told_once past c parts.0 parts.1 ∙ sym (numbered_told k (is_above_behind limits past k) (length past + 1) (alarm_of limits past c)))
      ∙ sym (fold-append (λ (b : Bool) (a : ℕ × Alarm). told_by k b a.1) (is_above_behind limits past k) first rest)

  -- the last alarm tells it
  pub told-above : (effects : List (Call Rid)) → AreLegal limits.capacities 0 [] effects → is_above_behind limits effects k ≡ told_along false (alarms_among limits [] effects)
  told-above effects legal = told_among [] effects legal

  module _ (effects : List (Call Rid)) where
    abbrev pub capacity : ℕ
    capacity = capacity_of limits.capacities k

    abbrev pub count : ℕ
    count = used (chip_of effects) k

    last : is_above_after limits.high limits.low capacity (is_above_behind limits effects k) count ≡ is_above_behind limits effects k
    last = settled limits.high limits.low capacity k effects less

    more_by : (nat_le (limits.high * capacity) (count * 100) ≡ true) ⊎ ((true && nat_lt (limits.low * capacity) (count * 100)) ≡ true) → 0 < capacity → limits.low * capacity < count * 100
    more_by (inl full) some =
        let least = leb-true (limits.high * capacity) (count * 100) full in
        let apart = mul-lt-mul_of_pos_right {m = limits.low} {n = limits.high} less some in omega (arith, least, apart)
    more_by (inr more) some = ltb-true (limits.low * capacity) (count * 100) more

    -- above there are more than the low threshold
    pub more-above : is_above_behind limits effects k ≡ true → limits.low * capacity < count * 100
    more-above above =
        let parts = and_parts _ _ (ap (λ b. is_above_after limits.high limits.low capacity b count) (sym above) ∙ last ∙ above) in
        let apart = eqb-false capacity 0 (not-true (capacity == 0) parts.0) in
        let some : 0 < capacity = omega (arith, apart) in more_by (or_cases _ _ parts.1) some

    fewer_by : (not (capacity == 0) ≡ false) ⊎ ((nat_le (limits.high * capacity) (count * 100) || false && nat_lt (limits.low * capacity) (count * 100)) ≡ false) → (capacity ≡ 0) ⊎ (count * 100 < limits.high * capacity)
    fewer_by (inl none) = inl (eqb-true capacity 0 (not-false (capacity == 0) none))
    fewer_by (inr few) = inr (leb-false (limits.high * capacity) (count * 100) (or_parts _ _ few).0)

    -- and else fewer than the high one, or there is no capacity
    pub fewer-below : is_above_behind limits effects k ≡ false → (capacity ≡ 0) ⊎ (count * 100 < limits.high * capacity)
    fewer-below below = fewer_by (and_cases _ _ (ap (λ b. is_above_after limits.high limits.low capacity b count) (sym below) ∙ last ∙ below))
