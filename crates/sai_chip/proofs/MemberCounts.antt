-- how often members are counted, where neither weights nor counts are 0
use Rattle.std.proofs.Common.{◌≡◌, ℕ, ◌<◌, ◌==◌, nat_lt, nat_cmp, Bool, true, false, cond, ◌||◌, ◌&&◌, [], ◌∷◌, map, Option, Some, Ordering, refl, sym, ap, ◌∙◌}
use Rattle.std.specs.declared.cmp.Ordering.TheVariants.{Less, Equal, Greater}
use Rattle.std.specs.BTreeMap.{insert_entry, is_at}
use Rattle.std.specs.Cmp.{both_tied}
use Rattle.std.specs.List.{filter, list_any}
use Rattle.std.specs.Map.{lookup, remove_entry, set_value}
use Rattle.std.specs.Option.{unwrap_or}
use Rattle.std.specs.Ordering.{match_ordering, ordering_then}
use Rattle.std.proofs.lemmas.Bool.{eq-eqb, lt-ltb, or_parts}
use Rattle.sai_types.specs.declared.ids.Rid.{Rid}
use Rattle.sai_types.specs.Refusal.{same_id}
use Rattle.sai_types.proofs.Apart.{same_id-symm}
use Rattle.chip_names.specs.Naming.{rid_cmp}
use Rattle.chip_names.proofs.Ids.{rid_tied}
use Rattle.sai_chip.specs.Tally.{AreMembers, Member, count_in, has_member, member_cmp, same_member}
use Rattle.sai_chip.proofs.Indexed.{is_at-nat_cmp}
use Rattle.sai_chip.proofs.MarkRanges.{Counted, Members, in_group, weighed}
use Rattle.sai_chip.proofs.Passing.{and_regrouped, or_true}

-- ---- where the count of one changes

put_step : (k : Member) (n : ℕ) (e : Counted) (es ds : Members) (r : Ordering) → 0 < k.2 → 0 < n → AreMembers (e ∷ es) → AreMembers ds → AreMembers (match_ordering r ((k, n) ∷ e ∷ es) ((e.0, n) ∷ es) (e ∷ ds))
put_step k n e es ds Less heavy some are rest = ((heavy, some), are)
put_step k n e es ds Equal heavy some are rest = ((are.0.0, some), are.1)
put_step k n e es ds Greater heavy some are rest = (are.0, rest)

pub members-put : (k : Member) (n : ℕ) (es : Members) → 0 < k.2 → 0 < n → AreMembers es → AreMembers (insert_entry member_cmp es k n)
members-put k n [] heavy some are = ((heavy, some), tt)
members-put k n (e ∷ es) heavy some are = put_step k n e es (insert_entry member_cmp es k n) (member_cmp k e.0) heavy some are (members-put k n es heavy some are.1)

set_step : (n : ℕ) (e : Counted) (es ds : Members) (b : Bool) → 0 < n → AreMembers (e ∷ es) → AreMembers ds → AreMembers (cond b ((e.0, n) ∷ es) (e ∷ ds))
set_step n e es ds true some are rest = ((are.0.0, some), are.1)
set_step n e es ds false some are rest = (are.0, rest)

pub members-set : (test : Member → Bool) (n : ℕ) (es : Members) → 0 < n → AreMembers es → AreMembers (set_value test es n)
members-set test n [] some are = tt
members-set test n (e ∷ es) some are = set_step n e es (set_value test es n) (test e.0) some are (members-set test n es some are.1)

removed_step : (e : Counted) (es ds : Members) (b : Bool) → AreMembers (e ∷ es) → AreMembers ds → AreMembers (cond b es (e ∷ ds))
removed_step e es ds true are rest = are.1
removed_step e es ds false are rest = (are.0, rest)

pub members-removed : (test : Member → Bool) (es : Members) → AreMembers es → AreMembers (remove_entry test es)
members-removed test [] are = tt
members-removed test (e ∷ es) are = removed_step e es (remove_entry test es) (test e.0) are (members-removed test es are.1)

-- ---- which are counted

-- a member is at a key where group, next hop and weight are
pub member_tied : (g n : Rid) (w : ℕ) (k : Member) → ((same_id k.0 g && same_id k.1 n) && w == k.2) ≡ is_at (member_cmp (g, n, w)) k
member_tied g n w k =
    both_tied (same_id k.0 g && same_id k.1 n) (w == k.2) (ordering_then (rid_cmp g k.0) (rid_cmp n k.1)) (nat_cmp w k.2)
    (both_tied (same_id k.0 g) (same_id k.1 n) (rid_cmp g k.0) (rid_cmp n k.1) (rid_tied g k.0) (rid_tied n k.1))
    (sym (is_at-nat_cmp w k.2))

module _ (g n : Rid) (w : ℕ) where
  abbrev counted : Members → Bool
  counted es = nat_lt 0 (count_in member_cmp es (g, n, w))

  counted_by : (b : Bool) (c : ℕ) (o : Option ℕ) → 0 < c → nat_lt 0 (unwrap_or (cond b (Some c) o) 0) ≡ (b || nat_lt 0 (unwrap_or o 0))
  counted_by true c o some = lt-ltb 0 c some
  counted_by false c o some = refl

  counted-cons : (e : Counted) (es : Members) → 0 < e.1 → counted (e ∷ es) ≡ (((same_id e.0.0 g && same_id e.0.1 n) && w == e.0.2) || counted es)
  counted-cons e es some =
      counted_by (is_at (member_cmp (g, n, w)) e.0) e.1 (lookup (is_at (member_cmp (g, n, w))) es) some
      ∙ ap (λ b. b || counted es) (sym (member_tied g n w e.0))

  grouped_by : (b : Bool) (e : Counted) (es : Members) → list_any (same_member (n, w)) (map weighed (cond b (e ∷ es) es)) ≡ ((b && same_member (n, w) (weighed e)) || list_any (same_member (n, w)) (map weighed es))
  grouped_by true e es = refl
  grouped_by false e es = refl

  -- the members of a group are those that are counted for it
  pub grouped-counted : (es : Members) → AreMembers es → list_any (same_member (n, w)) (map weighed (filter (in_group g) es)) ≡ counted es
  grouped-counted [] are = refl
  grouped-counted (e ∷ es) are =
      grouped_by (in_group g e) e (filter (in_group g) es)
      ∙ ap (λ b. (same_id e.0.0 g && (b && w == e.0.2)) || list_any (same_member (n, w)) (map weighed (filter (in_group g) es))) (same_id-symm n e.0.1)
      ∙ ap (λ b. b || list_any (same_member (n, w)) (map weighed (filter (in_group g) es))) (and_regrouped (same_id e.0.0 g) (same_id e.0.1 n) (w == e.0.2))
      ∙ ap (λ b. ((same_id e.0.0 g && same_id e.0.1 n) && w == e.0.2) || b) (grouped-counted es are.1)
      ∙ sym (counted-cons e es are.0.1)

  -- a next hop that no member has is counted with no weight
  pub has_member-none : (es : Members) → AreMembers es → has_member es g n ≡ false → counted es ≡ false
  has_member-none [] are none = refl
  has_member-none (e ∷ es) are none =
      let parts = or_parts (same_id e.0.0 g && same_id e.0.1 n) (has_member es g n) none in
      counted-cons e es are.0.1
      ∙ ap (λ b. (b && w == e.0.2) || counted es) parts.0
      ∙ has_member-none es are.1 parts.1

module _ (g n : Rid) where
  some_step : (e : Counted) (es : Members) (b : Bool) → AreMembers (e ∷ es) → (same_id e.0.0 g && same_id e.0.1 n) ≡ b → (b || has_member es g n) ≡ true → (has_member es g n ≡ true → (w : ℕ) × (counted g n w es ≡ true)) → (w : ℕ) × (counted g n w (e ∷ es) ≡ true)
  some_step e es true are is some rest = (
    e.0.2,
    counted-cons g n e.0.2 e es are.0.1
        ∙ ap (λ b. (b && e.0.2 == e.0.2) || counted g n e.0.2 es) is
        ∙ ap (λ b. b || counted g n e.0.2 es) (eq-eqb e.0.2 e.0.2 refl),
  )
  some_step e es false are is some rest =
      let one = rest some in (
        one.0,
        counted-cons g n one.0 e es are.0.1
            ∙ ap (λ b. ((same_id e.0.0 g && same_id e.0.1 n) && one.0 == e.0.2) || b) one.1
            ∙ or_true ((same_id e.0.0 g && same_id e.0.1 n) && one.0 == e.0.2),
      )

  -- and one that a member has with some weight
  pub has_member-some : (es : Members) → AreMembers es → has_member es g n ≡ true → (w : ℕ) × (counted g n w es ≡ true)
  has_member-some [] are some = absurd cc
  has_member-some (e ∷ es) are some = some_step e es (same_id e.0.0 g && same_id e.0.1 n) are refl some (has_member-some es are.1)
