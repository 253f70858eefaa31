-- the counted members of a group, and those with one next hop: they stand together, from the first that there may be
use Rattle.std.proofs.Common.{◌≡◌, ℕ, ◌<◌, ◌+◌, nat_cmp, Bool, true, false, cond, ◌||◌, ◌&&◌, List, [], ◌∷◌, ◌++◌, map, Ordering, refl, sym, ap, ◌∙◌, arith}
use Rattle.std.specs.declared.cmp.Ordering.TheVariants.{Less, Equal, Greater}
use Rattle.std.specs.declared.ops.Bound.TheVariants.{Included, Unbounded}
use Rattle.std.specs.Ordering.{MatchOrdering, is_eq, is_le, ordering_then}
use Rattle.std.specs.BTreeMap.Range.{entries_between}
use Rattle.std.specs.Cmp.{IsTotalOrder, both_tied}
use Rattle.std.specs.List.{AllByRecursion, filter, list_any}
use Rattle.std.specs.List.Sorted.{IsStrictlySortedBy}
use Rattle.std.specs.Map.{keys_of}
use Rattle.std.proofs.lemmas.Cmp.{alike_right, nat_cmp_total, on_total, ranked, then_total, tied_itself}
use Rattle.std.proofs.lemmas.List.{append-nil}
use Rattle.std.proofs.lemmas.Map.Keys.{sorted_head, sorted_tail}
use Rattle.sai_types.specs.declared.ids.Rid.{Rid}
use Rattle.sai_types.specs.contracts.ids.RidOrd.TheImpl.Laws as ordered_rid
use Rattle.sai_types.specs.Refusal.{same_id}
use Rattle.chip_names.specs.Naming.{rid_cmp}
use Rattle.chip_names.proofs.Ids.{rid_tied}
use Rattle.sai_chip.specs.Tally.{AreMembers, Member, has_member, member_cmp, pair_cmp}

abbrev pub Counted : Type 0
Counted = Member × ℕ

abbrev pub Members : Type 0
Members = List Counted

-- the least member that a group may have, and the least with one next hop
abbrev pub first_of : Rid → Member
first_of g = (g, record { 0 = 0 }, 1)

abbrev pub first_with : Rid → Rid → Member
first_with g n = (g, n, 1)

abbrev pub from : Member → Members → Members
from first es = entries_between member_cmp (Included first) Unbounded es

abbrev first_two : Member → Rid × Rid
first_two m = (m.0, m.1)

pub pair_total : IsTotalOrder pair_cmp
pair_total = then_total (on_total (λ (p : Rid × Rid). p.0) ordered_rid.total-law) (on_total (λ (p : Rid × Rid). p.1) ordered_rid.total-law)

pub member_total : IsTotalOrder member_cmp
member_total = then_total (on_total first_two pair_total) (on_total (λ (m : Member). m.2) nat_cmp_total)

pub group_tied : (g : Rid) → rid_cmp g g ≡ Equal
group_tied g = tied_itself ordered_rid.total-law g

-- ---- what is least

least_by : (m k : ℕ) (r : Ordering) → MatchOrdering r (m < k) (m ≡ k) (k < m) → m < k + 1 → is_le r ≡ true
least_by m k Less h small = refl
least_by m k Equal h small = refl
least_by m k Greater h small = absurd (omega (arith, h, small))

is_least : (m k : ℕ) → m < k + 1 → is_le (nat_cmp m k) ≡ true
is_least m k small = least_by m k (nat_cmp m k) (ranked m k (nat_cmp m k) refl) small

le_then : (r s : Ordering) → is_le s ≡ true → is_le (ordering_then r s) ≡ is_le r
le_then Less s h = refl
le_then Equal s h = h
le_then Greater s h = refl

le_first : (r s : Ordering) → is_le (ordering_then r s) ≡ true → is_le r ≡ true
le_first Less s h = refl
le_first Equal s h = refl
le_first Greater s h = h

-- ---- the front of what stands from the first on

abbrev pub with_front : {X : Type 0} → Bool → X → List X → List X
with_front false x xs = []
with_front true x xs = x ∷ xs

module _ {X : Type 0} (test : Counted → Bool) (of : Counted → X) where
  -- what those at the front give that pass a test
  abbrev pub front : Members → List X
  front [] = []
  front (e ∷ es) = with_front (test e) (of e) (front es)

  module _ {P : Type 0} (cmp : P → P → Ordering) (total : IsTotalOrder cmp) (part : Member → P) (p : P) (tied : (e : Counted) → test e ≡ is_eq (cmp p (part e.0))) (first : Member) (least : (k : Member) → 0 < k.2 → is_le (member_cmp first k) ≡ is_le (cmp p (part k))) (rises : (a b : Member) → member_cmp a b ≡ Less → is_le (cmp (part a) (part b)) ≡ true) where
    less_on : (x y : P) (r : Ordering) → cmp x y ≡ r → cmp p x ≡ Less → is_le r ≡ true → cmp p y ≡ Less
    less_on x y Less is less le = total.trans p x y less is
    less_on x y Equal is less le = sym (alike_right total x y p is) ∙ less
    less_on x y Greater is less le = absurd cc

    none_behind : (k : Member) (es : Members) → cmp p (part k) ≡ Less → AllByRecursion (λ y. member_cmp k y ≡ Less) (keys_of es) → map of (filter test es) ≡ []
    none_behind k [] less all = refl
    none_behind k (e ∷ es) less all =
        let apart : test e ≡ false = tied e ∙ ap is_eq (less_on (part k) (part e.0) _ refl less (rises k e.0 all.0)) in
        ap (λ b. map of (cond b (e ∷ filter test es) (filter test es))) apart ∙ none_behind k es less all.1

    front_step : (e : Counted) (es : Members) (r : Ordering) → cmp p (part e.0) ≡ r → 0 < e.0.2 → IsStrictlySortedBy member_cmp (keys_of (e ∷ es)) → front (from first es) ≡ map of (filter test es) → front (from first (e ∷ es)) ≡ map of (filter test (e ∷ es))
    front_step e es Less is some sorted rest =
        ap (λ b. front (cond (b && true) (e ∷ from first es) (from first es))) (least e.0 some ∙ ap is_le is)
        ∙ ap (λ b. with_front b (of e) (front (from first es))) (tied e ∙ ap is_eq is)
        ∙ sym (none_behind e.0 es is (sorted_head member_cmp e.0 (keys_of es) sorted))
        ∙ sym (ap (λ b. map of (cond b (e ∷ filter test es) (filter test es))) (tied e ∙ ap is_eq is))
    front_step e es Equal is some sorted rest =
        ap (λ b. front (cond (b && true) (e ∷ from first es) (from first es))) (least e.0 some ∙ ap is_le is)
        ∙ ap (λ b. with_front b (of e) (front (from first es))) (tied e ∙ ap is_eq is)
        ∙ ap (λ xs. of e ∷ xs) rest
        ∙ sym (ap (λ b. map of (cond b (e ∷ filter test es) (filter test es))) (tied e ∙ ap is_eq is))
    front_step e es Greater is some sorted rest =
        ap (λ b. front (cond (b && true) (e ∷ from first es) (from first es))) (least e.0 some ∙ ap is_le is)
        ∙ rest
        ∙ sym (ap (λ b. map of (cond b (e ∷ filter test es) (filter test es))) (tied e ∙ ap is_eq is))

    -- they are all that pass
    front-all : (es : Members) → IsStrictlySortedBy member_cmp (keys_of es) → AreMembers es → front (from first es) ≡ map of (filter test es)
    front-all [] sorted are = refl
    front-all (e ∷ es) sorted are = front_step e es (cmp p (part e.0)) refl are.0.0 sorted (front-all es (sorted_tail member_cmp e.0 (keys_of es) sorted) are.1)

-- ---- the members of a group

abbrev pub in_group : Rid → Counted → Bool
in_group g e = same_id e.0.0 g

abbrev pub weighed : Counted → Rid × ℕ
weighed e = (e.0.1, e.0.2)

abbrev pub group_front : Rid → Members → List (Rid × ℕ)
group_front g es = front (in_group g) weighed es

group_least : (g : Rid) (k : Member) → 0 < k.2 → is_le (member_cmp (first_of g) k) ≡ is_le (rid_cmp g k.0)
group_least g k some =
    le_then (ordering_then (rid_cmp g k.0) (rid_cmp (record { 0 = 0 }) k.1)) (nat_cmp 1 k.2) (is_least 1 k.2 (omega (arith, some)))
    ∙ le_then (rid_cmp g k.0) (rid_cmp (record { 0 = 0 }) k.1) (is_least 0 k.1.0 (omega arith))

group_rises : (a b : Member) → member_cmp a b ≡ Less → is_le (rid_cmp a.0 b.0) ≡ true
group_rises a b less = le_first (rid_cmp a.0 b.0) (rid_cmp a.1 b.1) (le_first (ordering_then (rid_cmp a.0 b.0) (rid_cmp a.1 b.1)) (nat_cmp a.2 b.2) (ap is_le less))

-- the next hops at the front of the counts from the group's first on are those of the group
pub group_front-all : (g : Rid) (es : Members) → IsStrictlySortedBy member_cmp (keys_of es) → AreMembers es → group_front g (from (first_of g) es) ≡ map weighed (filter (in_group g) es)
group_front-all g = front-all (in_group g) weighed rid_cmp ordered_rid.total-law (λ k. k.0) g (λ e. rid_tied g e.0.0) (first_of g) (group_least g) group_rises

-- where nothing is at the front of what is left, the members so far are all
pub group_front-done : (g : Rid) (ms all : List (Rid × ℕ)) (left : Members) → group_front g left ≡ [] → ms ++ group_front g left ≡ all → ms ≡ all
group_front-done g ms all left none kept = sym (append-nil ms) ∙ ap (λ ns. ms ++ ns) (sym none) ∙ kept

-- ---- the weights of a next hop in a group

abbrev pub with_next_hop : Rid → Rid → Counted → Bool
with_next_hop g n e = same_id e.0.0 g && same_id e.0.1 n

abbrev itself : Counted → Counted
itself e = e

pair_tied : (g n h m : Rid) → (same_id h g && same_id m n) ≡ is_eq (pair_cmp (g, n) (h, m))
pair_tied g n h m = both_tied (same_id h g) (same_id m n) (rid_cmp g h) (rid_cmp n m) (rid_tied g h) (rid_tied n m)

pair_least : (g n : Rid) (k : Member) → 0 < k.2 → is_le (member_cmp (first_with g n) k) ≡ is_le (pair_cmp (g, n) (k.0, k.1))
pair_least g n k some = le_then (pair_cmp (g, n) (k.0, k.1)) (nat_cmp 1 k.2) (is_least 1 k.2 (omega (arith, some)))

pair_rises : (a b : Member) → member_cmp a b ≡ Less → is_le (pair_cmp (a.0, a.1) (b.0, b.1)) ≡ true
pair_rises a b less = le_first (pair_cmp (a.0, a.1) (b.0, b.1)) (nat_cmp a.2 b.2) (ap is_le less)

abbrev heads : (Counted → Bool) → Members → Bool
heads test [] = false
heads test (e ∷ es) = test e

some_front : (test : Counted → Bool) (e : Counted) (es : List Counted) (b : Bool) → test e ≡ b → test e ≡ list_any test (with_front b e es)
some_front test e es true is = is ∙ sym (ap (λ b. b || list_any test es) is)
some_front test e es false is = is

heads-front : (test : Counted → Bool) (es : Members) → heads test es ≡ list_any test (front test itself es)
heads-front test [] = refl
heads-front test (e ∷ es) = some_front test e (front test itself es) (test e) refl

some_filter : (test : Counted → Bool) (e : Counted) (es rest : Members) (b : Bool) → test e ≡ b → list_any test (map itself rest) ≡ list_any test es → list_any test (map itself (cond b (e ∷ rest) rest)) ≡ (test e || list_any test es)
some_filter test e es rest true is same = ap (λ b. test e || b) same
some_filter test e es rest false is same = same ∙ sym (ap (λ b. b || list_any test es) is)

any-filter : (test : Counted → Bool) (es : Members) → list_any test (map itself (filter test es)) ≡ list_any test es
any-filter test [] = refl
any-filter test (e ∷ es) = some_filter test e es (filter test es) (test e) refl (any-filter test es)

-- the first from the least on has the next hop where one has it
pub heads-any : (g n : Rid) (es : Members) → IsStrictlySortedBy member_cmp (keys_of es) → AreMembers es → heads (with_next_hop g n) (from (first_with g n) es) ≡ has_member es g n
heads-any g n es sorted are =
    heads-front (with_next_hop g n) (from (first_with g n) es)
    ∙ ap (list_any (with_next_hop g n)) (front-all (with_next_hop g n) itself pair_cmp pair_total first_two (g, n) (λ e. pair_tied g n e.0.0 e.0.1) (first_with g n) (pair_least g n) pair_rises es sorted are)
    ∙ any-filter (with_next_hop g n) es

-- what the first says of all, where there is one and where there is none
pub first-says : (g n : Rid) (es rest : Members) (e : Counted) → IsStrictlySortedBy member_cmp (keys_of es) → AreMembers es → from (first_with g n) es ≡ e ∷ rest → (same_id e.0.0 g && same_id e.0.1 n) ≡ has_member es g n
first-says g n es rest e sorted are is = sym (ap (heads (with_next_hop g n)) is) ∙ heads-any g n es sorted are

pub none-says : (g n : Rid) (es : Members) → IsStrictlySortedBy member_cmp (keys_of es) → AreMembers es → from (first_with g n) es ≡ [] → false ≡ has_member es g n
none-says g n es sorted are is = sym (ap (heads (with_next_hop g n)) is) ∙ heads-any g n es sorted are
