-- the turns of steps are those of their changes
use Rattle.std.proofs.Common.{◌≡◌, ◌⊎◌, inl, inr, ℕ, suc, ◌+◌, ◌-◌, ◌*◌, ◌<◌, ◌≤◌, false, List, [], ◌∷◌, length, Ordering, refl, sym, ap, ◌∙◌, subst, arith, nat_cmp, IsSorted}
use Rattle.std.specs.declared.cmp.Ordering.TheVariants.{Less, Equal, Greater}
use Rattle.std.specs.Cmp.{nat_cmp_is}
use Rattle.std.specs.List.{slice_index_or}
use Rattle.std.specs.Ordering.{is_lt, ordering_then}
use Rattle.std.proofs.lemmas.Bool.{false≢true}
use Rattle.std.proofs.lemmas.Map.Keys.{ge_from_not_lt}
use Rattle.swss_types.specs.AddressOrder.{prefix_cmp}
use Rattle.sai_types.specs.declared.kind.Kind.{Kind}
use Rattle.sai_types.specs.declared.kind.Kind.TheVariants as kind
use Rattle.sai_types.specs.Alike.{IsIn}
use Rattle.sai_types.specs.Objects.{level}
use Rattle.apply_order.specs.Ranks.{timed_cmp}
use Rattle.apply_order.specs.Turns.{phase, phase_order, rank_order}
use Rattle.apply_order.specs.declared.ranks.Rank.{Rank}
use Rattle.apply_order.specs.declared.ranks.Rank.TheVariants as rank
use Rattle.apply_order.specs.declared.ranks.Timed.{Timed}
use Rattle.apply_order.proofs.Turns.{turns-by_parts}

-- ---- two steps in their order

then_not : (o p : Ordering) → is_lt (ordering_then o p) ≡ false → is_lt o ≡ false
then_not Less p h = h
then_not Equal p h = refl
then_not Greater p h = refl

in_phases : (m n : ℕ) (o : Ordering) → is_lt (ordering_then (nat_cmp m n) o) ≡ false → (n < m) ⊎ ((m ≡ n) × (is_lt o ≡ false))
in_phases m n o h = by (compare m n)
  where
    compare : (m n : ℕ) → (m < n) ⊎ ((m ≡ n) ⊎ (n < m))
    compare m n = grind arith

    by : (m < n) ⊎ ((m ≡ n) ⊎ (n < m)) → (n < m) ⊎ ((m ≡ n) × (is_lt o ≡ false))
    by (inl less) = absurd (false≢true (sym h ∙ ap (λ r. is_lt (ordering_then r o)) (sym (nat_cmp_is m n Less less))))
    by (inr (inl same)) = inr (same, ap (λ r. is_lt (ordering_then r o)) (nat_cmp_is m n Equal same) ∙ h)
    by (inr (inr more)) = inl more

-- the highest level of a kind
abbrev pub top_level : ℕ
top_level = level kind.Route

pub level_most : (k : Kind) → level k ≤ top_level
level_most kind.Port = omega arith
level_most kind.Vlan = omega arith
level_most kind.VirtualRouter = omega arith
level_most kind.BridgePort = omega arith
level_most kind.VlanMember = omega arith
level_most kind.Rif = omega arith
level_most kind.OwnAddress = omega arith
level_most kind.Neighbor = omega arith
level_most kind.NextHop = omega arith
level_most kind.Group = omega arith
level_most kind.GroupMember = omega arith
level_most kind.Route = omega arith

-- ---- a hitless plan

-- the rank of a change whose step has this one
abbrev pub hitless_value : Rank → ℕ
hitless_value (rank.Clear k) = 0
hitless_value (rank.Build k) = 0
hitless_value (rank.Make k) = level k
hitless_value (rank.Set k) = 400 + level k
hitless_value (rank.MakeRoute l p) = 728 - l.0
hitless_value (rank.SetRoute p) = 800
hitless_value (rank.RemoveRoute l p) = 1000 + l
hitless_value (rank.Remove k) = 1400 - level k.0

-- a rank of a hitless plan, of proper prefixes
abbrev pub IsHitlessRank : Rank → Type 0
IsHitlessRank (rank.Clear k) = ⊥
IsHitlessRank (rank.Build k) = ⊥
IsHitlessRank (rank.MakeRoute l p) = l.0 ≤ 128
IsHitlessRank (rank.RemoveRoute l p) = l ≤ 128
IsHitlessRank _ = Unit {0}

record IsWithin (r : Rank) : Type 0 where
  first : 2 ≤ phase r
  last : phase r ≤ 7
  low : 3 ≤ phase r → 190 * phase r ≤ hitless_value r + 170
  high : phase r ≤ 6 → hitless_value r < 190 * phase r + 20

within : (r : Rank) → IsHitlessRank r → IsWithin r
within (rank.Clear k) h = absurd h
within (rank.Build k) h = absurd h
within (rank.Make k) h = let most = level_most k in record { first = omega arith; last = omega arith; low = λ x. omega (arith, x); high = λ x. omega (arith, most) }
within (rank.Set k) h = let most = level_most k in record { first = omega arith; last = omega arith; low = λ x. omega arith; high = λ x. omega (arith, most) }
within (rank.MakeRoute l p) h = record { first = omega arith; last = omega arith; low = λ x. omega (arith, h); high = λ x. omega (arith, h) }
within (rank.SetRoute p) h = record { first = omega arith; last = omega arith; low = λ x. omega arith; high = λ x. omega arith }
within (rank.RemoveRoute l p) h = record { first = omega arith; last = omega arith; low = λ x. omega (arith, h); high = λ x. omega (arith, h) }
within (rank.Remove k) h = let most = level_most k.0 in record { first = omega arith; last = omega arith; low = λ x. omega (arith, most); high = λ x. omega (arith, x) }

by_phase : (r s : Rank) → IsHitlessRank r → IsHitlessRank s → phase s < phase r → hitless_value s ≤ hitless_value r
by_phase r s x y h =
    let a = within r x in
    let b = within s y in
    let first = b.first in
    let last = a.last in
    let low = a.low (omega (arith, first, h)) in
    let high = b.high (omega (arith, last, h)) in
    omega (arith, low, high, h)

in_phase : (r s : Rank) → IsHitlessRank r → IsHitlessRank s → phase r ≡ phase s → is_lt (phase_order r s) ≡ false → hitless_value s ≤ hitless_value r
in_phase (rank.Make k) (rank.Make l) x y e h = ge_from_not_lt (level k) (level l) h
in_phase (rank.Set k) (rank.Set l) x y e h = let less = ge_from_not_lt (level k) (level l) h in omega (arith, less)
in_phase (rank.MakeRoute m p) (rank.MakeRoute n q) x y e h = let less = ge_from_not_lt n.0 m.0 (then_not (nat_cmp n.0 m.0) (prefix_cmp p q) h) in omega (arith, less)
in_phase (rank.SetRoute p) (rank.SetRoute q) x y e h = omega arith
in_phase (rank.RemoveRoute m p) (rank.RemoveRoute n q) x y e h = let less = ge_from_not_lt m n (then_not (nat_cmp m n) (prefix_cmp p q) h) in omega (arith, less)
in_phase (rank.Remove k) (rank.Remove l) x y e h = let less = ge_from_not_lt (level l.0) (level k.0) h in omega (arith, less)
in_phase (rank.Clear k) s x y e h = absurd x
in_phase (rank.Build k) s x y e h = absurd x
in_phase r (rank.Clear k) x y e h = absurd y
in_phase r (rank.Build k) x y e h = absurd y
in_phase r s x y e h = absurd cc

-- of two steps that follow one another the ranks do not fall
abbrev Falls : (Rank → ℕ) → (Rank → Type 0) → Type 0
Falls value good = (r s : Rank) → good r → good s → is_lt (rank_order r s) ≡ false → value s ≤ value r

hitless_falls : Falls hitless_value IsHitlessRank
hitless_falls r s x y h = elim (in_phases (phase r) (phase s) (phase_order r s) h) [
  | inl less ↦ by_phase r s x y less
  | inr same ↦ in_phase r s x y same.0 same.1
]

-- ---- a cold plan: all that is removed before all that is made

abbrev pub cold_value : Rank → ℕ
cold_value (rank.Clear k) = top_level - level k.0
cold_value (rank.Build k) = 100 + level k
cold_value _ = 0

abbrev pub IsColdRank : Rank → Type 0
IsColdRank (rank.Clear k) = Unit {0}
IsColdRank (rank.Build k) = Unit {0}
IsColdRank _ = ⊥

cold_by : (r s : Rank) → IsColdRank r → IsColdRank s → (phase s < phase r) ⊎ ((phase r ≡ phase s) × (is_lt (phase_order r s) ≡ false)) → cold_value s ≤ cold_value r
cold_by (rank.Clear k) (rank.Clear l) x y (inl h) = absurd (omega (arith, h))
cold_by (rank.Clear k) (rank.Clear l) x y (inr h) = let less = ge_from_not_lt (level l.0) (level k.0) h.1 in omega (arith, less)
cold_by (rank.Build k) (rank.Build l) x y (inl h) = absurd (omega (arith, h))
cold_by (rank.Build k) (rank.Build l) x y (inr h) = let less = ge_from_not_lt (level k) (level l) h.1 in omega (arith, less)
cold_by (rank.Clear k) (rank.Build l) x y (inl h) = absurd (omega (arith, h))
cold_by (rank.Clear k) (rank.Build l) x y (inr h) = absurd cc
cold_by (rank.Build k) (rank.Clear l) x y h = omega arith
cold_by (rank.Clear k) s x y h = absurd y
cold_by (rank.Build k) s x y h = absurd y
cold_by r s x y h = absurd x

cold_falls : Falls cold_value IsColdRank
cold_falls r s x y h = cold_by r s x y (in_phases (phase r) (phase s) (phase_order r s) h)

-- ---- lists of steps

-- numbers that do not fall from one item to the next do not fall at all
abbrev pub AreRising : {X : Type 0} → (X → ℕ) → List X → Type 0
AreRising n [] = Unit {0}
AreRising n (x ∷ xs) = ((y : _) → IsIn y xs → n x ≤ n y) × AreRising n xs

sorted_head : (t u : Timed) (ts : List Timed) → IsSorted timed_cmp (t ∷ u ∷ ts) → is_lt (timed_cmp u t) ≡ false
sorted_head t u ts h =
    let within : 0 + 1 < length (t ∷ u ∷ ts) = omega arith in
    let least : 0 ≤ 0 = omega arith in
    h 0 t least within

sorted_tail : (t : Timed) (ts : List Timed) → IsSorted timed_cmp (t ∷ ts) → IsSorted timed_cmp ts
sorted_tail t ts h k d low high =
    let inside : suc k + 1 < length (t ∷ ts) = omega (arith, high) in
    let least : 0 ≤ suc k = omega arith in
    let next : suc k + 1 ≡ suc (k + 1) = omega arith in
    subst (λ n. is_lt (timed_cmp (slice_index_or (t ∷ ts) n d) (slice_index_or ts k d)) ≡ false) next (h (suc k) d least inside)

before : (t u : Timed) → is_lt (timed_cmp u t) ≡ false → is_lt (rank_order u.rank t.rank) ≡ false
before t u h = let x = turns-by_parts u t in then_not (rank_order u.rank t.rank) _ (ap is_lt (sym x.1) ∙ h)

module _ (value : Rank → ℕ) (good : Rank → Type 0) (falls : Falls value good) where
  abbrev of : Timed → ℕ
  of t = value t.rank

  rising : (ts : List Timed) → ((t : Timed) → IsIn t ts → good t.rank) → IsSorted timed_cmp ts → AreRising of ts
  rising [] fine sorted = tt
  rising (t ∷ []) fine sorted = (λ y i. elim i [ ], tt)
  rising (t ∷ u ∷ ts) fine sorted =
      let rest = rising (u ∷ ts) (λ x i. fine x (inr i)) (sorted_tail t (u ∷ ts) sorted) in
      let first : of t ≤ of u = falls u.rank t.rank (fine u (inr (inl refl))) (fine t (inl refl)) (before t u (sorted_head t u ts sorted)) in (
        λ y i. elim i [
          | inl is ↦ subst (λ (z : Timed). of t ≤ of z) (sym is) first
          | inr k ↦ let next = rest.0 y k in omega (arith, first, next)
        ],
        rest,
      )

pub hitless-rising : (ts : List Timed) → ((t : Timed) → IsIn t ts → IsHitlessRank t.rank) → IsSorted timed_cmp ts → AreRising (λ t. hitless_value t.rank) ts
hitless-rising ts fine sorted = rising hitless_value IsHitlessRank hitless_falls ts fine sorted

pub cold-rising : (ts : List Timed) → ((t : Timed) → IsIn t ts → IsColdRank t.rank) → IsSorted timed_cmp ts → AreRising (λ t. cold_value t.rank) ts
cold-rising ts fine sorted = rising cold_value IsColdRank cold_falls ts fine sorted
