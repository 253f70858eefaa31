-- the kind that lacks room, and the places of all workers
use Rattle.std.proofs.Common.{◌≡◌, ◌∷◌, ◌+◌, ◌-◌, ◌<◌, ◌≤◌, ◌∙◌, inl, inr, ℕ, zero, suc, nat_lt, ◌&&◌, Bool, true, false, List, [], Option, None, Some, refl, sym, ap, arith, if◌then◌else◌, ap₂, max}
use Rattle.std.proofs.lemmas.Bool.Decides.{nat_tests}
use Rattle.std.proofs.lemmas.Option.{same_Some}
use Rattle.sai_types.specs.declared.kind.Kind.{Kind}
use Rattle.sai_types.specs.declared.kind.Kind.TheVariants as kind
use Rattle.sai_types.specs.Alike.{IsIn}
use Rattle.sai_types.specs.Objects.{Objects, level, used}
use Rattle.sai_types.specs.Refusal.{capacity_of}
use Rattle.row_layout.specs.Operations.{Change}
use Rattle.switch_machine.specs.Flights.{MachineFlight, Machine}
use Rattle.switch_machine.specs.Places.{AreCovered, makes, places_kept, sum_below}
use Rattle.sai_types.specs.Kinds.{all_kinds}
use Rattle.ref_counts.specs.Room.{RoomState, first_lacking, lacking, lacks, number_of_kind, places_in_all}
use Rattle.orch_flight.specs.Needing.{places_for}
use Rattle.registry_laws.specs.Registers.{AreUsed, KnowsRoom, kept_beyond}
use Rattle.registry_laws.proofs.Listing.{not_some, never_none}

in_kinds : (k : Kind) → IsIn k all_kinds
in_kinds kind.Port = inl refl
in_kinds kind.Vlan = inr (inl refl)
in_kinds kind.VirtualRouter = inr (inr (inl refl))
in_kinds kind.BridgePort = inr (inr (inr (inl refl)))
in_kinds kind.VlanMember = inr (inr (inr (inr (inl refl))))
in_kinds kind.Rif = inr (inr (inr (inr (inr (inl refl)))))
in_kinds kind.OwnAddress = inr (inr (inr (inr (inr (inr (inl refl))))))
in_kinds kind.Neighbor = inr (inr (inr (inr (inr (inr (inr (inl refl)))))))
in_kinds kind.NextHop = inr (inr (inr (inr (inr (inr (inr (inr (inl refl))))))))
in_kinds kind.Group = inr (inr (inr (inr (inr (inr (inr (inr (inr (inl refl)))))))))
in_kinds kind.GroupMember = inr (inr (inr (inr (inr (inr (inr (inr (inr (inr (inl refl))))))))))
in_kinds kind.Route = inr (inr (inr (inr (inr (inr (inr (inr (inr (inr (inr (inl refl)))))))))))

-- their levels count up
abbrev CountUp : ℕ → List Kind → Type 0
CountUp n [] = Unit {0}
CountUp n (k ∷ ks) = (level k ≡ n) × CountUp (suc n) ks

kinds_count : CountUp 0 all_kinds
kinds_count = (refl, (refl, (refl, (refl, (refl, (refl, (refl, (refl, (refl, (refl, (refl, (refl, tt))))))))))))

level_counted_up : (n : ℕ) (ks : List Kind) (k : Kind) → CountUp n ks → IsIn k ks → n ≤ level k
level_counted_up n [] k up h = elim h [ ]
level_counted_up n (q ∷ ks) k up (inl e) = let a = up.0 in let b = ap level e in omega (arith, a, b)
level_counted_up n (q ∷ ks) k up (inr h) = let a = level_counted_up (suc n) ks k up.1 h in omega (arith, a)

pub number_for : (due : List Change) (k : Kind) → number_of_kind (places_for due) k ≡ makes k due
number_for due kind.Port = refl
number_for due kind.Vlan = refl
number_for due kind.VirtualRouter = refl
number_for due kind.BridgePort = refl
number_for due kind.VlanMember = refl
number_for due kind.Rif = refl
number_for due kind.OwnAddress = refl
number_for due kind.Neighbor = refl
number_for due kind.NextHop = refl
number_for due kind.Group = refl
number_for due kind.GroupMember = refl
number_for due kind.Route = refl

module _ (room : RoomState) (need numbers : List ℕ) where
  abbrev Lacks : Kind → Bool
  Lacks k = lacks room need numbers k

  none_lack : (ks : List Kind) (k : Kind) → first_lacking room need numbers ks ≡ None → IsIn k ks → Lacks k ≡ false
  none_lack [] k h g = elim g [ ]
  none_lack (q ∷ ks) k h g = by (λ e i. none_lack ks k e i) (Lacks q) refl h g
    where
      by : (first_lacking room need numbers ks ≡ None → IsIn k ks → Lacks k ≡ false) → (b : Bool) → Lacks q ≡ b → (if b then Some q else first_lacking room need numbers ks) ≡ None → IsIn k (q ∷ ks) → Lacks k ≡ false
      by rest true e none i = never_none q none
      by rest false e none (inl same) = ap Lacks same ∙ e
      by rest false e none (inr i) = rest none i

  first_lack : (n : ℕ) (ks : List Kind) (k : Kind) → CountUp n ks → first_lacking room need numbers ks ≡ Some k → (Lacks k ≡ true) × ((low : Kind) → IsIn low ks → level low < level k → Lacks low ≡ false)
  first_lack n [] k up h = not_some k h
  first_lack n (q ∷ ks) k up h = by (λ e. first_lack (suc n) ks k up.1 e) (Lacks q) refl h
    where
      by : (first_lacking room need numbers ks ≡ Some k → (Lacks k ≡ true) × ((low : Kind) → IsIn low ks → level low < level k → Lacks low ≡ false)) → (b : Bool) → Lacks q ≡ b → (if b then Some q else first_lacking room need numbers ks) ≡ Some k → (Lacks k ≡ true) × ((low : Kind) → IsIn low (q ∷ ks) → level low < level k → Lacks low ≡ false)
      by rest true e some =
          let same : q ≡ k = same_Some q k some in
          let at : (low : Kind) → IsIn low (q ∷ ks) → level low < level k → Lacks low ≡ false = λ low i less. let a = level_counted_up n (q ∷ ks) low up i in let b = up.0 in let d = ap level same in absurd (omega (arith, a, b, d, less)) in
          (ap Lacks (sym same) ∙ e, at)
      by rest false e some =
          let x = rest some in
          (x.0, at x.1)
        where
          at : ((low : Kind) → IsIn low ks → level low < level k → Lacks low ≡ false) → (low : Kind) → IsIn low (q ∷ ks) → level low < level k → Lacks low ≡ false
          at f low (inl same) less = ap Lacks same ∙ e
          at f low (inr i) less = f low i less

  pub lacking_first : (k : Kind) → lacking room need numbers ≡ Some k → (Lacks k ≡ true) × ((low : Kind) → level low < level k → Lacks low ≡ false)
  lacking_first k h = let x = first_lack 0 all_kinds k kinds_count h in (x.0, λ low less. x.1 low (in_kinds low) less)

  pub lacking_none : lacking room need numbers ≡ None → (k : Kind) → Lacks k ≡ false
  lacking_none h k = none_lack all_kinds k h (in_kinds k)

-- ---- the tests as numbers

is_lacking : (n c u : ℕ) → (nat_lt 0 n && nat_lt c u) ≡ true → (0 < n) × (c < u)
is_lacking n c u h = (grind (arith, nat_tests), grind (arith, nat_tests))

is_roomy : (n c u : ℕ) → (nat_lt 0 n && nat_lt c u) ≡ false → 0 < n → u ≤ c
is_roomy n c u h less = grind (arith, nat_tests)

-- ---- the places of all workers

-- workers beyond add nothing
sum_more : (n d : ℕ) (f : ℕ → ℕ) → ((v : ℕ) → n ≤ v → f v ≡ 0) → sum_below (d + n) f ≡ sum_below n f
sum_more n zero f none = let count : 0 + n ≡ n = omega arith in ap (λ z. sum_below z f) count
sum_more n (suc d) f none =
    let rest = sum_more n d f none in
    let last = none (d + n) (omega arith) in
    let step : sum_below (suc (d + n)) f ≡ sum_below (d + n) f + f (d + n) = refl in
    let count : suc d + n ≡ suc (d + n) = omega arith in
    let same : sum_below (suc d + n) f ≡ sum_below (suc (d + n)) f = ap (λ z. sum_below z f) count in
    omega (arith, rest, last, step, same)

max_parts : (r d : ℕ) → max r d ≡ r + (d - r)
max_parts r d = omega arith

four_parts : (a b c d p q r s w x y z : ℕ) → a ≡ p + w → b ≡ q + x → c ≡ r + y → d ≡ s + z → p + q + r + s + (0 + w + x + y + z) ≡ 0 + a + b + c + d
four_parts a b c d p q r s w x y z e f g h = omega (arith, e, f, g, h)

module _ (workers : ℕ) (capacities : List ℕ) (room : RoomState) (m : Machine) (few : workers ≤ 4) (below : (w : ℕ) (f : MachineFlight) → m.board.flights w ≡ Some f → w < workers) (covered : AreCovered m) (known : KnowsRoom capacities room m) where
  abbrev kept_by : Kind → ℕ → ℕ
  kept_by k w = max (makes k (m.reserved w)) (makes k (m.due w))

  beyond : (k : Kind) (w : ℕ) → workers ≤ w → kept_by k w ≡ 0
  beyond k w h = by (m.board.flights w) refl
    where
      by : (o : Option MachineFlight) → m.board.flights w ≡ o → kept_by k w ≡ 0
      by None e = ap₂ (λ a b. max (makes k a) (makes k b)) (covered.idle w e) (covered.due w e)
      by (Some f) e = let less = below w f e in absurd (omega (arith, h, less))

  -- the places that are reserved, and those that are kept beyond them
  pub places-kept_all : (k : Kind) → places_in_all room.reserved k + sum_below 4 (kept_beyond m k) ≡ places_kept workers m k
  places-kept_all k =
      let a = known.places 0 k (omega arith) in
      let b = known.places 1 k (omega arith) in
      let c = known.places 2 k (omega arith) in
      let d = known.places 3 k (omega arith) in
      let p = max_parts (makes k (m.reserved 0)) (makes k (m.due 0)) in
      let q = max_parts (makes k (m.reserved 1)) (makes k (m.due 1)) in
      let r = max_parts (makes k (m.reserved 2)) (makes k (m.due 2)) in
      let s = max_parts (makes k (m.reserved 3)) (makes k (m.due 3)) in
      let four : sum_below 4 (kept_by k) ≡ 0 + kept_by k 0 + kept_by k 1 + kept_by k 2 + kept_by k 3 = refl in
      let more_four : sum_below 4 (kept_beyond m k) ≡ 0 + kept_beyond m k 0 + kept_beyond m k 1 + kept_beyond m k 2 + kept_beyond m k 3 = refl in
      let more = sum_more workers (4 - workers) (kept_by k) (beyond k) in
      let count : 4 - workers + workers ≡ 4 = omega (arith, few) in
      let same : sum_below (4 - workers + workers) (kept_by k) ≡ sum_below 4 (kept_by k) = ap (λ z. sum_below z (kept_by k)) count in
      let all : places_kept workers m k ≡ sum_below 4 (kept_by k) = sym more ∙ same in
      ap (λ z. z + sum_below 4 (kept_beyond m k)) (ap₂ (λ x y. x + y) (ap₂ (λ x y. x + y) (ap₂ (λ x y. x + y) a b) c) d)
      ∙ ap (λ z. makes k (m.reserved 0) + makes k (m.reserved 1) + makes k (m.reserved 2) + makes k (m.reserved 3) + z) more_four
      ∙ four_parts (kept_by k 0) (kept_by k 1) (kept_by k 2) (kept_by k 3) (makes k (m.reserved 0)) (makes k (m.reserved 1)) (makes k (m.reserved 2)) (makes k (m.reserved 3)) (kept_beyond m k 0) (kept_beyond m k 1) (kept_beyond m k 2) (kept_beyond m k 3) p q r s
      ∙ sym (all ∙ four)

  -- what the room's test says of the machine
  module _ (objects : Objects) (numbers : List ℕ) (are : AreUsed m objects numbers) (due : List Change) where
    pub lacks_true : (k : Kind) → lacks room (places_for due) numbers k ≡ true → (0 < makes k due) × (capacity_of capacities k < used objects k + places_kept workers m k + makes k due)
    lacks_true k h =
        let x = is_lacking (number_of_kind (places_for due) k) (capacity_of room.capacities k) (number_of_kind numbers k + places_in_all room.reserved k + number_of_kind (places_for due) k) h in
        let p = x.0 in
        let q = x.1 in
        let a = are k in
        let b = places-kept_all k in
        let c = number_for due k in
        let d = ap (λ z. capacity_of z k) known.capacities_are in
        (omega (arith, p, c), omega (arith, q, a, b, c, d))

    pub lacks_false : (k : Kind) → lacks room (places_for due) numbers k ≡ false → 0 < makes k due → used objects k + places_kept workers m k + makes k due ≤ capacity_of capacities k
    lacks_false k h some =
        let c = number_for due k in
        let x = is_roomy (number_of_kind (places_for due) k) (capacity_of room.capacities k) (number_of_kind numbers k + places_in_all room.reserved k + number_of_kind (places_for due) k) h (omega (arith, some, c)) in
        let a = are k in
        let b = places-kept_all k in
        let d = ap (λ z. capacity_of z k) known.capacities_are in
        omega (arith, x, a, b, c, d)
