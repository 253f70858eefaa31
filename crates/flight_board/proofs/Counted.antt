-- how many objects of each kind there are, with the router interfaces that count as still there
use Rattle.std.proofs.Common.{◌≡◌, ◌+◌, ◌∙◌, ◌<◌, ℕ, ◌==◌, ◌&&◌, Bool, true, false, List, length, map, Option, None, Some, slice_index, slice_set, if◌then◌else◌, refl, ap, arith}
use Rattle.std.proofs.lemmas.List.{get_or-set_other, get_or-set_same}
use Rattle.sai_types.specs.declared.kind.Kind.{Kind}
use Rattle.sai_types.specs.declared.kind.Kind.TheVariants as kind
use Rattle.sai_types.specs.Kinds.{all_kinds}
use Rattle.sai_types.specs.Objects.{level}
use Rattle.ref_counts.specs.Room.{number_of_kind}
use Rattle.orch_flight.specs.Operation.{is_between}
use Rattle.registry_laws.specs.Flown.{Flown, still_there, still_there_in_all}

abbrev one_if : Bool → ℕ
one_if b = if b then 1 else 0

-- of a kind that is no router interface nothing counts so
still_none : (k : Kind) → (level kind.Rif == level k) ≡ false → (o : Option Flown) → still_there k o ≡ 0
still_none k apart None = refl
still_none k apart (Some x) = by (is_between x.operation)
  where
    by : (b : Bool) → one_if (b && (level kind.Rif == level k)) ≡ 0
    by true = ap one_if apart
    by false = refl

none-there : (flown : ℕ → Option Flown) (k : Kind) → (level kind.Rif == level k) ≡ false → still_there_in_all flown k ≡ 0
none-there flown k apart =
    let a = still_none k apart (flown 0) in
    let b = still_none k apart (flown 1) in
    let c = still_none k apart (flown 2) in
    let d = still_none k apart (flown 3) in
    omega (arith, a, b, c, d)

module _ (used : List ℕ) (flown : ℕ → Option Flown) (n : ℕ) (five : 5 < length used) (is : n ≡ still_there_in_all flown kind.Rif) where
  abbrev counted : List ℕ
  counted = slice_set used 5 (slice_index used 5 + n)

  other : (k : Kind) → (level k ≡ 5 → ⊥) → (level kind.Rif == level k) ≡ false → number_of_kind counted k ≡ number_of_kind used k + still_there_in_all flown k
  other k not apart =
      let none = none-there flown k apart in
      let same : number_of_kind counted k ≡ number_of_kind used k = get_or-set_other used 5 (level k) (slice_index used 5 + n) 0 not in
      omega (arith, none, same)

  pub counts : (k : Kind) → number_of_kind counted k ≡ number_of_kind used k + still_there_in_all flown k
  counts kind.Port = other kind.Port (λ e. absurd (omega (arith, e))) refl
  counts kind.Vlan = other kind.Vlan (λ e. absurd (omega (arith, e))) refl
  counts kind.VirtualRouter = other kind.VirtualRouter (λ e. absurd (omega (arith, e))) refl
  counts kind.BridgePort = other kind.BridgePort (λ e. absurd (omega (arith, e))) refl
  counts kind.VlanMember = other kind.VlanMember (λ e. absurd (omega (arith, e))) refl
  counts kind.Rif = get_or-set_same used 5 (slice_index used 5 + n) 0 five ∙ ap (λ m. slice_index used 5 + m) is
  counts kind.OwnAddress = other kind.OwnAddress (λ e. absurd (omega (arith, e))) refl
  counts kind.Neighbor = other kind.Neighbor (λ e. absurd (omega (arith, e))) refl
  counts kind.NextHop = other kind.NextHop (λ e. absurd (omega (arith, e))) refl
  counts kind.Group = other kind.Group (λ e. absurd (omega (arith, e))) refl
  counts kind.GroupMember = other kind.GroupMember (λ e. absurd (omega (arith, e))) refl
  counts kind.Route = other kind.Route (λ e. absurd (omega (arith, e))) refl

-- such numbers there are
module _ (used : List ℕ) (flown : ℕ → Option Flown) where
  abbrev pub all_counted : List ℕ
  all_counted = map (λ k. number_of_kind used k + still_there_in_all flown k) all_kinds

  pub all-counts : (k : Kind) → number_of_kind all_counted k ≡ number_of_kind used k + still_there_in_all flown k
  all-counts kind.Port = refl
  all-counts kind.Vlan = refl
  all-counts kind.VirtualRouter = refl
  all-counts kind.BridgePort = refl
  all-counts kind.VlanMember = refl
  all-counts kind.Rif = refl
  all-counts kind.OwnAddress = refl
  all-counts kind.Neighbor = refl
  all-counts kind.NextHop = refl
  all-counts kind.Group = refl
  all-counts kind.GroupMember = refl
  all-counts kind.Route = refl
