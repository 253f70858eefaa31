-- the interfaces that count as still there
use Rattle.std.proofs.Common.{◌≡◌, ◌+◌, ◌-◌, ◌≤◌, ◌∙◌, ℕ, List, Option, None, Some, refl, sym, ap, ap₂, arith}
use Rattle.sai_types.specs.declared.ids.Rid.{Rid}
use Rattle.sai_types.specs.declared.ids.Vid.{Vid}
use Rattle.sai_types.specs.declared.kind.Kind.{Kind}
use Rattle.sai_types.specs.Objects.{used}
use Rattle.sai_types.specs.Refusal.{capacity_of}
use Rattle.table_schema.specs.Plan.{Ports}
use Rattle.switch_machine.specs.Events.{SwitchState}
use Rattle.switch_machine.specs.Places.{makes, missing, sum_below}
use Rattle.switch_machine.proofs.Roomy.{sum_same}
use Rattle.ref_counts.specs.Registry.{Names}
use Rattle.ref_counts.specs.Room.{RoomState, number_of_kind}
use Rattle.registry_laws.specs.Flown.{Flown, still_there, still_there_in_all}
use Rattle.registry_laws.specs.Registers.{AreUsed, kept_beyond}
use Rattle.registry_laws.specs.Standing.{StandsFor}

sum_most : (f g : ℕ → ℕ) → ((v : ℕ) → f v ≤ g v) → sum_below 4 f ≤ sum_below 4 g
sum_most f g less =
    let a = less 0 in
    let b = less 1 in
    let c = less 2 in
    let d = less 3 in
    let one : sum_below 4 f ≡ 0 + f 0 + f 1 + f 2 + f 3 = refl in
    let two : sum_below 4 g ≡ 0 + g 0 + g 1 + g 2 + g 3 = refl in
    omega (arith, a, b, c, d, one, two)

less_first : (a b : ℕ) → a - b ≤ a
less_first a b = omega arith

module _ (plan : Ports) (capacities : List ℕ) (names : Names) (room : RoomState) (flown : ℕ → Option Flown) (rid : Vid → Option Rid) (s : SwitchState) (stands : StandsFor plan capacities names room flown rid s) where
  -- of a worker
  counted : (k : Kind) (w : ℕ) → kept_beyond s.machine k w ≡ still_there k (flown w)
  counted k w = by (flown w) refl
    where
      by : (x : Option Flown) → flown w ≡ x → kept_beyond s.machine k w ≡ still_there k (flown w)
      by None e =
          let idle = stands.board.idle w e in
          ap₂ (λ a b. makes k a - makes k b) (stands.safe.covered.due w idle) (stands.safe.covered.idle w idle) ∙ sym (ap (still_there k) e)
      by (Some x) e = (stands.board.flying w x e).beyond k ∙ sym (ap (still_there k) e)

  all_counted : (k : Kind) → sum_below 4 (kept_beyond s.machine k) ≡ still_there_in_all flown k
  all_counted k = sum_same 4 (kept_beyond s.machine k) (λ w. still_there k (flown w)) (λ w less. counted k w)

  pub are_used : (numbers : List ℕ) → ((k : Kind) → number_of_kind numbers k ≡ used s.objects k + still_there_in_all flown k) → AreUsed s.machine s.objects numbers
  are_used numbers h k = h k ∙ ap (λ n. used s.objects k + n) (sym (all_counted k))

  pub are_within : (k : Kind) → used s.objects k + still_there_in_all flown k ≤ capacity_of capacities k
  are_within k =
      let all = all_counted k in
      let most : sum_below 4 (kept_beyond s.machine k) ≤ missing 4 s.machine k = sum_most (kept_beyond s.machine k) (λ w. makes k (s.machine.due w)) (λ w. less_first (makes k (s.machine.due w)) (makes k (s.machine.reserved w))) in
      let room = stands.safe.places k in
      omega (arith, all, most, room)
