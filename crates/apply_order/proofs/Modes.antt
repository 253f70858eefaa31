-- whether there is room, kind by kind
use Rattle.std.proofs.Common.{◌≡◌, ◌↔◌, ℕ, ◌+◌, ◌≤◌, Bool, true, List, slice_index, sym, ◌∙◌, arith}
use Rattle.std.specs.Bool.{nat_le}
use Rattle.std.specs.List.{list_all}
use Rattle.std.proofs.lemmas.Bool.Decides.{nat_tests}
use Rattle.swss_types.proofs.Most.{most_by_test}
use Rattle.sai_types.specs.declared.ids.Rid.{Rid}
use Rattle.sai_types.specs.declared.ids.Vid.{Vid}
use Rattle.sai_types.specs.declared.body.Object.{Object}
use Rattle.sai_types.specs.declared.kind.Kind.{Kind}
use Rattle.sai_types.specs.Objects.{level}
use Rattle.apply_order.specs.Places.{Places}
use Rattle.sai_types.specs.Kinds.{all_kinds}
use Rattle.apply_order.specs.Room.{has_room, lacking_from, old_count}
use Rattle.sai_types.specs.Refusal.{capacity_of}
use Rattle.apply_order.proofs.EachKind.{each-kind, kinds-each}

is_no_more : (m n : ℕ) → m ≤ n → nat_le m n ≡ true
is_no_more m n h = grind (arith, nat_tests)

pub fits-each : (fits : Bool) (capacities held lacking : List ℕ) (old : List (Object Rid)) (new : List (Object Vid)) (paired : Places) → fits ≡ list_all (λ k. has_room capacities held lacking k) all_kinds → ((k : Kind) → slice_index held (level k) ≡ old_count k old) → ((k : Kind) → slice_index lacking (level k) ≡ lacking_from k paired new 0) → (fits ≡ true) ↔ ((k : Kind) → old_count k old + lacking_from k paired new 0 ≤ capacity_of capacities k)
fits-each fits capacities held lacking old new paired is olds news = (
  λ h k. let most = most_by_test (slice_index held (level k) + slice_index lacking (level k)) (capacity_of capacities k) (each-kind (λ l. has_room capacities held lacking l) (sym is ∙ h) k) in omega (arith, most, olds k, news k),
  λ f. is ∙ kinds-each (λ l. has_room capacities held lacking l) (λ k. is_no_more (slice_index held (level k) + slice_index lacking (level k)) (capacity_of capacities k) (omega (arith, f k, olds k, news k))),
)
