-- When there is room to keep what stands until the new view stands too. Own.
use Rattle.std.specs.Prelude.{ℕ, ◌+◌, ◌≤◌, nat_le, Bool, false, List, [], ◌∷◌, Option, None, Some, count_by, slice_index, if◌then◌else◌}
use Rattle.sai_types.specs.declared.ids.Rid.{Rid}
use Rattle.sai_types.specs.declared.ids.Vid.{Vid}
use Rattle.sai_types.specs.declared.body.Object.{Object}
use Rattle.sai_types.specs.declared.kind.Kind.{Kind}
use Rattle.sai_types.specs.Objects.{is_of, level}
use Rattle.sai_types.specs.Refusal.{capacity_of}
use Rattle.apply_order.specs.Places.{Places, by_new, partner_at}

-- how many old objects are of a kind
abbrev pub old_count : Kind → List (Object Rid) → ℕ
old_count kind old = count_by (λ o. is_of kind o.body) old

-- whether a new object is of a kind and not paired
abbrev pub is_lacking : Kind → Object Vid → Option ℕ → Bool
is_lacking kind n None = is_of kind n.body
is_lacking kind n (Some i) = false

-- how many new objects from this place on are of a kind and not paired
abbrev pub lacking_from : Kind → Places → List (Object Vid) → ℕ → ℕ
lacking_from kind paired [] place = 0
lacking_from kind paired (n ∷ ns) place = (if is_lacking kind n (partner_at paired place) then 1 else 0) + lacking_from kind paired ns (place + 1)

-- of each kind the old objects and the new ones that are not paired number at most the capacity
abbrev pub FitTogether : List ℕ → List (Object Rid) → List (Object Vid) → List (ℕ × ℕ) → Type 0
FitTogether capacities old new pairs = (kind : Kind) → old_count kind old + lacking_from kind (by_new pairs) new 0 ≤ capacity_of capacities kind

-- whether there is room for so many objects that are held and so many that are lacking, by the levels of their kinds
abbrev pub has_room : List ℕ → List ℕ → List ℕ → Kind → Bool
has_room capacities held lacking kind = nat_le (slice_index held (level kind) + slice_index lacking (level kind)) (capacity_of capacities kind)
