-- The effects of a chip, and the counts of its objects after each of them. Own.
use Rattle.std.specs.Prelude.{◌≡◌, ℕ, zero, suc, List, [], ◌∷◌, ◌++◌, length, Option, Some, None, option_map, if◌then◌else◌}
use Rattle.sai_types.specs.declared.ids.Rid.{Rid}
use Rattle.sai_types.specs.declared.kind.Kind.{Kind}
use Rattle.sai_types.specs.declared.body.Call.{Call}
use Rattle.sai_types.specs.declared.body.Call.TheVariants as call
use Rattle.sai_types.specs.After.{after_calls, chip_after, makes_id, next_id}
use Rattle.sai_types.specs.Objects.{Objects, body_at, kind_of, used}
use Rattle.sai_types.specs.Refusal.{IsLegal}

-- what stands on the chip of these effects
abbrev pub chip_of : List (Call Rid) → Objects
chip_of effects = after_calls 0 [] effects

-- how many objects of a kind stand after 0, 1, 2 and up to n of these effects
abbrev pub counts_to : Kind → List (Call Rid) → ℕ → List ℕ
counts_to k effects zero = used (chip_after effects zero) k ∷ []
counts_to k effects (suc n) = counts_to k effects n ++ used (chip_after effects (suc n)) k ∷ []

-- how many stand after 0, 1, 2 and up to all of them
abbrev pub counts_along : Kind → List (Call Rid) → List ℕ
counts_along k effects = counts_to k effects (length effects)

-- the kind of the object that a call makes or removes, where these objects stand before it; a set makes and removes none
abbrev pub kind_changed : Objects → Call Rid → Option Kind
kind_changed objects (call.Create b) = Some (kind_of b)
kind_changed objects (call.Set e a) = None
kind_changed objects (call.Remove e) = option_map kind_of (body_at objects e)

-- the identifier that a call makes behind these effects, where it makes one
abbrev pub id_made_by : List (Call Rid) → Call Rid → Option Rid
id_made_by effects c = if makes_id c then Some (record { 0 = next_id effects }) else None

-- a call that may be the next effect: it is legal behind these effects, and this is the identifier that it makes
pub record IsNextEffect (capacities : List ℕ) (effects : List (Call Rid)) (c : Call Rid) (id : Option Rid) : Type 0 where
  pub legal : IsLegal capacities (chip_of effects) c
  pub made : id ≡ id_made_by effects c
