-- When each interface stays in its virtual router, so that nothing has to go before the new view stands. Own.
use Rattle.std.specs.Prelude.{◌≡◌, ℕ, Bool, true, false, List, [], Option, None, Some, slice_get}
use Rattle.sai_types.specs.declared.ids.Rid.{Rid}
use Rattle.sai_types.specs.declared.ids.Vid.{Vid}
use Rattle.sai_types.specs.declared.body.Body.{Body}
use Rattle.sai_types.specs.declared.body.Body.TheVariants as body
use Rattle.sai_types.specs.declared.body.Object.{Object}
use Rattle.sai_types.specs.Alike.{IsIn}
use Rattle.apply_order.specs.Attributes.{is_old}
use Rattle.apply_order.specs.Naming.{OldIds, names_from, new_id}

-- whether an old virtual router and a new one are the default one both, or are paired
abbrev pub is_same_router : OldIds → Option Rid → Option Vid → Bool
is_same_router names None None = true
is_same_router names (Some r) (Some v) = is_old r (new_id names v)
is_same_router names _ _ = false

-- whether an interface stays in its virtual router; no other object can move
abbrev pub stays_in_router : OldIds → Body Rid → Body Vid → Bool
stays_in_router names (body.Rif vr on) (body.Rif vr' on') = is_same_router names vr vr'
stays_in_router names b c = true

-- the same of two objects, where both are there
abbrev pub both_stay : OldIds → Option (Object Rid) → Option (Object Vid) → Bool
both_stay names (Some o) (Some n) = stays_in_router names o.body n.body
both_stay names _ _ = true

-- the same of the objects of a pair
abbrev pub pair_stays : OldIds → List (Object Rid) → List (Object Vid) → ℕ × ℕ → Bool
pair_stays names old new p = both_stay names (slice_get old p.0) (slice_get new p.1)

-- each interface that is paired stays in its virtual router
abbrev pub KeepRouters : List (Object Rid) → List (Object Vid) → List (ℕ × ℕ) → Type 0
KeepRouters old new pairs = (p : ℕ × ℕ) (o : Object Rid) (n : Object Vid) → IsIn p pairs → slice_get old p.0 ≡ Some o → slice_get new p.1 ≡ Some n → stays_in_router (names_from [] old new pairs) o.body n.body ≡ true
