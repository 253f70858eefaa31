-- the neighbours and the members of a group's hops
use Rattle.std.proofs.Common.{◌≡◌, ◌≤◌, inl, inr, ℕ, zero, suc, true, false, List, [], ◌∷◌, map, length, Option, Some, None, option_map, slice_get, if◌then◌else◌, refl, sym, ap, subst, ◌∙◌, arith}
use Rattle.std.specs.BTreeMap.{is_at}
use Rattle.std.specs.List.{AllByRecursion}
use Rattle.std.specs.List.Sorted.{IsStrictlySortedBy}
use Rattle.std.specs.Ordering.{is_eq}
use Rattle.std.specs.declared.cmp.Ordering.TheVariants.{Less}
use Rattle.std.proofs.lemmas.Cmp.{tied_itself}
use Rattle.std.proofs.lemmas.Option.{none-some, same_Some}
use Rattle.table_schema.specs.Plan.{Ports}
use Rattle.table_schema.specs.declared.key.Key.{Key}
use Rattle.table_schema.specs.declared.key.Key.TheVariants as key
use Rattle.sai_types.specs.Alike.{IsIn}
use Rattle.sai_types.specs.Hop.{AreRisingHops, whop_cmp}
use Rattle.sai_types.specs.Named.{those}
use Rattle.sai_types.specs.declared.weight.WHop.{WHop}
use Rattle.sai_types.specs.declared.ids.Vid.{Vid}
use Rattle.sai_types.specs.declared.thing.Thing.TheVariants as thing
use Rattle.sai_types.proofs.Rising.{whop_total}
use Rattle.sai_types.proofs.Weights.{rising-weighed}
use Rattle.switch_model.specs.Things.{members_of}
use Rattle.row_layout.specs.Rows.{interface_on}
use Rattle.orch_flight.specs.Calling.{member_vid}
use Rattle.orch_flight.specs.Grouping.{neighbour_keys}

-- what holds of all items holds of one
pub all-at : {X : Type 0} (P : X → Type 0) (xs : List X) (i : ℕ) (x : X) → AllByRecursion P xs → slice_get xs i ≡ Some x → P x
all-at P [] i x all is = absurd (none-some x is)
all-at P (y ∷ ys) zero x all is = subst P (same_Some y x is) all.0
all-at P (y ∷ ys) (suc i) x all is = all-at P ys i x all.1 is

pub member-in : (all hops : List WHop) (i : ℕ) (hop : WHop) → slice_get hops i ≡ Some hop → IsIn (thing.GroupMember all hop) (members_of all hops)
member-in all [] i hop is = absurd (none-some hop is)
member-in all (h ∷ hs) zero hop is = inl (ap (thing.GroupMember all) (sym (same_Some h hop is)))
member-in all (h ∷ hs) (suc i) hop is = inr (member-in all hs i hop is)

-- ---- neighbours

-- the neighbour of a hop
abbrev pub neighbour_of : Ports → WHop → Option Key
neighbour_of plan hop = option_map (λ n. key.Neigh n hop.hop.ip) (interface_on plan hop.hop.on)

fewer_keys_than_hops : (plan : Ports) (hops : List WHop) → length (neighbour_keys plan hops) ≤ length hops
fewer_keys_than_hops plan [] = omega arith
fewer_keys_than_hops plan (hop ∷ hops) =
    let rest = fewer_keys_than_hops plan hops in
    elim (neighbour_of plan hop) as (λ o. length (those (o ∷ map (neighbour_of plan) hops)) ≤ suc (length hops)) [ None ↦ omega (arith, rest) | Some k ↦ omega (arith, rest) ]

-- the hop of a neighbour, where each hop has one
pub neighbour-at : (plan : Ports) (hops : List WHop) (i : ℕ) (k : Key) → length (neighbour_keys plan hops) ≡ length hops → slice_get (neighbour_keys plan hops) i ≡ Some k → (hop : WHop) × (slice_get hops i ≡ Some hop) × (neighbour_of plan hop ≡ Some k)
neighbour-at plan [] i k same is = absurd (none-some k is)
neighbour-at plan (hop ∷ hops) i k same is = by (λ same i is. neighbour-at plan hops i k same is) (neighbour_of plan hop) refl same i is
  where
    by : (length (neighbour_keys plan hops) ≡ length hops → (i : ℕ) → slice_get (neighbour_keys plan hops) i ≡ Some k → (h : WHop) × (slice_get hops i ≡ Some h) × (neighbour_of plan h ≡ Some k)) → (o : Option Key) → neighbour_of plan hop ≡ o → length (those (o ∷ map (neighbour_of plan) hops)) ≡ suc (length hops) → (i : ℕ) → slice_get (those (o ∷ map (neighbour_of plan) hops)) i ≡ Some k → (h : WHop) × (slice_get (hop ∷ hops) i ≡ Some h) × (neighbour_of plan h ≡ Some k)
    by rest None at same i is = let less = fewer_keys_than_hops plan hops in absurd (omega (arith, less, same))
    by rest (Some q) at same zero is = (hop, refl, at ∙ is)
    by rest (Some q) at same (suc i) is = rest (omega (arith, same)) i is

-- ---- the identifiers of members

at-itself : (hop : WHop) → is_at (whop_cmp hop) hop ≡ true
at-itself hop = ap is_eq (tied_itself whop_total hop)

at-later : (h hop : WHop) (hs : List WHop) (i : ℕ) → AllByRecursion (λ y. whop_cmp h y ≡ Less) hs → slice_get hs i ≡ Some hop → is_at (whop_cmp h) hop ≡ false
at-later h hop hs i below is = ap is_eq (all-at (λ y. whop_cmp h y ≡ Less) hs i hop below is)

member_at : (hops : List WHop) (vs : List Vid) (i : ℕ) (hop : WHop) (v : Vid) → IsStrictlySortedBy whop_cmp hops → slice_get hops i ≡ Some hop → slice_get vs i ≡ Some v → member_vid hops hop vs ≡ Some v
unfolding IsStrictlySortedBy
member_at [] vs i hop v rising is at = absurd (none-some hop is)
member_at (h ∷ hs) [] i hop v rising is at = absurd (none-some v at)
member_at (h ∷ hs) (w ∷ ws) zero hop v rising is at =
    ap (λ b. if b then Some w else member_vid hs hop ws) (subst (λ z. is_at (whop_cmp h) z ≡ true) (same_Some h hop is) (at-itself h)) ∙ at
member_at (h ∷ hs) (w ∷ ws) (suc i) hop v rising is at =
    ap (λ b. if b then Some w else member_vid hs hop ws) (at-later h hop hs i rising.0 is) ∙ member_at hs ws i hop v rising.1 is at

-- the identifier that stands in a hop's place is that of its member
pub member-at : (hops : List WHop) (vs : List Vid) (i : ℕ) (hop : WHop) (v : Vid) → AreRisingHops hops → slice_get hops i ≡ Some hop → slice_get vs i ≡ Some v → member_vid hops hop vs ≡ Some v
member-at hops vs i hop v rising is at = member_at hops vs i hop v (rising-weighed hops rising) is at
