-- the identifiers of a group stand in the order of its things
use Rattle.std.proofs.Common.{◌≡◌, ◌⊎◌, ◌∷◌, ◌++◌, ◌∙◌, inl, inr, Bool, true, false, cond, List, [], length, Option, Some, refl, sym, ap}
use Rattle.std.specs.BTreeMap.{is_at}
use Rattle.std.specs.List.{AllByRecursion}
use Rattle.std.specs.List.Sorted.{IsStrictlySortedBy}
use Rattle.std.specs.Ordering.{is_eq}
use Rattle.std.specs.declared.cmp.Ordering.TheVariants.{Less}
use Rattle.std.proofs.lemmas.Cmp.{tied_itself}
use Rattle.sai_types.specs.declared.weight.WHop.{WHop}
use Rattle.sai_types.specs.declared.ids.Vid.{Vid}
use Rattle.sai_types.specs.declared.thing.Thing.{Thing}
use Rattle.sai_types.specs.declared.thing.Thing.TheVariants as thing
use Rattle.sai_types.specs.Alike.{IsIn}
use Rattle.sai_types.specs.Hop.{AreRisingHops, whop_cmp}
use Rattle.sai_types.proofs.Rising.{whop_total}
use Rattle.sai_types.proofs.Weights.{rising-weighed}
use Rattle.switch_model.specs.Things.{members_of}
use Rattle.ref_counts.specs.Registered.{first_of}
use Rattle.orch_flight.specs.Calling.{member_vid, members_ids}
use Rattle.registry_laws.proofs.Listing.{not_some}
use Rattle.registry_laws.proofs.Identifier.Known.{no_member_vid}

rising_parts : (h : WHop) (hs : List WHop) → IsStrictlySortedBy whop_cmp (h ∷ hs) → AllByRecursion (λ y. whop_cmp h y ≡ Less) hs × IsStrictlySortedBy whop_cmp hs
unfolding IsStrictlySortedBy
rising_parts h hs x = x

-- ---- more identifiers leave those that there are

pub first_more : (xs ys : List Vid) (v : Vid) → first_of xs ≡ Some v → first_of (xs ++ ys) ≡ Some v
first_more [] ys v h = not_some v h
first_more (x ∷ xs) ys v h = h

more_by : (b : Bool) (x v : Vid) (o p : Option Vid) → (o ≡ Some v → p ≡ Some v) → cond b (Some x) o ≡ Some v → cond b (Some x) p ≡ Some v
more_by true x v o p f h = h
more_by false x v o p f h = f h

member_of_more : (hops : List WHop) (hop : WHop) (xs ys : List Vid) (v : Vid) → member_vid hops hop xs ≡ Some v → member_vid hops hop (xs ++ ys) ≡ Some v
member_of_more [] hop xs ys v h = not_some v h
member_of_more (k ∷ hops) hop [] ys v h = not_some v h
member_of_more (k ∷ hops) hop (x ∷ xs) ys v h = more_by (is_at (whop_cmp k) hop) x v (member_vid hops hop xs) (member_vid hops hop (xs ++ ys)) (member_of_more hops hop xs ys v) h

pub member_more : (hops : List WHop) (hop : WHop) (xs ys : List Vid) (v : Vid) → member_vid hops hop (members_ids xs) ≡ Some v → member_vid hops hop (members_ids (xs ++ ys)) ≡ Some v
member_more hops hop [] ys v h = not_some v (sym (no_member_vid hops hop) ∙ h)
member_more hops hop (x ∷ xs) ys v h = member_of_more hops hop xs ys v h

-- ---- the one that is made next comes next

abbrev IsMemberAt : List WHop → List WHop → Thing → List Vid → Vid → Type 0
IsMemberAt all hops z ids v = (hop : WHop) × (z ≡ thing.GroupMember all hop) × (member_vid hops hop ids ≡ Some v) × IsIn hop hops

hop_apart_from_rest : (h hop : WHop) (hs : List WHop) → AllByRecursion (λ y. whop_cmp h y ≡ Less) hs → IsIn hop hs → is_at (whop_cmp h) hop ≡ false
hop_apart_from_rest h hop [] all i = elim i [ ]
hop_apart_from_rest h hop (x ∷ xs) all (inl e) = ap (λ z. is_at (whop_cmp h) z) e ∙ ap is_eq all.0
hop_apart_from_rest h hop (x ∷ xs) all (inr i) = hop_apart_from_rest h hop xs all.1 i

member_placed : (all hops : List WHop) (before : List Thing) (z : Thing) (after : List Thing) (ids : List Vid) (v : Vid) → IsStrictlySortedBy whop_cmp hops → members_of all hops ≡ before ++ (z ∷ after) → length ids ≡ length before → IsMemberAt all hops z (ids ++ (v ∷ [])) v
member_placed all [] [] z after ids v rising e n = absurd cc
member_placed all [] (b ∷ before) z after ids v rising e n = absurd cc
member_placed all (h ∷ hops) [] z after [] v rising e n =
    let same : z ≡ thing.GroupMember all h = cc in
    (h, same, ap (λ b. cond b (Some v) (member_vid hops h [])) (ap is_eq (tied_itself whop_total h)), inl refl)
member_placed all (h ∷ hops) [] z after (x ∷ ids) v rising e n = absurd cc
member_placed all (h ∷ hops) (b ∷ before) z after [] v rising e n = absurd cc
member_placed all (h ∷ hops) (b ∷ before) z after (x ∷ ids) v rising e n =
    let parts = rising_parts h hops rising in
    let rest : members_of all hops ≡ before ++ (z ∷ after) = cc in
    let shorter : length ids ≡ length before = cc in
    let m = member_placed all hops before z after ids v parts.1 rest shorter in
    (m.0, m.1, ap (λ b. cond b (Some x) (member_vid hops m.0 (ids ++ (v ∷ [])))) (hop_apart_from_rest h m.0 hops parts.0 m.3) ∙ m.2, inr m.3)

pub placed : (hops : List WHop) (before : List Thing) (z : Thing) (after : List Thing) (ids : List Vid) (v : Vid) → AreRisingHops hops → thing.Group hops ∷ members_of hops hops ≡ before ++ (z ∷ after) → length ids ≡ length before → ((z ≡ thing.Group hops) × (first_of (ids ++ (v ∷ [])) ≡ Some v)) ⊎ ((hop : WHop) × (z ≡ thing.GroupMember hops hop) × (member_vid hops hop (members_ids (ids ++ (v ∷ []))) ≡ Some v))
placed hops [] z after [] v rising e n = let same : z ≡ thing.Group hops = cc in inl (same, refl)
placed hops [] z after (x ∷ ids) v rising e n = absurd cc
placed hops (b ∷ before) z after [] v rising e n = absurd cc
placed hops (b ∷ before) z after (x ∷ ids) v rising e n =
    let rest : members_of hops hops ≡ before ++ (z ∷ after) = cc in
    let shorter : length ids ≡ length before = cc in
    let m = member_placed hops hops before z after ids v (rising-weighed hops rising) rest shorter in
    inr (m.0, m.1, m.2)
