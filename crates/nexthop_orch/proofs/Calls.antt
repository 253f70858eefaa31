-- the call that is due of a group's operation
use Rattle.std.proofs.Common.{◌≡◌, ◌<◌, ◌+◌, inl, inr, ℕ, zero, suc, Bool, true, false, List, [], ◌∷◌, ◌++◌, drop, length, Some, None, IsSome, slice_get, get_or, refl, sym, ap, subst, ◌∙◌, arith}
use Rattle.std.proofs.lemmas.Option.{same_Some, slice_get-get_or}
use Rattle.table_schema.specs.Plan.{Ports}
use Rattle.table_schema.specs.declared.key.Key.{Key}
use Rattle.sai_types.specs.Hop.{AreRisingHops}
use Rattle.sai_types.specs.Names as thing_name
use Rattle.sai_types.specs.declared.ids.Vid.{Vid}
use Rattle.sai_types.specs.declared.weight.WHop.{WHop}
use Rattle.sai_types.specs.declared.body.Body.TheVariants as body
use Rattle.sai_types.specs.declared.body.Entry.TheVariants as entry
use Rattle.sai_types.specs.declared.body.Call.TheVariants as call
use Rattle.sai_types.specs.declared.thing.Thing.TheVariants as thing
use Rattle.switch_model.specs.Things.{members_of}
use Rattle.row_layout.specs.Operations.{Make, Take, make_all, take_all}
use Rattle.ref_counts.specs.declared.name.Name.{Name}
use Rattle.ref_counts.specs.declared.name.Name.TheVariants as name
use Rattle.ref_counts.specs.declared.next.Next.{Next}
use Rattle.ref_counts.specs.declared.next.Next.TheVariants as next
use Rattle.ref_counts.specs.Registered.{first_of}
use Rattle.ref_counts.specs.Registry.{Names, ids_of}
use Rattle.orch_flight.specs.Calling.{members_ids, row_vid}
use Rattle.orch_flight.specs.Grouping.{GroupOperation, IsGroupNextOf, IsGroupOver, KnowsGroupIds}
use Rattle.nexthop_orch.specs.Groups.{group_operation, hops_named}
use Rattle.nexthop_orch.proofs.Dues.{due-over, last-taken, member-made, member-taken}
use Rattle.nexthop_orch.proofs.Members.{all-at, member-at, member-in, neighbour-at, neighbour_of}

-- a group's operation, from what its fields are known to be
pub group_operation_told : (f : GroupOperation) (w : ℕ) (n : Name) (b b' : Bool) (keys : List Key) (made : List Vid) (d d' : ℕ) → group_operation w n b keys made d ≡ f → b ≡ b' → d ≡ d' → f ≡ group_operation w n b' keys made d'
group_operation_told f w n b b' keys made d d' is builds done = sym is ∙ ap (λ z. group_operation w n z keys made d) builds ∙ ap (group_operation w n b' keys made) done

past-none : {X : Type 0} (xs : List X) (i : ℕ) → slice_get xs i ≡ None → length xs < suc i
past-none [] i h = omega arith
past-none (x ∷ xs) zero h = cc
past-none (x ∷ xs) (suc i) h = let rest = past-none xs i h in omega (arith, rest)

first-there : {X : Type 0} (xs : List X) (x : X) → slice_get xs 0 ≡ Some x → first_of xs ≡ Some x
first-there [] x h = h
first-there (y ∷ ys) x h = h

item-at : {X : Type 0} (xs : List X) (i : ℕ) → i < length xs → (x : X) × (slice_get xs i ≡ Some x)
item-at [] i h = absurd (omega (arith, h))
item-at (x ∷ xs) zero h = (x, refl)
item-at (x ∷ xs) (suc i) h = item-at xs i (omega (arith, h))

behind-first : (ids : List Vid) (i : ℕ) (v : Vid) → slice_get ids (suc i) ≡ Some v → slice_get (members_ids ids) i ≡ Some v
behind-first [] i v h = h
behind-first (w ∷ ids) i v h = h

module _ (names : Names) (w : ℕ) (n : Name) (keys : List Key) (made : List Vid) where
  -- the registry tells the identifier of a neighbour
  pub knows-neighbour : (i : ℕ) (k : Key) (d : ℕ) (f : GroupOperation) → f ≡ group_operation w n true keys made d → slice_get keys i ≡ Some k → KnowsGroupIds names f → IsSome (first_of (ids_of names (name.Row k)))
  knows-neighbour i k d f is at = subst (λ z. KnowsGroupIds names z → IsSome (first_of (ids_of names (name.Row k)))) (sym is) (λ known. all-at (λ k. IsSome (first_of (ids_of names (name.Row k)))) keys i k (known.neighbours refl) at)

  module _ (plan : Ports) where
    pub next-group : (f : GroupOperation) → f ≡ group_operation w n true keys made 0 → IsGroupNextOf plan names f (next.Call (call.Create body.Group))
    next-group f is = subst (λ z. IsGroupNextOf plan names z (next.Call (call.Create body.Group))) (sym is) (
      Make (thing.Group (hops_named n)),
      make_all (members_of (hops_named n) (hops_named n)) [],
      refl,
      record {
        body = body.Group;
        of = record { first = record { 0 = 0 }; second = record { 0 = 0 }; first_at = tt; second_at = tt; body_is = refl };
        is = refl;
      },
    )

    pub next-member : (i : ℕ) (hop : WHop) (k : Key) (v v' u : Vid) (f : GroupOperation) → f ≡ group_operation w n true keys made (suc i) → v ≡ get_or made 0 v' → length made ≡ suc i → slice_get f.hops i ≡ Some hop → slice_get keys i ≡ Some k → first_of (ids_of names (name.Row k)) ≡ Some u → IsGroupOver plan f → IsGroupNextOf plan names f (next.Call (call.Create (body.GroupMember v u hop.weight)))
    next-member i hop k v v' u f is head long here at known = subst (λ z. slice_get z.hops i ≡ Some hop → IsGroupOver plan z → IsGroupNextOf plan names z (next.Call (call.Create (body.GroupMember v u hop.weight)))) (sym is) by here
      where
        by : slice_get (hops_named n) i ≡ Some hop → IsGroupOver plan (group_operation w n true keys made (suc i)) → IsGroupNextOf plan names (group_operation w n true keys made (suc i)) (next.Call (call.Create (body.GroupMember v u hop.weight)))
        by here over =
            let hops = hops_named n in
            let (keys_are, same) = over refl in
            let (other, there, named) = neighbour-at plan hops i k (ap length (sym keys_are) ∙ same) (ap (λ l. slice_get l i) (sym keys_are) ∙ at) in
            let told : neighbour_of plan hop ≡ Some k = subst (λ z. neighbour_of plan z ≡ Some k) (same_Some other hop (sym there ∙ here)) named in (
              Make (thing.GroupMember hops hop),
              drop (suc i) (make_all (members_of hops hops) []),
              member-made hops hops i hop here,
              record {
                body = body.GroupMember v u hop.weight;
                of = record { first = v; second = u; first_at = (refl, first-there made v (slice_get-get_or made 0 v' (omega (arith, long)) ∙ ap Some (sym head))); second_at = ap (row_vid names) told ∙ known; body_is = refl };
                is = refl;
              },
            )

    -- behind the last member nothing is due
    pub next-none : (i : ℕ) (f : GroupOperation) → f ≡ group_operation w n true keys made (suc i) → slice_get f.hops i ≡ None → f.due ≡ []
    next-none i f is = subst (λ z. slice_get z.hops i ≡ None → z.due ≡ []) (sym is) (λ none. due-over (hops_named n) true (suc i) (past-none (hops_named n) i none))

    pub next-built : (i : ℕ) (f : GroupOperation) → f ≡ group_operation w n true keys made (suc i) → slice_get keys i ≡ None → IsGroupOver plan f → f.due ≡ []
    next-built i f is none = subst (λ z. IsGroupOver plan z → z.due ≡ []) (sym is) (λ over. due-over (hops_named n) true (suc i) (subst (λ m. m < suc i) (over refl).1 (past-none keys i none)))

    abbrev IsNextFor : Next → GroupOperation → Type 0
    IsNextFor x f = KnowsGroupIds names f → IsGroupNextOf plan names f x

    found : (ids : List Vid) (at i : ℕ) (d : Vid) → n ≡ name.Group (hops_named n) → ids ≡ ids_of names n → at ≡ i → i < length (ids_of names (name.Group (hops_named n))) → slice_get (ids_of names (name.Group (hops_named n))) i ≡ Some (get_or ids at d)
    found ids at i d group are same within =
        slice_get-get_or (ids_of names (name.Group (hops_named n))) i d within ∙ ap Some (ap (λ m. get_or (ids_of names m) i d) (sym group) ∙ ap (λ l. get_or l i d) (sym are) ∙ ap (λ m. get_or ids m d) (sym same))

    pub next-removal : (i : ℕ) (ids : List Vid) (d : Vid) (f : GroupOperation) → f ≡ group_operation w n false keys made i → n ≡ name.Group (hops_named n) → AreRisingHops (hops_named n) → i < length (hops_named n) → ids ≡ ids_of names n → IsNextFor (next.Call (call.Remove (entry.Oid (get_or ids (i + 1) d)))) f
    next-removal i given d f is group rising within are = let v = get_or given (i + 1) d in subst (IsNextFor (next.Call (call.Remove (entry.Oid v)))) (sym is) by
      where
        by : IsNextFor (next.Call (call.Remove (entry.Oid (get_or given (i + 1) d)))) (group_operation w n false keys made i)
        by known =
            let v = get_or given (i + 1) d in
            let hops = hops_named n in
            let ids = ids_of names (name.Group hops) in
            let count = known.group refl in
            let (hop, there) = item-at hops i within in (
              Take (thing_name.GroupMember hops hop),
              drop (suc i) (take_all (members_of hops hops ++ thing.Group hops ∷ []) []),
              member-taken hops hops (thing.Group hops) i hop there,
              record {
                old = thing.GroupMember hops hop;
                there = inr (member-in hops hops i hop there);
                same = refl;
                entry = entry.Oid v;
                of = record {
                  body = body.GroupMember v v hop.weight;
                  of = record { first = v; second = v; first_at = λ e. elim e [ ]; second_at = λ e. elim e [ ]; body_is = refl };
                  id = v;
                  numbered = λ _. (refl, member-at hops (members_ids ids) i hop v rising there (behind-first ids i v (found given (i + 1) (suc i) d group are (omega arith) (omega (arith, within, count)))));
                  is = refl;
                };
                is = refl;
              },
            )

    pub next-last : (ids : List Vid) (d : Vid) (f : GroupOperation) → f ≡ group_operation w n false keys made (length (hops_named n)) → n ≡ name.Group (hops_named n) → ids ≡ ids_of names n → IsNextFor (next.Call (call.Remove (entry.Oid (get_or ids 0 d)))) f
    next-last given d f is group are = let v = get_or given 0 d in subst (IsNextFor (next.Call (call.Remove (entry.Oid v)))) (sym is) by
      where
        by : IsNextFor (next.Call (call.Remove (entry.Oid (get_or given 0 d)))) (group_operation w n false keys made (length (hops_named n)))
        by known =
            let v = get_or given 0 d in
            let hops = hops_named n in
            let ids = ids_of names (name.Group hops) in
            let count = known.group refl in (
              Take (thing_name.Group hops),
              [],
              last-taken hops hops (thing.Group hops),
              record {
                old = thing.Group hops;
                there = inl refl;
                same = refl;
                entry = entry.Oid v;
                of = record {
                  body = body.Group;
                  of = record { first = v; second = v; first_at = tt; second_at = tt; body_is = refl };
                  id = v;
                  numbered = λ _. (refl, first-there ids v (found given 0 0 d group are refl (omega (arith, count))));
                  is = refl;
                };
                is = refl;
              },
            )

    pub next-gone : (f : GroupOperation) (d : ℕ) → f ≡ group_operation w n false keys made d → length (hops_named n) < d → f.due ≡ []
    next-gone f d is past = ap (λ z. z.due) is ∙ due-over (hops_named n) false d past
