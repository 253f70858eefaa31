-- how many objects of a kind stand after a call
use Rattle.std.proofs.Common.{◌≡◌, ℕ, ◌+◌, ◌-◌, ◌==◌, Bool, true, false, cond, [], ◌∷◌, Option, Some, None, option_map, sum_by, slice_get, refl, ap, arith}
use Rattle.std.specs.BTreeMap.{insert_entry, is_at}
use Rattle.std.specs.Map.{remove_entry, values_of}
use Rattle.std.specs.Option.{unwrap_or}
use Rattle.std.proofs.lemmas.Bool.{eqb-true}
use Rattle.std.proofs.lemmas.List.Sums.{sum_by-cons}
use Rattle.std.proofs.lemmas.Map.Entries.{sum_by-insert_entry, sum_by-remove_entry}
use Rattle.sai_types.specs.declared.ids.Rid.{Rid}
use Rattle.sai_types.specs.declared.kind.Kind.{Kind}
use Rattle.sai_types.specs.declared.kind.Kind.TheVariants as kind
use Rattle.sai_types.specs.declared.body.Attr.{Attr}
use Rattle.sai_types.specs.declared.body.Body.{Body}
use Rattle.sai_types.specs.declared.body.Call.TheVariants as call
use Rattle.sai_types.specs.declared.body.Entry.{Entry}
use Rattle.sai_types.specs.After.{after_call, after_set, entry_of, with_attr}
use Rattle.sai_types.specs.Kinds.{all_kinds}
use Rattle.sai_types.specs.Made.{AreSorted}
use Rattle.sai_types.specs.Objects.{Objects, body_at, entry_cmp, is_of, kind_of, level, used}
use Rattle.sai_types.proofs.Apart.{kind_of-with_attr}
use Rattle.sai_types.proofs.Entries.{entry_total}

kind_at_level : (k : Kind) → slice_get all_kinds (level k) ≡ Some k
kind_at_level kind.Port = refl
kind_at_level kind.Vlan = refl
kind_at_level kind.VirtualRouter = refl
kind_at_level kind.BridgePort = refl
kind_at_level kind.VlanMember = refl
kind_at_level kind.Rif = refl
kind_at_level kind.OwnAddress = refl
kind_at_level kind.Neighbor = refl
kind_at_level kind.NextHop = refl
kind_at_level kind.Group = refl
kind_at_level kind.GroupMember = refl
kind_at_level kind.Route = refl

-- kinds of one place are one kind
pub level-exact : (k l : Kind) → (level k == level l) ≡ true → k ≡ l
level-exact k l same =
    let at = ap (slice_get all_kinds) (eqb-true (level k) (level l) same) in
    let one = kind_at_level k in
    let two = kind_at_level l in cc

values_sum : (f : Body Rid → ℕ) (objects : Objects) → sum_by (λ (o : Entry Rid × Body Rid). f o.1) objects ≡ sum_by f (values_of objects)
values_sum f [] = refl
values_sum f (o ∷ os) =
    let rest = values_sum f os in
    let one = sum_by-cons (λ (p : Entry Rid × Body Rid). f p.1) o os in
    let two = sum_by-cons f o.1 (values_of os) in omega (arith, rest, one, two)

abbrev times : Kind → Body Rid → ℕ
times k b = cond (is_of k b) 1 0

abbrev times_at : Kind → Objects → Entry Rid → ℕ
times_at k objects e = unwrap_or (option_map (times k) (body_at objects e)) 0

used_put : (k : Kind) (objects : Objects) (e : Entry Rid) (b : Body Rid) → AreSorted objects → used (insert_entry entry_cmp objects e b) k + times_at k objects e ≡ used objects k + times k b
used_put k objects e b sorted =
    let sum = sum_by-insert_entry (times k) entry_total objects e b sorted in
    let new = values_sum (times k) (insert_entry entry_cmp objects e b) in
    let old = values_sum (times k) objects in omega (arith, sum, new, old)

-- an object that is made is counted
used_made : (k : Kind) (objects : Objects) (n : ℕ) (b : Body Rid) → AreSorted objects → body_at objects (entry_of n b) ≡ None → used (after_call n objects (call.Create b)) k ≡ used objects k + times k b
used_made k objects n b sorted absent =
    let sum = used_put k objects (entry_of n b) b sorted in
    let none : times_at k objects (entry_of n b) ≡ 0 = ap (λ o. unwrap_or (option_map (times k) o) 0) absent in omega (arith, sum, none)

-- one that is removed no longer
used_removed : (k : Kind) (objects : Objects) (n : ℕ) (e : Entry Rid) (b : Body Rid) → body_at objects e ≡ Some b → used (after_call n objects (call.Remove e)) k + times k b ≡ used objects k
used_removed k objects n e b there =
    let sum = sum_by-remove_entry (times k) (is_at (entry_cmp e)) objects in
    let had : times_at k objects e ≡ times k b = ap (λ o. unwrap_or (option_map (times k) o) 0) there in
    let new = values_sum (times k) (remove_entry (is_at (entry_cmp e)) objects) in
    let old = values_sum (times k) objects in omega (arith, sum, had, new, old)

used_set : (k : Kind) (objects : Objects) (e : Entry Rid) (a : Attr Rid) (o : Option (Body Rid)) → AreSorted objects → body_at objects e ≡ o → used (after_set objects e a o) k ≡ used objects k
used_set k objects e a None sorted at = refl
used_set k objects e a (Some b) sorted at =
    let sum = used_put k objects e (with_attr b a) sorted in
    let had : times_at k objects e ≡ times k b = ap (λ o. unwrap_or (option_map (times k) o) 0) at in
    let same = ap {B = ℕ} (λ l. cond (level l == level k) 1 0) (kind_of-with_attr b a) in omega (arith, sum, had, same)

-- and one that is set stays counted
pub used-set : (k : Kind) (objects : Objects) (n : ℕ) (e : Entry Rid) (a : Attr Rid) → AreSorted objects → used (after_call n objects (call.Set e a)) k ≡ used objects k
used-set k objects n e a sorted = used_set k objects e a (body_at objects e) sorted refl

more_by : (k : Kind) (objects : Objects) (l : Kind) (t : Bool) (n : ℕ) → (level l == level k) ≡ t → n ≡ used objects k + cond t 1 0 → n ≡ cond t (used objects l + 1) (used objects k)
more_by k objects l true n same is = let at = ap (used objects) (level-exact l k same) in omega (arith, is, at)
more_by k objects l false n same is = omega (arith, is)

fewer_by : (k : Kind) (objects : Objects) (l : Kind) (t : Bool) (n : ℕ) → (level l == level k) ≡ t → n + cond t 1 0 ≡ used objects k → n ≡ cond t (used objects l - 1) (used objects k)
fewer_by k objects l true n same is = let at = ap (used objects) (level-exact l k same) in omega (arith, is, at)
fewer_by k objects l false n same is = omega (arith, is)

-- the count of the object's kind changes by one, and the others stay
pub used-made : (k : Kind) (objects : Objects) (n : ℕ) (b : Body Rid) → AreSorted objects → body_at objects (entry_of n b) ≡ None → used (after_call n objects (call.Create b)) k ≡ cond (level (kind_of b) == level k) (used objects (kind_of b) + 1) (used objects k)
used-made k objects n b sorted absent = more_by k objects (kind_of b) (is_of k b) _ refl (used_made k objects n b sorted absent)

pub used-removed : (k : Kind) (objects : Objects) (n : ℕ) (e : Entry Rid) (b : Body Rid) → body_at objects e ≡ Some b → used (after_call n objects (call.Remove e)) k ≡ cond (level (kind_of b) == level k) (used objects (kind_of b) - 1) (used objects k)
used-removed k objects n e b there = fewer_by k objects (kind_of b) (is_of k b) _ refl (used_removed k objects n e b there)
