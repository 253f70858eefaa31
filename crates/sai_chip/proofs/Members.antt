-- the members of a group: by the objects, and by the marks that stand
use Rattle.std.proofs.Common.{◌≡◌, ℕ, ◌==◌, nat_lt, Bool, true, false, cond, ◌||◌, ◌&&◌, List, [], ◌∷◌, if◌then◌else◌, refl, sym, ap, ap₂, ◌∙◌}
use Rattle.std.specs.List.{list_any}
use Rattle.std.proofs.lemmas.Bool.{and_parts, eq-eqb, eqb-true, or_parts}
use Rattle.sai_types.specs.declared.ids.Rid.{Rid}
use Rattle.sai_types.specs.declared.body.Body.{Body}
use Rattle.sai_types.specs.declared.body.Body.TheVariants as body
use Rattle.sai_types.specs.Objects.{Objects}
use Rattle.sai_types.specs.Refusal.{clash, same_id}
use Rattle.sai_types.specs.Named.{both, hops_among, hops_at, put_hop, whop_at, with_member}
use Rattle.sai_types.proofs.Apart.{same_id-symm}
use Rattle.sai_types.proofs.Exact.{id-exact}
use Rattle.chip_names.specs.Members.{hops_by}
use Rattle.sai_chip.specs.declared.mark.TakenMark.TheVariants as mark
use Rattle.sai_chip.specs.Tally.{AreMembers, Tally, count_at, has_member, same_member}
use Rattle.sai_chip.specs.Marks.{IsCounted, has_mark, is_claimed}
use Rattle.sai_chip.proofs.Clashes.{clash-member, is_member, mark-member, never-clashes}
use Rattle.sai_chip.proofs.HopSets.{hops_by-same}
use Rattle.sai_chip.proofs.MemberCounts.{has_member-none, has_member-some}
use Rattle.sai_chip.proofs.Passing.{any-found, any-there, both_ways}
use Rattle.sai_chip.proofs.Standing.{positive-standing}

pub same_id-refl : (a : Rid) → same_id a a ≡ true
same_id-refl a = eq-eqb a.0 a.0 refl

same_member-refl : (m : Rid × ℕ) → same_member m m ≡ true
same_member-refl m = ap (λ b. b && m.1 == m.1) (same_id-refl m.0) ∙ eq-eqb m.1 m.1 refl

same_member-exact : (m n : Rid × ℕ) → same_member m n ≡ true → m ≡ n
same_member-exact m n same =
    let parts = and_parts (same_id m.0 n.0) (m.1 == n.1) same in
    let made : Rid → ℕ → Rid × ℕ = λ r w. (r, w) in
    ap₂ made (id-exact m.0 n.0 parts.0) (eqb-true m.1 n.1 parts.1)

passed : (xs ys : List (Rid × ℕ)) → ((m : Rid × ℕ) → list_any (same_member m) xs ≡ list_any (same_member m) ys) → (p : Rid × ℕ → Bool) → list_any p xs ≡ true → list_any p ys ≡ true
passed xs ys same p some =
    let one = any-found p xs some in
    let there = any-found (same_member one.0) ys (sym (same one.0) ∙ any-there (same_member one.0) one.0 xs one.1 (same_member-refl one.0)) in
    any-there p there.0 ys there.1 (ap p (sym (same_member-exact one.0 there.0 there.2)) ∙ one.2)

-- lists with the same next hops pass the same tests
pub same-any : (xs ys : List (Rid × ℕ)) → ((m : Rid × ℕ) → list_any (same_member m) xs ≡ list_any (same_member m) ys) → (p : Rid × ℕ → Bool) → list_any p xs ≡ list_any p ys
same-any xs ys same p = both_ways (list_any p xs) (list_any p ys) (passed xs ys same p) (passed ys xs (λ m. sym (same m)) p)

abbrev with_id : Rid → Body Rid → List (Rid × ℕ) → List (Rid × ℕ)
with_id g (body.GroupMember group next_hop weight) ns = if same_id group g then (next_hop, weight) ∷ ns else ns
with_id g _ ns = ns

-- the next hops of a group's members among these objects
abbrev ids_in : Rid → Objects → List (Rid × ℕ)
ids_in g [] = []
ids_in g (o ∷ os) = with_id g o.1 (ids_in g os)

hops_if : (objects : Objects) (n : Rid) (w : ℕ) (ns : List (Rid × ℕ)) (b : Bool) → cond b (both put_hop (hops_by objects ns) (whop_at objects n w)) (hops_by objects ns) ≡ hops_by objects (cond b ((n, w) ∷ ns) ns)
hops_if objects n w ns true = refl
hops_if objects n w ns false = refl

hops_step : (objects : Objects) (g : Rid) (b : Body Rid) (ns : List (Rid × ℕ)) → with_member objects g b (hops_by objects ns) ≡ hops_by objects (with_id g b ns)
hops_step objects g (body.GroupMember group next_hop weight) ns = hops_if objects next_hop weight ns (same_id group g)
hops_step objects g _ ns = refl

hops_among-by : (objects : Objects) (g : Rid) (os : Objects) → hops_among objects g os ≡ hops_by objects (ids_in g os)
hops_among-by objects g [] = refl
hops_among-by objects g (o ∷ os) = ap (with_member objects g o.1) (hops_among-by objects g os) ∙ hops_step objects g o.1 (ids_in g os)

any_if : (n m : Rid × ℕ) (ns : List (Rid × ℕ)) (b : Bool) → ((b && same_member n m) || list_any (same_member n) ns) ≡ list_any (same_member n) (cond b (m ∷ ns) ns)
any_if n m ns true = refl
any_if n m ns false = refl

member_step : (g n : Rid) (w : ℕ) (b : Body Rid) (ns : List (Rid × ℕ)) → (is_member g n w b || list_any (same_member (n, w)) ns) ≡ list_any (same_member (n, w)) (with_id g b ns)
member_step g n w (body.GroupMember h m v) ns = ap (λ t. (t && same_member (n, w) (m, v)) || list_any (same_member (n, w)) ns) (same_id-symm g h) ∙ any_if (n, w) (m, v) ns (same_id h g)
member_step g n w _ ns = refl

-- the mark of a member stands where an object is that member
stands-id : (g n : Rid) (w : ℕ) (os : Objects) → is_claimed (mark.GroupMember g n w) os ≡ list_any (same_member (n, w)) (ids_in g os)
stands-id g n w [] = refl
stands-id g n w (o ∷ os) =
    ap (λ b. has_mark (mark.GroupMember g n w) o.1 || b) (stands-id g n w os)
    ∙ ap (λ b. b || list_any (same_member (n, w)) (ids_in g os)) (mark-member g n w o.1)
    ∙ member_step g n w o.1 (ids_in g os)

-- the members by the marks that are counted give the hops of the group
pub hops-of_members : (objects : Objects) (counts : Tally) (g : Rid) (ids : List (Rid × ℕ)) → IsCounted objects counts → ((m : Rid × ℕ) → list_any (same_member m) ids ≡ nat_lt 0 (count_at counts (mark.GroupMember g m.0 m.1))) → hops_by objects ids ≡ hops_at objects g
hops-of_members objects counts g ids counted members =
    hops_by-same objects ids (ids_in g objects)
    (same-any ids (ids_in g objects) (λ m. members m ∙ ap (nat_lt 0) (counted.each (mark.GroupMember g m.0 m.1)) ∙ positive-standing (mark.GroupMember g m.0 m.1) objects ∙ stands-id g m.0 m.1 objects))
    ∙ sym (hops_among-by objects g objects)

none_clashes : (g n : Rid) (v : ℕ) (objects : Objects) → ((w : ℕ) → is_claimed (mark.GroupMember g n w) objects ≡ false) → list_any (λ o. clash (body.GroupMember g n v) o.1) objects ≡ false
none_clashes g n v [] none = refl
none_clashes g n v (o ∷ os) none =
    let parts = λ (w : ℕ). or_parts (has_mark (mark.GroupMember g n w) o.1) (is_claimed (mark.GroupMember g n w) os) (none w) in
    ap (λ b. b || list_any (λ o. clash (body.GroupMember g n v) o.1) os) (never-clashes g n v o.1 (λ w. sym (mark-member g n w o.1) ∙ (parts w).0))
    ∙ none_clashes g n v os (λ w. (parts w).1)

-- a member clashes where its next hop is counted as a member of its group, with whatever weight
pub clashes-member : (objects : Objects) (counts : Tally) (g n : Rid) (v : ℕ) → IsCounted objects counts → AreMembers counts.group_members → has_member counts.group_members g n ≡ list_any (λ o. clash (body.GroupMember g n v) o.1) objects
clashes-member objects counts g n v counted are = by (has_member counts.group_members g n) refl
  where
    stands : (w : ℕ) → nat_lt 0 (count_at counts (mark.GroupMember g n w)) ≡ is_claimed (mark.GroupMember g n w) objects
    stands w = ap (nat_lt 0) (counted.each (mark.GroupMember g n w)) ∙ positive-standing (mark.GroupMember g n w) objects

    by : (b : Bool) → has_member counts.group_members g n ≡ b → b ≡ list_any (λ o. clash (body.GroupMember g n v) o.1) objects
    by true some =
        let one = has_member-some g n counts.group_members are some in
        let there = any-found (λ o. has_mark (mark.GroupMember g n one.0) o.1) objects (sym (stands one.0) ∙ one.1) in
        sym (any-there (λ o. clash (body.GroupMember g n v) o.1) there.0 objects there.1 (clash-member g n v one.0 there.0.1 (sym (mark-member g n one.0 there.0.1) ∙ there.2)))
    by false none = sym (none_clashes g n v objects (λ w. sym (stands w) ∙ has_member-none g n w counts.group_members are none))
