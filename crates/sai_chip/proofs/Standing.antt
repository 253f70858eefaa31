-- counts of marks against tests of objects
use Rattle.std.proofs.Common.{◌≡◌, ℕ, ◌+◌, ◌==◌, nat_lt, Bool, true, false, ◌||◌, cond, List, [], ◌∷◌, Option, None, Some, sum_by, count_by, refl, sym, ap, ◌∙◌, arith, rules}
use Rattle.std.specs.List.{list_any}
use Rattle.std.specs.Map.{values_of}
use Rattle.std.proofs.lemmas.List.Sums.{sum_by-cons}
use Rattle.std.proofs.lemmas.Grind.{common_steps}
use Rattle.sai_types.specs.declared.ids.Rid.{Rid}
use Rattle.sai_types.specs.declared.kind.Kind.{Kind}
use Rattle.sai_types.specs.declared.body.RifOn.{RifOn}
use Rattle.sai_types.specs.declared.body.RifOn.TheVariants as on
use Rattle.sai_types.specs.declared.body.To.{To}
use Rattle.sai_types.specs.declared.body.To.TheVariants as to
use Rattle.sai_types.specs.declared.body.Body.{Body}
use Rattle.sai_types.specs.declared.body.Body.TheVariants as body
use Rattle.sai_types.specs.Objects.{Objects, level, is_of, kind_of, used}
use Rattle.sai_types.specs.References.{router_of}
use Rattle.sai_types.proofs.Apart.{any_same}
use Rattle.sai_chip.specs.declared.mark.TakenMark.{TakenMark}
use Rattle.sai_chip.specs.declared.mark.TakenMark.TheVariants as mark
use Rattle.sai_chip.specs.Tally.{is_mark, claims}
use Rattle.sai_chip.specs.Marks.{lane_marks, base_marks, target_marks, key_marks, marks_of, has_mark, is_claimed, router_marks, times_claimed}

positive-add : (m n : ℕ) → nat_lt 0 (m + n) ≡ (nat_lt 0 m || nat_lt 0 n)
positive-add m n = grind (arith, common_steps)

positive-sum_by : {X : Type 0} (f : X → ℕ) (xs : List X) → nat_lt 0 (sum_by f xs) ≡ list_any (λ x. nat_lt 0 (f x)) xs
positive-sum_by f [] = refl
positive-sum_by f (x ∷ xs) = ap (nat_lt 0) (sum_by-cons f x xs) ∙ positive-add (f x) (sum_by f xs) ∙ ap (λ b. nat_lt 0 (f x) || b) (positive-sum_by f xs)

positive-cond : (b : Bool) → nat_lt 0 (cond b 1 0) ≡ b
positive-cond true = refl
positive-cond false = refl

pub positive-count_by : {X : Type 0} (p : X → Bool) (xs : List X) → nat_lt 0 (count_by p xs) ≡ list_any p xs
positive-count_by p xs = positive-sum_by (λ x. cond (p x) 1 0) xs ∙ any_same _ p (λ x. positive-cond (p x)) xs

any-values_of : {K X : Type 0} (p : X → Bool) (es : List (K × X)) → list_any p (values_of es) ≡ list_any (λ e. p e.1) es
any-values_of p [] = refl
any-values_of p (e ∷ es) = ap (λ b. p e.1 || b) (any-values_of p es)

-- a mark stands where its count is not 0
pub positive-standing : (m : TakenMark) (objects : Objects) → nat_lt 0 (times_claimed m objects) ≡ is_claimed m objects
positive-standing m objects =
    positive-sum_by (λ b. claims m (marks_of b)) (values_of objects)
    ∙ any_same _ _ (λ b. positive-count_by (λ k. is_mark k m) (marks_of b)) (values_of objects)
    ∙ any-values_of (has_mark m) objects

is_kind : (a b : Kind) → is_mark (mark.Of a) (mark.Of b) ≡ (level a == level b)
is_kind a b = search rules

kind_in-lanes : (k : Kind) (lanes : List ℕ) → claims (mark.Of k) (lane_marks lanes) ≡ 0
kind_in-lanes k [] = refl
kind_in-lanes k (lane ∷ lanes) = kind_in-lanes k lanes

kind_in-base : (k : Kind) (on : RifOn Rid) → claims (mark.Of k) (base_marks on) ≡ 0
kind_in-base k (on.Port p) = refl
kind_in-base k (on.Vlan v) = refl

kind_in-target : (k : Kind) (to : To Rid) → claims (mark.Of k) (target_marks to) ≡ 0
kind_in-target k to.Drop = refl
kind_in-target k (to.Rif r) = refl
kind_in-target k (to.NextHop r) = refl
kind_in-target k (to.Group r) = refl

kind_in-key : (k : Kind) (b : Body Rid) → claims (mark.Of k) (key_marks b) ≡ 0
kind_in-key k (body.Port lanes speed mtu up) = kind_in-lanes k lanes
kind_in-key k (body.Vlan vlan) = refl
kind_in-key k (body.VirtualRouter label) = refl
kind_in-key k (body.BridgePort port) = refl
kind_in-key k (body.VlanMember vlan bridge_port tagging) = refl
kind_in-key k (body.Rif vr on) = kind_in-base k on
kind_in-key k (body.OwnAddress vr ip) = refl
kind_in-key k (body.Neighbor rif ip mac) = refl
kind_in-key k (body.NextHop rif ip) = refl
kind_in-key k body.Group = refl
kind_in-key k (body.GroupMember group next_hop weight) = refl
kind_in-key k (body.Route vr prefix to) = kind_in-target k to

kind_in-router : (k : Kind) (vr : Option Rid) (ks : List TakenMark) → claims (mark.Of k) ks ≡ 0 → claims (mark.Of k) (router_marks vr ks) ≡ 0
kind_in-router k None ks none = none
kind_in-router k (Some r) ks none = none

kind_in-marks : (k : Kind) (b : Body Rid) → claims (mark.Of k) (marks_of b) ≡ cond (is_of k b) 1 0
kind_in-marks k b =
    let one = sum_by-cons (λ m. cond (is_mark m (mark.Of k)) 1 0) (mark.Of (kind_of b)) (router_marks (router_of b) (key_marks b)) in
    let none = kind_in-router k (router_of b) (key_marks b) (kind_in-key k b) in
    let same = ap {B = ℕ} (λ b. cond b 1 0) (is_kind (kind_of b) k) in
    omega (arith, one, none, same)

-- as many objects of a kind stand as its mark is counted
pub standing-kind : (k : Kind) (objects : Objects) → times_claimed (mark.Of k) objects ≡ used objects k
standing-kind k [] = refl
standing-kind k (o ∷ os) =
    sum_by-cons (λ b. claims (mark.Of k) (marks_of b)) o.1 (values_of os)
    ∙ (let one = kind_in-marks k o.1 in let others = standing-kind k os in cc)
    ∙ sym (sum_by-cons (λ x. cond (is_of k x.1) 1 0) o os)
