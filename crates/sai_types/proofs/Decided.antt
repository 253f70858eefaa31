-- what an address's packets are decided by
use Rattle.std.proofs.Common.{◌≡◌, ◌⊎◌, inl, inr, ℕ, ◌+◌, ◌-◌, ◌*◌, ◌/◌, ◌%◌, ◌^◌, ◌≤◌, ◌==◌, nat_lt, Bool, true, false, ◌||◌, List, [], ◌∷◌, Option, None, Some, if◌then◌else◌, refl, sym, ap, ap₂, ◌∙◌, subst, arith}
use Rattle.std.proofs.lemmas.Bool.{and_from, and_parts, eqb-true, false≢true, or_right}
use Rattle.std.proofs.lemmas.Bool.Decides.{nat_tests}
use Rattle.std.proofs.lemmas.Nat.{div-add-mod'}
use Rattle.std.specs.Cmp.{both_ways}
use Rattle.swss_types.specs.Address.{IsProperPrefix, covers, width, same_family, front}
use Rattle.swss_types.specs.declared.address.Family.{Family}
use Rattle.swss_types.specs.declared.address.Family.TheVariants.{V4, V6}
use Rattle.swss_types.specs.declared.address.Ip.{Ip}
use Rattle.swss_types.specs.declared.address.Prefix.{Prefix}
use Rattle.swss_types.specs.Vrf.{covers_in, same_vrf}
use Rattle.swss_types.specs.declared.vrf.Packet.{Packet}
use Rattle.swss_types.specs.declared.vrf.Vrf.{Vrf}
use Rattle.swss_types.proofs.Routers.{vrf-exact, vrf-refl}
use Rattle.swss_types.specs.contracts.address.IpEq.TheImpl.Laws as equal_ip
use Rattle.sai_types.specs.declared.thing.Goal.{Goal}
use Rattle.sai_types.specs.declared.thing.Thing.{Thing}
use Rattle.sai_types.specs.declared.thing.Thing.TheVariants as thing
use Rattle.sai_types.specs.Alike.{IsIn}
use Rattle.sai_types.specs.Decided.{AreRoutes, DecideAlike}
use Rattle.sai_types.specs.Forwarding.{is_own, has_own, longer, with_route, best_route, decide}
use Rattle.sai_types.specs.Refusal.{same_ip}
use Rattle.sai_types.proofs.Exact.{ip-exact}

-- the route of the longest prefix that covers an address, where it has this prefix and goal
pub record IsBest (things : List Thing) (a : Packet) (p : Prefix) (g : Goal) : Type 0 where
  pub here : IsIn (thing.Route a.vrf p g) things
  pub covering : covers p a.to ≡ true
  pub longest : (q : Prefix) (h : Goal) → covers q a.to ≡ true → IsIn (thing.Route a.vrf q h) things → q.len ≤ p.len

abbrev pub IsAnswer : List Thing → Packet → Option (Prefix × Goal) → Type 0
IsAnswer things a None = (q : Prefix) (h : Goal) → covers q a.to ≡ true → IsIn (thing.Route a.vrf q h) things → ⊥
IsAnswer things a (Some r) = IsBest things a r.0 r.1

route_prefix : (v w : Vrf) (p q : Prefix) (g h : Goal) → thing.Route v p g ≡ thing.Route w q h → p ≡ q
route_prefix v w p q g h e = cc

route_router : (v w : Vrf) (p q : Prefix) (g h : Goal) → thing.Route v p g ≡ thing.Route w q h → v ≡ w
route_router v w p q g h e = cc

in_tail : (x t : Thing) (ts : List Thing) (P : Type 0) → (x ≡ t → P) → (IsIn x ts → P) → IsIn x (t ∷ ts) → P
in_tail x t ts P f g (inl e) = f e
in_tail x t ts P f g (inr i) = g i

-- a thing in front that is no route or does not cover the address
aside : (t : Thing) (ts : List Thing) (a : Packet) (o : Option (Prefix × Goal)) → ((q : Prefix) (h : Goal) → covers q a.to ≡ true → thing.Route a.vrf q h ≡ t → ⊥) → IsAnswer ts a o → IsAnswer (t ∷ ts) a o
aside t ts a None apart answer = λ q h c i. in_tail (thing.Route a.vrf q h) t ts ⊥ (apart q h c) (answer q h c) i
aside t ts a (Some r) apart answer = record {
  here = inr answer.here;
  covering = answer.covering;
  longest = λ q h c i. in_tail (thing.Route a.vrf q h) t ts (q.len ≤ r.0.len) (λ e. absurd (apart q h c e)) (answer.longest q h c) i;
}

len_of : (p q : Prefix) → q ≡ p → q.len ≤ p.len
len_of p q e = let same : q.len ≡ p.len = ap (λ x. x.len) e in omega arith

le_from_not_lt : (m n : ℕ) → nat_lt m n ≡ false → n ≤ m
le_from_not_lt m n h = grind (arith, nat_tests)

le_from_lt : (m n : ℕ) → nat_lt m n ≡ true → m ≤ n
le_from_lt m n h = grind (arith, nat_tests)

chosen_is_answer : (b : Bool) (p : Prefix) (g : Goal) (ts : List Thing) (a : Packet) (r : Prefix × Goal) → nat_lt p.len r.0.len ≡ b → covers p a.to ≡ true → IsBest ts a r.0 r.1 → IsAnswer (thing.Route a.vrf p g ∷ ts) a (if b then Some r else Some (p, g))
chosen_is_answer true p g ts a r lt cov best = record {
  here = inr best.here;
  covering = best.covering;
  longest = λ q h c i. in_tail (thing.Route a.vrf q h) (thing.Route a.vrf p g) ts (q.len ≤ r.0.len) (λ e. let one = len_of p q (route_prefix a.vrf a.vrf q p h g e) in let two = le_from_lt p.len r.0.len lt in omega arith) (best.longest q h c) i;
}
chosen_is_answer false p g ts a r lt cov best = record {
  here = inl refl;
  covering = cov;
  longest = λ q h c i. in_tail (thing.Route a.vrf q h) (thing.Route a.vrf p g) ts (q.len ≤ p.len) (λ e. len_of p q (route_prefix a.vrf a.vrf q p h g e)) (λ j. let one = best.longest q h c j in let two = le_from_not_lt p.len r.0.len lt in omega arith) i;
}

longer_is : (p : Prefix) (g : Goal) (ts : List Thing) (a : Packet) (o : Option (Prefix × Goal)) → covers p a.to ≡ true → IsAnswer ts a o → IsAnswer (thing.Route a.vrf p g ∷ ts) a (longer p g o)
longer_is p g ts a None cov answer = record {
  here = inl refl;
  covering = cov;
  longest = λ q h c i. in_tail (thing.Route a.vrf q h) (thing.Route a.vrf p g) ts (q.len ≤ p.len) (λ e. len_of p q (route_prefix a.vrf a.vrf q p h g e)) (λ j. absurd (answer q h c j)) i;
}
longer_is p g ts a (Some r) cov answer = chosen_is_answer (nat_lt p.len r.0.len) p g ts a r refl cov answer

route_is : (b : Bool) (v : Vrf) (p : Prefix) (g : Goal) (ts : List Thing) (a : Packet) (o : Option (Prefix × Goal)) → covers_in v p a ≡ b → IsAnswer ts a o → IsAnswer (thing.Route v p g ∷ ts) a (if b then longer p g o else o)
route_is true v p g ts a o cov answer =
    let parts = and_parts (same_vrf v a.vrf) (covers p a.to) cov in
    subst (λ w. IsAnswer (thing.Route w p g ∷ ts) a (longer p g o)) (sym (vrf-exact v a.vrf parts.0)) (longer_is p g ts a o parts.1 answer)
route_is false v p g ts a o cov answer =
    aside (thing.Route v p g) ts a o (λ q h c e.
    let router : same_vrf v a.vrf ≡ true = ap (λ w. same_vrf w a.vrf) (sym (route_router a.vrf v q p h g e)) ∙ vrf-refl a.vrf in
    let under : covers p a.to ≡ true = ap (λ x. covers x a.to) (sym (route_prefix a.vrf v q p h g e)) ∙ c in
    false≢true (sym cov ∙ and_from (same_vrf v a.vrf) (covers p a.to) router under)) answer

answer_with_thing : (t : Thing) (ts : List Thing) (a : Packet) (o : Option (Prefix × Goal)) → IsAnswer ts a o → IsAnswer (t ∷ ts) a (with_route a t o)
answer_with_thing (thing.Route v p g) ts a o answer = route_is (covers_in v p a) v p g ts a o refl answer
answer_with_thing (thing.Port x) ts a o answer = aside (thing.Port x) ts a o (λ q h c e. cc) answer
answer_with_thing (thing.Vlan x) ts a o answer = aside (thing.Vlan x) ts a o (λ q h c e. cc) answer
answer_with_thing (thing.VirtualRouter x) ts a o answer = aside (thing.VirtualRouter x) ts a o (λ q h c e. cc) answer
answer_with_thing (thing.BridgePort x) ts a o answer = aside (thing.BridgePort x) ts a o (λ q h c e. cc) answer
answer_with_thing (thing.VlanMember x y z) ts a o answer = aside (thing.VlanMember x y z) ts a o (λ q h c e. cc) answer
answer_with_thing (thing.Rif x y) ts a o answer = aside (thing.Rif x y) ts a o (λ q h c e. cc) answer
answer_with_thing (thing.Own x y) ts a o answer = aside (thing.Own x y) ts a o (λ q h c e. cc) answer
answer_with_thing (thing.Neighbor x y) ts a o answer = aside (thing.Neighbor x y) ts a o (λ q h c e. cc) answer
answer_with_thing (thing.NextHop x) ts a o answer = aside (thing.NextHop x) ts a o (λ q h c e. cc) answer
answer_with_thing (thing.Group x) ts a o answer = aside (thing.Group x) ts a o (λ q h c e. cc) answer
answer_with_thing (thing.GroupMember x y) ts a o answer = aside (thing.GroupMember x y) ts a o (λ q h c e. cc) answer

-- the best route is one of the longest prefix that covers the address
pub answer_is : (ts : List Thing) (a : Packet) → IsAnswer ts a (best_route ts a)
answer_is [] a = λ q h c i. i
answer_is (t ∷ ts) a = answer_with_thing t ts a (best_route ts a) (answer_is ts a)

family_same : (f g : Family) → same_family f g ≡ true → f ≡ g
family_same V4 V4 h = refl
family_same V6 V6 h = refl
family_same V4 V6 h = absurd (false≢true h)
family_same V6 V4 h = absurd (false≢true h)

whole_multiple : (d x y : ℕ) → x / d ≡ y / d → x % d ≡ 0 → y % d ≡ 0 → x ≡ y
whole_multiple d x y q r s =
    sym (div-add-mod' x d) ∙ ap (λ t. t * d + x % d) q ∙ ap (λ t. y / d * d + t) (r ∙ sym s) ∙ div-add-mod' y d

prefix_from : (f : Family) (b l : ℕ) → Prefix
prefix_from f b l = record { ip = record { family = f; bits = b }; len = l }

prefix_same : (p q : Prefix) → p.ip.family ≡ q.ip.family → p.ip.bits ≡ q.ip.bits → p.len ≡ q.len → p ≡ q
prefix_same p q x y z = λ i. record { ip = record { family = x i; bits = y i }; len = z i }

-- proper prefixes of one length that cover one address are one prefix
pub prefix_unique : (p q : Prefix) (a : Ip) → IsProperPrefix p → IsProperPrefix q → covers p a ≡ true → covers q a ≡ true → p.len ≡ q.len → p ≡ q
prefix_unique p q a proper_p proper_q cov_p cov_q lens =
    let in_p = and_parts (same_family p.ip.family a.family) (front (width a.family - p.len) p.ip.bits == front (width a.family - p.len) a.bits) cov_p in
    let in_q = and_parts (same_family q.ip.family a.family) (front (width a.family - q.len) q.ip.bits == front (width a.family - q.len) a.bits) cov_q in
    let family_p : p.ip.family ≡ a.family = family_same p.ip.family a.family in_p.0 in
    let family_q : q.ip.family ≡ a.family = family_same q.ip.family a.family in_q.0 in
    let front_p : front (width a.family - p.len) p.ip.bits ≡ front (width a.family - p.len) a.bits = eqb-true _ _ in_p.1 in
    let front_q : front (width a.family - q.len) q.ip.bits ≡ front (width a.family - q.len) a.bits = eqb-true _ _ in_q.1 in
    let front_r : front (width a.family - p.len) q.ip.bits ≡ front (width a.family - p.len) a.bits = ap (λ l. front (width a.family - l) q.ip.bits) lens ∙ front_q ∙ ap (λ l. front (width a.family - l) a.bits) (sym lens) in
    let rest_p : p.ip.bits % 2 ^ (width a.family - p.len) ≡ 0 = ap (λ f. p.ip.bits % 2 ^ (width f - p.len)) (sym family_p) ∙ proper_p.2 in
    let rest_q : q.ip.bits % 2 ^ (width a.family - p.len) ≡ 0 = ap (λ f. q.ip.bits % 2 ^ (width f - p.len)) (sym family_q) ∙ ap (λ l. q.ip.bits % 2 ^ (width q.ip.family - l)) lens ∙ proper_q.2 in
    prefix_same p q (family_p ∙ sym family_q) (whole_multiple (2 ^ (width a.family - p.len)) p.ip.bits q.ip.bits (front_p ∙ sym front_r) rest_p rest_q) lens

own_is : (a : Packet) (t : Thing) → is_own a t ≡ true → thing.Own a.vrf a.to ≡ t
own_is a (thing.Own v ip) h =
    let parts = and_parts (same_vrf v a.vrf) (same_ip ip a.to) h in
    ap₂ thing.Own (sym (vrf-exact v a.vrf parts.0)) (sym (ip-exact ip a.to parts.1))
own_is a (thing.Port x) h = absurd (false≢true h)
own_is a (thing.Vlan x) h = absurd (false≢true h)
own_is a (thing.VirtualRouter x) h = absurd (false≢true h)
own_is a (thing.BridgePort x) h = absurd (false≢true h)
own_is a (thing.VlanMember x y z) h = absurd (false≢true h)
own_is a (thing.Rif x y) h = absurd (false≢true h)
own_is a (thing.Neighbor x y) h = absurd (false≢true h)
own_is a (thing.NextHop x) h = absurd (false≢true h)
own_is a (thing.Group x) h = absurd (false≢true h)
own_is a (thing.GroupMember x y) h = absurd (false≢true h)
own_is a (thing.Route x y z) h = absurd (false≢true h)

own_by : (b c : Bool) (P Q : Type 0) → (b ≡ true → P) → (c ≡ true → Q) → (b || c) ≡ true → P ⊎ Q
own_by true c P Q f g h = inl (f refl)
own_by false c P Q f g h = inr (g h)

pub has_own-in : (ts : List Thing) (a : Packet) → has_own ts a ≡ true → IsIn (thing.Own a.vrf a.to) ts
has_own-in [] a h = absurd (false≢true h)
has_own-in (t ∷ ts) a h = own_by (is_own a t) (has_own ts a) (thing.Own a.vrf a.to ≡ t) (IsIn (thing.Own a.vrf a.to) ts) (own_is a t) (has_own-in ts a) h

pub in-has_own : (ts : List Thing) (a : Packet) → IsIn (thing.Own a.vrf a.to) ts → has_own ts a ≡ true
in-has_own [] a i = absurd i
in-has_own (t ∷ ts) a (inl e) = let here : is_own a t ≡ true = ap (is_own a) (sym e) ∙ and_from (same_vrf a.vrf a.vrf) (same_ip a.to a.to) (vrf-refl a.vrf) (equal_ip.laws-law.refl a.to) in ap (λ b. b || has_own ts a) here
in-has_own (t ∷ ts) a (inr i) = or_right (is_own a t) (has_own ts a) (in-has_own ts a i)

alike_by : (ts us : List Thing) (a : Packet) (o p : Option (Prefix × Goal)) → AreRoutes us → DecideAlike ts us a → IsAnswer ts a o → IsAnswer us a p → o ≡ p
alike_by ts us a None None routes alike x y = refl
alike_by ts us a None (Some r) routes alike x y = absurd (x r.0 r.1 y.covering (alike.routes_back r.0 r.1 y.covering y.here))
alike_by ts us a (Some r) None routes alike x y = absurd (y r.0 r.1 x.covering (alike.routes r.0 r.1 x.covering x.here))
alike_by ts us a (Some r) (Some s) routes alike x y =
    let one : IsIn (thing.Route a.vrf r.0 r.1) us = alike.routes r.0 r.1 x.covering x.here in
    let below = y.longest r.0 r.1 x.covering one in
    let above = x.longest s.0 s.1 y.covering (alike.routes_back s.0 s.1 y.covering y.here) in
    let lens : r.0.len ≡ s.0.len = omega arith in
    let same : r.0 ≡ s.0 = prefix_unique r.0 s.0 a.to (routes.proper a.vrf r.0 r.1 one) (routes.proper a.vrf s.0 s.1 y.here) x.covering y.covering lens in
    let goals : r.1 ≡ s.1 = routes.one a.vrf s.0 r.1 s.1 (subst (λ p. IsIn (thing.Route a.vrf p r.1) us) same one) y.here in
    λ i. Some (same i, goals i)

-- things that hold the same routes that cover an address, and hold it as an own address alike, decide it alike
pub decide-alike : (ts us : List Thing) (a : Packet) → AreRoutes us → DecideAlike ts us a → decide ts a ≡ decide us a
decide-alike ts us a routes alike =
    let own : has_own ts a ≡ has_own us a = both_ways (has_own ts a) (has_own us a) (λ h. in-has_own us a (alike.own (has_own-in ts a h))) (λ h. in-has_own ts a (alike.own_back (has_own-in us a h))) in
    let best : best_route ts a ≡ best_route us a = alike_by ts us a (best_route ts a) (best_route us a) routes alike (answer_is ts a) (answer_is us a) in
    cc
