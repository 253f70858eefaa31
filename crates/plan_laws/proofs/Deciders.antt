-- which of some things decides a packet: the own address, else the covering route of the longest prefix
use Rattle.std.proofs.Common.{◌≡◌, inl, inr, ◌⊎◌, ℕ, ◌≤◌, Bool, true, false, cond, List, Option, None, Some, refl, sym, ap, ap₂, ◌∙◌, subst, arith}
use Rattle.std.proofs.lemmas.Bool.{false≢true}
use Rattle.swss_types.specs.Address.{IsProperPrefix, covers}
use Rattle.swss_types.specs.declared.vrf.Packet.{Packet}
use Rattle.swss_types.specs.declared.address.Prefix.{Prefix}
use Rattle.swss_types.proofs.PrefixTexts.{width-le}
use Rattle.sai_types.specs.declared.thing.Goal.{Goal}
use Rattle.sai_types.specs.declared.thing.Thing.{Thing}
use Rattle.sai_types.specs.declared.thing.Thing.TheVariants as thing
use Rattle.sai_types.specs.Alike.{IsIn}
use Rattle.sai_types.specs.Forwarding.{Decision, best_route, decide, decide_route, decision_of, has_own}
use Rattle.sai_types.specs.Forwarding as to
use Rattle.sai_types.specs.Names as name
use Rattle.sai_types.specs.Names.{ThingName, name_of}
use Rattle.sai_types.proofs.Decided.{IsAnswer, answer_is, has_own-in, in-has_own, prefix_unique}
use Rattle.plan_laws.specs.Views.{HaveOwnNames}

-- a name that is not that of a route whose prefix is not proper
abbrev pub IsGood : ThingName → Type 0
IsGood (name.Route v p) = IsProperPrefix p
IsGood _ = Unit {0}

pub len_within : (p : Prefix) → IsProperPrefix p → p.len ≤ 128
len_within p proper = let one = proper.1 in let two = width-le p.ip.family in omega (arith, one, two)

pub good-names : (ts : List Thing) → HaveOwnNames ts → (t : Thing) → IsIn t ts → IsGood (name_of t)
good-names ts named (thing.Route v p g) i = named.proper v p g i
good-names ts named _ i = tt

-- what has a name decides a packet where nothing stronger does
abbrev pub Decides : Packet → ThingName → Type 0
Decides a (name.Own v ip) = (v ≡ a.vrf) × (ip ≡ a.to)
Decides a (name.Route v p) = (v ≡ a.vrf) × (covers p a.to ≡ true)
Decides a _ = ⊥

abbrev pub strength : ThingName → ℕ
strength (name.Route v p) = p.len
strength _ = 129

abbrev pub decision : Thing → Decision
decision (thing.Own v ip) = to.Cpu
decision (thing.Route v p g) = decision_of g
decision _ = to.Drop

-- one name of a strength decides a packet
one-decider : (a : Packet) (k m : ThingName) → IsGood k → IsGood m → Decides a k → Decides a m → strength k ≡ strength m → k ≡ m
one-decider a (name.Own v x) (name.Own w y) g h e f same = ap₂ name.Own (e.0 ∙ sym f.0) (e.1 ∙ sym f.1)
one-decider a (name.Own v x) (name.Route w q) g h e f same = let small = len_within q h in absurd (omega (arith, small, same))
one-decider a (name.Route v p) (name.Own w y) g h e f same = let small = len_within p g in absurd (omega (arith, small, same))
one-decider a (name.Route v p) (name.Route w q) g h e f same = ap₂ name.Route (e.0 ∙ sym f.0) (prefix_unique p q a.to g h e.1 f.1 same)
one-decider a (name.Own v x) _ g h e f same = elim f [ ]
one-decider a (name.Route v x) _ g h e f same = elim f [ ]
one-decider a _ _ g h e f same = elim e [ ]

pub strength-most : (k : ThingName) → IsGood k → strength k ≤ 129
strength-most (name.Route v p) g = let small = len_within p g in omega (arith, small)
strength-most _ g = omega arith

-- the strongest of some things that decide the packet, and none
pub record IsStrongest (a : Packet) (now : Thing → Type 0) (t : Thing) : Type 0 where
  pub there : now t
  pub decides : Decides a (name_of t)
  pub most : (u : Thing) → now u → Decides a (name_of u) → strength (name_of u) ≤ strength (name_of t)

abbrev pub NoneDecides : Packet → (Thing → Type 0) → Type 0
NoneDecides a now = (u : Thing) → now u → Decides a (name_of u) → ⊥

module _ (a : Packet) (ts : List Thing) (good : (t : Thing) → IsIn t ts → IsGood (name_of t)) where
  -- how the address is decided
  abbrev pub HasDecider : Type 0
  HasDecider = ((t : Thing) × IsStrongest a (λ u. IsIn u ts) t × (decide ts a ≡ decision t)) ⊎ (NoneDecides a (λ u. IsIn u ts) × (decide ts a ≡ to.Drop))

  not_own : (t : Thing) → IsIn t ts → Decides a (name_of t) → has_own ts a ≡ false → (q : Prefix) × (g : Goal) × (t ≡ thing.Route a.vrf q g) × (covers q a.to ≡ true)
  not_own (thing.Own v ip) i e none = absurd (false≢true (sym none ∙ in-has_own ts a (subst (λ x. IsIn (thing.Own a.vrf x) ts) e.1 (subst (λ z. IsIn (thing.Own z ip) ts) e.0 i))))
  not_own (thing.Route v q g) i e none = (q, g, ap (λ z. thing.Route z q g) e.0, e.1)
  not_own _ i e none = elim e [ ]

  by_route : (o : Option (Prefix × Goal)) → has_own ts a ≡ false → best_route ts a ≡ o → IsAnswer ts a o → HasDecider
  by_route None none best answer =
      inr (
        λ u i e. let r = not_own u i e none in answer r.0 r.1 r.3 (subst (λ z. IsIn z ts) r.2 i),
        ap (λ b. cond b to.Cpu (decide_route (best_route ts a))) none ∙ ap decide_route best,
      )
  by_route (Some b) none best answer =
      inl (
        thing.Route a.vrf b.0 b.1,
        record {
          there = answer.here;
          decides = (refl, answer.covering);
          most = λ u i e. let r = not_own u i e none in subst (λ z. strength (name_of z) ≤ b.0.len) (sym r.2) (answer.longest r.0 r.1 r.3 (subst (λ z. IsIn z ts) r.2 i));
        },
        ap (λ c. cond c to.Cpu (decide_route (best_route ts a))) none ∙ ap decide_route best,
      )

  by_own : (b : Bool) → has_own ts a ≡ b → HasDecider
  by_own false e = by_route (best_route ts a) e refl (answer_is ts a)
  by_own true e = inl (thing.Own a.vrf a.to, record { there = has_own-in ts a e; decides = (refl, refl); most = λ u i d. strength-most (name_of u) (good u i) }, ap (λ c. cond c to.Cpu (decide_route (best_route ts a))) e)

  pub decided : HasDecider
  decided = by_own (has_own ts a) refl

  -- the strongest thing decides
  pub strongest-decides : ((t u : Thing) → IsIn t ts → IsIn u ts → Decides a (name_of t) → name_of t ≡ name_of u → t ≡ u) → (t : Thing) → IsStrongest a (λ u. IsIn u ts) t → decide ts a ≡ decision t
  strongest-decides one t s =
      elim decided [
        | inl d ↦
            let below = s.most d.0 d.1.there d.1.decides in
            let above = d.1.most t s.there s.decides in
            let name = one-decider a (name_of d.0) (name_of t) (good d.0 d.1.there) (good t s.there) d.1.decides s.decides (omega (arith, below, above)) in
            d.2 ∙ ap decision (one d.0 t d.1.there s.there d.1.decides name)
        | inr none ↦ absurd (none.0 t s.there s.decides)
      ]

  pub none-decides : NoneDecides a (λ u. IsIn u ts) → decide ts a ≡ to.Drop
  none-decides none = elim decided [ inl d ↦ absurd (none d.0 d.1.there d.1.decides) | inr n ↦ n.1 ]
