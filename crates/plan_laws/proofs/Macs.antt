-- each hop of a hitless plan is reached by its old Ethernet address or its new one, so what both views forward equally is forwarded so
use Rattle.std.proofs.Common.{◌≡◌, inl, inr, ◌⊎◌, ◌++◌, List, [], ◌∷◌, map, Option, None, Some, refl, sym, ap, ap₂, ◌∙◌, subst}
use Rattle.swss_types.specs.declared.vrf.Packet.{Packet}
use Rattle.swss_types.specs.declared.address.Mac.{Mac}
use Rattle.sai_types.specs.declared.hop.Hop.{Hop}
use Rattle.sai_types.specs.declared.weight.WHop.{WHop}
use Rattle.sai_types.specs.declared.thing.Thing.{Thing}
use Rattle.sai_types.specs.declared.thing.Thing.TheVariants as thing
use Rattle.sai_types.specs.Alike.{IsIn}
use Rattle.sai_types.specs.Forwarding.{Decision, decide, forward, forwarding_of, hop_mac}
use Rattle.sai_types.specs.Forwarding as to
use Rattle.sai_types.specs.Names as name
use Rattle.sai_types.specs.Names.{ThingName, name_of}
use Rattle.chip_layout.proofs.Answering.{front}
use Rattle.plan_laws.specs.Plans.{PlanChange, IsViewPlan, Remove, hitless_rank}
use Rattle.plan_laws.specs.Steady.{ForwardsAfter, IsForwarding, IsHitless, IsOldOrNew, StaysNew}
use Rattle.plan_laws.specs.Views.{HaveOwnNames}
use Rattle.plan_laws.proofs.Following.{done-in, old-stands, origin, outcome-new}
use Rattle.plan_laws.proofs.Moving.{old-or-new, stays-new}

-- the neighbour of a hop is found, or there is none
abbrev IsReached : List Thing → Hop → Type 0
IsReached ts hop = ((m : Mac) × IsIn (thing.Neighbor hop m) ts × (hop_mac ts hop ≡ Some m)) ⊎ (((m : Mac) → IsIn (thing.Neighbor hop m) ts → ⊥) × (hop_mac ts hop ≡ None))

reached : (ts : List Thing) (hop : Hop) → IsReached ts hop
reached [] hop = inr (λ m i. i, refl)
reached (t ∷ ts) hop =
    elim (front t ts hop) [
      | inl here ↦ inl (here.0, inl (sym here.1), here.2)
      | inr behind ↦ elim (reached ts hop) [
        | inl m ↦ inl (m.0, inr m.1, behind.0 ∙ m.2)
        | inr none ↦ inr (λ m i. elim i [ inl is ↦ behind.1 m is | inr j ↦ none.0 m j ], behind.0 ∙ none.1)
      ]
    ]

is_neighbor : (u : Thing) (hop : Hop) → name_of u ≡ name.Neighbor hop → (m : Mac) × (u ≡ thing.Neighbor hop m)
is_neighbor (thing.Neighbor h m) hop e = let same : h ≡ hop = cc in (m, ap (λ z. thing.Neighbor z m) same)
is_neighbor _ hop e = absurd cc

one_mac : (ts : List Thing) → HaveOwnNames ts → (hop : Hop) (m : Mac) → IsIn (thing.Neighbor hop m) ts → hop_mac ts hop ≡ Some m
one_mac ts named hop m i =
    elim (reached ts hop) [
      | inl n ↦ n.2 ∙ ap Some (macs n.0 (named.one (thing.Neighbor hop n.0) (thing.Neighbor hop m) n.1 i refl))
      | inr none ↦ absurd (none.0 m i)
    ]
  where
    macs : (n : Mac) → thing.Neighbor hop n ≡ thing.Neighbor hop m → n ≡ m
    macs n e = cc

module _ {old new : List Thing} (old_named : HaveOwnNames old) (new_named : HaveOwnNames new) {plan : List PlanChange} (is_plan : IsViewPlan hitless_rank old new plan) where
  module _ (done due : List PlanChange) (cut : plan ≡ done ++ due) (now : List Thing) (stands : ForwardsAfter old done now) where
    abbrev IsEither : Hop → Type 0
    IsEither hop = (hop_mac now hop ≡ hop_mac old hop) ⊎ (hop_mac now hop ≡ hop_mac new hop)

    there : (hop : Hop) (m : Mac) → IsIn (thing.Neighbor hop m) now → hop_mac now hop ≡ Some m → IsEither hop
    there hop m i is =
        elim (origin done (λ u. IsIn u old) (thing.Neighbor hop m) (stands.sound (thing.Neighbor hop m) tt i)) [
          | inl x ↦ inl (is ∙ sym (one_mac old old_named hop m x.0))
          | inr c ↦ inr (is ∙ sym (one_mac new new_named hop m (outcome-new is_plan c.0 (thing.Neighbor hop m) (done-in is_plan done due cut c.0 c.1) c.2)))
        ]

    none_there : (hop : Hop) → ((m : Mac) → IsIn (thing.Neighbor hop m) now → ⊥) → hop_mac now hop ≡ None → IsEither hop
    none_there hop none is =
        elim (reached old hop) [
          | inr no_old ↦ inl (is ∙ sym no_old.1)
          | inl m ↦ elim (old-stands is_plan done due cut (thing.Neighbor hop m.0) m.1) [
            | inl u ↦ let n = is_neighbor u.0 hop u.2 in absurd (none n.0 (subst (λ z. IsIn z now) n.1 (stands.all u.0 (subst (λ z. IsForwarding (name_of z)) (sym n.1) tt) u.1)))
            | inr gone ↦ elim (reached new hop) [
              | inl n ↦ absurd ((is_plan.removes (name.Neighbor hop) (done-in is_plan done due cut (Remove (name.Neighbor hop)) gone)).3 (thing.Neighbor hop n.0) n.1 refl)
              | inr no_new ↦ inr (is ∙ sym no_new.1)
            ]
          ]
        ]

    pub mac-either : (hop : Hop) → IsEither hop
    mac-either hop = elim (reached now hop) [ inl m ↦ there hop m.0 m.1 m.2 | inr none ↦ none_there hop none.0 none.1 ]

-- ---- forwarding

module _ (x y n : Hop → Option Mac) (each : (h : Hop) → (n h ≡ x h) ⊎ (n h ≡ y h)) where
  abbrev with : (Hop → Option Mac) → List WHop → List (WHop × Option Mac)
  with m hs = map (λ h. (h, m h.hop)) hs

  same_head : (h k : WHop) (a b : Option Mac) (s t : List (WHop × Option Mac)) → (h, a) ∷ s ≡ (k, b) ∷ t → (h ≡ k) × (a ≡ b) × (s ≡ t)
  same_head h k a b s t e =
      let made : WHop → Option Mac → (WHop × Option Mac) = λ p q. (p, q) in
      let heads : made h a ≡ made k b = cc in
      (ap (λ (p : WHop × Option Mac). p.0) heads, ap (λ (p : WHop × Option Mac). p.1) heads, cc)

  all_same : (hs ks : List WHop) → with x hs ≡ with y ks → (hs ≡ ks) × (with n hs ≡ with x hs)
  all_same [] [] e = (refl, refl)
  all_same [] (k ∷ ks) e = absurd cc
  all_same (h ∷ hs) [] e = absurd cc
  all_same (h ∷ hs) (k ∷ ks) e =
      let head = same_head h k (x h.hop) (y k.hop) (with x hs) (with y ks) e in
      let rest = all_same hs ks head.2 in
      let made : WHop → Option Mac → (WHop × Option Mac) = λ a b. (a, b) in
      let macs : n h.hop ≡ x h.hop = elim (each h.hop) [ inl is ↦ is | inr is ↦ is ∙ ap (λ (z : WHop). y z.hop) head.0 ∙ sym head.1 ] in
      (ap₂ (λ a b. a ∷ b) head.0 rest.0, ap₂ (λ a b. a ∷ b) (ap (made h) macs) rest.1)

-- what the old and the new things forward equally is forwarded so, where it is decided as by either
module _ (old new now : List Thing) (each : (h : Hop) → (hop_mac now h ≡ hop_mac old h) ⊎ (hop_mac now h ≡ hop_mac new h)) where
  hops_of : (hs ks : List (WHop × Option Mac)) → to.Through hs ≡ to.Through ks → hs ≡ ks
  hops_of hs ks e = cc

  forwarded : (d e : Decision) → forwarding_of old d ≡ forwarding_of new e → (forwarding_of now d ≡ forwarding_of old d) × (forwarding_of now e ≡ forwarding_of old d)
  forwarded to.Cpu to.Cpu h = (refl, refl)
  forwarded to.Drop to.Drop h = (refl, refl)
  forwarded (to.Direct x) (to.Direct y) h = (refl, sym h)
  forwarded (to.Via hs) (to.Via ks) h =
      let same = all_same (hop_mac old) (hop_mac new) (hop_mac now) each hs ks (hops_of (map (λ x. (x, hop_mac old x.hop)) hs) (map (λ x. (x, hop_mac new x.hop)) ks) h) in
      (ap to.Through same.1, ap (λ l. forwarding_of now (to.Via l)) (sym same.0) ∙ ap to.Through same.1)
  forwarded _ _ h = absurd cc

  pub forward-kept : (a : Packet) → (decide now a ≡ decide old a) ⊎ (decide now a ≡ decide new a) → forward old a ≡ forward new a → forward now a ≡ forward old a
  forward-kept a (inl is) h = ap (forwarding_of now) is ∙ (forwarded (decide old a) (decide new a) h).0
  forward-kept a (inr is) h = ap (forwarding_of now) is ∙ (forwarded (decide old a) (decide new a) h).1

-- ---- a hitless plan is steady

module _ {old new : List Thing} (old_named : HaveOwnNames old) (new_named : HaveOwnNames new) {plan : List PlanChange} (is_plan : IsViewPlan hitless_rank old new plan) where
  pub either : (done due : List PlanChange) → plan ≡ done ++ due → (now : List Thing) → ForwardsAfter old done now → IsOldOrNew old new now
  either done due cut now stands a = old-or-new a old_named new_named is_plan done due cut now stands

  pub kept : (done more due : List PlanChange) → plan ≡ done ++ (more ++ due) → (now later : List Thing) → ForwardsAfter old done now → ForwardsAfter old (done ++ more) later → StaysNew new now later
  kept done more due cut now later stands after a = stays-new a old_named new_named is_plan done more due cut now later stands after

  pub hitless : (done due : List PlanChange) → plan ≡ done ++ due → (now : List Thing) → ForwardsAfter old done now → IsHitless old new now
  hitless done due cut now stands a same =
      let is = forward-kept old new now (mac-either old_named new_named is_plan done due cut now stands) a (either done due cut now stands a) same in
      (is, is ∙ same)
