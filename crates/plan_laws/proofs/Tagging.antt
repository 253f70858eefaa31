-- tags of groups: no two groups have one, and each is for the hops of its group
use Rattle.std.proofs.Common.{◌≡◌, inl, inr, ◌⊎◌, ℕ, zero, suc, ◌+◌, ◌-◌, Bool, true, false, cond, ◌&&◌, nat_lt, List, [], ◌∷◌, length, map, Some, refl, sym, ap, ◌∙◌, subst, arith}
use Rattle.std.specs.List.{list_any}
use Rattle.std.specs.List.Sorted.{IsStrictlySortedBy}
use Rattle.std.specs.declared.cmp.Ordering.TheVariants.{Less}
use Rattle.std.proofs.lemmas.Bool.{and_from, and_parts, false≢true, not-true}
use Rattle.std.proofs.lemmas.Bool.Decides.{nat_tests}
use Rattle.sai_types.specs.declared.ids.Rid.{Rid}
use Rattle.sai_types.specs.declared.body.Body.TheVariants as body
use Rattle.sai_types.specs.declared.body.Entry.TheVariants as entry
use Rattle.sai_types.specs.declared.weight.WHop.{WHop}
use Rattle.sai_types.specs.declared.thing.Thing.{Thing}
use Rattle.sai_types.specs.Alike.{IsIn}
use Rattle.sai_types.specs.Hop.{AreRisingHops, by_hop}
use Rattle.sai_types.specs.Objects.{Objects, body_at}
use Rattle.sai_types.specs.Refusal.{same_id}
use Rattle.sai_types.proofs.Exact.{entry-exact, id-exact}
use Rattle.sai_types.proofs.Listed.{in-found}
use Rattle.sai_types.proofs.Membership.{in-map}
use Rattle.chip_layout.proofs.Answering.{in_those}
use Rattle.plan_laws.specs.Old.{filler, chip_group, group_stays, chip_groups, is_double, is_group_of, no_hop, same_hops, shown_hops, tag_for}
use Rattle.plan_laws.proofs.Lists.{any-in, in-any}
use Rattle.plan_laws.proofs.Named.{same_hops_exact, hops_refl}

-- ---- fillers

not_rising : (hops : List WHop) → AreRisingHops (no_hop ∷ no_hop ∷ hops) → ⊥
unfolding IsStrictlySortedBy
not_rising hops h = let less : by_hop no_hop no_hop ≡ Less = h.0.0 in absurd cc

pub filler_falls : (n : ℕ) → AreRisingHops (filler n) → ⊥
filler_falls zero h = not_rising [] h
filler_falls (suc zero) h = not_rising (no_hop ∷ []) h
filler_falls (suc (suc n)) h = not_rising (filler n) h

filler_length : (n : ℕ) → length (filler n) ≡ n + 2
filler_length zero = omega arith
filler_length (suc n) = let rest = filler_length n in omega (arith, rest)

filler_apart : (m n : ℕ) → filler m ≡ filler n → m ≡ n
filler_apart m n h = let one = filler_length m in let two = filler_length n in let same = ap length h in omega (arith, one, two, same)

abbrev group_id : ℕ → Rid
group_id n = record { 0 = n }

-- the hops that a tag is for: of a filler those of the group whose it is, else the tag itself
abbrev pub hops_for : (Rid → List WHop) → List WHop → List WHop
hops_for hops tag = cond (same_hops (filler (length tag - 2)) tag) (hops (group_id (length tag - 2))) tag

hops_by : (b : Bool) (hops tag : List WHop) (n : ℕ) → same_hops (filler n) tag ≡ b → AreRisingHops tag → cond b hops tag ≡ tag
hops_by true hops tag n e up = absurd (filler_falls n (subst AreRisingHops (sym (same_hops_exact (filler n) tag e)) up))
hops_by false hops tag n e up = refl

-- hops that rise are for themselves
pub hops-rising : (hops : Rid → List WHop) (tag : List WHop) → AreRisingHops tag → hops_for hops tag ≡ tag
hops-rising hops tag up = hops_by (same_hops (filler (length tag - 2)) tag) (hops (group_id (length tag - 2))) tag (length tag - 2) refl up

hops_filler : (hops : Rid → List WHop) (n : ℕ) → hops_for hops (filler n) ≡ hops (group_id n)
hops_filler hops n =
    let long = filler_length n in
    let is : length (filler n) - 2 ≡ n = omega (arith, long) in
    ap (λ m. cond (same_hops (filler m) (filler n)) (hops (group_id m)) (filler n)) is ∙ ap (λ b. cond b (hops (group_id n)) (filler n)) (hops_refl (filler n))

module _ (kept : Rid → Bool) (hops : Rid → List WHop) (rising : (g : Rid) → kept g ≡ true → AreRisingHops (hops g)) where
  tag_by : (b : Bool) (g : Rid) → kept g ≡ b → hops_for hops (cond b (hops g) (filler g.0)) ≡ hops g
  tag_by true g e = hops-rising hops (hops g) (rising g e)
  tag_by false g e = hops_filler hops g.0

  -- the tag of a group is for its hops
  pub hops-of_tag : (g : Rid) → hops_for hops (tag_for kept hops g) ≡ hops g
  hops-of_tag g = tag_by (kept g) g refl

  module _ (apart : (g h : Rid) → kept g ≡ true → kept h ≡ true → hops g ≡ hops h → g ≡ h) where
    apart_by : (x y : Bool) (g h : Rid) → kept g ≡ x → kept h ≡ y → cond x (hops g) (filler g.0) ≡ cond y (hops h) (filler h.0) → g ≡ h
    apart_by true true g h e f same = apart g h e f same
    apart_by true false g h e f same = absurd (filler_falls h.0 (subst AreRisingHops same (rising g e)))
    apart_by false true g h e f same = absurd (filler_falls g.0 (subst AreRisingHops (sym same) (rising h f)))
    apart_by false false g h e f same = ap group_id (filler_apart g.0 h.0 same)

    -- no two groups have one tag
    pub tags-apart : (g h : Rid) → tag_for kept hops g ≡ tag_for kept hops h → g ≡ h
    tags-apart g h same = apart_by (kept g) (kept h) g h refl refl same

-- ---- the groups of a chip, and which of them stay

pub all-groups : (objects : Objects) (g : Rid) → body_at objects (entry.Oid g) ≡ Some body.Group → IsIn g (chip_groups objects)
all-groups objects g found =
    let o = in-found objects (entry.Oid g) body.Group found in
    in_those g (map chip_group objects) (in-map chip_group objects (entry.Oid g, body.Group) (subst (λ e. IsIn (e, body.Group) objects) (sym (entry-exact (entry.Oid g) o.0 o.1)) o.2))

lesser_or : (m n : ℕ) → (nat_lt m n ≡ true) ⊎ ((nat_lt n m ≡ true) ⊎ (m ≡ n))
lesser_or m n = grind (arith, nat_tests)

module _ (objects : Objects) (new : List Thing) where
  record IsStaying (g : Rid) : Type 0 where
    pub there : IsIn g (chip_groups objects)
    pub wanted : list_any (is_group_of (shown_hops objects g)) new ≡ true
    pub least : is_double objects g ≡ false

  kept_parts : (g : Rid) → group_stays objects new g ≡ true → IsStaying g
  kept_parts g h =
      let parts = and_parts (list_any (same_id g) (chip_groups objects)) _ h in
      let rest = and_parts (list_any (is_group_of (shown_hops objects g)) new) _ parts.1 in
      let x = any-in (same_id g) (chip_groups objects) parts.0 in
      record { there = subst (λ z. IsIn z (chip_groups objects)) (sym (id-exact g x.0 x.2)) x.1; wanted = rest.0; least = not-true _ rest.1 }

  not_less : (g h : Rid) → IsStaying g → IsStaying h → shown_hops objects g ≡ shown_hops objects h → nat_lt g.0 h.0 ≡ true → ⊥
  not_less g h x y same less =
      let hops : same_hops (shown_hops objects g) (shown_hops objects h) ≡ true = ap (λ z. same_hops (shown_hops objects g) z) (sym same) ∙ hops_refl (shown_hops objects g) in
      false≢true (sym y.least ∙ in-any (λ k. nat_lt k.0 h.0 && same_hops (shown_hops objects k) (shown_hops objects h)) (chip_groups objects) g x.there (and_from (nat_lt g.0 h.0) _ less hops))

  pub stays-apart : (g h : Rid) → group_stays objects new g ≡ true → group_stays objects new h ≡ true → shown_hops objects g ≡ shown_hops objects h → g ≡ h
  stays-apart g h x y same =
      let p = kept_parts g x in
      let q = kept_parts h y in
      elim (lesser_or g.0 h.0) [
        | inl less ↦ absurd (not_less g h p q same less)
        | inr other ↦ elim other [
          | inl more ↦ absurd (not_less h g q p (sym same) more)
          | inr is ↦ ap group_id is
        ]
      ]
