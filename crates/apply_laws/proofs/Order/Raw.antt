-- the objects of a chip in another order stand for the same things
use Rattle.std.proofs.Common.{◌≡◌, inl, inr, ℕ, Bool, true, false, cond, List, [], ◌∷◌, Option, None, Some, refl, sym, ap, ◌∙◌, subst, IsPermutation}
use Rattle.std.proofs.lemmas.Bool.{and_parts, false≢true}
use Rattle.sai_types.specs.declared.ids.Rid.{Rid}
use Rattle.sai_types.specs.declared.body.Body.{Body}
use Rattle.sai_types.specs.declared.body.Body.TheVariants as body
use Rattle.sai_types.specs.declared.body.Entry.{Entry}
use Rattle.sai_types.specs.declared.body.Entry.TheVariants as entry
use Rattle.sai_types.specs.declared.weight.WHop.{WHop}
use Rattle.sai_types.specs.declared.kind.Kind.TheVariants as kind
use Rattle.sai_types.specs.declared.thing.Thing.{Thing}
use Rattle.sai_types.specs.declared.thing.Thing.TheVariants as thing
use Rattle.sai_types.specs.After.{entry_of}
use Rattle.sai_types.specs.Alike.{IsIn}
use Rattle.sai_types.specs.Made.{same_entry}
use Rattle.sai_types.specs.Named.{both, hops_among, hops_at, put_hop, thing_of, whop_at, with_member}
use Rattle.sai_types.specs.Objects.{Objects, body_at, is_kind_of}
use Rattle.std.specs.List.{list_all}
use Rattle.sai_types.specs.References.{beside_router, stands}
use Rattle.sai_types.specs.Refusal.{same_id}
use Rattle.sai_types.proofs.Exact.{entry-exact, id-exact}
use Rattle.sai_types.proofs.Found.{same-refl, same-symm}
use Rattle.sai_types.proofs.Listed.{found-in, in-found}
use Rattle.sai_types.proofs.Weights.{same-hops}
use Rattle.chip_names.specs.Naming.{AreBodies}
use Rattle.chip_names.proofs.SameNames.{hops_among-same, thing_by-same}
use Rattle.chip_layout.specs.Layout.{Layout}
use Rattle.chip_layout.proofs.Naming.{among}
use Rattle.plan_laws.specs.Applied.{IsListedChip}
use Rattle.plan_laws.specs.Old.{old_layout, tag_of}
use Rattle.plan_laws.proofs.Starting.{old-laid}
use Rattle.apply_laws.proofs.Order.Shuffled.{in-shuffled, shuffled-in}

-- what stands where a group is referred to is a group
group_only : (o : Option (Body Rid)) → is_kind_of kind.Group o ≡ true → o ≡ Some body.Group
group_only None h = absurd (false≢true h)
group_only (Some body.Group) h = refl
group_only (Some (body.Port l s m u)) h = absurd (false≢true h)
group_only (Some _) h = absurd (false≢true h)

found_some : (os : Objects) (e f : Entry Rid) (b : Body Rid) → IsIn (f, b) os → same_entry e f ≡ true → body_at os e ≡ None → ⊥
found_some [] e f b i same none = i
found_some (o ∷ os) e f b (inl is) same none =
    let here : same_entry e o.0 ≡ true = ap (λ (z : Entry Rid × Body Rid). same_entry e z.0) (sym is) ∙ same in
    let some : body_at (o ∷ os) e ≡ Some o.1 = ap (λ c. cond c (Some o.1) (body_at os e)) here in
    absurd cc
found_some (o ∷ os) e f b (inr i) same none = by (same_entry e o.0) refl none (found_some os e f b i same)
  where
    by : (c : Bool) → same_entry e o.0 ≡ c → cond c (Some o.1) (body_at os e) ≡ None → (body_at os e ≡ None → ⊥) → ⊥
    by true h n rest = absurd cc
    by false h n rest = rest n

no_members : (objects : Objects) (g : Rid) (os : Objects) → ((e : Entry Rid) (n h : Rid) (weight : ℕ) → IsIn (e, body.GroupMember h n weight) os → same_id h g ≡ false) → hops_among objects g os ≡ Some []
no_members objects g [] none = refl
no_members objects g (o ∷ os) none = by o.1 (λ n h weight is. none o.0 n h weight (inl (pair is))) (no_members objects g os (λ e n h weight i. none e n h weight (inr i)))
  where
    pair : {b : Body Rid} → o.1 ≡ b → (o.0, b) ≡ o
    pair e = ap (λ z. (o.0, z)) (sym e)

    by : (b : Body Rid) → ((n h : Rid) (weight : ℕ) → b ≡ body.GroupMember h n weight → same_id h g ≡ false) → hops_among objects g os ≡ Some [] → with_member objects g b (hops_among objects g os) ≡ Some []
    by (body.GroupMember h n weight) f rest = ap (λ c. cond c (both put_hop (hops_among objects g os) (whop_at objects n weight)) (hops_among objects g os)) (f n h weight refl) ∙ rest
    by (body.Port l s m u) f rest = rest
    by _ f rest = rest

module _ {made : ℕ} {S : Objects} (chip : IsListedChip made S) (R : Objects) (same : IsPermutation R S) (N : List Thing) where
  abbrev tag : Rid → List WHop
  tag = tag_of S N

  abbrev L : Layout Rid
  L = old_layout S N

  pub found-raw : (e : Entry Rid) (b : Body Rid) → IsIn (e, b) R → body_at S e ≡ Some b
  found-raw e b i = found-in S e b chip.whole.sorted (shuffled-in R S same (e, b) i)

  pub raw-found : (e : Entry Rid) (b : Body Rid) → body_at S e ≡ Some b → IsIn (e, b) R
  raw-found e b found =
      let o = in-found S e b found in
      in-shuffled R S same (e, b) (subst (λ f. IsIn (f, b) S) (sym (entry-exact e o.0 o.1)) o.2)

  pub body-raw : (e : Entry Rid) → body_at R e ≡ body_at S e
  body-raw e = by (body_at R e) refl (body_at S e) refl
    where
      by : (o : Option (Body Rid)) → body_at R e ≡ o → (p : Option (Body Rid)) → body_at S e ≡ p → body_at R e ≡ body_at S e
      by (Some b) x p y =
          let f = in-found R e b x in
          let is = found-raw f.0 b f.2 in
          x ∙ sym (ap (body_at S) (entry-exact e f.0 f.1) ∙ is)
      by None x (Some b) y = absurd (found_some R e e b (raw-found e b y) (same-refl e) x)
      by None x None y = x ∙ sym y

  bodies : AreBodies S R
  bodies = record { each = λ r. body-raw (entry.Oid r) }

  -- ---- groups

  pub route_group : (r : Option Rid) (g : Rid) → list_all (stands S) (beside_router r ((kind.Group, entry.Oid g) ∷ [])) ≡ true → body_at S (entry.Oid g) ≡ Some body.Group
  route_group None g h = group_only (body_at S (entry.Oid g)) (and_parts _ _ h).0
  route_group (Some r) g h = group_only (body_at S (entry.Oid g)) (and_parts _ _ (and_parts _ _ h).1).0

  pub member-group : (e : Entry Rid) (g n : Rid) (weight : ℕ) → body_at S e ≡ Some (body.GroupMember g n weight) → body_at S (entry.Oid g) ≡ Some body.Group
  member-group e g n weight found = group_only (body_at S (entry.Oid g)) (and_parts _ _ (chip.whole.refer.each e (body.GroupMember g n weight) found)).0

  pub group-there : (g : Rid) → body_at S (entry.Oid g) ≡ Some body.Group → L g (thing.Group (tag g))
  group-there g found = record { entry = entry.Oid g; body = body.Group; found = found; at = same-refl (entry.Oid g); thing = refl; none = λ h. absurd (false≢true (sym h)) }

  hops_of_group : (g : Rid) → body_at S (entry.Oid g) ≡ Some body.Group → hops_among S g R ≡ hops_among S g S
  hops_of_group g found =
      let s = group-there g found in
      let a = among L S (old-laid chip N) g (tag g) (thing.Group (tag g), s, refl) chip.whole.apart R (λ e b i. found-raw e b i) in
      let b = among L S (old-laid chip N) g (tag g) (thing.Group (tag g), s, refl) chip.whole.apart S (λ e b i. found-in S e b chip.whole.sorted i) in
      a.is
      ∙ ap Some (same-hops a.those b.those a.rising b.rising (λ hop i.
      let m = a.sound hop i in
      let has = (old-laid chip N).stand m.0 (thing.GroupMember (tag g) hop) m.1 in
      let o = in-found S (entry_of m.0.0 has.0) has.0 has.2 in
      b.all o.0 has.0 m.0 hop o.2 m.1 has.1 (same-symm o.0 (entry_of m.0.0 has.0) ∙ o.1)) (λ hop i.
      let m = b.sound hop i in
      let has = (old-laid chip N).stand m.0 (thing.GroupMember (tag g) hop) m.1 in
      let o = in-found S (entry_of m.0.0 has.0) has.0 has.2 in
      a.all o.0 has.0 m.0 hop (in-shuffled R S same (o.0, has.0) o.2) m.1 has.1 (same-symm o.0 (entry_of m.0.0 has.0) ∙ o.1)))
      ∙ sym b.is

  hops_raw : (g : Rid) → hops_at R g ≡ hops_at S g
  hops_raw g = hops_among-same R S bodies g R ∙ by (body_at S (entry.Oid g)) refl
    where
      none : (body_at S (entry.Oid g) ≡ Some body.Group → ⊥) → hops_among S g R ≡ hops_among S g S
      none not =
          no_members S g R (λ e n h weight i. apart e n h weight (found-raw e (body.GroupMember h n weight) i)) ∙ sym (no_members S g S (λ e n h weight i. apart e n h weight (found-in S e (body.GroupMember h n weight) chip.whole.sorted i)))
        where
          apart : (e : Entry Rid) (n h : Rid) (weight : ℕ) → body_at S e ≡ Some (body.GroupMember h n weight) → same_id h g ≡ false
          apart e n h weight found = told (same_id h g) refl
            where
              told : (b : Bool) → same_id h g ≡ b → b ≡ false
              told false x = refl
              told true x = absurd (not (subst (λ z. body_at S (entry.Oid z) ≡ Some body.Group) (id-exact h g x) (member-group e h n weight found)))

      by : (o : Option (Body Rid)) → body_at S (entry.Oid g) ≡ o → hops_among S g R ≡ hops_among S g S
      by (Some body.Group) e = hops_of_group g e
      by None e = none (λ is. absurd cc)
      by (Some (body.Port l s m u)) e = none (λ is. absurd cc)
      by (Some _) e = none (λ is. absurd cc)

  -- so each object stands for the same thing
  pub thing-raw : (e : Entry Rid) (b : Body Rid) → thing_of R (e, b) ≡ thing_of S (e, b)
  thing-raw e b = thing_by-same R S bodies (hops_at R) (hops_at S) hops_raw e b
