-- the changes of the steps that are due
use Rattle.std.proofs.Common.{◌≡◌, ◌⊎◌, inl, inr, ℕ, zero, suc, ◌+◌, ◌<◌, List, [], ◌∷◌, length, map, Option, None, Some, option_map, refl, sym, ap, ◌∙◌, subst, arith}
use Rattle.std.specs.List.{slice_get}
use Rattle.std.proofs.lemmas.List.{map-append}
use Rattle.std.proofs.lemmas.Option.{slice_get-map}
use Rattle.sai_types.specs.declared.ids.Rid.{Rid}
use Rattle.sai_types.specs.declared.ids.Vid.{Vid}
use Rattle.sai_types.specs.declared.body.Body.{Body}
use Rattle.sai_types.specs.declared.body.Entry.{Entry}
use Rattle.sai_types.specs.declared.body.Object.{Object}
use Rattle.sai_types.specs.declared.weight.WHop.{WHop}
use Rattle.sai_types.specs.declared.plan.Mode.{Mode}
use Rattle.sai_types.specs.declared.plan.Mode.TheVariants as mode
use Rattle.sai_types.specs.declared.thing.Thing.{Thing}
use Rattle.sai_types.specs.declared.thing.Thing.TheVariants as thing
use Rattle.sai_types.specs.Alike.{IsIn}
use Rattle.sai_types.specs.Named.{thing_by}
use Rattle.sai_types.specs.Names as name
use Rattle.sai_types.specs.Names.{ThingName, name_of}
use Rattle.sai_types.specs.Objects.{Objects}
use Rattle.sai_types.proofs.Membership.{in-either, in-left, in-map, in-right, map-in}
use Rattle.chip_names.specs.Naming.{entries_of}
use Rattle.chip_layout.specs.Bodies.{IsBody}
use Rattle.chip_layout.specs.Counted.{AreDistinct}
use Rattle.chip_layout.specs.Layout.{Has}
use Rattle.chip_layout.specs.Seen.{tagged}
use Rattle.plan_laws.specs.Applied.{IsListedChip}
use Rattle.plan_laws.specs.Calls.{viewed}
use Rattle.plan_laws.specs.Old.{tag_of}
use Rattle.plan_laws.specs.Plans.{PlanChange, Make, Remove, Set, AreRanked, subject}
use Rattle.view_match.specs.Keys.{natural_key_of, keys_of_objects}
use Rattle.view_match.specs.Pairs.{new_keys, pairs_of}
use Rattle.view_match.specs.declared.key.NaturalKey.{NaturalKey}
use Rattle.view_match.proofs.Paired.{from_none}
use Rattle.apply_order.specs.Due.{due_steps, new_step, new_steps, old_steps, paired_in}
use Rattle.apply_order.specs.Places.{by_new, by_old, partner_at}
use Rattle.apply_order.specs.Ranks.{make_rank, remove_rank, set_rank}
use Rattle.apply_order.specs.declared.ranks.PlanStep.{PlanStep}
use Rattle.apply_order.specs.declared.ranks.PlanStep.TheVariants as step
use Rattle.apply_order.specs.declared.ranks.Timed.{Timed}
use Rattle.apply_laws.specs.Viewed.{IsEntry, IsViewOf, things_in}
use Rattle.apply_laws.proofs.Order.Dues.{due-new, due-old, joined-distinct, new-distinct, new-due, old-distinct, old-due}
use Rattle.apply_laws.proofs.Order.Partners.{key_at}
use Rattle.apply_laws.proofs.Order.Placed.{IsOldAt, key_new, new-place, object-at, old-at, old-one, one-new, one-old, thing-at}
use Rattle.apply_laws.proofs.Order.Puts.{new-from, new-to, old-to}
use Rattle.apply_laws.proofs.Order.Ranked.{AreRising}

-- ---- the change of a step

abbrev pub thing_or : Option (Vid × Thing) → Thing
thing_or None = thing.Vlan 0
thing_or (Some x) = x.1

abbrev pub new_thing : List (Vid × Thing) → ℕ → Thing
new_thing things j = thing_or (slice_get things j)

abbrev pub name_or : Option Thing → ThingName
name_or None = name.Vlan 0
name_or (Some w) = name_of w

abbrev pub name_at : (Rid → List WHop) → Objects → Option (Entry Rid × Body Rid) → ThingName
name_at tag objects None = name.Vlan 0
name_at tag objects (Some o) = name_or (thing_by (tagged tag) objects o)

abbrev pub old_name : (Rid → List WHop) → Objects → ℕ → ThingName
old_name tag objects i = name_at tag objects (slice_get objects i)

abbrev pub change_of : (ℕ → Thing) → (ℕ → ThingName) → PlanStep → PlanChange
change_of new old (step.Make j) = Make (new j)
change_of new old (step.Set i j) = Set (new j)
change_of new old (step.Remove i) = Remove (old i)

-- items whose numbers rise, with names of their own, are ranked
pub ranked : {X : Type 0} (rank : PlanChange → ℕ) (f : X → PlanChange) (value : X → ℕ) (xs : List X) → ((x : X) → IsIn x xs → rank (f x) ≡ value x) → AreRising value xs → AreDistinct (map (λ x. subject (f x)) xs) → AreRanked rank (map f xs)
ranked rank f value [] same rising d = tt
ranked rank f value (x ∷ xs) same rising d = (
  λ c i.
      let y = map-in f xs c i in
      let low = rising.0 y.0 y.1 in
      let one = same x (inl refl) in
      let two = same y.0 (inr y.1) in
      let three = ap rank y.2 in
      (omega (arith, low, one, two, three), λ e. d.0 (subst (λ k. IsIn k (map (λ z. subject (f z)) xs)) (sym (e ∙ ap subject y.2)) (in-map (λ z. subject (f z)) xs y.0 y.1))),
  ranked rank f value xs (λ z i. same z (inr i)) rising.1 d.1,
)

module _ {made : ℕ} (old : List (Object Rid)) {new : List (Object Vid)} {things : List (Vid × Thing)} (chip : IsListedChip made (entries_of old)) (view : IsViewOf things new) (m : Mode) where
  abbrev O : Objects
  O = entries_of old

  abbrev N : List Thing
  N = things_in things

  abbrev ps : List (ℕ × ℕ)
  ps = paired_in m (pairs_of old new)

  abbrev due : List Timed
  due = due_steps m old new (pairs_of old new)

  abbrev change : Timed → PlanChange
  change t = change_of (new_thing things) (old_name (tag_of O N) O) t.step

  pub thing-is : (j : ℕ) (x : Vid × Thing) → slice_get things j ≡ Some x → new_thing things j ≡ x.1
  thing-is j x e = ap thing_or e

  pub name-is : (i : ℕ) (e : Entry Rid) (b : Body Rid) → (w : IsOldAt old chip view i e b) → old_name (tag_of O N) O i ≡ name_of w.thing
  name-is i e b w = ap (name_at (tag_of O N) O) w.at ∙ ap name_or w.is

  -- ---- which places are paired

  in_pairs : (m : Mode) (p : ℕ × ℕ) → IsIn p (paired_in m (pairs_of old new)) → IsIn p (pairs_of old new)
  in_pairs mode.Hitless p i = i
  in_pairs mode.Cold p i = elim i [ ]

  pub due-pair : (p : ℕ × ℕ) → IsIn p ps → IsIn p (pairs_of old new)
  due-pair p i = in_pairs m p i

  pub free-new : (i j : ℕ) → partner_at (by_new ps) j ≡ None → IsIn (i, j) ps → ⊥
  free-new i j free h =
      let found = new-to ps (λ a b c x y. one-old old chip view a b c (due-pair (a, c) x) (due-pair (b, c) y)) i j h in
      absurd cc

  pub free-old : (i j : ℕ) → partner_at (by_old ps) i ≡ None → IsIn (i, j) ps → ⊥
  free-old i j free h =
      let found = old-to ps (λ a b c x y. one-new old chip view a b c (due-pair (a, b) x) (due-pair (a, c) y)) i j h in
      absurd cc

  -- ---- the steps

  pub record IsMadeDue (t : Timed) : Type 0 where
    pub j : ℕ
    pub n : Object Vid
    pub x : Vid × Thing
    pub at : slice_get new j ≡ Some n
    pub there : slice_get things j ≡ Some x
    pub of : IsBody (Has (viewed things)) x.1 n.body
    pub entry : IsEntry x.0 x.1 n.entry
    pub free : partner_at (by_new ps) j ≡ None
    pub step : t.step ≡ step.Make j
    pub rank : t.rank ≡ make_rank m n.body

  pub record IsSetDue (t : Timed) : Type 0 where
    pub i : ℕ
    pub j : ℕ
    pub n : Object Vid
    pub x : Vid × Thing
    pub at : slice_get new j ≡ Some n
    pub there : slice_get things j ≡ Some x
    pub of : IsBody (Has (viewed things)) x.1 n.body
    pub pair : IsIn (i, j) ps
    pub step : t.step ≡ step.Set i j
    pub rank : t.rank ≡ set_rank n.body

  pub record IsGoneDue (t : Timed) : Type 0 where
    pub i : ℕ
    pub o : Object Rid
    pub at : slice_get old i ≡ Some o
    pub was : IsOldAt old chip view i o.entry o.body
    pub free : partner_at (by_old ps) i ≡ None
    pub step : t.step ≡ step.Remove i
    pub rank : t.rank ≡ remove_rank m o.body

  abbrev pub IsDueStep : Timed → Type 0
  IsDueStep t = IsMadeDue t ⊎ (IsSetDue t ⊎ IsGoneDue t)

  abbrev item : Object Rid → Entry Rid × Body Rid
  item z = (z.entry, z.body)

  old_place : (i : ℕ) (o : Object Rid) → slice_get old i ≡ Some o → slice_get O i ≡ Some (o.entry, o.body)
  old_place i o e = slice_get-map (λ (z : Object Rid). (z.entry, z.body)) old i ∙ ap (option_map (λ (z : Object Rid). (z.entry, z.body))) e

  pub place_old : (i : ℕ) (e : Entry Rid) (b : Body Rid) → slice_get O i ≡ Some (e, b) → (o : Object Rid) × (slice_get old i ≡ Some o) × (o.entry ≡ e) × (o.body ≡ b)
  place_old i e b h = by (slice_get old i) refl (sym (slice_get-map (λ (z : Object Rid). (z.entry, z.body)) old i) ∙ h)
    where
      by : (o : Option (Object Rid)) → slice_get old i ≡ o → option_map item o ≡ Some (e, b) → (o : Object Rid) × (slice_get old i ≡ Some o) × (o.entry ≡ e) × (o.body ≡ b)
      by None x is = absurd cc
      by (Some o) x is =
          let same : (o.entry, o.body) ≡ (e, b) = cc in
          (o, x, ap (λ (z : Entry Rid × Body Rid). z.0) same, ap (λ (z : Entry Rid × Body Rid). z.1) same)

  new_by : (t : Timed) (key : Option NaturalKey) (n : Object Vid) (j : ℕ) (p : Option ℕ) → slice_get new j ≡ Some n → partner_at (by_new ps) j ≡ p → t ≡ new_step m key n j p → IsDueStep t
  new_by t key n j None at e is =
      let x = object-at old chip view j n at in
      inl (record { j = j; n = n; x = x.0; at = at; there = x.1; of = x.2; entry = x.3; free = e; step = ap (λ (z : Timed). z.step) is; rank = ap (λ (z : Timed). z.rank) is })
  new_by t key n j (Some i) at e is =
      let x = object-at old chip view j n at in
      inr (inl (record { i = i; j = j; n = n; x = x.0; at = at; there = x.1; of = x.2; pair = new-from ps i j e; step = ap (λ (z : Timed). z.step) is; rank = ap (λ (z : Timed). z.rank) is }))

  pub due-of : (t : Timed) → IsIn t due → IsDueStep t
  due-of t h =
      elim (in-either t (new_steps m (by_new ps) (new_keys new) new 0) (old_steps m (by_old ps) (keys_of_objects O) old 0) h) [
        | inl i ↦
            let d = new-due m (by_new ps) (new_keys new) new 0 t i in
            new_by t d.key d.object d.far (partner_at (by_new ps) d.far) d.object_at refl (d.is ∙ ap (λ p. new_step m d.key d.object p (partner_at (by_new ps) p)) (from_none d.far))
        | inr i ↦
            let d = old-due m (by_old ps) (keys_of_objects O) old 0 t i in
            inr (inr (record {
              i = d.far;
              o = d.object;
              at = d.object_at;
              was = old-at old chip view d.far d.object.entry d.object.body (old_place d.far d.object d.object_at);
              free = ap (partner_at (by_old ps)) (sym (from_none d.far)) ∙ d.free;
              step = ap (λ (z : Timed). z.step) d.is ∙ ap step.Remove (from_none d.far);
              rank = ap (λ (z : Timed). z.rank) d.is;
            }))
      ]

  abbrev HasStep : PlanStep → Type 0
  HasStep s = (t : Timed) × IsIn t due × (t.step ≡ s)

  new_in : (j : ℕ) (x : Vid × Thing) → slice_get things j ≡ Some x → (n : Object Vid) × IsIn (new_step m (Some (natural_key_of x.1)) n j (partner_at (by_new ps) j)) due
  new_in j x there =
      let n = thing-at old chip view j x there in
      let step = due-new m (by_new ps) (new_keys new) new 0 j (Some (natural_key_of x.1)) n.0 (key_new old chip view j x there) n.1 in
      (n.0, in-left _ (new_steps m (by_new ps) (new_keys new) new 0) _ (subst (λ p. IsIn (new_step m (Some (natural_key_of x.1)) n.0 p (partner_at (by_new ps) p)) (new_steps m (by_new ps) (new_keys new) new 0)) (from_none j) step))

  pub made-due : (j : ℕ) (x : Vid × Thing) → slice_get things j ≡ Some x → partner_at (by_new ps) j ≡ None → HasStep (step.Make j)
  made-due j x there free = let s = new_in j x there in (new_step m (Some (natural_key_of x.1)) s.0 j (partner_at (by_new ps) j), s.1, ap (λ p. (new_step m (Some (natural_key_of x.1)) s.0 j p).step) free)

  pub set-due : (i j : ℕ) (x : Vid × Thing) → slice_get things j ≡ Some x → partner_at (by_new ps) j ≡ Some i → HasStep (step.Set i j)
  set-due i j x there with = let s = new_in j x there in (new_step m (Some (natural_key_of x.1)) s.0 j (partner_at (by_new ps) j), s.1, ap (λ p. (new_step m (Some (natural_key_of x.1)) s.0 j p).step) with)

  pub gone-due : (i : ℕ) (e : Entry Rid) (b : Body Rid) → IsOldAt old chip view i e b → partner_at (by_old ps) i ≡ None → HasStep (step.Remove i)
  gone-due i e b w free =
      let o = place_old i e b w.at in
      let k = key_at O O i e b w.at in
      let s = due-old m (by_old ps) (keys_of_objects O) old 0 i _ o.0 k o.1 (ap (partner_at (by_old ps)) (from_none i) ∙ free) in
      (_, in-right _ (new_steps m (by_new ps) (new_keys new) new 0) (old_steps m (by_old ps) (keys_of_objects O) old 0) s, ap step.Remove (from_none i))

  -- ---- no two are about one name

  abbrev about : Timed → ThingName
  about t = subject (change t)

  about_new : (key : Option NaturalKey) (n : Object Vid) (p : ℕ) (q : Option ℕ) → about (new_step m key n p q) ≡ name_of (new_thing things p)
  about_new key n p None = refl
  about_new key n p (Some i) = refl

  thing_in : (p : ℕ) → p < length new → (x : Vid × Thing) × (slice_get things p ≡ Some x)
  thing_in p less = by (slice_get new p) refl
    where
      some : {X : Type 0} (xs : List X) (p : ℕ) → p < length xs → slice_get xs p ≡ None → ⊥
      some [] p less e = omega (arith, less)
      some (x ∷ xs) zero less e = absurd cc
      some (x ∷ xs) (suc p) less e = some xs p (omega (arith, less)) e

      by : (o : Option (Object Vid)) → slice_get new p ≡ o → (x : Vid × Thing) × (slice_get things p ≡ Some x)
      by None e = absurd (some new p less e)
      by (Some n) e = let x = object-at old chip view p n e in (x.0, x.1)

  news_apart : (p q : ℕ) → p < length new → q < length new → name_of (new_thing things p) ≡ name_of (new_thing things q) → p ≡ q
  news_apart p q x y same =
      let a = thing_in p x in
      let b = thing_in q y in
      new-place old chip view p q a.0 b.0 a.1 b.1 (ap name_of (sym (thing-is p a.0 a.1)) ∙ same ∙ ap name_of (thing-is q b.0 b.1))

  olds_apart : (p q : ℕ) (o u : Object Rid) → slice_get old p ≡ Some o → slice_get old q ≡ Some u → old_name (tag_of O N) O p ≡ old_name (tag_of O N) O q → p ≡ q
  olds_apart p q o u x y same =
      let a = old-at old chip view p o.entry o.body (old_place p o x) in
      let b = old-at old chip view q u.entry u.body (old_place q u y) in
      old-one old chip view p q o.entry u.entry o.body u.body a b (sym (name-is p o.entry o.body a) ∙ same ∙ name-is q u.entry u.body b)

  -- an unpaired old object has the name of no new one
  abbrev pub AreApart : Type 0
  AreApart = (i j : ℕ) (e : Entry Rid) (b : Body Rid) → (w : IsOldAt old chip view i e b) → partner_at (by_old ps) i ≡ None → (x : Vid × Thing) → slice_get things j ≡ Some x → name_of w.thing ≡ name_of x.1 → ⊥

  shift : (p q : ℕ) → 0 + p ≡ 0 + q → p ≡ q
  shift p q e = omega (arith, e)

  pub due-distinct : AreApart → AreDistinct (map about due)
  due-distinct apart =
      subst AreDistinct (sym (map-append about (new_steps m (by_new ps) (new_keys new) new 0) (old_steps m (by_old ps) (keys_of_objects O) old 0)))
      (joined-distinct m (by_new ps) about (map about (new_steps m (by_new ps) (new_keys new) new 0)) (map about (old_steps m (by_old ps) (keys_of_objects O) old 0))
      (new-distinct m (by_new ps) about (λ p. name_of (new_thing things p)) (λ key n p. about_new key n p (partner_at (by_new ps) p)) (new_keys new) new 0 (length new) (omega arith) news_apart)
      (old-distinct m (by_old ps) about (old_name (tag_of O N) O) (λ key o p. refl) (keys_of_objects O) old 0 (λ p q o u x y same. olds_apart p q o u x y (ap (old_name (tag_of O N) O) (sym (from_none p)) ∙ same ∙ ap (old_name (tag_of O N) O) (from_none q))))
      (λ k i j.
      let s = map-in about (new_steps m (by_new ps) (new_keys new) new 0) k i in
      let t = map-in about (old_steps m (by_old ps) (keys_of_objects O) old 0) k j in
      let d = new-due m (by_new ps) (new_keys new) new 0 s.0 s.1 in
      let g = old-due m (by_old ps) (keys_of_objects O) old 0 t.0 t.1 in
      let x = object-at old chip view d.far d.object d.object_at in
      let w = old-at old chip view g.far g.object.entry g.object.body (old_place g.far g.object g.object_at) in
      let new_name : k ≡ name_of x.0.1 = s.2 ∙ ap about d.is ∙ about_new d.key d.object (0 + d.far) (partner_at (by_new ps) (0 + d.far)) ∙ ap (λ p. name_of (new_thing things p)) (from_none d.far) ∙ ap name_of (thing-is d.far x.0 x.1) in
      let was_name : k ≡ name_of w.thing = t.2 ∙ ap about g.is ∙ ap (old_name (tag_of O N) O) (from_none g.far) ∙ name-is g.far g.object.entry g.object.body w in
      apart g.far d.far g.object.entry g.object.body w (ap (partner_at (by_old ps)) (sym (from_none g.far)) ∙ g.free) x.0 x.1 (sym was_name ∙ new_name)))
