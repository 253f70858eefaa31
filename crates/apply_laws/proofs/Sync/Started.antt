-- what is tied before the first call: the new objects whose partners stay
use Rattle.std.proofs.Common.{◌≡◌, inl, inr, ℕ, Bool, true, false, cond, List, [], ◌∷◌, map, Option, None, Some, option_map, refl, sym, ap, ◌∙◌, subst}
use Rattle.std.specs.BTreeMap.{is_at}
use Rattle.std.specs.List.{slice_get}
use Rattle.std.specs.Map.{lookup}
use Rattle.std.proofs.lemmas.Option.{slice_get-map}
use Rattle.sai_types.specs.declared.ids.Rid.{Rid}
use Rattle.sai_types.specs.declared.ids.Vid.{Vid}
use Rattle.sai_types.specs.declared.body.Body.{Body}
use Rattle.sai_types.specs.declared.body.Body.TheVariants as body
use Rattle.sai_types.specs.declared.body.Entry.{Entry}
use Rattle.sai_types.specs.declared.body.Entry.TheVariants as entry
use Rattle.sai_types.specs.declared.body.Object.{Object}
use Rattle.sai_types.specs.declared.thing.Thing.{Thing}
use Rattle.sai_types.specs.Alike.{IsIn}
use Rattle.sai_types.specs.Names.{name_of}
use Rattle.chip_names.specs.Naming.{entries_of}
use Rattle.chip_layout.specs.Layout.{has_number}
use Rattle.plan_laws.specs.Applied.{IsListedChip}
use Rattle.plan_laws.specs.Old.{old_things}
use Rattle.plan_laws.proofs.Starting.{seen-old}
use Rattle.view_match.specs.Pairs.{pairs_of}
use Rattle.asic_view.specs.declared.object.ViewObject.{ViewObject}
use Rattle.asic_view.specs.View.{ViewObjects, entry_at, object_of, rid_at, vid_cmp}
use Rattle.syncd_core.specs.Begun.{objects_listed, tied_entries, tied_objects, tied_pairs}
use Rattle.apply_laws.specs.Viewed.{IsViewOf, things_in}
use Rattle.apply_laws.proofs.Order.Ids.{named-has}
use Rattle.apply_laws.proofs.Order.Partners.{in-place, place-in}
use Rattle.apply_laws.proofs.Order.Placed.{thing-at}
use Rattle.apply_laws.proofs.Order.Puts.{IsNamed}
use Rattle.apply_laws.proofs.Sync.Ties.{IsThere, objects-there, tied-apart, vid-self}

-- ---- the objects of a view are there

pub id_of : (v w : Vid) (b : Body Vid) → entry_at v b ≡ entry.Oid w → v ≡ w
id_of v w (body.OwnAddress r ip) e = absurd cc
id_of v w (body.Neighbor r ip m) e = absurd cc
id_of v w (body.Route r p t) e = absurd cc
id_of v w (body.Port l s m u) e = cc
id_of v w _ e = cc

there-in : (os : ViewObjects) (x : Vid × ViewObject) → IsIn x os → IsThere os x.0
there-in [] x i = elim i [ ]
there-in (y ∷ ys) x (inl is) = (y.1, ap (λ b. cond b (Some y.1) (lookup (is_at (vid_cmp x.0)) ys)) (ap (λ (z : Vid × ViewObject). is_at (vid_cmp x.0) z.0) (sym is) ∙ vid-self x.0))
there-in (y ∷ ys) x (inr i) = by (is_at (vid_cmp x.0) y.0) (there-in ys x i)
  where
    by : (b : Bool) → IsThere ys x.0 → (z : ViewObject) × (cond b (Some y.1) (lookup (is_at (vid_cmp x.0)) ys) ≡ Some z)
    by true rest = (y.1, refl)
    by false rest = rest

pub map_place : {X Y : Type 0} (f : X → Y) (xs : List X) (j : ℕ) (y : Y) → slice_get (map f xs) j ≡ Some y → (x : X) × IsIn x xs × (f x ≡ y)
map_place f xs j y h = by (slice_get xs j) refl (sym (slice_get-map f xs j) ∙ h)
  where
    by : (o : Option _) → slice_get xs j ≡ o → option_map f o ≡ Some y → (x : _) × IsIn x xs × (f x ≡ y)
    by None e is = absurd cc
    by (Some x) e is = (x, place-in xs j x e, cc)

module _ {made : ℕ} (old : List (Object Rid)) (objects : ViewObjects) {things : List (Vid × Thing)} (chip : IsListedChip made (entries_of old)) (view : IsViewOf things (objects_listed objects)) where
  pub there-first : (v : Vid) (u : Thing) → IsIn (v, u) things → has_number u ≡ true → IsThere objects v
  there-first v u i number =
      let k = in-place things (v, u) i in
      let n = thing-at old chip view k.0 (v, u) k.1 in
      let x = map_place object_of objects k.0 n.0 n.1 in
      let mine : x.0.0 ≡ v = id_of x.0.0 v x.0.1.body (ap (λ (o : Object Vid). o.entry) x.2 ∙ n.3.some number) in
      subst (IsThere objects) mine (there-in objects x.0 x.1)

  -- ---- ties of pairs

  module _ (v : Vid) where
    -- no pair's new object is this one
    abbrev NoneNamed : List (ℕ × ℕ) → Type 0
    NoneNamed ps = (p : ℕ × ℕ) (o : Object Rid) (n : Object Vid) (r : Rid) → IsIn p ps → slice_get old p.0 ≡ Some o → slice_get (objects_listed objects) p.1 ≡ Some n → o.entry ≡ entry.Oid r → n.entry ≡ entry.Oid v → ⊥

    pub pairs-there : (ps : List (ℕ × ℕ)) (os : ViewObjects) → IsThere os v → IsThere (tied_pairs os old (objects_listed objects) ps) v
    pairs-there [] os h = h
    pairs-there (p ∷ ps) os h = pairs-there ps (tied_objects os (slice_get old p.0) (slice_get (objects_listed objects) p.1)) (objects-there v os (slice_get old p.0) (slice_get (objects_listed objects) p.1) h)

    entries_free : (os : ViewObjects) (e : Entry Rid) (f : Entry Vid) → ((r : Rid) → e ≡ entry.Oid r → f ≡ entry.Oid v → ⊥) → rid_at os v ≡ None → rid_at (tied_entries os e f) v ≡ None
    entries_free os (entry.Oid r) (entry.Oid w) apart h = tied-apart os v w r (λ same. apart r refl (ap entry.Oid (sym same))) ∙ h
    entries_free os (entry.Oid r) (entry.Own w ip) apart h = h
    entries_free os (entry.Oid r) (entry.Neigh w ip) apart h = h
    entries_free os (entry.Oid r) (entry.Route w p) apart h = h
    entries_free os (entry.Own w ip) f apart h = h
    entries_free os (entry.Neigh w ip) f apart h = h
    entries_free os (entry.Route w p) f apart h = h

    objects_free : (os : ViewObjects) (o : Option (Object Rid)) (n : Option (Object Vid)) → ((a : Object Rid) (b : Object Vid) (r : Rid) → o ≡ Some a → n ≡ Some b → a.entry ≡ entry.Oid r → b.entry ≡ entry.Oid v → ⊥) → rid_at os v ≡ None → rid_at (tied_objects os o n) v ≡ None
    objects_free os (Some o) (Some n) apart h = entries_free os o.entry n.entry (λ r. apart o n r refl refl) h
    objects_free os (Some o) None apart h = h
    objects_free os None n apart h = h

    pub pairs-free : (ps : List (ℕ × ℕ)) (os : ViewObjects) → NoneNamed ps → rid_at os v ≡ None → rid_at (tied_pairs os old (objects_listed objects) ps) v ≡ None
    pairs-free [] os none h = h
    pairs-free (p ∷ ps) os none h =
        pairs-free ps (tied_objects os (slice_get old p.0) (slice_get (objects_listed objects) p.1)) (λ q o n r i. none q o n r (inr i)) (objects_free os (slice_get old p.0) (slice_get (objects_listed objects) p.1) (λ a b r x y. none p a b r (inl refl) x y) h)

  -- a new object that has the name of no old one is tied to none
  pub none-named : (v : Vid) (u : Thing) → IsIn (v, u) things → has_number u ≡ true → ((w : Thing) → IsIn w (old_things (entries_of old) (things_in things)) → name_of w ≡ name_of u → ⊥) → NoneNamed v (pairs_of old (objects_listed objects))
  none-named v u i number none p o n r h at there is same =
      let x : IsNamed old (objects_listed objects) (pairs_of old (objects_listed objects)) v r = record { one = o; other = n; i = p.0; j = p.1; among = h; one_at = at; other_at = there; one_is = is; other_is = same } in
      let has = named-has old chip view v u r x i number in
      none has.0 (seen-old chip (things_in things) r has.0 has.1) has.2
