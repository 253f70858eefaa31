-- a view whose ties are the chip's identifiers of its things stands for the chip
use Rattle.std.proofs.Common.{◌≡◌, inl, inr, ℕ, Bool, true, false, cond, List, [], ◌∷◌, Option, None, Some, option_map, refl, sym, ap, ◌∙◌, subst}
use Rattle.std.specs.List.{slice_get}
use Rattle.std.proofs.lemmas.Option.{same_Some, slice_get-map}
use Rattle.sai_types.specs.declared.ids.Rid.{Rid}
use Rattle.sai_types.specs.declared.ids.Vid.{Vid}
use Rattle.sai_types.specs.declared.body.Body.{Body}
use Rattle.sai_types.specs.declared.body.Body.TheVariants as body
use Rattle.sai_types.specs.declared.body.Entry.{Entry}
use Rattle.sai_types.specs.declared.body.Object.{Object}
use Rattle.sai_types.specs.declared.thing.Thing.{Thing}
use Rattle.sai_types.specs.After.{entry_of}
use Rattle.sai_types.specs.Alike.{IsIn}
use Rattle.sai_types.specs.Made.{IsWhole, same_entry}
use Rattle.sai_types.specs.Names.{ThingName, name_kind, name_of}
use Rattle.sai_types.specs.Objects.{Objects, body_at}
use Rattle.sai_types.proofs.Exact.{entry-exact}
use Rattle.sai_types.proofs.Found.{body_at-insert, same-refl}
use Rattle.chip_names.specs.Naming.{entries_of}
use Rattle.chip_layout.specs.Bodies.{IsAt, IsBody, first_name, is_numbered, second_name}
use Rattle.chip_layout.specs.Layout.{Has, IsLaidOut, Layout, has_number}
use Rattle.chip_layout.specs.Renamed.{body_renamed, entry_renamed}
use Rattle.chip_layout.proofs.Bodies.{entry-same, first-numbered, second-numbered}
use Rattle.chip_layout.proofs.Laid.{body-one}
use Rattle.chip_layout.proofs.Shapes.{renamed_with}
use Rattle.plan_laws.specs.Applied.{IsListedChip}
use Rattle.plan_laws.specs.Calls.{viewed}
use Rattle.asic_view.specs.declared.object.ViewObject.{ViewObject}
use Rattle.asic_view.specs.View.{ViewObjects, entry_at, object_of, shown_by}
use Rattle.asic_view.proofs.Same.{same-objects}
use Rattle.asic_view.proofs.Shown.{shown_body, shown_entry, sorted-shown}
use Rattle.syncd_core.specs.Begun.{objects_listed}
use Rattle.apply_laws.specs.Viewed.{IsEntry, IsViewOf, things_in}
use Rattle.apply_laws.proofs.Order.Partners.{in-place, place-in}
use Rattle.apply_laws.proofs.Order.Placed.{in-new, new-in, object-at, thing-at}
use Rattle.apply_laws.proofs.Sync.Started.{id_of, map_place}

-- ---- what is found in a view that is shown by ties

module _ (f : Vid → Rid) where
  record IsShownBy (os : ViewObjects) (q : Entry Rid) (b : Body Rid) : Type 0 where
    object : Vid × ViewObject
    among : IsIn object os
    entry : same_entry q (shown_entry f object) ≡ true
    body : b ≡ shown_body f object

  shown-from : (os : ViewObjects) (q : Entry Rid) (b : Body Rid) → body_at (shown_by f os) q ≡ Some b → IsShownBy os q b
  shown-from [] q b h = absurd cc
  shown-from (x ∷ xs) q b h = by (same_entry q (shown_entry f x)) refl (sym (body_at-insert (shown_by f xs) (shown_entry f x) (shown_body f x) q) ∙ h) (shown-from xs q b)
    where
      by : (c : Bool) → same_entry q (shown_entry f x) ≡ c → cond c (Some (shown_body f x)) (body_at (shown_by f xs) q) ≡ Some b → (body_at (shown_by f xs) q ≡ Some b → IsShownBy xs q b) → IsShownBy (x ∷ xs) q b
      by true e is rest = record { object = x; among = inl refl; entry = e; body = sym (same_Some (shown_body f x) b is) }
      by false e is rest = let r = rest is in record { object = r.object; among = inr r.among; entry = r.entry; body = r.body }

  shown-some : (os : ViewObjects) (q : Entry Rid) (x : Vid × ViewObject) → IsIn x os → same_entry q (shown_entry f x) ≡ true → body_at (shown_by f os) q ≡ None → ⊥
  shown-some [] q x i same none = i
  shown-some (y ∷ ys) q x (inl is) same none =
      let here : same_entry q (shown_entry f y) ≡ true = ap (λ z. same_entry q (shown_entry f z)) (sym is) ∙ same in
      let some : body_at (shown_by f (y ∷ ys)) q ≡ Some (shown_body f y) = body_at-insert (shown_by f ys) (shown_entry f y) (shown_body f y) q ∙ ap (λ c. cond c (Some (shown_body f y)) (body_at (shown_by f ys) q)) here in
      absurd cc
  shown-some (y ∷ ys) q x (inr i) same none = by (same_entry q (shown_entry f y)) (sym (body_at-insert (shown_by f ys) (shown_entry f y) (shown_body f y) q) ∙ none) (shown-some ys q x i same)
    where
      by : (c : Bool) → cond c (Some (shown_body f y)) (body_at (shown_by f ys) q) ≡ None → (body_at (shown_by f ys) q ≡ None → ⊥) → ⊥
      by true n rest = absurd cc
      by false n rest = rest n

  pub entry-by : (v : Vid) (b : Body Vid) → entry_renamed f (entry_at v b) ≡ entry_of (f v).0 (body_renamed f b)
  entry-by v (body.OwnAddress r ip) = refl
  entry-by v (body.Neighbor r ip m) = refl
  entry-by v (body.Route r p t) = refl
  entry-by v (body.Port l s m u) = refl
  entry-by v _ = refl

  -- ---- where the ties are the identifiers of the things

  module _ {made : ℕ} (old : List (Object Rid)) (objects : ViewObjects) {things : List (Vid × Thing)} (chip : IsListedChip made (entries_of old)) (view : IsViewOf things (objects_listed objects)) (L : Layout Rid) (S : Objects) (laid : IsLaidOut L S) {n : ℕ} (whole : IsWhole n S) (only : (i : Rid) (t : Thing) → L i t → IsIn t (things_in things)) (all : (t : Thing) → IsIn t (things_in things) → (i : Rid) × L i t) (tied : (v : Vid) (u : Thing) → IsIn (v, u) things → has_number u ≡ true → Has L (name_of u) (f v)) where
    at-tied : (o : Option ThingName) (v : Vid) → ((k : ThingName) → o ≡ Some k → is_numbered (name_kind k) ≡ true) → IsAt (Has (viewed things)) o v → IsAt (Has L) o (f v)
    at-tied None v number h = tt
    at-tied (Some k) v number h = subst (λ z. Has L z (f v)) h.2 (tied v h.0 h.1 (ap (λ z. is_numbered (name_kind z)) h.2 ∙ number k refl))

    body-tied : (t : Thing) (b : Body Vid) → IsBody (Has (viewed things)) t b → IsBody (Has L) t (body_renamed f b)
    body-tied t b x = record {
      first = f x.first;
      second = f x.second;
      first_at = at-tied (first_name t) x.first (first-numbered t) x.first_at;
      second_at = at-tied (second_name t) x.second (second-numbered t) x.second_at;
      body_is = ap (body_renamed f) x.body_is ∙ renamed_with f t x.first x.second;
    }

    -- an object of the view at its place, and the chip's object
    record IsThereAs (x : Vid × ViewObject) (i : Rid) (b : Body Rid) : Type 0 where
      entry : shown_entry f x ≡ entry_of i.0 b
      body : shown_body f x ≡ b

    there-as : (x : Vid × ViewObject) (j : ℕ) → slice_get (objects_listed objects) j ≡ Some (object_of x) → (y : Vid × Thing) → slice_get things j ≡ Some y → (i : Rid) → L i y.1 → (b : Body Rid) → IsBody (Has L) y.1 b → IsThereAs x i b
    there-as x j at y there i h b of =
        let o = object-at old chip view j (object_of x) at in
        let same : o.0 ≡ y = same_Some o.0 y (sym o.1 ∙ there) in
        let mine = body-tied y.1 x.1.body (subst (λ (z : Vid × Thing). IsBody (Has (viewed things)) z.1 x.1.body) same o.2) in
        let bodies : shown_body f x ≡ b = body-one L S laid y.1 (body_renamed f x.1.body) b mine of in
        let e = subst (λ (z : Vid × Thing). IsEntry z.0 z.1 (entry_at x.0 x.1.body)) same o.3 in
        record {
          entry = entry-by x.0 x.1.body ∙ ap (entry_of (f x.0).0) bodies ∙ entry-same (Has L) (f x.0).0 i.0 y.1 b of (λ number. number_is x y i j there h number (id_of x.0 y.0 x.1.body (e.some number)));
          body = bodies;
        }
      where
        number_is : (x : Vid × ViewObject) (y : Vid × Thing) (i : Rid) (j : ℕ) → slice_get things j ≡ Some y → L i y.1 → has_number y.1 ≡ true → x.0 ≡ y.0 → (f x.0).0 ≡ i.0
        number_is x y i j there h number vid =
            let has = tied y.0 y.1 (place-in things j y there) number in
            let one = laid.one (f y.0) i has.0 y.1 has.1 h has.2 in
            ap (λ z. (f z).0) vid ∙ ap (λ (r : Rid). r.0) one.0

    found-shown : (x : Vid × ViewObject) → IsIn x objects → body_at S (shown_entry f x) ≡ Some (shown_body f x)
    found-shown x i =
        let k = in-place objects x i in
        let at : slice_get (objects_listed objects) k.0 ≡ Some (object_of x) = slice_get-map object_of objects k.0 ∙ ap (option_map object_of) k.1 in
        let y = object-at old chip view k.0 (object_of x) at in
        let r = all y.0.1 (new-in old chip view k.0 y.0 y.1) in
        let s = laid.stand r.0 y.0.1 r.1 in
        let t = there-as x k.0 at y.0 y.1 r.0 r.1 s.0 s.1 in
        ap (body_at S) t.entry ∙ s.2 ∙ ap Some (sym t.body)

    shown-found : (q : Entry Rid) (b : Body Rid) → body_at S q ≡ Some b → body_at (shown_by f objects) q ≡ None → ⊥
    shown-found q b found none =
        let o = laid.tied q b found in
        let n = in-new old chip view o.1 (only o.0 o.1 o.2) in
        let v = thing-at old chip view n.0 n.1 n.2 in
        let x = map_place object_of objects n.0 v.0 v.1 in
        let t = there-as x.0 n.0 (v.1 ∙ ap Some (sym x.2)) n.1 n.2 o.0 (subst (L o.0) n.3 o.2) b (subst (λ z. IsBody (Has L) z b) n.3 o.3) in
        let same : same_entry q (shown_entry f x.0) ≡ true = ap (same_entry q) (t.entry ∙ sym (entry-exact q (entry_of o.0.0 b) o.4)) ∙ same-refl q in
        shown-some objects q x.0 x.1 same none

    pub stands-for-chip : shown_by f objects ≡ S
    stands-for-chip = same-objects (shown_by f objects) S (sorted-shown f objects) whole.sorted (λ q. by q (body_at (shown_by f objects) q) refl (body_at S q) refl)
      where
        by : (q : Entry Rid) (o : Option (Body Rid)) → body_at (shown_by f objects) q ≡ o → (p : Option (Body Rid)) → body_at S q ≡ p → body_at (shown_by f objects) q ≡ body_at S q
        by q (Some b) e p h =
            let x = shown-from objects q b e in
            e ∙ ap Some x.body ∙ sym (ap (body_at S) (entry-exact q (shown_entry f x.object) x.entry) ∙ found-shown x.object x.among)
        by q None e None h = e ∙ sym h
        by q None e (Some b) h = absurd (shown-found q b h e)
