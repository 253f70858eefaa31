-- ties, one more at a time
use Rattle.std.proofs.Common.{◌≡◌, ◌⊎◌, inl, inr, Bool, true, false, cond, [], ◌∷◌, Option, None, Some, option_map, refl, sym, ap, ◌∙◌}
use Rattle.std.specs.BTreeMap.{is_at}
use Rattle.std.specs.Cmp.{eq_by_cmp_equiv}
use Rattle.std.specs.Map.{lookup}
use Rattle.sai_types.specs.declared.ids.Rid.{Rid}
use Rattle.sai_types.specs.declared.ids.Vid.{Vid}
use Rattle.sai_types.specs.contracts.ids.VidOrd.TheImpl.Laws as ordered_vid
use Rattle.sai_types.specs.declared.body.Entry.{Entry}
use Rattle.sai_types.specs.declared.body.Entry.TheVariants as entry
use Rattle.sai_types.specs.declared.body.Object.{Object}
use Rattle.asic_view.specs.declared.object.ViewObject.{ViewObject}
use Rattle.asic_view.specs.View.{ViewObjects, view_changed_at, rid_at, rid_in, vid_cmp, with_tie}
use Rattle.asic_view.proofs.Keeping.{vid-exact}
use Rattle.syncd_core.specs.Begun.{tied_entries, tied_objects}
use Rattle.syncd_core.proofs.Ties.{apart_found}

abbrev pub Found : ViewObjects → Vid → Option ViewObject
Found os v = lookup (is_at (vid_cmp v)) os

pub vid-self : (v : Vid) → is_at (vid_cmp v) v ≡ true
vid-self v = (eq_by_cmp_equiv ordered_vid.total-law).refl v

-- an object is there
abbrev pub IsThere : ViewObjects → Vid → Type 0
IsThere os v = (y : ViewObject) × (Found os v ≡ Some y)

same_found : (v : Vid) (g : ViewObject → ViewObject) (os : ViewObjects) → Found (view_changed_at os v g) v ≡ option_map g (Found os v)
same_found v g [] = refl
same_found v g (y ∷ ys) = by (is_at (vid_cmp v) y.0) refl (same_found v g ys)
  where
    by : (s : Bool) → is_at (vid_cmp v) y.0 ≡ s → Found (view_changed_at ys v g) v ≡ option_map g (Found ys v) → Found (cond s (y.0, g y.1) y ∷ view_changed_at ys v g) v ≡ option_map g (Found (y ∷ ys) v)
    by true e rest = ap (λ b. cond b (Some (g y.1)) (Found (view_changed_at ys v g) v)) e ∙ ap (λ b. option_map g (cond b (Some y.1) (Found ys v))) (sym e)
    by false e rest = ap (λ b. cond b (Some y.1) (Found (view_changed_at ys v g) v)) e ∙ rest ∙ ap (λ b. option_map g (cond b (Some y.1) (Found ys v))) (sym e)

abbrev tie_with : Rid → ViewObject → ViewObject
tie_with r x = record { body = x.body; rid = Some r }

pub vid-or : (v w : Vid) → (v ≡ w) ⊎ (v ≡ w → ⊥)
vid-or v w = by (is_at (vid_cmp v) w) refl
  where
    by : (b : Bool) → is_at (vid_cmp v) w ≡ b → (v ≡ w) ⊎ (v ≡ w → ⊥)
    by true e = inl (vid-exact v w e)
    by false e = inr (λ is. never (sym e ∙ ap (is_at (vid_cmp v)) (sym is) ∙ vid-self v))
      where
        never : false ≡ true → ⊥
        never h = cc

-- what is tied is tied to this
pub tied-same : (os : ViewObjects) (v : Vid) (r : Rid) → IsThere os v → rid_at (with_tie os v r) v ≡ Some r
tied-same os v r there = ap rid_in (same_found v (tie_with r) os ∙ ap (option_map (tie_with r)) there.1)

-- and another is as it was
pub tied-apart : (os : ViewObjects) (v w : Vid) (r : Rid) → (v ≡ w → ⊥) → rid_at (with_tie os w r) v ≡ rid_at os v
tied-apart os v w r apart = ap rid_in (apart_found v w (tie_with r) apart os)

pub there-kept : (os : ViewObjects) (v w : Vid) (r : Rid) → IsThere os v → IsThere (with_tie os w r) v
there-kept os v w r there =
    elim (vid-or v w) [
      | inl is ↦ (tie_with r there.0, ap (λ z. Found (with_tie os z r) v) (sym is) ∙ same_found v (tie_with r) os ∙ ap (option_map (tie_with r)) there.1)
      | inr apart ↦ (there.0, apart_found v w (tie_with r) apart os ∙ there.1)
    ]

pub tied-kept : (os : ViewObjects) (v w : Vid) (r s : Rid) → IsThere os v → rid_at os v ≡ Some s → (q : Rid) × (rid_at (with_tie os w r) v ≡ Some q)
tied-kept os v w r s there tied =
    elim (vid-or v w) [
      | inl is ↦ (r, ap (λ z. rid_at (with_tie os z r) v) (sym is) ∙ tied-same os v r there)
      | inr apart ↦ (s, tied-apart os v w r apart ∙ tied)
    ]

-- ties of pairs take away none
module _ (v : Vid) where
  pub entries-there : (os : ViewObjects) (e : Entry Rid) (f : Entry Vid) → IsThere os v → IsThere (tied_entries os e f) v
  entries-there os (entry.Oid r) (entry.Oid w) h = there-kept os v w r h
  entries-there os (entry.Oid r) (entry.Own w ip) h = h
  entries-there os (entry.Oid r) (entry.Neigh w ip) h = h
  entries-there os (entry.Oid r) (entry.Route w p) h = h
  entries-there os (entry.Own w ip) f h = h
  entries-there os (entry.Neigh w ip) f h = h
  entries-there os (entry.Route w p) f h = h

  pub objects-there : (os : ViewObjects) (o : Option (Object Rid)) (n : Option (Object Vid)) → IsThere os v → IsThere (tied_objects os o n) v
  objects-there os (Some o) (Some n) h = entries-there os o.entry n.entry h
  objects-there os (Some o) None h = h
  objects-there os None n h = h
