-- a set that is made on both leaves each tie
use Rattle.std.proofs.Common.{◌≡◌, ℕ, ◌+◌, Bool, true, false, cond, List, [], ◌∷◌, map, Option, Some, refl, sym, ap, ap₂, ◌∙◌, subst}
use Rattle.std.proofs.Math.Path.{fun_ext}
use Rattle.std.specs.BTreeMap.{is_at}
use Rattle.std.specs.List.{AllByRecursion}
use Rattle.std.specs.List.Sorted.{IsStrictlySortedBy}
use Rattle.std.specs.Map.{keys_of, lookup}
use Rattle.sai_types.specs.declared.ids.Rid.{Rid}
use Rattle.sai_types.specs.declared.ids.Vid.{Vid}
use Rattle.sai_types.specs.declared.body.Attr.{Attr}
use Rattle.sai_types.specs.declared.body.Attr.TheVariants as attr
use Rattle.sai_types.specs.declared.body.Body.{Body}
use Rattle.sai_types.specs.declared.body.Body.TheVariants as body
use Rattle.sai_types.specs.declared.body.Call.TheVariants as call
use Rattle.sai_types.specs.declared.body.Entry.{Entry}
use Rattle.sai_types.specs.After.{after_call, has_id}
use Rattle.sai_types.specs.Made.{IsWhole}
use Rattle.sai_types.specs.Refusal.{IsLegal}
use Rattle.chip_layout.specs.Counted.{AreDistinct}
use Rattle.chip_layout.specs.Renamed.{attr_renamed, entry_renamed}
use Rattle.asic_view.specs.declared.object.ViewObject.{ViewObject}
use Rattle.asic_view.specs.View.{ViewObjects, view_after_set, body_set, is_named, object_set, rid_at, rid_in, shown_by, vid_cmp}
use Rattle.asic_view.proofs.Shown.{entry-set, shown-set, shown_entry}
use Rattle.syncd_core.specs.Tied.{rid_or_none, tie_of}
use Rattle.apply_laws.specs.Ties.{AreTied, HasTie, IsTie}
use Rattle.apply_laws.proofs.Tying.Renamed.{set-tied, tells-tied}
use Rattle.apply_laws.proofs.Tying.Shown.{Item}

set_keeps_rid : (x y : ViewObject) (s : Bool) (o p : Option ViewObject) → x.rid ≡ y.rid → rid_in o ≡ rid_in p → rid_in (cond s (Some x) o) ≡ rid_in (cond s (Some y) p)
set_keeps_rid x y true o p same rest = same
set_keeps_rid x y false o p same rest = rest

id_set : (b : Body Vid) (a : Attr Vid) → has_id (body_set b a) ≡ has_id b
id_set (body.Port lanes speed mtu up) (attr.Speed s) = refl
id_set (body.Port lanes speed mtu up) (attr.Mtu m) = refl
id_set (body.Port lanes speed mtu up) (attr.Up u) = refl
id_set (body.VlanMember vlan bridge_port tagging) (attr.Tagging t) = refl
id_set (body.Neighbor rif ip mac) (attr.Mac m) = refl
id_set (body.Route r prefix to) (attr.To t) = refl
id_set _ _ = refl

module _ (e : Entry Vid) (a : Attr Vid) where
  abbrev set : Bool → Item → Item
  set c y = cond c (y.0, object_set y.1 a) y

  pub rid-set : (os : ViewObjects) (w : Vid) → rid_at (view_after_set os e a) w ≡ rid_at os w
  rid-set [] w = refl
  rid-set (y ∷ ys) w = by (is_named e y) (rid-set ys w)
    where
      by : (c : Bool) → rid_at (view_after_set ys e a) w ≡ rid_at ys w → rid_at (set c y ∷ view_after_set ys e a) w ≡ rid_at (y ∷ ys) w
      by true rest = set_keeps_rid (object_set y.1 a) y.1 (is_at (vid_cmp w) y.0) (lookup (is_at (vid_cmp w)) (view_after_set ys e a)) (lookup (is_at (vid_cmp w)) ys) refl rest
      by false rest = set_keeps_rid y.1 y.1 (is_at (vid_cmp w) y.0) (lookup (is_at (vid_cmp w)) (view_after_set ys e a)) (lookup (is_at (vid_cmp w)) ys) refl rest

  keys_set : (os : ViewObjects) → keys_of (view_after_set os e a) ≡ keys_of os
  keys_set [] = refl
  keys_set (y ∷ ys) = by (is_named e y) (keys_set ys)
    where
      by : (c : Bool) → keys_of (view_after_set ys e a) ≡ keys_of ys → keys_of (set c y ∷ view_after_set ys e a) ≡ keys_of (y ∷ ys)
      by true rest = ap (λ l. y.0 ∷ l) rest
      by false rest = ap (λ l. y.0 ∷ l) rest

  entries_set : (f : Vid → Rid) (os : ViewObjects) → map (shown_entry f) (view_after_set os e a) ≡ map (shown_entry f) os
  entries_set f [] = refl
  entries_set f (y ∷ ys) = by (is_named e y) (entries_set f ys)
    where
      by : (c : Bool) → map (shown_entry f) (view_after_set ys e a) ≡ map (shown_entry f) ys → map (shown_entry f) (set c y ∷ view_after_set ys e a) ≡ map (shown_entry f) (y ∷ ys)
      by true rest = ap₂ (λ z l. z ∷ l) (ap (entry_renamed f) (entry-set y.0 y.1.body a)) rest
      by false rest = ap (λ l. shown_entry f y ∷ l) rest

  ties_set : (made : ℕ) (os : ViewObjects) → AllByRecursion (HasTie made) os → AllByRecursion (HasTie made) (view_after_set os e a)
  ties_set made [] h = tt
  ties_set made (y ∷ ys) h = (by (is_named e y), ties_set made ys h.1)
    where
      by : (c : Bool) → HasTie made (set c y)
      by true = subst (λ b. IsTie made b y.1.rid) (sym (id_set y.1.body a)) h.0
      by false = h.0

  pub after-set : (view : ViewObjects) (made : ℕ) → AreTied view made (shown_by (tie_of view) view) → IsWhole made (shown_by (tie_of view) view) → (capacities : List ℕ) → IsLegal capacities (shown_by (tie_of view) view) (call.Set (entry_renamed (tie_of view) e) (attr_renamed (tie_of view) a)) → AreTied (view_after_set view e a) made (after_call (made + 1) (shown_by (tie_of view) view) (call.Set (entry_renamed (tie_of view) e) (attr_renamed (tie_of view) a)))
  after-set view made tied whole capacities legal =
      let same : tie_of (view_after_set view e a) ≡ tie_of view = fun_ext (λ w. ap rid_or_none (rid-set view w)) in
      record {
        rising = subst (IsStrictlySortedBy vid_cmp) (sym (keys_set view)) tied.rising;
        ties = ties_set made view tied.ties;
        once = subst (λ (f : Vid → Rid). AreDistinct (map (shown_entry f) (view_after_set view e a))) (sym same) (subst AreDistinct (sym (entries_set (tie_of view) view)) tied.once);
        shown = ap (λ (f : Vid → Rid). shown_by f (view_after_set view e a)) same ∙ shown-set (tie_of view) e a view (tells-tied view made tied whole e (set-tied view made tied whole capacities e a legal).0);
      }
