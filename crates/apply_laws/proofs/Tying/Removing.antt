-- a removal that is made on both unties what is removed, and each other tie stays
use Rattle.std.proofs.Common.{◌≡◌, ℕ, ◌+◌, Bool, true, false, not, cond, List, map, None, Some, refl, sym, ap, ap₂, ◌∙◌, subst}
use Rattle.std.specs.BTreeMap.{is_at}
use Rattle.std.specs.Cmp.{both_ways, eq_by_cmp_equiv}
use Rattle.std.specs.List.{AllByRecursion}
use Rattle.std.specs.List.Sorted.{IsStrictlySortedBy}
use Rattle.std.specs.Map.{keys_of, lookup, remove_entry}
use Rattle.std.proofs.lemmas.Bool.{false≢true}
use Rattle.sai_types.specs.declared.ids.Rid.{Rid}
use Rattle.sai_types.specs.declared.ids.Vid.{Vid}
use Rattle.sai_types.specs.declared.body.Body.{Body}
use Rattle.sai_types.specs.declared.body.Body.TheVariants as body
use Rattle.sai_types.specs.declared.body.Call.TheVariants as call
use Rattle.sai_types.specs.declared.body.Entry.{Entry}
use Rattle.sai_types.specs.declared.body.Entry.TheVariants as entry
use Rattle.sai_types.specs.After.{after_call, has_id}
use Rattle.sai_types.specs.Alike.{IsIn}
use Rattle.sai_types.specs.Made.{IsWhole}
use Rattle.sai_types.specs.Objects.{Objects}
use Rattle.sai_types.specs.Refusal.{IsLegal}
use Rattle.sai_types.proofs.Maps.{lookup-removed, sorted-remove_entry}
use Rattle.sai_types.proofs.Whole.{whole-after_call}
use Rattle.sai_types.proofs.Membership.{all-in}
use Rattle.chip_layout.specs.Counted.{AreDistinct}
use Rattle.chip_layout.specs.Renamed.{entry_renamed}
use Rattle.chip_layout.proofs.Distinct.{distinct-by, one-of}
use Rattle.asic_view.specs.declared.object.ViewObject.{ViewObject}
use Rattle.asic_view.specs.View.{ViewObjects, after_remove, entry_at, is_named, rid_at, rid_in, shown_by, vid_cmp}
use Rattle.asic_view.proofs.Keeping.{IsThere, found-key, in-all, remove-there, removed_by, vid-exact}
use Rattle.asic_view.proofs.Naming.{key-exact, vid_total}
use Rattle.asic_view.proofs.Shown.{shown-left, shown_body, shown_entry}
use Rattle.syncd_core.specs.Tied.{rid_or_none, tie_of}
use Rattle.apply_laws.specs.Following.{AreTiedAlike, LosesTie}
use Rattle.apply_laws.specs.Named.{InBody}
use Rattle.apply_laws.specs.Ties.{AreTied, HasTie}
use Rattle.apply_laws.proofs.Tying.Lists.{distinct-filter, in-filter}
use Rattle.apply_laws.proofs.Tying.Renamed.{legal-with, removed-tied, tells-tied}
use Rattle.apply_laws.proofs.Tying.Shown.{IsSame, IsShown, Item, body-shown, in-entry, more-body, same-body, same-entry, same-shown, shown-there}
use Rattle.apply_laws.proofs.Tying.Tied.{no-tie, own-tie, shown-tied, tied-once}

abbrev pub is_oid : Entry Vid → Bool
is_oid (entry.Oid v) = true
is_oid _ = false

id_entry : (v : Vid) (b : Body Vid) → has_id b ≡ is_oid (entry_at v b)
id_entry v (body.OwnAddress r ip) = refl
id_entry v (body.Neighbor rif ip mac) = refl
id_entry v (body.Route r prefix to) = refl
id_entry v (body.Port lanes speed mtu up) = refl
id_entry v _ = refl

oid_at : (v w : Vid) (b : Body Vid) → entry.Oid v ≡ entry_at w b → v ≡ w
oid_at v w (body.OwnAddress r ip) h = absurd cc
oid_at v w (body.Neighbor rif ip mac) h = absurd cc
oid_at v w (body.Route r prefix to) h = absurd cc
oid_at v w (body.Port lanes speed mtu up) h = cc
oid_at v w _ h = cc

module _ (view : ViewObjects) (made : ℕ) (tied : AreTied view made (shown_by (tie_of view) view)) (whole : IsWhole made (shown_by (tie_of view) view)) (capacities : List ℕ) (e : Entry Vid) (legal : IsLegal capacities (shown_by (tie_of view) view) (call.Remove (entry_renamed (tie_of view) e))) where
  abbrev left : ViewObjects
  left = after_remove view e

  abbrev s : Vid → Rid
  s = tie_of left

  abbrev t : Vid → Rid
  t = tie_of view

  there : IsThere view e
  there = remove-there view e (record { capacities = capacities; legal = legal-with view made tied whole capacities (call.Remove e) legal })

  abbrev x : Item
  x = there.item

  -- no other has the entry
  only : AllByRecursion (λ y. is_named e y ≡ is_at (vid_cmp x.0) y.0) view
  only = all-in (λ y. is_named e y ≡ is_at (vid_cmp x.0) y.0) view (λ y h. both_ways (is_named e y) (is_at (vid_cmp x.0) y.0)
      (λ named.
      let keys : shown_entry t x ≡ shown_entry t y = ap (entry_renamed t) (sym (key-exact e (entry_at x.0 x.1.body) there.named) ∙ key-exact e (entry_at y.0 y.1.body) named) in
      let one = one-of (shown_entry t) view x y tied.once there.among h keys in
      ap (λ (z : Item). is_at (vid_cmp x.0) z.0) (sym one) ∙ (eq_by_cmp_equiv vid_total).refl x.0)
      (λ at.
      let is = vid-exact x.0 y.0 at in
      let objects = sym (found-key view x tied.rising there.among) ∙ ap (λ w. lookup (is_at (vid_cmp w)) view) is ∙ found-key view y tied.rising h in
      let same : x.1 ≡ y.1 = cc objects in
      let pair : Vid → ViewObject → Item = λ w z. (w, z) in
      ap (is_named e) (ap₂ pair (sym is) (sym same)) ∙ there.named))

  left_is : remove_entry (is_at (vid_cmp x.0)) view ≡ left
  left_is = removed_by x.0 (is_named e) view tied.rising only

  rid_left : (w : Vid) → rid_at left w ≡ rid_in (cond (is_at (vid_cmp x.0) w) None (lookup (is_at (vid_cmp w)) view))
  rid_left w = ap (λ os. rid_at os w) (sym left_is) ∙ ap rid_in (lookup-removed vid_cmp vid_total view x.0 w tied.rising)

  rid_gone : rid_at left x.0 ≡ None
  rid_gone = rid_left x.0 ∙ ap (λ c. rid_in (cond c None (lookup (is_at (vid_cmp x.0)) view))) ((eq_by_cmp_equiv vid_total).refl x.0)

  rid_stays : (w : Vid) → (w ≡ x.0 → ⊥) → rid_at left w ≡ rid_at view w
  rid_stays w apart = rid_left w ∙ by (is_at (vid_cmp x.0) w) refl
    where
      by : (c : Bool) → is_at (vid_cmp x.0) w ≡ c → rid_in (cond c None (lookup (is_at (vid_cmp w)) view)) ≡ rid_at view w
      by true at = absurd (apart (sym (vid-exact x.0 w at)))
      by false at = refl

  -- ---- what becomes of the ties

  pub id-untied : (v : Vid) → e ≡ entry.Oid v → LosesTie view v (after_remove view e)
  id-untied v is =
      let own = oid_at v x.0 x.1.body (sym is ∙ key-exact e (entry_at x.0 x.1.body) there.named) in
      record { none = ap (rid_at left) own ∙ rid_gone; others = λ w apart. rid_stays w (λ same. apart (same ∙ sym own)) }

  pub key-alike : is_oid e ≡ false → AreTiedAlike view (after_remove view e)
  key-alike key w = rid_left w ∙ by (is_at (vid_cmp x.0) w) refl
    where
      by : (c : Bool) → is_at (vid_cmp x.0) w ≡ c → rid_in (cond c None (lookup (is_at (vid_cmp w)) view)) ≡ rid_at view w
      by true at = sym (no-tie view made tied x there.among (id_entry x.0 x.1.body ∙ ap is_oid (sym (key-exact e (entry_at x.0 x.1.body) there.named)) ∙ key)) ∙ ap (rid_at view) (vid-exact x.0 w at)
      by false at = refl

  -- ---- what is left

  stays : (y : Item) → IsIn y left → IsIn y view × (y.0 ≡ x.0 → ⊥)
  stays y h =
      let in_both = in-filter (λ z. not (is_named e z)) view y h in
      (in_both.0, λ same. not_both (is_named e y) in_both.1 (in-all (λ z. is_named e z ≡ is_at (vid_cmp x.0) z.0) view y only in_both.0 ∙ ap (λ w. is_at (vid_cmp x.0) w) same ∙ (eq_by_cmp_equiv vid_total).refl x.0))
    where
      not_both : (c : Bool) → not c ≡ true → c ≡ true → ⊥
      not_both true h g = false≢true h
      not_both false h g = false≢true g

  left_same : (y : Item) → IsIn y left → IsSame s t y.0
  left_same y h = ap rid_or_none (rid_stays y.0 (stays y h).1)

  shown_same : (w : Vid) → IsShown t left w → IsSame s t w
  shown_same w (z, among, id, same) =
      let in_view = (stays z among).0 in
      let own = own-tie view made tied z in_view id in
      let other = shown-tied view made tied w (z, in_view, id, same) in
      let alike : rid_at view w ≡ Some own.0 = other.1 ∙ ap Some (sym (ap rid_or_none other.1) ∙ same ∙ ap rid_or_none own.1) in
      let is = tied-once view made tied w z.0 own.0 alike own.1 in
      ap s is ∙ left_same z among ∙ ap t (sym is)

  abbrev chip_after : Objects
  chip_after = after_call (made + 1) (shown_by (tie_of view) view) (call.Remove (entry_renamed (tie_of view) e))

  left_shown : shown_by t left ≡ chip_after
  left_shown = shown-left t e view (tells-tied view made tied whole e (removed-tied view made tied whole capacities e legal))

  left_once : AreDistinct (map (shown_entry t) left)
  left_once = distinct-filter (shown_entry t) (λ z. not (is_named e z)) view tied.once

  left_body : (y : Item) → IsIn y left → InBody (IsSame s t) y.1.body
  left_body y h =
      let whole' : IsWhole made (shown_by t left) = subst (IsWhole made) (sym left_shown) (whole-after_call capacities made (shown_by t view) (call.Remove (entry_renamed t e)) whole legal) in
      more-body (IsShown t left) (IsSame s t) shown_same y.1.body (body-shown t left y.1.body (whole'.refer.each (shown_entry t y) (shown_body t y) (shown-there t left y left_once h)))

  left_entry : (y : Item) → IsIn y left → shown_entry s y ≡ shown_entry t y
  left_entry y h = same-entry s t (entry_at y.0 y.1.body) (in-entry (IsSame s t) y.0 y.1.body (λ id. left_same y h) (left_body y h))

  pub after-removed : AreTied (after_remove view e) made (after_call (made + 1) (shown_by (tie_of view) view) (call.Remove (entry_renamed (tie_of view) e)))
  after-removed = record {
    rising = subst (λ l. IsStrictlySortedBy vid_cmp (keys_of l)) left_is (sorted-remove_entry vid_cmp vid_total (is_at (vid_cmp x.0)) view tied.rising);
    ties = all-in (HasTie made) left (λ y h. in-all (HasTie made) view y tied.ties (stays y h).0);
    once = distinct-by (shown_entry t) (shown_entry s) left (λ y z h g same. sym (left_entry y h) ∙ same ∙ left_entry z g) left_once;
    shown = same-shown s t left (λ y h. (left_entry y h, same-body s t y.1.body (left_body y h))) ∙ left_shown;
  }
