-- an object that is made on both is tied to the other, and each tie stays
use Rattle.std.proofs.Common.{◌≡◌, ◌⊎◌, inl, inr, ℕ, ◌+◌, ◌<◌, ◌≤◌, Bool, true, false, cond, List, [], ◌∷◌, ◌++◌, Option, None, Some, if◌then◌else◌, refl, sym, ap, ap₂, ◌∙◌, subst, arith}
use Rattle.std.specs.BTreeMap.{insert_entry, is_at}
use Rattle.std.specs.Cmp.{eq_by_cmp_equiv}
use Rattle.std.specs.List.{AllByRecursion}
use Rattle.std.specs.List.Sorted.{IsStrictlySortedBy}
use Rattle.std.specs.Map.{keys_of, lookup}
use Rattle.std.proofs.lemmas.Option.{none-some}
use Rattle.std.proofs.lemmas.Bool.{false_from_ne_true}
use Rattle.swss_types.proofs.Maps.{lookup-insert_entry}
use Rattle.sai_types.specs.declared.ids.Rid.{Rid}
use Rattle.sai_types.specs.declared.ids.Vid.{Vid}
use Rattle.sai_types.specs.declared.body.Body.{Body}
use Rattle.sai_types.specs.declared.body.Body.TheVariants as body
use Rattle.sai_types.specs.declared.body.Call.TheVariants as call
use Rattle.sai_types.specs.declared.body.Entry.TheVariants as entry
use Rattle.sai_types.specs.After.{after_call, entry_of, has_id}
use Rattle.sai_types.specs.Alike.{IsIn}
use Rattle.sai_types.specs.Made.{IsWhole, same_entry}
use Rattle.sai_types.specs.Objects.{body_at, entry_cmp}
use Rattle.sai_types.specs.Refusal.{IsLegal}
use Rattle.sai_types.proofs.Exact.{entry-exact}
use Rattle.sai_types.proofs.Legal.{fresh, legal-create}
use Rattle.sai_types.proofs.Maps.{sorted-insert_entry}
use Rattle.sai_types.proofs.Membership.{all-in, in-push}
use Rattle.chip_layout.specs.Renamed.{body_renamed, entry_renamed}
use Rattle.chip_layout.proofs.Distinct.{distinct-by}
use Rattle.asic_view.specs.declared.object.ViewObject.{ViewObject}
use Rattle.asic_view.specs.View.{IsNew, ViewObjects, view_changed_at, entry_at, rid_at, rid_in, shown_by, vid_cmp}
use Rattle.asic_view.proofs.Keeping.{in-all, in-key, pushed, vid-exact}
use Rattle.asic_view.proofs.Naming.{vid_total}
use Rattle.asic_view.proofs.Shown.{shown-made, shown_body, shown_entry}
use Rattle.syncd_core.specs.Tied.{rid_or_none, tie_of}
use Rattle.apply_laws.specs.Ties.{AreTied, HasTie, IsTie, IsTied}
use Rattle.apply_laws.proofs.Tying.Lists.{distinct-push}
use Rattle.apply_laws.proofs.Tying.Renamed.{created-tied}
use Rattle.apply_laws.proofs.Tying.Shown.{IsSame, Item, more-body, more-entry, same-body, same-entry, same-shown, shown-there}
use Rattle.apply_laws.proofs.Tying.Tied.{body-tied, entry-tied}

below_apart : (v w : Vid) → w.0 < v.0 → is_at (vid_cmp v) w ≡ false
below_apart v w less = by (is_at (vid_cmp v) w) refl
  where
    by : (c : Bool) → is_at (vid_cmp v) w ≡ c → c ≡ false
    by false at = refl
    by true at = let number : v.0 ≡ w.0 = ap (λ (u : Vid). u.0) (vid-exact v w at) in absurd (omega (arith, less, number))

-- what was made last is changed where it stands
pub changed-last : (os : ViewObjects) (v : Vid) (x : ViewObject) (g : ViewObject → ViewObject) → AllByRecursion (λ y. y.0.0 < v.0) os → view_changed_at (os ++ (v, x) ∷ []) v g ≡ os ++ (v, g x) ∷ []
changed-last [] v x g h = ap (λ c. cond c (v, g x) (v, x) ∷ []) ((eq_by_cmp_equiv vid_total).refl v)
changed-last (y ∷ ys) v x g h = ap₂ (λ c l. cond c (y.0, g y.1) y ∷ l) (below_apart v y.0 h.0) (changed-last ys v x g h.1)

entry_given : (f : Vid → Rid) (v : Vid) (b : Body Vid) (n : ℕ) → (has_id b ≡ true → (f v).0 ≡ n) → entry_renamed f (entry_at v b) ≡ entry_of n (body_renamed f b)
entry_given f v (body.OwnAddress r ip) n h = refl
entry_given f v (body.Neighbor rif ip mac) n h = refl
entry_given f v (body.Route r prefix to) n h = refl
entry_given f v (body.Port lanes speed mtu up) n h = ap (λ m. entry.Oid (record { 0 = m })) (h refl)
entry_given f v (body.Vlan vlan) n h = ap (λ m. entry.Oid (record { 0 = m })) (h refl)
entry_given f v (body.VirtualRouter label) n h = ap (λ m. entry.Oid (record { 0 = m })) (h refl)
entry_given f v (body.BridgePort i) n h = ap (λ m. entry.Oid (record { 0 = m })) (h refl)
entry_given f v (body.VlanMember i j tagging) n h = ap (λ m. entry.Oid (record { 0 = m })) (h refl)
entry_given f v (body.Rif r o) n h = ap (λ m. entry.Oid (record { 0 = m })) (h refl)
entry_given f v (body.NextHop i ip) n h = ap (λ m. entry.Oid (record { 0 = m })) (h refl)
entry_given f v body.Group n h = ap (λ m. entry.Oid (record { 0 = m })) (h refl)
entry_given f v (body.GroupMember i j weight) n h = ap (λ m. entry.Oid (record { 0 = m })) (h refl)

tie_later : (made later : ℕ) (id : Bool) (o : Option Rid) → made ≤ later → IsTie made id o → IsTie later id o
tie_later made later true (Some r) more h = (h.0, let most = h.1 in omega (arith, more, most))
tie_later made later true None more h = absurd h
tie_later made later false (Some r) more h = absurd h
tie_later made later false None more h = tt

module _ (view : ViewObjects) (v : Vid) (new : IsNew v view) where
  pub none-yet : rid_at view v ≡ None
  none-yet = by (lookup (is_at (vid_cmp v)) view) refl
    where
      by : (o : Option ViewObject) → lookup (is_at (vid_cmp v)) view ≡ o → rid_in o ≡ None
      by None at = refl
      by (Some o) at = let less = in-all (λ y. y.0.0 < v.0) view (v, o) new.above (in-key view v o at) in absurd (omega (arith, less))

  module _ (x : ViewObject) where
    abbrev later : ViewObjects
    later = view ++ (v, x) ∷ []

    later_is : insert_entry vid_cmp view v x ≡ later
    later_is = pushed view v x new.above

    rid_later : (w : Vid) → rid_at later w ≡ rid_in (cond (is_at (vid_cmp w) v) (Some x) (lookup (is_at (vid_cmp w)) view))
    rid_later w = ap (λ os. rid_at os w) (sym later_is) ∙ ap rid_in (lookup-insert_entry vid_cmp vid_total view v x w)

    pub rid-new : rid_at (view ++ (v, x) ∷ []) v ≡ x.rid
    rid-new = rid_later v ∙ ap (λ c. rid_in (cond c (Some x) (lookup (is_at (vid_cmp v)) view))) ((eq_by_cmp_equiv vid_total).refl v)

    pub rid-old : (w : Vid) → (w ≡ v → ⊥) → rid_at (view ++ (v, x) ∷ []) w ≡ rid_at view w
    rid-old w apart = rid_later w ∙ by (is_at (vid_cmp w) v) refl
      where
        by : (c : Bool) → is_at (vid_cmp w) v ≡ c → rid_in (cond c (Some x) (lookup (is_at (vid_cmp w)) view)) ≡ rid_at view w
        by true at = absurd (apart (vid-exact w v at))
        by false at = refl

    -- where it is not tied each identifier is tied as before
    pub rid-untied : x.rid ≡ None → (w : Vid) → rid_at (view ++ (v, x) ∷ []) w ≡ rid_at view w
    rid-untied untied w = rid_later w ∙ by (is_at (vid_cmp w) v) refl
      where
        by : (c : Bool) → is_at (vid_cmp w) v ≡ c → rid_in (cond c (Some x) (lookup (is_at (vid_cmp w)) view)) ≡ rid_at view w
        by true at = untied ∙ sym none-yet ∙ ap (rid_at view) (sym (vid-exact w v at))
        by false at = refl

module _ (view : ViewObjects) (made : ℕ) (tied : AreTied view made (shown_by (tie_of view) view)) (whole : IsWhole made (shown_by (tie_of view) view)) (capacities : List ℕ) (b : Body Vid) (legal : IsLegal capacities (shown_by (tie_of view) view) (call.Create (body_renamed (tie_of view) b))) (v : Vid) (new : IsNew v view) (o : Option Rid) (given : has_id b ≡ true → (rid_or_none o).0 ≡ made + 1) (tie : IsTie (if has_id b then made + 1 else made) (has_id b) o) where
  abbrev x : ViewObject
  x = record { body = b; rid = o }

  abbrev after : ViewObjects
  after = view ++ (v, x) ∷ []

  abbrev s : Vid → Rid
  s = tie_of after

  abbrev t : Vid → Rid
  t = tie_of view

  tied_same : (w : Vid) → IsTied view w → IsSame s t w
  tied_same w (r, is) = ap rid_or_none (rid-old view v new x w (λ same. none-some r (sym (none-yet view v new) ∙ ap (rid_at view) (sym same) ∙ is)))

  old_entry : (y : Item) → IsIn y view → shown_entry s y ≡ shown_entry t y
  old_entry y h = same-entry s t (entry_at y.0 y.1.body) (more-entry (IsTied view) (IsSame s t) tied_same (entry_at y.0 y.1.body) (entry-tied view made tied whole y h))

  old_body : (y : Item) → IsIn y view → shown_body s y ≡ shown_body t y
  old_body y h = same-body s t y.1.body (more-body (IsTied view) (IsSame s t) tied_same y.1.body (body-tied view made tied whole y h))

  new_body : body_renamed s b ≡ body_renamed t b
  new_body = same-body s t b (more-body (IsTied view) (IsSame s t) tied_same b (created-tied view made tied whole capacities b legal))

  new_entry : shown_entry s (v, x) ≡ entry_of (made + 1) (body_renamed t b)
  new_entry = entry_given s v b (made + 1) (λ id. ap (λ z. (rid_or_none z).0) (rid-new view v new x) ∙ given id) ∙ ap (entry_of (made + 1)) new_body

  apart : (y : Item) → IsIn y view → shown_entry s y ≡ shown_entry s (v, x) → ⊥
  apart y h same =
      let free = fresh made (shown_by t view) (body_renamed t b) whole.entered (legal-create capacities (shown_by t view) (body_renamed t b) legal).1 in
      none-some (shown_body t y) (sym free ∙ ap (body_at (shown_by t view)) (sym new_entry ∙ sym same ∙ old_entry y h) ∙ shown-there t view y tied.once h)

  more_by : (id : Bool) → made ≤ (if id then made + 1 else made)
  more_by true = omega arith
  more_by false = omega arith

  ties_by : (y : Item) → IsIn y view ⊎ (y ≡ (v, x)) → HasTie (if has_id b then made + 1 else made) y
  ties_by y (inl h) = tie_later made (if has_id b then made + 1 else made) (has_id y.1.body) y.1.rid (more_by (has_id b)) (in-all (HasTie made) view y tied.ties h)
  ties_by y (inr is) = subst (HasTie (if has_id b then made + 1 else made)) (sym is) tie

  pub after-made : AreTied (view ++ (v, record { body = b; rid = o }) ∷ []) (if has_id b then made + 1 else made) (after_call (made + 1) (shown_by (tie_of view) view) (call.Create (body_renamed (tie_of view) b)))
  after-made = record {
    rising = subst (λ l. IsStrictlySortedBy vid_cmp (keys_of l)) (later_is view v new x) (sorted-insert_entry vid_cmp vid_total view v x tied.rising);
    ties = all-in (HasTie (if has_id b then made + 1 else made)) after (λ y h. ties_by y (in-push view (v, x) y h));
    once = distinct-push (shown_entry s) view (v, x) (distinct-by (shown_entry t) (shown_entry s) view (λ y z h g same. sym (old_entry y h) ∙ same ∙ old_entry z g) tied.once) apart;
    shown = shown-made s view (v, x) (all-in (λ y. same_entry (shown_entry s (v, x)) (shown_entry s y) ≡ false) view (λ y h. false_from_ne_true _ (λ same. apart y h (sym (entry-exact (shown_entry s (v, x)) (shown_entry s y) same)))))
        ∙ ap (λ os. insert_entry entry_cmp os (shown_entry s (v, x)) (body_renamed s b)) (same-shown s t view (λ y h. (old_entry y h, old_body y h)))
        ∙ ap₂ (λ e d. insert_entry entry_cmp (shown_by t view) e d) new_entry new_body;
  }
