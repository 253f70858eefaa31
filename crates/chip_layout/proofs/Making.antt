-- making the object of a thing
use Rattle.std.proofs.Common.{◌≡◌, ◌⊎◌, inl, inr, ℕ, ◌+◌, true, false, List, None, Some, refl, sym, ap, ◌∙◌, subst}
use Rattle.std.specs.Bool.{nat_le}
use Rattle.std.specs.List.{list_any}
use Rattle.std.proofs.lemmas.Bool.{false_from_ne_true}
use Rattle.sai_types.specs.declared.ids.Rid.{Rid}
use Rattle.sai_types.specs.declared.body.Body.{Body}
use Rattle.sai_types.specs.declared.body.Call.TheVariants as call
use Rattle.sai_types.specs.declared.body.Entry.{Entry}
use Rattle.sai_types.specs.declared.thing.Thing.{Thing}
use Rattle.sai_types.specs.After.{after_call, entry_of}
use Rattle.sai_types.specs.Made.{IsWhole, same_entry}
use Rattle.sai_types.specs.Objects.{Objects, body_at, kind_of, used}
use Rattle.sai_types.specs.Refusal.{IsLegal, capacity_of, clash, create_refusal, refers_well}
use Rattle.sai_types.proofs.Found.{body_at-insert, body_at-same, found-created}
use Rattle.sai_types.proofs.Legal.{fresh}
use Rattle.sai_types.specs.Names.{ThingName, name_of}
use Rattle.chip_layout.specs.Bodies.{IsBody}
use Rattle.chip_layout.specs.Layout.{Has, HasRoom, IsFree, IsLaidOut, Layout, RefersWell, has_number, next_rid, with_thing}
use Rattle.chip_layout.proofs.Bodies.{body-kept, entry-body, entry-same, kind-body}
use Rattle.chip_layout.proofs.Entries.{refers-body}
use Rattle.chip_layout.proofs.Laid.{clash-meet}
use Rattle.sai_types.proofs.Listed.{any-none, found-in}
use Rattle.sai_types.proofs.Whole.{found_put, kept_put}

legal_from : (capacities : List ℕ) (objects : Objects) (b : Body Rid) → refers_well objects b ≡ true → list_any (λ o. clash b o.1) objects ≡ false → nat_le (capacity_of capacities (kind_of b)) (used objects (kind_of b)) ≡ false → create_refusal capacities objects b ≡ None
legal_from capacities objects b well free room = rw (well, free, room) refl

module _ (layout : Layout Rid) (made : ℕ) (objects : Objects) (whole : IsWhole made objects) (laid : IsLaidOut layout objects) (t : Thing) (b : Body Rid) (of : IsBody (Has layout) t b) (free : IsFree layout t) where
  no_clash : list_any (λ o. clash b o.1) objects ≡ false
  no_clash = any-none (clash b) objects (λ e d in_it.
      let owner = laid.tied e d (found-in objects e d whole.sorted in_it) in
      false_from_ne_true (clash b d) (λ h. free owner.0 owner.1 owner.2 (clash-meet layout objects laid t owner.1 b d of owner.3 h)))

  pub make-legal : (capacities : List ℕ) → RefersWell layout t → HasRoom capacities objects t → IsLegal capacities objects (call.Create b)
  make-legal capacities near room =
      legal_from capacities objects b (refers-body layout objects laid t b of near) no_clash
      (ap (λ k. nat_le (capacity_of capacities k) (used objects k)) (kind-body (Has layout) t b of) ∙ room)

  module _ (i : Rid) (number : has_number t ≡ true → i ≡ next_rid made) where
    abbrev later : Layout Rid
    later = with_thing layout i t

    abbrev new_entry : Entry Rid
    new_entry = entry_of (made + 1) b

    abbrev objects' : Objects
    objects' = after_call (made + 1) objects (call.Create b)

    has_kept : (k : ThingName) (j : Rid) → Has layout k j → Has later k j
    has_kept k j x = (x.0, inl x.1, x.2)

    is_kept : (u : Thing) (d : Body Rid) → IsBody (Has layout) u d → IsBody (Has later) u d
    is_kept u d x = body-kept (Has layout) (Has later) u d (λ k j refers at. has_kept k j at) x

    entry_is : entry_of i.0 b ≡ new_entry
    entry_is = entry-same (Has layout) i.0 (made + 1) t b of (λ h. ap (λ (r : Rid). r.0) (number h))

    none_there : body_at objects new_entry ≡ None
    none_there = fresh made objects b whole.entered no_clash

    object_in : (e : Entry Rid) (d : Body Rid) → body_at objects' e ≡ Some d → ((same_entry e new_entry ≡ true) × (d ≡ b)) ⊎ (body_at objects e ≡ Some d)
    object_in e d h = found_put (same_entry e new_entry) b d (body_at objects e) (sym (body_at-insert objects new_entry b e) ∙ h)

    object_kept : (e : Entry Rid) (d : Body Rid) → body_at objects e ≡ Some d → body_at objects' e ≡ Some d
    object_kept e d found =
        body_at-insert objects new_entry b e
        ∙ kept_put (same_entry e new_entry) b d (body_at objects e) (λ same. let none = sym found ∙ body_at-same objects e new_entry same ∙ none_there in absurd cc) found

    stand_by : (j : Rid) (u : Thing) → layout j u ⊎ ((j ≡ i) × (u ≡ t)) → (d : Body Rid) × IsBody (Has later) u d × (body_at objects' (entry_of j.0 d) ≡ Some d)
    stand_by j u (inl h) =
        let old = laid.stand j u h in
        (old.0, is_kept u old.0 old.1, object_kept (entry_of j.0 old.0) old.0 old.2)
    stand_by j u (inr (is, same)) = (
      b,
      subst (λ z. IsBody (Has later) z b) (sym same) (is_kept t b of),
      ap (λ (r : Rid). body_at objects' (entry_of r.0 b)) is ∙ ap (body_at objects') entry_is ∙ found-created (made + 1) objects b,
    )

    tied_by : (e : Entry Rid) (d : Body Rid) → ((same_entry e new_entry ≡ true) × (d ≡ b)) ⊎ (body_at objects e ≡ Some d) → (j : Rid) × (u : Thing) × later j u × IsBody (Has later) u d × (same_entry e (entry_of j.0 d) ≡ true)
    tied_by e d (inl (same, is)) = (
      i,
      t,
      inr (refl, refl),
      subst (IsBody (Has later) t) (sym is) (is_kept t b of),
      ap (λ z. same_entry e (entry_of i.0 z)) is ∙ ap (same_entry e) entry_is ∙ same,
    )
    tied_by e d (inr found) =
        let old = laid.tied e d found in
        (old.0, old.1, inl old.2, is_kept old.1 d old.3, old.4)

    one_by : (j k : Rid) (u v : Thing) → later j u → later k v → name_of u ≡ name_of v → (j ≡ k) × (u ≡ v)
    one_by j k u v (inl x) (inl y) h = laid.one j k u v x y h
    one_by j k u v (inl x) (inr (_, is)) h = absurd (free j u x (inl (sym (h ∙ ap name_of is))))
    one_by j k u v (inr (_, is)) (inl y) h = absurd (free k v y (inl (sym (ap name_of is) ∙ h)))
    one_by j k u v (inr x) (inr y) h = (x.0 ∙ sym y.0, x.1 ∙ sym y.1)

    -- no thing that stands has the new identifier
    no_id : (u : Thing) → layout i u → has_number t ≡ true → has_number u ≡ true → ⊥
    no_id u x e f =
        let old = laid.stand i u x in
        let is : entry_of i.0 old.0 ≡ entry_of i.0 b = entry-body (Has layout) i.0 u old.0 old.1 f ∙ sym (entry-body (Has layout) i.0 t b of e) in
        let none = sym none_there ∙ ap (body_at objects) (sym entry_is ∙ sym is) ∙ old.2 in
        absurd cc

    ids_by : (j : Rid) (u v : Thing) → later j u → later j v → has_number u ≡ true → has_number v ≡ true → u ≡ v
    ids_by j u v (inl x) (inl y) e f = laid.ids j u v x y e f
    ids_by j u v (inl x) (inr (at, is)) e f = absurd (no_id u (subst (λ z. layout z u) at x) (ap has_number (sym is) ∙ f) e)
    ids_by j u v (inr (at, is)) (inl y) e f = absurd (no_id v (subst (λ z. layout z v) at y) (ap has_number (sym is) ∙ e) f)
    ids_by j u v (inr x) (inr y) e f = x.1 ∙ sym y.1

    pub make-laid : IsLaidOut (with_thing layout i t) (after_call (made + 1) objects (call.Create b))
    make-laid = record {
      stand = stand_by;
      tied = λ e d h. tied_by e d (object_in e d h);
      one = one_by;
      ids = ids_by;
    }
