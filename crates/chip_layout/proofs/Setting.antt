-- setting an attribute of the object of a thing
use Rattle.std.proofs.Common.{◌≡◌, ◌⊎◌, inl, inr, ℕ, ◌+◌, Bool, true, false, List, cond, Option, None, Some, refl, sym, ap, ◌∙◌, subst}
use Rattle.std.proofs.lemmas.Bool.{cond-false, cond-true, false_from_ne_true, false≢true}
use Rattle.sai_types.specs.declared.ids.Rid.{Rid}
use Rattle.sai_types.specs.declared.body.Attr.{Attr}
use Rattle.sai_types.specs.declared.body.Body.{Body}
use Rattle.sai_types.specs.declared.body.Call.TheVariants as call
use Rattle.sai_types.specs.declared.body.Entry.{Entry}
use Rattle.sai_types.specs.declared.thing.Thing.{Thing}
use Rattle.sai_types.specs.After.{after_call, after_set, entry_of, with_attr}
use Rattle.sai_types.specs.Made.{same_entry}
use Rattle.sai_types.specs.Objects.{Objects, body_at}
use Rattle.sai_types.specs.Refusal.{IsLegal, attr_refers_well, has_attr, set_refusal}
use Rattle.sai_types.proofs.Apart.{entry_of-with_attr}
use Rattle.sai_types.proofs.Found.{body_at-insert, same-refl}
use Rattle.sai_types.specs.Names.{ThingName, name_kind, name_of}
use Rattle.chip_layout.specs.Bodies.{is_numbered}
use Rattle.chip_layout.specs.Bodies.{IsBody, IsChange}
use Rattle.chip_layout.specs.Layout.{Has, IsLaidOut, Layout, has_number, with_changed}
use Rattle.chip_layout.proofs.Bodies.{body-kept}
use Rattle.chip_layout.proofs.Entries.{named, one-entry, same-entry}
use Rattle.chip_layout.proofs.Laid.{IsChanged, changed, found-body}

legal_from : (objects : Objects) (b : Body Rid) (a : Attr Rid) → has_attr b a ≡ true → attr_refers_well objects a ≡ true → set_refusal objects (Some b) a ≡ None
legal_from objects b a has well = rw (has, well) refl

put_or_left : (t : Bool) (x y : Body Rid) (rest : Option (Body Rid)) → cond t (Some x) rest ≡ Some y → ((t ≡ true) × (y ≡ x)) ⊎ ((t ≡ false) × (rest ≡ Some y))
put_or_left true x y rest h = inl (refl, cc)
put_or_left false x y rest h = inr (refl, h)

module _ (layout : Layout Rid) (made : ℕ) (objects : Objects) (laid : IsLaidOut layout objects) (i : Rid) (t u : Thing) (b : Body Rid) (a : Attr Rid) (there : layout i t) (of : IsBody (Has layout) t b) (change : IsChange (Has layout) t a u) where
  abbrev at : Entry Rid
  at = entry_of i.0 b

  abbrev later : Layout Rid
  later = with_changed layout i u

  abbrev objects' : Objects
  objects' = after_call (made + 1) objects (call.Set at a)

  is : IsChanged layout objects laid t u b a
  is = changed layout objects laid t u b a of change

  found : body_at objects at ≡ Some b
  found = found-body layout objects laid i t b there of

  pub set-legal : (capacities : List ℕ) → IsLegal capacities objects (call.Set at a)
  set-legal capacities = ap (λ o. set_refusal objects o a) found ∙ legal_from objects b a is.has is.well

  after_is : (e : Entry Rid) → body_at objects' e ≡ cond (same_entry e at) (Some (with_attr b a)) (body_at objects e)
  after_is e = ap (λ o. body_at (after_set objects at a o) e) found ∙ body_at-insert objects at (with_attr b a) e

  has_by : (k : ThingName) (j : Rid) (x : Has layout k j) → (name_of x.0 ≡ name_of t) ⊎ (name_of x.0 ≡ name_of t → ⊥) → Has later k j
  has_by k j x (inl same) = (u, inr ((laid.one j i x.0 t x.1 there same).0, refl), is.same ∙ sym same ∙ x.2)
  has_by k j x (inr apart) = (x.0, inl (x.1, λ same. apart (same ∙ is.same)), x.2)

  has_kept : (k : ThingName) (j : Rid) → Has layout k j → Has later k j
  has_kept k j x = has_by k j x (named layout objects laid j i x.0 t x.1 there)

  is_kept : (v : Thing) (d : Body Rid) → IsBody (Has layout) v d → IsBody (Has later) v d
  is_kept v d x = body-kept (Has layout) (Has later) v d (λ k j refers has. has_kept k j has) x

  stand_by : (j : Rid) (v : Thing) → later j v → (d : Body Rid) × IsBody (Has later) v d × (body_at objects' (entry_of j.0 d) ≡ Some d)
  stand_by j v (inl h) =
      let old = laid.stand j v h.0 in
      let apart = false_from_ne_true (same_entry (entry_of j.0 old.0) at) (λ same. h.1 (one-entry layout objects laid j i v t old.0 b h.0 there old.1 of same ∙ sym is.same)) in
      (old.0, is_kept v old.0 old.1, after_is (entry_of j.0 old.0) ∙ cond-false (same_entry (entry_of j.0 old.0) at) (Some (with_attr b a)) (body_at objects (entry_of j.0 old.0)) apart ∙ old.2)
  stand_by j v (inr (same, thing)) = (
    with_attr b a,
    subst (λ z. IsBody (Has later) z (with_attr b a)) (sym thing) (is_kept u (with_attr b a) is.later),
    ap (λ (r : Rid). body_at objects' (entry_of r.0 (with_attr b a))) same ∙ ap (body_at objects') (entry_of-with_attr i.0 b a) ∙ after_is at ∙ cond-true (same_entry at at) (Some (with_attr b a)) (body_at objects at) (same-refl at),
  )

  tied_by : (e : Entry Rid) (d : Body Rid) → ((same_entry e at ≡ true) × (d ≡ with_attr b a)) ⊎ ((same_entry e at ≡ false) × (body_at objects e ≡ Some d)) → (j : Rid) × (v : Thing) × later j v × IsBody (Has later) v d × (same_entry e (entry_of j.0 d) ≡ true)
  tied_by e d (inl (same, body)) = (
    i,
    u,
    inr (refl, refl),
    subst (IsBody (Has later) u) (sym body) (is_kept u (with_attr b a) is.later),
    ap (λ z. same_entry e (entry_of i.0 z)) body ∙ ap (same_entry e) (entry_of-with_attr i.0 b a) ∙ same,
  )
  tied_by e d (inr (apart, x)) =
      let old = laid.tied e d x in
      let other : name_of old.1 ≡ name_of u → ⊥ = λ same. false≢true (sym apart ∙ ap (same_entry e) (sym (same-entry layout objects laid old.0 i old.1 t d b old.2 there old.3 of (same ∙ is.same))) ∙ old.4) in
      (old.0, old.1, inl (old.2, other), is_kept old.1 d old.3, old.4)

  one_by : (j k : Rid) (v w : Thing) → later j v → later k w → name_of v ≡ name_of w → (j ≡ k) × (v ≡ w)
  one_by j k v w (inl x) (inl y) h = laid.one j k v w x.0 y.0 h
  one_by j k v w (inl x) (inr y) h = absurd (x.1 (h ∙ ap name_of y.1))
  one_by j k v w (inr x) (inl y) h = absurd (y.1 (sym h ∙ ap name_of x.1))
  one_by j k v w (inr x) (inr y) h = (x.0 ∙ sym y.0, x.1 ∙ sym y.1)

  -- nothing else has the identifier
  no_other : (v : Thing) → layout i v → (name_of v ≡ name_of u → ⊥) → has_number u ≡ true → has_number v ≡ true → ⊥
  no_other v x apart e f = apart (ap name_of (laid.ids i v t x there f (ap (λ k. is_numbered (name_kind k)) (sym is.same) ∙ e)) ∙ sym is.same)

  ids_by : (j : Rid) (v w : Thing) → later j v → later j w → has_number v ≡ true → has_number w ≡ true → v ≡ w
  ids_by j v w (inl x) (inl y) e f = laid.ids j v w x.0 y.0 e f
  ids_by j v w (inl x) (inr y) e f = absurd (no_other v (subst (λ z. layout z v) y.0 x.0) x.1 (ap has_number (sym y.1) ∙ f) e)
  ids_by j v w (inr x) (inl y) e f = absurd (no_other w (subst (λ z. layout z w) x.0 y.0) y.1 (ap has_number (sym x.1) ∙ e) f)
  ids_by j v w (inr x) (inr y) e f = x.1 ∙ sym y.1

  pub set-laid : IsLaidOut (with_changed layout i u) (after_call (made + 1) objects (call.Set at a))
  set-laid = record {
    stand = stand_by;
    tied = λ e d h. tied_by e d (put_or_left (same_entry e at) (with_attr b a) d (body_at objects e) (sym (after_is e) ∙ h));
    one = one_by;
    ids = ids_by;
  }
