-- removing the object of a thing
use Rattle.std.proofs.Common.{◌≡◌, ℕ, ◌+◌, Bool, true, false, List, cond, Option, None, Some, refl, sym, ap, ◌∙◌, subst}
use Rattle.std.specs.List.{list_any}
use Rattle.std.proofs.lemmas.Bool.{cond-false, false_from_ne_true, false≢true}
use Rattle.sai_types.specs.declared.ids.Rid.{Rid}
use Rattle.sai_types.specs.declared.body.Body.{Body}
use Rattle.sai_types.specs.declared.body.Call.TheVariants as call
use Rattle.sai_types.specs.declared.body.Entry.{Entry}
use Rattle.sai_types.specs.declared.thing.Thing.{Thing}
use Rattle.sai_types.specs.After.{after_call, entry_of}
use Rattle.sai_types.specs.Made.{IsWhole, same_entry}
use Rattle.sai_types.specs.Objects.{Objects, body_at}
use Rattle.sai_types.specs.Refusal.{IsLegal, refers_to, remove_refusal}
use Rattle.sai_types.proofs.Found.{body_at-remove, same-symm}
use Rattle.sai_types.specs.Names.{Refers, name_of}
use Rattle.chip_layout.specs.Bodies.{IsBody}
use Rattle.chip_layout.specs.Layout.{Has, IsLaidOut, IsUnused, Layout, without}
use Rattle.chip_layout.proofs.Bodies.{body-kept}
use Rattle.chip_layout.proofs.Entries.{one-entry, refers-name}
use Rattle.chip_layout.proofs.Laid.{body-one, found-body}
use Rattle.sai_types.proofs.Listed.{any-none, found-in}

legal_from : (objects : Objects) (e : Entry Rid) (b : Body Rid) → list_any (λ o. refers_to o.1 e) objects ≡ false → remove_refusal objects e (Some b) ≡ None
legal_from objects e b unused = rw unused refl

left_by : (t : Bool) (y : Body Rid) (rest : Option (Body Rid)) → cond t None rest ≡ Some y → (t ≡ false) × (rest ≡ Some y)
left_by true y rest h = absurd cc
left_by false y rest h = (refl, h)

module _ (layout : Layout Rid) (made : ℕ) (objects : Objects) (whole : IsWhole made objects) (laid : IsLaidOut layout objects) (i : Rid) (t : Thing) (b : Body Rid) (there : layout i t) (of : IsBody (Has layout) t b) (unused : IsUnused layout (name_of t)) where
  abbrev at : Entry Rid
  at = entry_of i.0 b

  abbrev later : Layout Rid
  later = without layout (name_of t)

  abbrev objects' : Objects
  objects' = after_call (made + 1) objects (call.Remove at)

  pub remove-legal : (capacities : List ℕ) → IsLegal capacities objects (call.Remove at)
  remove-legal capacities =
      ap (remove_refusal objects at) (found-body layout objects laid i t b there of)
      ∙ legal_from objects at b (any-none (λ d. refers_to d at) objects (λ e d in_it.
      let owner = laid.tied e d (found-in objects e d whole.sorted in_it) in
      false_from_ne_true (refers_to d at) (λ h. unused owner.0 owner.1 owner.2 (refers-name layout objects laid i t owner.1 b d there of owner.3 h))))

  is_kept : (j : Rid) (u : Thing) (d : Body Rid) → layout j u → IsBody (Has layout) u d → IsBody (Has later) u d
  is_kept j u d h x = body-kept (Has layout) (Has later) u d (λ k r refers has. (has.0, (has.1, λ same. unused j u h (subst (Refers u) (sym has.2 ∙ same) refers)), has.2)) x

  stays : (e : Entry Rid) → same_entry at e ≡ false → body_at objects' e ≡ body_at objects e
  stays e apart = body_at-remove objects at e whole.sorted ∙ cond-false (same_entry at e) None (body_at objects e) apart

  stand_by : (j : Rid) (u : Thing) → later j u → (d : Body Rid) × IsBody (Has later) u d × (body_at objects' (entry_of j.0 d) ≡ Some d)
  stand_by j u h =
      let old = laid.stand j u h.0 in (
        old.0,
        is_kept j u old.0 h.0 old.1,
        stays (entry_of j.0 old.0) (false_from_ne_true (same_entry at (entry_of j.0 old.0)) (λ same. h.1 (sym (one-entry layout objects laid i j t u b old.0 there h.0 of old.1 same)))) ∙ old.2,
      )

  tied_by : (e : Entry Rid) (d : Body Rid) → (same_entry at e ≡ false) × (body_at objects e ≡ Some d) → (j : Rid) × (u : Thing) × later j u × IsBody (Has later) u d × (same_entry e (entry_of j.0 d) ≡ true)
  tied_by e d (apart, found) =
      let old = laid.tied e d found in
      let other : name_of old.1 ≡ name_of t → ⊥ = λ same.
      let one = laid.one old.0 i old.1 t old.2 there same in
      let body : d ≡ b = body-one layout objects laid t d b (subst (λ z. IsBody (Has layout) z d) one.1 old.3) of in
      let entries : entry_of old.0.0 d ≡ at = ap (λ (r : Rid). entry_of r.0 d) one.0 ∙ ap (entry_of i.0) body in
      false≢true (sym apart ∙ same-symm at e ∙ ap (same_entry e) (sym entries) ∙ old.4)
      in
      (old.0, old.1, (old.2, other), is_kept old.0 old.1 d old.2 old.3, old.4)

  pub remove-laid : IsLaidOut (without layout (name_of t)) (after_call (made + 1) objects (call.Remove at))
  remove-laid = record {
    stand = stand_by;
    tied = λ e d h. tied_by e d (left_by (same_entry at e) d (body_at objects e) (sym (body_at-remove objects at e whole.sorted) ∙ h));
    one = λ j k u v x y h. laid.one j k u v x.0 y.0 h;
    ids = λ j u v x y e f. laid.ids j u v x.0 y.0 e f;
  }
