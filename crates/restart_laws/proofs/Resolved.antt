-- after a plan the things of the view stand by the identifiers that a plan's come to
use Rattle.std.proofs.Common.{◌≡◌, ◌∷◌, ◌∙◌, inl, inr, ℕ, true, List, [], map, Option, None, Some, refl, sym, ap, subst}
use Rattle.sai_types.specs.declared.ids.Rid.{Rid}
use Rattle.sai_types.specs.declared.ids.Vid.{Vid}
use Rattle.sai_types.specs.declared.body.Body.{Body}
use Rattle.sai_types.specs.declared.body.Call.{Call}
use Rattle.sai_types.specs.declared.plan.PlanId.{PlanId}
use Rattle.sai_types.specs.declared.thing.Thing.{Thing}
use Rattle.sai_types.specs.After.{after_calls}
use Rattle.sai_types.specs.Alike.{IsIn}
use Rattle.sai_types.specs.Made.{same_entry}
use Rattle.sai_types.specs.Objects.{Objects, body_at}
use Rattle.chip_layout.specs.Bodies.{IsAt, IsBody, first_name, is_numbered, second_name}
use Rattle.chip_layout.specs.Layout.{Has, IsLaidOut, Layout, has_number, listed}
use Rattle.sai_types.specs.Names.{ThingName, name_kind, name_of}
use Rattle.chip_layout.specs.Renamed.{call_renamed}
use Rattle.chip_layout.proofs.Bodies.{entry-same, first-numbered, second-numbered}
use Rattle.plan_laws.specs.Calls.{PlansChanges, resolve, viewed}
use Rattle.plan_laws.specs.Moments.{IsMoment}
use Rattle.plan_laws.specs.Plans.{PlanChange}
use Rattle.plan_laws.specs.Views.{HasRoomForPlan}
use Rattle.plan_laws.proofs.Allowed.{IsSafePlan}
use Rattle.plan_laws.proofs.Calling.{IsCalled, plan-called}
use Rattle.plan_laws.proofs.Running.{new-stand, stands-new}
use Rattle.restart_laws.specs.Identified.{IsIdOf, renamed_by}
use Rattle.std.proofs.lemmas.List.{append-nil}

pub renamed_in : (final : Vid → Rid) (view : List (Vid × Thing)) (v : Vid) (t : Thing) → IsIn (v, t) view → IsIn (final v, t) (renamed_by final view)
renamed_in final [] v t h = elim h [ ]
renamed_in final (x ∷ xs) v t (inl e) = inl (ap (λ (z : Vid × Thing). (final z.0, z.1)) e)
renamed_in final (x ∷ xs) v t (inr h) = inr (renamed_in final xs v t h)

pub from_renamed : (final : Vid → Rid) (view : List (Vid × Thing)) (i : Rid) (t : Thing) → IsIn (i, t) (renamed_by final view) → (v : Vid) × IsIn (v, t) view × (i ≡ final v)
from_renamed final [] i t h = elim h [ ]
from_renamed final (x ∷ xs) i t (inl e) =
    let same : t ≡ x.1 = ap (λ (z : Rid × Thing). z.1) e in
    (x.0, inl (ap (λ (z : Thing). (x.0, z)) same), ap (λ (z : Rid × Thing). z.0) e)
from_renamed final (x ∷ xs) i t (inr h) = let y = from_renamed final xs i t h in (y.0, inr y.1, y.2)

-- a layout by other identifiers, where those of what has one are the same
module _ (L : Layout Rid) (objects : Objects) (laid : IsLaidOut L objects) (view : List (Vid × Thing)) (view_one : (v w : Vid) (t u : Thing) → IsIn (v, t) view → IsIn (w, u) view → name_of t ≡ name_of u → (v ≡ w) × (t ≡ u)) (final : Vid → Rid) (stands : (v : Vid) (t : Thing) → IsIn (v, t) view → (i : Rid) × L i t) (only : (i : Rid) (t : Thing) → L i t → (v : Vid) × IsIn (v, t) view) (numbered : (v : Vid) (t : Thing) → IsIn (v, t) view → has_number t ≡ true → L (final v) t) where
  abbrev R : Layout Rid
  R = listed (renamed_by final view)

  to_id : (i : Rid) (t : Thing) (v : Vid) → L i t → IsIn (v, t) view → has_number t ≡ true → i ≡ final v
  to_id i t v h in_view number = (laid.one i (final v) t t h (numbered v t in_view number) refl).0

  has_number_of : (t : Thing) (k : ThingName) → name_of t ≡ k → is_numbered (name_kind k) ≡ true → has_number t ≡ true
  has_number_of t k e h = ap (λ z. is_numbered (name_kind z)) e ∙ h

  has_by : (k : ThingName) (i : Rid) → is_numbered (name_kind k) ≡ true → Has L k i → Has R k i
  has_by k i number (t, h, e) =
      let v = only i t h in
      (t, subst (λ z. R z t) (sym (to_id i t v.0 h v.1 (has_number_of t k e number))) (renamed_in final view v.0 t v.1), e)

  at_by : (o : Option ThingName) (i : Rid) → ((k : ThingName) → o ≡ Some k → is_numbered (name_kind k) ≡ true) → IsAt (Has L) o i → IsAt (Has R) o i
  at_by None i number h = tt
  at_by (Some k) i number h = has_by k i (number k refl) h

  body_by : (t : Thing) (b : Body Rid) → IsBody (Has L) t b → IsBody (Has R) t b
  body_by t b x = record {
    first = x.first;
    second = x.second;
    first_at = at_by (first_name t) x.first (first-numbered t) x.first_at;
    second_at = at_by (second_name t) x.second (second-numbered t) x.second_at;
    body_is = x.body_is;
  }

  pub laid-renamed : IsLaidOut R objects
  laid-renamed = record {
    stand = λ i t h.
        let v = from_renamed final view i t h in
        let j = stands v.0 t v.1 in
        let x = laid.stand j.0 t j.1 in
        (x.0, body_by t x.0 x.1, ap (body_at objects) (entry-same (Has L) i.0 j.0.0 t x.0 x.1 (λ number. ap (λ (z : Rid). z.0) (v.2 ∙ sym (to_id j.0 t v.0 j.1 v.1 number)))) ∙ x.2);
    tied = λ e b found.
        let x = laid.tied e b found in
        let v = only x.0 x.1 x.2 in
        (final v.0, x.1, renamed_in final view v.0 x.1 v.1, body_by x.1 b x.3, ap (same_entry e) (entry-same (Has L) (final v.0).0 x.0.0 x.1 b x.3 (λ number. ap (λ (z : Rid). z.0) (sym (to_id x.0 x.1 v.0 x.2 v.1 number)))) ∙ x.4);
    one = λ i j t u h g e.
        let v = from_renamed final view i t h in
        let w = from_renamed final view j u g in
        let same = view_one v.0 w.0 t u v.1 w.1 e in
        (v.2 ∙ ap final same.0 ∙ sym w.2, same.1);
    ids = λ i t u h g a b.
        let v = from_renamed final view i t h in
        let w = from_renamed final view i u g in
        laid.ids i t u (subst (λ z. L z t) (sym v.2) (numbered v.0 t v.1 a)) (subst (λ z. L z u) (sym w.2) (numbered w.0 u w.1 b)) a b;
  }

-- after a plan that makes the new things, by the identifiers that the plan's come to
module _ (start : Layout Rid) (view : List (Vid × Thing)) (ids final : Vid → Rid) {order : PlanChange → ℕ} {old new : List Thing} {plan : List PlanChange} (p : IsSafePlan order old new plan) {made : ℕ} {objects : Objects} (first : IsMoment old [] start made objects) (capacities : List ℕ) (room : HasRoomForPlan capacities objects plan) (view_new : (v : Vid) (t : Thing) → IsIn (v, t) view → IsIn t new) (new_view : (t : Thing) → IsIn t new → (v : Vid) × IsIn (v, t) view) (view_one : (v w : Vid) (t u : Thing) → IsIn (v, t) view → IsIn (w, u) view → name_of t ≡ name_of u → (v ≡ w) × (t ≡ u)) (finals : (v : Vid) (t : Thing) → IsIn (v, t) view → has_number t ≡ true → IsIdOf start ids v t (final v)) (calls : List (Call PlanId)) (run : PlansChanges start (viewed view) ids made plan calls) where
  abbrev made_calls : List (Call Rid)
  made_calls = map (call_renamed (resolve ids)) calls

  called : IsCalled start (viewed view) ids p first capacities room [] plan made objects start made_calls
  called = plan-called start (viewed view) ids p first capacities room plan [] (sym (append-nil plan)) calls run

  abbrev L : Layout Rid
  L = called.end.layout

  end_all : (t : Thing) → IsIn t new → (i : Rid) × L i t
  end_all t h = new-stand p called.end.at t h

  end_only : (i : Rid) (t : Thing) → L i t → IsIn t new
  end_only i t h = stands-new p called.end.at i t h

  has_thing : (t : Thing) (j i : Rid) → L j t → Has L (name_of t) i → L i t
  has_thing t j i h has = subst (λ z. L z t) (called.end.at.laid.one j i t has.0 h has.1 (sym has.2)).0 h

  numbered_by : (v : Vid) (t : Thing) → IsIn (v, t) view → has_number t ≡ true → IsIdOf start ids v t (final v) → L (final v) t
  numbered_by v t h number (inl old) = let j = end_all t (view_new v t h) in has_thing t j.0 (final v) j.1 (called.resolves.old (name_of t) (final v) old j.0 (t, j.1, refl))
  numbered_by v t h number (inr (none, e)) =
      let j = end_all t (view_new v t h) in
      subst (λ z. L z t) (sym e) (has_thing t j.0 (ids v) j.1 (called.resolves.new v t h number none j.0 (t, j.1, refl)))

  -- by these identifiers the chip is laid out
  pub end-renamed : IsLaidOut (listed (renamed_by final view)) (after_calls made objects made_calls)
  end-renamed =
      laid-renamed L (after_calls made objects made_calls) called.end.at.laid view view_one final
      (λ v t h. end_all t (view_new v t h)) (λ i t h. new_view t (end_only i t h)) (λ v t h number. numbered_by v t h number (finals v t h number))
