-- objects with their identifiers renamed are laid out by the things with theirs renamed
use Rattle.std.proofs.Common.{◌≡◌, inl, inr, List, [], ◌∷◌, Some, true, refl, sym, ap, ◌∙◌, subst}
use Rattle.sai_types.specs.declared.ids.Rid.{Rid}
use Rattle.sai_types.specs.declared.body.Body.{Body}
use Rattle.sai_types.specs.declared.body.Body.TheVariants as body
use Rattle.sai_types.specs.declared.body.Entry.{Entry}
use Rattle.sai_types.specs.declared.thing.Thing.{Thing}
use Rattle.sai_types.specs.After.{entry_of, has_id}
use Rattle.sai_types.specs.Alike.{IsIn}
use Rattle.sai_types.specs.Made.{same_entry}
use Rattle.sai_types.specs.Names.{name_of}
use Rattle.sai_types.specs.Objects.{Objects, body_at}
use Rattle.sai_types.proofs.Exact.{entry-exact}
use Rattle.sai_types.proofs.Found.{same-refl}
use Rattle.chip_layout.specs.Bodies.{IsBody}
use Rattle.chip_layout.specs.Layout.{Has, IsLaidOut, has_number, listed}
use Rattle.chip_layout.specs.Renamed.{AreRenamed, body_renamed, entry_renamed, things_renamed}
use Rattle.chip_layout.proofs.Shapes.{IsWithin, body-renamed, body-within, renamed}

entry-renamed : (f : Rid → Rid) (i : Rid) (b : Body Rid) → entry_renamed f (entry_of i.0 b) ≡ entry_of (f i).0 (body_renamed f b)
entry-renamed f i (body.OwnAddress vr ip) = refl
entry-renamed f i (body.Neighbor rif ip mac) = refl
entry-renamed f i (body.Route vr prefix to) = refl
entry-renamed f i _ = refl

in_renamed : (f : Rid → Rid) (things : List (Rid × Thing)) (i : Rid) (t : Thing) → IsIn (i, t) things → IsIn (f i, t) (things_renamed f things)
in_renamed f [] i t h = elim h [ ]
in_renamed f (x ∷ xs) i t (inl is) = inl (ap (λ (y : Rid × Thing). (f y.0, y.1)) is)
in_renamed f (x ∷ xs) i t (inr h) = inr (in_renamed f xs i t h)

was_renamed : (f : Rid → Rid) (things : List (Rid × Thing)) (j : Rid) (t : Thing) → IsIn (j, t) (things_renamed f things) → (i : Rid) × IsIn (i, t) things × (f i ≡ j)
was_renamed f [] j t h = elim h [ ]
was_renamed f (x ∷ xs) j t (inl is) =
    let thing : t ≡ x.1 = ap (λ (y : Rid × Thing). y.1) is in
    let pair : Thing → Rid × Thing = λ z. (x.0, z) in
    (x.0, inl (ap pair thing), sym (ap (λ (y : Rid × Thing). y.0) is))
was_renamed f (x ∷ xs) j t (inr h) = let m = was_renamed f xs j t h in (m.0, inr m.1, m.2)

module _ (f : Rid → Rid) (things : List (Rid × Thing)) (objects others : Objects) (are : AreRenamed f objects others) (laid : IsLaidOut (listed things) objects) where
  within : IsWithin (renamed f (listed things)) (listed (things_renamed f things))
  within j t (i, h, is) = subst (λ z. IsIn (z, t) (things_renamed f things)) is (in_renamed f things i t h)

  body_is : (t : Thing) (b : Body Rid) → IsBody (Has (listed things)) t b → IsBody (Has (listed (things_renamed f things))) t (body_renamed f b)
  body_is t b x = body-within (renamed f (listed things)) (listed (things_renamed f things)) t (body_renamed f b) within (body-renamed f (listed things) t b x)

  stand : (j : Rid) (t : Thing) → listed (things_renamed f things) j t → (b : Body Rid) × IsBody (Has (listed (things_renamed f things))) t b × (body_at others (entry_of j.0 b) ≡ Some b)
  stand j t h =
      let m = was_renamed f things j t h in
      let old = laid.stand m.0 t m.1 in
      let at : entry_of j.0 (body_renamed f old.0) ≡ entry_renamed f (entry_of m.0.0 old.0) = ap (λ (r : Rid). entry_of r.0 (body_renamed f old.0)) (sym m.2) ∙ sym (entry-renamed f m.0 old.0) in
      (body_renamed f old.0, body_is t old.0 old.1, ap (body_at others) at ∙ are.each (entry_of m.0.0 old.0) old.0 old.2)

  tied : (e : Entry Rid) (b : Body Rid) → body_at others e ≡ Some b → (j : Rid) × (t : Thing) × listed (things_renamed f things) j t × IsBody (Has (listed (things_renamed f things))) t b × (same_entry e (entry_of j.0 b) ≡ true)
  tied e b found =
      let o = are.only e b found in
      let old = laid.tied o.0 o.1 o.2 in
      let at : e ≡ entry_of (f old.0).0 b = o.3 ∙ ap (entry_renamed f) (entry-exact o.0 (entry_of old.0.0 o.1) old.4) ∙ entry-renamed f old.0 o.1 ∙ ap (entry_of (f old.0).0) (sym o.4) in
      (f old.0, old.1, in_renamed f things old.0 old.1 old.2, subst (IsBody (Has (listed (things_renamed f things))) old.1) (sym o.4) (body_is old.1 o.1 old.3), ap (same_entry e) (sym at) ∙ same-refl e)

  one : (i j : Rid) (t u : Thing) → listed (things_renamed f things) i t → listed (things_renamed f things) j u → name_of t ≡ name_of u → (i ≡ j) × (t ≡ u)
  one i j t u x y same =
      let m = was_renamed f things i t x in
      let n = was_renamed f things j u y in
      let old = laid.one m.0 n.0 t u m.1 n.1 same in
      (sym m.2 ∙ ap f old.0 ∙ n.2, old.1)

  ids : (i : Rid) (t u : Thing) → listed (things_renamed f things) i t → listed (things_renamed f things) i u → has_number t ≡ true → has_number u ≡ true → t ≡ u
  ids i t u x y a b =
      let m = was_renamed f things i t x in
      let n = was_renamed f things i u y in
      laid.ids m.0 t u m.1 (subst (λ z. listed things z u) (are.one n.0 m.0 (n.2 ∙ sym m.2)) n.1) a b

  pub renamed-laid : IsLaidOut (listed (things_renamed f things)) others
  renamed-laid = record { stand = stand; tied = tied; one = one; ids = ids }

pub has_renamed : {I J : Type 0} (f : I → J) (b : Body I) → has_id (body_renamed f b) ≡ has_id b
has_renamed f (body.OwnAddress vr ip) = refl
has_renamed f (body.Neighbor i ip mac) = refl
has_renamed f (body.Route vr p t) = refl
has_renamed f (body.Port l s m u) = refl
has_renamed f _ = refl
