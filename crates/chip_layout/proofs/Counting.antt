-- the things of a kind are as many as its objects
use Rattle.std.proofs.Common.{◌≡◌, ◌⊎◌, inl, inr, ℕ, suc, ◌+◌, ◌≤◌, Bool, true, false, cond, List, [], ◌∷◌, length, count_by, Some, refl, sym, ap, ◌∙◌, subst, arith}
use Rattle.std.proofs.lemmas.Bool.{eq-eqb, eqb-true, false≢true}
use Rattle.std.proofs.lemmas.List.Sums.{sum_by-cons}
use Rattle.sai_types.specs.declared.ids.Rid.{Rid}
use Rattle.sai_types.specs.declared.kind.Kind.{Kind}
use Rattle.sai_types.specs.declared.body.Body.{Body}
use Rattle.sai_types.specs.declared.body.Entry.{Entry}
use Rattle.sai_types.specs.declared.thing.Thing.{Thing}
use Rattle.sai_types.specs.After.{entry_of}
use Rattle.sai_types.specs.Alike.{IsIn}
use Rattle.sai_types.specs.Made.{AreSorted, IsWhole, same_entry}
use Rattle.sai_types.specs.Objects.{Objects, body_at, is_of, kind_of, level, used}
use Rattle.sai_types.proofs.Found.{same-symm, same-trans}
use Rattle.sai_types.specs.Names.{ThingName, name_kind, name_of}
use Rattle.chip_layout.specs.Bodies.{IsBody}
use Rattle.chip_layout.specs.Counted.{AreAll, AreDistinct, IsOfKind}
use Rattle.chip_layout.specs.Layout.{Has, IsLaidOut, Layout}
use Rattle.chip_layout.proofs.Bodies.{kind-body}
use Rattle.chip_layout.proofs.Entries.{one-entry, same-entry}
use Rattle.sai_types.proofs.Listed.{apart-behind, found-in, in-found, sorted-behind}

-- ---- a list of distinct items is no longer than one that has them all

but : {X : Type 0} (xs : List X) (x : X) → IsIn x xs → List X
but [] x h = []
but (y ∷ ys) x (inl is) = ys
but (y ∷ ys) x (inr h) = y ∷ but ys x h

one_less : {X : Type 0} (xs : List X) (x : X) (h : IsIn x xs) → length xs ≡ length (but xs x h) + 1
unfolding but
one_less [] x h = elim h [ ]
one_less (y ∷ ys) x (inl is) = omega arith
one_less (y ∷ ys) x (inr h) = let rest = one_less ys x h in omega (arith, rest)

still_in : {X : Type 0} (xs : List X) (x y : X) (h : IsIn x xs) → (y ≡ x → ⊥) → IsIn y xs → IsIn y (but xs x h)
unfolding but
still_in [] x y h apart g = elim h [ ]
still_in (z ∷ zs) x y (inl is) apart (inl same) = absurd (apart (same ∙ sym is))
still_in (z ∷ zs) x y (inl is) apart (inr g) = g
still_in (z ∷ zs) x y (inr h) apart (inl same) = inl same
still_in (z ∷ zs) x y (inr h) apart (inr g) = inr (still_in zs x y h apart g)

pub no-longer : {X : Type 0} (xs ys : List X) → AreDistinct xs → ((x : X) → IsIn x xs → IsIn x ys) → length xs ≤ length ys
no-longer [] ys d f = omega arith
no-longer (x ∷ xs) ys d f =
    let here = f x (inl refl) in
    let rest = no-longer xs (but ys x here) d.1 (λ y h. still_in ys x y here (λ same. d.0 (subst (λ z. IsIn z xs) same h)) (f y (inr h))) in
    let less = one_less ys x here in
    omega (arith, rest, less)

pub count_skip : (b : Bool) (x c : ℕ) → b ≡ false → x ≡ c → x ≡ cond b 1 0 + c
count_skip false x c h e = omega (arith, e)
count_skip true x c h e = absurd cc

pub count_one : (b : Bool) (x c : ℕ) → b ≡ true → x ≡ c → suc x ≡ cond b 1 0 + c
count_one true x c h e = omega (arith, e)
count_one false x c h e = absurd cc

module _ (layout : Layout Rid) (objects : Objects) (laid : IsLaidOut layout objects) (kind : Kind) where
  -- the names of the objects of the kind among some
  record Names (os : Objects) : Type 0 where
    pub names : List ThingName
    pub count : length names ≡ count_by (λ o. is_of kind o.1) os
    pub distinct : AreDistinct names
    pub sound : (k : ThingName) → IsIn k names → (level (name_kind k) ≡ level kind) × (e : Entry Rid) × (d : Body Rid) × IsIn (e, d) os × (i : Rid) × (t : Thing) × layout i t × IsBody (Has layout) t d × (same_entry e (entry_of i.0 d) ≡ true) × (name_of t ≡ k)
    pub all : (e : Entry Rid) (d : Body Rid) (i : Rid) (t : Thing) → IsIn (e, d) os → layout i t → IsBody (Has layout) t d → same_entry e (entry_of i.0 d) ≡ true → level (name_kind (name_of t)) ≡ level kind → IsIn (name_of t) names

  level_by : (t : Thing) (d : Body Rid) → IsBody (Has layout) t d → level (kind_of d) ≡ level (name_kind (name_of t))
  level_by t d x = ap level (kind-body (Has layout) t d x)

  names_step : (b : Bool) (e : Entry Rid) (d : Body Rid) (os : Objects) (i : Rid) (t : Thing) → is_of kind d ≡ b → AreSorted ((e, d) ∷ os) → layout i t → IsBody (Has layout) t d → same_entry e (entry_of i.0 d) ≡ true → Names os → Names ((e, d) ∷ os)
  names_step true e d os i t of sorted h x at rest = record {
    names = name_of t ∷ rest.names;
    count = count_one (is_of kind d) (length rest.names) (count_by (λ o. is_of kind o.1) os) of rest.count ∙ sym (sum_by-cons (λ (o : Entry Rid × Body Rid). cond (is_of kind o.1) 1 0) (e, d) os);
    distinct = (
      λ again.
          let other = rest.sound (name_of t) again in
          let entries = same-entry layout objects laid other.4 i other.5 t other.2 d other.6 h other.7 x other.9 in
          let same = same-trans other.1 (entry_of i.0 d) e (ap (same_entry other.1) (sym entries) ∙ other.8) (same-symm (entry_of i.0 d) e ∙ at) in
          false≢true (sym (apart-behind (e, d) os other.1 other.2 sorted other.3) ∙ same),
      rest.distinct,
    );
    sound = sound_by;
    all = λ f c j u in_it there y same of'. all_by f c j u there y same of' in_it;
  }
    where
      sound_by : (k : ThingName) → (k ≡ name_of t) ⊎ IsIn k rest.names → (level (name_kind k) ≡ level kind) × (f : Entry Rid) × (c : Body Rid) × IsIn (f, c) ((e, d) ∷ os) × (j : Rid) × (u : Thing) × layout j u × IsBody (Has layout) u c × (same_entry f (entry_of j.0 c) ≡ true) × (name_of u ≡ k)
      sound_by k (inl is) = (ap (λ z. level (name_kind z)) is ∙ sym (level_by t d x) ∙ eqb-true (level (kind_of d)) (level kind) of, e, d, inl refl, i, t, h, x, at, sym is)
      sound_by k (inr more) = let r = rest.sound k more in (r.0, r.1, r.2, inr r.3, r.4, r.5, r.6, r.7, r.8, r.9)

      all_by : (f : Entry Rid) (c : Body Rid) (j : Rid) (u : Thing) → layout j u → IsBody (Has layout) u c → same_entry f (entry_of j.0 c) ≡ true → level (name_kind (name_of u)) ≡ level kind → IsIn (f, c) ((e, d) ∷ os) → IsIn (name_of u) (name_of t ∷ rest.names)
      all_by f c j u there y same of' (inr in_it) = inr (rest.all f c j u in_it there y same of')
      all_by f c j u there y same of' (inl here) =
          let entries : f ≡ e = ap (λ (o : Entry Rid × Body Rid). o.0) here in
          inl (one-entry layout objects laid j i u t c d there h y x (same-trans (entry_of j.0 c) f (entry_of i.0 d) (same-symm (entry_of j.0 c) f ∙ same) (ap (λ z. same_entry z (entry_of i.0 d)) entries ∙ at)))
  names_step false e d os i t of sorted h x at rest = record {
    names = rest.names;
    count = count_skip (is_of kind d) (length rest.names) (count_by (λ o. is_of kind o.1) os) of rest.count ∙ sym (sum_by-cons (λ (o : Entry Rid × Body Rid). cond (is_of kind o.1) 1 0) (e, d) os);
    distinct = rest.distinct;
    sound = λ k in_it. let r = rest.sound k in_it in (r.0, r.1, r.2, inr r.3, r.4, r.5, r.6, r.7, r.8, r.9);
    all = λ f c j u in_it there y same of'. all_by f c j u there y same of' in_it;
  }
    where
      all_by : (f : Entry Rid) (c : Body Rid) (j : Rid) (u : Thing) → layout j u → IsBody (Has layout) u c → same_entry f (entry_of j.0 c) ≡ true → level (name_kind (name_of u)) ≡ level kind → IsIn (f, c) ((e, d) ∷ os) → IsIn (name_of u) rest.names
      all_by f c j u there y same of' (inr in_it) = rest.all f c j u in_it there y same of'
      all_by f c j u there y same of' (inl here) =
          let body : c ≡ d = ap (λ (o : Entry Rid × Body Rid). o.1) here in
          absurd (false≢true (sym of ∙ ap (λ z. is_of kind z) (sym body) ∙ eq-eqb (level (kind_of c)) (level kind) (level_by u c y ∙ of')))

  names_among : (os : Objects) → AreSorted os → ((e : Entry Rid) (b : Body Rid) → IsIn (e, b) os → body_at objects e ≡ Some b) → Names os
  names_among [] sorted found = record { names = []; count = refl; distinct = tt; sound = λ k h. elim h [ ]; all = λ e d i t in_it h x at of. elim in_it [ ] }
  names_among (o ∷ os) sorted found =
      let owner = laid.tied o.0 o.1 (found o.0 o.1 (inl refl)) in
      names_step (is_of kind o.1) o.0 o.1 os owner.0 owner.1 refl sorted owner.2 owner.3 owner.4 (names_among os (sorted-behind o os sorted) (λ e b h. found e b (inr h)))

  -- the things of a kind, each once, are as many as its objects
  pub counted : (made : ℕ) → IsWhole made objects → (names : List ThingName) × AreAll layout kind names × (length names ≡ used objects kind)
  counted made whole =
      let these = names_among objects whole.sorted (λ e b h. found-in objects e b whole.sorted h) in (
        these.names,
        record {
          distinct = these.distinct;
          sound = λ k h. let s = these.sound k h in (s.0, s.4, (s.5, s.6, s.9));
          all = λ k h.
              let i = h.1 in
              let t = h.2.0 in
              let has = laid.stand i t h.2.1 in
              let object = in-found objects (entry_of i.0 has.0) has.0 has.2 in
              subst (λ z. IsIn z these.names) h.2.2 (these.all object.0 has.0 i t object.2 h.2.1 has.1 (same-symm object.0 (entry_of i.0 has.0) ∙ object.1) (ap (λ z. level (name_kind z)) h.2.2 ∙ h.0));
        },
        these.count,
      )

  -- no more names of a kind stand than it has objects
  pub at-most-used : (made : ℕ) → IsWhole made objects → (names : List ThingName) → AreDistinct names → ((k : ThingName) → IsIn k names → IsOfKind layout kind k) → length names ≤ used objects kind
  at-most-used made whole names distinct stand =
      let these = counted made whole in
      let short = no-longer names these.0 distinct (λ k h. these.1.all k (stand k h)) in
      let count = these.2 in
      omega (arith, short, count)

  -- where all the names of a kind are among some, it has no more objects
  pub used-at-most : (made : ℕ) → IsWhole made objects → (names : List ThingName) → ((k : ThingName) → IsOfKind layout kind k → IsIn k names) → used objects kind ≤ length names
  used-at-most made whole names all =
      let these = counted made whole in
      let short = no-longer these.0 names these.1.distinct (λ k h. all k (these.1.sound k h)) in
      let count = these.2 in
      omega (arith, short, count)
