-- a legal call leaves a whole state whole
use Rattle.std.proofs.Common.{◌≡◌, ◌⊎◌, inl, inr, ℕ, ◌+◌, ◌≤◌, ◌==◌, Bool, true, false, cond, List, [], ◌∷◌, Option, None, Some, if◌then◌else◌, refl, sym, ap, ◌∙◌, arith}
use Rattle.std.specs.BTreeMap.{insert_entry, is_at}
use Rattle.std.specs.List.{list_any}
use Rattle.std.specs.List.Sorted.{IsStrictlySortedBy}
use Rattle.std.specs.Map.{remove_entry}
use Rattle.std.specs.Option.{is_some}
use Rattle.std.proofs.lemmas.Bool.{cond-false, false≢true}
use Rattle.sai_types.specs.declared.ids.Rid.{Rid}
use Rattle.sai_types.specs.declared.kind.Kind.{Kind}
use Rattle.sai_types.specs.declared.body.Attr.{Attr}
use Rattle.sai_types.specs.declared.body.Body.{Body}
use Rattle.sai_types.specs.declared.body.Body.TheVariants as body
use Rattle.sai_types.specs.declared.body.Entry.{Entry}
use Rattle.sai_types.specs.declared.body.Entry.TheVariants as entry
use Rattle.sai_types.specs.declared.body.Call.{Call}
use Rattle.sai_types.specs.declared.body.Call.TheVariants as call
use Rattle.sai_types.specs.Objects.{Objects, body_at, entry_cmp, is_kind_of, kind_of, level}
use Rattle.sai_types.specs.References.{Reference, attr_refers_well, is_meant, references, refers_to, refers_well, stands}
use Rattle.sai_types.specs.Refusal.{clash, IsLegal}
use Rattle.sai_types.specs.After.{after_call, after_calls, after_set, entry_of, has_id, with_attr}
use Rattle.sai_types.specs.Made.{same_entry, IsWhole, AreLegal, made_after, made_after_all}
use Rattle.sai_types.proofs.Apart.{clash-symm, clash-with_attr, entry_of-with_attr, kind_of-with_attr}
use Rattle.sai_types.proofs.Found.{same-symm, same-trans, body_at-same, body_at-insert, body_at-remove, any-found, sorted-after_call}
use Rattle.sai_types.proofs.Legal.{legal-create, legal-set, legal-remove, fresh}
use Rattle.sai_types.proofs.Entries.{entry_total}
use Rattle.sai_types.proofs.Maps.{sorted-insert_entry}
use Rattle.sai_types.proofs.Refer.{all-kept, refers_well-left, refers_well-with_attr}

-- an object that is found where one was put: the one that was put, or one that was there
pub found_put : (t : Bool) (b d : Body Rid) (rest : Option (Body Rid)) → cond t (Some b) rest ≡ Some d → ((t ≡ true) × (d ≡ b)) ⊎ (rest ≡ Some d)
found_put true b d rest h = inl (refl, cc)
found_put false b d rest h = inr h

pub kept_put : (t : Bool) (b d : Body Rid) (rest : Option (Body Rid)) → (t ≡ true → ⊥) → rest ≡ Some d → cond t (Some b) rest ≡ Some d
kept_put true b d rest f h = absurd (f refl)
kept_put false b d rest f h = h

is_kind_of-kept : (k : Kind) (x y : Option (Body Rid)) → ((d : Body Rid) → x ≡ Some d → (e : Body Rid) × (y ≡ Some e) × (kind_of e ≡ kind_of d)) → is_kind_of k x ≡ true → is_kind_of k y ≡ true
is_kind_of-kept k None y f h = absurd (false≢true h)
is_kind_of-kept k (Some d) y f h =
    let g = f d refl in
    ap (is_kind_of k) g.1 ∙ ap (λ x. level x == level k) g.2 ∙ h

is_some-kept : (x y : Option (Body Rid)) → ((d : Body Rid) → x ≡ Some d → (e : Body Rid) × (y ≡ Some e) × (kind_of e ≡ kind_of d)) → is_some x ≡ true → is_some y ≡ true
is_some-kept None y f h = absurd (false≢true h)
is_some-kept (Some d) y f h = ap is_some (f d refl).1

meant-kept : (r : Reference Rid) (x y : Option (Body Rid)) → ((d : Body Rid) → x ≡ Some d → (e : Body Rid) × (y ≡ Some e) × (kind_of e ≡ kind_of d)) → is_meant r x ≡ true → is_meant r y ≡ true
meant-kept (k, entry.Oid r) x y f h = is_kind_of-kept k x y f h
meant-kept (k, entry.Own vr ip) x y f h = is_some-kept x y f h
meant-kept (k, entry.Neigh r ip) x y f h = is_some-kept x y f h
meant-kept (k, entry.Route vr p) x y f h = is_some-kept x y f h

-- what refers well does so where each object is kept with its kind
keeps_referring : (xs ys : Objects) → ((e : Entry Rid) (d : Body Rid) → body_at xs e ≡ Some d → (d' : Body Rid) × (body_at ys e ≡ Some d') × (kind_of d' ≡ kind_of d)) → (b : Body Rid) → refers_well xs b ≡ true → refers_well ys b ≡ true
keeps_referring xs ys kept b h = all-kept (stands xs) (stands ys) (λ r there. meant-kept r (body_at xs r.1) (body_at ys r.1) (kept r.1) there) (references b) h

-- the entry of a new object, by the identifiers made after it
entered_new : (made : ℕ) (b : Body Rid) → (n : ℕ) × (n ≤ (if has_id b then made + 1 else made)) × (entry_of n b ≡ entry_of (made + 1) b)
entered_new made (body.OwnAddress vr ip) = (0, omega arith, refl)
entered_new made (body.Neighbor rif ip mac) = (0, omega arith, refl)
entered_new made (body.Route vr prefix to) = (0, omega arith, refl)
entered_new made _ = (made + 1, omega arith, refl)

more_made : (b : Bool) (made n : ℕ) → n ≤ made → n ≤ (if b then made + 1 else made)
more_made true made n le = omega arith
more_made false made n le = le

module _ (made : ℕ) (objects : Objects) (whole : IsWhole made objects) (b : Body Rid) (well : refers_well objects b ≡ true) (free : list_any (λ o. clash b o.1) objects ≡ false) where
  abbrev new_entry : Entry Rid
  new_entry = entry_of (made + 1) b

  abbrev with_new : Objects
  with_new = insert_entry entry_cmp objects new_entry b

  found_new : (q : Entry Rid) (d : Body Rid) → body_at with_new q ≡ Some d → ((same_entry q new_entry ≡ true) × (d ≡ b)) ⊎ (body_at objects q ≡ Some d)
  found_new q d h = found_put (same_entry q new_entry) b d (body_at objects q) (sym (body_at-insert objects new_entry b q) ∙ h)

  kept_new : (q : Entry Rid) (d : Body Rid) → body_at objects q ≡ Some d → body_at with_new q ≡ Some d
  kept_new q d h =
      body_at-insert objects new_entry b q
      ∙ kept_put (same_entry q new_entry) b d (body_at objects q) (λ same. let none = sym h ∙ body_at-same objects q new_entry same ∙ fresh made objects b whole.entered free in cc) h

  free_at : (q : Entry Rid) (d : Body Rid) → body_at objects q ≡ Some d → clash b d ≡ false
  free_at q d h = any-found (clash b) objects q d free h

  entered_by : (q : Entry Rid) (d : Body Rid) → ((same_entry q new_entry ≡ true) × (d ≡ b)) ⊎ (body_at objects q ≡ Some d) → (n : ℕ) × (n ≤ (if has_id b then made + 1 else made)) × (same_entry q (entry_of n d) ≡ true)
  entered_by q d (inl (same, e)) =
      let at = entered_new made b in
      (at.0, at.1, ap (λ x. same_entry q (entry_of at.0 x)) e ∙ ap (same_entry q) at.2 ∙ same)
  entered_by q d (inr h) =
      let at = whole.entered.each q d h in
      (at.0, more_made (has_id b) made at.0 at.1, at.2)

  apart_by : (e f : Entry Rid) (c d : Body Rid) → ((same_entry e new_entry ≡ true) × (c ≡ b)) ⊎ (body_at objects e ≡ Some c) → ((same_entry f new_entry ≡ true) × (d ≡ b)) ⊎ (body_at objects f ≡ Some d) → clash c d ≡ true → same_entry e f ≡ true
  apart_by e f c d (inl (x, i)) (inl (y, j)) h = same-trans e new_entry f x (same-symm new_entry f ∙ y)
  apart_by e f c d (inl (x, i)) (inr y) h = absurd (false≢true (sym (free_at f d y) ∙ ap (λ z. clash z d) (sym i) ∙ h))
  apart_by e f c d (inr x) (inl (y, j)) h = absurd (false≢true (sym (free_at e c x) ∙ clash-symm b c ∙ ap (clash c) (sym j) ∙ h))
  apart_by e f c d (inr x) (inr y) h = whole.apart.each e f c d x y h

  refer_by : (q : Entry Rid) (d : Body Rid) → ((same_entry q new_entry ≡ true) × (d ≡ b)) ⊎ (body_at objects q ≡ Some d) → refers_well objects d ≡ true
  refer_by q d (inl (same, e)) = ap (refers_well objects) e ∙ well
  refer_by q d (inr h) = whole.refer.each q d h

  whole-create : IsWhole (if has_id b then made + 1 else made) with_new
  whole-create = record {
    sorted = sorted-after_call (made + 1) objects (call.Create b) whole.sorted;
    entered = record { each = λ q d h. entered_by q d (found_new q d h) };
    apart = record { each = λ e f c d x y h. apart_by e f c d (found_new e c x) (found_new f d y) h };
    refer = record { each = λ q d h. keeps_referring objects with_new (λ e x g. (x, kept_new e x g, refl)) d (refer_by q d (found_new q d h)) };
  }

module _ (made : ℕ) (objects : Objects) (whole : IsWhole made objects) (e : Entry Rid) (a : Attr Rid) (b : Body Rid) (there : body_at objects e ≡ Some b) (well : attr_refers_well objects a ≡ true) where
  abbrev with_set : Objects
  with_set = insert_entry entry_cmp objects e (with_attr b a)

  -- a body before the set and after it
  abbrev IsLater : Body Rid → Body Rid → Type 0
  IsLater d new = (new ≡ d) ⊎ (new ≡ with_attr d a)

  was_by : (q : Entry Rid) (d : Body Rid) → ((same_entry q e ≡ true) × (d ≡ with_attr b a)) ⊎ (body_at objects q ≡ Some d) → (old : Body Rid) × (body_at objects q ≡ Some old) × IsLater old d
  was_by q d (inl (same, h)) = (b, body_at-same objects q e same ∙ there, inr h)
  was_by q d (inr h) = (d, h, inl refl)

  was : (q : Entry Rid) (d : Body Rid) → body_at with_set q ≡ Some d → (old : Body Rid) × (body_at objects q ≡ Some old) × IsLater old d
  was q d h = was_by q d (found_put (same_entry q e) (with_attr b a) d (body_at objects q) (sym (body_at-insert objects e (with_attr b a) q) ∙ h))

  later_put : (t : Bool) (q : Entry Rid) (d : Body Rid) → same_entry q e ≡ t → body_at objects q ≡ Some d → (new : Body Rid) × (cond t (Some (with_attr b a)) (body_at objects q) ≡ Some new) × (kind_of new ≡ kind_of d)
  later_put true q d same h =
      let one = sym h ∙ body_at-same objects q e same ∙ there in
      let body : b ≡ d = cc in
      (with_attr b a, refl, kind_of-with_attr b a ∙ ap kind_of body)
  later_put false q d same h = (d, h, refl)

  later : (q : Entry Rid) (d : Body Rid) → body_at objects q ≡ Some d → (new : Body Rid) × (body_at with_set q ≡ Some new) × (kind_of new ≡ kind_of d)
  later q d h =
      let put = later_put (same_entry q e) q d refl h in
      (put.0, body_at-insert objects e (with_attr b a) q ∙ put.1, put.2)

  entry_later : (n : ℕ) (d new : Body Rid) → IsLater d new → entry_of n new ≡ entry_of n d
  entry_later n d new (inl h) = ap (entry_of n) h
  entry_later n d new (inr h) = ap (entry_of n) h ∙ entry_of-with_attr n d a

  clash_later : (d new x : Body Rid) → IsLater d new → clash new x ≡ clash d x
  clash_later d new x (inl h) = ap (λ y. clash y x) h
  clash_later d new x (inr h) = ap (λ y. clash y x) h ∙ clash-with_attr d a x

  refers_later : (d new : Body Rid) → IsLater d new → refers_well objects d ≡ true → refers_well objects new ≡ true
  refers_later d new (inl h) w = ap (refers_well objects) h ∙ w
  refers_later d new (inr h) w = ap (refers_well objects) h ∙ refers_well-with_attr objects d a well w

  whole-set : IsWhole made with_set
  whole-set = record {
    sorted = sorted-insert_entry entry_cmp entry_total objects e (with_attr b a) whole.sorted;
    entered = record { each = λ q d h. let old = was q d h in let at = whole.entered.each q old.0 old.1 in (at.0, at.1, ap (same_entry q) (entry_later at.0 old.0 d old.2) ∙ at.2) };
    apart = record {
      each = λ q f c d x y h.
          let one = was q c x in
          let two = was f d y in
          whole.apart.each q f one.0 two.0 one.1 two.1 (sym (clash_later one.0 c two.0 one.2) ∙ clash-symm c two.0 ∙ sym (clash_later two.0 d c two.2) ∙ clash-symm d c ∙ h);
    };
    refer = record { each = λ q d h. let old = was q d h in keeps_referring objects with_set later d (refers_later old.0 d old.2 (whole.refer.each q old.0 old.1)) };
  }

module _ (made : ℕ) (objects : Objects) (whole : IsWhole made objects) (e : Entry Rid) (unused : list_any (λ o. refers_to o.1 e) objects ≡ false) where
  abbrev without : Objects
  without = remove_entry (is_at (entry_cmp e)) objects

  left_by : (t : Bool) (d : Body Rid) (rest : Option (Body Rid)) → cond t None rest ≡ Some d → rest ≡ Some d
  left_by true d rest h = cc
  left_by false d rest h = h

  was_left : (q : Entry Rid) (d : Body Rid) → body_at without q ≡ Some d → body_at objects q ≡ Some d
  was_left q d h = left_by (same_entry e q) d (body_at objects q) (sym (body_at-remove objects e q whole.sorted) ∙ h)

  stays : (q : Entry Rid) → same_entry e q ≡ false → body_at without q ≡ body_at objects q
  stays q apart = body_at-remove objects e q whole.sorted ∙ cond-false (same_entry e q) None (body_at objects q) apart

  whole-remove : IsWhole made without
  whole-remove = record {
    sorted = sorted-after_call made objects (call.Remove e) whole.sorted;
    entered = record { each = λ q d h. whole.entered.each q d (was_left q d h) };
    apart = record { each = λ q f c d x y h. whole.apart.each q f c d (was_left q c x) (was_left f d y) h };
    refer = record {
      each = λ q d h.
          refers_well-left objects without e (λ r apart there. ap (is_meant r) (stays r.1 (same-symm e r.1 ∙ apart)) ∙ there) d (any-found (λ b. refers_to b e) objects q d unused (was_left q d h)) (whole.refer.each q d (was_left q d h));
    };
  }

whole_set : (made : ℕ) (objects : Objects) (e : Entry Rid) (a : Attr Rid) (o : Option (Body Rid)) → IsWhole made objects → body_at objects e ≡ o → (b : Body Rid) × (o ≡ Some b) × (attr_refers_well objects a ≡ true) → IsWhole made (after_set objects e a o)
whole_set made objects e a None whole at legal = absurd cc
whole_set made objects e a (Some b) whole at legal = whole-set made objects whole e a b at legal.2

-- a legal call leaves a whole state whole
pub whole-after_call : (capacities : List ℕ) (made : ℕ) (objects : Objects) (c : Call Rid) → IsWhole made objects → IsLegal capacities objects c → IsWhole (made_after made c) (after_call (made + 1) objects c)
whole-after_call capacities made objects (call.Create b) whole legal =
    let parts = legal-create capacities objects b legal in
    whole-create made objects whole b parts.0 parts.1
whole-after_call capacities made objects (call.Set e a) whole legal = whole_set made objects e a (body_at objects e) whole refl (legal-set objects a (body_at objects e) legal)
whole-after_call capacities made objects (call.Remove e) whole legal = whole-remove made objects whole e (legal-remove objects e (body_at objects e) legal)

pub whole-empty : IsWhole 0 []
unfolding IsStrictlySortedBy
whole-empty = record {
  sorted = tt;
  entered = record { each = λ e b h. absurd cc };
  apart = record { each = λ e f b d x y h. absurd cc };
  refer = record { each = λ e b h. absurd cc };
}

-- so do legal calls, one after another
pub whole-after_calls : (capacities : List ℕ) (made : ℕ) (objects : Objects) (calls : List (Call Rid)) → IsWhole made objects → AreLegal capacities made objects calls → IsWhole (made_after_all made calls) (after_calls made objects calls)
whole-after_calls capacities made objects [] whole legal = whole
whole-after_calls capacities made objects (c ∷ cs) whole legal = whole-after_calls capacities (made_after made c) (after_call (made + 1) objects c) cs (whole-after_call capacities made objects c whole legal.0) legal.1
