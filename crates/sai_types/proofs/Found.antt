-- what is found after a call
use Rattle.std.proofs.Common.{◌≡◌, ℕ, Bool, true, false, cond, [], ◌∷◌, Option, None, Some, option_map, refl, sym, ap, ◌∙◌}
use Rattle.std.specs.BTreeMap.{insert_entry, is_at}
use Rattle.std.specs.Cmp.{eq_by_cmp_equiv}
use Rattle.std.specs.List.{list_any}
use Rattle.std.specs.Map.{remove_entry}
use Rattle.std.specs.HashMap.Eq.{lookup_congr}
use Rattle.std.specs.Ordering.{eq_by_cmp}
use Rattle.std.proofs.lemmas.Bool.{cond-false, cond-true, or_parts}
use Rattle.swss_types.proofs.Maps.{lookup-insert_entry}
use Rattle.sai_types.specs.declared.ids.Rid.{Rid}
use Rattle.sai_types.specs.declared.body.Attr.{Attr}
use Rattle.sai_types.specs.declared.body.Body.{Body}
use Rattle.sai_types.specs.declared.body.Entry.{Entry}
use Rattle.sai_types.specs.declared.body.Call.{Call}
use Rattle.sai_types.specs.declared.body.Call.TheVariants as call
use Rattle.sai_types.specs.Objects.{Objects, body_at, entry_cmp}
use Rattle.sai_types.specs.After.{after_call, after_set, entry_of, with_attr}
use Rattle.sai_types.specs.Made.{same_entry, entry_named, AreSorted}
use Rattle.sai_types.proofs.Entries.{entry_total}
use Rattle.sai_types.proofs.Maps.{lookup-removed, sorted-insert_entry, sorted-remove_entry}

pub same-refl : (e : Entry Rid) → same_entry e e ≡ true
same-refl e = (eq_by_cmp_equiv entry_total).refl e

pub same-symm : (e f : Entry Rid) → same_entry e f ≡ same_entry f e
same-symm e f = (eq_by_cmp_equiv entry_total).symm e f

pub same-trans : (e f g : Entry Rid) → same_entry e f ≡ true → same_entry f g ≡ true → same_entry e g ≡ true
same-trans e f g a b = (eq_by_cmp_equiv entry_total).congr e f g a ∙ b

pub body_at-same : (objects : Objects) (e f : Entry Rid) → same_entry e f ≡ true → body_at objects e ≡ body_at objects f
body_at-same objects e f same = lookup_congr (eq_by_cmp entry_cmp) (eq_by_cmp_equiv entry_total).congr objects e f same

pub body_at-insert : (objects : Objects) (e : Entry Rid) (b : Body Rid) (q : Entry Rid) → body_at (insert_entry entry_cmp objects e b) q ≡ cond (same_entry q e) (Some b) (body_at objects q)
body_at-insert objects e b q = lookup-insert_entry entry_cmp entry_total objects e b q

pub body_at-remove : (objects : Objects) (e q : Entry Rid) → AreSorted objects → body_at (remove_entry (is_at (entry_cmp e)) objects) q ≡ cond (same_entry e q) None (body_at objects q)
body_at-remove objects e q sorted = lookup-removed entry_cmp entry_total objects e q sorted

-- an object that was made is found
pub found-created : (n : ℕ) (objects : Objects) (b : Body Rid) → body_at (after_call n objects (call.Create b)) (entry_of n b) ≡ Some b
found-created n objects b = body_at-insert objects (entry_of n b) b (entry_of n b) ∙ cond-true (same_entry (entry_of n b) (entry_of n b)) (Some b) (body_at objects (entry_of n b)) (same-refl (entry_of n b))

found_set : (objects : Objects) (e : Entry Rid) (a : Attr Rid) (o : Option (Body Rid)) → body_at objects e ≡ o → body_at (after_set objects e a o) e ≡ option_map (λ b. with_attr b a) o
found_set objects e a None h = h
found_set objects e a (Some b) h = body_at-insert objects e (with_attr b a) e ∙ cond-true (same_entry e e) (Some (with_attr b a)) (body_at objects e) (same-refl e)

-- with what was last set on it
pub found-set : (n : ℕ) (objects : Objects) (e : Entry Rid) (a : Attr Rid) → body_at (after_call n objects (call.Set e a)) e ≡ option_map (λ b. with_attr b a) (body_at objects e)
found-set n objects e a = found_set objects e a (body_at objects e) refl

other_set : (objects : Objects) (e q : Entry Rid) (a : Attr Rid) (o : Option (Body Rid)) → same_entry q e ≡ false → body_at (after_set objects e a o) q ≡ body_at objects q
other_set objects e q a None apart = refl
other_set objects e q a (Some b) apart = body_at-insert objects e (with_attr b a) q ∙ cond-false (same_entry q e) (Some (with_attr b a)) (body_at objects q) apart

-- a call leaves what it does not name
pub found-other : (n : ℕ) (objects : Objects) (c : Call Rid) (q : Entry Rid) → AreSorted objects → same_entry q (entry_named n c) ≡ false → body_at (after_call n objects c) q ≡ body_at objects q
found-other n objects (call.Create b) q sorted apart = body_at-insert objects (entry_of n b) b q ∙ cond-false (same_entry q (entry_of n b)) (Some b) (body_at objects q) apart
found-other n objects (call.Set e a) q sorted apart = other_set objects e q a (body_at objects e) apart
found-other n objects (call.Remove e) q sorted apart = body_at-remove objects e q sorted ∙ cond-false (same_entry e q) None (body_at objects q) (same-symm e q ∙ apart)

-- after a removal nothing is found
pub found-removed : (n : ℕ) (objects : Objects) (e : Entry Rid) → AreSorted objects → body_at (after_call n objects (call.Remove e)) e ≡ None
found-removed n objects e sorted = body_at-remove objects e e sorted ∙ cond-true (same_entry e e) None (body_at objects e) (same-refl e)

sorted_set : (objects : Objects) (e : Entry Rid) (a : Attr Rid) (o : Option (Body Rid)) → AreSorted objects → AreSorted (after_set objects e a o)
sorted_set objects e a None sorted = sorted
sorted_set objects e a (Some b) sorted = sorted-insert_entry entry_cmp entry_total objects e (with_attr b a) sorted

-- the entries stay in order
pub sorted-after_call : (n : ℕ) (objects : Objects) (c : Call Rid) → AreSorted objects → AreSorted (after_call n objects c)
sorted-after_call n objects (call.Create b) sorted = sorted-insert_entry entry_cmp entry_total objects (entry_of n b) b sorted
sorted-after_call n objects (call.Set e a) sorted = sorted_set objects e a (body_at objects e) sorted
sorted-after_call n objects (call.Remove e) sorted = sorted-remove_entry entry_cmp entry_total (is_at (entry_cmp e)) objects sorted

none_by : (b : Bool) (x : Option (Body Rid)) (d : Body Rid) → (b ≡ true → x ≡ None) → x ≡ Some d → b ≡ false
none_by false x d f h = refl
none_by true x d f h = let n = f refl in cc

any_step : (p : Body Rid → Bool) (t : Bool) (x d : Body Rid) (rest : Option (Body Rid)) → p x ≡ false → (rest ≡ Some d → p d ≡ false) → cond t (Some x) rest ≡ Some d → p d ≡ false
any_step p true x d rest never f h = let same : x ≡ d = cc in ap p (sym same) ∙ never
any_step p false x d rest never f h = f h

-- what no object passes, none that is found passes
pub any-found : (p : Body Rid → Bool) (objects : Objects) (e : Entry Rid) (d : Body Rid) → list_any (λ o. p o.1) objects ≡ false → body_at objects e ≡ Some d → p d ≡ false
any-found p [] e d none h = absurd cc
any-found p (o ∷ os) e d none h =
    let parts = or_parts (p o.1) (list_any (λ x. p x.1) os) none in
    any_step p (same_entry e o.0) o.1 d (body_at os e) parts.0 (any-found p os e d parts.1) h
