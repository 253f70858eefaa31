-- the counts of marks where an object comes or goes
use Rattle.std.proofs.Common.{◌≡◌, ℕ, ◌+◌, ◌-◌, Bool, true, false, cond, List, [], ◌∷◌, Option, None, Some, option_map, refl, sym, ap, ◌∙◌, arith}
use Rattle.std.specs.BTreeMap.{insert_entry, is_at}
use Rattle.std.specs.List.Sorted.{IsStrictlySortedBy}
use Rattle.std.specs.Map.{keys_of, remove_entry}
use Rattle.std.specs.Option.{unwrap_or}
use Rattle.std.proofs.lemmas.List.Sums.{sum_by-cons}
use Rattle.std.proofs.lemmas.Map.Entries.{sum_by-insert_entry, sum_by-remove_entry}
use Rattle.sai_types.specs.declared.ids.Rid.{Rid}
use Rattle.sai_types.specs.declared.body.Body.{Body}
use Rattle.sai_types.specs.declared.body.Entry.{Entry}
use Rattle.sai_types.specs.declared.body.Attr.{Attr}
use Rattle.sai_types.specs.declared.body.Attr.TheVariants as attr
use Rattle.sai_types.specs.declared.body.Body.TheVariants as body
use Rattle.sai_types.specs.declared.body.To.{To}
use Rattle.sai_types.specs.After.{after_set, with_attr}
use Rattle.sai_types.specs.Objects.{Objects, entry_cmp, body_at}
use Rattle.sai_types.specs.declared.kind.Kind.TheVariants as kind
use Rattle.sai_types.proofs.Entries.{entry_total}
use Rattle.sai_chip.specs.declared.mark.TakenMark.{TakenMark}
use Rattle.sai_chip.specs.declared.mark.TakenMark.TheVariants as mark
use Rattle.sai_chip.specs.Tally.{Tally, claims, count_at, is_mark}
use Rattle.sai_chip.specs.Bodies.{target_of}
use Rattle.sai_chip.specs.Marks.{IsCounted, marks_of, marks_if, marks_at, times_claimed, target_marks}
use Rattle.sai_chip.proofs.Changed.{set-lacking}

claims_if : (m : TakenMark) (o : Option (Body Rid)) → claims m (marks_if o) ≡ unwrap_or (option_map (λ b. claims m (marks_of b)) o) 0
claims_if m None = refl
claims_if m (Some b) = refl

pub counted-put : (objects : Objects) (e : Entry Rid) (b : Body Rid) (before mid after : Tally) → IsStrictlySortedBy entry_cmp (keys_of objects) → IsCounted objects before → ((m : TakenMark) → count_at mid m ≡ count_at before m + claims m (marks_of b)) → ((m : TakenMark) → count_at after m ≡ count_at mid m - claims m (marks_at objects e)) → IsCounted (insert_entry entry_cmp objects e b) after
counted-put objects e b before mid after sorted counted added taken = record {
  each = λ m.
      let was = counted.each m in
      let more = added m in
      let less = taken m in
      let old = claims_if m (body_at objects e) in
      let change = sum_by-insert_entry (λ x. claims m (marks_of x)) entry_total objects e b sorted in
      omega (arith, was, more, less, old, change);
}

pub counted-remove : (objects : Objects) (e : Entry Rid) (before after : Tally) → IsCounted objects before → ((m : TakenMark) → count_at after m ≡ count_at before m - claims m (marks_at objects e)) → IsCounted (remove_entry (is_at (entry_cmp e)) objects) after
counted-remove objects e before after counted taken = record {
  each = λ m.
      let was = counted.each m in
      let less = taken m in
      let old = claims_if m (body_at objects e) in
      let change = sum_by-remove_entry (λ x. claims m (marks_of x)) (is_at (entry_cmp e)) objects in
      omega (arith, was, less, old, change);
}

-- the counts where an attribute is set
counted_set : (objects : Objects) (e : Entry Rid) (a : Attr Rid) (o : Option (Body Rid)) (before after : Tally) → IsStrictlySortedBy entry_cmp (keys_of objects) → IsCounted objects before → body_at objects e ≡ o → ((m : TakenMark) (n : ℕ) → n + claims m (marks_if o) ≡ count_at before m + claims m (marks_if (option_map (λ b. with_attr b a) o)) → count_at after m ≡ n) → IsCounted (after_set objects e a o) after
counted_set objects e a None before after sorted counted found moved = record { each = λ m. moved m (times_claimed m objects) (ap (λ n. n + claims m []) (sym (counted.each m))) }
counted_set objects e a (Some b) before after sorted counted found moved = record {
  each = λ m.
      let was = counted.each m in
      let old = ap (λ o. unwrap_or (option_map (λ x. claims m (marks_of x)) o) 0) found in
      let change = sum_by-insert_entry (λ x. claims m (marks_of x)) entry_total objects e (with_attr b a) sorted in
      moved m (times_claimed m (insert_entry entry_cmp objects e (with_attr b a))) (omega (arith, was, old, change));
}

-- whether an attribute is a route's target
abbrev pub is_to : Attr Rid → Bool
is_to (attr.To t) = true
is_to _ = false

pub not_to : (a : Attr Rid) → ((t : To Rid) → a ≡ attr.To t → ⊥) → is_to a ≡ false
not_to (attr.To t) not = absurd (not t refl)
not_to a not = refl

marks-with_attr : (b : Body Rid) (a : Attr Rid) → is_to a ≡ false → marks_of (with_attr b a) ≡ marks_of b
marks-with_attr (body.Port lanes speed mtu up) (attr.Speed s) h = refl
marks-with_attr (body.Port lanes speed mtu up) (attr.Mtu m) h = refl
marks-with_attr (body.Port lanes speed mtu up) (attr.Up u) h = refl
marks-with_attr (body.VlanMember vlan bridge_port tagging) (attr.Tagging t) h = refl
marks-with_attr (body.Neighbor rif ip mac) (attr.Mac m) h = refl
marks-with_attr b (attr.To t) h = absurd cc
marks-with_attr b a h = refl

same_if : (o : Option (Body Rid)) (a : Attr Rid) → is_to a ≡ false → marks_if (option_map (λ b. with_attr b a) o) ≡ marks_if o
same_if None a h = refl
same_if (Some b) a h = marks-with_attr b a h

-- an attribute that is no reference takes up nothing
pub counted-value : (objects : Objects) (e : Entry Rid) (a : Attr Rid) (counts : Tally) → IsStrictlySortedBy entry_cmp (keys_of objects) → IsCounted objects counts → is_to a ≡ false → IsCounted (after_set objects e a (body_at objects e)) counts
counted-value objects e a counts sorted counted value =
    counted_set objects e a (body_at objects e) counts counts sorted counted refl
    (λ m n h. let same = ap (claims m) (same_if (body_at objects e) a value) in omega (arith, h, same))

claims-cons : (m k : TakenMark) (ks : List TakenMark) → claims m (k ∷ ks) ≡ cond (is_mark k m) 1 0 + claims m ks
claims-cons m k ks = sum_by-cons (λ j. cond (is_mark j m) 1 0) k ks

pointed : (o : Option (Body Rid)) (to : To Rid) (m : TakenMark) → claims m (marks_if o) + claims m (target_marks to) ≡ claims m (marks_if (option_map (λ b. with_attr b (attr.To to)) o)) + claims m (target_marks (unwrap_or (target_of o) to))
pointed (Some (body.Route None prefix from)) to m =
    let one = claims-cons m (mark.Of kind.Route) (target_marks from) in
    let two = claims-cons m (mark.Of kind.Route) (target_marks to) in
    omega (arith, one, two)
pointed (Some (body.Route (Some r) prefix from)) to m =
    let one = claims-cons m (mark.Of kind.Route) (mark.RefersTo r ∷ target_marks from) in
    let two = claims-cons m (mark.RefersTo r) (target_marks from) in
    let three = claims-cons m (mark.Of kind.Route) (mark.RefersTo r ∷ target_marks to) in
    let four = claims-cons m (mark.RefersTo r) (target_marks to) in
    omega (arith, one, two, three, four)
pointed o to m = refl

-- a route that points elsewhere moves one reference
pub counted-pointed : (objects : Objects) (e : Entry Rid) (to : To Rid) (before mid after : Tally) → IsStrictlySortedBy entry_cmp (keys_of objects) → IsCounted objects before → ((m : TakenMark) → count_at mid m ≡ count_at before m + claims m (target_marks to)) → ((m : TakenMark) → count_at after m ≡ count_at mid m - claims m (target_marks (unwrap_or (target_of (body_at objects e)) to))) → IsCounted (after_set objects e (attr.To to) (body_at objects e)) after
counted-pointed objects e to before mid after sorted counted more less =
    counted_set objects e (attr.To to) (body_at objects e) before after sorted counted refl
    (λ m n h. let moved = pointed (body_at objects e) to m in let one = more m in let two = less m in omega (arith, h, moved, one, two))

lacks_target : (b : Body Rid) (to : To Rid) → None ≡ target_of (Some b) → with_attr b (attr.To to) ≡ b
lacks_target (body.Route vr prefix t) to h = absurd cc
lacks_target b to h = refl

-- what is no route points nowhere else
pub unpointed : (objects : Objects) (e : Entry Rid) (to : To Rid) → IsStrictlySortedBy entry_cmp (keys_of objects) → None ≡ target_of (body_at objects e) → objects ≡ after_set objects e (attr.To to) (body_at objects e)
unpointed objects e to sorted none = sym (set-lacking objects e (attr.To to) (body_at objects e) sorted refl (λ b there. lacks_target b to (none ∙ ap target_of there)))
