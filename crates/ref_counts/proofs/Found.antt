-- what is known of a name after a change
use Rattle.std.proofs.Common.{◌≡◌, ℕ, Bool, true, false, ◌&&◌, cond, List, [], ◌∷◌, map, Option, None, Some, option_map, refl, sym, ap, ap₂, ◌∙◌}
use Rattle.std.specs.BTreeMap.{insert_entry, is_at}
use Rattle.std.specs.List.Sorted.{IsStrictlySortedBy}
use Rattle.std.specs.Map.{keys_of, remove_entry}
use Rattle.std.specs.Ordering.{is_eq, ordering_reverse}
use Rattle.std.specs.declared.cmp.Ordering.{Ordering}
use Rattle.std.specs.declared.cmp.Ordering.TheVariants.{Less, Equal, Greater}
use Rattle.std.proofs.lemmas.Cmp.{tied_itself}
use Rattle.std.proofs.lemmas.Bool.{cond-false, false≢true}
use Rattle.std.proofs.lemmas.Option.{none-some}
use Rattle.swss_types.proofs.Tied.{tied}
use Rattle.table_schema.proofs.Places.{find_step, put_step}
use Rattle.table_schema.specs.declared.key.Key.{Key}
use Rattle.sai_types.proofs.Maps.{lookup-removed}
use Rattle.ref_counts.specs.declared.name.Name.{Name}
use Rattle.ref_counts.specs.declared.name.Name.TheVariants as name
use Rattle.ref_counts.specs.declared.name.NameState.TheVariants as state
use Rattle.ref_counts.specs.Registered.{Registered, released, with_pin}
use Rattle.ref_counts.specs.Registry.{Names, all_released, are_live, changed, first_not_live, gone_from, is_live, is_retiring, registered_name_cmp, pinned, registered_at, state_in, state_of}
use Rattle.ref_counts.proofs.Changing.{name_total}

-- a name that is put is there
pub found-put : (names : Names) (n : Name) (r : Registered) → registered_at (insert_entry registered_name_cmp names n r) n ≡ Some r
found-put [] n r = find_step registered_name_cmp (n, r) [] n Equal (tied_itself name_total n)
found-put (e ∷ es) n r =
    let rest = found-put es n r in
    let by : (o : Ordering) → registered_name_cmp n e.0 ≡ o → registered_at (insert_entry registered_name_cmp (e ∷ es) n r) n ≡ Some r =
    λ o. elim o as (λ o. registered_name_cmp n e.0 ≡ o → registered_at (insert_entry registered_name_cmp (e ∷ es) n r) n ≡ Some r) [
      | Less ↦ λ is. ap (λ l. registered_at l n) (put_step registered_name_cmp e es n r Less is) ∙ find_step registered_name_cmp (n, r) (e ∷ es) n Equal (tied_itself name_total n)
      | Equal ↦ λ is. ap (λ l. registered_at l n) (put_step registered_name_cmp e es n r Equal is) ∙ find_step registered_name_cmp (e.0, r) es n Equal is
      | Greater ↦ λ is. ap (λ l. registered_at l n) (put_step registered_name_cmp e es n r Greater is) ∙ find_step registered_name_cmp e (insert_entry registered_name_cmp es n r) n Greater is ∙ rest
    ] in
    by (registered_name_cmp n e.0) refl

-- what is known of a name is what its change makes of it
pub found-changed : (names : Names) (n : Name) (f : Registered → Registered) → registered_at (changed names n f) n ≡ option_map f (registered_at names n)
found-changed [] n f = refl
found-changed (e ∷ es) n f =
    let rest = found-changed es n f in
    elim (is_at (registered_name_cmp n) e.0) as (λ b. is_at (registered_name_cmp n) e.0 ≡ b → registered_at (cond b (e.0, f e.1) e ∷ changed es n f) n ≡ option_map f (cond b (Some e.1) (registered_at es n))) [
      | true ↦ λ is. ap (λ b. cond b (Some (f e.1)) (registered_at (changed es n f) n)) is
      | false ↦ λ is. ap (λ b. cond b (Some e.1) (registered_at (changed es n f) n)) is ∙ rest
    ] refl

-- a change of one name leaves the others
pub found-other : (names : Names) (n m : Name) (f : Registered → Registered) → ((k : Name) → is_at (registered_name_cmp n) k ≡ true → is_at (registered_name_cmp m) k ≡ false) → registered_at (changed names n f) m ≡ registered_at names m
found-other [] n m f apart = refl
found-other (e ∷ es) n m f apart =
    let rest = found-other es n m f apart in
    elim (is_at (registered_name_cmp n) e.0) as (λ b. is_at (registered_name_cmp n) e.0 ≡ b → registered_at (cond b (e.0, f e.1) e ∷ changed es n f) m ≡ cond (is_at (registered_name_cmp m) e.0) (Some e.1) (registered_at es m)) [
      | true ↦ λ is. ap (λ b. cond b (Some (f e.1)) (registered_at (changed es n f) m)) (apart e.0 is) ∙ rest ∙ sym (ap (λ b. cond b (Some e.1) (registered_at es m)) (apart e.0 is))
      | false ↦ λ is. ap (λ o. cond (is_at (registered_name_cmp m) e.0) (Some e.1) o) rest
    ] refl

-- a release is one of each name
pub found-released : (names : Names) (worker : ℕ) (used : Bool) (n : Name) → registered_at (all_released worker used names) n ≡ option_map (released worker used) (registered_at names n)
found-released [] worker used n = refl
found-released (e ∷ es) worker used n =
    let rest = found-released es worker used n in
    elim (is_at (registered_name_cmp n) e.0) as (λ b. cond b (Some (released worker used e.1)) (registered_at (all_released worker used es) n) ≡ option_map (released worker used) (cond b (Some e.1) (registered_at es n))) [
      | true ↦ refl
      | false ↦ rest
    ]

pub eq_back : (o : Ordering) → is_eq (ordering_reverse o) ≡ is_eq o
eq_back Less = refl
eq_back Equal = refl
eq_back Greater = refl

-- a name that is one name is no other
pub apart_from : (n m k : Name) → is_at (registered_name_cmp n) m ≡ false → is_at (registered_name_cmp n) k ≡ true → is_at (registered_name_cmp m) k ≡ false
apart_from n m k other is = ap is_eq (name_total.antisymm m k) ∙ eq_back (registered_name_cmp k m) ∙ ap is_eq (sym (name_total.congr n k m (tied (registered_name_cmp n k) is))) ∙ other

-- what a change leaves of what is known of a name, it leaves of each name
module _ {X : Type 0} (h : Option Registered → X) (f : Registered → Registered) (same : (r : Registered) → h (Some (f r)) ≡ h (Some r)) where
  found-kept : (names : Names) (n m : Name) → h (registered_at (changed names m f) n) ≡ h (registered_at names n)
  found-kept [] n m = refl
  found-kept (e ∷ es) n m =
      let rest = found-kept es n m in
      elim (is_at (registered_name_cmp m) e.0) as (λ b. h (registered_at (cond b (e.0, f e.1) e ∷ changed es m f) n) ≡ h (registered_at (e ∷ es) n)) [
        | true ↦ elim (is_at (registered_name_cmp n) e.0) as (λ b. h (cond b (Some (f e.1)) (registered_at (changed es m f) n)) ≡ h (cond b (Some e.1) (registered_at es n))) [ true ↦ same e.1 | false ↦ rest ]
        | false ↦ elim (is_at (registered_name_cmp n) e.0) as (λ b. h (cond b (Some e.1) (registered_at (changed es m f) n)) ≡ h (cond b (Some e.1) (registered_at es n))) [ true ↦ refl | false ↦ rest ]
      ]

-- pins leave all but pins
pub pinned-kept : {X : Type 0} (h : Option Registered → X) (worker : ℕ) (user : Key) → ((r : Registered) → h (Some (with_pin worker user r)) ≡ h (Some r)) → (names : Names) (keys : List Key) (n : Name) → h (registered_at (pinned names worker user keys) n) ≡ h (registered_at names n)
pinned-kept h worker user same names [] n = refl
pinned-kept h worker user same names (k ∷ ks) n = pinned-kept h worker user same (changed names (name.Row k) (with_pin worker user)) ks n ∙ found-kept h (with_pin worker user) same names n (name.Row k)

-- pins leave what is live
live-kept : (worker : ℕ) (user : Key) (names : Names) (m : Name) (ns : List Name) → are_live (changed names m (with_pin worker user)) ns ≡ are_live names ns
live-kept worker user names m [] = refl
live-kept worker user names m (n ∷ ns) = ap₂ (λ a b. a && b) (found-kept (λ o. is_live (state_in o)) (with_pin worker user) (λ r. refl) names n m) (live-kept worker user names m ns)

-- a name that is live and pinned, and then others
pub live-next : (names new : Names) (worker : ℕ) (user : Key) (n : Name) (ns : List Name) → new ≡ changed names n (with_pin worker user) → is_live (state_of names n) ≡ true → are_live names (n ∷ ns) ≡ are_live new ns
live-next names new worker user n ns is live = ap (λ b. b && are_live names ns) live ∙ sym (live-kept worker user names n ns) ∙ sym (ap (λ l. are_live l ns) is)

pub first-live : (names : Names) (ks : List Key) → are_live names (map name.Row ks) ≡ true → first_not_live names ks ≡ None
first-live names [] is = refl
first-live names (k ∷ ks) is =
    let rest = first-live names ks in
    elim (is_live (state_of names (name.Row k))) as (λ b. (b && are_live names (map name.Row ks)) ≡ true → cond b (first_not_live names ks) (Some k) ≡ None) [ true ↦ rest | false ↦ λ h. absurd (false≢true h) ] is

pub first-not-live : (names : Names) (ks : List Key) → are_live names (map name.Row ks) ≡ false → first_not_live names ks ≡ None → ⊥
first-not-live names [] not = λ h. false≢true (sym not)
first-not-live names (k ∷ ks) not =
    let rest = first-not-live names ks in
    elim (is_live (state_of names (name.Row k))) as (λ b. (b && are_live names (map name.Row ks)) ≡ false → cond b (first_not_live names ks) (Some k) ≡ None → ⊥) [ true ↦ rest | false ↦ λ h none. none-some k (sym none) ] not

-- what is known of a name once one was removed
removed-found : (names : Names) (n m : Name) → IsStrictlySortedBy registered_name_cmp (keys_of names) → registered_at (remove_entry (is_at (registered_name_cmp n)) names) m ≡ cond (is_at (registered_name_cmp n) m) None (registered_at names m)
removed-found names n m sorted = lookup-removed registered_name_cmp name_total names n m sorted

removed-state : (b : Bool) (o : Option Registered) → b ≡ true → state_in (cond b None o) ≡ state.Absent
removed-state true o is = refl
removed-state false o is = cc

pub gone-absent : (names : Names) (n : Name) → IsStrictlySortedBy registered_name_cmp (keys_of names) → is_retiring (state_of names n) ≡ true → state_of (gone_from names n) n ≡ state.Absent
gone-absent names n sorted retiring =
    ap (λ b. state_of (cond b (remove_entry (is_at (registered_name_cmp n)) names) names) n) retiring
    ∙ ap state_in (removed-found names n n sorted)
    ∙ removed-state (is_at (registered_name_cmp n) n) (registered_at names n) (ap is_eq (tied_itself name_total n))

pub gone-others : (names : Names) (n m : Name) → IsStrictlySortedBy registered_name_cmp (keys_of names) → is_at (registered_name_cmp n) m ≡ false → registered_at (gone_from names n) m ≡ registered_at names m
gone-others names n m sorted other =
    let removed = removed-found names n m sorted ∙ cond-false (is_at (registered_name_cmp n) m) None (registered_at names m) other in
    elim (is_retiring (state_of names n)) as (λ b. registered_at (cond b (remove_entry (is_at (registered_name_cmp n)) names) names) m ≡ registered_at names m) [ true ↦ removed | false ↦ refl ]
