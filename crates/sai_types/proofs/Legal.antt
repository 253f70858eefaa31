-- what a legal call has, and that what it makes has an entry of its own
use Rattle.std.proofs.Common.{◌≡◌, ℕ, ◌+◌, ◌≤◌, ◌==◌, Bool, true, false, List, Option, None, Some, refl, sym, ◌∙◌, arith, rules}
use Rattle.std.specs.Cmp.{both_tied}
use Rattle.std.specs.List.{list_any}
use Rattle.std.proofs.lemmas.Bool.{eqb-true, false≢true, not-false}
use Rattle.swss_types.specs.contracts.address.IpOrd.TheImpl.Laws as ordered_ip
use Rattle.sai_types.specs.declared.ids.Rid.{Rid}
use Rattle.sai_types.specs.declared.answer.ChipAnswer.{ChipAnswer}
use Rattle.sai_types.specs.declared.body.Attr.{Attr}
use Rattle.sai_types.specs.declared.body.Body.{Body}
use Rattle.sai_types.specs.declared.body.Body.TheVariants as body
use Rattle.sai_types.specs.declared.body.Entry.{Entry}
use Rattle.sai_types.specs.declared.body.Entry.TheVariants as entry
use Rattle.sai_types.specs.Objects.{Objects, body_at}
use Rattle.sai_types.specs.Refusal.{clash, first_refusal, create_refusal, set_refusal, remove_refusal}
use Rattle.sai_types.specs.After.{entry_of}
use Rattle.sai_types.specs.References.{attr_refers_well, refers_to, refers_well}
use Rattle.sai_types.specs.Made.{same_entry, AreEntered}
use Rattle.sai_types.proofs.Exact.{owns-tied, routes-tied}
use Rattle.sai_types.proofs.Found.{any-found}

pub first_of-none : (b : Bool) (a : ChipAnswer) (rest : Option ChipAnswer) → first_refusal b a rest ≡ None → (b ≡ false) × (rest ≡ None)
first_of-none false a rest h = (refl, h)
first_of-none true a rest h = absurd cc

pub legal-create : (capacities : List ℕ) (objects : Objects) (b : Body Rid) → create_refusal capacities objects b ≡ None → (refers_well objects b ≡ true) × (list_any (λ o. clash b o.1) objects ≡ false)
legal-create capacities objects b h =
    let one = first_of-none _ _ _ h in
    let two = first_of-none _ _ _ one.1 in (not-false (refers_well objects b) one.0, two.0)

pub legal-set : (objects : Objects) (a : Attr Rid) (o : Option (Body Rid)) → set_refusal objects o a ≡ None → (b : Body Rid) × (o ≡ Some b) × (attr_refers_well objects a ≡ true)
legal-set objects a None h = absurd cc
legal-set objects a (Some b) h =
    let one = first_of-none _ _ _ h in
    let two = first_of-none _ _ _ one.1 in (b, refl, not-false (attr_refers_well objects a) two.0)

pub legal-remove : (objects : Objects) (e : Entry Rid) (o : Option (Body Rid)) → remove_refusal objects e o ≡ None → list_any (λ o. refers_to o.1 e) objects ≡ false
legal-remove objects e None h = absurd cc
legal-remove objects e (Some b) h = (first_of-none _ _ _ h).0

id_same : (a b : ℕ) → same_entry (entry.Oid (record { 0 = a })) (entry.Oid (record { 0 = b })) ≡ (a == b)
id_same a b = search rules

same_numbers : (a b : ℕ) → same_entry (entry.Oid (record { 0 = a })) (entry.Oid (record { 0 = b })) ≡ true → a ≡ b
same_numbers a b h = eqb-true a b (sym (id_same a b) ∙ h)

next_apart : (made n : ℕ) → n ≤ made → made + 1 ≡ n → ⊥
next_apart made n le h = omega arith

number_taken : (made n : ℕ) (d : Body Rid) → n ≤ made → same_entry (entry.Oid (record { 0 = made + 1 })) (entry_of n d) ≡ true → ⊥
number_taken made n (body.OwnAddress vr ip) le h = false≢true h
number_taken made n (body.Neighbor rif ip mac) le h = false≢true h
number_taken made n (body.Route vr prefix to) le h = false≢true h
number_taken made n _ le h = next_apart made n le (same_numbers (made + 1) n h)

-- no object has the entry of a new one
entry_taken : (made n : ℕ) (b d : Body Rid) → n ≤ made → same_entry (entry_of (made + 1) b) (entry_of n d) ≡ true → clash b d ≡ false → ⊥
entry_taken made n (body.OwnAddress vr ip) (body.OwnAddress vr' other) le h apart = false≢true (sym apart ∙ sym (owns-tied vr vr' ip other) ∙ h)
entry_taken made n (body.OwnAddress vr ip) _ le h apart = false≢true h
entry_taken made n (body.Neighbor r ip mac) (body.Neighbor s other mac') le h apart = false≢true (sym apart ∙ both_tied _ _ _ _ (sym (id_same r.0 s.0)) (ordered_ip.matches_eq-law ip other) ∙ h)
entry_taken made n (body.Neighbor r ip mac) _ le h apart = false≢true h
entry_taken made n (body.Route vr prefix to) (body.Route vr' other to') le h apart = false≢true (sym apart ∙ sym (routes-tied vr vr' prefix other) ∙ h)
entry_taken made n (body.Route vr prefix to) _ le h apart = false≢true h
entry_taken made n _ d le h apart = number_taken made n d le h

not_found : (o : Option (Body Rid)) → ((d : Body Rid) → o ≡ Some d → ⊥) → o ≡ None
not_found None f = refl
not_found (Some d) f = absurd (f d refl)

pub fresh : (made : ℕ) (objects : Objects) (b : Body Rid) → AreEntered made objects → list_any (λ o. clash b o.1) objects ≡ false → body_at objects (entry_of (made + 1) b) ≡ None
fresh made objects b entered none = not_found (body_at objects (entry_of (made + 1) b)) (λ d h.
    let at = entered.each (entry_of (made + 1) b) d h in
    entry_taken made at.0 b d at.1 at.2 (any-found (clash b) objects (entry_of (made + 1) b) d none h))
