-- references that stand, after a call
use Rattle.std.proofs.Common.{◌≡◌, Bool, true, false, List, [], ◌∷◌, Option, None, Some, refl}
use Rattle.std.specs.List.{list_all, list_any}
use Rattle.std.proofs.lemmas.Bool.{and_from, and_parts, or_parts}
use Rattle.sai_types.specs.declared.ids.Rid.{Rid}
use Rattle.sai_types.specs.declared.body.Attr.{Attr}
use Rattle.sai_types.specs.declared.body.Attr.TheVariants as attr
use Rattle.sai_types.specs.declared.body.Body.{Body}
use Rattle.sai_types.specs.declared.body.Body.TheVariants as body
use Rattle.sai_types.specs.declared.body.Entry.{Entry}
use Rattle.sai_types.specs.After.{with_attr}
use Rattle.sai_types.specs.Made.{same_entry}
use Rattle.sai_types.specs.Objects.{Objects}
use Rattle.sai_types.specs.References.{Reference, attr_refers_well, beside_router, references, refers_to, refers_well, stands, target_references}

-- what passes one test passes another
pub all-kept : {X : Type 0} (p q : X → Bool) → ((x : X) → p x ≡ true → q x ≡ true) → (xs : List X) → list_all p xs ≡ true → list_all q xs ≡ true
all-kept p q kept [] h = refl
all-kept p q kept (x ∷ xs) h = let parts = and_parts (p x) (list_all p xs) h in and_from (q x) (list_all q xs) (kept x parts.0) (all-kept p q kept xs parts.1)

-- what a removal or another call leaves: what stands but the object with entry e
module _ (xs ys : Objects) (e : Entry Rid) (left : (r : Reference Rid) → same_entry r.1 e ≡ false → stands xs r ≡ true → stands ys r ≡ true) where
  all_left : (rs : List (Reference Rid)) → list_any (λ r. same_entry r.1 e) rs ≡ false → list_all (stands xs) rs ≡ true → list_all (stands ys) rs ≡ true
  all_left [] apart well = refl
  all_left (r ∷ rs) apart well =
      let others = or_parts (same_entry r.1 e) (list_any (λ q. same_entry q.1 e) rs) apart in
      let stood = and_parts (stands xs r) (list_all (stands xs) rs) well in
      and_from (stands ys r) (list_all (stands ys) rs) (left r others.0 stood.0) (all_left rs others.1 stood.1)

  -- what refers well and not to e refers well where e is gone
  pub refers_well-left : (b : Body Rid) → refers_to b e ≡ false → refers_well xs b ≡ true → refers_well ys b ≡ true
  refers_well-left b = all_left (references b)

-- what passes with the virtual router in front and without it
with_kept : (p : Reference Rid → Bool) (vr : Option Rid) (rs qs : List (Reference Rid)) → list_all p qs ≡ true → list_all p (beside_router vr rs) ≡ true → list_all p (beside_router vr qs) ≡ true
with_kept p None rs qs t h = t
with_kept p (Some r) rs qs t h = and_from _ _ (and_parts _ _ h).0 t

-- a body with a new value refers well where its new target stands
pub refers_well-with_attr : (objects : Objects) (b : Body Rid) (a : Attr Rid) → attr_refers_well objects a ≡ true → refers_well objects b ≡ true → refers_well objects (with_attr b a) ≡ true
refers_well-with_attr objects (body.Port lanes speed mtu up) (attr.Speed s) t h = refl
refers_well-with_attr objects (body.Port lanes speed mtu up) (attr.Mtu m) t h = refl
refers_well-with_attr objects (body.Port lanes speed mtu up) (attr.Up u) t h = refl
refers_well-with_attr objects (body.VlanMember vlan bridge_port tagging) (attr.Tagging x) t h = h
refers_well-with_attr objects (body.Neighbor rif ip mac) (attr.Mac m) t h = h
refers_well-with_attr objects (body.Route vr prefix to) (attr.To x) t h = with_kept (stands objects) vr (target_references to) (target_references x) t h
refers_well-with_attr objects _ _ t h = h
