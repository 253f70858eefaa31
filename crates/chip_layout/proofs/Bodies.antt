-- bodies of things, and the names in them
use Rattle.std.proofs.Common.{◌≡◌, inl, inr, ℕ, true, List, [], ◌∷◌, Option, None, Some, refl, sym, ap, ◌∙◌}
use Rattle.std.proofs.lemmas.Bool.{false≢true}
use Rattle.std.proofs.lemmas.Option.{cond_some, same_Some}
use Rattle.sai_types.specs.declared.ids.Rid.{Rid}
use Rattle.sai_types.specs.declared.hop.Base.{Base}
use Rattle.sai_types.specs.declared.hop.Base.TheVariants as base
use Rattle.sai_types.specs.declared.body.Body.{Body}
use Rattle.sai_types.specs.declared.body.Entry.TheVariants as entry
use Rattle.sai_types.specs.declared.thing.Goal.TheVariants as goal
use Rattle.sai_types.specs.declared.thing.Thing.{Thing}
use Rattle.sai_types.specs.declared.thing.Thing.TheVariants as thing
use Rattle.sai_types.specs.Alike.{IsIn}
use Rattle.sai_types.specs.Objects.{kind_of}
use Rattle.sai_types.specs.After.{entry_of}
use Rattle.sai_types.specs.Names as name
use Rattle.sai_types.specs.Names.{ThingName, name_of, name_kind, Refers, base_name, main_references, thing_router, with_router}
use Rattle.swss_types.specs.declared.vrf.Vrf.{Vrf}
use Rattle.swss_types.specs.declared.vrf.Vrf.TheVariants as vrf
use Rattle.chip_layout.specs.Bodies.{IsBody, IsAt, body_with, first_name, first_thing_name, is_numbered, router_name, second_name, second_of}
use Rattle.chip_layout.specs.Layout.{has_number}

pub kind-body_with : {I : Type 0} (t : Thing) (i j : I) → kind_of (body_with t i j) ≡ name_kind (name_of t)
kind-body_with (thing.Port p) i j = refl
kind-body_with (thing.Vlan v) i j = refl
kind-body_with _ i j = refl

-- the kind of a thing's body
pub kind-body : {I : Type 0} (at : ThingName → I → Type 0) (t : Thing) (b : Body I) → IsBody at t b → kind_of b ≡ name_kind (name_of t)
kind-body at t b x = ap kind_of x.body_is ∙ kind-body_with t x.first x.second

oid_entry_with : (n : ℕ) (t : Thing) (i j : Rid) → has_number t ≡ true → entry_of n (body_with t i j) ≡ entry.Oid (record { 0 = n })
oid_entry_with n (thing.Own v ip) i j h = absurd (false≢true h)
oid_entry_with n (thing.Neighbor hop mac) i j h = absurd (false≢true h)
oid_entry_with n (thing.Route v prefix goal) i j h = absurd (false≢true h)
oid_entry_with n _ i j h = refl

-- the entry of a thing's object that has an identifier
pub entry-body : (at : ThingName → Rid → Type 0) (n : ℕ) (t : Thing) (b : Body Rid) → IsBody at t b → has_number t ≡ true → entry_of n b ≡ entry.Oid (record { 0 = n })
entry-body at n t b x h = ap (entry_of n) x.body_is ∙ oid_entry_with n t x.first x.second h

at_kept : {I : Type 0} (at later : ThingName → I → Type 0) (o : Option ThingName) (i : I) → ((k : ThingName) → o ≡ Some k → at k i → later k i) → IsAt at o i → IsAt later o i
at_kept at later None i kept h = tt
at_kept at later (Some k) i kept h = kept k refl h

-- what an identifier of a thing's object names is a name that the thing refers to
first_name_in : (ks : List ThingName) (k : ThingName) → first_thing_name ks ≡ Some k → IsIn k ks
first_name_in [] k h = absurd cc
first_name_in (l ∷ ks) k h = inl (sym (same_Some l k h))

second_in : (ks : List ThingName) (k : ThingName) → second_of ks ≡ Some k → IsIn k ks
second_in [] k h = absurd cc
second_in (l ∷ []) k h = absurd cc
second_in (l ∷ m ∷ ks) k h = inr (inl (sym (cond_some (is_numbered (name_kind m)) m k h).1))

-- beside the virtual router
pub beside : (v : Vrf) (ks : List ThingName) (k : ThingName) → IsIn k ks → IsIn k (with_router v ks)
beside vrf.Default ks k h = h
beside (vrf.Named label) ks k h = inr h

router_in : (v : Vrf) (ks : List ThingName) (k : ThingName) → router_name v ≡ Some k → IsIn k (with_router v ks)
router_in vrf.Default ks k h = absurd cc
router_in (vrf.Named label) ks k h = inl (sym (same_Some (name.VirtualRouter label) k h))

pub first-refers : (t : Thing) (k : ThingName) → first_name t ≡ Some k → Refers t k
first-refers t k h = beside (thing_router t) (main_references t) k (first_name_in (main_references t) k h)

pub second-refers : (t : Thing) (k : ThingName) → second_name t ≡ Some k → Refers t k
second-refers (thing.Rif on v) k h = router_in v _ k h
second-refers (thing.Own v ip) k h = router_in v _ k h
second-refers (thing.Route v prefix goal) k h = router_in v _ k h
second-refers (thing.Port p) k h = absurd cc
second-refers (thing.Vlan v) k h = absurd cc
second-refers (thing.VirtualRouter label) k h = absurd cc
second-refers (thing.BridgePort lane) k h = second_in (main_references (thing.BridgePort lane)) k h
second-refers (thing.VlanMember v lane tagging) k h = second_in (main_references (thing.VlanMember v lane tagging)) k h
second-refers (thing.Neighbor hop mac) k h = second_in (main_references (thing.Neighbor hop mac)) k h
second-refers (thing.NextHop hop) k h = second_in (main_references (thing.NextHop hop)) k h
second-refers (thing.Group hops) k h = absurd cc
second-refers (thing.GroupMember hops whop) k h = second_in (main_references (thing.GroupMember hops whop)) k h

-- a body is still that of its thing where the names in it keep their identifiers
pub body-kept : {I : Type 0} (at later : ThingName → I → Type 0) (t : Thing) (b : Body I) → ((k : ThingName) (i : I) → Refers t k → at k i → later k i) → IsBody at t b → IsBody later t b
body-kept at later t b kept x = record {
  first = x.first;
  second = x.second;
  first_at = at_kept at later (first_name t) x.first (λ k is. kept k x.first (first-refers t k is)) x.first_at;
  second_at = at_kept at later (second_name t) x.second (λ k is. kept k x.second (second-refers t k is)) x.second_at;
  body_is = x.body_is;
}

base_numbered : (on : Base) → is_numbered (name_kind (base_name on)) ≡ true
base_numbered (base.Port lane) = refl
base_numbered (base.Vlan vlan) = refl

numbered_by : (k l : ThingName) → Some k ≡ Some l → is_numbered (name_kind k) ≡ true → is_numbered (name_kind l) ≡ true
numbered_by k l is h = let same : l ≡ k = cc in ap (λ x. is_numbered (name_kind x)) same ∙ h

-- what a thing's body refers to by identifiers has them
pub first-numbered : (t : Thing) (k : ThingName) → first_name t ≡ Some k → is_numbered (name_kind k) ≡ true
first-numbered (thing.BridgePort lane) k h = numbered_by _ k h refl
first-numbered (thing.VlanMember vlan lane tagging) k h = numbered_by _ k h refl
first-numbered (thing.Rif on v) k h = numbered_by _ k h (base_numbered on)
first-numbered (thing.Neighbor hop mac) k h = numbered_by _ k h refl
first-numbered (thing.NextHop hop) k h = numbered_by _ k h refl
first-numbered (thing.GroupMember hops hop) k h = numbered_by _ k h refl
first-numbered (thing.Route v prefix goal.Drop) k h = absurd cc
first-numbered (thing.Route v prefix (goal.Direct on)) k h = numbered_by _ k h refl
first-numbered (thing.Route v prefix (goal.Via hop)) k h = numbered_by _ k h refl
first-numbered (thing.Route v prefix (goal.Group hops)) k h = numbered_by _ k h refl
first-numbered _ k h = absurd cc

second_numbered : (ks : List ThingName) (k : ThingName) → second_of ks ≡ Some k → is_numbered (name_kind k) ≡ true
second_numbered [] k h = absurd cc
second_numbered (l ∷ []) k h = absurd cc
second_numbered (l ∷ m ∷ ks) k h = let parts = cond_some (is_numbered (name_kind m)) m k h in ap (λ x. is_numbered (name_kind x)) (sym parts.1) ∙ parts.0

router_numbered : (v : Vrf) (k : ThingName) → router_name v ≡ Some k → is_numbered (name_kind k) ≡ true
router_numbered vrf.Default k h = absurd cc
router_numbered (vrf.Named label) k h = numbered_by (name.VirtualRouter label) k h refl

pub second-numbered : (t : Thing) (k : ThingName) → second_name t ≡ Some k → is_numbered (name_kind k) ≡ true
second-numbered (thing.Rif on v) k h = router_numbered v k h
second-numbered (thing.Own v ip) k h = router_numbered v k h
second-numbered (thing.Route v prefix goal) k h = router_numbered v k h
second-numbered (thing.Port p) k h = absurd cc
second-numbered t k h = second_numbered (main_references t) k h

entry_same : (n m : ℕ) (t : Thing) (i j : Rid) → (has_number t ≡ true → n ≡ m) → entry_of n (body_with t i j) ≡ entry_of m (body_with t i j)
entry_same n m (thing.Own v ip) i j h = refl
entry_same n m (thing.Neighbor hop mac) i j h = refl
entry_same n m (thing.Route v prefix goal) i j h = refl
entry_same n m t i j h = ap (λ z. entry_of z (body_with t i j)) (h refl)

-- the number has a part in the entry only where the object has an identifier
pub entry-same : (at : ThingName → Rid → Type 0) (n m : ℕ) (t : Thing) (b : Body Rid) → IsBody at t b → (has_number t ≡ true → n ≡ m) → entry_of n b ≡ entry_of m b
entry-same at n m t b x h = ap (entry_of n) x.body_is ∙ entry_same n m t x.first x.second h ∙ ap (entry_of m) (sym x.body_is)
