-- with its identifiers changed one to one, a call is as legal as before
use Rattle.std.proofs.Common.{◌≡◌, inl, inr, ℕ, ◌==◌, Bool, true, false, not, ◌&&◌, ◌||◌, List, [], ◌∷◌, length, map, count_by, cond, Option, None, Some, option_map, if◌then◌else◌, refl, sym, ap, ap₂, ◌∙◌, subst, arith}
use Rattle.std.specs.Bool.{nat_le}
use Rattle.std.specs.Cmp.{both_ways}
use Rattle.std.specs.List.{list_all, list_any}
use Rattle.std.proofs.lemmas.Bool.{eq-eqb, false≢true}
use Rattle.std.proofs.lemmas.List.{length-map}
use Rattle.std.proofs.lemmas.List.Sums.{sum_by-cons}
use Rattle.swss_types.specs.declared.address.Ip.{Ip}
use Rattle.swss_types.specs.declared.address.Prefix.{Prefix}
use Rattle.std.proofs.lemmas.Option.{same_Some}
use Rattle.sai_types.specs.declared.answer.ChipAnswer.TheVariants.{BadReference, Exists, Full, InUse, NotFound}
use Rattle.sai_types.specs.declared.ids.Rid.{Rid}
use Rattle.sai_types.specs.declared.kind.Kind.{Kind}
use Rattle.sai_types.specs.declared.kind.Kind.TheVariants as kind
use Rattle.sai_types.specs.declared.body.Attr.{Attr}
use Rattle.sai_types.specs.declared.body.Attr.TheVariants as attr
use Rattle.sai_types.specs.declared.body.Body.{Body}
use Rattle.sai_types.specs.declared.body.Body.TheVariants as body
use Rattle.sai_types.specs.declared.body.Call.{Call}
use Rattle.sai_types.specs.declared.body.Call.TheVariants as call
use Rattle.sai_types.specs.declared.body.Entry.{Entry}
use Rattle.sai_types.specs.declared.body.Entry.TheVariants as entry
use Rattle.sai_types.specs.declared.body.RifOn.{RifOn}
use Rattle.sai_types.specs.declared.body.RifOn.TheVariants as on
use Rattle.sai_types.specs.declared.body.To.{To}
use Rattle.sai_types.specs.declared.body.To.TheVariants as to
use Rattle.sai_types.specs.Alike.{IsIn}
use Rattle.sai_types.specs.Made.{AreSorted, same_entry}
use Rattle.sai_types.specs.Objects.{Objects, body_at, is_of, kind_of, level, used}
use Rattle.sai_types.specs.References.{Reference, attr_references, attr_refers_well, beside_router, is_meant, references, refers_to, refers_well, stands, target_references}
use Rattle.sai_types.specs.Refusal.{capacity_of, clash, first_refusal, has_attr, refusal_of, remove_refusal, same_base, same_id, same_ip, same_prefix, same_router, set_refusal}
use Rattle.sai_types.proofs.Exact.{entry-exact, id-exact}
use Rattle.sai_types.proofs.Found.{same-refl}
use Rattle.sai_types.proofs.Listed.{apart-behind, found-in, in-found, sorted-behind}
use Rattle.chip_layout.specs.Counted.{AreDistinct}
use Rattle.chip_layout.specs.Renamed.{AreRenamed, attr_renamed, body_renamed, call_renamed, entry_renamed, on_renamed, to_renamed}
use Rattle.chip_layout.proofs.Counting.{count_one, count_skip, no-longer}

pub oids : (r s : Rid) → entry.Oid r ≡ entry.Oid s → r ≡ s
oids r s h = cc

pub neighs : (r s : Rid) (a b : Ip) → entry.Neigh r a ≡ entry.Neigh s b → (r ≡ s) × (a ≡ b)
neighs r s a b h = (cc, cc)

owns : (v w : Option Rid) (a b : Ip) → entry.Own v a ≡ entry.Own w b → (v ≡ w) × (a ≡ b)
owns v w a b h = (cc, cc)

routes : (v w : Option Rid) (p q : Prefix) → entry.Route v p ≡ entry.Route w q → (v ≡ w) × (p ≡ q)
routes v w p q h = (cc, cc)

-- ---- objects that pass a test

any_in : (p : Body Rid → Bool) (os : Objects) (e : Entry Rid) (b : Body Rid) → IsIn (e, b) os → p b ≡ true → list_any (λ o. p o.1) os ≡ true
any_in p [] e b h is = elim h [ ]
any_in p (o ∷ os) e b (inl at) is = ap (λ c. c || list_any (λ o. p o.1) os) (ap (λ (x : Entry Rid × Body Rid). p x.1) (sym at) ∙ is)
any_in p (o ∷ os) e b (inr h) is = or_true (p o.1) (list_any (λ o. p o.1) os) (any_in p os e b h is)
  where
    or_true : (x y : Bool) → y ≡ true → (x || y) ≡ true
    or_true true y h = refl
    or_true false y h = h

in_any : (p : Body Rid → Bool) (os : Objects) → list_any (λ o. p o.1) os ≡ true → (e : Entry Rid) × (b : Body Rid) × IsIn (e, b) os × (p b ≡ true)
in_any p [] h = absurd (false≢true h)
in_any p (o ∷ os) h = by (p o.1) refl h (in_any p os)
  where
    by : (t : Bool) → p o.1 ≡ t → (t || list_any (λ o. p o.1) os) ≡ true → (list_any (λ o. p o.1) os ≡ true → (e : Entry Rid) × (b : Body Rid) × IsIn (e, b) os × (p b ≡ true)) → (e : Entry Rid) × (b : Body Rid) × IsIn (e, b) (o ∷ os) × (p b ≡ true)
    by true is g behind = (o.0, o.1, inl refl, is)
    by false is g behind = let m = behind g in (m.0, m.1, inr m.2, m.3)

-- ---- the entries of the objects of a kind

abbrev entries : Kind → Objects → List (Entry Rid)
entries k [] = []
entries k (o ∷ os) = if is_of k o.1 then o.0 ∷ entries k os else entries k os

entries_count : (k : Kind) (os : Objects) → length (entries k os) ≡ count_by (λ o. is_of k o.1) os
entries_count k [] = refl
entries_count k (o ∷ os) = by (is_of k o.1) refl (entries_count k os)
  where
    by : (t : Bool) → is_of k o.1 ≡ t → length (entries k os) ≡ count_by (λ o. is_of k o.1) os → length (if t then o.0 ∷ entries k os else entries k os) ≡ count_by (λ o. is_of k o.1) (o ∷ os)
    by true is rest = count_one (is_of k o.1) (length (entries k os)) _ is rest ∙ sym (sum_by-cons (λ (x : Entry Rid × Body Rid). cond (is_of k x.1) 1 0) o os)
    by false is rest = count_skip (is_of k o.1) (length (entries k os)) _ is rest ∙ sym (sum_by-cons (λ (x : Entry Rid × Body Rid). cond (is_of k x.1) 1 0) o os)

in_entries : (k : Kind) (os : Objects) (e : Entry Rid) (b : Body Rid) → IsIn (e, b) os → is_of k b ≡ true → IsIn e (entries k os)
in_entries k [] e b h is = elim h [ ]
in_entries k (o ∷ os) e b h is = by (is_of k o.1) refl h (λ g. in_entries k os e b g is)
  where
    by : (t : Bool) → is_of k o.1 ≡ t → IsIn (e, b) (o ∷ os) → (IsIn (e, b) os → IsIn e (entries k os)) → IsIn e (if t then o.0 ∷ entries k os else entries k os)
    by true of (inl at) behind = inl (ap (λ (x : Entry Rid × Body Rid). x.0) at)
    by true of (inr g) behind = inr (behind g)
    by false of (inl at) behind = absurd (false≢true (sym of ∙ ap (λ (x : Entry Rid × Body Rid). is_of k x.1) (sym at) ∙ is))
    by false of (inr g) behind = behind g

abbrev with_body : Body Rid → Entry Rid → Entry Rid × Body Rid
with_body b e = (e, b)

entries_in : (k : Kind) (os : Objects) (e : Entry Rid) → IsIn e (entries k os) → (b : Body Rid) × IsIn (e, b) os × (is_of k b ≡ true)
entries_in k [] e h = elim h [ ]
entries_in k (o ∷ os) e h = by (is_of k o.1) refl h (entries_in k os e)
  where
    by : (t : Bool) → is_of k o.1 ≡ t → IsIn e (if t then o.0 ∷ entries k os else entries k os) → (IsIn e (entries k os) → (b : Body Rid) × IsIn (e, b) os × (is_of k b ≡ true)) → (b : Body Rid) × IsIn (e, b) (o ∷ os) × (is_of k b ≡ true)
    by true of (inl is) behind = (o.1, inl (ap (with_body o.1) is), of)
    by true of (inr g) behind = let m = behind g in (m.0, inr m.1, m.2)
    by false of g behind = let m = behind g in (m.0, inr m.1, m.2)

entries_distinct : (k : Kind) (os : Objects) → AreSorted os → AreDistinct (entries k os)
entries_distinct k [] sorted = tt
entries_distinct k (o ∷ os) sorted = by (is_of k o.1) (entries_distinct k os (sorted-behind o os sorted))
  where
    apart : IsIn o.0 (entries k os) → ⊥
    apart h = let m = entries_in k os o.0 h in false≢true (sym (apart-behind o os o.0 m.0 sorted m.1) ∙ same-refl o.0)

    by : (t : Bool) → AreDistinct (entries k os) → AreDistinct (if t then o.0 ∷ entries k os else entries k os)
    by true rest = (apart, rest)
    by false rest = rest

kind-renamed : (f : Rid → Rid) (b : Body Rid) → kind_of (body_renamed f b) ≡ kind_of b
kind-renamed f (body.Port lanes speed mtu up) = refl
kind-renamed f (body.Vlan vlan) = refl
kind-renamed f _ = refl

has_attr-renamed : (f : Rid → Rid) (b : Body Rid) (a : Attr Rid) → has_attr (body_renamed f b) (attr_renamed f a) ≡ has_attr b a
has_attr-renamed f (body.Port lanes speed mtu up) (attr.Speed s) = refl
has_attr-renamed f (body.VlanMember vlan bridge_port tagging) (attr.Tagging t) = refl
has_attr-renamed f (body.Neighbor rif ip mac) (attr.Mac m) = refl
has_attr-renamed f (body.Route vr prefix x) (attr.To y) = refl
has_attr-renamed f _ _ = refl

module _ (f : Rid → Rid) where
  abbrev reference_renamed : Reference Rid → Reference Rid
  reference_renamed r = (r.0, entry_renamed f r.1)

  targets_renamed : (t : To Rid) → target_references (to_renamed f t) ≡ map reference_renamed (target_references t)
  targets_renamed to.Drop = refl
  targets_renamed (to.Rif r) = refl
  targets_renamed (to.NextHop n) = refl
  targets_renamed (to.Group g) = refl

  router_renamed : (vr : Option Rid) (rs qs : List (Reference Rid)) → qs ≡ map reference_renamed rs → beside_router (option_map f vr) qs ≡ map reference_renamed (beside_router vr rs)
  router_renamed None rs qs h = h
  router_renamed (Some r) rs qs h = ap (λ z. (kind.VirtualRouter, entry.Oid (f r)) ∷ z) h

  references-renamed : (b : Body Rid) → references (body_renamed f b) ≡ map reference_renamed (references b)
  references-renamed (body.Rif vr (on.Port p)) = router_renamed vr _ _ refl
  references-renamed (body.Rif vr (on.Vlan v)) = router_renamed vr _ _ refl
  references-renamed (body.OwnAddress vr ip) = router_renamed vr [] [] refl
  references-renamed (body.Route vr prefix t) = router_renamed vr _ _ (targets_renamed t)
  references-renamed (body.Port lanes speed mtu up) = refl
  references-renamed _ = refl

  attr_references-renamed : (a : Attr Rid) → attr_references (attr_renamed f a) ≡ map reference_renamed (attr_references a)
  attr_references-renamed (attr.To t) = targets_renamed t
  attr_references-renamed (attr.Speed s) = refl
  attr_references-renamed _ = refl

  meant-renamed : (k : Kind) (e : Entry Rid) (o : Option (Body Rid)) → is_meant (k, entry_renamed f e) (option_map (body_renamed f) o) ≡ is_meant (k, e) o
  meant-renamed k (entry.Oid i) None = refl
  meant-renamed k (entry.Oid i) (Some b) = ap (λ z. level z == level k) (kind-renamed f b)
  meant-renamed k (entry.Own vr ip) None = refl
  meant-renamed k (entry.Own vr ip) (Some b) = refl
  meant-renamed k (entry.Neigh r ip) None = refl
  meant-renamed k (entry.Neigh r ip) (Some b) = refl
  meant-renamed k (entry.Route vr p) None = refl
  meant-renamed k (entry.Route vr p) (Some b) = refl

  module _ (objects others : Objects) (are : AreRenamed f objects others) where
    router_one : (v w : Option Rid) → option_map f v ≡ option_map f w → v ≡ w
    router_one None None h = refl
    router_one (Some a) (Some b) h = ap Some (are.one a b (same_Some (f a) (f b) h))
    router_one None (Some b) h = absurd cc
    router_one (Some a) None h = absurd cc

    entry_one : (e d : Entry Rid) → entry_renamed f e ≡ entry_renamed f d → e ≡ d
    entry_one (entry.Oid i) (entry.Oid j) h = ap entry.Oid (are.one i j (oids (f i) (f j) h))
    entry_one (entry.Own v a) (entry.Own w b) h = let parts = owns (option_map f v) (option_map f w) a b h in ap₂ (λ x y. entry.Own x y) (router_one v w parts.0) parts.1
    entry_one (entry.Neigh r a) (entry.Neigh s b) h = let parts = neighs (f r) (f s) a b h in ap₂ (λ x y. entry.Neigh x y) (are.one r s parts.0) parts.1
    entry_one (entry.Route v p) (entry.Route w q) h = let parts = routes (option_map f v) (option_map f w) p q h in ap₂ (λ x y. entry.Route x y) (router_one v w parts.0) parts.1
    entry_one _ _ h = absurd cc

    found : (e : Entry Rid) → body_at others (entry_renamed f e) ≡ option_map (body_renamed f) (body_at objects e)
    found e = by (body_at objects e) refl (body_at others (entry_renamed f e)) refl
      where
        by : (o : Option (Body Rid)) → body_at objects e ≡ o → (p : Option (Body Rid)) → body_at others (entry_renamed f e) ≡ p → p ≡ option_map (body_renamed f) o
        by (Some b) at p there = sym there ∙ are.each e b at
        by None at None there = refl
        by None at (Some b) there =
            let m = are.only (entry_renamed f e) b there in
            let same = sym at ∙ ap (body_at objects) (entry_one e m.0 m.3) ∙ m.2 in
            absurd cc

    id_same : (i j : Rid) → same_id (f i) (f j) ≡ same_id i j
    id_same i j =
        both_ways (same_id (f i) (f j)) (same_id i j)
        (λ h. eq-eqb i.0 j.0 (ap (λ (r : Rid). r.0) (are.one i j (id-exact (f i) (f j) h))))
        (λ h. eq-eqb (f i).0 (f j).0 (ap (λ (r : Rid). (f r).0) (id-exact i j h)))

    entry_same : (a e : Entry Rid) → same_entry (entry_renamed f a) (entry_renamed f e) ≡ same_entry a e
    entry_same a e =
        both_ways (same_entry (entry_renamed f a) (entry_renamed f e)) (same_entry a e)
        (λ h. ap (same_entry a) (sym (entry_one a e (entry-exact (entry_renamed f a) (entry_renamed f e) h))) ∙ same-refl a)
        (λ h. ap (λ z. same_entry (entry_renamed f a) (entry_renamed f z)) (sym (entry-exact a e h)) ∙ same-refl (entry_renamed f a))

    base_same : (a b : RifOn Rid) → same_base (on_renamed f a) (on_renamed f b) ≡ same_base a b
    base_same (on.Port a) (on.Port b) = id_same a b
    base_same (on.Vlan a) (on.Vlan b) = id_same a b
    base_same (on.Port a) (on.Vlan b) = refl
    base_same (on.Vlan a) (on.Port b) = refl

    router_same : (v w : Option Rid) → same_router (option_map f v) (option_map f w) ≡ same_router v w
    router_same None None = refl
    router_same None (Some b) = refl
    router_same (Some a) None = refl
    router_same (Some a) (Some b) = id_same a b

    clash_same : (b d : Body Rid) → clash (body_renamed f b) (body_renamed f d) ≡ clash b d
    clash_same (body.Port lanes speed mtu up) (body.Port others s m u) = refl
    clash_same (body.Vlan v) (body.Vlan w) = refl
    clash_same (body.VirtualRouter m) (body.VirtualRouter n) = refl
    clash_same (body.OwnAddress v a) (body.OwnAddress w b) = ap (λ x. x && same_ip a b) (router_same v w)
    clash_same (body.Route v p t) (body.Route w q u) = ap (λ x. x && same_prefix p q) (router_same v w)
    clash_same (body.BridgePort p) (body.BridgePort q) = id_same p q
    clash_same (body.VlanMember v p t) (body.VlanMember w q u) = ap₂ (λ x y. x && y) (id_same v w) (id_same p q)
    clash_same (body.Rif v a) (body.Rif w b) = base_same a b
    clash_same (body.Neighbor r ip mac) (body.Neighbor s other mac') = ap (λ x. x && same_ip ip other) (id_same r s)
    clash_same (body.NextHop r ip) (body.NextHop s other) = ap (λ x. x && same_ip ip other) (id_same r s)
    clash_same (body.GroupMember g n v) (body.GroupMember h m w) = ap₂ (λ x y. x && y) (id_same g h) (id_same n m)
    clash_same _ _ = refl

    stands_same : (r : Reference Rid) → stands others (reference_renamed r) ≡ stands objects r
    stands_same r = ap (is_meant (reference_renamed r)) (found r.1) ∙ meant-renamed r.0 r.1 (body_at objects r.1)

    all_same : (rs : List (Reference Rid)) → list_all (stands others) (map reference_renamed rs) ≡ list_all (stands objects) rs
    all_same [] = refl
    all_same (r ∷ rs) = ap₂ (λ x y. x && y) (stands_same r) (all_same rs)

    well_same : (b : Body Rid) → refers_well others (body_renamed f b) ≡ refers_well objects b
    well_same b = ap (list_all (stands others)) (references-renamed b) ∙ all_same (references b)

    attr_same : (a : Attr Rid) → attr_refers_well others (attr_renamed f a) ≡ attr_refers_well objects a
    attr_same a = ap (list_all (stands others)) (attr_references-renamed a) ∙ all_same (attr_references a)

    any_reference : (e : Entry Rid) (rs : List (Reference Rid)) → list_any (λ r. same_entry r.1 (entry_renamed f e)) (map reference_renamed rs) ≡ list_any (λ r. same_entry r.1 e) rs
    any_reference e [] = refl
    any_reference e (r ∷ rs) = ap₂ (λ x y. x || y) (entry_same r.1 e) (any_reference e rs)

    refers_same : (e : Entry Rid) (d : Body Rid) → refers_to (body_renamed f d) (entry_renamed f e) ≡ refers_to d e
    refers_same e d = ap (list_any (λ r. same_entry r.1 (entry_renamed f e))) (references-renamed d) ∙ any_reference e (references d)

    module _ (sorted : AreSorted objects) (sorted' : AreSorted others) where
      any_same : (p q : Body Rid → Bool) → ((d : Body Rid) → p (body_renamed f d) ≡ q d) → list_any (λ o. p o.1) others ≡ list_any (λ o. q o.1) objects
      any_same p q same =
          both_ways (list_any (λ o. p o.1) others) (list_any (λ o. q o.1) objects)
          (λ h.
          let m = in_any p others h in
          let o = are.only m.0 m.1 (found-in others m.0 m.1 sorted' m.2) in
          let i = in-found objects o.0 o.1 o.2 in
          any_in q objects i.0 o.1 i.2 (sym (same o.1) ∙ ap p (sym o.4) ∙ m.3))
          (λ h.
          let m = in_any q objects h in
          let i = in-found others (entry_renamed f m.0) (body_renamed f m.1) (are.each m.0 m.1 (found-in objects m.0 m.1 sorted m.2)) in
          any_in p others i.0 (body_renamed f m.1) i.2 (same m.1 ∙ m.3))

      -- the objects of a kind have each other's entries
      into : (k : Kind) (e : Entry Rid) → IsIn e (entries k objects) → IsIn (entry_renamed f e) (entries k others)
      into k e h =
          let m = entries_in k objects e h in
          let i = in-found others (entry_renamed f e) (body_renamed f m.0) (are.each e m.0 (found-in objects e m.0 sorted m.1)) in
          let at : IsIn (entry_renamed f e, body_renamed f m.0) others = subst (λ z. IsIn (z, body_renamed f m.0) others) (sym (entry-exact (entry_renamed f e) i.0 i.1)) i.2 in
          in_entries k others (entry_renamed f e) (body_renamed f m.0) at (ap (λ z. level z == level k) (kind-renamed f m.0) ∙ m.2)

      back : (k : Kind) (e : Entry Rid) → IsIn e (entries k others) → (d : Entry Rid) × IsIn d (entries k objects) × (e ≡ entry_renamed f d)
      back k e h =
          let m = entries_in k others e h in
          let o = are.only e m.0 (found-in others e m.0 sorted' m.1) in
          let i = in-found objects o.0 o.1 o.2 in
          let at : IsIn (o.0, o.1) objects = subst (λ z. IsIn (z, o.1) objects) (sym (entry-exact o.0 i.0 i.1)) i.2 in
          (o.0, in_entries k objects o.0 o.1 at (ap (λ z. level z == level k) (sym (kind-renamed f o.1)) ∙ ap (is_of k) (sym o.4) ∙ m.2), o.3)

      in_map : (es : List (Entry Rid)) (e : Entry Rid) → IsIn e es → IsIn (entry_renamed f e) (map (entry_renamed f) es)
      in_map [] e h = elim h [ ]
      in_map (d ∷ es) e (inl is) = inl (ap (entry_renamed f) is)
      in_map (d ∷ es) e (inr h) = inr (in_map es e h)

      was_in : (es : List (Entry Rid)) (e : Entry Rid) → IsIn e (map (entry_renamed f) es) → (d : Entry Rid) × IsIn d es × (e ≡ entry_renamed f d)
      was_in [] e h = elim h [ ]
      was_in (d ∷ es) e (inl is) = (d, inl refl, is)
      was_in (d ∷ es) e (inr h) = let m = was_in es e h in (m.0, inr m.1, m.2)

      map_distinct : (es : List (Entry Rid)) → AreDistinct es → AreDistinct (map (entry_renamed f) es)
      map_distinct [] d = tt
      map_distinct (e ∷ es) d = (λ h. let m = was_in es (entry_renamed f e) h in d.0 (subst (λ z. IsIn z es) (sym (entry_one e m.0 m.2)) m.1), map_distinct es d.1)

      used_same : (k : Kind) → used others k ≡ used objects k
      used_same k =
          let mapped = map (entry_renamed f) (entries k objects) in
          let less = no-longer mapped (entries k others) (map_distinct (entries k objects) (entries_distinct k objects sorted)) (λ e h. let m = was_in (entries k objects) e h in subst (λ z. IsIn z (entries k others)) (sym m.2) (into k m.0 m.1)) in
          let more = no-longer (entries k others) mapped (entries_distinct k others sorted') (λ e h. let m = back k e h in subst (λ z. IsIn z mapped) (sym m.2) (in_map (entries k objects) m.0 m.1)) in
          let count = length-map (entries k objects) (entry_renamed f) in
          let one = entries_count k objects in
          let two = entries_count k others in
          omega (arith, less, more, count, one, two)

      set_by : (capacities : List ℕ) (o : Option (Body Rid)) (a : Attr Rid) → set_refusal others (option_map (body_renamed f) o) (attr_renamed f a) ≡ set_refusal objects o a
      set_by capacities None a = refl
      set_by capacities (Some b) a = ap₂ (λ x y. first_refusal (not x) NotFound (first_refusal (not y) BadReference None)) (has_attr-renamed f b a) (attr_same a)

      remove_by : (e : Entry Rid) (o : Option (Body Rid)) → remove_refusal others (entry_renamed f e) (option_map (body_renamed f) o) ≡ remove_refusal objects e o
      remove_by e None = refl
      remove_by e (Some b) = ap (λ x. first_refusal x InUse None) (any_same (λ d. refers_to d (entry_renamed f e)) (λ d. refers_to d e) (refers_same e))

      -- a call is refused for the reason for which it was refused before, or is legal as before
      pub refusal-renamed : (capacities : List ℕ) (c : Call Rid) → refusal_of capacities others (call_renamed f c) ≡ refusal_of capacities objects c
      refusal-renamed capacities (call.Create b) =
          let room : nat_le (capacity_of capacities (kind_of (body_renamed f b))) (used others (kind_of (body_renamed f b))) ≡ nat_le (capacity_of capacities (kind_of b)) (used objects (kind_of b)) = ap (λ k. nat_le (capacity_of capacities k) (used others k)) (kind-renamed f b) ∙ ap (nat_le (capacity_of capacities (kind_of b))) (used_same (kind_of b)) in
          ap₂ (λ x y. first_refusal (not x) BadReference (first_refusal y Exists (first_refusal (nat_le (capacity_of capacities (kind_of (body_renamed f b))) (used others (kind_of (body_renamed f b)))) Full None))) (well_same b) (any_same (clash (body_renamed f b)) (clash b) (clash_same b))
          ∙ ap (λ z. first_refusal (not (refers_well objects b)) BadReference (first_refusal (list_any (λ o. clash b o.1) objects) Exists (first_refusal z Full None))) room
      refusal-renamed capacities (call.Set e a) = ap (λ o. set_refusal others o (attr_renamed f a)) (found e) ∙ set_by capacities (body_at objects e) a
      refusal-renamed capacities (call.Remove e) = ap (remove_refusal others (entry_renamed f e)) (found e) ∙ remove_by e (body_at objects e)
