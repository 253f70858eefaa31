-- the identifiers that a legal call names are those of objects that stand
use Rattle.std.proofs.Common.{◌≡◌, ℕ, Bool, true, false, true≢false, List, [], ◌∷◌, ◌++◌, Option, None, Some, refl, sym, ap, subst}
use Rattle.std.specs.List.{AllByRecursion, list_all}
use Rattle.std.proofs.lemmas.Bool.{and_parts, false≢true}
use Rattle.std.proofs.lemmas.Option.{none-some}
use Rattle.sai_types.specs.After.{entry_of}
use Rattle.sai_types.specs.Made.{IsWhole}
use Rattle.sai_types.specs.Objects.{Objects, body_at, is_kind_of}
use Rattle.sai_types.specs.References.{attr_refers_well, base_reference, refers_well, stands, target_references}
use Rattle.sai_types.specs.Refusal.{refusal_of, remove_refusal}
use Rattle.sai_types.specs.declared.answer.ChipAnswer.TheVariants.{NotFound}
use Rattle.sai_types.specs.declared.ids.Rid.{Rid}
use Rattle.sai_types.specs.declared.kind.Kind.{Kind}
use Rattle.sai_types.specs.declared.kind.Kind.TheVariants as kind
use Rattle.sai_types.specs.declared.body.Attr.{Attr}
use Rattle.sai_types.specs.declared.body.Attr.TheVariants as attr
use Rattle.sai_types.specs.declared.body.Body.{Body}
use Rattle.sai_types.specs.declared.body.Body.TheVariants as body
use Rattle.sai_types.specs.declared.body.Call.{Call}
use Rattle.sai_types.specs.declared.body.Call.TheVariants as call
use Rattle.sai_types.specs.declared.body.Entry.{Entry}
use Rattle.sai_types.specs.declared.body.Entry.TheVariants as entry
use Rattle.sai_types.specs.declared.body.RifOn.{RifOn}
use Rattle.sai_types.specs.declared.body.RifOn.TheVariants as on
use Rattle.sai_types.specs.declared.body.To.{To}
use Rattle.sai_types.specs.declared.body.To.TheVariants as to
use Rattle.sai_types.proofs.Exact.{entry-exact}
use Rattle.sai_types.proofs.Legal.{legal-create, legal-set}
use Rattle.swss_types.specs.declared.address.Ip.{Ip}
use Rattle.swss_types.specs.declared.address.Prefix.{Prefix}
use Rattle.sai_record.specs.Build.{attr_ids, base_ids, body_ids, call_ids, entry_ids, router_ids, target_ids}

-- ---- what an entry has in it

abbrev pub id_in : Entry Rid → Rid
id_in (entry.Oid i) = i
id_in (entry.Neigh rif ip) = rif
id_in _ = record { 0 = 0 }

abbrev router_in : Entry Rid → Option Rid
router_in (entry.Own vr ip) = vr
router_in (entry.Route vr prefix) = vr
router_in _ = None

abbrev pub is_oid : Entry Rid → Bool
is_oid (entry.Oid i) = true
is_oid _ = false

abbrev is_own : Entry Rid → Bool
is_own (entry.Own vr ip) = true
is_own _ = false

abbrev is_neigh : Entry Rid → Bool
is_neigh (entry.Neigh rif ip) = true
is_neigh _ = false

abbrev is_route : Entry Rid → Bool
is_route (entry.Route vr prefix) = true
is_route _ = false

module _ (made : ℕ) (objects : Objects) (whole : IsWhole made objects) (P : Rid → Type 0) (found : (i : Rid) (b : Body Rid) → body_at objects (entry.Oid i) ≡ Some b → P i) where
  abbrev Known : List Rid → Type 0
  Known is = AllByRecursion P is

  reference : (k : Kind) (i : Rid) → stands objects (k, entry.Oid i) ≡ true → P i
  reference k i h = by (body_at objects (entry.Oid i)) refl h
    where
      by : (o : Option (Body Rid)) → body_at objects (entry.Oid i) ≡ o → is_kind_of k o ≡ true → P i
      by None is h' = absurd (false≢true h')
      by (Some b) is h' = found i b is

  -- a reference in front of others
  front : (k : Kind) (i : Rid) (rs : List (Kind × Entry Rid)) → list_all (stands objects) ((k, entry.Oid i) ∷ rs) ≡ true → P i
  front k i rs h = reference k i (and_parts (stands objects (k, entry.Oid i)) (list_all (stands objects) rs) h).0

  others : (k : Kind) (i : Rid) (rs : List (Kind × Entry Rid)) → list_all (stands objects) ((k, entry.Oid i) ∷ rs) ≡ true → list_all (stands objects) rs ≡ true
  others k i rs h = (and_parts (stands objects (k, entry.Oid i)) (list_all (stands objects) rs) h).1

  base_known : (b : RifOn Rid) → list_all (stands objects) (base_reference b ∷ []) ≡ true → Known (base_ids b)
  base_known (on.Port i) h = (front kind.Port i [] h, tt)
  base_known (on.Vlan i) h = (front kind.Vlan i [] h, tt)

  target_known : (t : To Rid) → list_all (stands objects) (target_references t) ≡ true → Known (target_ids t)
  target_known to.Drop h = tt
  target_known (to.Rif i) h = (front kind.Rif i [] h, tt)
  target_known (to.NextHop i) h = (front kind.NextHop i [] h, tt)
  target_known (to.Group i) h = (front kind.Group i [] h, tt)

  body_known : (b : Body Rid) → refers_well objects b ≡ true → Known (body_ids b)
  body_known (body.Port lanes speed mtu up) h = tt
  body_known (body.Vlan vlan) h = tt
  body_known (body.VirtualRouter label) h = tt
  body_known (body.BridgePort port) h = (front kind.Port port [] h, tt)
  body_known (body.VlanMember vlan bridge_port tagging) h =
      let rest = (kind.BridgePort, entry.Oid bridge_port) ∷ [] in
      (front kind.Vlan vlan rest h, (front kind.BridgePort bridge_port [] (others kind.Vlan vlan rest h), tt))
  body_known (body.Rif None b) h = base_known b h
  body_known (body.Rif (Some vr) b) h = let rest = base_reference b ∷ [] in (front kind.VirtualRouter vr rest h, base_known b (others kind.VirtualRouter vr rest h))
  body_known (body.OwnAddress None ip) h = tt
  body_known (body.OwnAddress (Some vr) ip) h = (front kind.VirtualRouter vr [] h, tt)
  body_known (body.Neighbor rif ip mac) h = (front kind.Rif rif [] h, tt)
  body_known (body.NextHop rif ip) h = (front kind.Rif rif ((kind.Neighbor, entry.Neigh rif ip) ∷ []) h, tt)
  body_known body.Group h = tt
  body_known (body.GroupMember group next_hop weight) h =
      let rest = (kind.NextHop, entry.Oid next_hop) ∷ [] in
      (front kind.Group group rest h, (front kind.NextHop next_hop [] (others kind.Group group rest h), tt))
  body_known (body.Route None prefix t) h = target_known t h
  body_known (body.Route (Some vr) prefix t) h = let rest = target_references t in (front kind.VirtualRouter vr rest h, target_known t (others kind.VirtualRouter vr rest h))

  -- ---- the entry of an object that stands

  own_known : (v : Option Rid) (ip : Ip) (n : ℕ) (b : Body Rid) → entry.Own v ip ≡ entry_of n b → Known (body_ids b) → Known (router_ids v)
  own_known v ip n (body.OwnAddress vr other) same h = subst (λ x. Known (router_ids x)) (sym (ap router_in same)) h
  own_known v ip n _ same h = absurd (true≢false (ap is_own same))

  neigh_known : (rif : Rid) (ip : Ip) (n : ℕ) (b : Body Rid) → entry.Neigh rif ip ≡ entry_of n b → Known (body_ids b) → Known (rif ∷ [])
  neigh_known rif ip n (body.Neighbor other ip' mac) same h = subst (λ x. Known (x ∷ [])) (sym (ap id_in same)) h
  neigh_known rif ip n _ same h = absurd (true≢false (ap is_neigh same))

  route_known : (v : Option Rid) (prefix : Prefix) (n : ℕ) (b : Body Rid) → entry.Route v prefix ≡ entry_of n b → Known (body_ids b) → Known (router_ids v)
  route_known v prefix n (body.Route None prefix' t) same h = subst (λ x. Known (router_ids x)) (sym (ap router_in same)) tt
  route_known v prefix n (body.Route (Some vr) prefix' t) same h = subst (λ x. Known (router_ids x)) (sym (ap router_in same)) (h.0, tt)
  route_known v prefix n _ same h = absurd (true≢false (ap is_route same))

  entry_known : (e : Entry Rid) (b : Body Rid) → body_at objects e ≡ Some b → Known (entry_ids e)
  entry_known (entry.Oid i) b at = (found i b at, tt)
  entry_known (entry.Own v ip) b at = let x = whole.entered.each (entry.Own v ip) b at in own_known v ip x.0 b (entry-exact _ _ x.2) (body_known b (whole.refer.each (entry.Own v ip) b at))
  entry_known (entry.Neigh rif ip) b at = let x = whole.entered.each (entry.Neigh rif ip) b at in neigh_known rif ip x.0 b (entry-exact _ _ x.2) (body_known b (whole.refer.each (entry.Neigh rif ip) b at))
  entry_known (entry.Route v prefix) b at = let x = whole.entered.each (entry.Route v prefix) b at in route_known v prefix x.0 b (entry-exact _ _ x.2) (body_known b (whole.refer.each (entry.Route v prefix) b at))

  -- ---- calls

  attr_known : (a : Attr Rid) → attr_refers_well objects a ≡ true → Known (attr_ids a)
  attr_known (attr.To t) h = target_known t h
  attr_known (attr.Speed s) h = tt
  attr_known (attr.Mtu m) h = tt
  attr_known (attr.Up u) h = tt
  attr_known (attr.Tagging t) h = tt
  attr_known (attr.Mac m) h = tt

  both_known : (is js : List Rid) → Known is → Known js → Known (is ++ js)
  both_known [] js h g = g
  both_known (i ∷ is) js h g = (h.0, both_known is js h.1 g)

  removed_known : (e : Entry Rid) (o : Option (Body Rid)) → body_at objects e ≡ o → remove_refusal objects e o ≡ None → Known (entry_ids e)
  removed_known e None at h = absurd (none-some NotFound (sym h))
  removed_known e (Some b) at h = entry_known e b at

  pub call-known : (capacities : List ℕ) (c : Call Rid) → refusal_of capacities objects c ≡ None → Known (call_ids c)
  call-known capacities (call.Create b) h = body_known b (legal-create capacities objects b h).0
  call-known capacities (call.Set e a) h = let x = legal-set objects a (body_at objects e) h in both_known (entry_ids e) (attr_ids a) (entry_known e x.0 x.1) (attr_known a x.2)
  call-known capacities (call.Remove e) h = removed_known e (body_at objects e) refl h
