-- objects whose identifiers are all greater by the same number, as on a chip that made so many before: what stands, and what is refused, is alike
use Rattle.std.proofs.Common.{◌≡◌, ℕ, ◌+◌, ◌<◌, ◌==◌, ltb, Bool, true, false, cond, List, [], ◌∷◌, Option, None, Some, option_map, refl, sym, ap, ap₂, ◌∙◌, if◌then◌else◌, arith}
use Rattle.std.specs.declared.cmp.Ordering.{Ordering}
use Rattle.std.specs.declared.cmp.Ordering.TheVariants.{Less, Equal, Greater}
use Rattle.std.specs.BTreeMap.{insert_entry, is_at}
use Rattle.std.specs.Map.{remove_entry}
use Rattle.std.specs.Ordering.{is_eq, match_ordering, nat_cmp, ordering_then}
use Rattle.std.proofs.lemmas.Bool.{eq-eqb, eqb-true, lt-ltb, ltb-true}
use Rattle.std.proofs.lemmas.Option.{none-some, same_Some}
use Rattle.chip_layout.specs.Renamed.{AreRenamed, attr_renamed, body_renamed, call_renamed, entry_renamed, on_renamed, to_renamed}
use Rattle.chip_layout.proofs.Legality.{refusal-renamed}
use Rattle.sai_types.specs.After.{after_call, after_set, entry_of, with_attr}
use Rattle.sai_types.specs.Made.{AreSorted}
use Rattle.sai_types.specs.Named.{base_on, body_port, body_router, body_vlan, both, bridge_port_at, bridge_port_of, goal_by, hop_on, hops_among, hops_at, named, next_hop_at, next_hop_of, port_at, put_hop, rif_at, rif_of, router_at, thing_of, things_among, vlan_at, whop_at, with_member}
use Rattle.sai_types.specs.Objects.{Objects, body_at, entry_cmp}
use Rattle.sai_types.specs.Refusal.{refusal_of}
use Rattle.sai_types.specs.declared.ids.Rid.{Rid}
use Rattle.sai_types.specs.declared.hop.Base.{Base}
use Rattle.sai_types.specs.declared.hop.Base.TheVariants as base
use Rattle.sai_types.specs.declared.hop.Hop.{Hop}
use Rattle.sai_types.specs.declared.weight.WHop.{WHop}
use Rattle.sai_types.specs.declared.thing.Goal.TheVariants as goal
use Rattle.sai_types.specs.declared.thing.Thing.TheVariants as thing
use Rattle.sai_types.specs.declared.body.Attr.{Attr}
use Rattle.sai_types.specs.declared.body.Attr.TheVariants as attr
use Rattle.sai_types.specs.declared.body.Body.{Body}
use Rattle.sai_types.specs.declared.body.Body.TheVariants as body
use Rattle.sai_types.specs.declared.body.Call.{Call}
use Rattle.sai_types.specs.declared.body.Call.TheVariants as call
use Rattle.sai_types.specs.declared.body.Entry.{Entry}
use Rattle.sai_types.specs.declared.body.Entry.TheVariants as entry
use Rattle.sai_types.specs.declared.body.RifOn.{RifOn}
use Rattle.sai_types.specs.declared.body.RifOn.TheVariants as on
use Rattle.sai_types.specs.declared.body.To.{To}
use Rattle.sai_types.specs.declared.body.To.TheVariants as to
use Rattle.sai_types.proofs.Exact.{entry-exact}
use Rattle.sai_types.proofs.Found.{same-refl}
use Rattle.swss_types.specs.declared.address.Ip.{Ip}
use Rattle.swss_types.specs.declared.vrf.Vrf.TheVariants as vrf

abbrev pub later : ℕ → Rid → Rid
later k i = record { 0 = i.0 + k }

abbrev pub later_objects : ℕ → Objects → Objects
later_objects k [] = []
later_objects k (o ∷ os) = (entry_renamed (later k) o.0, body_renamed (later k) o.1) ∷ later_objects k os

same_test : (s t : Bool) → (s ≡ true → t ≡ true) → (t ≡ true → s ≡ true) → s ≡ t
same_test true true f g = refl
same_test true false f g = sym (f refl)
same_test false true f g = g refl
same_test false false f g = refl

number_less : (k a b : ℕ) → ltb (a + k) (b + k) ≡ ltb a b
number_less k a b =
    same_test (ltb (a + k) (b + k)) (ltb a b)
    (λ h. let less : a + k < b + k = ltb-true (a + k) (b + k) h in lt-ltb a b (omega (arith, less)))
    (λ h. let less : a < b = ltb-true a b h in lt-ltb (a + k) (b + k) (omega (arith, less)))

number_equal : (k a b : ℕ) → (a + k == b + k) ≡ (a == b)
number_equal k a b =
    same_test (a + k == b + k) (a == b)
    (λ h. let same : a + k ≡ b + k = eqb-true (a + k) (b + k) h in eq-eqb a b (omega (arith, same)))
    (λ h. eq-eqb (a + k) (b + k) (ap (λ n. n + k) (eqb-true a b h)))

number_order : (k a b : ℕ) → nat_cmp (a + k) (b + k) ≡ nat_cmp a b
number_order k a b = ap₂ (λ s t. cond s Less (cond t Equal Greater)) (number_less k a b) (number_equal k a b)

then_same : (x y r : Ordering) → x ≡ y → ordering_then x r ≡ ordering_then y r
then_same x y r h = ap (λ z. ordering_then z r) h

module _ (k : ℕ) where
  abbrev E : Entry Rid → Entry Rid
  E e = entry_renamed (later k) e

  abbrev B : Body Rid → Body Rid
  B b = body_renamed (later k) b

  -- ---- entries are in the same order

  entry_order : (e f : Entry Rid) → entry_cmp (E e) (E f) ≡ entry_cmp e f
  entry_order (entry.Oid a) (entry.Oid b) = number_order k a.0 b.0
  entry_order (entry.Own None a) (entry.Own None b) = refl
  entry_order (entry.Own None a) (entry.Own (Some w) b) = refl
  entry_order (entry.Own (Some v) a) (entry.Own None b) = refl
  entry_order (entry.Own (Some v) a) (entry.Own (Some w) b) = then_same _ _ _ (number_order k v.0 w.0)
  entry_order (entry.Neigh a x) (entry.Neigh b y) = then_same _ _ _ (number_order k a.0 b.0)
  entry_order (entry.Route None p) (entry.Route None q) = refl
  entry_order (entry.Route None p) (entry.Route (Some w) q) = refl
  entry_order (entry.Route (Some v) p) (entry.Route None q) = refl
  entry_order (entry.Route (Some v) p) (entry.Route (Some w) q) = then_same _ _ _ (number_order k v.0 w.0)
  entry_order _ _ = refl

  -- ---- what a call leaves

  insert_later : (os : Objects) (e : Entry Rid) (b : Body Rid) → insert_entry entry_cmp (later_objects k os) (E e) (B b) ≡ later_objects k (insert_entry entry_cmp os e b)
  insert_later [] e b = refl
  insert_later (o ∷ os) e b =
      ap₂ (λ r rest. match_ordering r ((E e, B b) ∷ (E o.0, B o.1) ∷ later_objects k os) ((E o.0, B b) ∷ later_objects k os) ((E o.0, B o.1) ∷ rest)) (entry_order e o.0) (insert_later os e b)
      ∙ by (entry_cmp e o.0)
    where
      by : (r : Ordering) → match_ordering r ((E e, B b) ∷ (E o.0, B o.1) ∷ later_objects k os) ((E o.0, B b) ∷ later_objects k os) ((E o.0, B o.1) ∷ later_objects k (insert_entry entry_cmp os e b)) ≡ later_objects k (match_ordering r ((e, b) ∷ o ∷ os) ((o.0, b) ∷ os) (o ∷ insert_entry entry_cmp os e b))
      by Less = refl
      by Equal = refl
      by Greater = refl

  remove_later : (os : Objects) (e : Entry Rid) → remove_entry (is_at (entry_cmp (E e))) (later_objects k os) ≡ later_objects k (remove_entry (is_at (entry_cmp e)) os)
  remove_later [] e = refl
  remove_later (o ∷ os) e =
      ap₂ (λ r rest. cond (is_eq r) (later_objects k os) ((E o.0, B o.1) ∷ rest)) (entry_order e o.0) (remove_later os e)
      ∙ by (is_at (entry_cmp e) o.0)
    where
      by : (t : Bool) → cond t (later_objects k os) ((E o.0, B o.1) ∷ later_objects k (remove_entry (is_at (entry_cmp e)) os)) ≡ later_objects k (cond t os (o ∷ remove_entry (is_at (entry_cmp e)) os))
      by true = refl
      by false = refl

  found_later : (os : Objects) (e : Entry Rid) → body_at (later_objects k os) (E e) ≡ option_map B (body_at os e)
  found_later [] e = refl
  found_later (o ∷ os) e =
      ap₂ (λ r rest. cond (is_eq r) (Some (B o.1)) rest) (entry_order e o.0) (found_later os e)
      ∙ by (is_at (entry_cmp e) o.0)
    where
      by : (t : Bool) → cond t (Some (B o.1)) (option_map B (body_at os e)) ≡ option_map B (cond t (Some o.1) (body_at os e))
      by true = refl
      by false = refl

  entry_of_later : (n : ℕ) (b : Body Rid) → entry_of (n + k) (B b) ≡ E (entry_of n b)
  entry_of_later n (body.OwnAddress vr ip) = refl
  entry_of_later n (body.Neighbor rif ip mac) = refl
  entry_of_later n (body.Route vr prefix to) = refl
  entry_of_later n _ = refl

  with_attr_later : (b : Body Rid) (a : Attr Rid) → with_attr (B b) (attr_renamed (later k) a) ≡ B (with_attr b a)
  with_attr_later (body.Port lanes speed mtu up) (attr.Speed s) = refl
  with_attr_later (body.Port lanes speed mtu up) (attr.Mtu m) = refl
  with_attr_later (body.Port lanes speed mtu up) (attr.Up u) = refl
  with_attr_later (body.VlanMember vlan bridge_port tagging) (attr.Tagging t) = refl
  with_attr_later (body.Neighbor rif ip mac) (attr.Mac m) = refl
  with_attr_later (body.Route vr prefix to) (attr.To t) = refl
  with_attr_later _ _ = refl

  set_later : (os : Objects) (e : Entry Rid) (a : Attr Rid) (o : Option (Body Rid)) → after_set (later_objects k os) (E e) (attr_renamed (later k) a) (option_map B o) ≡ later_objects k (after_set os e a o)
  set_later os e a None = refl
  set_later os e a (Some b) = ap (insert_entry entry_cmp (later_objects k os) (E e)) (with_attr_later b a) ∙ insert_later os e (with_attr b a)

  pub after-later : (n : ℕ) (os : Objects) (c : Call Rid) → after_call (n + k) (later_objects k os) (call_renamed (later k) c) ≡ later_objects k (after_call n os c)
  after-later n os (call.Create b) = ap (λ e. insert_entry entry_cmp (later_objects k os) e (B b)) (entry_of_later n b) ∙ insert_later os (entry_of n b) b
  after-later n os (call.Set e a) = ap (after_set (later_objects k os) (E e) (attr_renamed (later k) a)) (found_later os e) ∙ set_later os e a (body_at os e)
  after-later n os (call.Remove e) = remove_later os e

  -- ---- what is refused

  one : (i j : Rid) → later k i ≡ later k j → i ≡ j
  one i j h = let by : i.0 + k ≡ j.0 + k = ap (λ (r : Rid). r.0) h in let same : i.0 ≡ j.0 = omega (arith, by) in ap (λ n. record { 0 = n }) same

  only : (os : Objects) (e : Entry Rid) (b : Body Rid) → body_at (later_objects k os) e ≡ Some b → (d : Entry Rid) × (c : Body Rid) × (body_at os d ≡ Some c) × (e ≡ E d) × (b ≡ B c)
  only [] e b h = absurd (none-some b h)
  only (o ∷ os) e b h = by (only os e b) (is_at (entry_cmp e) (E o.0)) refl h
    where
      by : (body_at (later_objects k os) e ≡ Some b → (d : Entry Rid) × (c : Body Rid) × (body_at os d ≡ Some c) × (e ≡ E d) × (b ≡ B c)) → (t : Bool) → is_at (entry_cmp e) (E o.0) ≡ t → cond t (Some (B o.1)) (body_at (later_objects k os) e) ≡ Some b → (d : Entry Rid) × (c : Body Rid) × (body_at (o ∷ os) d ≡ Some c) × (e ≡ E d) × (b ≡ B c)
      by rest true at found = (o.0, o.1, ap (λ t. cond t (Some o.1) (body_at os o.0)) (same-refl o.0), entry-exact e (E o.0) at, sym (same_Some (B o.1) b found))
      by rest false at found =
          let x = rest found in
          let apart : is_at (entry_cmp x.0) o.0 ≡ false = sym (ap is_eq (entry_order x.0 o.0)) ∙ ap (λ y. is_at (entry_cmp y) (E o.0)) (sym x.3) ∙ at in
          (x.0, x.1, ap (λ t. cond t (Some o.1) (body_at os x.0)) apart ∙ x.2, x.3, x.4)

  renamed : (os : Objects) → AreRenamed (later k) os (later_objects k os)
  renamed os = record { one = one; each = λ e b h. found_later os e ∙ ap (option_map B) h; only = only os }

  pub refusal-later : (capacities : List ℕ) (os : Objects) (c : Call Rid) → AreSorted os → AreSorted (later_objects k os) → refusal_of capacities (later_objects k os) (call_renamed (later k) c) ≡ refusal_of capacities os c
  refusal-later capacities os c sorted sorted' = refusal-renamed (later k) os (later_objects k os) (renamed os) sorted sorted' capacities c

  -- ---- what stands

  port_later : (os : Objects) (r : Rid) → port_at (later_objects k os) (later k r) ≡ port_at os r
  port_later os r = ap body_port (found_later os (entry.Oid r)) ∙ by (body_at os (entry.Oid r))
    where
      by : (o : Option (Body Rid)) → body_port (option_map B o) ≡ body_port o
      by None = refl
      by (Some (body.Port lanes speed mtu up)) = refl
      by (Some _) = refl

  vlan_later : (os : Objects) (r : Rid) → vlan_at (later_objects k os) (later k r) ≡ vlan_at os r
  vlan_later os r = ap body_vlan (found_later os (entry.Oid r)) ∙ by (body_at os (entry.Oid r))
    where
      by : (o : Option (Body Rid)) → body_vlan (option_map B o) ≡ body_vlan o
      by None = refl
      by (Some (body.Vlan vlan)) = refl
      by (Some _) = refl

  router_later : (os : Objects) (vr : Option Rid) → router_at (later_objects k os) (option_map (later k) vr) ≡ router_at os vr
  router_later os None = refl
  router_later os (Some r) = ap (λ o. option_map vrf.Named (body_router o)) (found_later os (entry.Oid r)) ∙ ap (option_map vrf.Named) (by (body_at os (entry.Oid r)))
    where
      by : (o : Option (Body Rid)) → body_router (option_map B o) ≡ body_router o
      by None = refl
      by (Some (body.VirtualRouter label)) = refl
      by (Some _) = refl

  bridge_port_later : (os : Objects) (r : Rid) → bridge_port_at (later_objects k os) (later k r) ≡ bridge_port_at os r
  bridge_port_later os r = ap (bridge_port_of (later_objects k os)) (found_later os (entry.Oid r)) ∙ by (body_at os (entry.Oid r))
    where
      by : (o : Option (Body Rid)) → bridge_port_of (later_objects k os) (option_map B o) ≡ bridge_port_of os o
      by None = refl
      by (Some (body.BridgePort port)) = port_later os port
      by (Some _) = refl

  base_later : (os : Objects) (b : RifOn Rid) → base_on (later_objects k os) (on_renamed (later k) b) ≡ base_on os b
  base_later os (on.Port p) = ap (option_map base.Port) (port_later os p)
  base_later os (on.Vlan v) = ap (option_map base.Vlan) (vlan_later os v)

  rif_later : (os : Objects) (r : Rid) → rif_at (later_objects k os) (later k r) ≡ rif_at os r
  rif_later os r = ap (rif_of (later_objects k os)) (found_later os (entry.Oid r)) ∙ by (body_at os (entry.Oid r))
    where
      by : (o : Option (Body Rid)) → rif_of (later_objects k os) (option_map B o) ≡ rif_of os o
      by None = refl
      by (Some (body.Rif vr b)) = base_later os b
      by (Some _) = refl

  hop_later : (os : Objects) (rif : Rid) (ip : Ip) → hop_on (later_objects k os) (later k rif) ip ≡ hop_on os rif ip
  hop_later os rif ip = let of : Base → Hop = λ b. record { on = b; ip = ip } in ap (option_map of) (rif_later os rif)

  next_hop_later : (os : Objects) (r : Rid) → next_hop_at (later_objects k os) (later k r) ≡ next_hop_at os r
  next_hop_later os r = ap (next_hop_of (later_objects k os)) (found_later os (entry.Oid r)) ∙ by (body_at os (entry.Oid r))
    where
      by : (o : Option (Body Rid)) → next_hop_of (later_objects k os) (option_map B o) ≡ next_hop_of os o
      by None = refl
      by (Some (body.NextHop rif ip)) = hop_later os rif ip
      by (Some _) = refl

  whop_later : (os : Objects) (r : Rid) (weight : ℕ) → whop_at (later_objects k os) (later k r) weight ≡ whop_at os r weight
  whop_later os r weight = let of : Hop → WHop = λ h. record { hop = h; weight = weight } in ap (option_map of) (next_hop_later os r)

  member_later : (os : Objects) (g : Rid) (b : Body Rid) (others : Option (List WHop)) → with_member (later_objects k os) (later k g) (B b) others ≡ with_member os g b others
  member_later os g (body.GroupMember group next_hop weight) others =
      ap₂ (λ t w. if t then both put_hop others w else others) (number_equal k group.0 g.0) (whop_later os next_hop weight)
  member_later os g _ others = refl

  hops_later : (os : Objects) (g : Rid) (among : Objects) → hops_among (later_objects k os) (later k g) (later_objects k among) ≡ hops_among os g among
  hops_later os g [] = refl
  hops_later os g (o ∷ among) = ap (with_member (later_objects k os) (later k g) (B o.1)) (hops_later os g among) ∙ member_later os g o.1 (hops_among os g among)

  goal_later : (os : Objects) (t : To Rid) → goal_by (hops_at (later_objects k os)) (later_objects k os) (to_renamed (later k) t) ≡ goal_by (hops_at os) os t
  goal_later os to.Drop = refl
  goal_later os (to.Rif r) = ap (option_map goal.Direct) (rif_later os r)
  goal_later os (to.NextHop n) = ap (option_map goal.Via) (next_hop_later os n)
  goal_later os (to.Group g) = ap (option_map goal.Group) (hops_later os g os)

  thing_later : (os : Objects) (e : Entry Rid) (b : Body Rid) → thing_of (later_objects k os) (E e, B b) ≡ thing_of os (e, b)
  thing_later os e (body.Port lanes speed mtu up) = refl
  thing_later os e (body.Vlan vlan) = refl
  thing_later os e (body.VirtualRouter label) = refl
  thing_later os e (body.BridgePort port) = ap (option_map thing.BridgePort) (port_later os port)
  thing_later os e (body.VlanMember vlan bridge_port tagging) = ap₂ (λ x y. both (λ v p. thing.VlanMember v p tagging) x y) (vlan_later os vlan) (bridge_port_later os bridge_port)
  thing_later os e (body.Rif vr b) = ap₂ (λ x y. both thing.Rif x y) (base_later os b) (router_later os vr)
  thing_later os e (body.OwnAddress vr ip) = ap (option_map (λ v. thing.Own v ip)) (router_later os vr)
  thing_later os e (body.Neighbor rif ip mac) = ap (option_map (λ h. thing.Neighbor h mac)) (hop_later os rif ip)
  thing_later os e (body.NextHop rif ip) = ap (option_map thing.NextHop) (hop_later os rif ip)
  thing_later os (entry.Oid g) body.Group = ap (option_map thing.Group) (hops_later os g os)
  thing_later os _ body.Group = refl
  thing_later os e (body.GroupMember group next_hop weight) = ap₂ (λ x y. both thing.GroupMember x y) (hops_later os group os) (whop_later os next_hop weight)
  thing_later os e (body.Route vr prefix t) = ap₂ (λ x y. both (λ v g. thing.Route v prefix g) x y) (router_later os vr) (goal_later os t)

  things_later : (os among : Objects) → things_among (later_objects k os) (later_objects k among) ≡ things_among os among
  things_later os [] = refl
  things_later os (o ∷ among) = ap₂ (λ x xs. x ∷ xs) (thing_later os o.0 o.1) (things_later os among)

  pub named-later : (os : Objects) → named (later_objects k os) ≡ named os
  named-later os = things_later os os
