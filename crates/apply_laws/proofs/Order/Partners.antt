-- a new thing and an old one of its name are those of paired objects, and back
use Rattle.std.proofs.Common.{zero, suc, ◌≡◌, inl, inr, ℕ, ◌<◌, ◌≤◌, Bool, true, false, ◌&&◌, nat_lt, List, [], ◌∷◌, map, Option, None, Some, option_map, refl, sym, ap, ap₂, ◌∙◌, subst, arith}
use Rattle.std.specs.List.{slice_get}
use Rattle.std.proofs.lemmas.Bool.{and_from, and_parts, false≢true, ltb-true}
use Rattle.std.proofs.lemmas.Option.{same_Some}
use Rattle.std.proofs.lemmas.Bool.Decides.{nat_tests}
use Rattle.swss_types.proofs.Proper.{mapped}
use Rattle.sai_types.specs.declared.ids.Rid.{Rid}
use Rattle.sai_types.specs.declared.body.Body.{Body}
use Rattle.sai_types.specs.declared.body.Body.TheVariants as body
use Rattle.sai_types.specs.declared.body.Entry.{Entry}
use Rattle.sai_types.specs.declared.body.Entry.TheVariants as entry
use Rattle.sai_types.specs.declared.weight.WHop.{WHop}
use Rattle.sai_types.specs.declared.thing.Thing.{Thing}
use Rattle.sai_types.specs.declared.thing.Thing.TheVariants as thing
use Rattle.sai_types.specs.Alike.{IsIn}
use Rattle.sai_types.specs.Named.{both, first_lane, hops_at, thing_by, thing_of, things_among, whop_at}
use Rattle.sai_types.proofs.Found.{same-refl}
use Rattle.sai_types.proofs.Things.{both_mapped}
use Rattle.chip_layout.proofs.Answering.{those_in}
use Rattle.plan_laws.proofs.Targets.{is-group, is-member}
use Rattle.sai_types.specs.Names as name
use Rattle.sai_types.specs.Names.{ThingName, name_of}
use Rattle.sai_types.specs.Objects.{Objects, body_at}
use Rattle.sai_types.proofs.Exact.{entry-exact}
use Rattle.sai_types.proofs.Listed.{found-in, in-found}
use Rattle.sai_types.proofs.Membership.{map-in}
use Rattle.chip_layout.specs.Seen.{tagged}
use Rattle.plan_laws.specs.Applied.{IsListedChip, IsView}
use Rattle.plan_laws.specs.Old.{chip_groups, group_stays, is_double, old_layout, same_hops, shown_hops, tag_of}
use Rattle.plan_laws.proofs.Doubles.{group_found, least, member_group, member_old, names, new_group, stays_if, tag_is}
use Rattle.plan_laws.proofs.Lists.{any-in, in-any}
use Rattle.plan_laws.proofs.Named.{same_hops_exact, hops_refl}
use Rattle.plan_laws.proofs.Starting.{hops-there, rises}
use Rattle.plan_laws.proofs.Tagging.{all-groups, stays-apart, tags-apart}
use Rattle.view_match.specs.declared.key.NaturalKey.{NaturalKey}
use Rattle.view_match.specs.declared.key.NaturalKey.TheVariants as key
use Rattle.view_match.specs.Keys.{natural_key_of, keys_of_objects}
use Rattle.view_match.specs.Paired.{ComesFirst, HasKey}
use Rattle.view_match.specs.Pairs.{group_number, group_of}

-- ---- places

abbrev pub Object : Type 0
Object = Entry Rid × Body Rid

pub in-place : {X : Type 0} (xs : List X) (x : X) → IsIn x xs → (n : ℕ) × (slice_get xs n ≡ Some x)
in-place [] x h = elim h [ ]
in-place (y ∷ xs) x (inl is) = (0, ap Some (sym is))
in-place (y ∷ xs) x (inr h) = let rest = in-place xs x h in (suc rest.0, rest.1)

pub place-in : {X : Type 0} (xs : List X) (n : ℕ) (x : X) → slice_get xs n ≡ Some x → IsIn x xs
place-in [] n x h = absurd cc
place-in (y ∷ xs) zero x h = let same : y ≡ x = cc in inl (sym same)
place-in (y ∷ xs) (suc n) x h = inr (place-in xs n x h)

pub key_at : (objects os : Objects) (n : ℕ) (e : Entry Rid) (b : Body Rid) → slice_get os n ≡ Some (e, b) → slice_get (map (option_map natural_key_of) (things_among objects os)) n ≡ Some (option_map natural_key_of (thing_of objects (e, b)))
key_at objects [] n e b h = absurd cc
key_at objects (o ∷ os) zero e b h = let same : o ≡ (e, b) = cc in ap (λ x. Some (option_map natural_key_of (thing_of objects x))) same
key_at objects (o ∷ os) (suc n) e b h = key_at objects os n e b h

pub at_key : (objects os : Objects) (n : ℕ) (k : NaturalKey) → slice_get (map (option_map natural_key_of) (things_among objects os)) n ≡ Some (Some k) → (o : Object) × (x : Thing) × (slice_get os n ≡ Some o) × (thing_of objects o ≡ Some x) × (natural_key_of x ≡ k)
at_key objects [] n k h = absurd cc
at_key objects (o ∷ os) zero k h = by (thing_of objects o) refl h
  where
    by : (t : Option Thing) → thing_of objects o ≡ t → Some (option_map natural_key_of t) ≡ Some (Some k) → (p : Object) × (x : Thing) × (Some o ≡ Some p) × (thing_of objects p ≡ Some x) × (natural_key_of x ≡ k)
    by None e same = absurd cc
    by (Some x) e same = (o, x, refl, e, cc)
at_key objects (o ∷ os) (suc n) k h = at_key objects os n k h

-- ---- names and keys

abbrev key_name : NaturalKey → ThingName
key_name (key.Port lanes) = name.Port (first_lane lanes)
key_name (key.Vlan vlan) = name.Vlan vlan
key_name (key.VirtualRouter label) = name.VirtualRouter label
key_name (key.BridgePort lane) = name.BridgePort lane
key_name (key.VlanMember vlan lane) = name.VlanMember vlan lane
key_name (key.Rif on) = name.Rif on
key_name (key.Own v ip) = name.Own v ip
key_name (key.Neighbor hop) = name.Neighbor hop
key_name (key.NextHop hop) = name.NextHop hop
key_name (key.Group hops) = name.Group hops
key_name (key.GroupMember hops hop) = name.GroupMember hops hop
key_name (key.Route v prefix) = name.Route v prefix

name_by_key : (t : Thing) → key_name (natural_key_of t) ≡ name_of t
name_by_key (thing.Port p) = refl
name_by_key (thing.Vlan v) = refl
name_by_key (thing.VirtualRouter m) = refl
name_by_key (thing.BridgePort n) = refl
name_by_key (thing.VlanMember v n g) = refl
name_by_key (thing.Rif b v) = refl
name_by_key (thing.Own v a) = refl
name_by_key (thing.Neighbor h m) = refl
name_by_key (thing.NextHop h) = refl
name_by_key (thing.Group hs) = refl
name_by_key (thing.GroupMember hs h) = refl
name_by_key (thing.Route v p g) = refl

pub key-name : (t u : Thing) → natural_key_of t ≡ natural_key_of u → name_of t ≡ name_of u
key-name t u e = sym (name_by_key t) ∙ ap key_name e ∙ name_by_key u

-- ---- the thing that an object shows, and its tagged one

module _ {made : ℕ} {objects : Objects} (chip : IsListedChip made objects) (new : List Thing) (view : IsView new) where
  abbrev tag : Rid → List WHop
  tag = tag_of objects new

  abbrev hops : Rid → List WHop
  hops = shown_hops objects

  group_in : (tags : List WHop) (hop : WHop) → IsIn (thing.GroupMember tags hop) new → IsIn (thing.Group tags) new
  group_in tags hop i = let k = view.within.refers (thing.GroupMember tags hop) (name.Group tags) i (inl refl) in subst (λ z. IsIn z new) (is-group k.0 tags k.2) k.1

  -- ---- groups on the chip

  seen_group : (h : Rid) → IsIn h (chip_groups objects) → old_layout objects new h (thing.Group (tag h))
  seen_group h i = record { entry = entry.Oid h; body = body.Group; found = group_found chip new view h i; at = same-refl (entry.Oid h); thing = refl; none = λ e. absurd (false≢true (sym e)) }

  hops_are : (h : Rid) → IsIn h (chip_groups objects) → hops_at objects h ≡ Some (hops h)
  hops_are h i = hops-there chip new h (tag h) (seen_group h i)

  -- the place of an object, and its key there
  record IsPlaced (e : Entry Rid) (b : Body Rid) (k : NaturalKey) : Type 0 where
    place : ℕ
    at : slice_get objects place ≡ Some (e, b)
    key : HasKey objects place k

  placed : (e : Entry Rid) (b : Body Rid) (x : Thing) → IsIn (e, b) objects → thing_of objects (e, b) ≡ Some x → IsPlaced e b (natural_key_of x)
  placed e b x i is =
      let n = in-place objects (e, b) i in
      record { place = n.0; at = n.1; key = key_at objects objects n.0 e b n.1 ∙ ap (λ o. Some (option_map natural_key_of o)) is }

  pub among : (e : Entry Rid) (b : Body Rid) → body_at objects e ≡ Some b → IsIn (e, b) objects
  among e b found =
      let o = in-found objects e b found in
      subst (λ f. IsIn (f, b) objects) (sym (entry-exact e o.0 o.1)) o.2

  -- an object comes before no other of its key, so its group is no greater
  no_greater : (i n : ℕ) (e f : Entry Rid) (b c : Body Rid) → slice_get objects i ≡ Some (e, b) → slice_get objects n ≡ Some (f, c) → ComesFirst objects i n → group_number (e, b) ≤ group_number (f, c)
  no_greater i n e f b c at there h =
      let one : group_of (slice_get objects i) ≡ group_number (e, b) = ap group_of at in
      let two : group_of (slice_get objects n) ≡ group_number (f, c) = ap group_of there in
      elim h [ inl less ↦ omega (arith, less, one, two) | inr same ↦ let is = same.0 in omega (arith, is, one, two) ]

  -- another group of the same hops and a lesser number
  record HasLesser (g : Rid) : Type 0 where
    other : Rid
    there : IsIn other (chip_groups objects)
    less : other.0 < g.0
    same : hops other ≡ hops g

  lesser : (g : Rid) → is_double objects g ≡ true → HasLesser g
  lesser g e =
      let x = any-in (λ h. nat_lt h.0 g.0 && same_hops (hops h) (hops g)) (chip_groups objects) e in
      let parts = and_parts (nat_lt x.0.0 g.0) (same_hops (hops x.0) (hops g)) x.2 in
      record { other = x.0; there = x.1; less = ltb-true x.0.0 g.0 parts.0; same = same_hops_exact (hops x.0) (hops g) parts.1 }

  single : (g : Rid) → (HasLesser g → ⊥) → is_double objects g ≡ false
  single g none = by (is_double objects g) refl
    where
      by : (b : Bool) → is_double objects g ≡ b → b ≡ false
      by true e = absurd (none (lesser g e))
      by false e = refl

  -- the group that comes first of those with its hops is no double
  first_group : (g : Rid) (i : ℕ) → slice_get objects i ≡ Some (entry.Oid g, body.Group) → ((n : ℕ) → HasKey objects n (key.Group (hops g)) → ComesFirst objects i n) → is_double objects g ≡ false
  first_group g i at first = single g (λ l.
      let p = placed (entry.Oid l.other) body.Group (thing.Group (hops l.other)) (among (entry.Oid l.other) body.Group (group_found chip new view l.other l.there)) (ap (option_map thing.Group) (hops_are l.other l.there)) in
      let low = no_greater i p.place (entry.Oid g) (entry.Oid l.other) body.Group body.Group at p.at (first p.place (ap (λ h. slice_get (keys_of_objects objects) p.place) l.same ∙ p.key ∙ ap (λ h. Some (Some (key.Group h))) l.same)) in
      let less = l.less in
      omega (arith, low, less))

  -- ---- members

  -- a tagged member is that of an object
  record IsMember (b : Body Rid) (tags : List WHop) (hop : WHop) : Type 0 where
    group : Rid
    next : Rid
    weight : ℕ
    is : b ≡ body.GroupMember group next weight
    tag_is : tag group ≡ tags
    hop_is : whop_at objects next weight ≡ Some hop

  member_of : (e : Entry Rid) (b : Body Rid) (tags : List WHop) (hop : WHop) → thing_by (tagged tag) objects (e, b) ≡ Some (thing.GroupMember tags hop) → IsMember b tags hop
  member_of e (body.GroupMember g n weight) tags hop h =
      let m = both_mapped thing.GroupMember (Some (tag g)) (whop_at objects n weight) (thing.GroupMember tags hop) h in
      let parts = member_parts m.0 tags m.1 hop m.4 in
      record { group = g; next = n; weight = weight; is = refl; tag_is = same_Some (tag g) m.0 m.2 ∙ parts.0; hop_is = m.3 ∙ ap Some parts.1 }
    where
      member_parts : (a c : List WHop) (x y : WHop) → thing.GroupMember a x ≡ thing.GroupMember c y → (a ≡ c) × (x ≡ y)
      member_parts a c x y e = (cc, cc)
  member_of e (body.Port l s m u) tags hop h = absurd cc
  member_of e (body.Vlan v) tags hop h = absurd cc
  member_of e (body.VirtualRouter m) tags hop h = absurd cc
  member_of e (body.BridgePort p) tags hop h = let m = mapped thing.BridgePort _ (thing.GroupMember tags hop) h in absurd cc
  member_of e (body.VlanMember v p g) tags hop h = let m = both_mapped _ _ _ (thing.GroupMember tags hop) h in absurd cc
  member_of e (body.Rif vr on) tags hop h = let m = both_mapped thing.Rif _ _ (thing.GroupMember tags hop) h in absurd cc
  member_of e (body.OwnAddress vr ip) tags hop h = let m = mapped (λ v. thing.Own v ip) _ (thing.GroupMember tags hop) h in absurd cc
  member_of e (body.Neighbor r ip mac) tags hop h = let m = mapped (λ x. thing.Neighbor x mac) _ (thing.GroupMember tags hop) h in absurd cc
  member_of e (body.NextHop r ip) tags hop h = let m = mapped thing.NextHop _ (thing.GroupMember tags hop) h in absurd cc
  member_of (entry.Oid g) body.Group tags hop h = absurd cc
  member_of (entry.Own vr ip) body.Group tags hop h = absurd cc
  member_of (entry.Neigh r ip) body.Group tags hop h = absurd cc
  member_of (entry.Route vr p) body.Group tags hop h = absurd cc
  member_of e (body.Route vr p t) tags hop h = let m = both_mapped (λ v g. thing.Route v p g) _ _ (thing.GroupMember tags hop) h in absurd cc

  is_lesser : (m n : ℕ) → m < n → nat_lt m n ≡ true
  is_lesser m n h = grind (arith, nat_tests)

  not_double : (g other : Rid) → IsIn other (chip_groups objects) → hops other ≡ hops g → is_double objects g ≡ false → g.0 ≤ other.0
  not_double g other i same single = by (nat_lt other.0 g.0) refl
    where
      no_lesser : (m n : ℕ) → nat_lt m n ≡ false → n ≤ m
      no_lesser m n h = grind (arith, nat_tests)

      by : (b : Bool) → nat_lt other.0 g.0 ≡ b → g.0 ≤ other.0
      by true e = absurd (false≢true (sym single ∙ in-any (λ h. nat_lt h.0 g.0 && same_hops (hops h) (hops g)) (chip_groups objects) other i (and_from _ _ e (ap (λ hs. same_hops hs (hops g)) same ∙ hops_refl (hops g)))))
      by false e = no_lesser other.0 g.0 e

  member_shows : (e : Entry Rid) (b : Body Rid) (g n : Rid) (weight : ℕ) (hop : WHop) → IsIn g (chip_groups objects) → b ≡ body.GroupMember g n weight → whop_at objects n weight ≡ Some hop → thing_of objects (e, b) ≡ Some (thing.GroupMember (hops g) hop)
  member_shows e b g n weight hop i is at = ap (λ x. thing_of objects (e, x)) is ∙ ap₂ (both thing.GroupMember) (hops_are g i) at

  number_of : (e : Entry Rid) (g n : Rid) (weight : ℕ) → group_number (e, body.GroupMember g n weight) ≡ g.0
  number_of (entry.Oid r) g n weight = refl
  number_of (entry.Own vr ip) g n weight = refl
  number_of (entry.Neigh r ip) g n weight = refl
  number_of (entry.Route vr p) g n weight = refl

  member_number : (e : Entry Rid) (b : Body Rid) (g n : Rid) (weight : ℕ) → b ≡ body.GroupMember g n weight → group_number (e, b) ≡ g.0
  member_number e b g n weight is = ap (λ x. group_number (e, x)) is ∙ number_of e g n weight

  -- the group of a member that comes first is no double
  first_member : (g n : Rid) (weight : ℕ) (hop : WHop) (e : Entry Rid) (i : ℕ) → slice_get objects i ≡ Some (e, body.GroupMember g n weight) → IsIn g (chip_groups objects) → IsIn (thing.GroupMember (hops g) hop) new → ((m : ℕ) → HasKey objects m (key.GroupMember (hops g) hop) → ComesFirst objects i m) → is_double objects g ≡ false
  first_member g n weight hop e i at there wanted first = single g (λ l.
      let h = least chip new view (suc l.other.0) l.other (omega arith) l.there in
      let hops_same : hops h.0 ≡ hops g = h.3 ∙ l.same in
      let group = subst (λ z. IsIn (thing.Group z) new) (sym hops_same) (group_in (hops g) hop wanted) in
      let stays = tag_is chip new view h.0 (stays_if chip new view h.0 h.1 group h.2) in
      let old = member_old chip new view g hop there wanted in
      let o = map-in (thing_by (tagged tag) objects) objects (Some (thing.GroupMember (hops g) hop)) (those_in (thing.GroupMember (hops g) hop) (map (thing_by (tagged tag) objects) objects) old) in
      let m = member_of o.0.0 o.0.1 (hops g) hop (sym o.2) in
      let group_is : m.group ≡ h.0 = tags-apart (group_stays objects new) (shown_hops objects) (rises chip new) (stays-apart objects new) m.group h.0 (m.tag_is ∙ sym hops_same ∙ sym stays) in
      let member = placed o.0.0 o.0.1 (thing.GroupMember (hops h.0) hop) o.1 (member_shows o.0.0 o.0.1 h.0 m.next m.weight hop h.1 (m.is ∙ ap (λ k. body.GroupMember k m.next m.weight) group_is) m.hop_is) in
      let group_no : group_number (o.0.0, o.0.1) ≡ h.0.0 = member_number o.0.0 o.0.1 h.0 m.next m.weight (m.is ∙ ap (λ k. body.GroupMember k m.next m.weight) group_is) in
      let low = no_greater i member.place e o.0.0 (body.GroupMember g n weight) o.0.1 at member.at (first member.place (member.key ∙ ap (λ hs. Some (Some (key.GroupMember hs hop))) hops_same)) in
      let no_less = not_double h.0 l.other l.there (sym (h.3 ∙ refl)) h.2 in
      let less = l.less in
      let mine = number_of e g n weight in
      omega (arith, low, mine, group_no, no_less, less))

  -- where an old object comes first of those of its key, and a new thing has that key, its tagged thing has the new one's name
  pub paired-name : (e : Entry Rid) (b : Body Rid) (x w t : Thing) (i : ℕ) → slice_get objects i ≡ Some (e, b) → thing_of objects (e, b) ≡ Some x → thing_by (tagged tag) objects (e, b) ≡ Some w → IsIn t new → natural_key_of x ≡ natural_key_of t → ((n : ℕ) → HasKey objects n (natural_key_of x) → ComesFirst objects i n) → name_of w ≡ name_of t
  paired-name e b x w t i at shows is wanted keys first =
      let found = found-in objects e b chip.whole.sorted (place-in objects i (e, b) at) in
      let same = key-name x t keys in
      elim (names chip new view e b x w shows is) [
        | inl one ↦ sym one ∙ same
        | inr groups ↦ elim groups [
          | inl y ↦
              let g = y.0 in
              let t_is : t ≡ thing.Group (hops g) = is-group t (hops g) (sym same ∙ ap name_of y.3) in
              let there = all-groups objects g (ap (body_at objects) (sym y.1) ∙ found ∙ ap Some y.2) in
              let single = first_group g i (at ∙ ap Some (ap₂ object y.1 y.2)) (λ n k. first n (k ∙ ap (λ u. Some (Some (natural_key_of u))) (sym y.3))) in
              let stays = tag_is chip new view g (stays_if chip new view g there (subst (λ z. IsIn z new) t_is wanted) single) in
              ap name_of y.4 ∙ ap name.Group stays ∙ sym (ap name_of t_is)
          | inr y ↦
              let g = y.0 in
              let t_is : t ≡ thing.GroupMember (hops g) y.2 = is-member t (hops g) y.2 (sym same ∙ ap name_of y.4) in
              let member : IsIn (thing.GroupMember (hops g) y.2) new = subst (λ z. IsIn z new) t_is wanted in
              let there = member_group chip new view e g y.1 (y.2).weight y.2 (found ∙ ap Some y.3) (ap (λ z. thing_by (tagged tag) objects (e, z)) (sym y.3) ∙ is ∙ ap Some y.5) in
              let single = first_member g y.1 (y.2).weight y.2 e i (at ∙ ap Some (ap (object e) y.3)) there member (λ n k. first n (k ∙ ap (λ u. Some (Some (natural_key_of u))) (sym y.4))) in
              let stays = tag_is chip new view g (stays_if chip new view g there (new_group chip new view g y.2 member) single) in
              ap name_of y.5 ∙ ap (λ hs. name.GroupMember hs y.2) stays ∙ sym (ap name_of t_is)
        ]
      ]
    where
      object : Entry Rid → Body Rid → Object
      object x y = (x, y)
