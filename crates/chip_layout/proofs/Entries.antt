-- the entries of names, and what refers to them
use Rattle.std.proofs.Common.{◌≡◌, ◌⊎◌, inl, inr, Bool, true, false, List, [], ◌∷◌, Option, None, Some, refl, sym, ap, ap₂, ◌∙◌, subst}
use Rattle.std.specs.List.{list_all, list_any}
use Rattle.std.proofs.lemmas.Bool.{and_from, eq-eqb, false≢true, or_cases}
use Rattle.swss_types.specs.declared.vrf.Vrf.{Vrf}
use Rattle.swss_types.specs.declared.vrf.Vrf.TheVariants as vrf
use Rattle.sai_types.specs.declared.ids.Rid.{Rid}
use Rattle.sai_types.specs.declared.hop.Base.{Base}
use Rattle.sai_types.specs.declared.hop.Base.TheVariants as base
use Rattle.sai_types.specs.declared.body.Body.{Body}
use Rattle.sai_types.specs.declared.body.Entry.{Entry}
use Rattle.sai_types.specs.declared.body.Entry.TheVariants as entry
use Rattle.sai_types.specs.declared.thing.Goal.{Goal}
use Rattle.sai_types.specs.declared.thing.Goal.TheVariants as goal
use Rattle.sai_types.specs.declared.thing.Thing.{Thing}
use Rattle.sai_types.specs.declared.thing.Thing.TheVariants as thing
use Rattle.sai_types.specs.After.{entry_of}
use Rattle.sai_types.specs.Alike.{IsIn}
use Rattle.sai_types.specs.Made.{same_entry}
use Rattle.sai_types.specs.Names as name
use Rattle.sai_types.specs.Names.{ThingName, Refers, goal_names, name_of, name_kind, thing_references, with_router}
use Rattle.sai_types.specs.Objects.{Objects, body_at, kind_of, level}
use Rattle.sai_types.specs.References.{Reference, beside_router, is_meant, references, refers_to, refers_well, stands, target_references}
use Rattle.sai_types.proofs.Found.{same-refl}
use Rattle.chip_layout.specs.Bodies.{IsBody, IsAt, body_with, first_name, goal_name, is_numbered, router_name, second_name, to_with, vr_with}
use Rattle.chip_layout.specs.Layout.{Has, IsLaidOut, Layout, RefersWell, has_number}
use Rattle.chip_layout.proofs.Bodies.{kind-body}
use Rattle.sai_types.proofs.Exact.{entry-exact}
use Rattle.sai_types.proofs.Things.{neighbors, owns, rifs, routers, same_route}

-- a virtual router has this identifier, and the default one none
abbrev pub IsRouter : {I : Type 0} → (ThingName → I → Type 0) → Vrf → Option I → Type 0
IsRouter at vrf.Default None = Unit {0}
IsRouter at (vrf.Named label) (Some r) = at (name.VirtualRouter label) r
IsRouter at _ _ = ⊥

-- an entry that is a name's, where names have identifiers
abbrev pub IsEntry : {I : Type 0} → (ThingName → I → Type 0) → ThingName → Entry I → Type 0
IsEntry at k (entry.Oid i) = (is_numbered (name_kind k) ≡ true) × at k i
IsEntry at k (entry.Own vr ip) = (v : Vrf) × (k ≡ name.Own v ip) × IsRouter at v vr
IsEntry at k (entry.Neigh r ip) = (on : Base) × (k ≡ name.Neighbor (record { on = on; ip = ip })) × at (name.Rif on) r
IsEntry at k (entry.Route vr p) = (v : Vrf) × (k ≡ name.Route v p) × IsRouter at v vr

-- the references are to these names, one after another
abbrev pub AreTo : {I : Type 0} → (ThingName → I → Type 0) → List ThingName → List (Reference I) → Type 0
AreTo at [] [] = Unit {0}
AreTo at (k ∷ ks) (r ∷ rs) = ((r.0 ≡ name_kind k) × IsEntry at k r.1) × AreTo at ks rs
AreTo at _ _ = ⊥

module _ {I : Type 0} (at : ThingName → I → Type 0) where
  pub goal-refers : (goal : Goal) (i : I) → IsAt at (goal_name goal) i → AreTo at (goal_names goal) (target_references (to_with goal i))
  goal-refers goal.Drop i x = tt
  goal-refers (goal.Direct on) i x = ((refl, (refl, x)), tt)
  goal-refers (goal.Via hop) i x = ((refl, (refl, x)), tt)
  goal-refers (goal.Group hops) i x = ((refl, (refl, x)), tt)

  with_router_to : (v : Vrf) (j : I) (ks : List ThingName) (rs : List (Reference I)) → IsAt at (router_name v) j → AreTo at ks rs → AreTo at (with_router v ks) (beside_router (vr_with v j) rs)
  with_router_to vrf.Default j ks rs x to = to
  with_router_to (vrf.Named label) j ks rs x to = ((refl, (refl, x)), to)

  pub router-is : (v : Vrf) (j : I) → IsAt at (router_name v) j → IsRouter at v (vr_with v j)
  router-is vrf.Default j x = tt
  router-is (vrf.Named label) j x = x

  refers_with : (t : Thing) (i j : I) → IsAt at (first_name t) i → IsAt at (second_name t) j → AreTo at (thing_references t) (references (body_with t i j))
  refers_with (thing.BridgePort lane) i j x y = ((refl, (refl, x)), tt)
  refers_with (thing.VlanMember vlan lane tagging) i j x y = ((refl, (refl, x)), ((refl, (refl, y)), tt))
  refers_with (thing.Rif (base.Port lane) v) i j x y = with_router_to v j _ _ y ((refl, (refl, x)), tt)
  refers_with (thing.Rif (base.Vlan vlan) v) i j x y = with_router_to v j _ _ y ((refl, (refl, x)), tt)
  refers_with (thing.Own v ip) i j x y = with_router_to v j [] [] y tt
  refers_with (thing.Neighbor hop mac) i j x y = ((refl, (refl, x)), tt)
  refers_with (thing.NextHop hop) i j x y = ((refl, (refl, x)), ((refl, (hop.on, refl, x)), tt))
  refers_with (thing.GroupMember hops hop) i j x y = ((refl, (refl, x)), ((refl, (refl, y)), tt))
  refers_with (thing.Route v prefix goal) i j x y = with_router_to v j _ _ y (goal-refers goal i x)
  refers_with _ i j x y = tt

  -- the references of a thing's body are to the names that the thing refers to
  pub body-refers : (t : Thing) (b : Body I) → IsBody at t b → AreTo at (thing_references t) (references b)
  body-refers t b x = subst (λ z. AreTo at (thing_references t) (references z)) (sym x.body_is) (refers_with t x.first x.second x.first_at x.second_at)

entry_with : (at : ThingName → Rid → Type 0) (i : Rid) (t : Thing) (m n : Rid) → at (name_of t) i → IsAt at (first_name t) m → IsAt at (second_name t) n → IsEntry at (name_of t) (entry_of i.0 (body_with t m n))
entry_with at i (thing.Own v ip) m n h x y = (v, refl, router-is at v n y)
entry_with at i (thing.Neighbor hop mac) m n h x y = (hop.on, refl, x)
entry_with at i (thing.Route v prefix goal) m n h x y = (v, refl, router-is at v n y)
entry_with at i _ m n h x y = (refl, h)

no_key : (k l : ThingName) → is_numbered (name_kind k) ≡ true → k ≡ l → is_numbered (name_kind l) ≡ false → ⊥
no_key k l h is not = false≢true (sym not ∙ ap (λ n. is_numbered (name_kind n)) (sym is) ∙ h)

meant : (r : Reference Rid) (d : Body Rid) → kind_of d ≡ r.0 → is_meant r (Some d) ≡ true
meant (k, entry.Oid i) d e = eq-eqb (level (kind_of d)) (level k) (ap level e)
meant (k, entry.Own vr ip) d e = refl
meant (k, entry.Neigh r ip) d e = refl
meant (k, entry.Route vr p) d e = refl

module _ (layout : Layout Rid) (objects : Objects) (laid : IsLaidOut layout objects) where
  -- a name has one identifier
  pub one-id : (k : ThingName) (i j : Rid) → Has layout k i → Has layout k j → i ≡ j
  one-id k i j x y = (laid.one i j x.0 y.0 x.1 y.1 (x.2 ∙ sym y.2)).0

  numbered : (k : ThingName) (t : Thing) → name_of t ≡ k → is_numbered (name_kind k) ≡ true → has_number t ≡ true
  numbered k t is h = ap (λ x. is_numbered (name_kind x)) is ∙ h

  -- and an identifier one name
  pub one-name : (k l : ThingName) (i : Rid) → is_numbered (name_kind k) ≡ true → is_numbered (name_kind l) ≡ true → Has layout k i → Has layout l i → k ≡ l
  one-name k l i e f x y = sym x.2 ∙ ap name_of (laid.ids i x.0 y.0 x.1 y.1 (numbered k x.0 x.2 e) (numbered l y.0 y.2 f)) ∙ y.2

  -- the entry of a thing's object is its name's
  pub entry-named : (i : Rid) (t : Thing) (b : Body Rid) → layout i t → IsBody (Has layout) t b → IsEntry (Has layout) (name_of t) (entry_of i.0 b)
  entry-named i t b h x = subst (λ z. IsEntry (Has layout) (name_of t) (entry_of i.0 z)) (sym x.body_is) (entry_with (Has layout) i t x.first x.second (t, h, refl) x.first_at x.second_at)

  -- a virtual router has one identifier, and an identifier is that of one
  router-one : (v w : Vrf) (vr : Option Rid) → IsRouter (Has layout) v vr → IsRouter (Has layout) w vr → v ≡ w
  router-one vrf.Default vrf.Default None x y = refl
  router-one (vrf.Named m) (vrf.Named n) (Some r) x y = ap vrf.Named (routers m n (one-name (name.VirtualRouter m) (name.VirtualRouter n) r refl refl x y))
  router-one vrf.Default _ (Some r) x y = absurd x
  router-one (vrf.Named m) _ None x y = absurd x
  router-one _ vrf.Default (Some r) x y = absurd y
  router-one _ (vrf.Named n) None x y = absurd y

  router-id : (v : Vrf) (a b : Option Rid) → IsRouter (Has layout) v a → IsRouter (Has layout) v b → a ≡ b
  router-id vrf.Default None None x y = refl
  router-id (vrf.Named m) (Some r) (Some s) x y = ap Some (one-id (name.VirtualRouter m) r s x y)
  router-id vrf.Default (Some r) _ x y = absurd x
  router-id vrf.Default None (Some s) x y = absurd y
  router-id (vrf.Named m) None _ x y = absurd x
  router-id (vrf.Named m) (Some r) None x y = absurd y

  -- an entry is one name's
  pub name-entered : (k l : ThingName) (e : Entry Rid) → IsEntry (Has layout) k e → IsEntry (Has layout) l e → k ≡ l
  name-entered k l (entry.Oid i) x y = one-name k l i x.0 y.0 x.1 y.1
  name-entered k l (entry.Own vr ip) x y = x.1 ∙ ap (λ v. name.Own v ip) (router-one x.0 y.0 vr x.2 y.2) ∙ sym y.1
  name-entered k l (entry.Neigh r ip) x y =
      let bases = rifs x.0 y.0 (one-name (name.Rif x.0) (name.Rif y.0) r refl refl x.2 y.2) in
      x.1 ∙ ap (λ b. name.Neighbor (record { on = b; ip = ip })) bases ∙ sym y.1
  name-entered k l (entry.Route vr p) x y = x.1 ∙ ap (λ v. name.Route v p) (router-one x.0 y.0 vr x.2 y.2) ∙ sym y.1

  -- a name has one entry
  pub entry-one : (k : ThingName) (e f : Entry Rid) → IsEntry (Has layout) k e → IsEntry (Has layout) k f → e ≡ f
  entry-one k (entry.Oid i) (entry.Oid j) x y = ap entry.Oid (one-id k i j x.1 y.1)
  entry-one k (entry.Own v a) (entry.Own w b) x y =
      let keys = owns x.0 y.0 a b (sym x.1 ∙ y.1) in
      ap₂ (λ z u. entry.Own z u) (router-id y.0 v w (subst (λ z. IsRouter (Has layout) z v) keys.0 x.2) y.2) keys.1
  entry-one k (entry.Neigh r a) (entry.Neigh s b) x y =
      let hops = neighbors (record { on = x.0; ip = a }) (record { on = y.0; ip = b }) (sym x.1 ∙ y.1) in
      ap₂ (λ z w. entry.Neigh z w) (one-id (name.Rif y.0) r s (subst (λ z. Has layout (name.Rif z) r) (ap (λ h. h.on) hops) x.2) y.2) (ap (λ h. h.ip) hops)
  entry-one k (entry.Route v p) (entry.Route w q) x y =
      let keys = same_route x.0 y.0 p q (sym x.1 ∙ y.1) in
      ap₂ (λ z u. entry.Route z u) (router-id y.0 v w (subst (λ z. IsRouter (Has layout) z v) keys.0 x.2) y.2) keys.1
  entry-one k (entry.Oid i) (entry.Own w b) x y = absurd (no_key k _ x.0 y.1 refl)
  entry-one k (entry.Oid i) (entry.Neigh s b) x y = absurd (no_key k _ x.0 y.1 refl)
  entry-one k (entry.Oid i) (entry.Route w q) x y = absurd (no_key k _ x.0 y.1 refl)
  entry-one k (entry.Own v a) (entry.Oid j) x y = absurd (no_key k _ y.0 x.1 refl)
  entry-one k (entry.Neigh r a) (entry.Oid j) x y = absurd (no_key k _ y.0 x.1 refl)
  entry-one k (entry.Route v p) (entry.Oid j) x y = absurd (no_key k _ y.0 x.1 refl)
  entry-one k (entry.Own v a) (entry.Neigh s b) x y = let is = sym x.1 ∙ y.1 in absurd cc
  entry-one k (entry.Own v a) (entry.Route w q) x y = let is = sym x.1 ∙ y.1 in absurd cc
  entry-one k (entry.Neigh r a) (entry.Own w b) x y = let is = sym x.1 ∙ y.1 in absurd cc
  entry-one k (entry.Neigh r a) (entry.Route w q) x y = let is = sym x.1 ∙ y.1 in absurd cc
  entry-one k (entry.Route v p) (entry.Own w b) x y = let is = sym x.1 ∙ y.1 in absurd cc
  entry-one k (entry.Route v p) (entry.Neigh s b) x y = let is = sym x.1 ∙ y.1 in absurd cc

  -- two things with one entry have one name
  pub one-entry : (i j : Rid) (t u : Thing) (x y : Body Rid) → layout i t → layout j u → IsBody (Has layout) t x → IsBody (Has layout) u y → same_entry (entry_of i.0 x) (entry_of j.0 y) ≡ true → name_of t ≡ name_of u
  one-entry i j t u x y h g p q same =
      name-entered (name_of t) (name_of u) (entry_of i.0 x) (entry-named i t x h p)
      (subst (IsEntry (Has layout) (name_of u)) (sym (entry-exact (entry_of i.0 x) (entry_of j.0 y) same)) (entry-named j u y g q))

  -- and two with one name one entry
  pub same-entry : (i j : Rid) (t u : Thing) (x y : Body Rid) → layout i t → layout j u → IsBody (Has layout) t x → IsBody (Has layout) u y → name_of t ≡ name_of u → entry_of i.0 x ≡ entry_of j.0 y
  same-entry i j t u x y h g p q e = entry-one (name_of u) (entry_of i.0 x) (entry_of j.0 y) (subst (λ k. IsEntry (Has layout) k (entry_of i.0 x)) e (entry-named i t x h p)) (entry-named j u y g q)

  named_by : (b : Bool) (i j : Rid) (t u : Thing) (x y : Body Rid) → layout i t → layout j u → IsBody (Has layout) t x → IsBody (Has layout) u y → same_entry (entry_of i.0 x) (entry_of j.0 y) ≡ b → (name_of t ≡ name_of u) ⊎ (name_of t ≡ name_of u → ⊥)
  named_by true i j t u x y h g p q e = inl (one-entry i j t u x y h g p q e)
  named_by false i j t u x y h g p q e = inr (λ same. false≢true (sym e ∙ ap (same_entry (entry_of i.0 x)) (sym (same-entry i j t u x y h g p q same)) ∙ same-refl (entry_of i.0 x)))

  -- whether two things that stand have one name is told by their entries
  pub named : (i j : Rid) (t u : Thing) → layout i t → layout j u → (name_of t ≡ name_of u) ⊎ (name_of t ≡ name_of u → ⊥)
  named i j t u h g =
      let x = laid.stand i t h in
      let y = laid.stand j u g in
      named_by (same_entry (entry_of i.0 x.0) (entry_of j.0 y.0)) i j t u x.0 y.0 h g x.1 y.1 refl

  -- ---- references

  ref_stands : (k : ThingName) (r : Reference Rid) (i : Rid) → r.0 ≡ name_kind k → IsEntry (Has layout) k r.1 → Has layout k i → stands objects r ≡ true
  ref_stands k r i is at x =
      let has = laid.stand i x.0 x.1 in
      let entries : entry_of i.0 has.0 ≡ r.1 = entry-one k _ r.1 (subst (λ z. IsEntry (Has layout) z (entry_of i.0 has.0)) x.2 (entry-named i x.0 has.0 x.1 has.1)) at in
      ap (is_meant r) (ap (body_at objects) (sym entries) ∙ has.2) ∙ meant r has.0 (kind-body (Has layout) x.0 has.0 has.1 ∙ ap name_kind x.2 ∙ sym is)

  all_stand : (ks : List ThingName) (rs : List (Reference Rid)) → AreTo (Has layout) ks rs → ((k : ThingName) → IsIn k ks → (i : Rid) × Has layout k i) → list_all (stands objects) rs ≡ true
  all_stand [] [] to f = refl
  all_stand (k ∷ ks) (r ∷ rs) to f =
      let has = f k (inl refl) in
      and_from (stands objects r) (list_all (stands objects) rs) (ref_stands k r has.0 to.0.0 to.0.1 has.1) (all_stand ks rs to.1 (λ l h. f l (inr h)))
  all_stand [] (r ∷ rs) to f = elim to [ ]
  all_stand (k ∷ ks) [] to f = elim to [ ]

  -- a body refers well where what its thing refers to stands
  pub refers-body : (t : Thing) (b : Body Rid) → IsBody (Has layout) t b → RefersWell layout t → refers_well objects b ≡ true
  refers-body t b x f = all_stand (thing_references t) (references b) (body-refers (Has layout) t b x) f

  goal_at : (next : Goal) (i : Rid) → IsAt (Has layout) (goal_name next) i → (k : ThingName) → IsIn k (goal_names next) → (j : Rid) × Has layout k j
  goal_at (goal.Direct on) i x k (inl is) = (i, subst (λ z. Has layout z i) (sym is) x)
  goal_at (goal.Via hop) i x k (inl is) = (i, subst (λ z. Has layout z i) (sym is) x)
  goal_at (goal.Group hops) i x k (inl is) = (i, subst (λ z. Has layout z i) (sym is) x)
  goal_at goal.Drop i x k h = elim h [ ]
  goal_at _ i x k (inr h) = elim h [ ]

  pub goal-stands : (next : Goal) (i : Rid) → IsAt (Has layout) (goal_name next) i → list_all (stands objects) (target_references (to_with next i)) ≡ true
  goal-stands next i x = all_stand (goal_names next) (target_references (to_with next i)) (goal-refers (Has layout) next i x) (goal_at next i x)

  any_named : (l : ThingName) (e : Entry Rid) (ks : List ThingName) (rs : List (Reference Rid)) → IsEntry (Has layout) l e → AreTo (Has layout) ks rs → list_any (λ r. same_entry r.1 e) rs ≡ true → IsIn l ks
  any_named l e [] [] at to h = false≢true h
  any_named l e (k ∷ ks) (r ∷ rs) at to h = by (or_cases (same_entry r.1 e) (list_any (λ q. same_entry q.1 e) rs) h) (any_named l e ks rs at to.1)
    where
      by : (same_entry r.1 e ≡ true) ⊎ (list_any (λ q. same_entry q.1 e) rs ≡ true) → (list_any (λ q. same_entry q.1 e) rs ≡ true → IsIn l ks) → IsIn l (k ∷ ks)
      by (inl same) behind = inl (name-entered l k e at (subst (IsEntry (Has layout) k) (entry-exact r.1 e same) to.0.1))
      by (inr more) behind = inr (behind more)
  any_named l e [] (r ∷ rs) at to h = elim to [ ]
  any_named l e (k ∷ ks) [] at to h = elim to [ ]

  -- what refers to the object of a thing refers to its name
  pub refers-name : (i : Rid) (t u : Thing) (b d : Body Rid) → layout i t → IsBody (Has layout) t b → IsBody (Has layout) u d → refers_to d (entry_of i.0 b) ≡ true → Refers u (name_of t)
  refers-name i t u b d h x y r = any_named (name_of t) (entry_of i.0 b) (thing_references u) (references d) (entry-named i t b h x) (body-refers (Has layout) u d y) r
