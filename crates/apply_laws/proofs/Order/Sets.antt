-- the sets of a paired object make the new thing of the old one
use mathlib.Core.Bool.{beq}
use Rattle.std.proofs.Common.{◌≡◌, ℕ, ◌≤◌, ◌==◌, ◌++◌, Bool, true, false, List, map, refl, sym, ap, ap₂, ◌∙◌, subst, arith}
use Rattle.std.proofs.lemmas.Bool.{eqb-true, false≢true}
use Rattle.swss_types.specs.declared.address.Mac.{Mac}
use Rattle.swss_types.specs.declared.address.Prefix.{Prefix}
use Rattle.swss_types.specs.declared.vrf.Vrf.{Vrf}
use Rattle.swss_types.specs.declared.tagging.Tagging.{Tagging}
use Rattle.swss_types.specs.contracts.tagging.TaggingPartialEq.TheImpl as tagging_eq
use Rattle.swss_types.specs.contracts.address.MacPartialEq.TheImpl as mac_eq
use Rattle.swss_types.proofs.SameValues.{mac_exact, tagging_exact}
use Rattle.sai_types.specs.declared.ids.Rid.{Rid}
use Rattle.sai_types.specs.declared.ids.Vid.{Vid}
use Rattle.sai_types.specs.declared.body.Attr.{Attr}
use Rattle.sai_types.specs.declared.body.Attr.TheVariants as attr
use Rattle.sai_types.specs.declared.body.Call.{Call}
use Rattle.sai_types.specs.declared.body.Entry.{Entry}
use Rattle.sai_types.specs.declared.hop.Base.{Base}
use Rattle.sai_types.specs.declared.hop.Hop.{Hop}
use Rattle.sai_types.specs.declared.plan.PlanId.{PlanId}
use Rattle.sai_types.specs.declared.plan.PlanId.TheVariants as plan_id
use Rattle.sai_types.specs.declared.thing.Goal.{Goal}
use Rattle.sai_types.specs.declared.thing.Goal.TheVariants as goal
use Rattle.sai_types.specs.declared.thing.PortThing.{PortThing}
use Rattle.sai_types.specs.declared.thing.Thing.{Thing}
use Rattle.sai_types.specs.declared.thing.Thing.TheVariants as thing
use Rattle.sai_types.specs.Names as name
use Rattle.sai_types.specs.Names.{ThingName, name_kind, name_of}
use Rattle.sai_types.proofs.Exact.{id-exact}
use Rattle.chip_layout.specs.Bodies.{IsAt, body_with, first_name, goal_name, is_numbered, to_with}
use Rattle.chip_layout.specs.Layout.{Has, Layout, has_number}
use Rattle.chip_layout.specs.Renamed.{to_renamed}
use Rattle.plan_laws.specs.Calls.{PlansSets, old_entry, plan_layout}
use Rattle.plan_laws.proofs.Calling.{to_resolved}
use Rattle.apply_order.specs.Attributes.{differing, is_old, is_same_target, set_call, where_differs}
use Rattle.apply_order.specs.Naming.{OldIds, new_id}

-- ---- what tests tell

bool_exact : (a b : Bool) → beq a b ≡ true → a ≡ b
bool_exact true true h = refl
bool_exact false false h = refl
bool_exact true false h = absurd (false≢true h)
bool_exact false true h = absurd (false≢true h)

-- ---- calls

-- the calls that set attributes
abbrev pub attr_calls : Entry Rid → List (Attr PlanId) → List (Call PlanId)
attr_calls e attrs = map (λ c. c.call) (map (set_call e) attrs)

abbrev port : List ℕ → ℕ → ℕ → Bool → Thing
port lanes speed mtu up = thing.Port (record { lanes = lanes; speed = speed; mtu = mtu; up = up })

module _ (by : Layout PlanId) (e : Entry Rid) where
  abbrev Sets : ℕ → List (Attr PlanId) → Thing → Thing → Type 0
  Sets place attrs u t = PlansSets by (old_entry e) place (attr_calls e attrs) u t

  up_set : (lanes : List ℕ) (speed mtu : ℕ) (up up' : Bool) (b : Bool) (place : ℕ) → place ≤ 2 → beq up up' ≡ b → Sets place (where_differs b (attr.Up up')) (port lanes speed mtu up) (port lanes speed mtu up')
  up_set lanes speed mtu up up' true place low h = ap (port lanes speed mtu) (bool_exact up up' h)
  up_set lanes speed mtu up up' false place low h = (attr.Up up', port lanes speed mtu up', refl, refl, low, refl)

  mtu_set : (lanes : List ℕ) (speed mtu mtu' : ℕ) (up up' : Bool) (b : Bool) (place : ℕ) → place ≤ 1 → (mtu == mtu') ≡ b → Sets place (where_differs b (attr.Mtu mtu') ++ where_differs (beq up up') (attr.Up up')) (port lanes speed mtu up) (port lanes speed mtu' up')
  mtu_set lanes speed mtu mtu' up up' true place low h =
      let same : mtu ≡ mtu' = eqb-true mtu mtu' h in
      subst (λ m. Sets place (where_differs (beq up up') (attr.Up up')) (port lanes speed m up) (port lanes speed mtu' up')) (sym same) (up_set lanes speed mtu' up up' (beq up up') place (omega (arith, low)) refl)
  mtu_set lanes speed mtu mtu' up up' false place low h = (attr.Mtu mtu', port lanes speed mtu' up, refl, refl, low, up_set lanes speed mtu' up up' (beq up up') 2 (omega arith) refl)

  speed_set : (lanes : List ℕ) (speed speed' mtu mtu' : ℕ) (up up' : Bool) (b : Bool) → (speed == speed') ≡ b → Sets 0 (where_differs b (attr.Speed speed') ++ where_differs (mtu == mtu') (attr.Mtu mtu') ++ where_differs (beq up up') (attr.Up up')) (port lanes speed mtu up) (port lanes speed' mtu' up')
  speed_set lanes speed speed' mtu mtu' up up' true h =
      let same : speed ≡ speed' = eqb-true speed speed' h in
      subst (λ m. Sets 0 (where_differs (mtu == mtu') (attr.Mtu mtu') ++ where_differs (beq up up') (attr.Up up')) (port lanes m mtu up) (port lanes speed' mtu' up')) (sym same) (mtu_set lanes speed' mtu mtu' up up' (mtu == mtu') 0 (omega arith) refl)
  speed_set lanes speed speed' mtu mtu' up up' false h = (attr.Speed speed', port lanes speed' mtu up, refl, refl, omega arith, mtu_set lanes speed' mtu mtu' up up' (mtu == mtu') 1 (omega arith) refl)

  tagging_set : (v n : ℕ) (g g' : Tagging) (b : Bool) → tagging_eq.ghosts.eq g g' ≡ b → Sets 0 (where_differs b (attr.Tagging g')) (thing.VlanMember v n g) (thing.VlanMember v n g')
  tagging_set v n g g' true h = ap (thing.VlanMember v n) (tagging_exact g g' h)
  tagging_set v n g g' false h = (attr.Tagging g', thing.VlanMember v n g', refl, refl, omega arith, refl)

  mac_set : (h : Hop) (m m' : Mac) (b : Bool) → mac_eq.ghosts.eq m m' ≡ b → Sets 0 (where_differs b (attr.Mac m')) (thing.Neighbor h m) (thing.Neighbor h m')
  mac_set h m m' true is = ap (thing.Neighbor h) (mac_exact m m' is)
  mac_set h m m' false is = (attr.Mac m', thing.Neighbor h m', refl, refl, omega arith, refl)

old_id : (r : Rid) (p : PlanId) → is_old r p ≡ true → p ≡ plan_id.Old r
old_id r (plan_id.Old s) h = ap plan_id.Old (sym (id-exact r s h))
old_id r (plan_id.New v) h = absurd (false≢true h)

module _ (start : Layout Rid) (ids : (i : Rid) (t u : Thing) → start i t → start i u → has_number t ≡ true → has_number u ≡ true → t ≡ u) (view : Layout Vid) (names : OldIds) where
  abbrev by : Layout PlanId
  by = plan_layout start view

  -- two names of one identifier are one
  one_name : (k l : ThingName) (r : Rid) → is_numbered (name_kind k) ≡ true → is_numbered (name_kind l) ≡ true → Has start k r → Has start l r → k ≡ l
  one_name k l r x y a b =
      let same = ids r a.0 b.0 a.1 b.1 (ap (λ z. is_numbered (name_kind z)) a.2 ∙ x) (ap (λ z. is_numbered (name_kind z)) b.2 ∙ y) in
      sym a.2 ∙ ap name_of same ∙ b.2

  pub at_old : (k l : ThingName) (r : Rid) (p : PlanId) → is_numbered (name_kind k) ≡ true → is_numbered (name_kind l) ≡ true → Has start k r → Has by l p → is_old r p ≡ true → k ≡ l
  at_old k l r p x y a b h =
      let is = old_id r p h in
      let at : Has by l (plan_id.Old r) = subst (Has by l) is b in
      one_name k l r x y a (subst (λ z. Has start z r) at.2 at.1.1)

  -- a route's old target is the new one where a plan names it so
  target : (p : Prefix) (g g' : Goal) (i : Rid) (q : PlanId) → IsAt (Has start) (goal_name g) i → IsAt (Has by) (goal_name g') q → is_same_target (to_with g i) (to_with g' q) ≡ true → g ≡ g'
  target p goal.Drop goal.Drop i q a b h = refl
  target p (goal.Direct x) (goal.Direct y) i q a b h = let same = at_old (name.Rif x) (name.Rif y) i q refl refl a b h in let is : x ≡ y = cc in ap goal.Direct is
  target p (goal.Via x) (goal.Via y) i q a b h = let same = at_old (name.NextHop x) (name.NextHop y) i q refl refl a b h in let is : x ≡ y = cc in ap goal.Via is
  target p (goal.Group x) (goal.Group y) i q a b h = let same = at_old (name.Group x) (name.Group y) i q refl refl a b h in let is : x ≡ y = cc in ap goal.Group is
  target p _ _ i q a b h = absurd (false≢true h)

  route_set : (e : Entry Rid) (v : Vrf) (p : Prefix) (g g' : Goal) (i : Rid) (q : PlanId) (x : _) → x ≡ to_with g' q → IsAt (Has start) (goal_name g) i → IsAt (Has by) (goal_name g') q → (b : Bool) → is_same_target (to_with g i) x ≡ b → PlansSets by (old_entry e) 0 (attr_calls e (where_differs b (attr.To x))) (thing.Route v p g) (thing.Route v p g')
  route_set e v p g g' i q x is a b true h = ap (thing.Route v p) (target p g g' i q a b (ap (is_same_target (to_with g i)) (sym is) ∙ h))
  route_set e v p g g' i q x is a b false h = (attr.To x, thing.Route v p g', (g', q, b, is, refl), refl, omega arith, refl)

  -- ---- all kinds

  abbrev HaveSets : Thing → Thing → Type 0
  HaveSets w t = (e : Entry Rid) (i j : Rid) (k l : Vid) → IsAt (Has start) (first_name w) i → IsAt (Has by) (first_name t) (new_id names k) → PlansSets by (old_entry e) 0 (attr_calls e (differing names (body_with w i j) (body_with t k l))) w t

  pub sets-lead : (w t : Thing) → name_of w ≡ name_of t → ((p q : PortThing) → w ≡ thing.Port p → t ≡ thing.Port q → p.lanes ≡ q.lanes) → ((x y : Base) (u v : Vrf) → w ≡ thing.Rif x u → t ≡ thing.Rif y v → u ≡ v) → HaveSets w t
  sets-lead (thing.Port p) (thing.Port q) same lanes routers e i j k l a b =
      let is = lanes p q refl refl in
      subst (λ ls. PlansSets by (old_entry e) 0 (attr_calls e (differing names (body_with (thing.Port p) i j) (body_with (thing.Port q) k l))) (port ls p.speed p.mtu p.up) (thing.Port q)) (sym is) (speed_set by e q.lanes p.speed q.speed p.mtu q.mtu p.up q.up (p.speed == q.speed) refl)
  sets-lead (thing.VlanMember v n g) (thing.VlanMember v' n' g') same lanes routers e i j k l a b =
      let one : v ≡ v' = cc in
      let two : n ≡ n' = cc in
      subst (λ x. PlansSets by (old_entry e) 0 (attr_calls e (where_differs (tagging_eq.ghosts.eq g g') (attr.Tagging g'))) (thing.VlanMember v n g) (thing.VlanMember x n' g')) one (subst (λ x. PlansSets by (old_entry e) 0 (attr_calls e (where_differs (tagging_eq.ghosts.eq g g') (attr.Tagging g'))) (thing.VlanMember v n g) (thing.VlanMember v x g')) two (tagging_set by e v n g g' (tagging_eq.ghosts.eq g g') refl))
  sets-lead (thing.Neighbor h m) (thing.Neighbor h' m') same lanes routers e i j k l a b =
      let is : h ≡ h' = cc in
      subst (λ x. PlansSets by (old_entry e) 0 (attr_calls e (where_differs (mac_eq.ghosts.eq m m') (attr.Mac m'))) (thing.Neighbor h m) (thing.Neighbor x m')) is (mac_set by e h m m' (mac_eq.ghosts.eq m m') refl)
  sets-lead (thing.Route v p g) (thing.Route v' p' g') same lanes routers e i j k l a b =
      let one : v ≡ v' = cc in
      let two : p ≡ p' = cc in
      let x = to_renamed (new_id names) (to_with g' k) in
      subst (λ z. PlansSets by (old_entry e) 0 (attr_calls e (where_differs (is_same_target (to_with g i) x) (attr.To x))) (thing.Route v p g) (thing.Route z p' g')) one (subst (λ z. PlansSets by (old_entry e) 0 (attr_calls e (where_differs (is_same_target (to_with g i) x) (attr.To x))) (thing.Route v p g) (thing.Route v z g')) two (route_set e v p g g' i (new_id names k) x (to_resolved (new_id names) g' k) a b (is_same_target (to_with g i) x) refl))
  sets-lead (thing.Vlan v) (thing.Vlan v') same lanes routers e i j k l a b = let is : v ≡ v' = cc in ap thing.Vlan is
  sets-lead (thing.BridgePort n) (thing.BridgePort n') same lanes routers e i j k l a b = let is : n ≡ n' = cc in ap thing.BridgePort is
  sets-lead (thing.VirtualRouter m) (thing.VirtualRouter n) same lanes routers e i j k l a b = let is : m ≡ n = cc in ap thing.VirtualRouter is
  sets-lead (thing.Rif x u) (thing.Rif y v) same lanes routers e i j k l a b = let is : x ≡ y = cc in ap₂ thing.Rif is (routers x y u v refl refl)
  sets-lead (thing.Own u x) (thing.Own v y) same lanes routers e i j k l a b = let one : u ≡ v = cc in let two : x ≡ y = cc in ap₂ thing.Own one two
  sets-lead (thing.NextHop x) (thing.NextHop y) same lanes routers e i j k l a b = let is : x ≡ y = cc in ap thing.NextHop is
  sets-lead (thing.Group x) (thing.Group y) same lanes routers e i j k l a b = let is : x ≡ y = cc in ap thing.Group is
  sets-lead (thing.GroupMember x h) (thing.GroupMember y h') same lanes routers e i j k l a b = let one : x ≡ y = cc in let two : h ≡ h' = cc in ap₂ thing.GroupMember one two
  sets-lead _ _ same lanes routers e i j k l a b = absurd cc
