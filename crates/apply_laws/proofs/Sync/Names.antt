-- a call names what is tied where its references are
use mathlib.Core.Bool.{beq}
use Rattle.std.proofs.Common.{◌≡◌, ℕ, ◌==◌, Bool, true, false, List, [], ◌∷◌, ◌++◌, map, Option, None, Some, option_map, refl, sym, ap, ap₂, ◌∙◌, subst}
use Rattle.swss_types.specs.contracts.tagging.TaggingPartialEq.TheImpl as tagging_eq
use Rattle.swss_types.specs.contracts.address.MacPartialEq.TheImpl as mac_eq
use Rattle.swss_types.specs.declared.vrf.Vrf.{Vrf}
use Rattle.swss_types.specs.declared.vrf.Vrf.TheVariants as vrf
use Rattle.sai_types.specs.declared.ids.Rid.{Rid}
use Rattle.sai_types.specs.declared.ids.Vid.{Vid}
use Rattle.sai_types.specs.declared.body.Attr.{Attr}
use Rattle.sai_types.specs.declared.body.Attr.TheVariants as attr
use Rattle.sai_types.specs.declared.body.Body.{Body}
use Rattle.sai_types.specs.declared.body.Body.TheVariants as body
use Rattle.sai_types.specs.declared.body.Call.TheVariants as call
use Rattle.sai_types.specs.declared.body.Entry.{Entry}
use Rattle.sai_types.specs.declared.body.Entry.TheVariants as entry
use Rattle.sai_types.specs.declared.hop.Base.{Base}
use Rattle.sai_types.specs.declared.plan.PlanCall.{PlanCall}
use Rattle.sai_types.specs.declared.plan.PlanId.{PlanId}
use Rattle.sai_types.specs.declared.plan.PlanId.TheVariants as plan_id
use Rattle.sai_types.specs.declared.thing.Goal.{Goal}
use Rattle.sai_types.specs.declared.thing.Goal.TheVariants as goal
use Rattle.sai_types.specs.declared.thing.Thing.{Thing}
use Rattle.sai_types.specs.declared.thing.Thing.TheVariants as thing
use Rattle.sai_types.specs.Names.{ThingName, base_name}
use Rattle.chip_layout.specs.Bodies.{body_with, first_name, goal_name, on_with, router_name, second_name, to_with, vr_with}
use Rattle.chip_layout.specs.Renamed.{attr_renamed, body_renamed, entry_renamed, to_renamed}
use Rattle.chip_layout.proofs.Shapes.{renamed_with}
use Rattle.plan_laws.specs.Calls.{old_entry}
use Rattle.plan_laws.proofs.Calling.{to_resolved}
use Rattle.asic_view.specs.View.{ViewObjects}
use Rattle.syncd_core.specs.Run.{AreInTime, HasComeToChip, NamesTied}
use Rattle.syncd_core.specs.Tied.{plan_tie}
use Rattle.apply_order.specs.Attributes.{differing, is_same_target, set_call, where_differs}
use Rattle.apply_order.specs.Naming.{OldIds, new_id}

-- the body of a thing depends on what it refers to alone
on_same : {I : Type 0} (on : Base) (i p : I) → ((k : ThingName) → Some (base_name on) ≡ Some k → i ≡ p) → on_with on i ≡ on_with on p
on_same on i p a = ap (on_with on) (a (base_name on) refl)

to_same : {I : Type 0} (g : Goal) (i p : I) → ((k : ThingName) → goal_name g ≡ Some k → i ≡ p) → to_with g i ≡ to_with g p
to_same goal.Drop i p a = refl
to_same (goal.Direct on) i p a = ap (to_with (goal.Direct on)) (a _ refl)
to_same (goal.Via hop) i p a = ap (to_with (goal.Via hop)) (a _ refl)
to_same (goal.Group hs) i p a = ap (to_with (goal.Group hs)) (a _ refl)

router_same : {I : Type 0} (v : Vrf) (j q : I) → ((k : ThingName) → router_name v ≡ Some k → j ≡ q) → vr_with v j ≡ vr_with v q
router_same vrf.Default j q b = refl
router_same (vrf.Named label) j q b = ap Some (b _ refl)

with_same : {I : Type 0} (t : Thing) (i j p q : I) → ((k : ThingName) → first_name t ≡ Some k → i ≡ p) → ((k : ThingName) → second_name t ≡ Some k → j ≡ q) → body_with t i j ≡ body_with t p q
with_same (thing.Port x) i j p q a b = refl
with_same (thing.Vlan v) i j p q a b = refl
with_same (thing.BridgePort n) i j p q a b = ap body.BridgePort (a _ refl)
with_same (thing.VlanMember v n g) i j p q a b = ap₂ (λ x y. body.VlanMember x y g) (a _ refl) (b _ refl)
with_same (thing.VirtualRouter label) i j p q a b = refl
with_same (thing.Rif on v) i j p q a b = ap₂ (λ x y. body.Rif x y) (router_same v j q b) (on_same on i p a)
with_same (thing.Own v ip) i j p q a b = ap (λ x. body.OwnAddress x ip) (router_same v j q b)
with_same (thing.Neighbor h m) i j p q a b = ap (λ x. body.Neighbor x h.ip m) (a _ refl)
with_same (thing.NextHop h) i j p q a b = ap (λ x. body.NextHop x h.ip) (a _ refl)
with_same (thing.Group hs) i j p q a b = refl
with_same (thing.GroupMember hs h) i j p q a b = ap₂ (λ x y. body.GroupMember x y h.weight) (a _ refl) (b _ refl)
with_same (thing.Route v x g) i j p q a b = ap₂ (λ z y. body.Route z x y) (router_same v j q b) (to_same g i p a)

module _ (view : ViewObjects) where
  -- other identifiers, where those that have come are as tied
  abbrev pub Agrees : (PlanId → Rid) → Type 0
  Agrees f = (i : PlanId) → HasComeToChip view i → f i ≡ plan_tie view i

  pub body-tied : (t : Thing) (p q : PlanId) (b : Body PlanId) → b ≡ body_with t p q → ((k : ThingName) → first_name t ≡ Some k → HasComeToChip view p) → ((k : ThingName) → second_name t ≡ Some k → HasComeToChip view q) → NamesTied view (call.Create b)
  body-tied t p q b is first second f agree =
      let h = plan_tie view in
      let same = with_same t (f p) (f q) (h p) (h q) (λ k e. agree p (first k e)) (λ k e. agree q (second k e)) in
      ap call.Create (ap (body_renamed f) is ∙ renamed_with f t p q ∙ same ∙ sym (renamed_with h t p q) ∙ sym (ap (body_renamed h) is))

  router_old : (r : Option Rid) (f : PlanId → Rid) → Agrees f → option_map f (option_map plan_id.Old r) ≡ option_map (plan_tie view) (option_map plan_id.Old r)
  router_old None f agree = refl
  router_old (Some r) f agree = ap Some (agree (plan_id.Old r) tt)

  old_tied : (e : Entry Rid) (f : PlanId → Rid) → Agrees f → entry_renamed f (old_entry e) ≡ entry_renamed (plan_tie view) (old_entry e)
  old_tied (entry.Oid r) f agree = ap entry.Oid (agree (plan_id.Old r) tt)
  old_tied (entry.Own r ip) f agree = ap (λ x. entry.Own x ip) (router_old r f agree)
  old_tied (entry.Neigh r ip) f agree = ap (λ x. entry.Neigh x ip) (agree (plan_id.Old r) tt)
  old_tied (entry.Route r p) f agree = ap (λ x. entry.Route x p) (router_old r f agree)

  pub remove-tied : (e : Entry Rid) → NamesTied view (call.Remove (old_entry e))
  remove-tied e f agree = ap call.Remove (old_tied e f agree)

  -- an attribute names what is tied
  abbrev pub IsAttrTied : Attr PlanId → Type 0
  IsAttrTied a = (f : PlanId → Rid) → Agrees f → attr_renamed f a ≡ attr_renamed (plan_tie view) a

  abbrev pub AreAttrsTied : List (Attr PlanId) → Type 0
  AreAttrsTied [] = Unit {0}
  AreAttrsTied (a ∷ attrs) = IsAttrTied a × AreAttrsTied attrs

  unless_tied : (b : Bool) (a : Attr PlanId) → IsAttrTied a → AreAttrsTied (where_differs b a)
  unless_tied true a h = tt
  unless_tied false a h = (h, tt)

  joined_tied : (xs ys : List (Attr PlanId)) → AreAttrsTied xs → AreAttrsTied ys → AreAttrsTied (xs ++ ys)
  joined_tied [] ys x y = y
  joined_tied (a ∷ xs) ys x y = (x.0, joined_tied xs ys x.1 y)

  pub to-tied : (g : Goal) (p : PlanId) → ((k : ThingName) → goal_name g ≡ Some k → HasComeToChip view p) → IsAttrTied (attr.To (to_with g p))
  to-tied g p come f agree =
      let h = plan_tie view in
      ap attr.To (to_resolved f g p ∙ to_same g (f p) (h p) (λ k e. agree p (come k e)) ∙ sym (to_resolved h g p))

  pub differing-tied : (names : OldIds) (b : Body Rid) (t : Thing) (k l : Vid) → ((g : Goal) → (n : ThingName) → ((v : Vrf) → (p : _) → t ≡ thing.Route v p g → goal_name g ≡ Some n → HasComeToChip view (new_id names k))) → AreAttrsTied (differing names b (body_with t k l))
  differing-tied names (body.Port lanes speed mtu up) (thing.Port p) k l come =
      let first = where_differs (speed == p.speed) (attr.Speed p.speed) in
      let second = where_differs (mtu == p.mtu) (attr.Mtu p.mtu) in
      let third = where_differs (beq up p.up) (attr.Up p.up) in
      joined_tied (first ++ second) third (joined_tied first second (unless_tied (speed == p.speed) (attr.Speed p.speed) (λ f agree. refl)) (unless_tied (mtu == p.mtu) (attr.Mtu p.mtu) (λ f agree. refl))) (unless_tied (beq up p.up) (attr.Up p.up) (λ f agree. refl))
  differing-tied names (body.VlanMember v n g) (thing.VlanMember v' n' g') k l come = unless_tied (tagging_eq.ghosts.eq g g') (attr.Tagging g') (λ f agree. refl)
  differing-tied names (body.Neighbor r ip m) (thing.Neighbor h m') k l come = unless_tied (mac_eq.ghosts.eq m m') (attr.Mac m') (λ f agree. refl)
  differing-tied names (body.Route r p x) (thing.Route v p' g) k l come =
      let x' = to_renamed (new_id names) (to_with g k) in
      unless_tied (is_same_target x x') (attr.To x') (subst (λ z. IsAttrTied (attr.To z)) (sym (to_resolved (new_id names) g k)) (to-tied g (new_id names k) (λ n e. come g n v p' refl e)))
  differing-tied names _ _ k l come = tt

  -- the calls that set attributes, and then others
  pub sets-time : (e : Entry Rid) (attrs : List (Attr PlanId)) (rest : List PlanCall) (made : ℕ) → AreAttrsTied attrs → AreInTime made view rest → AreInTime made view (map (set_call e) attrs ++ rest)
  sets-time e [] rest made tied h = h
  sets-time e (a ∷ attrs) rest made tied h = (λ f agree. ap₂ call.Set (old_tied e f agree) (tied.0 f agree), tt, sets-time e attrs rest made tied.1 h)
