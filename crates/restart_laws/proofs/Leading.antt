-- the calls of a plan, hitless or cold, from a chip that was listed lead to the things of the view
use Rattle.std.proofs.Common.{◌≡◌, ◌+◌, ◌++◌, ◌≤◌, ◌∷◌, inl, inr, ℕ, length, true, List, [], refl, sym, ap, subst}
use Rattle.std.proofs.lemmas.List.{append-nil}
use Rattle.table_schema.specs.Plan.{Ports, IsPlan}
use Rattle.sai_types.specs.declared.ids.Rid.{Rid}
use Rattle.sai_types.specs.declared.kind.Kind.{Kind}
use Rattle.sai_types.specs.Refusal.{capacity_of}
use Rattle.sai_types.specs.declared.body.Body.{Body}
use Rattle.sai_types.specs.declared.body.Body.TheVariants as body
use Rattle.sai_types.specs.declared.body.Call.{Call}
use Rattle.sai_types.specs.declared.thing.PortThing.{PortThing}
use Rattle.sai_types.specs.declared.thing.Thing.{Thing}
use Rattle.sai_types.specs.declared.thing.Thing.TheVariants as thing
use Rattle.sai_types.specs.After.{after_calls}
use Rattle.sai_types.specs.Alike.{IsIn}
use Rattle.sai_types.specs.Made.{AreLegal, has_first, made_after_all}
use Rattle.sai_types.specs.Named.{first_lane}
use Rattle.sai_types.specs.Names as name
use Rattle.sai_types.specs.Names.{Overlap, name_of}
use Rattle.sai_types.specs.Objects.{Objects}
use Rattle.chip_layout.specs.Answered.{HasPrefix}
use Rattle.chip_layout.specs.Layout.{IsLaidOut, Layout, listed, with_changed}
use Rattle.chip_layout.proofs.Seeing.{body-seen}
use Rattle.chip_layout.proofs.Shapes.{laid-same}
use Rattle.switch_model.proofs.Planned.{has-first, lanes-planned, one-planned}
use Rattle.switch_machine.proofs.Calling.{lanes_name}
use Rattle.plan_laws.specs.Applied.{AppliesCold, AppliesHitless, IsListedChip, IsHitlessPlan, IsView, nothing}
use Rattle.plan_laws.specs.Moments.{attr_place, MakesChange, MakesChanges, SetsThing, layout_after}
use Rattle.plan_laws.specs.Old.{old_layout, old_things, tag_of}
use Rattle.plan_laws.specs.Plans.{PlanChange, Make, Set, Remove}
use Rattle.plan_laws.specs.Views.{PortsApart, made_names}
use Rattle.plan_laws.proofs.Applied.{hitless-end, plan-safe}
use Rattle.plan_laws.proofs.Cold.{cold-end, cold-legal, makes-safe}
use Rattle.plan_laws.proofs.Rooms.{fits-room}
use Rattle.plan_laws.proofs.Running.{after-append, new-stand, stands-new}
use Rattle.plan_laws.proofs.Starting.{old-seen}
use Rattle.restart_laws.specs.Chips.{IsPlannedChip, IsPlannedBody, IsPlannedCall}
use Rattle.restart_laws.specs.Invariant.{AllPlanned, Leads}
use Rattle.restart_laws.specs.Planned.{PlansCold, PlansHitless}
use Rattle.restart_laws.proofs.Bodies.{IsPlannedThing, by-body, of-body}

-- ---- a layout as a list

abbrev listing : (layout : Layout Rid) (new : List Thing) → ((t : Thing) → IsIn t new → (i : Rid) × layout i t) → List (Rid × Thing)
listing layout [] all = []
listing layout (t ∷ ts) all = ((all t (inl refl)).0, t) ∷ listing layout ts (λ u h. all u (inr h))

listing_in : (layout : Layout Rid) (new : List Thing) (all : (t : Thing) → IsIn t new → (i : Rid) × layout i t) (u : Thing) → IsIn u new → (i : Rid) × IsIn (i, u) (listing layout new all)
listing_in layout [] all u h = elim h [ ]
listing_in layout (t ∷ ts) all u (inl e) = ((all t (inl refl)).0, inl (ap (λ (z : Thing). ((all t (inl refl)).0, z)) e))
listing_in layout (t ∷ ts) all u (inr h) = let x = listing_in layout ts (λ u h. all u (inr h)) u h in (x.0, inr x.1)

in_listing : (layout : Layout Rid) (new : List Thing) (all : (t : Thing) → IsIn t new → (i : Rid) × layout i t) (i : Rid) (u : Thing) → IsIn (i, u) (listing layout new all) → layout i u × IsIn u new
in_listing layout [] all i u h = elim h [ ]
in_listing layout (t ∷ ts) all i u (inl e) =
    let id : i ≡ (all t (inl refl)).0 = ap (λ (z : Rid × Thing). z.0) e in
    let same : u ≡ t = ap (λ (z : Rid × Thing). z.1) e in
    (subst (λ z. layout z u) (sym id) (subst (layout (all t (inl refl)).0) (sym same) (all t (inl refl)).1), inl same)
in_listing layout (t ∷ ts) all i u (inr h) = let x = in_listing layout ts (λ u h. all u (inr h)) i u h in (x.0, inr x.1)

-- a chip that is laid out by exactly these things is where the calls lead
listed-leads : (plan : Ports) (capacities : List ℕ) (made : ℕ) (objects : Objects) (new : List Thing) (calls : List (Call Rid)) (layout : Layout Rid) → AreLegal capacities made objects calls → AllPlanned plan calls → IsLaidOut layout (after_calls made objects calls) → ((t : Thing) → IsIn t new → (i : Rid) × layout i t) → ((i : Rid) (t : Thing) → layout i t → IsIn t new) → Leads plan capacities made objects (λ t. IsIn t new) calls
listed-leads plan capacities made objects new calls layout legal planned laid all only = record {
  legal = legal;
  planned = planned;
  stands = listing layout new all;
  laid = laid-same layout (listed (listing layout new all)) (after_calls made objects calls)
      (λ i t h. let x = listing_in layout new all t (only i t h) in subst (λ z. IsIn (z, t) (listing layout new all)) (laid.one x.0 i t t (in_listing layout new all x.0 t x.1).0 h refl).0 x.1)
      (λ i t h. (in_listing layout new all i t h).0)
      laid;
  into = λ u h. listing_in layout new all u h;
  back = λ u i h. (in_listing layout new all i u h).1;
}

-- ---- the calls of a plan make planned bodies

sets_planned : (plan : Ports) (i : Rid) (place : ℕ) (calls : List (Call Rid)) (layout : Layout Rid) (u t : Thing) → SetsThing i place calls layout u t → AllPlanned plan calls
sets_planned plan i place [] layout u t h = tt
sets_planned plan i place (c ∷ cs) layout u t h = (subst (IsPlannedCall plan) (sym h.5) tt, sets_planned plan i (attr_place h.1 + 1) cs (with_changed layout i h.2) h.2 t h.7)

all_append : (plan : Ports) (xs ys : List (Call Rid)) → AllPlanned plan xs → AllPlanned plan ys → AllPlanned plan (xs ++ ys)
all_append plan [] ys a b = b
all_append plan (x ∷ xs) ys a b = (a.0, all_append plan xs ys a.1 b)

change_planned : (plan : Ports) (layout : Layout Rid) (c : PlanChange) (calls : List (Call Rid)) → ((t : Thing) → c ≡ Make t → IsPlannedThing plan t) → MakesChange layout c calls → AllPlanned plan calls
change_planned plan layout (Make t) calls new h = subst (AllPlanned plan) (sym h.2) (of-body plan layout t h.0 h.1 (new t refl), tt)
change_planned plan layout (Set t) calls new h = sets_planned plan h.0 0 calls layout h.1 t h.4
change_planned plan layout (Remove k) calls new h = subst (AllPlanned plan) (sym h.6) (tt, tt)

run_planned : (plan : Ports) (made : ℕ) (layout : Layout Rid) (steps : List PlanChange) (calls : List (Call Rid)) → ((t : Thing) → IsIn (Make t) steps → IsPlannedThing plan t) → MakesChanges made layout steps calls → AllPlanned plan calls
run_planned plan made layout [] calls new run = subst (AllPlanned plan) (sym run) tt
run_planned plan made layout (c ∷ cs) calls new run =
    subst (AllPlanned plan) (sym run.2) (all_append plan run.0 run.1
    (change_planned plan layout c run.0 (λ t e. new t (inl (sym e))) run.3)
    (run_planned plan (made_after_all made run.0) (layout_after made layout c) cs run.1 (λ t h. new t (inr h)) run.4))

-- ---- the chip that was listed

module _ (plan : Ports) (is : IsPlan plan) {capacities : List ℕ} {made : ℕ} {objects : Objects} (chip : IsPlannedChip plan capacities made objects) where
  lane_by : (b : Body Rid) → IsPlannedBody plan b → has_first b ≡ true
  lane_by (body.Port lanes speed mtu up) h = has-first lanes (lanes-planned plan h.0 lanes is h.1)
  lane_by (body.Vlan v) h = refl
  lane_by (body.VirtualRouter label) h = refl
  lane_by (body.BridgePort v) h = refl
  lane_by (body.VlanMember v w x) h = refl
  lane_by (body.Rif v w) h = refl
  lane_by (body.OwnAddress v w) h = refl
  lane_by (body.Neighbor v w x) h = refl
  lane_by (body.NextHop v w) h = refl
  lane_by body.Group h = refl
  lane_by (body.GroupMember v w n) h = refl
  lane_by (body.Route v w x) h = refl

  prefix_by : (b : Body Rid) → IsPlannedBody plan b → HasPrefix b
  prefix_by (body.Route v prefix to) h = h
  prefix_by (body.Port lanes speed mtu up) h = tt
  prefix_by (body.Vlan v) h = tt
  prefix_by (body.VirtualRouter label) h = tt
  prefix_by (body.BridgePort v) h = tt
  prefix_by (body.VlanMember v w x) h = tt
  prefix_by (body.Rif v w) h = tt
  prefix_by (body.OwnAddress v w) h = tt
  prefix_by (body.Neighbor v w x) h = tt
  prefix_by (body.NextHop v w) h = tt
  prefix_by body.Group h = tt
  prefix_by (body.GroupMember v w n) h = tt

  pub chip-listed : IsListedChip made objects
  chip-listed = record {
    whole = chip.whole;
    lanes = record { each = λ e b h. lane_by b (chip.planned e b h) };
    prefixes = record { each = λ e b h. prefix_by b (chip.planned e b h) };
  }

  lanes_by : (p q : PortThing) → IsPlannedThing plan (thing.Port p) → IsPlannedThing plan (thing.Port q) → Overlap (thing.Port p) (thing.Port q) → name_of (thing.Port p) ≡ name_of (thing.Port q)
  lanes_by p q x y share = ap (λ (l : List ℕ). name.Port (first_lane l)) (lanes_name plan is p.lanes q.lanes x y (λ a b ha hb. one-planned plan a b p.lanes q.lanes is ha hb share))

  module _ (new : List Thing) (new_planned : (t : Thing) → IsIn t new → IsPlannedThing plan t) (view : IsView new) where
    listed_planned : (t : Thing) → IsIn t (old_things objects new) → IsPlannedThing plan t
    listed_planned t i =
        let x = old-seen chip-listed new t i in
        let s = x.1 in
        by-body plan (old_layout objects new) t s.body (body-seen (tag_of objects new) made objects chip.whole s.entry s.body t s.found s.thing) (chip.planned s.entry s.body s.found)

    ports_apart : (others : List Thing) → ((t : Thing) → IsIn t others → IsPlannedThing plan t) → PortsApart new others
    ports_apart others planned p q i j share = lanes_by p q (new_planned (thing.Port p) i) (planned (thing.Port q) j) share

    -- ---- a hitless plan

    module _ (calls : List (Call Rid)) (x : PlansHitless capacities made objects new calls) where
      pub is-hitless : IsHitlessPlan capacities made objects new x.steps
      is-hitless = record {
        chip = chip-listed;
        view = view;
        lanes = record { beside = ports_apart (old_things objects new) listed_planned; within = ports_apart new new_planned };
        is_plan = x.is_plan;
        room = fits-room x.is_plan capacities objects x.fits;
      }

      pub applies-hitless : AppliesHitless capacities made objects new x.steps [] calls
      applies-hitless = record { planned = subst (IsHitlessPlan capacities made objects new) (sym (append-nil x.steps)) is-hitless; run = x.run }

      pub hitless-leads : Leads plan capacities made objects (λ t. IsIn t new) calls
      hitless-leads =
          let end = hitless-end applies-hitless in
          listed-leads plan capacities made objects new calls end.layout end.legal
          (run_planned plan made (old_layout objects new) x.steps calls (λ t h. new_planned t (x.is_plan.makes t h).0) x.run)
          end.at.laid (new-stand (plan-safe is-hitless) end.at) (stands-new (plan-safe is-hitless) end.at)

    -- ---- a cold plan

    module _ (calls : List (Call Rid)) (x : PlansCold capacities made objects new calls) (fits : (kind : Kind) → length (made_names kind x.makes) ≤ capacity_of capacities kind) where
      pub applies-cold : AppliesCold capacities made objects new x.removes x.makes x.front x.rest
      applies-cold = record {
        planned = record { chip = chip-listed; view = view; lanes = record { beside = λ p q i j share. elim j [ ]; within = ports_apart new new_planned }; removing = x.removing; making = x.making; within = chip.fits; room = fits };
        removing = x.first;
        making = x.second;
      }

      pub cold-leads : Leads plan capacities made objects (λ t. IsIn t new) calls
      cold-leads =
          let end = cold-end applies-cold in
          subst (Leads plan capacities made objects (λ t. IsIn t new)) (sym x.is)
          (listed-leads plan capacities made objects new (x.front ++ x.rest) end.layout (cold-legal applies-cold)
          (all_append plan x.front x.rest
          (run_planned plan made (old_layout objects new) x.removes x.front (λ t h. elim (x.removing.makes t h).0 [ ]) x.first)
          (run_planned plan (made_after_all made x.front) nothing x.makes x.rest (λ t h. new_planned t (x.making.makes t h).0) x.second))
          (subst (IsLaidOut end.layout) (sym (after-append made objects x.front x.rest)) end.at.laid)
          (new-stand (makes-safe applies-cold.planned) end.at) (stands-new (makes-safe applies-cold.planned) end.at))
