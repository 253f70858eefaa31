-- the view that a restore has built is one that a plan can be made to, and its things are those of the machine
use Rattle.std.proofs.Common.{◌≡◌, ◌≤◌, ◌+◌, ◌∷◌, ◌∙◌, inl, inr, ℕ, Bool, true, false, cond, List, [], map, Option, None, Some, option_map, refl, sym, ap, subst, arith}
use Rattle.std.specs.BTreeMap.{is_at}
use Rattle.std.specs.Map.{lookup}
use Rattle.std.proofs.lemmas.Option.{same_Some}
use Rattle.table_schema.specs.Plan.{IsPlan, Ports, lanes_in_plan}
use Rattle.sai_types.specs.declared.ids.Rid.{Rid}
use Rattle.sai_types.specs.declared.ids.Vid.{Vid}
use Rattle.sai_types.specs.declared.kind.Kind.{Kind}
use Rattle.sai_types.specs.declared.kind.Kind.TheVariants as kind
use Rattle.sai_types.specs.declared.body.Body.{Body}
use Rattle.sai_types.specs.declared.body.Body.TheVariants as body
use Rattle.sai_types.specs.declared.body.Entry.{Entry}
use Rattle.sai_types.specs.declared.body.Entry.TheVariants as entry
use Rattle.sai_types.specs.declared.body.Object.{Object}
use Rattle.sai_types.specs.declared.plan.Plan.{Plan}
use Rattle.sai_types.specs.declared.thing.PortThing.{PortThing}
use Rattle.sai_types.specs.declared.thing.Thing.{Thing}
use Rattle.sai_types.specs.declared.thing.Thing.TheVariants as thing
use Rattle.sai_types.specs.After.{entry_of}
use Rattle.sai_types.specs.Alike.{IsAlike, IsIn, IsOnceIn}
use Rattle.sai_types.specs.Made.{IsWhole, same_entry}
use Rattle.sai_types.specs.Named.{bridge_port_at, goal_by, hop_on, hops_at, named, port_at, base_on, first_lane, router_at, thing_of, those, vlan_at, whop_at}
use Rattle.sai_types.specs.Names.{Meet}
use Rattle.sai_types.specs.Objects.{Objects, body_at, is_of, used}
use Rattle.sai_types.specs.Refusal.{capacity_of}
use Rattle.sai_types.proofs.Exact.{entry-exact}
use Rattle.sai_types.proofs.Found.{same-refl}
use Rattle.swss_types.proofs.Proper.{mapped}
use Rattle.sai_types.proofs.Keys.{share-first}
use Rattle.sai_types.proofs.Listed.{found-in, object-of_thing}
use Rattle.sai_types.proofs.Things.{both_mapped}
use Rattle.sai_types.proofs.Membership.{map-in}
use Rattle.chip_names.specs.Naming.{entries_of}
use Rattle.chip_layout.specs.Counted.{AreDistinct}
use Rattle.chip_layout.specs.Grouped.{AreGrouped}
use Rattle.chip_layout.specs.Layout.{Has, IsLaidOut, Layout, has_number, listed}
use Rattle.chip_layout.specs.Layout as layout
use Rattle.chip_layout.specs.Renamed.{body_renamed, entry_renamed}
use Rattle.chip_layout.proofs.Answering.{in_those, those_in}
use Rattle.chip_layout.proofs.Bodies.{entry-body}
use Rattle.chip_layout.proofs.Naming.{alike-laid, thing-laid}
use Rattle.chip_layout.proofs.Distinct.{distinct-by}
use Rattle.switch_model.proofs.Planned.{has-first, lanes-planned, one-planned}
use Rattle.switch_machine.specs.Events.{IsQuiet, IsSafe, SwitchState}
use Rattle.switch_machine.proofs.Calling.{lanes_name}
use Rattle.switch_machine.proofs.Resting.{grouped as machine_grouped}
use Rattle.switch_machine.proofs.Tabled.{tabled}
use Rattle.plan_laws.specs.Applied.{IsListedChip, chip_things}
use Rattle.view_match.specs.Listed.{objects_as, rid_of}
use Rattle.view_match.specs.Pairs.{new_keys, pairs_of}
use Rattle.apply_order.specs.Planned.{IsPlanOf}
use Rattle.apply_order.specs.Room.{lacking_from}
use Rattle.asic_view.specs.Things.{StandFor, by_number}
use Rattle.asic_view.specs.View.{ViewObjects, as_chip, as_rid, as_vid, entry_at, rid_at, rid_in, used_of, vid_cmp}
use Rattle.asic_view.proofs.Naming.{entries_told_alike, key-exact}
use Rattle.syncd_core.specs.Begun.{objects_listed}
use Rattle.syncd_core.specs.Tied.{tie_of}
use Rattle.apply_laws.specs.Viewed.{HaveOneLanes, things_in}
use Rattle.apply_laws.proofs.Order.Laying.{oid_back, same-thing, vid_by, vid_of}
use Rattle.apply_laws.proofs.Order.Raw.{found-raw}
use Rattle.apply_laws.proofs.Order.Viewing.{laid_things, pair_with, shown-of, thing_at}
use Rattle.apply_laws.specs.Begun.{IsApplyBegun, IsApplyReady, IsReadyView, entries_in}
use Rattle.apply_laws.proofs.Sync.Made.{as-listed}
use Rattle.apply_laws.proofs.Sync.Ready.{made-view, ready-begun}
use Rattle.apply_laws.specs.Standing.{AreThingsOf}
use Rattle.apply_laws.specs.Ties.{AreTied, entry_tied}
use Rattle.apply_laws.proofs.Tying.Alike.{stand-for, tie-once}
use Rattle.apply_laws.proofs.Tying.Calls.{used-alike}
use Rattle.restart_laws.specs.Chips.{IsPlannedBody, IsPlannedChip}
use Rattle.restart_laws.proofs.Bodies.{IsPlannedThing, of-body}
use Rattle.restart_laws.proofs.Leading.{chip-listed}
use Rattle.restart_laws.proofs.Viewing.{in-things, thing-planned}
use Rattle.session_laws.specs.Service.Built.{untied_view}
use Rattle.session_laws.proofs.Service.Natural.{natural-apart}
use Rattle.session_laws.proofs.Service.Viewing.{untied-shown, untied-used, used-more}

-- ---- lists of a view without its ties

entries_same : (os : ViewObjects) → entries_in (untied_view os) ≡ map (λ x. entry_renamed as_rid (entry_at x.0 x.1.body)) os
entries_same [] = refl
entries_same (x ∷ xs) = ap (λ l. entry_renamed as_rid (entry_at x.0 x.1.body) ∷ l) (entries_same xs)

raw_entries : (os : ViewObjects) → map (λ (o : Entry Rid × Body Rid). o.0) (entries_of (objects_as (objects_listed os))) ≡ entries_in os
raw_entries [] = refl
raw_entries (x ∷ xs) = ap (λ l. entry_renamed as_rid (entry_at x.0 x.1.body) ∷ l) (raw_entries xs)

none_at : (os : ViewObjects) (v : Vid) → rid_at (untied_view os) v ≡ None
none_at [] v = refl
none_at (x ∷ xs) v = by (is_at (vid_cmp v) x.0) (none_at xs v)
  where
    by : (b : Bool) → rid_at (untied_view xs) v ≡ None → rid_in (cond b (Some (record { body = x.1.body; rid = None })) (lookup (is_at (vid_cmp v)) (untied_view xs))) ≡ None
    by true rest = refl
    by false rest = rest

lacking_all : (kind : Kind) (os : ViewObjects) (place : ℕ) → lacking_from kind [] (objects_listed os) place ≡ used_of os kind
lacking_all kind [] place = refl
lacking_all kind (x ∷ xs) place = ap (λ n. cond (is_of kind x.1.body) 1 0 + n) (lacking_all kind xs (place + 1)) ∙ sym (used-more x xs kind)

-- two entries by number are of one entry
same_entries : (e d : Entry Vid) → entry_renamed as_rid e ≡ entry_renamed as_rid d → e ≡ d
same_entries e d h = key-exact e d (sym (entries_told_alike e d) ∙ ap (same_entry (entry_renamed as_rid e)) (sym h) ∙ same-refl (entry_renamed as_rid e))

-- a port that an object of planned body shows has lanes of the plan
port_of_body : (plan : Ports) (objects : Objects) (e : Entry Rid) (b : Body Rid) (p : PortThing) → IsPlannedBody plan b → thing_of objects (e, b) ≡ Some (thing.Port p) → IsPlannedThing plan (thing.Port p)
port_of_body plan objects e (body.Port lanes speed mtu up) p planned shows = let same : lanes ≡ p.lanes = cc in subst (λ l. (q : ℕ) × (lanes_in_plan plan q ≡ Some l)) same planned
port_of_body plan objects e (body.Vlan v) p planned shows = absurd cc
port_of_body plan objects e (body.VirtualRouter label) p planned shows = absurd cc
port_of_body plan objects e (body.BridgePort i) p planned shows = let m = mapped thing.BridgePort (port_at objects i) (thing.Port p) shows in let is = m.2 in absurd cc
port_of_body plan objects e (body.VlanMember v i tagging) p planned shows = let m = both_mapped (λ w q. thing.VlanMember w q tagging) (vlan_at objects v) (bridge_port_at objects i) (thing.Port p) shows in let is = m.4 in absurd cc
port_of_body plan objects e (body.Rif vr on) p planned shows = let m = both_mapped thing.Rif (base_on objects on) (router_at objects vr) (thing.Port p) shows in let is = m.4 in absurd cc
port_of_body plan objects e (body.OwnAddress vr ip) p planned shows = let m = mapped (λ v. thing.Own v ip) (router_at objects vr) (thing.Port p) shows in let is = m.2 in absurd cc
port_of_body plan objects e (body.Neighbor rif ip mac) p planned shows = let m = mapped (λ h. thing.Neighbor h mac) (hop_on objects rif ip) (thing.Port p) shows in let is = m.2 in absurd cc
port_of_body plan objects e (body.NextHop rif ip) p planned shows = let m = mapped thing.NextHop (hop_on objects rif ip) (thing.Port p) shows in let is = m.2 in absurd cc
port_of_body plan objects (entry.Oid g) body.Group p planned shows = let m = mapped thing.Group (hops_at objects g) (thing.Port p) shows in let is = m.2 in absurd cc
port_of_body plan objects (entry.Own vr ip) body.Group p planned shows = absurd cc
port_of_body plan objects (entry.Neigh r ip) body.Group p planned shows = absurd cc
port_of_body plan objects (entry.Route vr q) body.Group p planned shows = absurd cc
port_of_body plan objects e (body.GroupMember g n weight) p planned shows = let m = both_mapped thing.GroupMember (hops_at objects g) (whop_at objects n weight) (thing.Port p) shows in let is = m.4 in absurd cc
port_of_body plan objects e (body.Route vr prefix to) p planned shows = let m = both_mapped (λ v g. thing.Route v prefix g) (router_at objects vr) (goal_by (hops_at objects) objects to) (thing.Port p) shows in let is = m.4 in absurd cc

-- two ports of the plan that can't stand together have the same lanes
one_lanes : (plan : Ports) → IsPlan plan → (p q : PortThing) → IsPlannedThing plan (thing.Port p) → IsPlannedThing plan (thing.Port q) → Meet (thing.Port p) (thing.Port q) → p.lanes ≡ q.lanes
one_lanes plan is p q mine other (inr share) = lanes_name plan is p.lanes q.lanes mine other (λ a b ha hb. one-planned plan a b p.lanes q.lanes is ha hb share)
one_lanes plan is p q mine other (inl names) =
    let first : first_lane p.lanes ≡ first_lane q.lanes = cc in
    lanes_name plan is p.lanes q.lanes mine other
    (λ a b ha hb. one-planned plan a b p.lanes q.lanes is ha hb (share-first p.lanes q.lanes first (has-first p.lanes (lanes-planned plan a p.lanes is ha)) (has-first q.lanes (lanes-planned plan b q.lanes is hb))))

module _ (plan : Ports) (is : IsPlan plan) (capacities : List ℕ) (s : SwitchState) (kept : IsSafe plan 4 capacities s) (quiet : IsQuiet s) (view : ViewObjects) (tied : AreTied view s.made s.objects) where
  -- ---- its things, by the numbers of its identifiers

  pub stand : (things : List (Vid × Thing)) × StandFor (listed things) view × AreThingsOf view s.machine.stands things
  stand = stand-for view s.made s.objects s.machine.stands tied kept.whole kept.laid

  abbrev S : Objects
  S = as_chip view

  abbrev L : Layout Rid
  L = by_number (listed stand.0)

  laid : IsLaidOut L S
  laid = stand.1.laid

  whole : IsWhole stand.1.made S
  whole = stand.1.whole

  grouped : AreGrouped L
  grouped =
      let g = machine_grouped plan (tabled plan is) s.machine kept.sound quiet in
      record {
        rising = λ i hops h. let x = stand.2.into (as_vid i) (thing.Group hops) h in g.rising x.0 hops x.1;
        have = λ i hops hop h j. let x = stand.2.into (as_vid i) (thing.Group hops) h in let m = g.have x.0 hops hop x.1 j in let y = stand.2.back m.0 (thing.GroupMember hops hop) m.1 in (as_rid y.0, y.1);
        only = λ i hops hop h. let x = stand.2.into (as_vid i) (thing.GroupMember hops hop) h in g.only x.0 hops hop x.1;
      }

  thing_stands : (i : Rid) (t : Thing) → L i t → (j : Rid) × IsIn (j, t) s.machine.stands
  thing_stands i t h = let x = stand.2.into (as_vid i) t h in (x.0, x.1)

  planned_thing : (i : Rid) (t : Thing) → L i t → IsPlannedThing plan t
  planned_thing i t h = let x = thing_stands i t h in thing-planned plan is 4 capacities s kept quiet t (in-things s.machine.stands x.0 t x.1)

  -- room for what stands, of each kind
  abbrev own_room : List ℕ
  own_room = used S kind.Port ∷ used S kind.Vlan ∷ used S kind.VirtualRouter ∷ used S kind.BridgePort ∷ used S kind.VlanMember ∷ used S kind.Rif ∷ used S kind.OwnAddress ∷ used S kind.Neighbor ∷ used S kind.NextHop ∷ used S kind.Group ∷ used S kind.GroupMember ∷ used S kind.Route ∷ []

  in_room : (k : Kind) → used S k ≤ capacity_of own_room k
  in_room kind.Port = omega arith
  in_room kind.Vlan = omega arith
  in_room kind.VirtualRouter = omega arith
  in_room kind.BridgePort = omega arith
  in_room kind.VlanMember = omega arith
  in_room kind.Rif = omega arith
  in_room kind.OwnAddress = omega arith
  in_room kind.Neighbor = omega arith
  in_room kind.NextHop = omega arith
  in_room kind.Group = omega arith
  in_room kind.GroupMember = omega arith
  in_room kind.Route = omega arith

  listed_chip : IsListedChip stand.1.made S
  listed_chip = chip-listed plan is {capacities = own_room} (record {
    whole = whole;
    planned = λ e b found. let x = laid.tied e b found in of-body plan L x.1 b x.3 (planned_thing x.0 x.1 x.2);
    fits = in_room;
  })

  -- ---- the view without ties is ready

  abbrev bare_view : ViewObjects
  bare_view = untied_view view

  bare_chip : IsListedChip stand.1.made (as_chip bare_view)
  bare_chip = subst (IsListedChip stand.1.made) (sym (untied-shown as_rid view)) listed_chip

  bare_laid : IsLaidOut L (as_chip bare_view)
  bare_laid = subst (IsLaidOut L) (sym (untied-shown as_rid view)) laid

  apart : AreDistinct (entries_in bare_view)
  apart = subst AreDistinct (sym (entries_same view)) (distinct-by (entry_tied view) (λ x. entry_renamed as_rid (entry_at x.0 x.1.body)) view (λ x y i j same. ap (entry_renamed (tie_of view)) (same_entries (entry_at x.0 x.1.body) (entry_at y.0 y.1.body) same)) tied.once)

  pub natural : AreDistinct (those (new_keys (objects_listed bare_view)))
  natural = natural-apart bare_chip (entries_of (objects_as (objects_listed bare_view))) (as-listed bare_view apart) (subst AreDistinct (sym (raw_entries bare_view)) apart) L bare_laid grouped

  pub ready-view : IsReadyView stand.1.made bare_view
  ready-view = record { chip = bare_chip; apart = apart; distinct = natural; free = none_at view }

  -- ---- its things

  abbrev pub things_built : List (Vid × Thing)
  things_built = laid_things (made-view ready-view)

  alike : IsAlike (as_chip bare_view) (layout.view_of L)
  alike = alike-laid L (as_chip bare_view) bare_laid stand.1.made bare_chip.whole grouped

  shown_stands : (t : Thing) → IsIn t (chip_things (as_chip bare_view)) → (i : Rid) × IsIn (i, t) s.machine.stands
  shown_stands t i =
      let x = alike.each (Some t) (those_in t (named (as_chip bare_view)) i) in
      let same : t ≡ x.0 = same_Some t x.0 x.1 in
      let y = thing_stands x.2.0 x.0 x.2.1 in
      (y.0, subst (λ z. IsIn (y.0, z) s.machine.stands) (sym same) y.1)

  once_in : {X : Type 0} (x : X) (xs : List X) → IsOnceIn x xs → IsIn x xs
  once_in x [] h = h
  once_in x (y ∷ ys) (inl h) = inl h.0
  once_in x (y ∷ ys) (inr h) = inr (once_in x ys h.1)

  stands_shown : (i : Rid) (t : Thing) → IsIn (i, t) s.machine.stands → IsIn t (chip_things (as_chip bare_view))
  stands_shown i t h =
      let y = stand.2.back i t h in
      in_those t (named (as_chip bare_view)) (once_in (Some t) (named (as_chip bare_view)) (alike.once t (as_rid y.0, y.1)))

  pub built-stands : (t : Thing) → IsIn t (things_in things_built) → (i : Rid) × IsIn (i, t) s.machine.stands
  built-stands t i = shown_stands t ((shown-of (made-view ready-view) t).0 i)

  pub stands-built : (i : Rid) (t : Thing) → IsIn (i, t) s.machine.stands → IsIn t (things_in things_built)
  stands-built i t h = (shown-of (made-view ready-view) t).1 (stands_shown i t h)

  -- ---- each by its identifier

  abbrev new : List (Object Vid)
  new = objects_listed bare_view

  in_items : (os : List (Object Vid)) (o : Object Vid) → IsIn o os → IsIn (entry_renamed rid_of o.entry, body_renamed rid_of o.body) (entries_of (objects_as os))
  in_items [] o i = elim i [ ]
  in_items (p ∷ ps) o (inl same) = inl (ap (λ (z : Object Vid). (entry_renamed rid_of z.entry, body_renamed rid_of z.body)) same)
  in_items (p ∷ ps) o (inr i) = inr (in_items ps o i)

  thing_some : (o : Object Vid) (p : Option Thing) (v : Vid) (t : Thing) → Some (v, t) ≡ option_map (pair_with (made-view ready-view) (vid_of o.entry)) p → (v ≡ vid_of o.entry) × (p ≡ Some t)
  thing_some o None v t h = absurd cc
  thing_some o (Some u) v t h =
      let same : (v, t) ≡ (vid_of o.entry, u) = same_Some (v, t) (vid_of o.entry, u) h in
      (ap (λ (z : Vid × Thing). z.0) same, ap (λ (z : Vid × Thing). Some z.1) (sym same))

  number_of_thing : (v : Vid) (t : Thing) → IsIn (v, t) things_built → has_number t ≡ true → L (as_rid v) t
  number_of_thing v t i number =
      let m = made-view ready-view in
      let o = map-in (thing_at m) new (Some (v, t)) (those_in (v, t) (map (thing_at m) new) i) in
      let e = entry_renamed rid_of o.0.entry in
      let b = body_renamed rid_of o.0.body in
      let found : body_at (as_chip bare_view) e ≡ Some b = found-raw bare_chip (entries_of (objects_as new)) m.same (chip_things (as_chip bare_view)) e b (in_items new o.0 o.1) in
      let w = thing_some o.0 _ v t o.2 in
      let shows : thing_of (as_chip bare_view) (e, b) ≡ Some t = same-thing m e b found ∙ w.1 in
      let x = bare_laid.tied e b found in
      let same : x.1 ≡ t = same_Some x.1 t (sym (thing-laid L (as_chip bare_view) bare_laid stand.1.made bare_chip.whole grouped x.0 x.1 e b x.2 x.3 x.4) ∙ shows) in
      let entry_is : e ≡ entry.Oid x.0 = entry-exact e (entry_of x.0.0 b) x.4 ∙ entry-body (Has L) x.0.0 x.1 b x.3 (ap has_number same ∙ number) in
      let vid : v ≡ vid_by x.0 = w.0 ∙ ap vid_of (oid_back o.0.entry x.0 entry_is) in
      subst (λ z. L z t) (ap as_rid (sym vid)) (subst (L x.0) same x.2)

  pub same-id : (i : Rid) (t : Thing) (v : Vid) → IsIn (i, t) s.machine.stands → has_number t ≡ true → rid_at view v ≡ Some i → IsIn (v, t) things_built
  same-id i t v h number at =
      let y = stand.2.back i t h in
      let mine : y.0 ≡ v = tie-once view s.made s.objects tied y.0 v i (y.2 number) at in
      let x = map-in (λ (z : Vid × Thing). z.1) things_built t (stands-built i t h) in
      let there : IsIn (x.0.0, t) things_built = subst (λ z. IsIn (x.0.0, z) things_built) (sym x.2) x.1 in
      let other = number_of_thing x.0.0 t there number in
      let one : as_rid x.0.0 ≡ as_rid y.0 = (laid.one (as_rid x.0.0) (as_rid y.0) t t other y.1 refl).0 in
      subst (λ z. IsIn (z, t) things_built) (ap as_vid one ∙ mine) there

  -- ---- beside the chip that was listed

  module _ (made : ℕ) (objects : Objects) (chip : IsPlannedChip plan capacities made objects) (old : List (Object Rid)) (old_is : entries_of old ≡ objects) where
    port_there : (p : PortThing) → IsIn (thing.Port p) (chip_things objects) → IsPlannedThing plan (thing.Port p)
    port_there p i =
        let o = object-of_thing objects objects (Some (thing.Port p)) (those_in (thing.Port p) (named objects) i) in
        port_of_body plan objects o.0 o.1 p (chip.planned o.0 o.1 (found-in objects o.0 o.1 chip.whole.sorted o.2)) (sym o.3)

    lanes : HaveOneLanes objects (chip_things (as_chip bare_view))
    lanes = record {
      same = λ p q i j meet.
          let x = shown_stands (thing.Port p) i in
          let mine = thing-planned plan is 4 capacities s kept quiet (thing.Port p) (in-things s.machine.stands x.0 (thing.Port p) x.1) in
          one_lanes plan is p q mine (port_there q j) meet;
    }

    pub ready-both : IsApplyReady capacities made old stand.1.made bare_view
    ready-both = record {
      chip = subst (IsListedChip made) (sym old_is) (chip-listed plan is chip);
      ready = ready-view;
      lanes = subst (λ z. HaveOneLanes z (chip_things (as_chip bare_view))) (sym old_is) lanes;
      held = λ k. subst (λ z. used z k ≤ capacity_of capacities k) (sym old_is) (chip.fits k);
      fits = λ k.
          let count : lacking_from k [] (objects_listed bare_view) 0 ≡ used s.objects k = lacking_all k bare_view 0 ∙ untied-used view k ∙ used-alike view s.made s.objects tied k in
          let places = kept.places k in
          omega (arith, count, places);
    }

    pub begun-built : (plan' : Plan) → IsPlanOf old (objects_listed bare_view) (pairs_of old (objects_listed bare_view)) capacities plan' → IsApplyBegun capacities made old bare_view things_built plan'
    unfolding ready-both
    begun-built plan' planned = ready-begun ready-both plan' planned
