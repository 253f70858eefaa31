-- a call that is told by the service's identifiers is one by those to which they are tied
use Rattle.std.proofs.Common.{◌≡◌, ◌⊎◌, ◌∙◌, inl, inr, true, List, Option, None, Some, option_map, refl, sym, ap, subst}
use Rattle.swss_types.specs.declared.vrf.Vrf.{Vrf}
use Rattle.swss_types.specs.declared.vrf.Vrf.TheVariants as vrf
use Rattle.swss_types.specs.declared.vrf.VrfName.{VrfName}
use Rattle.sai_types.specs.declared.ids.Rid.{Rid}
use Rattle.sai_types.specs.declared.ids.Vid.{Vid}
use Rattle.sai_types.specs.declared.hop.Hop.{Hop}
use Rattle.sai_types.specs.declared.body.Attr.{Attr}
use Rattle.sai_types.specs.declared.body.Attr.TheVariants as attr
use Rattle.sai_types.specs.declared.body.Body.{Body}
use Rattle.sai_types.specs.declared.body.Call.{Call}
use Rattle.sai_types.specs.declared.body.Call.TheVariants as call
use Rattle.sai_types.specs.declared.body.Entry.{Entry}
use Rattle.sai_types.specs.declared.thing.Goal.{Goal}
use Rattle.sai_types.specs.declared.thing.Goal.TheVariants as goal
use Rattle.sai_types.specs.declared.thing.PortThing.{PortThing}
use Rattle.sai_types.specs.declared.thing.Thing.{Thing}
use Rattle.sai_types.specs.declared.thing.Thing.TheVariants as thing
use Rattle.sai_types.specs.After.{entry_of}
use Rattle.sai_types.specs.Alike.{IsIn}
use Rattle.sai_types.specs.Names as name
use Rattle.sai_types.specs.Names.{ThingName, name_kind, name_of}
use Rattle.sai_types.specs.Objects.{Objects}
use Rattle.chip_layout.specs.Bodies.{IsAt, IsBody, IsChange, body_with, first_name, goal_name, is_numbered, router_name, second_name, to_with, vr_with}
use Rattle.chip_layout.specs.Layout.{Has, IsLaidOut, Layout, has_number}
use Rattle.chip_layout.specs.Renamed.{attr_renamed, body_renamed, call_renamed, entry_renamed, to_renamed}
use Rattle.chip_layout.proofs.Bodies.{first-numbered, second-numbered}
use Rattle.chip_layout.proofs.Entries.{IsEntry, IsRouter, entry-named, entry-one}
use Rattle.chip_layout.proofs.Laid.{changed}
use Rattle.chip_layout.proofs.Shapes.{renamed_with}
use Rattle.switch_machine.specs.Changes.{IsMakeCall, IsSetCall, IsTakeCall}
use Rattle.orch_flight.specs.Calling.{IsEnteredBy, IsEntryOf, IsMaking, IsSetting, IsTaking, entry_by}

-- ---- names of things

abbrev FirstIs : Thing → ThingName → Type 0
FirstIs t n = first_name t ≡ Some n

-- a neighbour refers to its interface
pub neighbor_first : (t : Thing) (hop : Hop) → name_of t ≡ name.Neighbor hop → FirstIs t (name.Rif hop.on)
neighbor_first (thing.Neighbor hop mac) other h = let same : hop ≡ other = cc in ap (λ (z : Hop). Some (name.Rif z.on)) same
neighbor_first _ other h = absurd cc

-- and its entry has the identifier of that
pub neighbor_entered : (t : Thing) (hop : Hop) → name_of t ≡ name.Neighbor hop → IsEnteredBy t (name.Rif hop.on)
neighbor_entered (thing.Neighbor hop mac) other h = tt
neighbor_entered _ other h = absurd cc

goal_numbered : (g : Goal) (n : ThingName) → goal_name g ≡ Some n → is_numbered (name_kind n) ≡ true
goal_numbered goal.Drop n h = absurd cc
goal_numbered (goal.Direct on) n h = let same : n ≡ name.Rif on = cc in ap (λ z. is_numbered (name_kind z)) same
goal_numbered (goal.Via hop) n h = let same : n ≡ name.NextHop hop = cc in ap (λ z. is_numbered (name_kind z)) same
goal_numbered (goal.Group hops) n h = let same : n ≡ name.Group hops = cc in ap (λ z. is_numbered (name_kind z)) same

to_is : (f : Vid → Rid) (g : Goal) (i : Vid) → to_renamed f (to_with g i) ≡ to_with g (f i)
to_is f goal.Drop i = refl
to_is f (goal.Direct on) i = refl
to_is f (goal.Via hop) i = refl
to_is f (goal.Group hops) i = refl

port_or : (t : Thing) → ((p : PortThing) × (t ≡ thing.Port p)) ⊎ ((p : PortThing) → t ≡ thing.Port p → ⊥)
port_or (thing.Port p) = inl (p, refl)
port_or _ = inr (λ p h. cc)

-- the virtual router of what is named with it
abbrev pub router_in : ThingName → Vrf
router_in (name.Own v ip) = v
router_in (name.Route v prefix) = v
router_in _ = vrf.Default

-- it is the second that the thing refers to
pub router_second : (t : Thing) (label : VrfName) → router_in (name_of t) ≡ vrf.Named label → second_name t ≡ Some (name.VirtualRouter label)
router_second (thing.Own v ip) label h = ap router_name h
router_second (thing.Route v prefix goal) label h = ap router_name h
router_second _ label h = absurd cc

-- and the entry has the identifier of that
pub router_entered : (t : Thing) (label : VrfName) → router_in (name_of t) ≡ vrf.Named label → IsEnteredBy t (name.VirtualRouter label)
router_entered (thing.Own v ip) label h = tt
router_entered (thing.Route v prefix goal) label h = tt
router_entered _ label h = absurd cc

-- ---- the call

module _ (L : Layout Rid) (objects : Objects) (laid : IsLaidOut L objects) (at : ThingName → Vid → Type 0) (f : Vid → Rid) (tied : (n : ThingName) (v : Vid) (i : Rid) → is_numbered (name_kind n) ≡ true → Has L n i → at n v → f v ≡ i) where
  -- what has an identifier on the chip has the one to which its own is tied
  tied_at : (o : Option ThingName) (v : Vid) (i : Rid) → ((n : ThingName) → o ≡ Some n → is_numbered (name_kind n) ≡ true) → IsAt (Has L) o i → IsAt at o v → IsAt (Has L) o (f v)
  tied_at None v i numbered there h = tt
  tied_at (Some n) v i numbered there h = subst (Has L n) (sym (tied n v i (numbered n refl) there h)) there

  body_told : (t : Thing) (b : Body Vid) (d : Body Rid) → IsBody at t b → IsBody (Has L) t d → IsBody (Has L) t (body_renamed f b)
  body_told t b d x y = record {
    first = f x.first;
    second = f x.second;
    first_at = tied_at (first_name t) x.first y.first (first-numbered t) y.first_at x.first_at;
    second_at = tied_at (second_name t) x.second y.second (second-numbered t) y.second_at x.second_at;
    body_is = ap (body_renamed f) x.body_is ∙ renamed_with f t x.first x.second;
  }

  -- ---- a thing is made

  pub making_told : (t : Thing) (c : Call Vid) (d : Call Rid) → IsMaking at t c → IsMakeCall L t d → IsMakeCall L t (call_renamed f c)
  making_told t c d x y = record { body = body_renamed f x.body; of = body_told t x.body y.body x.of y.of; is = ap (call_renamed f) x.is }

  -- ---- the entry of what stands

  router_told : (w : Vrf) (b : Vid) → IsAt (Has L) (router_name w) (f b) → IsRouter (Has L) w (option_map f (vr_with w b))
  router_told vrf.Default b h = tt
  router_told (vrf.Named label) b h = h

  entry_with : (t : Thing) (v a b : Vid) → (has_number t ≡ true → Has L (name_of t) (f v)) → ((hop : Hop) → name_of t ≡ name.Neighbor hop → Has L (name.Rif hop.on) (f a)) → IsAt (Has L) (router_name (router_in (name_of t))) (f b) → IsEntry (Has L) (name_of t) (entry_renamed f (entry_by v (body_with t a b)))
  entry_with (thing.Own w ip) v a b h n r = (w, refl, router_told w b r)
  entry_with (thing.Neighbor hop mac) v a b h n r = (hop.on, refl, n hop refl)
  entry_with (thing.Route w prefix to) v a b h n r = (w, refl, router_told w b r)
  entry_with _ v a b h n r = (refl, h refl)

  -- a thing is told by its entry, and another of its name stands
  entry_told : (old : Thing) (e : Entry Vid) (i : Rid) (u : Thing) (d : Body Rid) → IsEntryOf at old e → L i u → name_of u ≡ name_of old → IsBody (Has L) u d → entry_renamed f e ≡ entry_of i.0 d
  entry_told old e i u d x there same y =
      entry-one L objects laid (name_of old) (entry_renamed f e) (entry_of i.0 d)
      (subst (λ z. IsEntry (Has L) (name_of old) (entry_renamed f z)) (sym (x.is ∙ ap (entry_by x.id) x.of.body_is)) (entry_with old x.id x.of.first x.of.second numbered neighbor (router (router_in (name_of old)) refl)))
      (subst (λ z. IsEntry (Has L) z (entry_of i.0 d)) same (entry-named L objects laid i u d there y))
    where
      has : Has L (name_of old) i
      has = (u, there, same)

      numbered : has_number old ≡ true → Has L (name_of old) (f x.id)
      numbered h = subst (Has L (name_of old)) (sym (tied (name_of old) x.id i h has (x.numbered h))) has

      neighbor : (hop : Hop) → name_of old ≡ name.Neighbor hop → Has L (name.Rif hop.on) (f x.of.first)
      neighbor hop h =
          let on : Has L (name.Rif hop.on) y.first = subst (λ o. IsAt (Has L) o y.first) (neighbor_first u hop (same ∙ h)) y.first_at in
          let told : at (name.Rif hop.on) x.of.first = subst (λ o. IsAt (λ n v. IsEnteredBy old n → at n v) o x.of.first) (neighbor_first old hop h) x.of.first_at (neighbor_entered old hop h) in
          subst (Has L (name.Rif hop.on)) (sym (tied (name.Rif hop.on) x.of.first y.first refl on told)) on

      router : (w : Vrf) → router_in (name_of old) ≡ w → IsAt (Has L) (router_name w) (f x.of.second)
      router vrf.Default h = tt
      router (vrf.Named label) h =
          let in_it : Has L (name.VirtualRouter label) y.second = subst (λ o. IsAt (Has L) o y.second) (router_second u label (ap router_in same ∙ h)) y.second_at in
          let told : at (name.VirtualRouter label) x.of.second = subst (λ o. IsAt (λ n v. IsEnteredBy old n → at n v) o x.of.second) (router_second old label h) x.of.second_at (router_entered old label h) in
          subst (Has L (name.VirtualRouter label)) (sym (tied (name.VirtualRouter label) x.of.second y.second refl in_it told)) in_it

  -- ---- a thing is taken away

  pub taking_told : (things : List Thing) (n : ThingName) (c : Call Vid) (d : Call Rid) → IsTaking at things n c → IsTakeCall L n d → IsTakeCall L n (call_renamed f c)
  taking_told things n c d x y = record {
    id = y.id;
    old = y.old;
    stands = y.stands;
    named = y.named;
    body = y.body;
    of = y.of;
    is = ap (call_renamed f) x.is ∙ ap call.Remove (entry_told x.old x.entry y.id y.old y.body x.of y.stands (y.named ∙ sym x.same) y.of);
  }

  -- ---- an attribute is set

  -- the same attribute of another thing of the name
  change_told : (t old u : Thing) (a : Attr Vid) (b : Attr Rid) → ((p : PortThing) → t ≡ thing.Port p → ⊥) → name_of t ≡ name_of old → IsChange at t a u → IsChange (Has L) old b u → IsChange (Has L) old (attr_renamed f a) u
  change_told (thing.Port p) old u a b port same x y = absurd (port p refl)
  change_told (thing.VlanMember v l s) (thing.VlanMember w m r) u (attr.Tagging z) b port same x y = cc
  change_told (thing.VlanMember v l s) old u (attr.Tagging z) b port same x y = absurd cc
  change_told (thing.Neighbor h m) (thing.Neighbor g n) u (attr.Mac z) b port same x y = cc
  change_told (thing.Neighbor h m) old u (attr.Mac z) b port same x y = absurd cc
  change_told (thing.Route v p g) (thing.Route w q e) u (attr.To z) (attr.To y) port same (next, i, told, is, later) (goal, j, there, _, set) =
      let goals : goal ≡ next = cc in
      let prefixes : thing.Route v p next ≡ thing.Route w q next = cc in
      (next, f i, tied_at (goal_name next) i j (goal_numbered next) (subst (λ x. IsAt (Has L) (goal_name x) j) goals there) told, ap (to_renamed f) is ∙ to_is f next i, later ∙ prefixes)
  change_told (thing.Route v p g) (thing.Route w q e) u (attr.To z) b port same x y = elim y [ ]
  change_told (thing.Route v p g) old u (attr.To z) b port same x y = absurd cc
  change_told _ old u a b port same x y = elim x [ ]

  port_told : (p : PortThing) (u : Thing) (a : Attr Vid) → IsChange at (thing.Port p) a u → IsChange (Has L) (thing.Port p) (attr_renamed f a) u
  port_told p u (attr.Speed s) x = x
  port_told p u (attr.Mtu m) x = x
  port_told p u (attr.Up z) x = x
  port_told p u _ x = elim x [ ]

  pub setting_told : (things : List Thing) (u : Thing) (c : Call Vid) (d : Call Rid) → ((p : PortThing) → IsIn (thing.Port p) things → name_of (thing.Port p) ≡ name_of u → (i : Rid) × L i (thing.Port p)) → IsSetting at things u c → IsSetCall L u d → IsSetCall L u (call_renamed f c)
  setting_told things u c d ports x y = by (port_or x.old)
    where
      is_set : (e : Entry Rid) → entry_renamed f x.entry ≡ e → call_renamed f c ≡ call.Set e (attr_renamed f x.attr)
      is_set e same = ap (call_renamed f) x.is ∙ ap (λ z. call.Set z (attr_renamed f x.attr)) same

      by : ((p : PortThing) × (x.old ≡ thing.Port p)) ⊎ ((p : PortThing) → x.old ≡ thing.Port p → ⊥) → IsSetCall L u (call_renamed f c)
      by (inl (p, e)) =
          let s = ports p (subst (λ z. IsIn z things) e x.there) (ap name_of (sym e) ∙ x.same) in
          let b = laid.stand s.0 (thing.Port p) s.1 in
          record {
            id = s.0;
            old = thing.Port p;
            stands = s.1;
            body = b.0;
            of = b.1;
            attr = attr_renamed f x.attr;
            change = port_told p u x.attr (subst (λ z. IsChange at z x.attr u) e x.change);
            is = is_set (entry_of s.0.0 b.0) (entry_told x.old x.entry s.0 (thing.Port p) b.0 x.of s.1 (ap name_of (sym e)) b.1);
          }
      by (inr other) =
          let set = changed L objects laid y.old u y.body y.attr y.of y.change in
          record {
            id = y.id;
            old = y.old;
            stands = y.stands;
            body = y.body;
            of = y.of;
            attr = attr_renamed f x.attr;
            change = change_told x.old y.old u x.attr y.attr other (x.same ∙ set.same) x.change y.change;
            is = is_set (entry_of y.id.0 y.body) (entry_told x.old x.entry y.id y.old y.body x.of y.stands (sym (x.same ∙ set.same)) y.of);
          }
