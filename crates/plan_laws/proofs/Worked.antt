-- a route that moves to another group while a second prefix covers it, worked out by computation: nothing cites it, and it shows that the definitions say what is meant
use Rattle.std.proofs.Common.{◌≡◌, inl, inr, ℕ, false, List, [], ◌∷◌, map, take, None, refl, sym, ap, ◌∙◌, subst, arith, rules}
use Rattle.swss_types.specs.Packets.{packet_to}
use Rattle.swss_types.specs.Address.{IsProperPrefix}
use Rattle.swss_types.specs.declared.address.Family.TheVariants.{V4}
use Rattle.swss_types.specs.declared.address.Ip.{Ip}
use Rattle.swss_types.specs.declared.address.Mac.{Mac}
use Rattle.swss_types.specs.declared.address.Prefix.{Prefix}
use Rattle.sai_types.specs.declared.ids.Rid.{Rid}
use Rattle.sai_types.specs.declared.hop.Base.TheVariants as base
use Rattle.sai_types.specs.declared.hop.Hop.{Hop}
use Rattle.sai_types.specs.declared.weight.WHop.{WHop}
use Rattle.swss_types.specs.declared.vrf.Vrf.{Vrf}
use Rattle.swss_types.specs.declared.vrf.Vrf.TheVariants as vrf
use Rattle.sai_types.specs.declared.body.Attr.TheVariants as attr
use Rattle.sai_types.specs.declared.body.Body.TheVariants as body
use Rattle.sai_types.specs.declared.body.Call.{Call}
use Rattle.sai_types.specs.declared.body.Call.TheVariants as call
use Rattle.sai_types.specs.declared.body.Entry.TheVariants as entry
use Rattle.sai_types.specs.declared.body.RifOn.TheVariants as on
use Rattle.sai_types.specs.declared.body.To.TheVariants as to
use Rattle.sai_types.specs.declared.kind.Kind.TheVariants as kind
use Rattle.sai_types.specs.declared.thing.Goal.{Goal}
use Rattle.sai_types.specs.declared.thing.Goal.TheVariants as goal
use Rattle.sai_types.specs.declared.thing.Thing.{Thing}
use Rattle.sai_types.specs.declared.thing.Thing.TheVariants as thing
use Rattle.sai_types.specs.After.{after_calls, chip_after}
use Rattle.sai_types.specs.Alike.{IsIn}
use Rattle.sai_types.specs.Forwarding.{Decision, Via, alone, decide}
use Rattle.sai_types.specs.Made.{AreLegal}
use Rattle.sai_types.specs.Names as name
use Rattle.sai_types.specs.Names.{Refers}
use Rattle.sai_types.specs.Objects.{Objects}
use Rattle.sai_types.proofs.Whole.{whole-empty}
use Rattle.chip_layout.specs.Seen.{no_id}
use Rattle.plan_laws.specs.Applied.{AppliesHitless, chip_things}
use Rattle.plan_laws.specs.Old.{filler, group_stays}
use Rattle.plan_laws.specs.Plans.{Make, PlanChange, Remove, Set, hitless_rank}
use Rattle.plan_laws.specs.Views.{HasRoomForPlan}

abbrev id : ℕ → Rid
id n = record { 0 = n }

abbrev ip : ℕ → Ip
ip n = record { family = V4; bits = n }

abbrev mac : ℕ → Mac
mac n = record { 0 = n ∷ n ∷ n ∷ n ∷ n ∷ n ∷ [] }

abbrev hop : ℕ → Hop
hop n = record { on = base.Vlan 10; ip = ip n }

abbrev weighed : ℕ → ℕ → WHop
weighed n weight = record { hop = hop n; weight = weight }

-- the prefixes 0.0.1.0/24 and 0.0.0.0/16
abbrev narrow : Prefix
narrow = record { ip = ip 256; len = 24 }

abbrev wide : Prefix
wide = record { ip = ip 0; len = 16 }

-- three next hops, a group of the first two to which the narrow route points, and the wide route by the first
abbrev building : List (Call Rid)
building =
    call.Create (body.Vlan 10)
    ∷ call.Create (body.Rif None (on.Vlan (id 1)))
    ∷ call.Create (body.Neighbor (id 2) (ip 1) (mac 1))
    ∷ call.Create (body.NextHop (id 2) (ip 1))
    ∷ call.Create (body.Neighbor (id 2) (ip 2) (mac 2))
    ∷ call.Create (body.NextHop (id 2) (ip 2))
    ∷ call.Create (body.Neighbor (id 2) (ip 3) (mac 3))
    ∷ call.Create (body.NextHop (id 2) (ip 3))
    ∷ call.Create body.Group
    ∷ call.Create (body.GroupMember (id 6) (id 3) 1)
    ∷ call.Create (body.GroupMember (id 6) (id 4) 1)
    ∷ call.Create (body.Route None narrow (to.Group (id 6)))
    ∷ call.Create (body.Route None wide (to.NextHop (id 3)))
    ∷ []

abbrev objects : Objects
objects = chip_after building 13

abbrev old_group : List WHop
old_group = weighed 1 1 ∷ weighed 2 1 ∷ []

abbrev new_group : List WHop
new_group = weighed 2 3 ∷ weighed 3 1 ∷ []

-- the new view: the narrow route points at a group of the last two, of which the first has the greater weight
abbrev new : List Thing
new =
    thing.Vlan 10 ∷ thing.Rif (base.Vlan 10) vrf.Default ∷ thing.Neighbor (hop 1) (mac 1) ∷ thing.Neighbor (hop 2) (mac 2) ∷ thing.Neighbor (hop 3) (mac 3)
    ∷ thing.NextHop (hop 1) ∷ thing.NextHop (hop 2) ∷ thing.NextHop (hop 3)
    ∷ thing.Group new_group ∷ thing.GroupMember new_group (weighed 2 3) ∷ thing.GroupMember new_group (weighed 3 1)
    ∷ thing.Route vrf.Default narrow (goal.Group new_group) ∷ thing.Route vrf.Default wide (goal.Via (hop 1)) ∷ []

-- the old group does not stay, so it has a tag in the place of its hops
old_group_goes : group_stays objects new (id 6) ≡ false
old_group_goes = refl

-- the plan, in its order
abbrev plan : List PlanChange
plan =
    Make (thing.Group new_group)
    ∷ Make (thing.GroupMember new_group (weighed 2 3))
    ∷ Make (thing.GroupMember new_group (weighed 3 1))
    ∷ Set (thing.Route vrf.Default narrow (goal.Group new_group))
    ∷ Remove (name.GroupMember (filler 6) (weighed 1 1))
    ∷ Remove (name.GroupMember (filler 6) (weighed 2 1))
    ∷ Remove (name.Group (filler 6))
    ∷ []

ranks : map hitless_rank plan ≡ 9 ∷ 10 ∷ 10 ∷ 800 ∷ 1390 ∷ 1390 ∷ 1391 ∷ []
ranks = refl

-- its calls on the chip, of which eight identifiers were made before
abbrev calls : List (Call Rid)
calls =
    call.Create body.Group
    ∷ call.Create (body.GroupMember (id 9) (id 4) 3)
    ∷ call.Create (body.GroupMember (id 9) (id 5) 1)
    ∷ call.Set (entry.Route None narrow) (attr.To (to.Group (id 9)))
    ∷ call.Remove (entry.Oid (id 7))
    ∷ call.Remove (entry.Oid (id 8))
    ∷ call.Remove (entry.Oid (id 6))
    ∷ []

abbrev roomy : List ℕ
roomy = 9 ∷ 9 ∷ 9 ∷ 9 ∷ 9 ∷ 9 ∷ 9 ∷ 9 ∷ 9 ∷ 9 ∷ 9 ∷ 9 ∷ []

they_are_legal : AreLegal roomy 8 objects calls
they_are_legal = (refl, (refl, (refl, (refl, (refl, (refl, (refl, tt)))))))

-- how the packets to an address are decided after so many of them
abbrev after : ℕ → ℕ → Decision
after n k = decide (chip_things (after_calls 8 objects (take k calls))) (packet_to (ip n))

-- an address of the narrow prefix goes from the old group to the new one, in one call, and never by the wide prefix
narrow_moves : map (after 300) (0 ∷ 1 ∷ 2 ∷ 3 ∷ 4 ∷ 5 ∷ 6 ∷ 7 ∷ []) ≡ Via old_group ∷ Via old_group ∷ Via old_group ∷ Via old_group ∷ Via new_group ∷ Via new_group ∷ Via new_group ∷ Via new_group ∷ []
narrow_moves = refl

-- and one that the wide prefix alone covers stays
wide_stays : map (after 700) (0 ∷ 1 ∷ 2 ∷ 3 ∷ 4 ∷ 5 ∷ 6 ∷ 7 ∷ []) ≡ Via (alone (hop 1) ∷ []) ∷ Via (alone (hop 1) ∷ []) ∷ Via (alone (hop 1) ∷ []) ∷ Via (alone (hop 1) ∷ []) ∷ Via (alone (hop 1) ∷ []) ∷ Via (alone (hop 1) ∷ []) ∷ Via (alone (hop 1) ∷ []) ∷ Via (alone (hop 1) ∷ []) ∷ []
wide_stays = refl

-- in the end the new view stands
worked_plan_ends : chip_things (after_calls 8 objects calls) ≡ thing.Vlan 10 ∷ thing.Rif (base.Vlan 10) vrf.Default ∷ thing.NextHop (hop 1) ∷ thing.NextHop (hop 2) ∷ thing.NextHop (hop 3) ∷ thing.Group new_group ∷ thing.GroupMember new_group (weighed 2 3) ∷ thing.GroupMember new_group (weighed 3 1) ∷ thing.Neighbor (hop 1) (mac 1) ∷ thing.Neighbor (hop 2) (mac 2) ∷ thing.Neighbor (hop 3) (mac 3) ∷ thing.Route vrf.Default wide (goal.Via (hop 1)) ∷ thing.Route vrf.Default narrow (goal.Group new_group) ∷ []
worked_plan_ends = refl

-- ---- the premises can be met: a route comes to an empty chip

abbrev route : Thing
route = thing.Route vrf.Default wide goal.Drop

only_the_route : (t : Thing) → IsIn t (route ∷ []) → t ≡ route
only_the_route t (inl e) = e
only_the_route t (inr h) = elim h [ ]

made_only : (c : PlanChange) → IsIn c (Make route ∷ []) → c ≡ Make route
made_only c (inl e) = e
made_only c (inr h) = elim h [ ]

same_prefix : (v : Vrf) (p : Prefix) (g : Goal) → thing.Route v p g ≡ route → wide ≡ p
same_prefix v p g e = cc

proper_wide : IsProperPrefix wide
proper_wide = search rules

small_room : HasRoomForPlan roomy [] (Make route ∷ [])
small_room kind.Route = omega arith
small_room kind.Port = omega arith
small_room _ = omega arith

comes : AppliesHitless roomy 0 [] (route ∷ []) (Make route ∷ []) [] (call.Create (body.Route None wide to.Drop) ∷ [])
comes = record {
  planned = record {
    chip = record { whole = whole-empty; lanes = record { each = λ e b h. absurd cc }; prefixes = record { each = λ e b h. absurd cc } };
    view = record {
      named = record { one = λ t u i j e. only_the_route t i ∙ sym (only_the_route u j); proper = λ v p g i. subst IsProperPrefix (same_prefix v p g (only_the_route _ i)) proper_wide };
      within = record { refers = λ t k i r. elim (subst (λ z. Refers z k) (only_the_route t i) r) [ ] };
      grouped = record { rising = λ hops i. let e = only_the_route _ i in absurd cc; have = λ hops hop i h. let e = only_the_route _ i in absurd cc; only = λ hops hop i. let e = only_the_route _ i in absurd cc };
    };
    lanes = record { beside = λ p q i j l. elim j [ ]; within = λ p q i j l. let e = only_the_route _ i in absurd cc };
    is_plan = record {
      makes = λ t i. let e = made_only (Make t) i in let is : t ≡ route = cc in (inl is, λ u j same. j);
      sets = λ t i. let e = made_only (Set t) i in absurd cc;
      removes = λ k i. let e = made_only (Remove k) i in absurd cc;
      whole = λ t i. inr (inl (inl (ap Make (only_the_route t i))));
      gone = λ u i. elim i [ ];
      in_order = (λ d i. elim i [ ], tt);
    };
    room = small_room;
  };
  run = (call.Create (body.Route None wide to.Drop) ∷ [], [], refl, (body.Route None wide to.Drop, record { first = no_id; second = no_id; first_at = tt; second_at = tt; body_is = refl }, refl), refl);
}
