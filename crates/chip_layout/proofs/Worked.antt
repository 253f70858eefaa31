-- a group that is half built, worked out by computation: nothing cites it, and it shows that the definitions say what is meant
use Rattle.std.proofs.Common.{◌≡◌, inl, inr, ℕ, List, [], ◌∷◌, None, refl, ap, arith}
use Rattle.swss_types.specs.declared.address.Family.TheVariants.{V4}
use Rattle.swss_types.specs.declared.address.Ip.{Ip}
use Rattle.swss_types.specs.declared.address.Mac.{Mac}
use Rattle.sai_types.specs.declared.ids.Rid.{Rid}
use Rattle.sai_types.specs.declared.hop.Base.TheVariants as base
use Rattle.sai_types.specs.declared.hop.Hop.{Hop}
use Rattle.sai_types.specs.declared.weight.WHop.{WHop}
use Rattle.swss_types.specs.declared.vrf.Vrf.TheVariants as vrf
use Rattle.sai_types.specs.declared.body.Body.TheVariants as body
use Rattle.sai_types.specs.declared.body.Call.{Call}
use Rattle.sai_types.specs.declared.body.Call.TheVariants as call
use Rattle.sai_types.specs.declared.body.RifOn.TheVariants as on
use Rattle.sai_types.specs.declared.thing.Thing.{Thing}
use Rattle.sai_types.specs.declared.thing.Thing.TheVariants as thing
use Rattle.sai_types.specs.After.{chip_after}
use Rattle.sai_types.specs.Alike.{IsIn}
use Rattle.sai_types.specs.Named.{named, those}
use Rattle.sai_types.specs.Names.{name_of}
use Rattle.sai_types.proofs.Things.{group_members}
use Rattle.chip_layout.specs.Grouped.{AreGrouped}
use Rattle.chip_layout.specs.Layout.{listed}

abbrev id : ℕ → Rid
id n = record { 0 = n }

abbrev ten : ℕ → Ip
ten n = record { family = V4; bits = n }

abbrev mac : ℕ → Mac
mac n = record { 0 = n ∷ n ∷ n ∷ n ∷ n ∷ n ∷ [] }

abbrev one : Hop
one = record { on = base.Vlan 10; ip = ten 2 }

abbrev other : Hop
other = record { on = base.Vlan 10; ip = ten 3 }

abbrev heavy : WHop
heavy = record { hop = one; weight = 3 }

abbrev light : WHop
light = record { hop = other; weight = 1 }

abbrev group : List WHop
group = heavy ∷ light ∷ []

-- an interface with two next hops, a group, and its first member and then its second
abbrev calls : List (Call Rid)
calls =
    call.Create (body.Vlan 10)
    ∷ call.Create (body.Rif None (on.Vlan (id 1)))
    ∷ call.Create (body.Neighbor (id 2) (ten 2) (mac 2))
    ∷ call.Create (body.NextHop (id 2) (ten 2))
    ∷ call.Create (body.Neighbor (id 2) (ten 3) (mac 3))
    ∷ call.Create (body.NextHop (id 2) (ten 3))
    ∷ call.Create body.Group
    ∷ call.Create (body.GroupMember (id 5) (id 3) 3)
    ∷ call.Create (body.GroupMember (id 5) (id 4) 1)
    ∷ []

-- the chip shows a group of one hop, where a group of two is meant
half_shown : those (named (chip_after calls 8)) ≡ thing.Vlan 10 ∷ thing.Rif (base.Vlan 10) vrf.Default ∷ thing.NextHop one ∷ thing.NextHop other ∷ thing.Group (heavy ∷ []) ∷ thing.GroupMember (heavy ∷ []) heavy ∷ thing.Neighbor one (mac 2) ∷ thing.Neighbor other (mac 3) ∷ []
half_shown = refl

-- and two hops once it is whole
whole_shown : those (named (chip_after calls 9)) ≡ thing.Vlan 10 ∷ thing.Rif (base.Vlan 10) vrf.Default ∷ thing.NextHop one ∷ thing.NextHop other ∷ thing.Group group ∷ thing.GroupMember group heavy ∷ thing.GroupMember group light ∷ thing.Neighbor one (mac 2) ∷ thing.Neighbor other (mac 3) ∷ []
whole_shown = refl

-- what stands while it is half built: the group has the name that it is meant to have
abbrev half : List (Rid × Thing)
half = (id 5, thing.Group group) ∷ (id 6, thing.GroupMember group heavy) ∷ []

-- so it is laid out, but is no whole group
member_there : (j : Rid) → IsIn (j, thing.GroupMember group light) half → ⊥
member_there j (inl is) = let no = ap (λ (x : Rid × Thing). x.1) is in cc
member_there j (inr (inl is)) =
    let same : 3 ≡ 2 = ap (λ (h : WHop). h.hop.ip.bits) (group_members group group light heavy (ap (λ (x : Rid × Thing). name_of x.1) is)).1 in
    absurd (omega (arith, same))
member_there j (inr (inr h)) = h

half_is_no_group : AreGrouped (listed half) → ⊥
half_is_no_group grouped = let m = grouped.have (id 5) group light (inl refl) (inr (inl refl)) in member_there m.0 m.1
