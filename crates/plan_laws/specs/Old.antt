-- The old things of a plan: what stands on the chip that was listed, where an old group that stays has the hops of its members, and each other group a tag of its own in their place. Own.
use Rattle.std.specs.Prelude.{ℕ, zero, suc, Bool, true, false, ◌&&◌, not, nat_lt, List, [], ◌∷◌, map, if◌then◌else◌, Option, None, Some}
use Rattle.std.specs.List.{list_any}
use Rattle.swss_types.specs.declared.address.Family.TheVariants.{V4}
use Rattle.sai_types.specs.declared.ids.Rid.{Rid}
use Rattle.sai_types.specs.declared.body.Body.{Body}
use Rattle.sai_types.specs.declared.body.Body.TheVariants as body
use Rattle.sai_types.specs.declared.body.Entry.{Entry}
use Rattle.sai_types.specs.declared.body.Entry.TheVariants as entry
use Rattle.sai_types.specs.declared.hop.Base.TheVariants as base
use Rattle.sai_types.specs.contracts.weight.WHopPartialEq.TheImpl as whop_eq
use Rattle.sai_types.specs.declared.weight.WHop.{WHop}
use Rattle.sai_types.specs.declared.thing.Thing.{Thing}
use Rattle.sai_types.specs.declared.thing.Thing.TheVariants as thing
use Rattle.sai_types.specs.Named.{hops_at, thing_by, those}
use Rattle.sai_types.specs.Objects.{Objects}
use Rattle.sai_types.specs.Refusal.{same_id}
use Rattle.chip_layout.specs.Layout.{Layout}
use Rattle.chip_layout.specs.Seen.{seen, tagged}

-- ---- which groups stay

abbrev pub chip_group : (Entry Rid × Body Rid) → Option Rid
chip_group (entry.Oid g, body.Group) = Some g
chip_group _ = None

-- the groups of a chip
abbrev pub chip_groups : Objects → List Rid
chip_groups objects = those (map chip_group objects)

abbrev pub hops_or_none : Option (List WHop) → List WHop
hops_or_none None = []
hops_or_none (Some hops) = hops

-- the hops of a group's members
abbrev pub shown_hops : Objects → Rid → List WHop
shown_hops objects g = hops_or_none (hops_at objects g)

abbrev pub same_whop : WHop → WHop → Bool
same_whop = whop_eq.ghosts.eq

abbrev pub same_hops : List WHop → List WHop → Bool
same_hops [] [] = true
same_hops (x ∷ xs) (y ∷ ys) = same_whop x y && same_hops xs ys
same_hops _ _ = false

-- whether a thing is the group of these hops
abbrev pub is_group_of : List WHop → Thing → Bool
is_group_of hops (thing.Group other) = same_hops other hops
is_group_of hops _ = false

-- whether another group of the same hops has a lesser identifier
abbrev pub is_double : Objects → Rid → Bool
is_double objects g = list_any (λ h. nat_lt h.0 g.0 && same_hops (shown_hops objects h) (shown_hops objects g)) (chip_groups objects)

-- an old group stays where the new view has a group of its hops, and it is no double
abbrev pub group_stays : Objects → List Thing → Rid → Bool
group_stays objects new g = list_any (same_id g) (chip_groups objects) && (list_any (is_group_of (shown_hops objects g)) new && not (is_double objects g))

-- ---- tags

abbrev pub no_hop : WHop
no_hop = record { hop = record { on = base.Port 0; ip = record { family = V4; bits = 0 } }; weight = 1 }

-- hops that do not rise, and so are no group's: a list of them for each number
abbrev pub filler : ℕ → List WHop
filler zero = no_hop ∷ no_hop ∷ []
filler (suc n) = no_hop ∷ filler n

-- the tag of a group: of one that is kept its hops, and of another a filler
abbrev pub tag_for : (Rid → Bool) → (Rid → List WHop) → Rid → List WHop
tag_for kept hops g = if kept g then hops g else filler g.0

-- the things that a chip shows, where groups have tags
abbrev pub seen_things : (Rid → List WHop) → Objects → List Thing
seen_things tag objects = those (map (thing_by (tagged tag) objects) objects)

-- ---- the old things

abbrev pub tag_of : Objects → List Thing → Rid → List WHop
tag_of objects new = tag_for (group_stays objects new) (shown_hops objects)

abbrev pub old_things : Objects → List Thing → List Thing
old_things objects new = seen_things (tag_of objects new) objects

-- the same with their identifiers
abbrev pub old_layout : Objects → List Thing → Layout Rid
old_layout objects new = seen (tag_of objects new) objects
