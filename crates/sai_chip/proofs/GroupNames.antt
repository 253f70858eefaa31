-- what an object stands for, by the hops of the one group that it names
use Rattle.std.proofs.Common.{◌≡◌, cond, List, [], ◌∷◌, Option, None, Some, option_map, refl, ap, ◌∙◌, subst}
use Rattle.std.specs.Ordering.{is_eq}
use Rattle.std.specs.Option.{unwrap_or}
use Rattle.sai_types.specs.declared.ids.Rid.{Rid}
use Rattle.sai_types.specs.declared.weight.WHop.{WHop}
use Rattle.sai_types.specs.declared.thing.Thing.TheVariants as thing
use Rattle.sai_types.specs.declared.thing.Goal.TheVariants as goal
use Rattle.sai_types.specs.declared.body.Body.{Body}
use Rattle.sai_types.specs.declared.body.Body.TheVariants as body
use Rattle.sai_types.specs.declared.body.Entry.{Entry}
use Rattle.sai_types.specs.declared.body.Entry.TheVariants as entry
use Rattle.sai_types.specs.declared.body.To.TheVariants as to
use Rattle.sai_types.specs.Objects.{Objects}
use Rattle.sai_types.specs.Named.{both, hops_at, router_at, thing_by, thing_of, whop_at}
use Rattle.chip_names.specs.Members.{HasHops, group_named_by}
use Rattle.chip_names.specs.Naming.{GroupHops, hops_of_group}
use Rattle.sai_chip.proofs.MarkRanges.{group_tied}

thing_by-known : (f h : Rid → Option (List WHop)) (objects : Objects) (e : Entry Rid) (b : Body Rid) → ((g : Rid) → group_named_by e b ≡ Some g → f g ≡ h g) → thing_by f objects (e, b) ≡ thing_by h objects (e, b)
thing_by-known f h objects e (body.GroupMember group next_hop weight) known = ap (λ hs. both thing.GroupMember hs (whop_at objects next_hop weight)) (known group refl)
thing_by-known f h objects e (body.Route vr prefix (to.Group g)) known = ap (λ hs. both (λ v g. thing.Route v prefix g) (router_at objects vr) (option_map goal.Group hs)) (known g refl)
thing_by-known f h objects (entry.Oid g) body.Group known = ap (option_map thing.Group) (known g refl)
thing_by-known f h objects e b known = refl

-- the thing of an object
pub thing_of-known : (objects : Objects) (e : Entry Rid) (b : Body Rid) (groups : GroupHops) → HasHops objects e b groups → thing_by (hops_of_group groups) objects (e, b) ≡ thing_of objects (e, b)
thing_of-known objects e b groups has = thing_by-known (hops_of_group groups) (hops_at objects) objects e b has.each

-- the hops of one group
pub HasHops-one : (objects : Objects) (e : Entry Rid) (b : Body Rid) (g : Rid) (hops : Option (List WHop)) → group_named_by e b ≡ Some g → hops ≡ hops_at objects g → HasHops objects e b ((g, hops) ∷ [])
HasHops-one objects e b g hops named is = record {
  each = λ k at.
      let same : g ≡ k = cc in
      subst (λ x. hops_of_group ((g, hops) ∷ []) x ≡ hops_at objects x) same
      (ap (λ r. unwrap_or (cond (is_eq r) (Some hops) None) (Some [])) (group_tied g) ∙ is);
}

-- an object that names no group needs none
pub HasHops-none : (objects : Objects) (e : Entry Rid) (b : Body Rid) (groups : GroupHops) → group_named_by e b ≡ None → HasHops objects e b groups
HasHops-none objects e b groups named = record { each = λ k at. absurd cc }
