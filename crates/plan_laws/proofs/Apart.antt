-- what a view has is apart from what stands beside it where the ports are: of one group no two members have one hop
use Rattle.std.proofs.Common.{◌≡◌, inl, inr, ℕ, List, [], refl, sym, ap₂, subst}
use Rattle.sai_types.specs.declared.thing.Thing.{Thing}
use Rattle.sai_types.specs.declared.thing.Thing.TheVariants as thing
use Rattle.sai_types.specs.declared.weight.WHop.{WHop}
use Rattle.sai_types.specs.Alike.{IsIn}
use Rattle.sai_types.specs.Hop.{AreRisingHops}
use Rattle.sai_types.specs.Names as name
use Rattle.sai_types.specs.Names.{Overlap, name_of}
use Rattle.sai_types.specs.Objects.{Objects}
use Rattle.sai_types.proofs.Weights.{one-weight}
use Rattle.plan_laws.specs.Applied.{IsListedChip, IsView}
use Rattle.plan_laws.specs.Old.{old_things}
use Rattle.plan_laws.specs.Views.{LanesApart, PortsApart}
use Rattle.plan_laws.proofs.Allowed.{ThingsApart}
use Rattle.plan_laws.proofs.Starting.{hops-same, old-tagged}
use Rattle.plan_laws.proofs.Targets.{is-group}

-- a member of a group and another have one name where they are of one group and have one hop
abbrev MembersApart : List Thing → List Thing → Type 0
MembersApart new others = (gs hs : List WHop) (x y : WHop) → IsIn (thing.GroupMember gs x) new → IsIn (thing.GroupMember hs y) others → Overlap (thing.GroupMember gs x) (thing.GroupMember hs y) → name.GroupMember gs x ≡ name.GroupMember hs y

apart_by : (new others : List Thing) → PortsApart new others → MembersApart new others → (t u : Thing) → IsIn t new → IsIn u others → Overlap t u → name_of t ≡ name_of u
apart_by new others ports members (thing.Port p) (thing.Port q) i j both = ports p q i j both
apart_by new others ports members (thing.GroupMember gs x) (thing.GroupMember hs y) i j both = members gs hs x y i j both
apart_by new others ports members _ _ i j both = absurd both

module _ {new : List Thing} (view : IsView new) where
  -- the hops of a group that has a member rise
  member_rising : (hops : List WHop) (hop : WHop) → IsIn (thing.GroupMember hops hop) new → AreRisingHops hops
  member_rising hops hop i =
      let group = view.within.refers (thing.GroupMember hops hop) (name.Group hops) i (inl refl) in
      view.grouped.rising hops (subst (λ t. IsIn t new) (is-group group.0 hops group.2) group.1)

  members_new : MembersApart new new
  members_new gs hs x y i j (same, hop) =
      let other = subst (IsIn y) (sym same) (view.grouped.only hs y j) in
      ap₂ name.GroupMember same (one-weight gs x y (member_rising gs x i) (view.grouped.only gs x i) other hop)

  pub apart-new : LanesApart [] new → ThingsApart [] new
  apart-new lanes = record { each = λ t u i j both. elim j [ inl none ↦ elim none [ ] | inr k ↦ apart_by new new lanes.within members_new t u i k both ] }

  module _ {made : ℕ} {objects : Objects} (chip : IsListedChip made objects) where
    members_old : MembersApart new (old_things objects new)
    members_old gs hs x y i j (same, hop) =
        let rising = member_rising gs x i in
        let was = subst (λ hops. IsIn (thing.GroupMember hops y) (old_things objects new)) (sym same) j in
        let other = subst (IsIn y) (hops-same chip new gs rising) ((old-tagged chip new).only gs y was) in
        ap₂ name.GroupMember same (one-weight gs x y rising (view.grouped.only gs x i) other hop)

    pub apart-old : LanesApart (old_things objects new) new → ThingsApart (old_things objects new) new
    apart-old lanes = record {
      each = λ t u i j both.
          elim j [
            | inl k ↦ apart_by new (old_things objects new) lanes.beside members_old t u i k both
            | inr k ↦ apart_by new new lanes.within members_new t u i k both
          ];
    }
