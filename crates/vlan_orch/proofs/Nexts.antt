-- the call that is due of the operation of a VLAN, or of a member of one
use Rattle.std.proofs.Common.{rules, ◌≡◌, ◌≤◌, inl, inr, ℕ, true, List, [], ◌∷◌, ◌++◌, length, Option, Some, None, IsSome, option_map, refl, sym, ap, subst, ◌∙◌}
use Rattle.std.proofs.lemmas.List.{append-nil}
use Rattle.swss_types.specs.declared.tagging.Tagging.{Tagging}
use Rattle.table_schema.specs.Plan.{IsPlan, Ports}
use Rattle.table_schema.specs.declared.key.Key.TheVariants as key
use Rattle.switch_model.specs.Placed as row
use Rattle.sai_types.specs.Alike.{IsIn}
use Rattle.sai_types.specs.Names as thing_name
use Rattle.sai_types.specs.Names.{name_of}
use Rattle.sai_types.specs.declared.ids.Vid.{Vid}
use Rattle.sai_types.specs.declared.body.Attr.TheVariants as attr
use Rattle.sai_types.specs.declared.body.Body.TheVariants as body
use Rattle.sai_types.specs.declared.body.Call.TheVariants as call
use Rattle.sai_types.specs.declared.body.Entry.TheVariants as entry
use Rattle.sai_types.specs.declared.thing.Thing.{Thing}
use Rattle.sai_types.specs.declared.thing.Thing.TheVariants as thing
use Rattle.chip_layout.specs.Layout.{has_number}
use Rattle.switch_model.specs.Things.{lane_of}
use Rattle.row_layout.specs.Operations.{Change, Make, Set, Take, uses_of}
use Rattle.row_layout.specs.Rows.{Owner, Bridge, from}
use Rattle.row_layout.specs.Shared.{shared_things}
use Rattle.row_layout.proofs.Members.{from_in, only}
use Rattle.row_layout.proofs.Owners.{port_by}
use Rattle.switch_machine.specs.Flights.{own_of}
use Rattle.ref_counts.specs.declared.name.Name.{Name}
use Rattle.ref_counts.specs.declared.name.Name.TheVariants as name
use Rattle.ref_counts.specs.declared.next.Next.{Next}
use Rattle.ref_counts.specs.declared.next.Next.TheVariants as next
use Rattle.ref_counts.specs.Registered.{first_of}
use Rattle.ref_counts.specs.declared.name.NameState.TheVariants as state
use Rattle.ref_counts.specs.Registry.{Names, ids_of, places_of, state_of}
use Rattle.orch_flight.specs.Calling.{HasVid, IsEntryOf, IsNextOf, IsOver, row_vid}
use Rattle.orch_flight.specs.Operation.{Operation}
use Rattle.orch_flight.specs.Taking.{MayBeLive, MayTake, built_name, to_list}
use Rattle.vlan_orch.specs.Vlans.{member_operation, vlan_operation}
use Rattle.vlan_orch.specs.declared.steps.Membership.{Membership}
use Rattle.vlan_orch.specs.declared.steps.MemberStep.{MemberStep}
use Rattle.vlan_orch.specs.declared.steps.MemberStep.TheVariants as member
use Rattle.vlan_orch.specs.declared.steps.VlanStep.{VlanStep}
use Rattle.vlan_orch.specs.declared.steps.VlanStep.TheVariants as vlan_step

-- ---- the lane of a member is its port's

-- a bridge port is no member, and one bridge port is not another
no-member : (lane vlan other : ℕ) (tagging : Tagging) → IsIn (thing.BridgePort lane) (thing.VlanMember vlan other tagging ∷ []) → ⊥
no-member lane vlan other tagging (inl same) = cc
no-member lane vlan other tagging (inr none) = elim none [ ]

one-bridge : (lane other : ℕ) → IsIn (thing.BridgePort lane) (thing.BridgePort other ∷ []) → other ≡ lane
one-bridge lane other (inl same) = cc
one-bridge lane other (inr none) = elim none [ ]

one-member : (lane vlan other : ℕ) (tagging : Tagging) (t : Thing) → IsIn t (thing.VlanMember vlan other tagging ∷ []) → name_of t ≡ thing_name.VlanMember vlan lane → other ≡ lane
one-member lane vlan other tagging t (inl same) named =
    let is : thing_name.VlanMember vlan other ≡ thing_name.VlanMember vlan lane = ap name_of (sym same) ∙ named in cc
one-member lane vlan other tagging t (inr none) named = elim none [ ]

module _ (plan : Ports) (at : Membership) where
  pub lane-own : (tagging : Tagging) (t : Thing) → IsIn t (own_of plan (key.Member at.vlan at.port) (Some (row.Member tagging))) → name_of t ≡ thing_name.VlanMember at.vlan at.lane → lane_of plan at.port ≡ Some at.lane
  lane-own tagging t h named =
      let m = from_in (lane_of plan at.port) _ t h in m.1 ∙ ap Some (one-member at.lane at.vlan m.0 tagging t m.2 named)

  lane-shared : (tagging : Tagging) (o : Owner) → IsIn o (uses_of plan (key.Member at.vlan at.port) (Some (row.Member tagging))) → IsIn (thing.BridgePort at.lane) (shared_things o) → lane_of plan at.port ≡ Some at.lane
  lane-shared tagging o h there =
      let m = from_in (lane_of plan at.port) _ o h in
      m.1 ∙ ap Some (only (λ z. IsIn (thing.BridgePort at.lane) (shared_things z) → m.0 ≡ at.lane) o (Bridge m.0) (one-bridge at.lane m.0) m.2 there)

  module _ (names : Names) (worker : ℕ) where
    abbrev pub IsNextFor : Next → MemberStep → Type 0
    IsNextFor n step = IsOver plan (member_operation worker at step) → IsNextOf plan names (member_operation worker at step) n

    -- the name of a member, by its lane
    numbered : (v : Vid) → IsPlan plan → lane_of plan at.port ≡ Some at.lane → first_of (ids_of names (name.Row (key.Member at.vlan at.port))) ≡ Some v → HasVid plan names (thing_name.VlanMember at.vlan at.lane) v
    numbered v plans lane is = ap (λ o. row_vid names (option_map (key.Member at.vlan) o)) (port_by plan plans at.port at.lane lane) ∙ is

    is-entry : (tagging : Tagging) (v : Vid) → IsPlan plan → lane_of plan at.port ≡ Some at.lane → first_of (ids_of names (name.Row (key.Member at.vlan at.port))) ≡ Some v → IsEntryOf (HasVid plan names) (thing.VlanMember at.vlan at.lane tagging) (entry.Oid v)
    is-entry tagging v plans lane is = record {
      body = body.VlanMember v v tagging;
      of = record { first = v; second = v; first_at = search rules; second_at = search rules; body_is = refl };
      id = v;
      numbered = λ n. numbered v plans lane is;
      is = refl;
    }

    held : (tagging : Tagging) → lane_of plan at.port ≡ Some at.lane → IsIn (thing.VlanMember at.vlan at.lane tagging) (own_of plan (key.Member at.vlan at.port) (Some (row.Member tagging)) ++ [])
    held tagging lane = subst (λ o. IsIn (thing.VlanMember at.vlan at.lane tagging) (from o (λ l. thing.VlanMember at.vlan l tagging ∷ []) ++ [])) (sym lane) (inl refl)

    pub next-bridge : (tagging : Tagging) (v : Vid) (step : MemberStep) → step ≡ member.AddBridge tagging → first_of (ids_of names (name.Row (key.Port at.port))) ≡ Some v → IsNextFor (next.Call (call.Create (body.BridgePort v))) step
    next-bridge tagging v step same is = subst (IsNextFor (next.Call (call.Create (body.BridgePort v)))) (sym same) by
      where
        by : IsNextFor (next.Call (call.Create (body.BridgePort v))) (member.AddBridge tagging)
        by over =
            let lane : lane_of plan at.port ≡ Some at.lane = elim over.next [
              | inl own ↦ (let m = from_in (lane_of plan at.port) _ (thing.BridgePort at.lane) own in absurd (no-member at.lane at.vlan m.0 tagging m.2))
              | inr shared ↦ lane-shared tagging shared.0 shared.1 shared.2
            ] in (
              Make (thing.BridgePort at.lane),
              Make (thing.VlanMember at.vlan at.lane tagging) ∷ [],
              refl,
              record {
                body = body.BridgePort v;
                of = record { first = v; second = v; first_at = ap (λ o. row_vid names (option_map key.Port o)) (port_by plan over.plans at.port at.lane lane) ∙ is; second_at = tt; body_is = refl };
                is = refl;
              },
            )

    pub next-set : (old new : Tagging) (v : Vid) (step : MemberStep) → step ≡ member.Set old new → first_of (ids_of names (name.Row (key.Member at.vlan at.port))) ≡ Some v → IsNextFor (next.Call (call.Set (entry.Oid v) (attr.Tagging new))) step
    next-set old new v step same is = subst (IsNextFor (next.Call (call.Set (entry.Oid v) (attr.Tagging new)))) (sym same) by
      where
        by : IsNextFor (next.Call (call.Set (entry.Oid v) (attr.Tagging new))) (member.Set old new)
        by over =
            let lane = lane-own old over.next.0 over.next.1 over.next.2 in (
              Set (thing.VlanMember at.vlan at.lane new),
              [],
              refl,
              record {
                old = thing.VlanMember at.vlan at.lane old;
                there = held old lane;
                same = refl;
                entry = entry.Oid v;
                of = is-entry old v over.plans lane is;
                attr = attr.Tagging new;
                change = refl;
                is = refl;
              },
            )

    pub next-remove : (tagging : Tagging) (v : Vid) (step : MemberStep) → step ≡ member.Remove tagging → first_of (ids_of names (name.Row (key.Member at.vlan at.port))) ≡ Some v → IsNextFor (next.Call (call.Remove (entry.Oid v))) step
    next-remove tagging v step same is = subst (IsNextFor (next.Call (call.Remove (entry.Oid v)))) (sym same) by
      where
        by : IsNextFor (next.Call (call.Remove (entry.Oid v))) (member.Remove tagging)
        by over =
            let there = subst (IsIn over.next.0) (append-nil (own_of plan (key.Member at.vlan at.port) (Some (row.Member tagging)))) over.next.1 in
            let lane = lane-own tagging over.next.0 there over.next.2 in (
              Take (thing_name.VlanMember at.vlan at.lane),
              [],
              refl,
              record {
                old = thing.VlanMember at.vlan at.lane tagging;
                there = held tagging lane;
                same = refl;
                entry = entry.Oid v;
                of = is-entry tagging v over.plans lane is;
                is = refl;
              },
            )

    pub next-remove-bridge : (tagging : Tagging) (v : Vid) (step : MemberStep) → step ≡ member.RemoveBridge tagging → first_of (ids_of names (name.BridgePort at.lane)) ≡ Some v → IsNextFor (next.Call (call.Remove (entry.Oid v))) step
    next-remove-bridge tagging v step same is = subst (IsNextFor (next.Call (call.Remove (entry.Oid v)))) (sym same) (λ over. (
      Take (thing_name.BridgePort at.lane),
      [],
      refl,
      record {
        old = thing.BridgePort at.lane;
        there = by (lane_of plan at.port);
        same = refl;
        entry = entry.Oid v;
        of = record {
          body = body.BridgePort v;
          of = record { first = v; second = v; first_at = search rules; second_at = tt; body_is = refl };
          id = v;
          numbered = λ n. is;
          is = refl;
        };
        is = refl;
      },
    ))
      where
        by : (o : Option ℕ) → IsIn (thing.BridgePort at.lane) (from o (λ l. thing.VlanMember at.vlan l tagging ∷ []) ++ thing.BridgePort at.lane ∷ [])
        by None = inl refl
        by (Some l) = inr (inl refl)

pub next-vlan : (plan : Ports) (names : Names) (worker vlan : ℕ) (step : VlanStep) → step ≡ vlan_step.Add → IsNextOf plan names (vlan_operation worker vlan step) (next.Call (call.Create (body.Vlan vlan)))
next-vlan plan names worker vlan step same = subst (λ s. IsNextOf plan names (vlan_operation worker vlan s) (next.Call (call.Create (body.Vlan vlan)))) (sym same) (
  Make (thing.Vlan vlan),
  [],
  refl,
  record {
    body = body.Vlan vlan;
    of = record { first = record { 0 = 0 }; second = record { 0 = 0 }; first_at = tt; second_at = tt; body_is = refl };
    is = refl;
  },
)

-- an identifier came for what is made, and there is a place for it
pub has-made : (names : Names) (f : Operation) (made : Option Vid) (t : Thing) (rest : List Change) → f.due ≡ Make t ∷ rest → has_number t ≡ true → MayTake f made names → IsSome made
has-made names f made t rest due number may = may.numbered t rest due ∙ number

pub has-places : (names : Names) (f : Operation) (made : Option Vid) (t : Thing) (rest : List Change) (n : Name) → f.due ≡ Make t ∷ rest → built_name f.key t ≡ Some n → (MayBeLive names f.worker n f.now (to_list made) → (state_of names n ≡ state.Building f.worker) × (length (to_list made) ≤ places_of names n)) → MayTake f made names → length (to_list made) ≤ places_of names n
has-places names f made t rest n due builds built may = (built (may.builds t rest n due builds)).1

pub has-builder : (names : Names) (f : Operation) (made : Option Vid) (t : Thing) (rest : List Change) (n : Name) → f.due ≡ Make t ∷ rest → built_name f.key t ≡ Some n → (MayBeLive names f.worker n f.now (to_list made) → (state_of names n ≡ state.Building f.worker) × (length (to_list made) ≤ places_of names n)) → MayTake f made names → state_of names n ≡ state.Building f.worker
has-builder names f made t rest n due builds built may = (built (may.builds t rest n due builds)).0
