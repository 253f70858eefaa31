-- each object that stands has its identifier when the call of a row's operation is made
use Rattle.std.proofs.Common.{◌≡◌, ◌∷◌, ◌∙◌, inl, inr, ℕ, true, cond, List, [], Option, None, Some, option_map, refl, sym, ap, subst}
use Rattle.std.specs.BTreeMap.{is_at}
use Rattle.std.specs.Map.{remove_entry}
use Rattle.table_schema.specs.Plan.{IsPlan, Ports}
use Rattle.table_schema.specs.declared.key.Key.{Key}
use Rattle.table_schema.specs.declared.key.Key.TheVariants as key
use Rattle.sai_types.specs.declared.body.Call.{Call}
use Rattle.sai_types.specs.declared.ids.Rid.{Rid}
use Rattle.sai_types.specs.declared.ids.Vid.{Vid}
use Rattle.sai_types.specs.declared.thing.Thing.{Thing}
use Rattle.sai_types.specs.declared.thing.Thing.TheVariants as thing
use Rattle.sai_types.specs.Names as thing_name
use Rattle.sai_types.specs.Names.{ThingName, name_of}
use Rattle.chip_layout.specs.Layout.{Layout, has_number, listed}
use Rattle.chip_layout.proofs.Laid.{changed}
use Rattle.switch_model.specs.Placed.{Placed as Row}
use Rattle.row_layout.specs.Operations.{Change, Make, Set, Take}
use Rattle.row_layout.specs.Rows as owner
use Rattle.row_layout.specs.Rows.{Owner}
use Rattle.switch_machine.specs.Changes.{IsCall, changed_by}
use Rattle.switch_machine.specs.Events.{IsAnswer, IsGiven, IsSafe, SwitchState}
use Rattle.switch_machine.specs.Flights.{Can, Runs, StandsIn}
use Rattle.switch_machine.specs.Steps.{moved}
use Rattle.switch_machine.proofs.Kept.{same_stands}
use Rattle.switch_machine.proofs.Splits.{IsSplit, owner_split}
use Rattle.ref_counts.specs.declared.name.NameState.TheVariants as state
use Rattle.ref_counts.specs.Registered.{Registered, made_live}
use Rattle.ref_counts.specs.Registry as registry
use Rattle.ref_counts.specs.Registry.{Names, gone_from, is_retiring, registered_name_cmp, registered_at, state_in, state_of}
use Rattle.ref_counts.specs.declared.name.Name.{Name}
use Rattle.ref_counts.specs.declared.name.Name.TheVariants as name
use Rattle.orch_flight.specs.Needing.{name_for}
use Rattle.orch_flight.specs.Operation.{Operation}
use Rattle.orch_flight.specs.Taking.{IsTook, MayTake, names_after, names_by, to_list, MayBeLive}
use Rattle.registry_laws.specs.Answering.{IsOfGroup}
use Rattle.registry_laws.specs.Flown.{Flown, flight_of}
use Rattle.registry_laws.proofs.Finding.{found_at, found_off, gone_off}
use Rattle.registry_laws.specs.Identified.{BuildsGroups, Identified, TiesAfter}
use Rattle.registry_laws.proofs.Identifier.Ids.{IsUnbuilt}
use Rattle.registry_laws.proofs.Identifier.Changed.{HasTied, make_tied, set_tied, take_tied}
use Rattle.registry_laws.proofs.Identifier.Starting.{ids_left, live_unbuilt}
use Rattle.registry_laws.proofs.Identifier.Staying.{same_identified}

-- ---- what the operation has to leave is not built when its last change is made

no_live : (w : ℕ) → state.Live ≡ state.Building w → ⊥
no_live w h = cc

no_absent : (w : ℕ) → state.Absent ≡ state.Building w → ⊥
no_absent w h = cc

live_made : (names : Names) (p o : Owner) (ids : List Vid) → state_of names (name_for o) ≡ state.Live → IsUnbuilt (registry.changed names (name_for p) (made_live ids)) o
live_made names p o ids live w h = by (owner_split p o)
  where
    made : (x : Option Registered) → state_in (option_map (made_live ids) x) ≡ state.Building w → ⊥
    made None e = no_absent w e
    made (Some r) e = no_live w e

    by : IsSplit p o → ⊥
    by (inl same) = made (registered_at names (name_for p)) (sym (ap state_in (found_at names p (made_live ids))) ∙ subst (λ z. state_of (registry.changed names (name_for p) (made_live ids)) (name_for z) ≡ state.Building w) (sym same) h)
    by (inr apart) = no_live w (sym live ∙ sym (ap state_in (found_off names p o (made_live ids) apart)) ∙ h)

live_gone : (names : Names) (p o : Owner) → state_of names (name_for o) ≡ state.Live → IsUnbuilt (gone_from names (name_for p)) o
live_gone names p o live w h = by (owner_split p o)
  where
    by : IsSplit p o → ⊥
    by (inl same) =
        let stays : gone_from names (name_for o) ≡ names = ap (λ st. cond (is_retiring st) (remove_entry (is_at (registered_name_cmp (name_for o))) names) names) live in
        no_live w (sym live ∙ sym (ap (λ z. state_of z (name_for o)) stays) ∙ subst (λ z. state_of (gone_from names (name_for z)) (name_for o) ≡ state.Building w) same h)
    by (inr apart) = no_live w (sym live ∙ sym (ap state_in (gone_off names p o apart)) ∙ h)

pub live_after : (names : Names) (k : Key) (c : Change) (made : Option Vid) (o : Owner) → state_of names (name_for o) ≡ state.Live → IsUnbuilt (names_after names k c made) o
live_after names k (Make (thing.BridgePort lane)) made o live = live_made names (owner.Bridge lane) o (to_list made) live
live_after names k (Make (thing.Own v ip)) made o live = live_made names (owner.Own v ip) o [] live
live_after names k (Make (thing.Neighbor hop mac)) made o live = live_unbuilt names o live
live_after names k (Make (thing.Route v prefix goal)) made o live = live_unbuilt names o live
live_after names k (Make (thing.Group hops)) made o live = live_unbuilt names o live
live_after names k (Make (thing.GroupMember hops hop)) made o live = live_unbuilt names o live
live_after names k (Make t) made o live = live_made names (owner.OfRow k) o (to_list made) live
live_after names k (Set u) made o live = live_unbuilt names o live
live_after names k (Take (thing_name.BridgePort lane)) made o live = live_gone names (owner.Bridge lane) o live
live_after names k (Take (thing_name.Own v ip)) made o live = live_gone names (owner.Own v ip) o live
live_after names k (Take n) made o live = live_unbuilt names o live

-- what may become live is there
pub may_there : (names : Names) (w : ℕ) (n : Name) (now : Option Row) (ids : List Vid) → MayBeLive names w n now ids → state_of names n ≡ state.Absent → ⊥
may_there names w (name.Row (key.Intf i)) (Some r) ids h e = no_going w (sym e ∙ h.0)
  where
    no_going : (w : ℕ) → state.Absent ≡ state.Retiring w → ⊥
    no_going w h = cc
may_there names w n now ids h e = no_absent w (sym e ∙ h.0)

-- ---- the call is made

module _ (plan : Ports) (is : IsPlan plan) (workers : ℕ) (capacities : List ℕ) (s t : SwitchState) (call : Call Rid) (x : IsAnswer plan workers call s t) (kept : IsSafe plan workers capacities s) (names : Names) (rid rid' : Vid → Option Rid) (flown : ℕ → Option Flown) (known : Identified plan names rid flown s.machine.stands) (builds : BuildsGroups names flown) where
  abbrev L : Layout Rid
  L = listed s.machine.stands

  pub stands_then : x.stands ≡ t.machine.stands
  stands_then = same_stands plan is workers capacities x.next.worker (moved s.machine x.next.worker x.next.rest x.stands) t.machine x.follows

  module _ (f : Operation) (flying : s.machine.board.flights x.next.worker ≡ Some (flight_of f)) (made : Option Vid) (rest : List Change) (may : MayTake f made names) where
    after : (c : Change) (of : IsCall L c call) (i : Rid) → IsGiven L s.made c call of i → Can plan (flight_of f) (StandsIn s.machine) c → (IsOfGroup plan c → ⊥) → f.due ≡ c ∷ rest → TiesAfter plan names rid rid' c made i → (j : Rid) (u : Thing) → changed_by L c i j u → has_number u ≡ true → HasTied plan is s.machine kept.sound s.objects kept.laid names rid rid' flown known (names_after names f.key c made) (name_of u) j
    after (Make z) of i given can alone due ties j u there numbered = make_tied plan is s.machine kept.sound s.objects kept.laid names rid rid' flown known x.next.worker (flight_of f) flying z can made i (λ hops e. alone (hops, e)) (λ n e. may_there names f.worker n f.now (to_list made) (may.builds z rest n due e)) ties j u there numbered
    after (Set z) of i given can alone due ties j u there numbered =
        let same = changed L s.objects kept.laid of.old z of.body of.attr of.of of.change in
        set_tied plan is s.machine kept.sound s.objects kept.laid names rid rid' flown known z i (of.old, subst (λ y. L y of.old) (sym given) of.stands, sym same.same) ties j u there numbered
    after (Take n) of i given can alone due ties j u there numbered = take_tied plan is s.machine kept.sound s.objects kept.laid names rid rid' flown known builds (flight_of f) n can ties j u there numbered

    module _ (due : f.due ≡ x.next.change ∷ rest) (alone : IsOfGroup plan x.next.change → ⊥) (ties : TiesAfter plan names rid rid' x.next.change made x.id) where
      abbrev later : Names
      later = names_after names f.key x.next.change made

      can : Can plan (flight_of f) (StandsIn s.machine) x.next.change
      can = (subst (Runs plan (flight_of f) (StandsIn s.machine)) x.next.due (kept.sound.runs x.next.worker (flight_of f) flying)).0

      moved_identified : Identified plan later rid' flown t.machine.stands
      moved_identified = subst (Identified plan later rid' flown) stands_then (record { each = λ j u h numbered. after x.next.change x.next.of x.id x.given can alone due ties j u (x.back j u h) numbered })

      left_identified : (cs : List Change) (leaves : Option Owner) → f.leaves ≡ leaves → Identified plan (names_by later f cs leaves) rid' flown t.machine.stands
      left_identified [] (Some o) e = same_identified plan later rid' flown t.machine.stands moved_identified (names_by later f [] (Some o)) (ids_left later f.worker f.key o (live_after names f.key x.next.change made o (may.leaves o e)))
      left_identified [] None e = moved_identified
      left_identified (c ∷ cs) leaves e = moved_identified

      pub took_identified : (f' : Operation) (names' : Names) → IsTook f made names f' names' → Identified plan names' rid' flown t.machine.stands
      took_identified f' names' took =
          let both : x.next.change ∷ rest ≡ took.change ∷ took.rest = sym due ∙ took.due in
          let change : x.next.change ≡ took.change = cc in
          subst (λ z. Identified plan z rid' flown t.machine.stands) (ap (λ c. names_by (names_after names f.key c made) f took.rest f.leaves) change ∙ sym took.names_are) (left_identified took.rest f.leaves refl)
