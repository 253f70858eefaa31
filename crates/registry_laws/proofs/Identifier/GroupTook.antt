-- each object that stands has its identifier when the call of a group's operation is made
use Rattle.std.proofs.Common.{◌≡◌, ◌∷◌, ◌++◌, ◌∙◌, inl, inr, ℕ, ◌+◌, Bool, true, false, cond, List, [], length, Option, Some, refl, sym, ap, subst}
use Rattle.std.proofs.lemmas.List.{append_assoc, length-append}
use Rattle.table_schema.specs.Plan.{IsPlan, Ports}
use Rattle.sai_types.specs.declared.body.Call.{Call}
use Rattle.sai_types.specs.declared.ids.Rid.{Rid}
use Rattle.sai_types.specs.declared.ids.Vid.{Vid}
use Rattle.sai_types.specs.declared.thing.Thing.{Thing}
use Rattle.sai_types.specs.Alike.{IsIn}
use Rattle.sai_types.specs.Hop.{AreRisingHops}
use Rattle.sai_types.specs.Names.{ThingName, name_of}
use Rattle.sai_types.proofs.Membership.{in-right}
use Rattle.chip_layout.specs.Layout.{Layout, has_number, listed, with_thing, without}
use Rattle.row_layout.specs.Operations.{Change, Make, Take, make_all}
use Rattle.row_layout.specs.Rows as owner
use Rattle.row_layout.specs.Rows.{Owner}
use Rattle.row_layout.specs.Shared.{shared_things}
use Rattle.switch_machine.specs.Changes.{after, changed_by}
use Rattle.switch_machine.specs.Events.{IsAnswer, IsSafe, SwitchState}
use Rattle.switch_machine.specs.Flights.{Can, CanMake, CanTake, MachineFlight, IsOwnedBy, Runs, StandsIn}
use Rattle.switch_machine.specs.Tables.{TableLaws}
use Rattle.switch_machine.proofs.Moving.{fit_of}
use Rattle.switch_machine.proofs.Ordered.{group_rising}
use Rattle.switch_machine.proofs.Running.{shared_of}
use Rattle.switch_machine.proofs.Splits.{use_row_in}
use Rattle.switch_machine.proofs.Tabled.{tabled}
use Rattle.ref_counts.specs.declared.name.Name.TheVariants as name
use Rattle.ref_counts.specs.Registered.{made_live}
use Rattle.ref_counts.specs.Registry.{Names, changed, gone_from, ids_in, ids_of}
use Rattle.orch_flight.specs.Grouping.{GroupOperation, IsGroupTook, group_names_by, members_with_made}
use Rattle.orch_flight.specs.Needing.{name_for}
use Rattle.orch_flight.specs.Taking.{to_list}
use Rattle.registry_laws.specs.Flown.{Flown}
use Rattle.registry_laws.proofs.Finding.{gone_off}
use Rattle.registry_laws.specs.Identified.{BuildsGroups, FliesOn, Identified, IsPartlyBuilt, IsUnderWay, IsVidOf, TiesAfter}
use Rattle.registry_laws.proofs.Identifier.Changed.{other_vid, tied_kept}
use Rattle.registry_laws.proofs.Identifier.Grouped.{grown, new_vid, old_vid}
use Rattle.registry_laws.proofs.Identifier.Ids.{ids_off}
use Rattle.registry_laws.proofs.Identifier.Owning.{group_numbered}
use Rattle.registry_laws.proofs.Identifier.Took.{stands_then}

module _ (plan : Ports) (is : IsPlan plan) (workers : ℕ) (capacities : List ℕ) (s t : SwitchState) (call : Call Rid) (x : IsAnswer plan workers call s t) (kept : IsSafe plan workers capacities s) (names : Names) (rid rid' : Vid → Option Rid) (flown : ℕ → Option Flown) (known : Identified plan names rid flown s.machine.stands) (builds : BuildsGroups names flown) (g : GroupOperation) (made : Option Vid) (rest : List Change) (due : g.due ≡ x.next.change ∷ rest) (ties : TiesAfter plan names rid rid' x.next.change made x.id) where
  abbrev L : Layout Rid
  L = listed s.machine.stands

  T : TableLaws plan
  T = tabled plan is

  abbrev F : MachineFlight
  F = x.next.flight

  abbrev later : Names
  later = group_names_by names g (members_with_made g made) rest

  runs : Runs plan F (StandsIn s.machine) (x.next.change ∷ x.next.rest)
  runs = subst (Runs plan F (StandsIn s.machine)) x.next.due (kept.sound.runs x.next.worker F x.next.flying)

  -- ---- the group is built

  module _ (flown' : ℕ → Option Flown) (at : IsUnderWay flown x.next.worker g) (b : g.builds ≡ true) (part : IsPartlyBuilt g) (on : FliesOn flown flown' x.next.worker (grown g (members_with_made g made) rest)) where
    next_part : (after : List Thing) → g.due ≡ make_all after [] → (z : Thing) × (us : List Thing) × (after ≡ z ∷ us) × (x.next.change ≡ Make z) × (rest ≡ make_all us [])
    next_part [] e = absurd (none (sym due ∙ e))
      where
        none : x.next.change ∷ rest ≡ [] → ⊥
        none h = cc
    next_part (z ∷ us) e =
        let both : x.next.change ∷ rest ≡ Make z ∷ make_all us [] = sym due ∙ e in
        let head : x.next.change ≡ Make z = cc in
        let tail : rest ≡ make_all us [] = cc in
        (z, us, refl, head, tail)

    next_thing : (z : Thing) × (us : List Thing) × (part.after ≡ z ∷ us) × (x.next.change ≡ Make z) × (rest ≡ make_all us [])
    next_thing = next_part part.after part.due

    abbrev z : Thing
    z = next_thing.0

    abbrev us : List Thing
    us = next_thing.1

    things : shared_things (owner.Group g.hops) ≡ part.before ++ (z ∷ us)
    things = part.things ∙ ap (λ l. part.before ++ l) next_thing.2

    of : IsOwnedBy plan (name_of z) (owner.Group g.hops)
    of = T.shared (owner.Group g.hops) z (subst (IsIn z) (sym things) (in-right z part.before (z ∷ us) (inl refl)))

    can : CanMake plan F (StandsIn s.machine) z
    can = subst (Can plan F (StandsIn s.machine)) next_thing.3 runs.0

    rising : AreRisingHops g.hops
    rising =
        let used = (shared_of plan T F (fit_of plan T s.machine kept.sound x.next.worker F x.next.flying) z (owner.Group g.hops) of tt can.final).0 in
        let r = use_row_in plan F.key F.new (owner.Group g.hops) used in
        group_rising plan F.key r.0 (owner.Group g.hops) g.hops r.2 refl

    tied : TiesAfter plan names rid rid' (Make z) made x.id
    tied = subst (λ c. TiesAfter plan names rid rid' c made x.id) next_thing.3 ties

    made_is : (v : Vid) × (made ≡ Some v) × (rid' v ≡ Some x.id)
    made_is = tied.1 (group_numbered plan (name_of z) g.hops of)

    each : (j : Rid) (u : Thing) → with_thing L x.id z j u → has_number u ≡ true → (v : Vid) × IsVidOf plan later flown' (name_of u) v × (rid' v ≡ Some j)
    each j u (inl h) numbered =
        let y = known.each j u h numbered in
        (y.0, old_vid plan names flown flown' builds x.next.worker g at b made rest on (name_of u) y.0 y.1, tied.0 y.0 j y.2)
    each j u (inr (ids, same)) numbered =
        let v = new_vid plan names flown flown' builds x.next.worker g at b made rest on part.before us z made_is.0 rising things part.made made_is.1 in
        (made_is.0, subst (λ y. IsVidOf plan later flown' (name_of y) made_is.0) (sym same) v, made_is.2 ∙ ap Some (sym ids))

    built_identified : Identified plan later rid' flown' t.machine.stands
    built_identified = subst (Identified plan later rid' flown') (stands_then plan is workers capacities s t call x kept names rid rid' flown known builds) (record { each = λ j u h numbered. each j u (subst (λ c. changed_by L c x.id j u) next_thing.3 (x.back j u h)) numbered })

    made_now : members_with_made g made ≡ g.made ++ (made_is.0 ∷ [])
    made_now = ap (λ y. cond y (g.made ++ to_list made) g.made) b ∙ ap (λ y. g.made ++ to_list y) made_is.1

    still_part : IsPartlyBuilt (grown g (members_with_made g made) rest)
    still_part = record {
      before = part.before ++ (z ∷ []);
      after = us;
      things = things ∙ sym (append_assoc part.before (z ∷ []) us);
      made = ap length made_now ∙ length-append g.made (made_is.0 ∷ []) ∙ ap (λ n. n + 1) part.made ∙ sym (length-append part.before (z ∷ []));
      due = next_thing.4;
    }

  -- ---- the group goes

  module _ (b : g.builds ≡ false) (n : ThingName) (change : x.next.change ≡ Take n) (of : IsOwnedBy plan n (owner.Group g.hops)) (retires : x.next.flight.retires ≡ Some (owner.Group g.hops)) (all : s.machine.due x.next.worker ≡ g.due) where
    can_take : CanTake plan F (StandsIn s.machine) n
    can_take = subst (Can plan F (StandsIn s.machine)) change runs.0

    same_rest : x.next.rest ≡ rest
    same_rest =
        let both : x.next.change ∷ x.next.rest ≡ x.next.change ∷ rest = sym x.next.due ∙ all ∙ due in
        cc

    -- nothing of it stands at the end
    none_stands : rest ≡ [] → (j : Rid) (u : Thing) → L j u → (name_of u ≡ n → ⊥) → IsOwnedBy plan (name_of u) (owner.Group g.hops) → ⊥
    none_stands e j u h other its =
        let end : Runs plan F (λ y. after (Take n) (StandsIn s.machine y) y) [] = subst (λ c. Runs plan F (λ y. after c (StandsIn s.machine y) y) []) change (subst (Runs plan F (λ y. after x.next.change (StandsIn s.machine y) y)) (same_rest ∙ e) runs.1) in
        let final = (end u (owner.Group g.hops, its, inr (inr retires))).0 ((j, h), other) in
        let used = (shared_of plan T F (fit_of plan T s.machine kept.sound x.next.worker F x.next.flying) u (owner.Group g.hops) its tt final).0 in
        kept.sound.board.unused x.next.worker F F.key (owner.Group g.hops) x.next.flying retires (inl (x.next.worker, F, x.next.flying, refl, inl used))

    later_off : (j : Rid) (u : Thing) → L j u → (name_of u ≡ n → ⊥) → (o : Owner) → IsOwnedBy plan (name_of u) o → ids_of later (name_for o) ≡ ids_of names (name_for o)
    later_off j u h other o its = by rest refl
      where
        either : (y : Bool) → (owner.Group g.hops ≡ o → ⊥) → ids_of (cond y (changed names (name.Group g.hops) (made_live (members_with_made g made))) (gone_from names (name.Group g.hops))) (name_for o) ≡ ids_of names (name_for o)
        either true apart = ids_off names (owner.Group g.hops) (made_live (members_with_made g made)) o apart
        either false apart = ap ids_in (gone_off names (owner.Group g.hops) o apart)

        by : (cs : List Change) → rest ≡ cs → ids_of (group_names_by names g (members_with_made g made) cs) (name_for o) ≡ ids_of names (name_for o)
        by [] e = either g.builds (λ same. none_stands e j u h other (its ∙ ap Some (sym same)))
        by (c ∷ cs) e = refl

    tied_taken : TiesAfter plan names rid rid' (Take n) made x.id
    tied_taken = subst (λ c. TiesAfter plan names rid rid' c made x.id) change ties

    taken_each : (j : Rid) (u : Thing) → without L n j u → has_number u ≡ true → (v : Vid) × IsVidOf plan later flown (name_of u) v × (rid' v ≡ Some j)
    taken_each j u (h, other) numbered = tied_kept plan is s.machine kept.sound s.objects kept.laid names rid rid' flown known later j u h numbered (later_off j u h other) (λ v _ tie. tied_taken v j (other_vid plan is s.machine kept.sound s.objects kept.laid names rid rid' flown known builds F n can_take j u h numbered other v tie) tie)

    taken_identified : Identified plan later rid' flown t.machine.stands
    taken_identified = subst (Identified plan later rid' flown) (stands_then plan is workers capacities s t call x kept names rid rid' flown known builds) (record { each = λ j u h numbered. taken_each j u (subst (λ c. changed_by L c x.id j u) change (x.back j u h)) numbered })

-- ---- by what becomes of the operation

module _ (plan : Ports) (is : IsPlan plan) (workers : ℕ) (capacities : List ℕ) (s t : SwitchState) (call : Call Rid) (x : IsAnswer plan workers call s t) (kept : IsSafe plan workers capacities s) (names names' : Names) (rid rid' : Vid → Option Rid) (flown : ℕ → Option Flown) (known : Identified plan names rid flown s.machine.stands) (builds : BuildsGroups names flown) (g g' : GroupOperation) (made : Option Vid) (rest : List Change) (due : g.due ≡ x.next.change ∷ rest) (ties : TiesAfter plan names rid rid' x.next.change made x.id) (took : IsGroupTook g made names g' names') where
  took_due : g.due ≡ x.next.change ∷ took.rest
  took_due =
      let both : x.next.change ∷ rest ≡ took.change ∷ took.rest = sym due ∙ took.due in
      let same : rest ≡ took.rest = cc in
      due ∙ ap (λ l. x.next.change ∷ l) same

  pub built_took : (flown' : ℕ → Option Flown) → IsUnderWay flown x.next.worker g → g.builds ≡ true → IsPartlyBuilt g → FliesOn flown flown' x.next.worker g' → Identified plan names' rid' flown' t.machine.stands × IsPartlyBuilt g'
  built_took flown' at b part on =
      let on' = subst (FliesOn flown flown' x.next.worker) took.operation on in (
        subst (λ z. Identified plan z rid' flown' t.machine.stands) (sym took.names_are) (built_identified plan is workers capacities s t call x kept names rid rid' flown known builds g made took.rest took_due ties flown' at b part on'),
        subst IsPartlyBuilt (sym took.operation) (still_part plan is workers capacities s t call x kept names rid rid' flown known builds g made took.rest took_due ties flown' at b part on'),
      )

  pub taken_took : g.builds ≡ false → (n : ThingName) → x.next.change ≡ Take n → IsOwnedBy plan n (owner.Group g.hops) → x.next.flight.retires ≡ Some (owner.Group g.hops) → s.machine.due x.next.worker ≡ g.due → Identified plan names' rid' flown t.machine.stands
  taken_took b n change of retires all = subst (λ z. Identified plan z rid' flown t.machine.stands) (sym took.names_are) (taken_identified plan is workers capacities s t call x kept names rid rid' flown known builds g made took.rest took_due ties b n change of retires all)
