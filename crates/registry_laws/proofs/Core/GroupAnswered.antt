-- all stands for the state when the call of a group's operation has taken effect
use Rattle.std.proofs.Common.{◌≡◌, ◌∷◌, ◌++◌, ◌∙◌, inl, ℕ, Bool, true, false, cond, List, [], Option, None, Some, is_some, refl, sym, ap, subst}
use Rattle.std.proofs.lemmas.List.{append-nil}
use Rattle.table_schema.specs.Plan.{IsPlan, Ports}
use Rattle.sai_types.specs.declared.body.Call.{Call}
use Rattle.sai_types.specs.declared.ids.Rid.{Rid}
use Rattle.sai_types.specs.declared.ids.Vid.{Vid}
use Rattle.sai_types.specs.declared.thing.Thing.{Thing}
use Rattle.sai_types.specs.After.{makes_id}
use Rattle.sai_types.specs.Alike.{IsIn}
use Rattle.sai_types.specs.Names.{ThingName}
use Rattle.chip_layout.specs.Layout.{next_rid}
use Rattle.chip_layout.specs.Renamed.{call_renamed}
use Rattle.row_layout.specs.Operations.{Change, Make, Take}
use Rattle.row_layout.specs.Rows as owner
use Rattle.row_layout.specs.Rows.{Owner}
use Rattle.row_layout.specs.Shared.{shared_things}
use Rattle.switch_machine.specs.Changes.{changed_name}
use Rattle.switch_machine.specs.Events.{Follows, SwitchState}
use Rattle.switch_machine.specs.Flights.{IsOwnedBy, Machine, put}
use Rattle.switch_machine.specs.Steps.{moved}
use Rattle.switch_machine.proofs.Splits.{put_at, put_off}
use Rattle.ref_counts.specs.Registry.{Names}
use Rattle.ref_counts.specs.Room.{RoomState}
use Rattle.orch_flight.specs.Calling.{HasVid}
use Rattle.orch_flight.specs.Grouping.{GroupOperation, HasGroupVid, IsGroupTook, members_with_made}
use Rattle.orch_flight.specs.Operation.{Operation}
use Rattle.registry_laws.specs.Flown.{Flown, group_to_build, group_to_take, whole_group}
use Rattle.registry_laws.specs.Flying.{flown_as}
use Rattle.registry_laws.specs.Making.{IsNextCall, left_of_group_by}
use Rattle.registry_laws.proofs.Fine.{AreFine, fine_of, group_fine}
use Rattle.registry_laws.proofs.Replied.{same_first}
use Rattle.registry_laws.proofs.Replies.{group_goes_on, group_is_built, group_is_gone}
use Rattle.registry_laws.proofs.Settled.{nothing_behind}
use Rattle.registry_laws.proofs.Taking.{group_due}
use Rattle.registry_laws.proofs.Listing.{some_of_due}
use Rattle.registry_laws.specs.Identified.{FliesOn, HasWholeGroups, Identified, IsPartlyBuilt, IsUnderWay, KeepsBuilds, TiesAfter, tie_by, HasWholeInterfaces}
use Rattle.registry_laws.proofs.Identifier.GroupTook.{built_took, taken_took}
use Rattle.registry_laws.proofs.Identifier.Known.{group_goes, one_way}
use Rattle.registry_laws.proofs.Identifier.Staying.{flown_identified, puts_kept}
use Rattle.registry_laws.proofs.Identifier.Whole.{whole_built, whole_taken}
use Rattle.registry_laws.specs.Calls.{TiesFollowCall}
use Rattle.registry_laws.specs.Standing.{StandsFor, with_answer}
use Rattle.registry_laws.proofs.Core.Due.{IsNext, group_next}
use Rattle.registry_laws.proofs.Core.Making.{Answers, Both, On, Over, answer, later, moves, stands_on, stands_over, then, tied}
use Rattle.registry_laws.proofs.Core.Nexts.{builds, goes_alone, group_due_is, grouped, makes_next, own_later, own_next, retires_it, takes_next}
use Rattle.registry_laws.proofs.Core.Parts.{built_part}
use Rattle.registry_laws.proofs.Core.Taken.{group_number}
use Rattle.registry_laws.proofs.Identifier.Interfaces.{interfaces_grouped}

module _ (plan : Ports) (is : IsPlan plan) (capacities : List ℕ) (names : Names) (room : RoomState) (flown : ℕ → Option Flown) (rid : Vid → Option Rid) (s : SwitchState) (stands : StandsFor plan capacities names room flown rid s) (w : ℕ) (x : Flown) (at : flown w ≡ Some x) (c : Call Vid) (made : Option Vid) (rid' : Vid → Option Rid) (number : is_some made ≡ makes_id c) (ties : TiesFollowCall rid rid' c made (next_rid s.made)) (g : GroupOperation) (has : x.group ≡ Some g) (told : IsNextCall plan names x.operation (Some g) c) (g' : GroupOperation) (names' : Names) (took : IsGroupTook g made names g' names') where
  abbrev f : Operation
  f = x.operation

  abbrev m : Machine
  m = s.machine

  abbrev call : Call Rid
  call = call_renamed (tie_by rid) c

  y : IsNext plan is capacities names room flown rid s stands w x at c (HasGroupVid plan names g) (shared_things (owner.Group g.hops))
  y = group_next plan is capacities names room flown rid s stands w x at c g has told

  first : y.change ∷ y.rest ≡ took.change ∷ (took.rest ++ f.due)
  first = sym y.due ∙ group_due_is plan is capacities names room flown rid s stands w x at g has ∙ ap (λ l. l ++ f.due) took.due

  due : g.due ≡ y.change ∷ took.rest
  due = took.due ∙ ap (λ d. d ∷ took.rest) (sym (same_first y.change took.change y.rest (took.rest ++ f.due) first))

  next_in : IsIn y.change g.due
  next_in = subst (IsIn y.change) (sym due) (inl refl)

  counted : is_some made ≡ g.builds
  counted = group_number plan is capacities names room flown rid s stands w x at c made number g has told

  left_due : g'.due ≡ took.rest
  left_due = ap (λ (z : GroupOperation). z.due) took.operation

  same_builds : g'.builds ≡ g.builds
  same_builds = ap (λ (z : GroupOperation). z.builds) took.operation

  fine : AreFine names'
  fine = subst AreFine (sym took.names_are) (group_fine names g (members_with_made g made) took.rest (fine_of names stands.board.rising stands.board.placed stands.board.there))

  abbrev stands' : List (Rid × Thing)
  stands' = later plan is capacities names room flown rid s stands w x at c (HasGroupVid plan names g) (shared_things (owner.Group g.hops)) y

  -- what follows in the event
  abbrev Goes : Machine → Type 0
  Goes t = Follows plan w (moved m w y.rest stands') t

  answers : (t : Machine) → Goes t → Answers plan capacities rid rid' flown room s w c names' t
  answers t follows = (answer plan is capacities names room flown rid s stands w x at c (HasGroupVid plan names g) (shared_things (owner.Group g.hops)) y t follows, refl)

  takes : (n : ThingName) → y.change ≡ Take n → (v : Vid) → HasGroupVid plan names g n v → HasVid plan names n v
  takes n e v h = by g.builds refl
    where
      by : (b : Bool) → g.builds ≡ b → HasVid plan names n v
      by false goes = group_goes plan names g n v goes h
      by true b =
          let z = makes_next plan is capacities names room flown rid s stands w x at g has b y.change next_in in
          let both : Make z.0 ≡ Take n = sym z.2 ∙ e in
          absurd cc

  tied_then : TiesAfter plan names rid rid' y.change made (then plan is capacities names room flown rid s stands w x at c (HasGroupVid plan names g) (shared_things (owner.Group g.hops)) y).id
  tied_then = tied plan is capacities names room flown rid s stands w x at c (HasGroupVid plan names g) (shared_things (owner.Group g.hops)) y made rid' number ties takes

  abbrev Now : Option GroupOperation → Type 0
  Now v = Both plan capacities rid rid' flown room s w c names' (flown_as f v)

  interfaces : HasWholeInterfaces names'
  interfaces = interfaces_grouped names names' g g' made took stands.interfaces

  -- ---- the group is built

  module _ (b : g.builds ≡ true) where
    flies : (z : Flown) → ((g'.due ≡ [] → ⊥) → z.group ≡ Some g') → FliesOn flown (put w (Some z) flown) w g'
    flies z own = record {
      others = λ v h apart under. (under.0, put_off w v (Some z) flown apart ∙ under.1, under.2);
      own = λ some. (z, put_at w w (Some z) flown refl, own some);
    }

    known : (z : Flown) → ((g'.due ≡ [] → ⊥) → z.group ≡ Some g') → (t : Machine) → Goes t → Identified plan names' rid' (put w (Some z) flown) t.stands × IsPartlyBuilt g'
    known z own t follows =
        built_took plan is 4 capacities s (with_answer s t call) call (answer plan is capacities names room flown rid s stands w x at c (HasGroupVid plan names g) (shared_things (owner.Group g.hops)) y t follows) stands.safe names names' rid rid' flown stands.identified (builds plan is capacities names room flown rid s stands w x at) g g' made took.rest due tied_then took (put w (Some z) flown) (x, at, has) b (built_part plan names f g (grouped plan is capacities names room flown rid s stands w x at g has) b) (flies z own)

    whole_by : (z : Flown) → ((g'.due ≡ [] → ⊥) → z.group ≡ Some g') → (t : Machine) → Goes t → HasWholeGroups names'
    whole_by z own t follows = whole_built names g made stands.whole names' w g' b ((builds plan is capacities names room flown rid s stands w x at).building w g (x, at, has) b) (known z own t follows).1 took

    -- more of it is due
    built_on : (d : Change) (ds : List Change) → g'.due ≡ d ∷ ds → Now (Some g')
    built_on d ds more = (on, over)
      where
        on : On plan capacities rid rid' flown room s w c names' (flown_as f (Some g'))
        on some =
            let z = group_goes_on plan is capacities m stands.safe.sound names room flown stands.board w x at y.change y.rest stands' (moves plan is capacities names room flown rid s stands w x at c (HasGroupVid plan names g) (shared_things (owner.Group g.hops)) y) made g has g' names' took counted (λ e. some_of_due d ds (sym more ∙ e)) in
            let own : (g'.due ≡ [] → ⊥) → Some g' ≡ Some g' = λ h. refl in
            (z.0, answers z.0 z.1, stands_on plan capacities rid rid' flown room s w c names' is stands.safe z.0 (answers z.0 z.1) (whole_by (flown_as f (Some g')) own z.0 z.1) interfaces (flown_as f (Some g')) z.3 (known (flown_as f (Some g')) own z.0 z.1).0)

        over : Over plan capacities rid rid' flown room s w c names' (flown_as f (Some g'))
        over given may_end empty gives = some_of_due d (ds ++ f.due) (ap (λ l. l ++ f.due) (sym more) ∙ sym (group_due plan names' (flown_as f (Some g')) g' refl) ∙ empty)

    -- it is whole
    built_whole : g'.due ≡ [] → Now None
    built_whole end = (on, over)
      where
        on : On plan capacities rid rid' flown room s w c names' (flown_as f None)
        on some =
            let z = group_is_built plan is capacities m stands.safe.sound names room flown stands.board w x at y.change y.rest stands' (moves plan is capacities names room flown rid s stands w x at c (HasGroupVid plan names g) (shared_things (owner.Group g.hops)) y) made g has g' names' took b end in
            let own : (g'.due ≡ [] → ⊥) → None ≡ Some g' = λ h. absurd (h end) in
            (z.0, answers z.0 z.1, stands_on plan capacities rid rid' flown room s w c names' is stands.safe z.0 (answers z.0 z.1) (whole_by (flown_as f None) own z.0 z.1) interfaces (flown_as f None) z.3 (known (flown_as f None) own z.0 z.1).0)

        over : Over plan capacities rid rid' flown room s w c names' (flown_as f None)
        over given may_end empty gives = absurd (own_later plan is capacities names room flown rid s stands w x at g has b (nothing_behind (whole_group (group_to_build plan names' f) (group_to_take f)) f.due empty))

  -- ---- the group goes

  module _ (goes : g.builds ≡ false) where
    all_due : m.due w ≡ g.due
    all_due = group_due_is plan is capacities names room flown rid s stands w x at g has ∙ ap (λ l. g.due ++ l) (goes_alone plan is capacities names room flown rid s stands w x at g has goes) ∙ append-nil g.due

    kept_builds : (z : Option Flown) → KeepsBuilds flown (put w z flown)
    kept_builds z = puts_kept flown w z (λ h there b. no_build h there b)
      where
        no_build : {X : Type 0} (h : GroupOperation) → IsUnderWay flown w h → h.builds ≡ true → X
        no_build h there b =
            let one = one_way plan names flown (builds plan is capacities names room flown rid s stands w x at) w g h (x, at, has) there in
            let e : true ≡ false = sym b ∙ ap (λ (z : GroupOperation). z.builds) (sym one) ∙ goes in
            absurd cc

    gone_known : (z : Option Flown) (t : Machine) → Goes t → Identified plan names' rid' (put w z flown) t.stands
    gone_known z t follows =
        let n = takes_next plan is capacities names room flown rid s stands w x at g has goes y.change next_in in
        flown_identified plan names' rid' flown t.stands
        (taken_took plan is 4 capacities s (with_answer s t call) call (answer plan is capacities names room flown rid s stands w x at c (HasGroupVid plan names g) (shared_things (owner.Group g.hops)) y t follows) stands.safe names names' rid rid' flown stands.identified (builds plan is capacities names room flown rid s stands w x at) g g' made took.rest due tied_then took goes n.0 n.1 (subst (λ d. IsOwnedBy plan (changed_name d) (owner.Group g.hops)) n.1 (own_next plan is capacities names room flown rid s stands w x at g has y.change next_in)) (retires_it plan is capacities names room flown rid s stands w x at g has goes) all_due)
        (put w z flown) (kept_builds z)

    gone_groups : HasWholeGroups names'
    gone_groups = whole_taken names g made stands.whole names' g' stands.board.rising goes took

    -- more of it is to go
    gone_on : (d : Change) (ds : List Change) → g'.due ≡ d ∷ ds → Now (Some g')
    gone_on d ds more = (on, over)
      where
        on : On plan capacities rid rid' flown room s w c names' (flown_as f (Some g'))
        on some =
            let z = group_goes_on plan is capacities m stands.safe.sound names room flown stands.board w x at y.change y.rest stands' (moves plan is capacities names room flown rid s stands w x at c (HasGroupVid plan names g) (shared_things (owner.Group g.hops)) y) made g has g' names' took counted (λ e. some_of_due d ds (sym more ∙ e)) in
            (z.0, answers z.0 z.1, stands_on plan capacities rid rid' flown room s w c names' is stands.safe z.0 (answers z.0 z.1) gone_groups interfaces (flown_as f (Some g')) z.3 (gone_known (Some (flown_as f (Some g'))) z.0 z.1))

        over : Over plan capacities rid rid' flown room s w c names' (flown_as f (Some g'))
        over given may_end empty gives = some_of_due d (ds ++ f.due) (ap (λ l. l ++ f.due) (sym more) ∙ sym (group_due plan names' (flown_as f (Some g')) g' refl) ∙ empty)

    -- it is gone
    gone_whole : g'.due ≡ [] → Now (Some g')
    gone_whole end = (on, over)
      where
        on : On plan capacities rid rid' flown room s w c names' (flown_as f (Some g'))
        on some = absurd (some (group_due plan names' (flown_as f (Some g')) g' refl ∙ ap (λ l. l ++ f.due) end ∙ goes_alone plan is capacities names room flown rid s stands w x at g has goes))

        over : Over plan capacities rid rid' flown room s w c names' (flown_as f (Some g'))
        over given may_end empty gives =
            let z = group_is_gone plan is capacities m stands.safe.sound names room flown stands.board w x at y.change y.rest stands' (moves plan is capacities names room flown rid s stands w x at c (HasGroupVid plan names g) (shared_things (owner.Group g.hops)) y) made g has g' names' took goes end given gives in
            (z.0, answers z.0 z.1, stands_over plan capacities rid rid' flown room s w c names' is stands.safe z.0 (answers z.0 z.1) gone_groups interfaces f.key f.new given may_end z.3 (gone_known None z.0 z.1) fine)

  -- ---- by what is left of its operation

  pub group_answered : Now (left_of_group_by g' g'.due)
  group_answered = by g'.due refl g.builds refl
    where
      by : (l : List Change) → g'.due ≡ l → (b : Bool) → g.builds ≡ b → Now (left_of_group_by g' g'.due)
      by (d ∷ ds) more true b = subst Now (sym (ap (left_of_group_by g') more)) (built_on b d ds more)
      by (d ∷ ds) more false b = subst Now (sym (ap (left_of_group_by g') more)) (gone_on b d ds more)
      by [] end true b = subst Now (sym (ap (left_of_group_by g') end ∙ ap (λ v. cond v None (Some g')) (same_builds ∙ b))) (built_whole b end)
      by [] end false b = subst Now (sym (ap (left_of_group_by g') end ∙ ap (λ v. cond v None (Some g')) (same_builds ∙ b))) (gone_whole b end)
