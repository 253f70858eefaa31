-- all stands for the state when the call of a row's operation has taken effect
use Rattle.std.proofs.Common.{◌≡◌, ◌∷◌, ◌∙◌, inl, ℕ, List, [], Option, None, Some, is_some, refl, sym, ap, subst}
use Rattle.std.proofs.lemmas.Option.{same_Some}
use Rattle.table_schema.specs.Plan.{IsPlan, Ports}
use Rattle.sai_types.specs.declared.body.Call.{Call}
use Rattle.sai_types.specs.declared.ids.Rid.{Rid}
use Rattle.sai_types.specs.declared.ids.Vid.{Vid}
use Rattle.sai_types.specs.declared.thing.Thing.{Thing}
use Rattle.sai_types.specs.After.{makes_id}
use Rattle.sai_types.specs.Alike.{IsIn}
use Rattle.chip_layout.specs.Layout.{next_rid}
use Rattle.chip_layout.specs.Renamed.{call_renamed}
use Rattle.row_layout.specs.Operations.{Change}
use Rattle.row_layout.specs.Rows.{Owner}
use Rattle.switch_machine.specs.Events.{Follows, SwitchState}
use Rattle.switch_machine.specs.Flights.{Machine, put}
use Rattle.switch_machine.specs.Steps.{moved}
use Rattle.switch_machine.proofs.Tabled.{are_shared_by}
use Rattle.ref_counts.specs.Registry.{Names}
use Rattle.ref_counts.specs.Room.{RoomState}
use Rattle.orch_flight.specs.Calling.{HasVid, things_held}
use Rattle.orch_flight.specs.Operation.{Operation}
use Rattle.orch_flight.specs.Taking.{IsTook, MayTake, names_after, names_by}
use Rattle.registry_laws.specs.Answering.{IsOfGroup}
use Rattle.registry_laws.specs.Flown.{Flown, group_to_build, group_to_take, flight_of}
use Rattle.registry_laws.specs.Flying.{flown_as}
use Rattle.registry_laws.specs.Making.{IsNextCall}
use Rattle.registry_laws.proofs.Fine.{AreFine, after_fine, fine_of, left_fine}
use Rattle.registry_laws.proofs.Listing.{not_some}
use Rattle.registry_laws.proofs.Replies.{row_ends, row_goes_on}
use Rattle.registry_laws.specs.Identified.{HasWholeGroups, Identified, KeepsBuilds, TiesAfter, tie_by, HasWholeInterfaces}
use Rattle.registry_laws.proofs.Identifier.Staying.{flown_identified, puts_kept}
use Rattle.registry_laws.proofs.Identifier.Took.{took_identified}
use Rattle.registry_laws.proofs.Identifier.Whole.{whole_took}
use Rattle.registry_laws.specs.Calls.{TiesFollowCall}
use Rattle.registry_laws.specs.Standing.{HasBegun, StandsFor, with_answer}
use Rattle.registry_laws.proofs.Core.Due.{IsNext, row_next}
use Rattle.registry_laws.proofs.Core.Making.{Answers, Both, On, Over, answer, later, moves, stands_on, stands_over, then, tied}
use Rattle.registry_laws.proofs.Core.Nexts.{builds, its, no_group, not_grouped, row_due_is}
use Rattle.registry_laws.proofs.Core.Taken.{may_take_row}
use Rattle.registry_laws.proofs.Identifier.Interfaces.{interfaces_took}

took_fine : (names names' : Names) (f f' : Operation) (made : Option Vid) → AreFine names → IsTook f made names f' names' → AreFine names'
took_fine names names' f f' made fine took = subst AreFine (sym took.names_are) (by took.rest f.leaves)
  where
    now : Names
    now = names_after names f.key took.change made

    now_fine : AreFine now
    now_fine = after_fine names f.key took.change made fine

    by : (rest : List Change) (leaves : Option Owner) → AreFine (names_by now f rest leaves)
    by [] (Some o) = left_fine now f.worker f.key o now_fine
    by [] None = now_fine
    by (d ∷ ds) leaves = now_fine

module _ (plan : Ports) (is : IsPlan plan) (capacities : List ℕ) (names : Names) (room : RoomState) (flown : ℕ → Option Flown) (rid : Vid → Option Rid) (s : SwitchState) (stands : StandsFor plan capacities names room flown rid s) (w : ℕ) (x : Flown) (at : flown w ≡ Some x) (c : Call Vid) (made : Option Vid) (rid' : Vid → Option Rid) (number : is_some made ≡ makes_id c) (ties : TiesFollowCall rid rid' c made (next_rid s.made)) (begun : HasBegun plan names x) (none : x.group ≡ None) (told : IsNextCall plan names x.operation None c) (f' : Operation) (names' : Names) (took : IsTook x.operation made names f' names') where
  abbrev f : Operation
  f = x.operation

  abbrev m : Machine
  m = s.machine

  abbrev call : Call Rid
  call = call_renamed (tie_by rid) c

  y : IsNext plan is capacities names room flown rid s stands w x at c (HasVid plan names) (things_held plan f)
  y = row_next plan is capacities names room flown rid s stands w x at c begun none told

  due : f.due ≡ y.change ∷ y.rest
  due = sym (row_due_is plan is capacities names room flown rid s stands w x at begun none) ∙ y.due

  may : MayTake f made names
  may = may_take_row plan is capacities names room flown rid s stands w x at c made number begun none told

  alone : IsOfGroup plan y.change → ⊥
  alone = not_grouped plan is capacities names room flown rid s stands w x at y.change (subst (IsIn y.change) (sym due) (inl refl))

  whole : HasWholeGroups names'
  whole = whole_took names names' f f' made may took stands.whole

  interfaces : HasWholeInterfaces names'
  interfaces = interfaces_took names f made stands.board.placed stands.interfaces f' names' may took (λ o e. let was = (stands.safe.sound.board.leaves w (flight_of f) o (its plan is capacities names room flown rid s stands w x at).flying e).0 in are_shared_by plan is f.key was.row o was.used)

  fine : AreFine names'
  fine = took_fine names names' f f' made (fine_of names stands.board.rising stands.board.placed stands.board.there) took

  abbrev stands' : List (Rid × Thing)
  stands' = later plan is capacities names room flown rid s stands w x at c (HasVid plan names) (things_held plan f) y

  -- what follows in the event
  abbrev Goes : Machine → Type 0
  Goes t = Follows plan w (moved m w y.rest stands') t

  answers : (t : Machine) → Goes t → Answers plan capacities rid rid' flown room s w c names' t
  answers t follows = (answer plan is capacities names room flown rid s stands w x at c (HasVid plan names) (things_held plan f) y t follows, refl)

  tied_then : TiesAfter plan names rid rid' y.change made (then plan is capacities names room flown rid s stands w x at c (HasVid plan names) (things_held plan f) y).id
  tied_then = tied plan is capacities names room flown rid s stands w x at c (HasVid plan names) (things_held plan f) y made rid' number ties (λ n e v h. h)

  -- no group is built
  kept_builds : (z : Option Flown) → KeepsBuilds flown (put w z flown)
  kept_builds z = puts_kept flown w z (λ g there b. not_some g (sym none ∙ ap (λ (v : Flown). v.group) (same_Some x there.0 (sym at ∙ there.1)) ∙ there.2))

  known : (z : Option Flown) (t : Machine) → Goes t → Identified plan names' rid' (put w z flown) t.stands
  known z t follows =
      flown_identified plan names' rid' flown t.stands
      (took_identified plan is 4 capacities s (with_answer s t call) call (answer plan is capacities names room flown rid s stands w x at c (HasVid plan names) (things_held plan f) y t follows) stands.safe names rid rid' flown stands.identified (builds plan is capacities names room flown rid s stands w x at) f (its plan is capacities names room flown rid s stands w x at).flying made y.rest may due alone tied_then f' names' took)
      (put w z flown) (kept_builds z)

  no : (group_to_build plan names f ≡ None) × (group_to_take f ≡ None)
  no = no_group plan is capacities names room flown rid s stands w x at begun none

  pub row_answered : Both plan capacities rid rid' flown room s w c names' (flown_as f' None)
  row_answered = (on, over)
    where
      on : On plan capacities rid rid' flown room s w c names' (flown_as f' None)
      on some =
          let z = row_goes_on plan is capacities m stands.safe.sound names room flown stands.board w x at y.change y.rest stands' (moves plan is capacities names room flown rid s stands w x at c (HasVid plan names) (things_held plan f) y) made none no.0 no.1 f' names' took some in
          (z.0, answers z.0 z.1, stands_on plan capacities rid rid' flown room s w c names' is stands.safe z.0 (answers z.0 z.1) whole interfaces (flown_as f' None) z.3 (known (Some (flown_as f' None)) z.0 z.1))

      over : Over plan capacities rid rid' flown room s w c names' (flown_as f' None)
      over given may_end empty gives =
          let z = row_ends plan is capacities m stands.safe.sound names room flown stands.board w x at y.change y.rest stands' (moves plan is capacities names room flown rid s stands w x at c (HasVid plan names) (things_held plan f) y) made none no.0 no.1 f' names' took given empty gives in
          (z.0, answers z.0 z.1, stands_over plan capacities rid rid' flown room s w c names' is stands.safe z.0 (answers z.0 z.1) whole interfaces f'.key f'.new given may_end z.3 (known None z.0 z.1) fine)
