-- what workers have under way stands for the machine when a change of a group has taken effect
use Rattle.std.proofs.Common.{arith, ◌≡◌, ◌⊎◌, ◌∷◌, ◌++◌, ◌∙◌, inl, inr, ℕ, suc, Bool, true, false, List, [], length, Option, None, Some, is_some, if◌then◌else◌, refl, sym, ap, subst, ◌-◌, ◌≤◌}
use Rattle.std.proofs.lemmas.List.{append_assoc, length-append}
use Rattle.std.proofs.lemmas.Option.{same_Some}
use Rattle.swss_types.specs.declared.interface.IfName.{IfName}
use Rattle.table_schema.specs.Plan.{IsPlan, Ports}
use Rattle.table_schema.specs.declared.key.Key.TheVariants as key
use Rattle.sai_types.specs.declared.weight.WHop.{WHop}
use Rattle.sai_types.specs.declared.ids.Rid.{Rid}
use Rattle.sai_types.specs.declared.ids.Vid.{Vid}
use Rattle.sai_types.specs.declared.thing.Thing.{Thing}
use Rattle.sai_types.specs.Alike.{IsIn}
use Rattle.sai_types.proofs.Membership.{in-left, in-right}
use Rattle.sai_types.specs.declared.kind.Kind.{Kind}
use Rattle.row_layout.specs.Operations.{Change, uses_of, make_all, shared_going}
use Rattle.row_layout.specs.Rows as owner
use Rattle.row_layout.specs.Rows.{Owner}
use Rattle.row_layout.specs.Shared.{shared_things, uses}
use Rattle.switch_machine.specs.Changes.{changed_name}
use Rattle.switch_machine.specs.Consistent.{IsConsistent}
use Rattle.switch_machine.specs.Events.{Due, Ended, Follows}
use Rattle.switch_machine.specs.Flights.{MachineFlight, HasChangeOf, IsOwnedBy, IsShared, Machine, StandsIn, put}
use Rattle.switch_machine.specs.Steps.{Ends, Moves, finished, moved}
use Rattle.switch_machine.proofs.Ending.{sound-ended}
use Rattle.switch_machine.proofs.Moving.{sound-moved}
use Rattle.switch_machine.proofs.Running.{one_owner, shared_row, stays}
use Rattle.switch_machine.proofs.Splits.{put_at, use_row_in}
use Rattle.switch_machine.proofs.Tabled.{tabled}
use Rattle.switch_machine.specs.Places.{makes}
use Rattle.ref_counts.specs.declared.name.Name.TheVariants as name
use Rattle.ref_counts.specs.Registered.{made_live}
use Rattle.ref_counts.specs.Registry as registry
use Rattle.ref_counts.specs.Registry.{changed, gone_from, state_of}
use Rattle.ref_counts.specs.Room.{GivesBack, RoomState}
use Rattle.orch_flight.specs.Grouping.{GroupOperation, IsGroupTook, first_group_due, group_names_by, members_with_made}
use Rattle.orch_flight.specs.Operation.{Operation, is_between_for}
use Rattle.registry_laws.specs.Ending.{ended_names}
use Rattle.registry_laws.specs.Flown.{Flown, flight_of, group_in, group_to_build, group_to_take}
use Rattle.registry_laws.specs.Flying.{HasStanding, IsFlown, IsGroupFlown, KnowsBoard, flown_as, IsRestFrom}
use Rattle.registry_laws.specs.Known.{SharedStands}
use Rattle.registry_laws.specs.Registers.{HaveDue, Registers}
use Rattle.registry_laws.proofs.Aside.{IsAside, aside_finished, aside_moved, aside_then, board_with, board_without, built_state, now_owned}
use Rattle.registry_laws.proofs.Between.{due_follows, due_moved}
use Rattle.registry_laws.proofs.Ended.{registers_ended}
use Rattle.registry_laws.proofs.Fine.{AreFine, ended_fine, fine_of, group_fine}
use Rattle.registry_laws.proofs.Grouped.{taken_group, built_use}
use Rattle.registry_laws.proofs.Listing.{never_none, not_some, some_of_due}
use Rattle.registry_laws.proofs.Moved.{gone_moved, same_moved, shared_moved}
use Rattle.registry_laws.proofs.Parting.{removals_of}
use Rattle.registry_laws.proofs.Replied.{same_first, same_rest}
use Rattle.registry_laws.proofs.Rests.{none_of_group, rest_order, AreTaken, take_taken}
use Rattle.registry_laws.proofs.Settled.{not_built}
use Rattle.registry_laws.proofs.Taking.{group_due, made_in, row_due}
use Rattle.registry_laws.proofs.Beyond.{apart_by, none_less, nothing_less, place_if, taken_behind, taken_both, taken_here_taken, taken_makes, taken_tail}

length_one : {X : Type 0} (xs : List X) (x : X) → length (xs ++ x ∷ []) ≡ suc (length xs)
length_one xs x = let e = length-append xs (x ∷ []) in omega (arith, e)

-- the changes of a group are of it
group_own : (plan : Ports) (is : IsPlan plan) (hops : List WHop) (b : Bool) (c : Change) → IsIn c (first_group_due hops b) → IsOwnedBy plan (changed_name c) (owner.Group hops)
group_own plan is hops true c h =
    let x = made_in (shared_things (owner.Group hops)) c h in
    subst (λ z. IsOwnedBy plan (changed_name z) (owner.Group hops)) (sym x.2) ((tabled plan is).shared (owner.Group hops) x.0 x.1)
group_own plan is hops false c h = removals_of plan is (owner.Group hops) c h

module _ (plan : Ports) (is : IsPlan plan) (capacities : List ℕ) (m : Machine) (sound : IsConsistent plan m) (names : registry.Names) (room : RoomState) (flown : ℕ → Option Flown) (board : KnowsBoard plan capacities names room flown m) (x : Flown) (at : flown x.operation.worker ≡ Some x) (part : GroupOperation) (has : x.group ≡ Some part) (c : Change) (cs : List Change) (stands : List (Rid × Thing)) (moves : Moves m x.operation.worker (flight_of x.operation) c cs stands) (made : Option Vid) (part' : GroupOperation) (names' : registry.Names) (took : IsGroupTook part made names part' names') where
  abbrev p : Operation
  p = x.operation

  abbrev w : ℕ
  w = x.operation.worker

  abbrev g : MachineFlight
  g = flight_of x.operation

  abbrev o : Owner
  o = owner.Group part.hops

  y : IsFlown plan names m w x
  y = board.flying w x at

  z : IsGroupFlown plan names x.operation part
  z = y.group part has

  due : c ∷ cs ≡ took.change ∷ (took.rest ++ p.due)
  due = sym moves.due ∙ y.due ∙ group_due plan names x part has ∙ ap (λ l. l ++ p.due) took.due

  same_change : took.change ≡ c
  same_change = sym (same_first c took.change cs (took.rest ++ p.due) due)

  rest_is : cs ≡ took.rest ++ p.due
  rest_is = same_rest c took.change cs (took.rest ++ p.due) due

  part_own : (d : Change) → IsIn d part.due → IsOwnedBy plan (changed_name d) o
  part_own d h = group_own plan is part.hops part.builds d (subst (IsIn d) (sym z.rest.1) (in-right d z.rest.0 part.due h))

  own : IsOwnedBy plan (changed_name c) o
  own = subst (λ d. IsOwnedBy plan (changed_name d) o) same_change (part_own took.change (subst (IsIn took.change) (sym took.due) (inl refl)))

  -- the row's own changes are of no group
  no_more : HasChangeOf plan p.due o → ⊥
  no_more t = none_of_group plan p.key (m.board.applied p.key) p.new p.due t.0 (rest_order plan is (m.board.applied p.key) p (λ r e. sound.board.fit p.key r (inl e)) y.over.new y.rest) t.1 (part.hops, t.2)

  abbrev later : Machine
  later = moved m w cs stands

  due_now : later.due w ≡ cs
  due_now = put_at w w cs m.due refl

  sound' : IsConsistent plan later
  sound' = sound-moved plan (tabled plan is) m sound w g c cs stands moves

  aside : IsAside plan w m later
  aside = aside_moved plan is m sound w g c cs stands moves

  fine : AreFine names
  fine = fine_of names board.rising board.placed board.there

  fine' : AreFine names'
  fine' = subst AreFine (sym took.names_are) (group_fine names part (members_with_made part made) took.rest fine)

  standing : HasStanding plan later p
  standing t d i j e =
      let its = now_owned plan is p y.over.now t i in
      moves.back t (stays c (StandsIn m t) t (λ same. shared_row o p.key tt (one_owner plan (changed_name c) o (owner.OfRow p.key) own (subst (λ n. IsOwnedBy plan n (owner.OfRow p.key)) same its))) (y.standing t d i j e))

  -- its row is no interface's
  no_interface : (n : IfName) → p.key ≡ key.Intf n → ⊥
  no_interface n same = by z.is
    where
      by : ((part.builds ≡ true) × (group_to_build plan names p ≡ Some part.hops)) ⊎ ((part.builds ≡ false) × (group_to_take p ≡ Some part.hops)) → ⊥
      by (inl h) = let u = use_row_in plan p.key p.new o (built_use plan names p part.hops h.1) in elim (subst (λ k. IsIn o (uses plan k u.0)) same u.2) [ ]
      by (inr h) = let was = sound.board.left w g o y.flying (taken_group p.retires part.hops h.1) in elim (subst (λ k. IsIn o (uses plan k was.row)) same was.used) [ ]

  not_between : is_between_for p.key p.now p.due ≡ false
  not_between = apart_by p.key p.now p.due (λ b v ds n a e same at. no_interface n same)

  -- ---- the places that it keeps

  beyond : (q : Kind) → makes q (later.due w) - makes q (later.reserved w) ≡ place_if (is_between_for p.key p.now p.due) q
  beyond q = ap (λ l. makes q l - makes q (m.reserved w)) due_now ∙ by part.builds refl ∙ sym (ap (λ b. place_if b q) not_between)
    where
      zero : makes q (c ∷ cs) - makes q (m.reserved w) ≡ 0
      zero = ap (λ l. makes q l - makes q (m.reserved w)) (sym moves.due) ∙ y.beyond q ∙ ap (λ b. place_if b q) not_between

      all : (b : Bool) → part.builds ≡ b → first_group_due part.hops b ≡ z.rest.0 ++ took.change ∷ took.rest
      all b e = sym (ap (first_group_due part.hops) e) ∙ z.rest.1 ∙ ap (λ l. z.rest.0 ++ l) took.due

      own_taken : part.builds ≡ false → AreTaken p.due
      own_taken e = of y.rest
        where
          retires : part.builds ≡ false → p.retires ≡ Some o
          retires goes = one z.is
            where
              one : ((part.builds ≡ true) × (group_to_build plan names p ≡ Some part.hops)) ⊎ ((part.builds ≡ false) × (group_to_take p ≡ Some part.hops)) → p.retires ≡ Some o
              one (inl h) = let x : true ≡ false = sym h.0 ∙ goes in absurd cc
              one (inr h) = taken_group p.retires part.hops h.1

          of : IsRestFrom plan (m.board.applied p.key) p → AreTaken p.due
          of (inl (none, r)) = not_some o (sym none ∙ retires e)
          of (inr (before, r)) = taken_behind before p.due (subst AreTaken r (taken_here_taken p.retires))

      by : (b : Bool) → part.builds ≡ b → makes q cs - makes q (m.reserved w) ≡ 0
      by true e =
          let i : IsIn c (make_all (shared_things o) []) = subst (IsIn c) (sym (all true e)) (in-right c z.rest.0 (took.change ∷ took.rest) (inl (sym same_change))) in
          let x = made_in (shared_things o) c i in
          none_less (makes q cs) (makes q (c ∷ cs)) (makes q (m.reserved w)) (subst (λ d. makes q cs ≤ makes q (d ∷ cs)) (sym x.2) (omega arith)) zero
      by false e =
          let rest = taken_tail took.change took.rest (taken_behind z.rest.0 (took.change ∷ took.rest) (subst AreTaken (all false e) (take_taken (shared_going o)))) in
          nothing_less (makes q cs) (makes q (m.reserved w)) (ap (makes q) rest_is ∙ taken_makes q (took.rest ++ p.due) (taken_both took.rest p.due rest (own_taken e)))

  due_next : part'.due ≡ took.rest
  due_next = ap (λ (v : GroupOperation). v.due) took.operation

  -- ---- more of the group is due

  abbrev On : Option GroupOperation → registry.Names → Type 0
  On v ns = (t : Machine) × Follows plan w later t × (t.stands ≡ stands) × KnowsBoard plan capacities ns room (put w (Some (flown_as p v)) flown) t

  -- the machine as it is then
  on_with : (v : Option GroupOperation) → Registers plan 4 capacities names' room later → (d : Change) (ds : List Change) → cs ≡ d ∷ ds → IsFlown plan names' later w (flown_as p v) → On v names'
  on_with v known d ds e flying =
      let follows : Follows plan w later later = Due d ds (due_now ∙ e) in
      let busy : HaveDue later = due_follows plan later w later is sound' (due_moved m w cs stands board.busy) follows in
      (later, follows, refl, board_with plan is capacities names room m board.registers sound w later sound' aside names' room known flown board.idle board.flying busy fine' (flown_as p v) flying)

  module _ (number : is_some made ≡ part.builds) (d : Change) (ds : List Change) (more : took.rest ≡ d ∷ ds) where
    names_same : names' ≡ names
    names_same = took.names_are ∙ ap (group_names_by names part (members_with_made part made)) more

    known' : Registers plan 4 capacities names room later
    known' = same_moved plan m w g c cs stands moves 4 capacities names room board.registers next
      where
        i : IsIn d took.rest
        i = subst (IsIn d) (sym more) (inl refl)

        next : (q : Owner) → IsShared q → IsOwnedBy plan (changed_name c) q → HasChangeOf plan cs q
        next q shared of =
            let same = one_owner plan (changed_name c) o q own of in
            (d, subst (IsIn d) (sym rest_is) (in-left d took.rest p.due i), subst (IsOwnedBy plan (changed_name d)) same (part_own d (subst (IsIn d) (sym took.due) (inr i))))

    -- with another identifier where the group is built
    counted : part.builds ≡ true → length (z.rest.0 ++ took.change ∷ []) ≡ length (members_with_made part made)
    counted builds = by made (number ∙ builds)
      where
        was : length z.rest.0 ≡ length part.made
        was = z.rest.2 builds

        by : (v : Option Vid) → is_some v ≡ true → length (z.rest.0 ++ took.change ∷ []) ≡ length (members_with_made part v)
        by None h = absurd cc
        by (Some v) h = length_one z.rest.0 took.change ∙ ap suc was ∙ sym (length_one part.made v) ∙ sym (ap (λ b. length (if b then part.made ++ v ∷ [] else part.made)) builds)

    abbrev next_part : GroupOperation
    next_part = record { worker = part.worker; hops = part.hops; builds = part.builds; neighbours = part.neighbours; made = members_with_made part made; due = took.rest }

    now_part : IsGroupFlown plan names p next_part
    now_part = record {
      worker = z.worker;
      is = z.is;
      over = z.over;
      some = λ e. some_of_due d ds (sym more ∙ e);
      rest = (z.rest.0 ++ took.change ∷ [], z.rest.1 ∙ ap (λ l. z.rest.0 ++ l) took.due ∙ sym (append_assoc z.rest.0 (took.change ∷ []) took.rest), counted);
    }

    now_flown : IsFlown plan names later w (flown_as p (Some next_part))
    now_flown = record {
      flying = moves.flying;
      worker = refl;
      due = due_now ∙ rest_is;
      over = y.over;
      some = y.some;
      rest = y.rest;
      between = y.between;
      standing = standing;
      later = y.later;
      group = λ v e. subst (IsGroupFlown plan names p) (same_Some next_part v e) now_part;
      beyond = beyond;
      reserves = y.reserves;
    }

    group_goes_on : On (Some part') names'
    group_goes_on =
        subst (λ v. On (Some v) names') (sym took.operation)
        (on_with (Some next_part) (subst (λ ns. Registers plan 4 capacities ns room later) (sym names_same) known') d (ds ++ p.due) (rest_is ∙ ap (λ l. l ++ p.due) more)
        (subst (λ ns. IsFlown plan ns later w (flown_as p (Some next_part))) (sym names_same) now_flown))

  -- ---- no more of it is due

  module _ (end : took.rest ≡ []) where
    rest_own : cs ≡ p.due
    rest_own = rest_is ∙ ap (λ l. l ++ p.due) end

    none_left : HasChangeOf plan cs o → ⊥
    none_left t = no_more (subst (λ l. HasChangeOf plan l o) rest_own t)

    names_by : (b : Bool) → part.builds ≡ b → names' ≡ (if b then changed names (name.Group part.hops) (made_live (members_with_made part made)) else gone_from names (name.Group part.hops))
    names_by b e = took.names_are ∙ ap (group_names_by names part (members_with_made part made)) end ∙ ap (λ b. if b then changed names (name.Group part.hops) (made_live (members_with_made part made)) else gone_from names (name.Group part.hops)) e

    -- ---- it is built

    module _ (builds : part.builds ≡ true) where
      to_be_built : group_to_build plan names p ≡ Some part.hops
      to_be_built = by z.is
        where
          by : ((part.builds ≡ true) × (group_to_build plan names p ≡ Some part.hops)) ⊎ ((part.builds ≡ false) × (group_to_take p ≡ Some part.hops)) → group_to_build plan names p ≡ Some part.hops
          by (inl h) = h.1
          by (inr h) = let e : true ≡ false = sym builds ∙ h.0 in absurd cc

      stays_there : g.retires ≡ Some o → ⊥
      stays_there retires =
          let st = (built_state names p.worker (group_in (uses_of plan p.key p.new)) part.hops to_be_built).1 in
          let s = subst (SharedStands plan m o) st (board.registers.names_known.shared o tt).stands in
          s.3 (subst (λ (v : MachineFlight). v.retires ≡ Some o) (same_Some g s.0 (sym moves.flying ∙ s.1)) retires)

      known_built : Registers plan 4 capacities names' room later
      known_built = subst (λ ns. Registers plan 4 capacities ns room later) (sym (names_by true builds)) (shared_moved plan m w g c cs stands moves 4 capacities names room board.registers is sound o tt own none_left stays_there (members_with_made part made))

      built_now : group_to_build plan names' p ≡ None
      built_now = not_built plan names' later p (λ hops. (known_built.names_known.shared (owner.Group hops) tt).stands) (λ hops t other. none_of_group plan p.key (m.board.applied p.key) p.new p.due t.0 (rest_order plan is (m.board.applied p.key) p (λ r e. sound.board.fit p.key r (inl e)) y.over.new y.rest) (subst (IsIn t.0) (due_now ∙ rest_own) t.1) (hops, t.2))

      none_taken : (v : Option (List WHop)) → group_to_take p ≡ v → group_to_take p ≡ None
      none_taken None e = e
      none_taken (Some hops) e =
          let retires = taken_group p.retires hops e in
          let its = board.registers.retiring w g (owner.Group hops) c moves.flying retires (subst (IsIn c) (sym moves.due) (inl refl)) in
          absurd (stays_there (retires ∙ ap Some (one_owner plan (changed_name c) (owner.Group hops) o its own)))

      built_flown : IsFlown plan names' later w (flown_as p None)
      built_flown = record {
        flying = moves.flying;
        worker = refl;
        due = due_now ∙ rest_own ∙ sym (row_due plan names' (flown_as p None) refl built_now (none_taken (group_to_take p) refl));
        over = y.over;
        some = y.some;
        rest = y.rest;
        between = y.between;
        standing = standing;
        later = λ hops h. never_none hops (sym h ∙ built_now);
        group = λ v e. not_some v e;
        beyond = beyond;
        reserves = y.reserves;
      }

      group_is_built : On None names'
      group_is_built = by p.due refl
        where
          by : (l : List Change) → p.due ≡ l → On None names'
          by [] e = absurd (y.later part.hops to_be_built e)
          by (d ∷ ds) e = on_with None known_built d ds (rest_own ∙ e) built_flown

    -- ---- it is gone

    module _ (goes : part.builds ≡ false) where
      retired : g.retires ≡ Some o
      retired = by z.is
        where
          by : ((part.builds ≡ true) × (group_to_build plan names p ≡ Some part.hops)) ⊎ ((part.builds ≡ false) × (group_to_take p ≡ Some part.hops)) → g.retires ≡ Some o
          by (inl h) = let e : true ≡ false = sym h.0 ∙ goes in absurd cc
          by (inr h) = taken_group p.retires part.hops h.1

      known_gone : Registers plan 4 capacities names' room later
      known_gone = subst (λ ns. Registers plan 4 capacities ns room later) (sym (names_by false goes)) (gone_moved plan m w g c cs stands moves 4 capacities names room board.registers is sound o tt own none_left retired board.rising)

      none_own : (l : List Change) → p.due ≡ l → p.due ≡ []
      none_own [] e = e
      none_own (d ∷ ds) e =
          let i : IsIn d p.due = subst (IsIn d) (sym e) (inl refl) in
          let j : IsIn d (m.due w) = subst (IsIn d) (sym moves.due) (inr (subst (IsIn d) (sym rest_own) i)) in
          absurd (no_more (d, i, board.registers.retiring w g o d moves.flying retired j))

      ends : Ends later w g
      ends = record { flying = moves.flying; done = due_now ∙ rest_own ∙ none_own p.due refl; left = by p.leaves refl }
        where
          by : (v : Option Owner) → p.leaves ≡ v → p.leaves ≡ None
          by None e = e
          by (Some q) e = not_some o (sym (sound.board.leaves w g q moves.flying e).2 ∙ retired)

      group_is_gone : (room' : RoomState) → GivesBack room w room' → (t : Machine) × Follows plan w later t × (t.stands ≡ stands) × KnowsBoard plan capacities (ended_names names' w p.key (m.board.applied p.key) p.new) room' (put w None flown) t
      group_is_gone room' gives =
          let t = finished later w g in
          let ns = ended_names names' w p.key (m.board.applied p.key) p.new in
          let follows : Follows plan w later t = Ended g ends in
          let known = registers_ended plan later sound' w g ends 4 capacities names' room room' known_gone fine'.rising gives y.some in
          let busy : HaveDue t = due_follows plan later w t is sound' (due_moved m w cs stands board.busy) follows in
          (t, follows, refl, board_without plan is capacities names room m board.registers sound w t (sound-ended plan (tabled plan is) later sound' w g ends) (aside_then plan w m later t aside (aside_finished plan is later sound' w g moves.flying)) ns room' known flown board.idle board.flying busy (ended_fine names' w p.key (m.board.applied p.key) p.new fine') (put_at w w None later.board.flights refl))

  -- ---- by what is left of its operation

  by_due : (l : List Change) → part'.due ≡ l → took.rest ≡ l
  by_due l e = sym due_next ∙ e

  pub part_goes_on : is_some made ≡ part.builds → (part'.due ≡ [] → ⊥) → On (Some part') names'
  part_goes_on number some = by part'.due refl
    where
      by : (l : List Change) → part'.due ≡ l → On (Some part') names'
      by [] e = absurd (some e)
      by (d ∷ ds) e = group_goes_on number d ds (by_due (d ∷ ds) e)

  pub part_built : part.builds ≡ true → part'.due ≡ [] → On None names'
  part_built builds none = group_is_built (by_due [] none) builds

  pub part_gone : part.builds ≡ false → part'.due ≡ [] → (room' : RoomState) → GivesBack room w room' → (t : Machine) × Follows plan w later t × (t.stands ≡ stands) × KnowsBoard plan capacities (ended_names names' w p.key (m.board.applied p.key) p.new) room' (put w None flown) t
  part_gone goes none = group_is_gone (by_due [] none) goes
