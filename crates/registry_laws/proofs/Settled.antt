-- what follows in an event: a change is due, the operation leaves what it shared, or it ends
use Rattle.std.proofs.Common.{◌≡◌, ◌⊎◌, ◌∷◌, ◌++◌, ◌∙◌, inl, inr, ℕ, List, [], Option, None, Some, refl, sym, ap, subst}
use Rattle.std.proofs.lemmas.Option.{same_Some}
use Rattle.table_schema.specs.Plan.{IsPlan, Ports}
use Rattle.sai_types.specs.declared.weight.WHop.{WHop}
use Rattle.sai_types.specs.declared.thing.Thing.TheVariants as thing
use Rattle.sai_types.specs.Alike.{IsIn}
use Rattle.sai_types.specs.Names.{name_of}
use Rattle.sai_types.proofs.Membership.{in-right}
use Rattle.row_layout.specs.Operations.{Change, shared_going, take_all, uses_of}
use Rattle.row_layout.specs.Rows as owner
use Rattle.row_layout.specs.Rows.{Owner, owner_of}
use Rattle.switch_machine.specs.Changes.{changed_name}
use Rattle.switch_machine.specs.Consistent.{IsConsistent}
use Rattle.switch_machine.specs.Events.{Due, Ended, Follows, Left, Retires}
use Rattle.switch_machine.specs.Flights.{MachineFlight, HasChangeOf, IsOwnedBy, IsShared, Machine, own_of}
use Rattle.switch_machine.specs.Operations.{IsLast}
use Rattle.switch_machine.specs.Steps.{Ends, Leaves, LeavesOthers, finished, left, parted}
use Rattle.switch_machine.proofs.Beginning.{sound-retired}
use Rattle.switch_machine.proofs.Ending.{sound-ended}
use Rattle.switch_machine.proofs.Leaving.{sound-left}
use Rattle.switch_machine.proofs.Running.{one_owner, shared_row}
use Rattle.switch_machine.proofs.Splits.{put_at}
use Rattle.switch_machine.proofs.Tabled.{are_shared_by, tabled}
use Rattle.switch_machine.specs.Places.{makes}
use Rattle.ref_counts.specs.declared.name.Name.TheVariants as name
use Rattle.ref_counts.specs.Registry as registry
use Rattle.ref_counts.specs.Registry.{state_of}
use Rattle.ref_counts.specs.Room.{GivesBack, RoomState}
use Rattle.orch_flight.specs.Calling.{IsChangeFor, things_retired}
use Rattle.orch_flight.specs.Operation.{Operation}
use Rattle.orch_flight.specs.Starting.{left_names, retired_by, taken_here}
use Rattle.orch_flight.specs.Taking.{to_list}
use Rattle.registry_laws.specs.Ending.{ended_names}
use Rattle.registry_laws.specs.Flown.{built_in, due_for, flight_of, group_in, group_to_build, group_to_take, whole_group}
use Rattle.registry_laws.specs.Flying.{IsFlown, flown_as}
use Rattle.registry_laws.specs.Known.{SharedStands}
use Rattle.registry_laws.specs.Registers.{HaveDue, OthersHaveDue, Registers, group_taken}
use Rattle.registry_laws.proofs.Nexts.{taken_sets}
use Rattle.registry_laws.proofs.Apart.{taken_apart}
use Rattle.registry_laws.proofs.Aside.{IsAside, aside_finished, aside_left, aside_then, built_none, now_owned}
use Rattle.registry_laws.proofs.Between.{due_follows}
use Rattle.registry_laws.proofs.Ended.{registers_ended}
use Rattle.registry_laws.proofs.Fine.{AreFine, ended_fine, left_fine}
use Rattle.registry_laws.proofs.Left.{parts}
use Rattle.registry_laws.proofs.Listing.{never_none, not_some, some_of_due}
use Rattle.registry_laws.proofs.Parting as parting
use Rattle.registry_laws.proofs.Taking.{row_due, disturbed_name}
use Rattle.registry_laws.proofs.Beyond.{nothing_less, place_if, removing_apart, taken_here_taken, taken_makes}
use Rattle.registry_laws.proofs.Rests.{take_taken}

-- ---- an operation of which nothing is due leaves what it has to leave

abbrev pub settled_by : registry.Names → Operation → List Change → Option Owner → Operation
settled_by names p [] (Some o) = record { worker = p.worker; key = p.key; now = p.now; new = p.new; due = taken_here (retired_by names p.worker p.key o); leaves = None; retires = retired_by names p.worker p.key o }
settled_by names p due leaves = p

abbrev pub settled_names_by : registry.Names → Operation → List Change → Option Owner → registry.Names
settled_names_by names p [] (Some o) = left_names names p.worker p.key o
settled_names_by names p due leaves = names

-- the operation after it
abbrev pub settled : registry.Names → Operation → Operation
settled names p = settled_by names p p.due p.leaves

abbrev pub settled_names : registry.Names → Operation → registry.Names
settled_names names p = settled_names_by names p p.due p.leaves

-- what another machine is of this one
pub record IsLater (plan : Ports) (capacities : List ℕ) (w : ℕ) (m t : Machine) (names : registry.Names) (room : RoomState) : Type 0 where
  pub follows : Follows plan w m t
  pub stands : t.stands ≡ m.stands
  pub aside : IsAside plan w m t
  pub sound : IsConsistent plan t
  pub known : Registers plan 4 capacities names room t
  pub busy : HaveDue t
  pub fine : AreFine names

pub nothing_behind : {X : Type 0} (xs ys : List X) → xs ++ ys ≡ [] → ys ≡ []
nothing_behind [] ys e = e
nothing_behind (x ∷ xs) ys e = absurd cc

-- what is taken away is a thing that the operation holds
taken_for : (plan : Ports) (p : Operation) (x : Option Owner) → p.retires ≡ x → IsChangeFor plan p (taken_here x)
taken_for plan p None e = tt
taken_for plan p (Some (owner.OfRow k)) e = tt
taken_for plan p (Some (owner.Bridge lane)) e = (thing.BridgePort lane, in-right (thing.BridgePort lane) (own_of plan p.key p.now) (things_retired p.retires) (subst (λ z. IsIn (thing.BridgePort lane) (things_retired z)) (sym e) (inl refl)), refl)
taken_for plan p (Some (owner.Own v ip)) e = (thing.Own v ip, in-right (thing.Own v ip) (own_of plan p.key p.now) (things_retired p.retires) (subst (λ z. IsIn (thing.Own v ip) (things_retired z)) (sym e) (inl refl)), refl)
taken_for plan p (Some (owner.Group hops)) e = tt

-- and it is of what it retires
taken_own : (plan : Ports) (o : Owner) (c : Change) → IsIn c (taken_here (Some o)) → IsOwnedBy plan (changed_name c) o
taken_own plan (owner.OfRow k) c h = elim h [ ]
taken_own plan (owner.Bridge lane) c (inl e) = ap (λ z. owner_of plan (changed_name z)) e
taken_own plan (owner.Bridge lane) c (inr h) = elim h [ ]
taken_own plan (owner.Own v ip) c (inl e) = ap (λ z. owner_of plan (changed_name z)) e
taken_own plan (owner.Own v ip) c (inr h) = elim h [ ]
taken_own plan (owner.Group hops) c h = elim h [ ]

group_of : (o : Owner) → group_taken o ≡ whole_group None (group_in (o ∷ []))
group_of (owner.OfRow k) = refl
group_of (owner.Bridge lane) = refl
group_of (owner.Own v ip) = refl
group_of (owner.Group hops) = refl

-- no group is built where no change of one is due
pub not_built : (plan : Ports) (names : registry.Names) (m : Machine) (p : Operation) → ((hops : List WHop) → SharedStands plan m (owner.Group hops) (state_of names (name.Group hops))) → ((hops : List WHop) → HasChangeOf plan (m.due p.worker) (owner.Group hops) → ((f : MachineFlight) → m.board.flights p.worker ≡ Some f → f.retires ≡ Some (owner.Group hops) → ⊥) → ⊥) → group_to_build plan names p ≡ None
not_built plan names m p stands none = by (group_in (uses_of plan p.key p.new))
  where
    by : (x : Option (List WHop)) → built_in names p.worker x ≡ None
    by None = refl
    by (Some hops) = built_none names p.worker hops (λ h. let s = subst (SharedStands plan m (owner.Group hops)) h (stands hops) in none hops s.2 (λ f at e. s.3 (subst (λ (z : MachineFlight). z.retires ≡ Some (owner.Group hops)) (same_Some f s.0 (sym at ∙ s.1)) e)))

module _ (plan : Ports) (is : IsPlan plan) (capacities : List ℕ) (m : Machine) (sound : IsConsistent plan m) (names : registry.Names) (room : RoomState) (known : Registers plan 4 capacities names room m) (fine : AreFine names) (p : Operation) (busy : OthersHaveDue m p.worker) (y : IsFlown plan names m p.worker (flown_as p None)) where
  abbrev w : ℕ
  w = p.worker

  abbrev f : MachineFlight
  f = flight_of p

  abbrev pub On : Operation → registry.Names → Type 0
  On q names' = (due_for plan names' (flown_as q None) ≡ [] → ⊥) → (t : Machine) × IsLater plan capacities w m t names' room × IsFlown plan names' t w (flown_as q None)

  abbrev pub Over : Operation → registry.Names → Type 0
  Over q names' = (room' : RoomState) → due_for plan names' (flown_as q None) ≡ [] → GivesBack room w room' → (t : Machine) × IsLater plan capacities w m t (ended_names names' w p.key (m.board.applied p.key) p.new) room' × (t.board.flights w ≡ None)

  abbrev pub Both : Operation → registry.Names → Type 0
  Both q names' = On q names' × Over q names'

  -- ---- it goes on, or ends, as it is

  on_stays : On p names
  on_stays some = by (m.due w) refl
    where
      by : (due : List Change) → m.due w ≡ due → (t : Machine) × IsLater plan capacities w m t names room × IsFlown plan names t w (flown_as p None)
      by [] e = absurd (some (sym y.due ∙ e))
      by (c ∷ cs) e =
          let follows : Follows plan w m m = Due c cs e in (
            m,
            record {
              follows = follows;
              stands = refl;
              aside = record { flights = λ v apart. refl; due = λ v apart. refl; reserved = λ v apart. refl; applied = λ v g apart at. refl; stands = λ v g u apart at own h. h };
              sound = sound;
              known = known;
              busy = due_follows plan m w m is sound busy follows;
              fine = fine;
            },
            y,
          )

  -- an operation with nothing to leave ends
  ended : (room' : RoomState) → m.due w ≡ [] → p.leaves ≡ None → GivesBack room w room' → (t : Machine) × IsLater plan capacities w m t (ended_names names w p.key (m.board.applied p.key) p.new) room' × (t.board.flights w ≡ None)
  ended room' none leaves gives =
      let ends : Ends m w f = record { flying = y.flying; done = none; left = leaves } in
      let follows : Follows plan w m (finished m w f) = Ended f ends in (
        finished m w f,
        record {
          follows = follows;
          stands = refl;
          aside = aside_finished plan is m sound w f y.flying;
          sound = sound-ended plan (tabled plan is) m sound w f ends;
          known = registers_ended plan m sound w f ends 4 capacities names room room' known fine.rising gives y.some;
          busy = due_follows plan m w (finished m w f) is sound busy follows;
          fine = ended_fine names w p.key (m.board.applied p.key) p.new fine;
        },
        put_at w w None m.board.flights refl,
      )

  -- ---- it leaves what it shared

  module _ (o : Owner) (none : p.due ≡ []) (leaves : p.leaves ≡ Some o) where
    was : (p.retires ≡ None) × IsShared o
    was =
        let x = sound.board.leaves w f o y.flying leaves in
        (x.2, are_shared_by plan is p.key x.0.row o x.0.used)

    no_group : group_to_build plan names p ≡ None
    no_group = by (group_to_build plan names p) refl
      where
        by : (x : Option (List WHop)) → group_to_build plan names p ≡ x → group_to_build plan names p ≡ None
        by None e = e
        by (Some hops) e = absurd (y.later hops e none)

    done : m.due w ≡ []
    done = y.due ∙ row_due plan names (flown_as p None) refl no_group (ap (λ z. group_in (to_list z)) was.0) ∙ none

    leaving : Leaves m w f o
    leaving = record { flying = y.flying; done = done; leaves = leaves }

    -- with what it retires from now on
    abbrev after : Option Owner → Operation
    after x = record { worker = p.worker; key = p.key; now = p.now; new = p.new; due = taken_here x; leaves = None; retires = x }

    abbrev names_left : registry.Names
    names_left = left_names names w p.key o

    -- ---- as the last user

    abbrev gone : Machine
    gone = left m w f (Some o) (take_all (shared_going o) [])

    due_gone : gone.due w ≡ take_all (shared_going o) []
    due_gone = put_at w w (take_all (shared_going o) []) m.due refl

    here_gone : gone.board.flights w ≡ Some (parted f (Some o))
    here_gone = put_at w w (Some (parted f (Some o))) m.board.flights refl

    last_flown : IsLast plan m w f o → Registers plan 4 capacities names_left room gone → IsFlown plan names_left gone w (flown_as (after (Some o)) None)
    last_flown last now = record {
      flying = here_gone;
      worker = refl;
      due = due_gone ∙ taken_apart o ∙ ap (λ g. g ++ taken_here (Some o)) (group_of o) ∙ sym (ap (λ b. whole_group b (group_in (o ∷ [])) ++ taken_here (Some o)) not_now);
      over = record { plans = is; now = y.over.now; new = y.over.new; next = taken_for plan (after (Some o)) (Some o) refl; sets = taken_sets plan (after (Some o)) (Some o) };
      some = y.some;
      rest = inr ([], refl);
      between = y.between;
      standing = λ t c i j e. absurd (shared_row o p.key was.1 (one_owner plan (name_of t) o (owner.OfRow p.key) (subst (λ n. IsOwnedBy plan n o) (disturbed_name c (name_of t) e) (taken_own plan o c j)) (now_owned plan is p y.over.now t i)));
      later = λ hops h. never_none hops (sym h ∙ not_now);
      group = λ g h. not_some g h;
      beyond = λ q. nothing_less (makes q (gone.due w)) (makes q (m.reserved w)) (ap (makes q) due_gone ∙ taken_makes q (take_all (shared_going o) []) (take_taken (shared_going o))) ∙ sym (ap (λ b. place_if b q) (removing_apart p.key p.now (taken_here (Some o)) (taken_here_taken (Some o))));
      reserves = y.reserves;
    }
      where
        only : (hops : List WHop) → HasChangeOf plan (gone.due w) (owner.Group hops) → Some o ≡ Some (owner.Group hops)
        only hops (c, i, own) = ap Some (one_owner plan (changed_name c) o (owner.Group hops) (parting.removals_of plan is o c (subst (IsIn c) due_gone i)) own)

        not_now : group_to_build plan names_left (after (Some o)) ≡ None
        not_now = not_built plan names_left gone (after (Some o)) (λ hops. (now.names_known.shared (owner.Group hops) tt).stands) (λ hops t other. other (parted f (Some o)) here_gone (only hops t))

    both_last : retired_by names w p.key o ≡ Some o → IsLast plan m w f o → Registers plan 4 capacities names_left room gone → Both (after (retired_by names w p.key o)) names_left
    both_last retires last now = subst (λ x. Both (after x) names_left) (sym retires) (on, over)
      where
        flown : IsFlown plan names_left gone w (flown_as (after (Some o)) None)
        flown = last_flown last now

        follows : Follows plan w m gone
        follows = Retires f o last

        busy_now : HaveDue gone
        busy_now = due_follows plan m w gone is sound busy follows

        on : On (after (Some o)) names_left
        on some = (
          gone,
          record {
            follows = follows;
            stands = refl;
            aside = aside_left plan w m f (Some o) (take_all (shared_going o) []);
            sound = sound-retired plan is m sound w f o last;
            known = now;
            busy = busy_now;
            fine = left_fine names w p.key o fine;
          },
          flown,
        )

        over : Over (after (Some o)) names_left
        over room' empty gives = absurd (busy_now w (parted f (Some o)) here_gone (flown.due ∙ empty))

    -- ---- where others use it

    abbrev apart : Machine
    apart = left m w f f.retires []

    due_apart : apart.due w ≡ []
    due_apart = put_at w w [] m.due refl

    here_apart : apart.board.flights w ≡ Some (parted f f.retires)
    here_apart = put_at w w (Some (parted f f.retires)) m.board.flights refl

    both_others : retired_by names w p.key o ≡ None → LeavesOthers plan m w f o → Registers plan 4 capacities names_left room apart → Both (after (retired_by names w p.key o)) names_left
    both_others retires others now = subst (λ x. Both (after x) names_left) (sym retires) (on, over)
      where
        not_now : group_to_build plan names_left (after None) ≡ None
        not_now = not_built plan names_left apart (after None) (λ hops. (now.names_known.shared (owner.Group hops) tt).stands) (λ hops t other. (subst (λ d. HasChangeOf plan d (owner.Group hops)) due_apart t).1)

        empty : due_for plan names_left (flown_as (after None) None) ≡ []
        empty = ap (λ b. whole_group b None ++ []) not_now

        on : On (after None) names_left
        on some = absurd (some empty)

        sound' : IsConsistent plan apart
        sound' = sound-left plan (tabled plan is) m sound w f o others

        ends : Ends apart w (parted f f.retires)
        ends = record { flying = here_apart; done = due_apart; left = refl }

        fine' : AreFine names_left
        fine' = left_fine names w p.key o fine

        over : Over (after None) names_left
        over room' _ gives =
            let follows : Follows plan w m (finished apart w (parted f f.retires)) = Left f o others in (
              finished apart w (parted f f.retires),
              record {
                follows = follows;
                stands = refl;
                aside = aside_then plan w m apart (finished apart w (parted f f.retires)) (aside_left plan w m f f.retires []) (aside_finished plan is apart sound' w (parted f f.retires) here_apart);
                sound = sound-ended plan (tabled plan is) apart sound' w (parted f f.retires) ends;
                known = registers_ended plan apart sound' w (parted f f.retires) ends 4 capacities names_left room room' now fine'.rising gives y.some;
                busy = due_follows plan m w (finished apart w (parted f f.retires)) is sound busy follows;
                fine = ended_fine names_left w p.key (m.board.applied p.key) p.new fine';
              },
              put_at w w None apart.board.flights refl,
            )

    both_left : Both (after (retired_by names w p.key o)) names_left
    both_left = by (parts plan is m sound w f o leaving 4 capacities names room known)
      where
        by : ((retired_by names w p.key o ≡ Some o) × IsLast plan m w f o × Registers plan 4 capacities names_left room gone) ⊎ ((retired_by names w p.key o ≡ None) × LeavesOthers plan m w f o × Registers plan 4 capacities names_left room apart) → Both (after (retired_by names w p.key o)) names_left
        by (inl x) = both_last x.0 x.1 x.2
        by (inr x) = both_others x.0 x.1 x.2

  -- ---- both

  pub both : Both (settled names p) (settled_names names p)
  both = by p.due refl p.leaves refl
    where
      row_only : due_for plan names (flown_as p None) ≡ [] → p.due ≡ []
      row_only e = nothing_behind (whole_group (group_to_build plan names p) (group_to_take p)) p.due e

      by : (due : List Change) → p.due ≡ due → (leaves : Option Owner) → p.leaves ≡ leaves → Both (settled_by names p due leaves) (settled_names_by names p due leaves)
      by [] none (Some o) leaves = both_left o none leaves
      by [] none None leaves = (on_stays, λ room' empty gives. ended room' (y.due ∙ empty) leaves gives)
      by (c ∷ cs) some None leaves = (on_stays, λ room' empty gives. some_of_due c cs (sym some ∙ row_only empty))
      by (c ∷ cs) some (Some o) leaves = (on_stays, λ room' empty gives. some_of_due c cs (sym some ∙ row_only empty))
