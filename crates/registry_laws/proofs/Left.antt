-- whether a key was the last user of what it leaves, and what becomes of names
use Rattle.std.proofs.Common.{◌≡◌, ◌⊎◌, ◌∷◌, ◌∙◌, inl, inr, ℕ, List, [], Option, None, Some, option_map, option_and_then, refl, sym, ap, subst}
use Rattle.std.proofs.lemmas.Option.{same_Some}
use Rattle.table_schema.specs.Plan.{IsPlan, Ports}
use Rattle.table_schema.specs.declared.key.Key.{Key}
use Rattle.sai_types.specs.Alike.{IsIn}
use Rattle.switch_model.specs.declared.wait.Wait.{Wait}
use Rattle.switch_model.specs.declared.wait.Wait.TheVariants as wait
use Rattle.row_layout.specs.Operations.{Change, shared_going, take_all}
use Rattle.row_layout.specs.Rows as owner
use Rattle.row_layout.specs.Rows.{Owner}
use Rattle.switch_machine.specs.Changes.{changed_name}
use Rattle.switch_machine.specs.Consistent.{IsConsistent}
use Rattle.switch_machine.specs.Flights.{MachineFlight, HasChangeOf, IsOwnedBy, IsShared, IsUser, Machine}
use Rattle.switch_machine.specs.Operations.{IsLast}
use Rattle.switch_machine.specs.Steps.{Leaves, LeavesOthers, left, parted}
use Rattle.switch_machine.proofs.Running.{one_owner, shared_row}
use Rattle.switch_machine.proofs.Splits.{IsPut, IsSplit, New, Old, key_split, owner_split, put_at, put_by, put_off}
use Rattle.ref_counts.specs.declared.name.Name.TheVariants as name
use Rattle.ref_counts.specs.declared.pin.Pin.{Pin}
use Rattle.ref_counts.specs.Registered.{Registered, first_of, begun_to_go, held_or, least_worker, pins_but, retire_refusal, users_but, without_user}
use Rattle.ref_counts.specs.Registry as registry
use Rattle.ref_counts.specs.Registry.{retire_refusal_at, registered_at, state_in}
use Rattle.ref_counts.specs.Room.{RoomState}
use Rattle.orch_flight.specs.Needing.{name_for}
use Rattle.orch_flight.specs.Starting.{gone_by, left_names, parted_by, retired_by}
use Rattle.registry_laws.specs.Known.{IsKnownRow, IsKnownShared}
use Rattle.registry_laws.specs.Registers.{Registers}
use Rattle.registry_laws.proofs.Finding.{found_at, found_off}
use Rattle.registry_laws.proofs.Listing.{but_in, first_listed_in, first_none, never_none, not_some}
use Rattle.registry_laws.proofs.Parting as parting
use Rattle.registry_laws.proofs.Users.{but_rising, but_users, users_kept}

-- ---- who is in the way of a retirement

none_first : {X : Type 0} (xs : List X) → ((x : X) → IsIn x xs → ⊥) → first_of xs ≡ None
none_first [] h = refl
none_first (x ∷ xs) h = absurd (h x (inl refl))

some_first : {X : Type 0} (xs : List X) (x : X) → IsIn x xs → (y : X) × (first_of xs ≡ Some y)
some_first [] x h = elim h [ ]
some_first (y ∷ ys) x h = (y, refl)

none_pins : (ps : List Pin) → ((p : Pin) → IsIn p ps → ⊥) → least_worker ps ≡ None
none_pins [] h = refl
none_pins (p ∷ ps) h = absurd (h p (inl refl))

held_none : (a : Option Key) (b : Option ℕ) → held_or a b ≡ None → a ≡ None
held_none None b h = refl
held_none (Some k) b h = never_none (wait.Held k) h

held_some : (a : Option Key) (b : Option ℕ) (answer : Wait) → b ≡ None → held_or a b ≡ Some answer → (k : Key) × (a ≡ Some k)
held_some (Some k) b answer none h = (k, refl)
held_some None None answer none h = not_some answer h
held_some None (Some v) answer none h = never_none v none

module _ (plan : Ports) (is : IsPlan plan) (m : Machine) (sound : IsConsistent plan m) (w : ℕ) (f : MachineFlight) (o : Owner) (leaving : Leaves m w f o) where
  abbrev Refusal : Option Registered → Option Wait
  Refusal x = option_and_then (retire_refusal w) (option_map (without_user f.key) x)

  no_pins : (r : Registered) → IsKnownShared plan m o (Some r) → least_worker (pins_but w r.pins) ≡ None
  no_pins r known = none_pins (pins_but w r.pins) (λ p h. known.pins p (but_in w p r.pins h))

  registered : (x : Option Registered) → IsKnownShared plan m o x → x ≡ None → ⊥
  registered None known e = (known.users f.key).1 (parting.its_user plan is m sound w f o leaving)
  registered (Some r) known e = never_none r e

  only_user : (x : Option Registered) → IsKnownShared plan m o x → Refusal x ≡ None → (q : Key) → IsUser plan m.board q o → q ≡ f.key
  only_user None known h q user = elim ((known.users q).1 user) [ ]
  only_user (Some r) known h q user = by (key_split f.key q)
    where
      by : IsSplit f.key q → q ≡ f.key
      by (inl same) = sym same
      by (inr apart) = absurd (first_none (users_but f.key r.users) q (held_none (first_of (users_but f.key r.users)) (least_worker (pins_but w r.pins)) h) (users_kept f.key q r.users apart ((known.users q).1 user)))

  other_user : (x : Option Registered) (answer : Wait) → IsKnownShared plan m o x → Refusal x ≡ Some answer → (q : Key) × (q ≡ f.key → ⊥) × IsUser plan m.board q o
  other_user None answer known h = not_some answer h
  other_user (Some r) answer known h =
      let x = held_some (first_of (users_but f.key r.users)) (least_worker (pins_but w r.pins)) answer (no_pins r known) h in
      let u = but_users f.key x.0 r.users (first_listed_in (users_but f.key r.users) x.0 x.1) in
      (x.0, λ e. u.1 (sym e), (known.users x.0).0 u.0)

  is_last : ((q : Key) → IsUser plan m.board q o → q ≡ f.key) → IsLast plan m w f o
  is_last only = record { leaving = leaving; last = only }

  abbrev gone_due : List Change
  gone_due = take_all (shared_going o) []

  abbrev gone_later : Machine
  gone_later = parting.later plan is m sound w f o leaving (Some o) gone_due

  abbrev left_later : Machine
  left_later = parting.later plan is m sound w f o leaving f.retires []

  about_gone : (p : Owner) → HasChangeOf plan gone_due p → p ≡ o
  about_gone p (c, h, of) = one_owner plan (changed_name c) p o of (parting.removals_of plan is o c h)

  about_left : (p : Owner) → HasChangeOf plan [] p → p ≡ o
  about_left p t = elim t.1 [ ]

  -- the last user leaves: it begins to go
  gone_known : (x : Option Registered) → IsKnownShared plan m o x → ((q : Key) → IsUser plan m.board q o → q ≡ f.key) → IsKnownShared plan gone_later o (option_map (begun_to_go w) (option_map (without_user f.key) x))
  gone_known None known only = absurd (registered None known refl)
  gone_known (Some r) known only = record {
    stands = (parted f (Some o), parting.here plan is m sound w f o leaving (Some o) gone_due, subst (λ d. HasChangeOf plan d o) (sym (put_at w w gone_due m.due refl)) (parting.some_removal plan is o (parting.shared plan is m sound w f o leaving)), refl);
    users = λ q. (λ h. absurd (nobody q h), λ h. let u = parting.user_was plan is m sound w f o leaving (Some o) gone_due q o h in absurd (u.1 (sym (only q u.0)) refl));
    pins = λ p h. h;
    rising = but_rising f.key r.users known.rising;
  }
    where
      nobody : (q : Key) → IsIn q (users_but f.key r.users) → ⊥
      nobody q h = let u = but_users f.key q r.users h in u.1 (sym (only q ((known.users q).0 u.0)))

  -- others use it: it stays
  left_known : (x : Option Registered) → IsKnownShared plan m o x → (q : Key) × (q ≡ f.key → ⊥) × IsUser plan m.board q o → IsKnownShared plan left_later o (option_map (without_user f.key) x)
  left_known None known other = absurd (registered None known refl)
  left_known (Some r) known other = record {
    stands = parting.shared_stands plan is m sound w f o leaving f.retires [] about_left o r.state (λ t. t.1) (λ e. (other.0, parting.user_now plan is m sound w f o leaving f.retires [] other.0 o (λ same _. other.1 (sym same)) other.2)) known.stands;
    users = λ q. (λ h. let u = but_users f.key q r.users h in parting.user_now plan is m sound w f o leaving f.retires [] q o (λ same _. u.1 same) ((known.users q).0 u.0), λ h. let u = parting.user_was plan is m sound w f o leaving f.retires [] q o h in users_kept f.key q r.users (λ same. u.1 same refl) ((known.users q).1 u.0));
    pins = known.pins;
    rising = but_rising f.key r.users known.rising;
  }

  module _ (workers : ℕ) (capacities : List ℕ) (names : registry.Names) (room : RoomState) (known : Registers plan workers capacities names room m) where
    abbrev without : registry.Names
    without = registry.changed names (name_for o) (without_user f.key)

    its : IsKnownShared plan m o (registered_at names (name_for o))
    its = known.names_known.shared o (parting.shared plan is m sound w f o leaving)

    refusal_is : retire_refusal_at without w (name_for o) ≡ Refusal (registered_at names (name_for o))
    refusal_is = ap (option_and_then (retire_refusal w)) (found_at names o (without_user f.key))

    not_row : (p : Key) → o ≡ owner.OfRow p → ⊥
    not_row p e = shared_row o p (parting.shared plan is m sound w f o leaving) e

    -- the registry stands for what is left, where it knows the name that was left
    module _ (retires : Option Owner) (due : List Change) (about : (p : Owner) → HasChangeOf plan due p → p ≡ o) (going_of : (p : Owner) (c : Change) → retires ≡ Some p → IsIn c due → IsOwnedBy plan (changed_name c) p) (names' : registry.Names) (same : (p : Owner) → (o ≡ p → ⊥) → registered_at names' (name_for p) ≡ registered_at names (name_for p)) where
      abbrev now : Machine
      now = left m w f retires due

      all_known : IsKnownShared plan now o (registered_at names' (name_for o)) → Registers plan workers capacities names' room now
      all_known it = record {
        names_known = record {
          rows = λ p. subst (IsKnownRow now p) (sym (same (owner.OfRow p) (not_row p))) (parting.row_known plan is m sound w f o leaving retires due p (registered_at names (name.Row p)) (known.names_known.rows p));
          shared = λ p h. by p h (owner_split o p);
        };
        room_known = record { capacities_are = known.room_known.capacities_are; places = known.room_known.places };
        few = known.few;
        below = λ v h at. let x = parting.was_of plan is m sound w f o leaving retires due v h at in known.below v x.0 x.1;
        retiring = λ v h p c at r i. of v h p c r i (put_by w v (Some (parted f retires)) m.board.flights (Some h) at);
      }
        where
          by : (p : Owner) → IsShared p → IsSplit o p → IsKnownShared plan now p (registered_at names' (name_for p))
          by p h (inl e) = subst (λ z. IsKnownShared plan now z (registered_at names' (name_for z))) e it
          by p h (inr apart) = subst (IsKnownShared plan now p) (sym (same p apart)) (parting.other_known plan is m sound w f o leaving retires due about p (registered_at names (name_for p)) apart (known.names_known.shared p h))

          of : (v : ℕ) (h : MachineFlight) (p : Owner) (c : Change) → h.retires ≡ Some p → IsIn c (now.due v) → IsPut w v (Some (parted f retires)) m.board.flights (Some h) → IsOwnedBy plan (changed_name c) p
          of v h p c r i (New e one) = going_of p c (ap (λ (z : MachineFlight). z.retires) (same_Some (parted f retires) h one) ∙ r) (subst (IsIn c) (put_at w v due m.due e) i)
          of v h p c r i (Old apart there) = known.retiring v h p c there r (subst (IsIn c) (put_off w v due m.due apart) i)

    abbrev pub Parts : Type 0
    Parts = ((retired_by names w f.key o ≡ Some o) × IsLast plan m w f o × Registers plan workers capacities (left_names names w f.key o) room (left m w f (Some o) (take_all (shared_going o) [])))
        ⊎ ((retired_by names w f.key o ≡ None) × LeavesOthers plan m w f o × Registers plan workers capacities (left_names names w f.key o) room (left m w f f.retires []))

    pub parts : Parts
    parts = by (retire_refusal_at without w (name_for o)) refl
      where
        by : (answer : Option Wait) → retire_refusal_at without w (name_for o) ≡ answer → Parts
        by None e =
            let only = only_user (registered_at names (name_for o)) its (sym refusal_is ∙ e) in
            let is_left : left_names names w f.key o ≡ registry.changed without (name_for o) (begun_to_go w) = ap (λ z. parted_by z without w o) e in
            let found : registered_at (registry.changed without (name_for o) (begun_to_go w)) (name_for o) ≡ option_map (begun_to_go w) (option_map (without_user f.key) (registered_at names (name_for o))) = found_at without o (begun_to_go w) ∙ ap (option_map (begun_to_go w)) (found_at names o (without_user f.key)) in
            inl (
              ap (λ z. gone_by z o) e,
              is_last only,
              subst (λ z. Registers plan workers capacities z room gone_later) (sym is_left) (all_known (Some o) gone_due about_gone (λ p c r i. subst (IsOwnedBy plan (changed_name c)) (same_Some o p r) (parting.removals_of plan is o c i)) (registry.changed without (name_for o) (begun_to_go w)) (λ p apart. found_off without o p (begun_to_go w) apart ∙ found_off names o p (without_user f.key) apart) (subst (IsKnownShared plan gone_later o) (sym found) (gone_known (registered_at names (name_for o)) its only))),
            )
        by (Some answer) e =
            let other = other_user (registered_at names (name_for o)) answer its (sym refusal_is ∙ e) in
            let is_left : left_names names w f.key o ≡ without = ap (λ z. parted_by z without w o) e in
            inr (
              ap (λ z. gone_by z o) e,
              record { leaving = leaving; other = other.0; apart = other.1; user = other.2 },
              subst (λ z. Registers plan workers capacities z room left_later) (sym is_left) (all_known f.retires [] about_left (λ p c r i. elim i [ ]) without (λ p apart. found_off names o p (without_user f.key) apart) (subst (IsKnownShared plan left_later o) (sym (found_at names o (without_user f.key))) (left_known (registered_at names (name_for o)) its other))),
            )
