-- the registry stands for the machine when an operation has ended
use Rattle.std.proofs.Common.{◌≡◌, ◌⊎◌, ◌<◌, ◌∙◌, inl, inr, ℕ, true, List, [], Option, None, Some, option_map, refl, sym, ap, subst}
use Rattle.std.specs.List.Sorted.{IsStrictlySortedBy}
use Rattle.std.proofs.lemmas.Option.{same_Some}
use Rattle.table_schema.specs.Fields.{HasRisingKeys}
use Rattle.table_schema.specs.Key.{key_cmp}
use Rattle.table_schema.specs.Plan.{Ports}
use Rattle.table_schema.specs.declared.key.Key.{Key}
use Rattle.sai_types.specs.declared.kind.Kind.{Kind}
use Rattle.sai_types.specs.Alike.{IsIn}
use Rattle.switch_model.specs.Placed.{Placed as Row}
use Rattle.row_layout.specs.Operations.{uses_of}
use Rattle.row_layout.specs.Rows as owner
use Rattle.row_layout.specs.Rows.{Owner}
use Rattle.switch_machine.specs.Consistent.{IsConsistent}
use Rattle.switch_machine.specs.Flights.{CountsAsUser, MachineFlight, HasChangeOf, IsFirm, IsResting, IsRow, IsShared, IsUser, Machine, goes_over, put}
use Rattle.switch_machine.specs.Places.{makes}
use Rattle.switch_machine.specs.Steps.{Ends, finished}
use Rattle.switch_machine.proofs.Running.{row_keys, shared_row}
use Rattle.switch_machine.proofs.Splits.{IsPut, IsSplit, New, Old, key_split, nat_split, put_at, put_by, put_off, row_at, row_off}
use Rattle.switch_machine.proofs.Placing.{names_in}
use Rattle.ref_counts.specs.declared.name.Name.TheVariants as name
use Rattle.ref_counts.specs.declared.name.NameState.{NameState}
use Rattle.ref_counts.specs.declared.name.NameState.TheVariants as state
use Rattle.ref_counts.specs.declared.pin.Pin.{Pin}
use Rattle.ref_counts.specs.Registered.{Registered, made_live, pins_but, pins_of, released, with_users}
use Rattle.ref_counts.specs.Registry as registry
use Rattle.ref_counts.specs.Registry.{registered_name_cmp, registered_at, state_in, state_of, users_at}
use Rattle.ref_counts.specs.Room.{GivesBack, RoomState, places_by}
use Rattle.ref_counts.proofs.Found.{found-released}
use Rattle.orch_flight.specs.Needing.{name_for, row_names}
use Rattle.registry_laws.specs.Ending.{ended_names, named_by, users_dropped, users_passed, with_own_ended, come_to_be}
use Rattle.registry_laws.specs.Known.{IsKnownRow, IsKnownShared, IsPinOf, NamesKey, RowStands, SharedStands, pins_at}
use Rattle.registry_laws.specs.Registers.{Registers}
use Rattle.registry_laws.proofs.Finding.{found_at, found_off, gone_at, gone_off}
use Rattle.registry_laws.proofs.Listing.{but_in, in_but, none_rising, not_some}
use Rattle.registry_laws.proofs.Passing.{IsDropped, no_pin_left, dropped_off, dropped_rising, dropped_row, of_pins, pins_its, released_rising, with_in, with_kept, with_new, with_rising}

-- what is known of a name's users and pins, however it stands
pub record HasUsers (m : Machine) (p : Key) (x : Option Registered) : Type 0 where
  pub users : (q : Key) → (IsIn q (users_at x) → NamesKey m.board.applied q p) × (NamesKey m.board.applied q p → IsIn q (users_at x))
  pub pins : (q : Pin) → (IsIn q (pins_at x) → IsPinOf m.board p q) × (IsPinOf m.board p q → IsIn q (pins_at x))
  pub rising : IsStrictlySortedBy key_cmp (users_at x)

released_users : (w : ℕ) (y : Option Registered) → users_at (option_map (released w true) y) ≡ with_users (pins_of w (pins_at y)) (users_at y)
released_users w None = refl
released_users w (Some r) = refl

released_pins : (w : ℕ) (y : Option Registered) → pins_at (option_map (released w true) y) ≡ pins_but w (pins_at y)
released_pins w None = refl
released_pins w (Some r) = refl

released_state : (w : ℕ) (y : Option Registered) → state_in (option_map (released w true) y) ≡ state_in y
released_state w None = refl
released_state w (Some r) = refl

pub own_ended_off : (names : registry.Names) (k : Key) (x : Option Row) (o : Owner) → (owner.OfRow k ≡ o → ⊥) → registered_at (with_own_ended names k x) (name_for o) ≡ registered_at names (name_for o)
own_ended_off names k None o apart = gone_off names (owner.OfRow k) o apart
own_ended_off names k (Some r) o apart = by (state_of names (name.Row k))
  where
    by : (st : NameState) → registered_at (come_to_be st names (name.Row k)) (name_for o) ≡ registered_at names (name_for o)
    by state.Absent = refl
    by (state.Building v) = found_off names (owner.OfRow k) o (made_live []) apart
    by state.Live = refl
    by (state.Retiring v) = found_off names (owner.OfRow k) o (made_live []) apart

module _ (plan : Ports) (m : Machine) (sound : IsConsistent plan m) (w : ℕ) (f : MachineFlight) (ends : Ends m w f) where
  abbrev pub later : Machine
  later = finished m w f

  was_of : (v : ℕ) (h : MachineFlight) → later.board.flights v ≡ Some h → (v ≡ w → ⊥) × (m.board.flights v ≡ Some h)
  was_of v h at = of (put_by w v None m.board.flights (Some h) at)
    where
      of : IsPut w v None m.board.flights (Some h) → (v ≡ w → ⊥) × (m.board.flights v ≡ Some h)
      of (New same e) = not_some h e
      of (Old apart there) = (apart, there)

  still : (v : ℕ) (h : MachineFlight) → (v ≡ w → ⊥) → m.board.flights v ≡ Some h → later.board.flights v ≡ Some h
  still v h apart at = put_off w v None m.board.flights apart ∙ at

  -- the worker's flight is this one
  its : (v : ℕ) (h : MachineFlight) → m.board.flights v ≡ Some h → v ≡ w → f ≡ h
  its v h at same = same_Some f h (sym ends.flying ∙ ap m.board.flights (sym same) ∙ at)

  -- another key's operation is another worker's
  apart_of : (p : Key) (v : ℕ) (h : MachineFlight) → (f.key ≡ p → ⊥) → m.board.flights v ≡ Some h → h.key ≡ p → v ≡ w → ⊥
  apart_of p v h other at same e = other (ap (λ (z : MachineFlight). z.key) (its v h at e) ∙ same)

  applied_off : (q : Key) → (f.key ≡ q → ⊥) → later.board.applied q ≡ m.board.applied q
  applied_off q other = row_off f.key q f.new m.board.applied other

  applied_at : (q : Key) → f.key ≡ q → later.board.applied q ≡ f.new
  applied_at q same = row_at f.key q f.new m.board.applied same

  rest_here : IsResting later.board f.key
  rest_here v h at same = let x = was_of v h at in x.0 (sound.board.one v w h f x.1 ends.flying same)

  rest_now : (q : Key) → IsResting m.board q → IsResting later.board q
  rest_now q rests v h at same = rests v h (was_of v h at).1 same

  rest_was : (q : Key) → (f.key ≡ q → ⊥) → IsResting later.board q → IsResting m.board q
  rest_was q other rests v h at same = rests v h (still v h (apart_of q v h other at same) at) same

  -- ---- who uses what is shared

  user_was : (q : Key) (p : Owner) → IsUser plan later.board q p → IsUser plan m.board q p
  user_was q p (inl (v, h, at, same, counts)) = inl (v, h, (was_of v h at).1, same, counts)
  user_was q p (inr (rests, i)) = by (key_split f.key q)
    where
      by : IsSplit f.key q → IsUser plan m.board q p
      by (inl same) = inl (w, f, ends.flying, same, inl (subst (λ z. IsIn p (uses_of plan z f.new)) (sym same) (subst (λ z. IsIn p (uses_of plan q z)) (applied_at q same) i)))
      by (inr apart) = inr (rest_was q apart rests, subst (λ z. IsIn p (uses_of plan q z)) (applied_off q apart) i)

  user_now : (q : Key) (p : Owner) → IsUser plan m.board q p → IsUser plan later.board q p
  user_now q p (inr (rests, i)) = inr (rest_now q rests, subst (λ z. IsIn p (uses_of plan q z)) (sym (applied_off q (λ same. rests w f ends.flying same))) i)
  user_now q p (inl (v, h, at, same, counts)) = by (nat_split v w)
    where
      mine : f ≡ h → CountsAsUser plan h p → IsUser plan later.board q p
      mine one (inl i) =
          let key = ap (λ (z : MachineFlight). z.key) one ∙ same in
          let i' : IsIn p (uses_of plan f.key f.new) = subst (λ z. IsIn p (uses_of plan z.key z.new)) (sym one) i in
          inr (subst (λ z. IsResting later.board z) key rest_here, subst (λ z. IsIn p (uses_of plan q z)) (sym (applied_at q key)) (subst (λ z. IsIn p (uses_of plan z f.new)) key i'))
      mine one (inr e) = not_some p (sym ends.left ∙ ap (λ (z : MachineFlight). z.leaves) one ∙ e)

      by : IsSplit v w → IsUser plan later.board q p
      by (inl e) = mine (its v h at e) counts
      by (inr apart) = inl (v, h, still v h apart at, same, counts)

  -- ---- what is shared stands as it did

  none_due : (p : Owner) (v : ℕ) → HasChangeOf plan (m.due v) p → v ≡ w → ⊥
  none_due p v t e = (subst (λ d. HasChangeOf plan d p) (ap m.due e ∙ ends.done) t).1

  shared_stands : (p : Owner) (st : NameState) → SharedStands plan m p st → SharedStands plan later p st
  shared_stands p state.Absent (none, untouched) = (λ k h. none k (user_was k p h), λ v h at t. untouched v h (was_of v h at).1 t)
  shared_stands p (state.Building v) (h, at, t, other) = (h, still v h (none_due p v t) at, t, other)
  shared_stands p state.Live ((k, user), untouched) = ((k, user_now k p user), λ v h at t. untouched v h (was_of v h at).1 t)
  shared_stands p (state.Retiring v) (h, at, t, r) = (h, still v h (none_due p v t) at, t, r)

  shared_known : (p : Owner) (x : Option Registered) → IsKnownShared plan m p x → IsKnownShared plan later p (option_map (released w true) x)
  shared_known p None known = record {
    stands = shared_stands p state.Absent known.stands;
    users = λ q. (λ h. elim h [ ], λ h. (known.users q).1 (user_was q p h));
    pins = λ q h. h;
    rising = known.rising;
  }
  shared_known p (Some r) known = record {
    stands = shared_stands p r.state known.stands;
    users = λ q. (λ h. user_now q p ((known.users q).0 (old q (with_in q (pins_of w r.pins) r.users h))), λ h. with_kept q (pins_of w r.pins) r.users ((known.users q).1 (user_was q p h)));
    pins = λ q h. known.pins q (but_in w q r.pins h);
    rising = with_rising (pins_of w r.pins) r.users known.rising;
  }
    where
      old : (q : Key) → IsIn q r.users ⊎ ((x : Pin) × IsIn x (pins_of w r.pins) × (q ≡ x.user)) → IsIn q r.users
      old q (inl h) = h
      old q (inr (x, i, e)) = absurd (known.pins x (of_pins w x r.pins i).0)

  -- ---- the users and pins of rows

  module _ (p : Key) (x y : Option Registered) (known : IsKnownRow m p x) (dropped : IsDropped f.key (IsIn p (named_by f.key (m.board.applied f.key))) x y) where
    was_named : (q : Key) → IsSplit f.key q → NamesKey m.board.applied q p → (f.key ≡ q → IsIn p (named_by f.key (m.board.applied f.key)) → ⊥) → NamesKey later.board.applied q p
    was_named q (inl same) (r, at, i) none = absurd (none same (subst (λ z. IsIn p (named_by f.key z)) (sym (ap m.board.applied same ∙ at)) (subst (λ z. IsIn p (row_names z r)) (sym same) i)))
    was_named q (inr apart) (r, at, i) none = (r, applied_off q apart ∙ at, i)

    by_pin : (q : Key) (v : Pin) → v.worker ≡ w → q ≡ v.user → IsPinOf m.board p v → NamesKey later.board.applied q p
    by_pin q v same user (g, at, key, (r, new, i)) =
        let one = its v.worker g at same in
        let is : f.key ≡ q = ap (λ (z : MachineFlight). z.key) one ∙ key ∙ sym user in
        (r, applied_at q is ∙ ap (λ (z : MachineFlight). z.new) one ∙ new, subst (λ z. IsIn p (row_names z r)) (key ∙ sym user) i)

    into : (q : Key) → IsIn q (users_at y) ⊎ ((v : Pin) × IsIn v (pins_of w (pins_at y)) × (q ≡ v.user)) → NamesKey later.board.applied q p
    into q (inl h) = let d = dropped.into q h in was_named q (key_split f.key q) ((known.users q).0 d.0) d.1
    into q (inr (v, i, e)) = let o = of_pins w v (pins_at y) i in by_pin q v o.1 e ((known.pins v).0 (subst (IsIn v) dropped.pins o.0))

    back : (q : Key) → IsSplit f.key q → NamesKey later.board.applied q p → IsIn q (with_users (pins_of w (pins_at y)) (users_at y))
    back q (inl same) (r, at, i) =
        let pin : Pin = record { worker = w; user = f.key } in
        let there : IsIn pin (pins_at x) = (known.pins pin).1 (f, ends.flying, refl, (r, sym (applied_at q same) ∙ at, subst (λ z. IsIn p (row_names z r)) (sym same) i)) in
        subst (λ z. IsIn z (with_users (pins_of w (pins_at y)) (users_at y))) same (with_new pin (pins_of w (pins_at y)) (users_at y) (pins_its w pin (pins_at y) refl (subst (IsIn pin) (sym dropped.pins) there)))
    back q (inr apart) (r, at, i) = with_kept q (pins_of w (pins_at y)) (users_at y) (dropped.kept q (λ e _. apart e) ((known.users q).1 (r, sym (applied_off q apart) ∙ at, i)))

    pub has_users : HasUsers later p (option_map (released w true) y)
    has_users = record {
      users = λ q. (λ h. into q (with_in q (pins_of w (pins_at y)) (users_at y) (subst (IsIn q) (released_users w y) h)), λ h. subst (IsIn q) (sym (released_users w y)) (back q (key_split f.key q) h));
      pins = λ q. (λ h. pin_now q (subst (IsIn q) (released_pins w y) h), λ h. subst (IsIn q) (sym (released_pins w y)) (pin_was q h));
      rising = subst (IsStrictlySortedBy key_cmp) (sym (released_users w y)) (with_rising (pins_of w (pins_at y)) (users_at y) (dropped.rising known.rising));
    }
      where
        pin_now : (q : Pin) → IsIn q (pins_but w (pins_at y)) → IsPinOf later.board p q
        pin_now q h = let g = (known.pins q).0 (subst (IsIn q) dropped.pins (but_in w q (pins_at y) h)) in (g.0, still q.worker g.0 (no_pin_left w q (pins_at y) h) g.1, g.2, g.3)

        pin_was : (q : Pin) → IsPinOf later.board p q → IsIn q (pins_but w (pins_at y))
        pin_was q (g, at, key, brings) = let b = was_of q.worker g at in in_but w q (pins_at y) b.0 (subst (IsIn q) (sym dropped.pins) ((known.pins q).1 (g, b.1, key, brings)))

  -- ---- how rows stand

  other_stands : (p : Key) (st : NameState) → (f.key ≡ p → ⊥) → RowStands m p st → RowStands later p st
  other_stands p state.Absent other (rests, none) = (rest_now p rests, applied_off p other ∙ none)
  other_stands p (state.Building v) other ((h, at, same), none) = ((h, still v h (apart_of p v h other at same) at, same), applied_off p other ∙ none)
  other_stands p state.Live other (inl firm) = inl (record { row = firm.row; applied = applied_off p other ∙ firm.applied; stays = λ v h at same none. firm.stays v h (was_of v h at).1 same none })
  other_stands p state.Live other (inr made) = inr (record { worker = made.worker; flight = made.flight; flying = still made.worker made.flight (apart_of p made.worker made.flight other made.flying made.key) made.flying; key = made.key; row = made.row; new = made.new; done = made.done })
  other_stands p (state.Retiring v) other x = record { flight = x.flight; flying = still v x.flight (apart_of p v x.flight other x.flying x.key) x.flying; key = x.key; goes = x.goes; row = x.row; applied = applied_off p other ∙ x.applied }

  own_live : (r : Row) → f.new ≡ Some r → RowStands later f.key state.Live
  own_live r new = inl (record { row = r; applied = applied_at f.key refl ∙ new; stays = λ v h at same none. rest_here v h at same })

  -- where there is no new row its applied one goes
  row_goes : f.new ≡ None → f.goes ≡ true
  row_goes none = sound.board.goes w f ends.flying ∙ ap (goes_over f.key (m.board.applied f.key)) none

  own_going : (st : NameState) → f.new ≡ None → (m.board.applied f.key ≡ None → ⊥) → RowStands m f.key st → st ≡ state.Retiring w
  own_going state.Absent none some (rests, _) = absurd (rests w f ends.flying refl)
  own_going (state.Building v) none some (flown, e) = absurd (some e)
  own_going state.Live none some (inl firm) = absurd (firm.stays w f ends.flying refl (row_goes none))
  own_going state.Live none some (inr made) = not_some made.row (sym none ∙ ap (λ (z : MachineFlight). z.new) (its made.worker made.flight made.flying (sound.board.one made.worker w made.flight f made.flying ends.flying made.key)) ∙ made.new)
  own_going (state.Retiring v) none some x = ap state.Retiring (sound.board.one v w x.flight f x.flying ends.flying x.key)

  module _ (workers : ℕ) (capacities : List ℕ) (names : registry.Names) (room room' : RoomState) (known : Registers plan workers capacities names room m) (rising : HasRisingKeys registered_name_cmp names) (gives : GivesBack room w room') (some : m.board.applied f.key ≡ None → f.new ≡ None → ⊥) where
    abbrev old : Option Row
    old = m.board.applied f.key

    abbrev dropped_names : registry.Names
    dropped_names = users_dropped names f.key (named_by f.key old)

    abbrev passed : registry.Names
    passed = users_passed names w f.key old

    abbrev pub ended : registry.Names
    ended = ended_names names w f.key old f.new

    passed_at : (p : Key) → registered_at passed (name.Row p) ≡ option_map (released w true) (registered_at dropped_names (name.Row p))
    passed_at p = found-released dropped_names w true (name.Row p)

    users_at_row : (p : Key) → HasUsers later p (registered_at passed (name.Row p))
    users_at_row p = subst (HasUsers later p) (sym (passed_at p)) (has_users p (registered_at names (name.Row p)) (registered_at dropped_names (name.Row p)) (known.names_known.rows p) (dropped_row f.key names (named_by f.key old) p))

    state_at : (p : Key) → state_of passed (name.Row p) ≡ state_of names (name.Row p)
    state_at p = ap state_in (passed_at p) ∙ released_state w (registered_at dropped_names (name.Row p)) ∙ (dropped_row f.key names (named_by f.key old) p).state

    with_stands : (p : Key) (x : Option Registered) → HasUsers later p x → RowStands later p (state_in x) → IsKnownRow later p x
    with_stands p x h stands = record { stands = stands; users = h.users; pins = h.pins; rising = h.rising }

    other_row : (p : Key) → (f.key ≡ p → ⊥) → IsKnownRow later p (registered_at ended (name.Row p))
    other_row p other = subst (IsKnownRow later p) (sym (own_ended_off passed f.key f.new (owner.OfRow p) (λ e. other (row_keys f.key p e)))) (with_stands p (registered_at passed (name.Row p)) (users_at_row p) (subst (RowStands later p) (sym (state_at p)) (other_stands p (state_of names (name.Row p)) other (known.names_known.rows p).stands)))

    live_again : (x : Option Registered) → HasUsers later f.key x → (r : Row) → f.new ≡ Some r → (state_in x ≡ state.Absent → ⊥) → IsKnownRow later f.key (option_map (made_live []) x)
    live_again None h r new apart = absurd (apart refl)
    live_again (Some y) h r new apart = record { stands = own_live r new; users = h.users; pins = h.pins; rising = h.rising }

    own_row : (n : Option Row) → f.new ≡ n → IsKnownRow later f.key (registered_at (with_own_ended passed f.key n) (name.Row f.key))
    own_row None new =
        let going = own_going (state_of names (name.Row f.key)) new (λ e. some e new) (known.names_known.rows f.key).stands in
        subst (IsKnownRow later f.key) (sym (gone_at passed (owner.OfRow f.key) w (released_rising w dropped_names (dropped_rising f.key names (named_by f.key old) rising)) (state_at f.key ∙ going))) (record {
          stands = (rest_here, applied_at f.key refl ∙ new);
          users = λ q. (λ h. elim h [ ], λ h. nobody q (key_split f.key q) h);
          pins = λ q. (λ h. elim h [ ], λ h. let g = was_of q.worker h.0 h.1 in let brings = h.3 in (firm_of h.0.key brings.0 (inr (q.worker, h.0, g.1, refl, brings.1)) brings.2).stays w f ends.flying refl (row_goes new));
          rising = none_rising;
        })
      where
        firm_of : (q : Key) (r : Row) → IsRow m.board q r → IsIn f.key (row_names q r) → IsFirm m.board f.key
        firm_of q r row i = sound.board.named q f.key r row (names_in q r f.key i)

        nobody : (q : Key) → IsSplit f.key q → NamesKey later.board.applied q f.key → ⊥
        nobody q (inl same) (r, at, i) = not_some r (sym (applied_at q same ∙ new) ∙ at)
        nobody q (inr apart) (r, at, i) = (firm_of q r (inl (sym (applied_off q apart) ∙ at)) i).stays w f ends.flying refl (row_goes new)
    own_row (Some r) new = by (state_of passed (name.Row f.key)) refl (subst (RowStands m f.key) (sym (state_at f.key)) (known.names_known.rows f.key).stands)
      where
        by : (st : NameState) → state_of passed (name.Row f.key) ≡ st → RowStands m f.key (state_of passed (name.Row f.key)) → IsKnownRow later f.key (registered_at (come_to_be (state_of passed (name.Row f.key)) passed (name.Row f.key)) (name.Row f.key))
        by state.Absent e stands = absurd ((subst (RowStands m f.key) e stands).0 w f ends.flying refl)
        by (state.Building v) e stands = subst (IsKnownRow later f.key) (sym (ap (λ st. registered_at (come_to_be st passed (name.Row f.key)) (name.Row f.key)) e ∙ found_at passed (owner.OfRow f.key) (made_live []))) (live_again (registered_at passed (name.Row f.key)) (users_at_row f.key) r new (λ a. absent_not (sym e ∙ a)))
          where
            absent_not : state.Building v ≡ state.Absent → ⊥
            absent_not h = cc
        by state.Live e stands = subst (IsKnownRow later f.key) (sym (ap (λ st. registered_at (come_to_be st passed (name.Row f.key)) (name.Row f.key)) e)) (with_stands f.key (registered_at passed (name.Row f.key)) (users_at_row f.key) (subst (RowStands later f.key) (sym e) (own_live r new)))
        by (state.Retiring v) e stands =
            subst (IsKnownRow later f.key) (sym (ap (λ st. registered_at (come_to_be st passed (name.Row f.key)) (name.Row f.key)) e ∙ found_at passed (owner.OfRow f.key) (made_live []))) (live_again (registered_at passed (name.Row f.key)) (users_at_row f.key) r new (λ a. absent_not (sym e ∙ a)))
          where
            absent_not : state.Retiring v ≡ state.Absent → ⊥
            absent_not h = cc

    row_known : (p : Key) → IsSplit f.key p → IsKnownRow later p (registered_at ended (name.Row p))
    row_known p (inl same) = subst (λ z. IsKnownRow later z (registered_at ended (name.Row z))) same (own_row f.new refl)
    row_known p (inr apart) = other_row p apart

    shared_names : (o : Owner) → IsShared o → registered_at ended (name_for o) ≡ option_map (released w true) (registered_at names (name_for o))
    shared_names o h =
        own_ended_off passed f.key f.new o (λ e. shared_row o f.key h (sym e))
        ∙ found-released dropped_names w true (name_for o)
        ∙ ap (option_map (released w true)) (dropped_off f.key names (named_by f.key old) o (λ q e. shared_row o q h (sym e)))

    places : (v : ℕ) (kind : Kind) → v < 4 → IsSplit v w → places_by room'.reserved v kind ≡ makes kind (put w [] m.reserved v)
    places v kind less (inl same) = ap (λ z. places_by room'.reserved z kind) same ∙ gives.none kind ∙ sym (ap (makes kind) (put_at w v [] m.reserved same))
    places v kind less (inr apart) = gives.others v kind apart ∙ known.room_known.places v kind less ∙ sym (ap (makes kind) (put_off w v [] m.reserved apart))

    pub registers_ended : Registers plan workers capacities ended room' later
    registers_ended = record {
      names_known = record {
        rows = λ p. row_known p (key_split f.key p);
        shared = λ o h. subst (IsKnownShared plan later o) (sym (shared_names o h)) (shared_known o (registered_at names (name_for o)) (known.names_known.shared o h));
      };
      room_known = record { capacities_are = gives.capacities ∙ known.room_known.capacities_are; places = λ v kind less. places v kind less (nat_split v w) };
      few = known.few;
      below = λ v h at. known.below v h (was_of v h at).1;
      retiring = λ v h o c at r i. known.retiring v h o c (was_of v h at).1 r i;
    }
