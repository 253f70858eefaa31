-- the registry stands for the machine when a key has left what it shared
use Rattle.std.proofs.Common.{◌≡◌, ◌∷◌, ◌∙◌, inl, inr, ℕ, true, List, [], Option, Some, refl, sym, ap, subst, None, ◌⊎◌}
use Rattle.std.proofs.lemmas.Option.{same_Some}
use Rattle.table_schema.specs.Plan.{IsPlan, Ports}
use Rattle.table_schema.specs.declared.key.Key.{Key}
use Rattle.sai_types.specs.declared.thing.Thing.{Thing}
use Rattle.sai_types.specs.Alike.{IsIn}
use Rattle.sai_types.specs.Names.{name_of}
use Rattle.row_layout.specs.Operations.{Change, Take, shared_going, take_all, uses_of}
use Rattle.row_layout.specs.Rows.{Owner}
use Rattle.row_layout.specs.Shared.{uses}
use Rattle.switch_machine.specs.Changes.{changed_name}
use Rattle.switch_machine.specs.Consistent.{IsConsistent, WasUsed}
use Rattle.switch_machine.specs.Flights.{CountsAsUser, MachineFlight, HasChangeOf, IsFirm, IsOwnedBy, IsResting, IsShared, IsUser, Machine}
use Rattle.switch_machine.specs.Steps.{Leaves, left, parted}
use Rattle.switch_machine.proofs.Ordered.{ordered}
use Rattle.switch_machine.proofs.Splits.{IsPut, IsSplit, New, Old, nat_split, put_at, put_by, put_off}
use Rattle.switch_machine.proofs.Tabled.{are_shared_by, tabled}
use Rattle.switch_machine.proofs.Freeing.{first_shared}
use Rattle.switch_machine.proofs.Beginning.{take_in}
use Rattle.ref_counts.specs.declared.name.NameState.{NameState}
use Rattle.ref_counts.specs.declared.name.NameState.TheVariants as state
use Rattle.ref_counts.specs.declared.pin.Pin.{Pin}
use Rattle.ref_counts.specs.Registered.{Registered}
use Rattle.ref_counts.specs.Registry.{state_in}
use Rattle.orch_flight.specs.Needing.{row_names}
use Rattle.registry_laws.specs.Known.{IsAllMade, IsKnownRow, IsKnownShared, IsPinOf, RowStands, SharedStands}
use Rattle.registry_laws.proofs.Listing.{not_some}
use Rattle.registry_laws.proofs.Going.{GoesOver, going_how}

in_taken : (ts : List Thing) (t : Thing) → IsIn t ts → IsIn (Take (name_of t)) (take_all ts [])
in_taken [] t h = elim h [ ]
in_taken (x ∷ ts) t (inl e) = inl (ap (λ z. Take (name_of z)) e)
in_taken (x ∷ ts) t (inr h) = inr (in_taken ts t h)

module _ (plan : Ports) (is : IsPlan plan) where
  -- the removals of what is shared are of it, and there is one
  pub removals_of : (o : Owner) (c : Change) → IsIn c (take_all (shared_going o) []) → IsOwnedBy plan (changed_name c) o
  removals_of o c h =
      let x = take_in (shared_going o) c h in
      subst (λ z. IsOwnedBy plan (changed_name z) o) (sym x.2) ((tabled plan is).shared o x.0 (((ordered plan is).shared_going_same o).into x.0 x.1))

  pub some_removal : (o : Owner) → IsShared o → HasChangeOf plan (take_all (shared_going o) []) o
  some_removal o shared =
      let x = first_shared o shared in
      (Take (name_of x.0), in_taken (shared_going o) x.0 (((ordered plan is).shared_going_same o).back x.0 x.1), (tabled plan is).shared o x.0 x.1)

module _ (plan : Ports) (is : IsPlan plan) (m : Machine) (sound : IsConsistent plan m) (w : ℕ) (f : MachineFlight) (o : Owner) (leaving : Leaves m w f o) where
  pub shared : IsShared o
  shared = let was = (sound.board.leaves w f o leaving.flying leaving.leaves).0 in are_shared_by plan is f.key was.row o was.used

  not_new : IsIn o (uses_of plan f.key f.new) → ⊥
  not_new = (sound.board.leaves w f o leaving.flying leaving.leaves).1

  pub its_user : IsUser plan m.board f.key o
  its_user = inl (w, f, leaving.flying, refl, inr leaving.leaves)

  -- nothing is due for the worker
  none_due : (p : Owner) → HasChangeOf plan (m.due w) p → ⊥
  none_due p t = (subst (λ d. HasChangeOf plan d p) leaving.done t).1

  module _ (retires : Option Owner) (due : List Change) where
    abbrev pub later : Machine
    later = left m w f retires due

    abbrev pub g : MachineFlight
    g = parted f retires

    by : (v : ℕ) (h : MachineFlight) → later.board.flights v ≡ Some h → IsPut w v (Some g) m.board.flights (Some h)
    by v h at = put_by w v (Some g) m.board.flights (Some h) at

    pub here : later.board.flights w ≡ Some g
    here = put_at w w (Some g) m.board.flights refl

    old_at : (v : ℕ) (h : MachineFlight) → (v ≡ w → ⊥) → m.board.flights v ≡ Some h → later.board.flights v ≡ Some h
    old_at v h apart at = put_off w v (Some g) m.board.flights apart ∙ at

    due_new : later.due w ≡ due
    due_new = put_at w w due m.due refl

    due_old : (v : ℕ) → (v ≡ w → ⊥) → later.due v ≡ m.due v
    due_old v apart = put_off w v due m.due apart

    -- the operation with the same key and row
    pub now_of : (v : ℕ) (h : MachineFlight) → m.board.flights v ≡ Some h → (x : MachineFlight) × (later.board.flights v ≡ Some x) × (x.key ≡ h.key) × (x.new ≡ h.new) × (x.goes ≡ h.goes)
    now_of v h at = of (nat_split v w)
      where
        of : IsSplit v w → (x : MachineFlight) × (later.board.flights v ≡ Some x) × (x.key ≡ h.key) × (x.new ≡ h.new) × (x.goes ≡ h.goes)
        of (inl same) = let one = same_Some f h (sym leaving.flying ∙ ap m.board.flights (sym same) ∙ at) in (g, put_at w v (Some g) m.board.flights same, ap (λ (z : MachineFlight). z.key) one, ap (λ (z : MachineFlight). z.new) one, ap (λ (z : MachineFlight). z.goes) one)
        of (inr apart) = (h, old_at v h apart at, refl, refl, refl)

    pub was_of : (v : ℕ) (h : MachineFlight) → later.board.flights v ≡ Some h → (x : MachineFlight) × (m.board.flights v ≡ Some x) × (x.key ≡ h.key) × (x.new ≡ h.new) × (x.goes ≡ h.goes)
    was_of v h at = of (by v h at)
      where
        of : IsPut w v (Some g) m.board.flights (Some h) → (x : MachineFlight) × (m.board.flights v ≡ Some x) × (x.key ≡ h.key) × (x.new ≡ h.new) × (x.goes ≡ h.goes)
        of (New same e) = let one = same_Some g h e in (f, ap m.board.flights same ∙ leaving.flying, ap (λ (z : MachineFlight). z.key) one, ap (λ (z : MachineFlight). z.new) one, ap (λ (z : MachineFlight). z.goes) one)
        of (Old apart there) = (h, there, refl, refl, refl)

    -- ---- rows

    resting_now : (p : Key) → IsResting m.board p → IsResting later.board p
    resting_now p rests v h at same = let x = was_of v h at in rests v x.0 x.1 (x.2 ∙ same)

    resting_was : (p : Key) → IsResting later.board p → IsResting m.board p
    resting_was p rests v h at same = let x = now_of v h at in rests v x.0 x.1 (x.2 ∙ same)

    firm_now : (p : Key) → IsFirm m.board p → IsFirm later.board p
    firm_now p firm = record { row = firm.row; applied = firm.applied; stays = λ v h at same none. let x = was_of v h at in firm.stays v x.0 x.1 (x.2 ∙ same) (x.4 ∙ none) }

    made_now : (p : Key) (made : IsAllMade m p) → IsSplit made.worker w → RowStands later p state.Live
    made_now p made (inr apart) = inr (record { worker = made.worker; flight = made.flight; flying = old_at made.worker made.flight apart made.flying; key = made.key; row = made.row; new = made.new; done = due_old made.worker apart ∙ made.done })
    made_now p made (inl same) = inl (record { row = was.row; applied = subst (λ z. m.board.applied z ≡ Some was.row) key was.was; stays = stays })
      where
        was : WasUsed plan m.board.applied f.key o
        was = (sound.board.leaves w f o leaving.flying leaving.leaves).0

        one : f ≡ made.flight
        one = same_Some f made.flight (sym leaving.flying ∙ ap m.board.flights (sym same) ∙ made.flying)

        key : f.key ≡ p
        key = ap (λ (z : MachineFlight). z.key) one ∙ made.key

        stays : (v : ℕ) (h : MachineFlight) → later.board.flights v ≡ Some h → h.key ≡ p → h.goes ≡ true → ⊥
        stays v h at e goes =
            let x = was_of v h at in
            let worker = sound.board.one v w x.0 f x.1 leaving.flying (x.2 ∙ e ∙ sym key) in
            let that = same_Some f x.0 (sym leaving.flying ∙ ap m.board.flights (sym worker) ∙ x.1) in
            by (going_how f.key (m.board.applied f.key) f.new (sym (sound.board.goes w f leaving.flying) ∙ ap (λ (z : MachineFlight). z.goes) that ∙ x.4 ∙ goes))
          where
            -- an interface shares nothing
            by : (f.new ≡ None) ⊎ GoesOver f.key (m.board.applied f.key) f.new → ⊥
            by (inl none) = not_some made.row (sym none ∙ ap (λ (z : MachineFlight). z.new) one ∙ made.new)
            by (inr over) = elim (subst (λ k. IsIn o (uses plan k was.row)) over.key_is was.used) [ ]

    row_stands : (p : Key) (st : NameState) → RowStands m p st → RowStands later p st
    row_stands p state.Absent (rests, none) = (resting_now p rests, none)
    row_stands p (state.Building v) ((h, at, same), none) = let x = now_of v h at in ((x.0, x.1, x.2 ∙ same), none)
    row_stands p state.Live (inl firm) = inl (firm_now p firm)
    row_stands p state.Live (inr made) = made_now p made (nat_split made.worker w)
    row_stands p (state.Retiring v) y = let x = now_of v y.flight y.flying in record { flight = x.0; flying = x.1; key = x.2 ∙ y.key; goes = x.4 ∙ y.goes; row = y.row; applied = y.applied }

    pin_now : (p : Key) (q : Pin) → IsPinOf m.board p q → IsPinOf later.board p q
    pin_now p q (h, at, same, (r, new, i)) = let x = now_of q.worker h at in (x.0, x.1, x.2 ∙ same, (r, x.3 ∙ new, subst (λ z. IsIn p (row_names z r)) (sym x.2) i))

    pin_was : (p : Key) (q : Pin) → IsPinOf later.board p q → IsPinOf m.board p q
    pin_was p q (h, at, same, (r, new, i)) = let x = was_of q.worker h at in (x.0, x.1, x.2 ∙ same, (r, x.3 ∙ new, subst (λ z. IsIn p (row_names z r)) (sym x.2) i))

    pub row_known : (p : Key) (x : Option Registered) → IsKnownRow m p x → IsKnownRow later p x
    row_known p x known = record {
      stands = row_stands p (state_in x) known.stands;
      users = known.users;
      pins = λ q. (λ h. pin_now p q ((known.pins q).0 h), λ h. (known.pins q).1 (pin_was p q h));
      rising = known.rising;
    }

    -- ---- what is shared

    pub user_was : (q : Key) (p : Owner) → IsUser plan later.board q p → IsUser plan m.board q p × (f.key ≡ q → p ≡ o → ⊥)
    user_was q p (inr (rests, h)) = (inr (resting_was q rests, h), λ same _. rests w g here same)
    user_was q p (inl (v, h, at, same, counts)) = of (by v h at)
      where
        mine : CountsAsUser plan g p → f.key ≡ q → IsUser plan m.board q p × (f.key ≡ q → p ≡ o → ⊥)
        mine (inl i) key = (inl (w, f, leaving.flying, key, inl i), λ _ e. not_new (subst (λ z. IsIn z (uses_of plan f.key f.new)) e i))
        mine (inr e) key = not_some p e

        of : IsPut w v (Some g) m.board.flights (Some h) → IsUser plan m.board q p × (f.key ≡ q → p ≡ o → ⊥)
        of (New e one) = let x = same_Some g h one in mine (subst (λ z. CountsAsUser plan z p) (sym x) counts) (ap (λ (z : MachineFlight). z.key) x ∙ same)
        of (Old apart there) = (inl (v, h, there, same, counts), λ key _. apart (sound.board.one v w h f there leaving.flying (same ∙ sym key)))

    pub user_now : (q : Key) (p : Owner) → (f.key ≡ q → p ≡ o → ⊥) → IsUser plan m.board q p → IsUser plan later.board q p
    user_now q p other (inr (rests, h)) = inr (resting_now q rests, h)
    user_now q p other (inl (v, h, at, same, counts)) = of (nat_split v w)
      where
        mine : (x : MachineFlight) → f ≡ x → x.key ≡ q → CountsAsUser plan x p → IsUser plan later.board q p
        mine x one key (inl i) = inl (w, g, here, ap (λ (z : MachineFlight). z.key) one ∙ key, inl (subst (λ z. IsIn p (uses_of plan z.key z.new)) (sym one) i))
        mine x one key (inr e) = absurd (other (ap (λ (z : MachineFlight). z.key) one ∙ key) (sym (same_Some o p (sym leaving.leaves ∙ ap (λ (z : MachineFlight). z.leaves) one ∙ e))))

        of : IsSplit v w → IsUser plan later.board q p
        of (inl e) = mine h (same_Some f h (sym leaving.flying ∙ ap m.board.flights (sym e) ∙ at)) same counts
        of (inr apart) = inl (v, h, old_at v h apart at, same, counts)

    module _ (about : (p : Owner) → HasChangeOf plan due p → p ≡ o) where
      -- where changes of it are due, they are of others' operations
      touch_now : (p : Owner) (v : ℕ) (h : MachineFlight) → m.board.flights v ≡ Some h → HasChangeOf plan (m.due v) p → (later.board.flights v ≡ Some h) × HasChangeOf plan (later.due v) p
      touch_now p v h at t = of (nat_split v w)
        where
          of : IsSplit v w → (later.board.flights v ≡ Some h) × HasChangeOf plan (later.due v) p
          of (inl e) = absurd (none_due p (subst (λ z. HasChangeOf plan (m.due z) p) e t))
          of (inr apart) = (old_at v h apart at, subst (λ d. HasChangeOf plan d p) (sym (due_old v apart)) t)

      untouched_now : (p : Owner) → (HasChangeOf plan due p → ⊥) → ((v : ℕ) (h : MachineFlight) → m.board.flights v ≡ Some h → HasChangeOf plan (m.due v) p → ⊥) → (v : ℕ) (h : MachineFlight) → later.board.flights v ≡ Some h → HasChangeOf plan (later.due v) p → ⊥
      untouched_now p mine was v h at t = of (by v h at)
        where
          of : IsPut w v (Some g) m.board.flights (Some h) → ⊥
          of (New e one) = mine (subst (λ d. HasChangeOf plan d p) (ap later.due e ∙ due_new) t)
          of (Old apart there) = was v h there (subst (λ d. HasChangeOf plan d p) (due_old v apart) t)

      pub shared_stands : (p : Owner) (st : NameState) → (HasChangeOf plan due p → ⊥) → (st ≡ state.Live → (k : Key) × IsUser plan later.board k p) → SharedStands plan m p st → SharedStands plan later p st
      shared_stands p state.Absent mine user (none, untouched) = (λ k h. none k (user_was k p h).0, untouched_now p mine untouched)
      shared_stands p (state.Building v) mine user (h, at, t, other) = let x = touch_now p v h at t in (h, x.0, x.1, other)
      shared_stands p state.Live mine user (_, untouched) = (user refl, untouched_now p mine untouched)
      shared_stands p (state.Retiring v) mine user (h, at, t, r) = let x = touch_now p v h at t in (h, x.0, x.1, r)

      -- a user of what stands live
      live_user : (p : Owner) (st : NameState) → SharedStands plan m p st → st ≡ state.Live → (k : Key) × IsUser plan m.board k p
      live_user p state.Absent s e = absurd cc
      live_user p (state.Building v) s e = absurd cc
      live_user p state.Live s e = s.0
      live_user p (state.Retiring v) s e = absurd cc

      pub other_known : (p : Owner) (x : Option Registered) → (o ≡ p → ⊥) → IsKnownShared plan m p x → IsKnownShared plan later p x
      other_known p x apart known = record {
        stands = shared_stands p (state_in x) (λ t. apart (sym (about p t))) (λ e. let u = live_user p (state_in x) known.stands e in (u.0, user_now u.0 p (λ _ same. apart (sym same)) u.1)) known.stands;
        users = λ q. (λ h. user_now q p (λ _ same. apart (sym same)) ((known.users q).0 h), λ h. (known.users q).1 (user_was q p h).0);
        pins = known.pins;
        rising = known.rising;
      }
